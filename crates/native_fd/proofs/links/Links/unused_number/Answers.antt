use Rattle.std.proofs.Common.{ℕ, Option, Some, None, ap, subst, ◌∙◌, refl}
use Rattle.std.specs.Option.{IsSome, MatchOption}
use Rattle.std.proofs.lemmas.Option.{MatchOption-at_some}
use Rattle.kernel_model.specs.Table.{slot}
use Rattle.native_fd.specs.inside.Links.{IsUnused}
use Rattle.native_fd.proofs.LinkLemmas.{some-number, unused}
use Rattle.native_fd.proofs.links.Links.unused_number.Goals as goal

some_of : (P : Type 0) (Q : ℕ → Type 0) (r : Option ℕ) → MatchOption r P Q → (P → ⊥) → IsSome r
some_of P Q None is never = absurd (never is)
some_of P Q (Some n) is never = refl

pub unwrap-requires : goal.unwrap-requires
unwrap-requires c =
    let free = ap (λ l. slot l c.requires.0) c.self.view_is ∙ c.requires.2 in
    some_of _ _ c.least_free.result c.least_free.ensures.least
    (some-number c.self.inside.fds.items c.self.inside.counts.items c.self.inside.fds_taken c.self.inside.numbers_taken c.self.invariant c.requires.0 c.requires.1 free c.least_free.ensures.whole)

pub returns-clause-unused : goal.returns-clause-unused
returns-clause-unused c = λ fd within is_free.
    let free = ap (λ l. slot l fd) c.self.view_is ∙ is_free in
    let least = MatchOption-at_some _ _ c.unwrap.result c.unwrap.ensures c.least_free.ensures.least in
    subst (λ l. IsUnused l c.unwrap.result) c.self.view_is
    (unused c.self.inside.fds.items c.self.inside.counts.items c.self.inside.fds_taken c.self.inside.numbers_taken c.self.invariant fd c.unwrap.result within free least)

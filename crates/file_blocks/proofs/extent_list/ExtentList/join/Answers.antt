use Rattle.std.proofs.Common.{◌≡◌, ◌++◌, ◌∷◌, ap, sym, ◌∙◌, subst, refl, Option, ℕ, List, nat_cmp}
use Rattle.std.specs.Option.{option_copied_mut, IsSome}
use Rattle.std.specs.Result.{OnOk}
use Rattle.std.specs.FinMap.{get, insert, from_entries}
use Rattle.file_blocks.specs.declared.extent_list.ExtentList.TheInside.{Inside}
use Rattle.file_blocks.specs.inside.Extents.{blocks_or_none, blocks_from}
use Rattle.paged_bytes.proofs.Entries.{lookup-get, put-insert}
use Rattle.file_blocks.proofs.ExtentLaws.{some_not_none}
use Rattle.file_blocks.proofs.ExtentChanges.{insert-same}
use Rattle.file_blocks.proofs.Growing.{on_err}
use Rattle.file_blocks.proofs.extent_list.ExtentList.join.Goals as goal
use Rattle.file_blocks.proofs.extent_list.ExtentList.join.Goals.{in-Some+in_ok-join-in-Some, in-None}

pub returns-in_err-join-in-Some-clause-err : goal.returns-in_err-join-in-Some-clause-err
returns-in_err-join-in-Some-clause-err c =
    let start = ap (λ m. get m c.args.first) (sym c.self.view_is) ∙ sym (lookup-get _ _) ∙ sym c.get_mut.ensures.value in
    let found = start ∙ ap option_copied_mut c.in-Some.is in
    let there = subst IsSome (ap option_copied_mut (sym c.in-Some.is) ∙ c.get_mut.ensures.value) refl in
    on_err _
    (put-insert _ _ _ _ ((c.get_mut.follows.holds c.join.new.self).3 there).0
    ∙ ap (λ m. insert m c.args.first c.join.new.self) c.self.view_is
    ∙ ap (insert c.args.self.now c.args.first) c.in_err-join-in-Some.ensures.err
    ∙ insert-same c.args.self.now c.args.first _ found)

pub returns-clause-ok : goal.returns-clause-ok
returns-clause-ok c =
    let view = λ (s : Inside). from_entries {R = nat_cmp} s.extents.entries in
    let start = ap (λ m. get m c.args.first) (sym c.self.view_is) ∙ sym (lookup-get _ _) ∙ sym c.get_mut.ensures.value in
    let change = λ (o : Option (List (List ℕ))). insert c.args.self.now c.args.first (blocks_or_none o ++ c.args.block ∷ c.args.behind.now) in
    elim c.match-get_mut.branch [
      | in-Some+in_ok-join-in-Some w ↦
          let found = start ∙ ap option_copied_mut w.in-Some.is in
          let there = subst IsSome (ap option_copied_mut (sym w.in-Some.is) ∙ c.get_mut.ensures.value) refl in
          subst (λ r. OnOk r (view c.match-get_mut.self-inside ≡ change (get c.args.self.now c.args.first))) (sym w.result-is)
          (ap view w.self-inside-is
          ∙ put-insert _ _ _ _ ((c.get_mut.follows.holds w.join.new.self).3 there).0
          ∙ ap (λ m. insert m c.args.first w.join.new.self) c.self.view_is
          ∙ ap (insert c.args.self.now c.args.first) w.in_ok-join-in-Some.ensures.ok
          ∙ ap change (sym found))
      | in-None w ↦ absurd (some_not_none c.requires (start ∙ ap option_copied_mut w.in-None.is))
    ]

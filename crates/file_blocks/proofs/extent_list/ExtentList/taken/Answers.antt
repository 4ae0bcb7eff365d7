use Rattle.std.proofs.Common.{ap, sym, ◌∙◌, subst, refl, [], Option, ℕ, List, nat_cmp, BTreeMap}
use Rattle.std.specs.Option.{option_copied_mut, IsSome}
use Rattle.std.specs.FinMap.{get, insert, from_entries}
use Rattle.file_blocks.specs.declared.extent_list.ExtentList.TheInside.{Inside}
use Rattle.file_blocks.specs.inside.Extents.{blocks_or_none, replaced}
use Rattle.paged_bytes.proofs.Entries.{lookup-get, put-insert}
use Rattle.file_blocks.proofs.extent_list.ExtentList.taken.Goals as goal
use Rattle.file_blocks.proofs.extent_list.ExtentList.taken.Goals.{in-Some, in-None}

pub returns-clause-value : goal.returns-clause-value
returns-clause-value c =
    let start = ap (λ m. get m c.args.first) (sym c.self.view_is) ∙ sym (lookup-get _ _) ∙ sym c.get_mut.ensures.value in
    elim c.match-get_mut.branch [
      | in-Some w ↦ w.result-is ∙ w.replace.ensures.value ∙ ap blocks_or_none (sym (start ∙ ap option_copied_mut w.in-Some.is))
      | in-None w ↦ w.result-is ∙ w.new-in-None.ensures ∙ ap blocks_or_none (sym (start ∙ ap option_copied_mut w.in-None.is))
    ]

pub returns-clause-after : goal.returns-clause-after
returns-clause-after c =
    let view = λ (s : Inside). from_entries {R = nat_cmp} s.extents.entries in
    let start = ap (λ m. get m c.args.first) (sym c.self.view_is) ∙ sym (lookup-get _ _) ∙ sym c.get_mut.ensures.value in
    let change = λ (o : Option (List (List ℕ))). replaced c.args.self.now c.args.first o [] in
    elim c.match-get_mut.branch [
      | in-Some w ↦
          let found = start ∙ ap option_copied_mut w.in-Some.is in
          let there = subst IsSome (ap option_copied_mut (sym w.in-Some.is) ∙ c.get_mut.ensures.value) refl in
          ap view w.self-inside-is
          ∙ put-insert _ _ _ _ ((c.get_mut.follows.holds w.replace.new.dest).3 there).0
          ∙ ap (λ m. insert m c.args.first w.replace.new.dest) c.self.view_is
          ∙ ap (insert c.args.self.now c.args.first) (w.replace.ensures.after ∙ w.new.ensures)
          ∙ ap change (sym found)
      | in-None w ↦
          let missing = start ∙ ap option_copied_mut w.in-None.is in
          ap view w.self-inside-is
          ∙ ap (λ (m : BTreeMap ℕ (List (List ℕ))). from_entries {R = nat_cmp} m.entries) c.get_mut.follows.holds-at-none
          ∙ c.self.view_is
          ∙ ap change (sym missing)
    ]

use Rattle.std.proofs.Common.{ap, sym, ◌∙◌, subst, refl, Option, ℕ, List, nat_cmp, BTreeMap}
use Rattle.std.specs.Option.{option_copied_mut, IsSome}
use Rattle.std.specs.FinMap.{get, insert, from_entries}
use Rattle.file_blocks.specs.declared.extent_list.ExtentList.TheInside.{Inside}
use Rattle.file_blocks.specs.inside.Extents.{replaced}
use Rattle.paged_bytes.proofs.Entries.{lookup-get, put-insert}
use Rattle.file_blocks.proofs.extent_list.ExtentList.give_back.Goals as goal
use Rattle.file_blocks.proofs.extent_list.ExtentList.give_back.Goals.{in-Some, in_default}

pub returns : goal.returns
returns c =
    let view = λ (s : Inside). from_entries {R = nat_cmp} s.extents.entries in
    let start = ap (λ m. get m c.args.first) (sym c.self.view_is) ∙ sym (lookup-get _ _) ∙ sym c.get_mut.ensures.value in
    let change = λ (o : Option (List (List ℕ))). replaced c.args.self.now c.args.first o c.args.blocks in
    elim c.match-get_mut.branch [
      | in-Some w ↦
          let found = start ∙ ap option_copied_mut w.in-Some.is in
          let there = subst IsSome (ap option_copied_mut (sym w.in-Some.is) ∙ c.get_mut.ensures.value) refl in
          ap view w.self-inside-is
          ∙ put-insert _ _ _ _ ((c.get_mut.follows.holds c.args.blocks).3 there).0
          ∙ ap (λ m. insert m c.args.first c.args.blocks) c.self.view_is
          ∙ ap change (sym found)
      | in_default w ↦
          let missing = start ∙ ap option_copied_mut w.in_default.is in
          ap view w.self-inside-is
          ∙ ap (λ (m : BTreeMap ℕ (List (List ℕ))). from_entries {R = nat_cmp} m.entries) c.get_mut.follows.holds-at-none
          ∙ c.self.view_is
          ∙ ap change (sym missing)
    ]

use Rattle.std.proofs.Common.{ap, sym, ◌∙◌, subst, refl, Option, ℕ, List, nat_cmp}
use Rattle.std.specs.Option.{option_copied_mut, IsSome}
use Rattle.std.specs.FinMap.{get, insert, from_entries}
use Rattle.file_blocks.specs.declared.extent_list.ExtentList.TheInside.{Inside}
use Rattle.file_blocks.specs.inside.Extents.{blocks_or_none, with_piece_at}
use Rattle.paged_bytes.proofs.Entries.{lookup-get, put-insert}
use Rattle.file_blocks.proofs.ExtentLaws.{some_not_none}
use Rattle.file_blocks.proofs.extent_list.ExtentList.write_at.Goals as goal
use Rattle.file_blocks.proofs.extent_list.ExtentList.write_at.Goals.{in-Some, in_default}

pub returns : goal.returns
returns c =
    let view = λ (s : Inside). from_entries {R = nat_cmp} s.extents.entries in
    let start = ap (λ m. get m c.args.spot.first) (sym c.self.view_is) ∙ sym (lookup-get _ _) ∙ sym c.get_mut.ensures.value in
    let change = λ (o : Option (List (List ℕ))). insert c.args.self.now c.args.spot.first (with_piece_at (blocks_or_none o) c.args.spot.number c.args.place c.args.bytes.now) in
    elim c.match-get_mut.branch [
      | in-Some w ↦
          let found = start ∙ ap option_copied_mut w.in-Some.is in
          let there = subst IsSome (ap option_copied_mut (sym w.in-Some.is) ∙ c.get_mut.ensures.value) refl in
          ap view w.self-inside-is
          ∙ put-insert _ _ _ _ ((c.get_mut.follows.holds w.write.new.self).3 there).0
          ∙ ap (λ m. insert m c.args.spot.first w.write.new.self) c.self.view_is
          ∙ ap (insert c.args.self.now c.args.spot.first) w.write.ensures
          ∙ ap change (sym found)
      | in_default w ↦ absurd (some_not_none c.requires.there (start ∙ ap option_copied_mut w.in_default.is))
    ]

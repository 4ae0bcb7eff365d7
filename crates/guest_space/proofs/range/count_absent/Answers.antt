use Rattle.std.proofs.Common.{◌≡◌, ◌+◌, true, false, ap, sym, ◌∙◌, arith, cond, is_some}
use Rattle.std.specs.FinMap.{get}
use Rattle.guest_space.specs.Mapping.{absent_count}
use Rattle.guest_space.proofs.MappingLemmas.{absent_count-none, absent_count-more}
use Rattle.guest_space.proofs.range.count_absent.Goals as goal
use Rattle.guest_space.proofs.range.count_absent.Goals.{then-not-is_mapped, else-not-is_mapped}

pub loop-done-init : goal.loop-done-init
loop-done-init c = record { counted = sym (absent_count-none _ _); bound = omega arith }

pub loop-done-preserved : goal.loop-done-preserved
loop-done-preserved c =
    let before = absent_count c.args.pages.now c.args.first c.loop-done.done in
    let more = absent_count-more c.args.pages.now c.args.first c.loop-done.done in
    elim c.if-not-is_mapped.branch [
      | then-not-is_mapped w ↦
          let missing : is_some (get c.args.pages.now (c.args.first + c.loop-done.done)) ≡ false = cc in
          let counted = more ∙ ap (λ b. before + cond b 0 1) missing in
          record { counted = omega (arith, counted); bound = omega arith }
      | else-not-is_mapped w ↦
          let found : is_some (get c.args.pages.now (c.args.first + c.loop-done.done)) ≡ true = cc in
          let counted = more ∙ ap (λ b. before + cond b 0 1) found in
          record { counted = omega (arith, counted); bound = omega arith }
    ]

use Rattle.std.specs.Prelude.{All}
use Rattle.std.proofs.Common.{take}
use Rattle.journal.specs.Form.{IsEffect}
use Rattle.o32_runner.proofs.forms.are_effects.Given as goal

-- those before are
abbrev pub invariant-loop-effect : goal.invariant-loop-effect
invariant-loop-effect l = All IsEffect (take l.effect-index l.effects)

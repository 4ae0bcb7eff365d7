-- What a call is made with leads where it led. (The form is this project's own.)
use Rattle.std.specs.Prelude.{◌≡◌}
use Rattle.bridge_log.specs.declared.below.Below.{Below}

-- each of the three is the one that it was, whatever it holds
pub record LeadsOn (old new : Below) : Type 0 where
  pub kernel : new.kernel.ghost_name ≡ old.kernel.ghost_name
  pub memory : new.memory.ghost_name ≡ old.memory.ghost_name
  pub log : new.log.ghost_name ≡ old.log.ghost_name

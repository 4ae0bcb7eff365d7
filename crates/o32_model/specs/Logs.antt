-- What is kept of calls, where it was asked for. (The log and the journal are this project's own.)
use Rattle.std.specs.Prelude.{List, ◌++◌, Option, option_map}
use Rattle.kernel_core.specs.declared.log_entry.LogEntry.{LogEntry}
use Rattle.kernel_core.specs.declared.record.Effect.{Effect}

-- What the native kernel was asked and told, and what calls did to pages and outputs, each in order; none where it is not kept
pub record Kept : Type 0 where
  pub native : Option (List LogEntry)
  pub effects : Option (List Effect)

-- what is kept, and more; where nothing is kept, nothing is kept then either
abbrev pub with_more : {A : Type 0} → Option (List A) → List A → Option (List A)
with_more kept more = option_map (λ list. list ++ more) kept

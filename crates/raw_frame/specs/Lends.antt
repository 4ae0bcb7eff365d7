-- What a frame ends as, once a `&mut` to its block's value has ended. (This project's own.)
use Rattle.std.specs.Prelude.{Some}
use Rattle.std.specs.Borrow.{Fml, RattleType, MutBor, Lends}
use Rattle.raw_frame.specs.declared.frame.Frame.{Frame}
use Rattle.raw_frame.specs.contracts.frame.Frame.{the_row}

-- the same frame with the value in its block
abbrev pub with_value : {X : Type 0} → Frame X → X → Frame X
with_value frame value = record frame { value = Some value }

-- the frame ends with the last value that was written through the loan
abbrev pub lends_value : (R : RattleType) → MutBor (Frame R.Denot) → MutBor R.Denot → Fml
lends_value R frame loan = Lends (the_row R) R frame loan (with_value frame.now)

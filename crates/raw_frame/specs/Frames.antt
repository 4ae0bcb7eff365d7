-- What a frame owns and lends: a block with its value, or nothing at the null pointer. (This project's own.)
use Rattle.std.specs.Prelude.{Option, Some, None}
use mir.Syntax.{Ty}
use base.Fml.{Fml, Lft, ftrue, fsep, fex, feq}
use denote.RattleType.{RattleType}
use denote.RawPtr.{Ptr, null_ptr, Testable}
use denote.Sharing.{said, beside}
use denote.Struct.Lending.{lent_at}
use Rattle.std.specs.Box.Ownership.{box_owns}

-- that the pointer may be compared with null
abbrev pub testable : Ptr → Fml
testable p = fex (Testable p) (λ _. ftrue)

-- a frame at p owns a block with the value, and the right to free it; one with no value is null
abbrev pub frame_owns : (Ty → Ptr → Fml) → (R : RattleType) → Ptr → Option R.Denot → Fml
frame_owns holds R p None = feq Ptr p null_ptr
frame_owns holds R p (Some x) = fsep (testable p) (box_owns holds R p x)

-- a `&` to a frame reaches the block's value, or knows that there is none
abbrev pub frame_lent : (R : RattleType) → Ptr → Option R.Denot → Lft → Fml
frame_lent R p None = said (feq Ptr p null_ptr)
frame_lent R p (Some x) = beside (said (testable p)) (lent_at R p x)

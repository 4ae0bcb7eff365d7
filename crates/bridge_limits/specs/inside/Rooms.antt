-- What host memory has of a mask. (The form is this project's own.)
use Rattle.std.specs.Prelude.{ℕ, List, []}
use Rattle.native_calls.specs.SignalBytes.{set_bytes}
use Rattle.bridge_limits.specs.declared.masks.OwnMask.{OwnMask}
use Rattle.bridge_limits.specs.declared.masks.OwnMask.TheVariants as masks

-- one that can't be loaded has no byte
abbrev pub mask_room : OwnMask → List ℕ
mask_room masks.None = []
mask_room masks.Unreadable = []
mask_room (masks.Set set) = set_bytes set

-- The bytes of a page that may have no frame.
use Rattle.std.specs.Prelude.{ℕ, List, Option, Some, None}
use Rattle.raw_pages.specs.Pages.{zero_bytes}

-- the bytes of the frame, and zeros where there is none
abbrev pub frame_bytes : Option (List ℕ) → List ℕ
frame_bytes None = zero_bytes
frame_bytes (Some bytes) = bytes

-- An o32 call that is one native call which gives a structure: it goes to host memory, and from there to the program's memory, with its
-- bytes in the order of an o32 program. (The form is this project's own.)
use Rattle.std.specs.Prelude.{◌≡◌, ℕ, pos, negsuc, List, [], ◌∷◌, map, slice_index, Option, Some, None}
use Rattle.kernel_core.specs.declared.reply.Reply.{Reply}
use Rattle.kernel_core.specs.declared.reply.Reply.TheVariants as replies
use Rattle.kernel_model.specs.Pipes.{nothing}
use Rattle.native_calls.specs.Step.{NativeStep}
use Rattle.o32_model.specs.GuestBytes.{with_stored}
use Rattle.o32_model.specs.Step.{Guest, O32Step}
use Rattle.bridge_log.specs.Outcomes.{outcome_of}
use Rattle.bridge_io.specs.declared.structures.Structure.{Structure}
use Rattle.bridge_io.specs.declared.structures.Structure.TheVariants.{Pair, Int, Window, Settings}

-- how many bytes a structure has in host memory
abbrev pub size : Structure → ℕ
size Pair = 8
size Int = 4
size Window = 8
size Settings = 36

-- for each of its bytes in the program's memory the place in host memory, or none for a byte that is 0
abbrev pub places : Structure → List (Option ℕ)
places Pair = Some 3 ∷ Some 2 ∷ Some 1 ∷ Some 0 ∷ Some 7 ∷ Some 6 ∷ Some 5 ∷ Some 4 ∷ []
places Int = Some 3 ∷ Some 2 ∷ Some 1 ∷ Some 0 ∷ []
places Window = Some 1 ∷ Some 0 ∷ Some 3 ∷ Some 2 ∷ Some 5 ∷ Some 4 ∷ Some 7 ∷ Some 6 ∷ []
places Settings =
    Some 3 ∷ Some 2 ∷ Some 1 ∷ Some 0 ∷ Some 7 ∷ Some 6 ∷ Some 5 ∷ Some 4 ∷ Some 11 ∷ Some 10 ∷ Some 9 ∷ Some 8 ∷ Some 15 ∷ Some 14 ∷ Some 13
    ∷ Some 12 ∷ Some 16 ∷ Some 17 ∷ Some 18 ∷ Some 19 ∷ Some 20 ∷ Some 23 ∷ Some 22 ∷ Some 33 ∷ Some 24 ∷ Some 25 ∷ Some 26 ∷ Some 27 ∷ None
    ∷ Some 29 ∷ Some 30 ∷ Some 31 ∷ Some 32 ∷ Some 21 ∷ Some 28 ∷ None ∷ None ∷ None ∷ None ∷ None ∷ []

abbrev pub byte_from : List ℕ → Option ℕ → ℕ
byte_from memory None = 0
byte_from memory (Some place) = slice_index memory place

-- the structure's bytes that go to the program's memory after a reply, which are none after an error
abbrev pub bytes_told : Structure → List ℕ → Reply → List ℕ
bytes_told structure memory (replies.Done (pos number)) = map (byte_from memory) (places structure)
bytes_told structure memory (replies.Done (negsuc number)) = []
bytes_told structure memory (replies.Sleep wake) = []

-- Both calls come to the same.
pub record Stores (guest : Guest) (address : ℕ) (structure : Structure) (native : NativeStep) (step : O32Step) : Type 0 where
  pub kernel : step.kernel ≡ native.kernel
  pub left : step.left ≡ native.left
  pub native_sends : native.sent ≡ nothing
  pub sends : step.sent ≡ nothing
  pub stored : step.memory ≡ with_stored guest.memory address (bytes_told structure native.memory native.reply)
  pub set : step.processor ≡ guest.processor
  pub came : step.outcome ≡ outcome_of guest.words native.reply

-- The text of a journal, version 1 of this project's own format. Numbers stand high byte first.
use Rattle.std.specs.Prelude.{ℕ, List, [], ◌∷◌, ◌++◌, length, codes, Option, Some, None}
use Rattle.std.specs.List.{flat_map}
use Rattle.byteorder.specs.Endian.{big_bytes}
use Rattle.kernel_core.specs.declared.record.Record.{Record}
use Rattle.kernel_core.specs.declared.record.Effect.{Effect}
use Rattle.kernel_core.specs.declared.record.Effect.TheVariants.{Register, Write, Map, Unmap, Protect, Output}
use Rattle.kernel_core.specs.declared.finish.Finish.{Finish}
use Rattle.kernel_core.specs.declared.finish.Finish.TheVariants.{Exited, Killed, Budget, Blocked}

-- what a journal keeps: the bytes of the arguments and of the environment's texts, the random bytes, the records
pub record Kept : Type 0 where
  pub args : List (List ℕ)
  pub env : List (List ℕ)
  pub random : List ℕ
  pub records : List Record

-- the first eight bytes: the format's name with its version, and a newline
abbrev pub magic : List ℕ
magic = codes "O32JRN1\n"

-- bytes with their length before them: length (4), bytes
abbrev pub counted : List ℕ → List ℕ
counted bytes = big_bytes 4 (length bytes) ++ bytes

-- the front: the first bytes, count of arguments (4), count of the environment's texts (4), the arguments, the environment's
-- texts, sixteen random bytes
unfoldable pub head_text : List (List ℕ) → List (List ℕ) → List ℕ → List ℕ
head_text args env random =
    magic ++ (big_bytes 4 (length args) ++ (big_bytes 4 (length env) ++ (flat_map counted args ++ (flat_map counted env ++ random))))

-- a register: 1, r (1), value (4); a write: 2, address (4), bytes; pages of zeros: 3, first (4), count (4), protection (1);
-- pages that go: 4, first (4), count (4); a protection: 5, first (4), count (4), protection (1); an output: 6, stream (1), bytes
abbrev pub effect_text : Effect → List ℕ
effect_text (Register r value) = 1 ∷ big_bytes 1 r ++ big_bytes 4 value
effect_text (Write address bytes) = 2 ∷ big_bytes 4 address ++ counted bytes
effect_text (Map first count prot) = 3 ∷ big_bytes 4 first ++ (big_bytes 4 count ++ big_bytes 1 prot)
effect_text (Unmap first count) = 4 ∷ big_bytes 4 first ++ big_bytes 4 count
effect_text (Protect first count prot) = 5 ∷ big_bytes 4 first ++ (big_bytes 4 count ++ big_bytes 1 prot)
effect_text (Output stream bytes) = 6 ∷ big_bytes 1 stream ++ counted bytes

-- how the run is over (1): 1 exited, 2 killed, 3 budget, 4 blocked; and a value (1): the status, the signal, 0
abbrev pub finish_text : Finish → List ℕ
finish_text (Exited status) = 1 ∷ big_bytes 1 status
finish_text (Killed signal) = 2 ∷ big_bytes 1 signal
finish_text Budget = 3 ∷ 0 ∷ []
finish_text Blocked = 4 ∷ 0 ∷ []

-- six words (4 each), count of effects (4), effects; or how the run is over
abbrev pub body_text : Option Finish → List ℕ → List Effect → List ℕ
body_text (Some finish) words effects = finish_text finish
body_text None words effects = flat_map (big_bytes 4) words ++ (big_bytes 4 (length effects) ++ flat_map effect_text effects)

-- a record: turn (8), kind (1), and what its kind has
unfoldable pub record_text : Record → List ℕ
record_text entry = big_bytes 8 entry.turn ++ (big_bytes 1 entry.kind ++ body_text entry.finish entry.words entry.effects)

unfoldable pub text_of : Kept → List ℕ
text_of j = head_text j.args j.env j.random ++ flat_map record_text j.records

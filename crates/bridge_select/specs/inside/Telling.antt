-- What host memory shows when a native call has ended, and what a program is told of it. (The forms are this project's own.)
use Rattle.std.specs.Prelude.{◌≡◌, ◌≢◌, ℕ, ◌*◌, ◌^◌, ◌<◌, List, ◌++◌, drop, Option, Some, Ok}
use Rattle.byteorder.specs.Endian.{little_number}
use Rattle.bridge_limits.specs.Limits.{ShowsLeft}
use Rattle.guest_space.specs.Memory.{Memory}
use Rattle.host_mem.specs.Memory.{bytes_at}
use Rattle.kernel_core.specs.declared.reply.Reply.TheVariants as replies
use Rattle.kernel_model.specs.Came.{Came, Done, Refused, Waits, Did}
use Rattle.kernel_model.specs.Clock.{left_of_wait}
use Rattle.kernel_model.specs.Readiness.{Sets, masked_wait, select, set_count}
use Rattle.kernel_model.specs.State.{Kernel}
use Rattle.native_calls.specs.Step as native
use Rattle.o32_model.specs.Results.{Piece, all_fit, piece_unless_null, value_if, with_pieces}
use Rattle.o32_model.specs.Selecting.{Asked, sets_at, sets_pieces, word_count, word_of}
use Rattle.o32_model.specs.Step.{memory_after, outcome_of}
use Rattle.o32_model.specs.declared.call_words.CallWords.{CallWords}
use Rattle.o32_model.specs.declared.outcome.Outcome.{Outcome}
use Rattle.bridge_select.specs.declared.rooms.Places.{Places}
use Rattle.bridge_select.specs.declared.telling.Answer.{Answer}
use Rattle.bridge_select.specs.declared.telling.FdSets.{FdSets}
use Rattle.bridge_select.specs.inside.FdSets.{words_bytes}
use Rattle.bridge_select.specs.inside.Requests.{Requested}

-- the pieces as which sets are stored
abbrev pub pieces_of : Asked → FdSets → List Piece
pieces_of asked sets =
    let words = word_count asked.count in
    piece_unless_null asked.read (words_bytes words sets.read) ++ piece_unless_null asked.write (words_bytes words sets.write)
    ++ piece_unless_null asked.except (words_bytes words sets.except)

-- What host memory shows

-- the words of a set, unless the program asks for none
abbrev pub ShowsSet : ℕ → ℕ → ℕ → List ℕ → List ℕ → Type 0
ShowsSet address place words fds memory =
    address ≢ 0 → (bytes : List ℕ) × ((bytes_at memory place 128 ≡ Some bytes)
    × ((k : ℕ) → k < words → little_number 4 (drop (4 * k) bytes) ≡ word_of fds k))

pub record ShowsSets (asked : Asked) (places : Places) (sets : Sets) (memory : List ℕ) : Type 0 where
  pub read : ShowsSet asked.read places.read (word_count asked.count) sets.read memory
  pub write : ShowsSet asked.write places.write (word_count asked.count) sets.write memory
  pub except : ShowsSet asked.except places.except (word_count asked.count) sets.except memory

-- what the call came to, which is no wait
abbrev pub Shows : Asked → Places → Came Sets → List ℕ → Type 0
Shows asked places (Done sets) memory = ShowsSets asked places sets memory
Shows asked places (Refused error) memory = Unit
Shows asked places (Waits wake) memory = ⊥

abbrev pub IsCounted : Came Sets → Type 0
IsCounted (Done sets) = set_count sets < 2 ^ 32
IsCounted (Refused error) = Unit
IsCounted (Waits wake) = Unit

-- the reply, the sets and the time that is left
pub record Tells (asked : Asked) (left : Option ℕ) (came : Came Sets) (answer : Answer) (memory : List ℕ) : Type 0 where
  pub reply : answer.reply ≡ native.reply_to (λ sets. native.value (set_count sets)) came
  pub counted : IsCounted came
  pub shows : Shows asked answer.places came memory
  pub remaining : ShowsLeft memory answer.places.time left

-- What a native call comes to

abbrev pub IsAnswer : Asked → Option ℕ → Came Sets → Answer → List ℕ → Type 0
IsAnswer asked left (Done sets) answer memory = Tells asked left (Done sets) answer memory
IsAnswer asked left (Refused error) answer memory = Tells asked left (Refused error) answer memory
IsAnswer asked left (Waits wake) answer memory = (answer.reply ≡ replies.Sleep wake) × (wake.done ≡ 0)

-- what the kernel's row does of what is asked for
abbrev pub selecting : Kernel → Memory → Requested → Did Kernel Sets
selecting kernel program requested =
    select kernel (masked_wait (Ok requested.wait) requested.own.size requested.own.mask) requested.asked.count
    (sets_at program requested.asked)

pub record Answered (kernel : Kernel) (program : Memory) (requested : Requested) (answer : Answer) (memory : List ℕ) : Type 0 where
  pub stays : (selecting kernel program requested).state ≡ kernel
  pub is : IsAnswer requested.asked (left_of_wait kernel kernel.clock requested.wait) (selecting kernel program requested).came answer memory

-- What the program is told

abbrev pub told_outcome : Memory → Asked → CallWords → Came Sets → Outcome
told_outcome memory asked words came =
    outcome_of (λ sets. value_if (all_fit memory (sets_pieces asked sets)) (set_count sets)) words came

abbrev pub told_memory : Memory → Asked → Came Sets → Memory
told_memory memory asked came = memory_after (λ sets. with_pieces memory (sets_pieces asked sets)) memory came

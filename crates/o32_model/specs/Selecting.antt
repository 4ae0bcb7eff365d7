-- Which of three sets of descriptors are ready: select(2), pselect(2).
use Rattle.std.specs.Prelude.{ℕ, zero, suc, ◌+◌, ◌-◌, ◌*◌, ◌/◌, ◌%◌, ◌^◌, ◌==◌, ℤ, Bool, true, List, [], ◌∷◌, ◌++◌, drop, sum_by, Option, Some, None, Ok, Err, if◌then◌else◌}
use Rattle.guest_space.specs.Memory.{Memory}
use Rattle.kernel_core.specs.Bits.{has}
use Rattle.kernel_core.specs.declared.error.Errno.TheVariants.{EFAULT}
use Rattle.kernel_model.specs.Came.{Given, refused}
use Rattle.kernel_model.specs.Clock.{length_of, checked_or_none}
use Rattle.kernel_model.specs.Readiness.{Sets, counted_fds, masked_wait, select, select_length, set_count}
use Rattle.kernel_model.specs.SignalSets.{SignalSet}
use Rattle.kernel_model.specs.State.{Kernel}
use Rattle.layouts.specs.Number.{unsigned, bytes_of}
use Rattle.o32_calls.specs.Numbers.{select_number}
use Rattle.o32_calls.specs.declared.times.SelectCall.TheVariants.{Newselect, Pselect6}
use Rattle.o32_model.specs.GuestBytes.{structure, read_as, unless_null}
use Rattle.o32_model.specs.Masks.{set_at, with_own_mask}
use Rattle.o32_model.specs.Results.{Piece, piece_unless_null, stores_pieces}
use Rattle.o32_model.specs.Step.{Guest, O32Step, O32Row, gives}
use Rattle.o32_model.specs.TimeLeft.{with_time_left}
use Rattle.o32_model.specs.Times.{spec_at, spec_bytes, val_at, val_bytes}
use Rattle.o32_model.specs.Words.{argument, signed_argument, stack_word}

-- Sets (fd_set of select(2)): descriptor f is bit f mod 32 of word f / 32, and a set has as many words as the count needs.

abbrev pub word_bits : ℕ
word_bits = 32

abbrev pub word_count : ℤ → ℕ
word_count count = (counted_fds count + (word_bits - 1)) / word_bits

abbrev pub holds_fd : List ℕ → ℕ → Bool
holds_fd bytes fd = has (unsigned true 4 (drop (4 * (fd / word_bits)) bytes)) (2 ^ (fd % word_bits))

-- the descriptors below one that a set holds, rising
unfoldable pub fds_below : List ℕ → ℕ → List ℕ
fds_below bytes zero = []
fds_below bytes (suc fd) = fds_below bytes fd ++ (if holds_fd bytes fd then fd ∷ [] else [])

abbrev pub fds_in : ℕ → List ℕ → List ℕ
fds_in words bytes = fds_below bytes (word_bits * words)

-- a word with the bits of the descriptors that it has a place for
abbrev pub word_of : List ℕ → ℕ → ℕ
word_of fds word = sum_by (λ fd. if fd / word_bits == word then 2 ^ (fd % word_bits) else 0) fds

-- the bytes of so many words
unfoldable pub fds_bytes : List ℕ → ℕ → List ℕ
fds_bytes fds zero = []
fds_bytes fds (suc word) = fds_bytes fds word ++ bytes_of true 4 (word_of fds word)

-- What is asked

-- the number of descriptors, and where the three sets stand
pub record Asked : Type 0 where
  pub count : ℤ
  pub read : ℕ
  pub write : ℕ
  pub except : ℕ

-- a set whose pointer is null holds nothing
abbrev pub fds_at : Memory → ℕ → ℕ → Given (List ℕ)
fds_at memory words address = if address == 0 then Ok [] else read_as (fds_in words) (structure memory address (4 * words))

abbrev pub if_all : Given (List ℕ) → Given (List ℕ) → Given (List ℕ) → Given Sets
if_all (Err error) write except = Err error
if_all (Ok read) (Err error) except = Err error
if_all (Ok read) (Ok write) (Err error) = Err error
if_all (Ok read) (Ok write) (Ok except) = Ok (record { read = read; write = write; except = except })

abbrev pub sets_at : Memory → Asked → Given Sets
sets_at memory asked =
    let words = word_count asked.count in
    if_all (fds_at memory words asked.read) (fds_at memory words asked.write) (fds_at memory words asked.except)

-- The sets are stored in the order read, write, exceptions.
abbrev pub sets_pieces : Asked → Sets → List Piece
sets_pieces asked sets =
    let words = word_count asked.count in
    piece_unless_null asked.read (fds_bytes sets.read words) ++ piece_unless_null asked.write (fds_bytes sets.write words)
    ++ piece_unless_null asked.except (fds_bytes sets.except words)

-- The calls

-- The result is the number of bits that are set. `wait` is how long the call may wait, or what is wrong with the time or the mask.
abbrev pub selected : Kernel → Guest → Asked → Given (Option ℕ) → List ℕ → O32Step
selected kernel guest asked wait left =
    stores_pieces (sets_pieces asked) set_count guest (select kernel wait asked.count (sets_at guest.memory asked)) left

-- select(2), with microseconds
abbrev pub newselected : Kernel → Guest → Asked → ℕ → Given (Option ℕ) → List ℕ → O32Step
newselected kernel guest asked time length left =
    with_time_left (record { address = time; bytes = val_bytes }) kernel guest.memory length (selected kernel guest asked length left)

-- the time's address is on the stack, and where it can't be read, that is EFAULT before all else (own)
unfoldable pub newselect_row : Kernel → Guest → Asked → Option ℕ → List ℕ → O32Step
newselect_row kernel guest asked None left = gives guest (refused kernel EFAULT) left
newselect_row kernel guest asked (Some time) left =
    newselected kernel guest asked time (checked_or_none select_length (unless_null time (val_at guest.memory time))) left

-- pselect(2), with nanoseconds and a mask. The mask's address and its size stand in a pair of words, and there is no mask where the pair's
-- pointer or the mask's is null.

pub record OwnMask : Type 0 where
  pub mask : Option (Given SignalSet)
  pub size : ℕ

abbrev pub no_mask : OwnMask
no_mask = record { mask = None; size = 0 }

abbrev pub mask_of : Memory → List ℕ → OwnMask
mask_of memory bytes =
    let address = unsigned true 4 bytes in
    record { mask = unless_null address (set_at memory address); size = unsigned true 4 (drop 4 bytes) }

abbrev pub mask_pair_size : ℕ
mask_pair_size = 8

abbrev pub mask_at : Memory → ℕ → Given OwnMask
mask_at memory pair = if pair == 0 then Ok no_mask else read_as (mask_of memory) (structure memory pair mask_pair_size)

abbrev pub pselected : Kernel → Guest → Asked → ℕ → Given (Option ℕ) → OwnMask → List ℕ → O32Step
pselected kernel guest asked time length own left =
    with_time_left (record { address = time; bytes = spec_bytes }) kernel guest.memory length
    (with_own_mask kernel own.mask (selected kernel guest asked (masked_wait length own.size own.mask) left))

-- the pair is read before the time
abbrev pub with_pair : Kernel → Guest → Asked → ℕ → Given OwnMask → List ℕ → O32Step
with_pair kernel guest asked time (Err error) left = gives guest (refused kernel error) left
with_pair kernel guest asked time (Ok own) left =
    pselected kernel guest asked time (checked_or_none length_of (unless_null time (spec_at guest.memory time))) own left

-- the time's address and the pair's are on the stack, and where one of them can't be read, that is EFAULT before all else (own)
unfoldable pub pselect6_row : Kernel → Guest → Asked → Option ℕ → Option ℕ → List ℕ → O32Step
pselect6_row kernel guest asked None pair left = gives guest (refused kernel EFAULT) left
pselect6_row kernel guest asked (Some time) None left = gives guest (refused kernel EFAULT) left
pselect6_row kernel guest asked (Some time) (Some pair) left = with_pair kernel guest asked time (mask_at guest.memory pair) left

-- The numbers (Linux arch/mips/include/uapi/asm/unistd.h, the o32 table)

abbrev pub asked : Guest → Asked
asked guest = record {
  count = signed_argument guest.words 0;
  read = argument guest.words 1;
  write = argument guest.words 2;
  except = argument guest.words 3;
}

abbrev pub select_calls : List O32Row
select_calls =
    record { number = select_number Newselect; step = λ kernel guest. newselect_row kernel guest (asked guest) (stack_word guest.words 0) }
    ∷ record { number = select_number Pselect6; step = λ kernel guest. pselect6_row kernel guest (asked guest) (stack_word guest.words 0) (stack_word guest.words 1) }
    ∷ []

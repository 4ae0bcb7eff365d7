-- Sets of descriptors, as words and as the lists that the definitions speak of.
use Rattle.std.proofs.Common.{◌≡◌, ℕ, suc, ◌+◌, ◌-◌, ◌*◌, ◌/◌, ◌%◌, ◌^◌, ◌<◌, ◌≤◌, Bool, true, false, ◌&&◌, List, [], ◌∷◌, length, drop, get_or, replicate, refl, sym, ap, ◌∙◌, arith}
use Rattle.std.specs.Prelude.{◌==◌, ◌||◌, Option, Some, None, Ok, Err, filter, is_none, nat_lt, if◌then◌else◌}
use Rattle.std.specs.Int.{bit_at}
use Rattle.std.proofs.lemmas.Bool.{lt-ltb}
use Rattle.std.proofs.lemmas.List.{get_or-replicate}
use Rattle.std.proofs.lemmas.Nat.Bits.{bit_at-zero}
use Rattle.host_mem.specs.Memory.{bytes_at}
use Rattle.kernel_core.specs.Bits.{one_if}
use Rattle.kernel_core.specs.declared.error.Errno.TheVariants.{EFAULT}
use Rattle.kernel_model.specs.Descriptions.{opened}
use Rattle.kernel_model.specs.Pipes.{pipe_at}
use Rattle.kernel_model.specs.Readiness.{counted_sets, first_fds, names_closed, object_ready, read_end_ready, ready, ready_of, write_end_ready}
use Rattle.kernel_model.specs.State.{Files, Pipe}
use Rattle.kernel_model.specs.declared.descriptor.Description.{Description}
use Rattle.kernel_model.specs.declared.descriptor.Object.{Object}
use Rattle.kernel_model.specs.declared.descriptor.Object.TheVariants as objects
use Rattle.layouts.specs.Number.{bytes_of, unsigned}
use Rattle.layouts.specs.Termios.{count_up}
use Rattle.native_calls.specs.HostBytes.{given, read_as, structure}
use Rattle.native_calls.specs.Polls.{fds_at, fds_bytes, fds_in, has_fd, is_among, set_words}
use Rattle.native_polls.specs.inside.FdSets.{AreWhere, Holds, fds_from, fds_of, has_bit, is_ready_for, is_told, ready_fds, sets_of, words_bytes}
use Rattle.native_polls.specs.declared.fd_sets.FdSets.{FdSets}
use Rattle.native_polls.specs.declared.fd_sets.Side.{Side}
use Rattle.signal_sets.specs.NativeSets.{bits_where}
use Rattle.native_polls.proofs.Lists.{among, below_all, bit_where, filter_none, filter_same, filter_twice, flat_same, where_next, where_none, where_same}

-- Words that have the bits by a test

module _ (test : ℕ → Bool) (count : ℕ) (words : List ℕ) (enough : count ≤ 1024) (long : length words ≡ 16) (are : AreWhere test (set_words count) words) where
  has_where : (fd : ℕ) → fd < count → has_bit words fd ≡ test fd
  has_where fd below =
      let at : 64 * (fd / 64) + fd % 64 ≡ fd = omega arith in
      ap (λ (w : ℕ). bit_at w (fd % 64) == 1) (are (fd / 64) (omega arith))
      ∙ bit_where test (64 * (fd / 64)) 64 (fd % 64) (omega arith)
      ∙ ap test at

  bytes_where : (fds : List ℕ) → ((fd : ℕ) → is_among fds fd ≡ test fd) → words_bytes count words ≡ fds_bytes count fds
  bytes_where fds same =
      flat_same (bytes_of false 8) (λ k. bytes_of false 8 (bits_where (is_among fds) (64 * k) 64)) words 0 (set_words count) (omega (arith, long))
      (λ k low below. ap (λ (w : ℕ). bytes_of false 8 w) (are k (omega arith) ∙ where_same test (is_among fds) (64 * k) 64 (λ n. sym (same n))))

-- the set of what is ready
module _ (files : Files) (count : ℕ) (words ready_words : List ℕ) (side : Side) (enough : count ≤ 1024) (long : length ready_words ≡ 16)
    (are : AreWhere (is_told files count words side) (set_words count) ready_words) where
  abbrev passes : ℕ → Bool
  passes fd = has_bit words fd && is_ready_for side (ready files fd)

  twice : ready_fds files side (fds_of count words) ≡ filter passes (count_up 0 count)
  twice = filter_twice (has_bit words) (λ fd. is_ready_for side (ready files fd)) (count_up 0 count)

  told_is : (fd : ℕ) → fd < count → is_told files count words side fd ≡ passes fd
  told_is fd below = ap (λ (b : Bool). b && (has_bit words fd && is_ready_for side (ready files fd))) (lt-ltb fd count below)

  are_fds : fds_of count ready_words ≡ ready_fds files side (fds_of count words)
  are_fds =
      filter_same (has_bit ready_words) passes 0 count
      (λ fd low below. has_where (is_told files count words side) count ready_words enough long are fd (omega arith) ∙ told_is fd (omega arith))
      ∙ sym twice

  are_among : (fd : ℕ) → is_among (ready_fds files side (fds_of count words)) fd ≡ is_told files count words side fd
  are_among fd =
      let all : 0 + count ≡ count = omega arith in
      ap (λ (fds : List ℕ). is_among fds fd) twice
      ∙ among passes 0 count fd (omega arith)
      ∙ ap (λ (n : ℕ). nat_lt fd n && passes fd) all

  are_bytes : words_bytes count ready_words ≡ fds_bytes count (ready_fds files side (fds_of count words))
  are_bytes = bytes_where (is_told files count words side) count ready_words enough long are (ready_fds files side (fds_of count words)) are_among

  pub holds_ready : Holds count ready_words (ready_fds files side (fds_of count words))
  holds_ready = record { fds = are_fds; bytes = are_bytes }

-- Words of 0

no_bit : (fd : ℕ) → fd < 1024 → has_bit (replicate 16 0) fd ≡ false
no_bit fd below =
    ap (λ (w : ℕ). bit_at w (fd % 64) == 1) (get_or-replicate 16 (fd / 64) 0 0 (omega arith))
    ∙ ap (λ (b : ℕ). b == 1) (bit_at-zero (fd % 64))

none_of : (count : ℕ) → count ≤ 1024 → fds_of count (replicate 16 0) ≡ []
none_of count enough =
    filter_same (has_bit (replicate 16 0)) (λ fd. false) 0 count (λ fd low below. no_bit fd (omega arith))
    ∙ filter_none (λ fd. false) (count_up 0 count) (λ fd. refl)

pub holds_none : (count : ℕ) → count ≤ 1024 → Holds count (replicate 16 0) []
holds_none count enough = record {
  fds = none_of count enough;
  bytes =
      bytes_where (λ fd. false) count (replicate 16 0) enough refl
      (λ k below. get_or-replicate 16 k 0 0 (omega (arith, enough)) ∙ sym (where_none (λ fd. false) (64 * k) 64 (λ fd. refl)))
      [] (λ fd. refl);
}

-- Reading

-- words that were read
pub fds_read : (count : ℕ) (words bytes : List ℕ)
    → ((k : ℕ) → k < set_words count → get_or words k 0 ≡ unsigned false 8 (drop (8 * k) bytes))
    → fds_of count words ≡ fds_in count bytes
fds_read count words bytes are =
    filter_same (has_bit words) (has_fd bytes) 0 count
    (λ fd low below. ap (λ (w : ℕ). w / 2 ^ (fd % 64) % 2 == 1) (are (fd / 64) (omega arith)))

-- all of them count
pub all_count : (count : ℕ) (sets : FdSets) → counted_sets count (sets_of count sets) ≡ sets_of count sets
all_count count sets =
    let one : (words : List ℕ) → first_fds count (fds_of count words) ≡ fds_of count words =
    λ words. below_all (has_bit words) count 0 count (omega arith) in
    ap (λ (fds : List ℕ). record {
      read = fds;
      write = first_fds count (fds_of count sets.write);
      except = first_fds count (fds_of count sets.except);
    }) (one sets.read)
    ∙ ap (λ (fds : List ℕ). record { read = fds_of count sets.read; write = fds; except = first_fds count (fds_of count sets.except) }) (one sets.write)
    ∙ ap (λ (fds : List ℕ). record { read = fds_of count sets.read; write = fds_of count sets.write; except = fds }) (one sets.except)

-- Closed descriptors

read_end_open : (pipe : Option Pipe) → (read_end_ready pipe).nval ≡ false
read_end_open None = refl
read_end_open (Some pipe) = refl

write_end_open : (pipe : Option Pipe) → (write_end_ready pipe).nval ≡ false
write_end_open None = refl
write_end_open (Some pipe) = refl

object_open : (files : Files) (description : Description) (object : Object) → (object_ready files description object).nval ≡ false
object_open files description (objects.Stream stream) = refl
object_open files description (objects.ReadEnd pipe) = read_end_open (pipe_at files.flow pipe)
object_open files description (objects.WriteEnd pipe) = write_end_open (pipe_at files.flow pipe)
object_open files description (objects.Node node) = refl

closed_of : (files : Files) (description : Option Description) → (ready_of files description).nval ≡ is_none description
closed_of files None = refl
closed_of files (Some description) = object_open files description description.object

closed_is : (files : Files) (fd : ℕ) → (ready files fd).nval ≡ is_none (opened files fd)
unfolding ready
closed_is files fd = closed_of files (opened files fd)

-- Loops over the descriptors of a set

next_fd : (words : List ℕ) (fd count : ℕ) → fd < count
    → fds_from words fd (count - fd)
    ≡ (if has_bit words fd then fd ∷ fds_from words (fd + 1) (count - (fd + 1)) else fds_from words (fd + 1) (count - (fd + 1)))
next_fd words fd count below =
    let left : count - fd ≡ suc (count - (fd + 1)) = omega arith in
    let one : suc fd ≡ fd + 1 = omega arith in
    ap (λ (n : ℕ). fds_from words fd n) left
    ∙ ap (λ (n : ℕ). if has_bit words fd then fd ∷ fds_from words n (count - (fd + 1)) else fds_from words n (count - (fd + 1))) one

-- the step of a loop that counts

length_if : (b : Bool) (fd : ℕ) (rest : List ℕ) → length (if b then fd ∷ rest else rest) ≡ one_if b + length rest
length_if true fd rest = omega arith
length_if false fd rest = omega arith

pub sized_more : (words : List ℕ) (fd count size next all : ℕ) (named : Bool) → fd < count → named ≡ has_bit words fd
    → next ≡ size + one_if named
    → size + length (fds_from words fd (count - fd)) ≡ all
    → next + length (fds_from words (fd + 1) (count - (fd + 1))) ≡ all
sized_more words fd count size next all named below e becomes sum =
    let rest : List ℕ = fds_from words (fd + 1) (count - (fd + 1)) in
    let split : length (fds_from words fd (count - fd)) ≡ one_if (has_bit words fd) + length rest =
    ap (λ (fds : List ℕ). length fds) (next_fd words fd count below) ∙ length_if (has_bit words fd) fd rest in
    omega (arith, sum, split, becomes, ap one_if e)

-- the step of a loop that looks for a closed descriptor: there is one at this place, or else those to come decide

closed_if : (files : Files) (b : Bool) (fd : ℕ) (rest : List ℕ) → names_closed files (if b then fd ∷ rest else rest) ≡ ((b && (ready files fd).nval) || names_closed files rest)
closed_if files true fd rest = ap (λ (c : Bool). c || names_closed files rest) (sym (closed_is files fd))
closed_if files false fd rest = refl

closed_next : (files : Files) (words : List ℕ) (fd count : ℕ) (closed : Bool) → fd < count → closed ≡ (has_bit words fd && (ready files fd).nval)
    → names_closed files (fds_from words fd (count - fd)) ≡ (closed || names_closed files (fds_from words (fd + 1) (count - (fd + 1))))
closed_next files words fd count closed below e =
    ap (names_closed files) (next_fd words fd count below)
    ∙ closed_if files (has_bit words fd) fd (fds_from words (fd + 1) (count - (fd + 1)))
    ∙ ap (λ (c : Bool). c || names_closed files (fds_from words (fd + 1) (count - (fd + 1)))) (sym e)

pub closed_here : (files : Files) (words : List ℕ) (fd count : ℕ) (closed all : Bool) → fd < count → closed ≡ (has_bit words fd && (ready files fd).nval)
    → closed ≡ true → names_closed files (fds_from words fd (count - fd)) ≡ all → true ≡ all
closed_here files words fd count closed all below e is sum =
    sym (ap (λ (c : Bool). c || names_closed files (fds_from words (fd + 1) (count - (fd + 1)))) is)
    ∙ sym (closed_next files words fd count closed below e)
    ∙ sum

pub closed_later : (files : Files) (words : List ℕ) (fd count : ℕ) (closed all : Bool) → fd < count → closed ≡ (has_bit words fd && (ready files fd).nval)
    → closed ≡ false → names_closed files (fds_from words fd (count - fd)) ≡ all → names_closed files (fds_from words (fd + 1) (count - (fd + 1))) ≡ all
closed_later files words fd count closed all below e is sum =
    sym (ap (λ (c : Bool). c || names_closed files (fds_from words (fd + 1) (count - (fd + 1)))) is)
    ∙ sym (closed_next files words fd count closed below e)
    ∙ sum

-- What is read

pub nothing_read : (memory : List ℕ) (count address : ℕ) → count ≤ 1024 → (count == 0 || address == 0) ≡ true
    → Ok (fds_of count (replicate 16 0)) ≡ fds_at memory count address
nothing_read memory count address enough empty = ap (λ (fds : List ℕ). Ok fds) (none_of count enough) ∙ by (count == 0) (address == 0) refl refl empty where
  by : (a b : Bool) → (count == 0) ≡ a → (address == 0) ≡ b → (count == 0 || address == 0) ≡ true → Ok [] ≡ fds_at memory count address
  by true b e f is = rw e refl
  by false true e f is = rw (e, f) refl
  by false false e f is = absurd cc

read_is : (memory : List ℕ) (count address : ℕ) → (count == 0 || address == 0) ≡ false
    → fds_at memory count address ≡ read_as (fds_in count) (structure memory address (8 * set_words count))
read_is memory count address there = by (count == 0) (address == 0) refl refl there where
  by : (a b : Bool) → (count == 0) ≡ a → (address == 0) ≡ b → (count == 0 || address == 0) ≡ false
      → fds_at memory count address ≡ read_as (fds_in count) (structure memory address (8 * set_words count))
  by true b e f is = absurd cc
  by false true e f is = absurd cc
  by false false e f is = rw (e, f) refl

pub fault_read : (memory : List ℕ) (count address size : ℕ) → (count == 0 || address == 0) ≡ false → size ≡ 8 * set_words count
    → None ≡ bytes_at memory address size → Err EFAULT ≡ fds_at memory count address
fault_read memory count address size there sized none =
    ap (λ (bytes : Option (List ℕ)). read_as (fds_in count) (given bytes)) (none ∙ ap (λ (n : ℕ). bytes_at memory address n) sized)
    ∙ sym (read_is memory count address there)

pub words_read : (memory bytes words : List ℕ) (count address size : ℕ) → (count == 0 || address == 0) ≡ false → size ≡ 8 * set_words count
    → Some bytes ≡ bytes_at memory address size
    → ((k : ℕ) → k < set_words count → get_or words k 0 ≡ unsigned false 8 (drop (8 * k) bytes))
    → Ok (fds_of count words) ≡ fds_at memory count address
words_read memory bytes words count address size there sized some are =
    ap (λ (fds : List ℕ). Ok fds) (fds_read count words bytes are)
    ∙ ap (λ (bs : Option (List ℕ)). read_as (fds_in count) (given bs)) (some ∙ ap (λ (n : ℕ). bytes_at memory address n) sized)
    ∙ sym (read_is memory count address there)

-- the step of a loop that makes a word, from the highest bit on
pub word_more : (test : ℕ → Bool) (first done word next : ℕ) (told : Bool) → done < 64 → told ≡ test (first + (63 - done))
    → next ≡ one_if told + 2 * word → word ≡ bits_where test (first + (64 - done)) done
    → next ≡ bits_where test (first + (64 - (done + 1))) (done + 1)
word_more test first done word next told below e becomes is =
    let from : ℕ = first + (64 - (done + 1)) in
    let here : first + (63 - done) ≡ from = omega arith in
    let behind : first + (64 - done) ≡ from + 1 = omega arith in
    let more : suc done ≡ done + 1 = omega arith in
    becomes
    ∙ ap (λ (b : Bool). one_if b + 2 * word) (e ∙ ap test here)
    ∙ ap (λ (n : ℕ). one_if (test from) + 2 * n) (is ∙ ap (λ (n : ℕ). bits_where test n done) behind)
    ∙ where_next test from done
    ∙ ap (λ (n : ℕ). bits_where test from n) more

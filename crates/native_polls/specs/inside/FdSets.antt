-- Sets of descriptors in code: sixteen words of 64 bits. (The forms are this project's own.)
use Rattle.std.specs.Prelude.{◌≡◌, ℕ, ◌*◌, ◌/◌, ◌%◌, ◌^◌, ◌==◌, ◌<◌, Bool, false, ◌&&◌, List, take, filter, replicate, slice_index, nat_lt}
use Rattle.std.specs.List.{flat_map}
use Rattle.host_mem.specs.Memory.{written}
use Rattle.kernel_model.specs.Readiness.{Sets, is_read_ready, is_write_ready, ready}
use Rattle.kernel_model.specs.Shared.{PollSet}
use Rattle.kernel_model.specs.State.{Files}
use Rattle.layouts.specs.Number.{bytes_of}
use Rattle.layouts.specs.Termios.{count_up}
use Rattle.native_calls.specs.Polls.{SetPlaces, fds_bytes, set_words}
use Rattle.native_polls.specs.declared.fd_sets.Side.{Side}
use Rattle.native_polls.specs.declared.fd_sets.Side.TheVariants as sides
use Rattle.native_polls.specs.declared.fd_sets.FdSets.{FdSets}
use Rattle.signal_sets.specs.NativeSets.{bits_where}

-- whether a set has the bit of a descriptor
abbrev pub has_bit : List ℕ → ℕ → Bool
has_bit words fd = slice_index words (fd / 64) / 2 ^ (fd % 64) % 2 == 1

-- the descriptors of a set from one on, so many numbers
abbrev pub fds_from : List ℕ → ℕ → ℕ → List ℕ
fds_from words first count = filter (has_bit words) (count_up first count)

abbrev pub fds_of : ℕ → List ℕ → List ℕ
fds_of count words = fds_from words 0 count

-- the bytes of the words that a count needs
abbrev pub words_bytes : ℕ → List ℕ → List ℕ
words_bytes count words = flat_map (bytes_of false 8) (take (set_words count) words)

-- the words hold these descriptors, and no other bit
pub record Holds (count : ℕ) (words among : List ℕ) : Type 0 where
  pub fds : fds_of count words ≡ among
  pub bytes : words_bytes count words ≡ fds_bytes count among

-- ready, by what a set is about
abbrev pub is_ready_for : Side → PollSet → Bool
is_ready_for sides.Reading events = is_read_ready events
is_ready_for sides.Writing events = is_write_ready events

abbrev pub ready_fds : Files → Side → List ℕ → List ℕ
ready_fds files side fds = filter (λ fd. is_ready_for side (ready files fd)) fds

-- a descriptor that counts, is in a set and is ready
abbrev pub is_told : Files → ℕ → List ℕ → Side → ℕ → Bool
is_told files count words side fd = nat_lt fd count && (has_bit words fd && is_ready_for side (ready files fd))

-- the words that a count needs have the bits by a test
abbrev pub AreWhere : (ℕ → Bool) → ℕ → List ℕ → Type 0
AreWhere test words_count words = (k : ℕ) → k < words_count → slice_index words k ≡ bits_where test (64 * k) 64

-- the three sets of which so many descriptors count
abbrev pub sets_of : ℕ → FdSets → Sets
sets_of count sets = record {
  read = fds_of count sets.read;
  write = fds_of count sets.write;
  except = fds_of count sets.except;
}

-- memory with these words where the sets are, and 0 where that for exceptions is
abbrev pub StoresSets : ℕ → SetPlaces → List ℕ → List ℕ → List ℕ → List ℕ → Type 0
StoresSets count places read write old new =
    let first = written old places.read (words_bytes count read) in
    let second = written first places.write (words_bytes count write) in
    new ≡ written second places.except (words_bytes count (replicate 16 0))

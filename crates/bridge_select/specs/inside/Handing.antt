-- What the native call finds in host memory of what is asked for. (The forms are this project's own.)
use Rattle.std.specs.Prelude.{◌≡◌, ◌≢◌, ◌⊎◌, ◌≤◌, ℕ, ◌+◌, List, ◌++◌, Some, Ok}
use Rattle.guest_space.specs.Memory.{Memory}
use Rattle.host_mem.specs.Memory.{end_address}
use Rattle.kernel_model.specs.Came.{Given}
use Rattle.kernel_model.specs.Readiness.{counted_fds, first_fds}
use Rattle.native_calls.specs.HostBytes.{unless_null}
use Rattle.native_calls.specs.Polls as native
use Rattle.native_calls.specs.Polls.{MaskArgument, mask_argument_at, wait_at}
use Rattle.native_calls.specs.SignalBytes.{set_at}
use Rattle.o32_model.specs.GuestBytes.{read_as}
use Rattle.o32_model.specs.Selecting as o32
use Rattle.o32_model.specs.Selecting.{Asked, word_count}
use Rattle.bridge_select.specs.declared.rooms.Places.{Places}
use Rattle.bridge_select.specs.inside.Requests.{Requested}

-- bytes were added behind memory
pub record Extends (old new : List ℕ) : Type 0 where
  pub added : List ℕ
  pub is : new ≡ old ++ added

-- of so many descriptors of the set at a place those are found that are given, or the same error, whatever stands behind
abbrev pub FindsSet : List ℕ → ℕ → ℕ → Given (List ℕ) → Type 0
FindsSet memory fds place given =
    (behind : List ℕ) → read_as (first_fds fds) (native.fds_at (memory ++ behind) fds place) ≡ read_as (first_fds fds) given

-- a set with 128 bytes of its own from one address on and before another, or none
abbrev pub Placed : ℕ → ℕ → ℕ → ℕ → Type 0
Placed address place low high =
    ((address ≡ 0) × (place ≡ 0)) ⊎ ((address ≢ 0) × ((low ≤ place) × (place + 128 ≤ high)))

-- the time, and the three sets behind it, one behind the other
pub record Laid (asked : Asked) (places : Places) (memory : List ℕ) : Type 0 where
  pub first : ℕ
  pub second : ℕ
  pub third : ℕ
  pub low : 65536 ≤ first
  pub time : places.time + 16 ≤ first
  pub read : Placed asked.read places.read first second
  pub write : Placed asked.write places.write second third
  pub except : Placed asked.except places.except third (end_address memory)
  pub rising : (first ≤ second) × ((second ≤ third) × (third ≤ end_address memory))

-- host memory has all that is asked for
pub record Hands (requested : Requested) (program : Memory) (places : Places) (memory : List ℕ) : Type 0 where
  pub time : wait_at memory places.time ≡ Ok requested.wait
  pub argument : MaskArgument
  pub pair : mask_argument_at memory places.pair ≡ Some (Ok argument)
  pub size : argument.size ≡ requested.own.size
  pub mask : unless_null argument.mask (set_at memory argument.mask) ≡ requested.own.mask
  pub read : FindsSet memory (counted_fds requested.asked.count) places.read (o32.fds_at program (word_count requested.asked.count) requested.asked.read)
  pub write : FindsSet memory (counted_fds requested.asked.count) places.write (o32.fds_at program (word_count requested.asked.count) requested.asked.write)
  pub except : FindsSet memory (counted_fds requested.asked.count) places.except (o32.fds_at program (word_count requested.asked.count) requested.asked.except)
  pub laid : (read write except : List ℕ)
      → o32.fds_at program (word_count requested.asked.count) requested.asked.read ≡ Ok read
      → o32.fds_at program (word_count requested.asked.count) requested.asked.write ≡ Ok write
      → o32.fds_at program (word_count requested.asked.count) requested.asked.except ≡ Ok except
      → Laid requested.asked places memory

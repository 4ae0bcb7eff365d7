-- All that is asked for is in host memory when the native call is made.
use Rattle.std.proofs.Common.{◌≡◌, ℕ, ◌+◌, ◌-◌, ◌≤◌, Bool, true, false, List, ◌++◌, length, take, drop, refl, ap, ◌∙◌, arith, append_assoc}
use Rattle.std.specs.Prelude.{◌==◌, Option, Some, None, Ok, if◌then◌else◌}
use Rattle.std.proofs.lemmas.Bool.Decides.{nat_tests}
use Rattle.std.proofs.lemmas.List.{length-append}
use Rattle.guest_space.specs.Memory.{Memory}
use Rattle.host_mem.specs.Memory.{end_address, is_inside}
use Rattle.kernel_model.specs.Came.{Given}
use Rattle.kernel_model.specs.Clock.{checked_or_none, length_of}
use Rattle.kernel_model.specs.Readiness.{counted_fds, first_fds}
use Rattle.native_calls.specs.HostBytes.{given, unless_null}
use Rattle.native_calls.specs.HostBytes as host
use Rattle.native_calls.specs.Polls as native
use Rattle.native_calls.specs.Polls.{MaskArgument, mask_argument_at, wait_at}
use Rattle.native_calls.specs.SignalBytes.{set_at}
use Rattle.native_calls.specs.Times.{time_in}
use Rattle.o32_model.specs.GuestBytes.{read_as}
use Rattle.o32_model.specs.Selecting as o32
use Rattle.o32_model.specs.Selecting.{word_count}
use Rattle.bridge_select.specs.declared.rooms.Places.{Places}
use Rattle.bridge_select.specs.inside.Handing.{Extends, FindsSet, Hands, Placed}
use Rattle.bridge_select.specs.inside.Requests.{Requested}

-- Memory that has become more

extends_then : {first second third : List ℕ} → Extends first second → Extends second third → Extends first third
extends_then {first} {second} {third} p q = record {
  added = p.added ++ q.added;
  is = q.is ∙ ap (λ (m : List ℕ). m ++ q.added) p.is ∙ append_assoc first p.added q.added;
}

long_more : {old new : List ℕ} → Extends old new → end_address old ≤ end_address new
long_more {old} {new} more = omega (arith, ap (λ (m : List ℕ). length m) more.is, length-append old more.added)

finds_more : {old new : List ℕ} (fds place : ℕ) (given : Given (List ℕ)) → FindsSet old fds place given → Extends old new → FindsSet new fds place given
finds_more {old} {new} fds place given finds more = λ behind.
    ap (λ (m : List ℕ). read_as (first_fds fds) (native.fds_at m fds place)) (ap (λ (m : List ℕ). m ++ behind) more.is ∙ append_assoc old more.added behind)
    ∙ finds (more.added ++ behind)

-- The time has its room.

abbrev wait_by : Bool → Option (List ℕ) → Given (Option ℕ)
wait_by null found = checked_or_none length_of (if null then None else Some (host.read_as time_in (given found)))

time_room : (memory : List ℕ) (time : ℕ) (wait : Option ℕ) → wait_at memory time ≡ Ok wait → time + 16 ≤ end_address memory
time_room memory time wait read = by (time == 0) (is_inside memory time 16) refl refl read where
  by : (null inside : Bool) → (time == 0) ≡ null → is_inside memory time 16 ≡ inside → wait_by null (if inside then Some (take 16 (drop (time - 65536) memory)) else None) ≡ Ok wait
      → time + 16 ≤ end_address memory
  by true inside none is found = grind (arith, nat_tests)
  by false true there is found = grind (arith, nat_tests)
  by false false there is found = absurd cc

module _ (requested : Requested) (program : Memory) (places : Places) (mask : ℕ) (limits first second third last : List ℕ)
    (timed : (behind : List ℕ) → wait_at (limits ++ behind) places.time ≡ Ok requested.wait)
    (masked : (behind : List ℕ) → unless_null mask (set_at (limits ++ behind) mask) ≡ requested.own.mask)
    (paired : (behind : List ℕ) → mask_argument_at (first ++ behind) places.pair ≡ Some (Ok (record { mask = mask; size = requested.own.size })))
    (one : Extends limits first) (two : Extends first second) (three : Extends second third) (four : Extends third last) where
  abbrev fds : ℕ
  fds = counted_fds requested.asked.count

  abbrev set : ℕ → Given (List ℕ)
  set address = o32.fds_at program (word_count requested.asked.count) address

  behind_pair : Extends first last
  behind_pair = extends_then (extends_then two three) four

  all : Extends limits last
  all = extends_then one behind_pair

  pub hands : FindsSet second fds places.read (set requested.asked.read) → FindsSet third fds places.write (set requested.asked.write) → FindsSet last fds places.except (set requested.asked.except)
      → ((found : List ℕ) → set requested.asked.read ≡ Ok found → Placed requested.asked.read places.read (end_address first) (end_address second))
      → ((found : List ℕ) → set requested.asked.write ≡ Ok found → Placed requested.asked.write places.write (end_address second) (end_address third))
      → ((found : List ℕ) → set requested.asked.except ≡ Ok found → Placed requested.asked.except places.except (end_address third) (end_address last))
      → Hands requested program places last
  hands read write except read_room write_room except_room = record {
    time = ap (λ (m : List ℕ). wait_at m places.time) all.is ∙ timed all.added;
    argument = record { mask = mask; size = requested.own.size };
    pair = ap (λ (m : List ℕ). mask_argument_at m places.pair) behind_pair.is ∙ paired behind_pair.added;
    size = refl;
    mask = ap (λ (m : List ℕ). unless_null mask (set_at m mask)) all.is ∙ masked all.added;
    read = finds_more fds places.read (set requested.asked.read) read (extends_then three four);
    write = finds_more fds places.write (set requested.asked.write) write four;
    except = except;
    laid = λ r w e in_read in_write in_except. record {
      first = end_address first;
      second = end_address second;
      third = end_address third;
      low = omega arith;
      time = omega (arith, time_room (limits ++ one.added) places.time requested.wait (timed one.added), ap (λ (m : List ℕ). length m) one.is);
      read = read_room r in_read;
      write = write_room w in_write;
      except = except_room e in_except;
      rising = (long_more two, (long_more three, long_more four));
    };
  }

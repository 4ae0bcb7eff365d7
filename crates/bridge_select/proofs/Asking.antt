-- The native call finds what the program's call finds, and changes nothing but host memory.
use Rattle.std.proofs.Common.{◌≡◌, ℕ, ℤ, pos, ◌%◌, ◌^◌, Bool, true, false, List, [], ◌∷◌, length, refl, sym, ap, subst, ◌∙◌}
use Rattle.std.specs.Prelude.{Option, Ok, Err, int_lt}
use Rattle.std.specs.Int.{w32, cast_signed}
use Rattle.guest_space.specs.Memory.{Memory}
use Rattle.kernel_core.specs.declared.error.Errno.TheVariants.{EINVAL}
use Rattle.kernel_core.specs.declared.reply.Reply.{Reply}
use Rattle.kernel_core.specs.declared.reply.Reply.TheVariants as replies
use Rattle.kernel_core.specs.declared.reply.Wake.{Wake}
use Rattle.kernel_model.specs.Came.{Came, Did, Done, Refused, Waits, Given, refused_if, with_given}
use Rattle.kernel_model.specs.Clock.{left_of_wait}
use Rattle.kernel_model.specs.Readiness.{Sets, counted_fds, counted_sets, masked_wait, select, select_of, set_count}
use Rattle.kernel_model.specs.State.{Kernel}
use Rattle.native_calls.specs.Polls.{at_end, pselect_row, selected, waits_for, with_left, with_time_left}
use Rattle.native_calls.specs.Step as native
use Rattle.native_calls.specs.Step.{NativeStep, memory_after}
use Rattle.native_calls.specs.Table.{native_call}
use Rattle.o32_model.specs.Selecting.{Asked, fds_at, if_all, sets_at, word_count}
use Rattle.bridge_limits.proofs.ShownTimes.{shows_left}
use Rattle.bridge_limits.specs.Limits.{ShowsLeft}
use Rattle.bridge_limits.specs.Passed.{IsLook}
use Rattle.bridge_select.specs.declared.rooms.Places.{Places}
use Rattle.bridge_select.specs.declared.telling.Answer.{Answer}
use Rattle.bridge_select.specs.inside.Handing.{Hands, Laid}
use Rattle.bridge_select.specs.inside.Requests.{Requested}
use Rattle.bridge_select.specs.inside.Telling.{Answered, IsAnswer, ShowsSets, Tells, selecting}
use Rattle.bridge_select.proofs.Natives.{counted_well, places_of, row_is, sets_long, shows_sets}
use Rattle.bridge_select.proofs.Selects.{CameWell, DidWell, program_well}

-- What was found was asked for in sets that could be loaded.

done_given : (kernel : Kernel) (wait : Given (Option ℕ)) (count : ℤ) (sets : Given Sets) (found : Sets) → (select kernel wait count sets).came ≡ Done found → (given : Sets) × (sets ≡ Ok given)
unfolding select
done_given kernel (Err error) count sets found is = absurd cc
done_given kernel (Ok wait) count sets found is = by (int_lt count (pos 0)) sets is where
  by : (wrong : Bool) (sets : Given Sets) → (refused_if wrong EINVAL kernel (with_given kernel sets (λ sets. select_of kernel wait (counted_sets (counted_fds count) sets)))).came ≡ Done found
      → (given : Sets) × (sets ≡ Ok given)
  by true sets is = absurd cc
  by false (Err error) is = absurd cc
  by false (Ok given) is = (given, refl)

pub record AllGiven (first second third : Given (List ℕ)) : Type 0 where
  pub reads : List ℕ
  pub writes : List ℕ
  pub excepts : List ℕ
  pub read : first ≡ Ok reads
  pub write : second ≡ Ok writes
  pub except : third ≡ Ok excepts

all_given : (read write except : Given (List ℕ)) (sets : Sets) → if_all read write except ≡ Ok sets → AllGiven read write except
all_given (Err error) write except sets is = absurd cc
all_given (Ok read) (Err error) except sets is = absurd cc
all_given (Ok read) (Ok write) (Err error) sets is = absurd cc
all_given (Ok read) (Ok write) (Ok except) sets is = record { reads = read; writes = write; excepts = except; read = refl; write = refl; except = refl }

module _ (kernel : Kernel) (program : Memory) (requested : Requested) (places : Places) (memory : List ℕ) (hands : Hands requested program places memory) where
  abbrev fds : ℕ
  fds = counted_fds requested.asked.count

  abbrev did : Did Kernel Sets
  did = selecting kernel program requested

  well : DidWell kernel fds did
  well = program_well kernel (masked_wait (Ok requested.wait) requested.own.size requested.own.mask) program requested.asked

  abbrev remaining : Option ℕ
  remaining = left_of_wait kernel kernel.clock requested.wait

  -- host memory after what the row came to
  abbrev room_after : Came Sets → List ℕ
  room_after came = at_end (with_time_left kernel places.time (Ok requested.wait)) (memory_after (selected fds (places_of places) memory) memory came) came

  abbrev reply_of : Came Sets → Reply
  reply_of came = native.reply_to (λ sets. native.value (set_count sets)) came

  abbrev args : ℕ → List ℕ
  args count = count ∷ places.read ∷ places.write ∷ places.except ∷ places.time ∷ places.pair ∷ []

  call_is : (count : ℕ) (left : List ℕ) → cast_signed w32 (count % 2 ^ 32) ≡ requested.asked.count
      → native_call 72 (args count) kernel memory left ≡ waits_for (selected fds (places_of places) memory) set_count (with_time_left kernel places.time (Ok requested.wait)) memory did left
  call_is count left same =
      ap (λ (n : ℤ). pselect_row kernel memory n (places_of places) places.time places.pair left) same
      ∙ row_is kernel program requested.asked places memory left requested.wait requested.own.size requested.own.mask hands.argument hands.time hands.pair hands.size hands.mask hands.read hands.write hands.except

  -- what it replies, and host memory then
  abbrev pub native_reply : Reply
  native_reply = reply_of did.came

  abbrev pub native_room : List ℕ
  native_room = room_after did.came

  pub looks : (count : ℕ) (left : List ℕ) → cast_signed w32 (count % 2 ^ 32) ≡ requested.asked.count
      → IsLook kernel native_reply native_room left (native_call 72 (args count) kernel memory left)
  looks count left same =
      subst (IsLook kernel native_reply native_room left) (sym (call_is count left same))
      (record { kernel_stays = well.stays; left_stays = refl; sends = refl; replied = refl; stored = refl })

  laid : (sets : Sets) → did.came ≡ Done sets → Laid requested.asked places memory
  laid sets is =
      let given = done_given kernel (masked_wait (Ok requested.wait) requested.own.size requested.own.mask) requested.asked.count (sets_at program requested.asked) sets is in
      let all = all_given (fds_at program (word_count requested.asked.count) requested.asked.read) (fds_at program (word_count requested.asked.count) requested.asked.write)
      (fds_at program (word_count requested.asked.count) requested.asked.except) given.0 given.1 in
      hands.laid all.reads all.writes all.excepts all.read all.write all.except

  module _ (answer : Answer) (room : List ℕ) (placed : answer.places ≡ places) where
    found_left : (memory_now : List ℕ) → length memory_now ≡ length memory → room ≡ with_left memory_now places.time remaining → ShowsLeft room answer.places.time remaining
    found_left memory_now long is =
        subst (λ (p : Places). ShowsLeft room p.time remaining) (sym placed)
        (subst (λ (m : List ℕ). ShowsLeft m places.time remaining) (sym is) (shows_left kernel memory memory_now places.time requested.wait hands.time long))

    came_is : (came : Came Sets) → did.came ≡ came → CameWell fds came → answer.reply ≡ reply_of came → room ≡ room_after came → IsAnswer requested.asked remaining came answer room
    came_is (Done sets) is rise replied stored = record {
      reply = replied;
      counted = counted_well requested.asked.count sets rise;
      shows =
          subst (λ (p : Places). ShowsSets requested.asked p sets room) (sym placed)
          (subst (ShowsSets requested.asked places sets) (sym stored) (shows_sets requested.asked places memory sets remaining (laid sets is) rise));
      remaining = found_left (selected fds (places_of places) memory sets) (sets_long requested.asked places memory sets remaining (laid sets is) rise) stored;
    }
    came_is (Refused error) is rise replied stored = record { reply = replied; counted = tt; shows = tt; remaining = found_left memory refl stored }
    came_is (Waits wake) is rise replied stored = (replied, rise)

    pub answered : answer.reply ≡ native_reply → room ≡ native_room → Answered kernel program requested answer room
    answered replied stored = record { stays = well.stays; is = came_is did.came refl well.came replied stored }

-- What is known of an answer by its reply

pub tells_of : (asked : Asked) (left : Option ℕ) (came : Came Sets) (answer : Answer) (room : List ℕ) (number : ℤ) → IsAnswer asked left came answer room → answer.reply ≡ replies.Done number → Tells asked left came answer room
tells_of asked left (Done sets) answer room number tells is = tells
tells_of asked left (Refused error) answer room number tells is = tells
tells_of asked left (Waits wake) answer room number waits is = let differ : replies.Sleep wake ≡ replies.Done number = sym waits.0 ∙ is in absurd cc

pub record WaitsUntil (came : Came Sets) (until : Option ℕ) : Type 0 where
  pub is : came ≡ Waits (record { done = 0; until = until })

pub waits_of : (asked : Asked) (left : Option ℕ) (came : Came Sets) (answer : Answer) (room : List ℕ) (wake : Wake) → IsAnswer asked left came answer room → answer.reply ≡ replies.Sleep wake → WaitsUntil came wake.until
waits_of asked left (Done sets) answer room wake tells is = let differ : replies.Done (pos (set_count sets)) ≡ replies.Sleep wake = sym tells.reply ∙ is in absurd cc
waits_of asked left (Refused error) answer room wake tells is = absurd (cc tells.reply)
waits_of asked left (Waits other) answer room wake waits is =
    let same : other ≡ wake = (let e : replies.Sleep other ≡ replies.Sleep wake = sym waits.0 ∙ is in cc) in
    record { is = λ i. Waits (record { done = waits.1 i; until = (same i).until }) }

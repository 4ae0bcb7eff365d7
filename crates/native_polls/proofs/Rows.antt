-- The rows of both calls, by the files and the clock alone.
use Rattle.std.proofs.Common.{◌≡◌, ℕ, ℤ, pos, Bool, true, false, List, refl, sym, ap, ◌∙◌}
use Rattle.std.specs.Prelude.{Option, Some, None, Result, Ok, Err, int_lt, nat_lt, nat_le, if◌then◌else◌}
use Rattle.std.specs.List.{list_any}
use Rattle.kernel_core.specs.declared.error.Errno.{Errno}
use Rattle.kernel_core.specs.declared.error.Errno.TheVariants.{EBADF, EINVAL}
use Rattle.kernel_core.specs.declared.reply.Reply.{Reply}
use Rattle.kernel_model.specs.Came.{Came, Done, Refused, Waits, Did, Given, came_as, done, refused_if, with_given}
use Rattle.kernel_model.specs.Clock.{deadline, waits_until}
use Rattle.kernel_model.specs.Readiness.{PollEntry, Sets, counted_fds, counted_sets, entry_limit, is_any, names_any_closed, poll, poll_ready, ready_sets, returned, select, select_of, set_count}
use Rattle.kernel_model.specs.State.{Kernel, Files}
use Rattle.native_calls.specs.Polls.{at_end, waits_for, with_time_left}
use Rattle.native_calls.specs.Step.{memory_after, reply_to, value}
use Rattle.native_polls.specs.Answers.{IsAnswer}
use Rattle.native_polls.specs.declared.ends.Found.{Found}
use Rattle.native_polls.specs.inside.Waiting.{Finds, came_of, found_or_wait, found_until, left_stored, poll_entries, poll_waiting, select_counted, select_sets, select_waiting}

-- the row changes nothing of the kernel, and comes to this
abbrev still : {V : Type 0} → Kernel → Came V → Did Kernel V
still kernel came = record { state = kernel; came = came }

until_is : {V : Type 0} → (kernel : Kernel) (until : Option ℕ) (value : V)
    → waits_until kernel until (done kernel value) ≡ still kernel (found_until kernel.clock until value)
until_is kernel None value = refl
until_is kernel (Some until) value = by (nat_le until kernel.clock) refl where
  by : (due : Bool) → nat_le until kernel.clock ≡ due
      → waits_until kernel (Some until) (done kernel value) ≡ still kernel (found_until kernel.clock (Some until) value)
  by true e = rw e refl
  by false e = rw e refl

found_is : {V : Type 0} → (kernel : Kernel) (length : Option ℕ) (any : Bool) (value : V)
    → (if any then done kernel value else waits_until kernel (deadline kernel length) (done kernel value))
    ≡ still kernel (found_or_wait kernel.clock length any value)
found_is kernel length true value = refl
found_is kernel length false value = until_is kernel (deadline kernel length) value

refused_is : {V : Type 0} → (kernel : Kernel) (wrong : Bool) (error : Errno) (rest : Did Kernel V) (came : Came V) → rest ≡ still kernel came
    → refused_if wrong error kernel rest ≡ still kernel (if wrong then Refused error else came)
refused_is kernel true error rest came e = refl
refused_is kernel false error rest came e = e

entries_are : (kernel : Kernel) (wait : Option ℕ) (entries : Given (List PollEntry))
    → with_given kernel entries (λ entries. poll_ready kernel wait (returned kernel.files entries))
    ≡ still kernel (poll_entries kernel.files kernel.clock wait entries)
entries_are kernel wait (Err error) = refl
entries_are kernel wait (Ok entries) = found_is kernel wait (list_any is_any (returned kernel.files entries)) (returned kernel.files entries)

poll_of : (kernel : Kernel) (wait : Given (Option ℕ)) (count : ℕ) (entries : Given (List PollEntry))
    → poll kernel wait count entries ≡ still kernel (poll_waiting kernel.files kernel.clock wait count entries)
unfolding poll
poll_of kernel (Err error) count entries = refl
poll_of kernel (Ok wait) count entries = refused_is kernel (nat_lt entry_limit count) EINVAL _ _ (entries_are kernel wait entries)

pub poll_is : (kernel : Kernel) (files : Files) (clock : ℕ) (given wait : Given (Option ℕ)) (count : ℕ) (entries : Given (List PollEntry))
    → kernel.files ≡ files → kernel.clock ≡ clock → wait ≡ given
    → poll kernel given count entries ≡ record { state = kernel; came = poll_waiting files clock wait count entries }
poll_is kernel files clock given wait count entries same_files same_clock same_wait =
    poll_of kernel given count entries
    ∙ ap (λ (f : Files). still kernel (poll_waiting f kernel.clock given count entries)) same_files
    ∙ ap (λ (n : ℕ). still kernel (poll_waiting files n given count entries)) same_clock
    ∙ ap (λ (w : Given (Option ℕ)). still kernel (poll_waiting files clock w count entries)) (sym same_wait)

counted_is : (kernel : Kernel) (wait : Option ℕ) (sets : Sets) → select_of kernel wait sets ≡ still kernel (select_counted kernel.files kernel.clock wait sets)
counted_is kernel wait sets =
    refused_is kernel (names_any_closed kernel.files sets) EBADF _ _
    (found_is kernel wait (nat_lt 0 (set_count (ready_sets kernel.files sets))) (ready_sets kernel.files sets))

sets_are : (kernel : Kernel) (wait : Option ℕ) (count : ℕ) (sets : Given Sets)
    → with_given kernel sets (λ sets. select_of kernel wait (counted_sets count sets))
    ≡ still kernel (select_sets kernel.files kernel.clock wait count sets)
sets_are kernel wait count (Err error) = refl
sets_are kernel wait count (Ok sets) = counted_is kernel wait (counted_sets count sets)

select_as : (kernel : Kernel) (wait : Given (Option ℕ)) (count : ℤ) (sets : Given Sets)
    → select kernel wait count sets ≡ still kernel (select_waiting kernel.files kernel.clock wait count sets)
unfolding select
select_as kernel (Err error) count sets = refl
select_as kernel (Ok wait) count sets = refused_is kernel (int_lt count (pos 0)) EINVAL _ _ (sets_are kernel wait (counted_fds count) sets)

pub select_is : (kernel : Kernel) (files : Files) (clock : ℕ) (given wait : Given (Option ℕ)) (count : ℤ) (sets : Given Sets)
    → kernel.files ≡ files → kernel.clock ≡ clock → wait ≡ given
    → select kernel given count sets ≡ record { state = kernel; came = select_waiting files clock wait count sets }
select_is kernel files clock given wait count sets same_files same_clock same_wait =
    select_as kernel given count sets
    ∙ ap (λ (f : Files). still kernel (select_waiting f kernel.clock given count sets)) same_files
    ∙ ap (λ (n : ℕ). still kernel (select_waiting files n given count sets)) same_clock
    ∙ ap (λ (w : Given (Option ℕ)). still kernel (select_waiting files clock w count sets)) (sym same_wait)

-- What a call leaves

reply_as : {V : Type 0} → (count : V → ℕ) (came : Came V) → reply_to (λ found. value (count found)) came ≡ reply_to value (came_as count came)
reply_as count (Done found) = refl
reply_as count (Refused error) = refl
reply_as count (Waits wake) = refl

end_as : {V : Type 0} → (count : V → ℕ) (one other : List ℕ → List ℕ) (memory : List ℕ) (came : Came V) → ((m : List ℕ) → one m ≡ other m)
    → at_end one memory came ≡ at_end other memory (came_as count came)
end_as count one other memory (Done found) same = same memory
end_as count one other memory (Refused error) same = same memory
end_as count one other memory (Waits wake) same = refl

left_as : (kernel : Kernel) (time : ℕ) (wait : Given (Option ℕ)) (memory : List ℕ)
    → with_time_left kernel time wait memory ≡ left_stored kernel.clock time wait memory
left_as kernel time (Err error) memory = refl
left_as kernel time (Ok length) memory = refl

module _ {V : Type 0} (store : V → List ℕ) (count : V → ℕ) (time : ℕ) (given wait : Given (Option ℕ)) (memory middle new left : List ℕ)
    (kernel : Kernel) (clock : ℕ) (did : Did Kernel V) (came : Came V) (result : Result Found Errno) (reply : Reply) where
  pub answers : did ≡ record { state = kernel; came = came } → kernel.clock ≡ clock → wait ≡ given → Finds store count came result memory middle
      → reply ≡ reply_to value (came_of result) → new ≡ at_end (left_stored clock time wait) middle (came_of result)
      → IsAnswer (waits_for store count (with_time_left kernel time given) memory did left) kernel left reply new
  answers is same_clock same_wait finds replied became =
      let came_is : did.came ≡ came = ap (λ (d : Did Kernel V). d.came) is in
      let left_same : (m : List ℕ) → with_time_left kernel time given m ≡ left_stored clock time wait m =
      λ m. left_as kernel time given m
      ∙ ap (λ (n : ℕ). left_stored n time given m) same_clock
      ∙ ap (λ (w : Given (Option ℕ)). left_stored clock time w m) (sym same_wait) in
      record {
        reply =
            ap (λ (c : Came V). reply_to (λ found. value (count found)) c) came_is
            ∙ reply_as count came
            ∙ ap (λ (c : Came ℕ). reply_to value c) (sym finds.answered)
            ∙ sym replied;
        memory =
            ap (λ (c : Came V). at_end (with_time_left kernel time given) (memory_after store memory c) c) came_is
            ∙ ap (λ (m : List ℕ). at_end (with_time_left kernel time given) m came) (sym finds.stored)
            ∙ end_as count (with_time_left kernel time given) (left_stored clock time wait) middle came left_same
            ∙ ap (λ (c : Came ℕ). at_end (left_stored clock time wait) middle c) (sym finds.answered)
            ∙ sym became;
        kernel = ap (λ (d : Did Kernel V). d.state) is;
        left = refl;
        sent = refl;
      }

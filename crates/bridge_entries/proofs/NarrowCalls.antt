-- getdents(2) of an o32 program by native calls that take and send nothing.
use Rattle.std.proofs.Common.{◌≡◌, ◌⊎◌, ℕ, ◌+◌, ◌<◌, ◌≤◌, Bool, true, false, List, length, None, Some, Option, refl, sym, ap, subst, ◌∙◌, inl, inr, arith, min}
use Rattle.std.specs.List.{flat_map}
use Rattle.std.specs.Prelude.{nat_lt, sum_by}
use Rattle.std.proofs.lemmas.Bool.Decides.{nat_tests}
use Rattle.guest_space.specs.Access.{first_denied, writable_prefix}
use Rattle.guest_space.specs.Bytes.{copied_out}
use Rattle.guest_space.specs.Memory.{Memory}
use Rattle.guest_space.specs.declared.access.Access.TheVariants.{Store}
use Rattle.kernel_core.specs.FileSystem.{IsFileSystem}
use Rattle.kernel_core.specs.declared.error.Errno.{Errno}
use Rattle.kernel_core.specs.declared.error.Errno.TheVariants.{EFAULT}
use Rattle.kernel_core.specs.declared.reply.Reply.{Reply}
use Rattle.kernel_model.specs.Came.{Did, came_as, refused_by, refused_if, done}
use Rattle.kernel_model.specs.ContentRows.{Entry, entries, entries_refusal, fitting, position_after, record_length}
use Rattle.kernel_model.specs.Pipes.{nothing}
use Rattle.kernel_model.specs.State.{Kernel, Files}
use Rattle.kernel_model.specs.Transfers.{moved_to}
use Rattle.kernel_model.specs.Whole.{with_files}
use Rattle.kernel_model.specs.declared.descriptor.Description.{Description}
use Rattle.o32_model.specs.Answered as o32
use Rattle.o32_model.specs.Effects.{Effected}
use Rattle.o32_model.specs.Entries.{entry_form, getdents_row}
use Rattle.o32_model.specs.GuestBytes.{with_stored}
use Rattle.o32_model.specs.Logs.{Kept}
use Rattle.o32_model.specs.Step as o32_step
use Rattle.o32_model.specs.Step.{Guest, O32Step}
use Rattle.o32_model.specs.declared.call_words.CallWords.{CallWords}
use Rattle.outside.specs.Streams.{Contents}
use Rattle.bridge_log.proofs.Filling.{stored_is}
use Rattle.bridge_log.specs.Bounds.{Bounded}
use Rattle.bridge_log.specs.Keeping.{Keeps, reached}
use Rattle.bridge_entries.proofs.AnswerLemmas.{length_narrow}
use Rattle.bridge_entries.proofs.EntriesFound.{Gives, Refuses, found_at}
use Rattle.bridge_entries.proofs.Quietly.{Silent, passed_called, passed_keeps, passed_then}
use Rattle.bridge_entries.proofs.WideCalls.{given_is}
use Rattle.bridge_entries.specs.declared.answers.Answer.{Answer}
use Rattle.bridge_entries.specs.inside.Answers.{IsGiven, narrow}
use Rattle.bridge_entries.specs.inside.Listed.{IsListedBy, did_of}
use Rattle.bridge_entries.specs.inside.Passing.{Passed}

-- One call after the other

pub listed_then : {kernel became between : Kernel} {before midst after : Contents} {left : List ℕ} {old kept new : Kept} (fd size : ℕ) (memory : List ℕ) (reply : Reply) → Passed kernel kernel between before midst left old kept
    → IsListedBy (did_of between fd size size) memory reply × Passed between (did_of between fd size size).state became midst after left kept new
    → IsListedBy (did_of kernel fd size size) memory reply × Passed kernel (did_of kernel fd size size).state became before after left old new
listed_then {kernel} {became} {between} {before} {midst} {after} {left} {old} {kept} {new} fd size memory reply first second =
    let there = subst (λ (k : Kernel). IsListedBy (did_of k fd size size) memory reply × Passed between (did_of k fd size size).state became midst after left kept new) first.same second in
    (there.0, passed_then first there.1)

pub passed_to : {kernel target other became : Kernel} {before after : Contents} {left : List ℕ} {old new : Kept} → target ≡ other → Passed kernel target became before after left old new → Passed kernel other became before after left old new
passed_to {kernel} {target} {other} {became} {before} {after} {left} {old} {new} same passed = subst (λ (k : Kernel). Passed kernel k became before after left old new) same passed

pub moved_then : {kernel state target became between : Kernel} {before midst after : Contents} {left : List ℕ} {old kept new : Kept} (fd place to : ℕ) (d : Description) → Passed kernel state between before midst left old kept
    → Passed between (with_files between (moved_to between.files fd d place)) became midst after left kept new → place ≡ to → with_files state (moved_to state.files fd d to) ≡ target
    → Passed kernel target became before after left old new
moved_then {state = state} fd place to d first second is same =
    passed_then first (passed_to (ap (λ (k : Kernel). with_files k (moved_to k.files fd d place)) first.same ∙ ap (λ (n : ℕ). with_files state (moved_to state.files fd d n)) is ∙ same) second)

-- The records that are given have room.

fits_by : (files after : Files) (found : List Entry) (o : Option Errno) (room : ℕ) (long : Bool) → nat_lt room (sum_by (record_length narrow) found) ≡ long
    → Bounded (λ (bytes : List ℕ). length bytes ≤ room) (came_as (flat_map entry_form.bytes) (refused_by o files (refused_if long EFAULT files (done after found))).came)
fits_by files after found None room true is = tt
fits_by files after found None room false is = let long = length_narrow found in let short : sum_by (record_length narrow) found ≤ room = grind (arith, nat_tests) in omega (arith, long, short)
fits_by files after found (Some error) room long is = tt

narrow_fits : (files : Files) (fd size room : ℕ) → IsFileSystem files.nodes → Bounded (λ (bytes : List ℕ). length bytes ≤ room) (came_as (flat_map entry_form.bytes) (entries files fd narrow size room).came)
narrow_fits files fd size room valid = by (found_at files fd valid) where
  by : Refuses files fd ⊎ Gives files fd → Bounded (λ (bytes : List ℕ). length bytes ≤ room) (came_as (flat_map entry_form.bytes) (entries files fd narrow size room).came)
  by (inl r) = subst (λ (d : Did Files (List Entry)). Bounded (λ (bytes : List ℕ). length bytes ≤ room) (came_as (flat_map entry_form.bytes) d.came)) (sym (r.refuses narrow size room)) tt
  by (inr g) = subst (λ (d : Did Files (List Entry)). Bounded (λ (bytes : List ℕ). length bytes ≤ room) (came_as (flat_map entry_form.bytes) d.came)) (sym (g.gives narrow size room))
      (fits_by files (moved_to files fd g.description (position_after g.description.position (fitting narrow size g.behind))) (fitting narrow size g.behind) (entries_refusal narrow size g.behind) room _ refl)

-- The program's call

module _ (guest : Guest) (kernel : Kernel) (fd buffer size room : ℕ) (old new : Memory) (same : guest.memory ≡ old) (count : room ≡ writable_prefix old.pages buffer size)
    (free : (k : ℕ) → k ≤ room → first_denied Store old.pages buffer k ≡ None) (valid : IsFileSystem kernel.files.nodes) (left : List ℕ) where
  abbrev did : Did Files (List Entry)
  did = entries kernel.files fd narrow size room

  abbrev step : O32Step
  step = getdents_row entry_form kernel guest fd buffer size left

  room_is : writable_prefix guest.memory.pages buffer size ≡ room
  room_is = ap (λ (m : Memory). writable_prefix m.pages buffer size) same ∙ sym count

  abbrev step_with : ℕ → O32Step
  step_with n = o32_step.fills (copied_out guest.memory buffer) guest (record { state = with_files kernel (entries kernel.files fd narrow size n).state; came = came_as (flat_map entry_form.bytes) (entries kernel.files fd narrow size n).came }) left

  step_is : step ≡ step_with room
  unfolding getdents_row
  step_is = ap step_with room_is

  pub silent : Silent (with_files kernel did.state) left step
  silent = subst (λ (s : O32Step). Silent (with_files kernel did.state) left s) (sym step_is) (record { becomes = refl; left_stays = refl; sends = refl })

  module _ (answer : Answer) (words : CallWords) (is_words : guest.words ≡ words) (given : IsGiven words did.came answer) (stored : new ≡ with_stored old buffer answer.bytes.items) where
    memory_is : new ≡ step.memory
    memory_is =
        stored ∙ ap (with_stored old buffer) (given.bytes ∙ sym (given_is entry_form.bytes did.came))
        ∙ stored_is old buffer room (came_as (flat_map entry_form.bytes) did.came) (narrow_fits kernel.files fd size room valid) free
        ∙ ap (λ (m : Memory). o32_step.memory_after (copied_out m buffer) m (came_as (flat_map entry_form.bytes) did.came)) (sym same)
        ∙ ap (λ (s : O32Step). s.memory) (sym step_is)

    outcome_is : answer.outcome ≡ step.outcome
    outcome_is =
        given.outcome ∙ ap (λ (w : CallWords). o32_step.outcome_of (λ (bytes : List ℕ). o32_step.value (length bytes)) w (came_as (flat_map entry_form.bytes) did.came)) (sym is_words)
        ∙ ap (λ (s : O32Step). s.outcome) (sym step_is)

    processor_is : guest.processor ≡ step.processor
    processor_is = ap (λ (s : O32Step). s.processor) (sym step_is)

    module _ {became : Kernel} {before after : Contents} {first last : Kept} (passed : Passed kernel (with_files kernel did.state) became before after left first last) where
      pub narrow_called : before.left ≡ Some left → o32.Called step answer.outcome became new guest.processor before after
      narrow_called told = passed_called answer.outcome new guest.processor step passed silent told outcome_is memory_is processor_is

      pub narrow_keeps : (end : Kept) → end.native ≡ last.native → Effected last.effects end.effects (reached guest.processor old.pages nothing) (reached guest.processor new.pages nothing) → Keeps step kernel left guest first end
      narrow_keeps end native effected =
          passed_keeps end guest step passed silent native
          (subst (λ (m : Memory). Effected last.effects end.effects (reached guest.processor m.pages nothing) (reached guest.processor step.memory.pages nothing)) (sym same)
          (subst (λ (m : Memory). Effected last.effects end.effects (reached guest.processor old.pages nothing) (reached guest.processor m.pages nothing)) memory_is effected))

-- as many bytes are asked for as the program asks for, or as can be stored with a record more
pub asked_is : (size room asked : ℕ) → asked ≡ min size (room + 268) → (asked ≡ size) ⊎ ((asked ≤ size) × (room + 268 ≤ asked))
asked_is size room asked is = by (nat_lt size (room + 268)) refl where
  by : (b : Bool) → nat_lt size (room + 268) ≡ b → (asked ≡ size) ⊎ ((asked ≤ size) × (room + 268 ≤ asked))
  by true less = inl (let l : size < room + 268 = grind (arith, nat_tests) in omega arith)
  by false less = inr (let l : room + 268 ≤ size = grind (arith, nat_tests) in (omega arith, omega arith))

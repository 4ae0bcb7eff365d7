-- What a step leaves of the kernel where it fails or waits, by the row that it applies.
use Rattle.std.proofs.Common.{◌≡◌, ℕ, ◌==◌, ◌∙◌, Bool, true, false, List, [], ◌∷◌, length, zero, suc, refl, sym, ap, subst, inl, inr}
use Rattle.std.specs.Prelude.{pos, neg_ℤ, nat_abs, ◌⊎◌, Option, Some, None, Ok, Err, if◌then◌else◌, ⊤}
use Rattle.std.proofs.lemmas.Bool.{eqb-true}
use Rattle.host_mem.specs.Memory.{bytes_at, is_inside}
use Rattle.kernel_core.specs.declared.error.Errno.TheVariants.{EFAULT, ENOMEM}
use Rattle.kernel_core.specs.declared.reply.Reply.{Reply}
use Rattle.kernel_core.specs.declared.reply.Reply.TheVariants as replies
use Rattle.kernel_model.proofs.refusals.Checks.{done_stays, widened_stays}
use Rattle.kernel_model.specs.Came.{Came, Done, Refused, Waits, Did, Given, done, refused_if, with_given, with_some, came_as, told_as, told_zero}
use Rattle.kernel_model.specs.Laws.{StaysAt, StaysUnlessDone}
use Rattle.kernel_model.specs.Shared.{Errno, Wake}
use Rattle.kernel_model.specs.State.{Files, Kernel}
use Rattle.kernel_model.specs.Whole.{on_files, with_files}
use Rattle.native_calls.proofs.Plain.{ComesPlain, Fine, FineGiven, FineUnlessNull, Plain, done_plain, fine_fault, told_plain, widened_plain}
use Rattle.native_calls.specs.HostBytes.{given, read_as, structure, unless_null}
use Rattle.native_calls.specs.Laws.{IsFailure, LeftByFailure, AsItWas, NotStored, MayLackMemory, MayWaitPartly, TellsOld}
use Rattle.native_calls.specs.Step.{NativeStep, NativeCall, value, failure, reply_to, gives, fills, stored, stores, counted, counts, told_unless_null, stored_unless_null, stores_unless_null}
use Rattle.native_calls.specs.Table.{call_in}
use Rattle.number_tables.specs.Errors.{native_errno}

-- Replies

pub record Leaves (number : ℕ) (kernel : Kernel) (step : NativeStep) : Type 0 where
  pub failed : IsFailure step.reply → LeftByFailure number kernel step
  pub waiting : (wake : Wake) → step.reply ≡ replies.Sleep wake → wake.done ≡ 0 → step.kernel ≡ kernel
  pub partly : (wake : Wake) → step.reply ≡ replies.Sleep wake → (wake.done ≡ 0) ⊎ MayWaitPartly number
  pub lacking : step.reply ≡ failure ENOMEM → MayLackMemory number

abbrev pub number_in : Reply → ℕ
number_in (replies.Done number) = nat_abs number
number_in (replies.Sleep wake) = 0

pub abs_neg : (n : ℕ) → nat_abs (neg_ℤ (pos n)) ≡ n
abs_neg zero = refl
abs_neg (suc n) = refl

pub not_lack : (error : Errno) → Fine error → failure error ≡ failure ENOMEM → ⊥
not_lack error fine same =
    let is : native_errno error ≡ 12 = sym (abs_neg (native_errno error)) ∙ ap number_in same in
    let equal : (native_errno error == 12) ≡ true = ap (λ n. n == 12) is in
    let wrong : true ≡ false = sym equal ∙ fine.fine in
    cc

-- what the value of a row is as a reply: neither a wait nor ENOMEM
pub record IsReady {V : Type 0} (reply_of : V → Reply) : Type 0 where
  pub waits : (found : V) (wake : Wake) → reply_of found ≡ replies.Sleep wake → ⊥
  pub lacks : (found : V) → reply_of found ≡ failure ENOMEM → ⊥

pub number_ready : {V : Type 0} (size : V → ℕ) → IsReady (λ found. value (size found))
number_ready size = record { waits = λ found wake e. cc; lacks = λ found e. cc }

pub room_waits : (room : Bool) (wake : Wake) → (if room then value 0 else failure EFAULT) ≡ replies.Sleep wake → ⊥
room_waits true wake e = cc
room_waits false wake e = cc

pub room_lacks : (room : Bool) → (if room then value 0 else failure EFAULT) ≡ failure ENOMEM → ⊥
room_lacks true e = cc
room_lacks false e = cc

pub stored_ready : (memory : List ℕ) (address : ℕ) → IsReady (stored memory address)
stored_ready memory address = record {
  waits = λ bytes wake e. room_waits (is_inside memory address (length bytes)) wake e;
  lacks = λ bytes e. room_lacks (is_inside memory address (length bytes)) e;
}

module _ {V : Type 0} (reply_of : V → Reply) (ready : IsReady reply_of) where
  pub wait_done : (came : Came V) → ComesPlain false came → (wake : Wake) → reply_to reply_of came ≡ replies.Sleep wake → wake.done ≡ 0
  wait_done (Done found) plain wake e = absurd (ready.waits found wake e)
  wait_done (Refused error) plain wake e = absurd cc
  wait_done (Waits own) plain wake e = let same : own ≡ wake = cc in subst (λ (w : Wake). w.done ≡ 0) same plain

  pub wait_stays : {S : Type 0} (old new : S) (came : Came V) → StaysAt old new came → (wake : Wake) → reply_to reply_of came ≡ replies.Sleep wake
      → wake.done ≡ 0 → new ≡ old
  wait_stays old new (Done found) stays wake e none = absurd (ready.waits found wake e)
  wait_stays old new (Refused error) stays wake e none = stays
  wait_stays old new (Waits own) stays wake e none = let same : own ≡ wake = cc in stays (ap (λ (w : Wake). w.done) same ∙ none)

  pub lack : (partly : Bool) (came : Came V) → ComesPlain partly came → reply_to reply_of came ≡ failure ENOMEM → ⊥
  lack partly (Done found) plain e = ready.lacks found e
  lack partly (Refused error) plain e = not_lack error plain e
  lack partly (Waits own) plain e = cc

pub number_stays : {S V : Type 0} (size : V → ℕ) (old new : S) (came : Came V) → StaysAt old new came
    → IsFailure (reply_to (λ found. value (size found)) came) → new ≡ old
number_stays size old new (Done found) stays failed = absurd failed
number_stays size old new (Refused error) stays failed = stays
number_stays size old new (Waits wake) stays failed = absurd failed

-- Steps

-- a row that a call may apply
pub record IsGood {V : Type 0} (kernel : Kernel) (did : Did Kernel V) : Type 0 where
  pub stays : StaysUnlessDone kernel did
  pub plain : Plain false did

pub on_good : {V : Type 0} (kernel : Kernel) (did : Did Files V) → StaysUnlessDone kernel.files did → Plain false did → IsGood kernel (on_files kernel did)
on_good kernel did stays plain = record { stays = widened_stays (with_files kernel) kernel.files did stays; plain = widened_plain false (with_files kernel) did plain }

pub told_at : {S V W : Type 0} (meaning : V → W) (old new : S) (came : Came V) → StaysAt old new came → StaysAt old new (came_as meaning came)
told_at meaning old new (Done found) stays = tt
told_at meaning old new (Refused error) stays = stays
told_at meaning old new (Waits wake) stays = stays

pub told_good : {V W : Type 0} (meaning : V → W) (kernel : Kernel) (did : Did Kernel V) → IsGood kernel did → IsGood kernel (told_as meaning did)
told_good meaning kernel did good = record {
  stays = record { stays = told_at meaning kernel did.state did.came good.stays.stays };
  plain = told_plain false meaning did good.plain;
}

pub gives_leaves : (number : ℕ) (kernel : Kernel) (memory : List ℕ) (did : Did Kernel ℕ) (left : List ℕ) → IsGood kernel did
    → Leaves number kernel (gives memory did left)
gives_leaves number kernel memory did left good =
    let ready : IsReady value = number_ready (λ n. n) in
    record {
      failed = λ failed. AsItWas (number_stays (λ n. n) kernel did.state did.came good.stays.stays failed);
      waiting = λ wake e none. wait_stays value ready kernel did.state did.came good.stays.stays wake e none;
      partly = λ wake e. inl (wait_done value ready did.came good.plain.plain wake e);
      lacking = λ e. absurd (lack value ready false did.came good.plain.plain e);
    }

pub fills_leaves : (number : ℕ) (kernel : Kernel) (with_bytes : List ℕ → List ℕ) (memory : List ℕ) (did : Did Kernel (List ℕ)) (left : List ℕ) → IsGood kernel did
    → Leaves number kernel (fills with_bytes memory did left)
fills_leaves number kernel with_bytes memory did left good =
    let ready : IsReady (λ (bytes : List ℕ). value (length bytes)) = number_ready length in
    record {
      failed = λ failed. AsItWas (number_stays length kernel did.state did.came good.stays.stays failed);
      waiting = λ wake e none. wait_stays (λ (bytes : List ℕ). value (length bytes)) ready kernel did.state did.came good.stays.stays wake e none;
      partly = λ wake e. inl (wait_done (λ (bytes : List ℕ). value (length bytes)) ready did.came good.plain.plain wake e);
      lacking = λ e. absurd (lack (λ (bytes : List ℕ). value (length bytes)) ready false did.came good.plain.plain e);
    }

-- a row that changes nothing, and whose bytes are stored
pub stores_leaves : (number : ℕ) (kernel : Kernel) (memory : List ℕ) (address : ℕ) (did : Did Kernel (List ℕ)) (left : List ℕ) → did.state ≡ kernel → Plain false did
    → Leaves number kernel (stores memory address did left)
stores_leaves number kernel memory address did left looks plain = record {
  failed = λ failed. AsItWas looks;
  waiting = λ wake e none. looks;
  partly = λ wake e. inl (wait_done (stored memory address) (stored_ready memory address) did.came plain.plain wake e);
  lacking = λ e. absurd (lack (stored memory address) (stored_ready memory address) false did.came plain.plain e);
}

-- a row on files that changes nothing
pub row_stores : {V : Type 0} (number : ℕ) (kernel : Kernel) (memory : List ℕ) (address : ℕ) (bytes_of : V → List ℕ) (did : Did Files V) (left : List ℕ)
    → did.state ≡ kernel.files → Plain false did → Leaves number kernel (stores memory address (told_as bytes_of (on_files kernel did)) left)
row_stores number kernel memory address bytes_of did left looks plain =
    stores_leaves number kernel memory address (told_as bytes_of (on_files kernel did)) left (ap (with_files kernel) looks)
    (told_plain false bytes_of (on_files kernel did) (widened_plain false (with_files kernel) did plain))

counted_waits : (room : Bool) (count : ℕ) (wake : Wake) → (if room then value count else failure EFAULT) ≡ replies.Sleep wake → ⊥
counted_waits true count wake e = cc
counted_waits false count wake e = cc

counted_lacks : (room : Bool) (count : ℕ) → (if room then value count else failure EFAULT) ≡ failure ENOMEM → ⊥
counted_lacks true count e = cc
counted_lacks false count e = cc

counted_ready : (memory : List ℕ) (address : ℕ) → IsReady (counted memory address)
counted_ready memory address = record {
  waits = λ bytes wake e. counted_waits (is_inside memory address (length bytes)) (length bytes) wake e;
  lacks = λ bytes e. counted_lacks (is_inside memory address (length bytes)) (length bytes) e;
}

-- a row that changes nothing, and whose bytes are stored and counted
counts_leaves : (number : ℕ) (kernel : Kernel) (memory : List ℕ) (address : ℕ) (did : Did Kernel (List ℕ)) (left : List ℕ) → did.state ≡ kernel → Plain false did
    → Leaves number kernel (counts memory address did left)
counts_leaves number kernel memory address did left looks plain = record {
  failed = λ failed. AsItWas looks;
  waiting = λ wake e none. looks;
  partly = λ wake e. inl (wait_done (counted memory address) (counted_ready memory address) did.came plain.plain wake e);
  lacking = λ e. absurd (lack (counted memory address) (counted_ready memory address) false did.came plain.plain e);
}

pub row_counts : {V : Type 0} (number : ℕ) (kernel : Kernel) (memory : List ℕ) (address : ℕ) (bytes_of : V → List ℕ) (did : Did Files V) (left : List ℕ)
    → did.state ≡ kernel.files → Plain false did → Leaves number kernel (counts memory address (told_as bytes_of (on_files kernel did)) left)
row_counts number kernel memory address bytes_of did left looks plain =
    counts_leaves number kernel memory address (told_as bytes_of (on_files kernel did)) left (ap (with_files kernel) looks)
    (told_plain false bytes_of (on_files kernel did) (widened_plain false (with_files kernel) did plain))

pub bytes_count : (number : ℕ) (kernel : Kernel) (memory : List ℕ) (address : ℕ) (did : Did Files (List ℕ)) (left : List ℕ)
    → did.state ≡ kernel.files → Plain false did → Leaves number kernel (counts memory address (on_files kernel did) left)
bytes_count number kernel memory address did left looks plain =
    counts_leaves number kernel memory address (on_files kernel did) left (ap (with_files kernel) looks) (widened_plain false (with_files kernel) did plain)

-- A row that waits with nothing done, and may be refused with any error

abbrev pub ComesIdle : {V : Type 0} → Came V → Type 0
ComesIdle (Done found) = ⊤
ComesIdle (Refused error) = ⊤
ComesIdle (Waits wake) = wake.done ≡ 0

pub plain_idle : {V : Type 0} (came : Came V) → ComesPlain false came → ComesIdle came
plain_idle (Done found) plain = tt
plain_idle (Refused error) plain = tt
plain_idle (Waits wake) plain = plain

-- What was there before, or what was taken away, which may not be stored

told_waits : (null room : Bool) (number : ℕ) (wake : Wake)
    → (if null then value number else if room then value number else failure EFAULT) ≡ replies.Sleep wake → ⊥
told_waits true room number wake e = cc
told_waits false room number wake e = counted_waits room number wake e

told_lacks : (null room : Bool) (number : ℕ) → (if null then value number else if room then value number else failure EFAULT) ≡ failure ENOMEM → ⊥
told_lacks true room number e = cc
told_lacks false room number e = counted_lacks room number e

told_fault : (null room : Bool) (number : ℕ) → IsFailure (if null then value number else if room then value number else failure EFAULT)
    → (if null then value number else if room then value number else failure EFAULT) ≡ failure EFAULT
told_fault true room number failed = absurd failed
told_fault false true number failed = absurd failed
told_fault false false number failed = refl

module _ {V : Type 0} (number place : ℕ) (tells : TellsOld number place) (kernel : Kernel) (memory : List ℕ) (address : ℕ) (bytes_of : V → List ℕ)
    (number_of : V → ℕ) where
  abbrev told : V → Reply
  told found = told_unless_null memory address (bytes_of found) (number_of found)

  told_ready : IsReady told
  told_ready = record {
    waits = λ found wake e. told_waits (address == 0) (is_inside memory address (length (bytes_of found))) (number_of found) wake e;
    lacks = λ found e. told_lacks (address == 0) (is_inside memory address (length (bytes_of found))) (number_of found) e;
  }

  told_or_stays : (new : Kernel) (came : Came V) → StaysAt kernel new came → IsFailure (reply_to told came)
      → (new ≡ kernel) ⊎ (reply_to told came ≡ failure EFAULT)
  told_or_stays new (Done found) stays failed =
      inr (told_fault (address == 0) (is_inside memory address (length (bytes_of found))) (number_of found) failed)
  told_or_stays new (Refused error) stays failed = inl stays
  told_or_stays new (Waits wake) stays failed = absurd failed

  wait_idle : (came : Came V) → ComesIdle came → (wake : Wake) → reply_to told came ≡ replies.Sleep wake → wake.done ≡ 0
  wait_idle (Done found) idle wake e = absurd (told_ready.waits found wake e)
  wait_idle (Refused error) idle wake e = absurd cc
  wait_idle (Waits own) idle wake e = let same : own ≡ wake = cc in subst (λ (w : Wake). w.done ≡ 0) same idle

  module _ (did : Did Kernel V) (step : NativeStep) (became : step.kernel ≡ did.state) (replied : step.reply ≡ reply_to told did.came) where
    told_left : (did.state ≡ kernel) ⊎ (reply_to told did.came ≡ failure EFAULT) → LeftByFailure number kernel step
    told_left (inl same) = AsItWas (became ∙ same)
    told_left (inr fault) = NotStored place tells (replied ∙ fault)

    pub told_leaves : StaysUnlessDone kernel did → ComesIdle did.came → (step.reply ≡ failure ENOMEM → MayLackMemory number) → Leaves number kernel step
    told_leaves stays idle lacking = record {
      failed = λ failed. told_left (told_or_stays did.state did.came stays.stays (subst IsFailure replied failed));
      waiting = λ wake e none. became ∙ wait_stays told told_ready kernel did.state did.came stays.stays wake (sym replied ∙ e) none;
      partly = λ wake e. inl (wait_idle did.came idle wake (sym replied ∙ e));
      lacking = lacking;
    }

    pub good_told_leaves : IsGood kernel did → Leaves number kernel step
    good_told_leaves good =
        told_leaves good.stays (plain_idle did.came good.plain.plain)
        (λ e. absurd (lack told told_ready false did.came good.plain.plain (sym replied ∙ e)))

pub old_leaves : (number place : ℕ) → TellsOld number place → (kernel : Kernel) (memory : List ℕ) (address : ℕ) (did : Did Kernel (List ℕ)) (left : List ℕ)
    → IsGood kernel did → Leaves number kernel (stores_unless_null memory address did left)
old_leaves number place tells kernel memory address did left good =
    good_told_leaves number place tells kernel memory address (λ bytes. bytes) (λ _. 0) did (stores_unless_null memory address did left) refl refl good

-- a row that changes nothing, and whose bytes may be wanted nowhere
null_ready : (memory : List ℕ) (address : ℕ) → IsReady (stored_unless_null memory address)
null_ready memory address = record {
  waits = λ bytes wake e. told_waits (address == 0) (is_inside memory address (length bytes)) 0 wake e;
  lacks = λ bytes e. told_lacks (address == 0) (is_inside memory address (length bytes)) 0 e;
}

pub null_leaves : (number : ℕ) (kernel : Kernel) (memory : List ℕ) (address : ℕ) (did : Did Kernel (List ℕ)) (left : List ℕ) → did.state ≡ kernel → Plain false did
    → Leaves number kernel (stores_unless_null memory address did left)
null_leaves number kernel memory address did left looks plain = record {
  failed = λ failed. AsItWas looks;
  waiting = λ wake e none. looks;
  partly = λ wake e. inl (wait_done (stored_unless_null memory address) (null_ready memory address) did.came plain.plain wake e);
  lacking = λ e. absurd (lack (stored_unless_null memory address) (null_ready memory address) false did.came plain.plain e);
}

-- Where a number is the reply, and other things are stored

pub number_leaves : {V : Type 0} (number : ℕ) (kernel : Kernel) (size : V → ℕ) (did : Did Kernel V) (step : NativeStep) → step.kernel ≡ did.state
    → step.reply ≡ reply_to (λ found. value (size found)) did.came → IsGood kernel did → Leaves number kernel step
number_leaves {V} number kernel size did step became replied good =
    let ready : IsReady (λ (found : V). value (size found)) = number_ready size in
    record {
      failed = λ failed. AsItWas (became ∙ number_stays size kernel did.state did.came good.stays.stays (subst IsFailure replied failed));
      waiting = λ wake e none. became ∙ wait_stays (λ (found : V). value (size found)) ready kernel did.state did.came good.stays.stays wake (sym replied ∙ e) none;
      partly = λ wake e. inl (wait_done (λ (found : V). value (size found)) ready did.came good.plain.plain wake (sym replied ∙ e));
      lacking = λ e. absurd (lack (λ (found : V). value (size found)) ready false did.came good.plain.plain (sym replied ∙ e));
    }

-- Rows that change nothing

pub record Looks {V : Type 0} (files : Files) (did : Did Files V) : Type 0 where
  pub same : did.state ≡ files

pub done_looks : {V : Type 0} (files : Files) (found : V) → Looks files (done files found)
done_looks files found = record { same = refl }

pub some_looks : {V A : Type 0} (files : Files) (error : Errno) (found : Option A) (rest : A → Did Files V) → ((value : A) → Looks files (rest value))
    → Looks files (with_some files error found rest)
some_looks files error None rest looks = record { same = refl }
some_looks files error (Some found) rest looks = looks found

pub given_looks : {V A : Type 0} (files : Files) (given : Given A) (rest : A → Did Files V) → ((value : A) → Looks files (rest value))
    → Looks files (with_given files given rest)
given_looks files (Err error) rest looks = record { same = refl }
given_looks files (Ok found) rest looks = looks found

pub if_looks : {V : Type 0} (files : Files) (wrong : Bool) (error : Errno) (rest : Did Files V) → Looks files rest → Looks files (refused_if wrong error files rest)
if_looks files true error rest looks = record { same = refl }
if_looks files false error rest looks = looks

pub choice_looks : {V : Type 0} (files : Files) (test : Bool) (first second : Did Files V) → Looks files first → Looks files second
    → Looks files (if test then first else second)
choice_looks files true first second looks other = looks
choice_looks files false first second looks other = other

pub ruleset looks = (done_looks, some_looks, given_looks, if_looks, choice_looks)

-- What is read from memory

pub given_fine : (found : Option (List ℕ)) → FineGiven (given found)
given_fine None = record { fine = fine_fault }
given_fine (Some bytes) = record { fine = tt }

pub read_fine : {A B : Type 0} (meaning : A → B) (from : Given A) → FineGiven from → FineGiven (read_as meaning from)
read_fine meaning (Err error) fine = record { fine = fine.fine }
read_fine meaning (Ok found) fine = record { fine = tt }

pub null_fine : {A : Type 0} (null : Bool) (there : Given A) → FineGiven there → FineUnlessNull (if null then None else Some there)
null_fine true there fine = record { fine = tt }
null_fine false there fine = record { fine = fine }

pub unless_null_fine : {A : Type 0} (address : ℕ) (there : Given A) → FineGiven there → FineUnlessNull (unless_null address there)
unless_null_fine address there fine = null_fine (address == 0) there fine

pub structure_fine : {A : Type 0} (meaning : List ℕ → A) (memory : List ℕ) (address size : ℕ) → FineGiven (read_as meaning (structure memory address size))
structure_fine meaning memory address size = read_fine meaning (structure memory address size) (given_fine (bytes_at memory address size))

-- Rows whose value is told

pub zero_good : (kernel : Kernel) (did : Did Files (Unit {0})) → StaysUnlessDone kernel.files did → Plain false did → IsGood kernel (told_zero (on_files kernel did))
zero_good kernel did stays plain = told_good (λ _. 0) kernel (on_files kernel did) (on_good kernel did stays plain)

pub zero_on_kernel : (kernel : Kernel) (did : Did Kernel (Unit {0})) → StaysUnlessDone kernel did → Plain false did → IsGood kernel (told_zero did)
zero_on_kernel kernel did stays plain = told_good (λ _. 0) kernel did (record { stays = stays; plain = plain })

pub done_good : (kernel : Kernel) (found : ℕ) → IsGood kernel (done kernel found)
done_good kernel found = record { stays = done_stays kernel kernel found; plain = done_plain false kernel found }

-- Calls of the table

pub record CallLeaves (number : ℕ) (call : NativeCall) : Type 0 where
  pub leaves : (args : List ℕ) (kernel : Kernel) (memory left : List ℕ) → Leaves number kernel (call.step args kernel memory left)

abbrev pub CallsLeave : List NativeCall → Type 0
CallsLeave [] = ⊤
CallsLeave (call ∷ calls) = CallLeaves call.number call × CallsLeave calls

abbrev pub LeavesIfAny : ℕ → Option NativeCall → Type 0
LeavesIfAny number None = ⊤
LeavesIfAny number (Some call) = CallLeaves number call

pub found_leaves : (found : Bool) (number : ℕ) (call : NativeCall) (otherwise : Option NativeCall) → (number == call.number) ≡ found
    → CallLeaves call.number call → LeavesIfAny number otherwise → LeavesIfAny number (if found then Some call else otherwise)
found_leaves true number call otherwise e leaves others = subst (λ n. CallLeaves n call) (sym (eqb-true number call.number e)) leaves
found_leaves false number call otherwise e leaves others = others

pub in_leaves : (calls : List NativeCall) (otherwise : Option NativeCall) (number : ℕ) → CallsLeave calls → LeavesIfAny number otherwise
    → LeavesIfAny number (call_in calls otherwise number)
in_leaves [] otherwise number leave others = others
in_leaves (call ∷ calls) otherwise number leave others =
    found_leaves (number == call.number) number call (call_in calls otherwise number) refl leave.0 (in_leaves calls otherwise number leave.1 others)

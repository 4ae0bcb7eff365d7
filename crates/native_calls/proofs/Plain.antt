-- Rows that are never refused with ENOMEM, and that wait with nothing done yet, or also with a part done: each check, and what follows it.
use Rattle.std.proofs.Common.{◌≡◌, ℕ, ◌==◌, Bool, true, false, refl}
use Rattle.std.specs.Prelude.{Option, Some, None, ok_or, Ok, Err, if◌then◌else◌, ⊤}
use Rattle.kernel_core.specs.declared.error.Errno.TheVariants.{EACCES, EAGAIN, EBADF, EBUSY, EEXIST, EFAULT, EFBIG, EINVAL, EISDIR, ELOOP, EMFILE, ENAMETOOLONG, ENOENT, ENOSPC, ENOTDIR, ENOTEMPTY, ENOTTY, EOVERFLOW, EPERM, EPIPE, ERANGE, ESPIPE, ESRCH}
use Rattle.kernel_model.specs.Came.{Came, Done, Refused, Waits, Did, Given, done, refused, refused_by, refused_if, widened, with_given, with_some, given_or_none, came_as, told_as}
use Rattle.kernel_model.specs.Shared.{Errno}
use Rattle.number_tables.specs.Errors.{native_errno}

-- Errors

-- not ENOMEM, which has the number 12
pub record Fine (error : Errno) : Type 0 where
  pub fine : (native_errno error == 12) ≡ false

pub fine_again : Fine EAGAIN
fine_again = record { fine = refl }

pub fine_descriptor : Fine EBADF
fine_descriptor = record { fine = refl }

pub fine_fault : Fine EFAULT
fine_fault = record { fine = refl }

pub fine_big : Fine EFBIG
fine_big = record { fine = refl }

pub fine_invalid : Fine EINVAL
fine_invalid = record { fine = refl }

pub fine_directory : Fine EISDIR
fine_directory = record { fine = refl }

pub fine_full : Fine EMFILE
fine_full = record { fine = refl }

pub fine_entry : Fine ENOENT
fine_entry = record { fine = refl }

pub fine_space : Fine ENOSPC
fine_space = record { fine = refl }

pub fine_no_directory : Fine ENOTDIR
fine_no_directory = record { fine = refl }

pub fine_terminal : Fine ENOTTY
fine_terminal = record { fine = refl }

pub fine_overflow : Fine EOVERFLOW
fine_overflow = record { fine = refl }

pub fine_pipe : Fine EPIPE
fine_pipe = record { fine = refl }

pub fine_seek : Fine ESPIPE
fine_seek = record { fine = refl }

pub fine_access : Fine EACCES
fine_access = record { fine = refl }

pub fine_busy : Fine EBUSY
fine_busy = record { fine = refl }

pub fine_existing : Fine EEXIST
fine_existing = record { fine = refl }

pub fine_loop : Fine ELOOP
fine_loop = record { fine = refl }

pub fine_long : Fine ENAMETOOLONG
fine_long = record { fine = refl }

pub fine_entries : Fine ENOTEMPTY
fine_entries = record { fine = refl }

pub fine_permission : Fine EPERM
fine_permission = record { fine = refl }

pub fine_range : Fine ERANGE
fine_range = record { fine = refl }

pub fine_process : Fine ESRCH
fine_process = record { fine = refl }

abbrev pub FineIfAny : Option Errno → Type 0
FineIfAny None = ⊤
FineIfAny (Some error) = Fine error

pub record FineOption (found : Option Errno) : Type 0 where
  pub fine : FineIfAny found

abbrev pub FineIfWrong : {A : Type 0} → Given A → Type 0
FineIfWrong (Ok value) = ⊤
FineIfWrong (Err error) = Fine error

pub record FineGiven {A : Type 0} (given : Given A) : Type 0 where
  pub fine : FineIfWrong given

-- what may be an error

pub no_refusal : FineOption None
no_refusal = record { fine = tt }

pub a_refusal : (error : Errno) → Fine error → FineOption (Some error)
a_refusal error fine = record { fine = fine }

pub choice_fine : (test : Bool) (first second : Option Errno) → FineOption first → FineOption second → FineOption (if test then first else second)
choice_fine true first second fine other = fine
choice_fine false first second fine other = other

pub ok_fine : {A : Type 0} (value : A) → FineGiven (Ok value)
ok_fine value = record { fine = tt }

pub err_fine : {A : Type 0} (error : Errno) → Fine error → FineGiven {A = A} (Err error)
err_fine error fine = record { fine = fine }

pub some_or_fine : {A : Type 0} (found : Option A) (error : Errno) → Fine error → FineGiven (ok_or found error)
some_or_fine None error fine = record { fine = fine }
some_or_fine (Some value) error fine = record { fine = tt }

pub test_fine : {A : Type 0} (test : Bool) (first second : Given A) → FineGiven first → FineGiven second → FineGiven (if test then first else second)
test_fine true first second fine other = fine
test_fine false first second fine other = other

-- what is read at a pointer that may be null

abbrev pub FineIfGiven : {A : Type 0} → Option (Given A) → Type 0
FineIfGiven None = ⊤
FineIfGiven (Some given) = FineGiven given

pub record FineUnlessNull {A : Type 0} (given : Option (Given A)) : Type 0 where
  pub fine : FineIfGiven given

pub or_none_fine : {A : Type 0} (given : Option (Given A)) → FineUnlessNull given → FineGiven (given_or_none given)
or_none_fine None fine = record { fine = tt }
or_none_fine (Some (Err error)) fine = record { fine = fine.fine.fine }
or_none_fine (Some (Ok value)) fine = record { fine = tt }

-- Rows. `partly` is whether a row may wait with a part done.

abbrev pub IsWait : Bool → ℕ → Type 0
IsWait true count = ⊤
IsWait false count = count ≡ 0

abbrev pub ComesPlain : {V : Type 0} → Bool → Came V → Type 0
ComesPlain partly (Done value) = ⊤
ComesPlain partly (Refused error) = Fine error
ComesPlain partly (Waits wake) = IsWait partly wake.done

pub record Plain {S V : Type 0} (partly : Bool) (did : Did S V) : Type 0 where
  pub plain : ComesPlain partly did.came

module _ {S V : Type 0} (partly : Bool) (state : S) where
  pub done_plain : (value : V) → Plain partly (done state value)
  done_plain value = record { plain = tt }

  pub refused_plain : (error : Errno) → Fine error → Plain {V = V} partly (refused state error)
  refused_plain error fine = record { plain = fine }

  pub if_plain : (wrong : Bool) (error : Errno) (rest : Did S V) → Fine error → Plain partly rest → Plain partly (refused_if wrong error state rest)
  if_plain true error rest fine h = refused_plain error fine
  if_plain false error rest fine h = h

  pub by_plain : (found : Option Errno) (rest : Did S V) → FineOption found → Plain partly rest → Plain partly (refused_by found state rest)
  by_plain (Some error) rest fine h = refused_plain error fine.fine
  by_plain None rest fine h = h

  pub given_plain : {A : Type 0} (given : Given A) (rest : A → Did S V) → FineGiven given → ((value : A) → Plain partly (rest value))
      → Plain partly (with_given state given rest)
  given_plain (Err error) rest fine h = refused_plain error fine.fine
  given_plain (Ok value) rest fine h = h value

  pub some_plain : {A : Type 0} (error : Errno) (found : Option A) (rest : A → Did S V) → Fine error → ((value : A) → Plain partly (rest value))
      → Plain partly (with_some state error found rest)
  some_plain error None rest fine h = refused_plain error fine
  some_plain error (Some value) rest fine h = h value

-- a choice of two rows
pub choice_plain : {S V : Type 0} (partly test : Bool) (first second : Did S V) → Plain partly first → Plain partly second
    → Plain partly (if test then first else second)
choice_plain partly true first second h g = h
choice_plain partly false first second h g = g

-- a row over a part of the state, and one whose value is another's in other terms
pub widened_plain : {S T V : Type 0} (partly : Bool) (whole : S → T) (did : Did S V) → Plain partly did → Plain partly (widened whole did)
widened_plain partly whole did h = record { plain = h.plain }

came_as_plain : {V W : Type 0} (partly : Bool) (meaning : V → W) (came : Came V) → ComesPlain partly came → ComesPlain partly (came_as meaning came)
came_as_plain partly meaning (Done value) h = tt
came_as_plain partly meaning (Refused error) h = h
came_as_plain partly meaning (Waits wake) h = h

pub told_plain : {S V W : Type 0} (partly : Bool) (meaning : V → W) (did : Did S V) → Plain partly did → Plain partly (told_as meaning did)
told_plain partly meaning did h = record { plain = came_as_plain partly meaning did.came h.plain }

pub ruleset refusals = (fine_access, fine_again, fine_descriptor, fine_busy, fine_existing, fine_fault, fine_big, fine_invalid, fine_directory, fine_loop, fine_full, fine_long, fine_entry, fine_space, fine_no_directory, fine_entries, fine_terminal, fine_overflow, fine_permission, fine_pipe, fine_range, fine_seek, fine_process, no_refusal, a_refusal, choice_fine)

pub ruleset plain = (fine_access, fine_busy, fine_existing, fine_loop, fine_long, fine_entries, fine_permission, fine_range, fine_process, fine_again, fine_descriptor, fine_fault, fine_big, fine_invalid, fine_directory, fine_full, fine_entry, fine_space, fine_no_directory, fine_terminal, fine_overflow, fine_pipe, fine_seek, done_plain, refused_plain, if_plain, by_plain, given_plain, some_plain, choice_plain)

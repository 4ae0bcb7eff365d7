-- A call of a machine is that of the table, or one that sees more and moves nothing where it fails.
use Rattle.std.proofs.Common.{◌≡◌, ℕ, ◌==◌, Bool, true, false, List, refl, sym, subst}
use Rattle.std.specs.Prelude.{T, Option, Some, None, is_some, if◌then◌else◌, ⊤}
use Rattle.kernel_core.specs.declared.error.Errno.TheVariants.{ENOSYS}
use Rattle.kernel_model.specs.Came.{refused}
use Rattle.kernel_model.specs.State.{Kernel}
use Rattle.o32_model.proofs.Quiet.{Quiet, comes_to_quiet, gives_quiet, stores_quiet}
use Rattle.o32_model.specs.Clocks.{clock_gettime_row}
use Rattle.o32_model.specs.Seeing.{SeeingRow, restarted, restart_syscall_row}
use Rattle.o32_model.specs.Step.{Guest, O32Row}
use Rattle.o32_model.specs.Table.{call_of, seeing_call_of, step_of, seeing_step_of, o32_call, machine_call}
use Rattle.o32_model.specs.declared.outcome.Outcome.TheVariants.{Sleep}
use Rattle.o32_model.specs.declared.wait.Seen.{Seen}

-- the table comes first

row_of : (call : Option O32Row) (other : Option SeeingRow) (seen : Seen) (kernel : Kernel) (guest : Guest) (left : List ℕ) → is_some call ≡ true
    → seeing_step_of call other seen kernel guest left ≡ step_of call kernel guest left
row_of None other seen kernel guest left is = absurd (subst T (sym is) tt)
row_of (Some call) other seen kernel guest left is = refl

pub machine_call_is : (seen : Seen) (kernel : Kernel) (guest : Guest) (left : List ℕ) → is_some (call_of guest.words.nr) ≡ true
    → machine_call seen kernel guest left ≡ o32_call kernel guest left
machine_call_is seen kernel guest left is = row_of (call_of guest.words.nr) (seeing_call_of guest.words.nr) seen kernel guest left is

-- Calls that see more

record SeeingQuiet (call : SeeingRow) : Type 0 where
  quiet : (seen : Seen) (kernel : Kernel) (guest : Guest) (left : List ℕ) → Quiet guest left (call.step seen kernel guest left)

abbrev SeeingQuietIfAny : Option SeeingRow → Type 0
SeeingQuietIfAny None = ⊤
SeeingQuietIfAny (Some call) = SeeingQuiet call

found_quiet : (found : Bool) (call : SeeingRow) (otherwise : Option SeeingRow) → SeeingQuiet call → SeeingQuietIfAny otherwise
    → SeeingQuietIfAny (if found then Some call else otherwise)
found_quiet true call otherwise quiet others = quiet
found_quiet false call otherwise quiet others = others

seeing_quiet : (number : ℕ) → SeeingQuietIfAny (seeing_call_of number)
unfolding clock_gettime_row restart_syscall_row
seeing_quiet number =
    found_quiet (number == 4263) _ _ (record { quiet = λ seen kernel guest left. stores_quiet guest _ _ left })
    (found_quiet (number == 4253) _ None
    (record { quiet = λ seen kernel guest left. comes_to_quiet Sleep guest (restarted kernel seen.restart) left }) tt)

step_quiet : (call : Option O32Row) (other : Option SeeingRow) → is_some call ≡ false → SeeingQuietIfAny other → (seen : Seen) (kernel : Kernel)
    (guest : Guest) (left : List ℕ) → Quiet guest left (seeing_step_of call other seen kernel guest left)
step_quiet (Some call) other is quiet seen kernel guest left = absurd (subst T is tt)
step_quiet None None is quiet seen kernel guest left = gives_quiet guest (refused kernel ENOSYS) left
step_quiet None (Some call) is quiet seen kernel guest left = quiet.quiet seen kernel guest left

pub machine_call_quiet : (seen : Seen) (kernel : Kernel) (guest : Guest) (left : List ℕ) → is_some (call_of guest.words.nr) ≡ false
    → Quiet guest left (machine_call seen kernel guest left)
machine_call_quiet seen kernel guest left is =
    step_quiet (call_of guest.words.nr) (seeing_call_of guest.words.nr) is (seeing_quiet guest.words.nr) seen kernel guest left

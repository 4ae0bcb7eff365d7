-- A call that fails moves nothing: the calls on mappings. mprotect alone may fail with a part of its work done.
use Rattle.std.proofs.Common.{◌≡◌, ◌≢◌, ℕ, ◌==◌, ◌*◌, Bool, true, false, List, [], ◌∷◌, refl, arith}
use Rattle.std.specs.Prelude.{Some, None, if◌then◌else◌, ⊤}
use Rattle.std.proofs.lemmas.Bool.Decides.{nat_tests}
use Rattle.guest_space.specs.Memory.{Memory, Pages}
use Rattle.kernel_core.specs.declared.map_flags.MapFlags.{MapFlags}
use Rattle.kernel_model.proofs.refusals.Checks.{some_stays, widened_stays, stays}
use Rattle.kernel_model.specs.Came.{Came, Done, Refused, Waits, Did, told_as}
use Rattle.kernel_model.specs.Laws.{StaysAt, StaysUnlessDone}
use Rattle.kernel_model.specs.State.{Kernel, Files}
use Rattle.o32_model.proofs.Quiet.{Quiet, CallQuiet, QuietIfAny}
use Rattle.o32_model.specs.Laws.{IsFailure, mprotect_number}
use Rattle.o32_model.specs.Mappings.{Wish, brk, maps, mapped_as, mmap, mmap_in, munmap, msync, madvise, at_page, mremap, map_calls}
use Rattle.o32_model.specs.Ranges.{page_size, enlarged, resized}
use Rattle.o32_model.specs.Step.{Guest, O32Row, value, outcome_of}
use Rattle.o32_model.specs.Table.{call_in}
use Rattle.o32_model.specs.declared.call_words.CallWords.{CallWords}

stays_failed : (words : CallWords) (memory new : Memory) (came : Came ℕ) → StaysAt memory new came → IsFailure (outcome_of value words came) → new ≡ memory
stays_failed words memory new (Done number) same failed = absurd failed
stays_failed words memory new (Refused error) same failed = same
stays_failed words memory new (Waits wake) same failed = absurd failed

maps_quiet : (kernel : Kernel) (guest : Guest) (did : Did Memory ℕ) (left : List ℕ) → StaysUnlessDone guest.memory did → Quiet guest left (maps kernel guest did left)
maps_quiet kernel guest did left same = λ failed. record {
  stored = stays_failed guest.words guest.memory did.state did.came same.stays failed;
  set = refl;
  rest = refl;
  sent = refl;
}

brk_stays : (memory : Memory) (wish : ℕ) → StaysUnlessDone memory (brk memory wish)
unfolding brk
brk_stays memory wish = record { stays = tt }

mapped_as_stays : (files : Files) (memory : Memory) (wish : Wish) (flags : MapFlags) → StaysUnlessDone memory (mapped_as files memory wish flags)
mapped_as_stays files memory wish flags = search stays

mmap_stays : (files : Files) (memory : Memory) (wish : Wish) (flags : ℕ) → StaysUnlessDone memory (mmap files memory wish flags)
unfolding mmap
mmap_stays files memory wish flags = some_stays memory _ _ _ (mapped_as_stays files memory wish)

mmap_in_stays : (unit : ℕ) (kernel : Kernel) (guest : Guest) → StaysUnlessDone guest.memory (mmap_in unit kernel guest)
mmap_in_stays unit kernel guest = search (stays, mmap_stays)

munmap_stays : (memory : Memory) (address length : ℕ) → StaysUnlessDone memory (munmap memory address length)
unfolding munmap
munmap_stays memory address length = search stays

msync_stays : (memory : Memory) (address length flags : ℕ) → StaysUnlessDone memory (msync memory address length flags)
unfolding msync
msync_stays memory address length flags = search stays

madvise_stays : (memory : Memory) (address advice : ℕ) → StaysUnlessDone memory (madvise memory address advice)
unfolding madvise
madvise_stays memory address advice = search stays

told_stays : {S : Type 0} (meaning : ℕ → ℕ) (state : S) (did : Did S ℕ) → StaysUnlessDone state did → StaysUnlessDone state (told_as meaning did)
told_stays {S = S} meaning state did same = record { stays = at did.state did.came same.stays } where
  at : (new : S) (came : Came ℕ) → StaysAt state new came → StaysAt state new (told_as meaning (record { state = new; came = came })).came
  at new (Done number) same = tt
  at new (Refused error) same = same
  at new (Waits wake) same = same

enlarged_stays : (pages : Pages) (first old new : ℕ) (may_move : Bool) → StaysUnlessDone pages (enlarged pages first old new may_move)
enlarged_stays pages first old new may_move = search stays

resized_stays : (pages : Pages) (first old new : ℕ) (may_move : Bool) → StaysUnlessDone pages (resized pages first old new may_move)
unfolding resized
resized_stays pages first old new may_move = search (stays, enlarged_stays)

at_page_stays : (memory : Memory) (did : Did Pages ℕ) → StaysUnlessDone memory.pages did → StaysUnlessDone memory (at_page memory did)
at_page_stays memory did same =
    told_stays (λ first. first * page_size) memory _ (widened_stays (λ pages. record memory { pages = pages }) memory.pages did same)

mremap_stays : (memory : Memory) (address old new flags : ℕ) → StaysUnlessDone memory (mremap memory address old new flags)
unfolding mremap
mremap_stays memory address old new flags = search (stays, at_page_stays, resized_stays)

-- The calls of the table, each where it is meant

abbrev QuietWhereMeant : ℕ → List O32Row → Type 0
QuietWhereMeant number [] = ⊤
QuietWhereMeant number (call ∷ calls) = (number ≡ call.number → CallQuiet call) × QuietWhereMeant number calls

meant_quiet : (calls : List O32Row) (number : ℕ) → QuietWhereMeant number calls → QuietIfAny (call_in calls None number)
meant_quiet [] number quiet = tt
meant_quiet (call ∷ calls) number quiet = by_test (number == call.number) refl (meant_quiet calls number quiet.1)
  where
    by_test : (test : Bool) → (number == call.number) ≡ test → QuietIfAny (call_in calls None number)
        → QuietIfAny (if test then Some call else call_in calls None number)
    by_test true same others = quiet.0 (grind (arith, nat_tests))
    by_test false other others = others

pub mappings_quiet : (number : ℕ) → number ≢ mprotect_number → QuietIfAny (call_in map_calls None number)
mappings_quiet number other = meant_quiet map_calls number (
  λ _. record { quiet = λ kernel guest left. maps_quiet kernel guest _ left (brk_stays guest.memory _) },
  (
    λ _. record { quiet = λ kernel guest left. maps_quiet kernel guest _ left (mmap_in_stays 1 kernel guest) },
    (
      λ _. record { quiet = λ kernel guest left. maps_quiet kernel guest _ left (munmap_stays guest.memory _ _) },
      (
        λ same. absurd (other same),
        (
          λ _. record { quiet = λ kernel guest left. maps_quiet kernel guest _ left (msync_stays guest.memory _ _ _) },
          (
            λ _. record { quiet = λ kernel guest left. maps_quiet kernel guest _ left (mremap_stays guest.memory _ _ _ _) },
            (
              λ _. record { quiet = λ kernel guest left. maps_quiet kernel guest _ left (mmap_in_stays page_size kernel guest) },
              (
                λ _. record { quiet = λ kernel guest left. maps_quiet kernel guest _ left (madvise_stays guest.memory _ _) },
                tt,
              ),
            ),
          ),
        ),
      ),
    ),
  ),
)

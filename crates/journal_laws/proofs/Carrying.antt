-- Effects lead on as they do, whatever stands in the slot and whatever was sent before.
use Rattle.std.proofs.Common.{◌≡◌, ℕ, ◌==◌, Bool, true, false, List, [], ◌∷◌, ◌++◌, Option, None, Result, Ok, Err, refl, ap, ◌∙◌, append_assoc}
use Rattle.std.specs.Prelude.{nat_lt, if◌then◌else◌}
use Rattle.guest_space.specs.Memory.{Pages}
use Rattle.kernel_core.specs.declared.record.Effect.{Effect}
use Rattle.kernel_core.specs.declared.record.Effect.TheVariants.{Register, Write, Map, Unmap, Protect, Output}
use Rattle.kernel_model.specs.Pipes.{Sent}
use Rattle.mips_exec.specs.Processor.{Processor}
use Rattle.mips_exec.specs.declared.cpu.Slot.{Slot}
use Rattle.o32_model.specs.Effects.{Difference, Target, after_map, after_output, after_protect, after_register, after_write, carried, carried_all, carried_on, on_pages, on_processor, on_sent}
use Rattle.o32_turns.specs.Runs.{more_sent}
use Rattle.replay_core.specs.Replay as replay

-- with a slot, and behind what was sent before
abbrev pub behind : Option Slot → Sent → Target → Target
behind slot sent target = record {
  processor = record target.processor { slot = slot };
  pages = target.pages;
  sent = more_sent sent target.sent;
}

module _ (slot : Option Slot) (before : Sent) where
  abbrev moved : Result Target Difference → Result Target Difference
  moved (Ok target) = Ok (behind slot before target)
  moved (Err difference) = Err difference

  abbrev slotted : Result Processor Difference → Result Processor Difference
  slotted (Ok processor) = Ok (record processor { slot = slot })
  slotted (Err difference) = Err difference

  sent_on : Result Sent Difference → Result Sent Difference
  sent_on (Ok sent) = Ok (more_sent before sent)
  sent_on (Err difference) = Err difference

  either_slotted : (test : Bool) (a b c d : Result Processor Difference) → a ≡ slotted b → c ≡ slotted d → (if test then a else c) ≡ slotted (if test then b else d)
  either_slotted true a b c d first second = first
  either_slotted false a b c d first second = second

  set_by : (zero_too : Bool) (p : Processor) (registers : List ℕ)
      → (if zero_too then record p { slot = slot } else record p { registers = registers; slot = slot })
      ≡ record (if zero_too then p else record p { registers = registers }) { slot = slot }
  set_by true p registers = refl
  set_by false p registers = refl

  register_moved : (p : Processor) (number value : ℕ) → after_register (record p { slot = slot }) number value ≡ slotted (after_register p number value)
  register_moved p number value =
      either_slotted (nat_lt number 32) _ _ _ _
      (either_slotted (number == 0) _ _ _ _ refl (ap (λ (q : Processor). let r : Result Processor Difference = Ok q in r) (set_by (number == 0) p _)))
      (either_slotted (number == 32) _ _ _ _ refl
      (either_slotted (number == 33) _ _ _ _ refl
      (either_slotted (number == 34) _ _ _ _ refl
      (either_slotted (number == 35) _ _ _ _ refl refl))))

  on_register : (target : Target) (r : Result Processor Difference) → on_processor (behind slot before target) (slotted r) ≡ moved (on_processor target r)
  on_register target (Ok processor) = refl
  on_register target (Err difference) = refl

  on_memory : (target : Target) (r : Result Pages Difference) → on_pages (behind slot before target) r ≡ moved (on_pages target r)
  on_memory target (Ok pages) = refl
  on_memory target (Err difference) = refl

  on_output : (target : Target) (r : Result Sent Difference) → on_sent (behind slot before target) (sent_on r) ≡ moved (on_sent target r)
  unfolding sent_on
  on_output target (Ok sent) = refl
  on_output target (Err difference) = refl

  either_sent : (test : Bool) (a b c d : Result Sent Difference) → a ≡ sent_on b → c ≡ sent_on d → (if test then a else c) ≡ sent_on (if test then b else d)
  either_sent true a b c d first second = first
  either_sent false a b c d first second = second

  output_moved : (sent : Sent) (stream : ℕ) (bytes : List ℕ) → after_output (more_sent before sent) stream bytes ≡ sent_on (after_output sent stream bytes)
  unfolding sent_on
  output_moved sent stream bytes =
      either_sent (stream == 1) _ _ _ _
      (ap (λ (o : List ℕ). let s : Result Sent Difference = Ok (record { out = o; err = before.err ++ sent.err }) in s) (append_assoc before.out sent.out bytes))
      (either_sent (stream == 2) _ _ _ _
      (ap (λ (e : List ℕ). let s : Result Sent Difference = Ok (record { out = before.out ++ sent.out; err = e }) in s) (append_assoc before.err sent.err bytes)) refl)

  one_moved : (target : Target) (effect : Effect) → carried (behind slot before target) effect ≡ moved (carried target effect)
  one_moved target (Register number value) =
      ap (on_processor (behind slot before target)) (register_moved target.processor number value) ∙ on_register target (after_register target.processor number value)
  one_moved target (Write address bytes) = on_memory target (after_write target.pages address bytes)
  one_moved target (Map first count protection) = on_memory target (after_map target.pages first count protection)
  one_moved target (Unmap first count) = refl
  one_moved target (Protect first count protection) = on_memory target (after_protect target.pages first count protection)
  one_moved target (Output stream bytes) =
      ap (on_sent (behind slot before target)) (output_moved target.sent stream bytes) ∙ on_output target (after_output target.sent stream bytes)

  on_moved : (effects : List Effect) (r : Result Target Difference) → carried_on effects (moved r) ≡ moved (carried_on effects r)
  on_moved [] r = refl
  on_moved (effect ∷ effects) (Err difference) = refl
  on_moved (effect ∷ effects) (Ok target) = ap (carried_on effects) (one_moved target effect) ∙ on_moved effects (carried target effect)

-- A replay carries out effects that meet no difference as they are meant.

no_result : (difference : Difference) (target : Target) {A : Type 0} → Err difference ≡ Ok target → A
no_result difference target is = absurd cc

carries_on : (effects : List Effect) (before : Target) (r : Result Target Difference) (to : Target) → carried_on effects r ≡ Ok to
    → replay.carried_on effects before r ≡ record { target = to; difference = None }
carries_on [] before (Ok target) to is = ap (λ (t : Target). let c : replay.Carried = record { target = t; difference = None } in c) (let same : target ≡ to = cc in same)
carries_on [] before (Err difference) to is = absurd cc
carries_on (effect ∷ effects) before (Err difference) to is = absurd cc
carries_on (effect ∷ effects) before (Ok target) to is = carries_on effects target (carried target effect) to is

pub carries_behind : (slot : Option Slot) (sent : Sent) (from to : Target) (effects : List Effect) → carried_all from effects ≡ Ok to
    → replay.carried_all (behind slot sent from) effects ≡ record { target = behind slot sent to; difference = None }
carries_behind slot sent from to effects is =
    carries_on effects (behind slot sent from) (Ok (behind slot sent from)) (behind slot sent to)
    (on_moved slot sent effects (Ok from) ∙ ap (moved slot sent) is)

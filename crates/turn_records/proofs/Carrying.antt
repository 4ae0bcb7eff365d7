-- Effects that set no register lead alike whatever the registers are.
use Rattle.std.proofs.Common.{◌≡◌, ◌⊎◌, ◌<◌, ◌≤◌, ◌^◌, List, length, inl, inr, arith, [], ◌∷◌, ◌++◌, All, Result, Ok, Err, refl, sym, ap, ◌∙◌}
use Rattle.std.proofs.lemmas.List.Elements.{All-nil, All-cons, All-head, All-tail}
use Rattle.guest_space.specs.Memory.{Pages}
use Rattle.journal.specs.Form as form
use Rattle.kernel_core.specs.declared.record.Effect.{Effect}
use Rattle.kernel_core.specs.declared.record.Effect.TheVariants.{Register, Write, Map, Unmap, Protect, Output}
use Rattle.kernel_model.specs.Pipes.{Sent}
use Rattle.mips_exec.specs.Processor.{Processor}
use Rattle.o32_model.specs.Effects.{Difference, IsFormed, Target, after_map, after_output, after_protect, after_write, carried, carried_all, carried_on, on_pages, on_sent}
use Rattle.turn_records.specs.inside.Setting.{target_at}

-- One after the other

carried_on-differs : (effects : List Effect) (difference : Difference) → carried_on effects (Err difference) ≡ Err difference
carried_on-differs [] difference = refl
carried_on-differs (effect ∷ effects) difference = refl

pub carried_on-append : (first second : List Effect) (reached : Result Target Difference) → carried_on (first ++ second) reached ≡ carried_on second (carried_on first reached)
carried_on-append [] second reached = refl
carried_on-append (effect ∷ first) second (Err difference) = sym (carried_on-differs second difference)
carried_on-append (effect ∷ first) second (Ok target) = carried_on-append first second (carried target effect)

-- With other registers

module _ (other : Processor) where
  abbrev moved : Result Target Difference → Result Target Difference
  moved (Ok target) = Ok (record target { processor = other })
  moved (Err difference) = Err difference

  pages_moved : (target : Target) (result : Result Pages Difference) → on_pages (record target { processor = other }) result ≡ moved (on_pages target result)
  pages_moved target (Ok pages) = refl
  pages_moved target (Err difference) = refl

  sent_moved : (target : Target) (result : Result Sent Difference) → on_sent (record target { processor = other }) result ≡ moved (on_sent target result)
  sent_moved target (Ok sent) = refl
  sent_moved target (Err difference) = refl

  one_moved : (target : Target) (effect : Effect) → IsFormed effect → carried (record target { processor = other }) effect ≡ moved (carried target effect)
  one_moved target (Register number value) formed = absurd formed
  one_moved target (Write address bytes) formed = pages_moved target (after_write target.pages address bytes)
  one_moved target (Map first count protection) formed = pages_moved target (after_map target.pages first count protection)
  one_moved target (Unmap first count) formed = refl
  one_moved target (Protect first count protection) formed = pages_moved target (after_protect target.pages first count protection)
  one_moved target (Output stream bytes) formed = sent_moved target (after_output target.sent stream bytes)

  all_moved : (effects : List Effect) (reached : Result Target Difference) → All IsFormed effects → carried_on effects (moved reached) ≡ moved (carried_on effects reached)
  all_moved [] reached formed = refl
  all_moved (effect ∷ effects) (Err difference) formed = refl
  all_moved (effect ∷ effects) (Ok target) formed =
      ap (carried_on effects) (one_moved target effect (All-head IsFormed effect effects formed))
      ∙ all_moved effects (carried target effect) (All-tail IsFormed effect effects formed)

  pub lead_alike : (processor : Processor) (effects : List Effect) (pages became : Pages) (before after : Sent) → All IsFormed effects
      → carried_all (target_at processor pages before) effects ≡ Ok (target_at processor became after)
      → carried_all (target_at other pages before) effects ≡ Ok (target_at other became after)
  lead_alike processor effects pages became before after formed leads =
      all_moved effects (Ok (target_at processor pages before)) formed ∙ ap moved leads

-- The form that a journal asks for

one_formed : (effect : Effect) → IsFormed effect → form.IsEffect effect
one_formed (Register number value) formed = absurd formed
one_formed (Write address bytes) formed = formed
one_formed (Map first count protection) formed = (record { begins = formed.0.begins; ends = formed.0.ends }, formed.1)
one_formed (Unmap first count) formed = record { begins = formed.begins; ends = formed.ends }
one_formed (Protect first count protection) formed = (record { begins = formed.0.begins; ends = formed.0.ends }, formed.1)
one_formed (Output stream bytes) formed = output formed.0 formed.1 where
  output : (stream ≡ 1) ⊎ (stream ≡ 2) → length bytes < 2 ^ 32 → (1 ≤ stream) × (stream ≤ 2) × (length bytes < 2 ^ 32)
  output (inl is) short = (omega (arith, is), omega (arith, is), short)
  output (inr is) short = (omega (arith, is), omega (arith, is), short)

pub are_effects : (effects : List Effect) → All IsFormed effects → All form.IsEffect effects
are_effects [] formed = All-nil form.IsEffect
are_effects (effect ∷ effects) formed =
    All-cons form.IsEffect effect effects (one_formed effect (All-head IsFormed effect effects formed)) (are_effects effects (All-tail IsFormed effect effects formed))

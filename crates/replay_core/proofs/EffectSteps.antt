-- How one effect after the other makes a record's effects, and what was sent by then.
use Rattle.std.proofs.Common.{◌≡◌, ◌≤◌, ℕ, ◌==◌, Bool, true, false, List, [], ◌∷◌, ◌++◌, Some, None, OnOk, Result, Ok, Err, refl, sym, ap, subst, ◌∙◌, append-nil, if◌then◌else◌, arith}
use Rattle.std.proofs.lemmas.Bool.Decides.{nat_tests}
use Rattle.guest_space.specs.Memory.{Memory, Pages}
use Rattle.guest_space.specs.Remapping.{without}
use Rattle.kernel_core.specs.declared.record.Effect.{Effect}
use Rattle.kernel_core.specs.declared.record.Effect.TheVariants.{Register, Output}
use Rattle.kernel_model.specs.Pipes.{Sent, nothing}
use Rattle.mips_exec.specs.Processor.{Processor}
use Rattle.o32_model.specs.Effects.{Difference, Target, carried, after_register, after_output, on_processor, on_pages, on_sent}
use Rattle.o32_model.specs.Effects.{differs as differs_by}
use Rattle.outside.proofs.OutputLemmas.{GainsText-nothing, GainsText-then, GainsBetween-exact, GainsBetween-lower, GainsBetween-part, GainsBetween-raise}
use Rattle.replay_core.specs.Answered.{Gains, GainsPart, Written}
use Rattle.replay_core.specs.Replay.{Carried, carried_all, carried_on}
use Rattle.replay_core.specs.declared.difference.Halt.{Halt}
use Rattle.replay_core.specs.declared.difference.Halt.TheVariants.{Differs, WriteFault, NoMemory}
use Rattle.replay_core.specs.inside.Parts.{Carries, ChangesPages, Sends, met, sent_to, target_at}
use Rattle.replay_core.proofs.Sending.{Extends, carried_extends, carried_on_extends, extends_same, extends_then, on_pages_extends}

-- What was gained

pub gains_nothing : (held : Written) → Gains held held nothing
gains_nothing held = record { to_out = GainsText-nothing held.out; to_err = GainsText-nothing held.err }

pub part_within : {first now : Written} {low sent high : Sent} → Extends low sent → Extends sent high → Gains first now sent → GainsPart first now low high
part_within low high gains = record {
  to_out = GainsBetween-raise (GainsBetween-lower low.to_out (GainsBetween-exact gains.to_out)) high.to_out;
  to_err = GainsBetween-raise (GainsBetween-lower low.to_err (GainsBetween-exact gains.to_err)) high.to_err;
}

pub part_wider : {first now : Written} {lower low high higher : Sent} → Extends lower low → Extends high higher → GainsPart first now low high → GainsPart first now lower higher
part_wider low high part = record {
  to_out = GainsBetween-raise (GainsBetween-lower low.to_out part.to_out) high.to_out;
  to_err = GainsBetween-raise (GainsBetween-lower low.to_err part.to_err) high.to_err;
}

-- One effect

pub register_carried : (first now : Written) (sent : Sent) (processor after : Processor) (memory : Memory) (number value : ℕ)
    → after_register processor number value ≡ Ok after → Gains first now sent
    → Carries (carried_on [] (target_at processor memory sent) (carried (target_at processor memory sent) (Register number value))) after memory first sent now (Ok tt)
register_carried first now sent processor after memory number value is gains =
    let target = target_at processor memory sent in
    subst (λ (r : Result Processor Difference). Carries (carried_on [] target (on_processor target r)) after memory first sent now (Ok tt)) (sym is) (refl, gains)

pub pages_carried : (first now : Written) (sent : Sent) (processor : Processor) (before after : Memory) (meant : Result Pages Difference) (result : Result Unit Halt)
    → ChangesPages meant before after result → Gains first now sent
    → Carries (carried_on [] (target_at processor before sent) (on_pages (target_at processor before sent) meant)) processor after first sent now result
pages_carried first now sent processor before after meant (Ok done) changes gains =
    let target = target_at processor before sent in
    subst (λ (r : Result Pages Difference). Carries (carried_on [] target (on_pages target r)) processor after first sent now (Ok done)) (sym changes.0) (refl, gains)
pages_carried first now sent processor before after meant (Err (Differs found)) changes gains =
    let target = target_at processor before sent in
    subst (λ (r : Result Pages Difference). Carries (carried_on [] target (on_pages target r)) processor after first sent now (Err (Differs found))) (sym changes) (refl, gains)
pages_carried first now sent processor before after meant (Err WriteFault) changes gains = absurd changes
pages_carried first now sent processor before after meant (Err NoMemory) changes gains =
    let target = target_at processor before sent in
    part_within (extends_same sent) (carried_on_extends [] target (on_pages target meant) (on_pages_extends target meant)) gains

pub pages_others : (meant : Result Pages Difference) (before after : Memory) (result : Result Unit Halt) → ChangesPages meant before after result
    → OnOk result (after ≡ record before { pages = after.pages })
pages_others meant before after (Ok done) changes = changes.1
pages_others meant before after (Err halt) changes = tt

pub unmap_carried : (first now : Written) (sent : Sent) (processor : Processor) (before after : Memory) (number count : ℕ)
    → after ≡ record before { pages = without before.pages number count } → Gains first now sent
    → Carries (carried_on [] (target_at processor before sent) (Ok (record (target_at processor before sent) { pages = without before.pages number count }))) processor after first sent now (Ok tt)
unmap_carried first now sent processor before after number count is gains =
    (ap (λ (m : Memory). let c : Carried = record { target = target_at processor m sent; difference = None } in c) (sym is), gains)

pub unmap_others : (before after : Memory) (number count : ℕ) → after ≡ record before { pages = without before.pages number count } → after ≡ record before { pages = after.pages }
unmap_others before after number count is =
    is ∙ ap (λ (p : Pages). let m : Memory = record { pages = p; program_break = before.program_break; break_start = before.break_start } in m) (sym (ap (λ (m : Memory). m.pages) is))

abbrev behind : Sent → Sent → Sent
behind sent more = record { out = sent.out ++ more.out; err = sent.err ++ more.err }

output_by : (sent : Sent) (stream : ℕ) (bytes : List ℕ) (is_out is_err : Bool) → (stream == 1) ≡ is_out → (stream == 2) ≡ is_err → 1 ≤ stream → stream ≤ 2 →
    (if is_out then Ok (record sent { out = sent.out ++ bytes }) else (if is_err then Ok (record sent { err = sent.err ++ bytes }) else differs_by stream 0))
    ≡ Ok (behind sent (if is_out then record { out = bytes; err = [] } else record { out = []; err = bytes }))
output_by sent stream bytes true is_err first second low high =
    ap (λ (e : List ℕ). let s : Result Sent Difference = Ok (record { out = sent.out ++ bytes; err = e }) in s) (sym (append-nil sent.err))
output_by sent stream bytes false true first second low high =
    ap (λ (o : List ℕ). let s : Result Sent Difference = Ok (record { out = o; err = sent.err ++ bytes }) in s) (sym (append-nil sent.out))
output_by sent stream bytes false false first second low high = absurd (grind (arith, nat_tests))

is_output : (sent : Sent) (stream : ℕ) (bytes : List ℕ) → 1 ≤ stream → stream ≤ 2 → after_output sent stream bytes ≡ Ok (behind sent (sent_to stream bytes))
is_output sent stream bytes low high = output_by sent stream bytes (stream == 1) (stream == 2) refl refl low high

pub sends_carried : (first before now : Written) (sent : Sent) (processor : Processor) (memory : Memory) (stream : ℕ) (bytes : List ℕ) (result : Result Unit Halt)
    → 1 ≤ stream → stream ≤ 2 → Sends stream bytes before now result → Gains first before sent
    → Carries (carried_on [] (target_at processor memory sent) (carried (target_at processor memory sent) (Output stream bytes))) processor memory first sent now result
sends_carried first before now sent processor memory stream bytes (Ok done) low high sends gains =
    let target = target_at processor memory sent in
    subst (λ (r : Result Sent Difference). Carries (carried_on [] target (on_sent target r)) processor memory first sent now (Ok done)) (sym (is_output sent stream bytes low high))
    (refl, record { to_out = GainsText-then gains.to_out sends.to_out; to_err = GainsText-then gains.to_err sends.to_err })
sends_carried first before now sent processor memory stream bytes (Err (Differs found)) low high sends gains = absurd sends
sends_carried first before now sent processor memory stream bytes (Err WriteFault) low high sends gains =
    let target = target_at processor memory sent in
    subst (λ (r : Result Sent Difference). Carries (carried_on [] target (on_sent target r)) processor memory first sent now (Err WriteFault)) (sym (is_output sent stream bytes low high))
    (record { to_out = GainsBetween-part gains.to_out sends.to_out; to_err = GainsBetween-part gains.to_err sends.to_err })
sends_carried first before now sent processor memory stream bytes (Err NoMemory) low high sends gains =
    let target = target_at processor memory sent in
    subst (λ (r : Result Sent Difference). Carries (carried_on [] target (on_sent target r)) processor memory first sent now (Err NoMemory)) (sym (is_output sent stream bytes low high))
    (record { to_out = GainsBetween-part gains.to_out sends.to_out; to_err = GainsBetween-part gains.to_err sends.to_err })

-- One more effect

goes_on_by : (effects : List Effect) (before later : Target) → carried_on effects before (Ok later) ≡ carried_all later effects
goes_on_by [] before later = refl
goes_on_by (effect ∷ effects) before later = refl

goes_on : (effects : List Effect) (before later : Target) (result : Result Target Difference) → carried_on [] before result ≡ record { target = later; difference = None }
    → carried_on effects before result ≡ carried_all later effects
goes_on effects before later (Err difference) is =
    let not : Some difference ≡ None = ap (λ (c : Carried). c.difference) is in absurd cc
goes_on effects before later (Ok target) is =
    goes_on_by effects before target ∙ ap (λ (t : Target). carried_all t effects) (ap (λ (c : Carried). c.target) is)

stays : (effects : List Effect) (before : Target) (result : Result Target Difference) (difference : Difference) → (carried_on [] before result).difference ≡ Some difference
    → carried_on effects before result ≡ carried_on [] before result
stays effects before (Ok target) difference is = absurd cc
stays [] before (Err other) difference is = refl
stays (effect ∷ effects) before (Err other) difference is = refl

more_effects : (effects : List Effect) (before : Target) (result : Result Target Difference)
    → Extends (carried_on [] before result).target.sent (carried_on effects before result).target.sent
more_effects [] before result = extends_same (carried_on [] before result).target.sent
more_effects (effect ∷ effects) before (Err other) = extends_same before.sent
more_effects (effect ∷ effects) before (Ok target) = carried_on_extends effects target (carried target effect) (carried_extends target effect)

-- all effects are those that are left, where this was sent by now
pub record Going (first : Written) (sent : Sent) (whole : Carried) (rest : Sent → Carried) (now : Written) : Type 0 where
  pub by_now : Sent
  pub gained : Gains first now by_now
  pub more : Extends sent by_now
  pub same : whole ≡ rest by_now

pub going_at_start : (first : Written) (sent : Sent) (rest : Sent → Carried) (now : Written) → Gains first now sent → Going first sent (rest sent) rest now
going_at_start first sent rest now gains = record { by_now = sent; gained = gains; more = extends_same sent; same = refl }

module _ (first : Written) (sent : Sent) (whole : Carried) (held now : Written) (processor after : Processor) (memory later : Memory) (effect : Effect) (effects : List Effect) where
  abbrev one : Sent → Carried
  one s = carried_on [] (target_at processor memory s) (carried (target_at processor memory s) effect)

  pub going_on : (going : Going first sent whole (λ s. carried_all (target_at processor memory s) (effect ∷ effects)) held) → Carries (one going.by_now) after later first going.by_now now (Ok tt)
      → Going first sent whole (λ s. carried_all (target_at after later s) effects) now
  going_on going carries =
      let target = target_at processor memory going.by_now in
      let next = (one going.by_now).target.sent in
      record {
        by_now = next;
        gained = carries.1;
        more = extends_then going.more (carried_on_extends [] target (carried target effect) (carried_extends target effect));
        same = going.same ∙ goes_on effects target (target_at after later next) (carried target effect) carries.0;
      }

  pub going_stops : (halt : Halt) (going : Going first sent whole (λ s. carried_all (target_at processor memory s) (effect ∷ effects)) held)
      → Carries (one going.by_now) after later first going.by_now now (Err halt) → Carries whole after later first sent now (Err halt)
  going_stops (Differs found) going carries =
      let target = target_at processor memory going.by_now in
      let is : whole ≡ one going.by_now = going.same ∙ stays effects target (carried target effect) (met found) carries.0 in
      subst (λ (c : Carried). Carries c after later first sent now (Err (Differs found))) (sym is) carries
  going_stops WriteFault going carries =
      let target = target_at processor memory going.by_now in
      subst (λ (c : Carried). Carries c after later first sent now (Err WriteFault)) (sym going.same) (part_wider going.more (more_effects effects target (carried target effect)) carries)
  going_stops NoMemory going carries =
      let target = target_at processor memory going.by_now in
      subst (λ (c : Carried). Carries c after later first sent now (Err NoMemory)) (sym going.same) (part_wider going.more (more_effects effects target (carried target effect)) carries)

pub going_ends : (first : Written) (sent : Sent) (whole : Carried) (now : Written) (processor : Processor) (memory : Memory) (effects : List Effect) → effects ≡ []
    → Going first sent whole (λ s. carried_all (target_at processor memory s) effects) now → Carries whole processor memory first sent now (Ok tt)
going_ends first sent whole now processor memory effects none going =
    let is : whole ≡ record { target = target_at processor memory going.by_now; difference = None } =
    going.same ∙ ap (λ (l : List Effect). carried_all (target_at processor memory going.by_now) l) none in
    subst (λ (c : Carried). Carries c processor memory first sent now (Ok tt)) (sym is) (refl, going.gained)

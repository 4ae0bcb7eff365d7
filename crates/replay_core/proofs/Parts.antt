-- How the parts of a turn do what they mean.
use Rattle.std.proofs.Common.{◌≡◌, ℕ, ◌+◌, ◌&&◌, not, Bool, true, false, List, [], ◌∷◌, Option, Some, None, OnOk, Result, Ok, Err, refl, sym, ap, subst, ◌∙◌, if◌then◌else◌}
use Rattle.guest_space.specs.Memory.{Memory}
use Rattle.kernel_core.specs.declared.record.Effect.{Effect}
use Rattle.kernel_core.specs.declared.record.Record.{Record}
use Rattle.kernel_core.specs.declared.signal.Sig.{Sig}
use Rattle.kernel_model.specs.Pipes.{Sent}
use Rattle.mips_exec.specs.Processor.{Processor}
use Rattle.mips_exec.specs.Step.{Step, step_of}
use Rattle.mips_exec.specs.declared.execution.Stepped.TheVariants.{Next, Fault}
use Rattle.o32_model.specs.Effects.{Difference}
use Rattle.replay_core.specs.Answered.{Gains, Written}
use Rattle.replay_core.specs.Replay.{Carried, Replay, after_step, before_instruction, before_kind, call_kind, carried_all, carried_unless, comes, counted, differs, ends_killed, first_difference, idle, idle_kind, instruction, instruction_or_none, is_excused, meets, taken, target_of, turn_after, unless_met, with_carried, words_of}
use Rattle.replay_core.specs.declared.difference.Difference as code
use Rattle.replay_core.specs.declared.difference.Halt.{Halt}
use Rattle.replay_core.specs.declared.difference.Halt.TheVariants.{Differs, WriteFault, NoMemory}
use Rattle.replay_core.specs.declared.machine.Machine.{Machine}
use Rattle.replay_core.specs.inside.Parts.{Carries, Comes, Does, Meets, replay_at, call_or_differs, idle_turn, met, take_words, target_at, without_call}
use Rattle.replay_core.proofs.EffectSteps.{part_wider, part_within}
use Rattle.replay_core.proofs.Sending.{Extends, before_further, extends_same, extends_then, instruction_extends, instruction_or_none_further, unless_met_further}

-- A test for a difference

pub meets_so : (machine : Machine) (turns : ℕ) (first now : Written) (sent : Sent) (difference : Option Difference) (result : Result Unit Halt)
    → Meets difference result → Gains first now sent → Comes (meets (replay_at machine turns sent) difference) machine turns first sent now result
meets_so machine turns first now sent difference (Ok done) is gains =
    subst (λ (d : Option Difference). Comes (meets (replay_at machine turns sent) d) machine turns first sent now (Ok done)) (sym is) (refl, gains)
meets_so machine turns first now sent difference (Err (Differs found)) is gains =
    subst (λ (d : Option Difference). Comes (meets (replay_at machine turns sent) d) machine turns first sent now (Err (Differs found))) (sym is) (refl, gains)
meets_so machine turns first now sent difference (Err WriteFault) is gains = absurd is
meets_so machine turns first now sent difference (Err NoMemory) is gains = absurd is

-- A record

pub carry_differs : (old new : Machine) (held : Written) (difference : Option Difference) (effects : List Effect) (halt : Halt) → Meets difference (Err halt)
    → Does (carried_unless difference effects) old new held held (Err halt)
carry_differs old new held difference effects (Differs found) is turns first sent gains =
    subst (λ (d : Option Difference). Comes (carried_unless d effects (replay_at old turns sent)) new turns first sent held (Err (Differs found))) (sym is) (refl, gains)
carry_differs old new held difference effects WriteFault is turns first sent gains = absurd is
carry_differs old new held difference effects NoMemory is turns first sent gains = absurd is

with_carried_so : (old : Machine) (turns : ℕ) (first now : Written) (sent : Sent) (processor : Processor) (memory : Memory) (carried : Carried) (result : Result Unit Halt)
    → Carries carried processor memory first sent now result → OnOk result (memory ≡ record old.space { pages = memory.pages })
    → Comes (with_carried (replay_at old turns sent) carried) (record old { cpu = processor; space = memory }) turns first sent now result
with_carried_so old turns first now sent processor memory carried (Ok done) carries others = (
  ap (λ (c : Carried). with_carried (replay_at old turns sent) c) carries.0
      ∙ ap (λ (m : Memory). let r : Replay = record { processor = processor; memory = m; sent = carried.target.sent; left = old.coming; turns = turns; difference = None } in r) (sym others),
  carries.1,
)
with_carried_so old turns first now sent processor memory carried (Err (Differs found)) carries others = carries
with_carried_so old turns first now sent processor memory carried (Err WriteFault) carries others = carries
with_carried_so old turns first now sent processor memory carried (Err NoMemory) carries others = carries

pub carry_goes : (old : Machine) (before now : Written) (processor : Processor) (memory : Memory) (difference : Option Difference) (effects : List Effect) (result : Result Unit Halt)
    → difference ≡ None
    → ((first : Written) (sent : Sent) → Gains first before sent → Carries (carried_all (target_at (record old.cpu { link = None }) old.space sent) effects) processor memory first sent now result)
    → OnOk result (memory ≡ record old.space { pages = memory.pages })
    → Does (carried_unless difference effects) old (record old { cpu = processor; space = memory }) before now result
carry_goes old before now processor memory difference effects result none carries others turns first sent gains =
    subst (λ (d : Option Difference). Comes (carried_unless d effects (replay_at old turns sent)) (record old { cpu = processor; space = memory }) turns first sent now result) (sym none)
    (with_carried_so old turns first now sent processor memory (carried_all (target_of (replay_at old turns sent)) effects) result (carries first sent gains) others)

pub took : (old new : Machine) (before now : Written) (words : List ℕ) (entry : Record) (left : List Record) (result : Result Unit Halt) → old.coming ≡ entry ∷ left
    → Does (carried_unless (first_difference entry.words words) entry.effects) (record old { coming = left }) new before now result
    → Does (take_words words) old new before now result
took old new before now words entry left result is does turns first sent gains =
    subst (λ (l : List Record). Comes (taken words l (replay_at old turns sent)) new turns first sent now result) (sym is) (does turns first sent gains)

pub took_none : (old : Machine) (held : Written) (words : List ℕ) (left : List Record) → old.coming ≡ [] → left ≡ []
    → Does (take_words words) old (record old { coming = left }) held held (Ok tt)
took_none old held words left none after turns first sent gains =
    let new : Machine = record old { coming = left } in
    subst (λ (l : List Record). Comes (taken words l (replay_at old turns sent)) new turns first sent held (Ok tt)) (sym none)
    (ap (λ (l : List Record). let r : Replay = record { processor = old.cpu; memory = old.space; sent = sent; left = l; turns = turns; difference = None } in r) (none ∙ sym after), gains)

-- Before the instruction

pub before_took : (old new : Machine) (before now : Written) (turn : ℕ) (words : List ℕ) (result : Result Unit Halt) → comes turn before_kind old.coming ≡ true → words ≡ words_of old.cpu
    → Does (take_words words) old new before now result → Does (before_instruction turn) old new before now result
before_took old new before now turn words result is same does turns first sent gains =
    subst (λ (b : Bool). Comes (if b then taken (words_of old.cpu) old.coming (replay_at old turns sent) else replay_at old turns sent) new turns first sent now result) (sym is)
    (subst (λ (w : List ℕ). Comes (taken w old.coming (replay_at old turns sent)) new turns first sent now result) same (does turns first sent gains))

pub before_none : (old : Machine) (held : Written) (turn : ℕ) → comes turn before_kind old.coming ≡ false → Does (before_instruction turn) old old held held (Ok tt)
before_none old held turn is turns first sent gains =
    subst (λ (b : Bool). Comes (if b then taken (words_of old.cpu) old.coming (replay_at old turns sent) else replay_at old turns sent) old turns first sent held (Ok tt)) (sym is) (refl, gains)

-- The instruction

pub called : (old new : Machine) (before now : Written) (turn : ℕ) (words : List ℕ) (result : Result Unit Halt) → comes turn call_kind old.coming ≡ true
    → Does (take_words words) old new before now result → Does (call_or_differs turn words) old new before now result
called old new before now turn words result is does turns first sent gains =
    subst (λ (b : Bool). Comes (if b then taken words old.coming (replay_at old turns sent) else differs 0 1 (replay_at old turns sent)) new turns first sent now result) (sym is) (does turns first sent gains)

pub call_lacks : (old new : Machine) (held : Written) (turn : ℕ) (words : List ℕ) (found : code.Difference) → comes turn call_kind old.coming ≡ false → found ≡ record { wanted = 0; found = 1 }
    → Does (call_or_differs turn words) old new held held (Err (Differs found))
call_lacks old new held turn words found is same turns first sent gains =
    subst (λ (b : Bool). Comes (if b then taken words old.coming (replay_at old turns sent) else differs 0 1 (replay_at old turns sent)) new turns first sent held (Err (Differs found))) (sym is)
    (ap (λ (d : code.Difference). Some (met d)) (sym same), gains)

next_by : (machine : Machine) (turns : ℕ) (sent : Sent) (call excused : Bool) →
    (if call then differs 1 0 (replay_at machine turns sent) else replay_at machine turns sent)
    ≡ meets (replay_at machine turns sent) (if call then Some (record { wanted = 1; found = 0 }) else (if false && not excused then Some (record { wanted = 0; found = 2 }) else None))
next_by machine turns sent true excused = refl
next_by machine turns sent false excused = refl

fault_by : (machine : Machine) (turns : ℕ) (sent : Sent) (call excused : Bool) →
    (if call then differs 1 0 (replay_at machine turns sent) else (if excused then replay_at machine turns sent else differs 0 2 (replay_at machine turns sent)))
    ≡ meets (replay_at machine turns sent) (if call then Some (record { wanted = 1; found = 0 }) else (if true && not excused then Some (record { wanted = 0; found = 2 }) else None))
fault_by machine turns sent true excused = refl
fault_by machine turns sent false true = refl
fault_by machine turns sent false false = refl

pub next_does : (machine : Machine) (held : Written) (turn : ℕ) (words : List ℕ) (result : Result Unit Halt) → Meets (without_call turn false machine.coming) result
    → Does (after_step turn words Next) machine machine held held result
next_does machine held turn words result is turns first sent gains =
    subst (λ (r : Replay). Comes r machine turns first sent held result) (sym (next_by machine turns sent (comes turn call_kind machine.coming) (is_excused turn machine.coming)))
    (meets_so machine turns first held sent (without_call turn false machine.coming) result is gains)

pub fault_does : (machine : Machine) (held : Written) (turn : ℕ) (words : List ℕ) (signal : Sig) (number address : ℕ) (result : Result Unit Halt) → Meets (without_call turn true machine.coming) result
    → Does (after_step turn words (Fault signal number address)) machine machine held held result
fault_does machine held turn words signal number address result is turns first sent gains =
    subst (λ (r : Replay). Comes r machine turns first sent held result) (sym (fault_by machine turns sent (comes turn call_kind machine.coming) (is_excused turn machine.coming)))
    (meets_so machine turns first held sent (without_call turn true machine.coming) result is gains)

pub instructed : (old new : Machine) (before now : Written) (turn : ℕ) (words : List ℕ) (step : Step) (result : Result Unit Halt) → words ≡ words_of old.cpu → step_of old.cpu old.space ≡ step
    → Does (after_step turn words step.came) (record old { cpu = step.processor; space = step.memory }) new before now result → Does (instruction turn) old new before now result
instructed old new before now turn words step result same is does turns first sent gains =
    subst (λ (s : Step). Comes (after_step turn (words_of old.cpu) s.came (record (replay_at old turns sent) { processor = s.processor; memory = s.memory })) new turns first sent now result) (sym is)
    (subst (λ (w : List ℕ). Comes (after_step turn w step.came (record (replay_at old turns sent) { processor = step.processor; memory = step.memory })) new turns first sent now result) same
    (does turns first sent gains))

pub instruction_lacks : (old new : Machine) (held : Written) (turn : ℕ) → Does (instruction turn) old new held held (Err NoMemory)
instruction_lacks old new held turn turns first sent gains = part_within (extends_same sent) (instruction_extends turn (replay_at old turns sent)) gains

-- A turn without an instruction

pub waits : (old : Machine) (held : Written) (words : List ℕ) (entry : Record) (left : List Record) (result : Result Unit Halt) → old.coming ≡ entry ∷ left → words ≡ words_of old.cpu
    → Meets (first_difference entry.words words) result → Does idle_turn old (record old { coming = left }) held held result
waits old held words entry left result is same meets turns first sent gains =
    let new : Machine = record old { coming = left } in
    subst (λ (l : List Record). Comes (idle (words_of old.cpu) l (replay_at old turns sent)) new turns first sent held result) (sym is)
    (meets_so new turns first held sent (first_difference entry.words (words_of old.cpu)) result
    (subst (λ (w : List ℕ). Meets (first_difference entry.words w) result) same meets) gains)

pub waits_none : (old : Machine) (held : Written) (left : List Record) → old.coming ≡ [] → left ≡ [] → Does idle_turn old (record old { coming = left }) held held (Ok tt)
waits_none old held left none after turns first sent gains =
    let new : Machine = record old { coming = left } in
    subst (λ (l : List Record). Comes (idle (words_of old.cpu) l (replay_at old turns sent)) new turns first sent held (Ok tt)) (sym none)
    (ap (λ (l : List Record). let r : Replay = record { processor = old.cpu; memory = old.space; sent = sent; left = l; turns = turns; difference = None } in r) (none ∙ sym after), gains)

pub killed_none : (old : Machine) (held : Written) (turn : ℕ) → ends_killed turn old.coming ≡ true → Does (instruction_or_none turn) old old held held (Ok tt)
killed_none old held turn is turns first sent gains =
    subst (λ (b : Bool). Comes (if b then replay_at old turns sent else (if comes turn idle_kind old.coming then idle (words_of old.cpu) old.coming (replay_at old turns sent) else instruction turn (replay_at old turns sent))) old turns first sent held (Ok tt))
    (sym is) (refl, gains)

pub waiting : (old new : Machine) (held : Written) (turn : ℕ) (result : Result Unit Halt) → ends_killed turn old.coming ≡ false → comes turn idle_kind old.coming ≡ true
    → Does idle_turn old new held held result → Does (instruction_or_none turn) old new held held result
waiting old new held turn result lives is does turns first sent gains =
    subst (λ (b : Bool). Comes (if b then replay_at old turns sent else (if comes turn idle_kind old.coming then idle (words_of old.cpu) old.coming (replay_at old turns sent) else instruction turn (replay_at old turns sent))) new turns first sent held result)
    (sym lives)
    (subst (λ (b : Bool). Comes (if b then idle (words_of old.cpu) old.coming (replay_at old turns sent) else instruction turn (replay_at old turns sent)) new turns first sent held result) (sym is) (does turns first sent gains))

pub working : (old new : Machine) (before now : Written) (turn : ℕ) (result : Result Unit Halt) → ends_killed turn old.coming ≡ false → comes turn idle_kind old.coming ≡ false
    → Does (instruction turn) old new before now result → Does (instruction_or_none turn) old new before now result
working old new before now turn result lives is does turns first sent gains =
    subst (λ (b : Bool). Comes (if b then replay_at old turns sent else (if comes turn idle_kind old.coming then idle (words_of old.cpu) old.coming (replay_at old turns sent) else instruction turn (replay_at old turns sent))) new turns first sent now result)
    (sym lives)
    (subst (λ (b : Bool). Comes (if b then idle (words_of old.cpu) old.coming (replay_at old turns sent) else instruction turn (replay_at old turns sent)) new turns first sent now result) (sym is) (does turns first sent gains))

-- The whole turn

counted_by : (replay : Replay) (difference : Option Difference) → Extends replay.sent (unless_met difference replay (record replay { turns = replay.turns + 1 })).sent
counted_by replay (Some difference) = extends_same replay.sent
counted_by replay None = extends_same replay.sent

-- what a turn sends comes behind what is sent before its instruction
behind_first : (turn : ℕ) (first : Replay) → Extends first.sent (counted (unless_met first.difference first (instruction_or_none turn first))).sent
behind_first turn first =
    let met = unless_met first.difference first (instruction_or_none turn first) in
    extends_then (unless_met_further first.difference first (instruction_or_none turn first) (instruction_or_none_further turn first)).more (counted_by met met.difference)

-- where a difference was met before the instruction, or the turn stopped
pub turn_stops : (old new other : Machine) (before now : Written) (turns : ℕ) (halt : Halt) → Does (before_instruction (turns + 1)) old other before now (Err halt)
    → (first : Written) (sent : Sent) → Gains first before sent → Comes (turn_after (replay_at old turns sent)) new (turns + 1) first sent now (Err halt)
turn_stops old new other before now turns (Differs found) does first sent gains =
    let begun = before_instruction (turns + 1) (replay_at old turns sent) in
    let came = does turns first sent gains in
    let is : counted (unless_met begun.difference begun (instruction_or_none (turns + 1) begun)) ≡ begun =
    ap (λ (d : Option Difference). counted (unless_met d begun (instruction_or_none (turns + 1) begun))) came.0 ∙ ap (λ (d : Option Difference). unless_met d begun (record begun { turns = begun.turns + 1 })) came.0 in
    subst (λ (r : Replay). Comes r new (turns + 1) first sent now (Err (Differs found))) (sym is) came
turn_stops old new other before now turns WriteFault does first sent gains =
    part_wider (extends_same sent) (behind_first (turns + 1) (before_instruction (turns + 1) (replay_at old turns sent))) (does turns first sent gains)
turn_stops old new other before now turns NoMemory does first sent gains =
    part_wider (extends_same sent) (behind_first (turns + 1) (before_instruction (turns + 1) (replay_at old turns sent))) (does turns first sent gains)

counted_so : (machine : Machine) (turns : ℕ) (first now : Written) (low : Sent) (reached : Replay) (result : Result Unit Halt) → Comes reached machine turns first low now result
    → Comes (counted reached) machine (turns + 1) first low now result
counted_so machine turns first now low reached (Ok done) came =
    let is : counted reached ≡ replay_at machine (turns + 1) reached.sent = ap counted came.0 in
    subst (λ (r : Replay). Comes r machine (turns + 1) first low now (Ok done)) (sym is) (refl, came.1)
counted_so machine turns first now low reached (Err (Differs found)) came =
    let is : counted reached ≡ reached = ap (λ (d : Option Difference). unless_met d reached (record reached { turns = reached.turns + 1 })) came.0 in
    subst (λ (r : Replay). Comes r machine (turns + 1) first low now (Err (Differs found))) (sym is) came
counted_so machine turns first now low reached (Err WriteFault) came = part_wider (extends_same low) (counted_by reached reached.difference) came
counted_so machine turns first now low reached (Err NoMemory) came = part_wider (extends_same low) (counted_by reached reached.difference) came

lowered : (machine : Machine) (turns : ℕ) (first now : Written) (lower low : Sent) (reached : Replay) (result : Result Unit Halt) → Extends lower low
    → Comes reached machine turns first low now result → Comes reached machine turns first lower now result
lowered machine turns first now lower low reached (Ok done) extends came = came
lowered machine turns first now lower low reached (Err (Differs found)) extends came = came
lowered machine turns first now lower low reached (Err WriteFault) extends came = part_wider extends (extends_same reached.sent) came
lowered machine turns first now lower low reached (Err NoMemory) extends came = part_wider extends (extends_same reached.sent) came

pub turn_goes : (old middle new : Machine) (before held now : Written) (turns : ℕ) (result : Result Unit Halt) → Does (before_instruction (turns + 1)) old middle before held (Ok tt)
    → Does (instruction_or_none (turns + 1)) middle new held now result
    → (first : Written) (sent : Sent) → Gains first before sent → Comes (turn_after (replay_at old turns sent)) new (turns + 1) first sent now result
turn_goes old middle new before held now turns result begins does first sent gains =
    let turn = turns + 1 in
    let begun = before_instruction turn (replay_at old turns sent) in
    let came = begins turns first sent gains in
    let more : Extends sent begun.sent = (before_further turn (replay_at old turns sent)).more in
    let reached = instruction_or_none turn (replay_at middle turns begun.sent) in
    subst (λ (r : Replay). Comes (counted (unless_met r.difference r (instruction_or_none turn r))) new (turns + 1) first sent now result) (sym came.0)
    (counted_so new turns first now sent reached result (lowered new turns first now sent begun.sent reached result more (does turns first begun.sent came.1)))

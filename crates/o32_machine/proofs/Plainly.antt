-- The calls that ask the kernel for nothing.
use Rattle.std.proofs.Common.{◌≡◌, ◌∙◌, ℕ, List, Option, refl, sym, ap, subst}
use Rattle.bridge_system.specs.Found.{found}
use Rattle.bridge_system.specs.Plain.{leaves}
use Rattle.kernel_model.specs.State.{Kernel}
use Rattle.guest_space.specs.Memory.{Memory}
use Rattle.mips_exec.specs.Processor.{Processor, register}
use Rattle.native_log.specs.NativeLog.{NativeLog}
use Rattle.o32_machine.proofs.Logging.{nothing_logged}
use Rattle.o32_machine.proofs.Turning.{its_turn}
use Rattle.o32_machine.specs.Emulator.{ProcessState, machine_of}
use Rattle.o32_machine.specs.inside.Logging.{LastLogged}
use Rattle.o32_machine.specs.inside.Plainly.{IsPlainly, called_of, with_stack}
use Rattle.o32_calls.specs.Numbers.{bridged_number}
use Rattle.o32_calls.specs.declared.bridged_call.BridgedCall.{BridgedCall}
use Rattle.o32_calls.specs.declared.process.PlainCall.{PlainCall}
use Rattle.o32_model.specs.Step.{O32Step}
use Rattle.o32_model.specs.Table.{machine_call}
use Rattle.o32_model.specs.Words.{call_words, v0}
use Rattle.o32_model.specs.declared.call_words.CallWords.{CallWords}
use Rattle.o32_model.specs.declared.outcome.Outcome.{Outcome}
use Rattle.o32_turns.specs.Instruction.{after_call, seen_of}
use Rattle.o32_turns.specs.Machine.{Turn}
use Rattle.o32_turns.specs.Turn.{after_events}

-- the number of a call's words
words_number : (processor : Processor) (memory : Memory) → (call_words processor memory).nr ≡ register processor v0
unfolding call_words
words_number processor memory = refl

pub plain_words : (call : Option PlainCall) (words : CallWords) (stack : List (Option ℕ)) (processor : Processor) (memory : Memory) → call_words processor memory ≡ with_stack stack words → IsPlainly call (register processor v0) → IsPlainly call words.nr
plain_words call words stack processor memory read there = subst (IsPlainly call) (sym (words_number processor memory) ∙ ap (λ (w : CallWords). w.nr) read) there

pub bridged_words : (call : BridgedCall) (words : CallWords) (processor : Processor) (memory : Memory) → words ≡ call_words processor memory → register processor v0 ≡ bridged_number call → words.nr ≡ bridged_number call
bridged_words call words processor memory read there = ap (λ (w : CallWords). w.nr) read ∙ words_number processor memory ∙ there

-- it takes nothing and sends nothing
module _ (now process : ProcessState) (words : CallWords) (left : List ℕ) (is : process ≡ now) (read : words ≡ call_words process.processor process.memory) (outcome : Outcome) (after : Processor)
    (step : machine_call (seen_of (machine_of process)) process.kernel (found words process.processor process.memory) left ≡ leaves process.kernel left outcome process.memory after) where
  turn_is : after_events process.going.events (after_call (machine_of process) words (leaves process.kernel left outcome process.memory after)) ≡ called_of now left
  turn_is =
      subst (λ (s : O32Step). after_events process.going.events (after_call (machine_of process) words s) ≡ called_of now left) step
      (its_turn now process (seen_of (machine_of process)) words left is refl read)

  pub plain_logged : (became : Kernel) (log : NativeLog) → became ≡ now.kernel → LastLogged now.kernel became left (called_of now left) log log
  plain_logged became log same =
      subst (λ (t : Turn). LastLogged now.kernel became left t log log) turn_is
      (nothing_logged now.kernel became left log same)

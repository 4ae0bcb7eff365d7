-- The calls that wait for descriptors by their numbers: they reach no stream.
use Rattle.std.proofs.Common.{◌≡◌, ℕ, ℤ, List, sym}
use Rattle.kernel_core.specs.declared.reply.Reply.{Reply}
use Rattle.kernel_model.specs.State.{Files, Kernel}
use Rattle.native_calls.specs.Arguments.{argument, word, signed_word}
use Rattle.native_calls.specs.Polls.{SetPlaces, ppoll_row, pselect_row}
use Rattle.native_calls.specs.Step.{NativeStep}
use Rattle.native_kernel.specs.Built.{call_of_groups, poll_groups}
use Rattle.native_kernel.specs.inside.Quiet.{IsQuiet}
use Rattle.native_polls.specs.Answers.{Answers}

-- it changes only host memory
quiet_of : (step : Kernel → List ℕ → NativeStep) (kernel : Kernel) (files : Files) (clock : ℕ) (reply : Reply) (memory : List ℕ)
    → files ≡ kernel.files → clock ≡ kernel.clock → Answers step files clock reply memory → IsQuiet (step kernel) reply kernel memory
quiet_of step kernel files clock reply memory same_files same_clock answers left =
    let answer = answers kernel left (sym same_files) (sym same_clock) in
    record { answered = sym answer.reply; became = sym answer.kernel; stored = sym answer.memory; rest = answer.left; sent = answer.sent }

pub select_call : (nr : ℕ) (args : List ℕ) (kernel : Kernel) (memory stored : List ℕ) (files : Files) (clock : ℕ) (count : ℤ) (reply : Reply)
    → nr ≡ 72 → count ≡ signed_word args 0 → files ≡ kernel.files → clock ≡ kernel.clock
    → Answers (λ kernel left. pselect_row kernel memory count (record { read = argument args 1; write = argument args 2; except = argument args 3 })
    (argument args 4) (argument args 5) left) files clock reply stored
    → IsQuiet (call_of_groups poll_groups nr args kernel memory) reply kernel stored
select_call nr args kernel memory stored files clock count reply number counted same_files same_clock answers =
    let places : SetPlaces = record { read = argument args 1; write = argument args 2; except = argument args 3 } in
    let quiet = quiet_of (λ kernel left. pselect_row kernel memory count places (argument args 4) (argument args 5) left)
    kernel files clock reply stored same_files same_clock answers in
    rw number (rw counted at quiet)

pub poll_call : (nr : ℕ) (args : List ℕ) (kernel : Kernel) (memory stored : List ℕ) (files : Files) (clock count : ℕ) (reply : Reply)
    → nr ≡ 73 → count ≡ word args 1 → files ≡ kernel.files → clock ≡ kernel.clock
    → Answers (λ kernel left. ppoll_row kernel memory (argument args 0) count (argument args 2) (argument args 3) (argument args 4) left)
    files clock reply stored
    → IsQuiet (call_of_groups poll_groups nr args kernel memory) reply kernel stored
poll_call nr args kernel memory stored files clock count reply number counted same_files same_clock answers =
    let quiet = quiet_of (λ kernel left. ppoll_row kernel memory (argument args 0) count (argument args 2) (argument args 3) (argument args 4) left)
    kernel files clock reply stored same_files same_clock answers in
    rw number (rw counted at quiet)

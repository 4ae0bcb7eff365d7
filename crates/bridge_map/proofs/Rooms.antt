-- That a new mapping is not ENOMEM, said of the call of the table.
use Rattle.std.proofs.Common.{◌≡◌, ◌≢◌, ℕ, List, true, Result, Ok, Err, OnErr, sym, ap, ◌∙◌}
use Rattle.guest_space.specs.Memory.{Memory}
use Rattle.kernel_core.specs.declared.core_error.NoMemory.{NoMemory}
use Rattle.kernel_core.specs.declared.error.Errno.TheVariants.{ENOMEM}
use Rattle.kernel_model.specs.Came.{Came, Did, Done, Refused, Waits}
use Rattle.kernel_model.specs.State.{Kernel}
use Rattle.mips_exec.specs.Processor.{Processor}
use Rattle.o32_model.specs.Mappings.{maps}
use Rattle.o32_model.specs.Step.{O32Step, outcome_of, value}
use Rattle.o32_model.specs.Table.{call_of, step_of}
use Rattle.o32_model.specs.declared.call_words.CallWords.{CallWords}
use Rattle.o32_model.specs.declared.outcome.Outcome.{Outcome}
use Rattle.o32_model.specs.declared.outcome.Outcome.TheVariants as outcomes
use Rattle.bridge_map.proofs.Calling.{by_number}
use Rattle.bridge_map.specs.Rows.{HasRoom, guest_of, is_mmap}

no_room : (words : CallWords) (came : Came ℕ) → came ≢ Refused ENOMEM → outcome_of value words came ≢ outcomes.Error ENOMEM
no_room words (Done number) room none = absurd cc
no_room words (Refused error) room none = room (cc)
no_room words (Waits wake) room none = absurd cc

-- a call by its number, where what it maps is not ENOMEM
pub room_by_number : (number : ℕ) (words : CallWords) (memory : Memory) (mapped : Kernel → Processor → Did Memory ℕ) (result : Result Outcome NoMemory) → words.nr ≡ number
    → ((kernel : Kernel) (processor : Processor) (left : List ℕ) → step_of (call_of number) kernel (guest_of words processor memory) left ≡ maps kernel (guest_of words processor memory) (mapped kernel processor) left)
    → OnErr result ((kernel : Kernel) (processor : Processor) → (mapped kernel processor).came ≢ Refused ENOMEM)
    → OnErr result (is_mmap words ≡ true → HasRoom words memory)
room_by_number number words memory mapped (Ok outcome) same is room = tt
room_by_number number words memory mapped (Err error) same is room = λ chosen kernel processor left none.
    no_room words (mapped kernel processor).came (room kernel processor)
    (sym (ap (λ (s : O32Step). s.outcome) (by_number number kernel (guest_of words processor memory) left same ∙ is kernel processor left)) ∙ none)

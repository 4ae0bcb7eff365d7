-- Words of the laws. (The laws are this project's own.)
use Rattle.std.specs.Prelude.{Bool, List, None, [], is_some, option_map, ℕ, ⊤, ◌==◌, ◌∷◌, ◌≡◌}
use Rattle.guest_space.specs.Memory.{MappedPage}
use Rattle.std.specs.FinMap.{get}
use Rattle.std.specs.List.{list_any}
use Rattle.kernel_model.specs.Pipes.{nothing}
use Rattle.kernel_model.specs.State.{Kernel}
use Rattle.o32_calls.specs.Numbers.{io_number, map_number, place_number, poll_number, select_number, system_number, time_number}
use Rattle.o32_calls.specs.declared.descriptors.IoCall.TheVariants.{Write, Writev, Pipe2}
use Rattle.o32_calls.specs.declared.mappings.MapCall.TheVariants.{Mprotect}
use Rattle.o32_calls.specs.declared.names.PlaceCall.TheVariants.{Lseek, Llseek}
use Rattle.o32_calls.specs.declared.process.SystemCall.TheVariants.{Prlimit64}
use Rattle.o32_calls.specs.declared.times.PollCall.TheVariants.{Poll, Ppoll}
use Rattle.o32_calls.specs.declared.times.SelectCall.TheVariants.{Newselect, Pselect6}
use Rattle.o32_calls.specs.declared.times.TimeCall.TheVariants.{Gettimeofday}
use Rattle.o32_model.specs.Small.{small_calls}
use Rattle.o32_model.specs.Step.{Guest, O32Step}
use Rattle.o32_model.specs.Table.{call_in, io_call_or, file_call_or}
use Rattle.o32_model.specs.declared.outcome.Outcome.{Outcome}
use Rattle.o32_model.specs.declared.outcome.Outcome.TheVariants.{Value, Pair, Error, Sleep, Frame, BadFrame, Exit}

-- what a call comes to is an error, or a return that fails
abbrev pub IsFailure : Outcome → Type 0
IsFailure (Value number) = ⊥
IsFailure (Pair first second) = ⊥
IsFailure (Error error) = ⊤
IsFailure (Sleep wait) = ⊥
IsFailure Frame = ⊥
IsFailure BadFrame = ⊤
IsFailure (Exit status) = ⊥

-- memory, the processor and what is left of the input stay, and nothing is sent
pub record MovesNothing (guest : Guest) (left : List ℕ) (step : O32Step) : Type 0 where
  pub stored : step.memory ≡ guest.memory
  pub set : step.processor ≡ guest.processor
  pub rest : step.left ≡ left
  pub sent : step.sent ≡ nothing

-- the call that may fail with a part of the protections changed
abbrev pub mprotect_number : ℕ
mprotect_number = map_number Mprotect

-- a page but for its protection
abbrev pub unprotected : MappedPage → MappedPage
unprotected page = record page { protection = 0 }

-- after it all is as before but protections: each page is there or not as before, with its bytes, and is ready or not as before
pub record ChangesProtections (kernel : Kernel) (guest : Guest) (left : List ℕ) (step : O32Step) : Type 0 where
  pub became : step.kernel ≡ kernel
  pub pages : (number : ℕ) → option_map unprotected (get step.memory.pages number) ≡ option_map unprotected (get guest.memory.pages number)
  pub break : step.memory.program_break ≡ guest.memory.program_break
  pub start : step.memory.break_start ≡ guest.memory.break_start
  pub set : step.processor ≡ guest.processor
  pub rest : step.left ≡ left
  pub sent : step.sent ≡ nothing

-- the calls that may fail with a part stored: gettimeofday, _newselect, poll, pselect6 and ppoll, which store several pieces in order, or what
-- is left of a time
abbrev pub part_numbers : List ℕ
part_numbers = time_number Gettimeofday ∷ select_number Newselect ∷ poll_number Poll ∷ select_number Pselect6 ∷ poll_number Ppoll ∷ []

abbrev pub stores_in_parts : ℕ → Bool
stores_in_parts number = list_any (λ part. number == part) part_numbers

-- the processor and what is left of the input stay, and nothing is sent
pub record SendsNothing (guest : Guest) (left : List ℕ) (step : O32Step) : Type 0 where
  pub set : step.processor ≡ guest.processor
  pub rest : step.left ≡ left
  pub sent : step.sent ≡ nothing

-- whether a number is that of a call on descriptors and what they have open, of a small call, or of a call on files
abbrev pub is_listed_call : ℕ → Bool
is_listed_call number = is_some (io_call_or (call_in small_calls (file_call_or None number) number) number)

-- Of those calls, the ones that may fail with the kernel changed: write(2) and writev(2) post SIGPIPE; lseek(2) and _llseek(2) move, and then
-- the place is too wide or can't be stored; pipe2(2) closes both ends again where they can't be stored; and prlimit(2) has set the new limit
-- where the old one can't be stored.
abbrev pub part_done_numbers : List ℕ
part_done_numbers = io_number Write ∷ place_number Lseek ∷ place_number Llseek ∷ io_number Writev ∷ io_number Pipe2 ∷ system_number Prlimit64 ∷ []

abbrev pub is_part_done : ℕ → Bool
is_part_done number = list_any (λ part. number == part) part_done_numbers

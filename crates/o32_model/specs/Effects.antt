-- What calls do to the machine as a list of effects, and what it is to carry them out. (The journal is this project's own.)
pub use Rattle.o32_model.specs.Ranges.{user_pages}
use Rattle.std.specs.Prelude.{◌≡◌, ◌⊎◌, ℕ, ◌+◌, ◌*◌, ◌^◌, ◌==◌, ◌<◌, ◌≤◌, All, List, [], ◌∷◌, ◌++◌, length, Option, Some, None, Result, Ok, Err, nat_lt, if◌then◌else◌}
use Rattle.guest_space.specs.Access.{first_denied}
use Rattle.guest_space.specs.Bytes.{with_bytes}
use Rattle.guest_space.specs.Mapping.{mapped_run, page_limit, with_protection}
use Rattle.guest_space.specs.Memory.{Pages}
use Rattle.guest_space.specs.Remapping.{without}
use Rattle.guest_space.specs.declared.access.Access.TheVariants.{Store}
use Rattle.guest_space.specs.declared.access.Denied.{Denied}
use Rattle.kernel_core.specs.declared.record.Effect.{Effect}
use Rattle.kernel_core.specs.declared.record.Effect.TheVariants.{Register, Write, Map, Unmap, Protect, Output}
use Rattle.kernel_model.specs.Pipes.{Sent}
use Rattle.mips_exec.specs.Processor.{Processor, with_register}
use Rattle.o32_model.specs.Logs.{with_more}
use Rattle.o32_model.specs.Ranges.{count_with, page_size, with_new_pages}

-- What effects act on: the registers, the pages, and what was sent to the outputs
pub record Target : Type 0 where
  pub processor : Processor
  pub pages : Pages
  pub sent : Sent

-- Where what an effect acts on is not as the effect has it they differ: what it wants there, and what it finds.
pub record Difference : Type 0 where
  pub wanted : ℕ
  pub found : ℕ

abbrev pub differs : {T : Type 0} → ℕ → ℕ → Result T Difference
differs wanted found = Err (record { wanted = wanted; found = found })

-- Registers: 1 to 31 by their numbers, 32 HI, 33 LO, 34 the pc, 35 the thread pointer. Any other number names none, and 0 is found in its place.
abbrev pub after_register : Processor → ℕ → ℕ → Result Processor Difference
after_register processor number value =
    if nat_lt number 32 then (if number == 0 then differs number 0 else Ok (with_register processor number value))
    else (if number == 32 then Ok (record processor { hi = value })
    else (if number == 33 then Ok (record processor { lo = value })
    else (if number == 34 then Ok (record processor { pc = value })
    else (if number == 35 then Ok (record processor { thread_pointer = value })
    else differs number 0))))

-- Pages

-- Each byte has to lie in a page that may be written. Else the address is wanted, and that of the first byte that lies in none is found.

abbrev pub written_unless : Pages → ℕ → List ℕ → Option Denied → Result Pages Difference
written_unless pages address bytes None = Ok (with_bytes pages address bytes)
written_unless pages address bytes (Some denied) = differs address denied.addr

abbrev pub after_write : Pages → ℕ → List ℕ → Result Pages Difference
after_write pages address bytes = written_unless pages address bytes (first_denied Store pages address (length bytes))

-- Pages of zeros, whatever stood there. No more pages than the limit may be mapped then: else the limit is wanted, and the number of pages that would
-- be mapped is found.

abbrev pub mapped_or : ℕ → Option Pages → Result Pages Difference
mapped_or number (Some after) = Ok after
mapped_or number None = differs page_limit number

abbrev pub after_map : Pages → ℕ → ℕ → ℕ → Result Pages Difference
after_map pages first count protection = mapped_or (count_with pages first count) (with_new_pages pages first count protection)

-- Each page has to be there: else the address of the first page is wanted, and that of the first page that isn't there is found.
abbrev pub after_protect : Pages → ℕ → ℕ → ℕ → Result Pages Difference
after_protect pages first count protection =
    let run = mapped_run pages first count in
    if run == count then Ok (with_protection pages first count protection) else differs (first * page_size) ((first + run) * page_size)

-- Outputs: stream 1 is the output, and 2 the error output. Any other number names none, and 0 is found in its place.
abbrev pub after_output : Sent → ℕ → List ℕ → Result Sent Difference
after_output sent stream bytes =
    if stream == 1 then Ok (record sent { out = sent.out ++ bytes })
    else (if stream == 2 then Ok (record sent { err = sent.err ++ bytes })
    else differs stream 0)

-- Carrying out

abbrev pub on_processor : Target → Result Processor Difference → Result Target Difference
on_processor target (Ok processor) = Ok (record target { processor = processor })
on_processor target (Err difference) = Err difference

abbrev pub on_pages : Target → Result Pages Difference → Result Target Difference
on_pages target (Ok pages) = Ok (record target { pages = pages })
on_pages target (Err difference) = Err difference

abbrev pub on_sent : Target → Result Sent Difference → Result Target Difference
on_sent target (Ok sent) = Ok (record target { sent = sent })
on_sent target (Err difference) = Err difference

-- after one effect, or the difference that it meets
abbrev pub carried : Target → Effect → Result Target Difference
carried target (Register number value) = on_processor target (after_register target.processor number value)
carried target (Write address bytes) = on_pages target (after_write target.pages address bytes)
carried target (Map first count protection) = on_pages target (after_map target.pages first count protection)
carried target (Unmap first count) = Ok (record target { pages = without target.pages first count })
carried target (Protect first count protection) = on_pages target (after_protect target.pages first count protection)
carried target (Output stream bytes) = on_sent target (after_output target.sent stream bytes)

-- after effects in order, the first of which that meets a difference ends them

abbrev pub carried_on : List Effect → Result Target Difference → Result Target Difference
carried_on [] reached = reached
carried_on (effect ∷ effects) (Err difference) = Err difference
carried_on (effect ∷ effects) (Ok target) = carried_on effects (carried target effect)

abbrev pub carried_all : Target → List Effect → Result Target Difference
carried_all target effects = carried_on effects (Ok target)

-- A record of the journal has the effects between two instructions or those of a call. No LL before it goes on to an SC behind it.
abbrev pub after_record : Target → List Effect → Result Target Difference
after_record target effects = carried_all (record target { processor = record target.processor { link = None } }) effects

-- What an effect of a call is like: its numbers fit the fields that they are kept in, its pages are some of the program's, a protection has
-- three bits, and an output is one of the two. What is kept while a call is made sets no register: the machine alone sets registers, and
-- adds those effects itself.

pub record ArePages (first count : ℕ) : Type 0 where
  pub begins : first < user_pages
  pub ends : first + count ≤ user_pages

abbrev pub IsFormed : Effect → Type 0
IsFormed (Register number value) = ⊥
IsFormed (Write address bytes) = (address < 2 ^ 32) × (length bytes < 2 ^ 32)
IsFormed (Map first count protection) = ArePages first count × (protection ≤ 7)
IsFormed (Unmap first count) = ArePages first count
IsFormed (Protect first count protection) = ArePages first count × (protection ≤ 7)
IsFormed (Output stream bytes) = ((stream ≡ 1) ⊎ (stream ≡ 2)) × (length bytes < 2 ^ 32)

-- What is kept of effects has become more, and those that came, each formed as one, lead from one state to another.
pub record Effected (old new : Option (List Effect)) (from to : Target) : Type 0 where
  pub more : List Effect
  pub kept : new ≡ with_more old more
  pub formed : All IsFormed more
  pub leads : carried_all from more ≡ Ok to

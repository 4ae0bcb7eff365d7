-- What is said of a row that changes memory alone. (The journal is this project's own.)
use Rattle.std.specs.Prelude.{◌≡◌, ◌≢◌, ℕ, zero, suc, ◌+◌, ◌-◌, ◌*◌, ◌^◌, ◌<◌, ◌≤◌, ◌==◌, ◌&&◌, ◌||◌, not, ⊤, min, Bool, true, false, List, [], ◌∷◌, ◌++◌, Option, Some, None, nat_lt, if◌then◌else◌}
use Rattle.std.specs.FinMap.{get}
use Rattle.guest_space.specs.Mapping.{zero_bytes}
use Rattle.guest_space.specs.Memory.{MappedPage, Memory, Pages}
use Rattle.kernel_core.specs.declared.error.Errno.TheVariants.{ENOMEM}
use Rattle.kernel_core.specs.declared.map_flags.MapFlags.{MapFlags}
use Rattle.kernel_core.specs.Bits.{has}
use Rattle.kernel_model.specs.State.{Files, Kernel}
use Rattle.kernel_model.specs.Came.{Came, Done, Refused, Did, with_given}
use Rattle.o32_calls.specs.Numbers.{map_number}
use Rattle.o32_calls.specs.declared.mappings.MapCall.TheVariants.{Mmap, Mmap2, Mremap}
use Rattle.o32_model.specs.Mappings.{first_bytes, mapped, place_for}
use Rattle.o32_model.specs.Ranges.{page_size, with_new_pages}
use Rattle.o32_model.specs.Step.{Guest, O32Step}
use Rattle.o32_model.specs.Table.{is_map_call, o32_call}
use Rattle.o32_model.specs.Words.{argument}
use Rattle.o32_model.specs.declared.call_words.CallWords.{CallWords}
use Rattle.o32_model.specs.declared.outcome.Outcome.{Outcome}
use Rattle.o32_model.specs.declared.outcome.Outcome.TheVariants as outcomes
use Rattle.kernel_core.specs.declared.record.Effect.{Effect}
use Rattle.kernel_core.specs.declared.record.Effect.TheVariants.{Map, Protect, Unmap, Write}
use Rattle.kernel_model.specs.Pipes.{nothing}
use Rattle.mips_exec.specs.Processor.{Processor}
use Rattle.o32_model.specs.Effects.{Target, Effected, user_pages}
use Rattle.bridge_map.specs.declared.asked.Asked.{Asked}

-- pages as effects act on them, with nothing sent
abbrev pub on_pages : Processor → Pages → Target
on_pages processor pages = record { processor = processor; pages = pages; sent = nothing }

-- What is kept of effects has become more, and those that came lead from the pages before to those after.
abbrev pub Leads : Option (List Effect) → Option (List Effect) → Pages → Pages → Type 0
Leads old new before after = (processor : Processor) → Effected old new (on_pages processor before) (on_pages processor after)

-- Pages of zeros were mapped, or they were more than may be mapped, and nothing changed.
abbrev pub MapsPages : Bool → Pages → Pages → ℕ → ℕ → ℕ → Type 0
MapsPages true before after first count protection = with_new_pages before first count protection ≡ Some after
MapsPages false before after first count protection = (with_new_pages before first count protection ≡ None) × (after ≡ before)

-- an effect on pages that acts on one page or more
abbrev pub ActsOnPages : Effect → Type 0
ActsOnPages (Map first count protection) = 0 < count
ActsOnPages (Unmap first count) = 0 < count
ActsOnPages (Protect first count protection) = 0 < count
ActsOnPages _ = ⊥

-- what a break leads over that moves from one number of pages to another; past user space no page is mapped
abbrev pub break_effects : ℕ → ℕ → List Effect
break_effects from to =
    if nat_lt from to then Map from (to - from) 3 ∷ []
    else (if nat_lt to (min from user_pages) then Unmap to (min from user_pages - to) ∷ []
    else [])

-- new pages at the place that a mapping is given, which begin with these bytes
abbrev pub placed : Memory → MapFlags → ℕ → ℕ → ℕ → List ℕ → Did Memory ℕ
placed memory flags address count protection bytes =
    with_given memory (place_for memory.pages flags address count) (λ first. mapped memory first count protection bytes)

-- A mapping as its words ask for it

pub record IsAsked (asked : Asked) : Type 0 where
  pub some : 0 < asked.count
  pub few : asked.count ≤ 1048576
  pub three_bits : asked.protection ≤ 7
  pub low : asked.offset < 2 ^ 45

-- the bytes of its file, and then its place and the limit
abbrev pub asked_for : Files → Memory → Asked → Did Memory ℕ
asked_for files memory asked =
    with_given memory (first_bytes files asked.flags asked.fd asked.offset asked.count) (λ bytes.
    placed memory asked.flags asked.address asked.count asked.protection bytes)

-- What a change of size leads over, by the pages after it. Of a range that moves each page is mapped and written anew: one that was never
-- written is zeros, and one that was is written before it gets its protection.

abbrev pub page_effects : ℕ → Option MappedPage → List Effect
page_effects number None = []
page_effects number (Some page) =
    if page.ready then Map number 1 3 ∷ Write (number * page_size) page.bytes ∷ Protect number 1 page.protection ∷ []
    else Map number 1 page.protection ∷ []

unfoldable pub pages_effects : Pages → ℕ → ℕ → List Effect
pages_effects pages first zero = []
pages_effects pages first (suc count) = pages_effects pages first count ++ page_effects (first + count) (get pages (first + count))

-- it is taken away where it stood, and stands anew where it goes
abbrev pub move_effects : Pages → ℕ → ℕ → ℕ → List Effect
move_effects pages first old at = if at == first then [] else Unmap first old ∷ pages_effects pages at old

unfoldable pub resize_effects : Pages → ℕ → ℕ → ℕ → ℕ → ℕ → List Effect
resize_effects pages first old new at protection =
    if nat_lt new old then Unmap (first + new) (old - new) ∷ []
    else (if new == old then []
    else move_effects pages first old at ++ Map (at + old) (new - old) protection ∷ [])

-- a page that was never written is zeros
abbrev pub IsWrittenOrZeros : Option MappedPage → Type 0
IsWrittenOrZeros None = ⊤
IsWrittenOrZeros (Some page) = page.ready ≡ false → page.bytes ≡ zero_bytes

abbrev pub came_at : Option ℕ → Came ℕ
came_at None = Refused ENOMEM
came_at (Some at) = Done at

-- A call of the program that leaves the kernel, the input and the processor: what it came to, and memory then
abbrev pub leaves : Kernel → Processor → List ℕ → Outcome → Memory → O32Step
leaves kernel processor left outcome memory =
    record { kernel = kernel; left = left; memory = memory; processor = processor; sent = nothing; outcome = outcome }

abbrev pub guest_of : CallWords → Processor → Memory → Guest
guest_of words processor memory = record { words = words; processor = processor; memory = memory }

-- what is said of such a call: whatever the kernel, the processor and the input, the table says so
abbrev pub IsCallOfMemory : CallWords → Outcome → Memory → Memory → Type 0
IsCallOfMemory words outcome before after =
    (kernel : Kernel) (processor : Processor) (left : List ℕ)
    → o32_call kernel (guest_of words processor before) left ≡ leaves kernel processor left outcome after

-- whatever the kernel, the processor and the input, the call does not come to ENOMEM
abbrev pub HasRoom : CallWords → Memory → Type 0
HasRoom words memory =
    (kernel : Kernel) (processor : Processor) (left : List ℕ)
    → (o32_call kernel (guest_of words processor memory) left).outcome ≢ outcomes.Error ENOMEM

-- MAP_ANONYMOUS of mmap(2) is set in the flags
abbrev pub maps_no_file : CallWords → Bool
maps_no_file words = has (argument words 3) 0x800

-- mmap(2) or mmap2(2)
abbrev pub is_mmap : CallWords → Bool
is_mmap words = words.nr == map_number Mmap || words.nr == map_number Mmap2

-- whether a call asks for pages, and the kernel for nothing: mmap(2) and mmap2(2) of no file, mremap(2)
abbrev pub asks_for_room : CallWords → Bool
asks_for_room words = (is_mmap words && maps_no_file words) || words.nr == map_number Mremap

-- whether a call on mappings asks the kernel for nothing: one that maps no file
abbrev pub is_call_of_memory : CallWords → Bool
is_call_of_memory words = is_map_call words.nr && (not (is_mmap words) || maps_no_file words)

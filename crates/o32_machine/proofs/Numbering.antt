-- A call's row in its group's definition is its row in the whole table; and where no call has a number, no row has it.
use Rattle.std.proofs.Common.{◌≡◌, ℕ, Bool, true, false, List, [], ◌∷◌, Option, Some, None, refl, sym, ap, subst, ◌∙◌, eqb-true}
use Rattle.std.specs.Prelude.{⊤, is_some, ◌==◌}
use Rattle.kernel_model.specs.State.{Kernel}
use Rattle.o32_calls.specs.Numbers.{call_of_number, entries_number, file_number, io_number, map_number, name_number, node_number, open_number, place_number, plain_number, size_number, status_number, system_number, text_number}
use Rattle.o32_calls.specs.declared.descriptors.IoCall.TheVariants.{Read}
use Rattle.o32_calls.specs.declared.descriptors.IoCall.{IoCall}
use Rattle.o32_calls.specs.declared.files.EntriesCall.TheVariants.{Getdents}
use Rattle.o32_calls.specs.declared.files.EntriesCall.{EntriesCall}
use Rattle.o32_calls.specs.declared.files.OpenCall.TheVariants.{Open}
use Rattle.o32_calls.specs.declared.files.OpenCall.{OpenCall}
use Rattle.o32_calls.specs.declared.files.StatusCall.TheVariants.{Stat}
use Rattle.o32_calls.specs.declared.files.StatusCall.{StatusCall}
use Rattle.o32_calls.specs.declared.mappings.MapCall.TheVariants.{Brk}
use Rattle.o32_calls.specs.declared.mappings.MapCall.{MapCall}
use Rattle.o32_calls.specs.declared.names.FileCall.TheVariants.{Name, Node, Text, Size, Place}
use Rattle.o32_calls.specs.declared.names.FileCall.{FileCall}
use Rattle.o32_calls.specs.declared.names.NameCall.TheVariants.{Link}
use Rattle.o32_calls.specs.declared.names.NameCall.{NameCall}
use Rattle.o32_calls.specs.declared.names.NodeCall.TheVariants.{Chdir}
use Rattle.o32_calls.specs.declared.names.NodeCall.{NodeCall}
use Rattle.o32_calls.specs.declared.names.PlaceCall.TheVariants.{Lseek}
use Rattle.o32_calls.specs.declared.names.PlaceCall.{PlaceCall}
use Rattle.o32_calls.specs.declared.names.SizeCall.TheVariants.{Truncate}
use Rattle.o32_calls.specs.declared.names.SizeCall.{SizeCall}
use Rattle.o32_calls.specs.declared.names.TextCall.TheVariants.{Readlink}
use Rattle.o32_calls.specs.declared.names.TextCall.{TextCall}
use Rattle.o32_calls.specs.declared.process.PlainCall.TheVariants.{Exit}
use Rattle.o32_calls.specs.declared.process.PlainCall.{PlainCall}
use Rattle.o32_calls.specs.declared.process.SystemCall.TheVariants.{Getrlimit}
use Rattle.o32_calls.specs.declared.process.SystemCall.{SystemCall}
use Rattle.o32_model.specs.Actions.{action_calls}
use Rattle.o32_model.specs.Clocks.{clock_calls}
use Rattle.o32_model.specs.Descriptors.{descriptor_calls}
use Rattle.o32_model.specs.Entries.{entry_calls}
use Rattle.o32_model.specs.Mappings.{map_calls}
use Rattle.o32_model.specs.Names.{name_calls}
use Rattle.o32_model.specs.NodeCalls.{node_calls}
use Rattle.o32_model.specs.Opening.{opening_calls}
use Rattle.o32_model.specs.Polling.{poll_calls}
use Rattle.o32_model.specs.Returns.{return_calls}
use Rattle.o32_model.specs.Seeing.{SeeingRow}
use Rattle.o32_model.specs.Selecting.{select_calls}
use Rattle.o32_model.specs.Sending.{sending_calls}
use Rattle.o32_model.specs.Sleeps.{sleep_calls}
use Rattle.o32_model.specs.Small.{small_calls}
use Rattle.o32_model.specs.Status.{status_calls}
use Rattle.o32_model.specs.Step.{Guest, O32Row}
use Rattle.o32_model.specs.Suspending.{suspending_calls}
use Rattle.o32_model.specs.Table.{call_in, call_of, file_call_or, io_call_or, machine_call, o32_call, seeing_call_of, seeing_step_of, signal_call_or, step_of, wait_call_or}
use Rattle.o32_model.specs.Terminal.{terminal_calls}
use Rattle.o32_model.specs.Transfers.{transfer_calls}
use Rattle.o32_model.specs.declared.wait.Seen.{Seen}

-- each call of a group has a row in the table

pub io_there : (call : IoCall) → is_some (call_of (io_number call)) ≡ true
io_there Read = refl
io_there _ = refl

pub open_there : (call : OpenCall) → is_some (call_of (open_number call)) ≡ true
open_there Open = refl
open_there _ = refl

pub status_there : (call : StatusCall) → is_some (call_of (status_number call)) ≡ true
status_there Stat = refl
status_there _ = refl

pub entries_there : (call : EntriesCall) → is_some (call_of (entries_number call)) ≡ true
entries_there Getdents = refl
entries_there _ = refl

name_there : (call : NameCall) → is_some (call_of (name_number call)) ≡ true
name_there Link = refl
name_there _ = refl

node_there : (call : NodeCall) → is_some (call_of (node_number call)) ≡ true
node_there Chdir = refl
node_there _ = refl

text_there : (call : TextCall) → is_some (call_of (text_number call)) ≡ true
text_there Readlink = refl
text_there _ = refl

size_there : (call : SizeCall) → is_some (call_of (size_number call)) ≡ true
size_there Truncate = refl
size_there _ = refl

place_there : (call : PlaceCall) → is_some (call_of (place_number call)) ≡ true
place_there Lseek = refl
place_there _ = refl

pub file_there : (call : FileCall) → is_some (call_of (file_number call)) ≡ true
file_there (Name call) = name_there call
file_there (Node call) = node_there call
file_there (Text call) = text_there call
file_there (Size call) = size_there call
file_there (Place call) = place_there call

pub map_there : (call : MapCall) → is_some (call_of (map_number call)) ≡ true
map_there Brk = refl
map_there _ = refl

-- it is that of the whole table

module _ (seen : Seen) (kernel : Kernel) (guest : Guest) (left : List ℕ) where
  of_the_table : (found : Option O32Row) (other : Option SeeingRow) → is_some found ≡ true → step_of found kernel guest left ≡ seeing_step_of found other seen kernel guest left
  of_the_table None other there = absurd cc
  of_the_table (Some call) other there = refl

  pub same : (number : ℕ) → is_some (call_of number) ≡ true → guest.words.nr ≡ number → o32_call kernel guest left ≡ machine_call seen kernel guest left
  same number there is =
      of_the_table (call_of guest.words.nr) (seeing_call_of guest.words.nr) (subst (λ (n : ℕ). is_some (call_of n) ≡ true) (sym is) there)

  -- a small call's row, which is looked up among the small calls alone

  abbrev SmallSame : ℕ → Type 0
  SmallSame number = step_of (call_in small_calls None number) kernel guest left ≡ seeing_step_of (call_of number) (seeing_call_of number) seen kernel guest left

  of_system : (call : SystemCall) → SmallSame (system_number call)
  of_system Getrlimit = refl
  of_system _ = refl

  of_plain : (call : PlainCall) → SmallSame (plain_number call)
  of_plain Exit = refl
  of_plain _ = refl

  pub system_same : (call : SystemCall) → guest.words.nr ≡ system_number call → step_of (call_in small_calls None guest.words.nr) kernel guest left ≡ machine_call seen kernel guest left
  system_same call is = subst SmallSame (sym is) (of_system call)

  pub plain_same : (call : PlainCall) → guest.words.nr ≡ plain_number call → step_of (call_in small_calls None guest.words.nr) kernel guest left ≡ machine_call seen kernel guest left
  plain_same call is = subst SmallSame (sym is) (of_plain call)

-- a number that no call has is not that of a call
no_number : (number other : ℕ) → is_some (call_of_number other) ≡ true → call_of_number number ≡ None → (number == other) ≡ false
no_number number other there none = by (number == other) refl where
  by : (b : Bool) → (number == other) ≡ b → b ≡ false
  by false is = refl
  by true is =
      let found : is_some (call_of_number number) ≡ true = subst (λ (n : ℕ). is_some (call_of_number n) ≡ true) (sym (eqb-true number other is)) there in
      absurd (let wrong : false ≡ true = sym (ap is_some none) ∙ found in cc)

-- the calls of a list are named
abbrev Named : List O32Row → Type 0
Named [] = ⊤
Named (row ∷ rows) = is_some (call_of_number row.number) ≡ true × Named rows

-- a number that no call has is in none of these lists
none_in : (rows : List O32Row) (otherwise : Option O32Row) (number : ℕ) → Named rows → call_of_number number ≡ None → call_in rows otherwise number ≡ otherwise
none_in [] otherwise number named none = refl
none_in (row ∷ rows) otherwise number named none = rw (no_number number row.number named.0 none) (none_in rows otherwise number named.1 none)

module _ (number : ℕ) (none : call_of_number number ≡ None) where
  no_io : (otherwise : Option O32Row) → io_call_or otherwise number ≡ otherwise
  no_io otherwise =
      none_in transfer_calls (call_in descriptor_calls (call_in terminal_calls otherwise number) number) number (refl, (refl, (refl, (refl, (refl, (refl, tt)))))) none
      ∙ none_in descriptor_calls (call_in terminal_calls otherwise number) number (refl, (refl, (refl, (refl, (refl, (refl, (refl, (refl, tt)))))))) none
      ∙ none_in terminal_calls otherwise number (refl, tt) none

  no_small : (otherwise : Option O32Row) → call_in small_calls otherwise number ≡ otherwise
  no_small otherwise =
      none_in small_calls otherwise number
      (refl, (refl, (refl, (refl, (refl, (refl, (refl, (refl, (refl, (refl, (refl, (refl, (refl, (refl, (refl, (refl, (refl, (refl, tt)))))))))))))))))) none

  no_file : (otherwise : Option O32Row) → file_call_or otherwise number ≡ otherwise
  no_file otherwise =
      none_in opening_calls (call_in status_calls (call_in entry_calls (call_in name_calls (call_in node_calls otherwise number) number) number) number) number
      (refl, (refl, (refl, (refl, (refl, tt))))) none
      ∙ none_in status_calls (call_in entry_calls (call_in name_calls (call_in node_calls otherwise number) number) number) number
      (refl, (refl, (refl, (refl, (refl, (refl, (refl, tt))))))) none
      ∙ none_in entry_calls (call_in name_calls (call_in node_calls otherwise number) number) number (refl, (refl, tt)) none
      ∙ none_in name_calls (call_in node_calls otherwise number) number
      (refl, (refl, (refl, (refl, (refl, (refl, (refl, (refl, (refl, (refl, (refl, (refl, (refl, tt))))))))))))) none
      ∙ none_in node_calls otherwise number
      (refl, (refl, (refl, (refl, (refl, (refl, (refl, (refl, (refl, (refl, (refl, (refl, (refl, (refl, (refl, (refl, tt)))))))))))))))) none

  no_wait : (otherwise : Option O32Row) → wait_call_or otherwise number ≡ otherwise
  no_wait otherwise =
      none_in clock_calls (call_in sleep_calls (call_in poll_calls (call_in select_calls otherwise number) number) number) number (refl, (refl, (refl, tt))) none
      ∙ none_in sleep_calls (call_in poll_calls (call_in select_calls otherwise number) number) number (refl, (refl, (refl, (refl, (refl, tt))))) none
      ∙ none_in poll_calls (call_in select_calls otherwise number) number (refl, (refl, tt)) none
      ∙ none_in select_calls otherwise number (refl, (refl, tt)) none

  no_signal : (otherwise : Option O32Row) → signal_call_or otherwise number ≡ otherwise
  no_signal otherwise =
      none_in sending_calls (call_in action_calls (call_in suspending_calls (call_in return_calls otherwise number) number) number) number (refl, (refl, (refl, (refl, tt)))) none
      ∙ none_in action_calls (call_in suspending_calls (call_in return_calls otherwise number) number) number (refl, (refl, (refl, (refl, tt)))) none
      ∙ none_in suspending_calls (call_in return_calls otherwise number) number (refl, (refl, (refl, tt))) none
      ∙ none_in return_calls otherwise number (refl, (refl, tt)) none

  no_map : (otherwise : Option O32Row) → call_in map_calls otherwise number ≡ otherwise
  no_map otherwise = none_in map_calls otherwise number (refl, (refl, (refl, (refl, (refl, (refl, (refl, (refl, tt)))))))) none

  no_call : call_of number ≡ None
  no_call =
      let last = call_in map_calls None number in
      let signals = signal_call_or last number in
      let times = wait_call_or signals number in
      let files = file_call_or times number in
      no_io (call_in small_calls files number) ∙ no_small files ∙ no_file times ∙ no_wait signals ∙ no_signal last ∙ no_map None

  no_seeing_call : seeing_call_of number ≡ None
  no_seeing_call = rw (no_number number 4263 refl none, no_number number 4253 refl none) refl

-- such a call is ENOSYS
pub unlisted : (seen : Seen) (kernel : Kernel) (guest : Guest) (left : List ℕ) → call_of_number guest.words.nr ≡ None → step_of None kernel guest left ≡ machine_call seen kernel guest left
unlisted seen kernel guest left none =
    ap (λ (row : Option O32Row). seeing_step_of row None seen kernel guest left) (sym (no_call guest.words.nr none))
    ∙ ap (λ (row : Option SeeingRow). seeing_step_of (call_of guest.words.nr) row seen kernel guest left) (sym (no_seeing_call guest.words.nr none))

-- What was said of a row over memory, said of the call of the table.
use Rattle.std.proofs.Common.{◌≡◌, ℕ, List, [], Option, Some, Result, Ok, Err, OnOk, refl, sym, ap, subst, ◌∙◌, inl}
use Rattle.guest_space.specs.Memory.{Memory}
use Rattle.kernel_core.specs.declared.core_error.Stop.{Stop}
use Rattle.kernel_core.specs.declared.log_entry.LogEntry.{LogEntry}
use Rattle.kernel_model.specs.Came.{Did}
use Rattle.kernel_model.specs.State.{Kernel}
use Rattle.mips_exec.specs.Processor.{Processor}
use Rattle.native_calls.specs.History.{opening}
use Rattle.o32_model.specs.Answered as o32
use Rattle.o32_model.specs.Effects.{Effected}
use Rattle.o32_model.specs.Logs.{Kept}
use Rattle.o32_model.specs.Mappings.{maps}
use Rattle.o32_model.specs.Step.{Guest, O32Step}
use Rattle.o32_model.specs.Table.{call_of, o32_call, step_of}
use Rattle.o32_model.specs.declared.call_words.CallWords.{CallWords}
use Rattle.o32_model.specs.declared.outcome.Outcome.{Outcome}
use Rattle.outside.proofs.OutputLemmas.{GainsText-nothing}
use Rattle.outside.specs.Output.{GainsText}
use Rattle.outside.specs.Streams.{Contents}
use Rattle.bridge_log.proofs.Histories.{logged_none}
use Rattle.bridge_log.specs.Keeping.{Keeps, Logged}
use Rattle.bridge_map.specs.Rows.{Leads, guest_of, leaves, on_pages}
use Rattle.bridge_map.specs.Shown.{Mapped, Maps, Silent}

-- A row that leaves the kernel

module _ (guest : Guest) (did : Did Memory ℕ) (kernel : Kernel) (left : List ℕ) where
  maps_called : (outcome : Outcome) (became : Kernel) (now : Memory) (before after : Contents) (old new : Kept) → before.left ≡ Some left
      → Mapped did guest.words outcome kernel became left before after guest.memory now old new → o32.Called (maps kernel guest did left) outcome became now guest.processor before after
  maps_called outcome became now before after old new told m = record {
    came = m.came;
    became = m.quiet.stays;
    stored = m.stored;
    set = refl;
    rest = ap (λ (c : Contents). c.left) m.quiet.same ∙ told;
    to_out = subst (λ (c : Contents). GainsText before.out c.out []) (sym m.quiet.same) (GainsText-nothing before.out);
    to_err = subst (λ (c : Contents). GainsText before.err c.err []) (sym m.quiet.same) (GainsText-nothing before.err);
  }

  maps_stopped : (before after : Contents) → Silent before after → o32.Stopped (maps kernel guest did left) before after
  maps_stopped before after silent = record { rest = inl silent.rest; to_out = silent.to_out; to_err = silent.to_err }

  pub maps_answers : (result : Result Outcome Stop) (became : Kernel) (now : Memory) (before after : Contents) (old new : Kept) → before.left ≡ Some left
      → Maps did guest.words result kernel became left before after guest.memory now old new → o32.Answers (maps kernel guest did left) result became now guest.processor before after
  maps_answers (Ok outcome) became now before after old new told m = maps_called outcome became now before after old new told m
  maps_answers (Err stop) became now before after old new told silent = maps_stopped before after silent

  pub maps_keeps : (result : Result Outcome Stop) (became : Kernel) (now : Memory) (before after : Contents) (old new : Kept)
      → Maps did guest.words result kernel became left before after guest.memory now old new → OnOk result (Keeps (maps kernel guest did left) kernel left guest old new)
  maps_keeps (Ok outcome) became now before after old new m = record {
    native = m.quiet.logged;
    effects = subst (λ (x : Memory). Effected old.effects new.effects (on_pages guest.processor guest.memory.pages) (on_pages guest.processor x.pages)) m.stored (m.effects guest.processor);
  }
  maps_keeps (Err stop) became now before after old new silent = tt

-- a call by its number

pub by_number : (number : ℕ) (kernel : Kernel) (guest : Guest) (left : List ℕ) → guest.words.nr ≡ number → o32_call kernel guest left ≡ step_of (call_of number) kernel guest left
by_number number kernel guest left same = ap (λ (n : ℕ). step_of (call_of n) kernel guest left) same

pub row_by_number : (number : ℕ) (kernel : Kernel) (guest : Guest) (left : List ℕ) (did : Did Memory ℕ) → guest.words.nr ≡ number → step_of (call_of number) kernel guest left ≡ maps kernel guest did left
    → (result : Result Outcome Stop) (became : Kernel) (now : Memory) (before after : Contents) (old new : Kept) → before.left ≡ Some left
    → Maps did guest.words result kernel became left before after guest.memory now old new → o32.Answers (o32_call kernel guest left) result became now guest.processor before after
row_by_number number kernel guest left did same is result became now before after old new told m =
    subst (λ (s : O32Step). o32.Answers s result became now guest.processor before after) (sym (by_number number kernel guest left same ∙ is))
    (maps_answers guest did kernel left result became now before after old new told m)

pub kept_by_number : (number : ℕ) (kernel : Kernel) (guest : Guest) (left : List ℕ) (did : Did Memory ℕ) → guest.words.nr ≡ number → step_of (call_of number) kernel guest left ≡ maps kernel guest did left
    → (result : Result Outcome Stop) (became : Kernel) (now : Memory) (before after : Contents) (old new : Kept)
    → Maps did guest.words result kernel became left before after guest.memory now old new → OnOk result (Keeps (o32_call kernel guest left) kernel left guest old new)
kept_by_number number kernel guest left did same is result became now before after old new m =
    subst (λ (s : O32Step). OnOk result (Keeps s kernel left guest old new)) (sym (by_number number kernel guest left same ∙ is))
    (maps_keeps guest did kernel left result became now before after old new m)

-- A call that asks the kernel for nothing

module _ (words : CallWords) (kernel : Kernel) (processor : Processor) (left : List ℕ) (outcome : Outcome) (memory now : Memory)
    (is : o32_call kernel (guest_of words processor memory) left ≡ leaves kernel processor left outcome now) where
  left_called : (at : Contents) → at.left ≡ Some left → o32.Called (leaves kernel processor left outcome now) outcome kernel now processor at at
  left_called at told = record {
    came = refl;
    became = refl;
    stored = refl;
    set = refl;
    rest = told;
    to_out = GainsText-nothing at.out;
    to_err = GainsText-nothing at.err;
  }

  pub memory_called : (at : Contents) → at.left ≡ Some left → o32.Called (o32_call kernel (guest_of words processor memory) left) outcome kernel now processor at at
  memory_called at told = subst (λ (s : O32Step). o32.Called s outcome kernel now processor at at) (sym is) (left_called at told)

  left_keeps : (old new : Kept) → new.native ≡ old.native → Leads old.effects new.effects memory.pages now.pages
      → Keeps (leaves kernel processor left outcome now) kernel left (guest_of words processor memory) old new
  left_keeps old new same leads = record {
    native = subst (λ (n : Option (List LogEntry)). Logged old.native n (opening kernel left) (opening kernel left)) (sym same) (logged_none old.native (opening kernel left));
    effects = leads processor;
  }

  pub memory_keeps : (old new : Kept) → new.native ≡ old.native → Leads old.effects new.effects memory.pages now.pages
      → Keeps (o32_call kernel (guest_of words processor memory) left) kernel left (guest_of words processor memory) old new
  memory_keeps old new same leads = subst (λ (s : O32Step). Keeps s kernel left (guest_of words processor memory) old new) (sym is) (left_keeps old new same leads)

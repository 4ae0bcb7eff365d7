-- None is kept, or those that were made are.
use Rattle.std.proofs.Common.{◌≡◌, ℕ, List, Option, Some, None, Vec, Global, ap, sym, subst}
use Rattle.std.specs.Prelude.{option_map}
use Rattle.bridge_log.specs.Keeping.{Logged}
use Rattle.kernel_core.specs.declared.log_entry.LogEntry.{LogEntry}
use Rattle.native_calls.specs.History.{moment}
use Rattle.native_log.proofs.Telling.{calls_added, nothing_added, on_ok, ready_then}
use Rattle.native_log.specs.NativeLog.{NativeLog, emptied}
use Rattle.native_log.specs.inside.Entries.{with_calls}
use Rattle.native_log.proofs.native_log.NativeLog.add.Goals as goal

abbrev items : Option (Vec LogEntry Global) → Option (List LogEntry)
items list = option_map (λ (v : Vec LogEntry Global). v.items) list

pub returns-in-None-clause-leads : goal.returns-in-None-clause-leads
returns-in-None-clause-leads c = λ kernel became left rest before after from to ready logged.
    let none : items c.args.part ≡ None = ap items c.in-None.is in
    nothing_added c.args.clock kernel became left rest before after from to c.args.self.now _ (ap (λ (l : NativeLog). record l { told = c.args.clock }) c.self.view_is) c.requires.behind ready
    (subst (λ (kept : Option (List LogEntry)). Logged (emptied c.args.self.now.entries) kept (moment kernel left before) (moment became rest after)) none logged)

pub returns-in-Some-clause-leads : goal.returns-in-Some-clause-leads
returns-in-Some-clause-leads c =
    let some : items c.args.part ≡ Some c.in-Some.calls.items = ap items c.in-Some.is in
    on_ok c.add_calls.result _ _ (λ (is : c.add_calls.new.self ≡ with_calls c.args.clock c.in-Some.calls.items c.args.self.now). λ kernel became left rest before after from to ready logged.
    calls_added c.args.clock kernel became left rest before after from to c.args.self.now c.add_calls.new.self c.in-Some.calls.items is c.requires.behind ready
    (subst (λ (kept : Option (List LogEntry)). Logged (emptied c.args.self.now.entries) kept (moment kernel left before) (moment became rest after)) some logged)) c.add_calls.ensures.kept

pub returns-in-Some-clause-ready : goal.returns-in-Some-clause-ready
returns-in-Some-clause-ready c =
    let some : items c.args.part ≡ Some c.in-Some.calls.items = ap items c.in-Some.is in
    on_ok c.add_calls.result _ _ (λ (is : c.add_calls.new.self ≡ with_calls c.args.clock c.in-Some.calls.items c.args.self.now). λ kernel became left rest before after ready logged.
    ready_then c.args.clock kernel became left rest before after c.args.self.now c.add_calls.new.self c.in-Some.calls.items is ready
    (subst (λ (kept : Option (List LogEntry)). Logged (emptied c.args.self.now.entries) kept (moment kernel left before) (moment became rest after)) some logged)) c.add_calls.ensures.kept

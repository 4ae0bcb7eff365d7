-- The row of a call in its group is that of the whole table.
use Rattle.std.proofs.Common.{OnOk, subst, ◌∙◌, ap}
use Rattle.outside.specs.Streams.{contents}
use Rattle.bridge_log.specs.Keeping.{Keeps}
use Rattle.bridge_system.specs.Found.{found}
use Rattle.o32_calls.specs.Numbers.{bridged_number, entries_number, file_number, io_number, map_number, open_number, status_number}
use Rattle.o32_machine.proofs.Numbering.{entries_there, file_there, io_there, map_there, open_there, same, status_there, system_same}
use Rattle.o32_model.specs.Answered.{Answers}
use Rattle.o32_model.specs.Step.{O32Step}
use Rattle.o32_machine.proofs.calls.make_call.Goals as goal

pub returns-in-Io-clause-row : goal.returns-in-Io-clause-row
returns-in-Io-clause-row g c = λ left told.
    let guest = found c.args.words.now c.args.core.now.cpu c.args.core.now.space in
    subst (λ (s : O32Step). Answers s c.io_call.result c.io_call.new.k c.io_call.new.space c.io_call.new.cpu
    (contents g.I.Source.left g.O.Sink.written g.E.Sink.written c.args.dev.now) (contents g.I.Source.left g.O.Sink.written g.E.Sink.written c.io_call.new.dev))
    (same c.args.seen.now c.args.core.now.kernel guest left (io_number c.in-Io.call) (io_there c.in-Io.call) (c.requires ∙ ap bridged_number c.in-Io.is)) (c.io_call.ensures.row left told)

pub returns-in-Io-clause-kept : goal.returns-in-Io-clause-kept
returns-in-Io-clause-kept g c = λ left told.
    let guest = found c.args.words.now c.args.core.now.cpu c.args.core.now.space in
    subst (λ (s : O32Step). OnOk c.io_call.result (Keeps s c.args.core.now.kernel left guest c.args.log.now c.io_call.new.log))
    (same c.args.seen.now c.args.core.now.kernel guest left (io_number c.in-Io.call) (io_there c.in-Io.call) (c.requires ∙ ap bridged_number c.in-Io.is)) (c.io_call.ensures.kept left told)

pub returns-in-Open-clause-row : goal.returns-in-Open-clause-row
returns-in-Open-clause-row g c = λ left told.
    let guest = found c.args.words.now c.args.core.now.cpu c.args.core.now.space in
    subst (λ (s : O32Step). Answers s c.open_call.result c.open_call.new.k c.open_call.new.space c.open_call.new.cpu
    (contents g.I.Source.left g.O.Sink.written g.E.Sink.written c.args.dev.now) (contents g.I.Source.left g.O.Sink.written g.E.Sink.written c.open_call.new.dev))
    (same c.args.seen.now c.args.core.now.kernel guest left (open_number c.in-Open.call) (open_there c.in-Open.call) (c.requires ∙ ap bridged_number c.in-Open.is)) (c.open_call.ensures.row left told)

pub returns-in-Open-clause-kept : goal.returns-in-Open-clause-kept
returns-in-Open-clause-kept g c = λ left told.
    let guest = found c.args.words.now c.args.core.now.cpu c.args.core.now.space in
    subst (λ (s : O32Step). OnOk c.open_call.result (Keeps s c.args.core.now.kernel left guest c.args.log.now c.open_call.new.log))
    (same c.args.seen.now c.args.core.now.kernel guest left (open_number c.in-Open.call) (open_there c.in-Open.call) (c.requires ∙ ap bridged_number c.in-Open.is)) (c.open_call.ensures.kept left told)

pub returns-in-Status-clause-row : goal.returns-in-Status-clause-row
returns-in-Status-clause-row g c = λ left told.
    let guest = found c.args.words.now c.args.core.now.cpu c.args.core.now.space in
    subst (λ (s : O32Step). Answers s c.status_call.result c.status_call.new.k c.status_call.new.space c.status_call.new.cpu
    (contents g.I.Source.left g.O.Sink.written g.E.Sink.written c.args.dev.now) (contents g.I.Source.left g.O.Sink.written g.E.Sink.written c.status_call.new.dev))
    (same c.args.seen.now c.args.core.now.kernel guest left (status_number c.in-Status.call) (status_there c.in-Status.call) (c.requires ∙ ap bridged_number c.in-Status.is)) (c.status_call.ensures.row left told)

pub returns-in-Status-clause-kept : goal.returns-in-Status-clause-kept
returns-in-Status-clause-kept g c = λ left told.
    let guest = found c.args.words.now c.args.core.now.cpu c.args.core.now.space in
    subst (λ (s : O32Step). OnOk c.status_call.result (Keeps s c.args.core.now.kernel left guest c.args.log.now c.status_call.new.log))
    (same c.args.seen.now c.args.core.now.kernel guest left (status_number c.in-Status.call) (status_there c.in-Status.call) (c.requires ∙ ap bridged_number c.in-Status.is)) (c.status_call.ensures.kept left told)

pub returns-in-Entries-clause-row : goal.returns-in-Entries-clause-row
returns-in-Entries-clause-row g c = λ left told.
    let guest = found c.args.words.now c.args.core.now.cpu c.args.core.now.space in
    subst (λ (s : O32Step). Answers s c.entries_call.result c.entries_call.new.k c.entries_call.new.space c.entries_call.new.cpu
    (contents g.I.Source.left g.O.Sink.written g.E.Sink.written c.args.dev.now) (contents g.I.Source.left g.O.Sink.written g.E.Sink.written c.entries_call.new.dev))
    (same c.args.seen.now c.args.core.now.kernel guest left (entries_number c.in-Entries.call) (entries_there c.in-Entries.call) (c.requires ∙ ap bridged_number c.in-Entries.is)) (c.entries_call.ensures.row left told)

pub returns-in-Entries-clause-kept : goal.returns-in-Entries-clause-kept
returns-in-Entries-clause-kept g c = λ left told.
    let guest = found c.args.words.now c.args.core.now.cpu c.args.core.now.space in
    subst (λ (s : O32Step). OnOk c.entries_call.result (Keeps s c.args.core.now.kernel left guest c.args.log.now c.entries_call.new.log))
    (same c.args.seen.now c.args.core.now.kernel guest left (entries_number c.in-Entries.call) (entries_there c.in-Entries.call) (c.requires ∙ ap bridged_number c.in-Entries.is)) (c.entries_call.ensures.kept left told)

pub returns-in-File-clause-row : goal.returns-in-File-clause-row
returns-in-File-clause-row g c = λ left told.
    let guest = found c.args.words.now c.args.core.now.cpu c.args.core.now.space in
    subst (λ (s : O32Step). Answers s c.file_call.result c.file_call.new.k c.file_call.new.space c.file_call.new.cpu
    (contents g.I.Source.left g.O.Sink.written g.E.Sink.written c.args.dev.now) (contents g.I.Source.left g.O.Sink.written g.E.Sink.written c.file_call.new.dev))
    (same c.args.seen.now c.args.core.now.kernel guest left (file_number c.in-File.call) (file_there c.in-File.call) (c.requires ∙ ap bridged_number c.in-File.is)) (c.file_call.ensures.row left told)

pub returns-in-File-clause-kept : goal.returns-in-File-clause-kept
returns-in-File-clause-kept g c = λ left told.
    let guest = found c.args.words.now c.args.core.now.cpu c.args.core.now.space in
    subst (λ (s : O32Step). OnOk c.file_call.result (Keeps s c.args.core.now.kernel left guest c.args.log.now c.file_call.new.log))
    (same c.args.seen.now c.args.core.now.kernel guest left (file_number c.in-File.call) (file_there c.in-File.call) (c.requires ∙ ap bridged_number c.in-File.is)) (c.file_call.ensures.kept left told)

pub returns-in-Map-clause-row : goal.returns-in-Map-clause-row
returns-in-Map-clause-row g c = λ left told.
    let guest = found c.args.words.now c.args.core.now.cpu c.args.core.now.space in
    subst (λ (s : O32Step). Answers s c.map_call.result c.map_call.new.k c.map_call.new.space c.map_call.new.cpu
    (contents g.I.Source.left g.O.Sink.written g.E.Sink.written c.args.dev.now) (contents g.I.Source.left g.O.Sink.written g.E.Sink.written c.map_call.new.dev))
    (same c.args.seen.now c.args.core.now.kernel guest left (map_number c.in-Map.call) (map_there c.in-Map.call) (c.requires ∙ ap bridged_number c.in-Map.is)) (c.map_call.ensures.row left told)

pub returns-in-Map-clause-kept : goal.returns-in-Map-clause-kept
returns-in-Map-clause-kept g c = λ left told.
    let guest = found c.args.words.now c.args.core.now.cpu c.args.core.now.space in
    subst (λ (s : O32Step). OnOk c.map_call.result (Keeps s c.args.core.now.kernel left guest c.args.log.now c.map_call.new.log))
    (same c.args.seen.now c.args.core.now.kernel guest left (map_number c.in-Map.call) (map_there c.in-Map.call) (c.requires ∙ ap bridged_number c.in-Map.is)) (c.map_call.ensures.kept left told)

pub returns-in-System-clause-row : goal.returns-in-System-clause-row
returns-in-System-clause-row g c = λ left told.
    let guest = found c.args.words.now c.args.core.now.cpu c.args.core.now.space in
    subst (λ (s : O32Step). Answers s c.system_call.result c.system_call.new.k c.system_call.new.space c.system_call.new.cpu
    (contents g.I.Source.left g.O.Sink.written g.E.Sink.written c.args.dev.now) (contents g.I.Source.left g.O.Sink.written g.E.Sink.written c.system_call.new.dev))
    (system_same c.args.seen.now c.args.core.now.kernel guest left c.in-System.call (c.requires ∙ ap bridged_number c.in-System.is)) (c.system_call.ensures.row left told)

pub returns-in-System-clause-kept : goal.returns-in-System-clause-kept
returns-in-System-clause-kept g c = λ left told.
    let guest = found c.args.words.now c.args.core.now.cpu c.args.core.now.space in
    subst (λ (s : O32Step). OnOk c.system_call.result (Keeps s c.args.core.now.kernel left guest c.args.log.now c.system_call.new.log))
    (system_same c.args.seen.now c.args.core.now.kernel guest left c.in-System.call (c.requires ∙ ap bridged_number c.in-System.is)) (c.system_call.ensures.kept left told)

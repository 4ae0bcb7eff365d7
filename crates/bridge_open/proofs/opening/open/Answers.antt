-- Flags that are none, and O_CREAT with O_DIRECTORY, are refused without a native call.
use Rattle.std.proofs.Common.{Option, sym, subst, ◌∙◌}
use Rattle.kernel_core.specs.OpenSet.{OpenSet}
use Rattle.kernel_core.specs.declared.error.Errno.TheVariants.{EINVAL}
use Rattle.number_tables.specs.OpenNumbers.{open_of_o32}
use Rattle.number_tables.specs.inside.OpenLaws.{o32_open_listed}
use Rattle.o32_model.specs.Answered.{Answers}
use Rattle.o32_model.specs.Opening.{open_row}
use Rattle.o32_model.specs.PathArguments.{base}
use Rattle.o32_model.specs.declared.outcome.Outcome.TheVariants.{Error}
use Rattle.outside.specs.Streams.{contents}
use Rattle.std.specs.Prelude.{OnOk}
use Rattle.bridge_paths.proofs.Passed.{Still, still_called, still_keeps}
use Rattle.bridge_paths.specs.Passed.{Keeps}
use Rattle.bridge_open.proofs.OpenRows.{open_makes, open_unlisted}
use Rattle.bridge_paths.proofs.Refusing.{still_of}
use Rattle.bridge_open.proofs.opening.open.Goals as goal

pub open_listed-requires : goal.open_listed-requires
open_listed-requires g c = record { listed = o32_open_listed c.args.request.flags c.in-Some.flags (sym c.of_o32.ensures ∙ c.in-Some.is); allowed = sym c.makes_directory.ensures ∙ c.if-not-makes_directory.true }

pub returns-in_default-clause-row : goal.returns-in_default-clause-row
returns-in_default-clause-row g c = λ guest same memory left told.
    let at = contents g.I.Source.left g.O.Sink.written g.E.Sink.written c.args.dev.now in
    let asked = sym c.in-Some.is ∙ c.of_o32.ensures in
    let step = open_row c.args.below.now.kernel.now guest (base c.args.request.directory) c.args.request.address (open_of_o32 c.args.request.flags) c.args.request.mode left in
    still_called guest c.args.below.now.kernel.now left (Error EINVAL) step at told
    (subst (λ (f : Option OpenSet). Still guest c.args.below.now.kernel.now left (Error EINVAL) (open_row c.args.below.now.kernel.now guest (base c.args.request.directory) c.args.request.address f c.args.request.mode left)) asked
    (still_of guest c.args.below.now.kernel.now EINVAL left _ (open_makes guest c.args.below.now.kernel.now (base c.args.request.directory) c.args.request.address c.args.request.mode c.in-Some.flags left (sym c.makes_directory.ensures ∙ c.if-not-makes_directory.false))))

pub returns-in_default-clause-kept : goal.returns-in_default-clause-kept
returns-in_default-clause-kept g c = λ guest same memory left told.
    let asked = sym c.in-Some.is ∙ c.of_o32.ensures in
    let step = open_row c.args.below.now.kernel.now guest (base c.args.request.directory) c.args.request.address (open_of_o32 c.args.request.flags) c.args.request.mode left in
    still_keeps guest c.args.below.now.kernel.now left (Error EINVAL) step c.args.below.now.log.now
    (subst (λ (f : Option OpenSet). Still guest c.args.below.now.kernel.now left (Error EINVAL) (open_row c.args.below.now.kernel.now guest (base c.args.request.directory) c.args.request.address f c.args.request.mode left)) asked
    (still_of guest c.args.below.now.kernel.now EINVAL left _ (open_makes guest c.args.below.now.kernel.now (base c.args.request.directory) c.args.request.address c.args.request.mode c.in-Some.flags left (sym c.makes_directory.ensures ∙ c.if-not-makes_directory.false))))

pub returns-in_default-2-clause-row : goal.returns-in_default-2-clause-row
returns-in_default-2-clause-row g c = λ guest same memory left told.
    let at = contents g.I.Source.left g.O.Sink.written g.E.Sink.written c.args.dev.now in
    let asked = sym c.in_default.is ∙ c.of_o32.ensures in
    let step = open_row c.args.below.now.kernel.now guest (base c.args.request.directory) c.args.request.address (open_of_o32 c.args.request.flags) c.args.request.mode left in
    still_called guest c.args.below.now.kernel.now left (Error EINVAL) step at told
    (subst (λ (f : Option OpenSet). Still guest c.args.below.now.kernel.now left (Error EINVAL) (open_row c.args.below.now.kernel.now guest (base c.args.request.directory) c.args.request.address f c.args.request.mode left)) asked
    (still_of guest c.args.below.now.kernel.now EINVAL left _ (open_unlisted guest c.args.below.now.kernel.now (base c.args.request.directory) c.args.request.address c.args.request.mode left)))

pub returns-in_default-2-clause-kept : goal.returns-in_default-2-clause-kept
returns-in_default-2-clause-kept g c = λ guest same memory left told.
    let asked = sym c.in_default.is ∙ c.of_o32.ensures in
    let step = open_row c.args.below.now.kernel.now guest (base c.args.request.directory) c.args.request.address (open_of_o32 c.args.request.flags) c.args.request.mode left in
    still_keeps guest c.args.below.now.kernel.now left (Error EINVAL) step c.args.below.now.log.now
    (subst (λ (f : Option OpenSet). Still guest c.args.below.now.kernel.now left (Error EINVAL) (open_row c.args.below.now.kernel.now guest (base c.args.request.directory) c.args.request.address f c.args.request.mode left)) asked
    (still_of guest c.args.below.now.kernel.now EINVAL left _ (open_unlisted guest c.args.below.now.kernel.now (base c.args.request.directory) c.args.request.address c.args.request.mode left)))

pub returns-in-Some-clause-row : goal.returns-in-Some-clause-row
returns-in-Some-clause-row g c = λ guest same memory left told.
    subst (λ (f : Option OpenSet). Answers (open_row c.args.below.now.kernel.now guest (base c.args.request.directory) c.args.request.address f c.args.request.mode left) c.open_listed.result c.open_listed.new.below.kernel.now guest.memory guest.processor
    (contents g.I.Source.left g.O.Sink.written g.E.Sink.written c.args.dev.now) (contents g.I.Source.left g.O.Sink.written g.E.Sink.written c.open_listed.new.dev)) (sym c.in-Some.is ∙ c.of_o32.ensures)
    (c.open_listed.ensures.row guest same memory left told)

pub returns-in-Some-clause-kept : goal.returns-in-Some-clause-kept
returns-in-Some-clause-kept g c = λ guest same memory left told.
    subst (λ (f : Option OpenSet). OnOk c.open_listed.result (Keeps (open_row c.args.below.now.kernel.now guest (base c.args.request.directory) c.args.request.address f c.args.request.mode left) c.args.below.now.kernel.now left guest c.args.below.now.log.now c.open_listed.new.below.log.now)) (sym c.in-Some.is ∙ c.of_o32.ensures)
    (c.open_listed.ensures.kept guest same memory left told)

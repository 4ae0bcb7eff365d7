-- The native call mirrors the write, where there is room for it.
use Rattle.std.proofs.Common.{◌≡◌, ℕ, List, length, sym, ap, subst, ◌∙◌, arith}
use Rattle.std.specs.Prelude.{min}
use Rattle.kernel_model.specs.Descriptions.{opened}
use Rattle.o32_model.specs.Transfers.{small_file_limit}
use Rattle.o32_model.specs.declared.outcome.Outcome.{Outcome}
use Rattle.outside.specs.Streams.{contents}
use Rattle.bridge_log.proofs.Ends.{Still, still_called, still_keeps}
use Rattle.bridge_io.proofs.WriteMirrors.{past_still, write_mirrors}
use Rattle.bridge_io.specs.declared.room.Room.{Room}
use Rattle.bridge_io.specs.inside.Rooms.{IsRoom, past_outcome}
use Rattle.bridge_io.specs.inside.Written.{write_of}
use Rattle.bridge_io.proofs.writing.write_loaded.Goals as goal

pub returns-in-Most-clause-row : goal.returns-in-Most-clause-row
returns-in-Most-clause-row g c = λ guest same to fits.
    let room = subst (λ (r : Room). IsRoom c.args.below.now.kernel.now.files small_file_limit (λ d. d.position) (opened c.args.below.now.kernel.now.files c.args.fd) r) c.in-Most.is fits in
    let least : c.min-count.result ≡ min c.in-Most.most c.args.count = omega (arith, c.min-count.ensures, c.from.ensures) in
    c.number_call.ensures.row guest (write_of c.args.below.now.kernel.now guest c.args.fd c.args.count c.args.below.now.memory.now) same (λ left.
    write_mirrors guest c.args.below.now.kernel.now c.args.below.now.memory.now left c.from-in-Most.result c.min-count.result c.args.fd c.args.count c.in-Most.most c.from-in-Most.ensures least c.ranges.fd.fits to room.0 room.1)

pub returns-in-Most-clause-kept : goal.returns-in-Most-clause-kept
returns-in-Most-clause-kept g c = λ guest same to fits.
    let room = subst (λ (r : Room). IsRoom c.args.below.now.kernel.now.files small_file_limit (λ d. d.position) (opened c.args.below.now.kernel.now.files c.args.fd) r) c.in-Most.is fits in
    let least : c.min-count.result ≡ min c.in-Most.most c.args.count = omega (arith, c.min-count.ensures, c.from.ensures) in
    c.number_call.ensures.kept guest (write_of c.args.below.now.kernel.now guest c.args.fd c.args.count c.args.below.now.memory.now) same (λ left.
    write_mirrors guest c.args.below.now.kernel.now c.args.below.now.memory.now left c.from-in-Most.result c.min-count.result c.args.fd c.args.count c.in-Most.most c.from-in-Most.ensures least c.ranges.fd.fits to room.0 room.1)

pub returns-in-Past-clause-row : goal.returns-in-Past-clause-row
returns-in-Past-clause-row g c = λ guest same to fits left told.
    let past = subst (λ (r : Room). IsRoom c.args.below.now.kernel.now.files small_file_limit (λ d. d.position) (opened c.args.below.now.kernel.now.files c.args.fd) r) c.in-Past.is fits in
    let step = write_of c.args.below.now.kernel.now guest c.args.fd c.args.count c.args.below.now.memory.now left in
    let came : c.past_outcome.result ≡ past_outcome c.in-Past.writable c.in-Past.file c.args.count (length c.args.below.now.memory.now) =
    c.past_outcome.ensures ∙ ap (λ (m : List ℕ). past_outcome c.in-Past.writable c.in-Past.file c.args.count (length m)) c.as_slice-there.ensures in
    still_called guest c.args.below.now.kernel.now left c.past_outcome.result step (contents g.I.Source.left g.O.Sink.written g.E.Sink.written c.args.dev.now) told
    (subst (λ (o : Outcome). Still guest c.args.below.now.kernel.now left o step) (sym came) (past_still guest c.args.below.now.kernel.now left c.args.below.now.memory.now c.args.fd c.args.count c.in-Past.writable c.in-Past.file past))

pub returns-in-Past-clause-kept : goal.returns-in-Past-clause-kept
returns-in-Past-clause-kept g c = λ guest same to fits left told.
    let past = subst (λ (r : Room). IsRoom c.args.below.now.kernel.now.files small_file_limit (λ d. d.position) (opened c.args.below.now.kernel.now.files c.args.fd) r) c.in-Past.is fits in
    let outcome = past_outcome c.in-Past.writable c.in-Past.file c.args.count (length c.args.below.now.memory.now) in
    still_keeps guest c.args.below.now.kernel.now left outcome (write_of c.args.below.now.kernel.now guest c.args.fd c.args.count c.args.below.now.memory.now left) c.args.below.now.log.now
    (past_still guest c.args.below.now.kernel.now left c.args.below.now.memory.now c.args.fd c.args.count c.in-Past.writable c.in-Past.file past)

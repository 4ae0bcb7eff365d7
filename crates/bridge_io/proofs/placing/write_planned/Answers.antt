-- The native call mirrors the write, where there is room for it.
use Rattle.std.proofs.Common.{◌≡◌, ℕ, List, length, sym, ap, subst, ◌∙◌, arith}
use Rattle.std.specs.Prelude.{min}
use Rattle.o32_model.specs.Transfers.{small_file_limit}
use Rattle.o32_model.specs.declared.outcome.Outcome.{Outcome}
use Rattle.outside.specs.Streams.{contents}
use Rattle.bridge_log.proofs.Ends.{Still, still_called, still_keeps}
use Rattle.bridge_io.proofs.PwriteMirrors.{pwrite_mirrors, pwrite_still}
use Rattle.bridge_io.specs.declared.room.Plan.{Plan}
use Rattle.bridge_io.specs.inside.Plans.{IsPlan}
use Rattle.bridge_io.specs.inside.Rooms.{past_outcome}
use Rattle.bridge_io.specs.inside.Written.{place_write_of}
use Rattle.bridge_io.proofs.placing.write_planned.Goals as goal

pub returns-in-Write-clause-row : goal.returns-in-Write-clause-row
returns-in-Write-clause-row g c = λ guest place same planned.
    let plan = subst (λ (p : Plan). IsPlan c.args.below.now.kernel.now.files small_file_limit c.args.fd place p) c.in-Write.is planned in
    let least : c.min-count.result ≡ min c.in-Write.most c.args.count = omega (arith, c.min-count.ensures, c.from.ensures) in
    c.number_call.ensures.row guest (place_write_of c.args.below.now.kernel.now guest c.args.fd place c.args.count c.args.below.now.memory.now) same (λ left.
    pwrite_mirrors guest c.args.below.now.kernel.now c.args.below.now.memory.now left c.from-in-Write.result c.min-count.result c.args.fd c.args.count c.in-Write.most c.in-Write.place place c.from-in-Write.ensures least c.ranges.fd.fits plan)

pub returns-in-Write-clause-kept : goal.returns-in-Write-clause-kept
returns-in-Write-clause-kept g c = λ guest place same planned.
    let plan = subst (λ (p : Plan). IsPlan c.args.below.now.kernel.now.files small_file_limit c.args.fd place p) c.in-Write.is planned in
    let least : c.min-count.result ≡ min c.in-Write.most c.args.count = omega (arith, c.min-count.ensures, c.from.ensures) in
    c.number_call.ensures.kept guest (place_write_of c.args.below.now.kernel.now guest c.args.fd place c.args.count c.args.below.now.memory.now) same (λ left.
    pwrite_mirrors guest c.args.below.now.kernel.now c.args.below.now.memory.now left c.from-in-Write.result c.min-count.result c.args.fd c.args.count c.in-Write.most c.in-Write.place place c.from-in-Write.ensures least c.ranges.fd.fits plan)

pub returns-in-Past-clause-row : goal.returns-in-Past-clause-row
returns-in-Past-clause-row g c = λ guest place same planned left told.
    let past = subst (λ (p : Plan). IsPlan c.args.below.now.kernel.now.files small_file_limit c.args.fd place p) c.in-Past.is planned in
    let step = place_write_of c.args.below.now.kernel.now guest c.args.fd place c.args.count c.args.below.now.memory.now left in
    let came : c.past_outcome.result ≡ past_outcome c.in-Past.writable c.in-Past.file c.args.count (length c.args.below.now.memory.now) =
    c.past_outcome.ensures ∙ ap (λ (m : List ℕ). past_outcome c.in-Past.writable c.in-Past.file c.args.count (length m)) c.as_slice-there.ensures in
    still_called guest c.args.below.now.kernel.now left c.past_outcome.result step (contents g.I.Source.left g.O.Sink.written g.E.Sink.written c.args.dev.now) told
    (subst (λ (o : Outcome). Still guest c.args.below.now.kernel.now left o step) (sym came) (pwrite_still guest c.args.below.now.kernel.now left c.args.below.now.memory.now c.args.fd c.args.count place c.in-Past.writable c.in-Past.file past))

pub returns-in-Past-clause-kept : goal.returns-in-Past-clause-kept
returns-in-Past-clause-kept g c = λ guest place same planned left told.
    let past = subst (λ (p : Plan). IsPlan c.args.below.now.kernel.now.files small_file_limit c.args.fd place p) c.in-Past.is planned in
    still_keeps guest c.args.below.now.kernel.now left (past_outcome c.in-Past.writable c.in-Past.file c.args.count (length c.args.below.now.memory.now)) (place_write_of c.args.below.now.kernel.now guest c.args.fd place c.args.count c.args.below.now.memory.now left) c.args.below.now.log.now
    (pwrite_still guest c.args.below.now.kernel.now left c.args.below.now.memory.now c.args.fd c.args.count place c.in-Past.writable c.in-Past.file past)

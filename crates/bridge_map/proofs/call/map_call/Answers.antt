-- Each arm makes the row of its number.
use Rattle.std.proofs.Common.{refl, sym, ◌∙◌, ap, rules}
use Rattle.o32_model.specs.Mappings.{mmap_in}
use Rattle.outside.specs.Streams.{contents}
use Rattle.bridge_log.proofs.Ends.{fails_before}
use Rattle.bridge_map.proofs.Calling.{kept_by_number, memory_called, memory_keeps, row_by_number}
use Rattle.bridge_map.proofs.Naming.{of_memory, of_memory_without_file}
use Rattle.bridge_map.specs.Rows.{guest_of}
use Rattle.o32_calls.specs.Numbers.{map_number}
use Rattle.bridge_map.proofs.call.map_call.Goals as goal

-- without a file

pub memory_call-requires-clause-memory : goal.memory_call-requires-clause-memory
memory_call-requires-clause-memory g c = of_memory_without_file c.args.call c.args.args.now c.requires (sym c.maps_no_file.ensures ∙ c.if-maps_no_file.true)

pub memory_call-requires-in-Brk-clause-memory : goal.memory_call-requires-in-Brk-clause-memory
memory_call-requires-in-Brk-clause-memory g c = of_memory c.args.call c.args.args.now c.requires c.in-Brk.is

pub returns-in_err-memory_call-clause-row : goal.returns-in_err-memory_call-clause-row
returns-in_err-memory_call-clause-row g c = λ left told. fails_before _ c.from_residual.result _ _ _ _ c.from_residual.ensures.0

pub returns-then-maps_no_file-clause-row : goal.returns-then-maps_no_file-clause-row
returns-then-maps_no_file-clause-row g c = λ left told.
    let row = memory_called c.args.args.now c.args.k.now c.args.cpu.now left c.in_ok-memory_call.field-0 c.args.space.now c.memory_call.new.space (c.in_ok-memory_call.ensures.row c.args.k.now c.args.cpu.now left)
    (contents g.I.Source.left g.O.Sink.written g.E.Sink.written c.args.dev.now) told in
    search rules

pub returns-then-maps_no_file-clause-kept : goal.returns-then-maps_no_file-clause-kept
returns-then-maps_no_file-clause-kept g c = λ left told.
    let row = memory_keeps c.args.args.now c.args.k.now c.args.cpu.now left c.in_ok-memory_call.field-0 c.args.space.now c.memory_call.new.space (c.in_ok-memory_call.ensures.row c.args.k.now c.args.cpu.now left)
    c.args.log.now c.memory_call.new.log c.memory_call.ensures.native c.in_ok-memory_call.ensures.effects in
    search rules

pub returns-in_err-memory_call-in-Brk-clause-row : goal.returns-in_err-memory_call-in-Brk-clause-row
returns-in_err-memory_call-in-Brk-clause-row g c = λ left told.
    fails_before _ c.from_residual-in_err-memory_call-in-Brk.result _ _ _ _ c.from_residual-in_err-memory_call-in-Brk.ensures.0

pub returns-in_ok-memory_call-in-Brk-clause-row : goal.returns-in_ok-memory_call-in-Brk-clause-row
returns-in_ok-memory_call-in-Brk-clause-row g c = λ left told.
    let row = memory_called c.args.args.now c.args.k.now c.args.cpu.now left c.in_ok-memory_call-in-Brk.field-0 c.args.space.now c.memory_call-in-Brk.new.space (c.in_ok-memory_call-in-Brk.ensures.row c.args.k.now c.args.cpu.now left)
    (contents g.I.Source.left g.O.Sink.written g.E.Sink.written c.args.dev.now) told in
    search rules

pub returns-in_ok-memory_call-in-Brk-clause-kept : goal.returns-in_ok-memory_call-in-Brk-clause-kept
returns-in_ok-memory_call-in-Brk-clause-kept g c = λ left told.
    let row = memory_keeps c.args.args.now c.args.k.now c.args.cpu.now left c.in_ok-memory_call-in-Brk.field-0 c.args.space.now c.memory_call-in-Brk.new.space (c.in_ok-memory_call-in-Brk.ensures.row c.args.k.now c.args.cpu.now left)
    c.args.log.now c.memory_call-in-Brk.new.log c.memory_call-in-Brk.ensures.native c.in_ok-memory_call-in-Brk.ensures.effects in
    search rules

-- with a file

pub returns-in-Mmap-clause-row : goal.returns-in-Mmap-clause-row
returns-in-Mmap-clause-row g c = λ left told.
    let guest = guest_of c.args.args.now c.args.cpu.now c.args.space.now in
    let row = row_by_number 4090 c.args.k.now guest left (mmap_in 1 c.args.k.now guest) (c.requires ∙ ap map_number c.in-Mmap.is) refl c.mmap_file.result c.mmap_file.new.below.kernel.now c.mmap_file.new.space
    (contents g.I.Source.left g.O.Sink.written g.E.Sink.written c.args.dev.now) (contents g.I.Source.left g.O.Sink.written g.E.Sink.written c.mmap_file.new.dev)
    c.args.log.now c.mmap_file.new.below.log.now told (c.mmap_file.ensures.row c.args.cpu.now left told) in
    search rules

pub returns-in-Mmap-clause-kept : goal.returns-in-Mmap-clause-kept
returns-in-Mmap-clause-kept g c = λ left told.
    let guest = guest_of c.args.args.now c.args.cpu.now c.args.space.now in
    let row = kept_by_number 4090 c.args.k.now guest left (mmap_in 1 c.args.k.now guest) (c.requires ∙ ap map_number c.in-Mmap.is) refl c.mmap_file.result c.mmap_file.new.below.kernel.now c.mmap_file.new.space
    (contents g.I.Source.left g.O.Sink.written g.E.Sink.written c.args.dev.now) (contents g.I.Source.left g.O.Sink.written g.E.Sink.written c.mmap_file.new.dev)
    c.args.log.now c.mmap_file.new.below.log.now (c.mmap_file.ensures.row c.args.cpu.now left told) in
    search rules

pub returns-in-Mmap2-clause-row : goal.returns-in-Mmap2-clause-row
returns-in-Mmap2-clause-row g c = λ left told.
    let guest = guest_of c.args.args.now c.args.cpu.now c.args.space.now in
    let row = row_by_number 4210 c.args.k.now guest left (mmap_in 4096 c.args.k.now guest) (c.requires ∙ ap map_number c.in-Mmap2.is) refl c.mmap_file-in-Mmap2.result c.mmap_file-in-Mmap2.new.below.kernel.now c.mmap_file-in-Mmap2.new.space
    (contents g.I.Source.left g.O.Sink.written g.E.Sink.written c.args.dev.now) (contents g.I.Source.left g.O.Sink.written g.E.Sink.written c.mmap_file-in-Mmap2.new.dev)
    c.args.log.now c.mmap_file-in-Mmap2.new.below.log.now told (c.mmap_file-in-Mmap2.ensures.row c.args.cpu.now left told) in
    search rules

pub returns-in-Mmap2-clause-kept : goal.returns-in-Mmap2-clause-kept
returns-in-Mmap2-clause-kept g c = λ left told.
    let guest = guest_of c.args.args.now c.args.cpu.now c.args.space.now in
    let row = kept_by_number 4210 c.args.k.now guest left (mmap_in 4096 c.args.k.now guest) (c.requires ∙ ap map_number c.in-Mmap2.is) refl c.mmap_file-in-Mmap2.result c.mmap_file-in-Mmap2.new.below.kernel.now c.mmap_file-in-Mmap2.new.space
    (contents g.I.Source.left g.O.Sink.written g.E.Sink.written c.args.dev.now) (contents g.I.Source.left g.O.Sink.written g.E.Sink.written c.mmap_file-in-Mmap2.new.dev)
    c.args.log.now c.mmap_file-in-Mmap2.new.below.log.now (c.mmap_file-in-Mmap2.ensures.row c.args.cpu.now left told) in
    search rules

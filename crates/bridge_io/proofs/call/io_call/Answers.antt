-- Each arm makes the row of its number.
use Rattle.std.proofs.Common.{refl, ◌∙◌, ap, rules}
use Rattle.bridge_io.specs.Found.{found}
use Rattle.outside.specs.Streams.{contents}
use Rattle.bridge_io.proofs.Calls.{by_number}
use Rattle.o32_calls.specs.Numbers.{io_number}
use Rattle.bridge_io.proofs.call.io_call.Goals as goal

pub returns-in-Read-clause-row : goal.returns-in-Read-clause-row
returns-in-Read-clause-row g c = λ left told.
    let guest = found c.args.args.now c.args.cpu.now c.args.space.now in
    let row = by_number 4003 c.args.k.now guest left c.read.result c.read.new.below.kernel.now c.read.new.space c.args.cpu.now (contents g.I.Source.left g.O.Sink.written g.E.Sink.written c.args.dev.now) (contents g.I.Source.left g.O.Sink.written g.E.Sink.written c.read.new.dev) (c.requires ∙ ap io_number c.in-Read.is)
    (c.read.ensures.row guest refl refl left told) in
    search rules

pub returns-in-Close-clause-row : goal.returns-in-Close-clause-row
returns-in-Close-clause-row g c = λ left told.
    let guest = found c.args.args.now c.args.cpu.now c.args.space.now in
    let row = by_number 4006 c.args.k.now guest left c.close.result c.close.new.below.kernel.now c.args.space.now c.args.cpu.now (contents g.I.Source.left g.O.Sink.written g.E.Sink.written c.args.dev.now) (contents g.I.Source.left g.O.Sink.written g.E.Sink.written c.close.new.dev) (c.requires ∙ ap io_number c.in-Close.is)
    (c.close.ensures.row guest refl left told) in
    search rules

pub returns-in-Dup-clause-row : goal.returns-in-Dup-clause-row
returns-in-Dup-clause-row g c = λ left told.
    let guest = found c.args.args.now c.args.cpu.now c.args.space.now in
    let row = by_number 4041 c.args.k.now guest left c.dup.result c.dup.new.below.kernel.now c.args.space.now c.args.cpu.now (contents g.I.Source.left g.O.Sink.written g.E.Sink.written c.args.dev.now) (contents g.I.Source.left g.O.Sink.written g.E.Sink.written c.dup.new.dev) (c.requires ∙ ap io_number c.in-Dup.is)
    (c.dup.ensures.row guest refl left told) in
    search rules

pub returns-in-Dup2-clause-row : goal.returns-in-Dup2-clause-row
returns-in-Dup2-clause-row g c = λ left told.
    let guest = found c.args.args.now c.args.cpu.now c.args.space.now in
    let row = by_number 4063 c.args.k.now guest left c.dup2.result c.dup2.new.below.kernel.now c.args.space.now c.args.cpu.now (contents g.I.Source.left g.O.Sink.written g.E.Sink.written c.args.dev.now) (contents g.I.Source.left g.O.Sink.written g.E.Sink.written c.dup2.new.dev) (c.requires ∙ ap io_number c.in-Dup2.is)
    (c.dup2.ensures.row guest refl left told) in
    search rules

pub returns-in-Pipe-clause-row : goal.returns-in-Pipe-clause-row
returns-in-Pipe-clause-row g c = λ left told.
    let guest = found c.args.args.now c.args.cpu.now c.args.space.now in
    let row = by_number 4042 c.args.k.now guest left c.pipe.result c.pipe.new.below.kernel.now c.args.space.now c.args.cpu.now (contents g.I.Source.left g.O.Sink.written g.E.Sink.written c.args.dev.now) (contents g.I.Source.left g.O.Sink.written g.E.Sink.written c.pipe.new.dev) (c.requires ∙ ap io_number c.in-Pipe.is)
    (c.pipe.ensures.row guest refl left told) in
    search rules

pub returns-in-Ioctl-clause-row : goal.returns-in-Ioctl-clause-row
returns-in-Ioctl-clause-row g c = λ left told.
    let guest = found c.args.args.now c.args.cpu.now c.args.space.now in
    let row = by_number 4054 c.args.k.now guest left c.ioctl.result c.ioctl.new.below.kernel.now c.ioctl.new.space c.args.cpu.now (contents g.I.Source.left g.O.Sink.written g.E.Sink.written c.args.dev.now) (contents g.I.Source.left g.O.Sink.written g.E.Sink.written c.ioctl.new.dev) (c.requires ∙ ap io_number c.in-Ioctl.is)
    (c.ioctl.ensures.row guest refl refl left told) in
    search rules

pub returns-in-Readv-clause-row : goal.returns-in-Readv-clause-row
returns-in-Readv-clause-row g c = λ left told.
    let guest = found c.args.args.now c.args.cpu.now c.args.space.now in
    let row = by_number 4145 c.args.k.now guest left c.readv.result c.readv.new.below.kernel.now c.readv.new.space c.args.cpu.now (contents g.I.Source.left g.O.Sink.written g.E.Sink.written c.args.dev.now) (contents g.I.Source.left g.O.Sink.written g.E.Sink.written c.readv.new.dev) (c.requires ∙ ap io_number c.in-Readv.is)
    (c.readv.ensures.row guest refl refl left told) in
    search rules

pub returns-in-Dup3-clause-row : goal.returns-in-Dup3-clause-row
returns-in-Dup3-clause-row g c = λ left told.
    let guest = found c.args.args.now c.args.cpu.now c.args.space.now in
    let row = by_number 4327 c.args.k.now guest left c.dup3.result c.dup3.new.below.kernel.now c.args.space.now c.args.cpu.now (contents g.I.Source.left g.O.Sink.written g.E.Sink.written c.args.dev.now) (contents g.I.Source.left g.O.Sink.written g.E.Sink.written c.dup3.new.dev) (c.requires ∙ ap io_number c.in-Dup3.is)
    (c.dup3.ensures.row guest refl left told) in
    search rules

pub returns-in-Pipe2-clause-row : goal.returns-in-Pipe2-clause-row
returns-in-Pipe2-clause-row g c = λ left told.
    let guest = found c.args.args.now c.args.cpu.now c.args.space.now in
    let row = by_number 4328 c.args.k.now guest left c.pipe2.result c.pipe2.new.below.kernel.now c.pipe2.new.space c.args.cpu.now (contents g.I.Source.left g.O.Sink.written g.E.Sink.written c.args.dev.now) (contents g.I.Source.left g.O.Sink.written g.E.Sink.written c.pipe2.new.dev) (c.requires ∙ ap io_number c.in-Pipe2.is)
    (c.pipe2.ensures.row guest refl refl left told) in
    search rules

pub returns-in-Fcntl-clause-row : goal.returns-in-Fcntl-clause-row
returns-in-Fcntl-clause-row g c = λ left told.
    let guest = found c.args.args.now c.args.cpu.now c.args.space.now in
    let row = by_number 4055 c.args.k.now guest left c.fcntl.result c.fcntl.new.below.kernel.now c.args.space.now c.args.cpu.now (contents g.I.Source.left g.O.Sink.written g.E.Sink.written c.args.dev.now) (contents g.I.Source.left g.O.Sink.written g.E.Sink.written c.fcntl.new.dev) (c.requires ∙ ap io_number c.in-Fcntl.is)
    (c.fcntl.ensures.row guest refl left told) in
    search rules

pub returns-in-Pread64-clause-row : goal.returns-in-Pread64-clause-row
returns-in-Pread64-clause-row g c = λ left told.
    let guest = found c.args.args.now c.args.cpu.now c.args.space.now in
    let row = by_number 4200 c.args.k.now guest left c.pread.result c.pread.new.below.kernel.now c.pread.new.space c.args.cpu.now (contents g.I.Source.left g.O.Sink.written g.E.Sink.written c.args.dev.now) (contents g.I.Source.left g.O.Sink.written g.E.Sink.written c.pread.new.dev) (c.requires ∙ ap io_number c.in-Pread64.is)
    (c.pread.ensures.row guest refl refl left told) in
    search rules

pub returns-in-Fcntl64-clause-row : goal.returns-in-Fcntl64-clause-row
returns-in-Fcntl64-clause-row g c = λ left told.
    let guest = found c.args.args.now c.args.cpu.now c.args.space.now in
    let row = by_number 4220 c.args.k.now guest left c.fcntl-in-Fcntl64.result c.fcntl-in-Fcntl64.new.below.kernel.now c.args.space.now c.args.cpu.now (contents g.I.Source.left g.O.Sink.written g.E.Sink.written c.args.dev.now) (contents g.I.Source.left g.O.Sink.written g.E.Sink.written c.fcntl-in-Fcntl64.new.dev) (c.requires ∙ ap io_number c.in-Fcntl64.is)
    (c.fcntl-in-Fcntl64.ensures.row guest refl left told) in
    search rules

pub returns-in-Write-clause-row : goal.returns-in-Write-clause-row
returns-in-Write-clause-row g c = λ left told.
    let guest = found c.args.args.now c.args.cpu.now c.args.space.now in
    let row = by_number 4004 c.args.k.now guest left c.write.result c.write.new.below.kernel.now c.args.space.now c.args.cpu.now (contents g.I.Source.left g.O.Sink.written g.E.Sink.written c.args.dev.now) (contents g.I.Source.left g.O.Sink.written g.E.Sink.written c.write.new.dev) (c.requires ∙ ap io_number c.in-Write.is)
    (c.write.ensures.row guest refl refl left told) in
    search rules

pub returns-in-Writev-clause-row : goal.returns-in-Writev-clause-row
returns-in-Writev-clause-row g c = λ left told.
    let guest = found c.args.args.now c.args.cpu.now c.args.space.now in
    let row = by_number 4146 c.args.k.now guest left c.writev.result c.writev.new.below.kernel.now c.args.space.now c.args.cpu.now (contents g.I.Source.left g.O.Sink.written g.E.Sink.written c.args.dev.now) (contents g.I.Source.left g.O.Sink.written g.E.Sink.written c.writev.new.dev) (c.requires ∙ ap io_number c.in-Writev.is)
    (c.writev.ensures.row guest refl refl left told) in
    search rules

pub returns-in-Pwrite64-clause-row : goal.returns-in-Pwrite64-clause-row
returns-in-Pwrite64-clause-row g c = λ left told.
    let guest = found c.args.args.now c.args.cpu.now c.args.space.now in
    let row = by_number 4201 c.args.k.now guest left c.pwrite.result c.pwrite.new.below.kernel.now c.args.space.now c.args.cpu.now (contents g.I.Source.left g.O.Sink.written g.E.Sink.written c.args.dev.now) (contents g.I.Source.left g.O.Sink.written g.E.Sink.written c.pwrite.new.dev) (c.requires ∙ ap io_number c.in-Pwrite64.is)
    (c.pwrite.ensures.row guest refl refl left told) in
    search rules

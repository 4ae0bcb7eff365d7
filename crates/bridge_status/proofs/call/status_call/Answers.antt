-- Each arm makes the row of its number.
use Rattle.std.proofs.Common.{refl, ◌∙◌, ap, rules}
use Rattle.bridge_paths.specs.Found.{found}
use Rattle.o32_model.specs.Status.{fstat64_row, fstat_row, fstatat64_row, stat64_row, stat_row}
use Rattle.outside.specs.Streams.{contents}
use Rattle.bridge_paths.proofs.ByNumber.{by_number, by_number_kept}
use Rattle.o32_calls.specs.Numbers.{status_number}
use Rattle.bridge_status.proofs.call.status_call.Goals as goal

pub returns-in-Stat-clause-row : goal.returns-in-Stat-clause-row
unfolding stat_row
returns-in-Stat-clause-row g c = λ left told.
    let guest = found c.args.args.now c.args.cpu.now c.args.space.now in
    let row = by_number 4106 c.args.k.now guest left c.fstatat.result c.fstatat.new.below.kernel.now c.fstatat.new.space c.args.cpu.now (contents g.I.Source.left g.O.Sink.written g.E.Sink.written c.args.dev.now) (contents g.I.Source.left g.O.Sink.written g.E.Sink.written c.fstatat.new.dev) (c.requires ∙ ap status_number c.in-Stat.is)
    (rw c.of_stat.ensures at (c.fstatat.ensures.row guest refl refl left told)) in
    search rules

pub returns-in-Stat-clause-kept : goal.returns-in-Stat-clause-kept
unfolding stat_row
returns-in-Stat-clause-kept g c = λ left told.
    let guest = found c.args.args.now c.args.cpu.now c.args.space.now in
    let row = by_number_kept 4106 c.args.k.now guest left c.fstatat.result c.args.log.now c.fstatat.new.below.log.now (c.requires ∙ ap status_number c.in-Stat.is) (rw c.of_stat.ensures at (c.fstatat.ensures.kept guest refl refl left told)) in
    search rules

pub returns-in-Lstat-clause-row : goal.returns-in-Lstat-clause-row
unfolding stat_row
returns-in-Lstat-clause-row g c = λ left told.
    let guest = found c.args.args.now c.args.cpu.now c.args.space.now in
    let row = by_number 4107 c.args.k.now guest left c.fstatat-in-Lstat.result c.fstatat-in-Lstat.new.below.kernel.now c.fstatat-in-Lstat.new.space c.args.cpu.now (contents g.I.Source.left g.O.Sink.written g.E.Sink.written c.args.dev.now) (contents g.I.Source.left g.O.Sink.written g.E.Sink.written c.fstatat-in-Lstat.new.dev) (c.requires ∙ ap status_number c.in-Lstat.is)
    (rw c.of_lstat.ensures at (c.fstatat-in-Lstat.ensures.row guest refl refl left told)) in
    search rules

pub returns-in-Lstat-clause-kept : goal.returns-in-Lstat-clause-kept
unfolding stat_row
returns-in-Lstat-clause-kept g c = λ left told.
    let guest = found c.args.args.now c.args.cpu.now c.args.space.now in
    let row = by_number_kept 4107 c.args.k.now guest left c.fstatat-in-Lstat.result c.args.log.now c.fstatat-in-Lstat.new.below.log.now (c.requires ∙ ap status_number c.in-Lstat.is) (rw c.of_lstat.ensures at (c.fstatat-in-Lstat.ensures.kept guest refl refl left told)) in
    search rules

pub returns-in-Fstat-clause-row : goal.returns-in-Fstat-clause-row
unfolding fstat_row
returns-in-Fstat-clause-row g c = λ left told.
    let guest = found c.args.args.now c.args.cpu.now c.args.space.now in
    let row = by_number 4108 c.args.k.now guest left c.fstat.result c.fstat.new.below.kernel.now c.fstat.new.space c.args.cpu.now (contents g.I.Source.left g.O.Sink.written g.E.Sink.written c.args.dev.now) (contents g.I.Source.left g.O.Sink.written g.E.Sink.written c.fstat.new.dev) (c.requires ∙ ap status_number c.in-Fstat.is)
    (c.fstat.ensures.row guest refl refl left told) in
    search rules

pub returns-in-Fstat-clause-kept : goal.returns-in-Fstat-clause-kept
unfolding fstat_row
returns-in-Fstat-clause-kept g c = λ left told.
    let guest = found c.args.args.now c.args.cpu.now c.args.space.now in
    let row = by_number_kept 4108 c.args.k.now guest left c.fstat.result c.args.log.now c.fstat.new.below.log.now (c.requires ∙ ap status_number c.in-Fstat.is) (c.fstat.ensures.kept guest refl refl left told) in
    search rules

pub returns-in-Stat64-clause-row : goal.returns-in-Stat64-clause-row
unfolding stat64_row
returns-in-Stat64-clause-row g c = λ left told.
    let guest = found c.args.args.now c.args.cpu.now c.args.space.now in
    let row = by_number 4213 c.args.k.now guest left c.fstatat-in-Stat64.result c.fstatat-in-Stat64.new.below.kernel.now c.fstatat-in-Stat64.new.space c.args.cpu.now (contents g.I.Source.left g.O.Sink.written g.E.Sink.written c.args.dev.now) (contents g.I.Source.left g.O.Sink.written g.E.Sink.written c.fstatat-in-Stat64.new.dev) (c.requires ∙ ap status_number c.in-Stat64.is)
    (rw c.of_stat-in-Stat64.ensures at (c.fstatat-in-Stat64.ensures.row guest refl refl left told)) in
    search rules

pub returns-in-Stat64-clause-kept : goal.returns-in-Stat64-clause-kept
unfolding stat64_row
returns-in-Stat64-clause-kept g c = λ left told.
    let guest = found c.args.args.now c.args.cpu.now c.args.space.now in
    let row = by_number_kept 4213 c.args.k.now guest left c.fstatat-in-Stat64.result c.args.log.now c.fstatat-in-Stat64.new.below.log.now (c.requires ∙ ap status_number c.in-Stat64.is) (rw c.of_stat-in-Stat64.ensures at (c.fstatat-in-Stat64.ensures.kept guest refl refl left told)) in
    search rules

pub returns-in-Lstat64-clause-row : goal.returns-in-Lstat64-clause-row
unfolding stat64_row
returns-in-Lstat64-clause-row g c = λ left told.
    let guest = found c.args.args.now c.args.cpu.now c.args.space.now in
    let row = by_number 4214 c.args.k.now guest left c.fstatat-in-Lstat64.result c.fstatat-in-Lstat64.new.below.kernel.now c.fstatat-in-Lstat64.new.space c.args.cpu.now (contents g.I.Source.left g.O.Sink.written g.E.Sink.written c.args.dev.now) (contents g.I.Source.left g.O.Sink.written g.E.Sink.written c.fstatat-in-Lstat64.new.dev) (c.requires ∙ ap status_number c.in-Lstat64.is)
    (rw c.of_lstat-in-Lstat64.ensures at (c.fstatat-in-Lstat64.ensures.row guest refl refl left told)) in
    search rules

pub returns-in-Lstat64-clause-kept : goal.returns-in-Lstat64-clause-kept
unfolding stat64_row
returns-in-Lstat64-clause-kept g c = λ left told.
    let guest = found c.args.args.now c.args.cpu.now c.args.space.now in
    let row = by_number_kept 4214 c.args.k.now guest left c.fstatat-in-Lstat64.result c.args.log.now c.fstatat-in-Lstat64.new.below.log.now (c.requires ∙ ap status_number c.in-Lstat64.is) (rw c.of_lstat-in-Lstat64.ensures at (c.fstatat-in-Lstat64.ensures.kept guest refl refl left told)) in
    search rules

pub returns-in-Fstat64-clause-row : goal.returns-in-Fstat64-clause-row
unfolding fstat64_row
returns-in-Fstat64-clause-row g c = λ left told.
    let guest = found c.args.args.now c.args.cpu.now c.args.space.now in
    let row = by_number 4215 c.args.k.now guest left c.fstat-in-Fstat64.result c.fstat-in-Fstat64.new.below.kernel.now c.fstat-in-Fstat64.new.space c.args.cpu.now (contents g.I.Source.left g.O.Sink.written g.E.Sink.written c.args.dev.now) (contents g.I.Source.left g.O.Sink.written g.E.Sink.written c.fstat-in-Fstat64.new.dev) (c.requires ∙ ap status_number c.in-Fstat64.is)
    (c.fstat-in-Fstat64.ensures.row guest refl refl left told) in
    search rules

pub returns-in-Fstat64-clause-kept : goal.returns-in-Fstat64-clause-kept
unfolding fstat64_row
returns-in-Fstat64-clause-kept g c = λ left told.
    let guest = found c.args.args.now c.args.cpu.now c.args.space.now in
    let row = by_number_kept 4215 c.args.k.now guest left c.fstat-in-Fstat64.result c.args.log.now c.fstat-in-Fstat64.new.below.log.now (c.requires ∙ ap status_number c.in-Fstat64.is) (c.fstat-in-Fstat64.ensures.kept guest refl refl left told) in
    search rules

pub returns-in-Fstatat64-clause-row : goal.returns-in-Fstatat64-clause-row
unfolding fstatat64_row
returns-in-Fstatat64-clause-row g c = λ left told.
    let guest = found c.args.args.now c.args.cpu.now c.args.space.now in
    let row = by_number 4293 c.args.k.now guest left c.fstatat-in-Fstatat64.result c.fstatat-in-Fstatat64.new.below.kernel.now c.fstatat-in-Fstatat64.new.space c.args.cpu.now (contents g.I.Source.left g.O.Sink.written g.E.Sink.written c.args.dev.now) (contents g.I.Source.left g.O.Sink.written g.E.Sink.written c.fstatat-in-Fstatat64.new.dev) (c.requires ∙ ap status_number c.in-Fstatat64.is)
    (rw c.of_fstatat.ensures at (c.fstatat-in-Fstatat64.ensures.row guest refl refl left told)) in
    search rules

pub returns-in-Fstatat64-clause-kept : goal.returns-in-Fstatat64-clause-kept
unfolding fstatat64_row
returns-in-Fstatat64-clause-kept g c = λ left told.
    let guest = found c.args.args.now c.args.cpu.now c.args.space.now in
    let row = by_number_kept 4293 c.args.k.now guest left c.fstatat-in-Fstatat64.result c.args.log.now c.fstatat-in-Fstatat64.new.below.log.now (c.requires ∙ ap status_number c.in-Fstatat64.is) (rw c.of_fstatat.ensures at (c.fstatat-in-Fstatat64.ensures.kept guest refl refl left told)) in
    search rules

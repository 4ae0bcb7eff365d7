-- Each arm makes the row of its number.
use Rattle.std.proofs.Common.{refl, ◌∙◌, ap}
use Rattle.bridge_paths.specs.Found.{found}
use Rattle.o32_calls.specs.Numbers.{name_number}
use Rattle.o32_model.specs.Names.{link_row}
use Rattle.outside.specs.Streams.{contents}
use Rattle.bridge_file.proofs.ByWords.{by_words, by_words_kept}
use Rattle.bridge_file.proofs.call.name_call.Goals as goal

pub returns-in-Link-clause-row : goal.returns-in-Link-clause-row
unfolding link_row
returns-in-Link-clause-row g c =
    by_words 4009 c.args.below.now.kernel.now c.args.caller.now.words.now c.args.caller.now.space.now c.link.result c.link.new.below.kernel.now (contents g.I.Source.left g.O.Sink.written g.E.Sink.written c.args.dev.now) (contents g.I.Source.left g.O.Sink.written g.E.Sink.written c.link.new.dev) (c.requires ∙ ap name_number c.in-Link.is)
    (λ processor left told. rw (c.here.ensures, c.here-in-Link.ensures) at (c.link.ensures.row (found c.args.caller.now.words.now processor c.args.caller.now.space.now) refl refl left told))

pub returns-in-Link-clause-kept : goal.returns-in-Link-clause-kept
unfolding link_row
returns-in-Link-clause-kept g c =
    by_words_kept 4009 c.args.below.now.kernel.now c.args.caller.now.words.now c.args.caller.now.space.now c.link.result (g.I.Source.left c.args.dev.now.input) c.args.below.now.log.now c.link.new.below.log.now (c.requires ∙ ap name_number c.in-Link.is)
    (λ processor left told. rw (c.here.ensures, c.here-in-Link.ensures) at (c.link.ensures.kept (found c.args.caller.now.words.now processor c.args.caller.now.space.now) refl refl left told))

pub returns-in-Unlink-clause-row : goal.returns-in-Unlink-clause-row
returns-in-Unlink-clause-row g c =
    by_words 4010 c.args.below.now.kernel.now c.args.caller.now.words.now c.args.caller.now.space.now c.remove.result c.remove.new.below.kernel.now (contents g.I.Source.left g.O.Sink.written g.E.Sink.written c.args.dev.now) (contents g.I.Source.left g.O.Sink.written g.E.Sink.written c.remove.new.dev) (c.requires ∙ ap name_number c.in-Unlink.is)
    (λ processor left told. rw c.here-in-Unlink.ensures at (c.remove.ensures.row (found c.args.caller.now.words.now processor c.args.caller.now.space.now) refl refl left told))

pub returns-in-Unlink-clause-kept : goal.returns-in-Unlink-clause-kept
returns-in-Unlink-clause-kept g c =
    by_words_kept 4010 c.args.below.now.kernel.now c.args.caller.now.words.now c.args.caller.now.space.now c.remove.result (g.I.Source.left c.args.dev.now.input) c.args.below.now.log.now c.remove.new.below.log.now (c.requires ∙ ap name_number c.in-Unlink.is)
    (λ processor left told. rw c.here-in-Unlink.ensures at (c.remove.ensures.kept (found c.args.caller.now.words.now processor c.args.caller.now.space.now) refl refl left told))

pub returns-in-Rename-clause-row : goal.returns-in-Rename-clause-row
returns-in-Rename-clause-row g c =
    by_words 4038 c.args.below.now.kernel.now c.args.caller.now.words.now c.args.caller.now.space.now c.rename.result c.rename.new.below.kernel.now (contents g.I.Source.left g.O.Sink.written g.E.Sink.written c.args.dev.now) (contents g.I.Source.left g.O.Sink.written g.E.Sink.written c.rename.new.dev) (c.requires ∙ ap name_number c.in-Rename.is)
    (λ processor left told. rw (c.here-in-Rename.ensures, c.here-in-Rename-2.ensures) at (c.rename.ensures.row (found c.args.caller.now.words.now processor c.args.caller.now.space.now) refl refl left told))

pub returns-in-Rename-clause-kept : goal.returns-in-Rename-clause-kept
returns-in-Rename-clause-kept g c =
    by_words_kept 4038 c.args.below.now.kernel.now c.args.caller.now.words.now c.args.caller.now.space.now c.rename.result (g.I.Source.left c.args.dev.now.input) c.args.below.now.log.now c.rename.new.below.log.now (c.requires ∙ ap name_number c.in-Rename.is)
    (λ processor left told. rw (c.here-in-Rename.ensures, c.here-in-Rename-2.ensures) at (c.rename.ensures.kept (found c.args.caller.now.words.now processor c.args.caller.now.space.now) refl refl left told))

pub returns-in-Mkdir-clause-row : goal.returns-in-Mkdir-clause-row
returns-in-Mkdir-clause-row g c =
    by_words 4039 c.args.below.now.kernel.now c.args.caller.now.words.now c.args.caller.now.space.now c.mkdir.result c.mkdir.new.below.kernel.now (contents g.I.Source.left g.O.Sink.written g.E.Sink.written c.args.dev.now) (contents g.I.Source.left g.O.Sink.written g.E.Sink.written c.mkdir.new.dev) (c.requires ∙ ap name_number c.in-Mkdir.is)
    (λ processor left told. rw c.here-in-Mkdir.ensures at (c.mkdir.ensures.row (found c.args.caller.now.words.now processor c.args.caller.now.space.now) refl refl left told))

pub returns-in-Mkdir-clause-kept : goal.returns-in-Mkdir-clause-kept
returns-in-Mkdir-clause-kept g c =
    by_words_kept 4039 c.args.below.now.kernel.now c.args.caller.now.words.now c.args.caller.now.space.now c.mkdir.result (g.I.Source.left c.args.dev.now.input) c.args.below.now.log.now c.mkdir.new.below.log.now (c.requires ∙ ap name_number c.in-Mkdir.is)
    (λ processor left told. rw c.here-in-Mkdir.ensures at (c.mkdir.ensures.kept (found c.args.caller.now.words.now processor c.args.caller.now.space.now) refl refl left told))

pub returns-in-Rmdir-clause-row : goal.returns-in-Rmdir-clause-row
returns-in-Rmdir-clause-row g c =
    by_words 4040 c.args.below.now.kernel.now c.args.caller.now.words.now c.args.caller.now.space.now c.remove-in-Rmdir.result c.remove-in-Rmdir.new.below.kernel.now (contents g.I.Source.left g.O.Sink.written g.E.Sink.written c.args.dev.now) (contents g.I.Source.left g.O.Sink.written g.E.Sink.written c.remove-in-Rmdir.new.dev) (c.requires ∙ ap name_number c.in-Rmdir.is)
    (λ processor left told. rw c.here-in-Rmdir.ensures at (c.remove-in-Rmdir.ensures.row (found c.args.caller.now.words.now processor c.args.caller.now.space.now) refl refl left told))

pub returns-in-Rmdir-clause-kept : goal.returns-in-Rmdir-clause-kept
returns-in-Rmdir-clause-kept g c =
    by_words_kept 4040 c.args.below.now.kernel.now c.args.caller.now.words.now c.args.caller.now.space.now c.remove-in-Rmdir.result (g.I.Source.left c.args.dev.now.input) c.args.below.now.log.now c.remove-in-Rmdir.new.below.log.now (c.requires ∙ ap name_number c.in-Rmdir.is)
    (λ processor left told. rw c.here-in-Rmdir.ensures at (c.remove-in-Rmdir.ensures.kept (found c.args.caller.now.words.now processor c.args.caller.now.space.now) refl refl left told))

pub returns-in-Symlink-clause-row : goal.returns-in-Symlink-clause-row
returns-in-Symlink-clause-row g c =
    by_words 4083 c.args.below.now.kernel.now c.args.caller.now.words.now c.args.caller.now.space.now c.symlink.result c.symlink.new.below.kernel.now (contents g.I.Source.left g.O.Sink.written g.E.Sink.written c.args.dev.now) (contents g.I.Source.left g.O.Sink.written g.E.Sink.written c.symlink.new.dev) (c.requires ∙ ap name_number c.in-Symlink.is)
    (λ processor left told. rw c.here-in-Symlink.ensures at (c.symlink.ensures.row (found c.args.caller.now.words.now processor c.args.caller.now.space.now) refl refl left told))

pub returns-in-Symlink-clause-kept : goal.returns-in-Symlink-clause-kept
returns-in-Symlink-clause-kept g c =
    by_words_kept 4083 c.args.below.now.kernel.now c.args.caller.now.words.now c.args.caller.now.space.now c.symlink.result (g.I.Source.left c.args.dev.now.input) c.args.below.now.log.now c.symlink.new.below.log.now (c.requires ∙ ap name_number c.in-Symlink.is)
    (λ processor left told. rw c.here-in-Symlink.ensures at (c.symlink.ensures.kept (found c.args.caller.now.words.now processor c.args.caller.now.space.now) refl refl left told))

pub returns-in-Mkdirat-clause-row : goal.returns-in-Mkdirat-clause-row
returns-in-Mkdirat-clause-row g c =
    by_words 4289 c.args.below.now.kernel.now c.args.caller.now.words.now c.args.caller.now.space.now c.mkdir-in-Mkdirat.result c.mkdir-in-Mkdirat.new.below.kernel.now (contents g.I.Source.left g.O.Sink.written g.E.Sink.written c.args.dev.now) (contents g.I.Source.left g.O.Sink.written g.E.Sink.written c.mkdir-in-Mkdirat.new.dev) (c.requires ∙ ap name_number c.in-Mkdirat.is)
    (λ processor left told. rw c.at.ensures at (c.mkdir-in-Mkdirat.ensures.row (found c.args.caller.now.words.now processor c.args.caller.now.space.now) refl refl left told))

pub returns-in-Mkdirat-clause-kept : goal.returns-in-Mkdirat-clause-kept
returns-in-Mkdirat-clause-kept g c =
    by_words_kept 4289 c.args.below.now.kernel.now c.args.caller.now.words.now c.args.caller.now.space.now c.mkdir-in-Mkdirat.result (g.I.Source.left c.args.dev.now.input) c.args.below.now.log.now c.mkdir-in-Mkdirat.new.below.log.now (c.requires ∙ ap name_number c.in-Mkdirat.is)
    (λ processor left told. rw c.at.ensures at (c.mkdir-in-Mkdirat.ensures.kept (found c.args.caller.now.words.now processor c.args.caller.now.space.now) refl refl left told))

pub returns-in-Unlinkat-clause-row : goal.returns-in-Unlinkat-clause-row
returns-in-Unlinkat-clause-row g c =
    by_words 4294 c.args.below.now.kernel.now c.args.caller.now.words.now c.args.caller.now.space.now c.remove-in-Unlinkat.result c.remove-in-Unlinkat.new.below.kernel.now (contents g.I.Source.left g.O.Sink.written g.E.Sink.written c.args.dev.now) (contents g.I.Source.left g.O.Sink.written g.E.Sink.written c.remove-in-Unlinkat.new.dev) (c.requires ∙ ap name_number c.in-Unlinkat.is)
    (λ processor left told. rw c.at-in-Unlinkat.ensures at (c.remove-in-Unlinkat.ensures.row (found c.args.caller.now.words.now processor c.args.caller.now.space.now) refl refl left told))

pub returns-in-Unlinkat-clause-kept : goal.returns-in-Unlinkat-clause-kept
returns-in-Unlinkat-clause-kept g c =
    by_words_kept 4294 c.args.below.now.kernel.now c.args.caller.now.words.now c.args.caller.now.space.now c.remove-in-Unlinkat.result (g.I.Source.left c.args.dev.now.input) c.args.below.now.log.now c.remove-in-Unlinkat.new.below.log.now (c.requires ∙ ap name_number c.in-Unlinkat.is)
    (λ processor left told. rw c.at-in-Unlinkat.ensures at (c.remove-in-Unlinkat.ensures.kept (found c.args.caller.now.words.now processor c.args.caller.now.space.now) refl refl left told))

pub returns-in-Renameat-clause-row : goal.returns-in-Renameat-clause-row
returns-in-Renameat-clause-row g c =
    by_words 4295 c.args.below.now.kernel.now c.args.caller.now.words.now c.args.caller.now.space.now c.rename-in-Renameat.result c.rename-in-Renameat.new.below.kernel.now (contents g.I.Source.left g.O.Sink.written g.E.Sink.written c.args.dev.now) (contents g.I.Source.left g.O.Sink.written g.E.Sink.written c.rename-in-Renameat.new.dev) (c.requires ∙ ap name_number c.in-Renameat.is)
    (λ processor left told. rw (c.at-in-Renameat.ensures, c.at-in-Renameat-2.ensures) at (c.rename-in-Renameat.ensures.row (found c.args.caller.now.words.now processor c.args.caller.now.space.now) refl refl left told))

pub returns-in-Renameat-clause-kept : goal.returns-in-Renameat-clause-kept
returns-in-Renameat-clause-kept g c =
    by_words_kept 4295 c.args.below.now.kernel.now c.args.caller.now.words.now c.args.caller.now.space.now c.rename-in-Renameat.result (g.I.Source.left c.args.dev.now.input) c.args.below.now.log.now c.rename-in-Renameat.new.below.log.now (c.requires ∙ ap name_number c.in-Renameat.is)
    (λ processor left told. rw (c.at-in-Renameat.ensures, c.at-in-Renameat-2.ensures) at (c.rename-in-Renameat.ensures.kept (found c.args.caller.now.words.now processor c.args.caller.now.space.now) refl refl left told))

pub returns-in-Linkat-clause-row : goal.returns-in-Linkat-clause-row
returns-in-Linkat-clause-row g c =
    by_words 4296 c.args.below.now.kernel.now c.args.caller.now.words.now c.args.caller.now.space.now c.linkat.result c.linkat.new.below.kernel.now (contents g.I.Source.left g.O.Sink.written g.E.Sink.written c.args.dev.now) (contents g.I.Source.left g.O.Sink.written g.E.Sink.written c.linkat.new.dev) (c.requires ∙ ap name_number c.in-Linkat.is)
    (λ processor left told. rw (c.at-in-Linkat.ensures, c.at-in-Linkat-2.ensures) at (c.linkat.ensures.row (found c.args.caller.now.words.now processor c.args.caller.now.space.now) refl refl left told))

pub returns-in-Linkat-clause-kept : goal.returns-in-Linkat-clause-kept
returns-in-Linkat-clause-kept g c =
    by_words_kept 4296 c.args.below.now.kernel.now c.args.caller.now.words.now c.args.caller.now.space.now c.linkat.result (g.I.Source.left c.args.dev.now.input) c.args.below.now.log.now c.linkat.new.below.log.now (c.requires ∙ ap name_number c.in-Linkat.is)
    (λ processor left told. rw (c.at-in-Linkat.ensures, c.at-in-Linkat-2.ensures) at (c.linkat.ensures.kept (found c.args.caller.now.words.now processor c.args.caller.now.space.now) refl refl left told))

pub returns-in-Symlinkat-clause-row : goal.returns-in-Symlinkat-clause-row
returns-in-Symlinkat-clause-row g c =
    by_words 4297 c.args.below.now.kernel.now c.args.caller.now.words.now c.args.caller.now.space.now c.symlink-in-Symlinkat.result c.symlink-in-Symlinkat.new.below.kernel.now (contents g.I.Source.left g.O.Sink.written g.E.Sink.written c.args.dev.now) (contents g.I.Source.left g.O.Sink.written g.E.Sink.written c.symlink-in-Symlinkat.new.dev) (c.requires ∙ ap name_number c.in-Symlinkat.is)
    (λ processor left told. rw c.at-in-Symlinkat.ensures at (c.symlink-in-Symlinkat.ensures.row (found c.args.caller.now.words.now processor c.args.caller.now.space.now) refl refl left told))

pub returns-in-Symlinkat-clause-kept : goal.returns-in-Symlinkat-clause-kept
returns-in-Symlinkat-clause-kept g c =
    by_words_kept 4297 c.args.below.now.kernel.now c.args.caller.now.words.now c.args.caller.now.space.now c.symlink-in-Symlinkat.result (g.I.Source.left c.args.dev.now.input) c.args.below.now.log.now c.symlink-in-Symlinkat.new.below.log.now (c.requires ∙ ap name_number c.in-Symlinkat.is)
    (λ processor left told. rw c.at-in-Symlinkat.ensures at (c.symlink-in-Symlinkat.ensures.kept (found c.args.caller.now.words.now processor c.args.caller.now.space.now) refl refl left told))

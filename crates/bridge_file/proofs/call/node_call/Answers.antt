-- Each arm makes the row of its number.
use Rattle.std.proofs.Common.{refl, ◌∙◌, ap}
use Rattle.bridge_paths.specs.Found.{found}
use Rattle.o32_calls.specs.Numbers.{node_number}
use Rattle.outside.specs.Streams.{contents}
use Rattle.bridge_file.proofs.ByWords.{by_words, by_words_kept}
use Rattle.bridge_file.proofs.call.node_call.Goals as goal

pub returns-in-Chdir-clause-row : goal.returns-in-Chdir-clause-row
returns-in-Chdir-clause-row g c =
    by_words 4012 c.args.below.now.kernel.now c.args.caller.now.words.now c.args.caller.now.space.now c.chdir.result c.chdir.new.below.kernel.now (contents g.I.Source.left g.O.Sink.written g.E.Sink.written c.args.dev.now) (contents g.I.Source.left g.O.Sink.written g.E.Sink.written c.chdir.new.dev) (c.requires ∙ ap node_number c.in-Chdir.is)
    (λ processor left told. c.chdir.ensures.row (found c.args.caller.now.words.now processor c.args.caller.now.space.now) refl refl left told)

pub returns-in-Chdir-clause-kept : goal.returns-in-Chdir-clause-kept
returns-in-Chdir-clause-kept g c =
    by_words_kept 4012 c.args.below.now.kernel.now c.args.caller.now.words.now c.args.caller.now.space.now c.chdir.result (g.I.Source.left c.args.dev.now.input) c.args.below.now.log.now c.chdir.new.below.log.now (c.requires ∙ ap node_number c.in-Chdir.is)
    (λ processor left told. c.chdir.ensures.kept (found c.args.caller.now.words.now processor c.args.caller.now.space.now) refl refl left told)

pub returns-in-Chmod-clause-row : goal.returns-in-Chmod-clause-row
returns-in-Chmod-clause-row g c =
    by_words 4015 c.args.below.now.kernel.now c.args.caller.now.words.now c.args.caller.now.space.now c.chmod.result c.chmod.new.below.kernel.now (contents g.I.Source.left g.O.Sink.written g.E.Sink.written c.args.dev.now) (contents g.I.Source.left g.O.Sink.written g.E.Sink.written c.chmod.new.dev) (c.requires ∙ ap node_number c.in-Chmod.is)
    (λ processor left told. rw c.here.ensures at (c.chmod.ensures.row (found c.args.caller.now.words.now processor c.args.caller.now.space.now) refl refl left told))

pub returns-in-Chmod-clause-kept : goal.returns-in-Chmod-clause-kept
returns-in-Chmod-clause-kept g c =
    by_words_kept 4015 c.args.below.now.kernel.now c.args.caller.now.words.now c.args.caller.now.space.now c.chmod.result (g.I.Source.left c.args.dev.now.input) c.args.below.now.log.now c.chmod.new.below.log.now (c.requires ∙ ap node_number c.in-Chmod.is)
    (λ processor left told. rw c.here.ensures at (c.chmod.ensures.kept (found c.args.caller.now.words.now processor c.args.caller.now.space.now) refl refl left told))

pub returns-in-Access-clause-row : goal.returns-in-Access-clause-row
returns-in-Access-clause-row g c =
    by_words 4033 c.args.below.now.kernel.now c.args.caller.now.words.now c.args.caller.now.space.now c.access.result c.access.new.below.kernel.now (contents g.I.Source.left g.O.Sink.written g.E.Sink.written c.args.dev.now) (contents g.I.Source.left g.O.Sink.written g.E.Sink.written c.access.new.dev) (c.requires ∙ ap node_number c.in-Access.is)
    (λ processor left told. rw c.here-in-Access.ensures at (c.access.ensures.row (found c.args.caller.now.words.now processor c.args.caller.now.space.now) refl refl left told))

pub returns-in-Access-clause-kept : goal.returns-in-Access-clause-kept
returns-in-Access-clause-kept g c =
    by_words_kept 4033 c.args.below.now.kernel.now c.args.caller.now.words.now c.args.caller.now.space.now c.access.result (g.I.Source.left c.args.dev.now.input) c.args.below.now.log.now c.access.new.below.log.now (c.requires ∙ ap node_number c.in-Access.is)
    (λ processor left told. rw c.here-in-Access.ensures at (c.access.ensures.kept (found c.args.caller.now.words.now processor c.args.caller.now.space.now) refl refl left told))

pub returns-in-Umask-clause-row : goal.returns-in-Umask-clause-row
returns-in-Umask-clause-row g c =
    by_words 4060 c.args.below.now.kernel.now c.args.caller.now.words.now c.args.caller.now.space.now c.umask.result c.umask.new.below.kernel.now (contents g.I.Source.left g.O.Sink.written g.E.Sink.written c.args.dev.now) (contents g.I.Source.left g.O.Sink.written g.E.Sink.written c.umask.new.dev) (c.requires ∙ ap node_number c.in-Umask.is)
    (λ processor left told. c.umask.ensures.row (found c.args.caller.now.words.now processor c.args.caller.now.space.now) refl left told)

pub returns-in-Umask-clause-kept : goal.returns-in-Umask-clause-kept
returns-in-Umask-clause-kept g c =
    by_words_kept 4060 c.args.below.now.kernel.now c.args.caller.now.words.now c.args.caller.now.space.now c.umask.result (g.I.Source.left c.args.dev.now.input) c.args.below.now.log.now c.umask.new.below.log.now (c.requires ∙ ap node_number c.in-Umask.is)
    (λ processor left told. c.umask.ensures.kept (found c.args.caller.now.words.now processor c.args.caller.now.space.now) refl left told)

pub returns-in-Fchmod-clause-row : goal.returns-in-Fchmod-clause-row
returns-in-Fchmod-clause-row g c =
    by_words 4094 c.args.below.now.kernel.now c.args.caller.now.words.now c.args.caller.now.space.now c.fchmod.result c.fchmod.new.below.kernel.now (contents g.I.Source.left g.O.Sink.written g.E.Sink.written c.args.dev.now) (contents g.I.Source.left g.O.Sink.written g.E.Sink.written c.fchmod.new.dev) (c.requires ∙ ap node_number c.in-Fchmod.is)
    (λ processor left told. c.fchmod.ensures.row (found c.args.caller.now.words.now processor c.args.caller.now.space.now) refl left told)

pub returns-in-Fchmod-clause-kept : goal.returns-in-Fchmod-clause-kept
returns-in-Fchmod-clause-kept g c =
    by_words_kept 4094 c.args.below.now.kernel.now c.args.caller.now.words.now c.args.caller.now.space.now c.fchmod.result (g.I.Source.left c.args.dev.now.input) c.args.below.now.log.now c.fchmod.new.below.log.now (c.requires ∙ ap node_number c.in-Fchmod.is)
    (λ processor left told. c.fchmod.ensures.kept (found c.args.caller.now.words.now processor c.args.caller.now.space.now) refl left told)

pub returns-in-Fsync-clause-row : goal.returns-in-Fsync-clause-row
returns-in-Fsync-clause-row g c =
    by_words 4118 c.args.below.now.kernel.now c.args.caller.now.words.now c.args.caller.now.space.now c.fsync.result c.fsync.new.below.kernel.now (contents g.I.Source.left g.O.Sink.written g.E.Sink.written c.args.dev.now) (contents g.I.Source.left g.O.Sink.written g.E.Sink.written c.fsync.new.dev) (c.requires ∙ ap node_number c.in-Fsync.is)
    (λ processor left told. c.fsync.ensures.row (found c.args.caller.now.words.now processor c.args.caller.now.space.now) refl left told)

pub returns-in-Fsync-clause-kept : goal.returns-in-Fsync-clause-kept
returns-in-Fsync-clause-kept g c =
    by_words_kept 4118 c.args.below.now.kernel.now c.args.caller.now.words.now c.args.caller.now.space.now c.fsync.result (g.I.Source.left c.args.dev.now.input) c.args.below.now.log.now c.fsync.new.below.log.now (c.requires ∙ ap node_number c.in-Fsync.is)
    (λ processor left told. c.fsync.ensures.kept (found c.args.caller.now.words.now processor c.args.caller.now.space.now) refl left told)

pub returns-in-Fchdir-clause-row : goal.returns-in-Fchdir-clause-row
returns-in-Fchdir-clause-row g c =
    by_words 4133 c.args.below.now.kernel.now c.args.caller.now.words.now c.args.caller.now.space.now c.fchdir.result c.fchdir.new.below.kernel.now (contents g.I.Source.left g.O.Sink.written g.E.Sink.written c.args.dev.now) (contents g.I.Source.left g.O.Sink.written g.E.Sink.written c.fchdir.new.dev) (c.requires ∙ ap node_number c.in-Fchdir.is)
    (λ processor left told. c.fchdir.ensures.row (found c.args.caller.now.words.now processor c.args.caller.now.space.now) refl left told)

pub returns-in-Fchdir-clause-kept : goal.returns-in-Fchdir-clause-kept
returns-in-Fchdir-clause-kept g c =
    by_words_kept 4133 c.args.below.now.kernel.now c.args.caller.now.words.now c.args.caller.now.space.now c.fchdir.result (g.I.Source.left c.args.dev.now.input) c.args.below.now.log.now c.fchdir.new.below.log.now (c.requires ∙ ap node_number c.in-Fchdir.is)
    (λ processor left told. c.fchdir.ensures.kept (found c.args.caller.now.words.now processor c.args.caller.now.space.now) refl left told)

pub returns-in-Fdatasync-clause-row : goal.returns-in-Fdatasync-clause-row
returns-in-Fdatasync-clause-row g c =
    by_words 4152 c.args.below.now.kernel.now c.args.caller.now.words.now c.args.caller.now.space.now c.fdatasync.result c.fdatasync.new.below.kernel.now (contents g.I.Source.left g.O.Sink.written g.E.Sink.written c.args.dev.now) (contents g.I.Source.left g.O.Sink.written g.E.Sink.written c.fdatasync.new.dev) (c.requires ∙ ap node_number c.in-Fdatasync.is)
    (λ processor left told. c.fdatasync.ensures.row (found c.args.caller.now.words.now processor c.args.caller.now.space.now) refl left told)

pub returns-in-Fdatasync-clause-kept : goal.returns-in-Fdatasync-clause-kept
returns-in-Fdatasync-clause-kept g c =
    by_words_kept 4152 c.args.below.now.kernel.now c.args.caller.now.words.now c.args.caller.now.space.now c.fdatasync.result (g.I.Source.left c.args.dev.now.input) c.args.below.now.log.now c.fdatasync.new.below.log.now (c.requires ∙ ap node_number c.in-Fdatasync.is)
    (λ processor left told. c.fdatasync.ensures.kept (found c.args.caller.now.words.now processor c.args.caller.now.space.now) refl left told)

pub returns-in-Fchmodat-clause-row : goal.returns-in-Fchmodat-clause-row
returns-in-Fchmodat-clause-row g c =
    by_words 4299 c.args.below.now.kernel.now c.args.caller.now.words.now c.args.caller.now.space.now c.chmod-in-Fchmodat.result c.chmod-in-Fchmodat.new.below.kernel.now (contents g.I.Source.left g.O.Sink.written g.E.Sink.written c.args.dev.now) (contents g.I.Source.left g.O.Sink.written g.E.Sink.written c.chmod-in-Fchmodat.new.dev) (c.requires ∙ ap node_number c.in-Fchmodat.is)
    (λ processor left told. rw c.at.ensures at (c.chmod-in-Fchmodat.ensures.row (found c.args.caller.now.words.now processor c.args.caller.now.space.now) refl refl left told))

pub returns-in-Fchmodat-clause-kept : goal.returns-in-Fchmodat-clause-kept
returns-in-Fchmodat-clause-kept g c =
    by_words_kept 4299 c.args.below.now.kernel.now c.args.caller.now.words.now c.args.caller.now.space.now c.chmod-in-Fchmodat.result (g.I.Source.left c.args.dev.now.input) c.args.below.now.log.now c.chmod-in-Fchmodat.new.below.log.now (c.requires ∙ ap node_number c.in-Fchmodat.is)
    (λ processor left told. rw c.at.ensures at (c.chmod-in-Fchmodat.ensures.kept (found c.args.caller.now.words.now processor c.args.caller.now.space.now) refl refl left told))

pub returns-in-Faccessat-clause-row : goal.returns-in-Faccessat-clause-row
returns-in-Faccessat-clause-row g c =
    by_words 4300 c.args.below.now.kernel.now c.args.caller.now.words.now c.args.caller.now.space.now c.access-in-Faccessat.result c.access-in-Faccessat.new.below.kernel.now (contents g.I.Source.left g.O.Sink.written g.E.Sink.written c.args.dev.now) (contents g.I.Source.left g.O.Sink.written g.E.Sink.written c.access-in-Faccessat.new.dev) (c.requires ∙ ap node_number c.in-Faccessat.is)
    (λ processor left told. rw c.at-in-Faccessat.ensures at (c.access-in-Faccessat.ensures.row (found c.args.caller.now.words.now processor c.args.caller.now.space.now) refl refl left told))

pub returns-in-Faccessat-clause-kept : goal.returns-in-Faccessat-clause-kept
returns-in-Faccessat-clause-kept g c =
    by_words_kept 4300 c.args.below.now.kernel.now c.args.caller.now.words.now c.args.caller.now.space.now c.access-in-Faccessat.result (g.I.Source.left c.args.dev.now.input) c.args.below.now.log.now c.access-in-Faccessat.new.below.log.now (c.requires ∙ ap node_number c.in-Faccessat.is)
    (λ processor left told. rw c.at-in-Faccessat.ensures at (c.access-in-Faccessat.ensures.kept (found c.args.caller.now.words.now processor c.args.caller.now.space.now) refl refl left told))

pub returns-in-Utimensat-clause-row : goal.returns-in-Utimensat-clause-row
returns-in-Utimensat-clause-row g c =
    by_words 4316 c.args.below.now.kernel.now c.args.caller.now.words.now c.args.caller.now.space.now c.utimensat.result c.utimensat.new.below.kernel.now (contents g.I.Source.left g.O.Sink.written g.E.Sink.written c.args.dev.now) (contents g.I.Source.left g.O.Sink.written g.E.Sink.written c.utimensat.new.dev) (c.requires ∙ ap node_number c.in-Utimensat.is)
    (λ processor left told. c.utimensat.ensures.row (found c.args.caller.now.words.now processor c.args.caller.now.space.now) refl refl left told)

pub returns-in-Utimensat-clause-kept : goal.returns-in-Utimensat-clause-kept
returns-in-Utimensat-clause-kept g c =
    by_words_kept 4316 c.args.below.now.kernel.now c.args.caller.now.words.now c.args.caller.now.space.now c.utimensat.result (g.I.Source.left c.args.dev.now.input) c.args.below.now.log.now c.utimensat.new.below.log.now (c.requires ∙ ap node_number c.in-Utimensat.is)
    (λ processor left told. c.utimensat.ensures.kept (found c.args.caller.now.words.now processor c.args.caller.now.space.now) refl refl left told)

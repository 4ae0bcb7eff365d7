-- Each arm makes the row of its number.
use Rattle.std.proofs.Common.{refl, ◌∙◌, ap}
use Rattle.bridge_paths.specs.Found.{found}
use Rattle.o32_calls.specs.Numbers.{text_number}
use Rattle.outside.specs.Streams.{contents}
use Rattle.bridge_file.proofs.ByWords.{by_words_kept, by_words_stored}
use Rattle.bridge_file.proofs.call.text_call.Goals as goal

pub returns-in-Readlink-clause-row : goal.returns-in-Readlink-clause-row
returns-in-Readlink-clause-row g c =
    by_words_stored 4085 c.args.below.now.kernel.now c.args.words.now c.args.space.now c.readlink.result c.readlink.new.below.kernel.now c.readlink.new.space (contents g.I.Source.left g.O.Sink.written g.E.Sink.written c.args.dev.now) (contents g.I.Source.left g.O.Sink.written g.E.Sink.written c.readlink.new.dev) (c.requires ∙ ap text_number c.in-Readlink.is)
    (λ processor left told. rw c.here.ensures at (c.readlink.ensures.row (found c.args.words.now processor c.args.space.now) refl refl left told))

pub returns-in-Readlink-clause-kept : goal.returns-in-Readlink-clause-kept
returns-in-Readlink-clause-kept g c =
    by_words_kept 4085 c.args.below.now.kernel.now c.args.words.now c.args.space.now c.readlink.result (g.I.Source.left c.args.dev.now.input) c.args.below.now.log.now c.readlink.new.below.log.now (c.requires ∙ ap text_number c.in-Readlink.is)
    (λ processor left told. rw c.here.ensures at (c.readlink.ensures.kept (found c.args.words.now processor c.args.space.now) refl refl left told))

pub returns-in-Getcwd-clause-row : goal.returns-in-Getcwd-clause-row
returns-in-Getcwd-clause-row g c =
    by_words_stored 4203 c.args.below.now.kernel.now c.args.words.now c.args.space.now c.getcwd.result c.getcwd.new.below.kernel.now c.getcwd.new.space (contents g.I.Source.left g.O.Sink.written g.E.Sink.written c.args.dev.now) (contents g.I.Source.left g.O.Sink.written g.E.Sink.written c.getcwd.new.dev) (c.requires ∙ ap text_number c.in-Getcwd.is)
    (λ processor left told. c.getcwd.ensures.row (found c.args.words.now processor c.args.space.now) refl refl left told)

pub returns-in-Getcwd-clause-kept : goal.returns-in-Getcwd-clause-kept
returns-in-Getcwd-clause-kept g c =
    by_words_kept 4203 c.args.below.now.kernel.now c.args.words.now c.args.space.now c.getcwd.result (g.I.Source.left c.args.dev.now.input) c.args.below.now.log.now c.getcwd.new.below.log.now (c.requires ∙ ap text_number c.in-Getcwd.is)
    (λ processor left told. c.getcwd.ensures.kept (found c.args.words.now processor c.args.space.now) refl refl left told)

pub returns-in-Readlinkat-clause-row : goal.returns-in-Readlinkat-clause-row
returns-in-Readlinkat-clause-row g c =
    by_words_stored 4298 c.args.below.now.kernel.now c.args.words.now c.args.space.now c.readlink-in-Readlinkat.result c.readlink-in-Readlinkat.new.below.kernel.now c.readlink-in-Readlinkat.new.space (contents g.I.Source.left g.O.Sink.written g.E.Sink.written c.args.dev.now) (contents g.I.Source.left g.O.Sink.written g.E.Sink.written c.readlink-in-Readlinkat.new.dev) (c.requires ∙ ap text_number c.in-Readlinkat.is)
    (λ processor left told. rw c.at.ensures at (c.readlink-in-Readlinkat.ensures.row (found c.args.words.now processor c.args.space.now) refl refl left told))

pub returns-in-Readlinkat-clause-kept : goal.returns-in-Readlinkat-clause-kept
returns-in-Readlinkat-clause-kept g c =
    by_words_kept 4298 c.args.below.now.kernel.now c.args.words.now c.args.space.now c.readlink-in-Readlinkat.result (g.I.Source.left c.args.dev.now.input) c.args.below.now.log.now c.readlink-in-Readlinkat.new.below.log.now (c.requires ∙ ap text_number c.in-Readlinkat.is)
    (λ processor left told. rw c.at.ensures at (c.readlink-in-Readlinkat.ensures.kept (found c.args.words.now processor c.args.space.now) refl refl left told))

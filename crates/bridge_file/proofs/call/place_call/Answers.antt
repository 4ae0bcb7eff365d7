-- Each arm makes the row of its number.
use Rattle.std.proofs.Common.{refl, ◌∙◌, ap}
use Rattle.bridge_paths.specs.Found.{found}
use Rattle.o32_calls.specs.Numbers.{place_number}
use Rattle.outside.specs.Streams.{contents}
use Rattle.bridge_file.proofs.ByWords.{by_words_kept, by_words_stored}
use Rattle.bridge_file.proofs.call.place_call.Goals as goal

pub returns-in-Lseek-clause-row : goal.returns-in-Lseek-clause-row
returns-in-Lseek-clause-row g c =
    by_words_stored 4019 c.args.below.now.kernel.now c.args.words.now c.args.space.now c.lseek.result c.lseek.new.below.kernel.now c.args.space.now (contents g.I.Source.left g.O.Sink.written g.E.Sink.written c.args.dev.now) (contents g.I.Source.left g.O.Sink.written g.E.Sink.written c.lseek.new.dev) (c.requires ∙ ap place_number c.in-Lseek.is)
    (λ processor left told. c.lseek.ensures.row (found c.args.words.now processor c.args.space.now) refl left told)

pub returns-in-Lseek-clause-kept : goal.returns-in-Lseek-clause-kept
returns-in-Lseek-clause-kept g c =
    by_words_kept 4019 c.args.below.now.kernel.now c.args.words.now c.args.space.now c.lseek.result (g.I.Source.left c.args.dev.now.input) c.args.below.now.log.now c.lseek.new.below.log.now (c.requires ∙ ap place_number c.in-Lseek.is)
    (λ processor left told. c.lseek.ensures.kept (found c.args.words.now processor c.args.space.now) refl left told)

pub returns-in-Llseek-clause-row : goal.returns-in-Llseek-clause-row
returns-in-Llseek-clause-row g c =
    by_words_stored 4140 c.args.below.now.kernel.now c.args.words.now c.args.space.now c.llseek.result c.llseek.new.below.kernel.now c.llseek.new.space (contents g.I.Source.left g.O.Sink.written g.E.Sink.written c.args.dev.now) (contents g.I.Source.left g.O.Sink.written g.E.Sink.written c.llseek.new.dev) (c.requires ∙ ap place_number c.in-Llseek.is)
    (λ processor left told. c.llseek.ensures.row (found c.args.words.now processor c.args.space.now) refl refl left told)

pub returns-in-Llseek-clause-kept : goal.returns-in-Llseek-clause-kept
returns-in-Llseek-clause-kept g c =
    by_words_kept 4140 c.args.below.now.kernel.now c.args.words.now c.args.space.now c.llseek.result (g.I.Source.left c.args.dev.now.input) c.args.below.now.log.now c.llseek.new.below.log.now (c.requires ∙ ap place_number c.in-Llseek.is)
    (λ processor left told. c.llseek.ensures.kept (found c.args.words.now processor c.args.space.now) refl refl left told)

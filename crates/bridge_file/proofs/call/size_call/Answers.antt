-- Each arm makes the row of its number, with the size as a signed number.
use Rattle.std.proofs.Common.{ℕ, refl, subst, ◌∙◌, ap}
use Rattle.std.specs.Int.{cast_signed, w64}
use Rattle.std.specs.Prelude.{ℤ, OnOk}
use Rattle.bridge_paths.specs.Found.{found}
use Rattle.bridge_paths.specs.Passed.{Keeps}
use Rattle.o32_calls.specs.Numbers.{size_number}
use Rattle.o32_model.specs.Answered.{Answers}
use Rattle.o32_model.specs.NodeCalls.{ftruncate_row, truncate_row}
use Rattle.o32_model.specs.Words.{argument}
use Rattle.outside.specs.Streams.{contents}
use Rattle.bridge_file.proofs.ByWords.{by_words, by_words_kept}
use Rattle.bridge_file.proofs.call.size_call.Goals as goal

pub returns-in-Truncate-clause-row : goal.returns-in-Truncate-clause-row
returns-in-Truncate-clause-row g c =
    by_words 4092 c.args.below.now.kernel.now c.args.caller.now.words.now c.args.caller.now.space.now c.truncate.result c.truncate.new.below.kernel.now (contents g.I.Source.left g.O.Sink.written g.E.Sink.written c.args.dev.now) (contents g.I.Source.left g.O.Sink.written g.E.Sink.written c.truncate.new.dev) (c.requires ∙ ap size_number c.in-Truncate.is)
    (λ processor left told. subst (λ (z : ℤ). Answers (truncate_row c.args.below.now.kernel.now (found c.args.caller.now.words.now processor c.args.caller.now.space.now) (argument c.args.caller.now.words.now 0) z left) c.truncate.result c.truncate.new.below.kernel.now c.args.caller.now.space.now processor (contents g.I.Source.left g.O.Sink.written g.E.Sink.written c.args.dev.now) (contents g.I.Source.left g.O.Sink.written g.E.Sink.written c.truncate.new.dev)) c.widened.ensures
    (c.truncate.ensures.row (found c.args.caller.now.words.now processor c.args.caller.now.space.now) refl refl left told))

pub returns-in-Truncate-clause-kept : goal.returns-in-Truncate-clause-kept
returns-in-Truncate-clause-kept g c =
    by_words_kept 4092 c.args.below.now.kernel.now c.args.caller.now.words.now c.args.caller.now.space.now c.truncate.result (g.I.Source.left c.args.dev.now.input) c.args.below.now.log.now c.truncate.new.below.log.now (c.requires ∙ ap size_number c.in-Truncate.is)
    (λ processor left told. subst (λ (z : ℤ). OnOk c.truncate.result (Keeps (truncate_row c.args.below.now.kernel.now (found c.args.caller.now.words.now processor c.args.caller.now.space.now) (argument c.args.caller.now.words.now 0) z left) c.args.below.now.kernel.now left (found c.args.caller.now.words.now processor c.args.caller.now.space.now) c.args.below.now.log.now c.truncate.new.below.log.now)) c.widened.ensures
    (c.truncate.ensures.kept (found c.args.caller.now.words.now processor c.args.caller.now.space.now) refl refl left told))

pub returns-in-Ftruncate-clause-row : goal.returns-in-Ftruncate-clause-row
returns-in-Ftruncate-clause-row g c =
    by_words 4093 c.args.below.now.kernel.now c.args.caller.now.words.now c.args.caller.now.space.now c.ftruncate.result c.ftruncate.new.below.kernel.now (contents g.I.Source.left g.O.Sink.written g.E.Sink.written c.args.dev.now) (contents g.I.Source.left g.O.Sink.written g.E.Sink.written c.ftruncate.new.dev) (c.requires ∙ ap size_number c.in-Ftruncate.is)
    (λ processor left told. subst (λ (z : ℤ). Answers (ftruncate_row c.args.below.now.kernel.now (found c.args.caller.now.words.now processor c.args.caller.now.space.now) (argument c.args.caller.now.words.now 0) z left) c.ftruncate.result c.ftruncate.new.below.kernel.now c.args.caller.now.space.now processor (contents g.I.Source.left g.O.Sink.written g.E.Sink.written c.args.dev.now) (contents g.I.Source.left g.O.Sink.written g.E.Sink.written c.ftruncate.new.dev)) c.widened-in-Ftruncate.ensures
    (c.ftruncate.ensures.row (found c.args.caller.now.words.now processor c.args.caller.now.space.now) refl left told))

pub returns-in-Ftruncate-clause-kept : goal.returns-in-Ftruncate-clause-kept
returns-in-Ftruncate-clause-kept g c =
    by_words_kept 4093 c.args.below.now.kernel.now c.args.caller.now.words.now c.args.caller.now.space.now c.ftruncate.result (g.I.Source.left c.args.dev.now.input) c.args.below.now.log.now c.ftruncate.new.below.log.now (c.requires ∙ ap size_number c.in-Ftruncate.is)
    (λ processor left told. subst (λ (z : ℤ). OnOk c.ftruncate.result (Keeps (ftruncate_row c.args.below.now.kernel.now (found c.args.caller.now.words.now processor c.args.caller.now.space.now) (argument c.args.caller.now.words.now 0) z left) c.args.below.now.kernel.now left (found c.args.caller.now.words.now processor c.args.caller.now.space.now) c.args.below.now.log.now c.ftruncate.new.below.log.now)) c.widened-in-Ftruncate.ensures
    (c.ftruncate.ensures.kept (found c.args.caller.now.words.now processor c.args.caller.now.space.now) refl left told))

pub returns-in-Truncate64-clause-row : goal.returns-in-Truncate64-clause-row
returns-in-Truncate64-clause-row g c =
    by_words 4211 c.args.below.now.kernel.now c.args.caller.now.words.now c.args.caller.now.space.now c.truncate-in-Truncate64.result c.truncate-in-Truncate64.new.below.kernel.now (contents g.I.Source.left g.O.Sink.written g.E.Sink.written c.args.dev.now) (contents g.I.Source.left g.O.Sink.written g.E.Sink.written c.truncate-in-Truncate64.new.dev) (c.requires ∙ ap size_number c.in-Truncate64.is)
    (λ processor left told. subst (λ (n : ℕ). Answers (truncate_row c.args.below.now.kernel.now (found c.args.caller.now.words.now processor c.args.caller.now.space.now) (argument c.args.caller.now.words.now 0) (cast_signed w64 n) left) c.truncate-in-Truncate64.result c.truncate-in-Truncate64.new.below.kernel.now c.args.caller.now.space.now processor (contents g.I.Source.left g.O.Sink.written g.E.Sink.written c.args.dev.now) (contents g.I.Source.left g.O.Sink.written g.E.Sink.written c.truncate-in-Truncate64.new.dev)) c.pair.ensures
    (c.truncate-in-Truncate64.ensures.row (found c.args.caller.now.words.now processor c.args.caller.now.space.now) refl refl left told))

pub returns-in-Truncate64-clause-kept : goal.returns-in-Truncate64-clause-kept
returns-in-Truncate64-clause-kept g c =
    by_words_kept 4211 c.args.below.now.kernel.now c.args.caller.now.words.now c.args.caller.now.space.now c.truncate-in-Truncate64.result (g.I.Source.left c.args.dev.now.input) c.args.below.now.log.now c.truncate-in-Truncate64.new.below.log.now (c.requires ∙ ap size_number c.in-Truncate64.is)
    (λ processor left told. subst (λ (n : ℕ). OnOk c.truncate-in-Truncate64.result (Keeps (truncate_row c.args.below.now.kernel.now (found c.args.caller.now.words.now processor c.args.caller.now.space.now) (argument c.args.caller.now.words.now 0) (cast_signed w64 n) left) c.args.below.now.kernel.now left (found c.args.caller.now.words.now processor c.args.caller.now.space.now) c.args.below.now.log.now c.truncate-in-Truncate64.new.below.log.now)) c.pair.ensures
    (c.truncate-in-Truncate64.ensures.kept (found c.args.caller.now.words.now processor c.args.caller.now.space.now) refl refl left told))

pub returns-in-Ftruncate64-clause-row : goal.returns-in-Ftruncate64-clause-row
returns-in-Ftruncate64-clause-row g c =
    by_words 4212 c.args.below.now.kernel.now c.args.caller.now.words.now c.args.caller.now.space.now c.ftruncate-in-Ftruncate64.result c.ftruncate-in-Ftruncate64.new.below.kernel.now (contents g.I.Source.left g.O.Sink.written g.E.Sink.written c.args.dev.now) (contents g.I.Source.left g.O.Sink.written g.E.Sink.written c.ftruncate-in-Ftruncate64.new.dev) (c.requires ∙ ap size_number c.in-Ftruncate64.is)
    (λ processor left told. subst (λ (n : ℕ). Answers (ftruncate_row c.args.below.now.kernel.now (found c.args.caller.now.words.now processor c.args.caller.now.space.now) (argument c.args.caller.now.words.now 0) (cast_signed w64 n) left) c.ftruncate-in-Ftruncate64.result c.ftruncate-in-Ftruncate64.new.below.kernel.now c.args.caller.now.space.now processor (contents g.I.Source.left g.O.Sink.written g.E.Sink.written c.args.dev.now) (contents g.I.Source.left g.O.Sink.written g.E.Sink.written c.ftruncate-in-Ftruncate64.new.dev)) c.pair-in-Ftruncate64.ensures
    (c.ftruncate-in-Ftruncate64.ensures.row (found c.args.caller.now.words.now processor c.args.caller.now.space.now) refl left told))

pub returns-in-Ftruncate64-clause-kept : goal.returns-in-Ftruncate64-clause-kept
returns-in-Ftruncate64-clause-kept g c =
    by_words_kept 4212 c.args.below.now.kernel.now c.args.caller.now.words.now c.args.caller.now.space.now c.ftruncate-in-Ftruncate64.result (g.I.Source.left c.args.dev.now.input) c.args.below.now.log.now c.ftruncate-in-Ftruncate64.new.below.log.now (c.requires ∙ ap size_number c.in-Ftruncate64.is)
    (λ processor left told. subst (λ (n : ℕ). OnOk c.ftruncate-in-Ftruncate64.result (Keeps (ftruncate_row c.args.below.now.kernel.now (found c.args.caller.now.words.now processor c.args.caller.now.space.now) (argument c.args.caller.now.words.now 0) (cast_signed w64 n) left) c.args.below.now.kernel.now left (found c.args.caller.now.words.now processor c.args.caller.now.space.now) c.args.below.now.log.now c.ftruncate-in-Ftruncate64.new.below.log.now)) c.pair-in-Ftruncate64.ensures
    (c.ftruncate-in-Ftruncate64.ensures.kept (found c.args.caller.now.words.now processor c.args.caller.now.space.now) refl left told))

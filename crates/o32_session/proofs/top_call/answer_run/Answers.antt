use Rattle.std.proofs.Common.{inl, inr, option_map, ◌∙◌}
use Rattle.o32_session.specs.Words.{texts, word_at}
use Rattle.stored_files.specs.Stored.{stored_of}
use Rattle.o32_session.proofs.Saves.{failed_so}
use Rattle.o32_session.proofs.top_call.answer_run.Goals as goal

pub returns-in-Ok-clause-answer : goal.returns-in-Ok-clause-answer
returns-in-Ok-clause-answer g c = inl (record {
  end = c.answer_of.ensures.end ∙ c.from.ensures;
  turns = c.answer_of.ensures.turns ∙ c.turns-turns.ensures;
  host = c.answer_of.ensures.host;
  writes = c.in-Ok.ensures.cause;
  saves = c.in-Ok.ensures.saved;
})

pub returns-in-Err-clause-answer : goal.returns-in-Err-clause-answer
returns-in-Err-clause-answer g c = inr (failed_so (option_map (word_at (texts c.args.words.now)) c.args.save) c.args.emulator c.answer_of-in-Err.result c.in-Err.error (stored_of g.F.Store.files g.F.Store.created g.F.Store.loads g.F.Store.turned_away g.F.Store.write_faults c.args.files.now) (stored_of g.F.Store.files g.F.Store.created g.F.Store.loads g.F.Store.turned_away g.F.Store.write_faults c.save_final.new.files)
    (c.answer_of-in-Err.ensures.end ∙ c.from-in-Err.ensures) (c.answer_of-in-Err.ensures.turns ∙ c.turns-turns.ensures) c.answer_of-in-Err.ensures.host c.in-Err.ensures.saved c.in-Err.ensures.cause)

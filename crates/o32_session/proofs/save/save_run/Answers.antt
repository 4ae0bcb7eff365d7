use Rattle.stored_files.specs.Stored.{stored_of}
use Rattle.o32_session.specs.Session.{final_tree}
use Rattle.o32_session.proofs.Saves.{saves_so}
use Rattle.o32_session.proofs.SavedFiles.{stands_part}
use Rattle.fs_image.specs.Text.{text_of}
use Rattle.o32_session.proofs.save.save_run.Goals as goal

pub returns-in-Ok-clause-saved : goal.returns-in-Ok-clause-saved
returns-in-Ok-clause-saved g c =
    saves_so c.args.name.now c.in-Ok.tree (final_tree c.args.emulator.now.machine) c.save_tree.result (stored_of g.F.Store.files g.F.Store.created g.F.Store.loads g.F.Store.turned_away g.F.Store.write_faults c.args.files.now) (stored_of g.F.Store.files g.F.Store.created g.F.Store.loads g.F.Store.turned_away g.F.Store.write_faults c.save_tree.new.files) c.in-Ok.ensures.saved c.in-Ok.ensures.valid
    c.save_tree.ensures.saved c.save_tree.ensures.part

pub returns-in-Err-clause-saved : goal.returns-in-Err-clause-saved
returns-in-Err-clause-saved g c = stands_part c.args.name.now (text_of (final_tree c.args.emulator.now.machine)) (stored_of g.F.Store.files g.F.Store.created g.F.Store.loads g.F.Store.turned_away g.F.Store.write_faults c.args.files.now)

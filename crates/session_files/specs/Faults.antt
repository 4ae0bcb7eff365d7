-- What an end says of the counts of faults. This project's own.
use Rattle.std.specs.Prelude.{◌≡◌, ◌⊎◌}
use Rattle.outside.specs.Count.{Rose}
use Rattle.session_files.specs.Seen.{Seen}
use Rattle.session_files.specs.declared.end.End.{End}
use Rattle.session_files.specs.declared.end.End.TheVariants.{Exited, Killed, Budget, Blocked, Soaked, Replayed, Refused, Diverged, ReadFault, WriteFault, NoMemory}

-- no count rose: of the input, of the outputs, of the store's loads and of its writes
pub record NoneRose (old new : Seen) : Type 0 where
  pub reads : new.read_faults ≡ old.read_faults
  pub outs : new.out_faults ≡ old.out_faults
  pub errs : new.err_faults ≡ old.err_faults
  pub loads : new.load_faults ≡ old.load_faults
  pub writes : new.store.write_faults ≡ old.store.write_faults

-- A read fault says that the count rose of the store's loads or of the input, and a write fault that one rose of what is written to. Every other
-- end says that none rose: a fault is told as no other end, want of memory among them.
abbrev pub TellsFaults : End → Seen → Seen → Type 0
TellsFaults ReadFault old new = Rose old.load_faults new.load_faults ⊎ Rose old.read_faults new.read_faults
TellsFaults WriteFault old new =
    Rose old.out_faults new.out_faults ⊎ (Rose old.err_faults new.err_faults ⊎ Rose old.store.write_faults new.store.write_faults)
TellsFaults NoMemory old new = NoneRose old new
TellsFaults (Refused given) old new = NoneRose old new
TellsFaults (Exited status) old new = NoneRose old new
TellsFaults (Killed signal) old new = NoneRose old new
TellsFaults Budget old new = NoneRose old new
TellsFaults Blocked old new = NoneRose old new
TellsFaults (Soaked finish) old new = NoneRose old new
TellsFaults (Replayed finish) old new = NoneRose old new
TellsFaults (Diverged turn wanted found) old new = NoneRose old new

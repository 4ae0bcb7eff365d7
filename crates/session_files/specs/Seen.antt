-- What is seen of a session: its devices and its store. This project's own.
use Rattle.stored_files.specs.Stored.{Stored}
use Rattle.std.specs.Prelude.{ℕ, List, Option}
use Rattle.outside.specs.Output.{GainsText}
use Rattle.outside.specs.Streams.{Contents}
use Rattle.outside.specs.declared.devices.Devices.{Devices}

-- what is seen of the devices, the counts of faults, and the store: what is left of the input, and what the outputs have
pub record Seen : Type 0 where
  pub left : Option (List ℕ)
  pub out : Option (List ℕ)
  pub err : Option (List ℕ)
  pub read_faults : ℕ
  pub out_faults : ℕ
  pub err_faults : ℕ
  pub load_faults : ℕ
  pub store : Stored

-- what is seen of devices, by the members of their traits, beside this count of faulty loads and this store
abbrev pub seen_of : {I O E : Type 0} → (I → Option (List ℕ)) → (O → Option (List ℕ)) → (E → Option (List ℕ)) → (I → ℕ) → (O → ℕ) → (E → ℕ) →
    Devices I O E → ℕ → Stored → Seen
seen_of left out err read_faults out_faults err_faults dev load_faults store = record {
  left = left dev.input;
  out = out dev.out;
  err = err dev.err;
  read_faults = read_faults dev.input;
  out_faults = out_faults dev.out;
  err_faults = err_faults dev.err;
  load_faults = load_faults;
  store = store;
}

-- what the devices hold
abbrev pub contents_of : Seen → Contents
contents_of seen = record { left = seen.left; out = seen.out; err = seen.err }

-- exactly these texts were written to `out` and `err`
pub record Writes (old new : Seen) (out err : List ℕ) : Type 0 where
  pub to_out : GainsText old.out new.out out
  pub to_err : GainsText old.err new.err err

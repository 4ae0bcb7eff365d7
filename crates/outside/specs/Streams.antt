-- The contents and the counts of three devices together. This project's own.
use Rattle.std.specs.Prelude.{◌≡◌, ℕ, ◌≤◌, List, Option}
use Rattle.outside.specs.declared.devices.Devices.{Devices}

-- no count of these devices fell, where `input`, `out` and `err` give the counts of each
pub record NoCountFell {I O E : Type 0} (input : I → ℕ) (out : O → ℕ) (err : E → ℕ) (old new : Devices I O E) : Type 0 where
  pub input_later : input old.input ≤ input new.input
  pub out_later : out old.out ≤ out new.out
  pub err_later : err old.err ≤ err new.err

-- no count of these devices rose: each is what it was
pub record NoCountRose {I O E : Type 0} (input : I → ℕ) (out : O → ℕ) (err : E → ℕ) (old new : Devices I O E) : Type 0 where
  pub input_stays : input new.input ≡ input old.input
  pub out_stays : out new.out ≡ out old.out
  pub err_stays : err new.err ≡ err old.err

-- what three devices hold, each where it tells it: what is left of the input, and what was written to the outputs
pub record Contents : Type 0 where
  pub left : Option (List ℕ)
  pub out : Option (List ℕ)
  pub err : Option (List ℕ)

-- what these devices hold, where `left`, `out` and `err` give what each tells
abbrev pub contents : {I O E : Type 0} → (I → Option (List ℕ)) → (O → Option (List ℕ)) → (E → Option (List ℕ)) → Devices I O E → Contents
contents left out err devices = record { left = left devices.input; out = out devices.out; err = err devices.err }

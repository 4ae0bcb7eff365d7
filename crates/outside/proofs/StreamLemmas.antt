-- Counts of three devices over several steps.
use Rattle.std.proofs.Common.{ℕ, refl, ◌∙◌, arith}
use Rattle.outside.specs.declared.devices.Devices.{Devices}
use Rattle.outside.specs.Streams.{NoCountFell, NoCountRose}

pub NoCountFell-refl : {I O E : Type 0} (input : I → ℕ) (out : O → ℕ) (err : E → ℕ) (dev : Devices I O E) → NoCountFell input out err dev dev
NoCountFell-refl input out err dev = record { input_later = omega arith; out_later = omega arith; err_later = omega arith }

pub NoCountFell-trans : {I O E : Type 0} {input : I → ℕ} {out : O → ℕ} {err : E → ℕ} {old middle new : Devices I O E} → NoCountFell input out err old middle → NoCountFell input out err middle new → NoCountFell input out err old new
NoCountFell-trans p q = record {
  input_later = omega (arith, p.input_later, q.input_later);
  out_later = omega (arith, p.out_later, q.out_later);
  err_later = omega (arith, p.err_later, q.err_later);
}

pub NoCountRose-refl : {I O E : Type 0} (input : I → ℕ) (out : O → ℕ) (err : E → ℕ) (dev : Devices I O E) → NoCountRose input out err dev dev
NoCountRose-refl input out err dev = record { input_stays = refl; out_stays = refl; err_stays = refl }

pub NoCountRose-trans : {I O E : Type 0} {input : I → ℕ} {out : O → ℕ} {err : E → ℕ} {old middle new : Devices I O E} → NoCountRose input out err old middle → NoCountRose input out err middle new → NoCountRose input out err old new
NoCountRose-trans p q = record {
  input_stays = q.input_stays ∙ p.input_stays;
  out_stays = q.out_stays ∙ p.out_stays;
  err_stays = q.err_stays ∙ p.err_stays;
}

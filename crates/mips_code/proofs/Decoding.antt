-- A signed immediate that is stored and read back.
use Rattle.std.proofs.Common.{◌≡◌, ℕ, ℤ, sym, ap, subst, arith, ◌<◌, ◌^◌, to_z, of_z}
use Rattle.std.specs.Int.{w16}
use Rattle.std.proofs.lemmas.Int.{of_z-to_z}
use Rattle.mips_code.specs.Instructions.{immediate, signed_immediate}

-- a signed immediate is what is stored of it
pub stored :
    (z : ℤ) (word : ℕ) → z ≡ signed_immediate word
    → to_z w16 (of_z w16 z) ≡ signed_immediate word
unfolding signed_immediate
stored z word e =
    let fits : immediate word < 2 ^ 16 = omega arith in
    let P : ℤ → Type 0 = λ y. to_z w16 (of_z w16 y) ≡ signed_immediate word in
    subst P (sym e) (ap (to_z w16) (of_z-to_z w16 (immediate word) fits))

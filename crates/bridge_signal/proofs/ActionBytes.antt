-- The bytes of an action in a program's memory.
use Rattle.std.proofs.Common.{◌≡◌, ℕ, ◌/◌, ◌%◌, ◌^◌, List, [], ◌∷◌, ◌++◌, length, map, pos, refl, ap, ◌∙◌, arith}
use Rattle.std.specs.Prelude.{true}
use Rattle.std.specs.List.{flat_map}
use Rattle.byteorder.specs.Endian.{big_bytes}
use Rattle.layouts.specs.Number.{bytes_of}
use Rattle.layouts.specs.O32.{sigaction}
use Rattle.layouts.specs.Shape.{record_bytes}

low_digits : (number : ℕ) → big_bytes 4 (number % 2 ^ 32) ≡ big_bytes 4 number
low_digits number =
    let a : number % 4294967296 / 16777216 % 256 ≡ number / 16777216 % 256 = omega arith in
    let b : number % 4294967296 / 65536 % 256 ≡ number / 65536 % 256 = omega arith in
    let c : number % 4294967296 / 256 % 256 ≡ number / 256 % 256 = omega arith in
    let d : number % 4294967296 % 256 ≡ number % 256 = omega arith in
    λ i. a i ∷ b i ∷ c i ∷ d i ∷ []

fields : (flags handler : ℕ) (mask : List ℕ) → length mask ≡ 4
    → big_bytes 4 flags ++ big_bytes 4 handler ++ flat_map (bytes_of true 4) mask ≡ record_bytes sigaction (pos flags ∷ pos handler ∷ map pos mask)
fields flags handler [] four = absurd (omega (arith, four))
fields flags handler (a ∷ []) four = absurd (omega (arith, four))
fields flags handler (a ∷ b ∷ []) four = absurd (omega (arith, four))
fields flags handler (a ∷ b ∷ c ∷ []) four = absurd (omega (arith, four))
fields flags handler (a ∷ b ∷ c ∷ d ∷ []) four = refl
fields flags handler (a ∷ b ∷ c ∷ d ∷ e ∷ more) four = absurd (omega (arith, four))

pub action_joined : (bytes : List ℕ) (flags number handler word : ℕ) (mask set : List ℕ) → length mask ≡ 4 → bytes ≡ big_bytes 4 number ++ big_bytes 4 word ++ set → number ≡ flags → word ≡ handler % 2 ^ 32 → set ≡ flat_map (bytes_of true 4) mask
    → bytes ≡ record_bytes sigaction (pos flags ∷ pos handler ∷ map pos mask)
action_joined bytes flags number handler word mask set four is numbered low sets =
    is ∙ ap (λ (n : ℕ). big_bytes 4 n ++ big_bytes 4 word ++ set) numbered
    ∙ ap (λ (n : ℕ). big_bytes 4 flags ++ big_bytes 4 n ++ set) low
    ∙ ap (λ (s : List ℕ). big_bytes 4 flags ++ big_bytes 4 (handler % 2 ^ 32) ++ s) sets
    ∙ ap (λ (d : List ℕ). big_bytes 4 flags ++ d ++ flat_map (bytes_of true 4) mask) (low_digits handler)
    ∙ fields flags handler mask four

-- Big-endian numbers of at most four bytes, and loads.
use Rattle.std.proofs.Common.{◌≡◌, ◌≤◌, ◌-◌, zero, suc, ℕ, take, drop, Option, Some, None, Ok, Err, refl, ap, arith}
use Rattle.std.specs.Int.{bytes_high_first}
use Rattle.guest_space.specs.Access.{Denied, unless_denied}

-- the last n of a word's four bytes are the bytes of its lowest part
pub last_bytes : (n x : ℕ) → n ≤ 4 → take (4 - (4 - n)) (drop (4 - n) (bytes_high_first 4 x)) ≡ bytes_high_first n x
last_bytes zero x h = refl
last_bytes (suc zero) x h = refl
last_bytes (suc (suc zero)) x h = refl
last_bytes (suc (suc (suc zero))) x h = refl
last_bytes (suc (suc (suc (suc zero)))) x h = refl
last_bytes (suc (suc (suc (suc (suc n))))) x h = absurd (omega arith)

-- a denial is the same whatever value it stands in place of
pub denied_same : {A B : Type 0} (o : Option Denied) (x : A) (y : B) (d : Denied) → Err d ≡ unless_denied o x → Err d ≡ unless_denied o y
denied_same None x y d e = absurd (cc)
denied_same (Some s) x y d e = let same : d ≡ s = cc in ap Err same

pub not_denied : {A : Type 0} (o : Option Denied) (x y : A) → Ok y ≡ unless_denied o x → o ≡ None
not_denied None x y e = refl
not_denied (Some s) x y e = absurd (cc)

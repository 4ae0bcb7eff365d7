-- A path that may be null stands in host memory: it is read back.
use Rattle.std.proofs.Common.{◌≡◌, ℕ, ◌-◌, ◌%◌, ◌<◌, ◌≤◌, List, ◌++◌, length, replicate, position, Option, Some, None, Ok, refl, sym, ap, subst, ◌∙◌, append_assoc, arith, if◌then◌else◌}
use Rattle.std.specs.Prelude.{Bool, true, false, ◌==◌, IfSome}
use Rattle.std.proofs.lemmas.Bool.Decides.{nat_tests}
use Rattle.kernel_model.specs.Came.{given_or_none}
use Rattle.native_calls.specs.Paths.{is_nul, path_at, path_limit}
use Rattle.host_mem.specs.Memory.{padded}
use Rattle.bridge_paths.proofs.HostPaths.{has_path, more_has}
use Rattle.bridge_paths.specs.HostPaths.{HasPath}
use Rattle.bridge_file.specs.inside.BothTimes.{HasPathOrNone, host_path_or_none}

not_null : (memory : List ℕ) (address : ℕ) → 65536 ≤ address → host_path_or_none memory address ≡ given_or_none (Some (path_at memory address))
not_null memory address from = by (address == 0) refl where
  by : (null : Bool) → (address == 0) ≡ null → given_or_none (if null then None else Some (path_at memory address)) ≡ given_or_none (Some (path_at memory address))
  by true is = absurd (grind (arith, nat_tests))
  by false is = refl

null_path : (memory : List ℕ) (address : ℕ) → address ≡ 0 → host_path_or_none memory address ≡ Ok None
null_path memory address null = ap (host_path_or_none memory) null

pub optional_path : (memory : List ℕ) (address : ℕ) (path : Option (List ℕ)) → IfSome path (λ p. length p < path_limit) → IfSome path (λ p. position is_nul p ≡ None) → HasPathOrNone memory address path
    → host_path_or_none memory address ≡ Ok path
optional_path memory address None short plain null = null_path memory address null
optional_path memory address (Some path) short plain has =
    not_null memory address has.from ∙ ap (λ p. given_or_none (Some p)) (has_path memory path address short plain has)

-- it still stands where more is put behind it
pub optional_kept : (before after bytes : List ℕ) → after ≡ padded before ++ bytes → (address : ℕ) (path : Option (List ℕ)) → HasPathOrNone before address path → HasPathOrNone after address path
optional_kept before after bytes is address None null = null
optional_kept before after bytes is address (Some path) has =
    let pad : List ℕ = replicate ((8 - length before % 8) % 8) 0 in
    subst (λ (m : List ℕ). HasPath m address path) (sym (is ∙ append_assoc before pad bytes)) (more_has before (pad ++ bytes) path address has)

-- Laws of the walk over the kept blocks, for the proofs of crates above.
use Rattle.std.proofs.Common.{◌≡◌, ◌≤◌, ◌+◌, ℕ, Bool, true, false, cond, ltb, List, Option, Some, None, refl, sym, ap, ◌∙◌, arith}
use Rattle.std.proofs.lemmas.Bool.{ltb-true, ltb-false}
use Rattle.std.proofs.lemmas.Bool.Decides.{nat_tests}
use Rattle.std.proofs.lemmas.Map.Lookups.{exact_unsigned}
use Rattle.std.proofs.lemmas.Map.Views.{tells_apart}
use Rattle.std.specs.Ordering.{nat_cmp, eq_by_cmp}
use Rattle.std.specs.Cmp.{nat_cmp_total}
use Rattle.std.specs.FinMap.{get, insert, empty, retain_keys, get-insert, get-empty, get-retain_keys, same_map, nat_cmp-IsAntisymmetric}
use Rattle.kernel_core.specs.FileContent.{Blocks}
use Rattle.file_blocks.specs.Kept.{NoneFrom, IsFirstFrom}

-- the kept blocks of the indexes below one: those that a walk has given before it asks for the first from there on
pub kept_below : Blocks → ℕ → Blocks
kept_below blocks from = retain_keys blocks (λ index. ltb index from)

pub get-kept_below : (blocks : Blocks) (from q : ℕ) → get (kept_below blocks from) q ≡ cond (ltb q from) (get blocks q) None
unfolding kept_below
get-kept_below blocks from q = get-retain_keys blocks (λ index. ltb index from) q (λ x tied. ap (λ n. ltb n from) (sym (exact_unsigned q x tied)))

-- at the beginning there is none
pub kept_below-zero : (blocks : Blocks) → kept_below blocks 0 ≡ empty
kept_below-zero blocks =
    same_map nat_cmp_total nat_cmp-IsAntisymmetric _ _ (λ q.
    get-kept_below blocks 0 q ∙ ap (λ b. cond b (get blocks q) None) (none q) ∙ sym (get-empty nat_cmp q))
  where
    none : (q : ℕ) → ltb q 0 ≡ false
    none q = grind (arith, nat_tests)

-- at and past the index there is none
pub kept_below-absent : (blocks : Blocks) (from index : ℕ) → from ≤ index → get (kept_below blocks from) index ≡ None
kept_below-absent blocks from index above =
    let past : ltb index from ≡ false = grind (arith, nat_tests) in
    get-kept_below blocks from index ∙ ap (λ b. cond b (get blocks index) None) past

next_go : (blocks : Blocks) (from index q : ℕ) (block : List ℕ) (within before here : Bool) → IsFirstFrom blocks from index block
    → ltb q (index + 1) ≡ within → ltb q from ≡ before → eq_by_cmp nat_cmp q index ≡ here
    → cond within (get blocks q) None ≡ cond here (Some block) (cond before (get blocks q) None)
next_go blocks from index q block true before true first within low here =
    ap (get blocks) (tells_apart exact_unsigned q index here) ∙ first.kept
next_go blocks from index q block true true false first within low here = refl
next_go blocks from index q block true false false first within low here =
    first.none_before q (ltb-false q from low) (let inside = ltb-true q (index + 1) within in grind (arith, nat_tests))
next_go blocks from index q block false before true first within low here =
    absurd (let is : q ≡ index = tells_apart exact_unsigned q index here in let past = ltb-false q (index + 1) within in omega arith)
next_go blocks from index q block false true false first within low here =
    absurd (let below = ltb-true q from low in let past = ltb-false q (index + 1) within in let from_there = first.from_there in omega arith)
next_go blocks from index q block false false false first within low here = refl

-- with the first block from there on they reach to one past its index
pub kept_below-next : (blocks : Blocks) (from index : ℕ) (block : List ℕ) → IsFirstFrom blocks from index block
    → kept_below blocks (index + 1) ≡ insert (kept_below blocks from) index block
kept_below-next blocks from index block first =
    same_map nat_cmp_total nat_cmp-IsAntisymmetric _ _ (λ q.
    get-kept_below blocks (index + 1) q
    ∙ next_go blocks from index q block _ _ _ first refl refl refl
    ∙ ap (cond (eq_by_cmp nat_cmp q index) (Some block)) (sym (get-kept_below blocks from q))
    ∙ sym (get-insert nat_cmp_total (kept_below blocks from) index block q))

end_go : (b : Bool) (o : Option (List ℕ)) → (b ≡ false → o ≡ None) → cond b o None ≡ o
end_go true o none = refl
end_go false o none = sym (none refl)

-- where none is left they are all
pub kept_below-end : (blocks : Blocks) (from : ℕ) → NoneFrom blocks from → kept_below blocks from ≡ blocks
kept_below-end blocks from none =
    same_map nat_cmp_total nat_cmp-IsAntisymmetric _ _ (λ q.
    get-kept_below blocks from q ∙ end_go (ltb q from) (get blocks q) (λ past. none q (ltb-false q from past)))

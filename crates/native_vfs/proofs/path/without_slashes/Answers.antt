use Rattle.std.proofs.Common.{◌≡◌, ◌≤◌, ◌-◌, ℕ, List, [], ◌∷◌, length, take, drop, get_or, refl, sym, ap, ◌∙◌, arith}
use Rattle.std.specs.List.{list_any}
use Rattle.std.proofs.lemmas.List.{take_all}
use Rattle.kernel_core.specs.PathWalk.{components}
use Rattle.native_vfs.specs.inside.Texts.{is_nul}
use Rattle.native_vfs.proofs.walks.Components.{components-slash, rest-plain}
use Rattle.native_vfs.proofs.path.without_slashes.Goals as goal

slash-first : (rest : List ℕ) → 1 ≤ length rest → get_or rest 0 0 ≡ 47 → rest ≡ 47 ∷ take (length rest - 1) (drop 1 rest)
slash-first [] some is = absurd (omega (arith, some))
slash-first (byte ∷ after) some is =
    ap (λ b. b ∷ after) is ∙ ap (λ t. 47 ∷ t) (sym (take_all (length (byte ∷ after) - 1) after (omega arith)))

pub loop-rest-preserved : goal.loop-rest-preserved
loop-rest-preserved c =
    let slash : get_or c.loop-rest.rest.now 0 0 ≡ 47 = assumption (c.in-47) in
    let is = slash-first c.loop-rest.rest.now c.in-47.len_at_least slash in
    record {
      same = sym (components-slash 47 (take (length c.loop-rest.rest.now - 1) (drop 1 c.loop-rest.rest.now)) refl) ∙ sym (ap components is) ∙ c.loop-rest.invariant.same;
      plain = λ plain. rest-plain 47 (take (length c.loop-rest.rest.now - 1) (drop 1 c.loop-rest.rest.now)) (sym (ap (list_any is_nul) is) ∙ c.loop-rest.invariant.plain plain);
    }

use Rattle.std.proofs.Common.{◌≡◌, ◌^◌, ◌∙◌, ap, sym, subst, replicate, map, false}
use Rattle.std.proofs.lemmas.List.{length-replicate}
use Rattle.number_pool.specs.inside.Tree.{IsTree, leaves}
use Rattle.number_pool.specs.inside.Words.{IsPool, is_full, places_in, word_count}
use Rattle.number_pool.proofs.Bits.{length-places_in, none_full, places_none}
use Rattle.number_pool.proofs.pool.NumberPool.new.Goals as goal

pub invariant_of-result : goal.invariant_of-result
invariant_of-result g c =
    let count = c.word_count-count.result in
    let pool : IsPool g.row.LEVELS (replicate count 0) c.in_ok-full.full.items = record {
      small = c.requires.small;
      sized = length-replicate count 0 ∙ c.word_count-count.ensures;
      tree = subst (λ n. IsTree n c.in_ok-full.full.items) c.word_count-count.ensures c.in_ok-full.ensures.tree;
      told =
          subst (λ n. leaves n c.in_ok-full.full.items ≡ replicate n false) c.word_count-count.ensures c.in_ok-full.ensures.free
          ∙ sym (none_full (word_count g.row.LEVELS))
          ∙ ap (λ n. map is_full (replicate n 0)) (sym c.word_count-count.ensures);
    } in
    subst (λ words. IsPool g.row.LEVELS words c.in_ok-full.full.items) (sym c.in_ok-words.ensures) pool

pub returns-clause-free : goal.returns-clause-free
returns-clause-free g c = ap (places_in (2 ^ g.row.LEVELS)) c.in_ok-words.ensures ∙ places_none (2 ^ g.row.LEVELS) c.word_count-count.result

pub returns-clause-whole : goal.returns-clause-whole
returns-clause-whole g c = length-places_in (2 ^ g.row.LEVELS) c.in_ok-words.words.items

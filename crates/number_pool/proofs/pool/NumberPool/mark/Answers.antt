use Rattle.std.proofs.Common.{◌≡◌, ◌/◌, ◌^◌, ◌<◌, ◌∙◌, ap, sym, subst, length, set, arith}
use Rattle.std.specs.Int.{bit_at}
use Rattle.std.proofs.lemmas.List.{get_or_read, length-set, map-set, with_items_is}
use Rattle.number_pool.specs.inside.Tree.{IsTree, leaves}
use Rattle.number_pool.specs.inside.Words.{IsPool, is_full, word_count}
use Rattle.number_pool.proofs.Bits.{length-places_in, places_fit, places_marked}
use Rattle.number_pool.proofs.pool.NumberPool.mark.Goals as goal
use Rattle.number_pool.proofs.pool.NumberPool.mark.Goals.{After-self-2-1}

pub index-requires : goal.index-requires
index-requires g c = omega (arith, c.requires, c.self.invariant.sized, places_fit g.row.LEVELS)

pub index_mut-requires : goal.index_mut-requires
index_mut-requires g c = omega (arith, c.requires, c.self.invariant.sized, places_fit g.row.LEVELS)

pub set_leaf-requires-clause-inside : goal.set_leaf-requires-clause-inside
set_leaf-requires-clause-inside g c = omega (arith, c.requires, c.word_count-count.ensures, places_fit g.row.LEVELS)

pub invariant_of-self : goal.invariant_of-self
invariant_of-self g c =
    let count = word_count g.row.LEVELS in
    let words = c.self.inside.words.items in
    let full = c.self.inside.full in
    let now = c.set_leaf.new.flags in
    let number = c.args.place / 64 in
    let word = c.marked-word.result in
    let tree = subst (λ n. IsTree n now) c.word_count-count.ensures c.set_leaf.ensures.tree in
    let marked =
    subst (λ n. leaves n now ≡ set (leaves n c.as_mut_slice.result.now) number c.is_full.result) c.word_count-count.ensures c.set_leaf.ensures.marked
    ∙ ap (λ f. set (leaves count f) number c.is_full.result) c.as_mut_slice.ensures.value
    ∙ ap (set (leaves count full.items) number) c.is_full.ensures
    ∙ ap (λ l. set l number (is_full word)) c.self.invariant.told
    ∙ sym (map-set is_full words number word) in
    subst (IsPool g.row.LEVELS (set words number word)) (sym (with_items_is full now (omega (arith, tree.sized, c.self.invariant.tree.sized))))
    (record {
      small = c.self.invariant.small;
      sized = length-set words number word ∙ c.self.invariant.sized;
      tree = tree;
      told = marked;
    })

pub returns-clause-marked : goal.returns-clause-marked
returns-clause-marked g c =
    let words = c.self.inside.words.items in
    let number = c.args.place / 64 in
    let within : number < length words = omega (arith, c.requires, c.self.invariant.sized, places_fit g.row.LEVELS) in
    let read = get_or_read words number c.index.result.now within c.index.ensures 0 in
    places_marked words c.args.place c.marked-word.result within (λ other inside apart.
    c.marked-word.ensures.others other inside apart ∙ ap (λ w. bit_at w other) read) (2 ^ g.row.LEVELS) c.args.taken c.requires c.marked-word.ensures.place
    ∙ ap (λ l. set l c.args.place c.args.taken) c.self.view_is

pub returns-clause-whole : goal.returns-clause-whole
returns-clause-whole g c = length-places_in (2 ^ g.row.LEVELS) (set c.self.inside.words.items (c.args.place / 64) c.marked-word.result)

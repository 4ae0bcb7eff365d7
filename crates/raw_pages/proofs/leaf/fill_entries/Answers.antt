use Rattle.std.proofs.Common.{◌≡◌, ◌+◌, ◌-◌, ◌<◌, ℕ, length, Some, None, is_some, true, false, cond, get_or, sym, ap, ◌∙◌, arith}
use Rattle.std.proofs.lemmas.List.{get_or_read}
use Rattle.raw_pages.specs.Pages.{zero_page}
use Rattle.raw_pages.specs.inside.Tables.{absent_among}
use Rattle.raw_pages.proofs.Counts.{count-set}
use Rattle.raw_pages.proofs.Fills.{absent_among-none, absent_among-le, fills-none, fills-put, absent-put}
use Rattle.raw_pages.proofs.leaf.fill_entries.Goals as goal
use Rattle.raw_pages.proofs.leaf.fill_entries.Goals.{then-is_none, else-is_none}

pub loop-place-init : goal.loop-place-init
loop-place-init c = record {
  from = omega arith;
  fills = fills-none (λ (p : ℕ). get_or c.args.entries.now p None) c.args.first (zero_page c.args.protection);
  fresh =
      let e : c.args.first - c.args.first ≡ 0 = omega arith in
      sym (ap (absent_among (λ (p : ℕ). get_or c.args.entries.now p None) c.args.first) e ∙ absent_among-none (λ (p : ℕ). get_or c.args.entries.now p None) c.args.first);
  counted = omega arith;
}

pub overflow_add-fresh : goal.overflow_add-fresh
overflow_add-fresh c =
    let most = absent_among-le (λ (p : ℕ). get_or c.args.entries.now p None) c.args.first (c.loop-place.place - c.args.first) in
    omega (arith, most, c.loop-place.invariant.fresh, c.ranges.end.fits)

pub loop-place-preserved : goal.loop-place-preserved
loop-place-preserved c =
    let es = c.loop-place.entries in
    let place = c.loop-place.place in
    let before = c.args.entries.now in
    let room : place < length es = omega arith in
    let read = get_or_read es place c.index-entries-place.result room c.index-entries-place.is None in
    let is = c.replace.ensures.after ∙ ap Some c.zeros.ensures in
    let fills = fills-put before es c.args.first place (zero_page c.args.protection) c.replace.new.dest c.loop-place.invariant.from room is c.loop-place.invariant.fills in
    let more = count-set es place c.replace.new.dest room in
    let put = ap {B = ℕ} (λ b. cond b 1 0) (ap is_some is) in
    elim c.if-is_none.branch [
      | then-is_none w ↦
          let none : is_some (get_or es place None) ≡ false = ap is_some (sym read) ∙ ap is_some c.index-entries-place.is ∙ ap is_some (sym c.replace.ensures.value) ∙ grind arith in
          let old = ap {B = ℕ} (λ b. cond b 1 0) none in
          record {
            from = omega arith;
            fills = fills;
            fresh = w.fresh-is ∙ absent-put (λ (p : ℕ). get_or before p None) (λ (p : ℕ). get_or es p None) c.args.first place (zero_page c.args.protection) c.loop-place.fresh false
                c.loop-place.invariant.from c.loop-place.invariant.fills c.loop-place.invariant.fresh none;
            counted = omega (arith, more, put, old, w.fresh-is, c.loop-place.invariant.counted);
          }
      | else-is_none w ↦
          let some : is_some (get_or es place None) ≡ true = ap is_some (sym read) ∙ ap is_some c.index-entries-place.is ∙ ap is_some (sym c.replace.ensures.value) ∙ grind arith in
          let old = ap {B = ℕ} (λ b. cond b 1 0) some in
          record {
            from = omega arith;
            fills = fills;
            fresh = w.fresh-is ∙ (let e : c.loop-place.fresh ≡ c.loop-place.fresh + 0 = omega arith in e) ∙ absent-put (λ (p : ℕ). get_or before p None) (λ (p : ℕ). get_or es p None) c.args.first place (zero_page c.args.protection) c.loop-place.fresh true
                c.loop-place.invariant.from c.loop-place.invariant.fills c.loop-place.invariant.fresh some;
            counted = omega (arith, more, put, old, w.fresh-is, c.loop-place.invariant.counted);
          }
    ]

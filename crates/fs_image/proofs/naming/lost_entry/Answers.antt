use Rattle.std.proofs.Common.{◌+◌, ◌<◌, ◌≤◌, ◌^◌, ◌≡◌, true, false, length, arith, sym, ◌∙◌}
use Rattle.std.specs.List.{flat_map}
use Rattle.fs_image.specs.Text.{entry_text}
use Rattle.fs_image.specs.Naming.{is_there}
use Rattle.fs_image.proofs.Lengths.{within, text_end}
use Rattle.fs_image.proofs.Walks.{lost_entry-found, lost_entry-next, lost_entry-done}
use Rattle.fs_image.proofs.naming.lost_entry.Goals as goal

pub returns-then-is_none : goal.returns-then-is_none
returns-then-is_none c =
    let lost : is_there c.args.nodes.now c.entry-item.result.node ≡ false = sym c.place_of.ensures.there ∙ c.if-is_none.ensures in
    rw c.new.ensures (lost_entry-found c.args.nodes.now c.loop-entry.place c.loop-entry.entry-index c.args.entries.now c.entry-item.result _ c.loop-entry-test.true c.entry-item.is lost c.loop-entry.invariant.same)

pub entry_len-place-requires : goal.entry_len-place-requires
entry_len-place-requires c =
    let fits = within entry_text c.args.entries.now c.loop-entry.entry-index c.entry-item.result c.loop-entry-test.true c.entry-item.is in
    let short : length (entry_text c.entry-item.result) < 2 ^ 63 = omega (arith, fits, c.requires.short) in
    short

pub overflow_add-place : goal.overflow_add-place
overflow_add-place c =
    let end = text_end entry_text c.args.entries.now c.loop-entry.entry-index c.loop-entry.place _ c.entry-item.result c.loop-entry-test.true c.entry-item.is c.loop-entry.invariant.end in
    let low : c.loop-entry.place + c.entry_len-place.result ≤ c.args.start + length (flat_map entry_text c.args.entries.now) = omega (arith, end, c.entry_len-place.ensures) in
    omega (arith, low, c.requires.fits)

pub loop-entry-preserved : goal.loop-entry-preserved
loop-entry-preserved c =
    let there : is_there c.args.nodes.now c.entry-item.result.node ≡ true = sym c.place_of.ensures.there ∙ c.if-is_none.ensures in
    record {
      same = rw c.entry_len-place.ensures (lost_entry-next c.args.nodes.now c.loop-entry.place c.loop-entry.entry-index c.args.entries.now c.entry-item.result _ c.loop-entry-test.true c.entry-item.is there c.loop-entry.invariant.same);
      end = rw c.entry_len-place.ensures (text_end entry_text c.args.entries.now c.loop-entry.entry-index c.loop-entry.place _ c.entry-item.result c.loop-entry-test.true c.entry-item.is c.loop-entry.invariant.end);
    }

pub returns : goal.returns
returns c = sym (lost_entry-done c.args.nodes.now c.loop-entry.place c.loop-entry.entry-index c.args.entries.now _ c.loop-entry-test.false c.loop-entry.invariant.same)

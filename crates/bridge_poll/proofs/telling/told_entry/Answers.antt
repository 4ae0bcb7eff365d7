-- What it asks, and behind that what is told of it
use Rattle.std.proofs.Common.{◌∙◌, ap}
use borrow.Rule.Slice.PartMut.{put_mid}
use Rattle.bridge_poll.proofs.Stores.{entry_made, stored_loads}
use Rattle.bridge_poll.proofs.telling.told_entry.Goals as goal

pub returns-clause-made : goal.returns-clause-made
returns-clause-made c = λ there.
    let loaded = c.entry_at-bytes.ensures (stored_loads c.args.space.now c.args.address there) in
    ap (put_mid 6 2 c.entry_at-bytes.result) c.write_u16.ensures
    ∙ entry_made c.args.space.now c.args.address c.to_o32.result c.args.events c.entry_at-bytes.result loaded c.to_o32.ensures

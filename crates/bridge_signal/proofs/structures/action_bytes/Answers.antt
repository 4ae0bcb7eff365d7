use Rattle.std.proofs.Common.{◌≡◌, length, rules}
use Rattle.bridge_signal.proofs.ActionBytes.{action_joined}
use Rattle.number_tables.specs.SaNumbers.{o32_sa}
use Rattle.bridge_signal.proofs.structures.action_bytes.Goals as goal

pub returns : goal.returns
returns c =
    let four : length c.args.action.mask ≡ 4 = search rules in
    action_joined c.joined.result (o32_sa c.args.action.flags) c.to_o32.result c.args.action.handler c.low_word.result c.args.action.mask c.set_bytes-mask.result four
    c.joined.ensures c.to_o32.ensures c.low_word.ensures c.set_bytes-mask.ensures

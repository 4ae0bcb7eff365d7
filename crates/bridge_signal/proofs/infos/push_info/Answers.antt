use Rattle.std.proofs.Common.{List, ℕ, ◌++◌, ap, ◌∙◌}
use Rattle.host_mem.specs.Memory.{end_address, padded}
use Rattle.bridge_signal.proofs.HostInfos.{info_pushed}
use Rattle.bridge_signal.specs.inside.Sent.{sent_told}
use Rattle.bridge_signal.proofs.infos.push_info.Goals as goal

pub returns : goal.returns
returns c =
    info_pushed c.push.new.self c.native_info-bytes.result c.in_ok-place.place (sent_told c.args.info) c.native_info-bytes.ensures.sized
    (c.in_ok-place.ensures.ok ∙ ap (λ (m : List ℕ). padded m ++ c.native_info-bytes.result) c.requires)
    (c.in_ok-place.ensures.address ∙ ap (λ (m : List ℕ). end_address (padded m)) c.requires)
    c.native_info-bytes.ensures.sent

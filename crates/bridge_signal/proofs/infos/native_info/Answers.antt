use Rattle.std.proofs.Common.{arith, rules}
use Rattle.std.specs.Prelude.{FitsSigned}
use Rattle.std.specs.Int.{w32}
use Rattle.bridge_signal.proofs.HostInfos.{info_written}
use Rattle.bridge_signal.proofs.infos.native_info.Goals as goal

pub returns-clause-sent : goal.returns-clause-sent
returns-clause-sent c =
    let info = c.args.info in
    let code : FitsSigned w32 c.args.info.code = search rules in
    let errno : FitsSigned w32 c.args.info.errno = search rules in
    info_written _ _ c.put_record.new.bytes _ info.code info.errno info.pid info.uid info.value c.native_layout.ensures.table c.native_layout.ensures.sound c.native_values-values.ensures.fields
    code errno (omega arith) (omega arith) (omega arith) c.native_values-values.ensures.back c.a_record_reads_back.ensures c.put_record.ensures.bytes

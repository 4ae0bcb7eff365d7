use Rattle.layouts.proofs.RecordLaws.{record_bytes-read_back}
use Rattle.layouts.proofs.record.a_record_reads_back.Goals as goal

pub returns : goal.returns
returns c = record_bytes-read_back

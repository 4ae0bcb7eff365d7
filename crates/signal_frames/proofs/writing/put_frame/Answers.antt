use Rattle.std.proofs.Common.{length}
use Rattle.signal_frames.proofs.Steps.{within_user_space}
use Rattle.signal_frames.proofs.writing.put_frame.Goals as goal

pub returns-clause-within : goal.returns-clause-within
returns-clause-within c =
    within_user_space c.args.space.now.pages c.args.address (length c.args.bytes.now) c.requires c.in_ok-copy_out.ensures.answer

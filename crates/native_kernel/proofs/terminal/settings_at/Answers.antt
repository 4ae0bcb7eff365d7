use Rattle.native_kernel.proofs.Read.{length_read}
use Rattle.native_kernel.proofs.TerminalLemmas.{settings_found}
use Rattle.native_kernel.proofs.terminal.settings_at.Goals as goal

pub settings_in-requires : goal.settings_in-requires
settings_in-requires c =
    length_read c.args.mem.now c.in-Some.bytes.now c.args.address 36 c.in-Some.ensures.bytes

pub returns-in-Some : goal.returns-in-Some
returns-in-Some c =
    settings_found c.args.mem.now c.in-Some.bytes.now c.args.address c.settings_in.result c.in-Some.ensures.bytes c.settings_in.ensures

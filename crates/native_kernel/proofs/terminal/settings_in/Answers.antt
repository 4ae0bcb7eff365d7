use Rattle.std.proofs.Common.{map, nat_abs}
use Rattle.layouts.specs.Native.{termios}
use Rattle.layouts.specs.Shape.{record_values}
use Rattle.native_kernel.proofs.TerminalLemmas.{settings_are}
use Rattle.native_kernel.proofs.terminal.settings_in.Goals as goal

pub returns : goal.returns
returns c =
    settings_are (map nat_abs (record_values termios c.args.bytes.now))
    c.word_at.result c.word_at-2.result c.word_at-3.result c.word_at-4.result c.byte_at.result c.characters_in.result
    c.word_at.ensures c.word_at-2.ensures c.word_at-3.ensures c.word_at-4.ensures c.byte_at.ensures c.characters_in.ensures

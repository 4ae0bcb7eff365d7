use Rattle.std.proofs.Common.{map, nat_abs}
use Rattle.layouts.specs.Native.{termios}
use Rattle.layouts.specs.Shape.{record_values}
use Rattle.native_kernel.proofs.TerminalLemmas.{characters_are}
use Rattle.native_kernel.proofs.terminal.characters_in.Goals as goal

pub returns : goal.returns
returns c =
    characters_are (map nat_abs (record_values termios c.args.bytes.now))
    c.byte_at.result c.byte_at-2.result c.byte_at-3.result c.byte_at-4.result c.byte_at-5.result c.byte_at-6.result c.byte_at-7.result c.byte_at-8.result c.byte_at-9.result c.byte_at-10.result c.byte_at-11.result c.byte_at-12.result c.byte_at-13.result c.byte_at-14.result c.byte_at-15.result c.byte_at-16.result c.byte_at-17.result
    c.byte_at.ensures c.byte_at-2.ensures c.byte_at-3.ensures c.byte_at-4.ensures c.byte_at-5.ensures c.byte_at-6.ensures c.byte_at-7.ensures c.byte_at-8.ensures c.byte_at-9.ensures c.byte_at-10.ensures c.byte_at-11.ensures c.byte_at-12.ensures c.byte_at-13.ensures c.byte_at-14.ensures c.byte_at-15.ensures c.byte_at-16.ensures c.byte_at-17.ensures

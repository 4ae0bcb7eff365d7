-- Records and effects that stand in the bytes of a journal, as those of `kernel_core`.
use Rattle.kernel_core.specs.declared.record.Record.{Record}
use Rattle.kernel_core.specs.declared.record.Effect.{Effect}
use Rattle.kernel_core.specs.declared.record.Effect.TheVariants.{Register, Write, Map, Unmap, Protect, Output}
use Rattle.journal.specs.declared.effects.ReadEffect.{ReadEffect}
use Rattle.journal.specs.declared.effects.ReadEffect.TheVariants as read
use Rattle.journal.specs.declared.records.ReadRecord.{ReadRecord}

abbrev pub effect_seen : ReadEffect → Effect
effect_seen (read.Register r value) = Register r value
effect_seen (read.Write address bytes) = Write address bytes.now
effect_seen (read.Map first count prot) = Map first count prot
effect_seen (read.Unmap first count) = Unmap first count
effect_seen (read.Protect first count prot) = Protect first count prot
effect_seen (read.Output stream bytes) = Output stream bytes.now

abbrev pub record_seen : ReadRecord → Record
record_seen entry = record { turn = entry.turn; kind = entry.kind; words = entry.words; effects = entry.effects; finish = entry.finish }

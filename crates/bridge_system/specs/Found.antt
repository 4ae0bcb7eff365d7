-- What a call finds of the program (the form is this project's own).
use Rattle.guest_space.specs.Memory.{Memory}
use Rattle.mips_exec.specs.Processor.{Processor}
use Rattle.o32_model.specs.Step.{Guest}
use Rattle.o32_model.specs.declared.call_words.CallWords.{CallWords}

-- its words, the processor and memory
abbrev pub found : CallWords → Processor → Memory → Guest
found words processor memory = record { words = words; processor = processor; memory = memory }

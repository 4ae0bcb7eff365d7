-- The structure of a buffer, word by word. Only the private parts of the crate cite this.
use Rattle.std.specs.Prelude.{ℕ, List}
use Rattle.byteorder.specs.Endian.{big_number}
use Rattle.layouts.specs.O32.{iovec}
use Rattle.layouts.specs.Shape.{record_values}
use Rattle.o32_model.specs.GuestBytes.{range_of}
use Rattle.o32_model.specs.declared.range.Range.{Range}

abbrev pub word_in : List ℕ → ℕ
word_in bytes = big_number 4 bytes

abbrev pub range_in : List ℕ → Range
range_in bytes = range_of (record_values iovec bytes)

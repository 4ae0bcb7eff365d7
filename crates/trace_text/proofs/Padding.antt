-- What a hole writes that pads with zeros.
use Rattle.std.proofs.Common.{arith}
use Rattle.std.proofs.lemmas.List.{append-nil}
use Rattle.std.specs.Prelude.{◌≡◌, ℕ, ◌-◌, ◌^◌, false, List, [], ◌++◌, length}
use Rattle.std.specs.Fmt.{format_spec, padded_integral, char_count}
use Rattle.trace_text.specs.Digits.{with_zeros}

pub zeros_before : (width : ℕ) (text : List ℕ) → padded_integral (format_spec 32 0 4 width (2 ^ 64 - 1)) false [] text ≡ with_zeros width text
unfolding padded_integral char_count
zeros_before width text =
    let short : width - length text - 0 - 0 ≡ width - length text = omega arith in
    rw (short, append-nil text)

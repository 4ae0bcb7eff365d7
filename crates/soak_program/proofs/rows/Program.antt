-- Worked rows on the programs for one number and for two, and on the lines of their runs.
use Rattle.std.specs.Prelude.{◌≡◌, [], ◌∷◌, codes, map, refl}
use Rattle.std.specs.Fmt.{digits}
use Rattle.trace_text.specs.Digits.{word}
use Rattle.soak_program.specs.Numbers.{numbers}
use Rattle.soak_program.specs.Instructions.{finish, instructions, round, start, word_of}
use Rattle.soak_program.specs.Executable.{file_header, headers, segment_header, words}
use Rattle.soak_program.specs.Line.{bytes_of, soak_line, sum_of, turns_of}

two_numbers : numbers 2 ≡ 2 ∷ 0x3CA1BF79 ∷ []
unfolding numbers
two_numbers = refl

words_for_one : map word_of (instructions 1) ≡ 0x3C101000 ∷ 0x02002021 ∷ 0x24050102 ∷ 0x240601A4 ∷ 0x24020FA5 ∷ 0x0000000C ∷ 0x00408821
    ∷ 0x3C090000 ∷ 0x35290001 ∷ 0x02499021 ∷ 0xAE120004 ∷ 0x02202021 ∷ 0x26050004 ∷ 0x24060004 ∷ 0x24020FA4 ∷ 0x0000000C
    ∷ 0x00002021 ∷ 0x24020FA1 ∷ 0x0000000C ∷ []
unfolding start round finish word_of numbers
words_for_one = refl

-- lui t1, 0x3CA1 and ori t1, t1, 0xBF79
words_of_the_second : map word_of (round 0x3CA1BF79) ≡ 0x3C093CA1 ∷ 0x3529BF79 ∷ 0x02499021 ∷ 0xAE120004 ∷ 0x02202021 ∷ 0x26050004 ∷ 0x24060004 ∷ 0x24020FA4 ∷ 0x0000000C ∷ []
unfolding round word_of
words_of_the_second = refl

headers_for_one : headers 76 ≡ words (0x7F454C46 ∷ 0x01020100 ∷ 0 ∷ 0 ∷ 0x00020008 ∷ 1 ∷ 0x00400000 ∷ 52 ∷ 0 ∷ 0x50001000 ∷ 0x00340020 ∷ 0x00020000 ∷ 0
    ∷ 1 ∷ 0x1000 ∷ 0x00400000 ∷ 0x00400000 ∷ 76 ∷ 76 ∷ 5 ∷ 0x1000
    ∷ 1 ∷ 0x2000 ∷ 0x10000000 ∷ 0x10000000 ∷ 8 ∷ 8 ∷ 6 ∷ 0x1000 ∷ [])
unfolding headers file_header segment_header
headers_for_one = refl

line_of_one : soak_line 1 (turns_of 1) (bytes_of 1) (sum_of 1) ≡ codes "soak 1: exited 0, turns 19, bytes 4, sum 00000001\n"
unfolding soak_line word digits numbers
line_of_one = refl

line_of_two : soak_line 2 (turns_of 2) (bytes_of 2) (sum_of 2) ≡ codes "soak 2: exited 0, turns 28, bytes 8, sum 3ca1bf7b\n"
unfolding soak_line word digits numbers
line_of_two = refl

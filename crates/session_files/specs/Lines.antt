-- The one line that a refusal or a divergence writes on standard error. Numbers are decimal. This project's own.
use Rattle.std.specs.Prelude.{ℕ, List, [], ◌∷◌, ◌++◌, codes}
use Rattle.std.specs.Fmt.{decimal}
use Rattle.elf_image.specs.Refusal.{elf_rule_number}
use Rattle.session_files.specs.declared.refusal.Refusal.{Refusal}
use Rattle.session_files.specs.declared.refusal.Refusal.TheVariants.{Usage, Missing, TooLong, Elf, Image, Schedule, Start, Journal}

-- what is said of a refusal, without the newline
abbrev pub text_of : Refusal → List ℕ
text_of (Usage word) = codes "o32run: usage at word " ++ decimal word
text_of (Missing file) = codes "o32run: file " ++ decimal file ++ codes " missing"
text_of (TooLong file) = codes "o32run: file " ++ decimal file ++ codes " too long"
text_of (Elf rule) = codes "o32run: elf rule " ++ decimal (elf_rule_number rule)
text_of (Image broken) = codes "o32run: image rule " ++ decimal broken.rule ++ codes " at " ++ decimal broken.at
text_of (Schedule broken) = codes "o32run: schedule rule " ++ decimal broken.rule ++ codes " line " ++ decimal broken.line
text_of Start = codes "o32run: arguments too long"
text_of (Journal at) = codes "o32run: journal at " ++ decimal at

abbrev pub line_of : Refusal → List ℕ
line_of refusal = text_of refusal ++ 10 ∷ []

-- what is said of the first difference between a journal and the machine: its turn, what the journal has, and what the machine has
abbrev pub divergence_text : ℕ → ℕ → ℕ → List ℕ
divergence_text turn wanted found =
    codes "o32run: diverged at turn " ++ decimal turn ++ codes " wanted " ++ decimal wanted ++ codes " found " ++ decimal found

abbrev pub divergence_line : ℕ → ℕ → ℕ → List ℕ
divergence_line turn wanted found = divergence_text turn wanted found ++ 10 ∷ []

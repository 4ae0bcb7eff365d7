use Rattle.std.proofs.Common.{◌+◌, option_map, ap, sym, ◌∙◌}
use Rattle.session_words.specs.inside.Reader.{guest_reading}
use Rattle.session_words.proofs.Guest.{guest_words}
use Rattle.session_words.proofs.words.guest_error.Goals as goal

pub returns-in_err-first_with_nul : goal.returns-in_err-first_with_nul
returns-in_err-first_with_nul c line =
    rw c.from_residual.ensures (guest_words line c.args.from c.args.words.now
    ∙ ap (λ place. guest_reading line (option_map (λ i. c.args.from + i) place)) (sym c.first_with_nul.ensures ∙ c.in_err-first_with_nul.was))

pub returns : goal.returns
returns c line =
    guest_words line c.args.from c.args.words.now
    ∙ ap (λ place. guest_reading line (option_map (λ i. c.args.from + i) place)) (sym c.first_with_nul.ensures ∙ c.in_ok-first_with_nul.was)

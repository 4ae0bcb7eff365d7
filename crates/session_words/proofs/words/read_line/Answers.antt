use Rattle.std.proofs.Common.{◌≡◌, ◌<◌, length, IfOk, IfErr, subst, sym, ap, ◌∙◌, codes, true, arith}
use Rattle.std.specs.Str.{bytes_eq}
use Rattle.std.specs.String.{string_bytes}
use Rattle.session_words.specs.Words.{Asks, Reading}
use Rattle.session_words.specs.Read.{line_seen, IsReason}
use Rattle.session_words.proofs.Reading.{run_words}
use Rattle.session_words.proofs.words.read_line.Goals as goal

pub returns-in-len1-up-clause-line : goal.returns-in-len1-up-clause-line
returns-in-len1-up-clause-line c =
    let some : 0 < length c.args.words.now = omega arith in
    let run : bytes_eq (string_bytes c.first-item.result) (codes "run") ≡ true =
    ap (λ b. bytes_eq b (codes "run")) (sym c.as_str.ensures.value) ∙ (sym c.eq.ensures ∙ c.if-eq.true) in
    subst (λ (r : Reading). IfOk c.read_options.result (λ line. r ≡ Asks (line_seen line)))
    (sym (run_words c.args.words.now c.first-item.result some c.first-item.is run)) c.read_options.ensures.line

pub returns-in-len1-up-clause-wrong : goal.returns-in-len1-up-clause-wrong
returns-in-len1-up-clause-wrong c =
    let some : 0 < length c.args.words.now = omega arith in
    let run : bytes_eq (string_bytes c.first-item.result) (codes "run") ≡ true =
    ap (λ b. bytes_eq b (codes "run")) (sym c.as_str.ensures.value) ∙ (sym c.eq.ensures ∙ c.if-eq.true) in
    subst (λ (r : Reading). IfErr c.read_options.result (λ error. IsReason r error))
    (sym (run_words c.args.words.now c.first-item.result some c.first-item.is run)) c.read_options.ensures.wrong

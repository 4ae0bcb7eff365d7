use Rattle.std.proofs.Common.{◌+◌, ◌∙◌, sym, ap}
use Rattle.std.proofs.lemmas.Result.{err_from_is_err_and}
use Rattle.o32_model.specs.GuestBytes.{structure, read_as}
use Rattle.bridge_mem.specs.inside.Ranges.{word_in}
use Rattle.bridge_mem.proofs.Iovecs.{both, range_of_words, range-both}
use Rattle.bridge_mem.proofs.vectors.read_range.Goals as goal

pub returns-in_err-address-clause-value : goal.returns-in_err-address-clause-value
returns-in_err-address-clause-value c =
    let p = err_from_is_err_and c.from_residual.result c.from_residual.ensures.1 in
    rw (p.1, p.2) (sym (range-both c.args.space.now c.args.at
    ∙ ap (λ g. both range_of_words g (read_as word_in (structure c.args.space.now (c.args.at + 4) 4))) (sym c.in_err-address.ensures.value)))

pub returns-in_err-length-clause-value : goal.returns-in_err-length-clause-value
returns-in_err-length-clause-value c =
    let p = err_from_is_err_and c.from_residual-in_err-length.result c.from_residual-in_err-length.ensures.1 in
    rw (p.1, p.2) (sym (range-both c.args.space.now c.args.at
    ∙ (λ i. both range_of_words (sym c.in_ok-address.ensures.value i) (sym c.in_err-length.ensures.value i))))

pub returns-clause-value : goal.returns-clause-value
returns-clause-value c =
    sym (range-both c.args.space.now c.args.at
    ∙ (λ i. both range_of_words (sym c.in_ok-address.ensures.value i) (sym c.in_ok-length.ensures.value i)))

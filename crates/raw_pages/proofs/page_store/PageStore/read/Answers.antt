use Rattle.std.proofs.Common.{◌+◌, slice_range, length, ap, sym, ◌∙◌}
use Rattle.raw_pages.specs.Pages.{shown_bytes}
use Rattle.raw_pages.proofs.Zeros.{zeros_whole, zeros_range}
use Rattle.raw_pages.proofs.page_store.PageStore.read.Goals as goal

pub returns-in-None-clause-value : goal.returns-in-None-clause-value
returns-in-None-clause-value c =
    c.fill.ensures.after (λ y h. h)
    ∙ sym (zeros_range c.args.at (length c.args.buf.now) c.requires)
    ∙ ap (λ o. slice_range (shown_bytes o) c.args.at (c.args.at + length c.args.buf.now)) c.in-None.ensures

pub returns-in-None-clause-whole : goal.returns-in-None-clause-whole
returns-in-None-clause-whole c = sym (ap (λ o. length (shown_bytes o)) c.in-None.ensures) ∙ zeros_whole

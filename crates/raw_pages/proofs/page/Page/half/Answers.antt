use Rattle.std.proofs.Common.{◌+◌, slice_range, length, ap, sym, ◌∙◌}
use Rattle.std.specs.Prelude.{option_copied}
use Rattle.raw_pages.specs.Pages.{MappedPage}
use Rattle.raw_pages.specs.inside.Frames.{frame_bytes}
use Rattle.raw_pages.proofs.Zeros.{zeros_whole, zeros_range}
use Rattle.raw_pages.proofs.page.Page.half.Goals as goal

pub returns-in-None-clause-value : goal.returns-in-None-clause-value
returns-in-None-clause-value c =
    let zeros = sym (ap frame_bytes (sym c.get.ensures ∙ ap option_copied c.in-None.is)) ∙ ap (λ (p : MappedPage). p.bytes) c.self.view_is in
    sym (zeros_range c.args.at 2 c.requires) ∙ ap (λ s. slice_range s c.args.at (c.args.at + 2)) zeros

pub returns-in-None-clause-whole : goal.returns-in-None-clause-whole
returns-in-None-clause-whole c =
    let zeros = sym (ap frame_bytes (sym c.get.ensures ∙ ap option_copied c.in-None.is)) ∙ ap (λ (p : MappedPage). p.bytes) c.self.view_is in
    sym (ap length zeros) ∙ zeros_whole

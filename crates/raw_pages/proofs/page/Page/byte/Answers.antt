use Rattle.std.proofs.Common.{slice_index, length, ap, sym, ◌∙◌}
use Rattle.std.specs.Prelude.{option_copied}
use Rattle.raw_pages.specs.Pages.{MappedPage}
use Rattle.raw_pages.specs.inside.Frames.{frame_bytes}
use Rattle.raw_pages.proofs.Zeros.{zeros_whole, zeros_index}
use Rattle.raw_pages.proofs.page.Page.byte.Goals as goal

pub returns-in-None-clause-value : goal.returns-in-None-clause-value
returns-in-None-clause-value c =
    let zeros = sym (ap frame_bytes (sym c.get.ensures ∙ ap option_copied c.in-None.is)) ∙ ap (λ (p : MappedPage). p.bytes) c.self.view_is in
    sym (zeros_index c.args.at c.requires) ∙ ap (λ s. slice_index s c.args.at) zeros

pub returns-in-None-clause-whole : goal.returns-in-None-clause-whole
returns-in-None-clause-whole c =
    let zeros = sym (ap frame_bytes (sym c.get.ensures ∙ ap option_copied c.in-None.is)) ∙ ap (λ (p : MappedPage). p.bytes) c.self.view_is in
    sym (ap length zeros) ∙ zeros_whole

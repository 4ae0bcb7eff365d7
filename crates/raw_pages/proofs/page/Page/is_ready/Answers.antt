use Rattle.std.proofs.Common.{ap, sym, ◌∙◌}
use Rattle.raw_pages.specs.Pages.{MappedPage}
use Rattle.raw_pages.specs.inside.Frames.{frame_bytes}
use Rattle.raw_pages.proofs.Tables.{none_of}
use Rattle.raw_pages.proofs.page.Page.is_ready.Goals as goal

pub returns-clause-zeros : goal.returns-clause-zeros
returns-clause-zeros c =
    λ none. sym (ap (λ (p : MappedPage). p.bytes) c.self.view_is) ∙ ap frame_bytes (none_of _ (sym c.is_full.ensures ∙ none))

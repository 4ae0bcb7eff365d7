use Rattle.std.proofs.Common.{sym, subst, replicate}
use Rattle.kernel_model.specs.Begin.{free_places}
use Rattle.number_pool.specs.Places.{none_taken}
use Rattle.native_fd.specs.inside.Links.{AreLinks}
use Rattle.native_fd.proofs.LinkLemmas.{AreLinks-none}
use Rattle.native_fd.proofs.links.Links.new.Goals as goal

pub invariant_of-result : goal.invariant_of-result
invariant_of-result c =
    subst (λ f. AreLinks f c.in_ok-no_counts.field-0.items c.in_ok-new.field-0 c.in_ok-new-2.field-0) (sym c.in_ok-no_fds.ensures)
    (subst (λ k. AreLinks (free_places 1024) k c.in_ok-new.field-0 c.in_ok-new-2.field-0) (sym c.in_ok-no_counts.ensures)
    (subst (λ a. AreLinks (free_places 1024) (replicate 1024 0) a c.in_ok-new-2.field-0) (sym c.in_ok-new.ensures.free)
    (subst (λ b. AreLinks (free_places 1024) (replicate 1024 0) (none_taken 1024) b) (sym c.in_ok-new-2.ensures.free) AreLinks-none)))

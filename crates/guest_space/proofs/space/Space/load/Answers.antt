use Rattle.std.proofs.Common.{ap, ◌∙◌}
use Rattle.guest_space.specs.Memory.{Memory}
use Rattle.guest_space.specs.Bytes.{read}
use Rattle.guest_space.proofs.space.Space.load.Goals as goal

pub returns-then-address-n-le-PAGE_SIZE-clause-value : goal.returns-then-address-n-le-PAGE_SIZE-clause-value
unfolding read
returns-then-address-n-le-PAGE_SIZE-clause-value c =
    c.load_in_page.ensures.value ∙ ap (λ (m : Memory). read m c.args.address c.args.n) c.self.view_is

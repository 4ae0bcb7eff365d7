use Rattle.std.proofs.Common.{ap, sym, ◌∙◌}
use Rattle.guest_space.specs.Memory.{Memory}
use Rattle.guest_space.specs.Bytes.{read}
use Rattle.guest_space.proofs.space.Space.load_in_page.Goals as goal

pub returns-in-Ok-clause-value : goal.returns-in-Ok-clause-value
unfolding read
returns-in-Ok-clause-value c = sym (c.load_in_page.ensures.value ∙ ap (λ (m : Memory). read m c.args.address c.args.n) c.self.view_is) ∙ c.in-Ok.is

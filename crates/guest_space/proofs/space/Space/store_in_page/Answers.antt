use Rattle.std.proofs.Common.{◌-◌, ℕ, List, ap, ◌∙◌, take, drop}
use Rattle.guest_space.specs.Memory.{Memory, Pages}
use Rattle.guest_space.specs.Bytes.{written, copied_out}
use Rattle.guest_space.proofs.Numbers.{last_bytes}
use Rattle.guest_space.proofs.space.Space.store_in_page.Goals as goal

pub returns-clause-stored : goal.returns-clause-stored
unfolding written copied_out
returns-clause-stored c =
    let memory : Pages → Memory = λ pages. record { pages = pages; program_break = c.self.inside.program_break; break_start = c.self.inside.break_start } in
    λ _. ap memory c.in-Ok.ensures.ok
    ∙ ap (λ (m : Memory). copied_out m c.args.address (take (4 - (4 - c.args.n)) (drop (4 - c.args.n) c.to_be_bytes-word.result))) c.self.view_is
    ∙ ap (λ (bs : List ℕ). copied_out c.args.self.now c.args.address (take (4 - (4 - c.args.n)) (drop (4 - c.args.n) bs))) c.to_be_bytes-word.ensures
    ∙ ap (copied_out c.args.self.now c.args.address) (last_bytes c.args.n c.args.value c.requires.high)

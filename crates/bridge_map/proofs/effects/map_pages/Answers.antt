use Rattle.std.proofs.Common.{ap, ◌∙◌, sym, subst}
use Rattle.std.specs.Prelude.{Some}
use Rattle.guest_space.specs.Answers.{LeavesMapped}
use Rattle.guest_space.specs.Memory.{Memory}
use Rattle.bridge_map.proofs.Ranges.{at_most, map_fits, map_passes}
use Rattle.bridge_map.proofs.effects.map_pages.Goals as goal

pub returns-in-Ok-clause-answer : goal.returns-in-Ok-clause-answer
returns-in-Ok-clause-answer c =
    map_fits c.args.space.now.pages c.args.first c.args.count c.args.protection
    (at_most _ (λ more. absurd (let full = c.in-Ok.ensures.full.1 more in cc)))
    ∙ ap (λ (m : Memory). Some m.pages) (sym c.in-Ok.ensures.ok)

pub returns-in-Err-NoMemory-clause-no_memory : goal.returns-in-Err-NoMemory-clause-no_memory
returns-in-Err-NoMemory-clause-no_memory c = λ none.
    let fits = map_fits c.args.space.now.pages c.args.first c.args.count c.args.protection
    (at_most _ (λ more. absurd (let full = c.in-Err-NoMemory.ensures.full.1 more in cc))) in
    cc

pub returns-in-Err-Full-clause-answer : goal.returns-in-Err-Full-clause-answer
returns-in-Err-Full-clause-answer c = (
  map_passes c.args.space.now.pages c.args.first c.args.count c.args.protection (c.in-Err-Full.ensures.full.0 (cc)),
  ap (λ (m : Memory). m.pages)
      (subst (λ e. LeavesMapped e c.args.space.now c.map.new.self c.args.first c.args.count c.args.protection) c.in-Err-Full.field-0-is c.in-Err-Full.ensures.err),
)

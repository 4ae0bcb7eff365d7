use Rattle.std.proofs.Common.{rules, sym}
use Rattle.std.proofs.lemmas.List.Sorted.{answers_always}
use Rattle.kernel_core.specs.declared.tree.Node.{Node}
use Rattle.fs_image.proofs.Searching.{found_number, absent_number, there_at}
use Rattle.fs_image.proofs.numbers.place_of.Goals as goal

pub returns-in-Ok-clause-found : goal.returns-in-Ok-clause-found
returns-in-Ok-clause-found c =
    let by_number = c.in-Ok.ensures.position (λ (n : Node). n.number) (answers_always _ _ _ (λ f a r g called. search rules)) in
    (c.in-Ok.ensures.bound, found_number c.args.nodes.now c.args.number c.in-Ok.at by_number)

pub returns-in-Ok-clause-there : goal.returns-in-Ok-clause-there
returns-in-Ok-clause-there c =
    let found = returns-in-Ok-clause-found c in
    sym (there_at c.args.nodes.now c.args.number c.in-Ok.at found.0 found.1)

pub returns-in-Err-clause-there : goal.returns-in-Err-clause-there
returns-in-Err-clause-there c =
    let by_number = c.in-Err.ensures.position (λ (n : Node). n.number) (answers_always _ _ _ (λ f a r g called. search rules)) in
    sym (absent_number c.args.nodes.now c.args.number _ c.requires by_number)

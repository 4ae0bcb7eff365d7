use Rattle.std.proofs.Common.{◌≡◌, [], Some, None, position, sym, ◌∙◌}
use Rattle.std.specs.Str.{bytes_eq}
use Rattle.outside.specs.Content.{FileBytes}
use Rattle.outside.proofs.FileLemmas.{emptied-set, emptied-push, AreThere-emptied}
use Rattle.outside.proofs.named.empty_file.Goals as goal

pub returns-in-Some-clause-ok : goal.returns-in-Some-clause-ok
returns-in-Some-clause-ok c =
    let files = c.args.files.now.items in
    let name = c.args.name.now in
    let d : FileBytes = record { name = []; bytes = [] } in
    let found : position (λ file. bytes_eq file.name name) files ≡ Some c.in-Some.place =
    rw (← c.as_slice.ensures.value) (sym c.place_of.ensures.first ∙ c.in-Some.is) in
    rw (c.clear_at.ensures d) (emptied-set files name c.in-Some.place d found)

pub returns-in_ok-add_empty-in-None-clause-ok : goal.returns-in_ok-add_empty-in-None-clause-ok
returns-in_ok-add_empty-in-None-clause-ok c =
    let files = c.args.files.now.items in
    let name = c.args.name.now in
    let none : position (λ file. bytes_eq file.name name) files ≡ None =
    rw (← c.as_slice.ensures.value) (sym c.place_of.ensures.first ∙ c.in-None.is) in
    rw c.in_ok-add_empty-in-None.ensures.ok (emptied-push files name none)

pub returns-in-Some-clause-there : goal.returns-in-Some-clause-there
returns-in-Some-clause-there c = AreThere-emptied _ _ _ (returns-in-Some-clause-ok c)

pub returns-in_ok-add_empty-in-None-clause-there : goal.returns-in_ok-add_empty-in-None-clause-there
returns-in_ok-add_empty-in-None-clause-there c = AreThere-emptied _ _ _ (returns-in_ok-add_empty-in-None-clause-ok c)

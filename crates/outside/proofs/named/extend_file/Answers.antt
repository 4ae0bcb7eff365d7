use Rattle.std.proofs.Common.{◌≡◌, [], Some, position, sym, ◌∙◌}
use Rattle.std.specs.Str.{bytes_eq}
use Rattle.outside.specs.Content.{FileBytes}
use Rattle.outside.proofs.FileLemmas.{gained-set, AreThere-gained}
use Rattle.outside.proofs.named.extend_file.Goals as goal

pub returns-in_ok-extend_at-in-Some-clause-ok : goal.returns-in_ok-extend_at-in-Some-clause-ok
returns-in_ok-extend_at-in-Some-clause-ok c =
    let files = c.args.files.now.items in
    let name = c.args.name.now in
    let d : FileBytes = record { name = []; bytes = [] } in
    let found : position (λ file. bytes_eq file.name name) files ≡ Some c.in-Some.place =
    rw (← c.as_slice.ensures.value) (sym c.place_of.ensures.first ∙ c.in-Some.is) in
    rw (c.in_ok-extend_at-in-Some.ensures.ok d) (gained-set files name c.in-Some.place d c.args.bytes.now found)

pub returns-in_ok-extend_at-in-Some-clause-there : goal.returns-in_ok-extend_at-in-Some-clause-there
returns-in_ok-extend_at-in-Some-clause-there c = AreThere-gained _ _ _ _ (returns-in_ok-extend_at-in-Some-clause-ok c)

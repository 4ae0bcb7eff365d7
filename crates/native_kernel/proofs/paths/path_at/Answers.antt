use Rattle.std.proofs.Common.{◌≤◌, length, subst, sym}
use Rattle.native_kernel.proofs.PathTexts.{loadable-few, path-plain, path-short}
use Rattle.native_kernel.proofs.paths.path_at.Goals as goal

pub returns-in-Some-clause-short : goal.returns-in-Some-clause-short
returns-in-Some-clause-short c =
    path-short c.loadable-bytes.result.now c.in-Some.place (sym c.in-Some.ensures)
    (subst (λ bytes. length bytes ≤ 4096) (sym c.loadable-bytes.ensures) (loadable-few c.args.mem.now c.args.address 4096))

pub returns-in-Some-clause-plain : goal.returns-in-Some-clause-plain
returns-in-Some-clause-plain c = path-plain c.loadable-bytes.result.now c.in-Some.place (sym c.in-Some.ensures)

use Rattle.std.proofs.Common.{◌∙◌}
use Rattle.std.specs.Prelude.{reverse}
use Rattle.native_vfs.specs.Keyed.{number_at}
use Rattle.native_files.proofs.NamesUp.{names-enough, path-none, path-some}
use Rattle.native_files.proofs.location.path_to.Goals as goal

pub returns-in-None : goal.returns-in-None
returns-in-None c =
    path-none c.in_ok-names_back.field-0 (λ back. reverse back.items) _ c.in-None.is
    (c.in_ok-names_back.ensures ∙ names-enough c.args.vfs.now.nodes c.requires.valid (number_at c.args.vfs.now c.args.key))

pub returns-in_ok-turned-in-Some : goal.returns-in_ok-turned-in-Some
returns-in_ok-turned-in-Some c =
    path-some c.in_ok-names_back.field-0 (λ back. reverse back.items) _ c.in-Some.back c.in_ok-turned-in-Some.field-0.items c.in-Some.is
    (c.in_ok-names_back.ensures ∙ names-enough c.args.vfs.now.nodes c.requires.valid (number_at c.args.vfs.now c.args.key)) c.in_ok-turned-in-Some.ensures

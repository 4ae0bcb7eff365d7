use Rattle.std.proofs.Common.{◌≡◌, Some, sym, ap, subst, ◌∙◌}
use Rattle.kernel_model.specs.State.{Files}
use Rattle.kernel_model.specs.Table.{inserted, new_place, slot, with_cloexec}
use Rattle.native_vfs.specs.Keyed.{number_at as node_at}
use Rattle.native_files.specs.inside.Kept.{AreKept, node_in}
use Rattle.native_files.proofs.KeptLemmas.{AreKept-set, inserted-cloexec, new_place-free}
use Rattle.native_files.proofs.files.Files.insert.Goals as goal

pub invariant_of-self-2 : goal.invariant_of-self-2
invariant_of-self-2 c =
    let table = c.self.inside.table in
    let free : node_in (Some c.args.description) ≡ node_in (slot table.live (new_place table.live)) = c.requires.no_node ∙ sym (ap (λ o. node_in o) (new_place-free table.live)) in
    subst (λ t. AreKept c.self.inside.vfs t.live c.self.inside.node_keys.items c.self.inside.directory)
    (sym (c.set_cloexec.ensures.cloexec ∙ ap (λ t. with_cloexec t c.args.fd c.args.cloexec) c.in_ok-insert.ensures.ok))
    (AreKept-set c.self.inside.vfs table.live c.self.inside.node_keys.items c.self.inside.directory c.self.invariant (new_place table.live) (Some c.args.description) free)

pub returns : goal.returns
returns c =
    let free = ap (λ (f : Files). slot f.table.fds c.args.fd) c.self.view_is ∙ c.requires.free in
    ap (λ t. record { nodes = c.self.inside.vfs.nodes; table = t; flow = c.self.inside.flow; directory = node_at c.self.inside.vfs c.self.inside.directory; umask = c.self.inside.umask; terminal = c.self.inside.terminal })
    (c.set_cloexec.ensures.cloexec ∙ ap (λ t. with_cloexec t c.args.fd c.args.cloexec) c.in_ok-insert.ensures.ok
    ∙ inserted-cloexec c.self.inside.table c.args.fd c.args.description c.args.cloexec free)
    ∙ ap (λ (f : Files). record f { table = inserted f.table c.args.fd c.args.description c.args.cloexec }) c.self.view_is

use Rattle.std.proofs.Common.{sym, ap, subst}
use Rattle.kernel_model.specs.Begin.{free_places}
use Rattle.kernel_model.specs.State.{Descriptors}
use Rattle.kernel_model.specs.declared.descriptor.Description.{Description}
use Rattle.native_files.specs.inside.Kept.{AreKept}
use Rattle.native_vfs.specs.Keyed.{number_at as node_at}
use Rattle.native_files.proofs.FirstFiles.{AreKept-first, few-holds, first-kind}
use Rattle.native_files.proofs.starting.without_descriptors.Goals as goal

pub hold-requires-clause-few : goal.hold-requires-clause-few
hold-requires-clause-few c = few-holds c.in_ok-vfs.vfs c.args.tree c.root_key-directory.result c.in_ok-vfs.ensures.loaded

pub invariant_of-result : goal.invariant_of-result
invariant_of-result c =
    subst (λ live. AreKept c.hold.new.self live c.in_ok-no_keys.field-0.items c.root_key-directory.result) (sym (ap (λ (t : Descriptors Description). t.live) c.in_ok-new.ensures.empty))
    (subst (λ keys. AreKept c.hold.new.self (free_places 1024) keys c.root_key-directory.result) (sym c.in_ok-no_keys.ensures)
    (AreKept-first c.in_ok-vfs.vfs c.hold.new.self c.args.tree c.root_key-directory.result c.in_ok-vfs.ensures.loaded c.root_key-directory.ensures.key c.hold.ensures.same
    (first-kind c.in_ok-vfs.vfs c.hold.new.self (node_at c.in_ok-vfs.vfs c.root_key-directory.result) c.root_key-directory.ensures.directory c.hold.ensures.nodes) c.hold.ensures.held c.hold.ensures.valid))

use Rattle.std.proofs.Common.{◌≡◌, ◌<◌, ◌-◌, None, Some, sym, ap, subst, ◌∙◌, arith}
use Rattle.std.specs.Prelude.{IfSome}
use Rattle.std.proofs.lemmas.List.{get_or_read}
use Rattle.kernel_core.specs.NodeCalls.{released}
use Rattle.kernel_core.specs.Nodes.{Inode}
use Rattle.kernel_model.specs.Always.{IsTable}
use Rattle.kernel_model.specs.Descriptions.{node_of}
use Rattle.kernel_model.specs.State.{Files}
use Rattle.kernel_model.specs.Table.{number_at, slot}
use Rattle.native_fd.proofs.TableLemmas.{closed-free, number-small}
use Rattle.native_vfs.specs.Held.{ChangesHeld}
use Rattle.native_vfs.specs.Keyed.{number_at as node_at, inode_at, IsLiveKey}
use Rattle.native_files.specs.inside.Kept.{AreKept, node_in}
use Rattle.native_files.proofs.Closing.{after-kept, after-stream, after-read_end, after-write_end, after-node}
use Rattle.native_files.proofs.KeptLemmas.{AreKept-set, AreKept-released, closed-takes, home-now, key-held, key-live, key-node, live-closed_kept}
use Rattle.native_files.proofs.files.Files.close_numbered.Goals as goal

pub invariant_of-self : goal.invariant_of-self
invariant_of-self c =
    let tie = ap (λ (f : Files). f.table) c.self.view_is in
    let valid : IsTable c.self.inside.table = subst (λ t. IsTable t) (sym tie) c.requires.valid in
    let open_at : number_at c.self.inside.table c.args.fd ≡ Some c.args.number = ap (λ t. number_at t c.args.fd) tie ∙ c.requires.open in
    subst (λ live. AreKept c.self.inside.vfs live c.self.inside.node_keys.items c.self.inside.directory)
    (sym (ap (λ t. t.live) c.in-None.ensures.closed ∙ live-closed_kept c.self.inside.table valid c.args.fd (sym c.in-None.ensures.last))) c.self.invariant

pub invariant_of-self-in-Some : goal.invariant_of-self-in-Some
invariant_of-self-in-Some c =
    let tie = ap (λ (f : Files). f.table) c.self.view_is in
    let valid : IsTable c.self.inside.table = subst (λ t. IsTable t) (sym tie) c.requires.valid in
    let open_at : number_at c.self.inside.table c.args.fd ≡ Some c.args.number = ap (λ t. number_at t c.args.fd) tie ∙ c.requires.open in
    let takes = closed-takes c.self.inside.table c.args.fd c.args.number c.in-Some.description open_at (sym c.in-Some.ensures.last) in
    subst (λ live. AreKept c.self.inside.vfs live c.self.inside.node_keys.items c.self.inside.directory) (sym (ap (λ t. t.live) c.in-Some.ensures.closed ∙ takes.1))
    (AreKept-set c.self.inside.vfs c.self.inside.table.live c.self.inside.node_keys.items c.self.inside.directory c.self.invariant c.args.number None (sym (ap (λ o. node_in o) takes.0 ∙ ap (λ o. node_of o) c.in-Stream.is)))

pub invariant_of-self-in-ReadEnd : goal.invariant_of-self-in-ReadEnd
invariant_of-self-in-ReadEnd c =
    let tie = ap (λ (f : Files). f.table) c.self.view_is in
    let valid : IsTable c.self.inside.table = subst (λ t. IsTable t) (sym tie) c.requires.valid in
    let open_at : number_at c.self.inside.table c.args.fd ≡ Some c.args.number = ap (λ t. number_at t c.args.fd) tie ∙ c.requires.open in
    let takes = closed-takes c.self.inside.table c.args.fd c.args.number c.in-Some.description open_at (sym c.in-Some.ensures.last) in
    subst (λ live. AreKept c.self.inside.vfs live c.self.inside.node_keys.items c.self.inside.directory) (sym (ap (λ t. t.live) c.in-Some.ensures.closed ∙ takes.1))
    (AreKept-set c.self.inside.vfs c.self.inside.table.live c.self.inside.node_keys.items c.self.inside.directory c.self.invariant c.args.number None (sym (ap (λ o. node_in o) takes.0 ∙ ap (λ o. node_of o) c.in-ReadEnd.is)))

pub invariant_of-self-in-WriteEnd : goal.invariant_of-self-in-WriteEnd
invariant_of-self-in-WriteEnd c =
    let tie = ap (λ (f : Files). f.table) c.self.view_is in
    let valid : IsTable c.self.inside.table = subst (λ t. IsTable t) (sym tie) c.requires.valid in
    let open_at : number_at c.self.inside.table c.args.fd ≡ Some c.args.number = ap (λ t. number_at t c.args.fd) tie ∙ c.requires.open in
    let takes = closed-takes c.self.inside.table c.args.fd c.args.number c.in-Some.description open_at (sym c.in-Some.ensures.last) in
    subst (λ live. AreKept c.self.inside.vfs live c.self.inside.node_keys.items c.self.inside.directory) (sym (ap (λ t. t.live) c.in-Some.ensures.closed ∙ takes.1))
    (AreKept-set c.self.inside.vfs c.self.inside.table.live c.self.inside.node_keys.items c.self.inside.directory c.self.invariant c.args.number None (sym (ap (λ o. node_in o) takes.0 ∙ ap (λ o. node_of o) c.in-WriteEnd.is)))

pub index-requires : goal.index-requires
index-requires c =
    let tie = ap (λ (f : Files). f.table) c.self.view_is in
    let valid : IsTable c.self.inside.table = subst (λ t. IsTable t) (sym tie) c.requires.valid in
    let open_at : number_at c.self.inside.table c.args.fd ≡ Some c.args.number = ap (λ t. number_at t c.args.fd) tie ∙ c.requires.open in
    let small = number-small c.self.inside.table valid c.args.fd c.args.number open_at in
    omega (arith, c.self.invariant.keyed.sized, small)

pub release-requires-clause-live : goal.release-requires-clause-live
release-requires-clause-live c =
    let tie = ap (λ (f : Files). f.table) c.self.view_is in
    let valid : IsTable c.self.inside.table = subst (λ t. IsTable t) (sym tie) c.requires.valid in
    let open_at : number_at c.self.inside.table c.args.fd ≡ Some c.args.number = ap (λ t. number_at t c.args.fd) tie ∙ c.requires.open in
    let takes = closed-takes c.self.inside.table c.args.fd c.args.number c.in-Some.description open_at (sym c.in-Some.ensures.last) in
    let at : node_in (slot c.self.inside.table.live c.args.number) ≡ Some c.in-Node.field-0 = ap (λ o. node_in o) takes.0 ∙ ap (λ o. node_of o) c.in-Node.is in
    let small = number-small c.self.inside.table valid c.args.fd c.args.number open_at in
    let value = get_or_read c.self.inside.node_keys.items c.args.number c.index.result.now (omega (arith, c.self.invariant.keyed.sized, small)) c.index.ensures 0 in
    subst (λ k. IsLiveKey c.self.inside.vfs k) (sym value) (key-live c.self.inside.vfs c.self.inside.table.live c.self.inside.node_keys.items c.self.inside.directory c.self.invariant c.args.number c.in-Node.field-0 at)

pub release-requires-clause-held : goal.release-requires-clause-held
release-requires-clause-held c =
    let tie = ap (λ (f : Files). f.table) c.self.view_is in
    let valid : IsTable c.self.inside.table = subst (λ t. IsTable t) (sym tie) c.requires.valid in
    let open_at : number_at c.self.inside.table c.args.fd ≡ Some c.args.number = ap (λ t. number_at t c.args.fd) tie ∙ c.requires.open in
    let takes = closed-takes c.self.inside.table c.args.fd c.args.number c.in-Some.description open_at (sym c.in-Some.ensures.last) in
    let at : node_in (slot c.self.inside.table.live c.args.number) ≡ Some c.in-Node.field-0 = ap (λ o. node_in o) takes.0 ∙ ap (λ o. node_of o) c.in-Node.is in
    let small = number-small c.self.inside.table valid c.args.fd c.args.number open_at in
    let value = get_or_read c.self.inside.node_keys.items c.args.number c.index.result.now (omega (arith, c.self.invariant.keyed.sized, small)) c.index.ensures 0 in
    subst (λ k. IfSome (inode_at c.self.inside.vfs k) (λ (inode : Inode). 0 < inode.holds)) (sym value) (key-held c.self.inside.vfs c.self.inside.table.live c.self.inside.node_keys.items c.self.inside.directory c.self.invariant c.args.number c.in-Node.field-0 at)

pub invariant_of-self-in-Node : goal.invariant_of-self-in-Node
invariant_of-self-in-Node c =
    let tie = ap (λ (f : Files). f.table) c.self.view_is in
    let valid : IsTable c.self.inside.table = subst (λ t. IsTable t) (sym tie) c.requires.valid in
    let open_at : number_at c.self.inside.table c.args.fd ≡ Some c.args.number = ap (λ t. number_at t c.args.fd) tie ∙ c.requires.open in
    let takes = closed-takes c.self.inside.table c.args.fd c.args.number c.in-Some.description open_at (sym c.in-Some.ensures.last) in
    let at : node_in (slot c.self.inside.table.live c.args.number) ≡ Some c.in-Node.field-0 = ap (λ o. node_in o) takes.0 ∙ ap (λ o. node_of o) c.in-Node.is in
    let small = number-small c.self.inside.table valid c.args.fd c.args.number open_at in
    let value = get_or_read c.self.inside.node_keys.items c.args.number c.index.result.now (omega (arith, c.self.invariant.keyed.sized, small)) c.index.ensures 0 in
    let changes = subst (λ k. ChangesHeld c.self.inside.vfs c.release.new.self (node_at c.self.inside.vfs k) (λ holds. holds - 1)) value c.release.ensures.held in
    subst (λ live. AreKept c.release.new.self live c.self.inside.node_keys.items c.self.inside.directory) (sym (ap (λ t. t.live) c.in-Some.ensures.closed ∙ takes.1))
    (AreKept-released c.self.inside.vfs c.self.inside.table.live c.self.inside.node_keys.items c.self.inside.directory c.self.invariant c.args.number c.in-Node.field-0 at c.release.new.self changes c.release.ensures.valid)

pub returns-in-None-clause-closed : goal.returns-in-None-clause-closed
returns-in-None-clause-closed c =
    after-kept (record { nodes = c.self.inside.vfs.nodes; table = c.self.inside.table; flow = c.self.inside.flow; directory = node_at c.self.inside.vfs c.self.inside.directory; umask = c.self.inside.umask; terminal = c.self.inside.terminal }) c.args.self.now c.args.fd c.self.view_is c.close.new.self c.in-None.ensures.closed c.in-None.ensures.last

pub returns-in-Stream-clause-closed : goal.returns-in-Stream-clause-closed
returns-in-Stream-clause-closed c =
    after-stream (record { nodes = c.self.inside.vfs.nodes; table = c.self.inside.table; flow = c.self.inside.flow; directory = node_at c.self.inside.vfs c.self.inside.directory; umask = c.self.inside.umask; terminal = c.self.inside.terminal }) c.args.self.now c.args.fd c.self.view_is c.close.new.self c.in-Some.ensures.closed c.in-Some.description c.in-Some.ensures.last c.in-Stream.field-0 c.in-Stream.is

pub returns-in-ReadEnd-clause-closed : goal.returns-in-ReadEnd-clause-closed
returns-in-ReadEnd-clause-closed c =
    after-read_end (record { nodes = c.self.inside.vfs.nodes; table = c.self.inside.table; flow = c.self.inside.flow; directory = node_at c.self.inside.vfs c.self.inside.directory; umask = c.self.inside.umask; terminal = c.self.inside.terminal }) c.args.self.now c.args.fd c.self.view_is c.close.new.self c.in-Some.ensures.closed c.in-Some.description c.in-Some.ensures.last c.in-ReadEnd.pipe c.in-ReadEnd.is
    c.close_readers.new.self c.close_readers.ensures

pub returns-in-WriteEnd-clause-closed : goal.returns-in-WriteEnd-clause-closed
returns-in-WriteEnd-clause-closed c =
    after-write_end (record { nodes = c.self.inside.vfs.nodes; table = c.self.inside.table; flow = c.self.inside.flow; directory = node_at c.self.inside.vfs c.self.inside.directory; umask = c.self.inside.umask; terminal = c.self.inside.terminal }) c.args.self.now c.args.fd c.self.view_is c.close.new.self c.in-Some.ensures.closed c.in-Some.description c.in-Some.ensures.last c.in-WriteEnd.pipe c.in-WriteEnd.is
    c.close_writers.new.self c.close_writers.ensures

pub returns-in-Node-clause-closed : goal.returns-in-Node-clause-closed
returns-in-Node-clause-closed c =
    let tie = ap (λ (f : Files). f.table) c.self.view_is in
    let valid : IsTable c.self.inside.table = subst (λ t. IsTable t) (sym tie) c.requires.valid in
    let open_at : number_at c.self.inside.table c.args.fd ≡ Some c.args.number = ap (λ t. number_at t c.args.fd) tie ∙ c.requires.open in
    let takes = closed-takes c.self.inside.table c.args.fd c.args.number c.in-Some.description open_at (sym c.in-Some.ensures.last) in
    let at : node_in (slot c.self.inside.table.live c.args.number) ≡ Some c.in-Node.field-0 = ap (λ o. node_in o) takes.0 ∙ ap (λ o. node_of o) c.in-Node.is in
    let small = number-small c.self.inside.table valid c.args.fd c.args.number open_at in
    let value = get_or_read c.self.inside.node_keys.items c.args.number c.index.result.now (omega (arith, c.self.invariant.keyed.sized, small)) c.index.ensures 0 in
    let changes = subst (λ k. ChangesHeld c.self.inside.vfs c.release.new.self (node_at c.self.inside.vfs k) (λ holds. holds - 1)) value c.release.ensures.held in
    let nodes = c.release.ensures.nodes ∙ ap (λ k. released c.self.inside.vfs.nodes (node_at c.self.inside.vfs k)) value
    ∙ ap (λ n. released c.self.inside.vfs.nodes n) (key-node c.self.inside.vfs c.self.inside.table.live c.self.inside.node_keys.items c.self.inside.directory c.self.invariant c.args.number c.in-Node.field-0 at) in
    after-node (record { nodes = c.self.inside.vfs.nodes; table = c.self.inside.table; flow = c.self.inside.flow; directory = node_at c.self.inside.vfs c.self.inside.directory; umask = c.self.inside.umask; terminal = c.self.inside.terminal }) c.args.self.now c.args.fd c.self.view_is c.close.new.self c.in-Some.ensures.closed c.in-Some.description c.in-Some.ensures.last c.in-Node.field-0 c.in-Node.is
    c.release.new.self.nodes nodes (node_at c.release.new.self c.self.inside.directory)
    (home-now c.self.inside.vfs c.self.inside.table.live c.self.inside.node_keys.items c.self.inside.directory c.self.invariant c.args.number c.in-Node.field-0 at c.release.new.self changes)

pub returns-in-None-clause-free : goal.returns-in-None-clause-free
returns-in-None-clause-free c = ap (λ t. slot t.fds c.args.fd) c.in-None.ensures.closed ∙ closed-free c.self.inside.table c.args.fd

pub returns-in-Stream-clause-free : goal.returns-in-Stream-clause-free
returns-in-Stream-clause-free c = ap (λ t. slot t.fds c.args.fd) c.in-Some.ensures.closed ∙ closed-free c.self.inside.table c.args.fd

pub returns-in-ReadEnd-clause-free : goal.returns-in-ReadEnd-clause-free
returns-in-ReadEnd-clause-free c = ap (λ t. slot t.fds c.args.fd) c.in-Some.ensures.closed ∙ closed-free c.self.inside.table c.args.fd

pub returns-in-WriteEnd-clause-free : goal.returns-in-WriteEnd-clause-free
returns-in-WriteEnd-clause-free c = ap (λ t. slot t.fds c.args.fd) c.in-Some.ensures.closed ∙ closed-free c.self.inside.table c.args.fd

pub returns-in-Node-clause-free : goal.returns-in-Node-clause-free
returns-in-Node-clause-free c = ap (λ t. slot t.fds c.args.fd) c.in-Some.ensures.closed ∙ closed-free c.self.inside.table c.args.fd

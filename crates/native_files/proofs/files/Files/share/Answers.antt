use Rattle.std.proofs.Common.{◌≡◌, false, sym, ap, subst, ◌∙◌}
use Rattle.kernel_model.specs.DescriptorRows.{after_duplicate}
use Rattle.kernel_model.specs.State.{Files}
use Rattle.kernel_model.specs.Table.{shared, slot, with_cloexec}
use Rattle.native_vfs.specs.Keyed.{number_at as node_at}
use Rattle.native_files.specs.inside.Kept.{AreKept}
use Rattle.native_files.proofs.KeptLemmas.{closed-not_open, live-shared, shared-cloexec}
use Rattle.native_files.proofs.files.Files.share.Goals as goal

now_is : (c : goal.After-set_cloexec) → c.set_cloexec.new.self ≡ shared c.self.inside.table c.args.fd c.args.onto c.args.cloexec
now_is c =
    let free = ap (λ (f : Files). slot f.table.fds c.args.onto) c.self.view_is ∙ c.requires.free in
    c.set_cloexec.ensures.cloexec
    ∙ ap (λ t. with_cloexec t c.args.onto c.args.cloexec) (c.dup_to.ensures.shared ∙ ap (λ t. shared t c.args.fd c.args.onto false) (closed-not_open c.self.inside.table c.args.onto free))
    ∙ shared-cloexec c.self.inside.table c.args.fd c.args.onto c.args.cloexec free

pub invariant_of-self : goal.invariant_of-self
invariant_of-self c =
    subst (λ live. AreKept c.self.inside.vfs live c.self.inside.node_keys.items c.self.inside.directory)
    (sym (ap (λ t. t.live) (now_is c) ∙ live-shared c.self.inside.table c.args.fd c.args.onto c.args.cloexec)) c.self.invariant

pub returns : goal.returns
returns c =
    ap (λ t. record { nodes = c.self.inside.vfs.nodes; table = t; flow = c.self.inside.flow; directory = node_at c.self.inside.vfs c.self.inside.directory; umask = c.self.inside.umask; terminal = c.self.inside.terminal }) (now_is c)
    ∙ ap (λ (f : Files). after_duplicate f c.args.fd c.args.onto c.args.cloexec) c.self.view_is

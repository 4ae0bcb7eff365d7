use Rattle.std.proofs.Common.{◌≡◌, ◌<◌, Some, None, length, set, ap, sym, subst, ◌∙◌, arith}
use Rattle.std.specs.Prelude.{option_map}
use Rattle.std.proofs.lemmas.List.{get_or-set_same}
use Rattle.kernel_model.specs.Descriptions.{description_of}
use Rattle.kernel_model.specs.State.{Descriptors}
use Rattle.kernel_model.specs.Table.{new_place, number_at as number_at_fd}
use Rattle.kernel_model.specs.declared.descriptor.Description.{Description}
use Rattle.kernel_model.specs.declared.descriptor.Object.TheVariants as objects
use Rattle.kernel_model.proofs.Pigeons.{description_place}
use Rattle.native_files.specs.inside.Openings.{StaysKept}
use Rattle.native_files.proofs.KeptLemmas.{new_place-free}
use Rattle.native_files.proofs.OpenedKept.{StaysKept-opened, key_is, opened-table}
use Rattle.native_files.proofs.opening.open_key.Goals as goal
use Rattle.native_vfs.specs.Keyed.{number_at}

pub returns-clause-table : goal.returns-clause-table
returns-clause-table c =
    opened-table c.args.table.now c.insert.new.self c.set_cloexec.new.self c.args.fd c.number-number.result (number_at c.args.vfs.now c.args.key) c.args.flags c.cloexec.result c.node_description.result
    c.requires.free c.in_ok-insert.ensures.ok c.set_cloexec.ensures.cloexec c.cloexec.ensures c.node_description.ensures c.number-number.ensures

pub returns-clause-kept : goal.returns-clause-kept
returns-clause-kept c = λ directory are.
    let vfs = c.args.vfs.now in
    let table = c.args.table.now in
    let keys = c.args.node_keys.now in
    let node = number_at vfs c.args.key in
    let description = description_of (objects.Node node) c.args.flags in
    let place = new_place table.live in
    let is = opened-table table c.insert.new.self c.set_cloexec.new.self c.args.fd c.number-number.result node c.args.flags c.cloexec.result c.node_description.result
    c.requires.free c.in_ok-insert.ensures.ok c.set_cloexec.ensures.cloexec c.cloexec.ensures c.node_description.ensures c.number-number.ensures in
    let within = (description_place table c.requires.table 0 c.args.fd c.requires.least).within in
    let inside : c.args.fd < length table.fds = omega (arith, c.requires.table.fds, c.requires.within) in
    let small : place < 1024 = omega (arith, c.requires.table.live, within) in
    let numbered : number_at_fd c.set_cloexec.new.self c.args.fd ≡ Some place =
    ap (λ t. number_at_fd t c.args.fd) is
    ∙ ap (option_map (λ d. d.number)) (get_or-set_same table.fds c.args.fd (Some (record { number = place; cloexec = c.args.flags.cloexec })) None inside) in
    let kept = StaysKept-opened vfs c.hold.new.self table.live keys directory are place c.args.key node within small (new_place-free table.live)
    (key_is _ c.requires.live) c.hold.ensures.same c.hold.ensures.held c.hold.ensures.valid description (λ _. objects.Node node) in
    subst (λ (t : Descriptors Description). StaysKept vfs c.hold.new.self t.live c.set_key.new.node_keys directory) (sym is)
    (subst (λ k. StaysKept vfs c.hold.new.self (set table.live place (Some description)) k directory) (sym (c.set_key.ensures place numbered)) kept)

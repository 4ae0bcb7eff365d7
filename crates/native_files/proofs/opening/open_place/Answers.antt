use Rattle.std.proofs.Common.{◌∙◌}
use Rattle.native_files.proofs.KeptLemmas.{AreKept-held, home-held}
use Rattle.native_files.proofs.opening.open_place.Goals as goal

pub returns-in-Err-clause-kept : goal.returns-in-Err-clause-kept
returns-in-Err-clause-kept c = λ directory are.
    let vfs = c.args.vfs.now in
    let mid = c.node_to_open.new.vfs in
    let live = c.args.table.now.live in
    let keys = c.args.node_keys.now in
    let held = c.in-Err.ensures.held in
    let valid = c.in-Err.ensures.valid in
    let home = home-held vfs mid live keys directory are held in
    record { kept = AreKept-held vfs mid live keys directory are held valid; home = home }

pub returns-in_err-open_key-in-Ok-clause-kept : goal.returns-in_err-open_key-in-Ok-clause-kept
returns-in_err-open_key-in-Ok-clause-kept c = λ directory are.
    let vfs = c.args.vfs.now in
    let mid = c.node_to_open.new.vfs in
    let live = c.args.table.now.live in
    let keys = c.args.node_keys.now in
    let held = c.in-Ok.ensures.held in
    let valid = c.in-Ok.ensures.valid in
    let home = home-held vfs mid live keys directory are held in
    let then = c.in_err-open_key-in-Ok.ensures.kept directory (AreKept-held vfs mid live keys directory are held valid) in
    record { kept = then.kept; home = then.home ∙ home }

pub returns-in_ok-open_key-in-Ok-clause-kept : goal.returns-in_ok-open_key-in-Ok-clause-kept
returns-in_ok-open_key-in-Ok-clause-kept c = λ directory are.
    let vfs = c.args.vfs.now in
    let mid = c.node_to_open.new.vfs in
    let live = c.args.table.now.live in
    let keys = c.args.node_keys.now in
    let held = c.in-Ok.ensures.held in
    let valid = c.in-Ok.ensures.valid in
    let home = home-held vfs mid live keys directory are held in
    let then = c.in_ok-open_key-in-Ok.ensures.kept directory (AreKept-held vfs mid live keys directory are held valid) in
    record { kept = then.kept; home = then.home ∙ home }

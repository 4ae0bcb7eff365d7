-- What the native call put into host memory are the entries' records.
use Rattle.std.proofs.Common.{List, ℕ, length, replicate, refl}
use Rattle.std.specs.List.{flat_map}
use Rattle.host_mem.specs.Memory.{first_address, written}
use Rattle.kernel_core.specs.declared.reply.Reply.{Reply}
use Rattle.kernel_model.specs.Came.{came_as}
use Rattle.native_calls.specs.Status.{entry_bytes}
use Rattle.native_calls.specs.Step.{memory_after, reply_to, value}
use Rattle.bridge_entries.proofs.Lookups.{list_quiet, list_told}
use Rattle.bridge_entries.proofs.Quietly.{went_stop, went_weaker}
use Rattle.bridge_entries.specs.inside.Listed.{IsListedBy, did_of}
use Rattle.bridge_entries.specs.inside.Passing.{Replied}
use Rattle.bridge_entries.proofs.passing.list.Goals as goal

pub returns-clause-goes : goal.returns-clause-goes
returns-clause-goes g c = λ valid left told.
    let did = did_of c.args.below.now.kernel.now c.args.fd c.args.size c.args.size in
    let reply : Reply = reply_to (λ (bytes : List ℕ). value (length bytes)) (came_as (flat_map entry_bytes) did.came) in
    let memory : List ℕ = memory_after (written (replicate c.args.size 0) first_address) (replicate c.args.size 0) (came_as (flat_map entry_bytes) did.came) in
    went_weaker (Replied reply memory c.quiet.new.below.memory.now) (IsListedBy did c.quiet.new.below.memory.now) c.quiet.result _ _ _ _ _ _ _ _
    (λ found replied. list_told c.args.below.now.kernel.now c.args.fd c.args.size c.quiet.new.below.memory.now found valid replied)
    (c.quiet.ensures.goes did.state reply memory
    (λ left. list_quiet c.args.below.now.kernel.now left c.fresh_room.new.mem c.from.result c.from-2.result c.args.fd c.args.size c.from.ensures c.from-2.ensures c.ranges.fd.fits c.ranges.size.fits c.in_ok-fresh_room.ensures) left told)

pub returns-in_err-fresh_room-clause-goes : goal.returns-in_err-fresh_room-clause-goes
returns-in_err-fresh_room-clause-goes g c = λ valid left told. went_stop _ c.from_residual.result _ _ _ _ _ _ _ _ c.from_residual.ensures.0 refl

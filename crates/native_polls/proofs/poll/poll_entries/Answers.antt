use Rattle.std.proofs.Common.{sym, ap, ◌∙◌}
use Rattle.std.specs.Prelude.{ℕ, List, Ok}
use Rattle.kernel_model.specs.Came.{Given}
use Rattle.kernel_model.specs.Readiness.{PollEntry}
use Rattle.native_calls.specs.Polls.{entries_at}
use Rattle.native_polls.specs.declared.ends.Found.{Found}
use Rattle.native_polls.specs.inside.Entries.{told_if}
use Rattle.native_polls.specs.inside.Waiting.{came_of, stored_if}
use Rattle.native_polls.proofs.Founds.{told_finds}
use Rattle.native_polls.proofs.poll.poll_entries.Goals as goal

pub returns-in-Told : goal.returns-in-Told
returns-in-Told g c =
    let entries : Given (List PollEntry) = entries_at c.args.mem.now c.args.address c.args.count in
    let stored : List ℕ = told_if (g.F.Readiness.files c.args.files.now) c.args.address c.args.mem.now entries in
    told_finds (g.F.Readiness.files c.args.files.now) c.args.clock c.args.wait c.args.address c.args.mem.now c.store_told.new.mem entries c.in_ok-told.told c.found_or_wait-found.result
    (sym c.in_ok-told.was ∙ c.told_count.ensures) c.found_or_wait-found.ensures
    (c.store_told.ensures ∙ ap (λ (f : Found). stored_if (came_of (Ok f)) c.args.mem.now stored) (sym c.in-Told.is))

pub returns-in_default : goal.returns-in_default
returns-in_default g c =
    let entries : Given (List PollEntry) = entries_at c.args.mem.now c.args.address c.args.count in
    let stored : List ℕ = told_if (g.F.Readiness.files c.args.files.now) c.args.address c.args.mem.now entries in
    told_finds (g.F.Readiness.files c.args.files.now) c.args.clock c.args.wait c.args.address c.args.mem.now c.args.mem.now entries c.in_ok-told.told c.found_or_wait-found.result
    (sym c.in_ok-told.was ∙ c.told_count.ensures) c.found_or_wait-found.ensures
    (ap (λ (f : Found). stored_if (came_of (Ok f)) c.args.mem.now stored) (sym c.in_default.is))

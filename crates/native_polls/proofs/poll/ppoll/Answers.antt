use Rattle.std.proofs.Common.{◌≡◌, ◌∙◌, ap}
use Rattle.std.specs.Prelude.{ℕ, List, Option, count_by}
use Rattle.kernel_model.specs.Came.{Given}
use Rattle.kernel_model.specs.Readiness.{PollEntry, is_any, masked_wait, poll}
use Rattle.kernel_model.specs.SignalSets.{SignalSet}
use Rattle.native_calls.specs.HostBytes.{unless_null}
use Rattle.native_calls.specs.Polls.{entries_at, polled, ppoll_row, wait_at}
use Rattle.native_calls.specs.SignalBytes.{set_at}
use Rattle.native_polls.specs.inside.Waiting.{poll_waiting}
use Rattle.native_polls.proofs.Rows.{answers, poll_is}
use Rattle.native_polls.proofs.poll.ppoll.Goals as goal

pub returns : goal.returns
unfolding ppoll_row
returns g c = λ kernel left same_files same_clock.
    let memory : List ℕ = c.args.mem.now in
    let given : Given (Option ℕ) = wait_at memory c.args.time in
    let entries : Given (List PollEntry) = entries_at memory c.args.address c.args.count in
    let mask : Option (Given SignalSet) = unless_null c.args.mask (set_at memory c.args.mask) in
    let masked : c.masked_wait-masked.result ≡ masked_wait given c.args.size mask =
    c.masked_wait-masked.ensures ∙ ap (λ (w : Given (Option ℕ)). masked_wait w c.args.size mask) c.wait_at-wait.ensures in
    answers (polled c.args.address memory) (count_by is_any) c.args.time given c.wait_at-wait.result memory c.poll-came.new.mem c.ended.new.mem left
    kernel c.args.clock (poll kernel (masked_wait given c.args.size mask) c.args.count entries)
    (poll_waiting (g.F.Readiness.files c.args.files.now) c.args.clock c.masked_wait-masked.result c.args.count entries) c.poll-came.result c.ended.result
    (poll_is kernel (g.F.Readiness.files c.args.files.now) c.args.clock (masked_wait given c.args.size mask) c.masked_wait-masked.result c.args.count entries same_files same_clock masked)
    same_clock c.wait_at-wait.ensures c.poll-came.ensures c.ended.ensures.reply c.ended.ensures.memory

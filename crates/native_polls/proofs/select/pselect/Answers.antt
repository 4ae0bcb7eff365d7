use Rattle.std.proofs.Common.{◌≡◌, ◌∙◌, ap, subst}
use Rattle.std.specs.Int.{w32}
use Rattle.std.specs.Prelude.{ℕ, ℤ, List, Option}
use Rattle.std.proofs.lemmas.Int.{to_z-of_z}
use Rattle.kernel_model.specs.Came.{Given}
use Rattle.kernel_model.specs.Readiness.{Sets, counted_fds, select, set_count}
use Rattle.native_calls.specs.Polls.{MaskArgument, after_argument, mask_argument_at, masked_by, pselect_row, selected, sets_at, wait_at}
use Rattle.native_polls.specs.Answers.{places_of}
use Rattle.native_polls.specs.inside.Waiting.{Finds, select_waiting}
use Rattle.native_polls.proofs.Rows.{answers, select_is}
use Rattle.native_polls.proofs.select.pselect.Goals as goal

pub returns : goal.returns
unfolding pselect_row
returns g c = λ kernel left same_files same_clock.
    let memory : List ℕ = c.args.mem.now in
    let wait : Given (Option ℕ) = wait_at memory c.args.time in
    let argument : Option (Given MaskArgument) = mask_argument_at memory c.args.argument in
    let sets : Given Sets = sets_at memory (counted_fds c.args.count) (places_of c.args.places) in
    let masked : c.masked_by-masked.result ≡ masked_by memory wait argument =
    c.masked_by-masked.ensures ∙ ap (λ (w : Given (Option ℕ)). masked_by memory w argument) c.wait_at-wait.ensures in
    let accepted : c.after_argument-accepted.result ≡ after_argument argument wait =
    c.after_argument-accepted.ensures ∙ ap (λ (w : Given (Option ℕ)). after_argument argument w) c.wait_at-wait.ensures in
    let found : Finds (selected (counted_fds c.args.count) (places_of c.args.places) memory) set_count
    (select_waiting (g.F.Readiness.files c.args.files.now) c.args.clock c.masked_by-masked.result c.args.count sets) c.select-came.result memory c.select-came.new.mem =
    subst (λ (n : ℤ). Finds (selected (counted_fds n) (places_of c.args.places) memory) set_count
    (select_waiting (g.F.Readiness.files c.args.files.now) c.args.clock c.masked_by-masked.result n (sets_at memory (counted_fds n) (places_of c.args.places)))
    c.select-came.result memory c.select-came.new.mem)
    (to_z-of_z w32 c.args.count c.ranges.count) c.select-came.ensures in
    answers (selected (counted_fds c.args.count) (places_of c.args.places) memory) set_count c.args.time (after_argument argument wait) c.after_argument-accepted.result
    memory c.select-came.new.mem c.ended.new.mem left
    kernel c.args.clock (select kernel (masked_by memory wait argument) c.args.count sets)
    (select_waiting (g.F.Readiness.files c.args.files.now) c.args.clock c.masked_by-masked.result c.args.count sets) c.select-came.result c.ended.result
    (select_is kernel (g.F.Readiness.files c.args.files.now) c.args.clock (masked_by memory wait argument) c.masked_by-masked.result c.args.count sets same_files same_clock masked)
    same_clock accepted found c.ended.ensures.reply c.ended.ensures.memory

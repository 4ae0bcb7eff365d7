-- The entry that was added leads over the call, and where none is kept, so would one.
use Rattle.std.proofs.Common.{◌≡◌, Option, List, Result, OnOk, subst, sym, ap, ◌∙◌}
use Rattle.kernel_core.specs.declared.core_error.Stop.{Stop}
use Rattle.kernel_core.specs.declared.log_entry.LogEntry.{LogEntry}
use Rattle.kernel_core.specs.declared.reply.Reply.{Reply}
use Rattle.native_calls.specs.Step.{NativeStep}
use Rattle.native_calls.specs.Table.{native_call}
use Rattle.kernel_model.specs.Pipes.{Sent}
use Rattle.kernel_model.specs.State.{Kernel}
use Rattle.std.specs.Prelude.{ℕ, option_map}
use Rattle.bridge_log.proofs.Histories.{LoggedOver, logged_unkept, logged_pushed}
use Rattle.bridge_log.proofs.calls.native.Goals as goal
use Rattle.bridge_log.proofs.calls.native.Goals.{in-None, in-Some}

-- with what is joined after the branches in place of its parts
along : (step : NativeStep) (kernel : Kernel) (left : List ℕ) (sent : Sent) (result joined : Result Reply Stop) (old shown new joined_new : Option (List LogEntry)) → joined ≡ result → shown ≡ old → joined_new ≡ new
    → OnOk result (LoggedOver step kernel left sent old new) → OnOk joined (LoggedOver step kernel left sent shown joined_new)
along step kernel left sent result joined old shown new joined_new same was became logged =
    subst (λ (r : Result Reply Stop). OnOk r (LoggedOver step kernel left sent shown joined_new)) (sym same)
    (subst (λ (o : Option (List LogEntry)). OnOk result (LoggedOver step kernel left sent o joined_new)) (sym was)
    (subst (λ (n : Option (List LogEntry)). OnOk result (LoggedOver step kernel left sent old n)) (sym became) logged))

pub returns-clause-kept : goal.returns-clause-kept
returns-clause-kept g c = λ left told sent.
    let step = native_call c.args.nr c.args.args c.args.k.now c.args.mem.now left in
    let was = ap (λ l. l.native) (sym c.log.view_is) in
    elim c.match-log.branch [
      | in-None w ↦
          along step _ left sent _ _ _ _ _ _ w.result-is (was ∙ ap (option_map (λ v. v.items)) w.in-None.is)
          (ap (λ l. option_map (λ v. v.items) l.native) w.log-inside-is ∙ ap (option_map (λ v. v.items)) w.in-None.is)
          (logged_unkept c.args.nr c.args.args c.args.k.now w.make.new.k c.args.mem.now w.make.new.mem left sent w.make.result _ _ (w.make.ensures.row left told))
      | in-Some w ↦
          along step _ left sent _ _ _ _ _ _ w.result-is (was ∙ ap (option_map (λ v. v.items)) w.in-Some.is)
          (ap (λ l. option_map (λ v. v.items) l.native) w.log-inside-is)
          (logged_pushed c.args.nr c.args.args c.args.k.now w.kept_call.new.k c.args.mem.now w.kept_call.new.mem left sent w.kept_call.result w.in-Some.entries.items w.kept_call.new.entries.items _ _ (w.kept_call.ensures.row left told) w.kept_call.ensures.entry)
    ]

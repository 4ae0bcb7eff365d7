-- What the native call does.
use Rattle.std.proofs.Common.{◌∙◌, ℕ, List, [], ◌∷◌, ap, refl, subst, sym}
use Rattle.native_calls.specs.Table.{native_call}
use Rattle.kernel_model.specs.SignalRows.{pending_at}
use Rattle.bridge_signal_state.proofs.TakeLooks.{take_act, taken, taken_memory, taken_reply, taken_state, taken_told}
use Rattle.bridge_signal_state.specs.inside.Shown.{info_shown, taking_room}
use Rattle.bridge_signal_state.proofs.Moving.{acted_stop}
use Rattle.bridge_signal_state.specs.Acting.{IsAct}
use Rattle.bridge_signal_state.proofs.taking.take.Goals as goal

pub returns-clause-acts : goal.returns-clause-acts
returns-clause-acts g c = λ left told.
    let act = λ (left : List ℕ). subst (λ (m : List ℕ). IsAct ((taken c.args.below.now.kernel.now c.args.sig (pending_at c.args.below.now.kernel.now.signals c.args.sig)).state) (taken_reply (taking_room c.args.sig) (taken c.args.below.now.kernel.now c.args.sig (pending_at c.args.below.now.kernel.now.signals c.args.sig)).came) (taken_memory (taking_room c.args.sig) (taken c.args.below.now.kernel.now c.args.sig (pending_at c.args.below.now.kernel.now.signals c.args.sig)).came) left (native_call 137 (65536 ∷ 65552 ∷ 65680 ∷ 16 ∷ 0 ∷ 0 ∷ []) c.args.below.now.kernel.now m left)) (sym c.in_ok-put_taking.ensures) (take_act c.args.below.now.kernel.now left c.args.sig) in
    let done = c.in_ok-reply.ensures.acts ((taken c.args.below.now.kernel.now c.args.sig (pending_at c.args.below.now.kernel.now.signals c.args.sig)).state) (taken_reply (taking_room c.args.sig) (taken c.args.below.now.kernel.now c.args.sig (pending_at c.args.below.now.kernel.now.signals c.args.sig)).came) (taken_memory (taking_room c.args.sig) (taken c.args.below.now.kernel.now c.args.sig (pending_at c.args.below.now.kernel.now.signals c.args.sig)).came) act left told in (
      (
        c.info_shown.ensures ∙ ap (λ (m : List ℕ). info_shown m c.in_ok-reply.reply) done.0.0.stored ∙ ap (info_shown (taken_memory (taking_room c.args.sig) (taken c.args.below.now.kernel.now c.args.sig (pending_at c.args.below.now.kernel.now.signals c.args.sig)).came)) done.0.0.answered ∙ taken_told c.args.below.now.kernel.now c.args.sig c.signals_fit.ensures.sound.pending,
        done.0.1 ∙ taken_state c.args.below.now.kernel.now c.args.sig (pending_at c.args.below.now.kernel.now.signals c.args.sig) refl,
      ),
      done.1,
    )

pub returns-in_err-put_taking-clause-acts : goal.returns-in_err-put_taking-clause-acts
returns-in_err-put_taking-clause-acts g c = λ left told. acted_stop _ c.from_residual.result _ _ _ _ _ _ _ c.from_residual.ensures.0 refl

pub returns-in_err-reply-clause-acts : goal.returns-in_err-reply-clause-acts
returns-in_err-reply-clause-acts g c = λ left told.
    let act = λ (left : List ℕ). subst (λ (m : List ℕ). IsAct ((taken c.args.below.now.kernel.now c.args.sig (pending_at c.args.below.now.kernel.now.signals c.args.sig)).state) (taken_reply (taking_room c.args.sig) (taken c.args.below.now.kernel.now c.args.sig (pending_at c.args.below.now.kernel.now.signals c.args.sig)).came) (taken_memory (taking_room c.args.sig) (taken c.args.below.now.kernel.now c.args.sig (pending_at c.args.below.now.kernel.now.signals c.args.sig)).came) left (native_call 137 (65536 ∷ 65552 ∷ 65680 ∷ 16 ∷ 0 ∷ 0 ∷ []) c.args.below.now.kernel.now m left)) (sym c.in_ok-put_taking.ensures) (take_act c.args.below.now.kernel.now left c.args.sig) in
    acted_stop _ c.from_residual-in_err-reply.result _ _ _ _ _ _ _ c.from_residual-in_err-reply.ensures.0
    (c.in_err-reply.ensures.acts ((taken c.args.below.now.kernel.now c.args.sig (pending_at c.args.below.now.kernel.now.signals c.args.sig)).state) (taken_reply (taking_room c.args.sig) (taken c.args.below.now.kernel.now c.args.sig (pending_at c.args.below.now.kernel.now.signals c.args.sig)).came) (taken_memory (taking_room c.args.sig) (taken c.args.below.now.kernel.now c.args.sig (pending_at c.args.below.now.kernel.now.signals c.args.sig)).came) act left told)

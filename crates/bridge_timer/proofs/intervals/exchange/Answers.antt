-- The timer is set, and what it showed is stored as the row says.
use Rattle.std.proofs.Common.{◌∙◌, Option, ap, sym}
use Rattle.guest_space.specs.Memory.{Memory}
use Rattle.kernel_model.specs.Came.{Given}
use Rattle.kernel_model.specs.Clock.{TimerSetting, arm_timer}
use Rattle.o32_model.specs.Sleeps.{setitimer_row, setting_at}
use Rattle.o32_model.specs.Words.{argument}
use Rattle.o32_model.specs.declared.call_words.CallWords.{CallWords}
use Rattle.bridge_timer.proofs.Acting.{ended_called, ended_keeps}
use Rattle.bridge_timer.proofs.TimerRows.{set_as, set_reply}
use Rattle.bridge_timer.specs.inside.Endings.{set_ending}
use Rattle.bridge_timer.proofs.intervals.exchange.Goals as goal

pub returns-clause-row : goal.returns-clause-row
returns-clause-row g c = λ guest words memory shown left told.
    let done = c.in_ok-reply.ensures.acts left told in
    let setting = c.in_ok-place.ensures ∙ ap (λ (m : Memory). setting_at m (argument c.args.words.now 1)) (sym memory) in
    ended_called (arm_timer c.args.below.now.kernel.now 0 (setting_at guest.memory (argument c.args.words.now 1))).state guest c.in_ok-outcome.outcome c.store_before.new.space (set_ending guest.words guest.memory (argument c.args.words.now 2) c.args.shown c.in_ok-reply.reply) (setitimer_row c.args.below.now.kernel.now guest 0 (argument c.args.words.now 1) (argument c.args.words.now 2) left) done.1 told
    (done.0.1 ∙ ap (λ (s : Option (Given TimerSetting)). (arm_timer c.args.below.now.kernel.now 0 s).state) setting)
    (set_as c.args.below.now.kernel.now guest (argument c.args.words.now 1) (argument c.args.words.now 2) left c.args.shown c.in_ok-reply.reply shown (done.0.0 ∙ ap (λ (s : Option (Given TimerSetting)). set_reply (arm_timer c.args.below.now.kernel.now 0 s).came) setting))
    (ap (λ (w : CallWords). set_ending w guest.memory (argument c.args.words.now 2) c.args.shown c.in_ok-reply.reply) words ∙ ap (λ (m : Memory). set_ending c.args.words.now m (argument c.args.words.now 2) c.args.shown c.in_ok-reply.reply) memory ∙ c.in_ok-outcome.ensures.ends)

pub returns-clause-kept : goal.returns-clause-kept
returns-clause-kept g c = λ guest words memory shown left told.
    let done = c.in_ok-reply.ensures.acts left told in
    let setting = c.in_ok-place.ensures ∙ ap (λ (m : Memory). setting_at m (argument c.args.words.now 1)) (sym memory) in
    ended_keeps (arm_timer c.args.below.now.kernel.now 0 (setting_at guest.memory (argument c.args.words.now 1))).state guest c.in_ok-outcome.outcome c.args.space.now c.store_before.new.space (set_ending guest.words guest.memory (argument c.args.words.now 2) c.args.shown c.in_ok-reply.reply) (setitimer_row c.args.below.now.kernel.now guest 0 (argument c.args.words.now 1) (argument c.args.words.now 2) left) c.store_before.new.log done.1
    (done.0.1 ∙ ap (λ (s : Option (Given TimerSetting)). (arm_timer c.args.below.now.kernel.now 0 s).state) setting) memory
    (set_as c.args.below.now.kernel.now guest (argument c.args.words.now 1) (argument c.args.words.now 2) left c.args.shown c.in_ok-reply.reply shown (done.0.0 ∙ ap (λ (s : Option (Given TimerSetting)). set_reply (arm_timer c.args.below.now.kernel.now 0 s).came) setting))
    (ap (λ (w : CallWords). set_ending w guest.memory (argument c.args.words.now 2) c.args.shown c.in_ok-reply.reply) words ∙ ap (λ (m : Memory). set_ending c.args.words.now m (argument c.args.words.now 2) c.args.shown c.in_ok-reply.reply) memory ∙ c.in_ok-outcome.ensures.ends)
    c.store_before.ensures.native c.in_ok-outcome.ensures.effects

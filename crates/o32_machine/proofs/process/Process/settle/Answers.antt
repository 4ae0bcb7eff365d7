-- What is due is posted, and then the other steps are taken.
use Rattle.std.proofs.Common.{◌≡◌, Bool, true, false, List, None, Ok, Option, Result, Some, Vec, Global, ap, refl, subst, sym, ◌∙◌}
use Rattle.kernel_core.specs.declared.finish.Finish.{Finish}
use Rattle.bridge_log.specs.Keeping.{Logged}
use Rattle.kernel_core.specs.declared.log_entry.LogEntry.{LogEntry}
use Rattle.native_calls.specs.History.{moment}
use Rattle.outside.specs.Streams.{contents}
use Rattle.o32_machine.proofs.Steps.{settles}
use Rattle.o32_machine.specs.Emulator.{ProcessState, coming_of, within_at}
use Rattle.o32_machine.specs.declared.process.Process.TheInside.{Inside}
use Rattle.o32_model.specs.Logs.{Kept as KeptCalls}
use Rattle.o32_turns.specs.Turn.{whole}
use Rattle.o32_turns.specs.Posting.{posted}
use Rattle.o32_machine.proofs.Logging.{settled_logged}
use Rattle.o32_machine.proofs.Recording.{before_recorded, looked}
use Rattle.kernel_core.specs.declared.core_error.Stop.{Stop}
use Rattle.kernel_model.specs.Pipes.{nothing}
use Rattle.turn_records.specs.Entry.{registers_of}
use Rattle.std.specs.Prelude.{is_none, is_some, not, option_map}
use Rattle.o32_machine.proofs.process.Process.settle.Goals as goal

not_some : (none : Bool) (over : Option Finish) → not none ≡ is_some over → none ≡ is_none over
not_some true None is = refl
not_some true (Some finish) is = absurd cc
not_some false None is = absurd cc
not_some false (Some finish) is = refl

abbrev seen_as : Inside → ProcessState
seen_as p = record { processor = p.core.cpu; memory = p.core.space; kernel = p.core.kernel; going = p.going; coming = coming_of p.schedule; idle = p.idle }

pub returns-clause-settled : goal.returns-clause-settled
returns-clause-settled g c =
    let done : Result (Unit {0}) Stop = Ok tt in
    settles c.args.clock done c.args.self.now c.post.new.self c.wake_to_resume.new.self
    (contents g.I.Source.left g.O.Sink.written g.E.Sink.written c.args.dev.now) (contents g.I.Source.left g.O.Sink.written g.E.Sink.written c.wake_to_resume.new.dev)
    (c.in_ok-post.ensures.posted ∙ ap (λ (p : ProcessState). posted whole (within_at c.args.clock p)) c.begin.ensures) c.in_ok-wake_to_resume.ensures.took

pub returns-clause-native : goal.returns-clause-native
returns-clause-native g c = λ left told.
    settled_logged c.args.clock c.args.self.now.kernel c.begin.new.self.kernel c.post.new.self.kernel c.wake_to_resume.new.self.kernel left c.args.kept.now.native c.post.new.native c.add.new.self
    c.part-log.result.native (option_map (λ (v : Vec LogEntry Global). v.items) c.log.inside.native) (ap (λ (p : ProcessState). p.kernel) c.begin.ensures) c.in_ok-post.ensures.native c.part-log.ensures.native
    (λ sent.
    subst (λ (n : Option (List LogEntry)). Logged c.part-log.result.native n (moment c.post.new.self.kernel left sent) (moment c.wake_to_resume.new.self.kernel left sent)) (sym (ap (λ (k : KeptCalls). k.native) c.log.view_is))
    (c.in_ok-wake_to_resume.ensures.native left told sent))
    (λ before after logged. c.in_ok-add.ensures.leads c.post.new.self.kernel c.wake_to_resume.new.self.kernel left left before after c.in_ok-post.ensures.clock c.wake_to_resume.ensures.clock c.in_ok-post.ensures.ready logged)
    (λ logged. c.in_ok-add.ensures.ready c.post.new.self.kernel c.wake_to_resume.new.self.kernel left left nothing nothing c.in_ok-post.ensures.ready logged)

pub returns-clause-records : goal.returns-clause-records
returns-clause-records g c = λ left told.
    let done : Result (Unit {0}) Stop = Ok tt in
    let is = (settles c.args.clock done c.args.self.now c.post.new.self c.wake_to_resume.new.self
    (contents g.I.Source.left g.O.Sink.written g.E.Sink.written c.args.dev.now) (contents g.I.Source.left g.O.Sink.written g.E.Sink.written c.wake_to_resume.new.dev)
    (c.in_ok-post.ensures.posted ∙ ap (λ (p : ProcessState). posted whole (within_at c.args.clock p)) c.begin.ensures) c.in_ok-wake_to_resume.ensures.took left told).1 in
    before_recorded c.args.turn c.args.clock c.args.self.now c.post.new.self c.wake_to_resume.new.self c.args.kept.now.records c.add_before.new.self c.look.new.was _ c.as_slice.result.now c.is_none-alive.result
    c.part-log.result.effects c.wake_to_resume.new.log.effects _
    (looked c.args.kept.now.records c.look.new.was _ _ c.look.ensures
    (ap (λ (p : ProcessState). registers_of p.processor) c.self.view_is ∙ ap registers_of (c.post.ensures.processor ∙ ap (λ (p : ProcessState). p.processor) c.begin.ensures)))
    (ap (λ (p : ProcessState). p.processor) (ap seen_as c.self-inside.view_is ∙ c.self-2.view_is))
    (c.as_slice.ensures.value ∙ ap (λ (p : ProcessState). p.going.events) (ap seen_as c.self-inside.view_is ∙ c.self-2.view_is))
    (not_some c.is_none-alive.result _ (sym c.is_none-alive.ensures) ∙ ap (λ (p : ProcessState). is_none p.going.over) (ap seen_as c.self-inside.view_is ∙ c.self-2.view_is))
    c.part-log.ensures.effects (ap (λ (k : KeptCalls). k.effects) c.log.view_is)
    (c.post.ensures.memory ∙ ap (λ (p : ProcessState). p.memory) c.begin.ensures) is (c.in_ok-wake_to_resume.ensures.effects left told) c.in_ok-add_before.ensures

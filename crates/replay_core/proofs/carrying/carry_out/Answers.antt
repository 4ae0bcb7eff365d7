use Rattle.std.proofs.Common.{[], Result, Ok, ap, subst, sym}
use Rattle.guest_space.specs.Memory.{Memory}
use Rattle.journal.specs.Form.{IsEffect}
use Rattle.journal.specs.Seen.{effect_seen}
use Rattle.kernel_core.specs.declared.record.Effect.{Effect}
use Rattle.kernel_model.specs.Pipes.{Sent}
use Rattle.mips_exec.specs.Processor.{Processor}
use Rattle.o32_model.specs.Effects.{after_map, after_protect, after_write, carried}
use Rattle.replay_core.specs.Answered.{Gains, Written, written}
use Rattle.replay_core.specs.Replay.{carried_on}
use Rattle.replay_core.specs.declared.difference.Halt.{Halt}
use Rattle.replay_core.specs.inside.Parts.{Carries, target_at}
use Rattle.replay_core.proofs.EffectSteps.{pages_carried, pages_others, register_carried, sends_carried, unmap_carried, unmap_others}
use Rattle.replay_core.proofs.Outputs.{pages_counts}
use Rattle.replay_core.proofs.carrying.carry_out.Goals as goal

abbrev Carried_out : Processor → Processor → Memory → Memory → Written → Written → Result Unit Halt → Effect → Type 0
Carried_out cpu after space later before now result effect =
    (first : Written) (sent : Sent) → Gains first before sent
    → Carries (carried_on [] (target_at cpu space sent) (carried (target_at cpu space sent) effect)) after later first sent now result

pub returns-in-Register-clause-carried : goal.returns-in-Register-clause-carried
returns-in-Register-clause-carried g c =
    subst (λ (e : Effect). Carried_out c.args.cpu.now c.set_register.new.cpu c.args.space.now c.args.space.now (written g.O.Sink.written g.E.Sink.written c.args.out.now c.args.err.now)
    (written g.O.Sink.written g.E.Sink.written c.args.out.now c.args.err.now) (Ok tt) e) (sym (ap effect_seen c.in-Register.is))
    (λ first sent gains.
    register_carried first (written g.O.Sink.written g.E.Sink.written c.args.out.now c.args.err.now) sent c.args.cpu.now c.set_register.new.cpu c.args.space.now c.in-Register.r c.in-Register.value c.set_register.ensures gains)

pub returns-in-Write-clause-carried : goal.returns-in-Write-clause-carried
returns-in-Write-clause-carried g c =
    subst (λ (e : Effect). Carried_out c.args.cpu.now c.args.cpu.now c.args.space.now c.write.new.space (written g.O.Sink.written g.E.Sink.written c.args.out.now c.args.err.now)
    (written g.O.Sink.written g.E.Sink.written c.args.out.now c.args.err.now) c.write.result e) (sym (ap effect_seen c.in-Write.is))
    (λ first sent gains.
    pages_carried first (written g.O.Sink.written g.E.Sink.written c.args.out.now c.args.err.now) sent c.args.cpu.now c.args.space.now c.write.new.space
    (after_write c.args.space.now.pages c.in-Write.address c.in-Write.bytes.now) c.write.result c.write.ensures gains)

pub returns-in-Write-clause-others : goal.returns-in-Write-clause-others
returns-in-Write-clause-others g c =
    pages_others (after_write c.args.space.now.pages c.in-Write.address c.in-Write.bytes.now) c.args.space.now c.write.new.space c.write.result c.write.ensures

pub returns-in-Write-clause-cause : goal.returns-in-Write-clause-cause
returns-in-Write-clause-cause g c =
    pages_counts (after_write c.args.space.now.pages c.in-Write.address c.in-Write.bytes.now) c.args.space.now c.write.new.space c.write.result (g.O.Sink.faults c.args.out.now) (g.E.Sink.faults c.args.err.now) c.write.ensures

pub returns-in-Map-clause-carried : goal.returns-in-Map-clause-carried
returns-in-Map-clause-carried g c =
    subst (λ (e : Effect). Carried_out c.args.cpu.now c.args.cpu.now c.args.space.now c.map.new.space (written g.O.Sink.written g.E.Sink.written c.args.out.now c.args.err.now)
    (written g.O.Sink.written g.E.Sink.written c.args.out.now c.args.err.now) c.map.result e) (sym (ap effect_seen c.in-Map.is))
    (λ first sent gains.
    pages_carried first (written g.O.Sink.written g.E.Sink.written c.args.out.now c.args.err.now) sent c.args.cpu.now c.args.space.now c.map.new.space
    (after_map c.args.space.now.pages c.in-Map.first c.in-Map.count c.in-Map.prot) c.map.result c.map.ensures gains)

pub returns-in-Map-clause-others : goal.returns-in-Map-clause-others
returns-in-Map-clause-others g c =
    pages_others (after_map c.args.space.now.pages c.in-Map.first c.in-Map.count c.in-Map.prot) c.args.space.now c.map.new.space c.map.result c.map.ensures

pub returns-in-Map-clause-cause : goal.returns-in-Map-clause-cause
returns-in-Map-clause-cause g c =
    pages_counts (after_map c.args.space.now.pages c.in-Map.first c.in-Map.count c.in-Map.prot) c.args.space.now c.map.new.space c.map.result (g.O.Sink.faults c.args.out.now) (g.E.Sink.faults c.args.err.now) c.map.ensures

pub returns-in-Unmap-clause-carried : goal.returns-in-Unmap-clause-carried
returns-in-Unmap-clause-carried g c =
    subst (λ (e : Effect). Carried_out c.args.cpu.now c.args.cpu.now c.args.space.now c.unmap.new.self (written g.O.Sink.written g.E.Sink.written c.args.out.now c.args.err.now)
    (written g.O.Sink.written g.E.Sink.written c.args.out.now c.args.err.now) (Ok tt) e) (sym (ap effect_seen c.in-Unmap.is))
    (λ first sent gains.
    unmap_carried first (written g.O.Sink.written g.E.Sink.written c.args.out.now c.args.err.now) sent c.args.cpu.now c.args.space.now c.unmap.new.self c.in-Unmap.first c.in-Unmap.count c.unmap.ensures.changed gains)

pub returns-in-Unmap-clause-others : goal.returns-in-Unmap-clause-others
returns-in-Unmap-clause-others g c = unmap_others c.args.space.now c.unmap.new.self c.in-Unmap.first c.in-Unmap.count c.unmap.ensures.changed

pub returns-in-Protect-clause-carried : goal.returns-in-Protect-clause-carried
returns-in-Protect-clause-carried g c =
    subst (λ (e : Effect). Carried_out c.args.cpu.now c.args.cpu.now c.args.space.now c.protect.new.space (written g.O.Sink.written g.E.Sink.written c.args.out.now c.args.err.now)
    (written g.O.Sink.written g.E.Sink.written c.args.out.now c.args.err.now) c.protect.result e) (sym (ap effect_seen c.in-Protect.is))
    (λ first sent gains.
    pages_carried first (written g.O.Sink.written g.E.Sink.written c.args.out.now c.args.err.now) sent c.args.cpu.now c.args.space.now c.protect.new.space
    (after_protect c.args.space.now.pages c.in-Protect.first c.in-Protect.count c.in-Protect.prot) c.protect.result c.protect.ensures gains)

pub returns-in-Protect-clause-others : goal.returns-in-Protect-clause-others
returns-in-Protect-clause-others g c =
    pages_others (after_protect c.args.space.now.pages c.in-Protect.first c.in-Protect.count c.in-Protect.prot) c.args.space.now c.protect.new.space c.protect.result c.protect.ensures

pub returns-in-Protect-clause-cause : goal.returns-in-Protect-clause-cause
returns-in-Protect-clause-cause g c =
    pages_counts (after_protect c.args.space.now.pages c.in-Protect.first c.in-Protect.count c.in-Protect.prot) c.args.space.now c.protect.new.space c.protect.result (g.O.Sink.faults c.args.out.now) (g.E.Sink.faults c.args.err.now) c.protect.ensures

pub returns-in-Output-clause-carried : goal.returns-in-Output-clause-carried
returns-in-Output-clause-carried g c =
    let formed = subst IsEffect (ap effect_seen c.in-Output.is) c.requires in
    subst (λ (e : Effect). Carried_out c.args.cpu.now c.args.cpu.now c.args.space.now c.args.space.now (written g.O.Sink.written g.E.Sink.written c.args.out.now c.args.err.now)
    (written g.O.Sink.written g.E.Sink.written c.send.new.out c.send.new.err) c.send.result e) (sym (ap effect_seen c.in-Output.is))
    (λ first sent gains.
    sends_carried first (written g.O.Sink.written g.E.Sink.written c.args.out.now c.args.err.now) (written g.O.Sink.written g.E.Sink.written c.send.new.out c.send.new.err) sent c.args.cpu.now c.args.space.now
    c.in-Output.stream c.in-Output.bytes.now c.send.result formed.0 formed.1 c.send.ensures.sent gains)

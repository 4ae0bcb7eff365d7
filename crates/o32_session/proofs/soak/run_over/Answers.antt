use Rattle.std.proofs.Common.{◌≡◌, IfOk, [], Result, subst}
use Rattle.outside.specs.Streams.{contents}
use Rattle.kernel_core.specs.declared.core_error.Stop.{Stop}
use Rattle.kernel_core.specs.declared.finish.Finish.{Finish}
use Rattle.o32_runner.specs.Runs.{KeepsTexts, RunsAs, WithinBudget, no_turn_follows}
use Rattle.o32_session.specs.Words.{default_budget}
use Rattle.o32_session.proofs.Soaking.{ran_over, ran_within}
use Rattle.o32_session.proofs.soak.run_over.Goals as goal

pub returns-in-Ok-clause-run : goal.returns-in-Ok-clause-run
returns-in-Ok-clause-run g c =
    let before = contents g.I.Source.left g.O.Sink.written g.E.Sink.written c.args.dev.now in
    let after = contents g.I.Source.left g.O.Sink.written g.E.Sink.written c.run-ran.new.dev in
    let quantum = c.args.emulator.now.quantum in
    let machine = c.args.emulator.now.machine in
    let final = c.run-ran.new.emulator.machine in
    let turns = c.run-ran.result.turns in
    ran_over turns quantum c.in-Ok.finish machine final before after c.requires.quantum c.requires.input
    (subst (λ (e : Result Finish Stop). RunsAs quantum machine default_budget turns e before after final) c.in-Ok.is c.run-ran.ensures.run)

pub returns-in-Err-clause-stopped : goal.returns-in-Err-clause-stopped
returns-in-Err-clause-stopped g c =
    let before = contents g.I.Source.left g.O.Sink.written g.E.Sink.written c.args.dev.now in
    let after = contents g.I.Source.left g.O.Sink.written g.E.Sink.written c.run-ran.new.dev in
    let quantum = c.args.emulator.now.quantum in
    let machine = c.args.emulator.now.machine in
    let final = c.run-ran.new.emulator.machine in
    let turns = c.run-ran.result.turns in
    ran_within turns quantum c.in-Err.field-0 machine final before after c.requires.quantum c.requires.input
    (subst (λ (e : Result Finish Stop). WithinBudget e turns default_budget) c.in-Err.is c.run-ran.ensures.within)
    (subst (λ (e : Result Finish Stop). RunsAs quantum machine default_budget turns e before after final) c.in-Err.is c.run-ran.ensures.run)

pub returns-in-Ok-clause-keeps : goal.returns-in-Ok-clause-keeps
returns-in-Ok-clause-keeps g c =
    subst (λ (e : Result Finish Stop). IfOk e (λ finish. KeepsTexts c.args.emulator.now c.run-ran.new.emulator)) c.in-Ok.is (c.run-ran.ensures.keeps [] c.requires.input)

pub returns-in-Ok-clause-over : goal.returns-in-Ok-clause-over
returns-in-Ok-clause-over g c =
    subst (λ (e : Result Finish Stop). IfOk e (λ finish. c.run-ran.new.emulator.over ≡ no_turn_follows finish)) c.in-Ok.is (c.run-ran.ensures.over [] c.requires.input)

use Rattle.std.proofs.Common.{◌≡◌, ◌∙◌, ℕ, List, map, string_bytes, ap}
use Rattle.journal.specs.Meaning.{kept}
use Rattle.replay_core.specs.Answered.{written}
use Rattle.replay_core.specs.Whole.{last_of, start_of}
use Rattle.kernel_model.specs.Pipes.{nothing}
use Rattle.replay_core.specs.inside.Parts.{replay_at}
use Rattle.replay_core.proofs.Turns.{answers_for, started}
use Rattle.start_stack.specs.Start.{start_memory, start_processor}
use Rattle.replay_core.proofs.whole.replay.Goals as goal

pub returns-in-Ok-clause-answers : goal.returns-in-Ok-clause-answers
returns-in-Ok-clause-answers g c =
    let j = kept c.args.journal.now in
    let plan = c.args.plan.now in
    let last = last_of c.args.journal.now.records in
    let args : map string_bytes c.as_slice.result.now ≡ j.args = ap (map string_bytes) c.as_slice.ensures.value in
    let env : map string_bytes c.as_slice-2.result.now ≡ j.env = ap (map string_bytes) c.as_slice-2.ensures.value in
    let cpu : c.in-Ok.start.cpu ≡ start_processor plan j.args j.env =
    c.in-Ok.ensures.cpu ∙ ap (λ (a : List (List ℕ)). start_processor plan a (map string_bytes c.as_slice-2.result.now)) args ∙ ap (λ (e : List (List ℕ)). start_processor plan j.args e) env in
    let space : c.in-Ok.start.space ≡ start_memory plan j.args j.env j.random =
    c.in-Ok.ensures.space ∙ ap (λ (a : List (List ℕ)). start_memory plan a (map string_bytes c.as_slice-2.result.now) j.random) args ∙ ap (λ (e : List (List ℕ)). start_memory plan j.args e j.random) env in
    answers_for (start_of plan j) (replay_at c.machine_of-machine.result 0 nothing) last.turn c.end_of.result.turn last.finish c.end_of.result.finish c.take_turns.result.end c.take_turns.result.turns
    (written g.O.Sink.written g.E.Sink.written c.args.out.now c.args.err.now) (written g.O.Sink.written g.E.Sink.written c.take_turns.new.out c.take_turns.new.err)
    (started c.machine_of-machine.result c.in-Ok.start.cpu (start_processor plan j.args j.env) c.in-Ok.start.space (start_memory plan j.args j.env j.random) j.records c.machine_of-machine.ensures cpu space)
    c.end_of.ensures.turn c.end_of.ensures.finish c.take_turns.ensures.answers

use Rattle.std.proofs.Common.{◌≡◌, ℕ, All, List, ap, sym, subst, ◌∙◌}
use Rattle.kernel_core.specs.ValidTree.{IsValidTree}
use Rattle.session_words.specs.Read.{line_seen}
use Rattle.o32_session.specs.Soaked.{soak_arguments}
use Rattle.o32_session.specs.Words.{IsPlain, texts}
use Rattle.o32_session.proofs.Keeping.{keeps_nothing}
use Rattle.o32_session.proofs.Soaking.{machine_ready, no_settings, plain_arguments, quantum_ready}
use Rattle.session_files.proofs.Trees.{empty_tree_valid}
use Rattle.o32_session.proofs.soak.begin.Goals as goal

pub machine_of_plan-requires-clause-args : goal.machine_of_plan-requires-clause-args
machine_of_plan-requires-clause-args c =
    let words_are : texts c.deref.result.now ≡ soak_arguments = ap texts c.deref.ensures.value ∙ c.in_ok-words.ensures.texts in
    subst (λ (words : List (List ℕ)). All IsPlain words) (sym words_are) plain_arguments

pub machine_of_plan-requires-clause-environment : goal.machine_of_plan-requires-clause-environment
machine_of_plan-requires-clause-environment c = subst (λ (words : List (List ℕ)). All IsPlain words) (sym c.line_without_options-line.ensures.environment) no_settings

pub machine_of_plan-requires-clause-tree : goal.machine_of_plan-requires-clause-tree
machine_of_plan-requires-clause-tree c = subst IsValidTree (sym c.in_ok-tree.ensures) empty_tree_valid

pub returns-clause-machine : goal.returns-clause-machine
returns-clause-machine c =
    let ready = c.in_ok-ready.ready in
    let words_are : texts c.deref.result.now ≡ soak_arguments = ap texts c.deref.ensures.value ∙ c.in_ok-words.ensures.texts in
    machine_ready c.args.count (texts c.deref.result.now) (line_seen c.line_without_options-line.result) c.in_ok-plan.plan c.in_ok-tree.tree c.in_ok-schedule.schedule
    ready.emulator.quantum ready.emulator.machine ready.budget ready.front.items words_are c.line_without_options-line.ensures.environment c.in_ok-plan.ensures.plan
    c.in_ok-tree.ensures c.in_ok-schedule.ensures.empty c.in_ok-ready.ensures.ready

pub returns-clause-quantum : goal.returns-clause-quantum
returns-clause-quantum c =
    let ready = c.in_ok-ready.ready in
    let words_are : texts c.deref.result.now ≡ soak_arguments = ap texts c.deref.ensures.value ∙ c.in_ok-words.ensures.texts in
    quantum_ready c.args.count (texts c.deref.result.now) (line_seen c.line_without_options-line.result) c.in_ok-plan.plan c.in_ok-tree.tree c.in_ok-schedule.schedule
    ready.emulator.quantum ready.emulator.machine ready.budget ready.front.items words_are c.line_without_options-line.ensures.environment c.in_ok-plan.ensures.plan
    c.in_ok-tree.ensures c.in_ok-schedule.ensures.empty c.in_ok-ready.ensures.ready

pub returns-clause-keeps : goal.returns-clause-keeps
returns-clause-keeps c =
    let ready = c.in_ok-ready.ready in
    keeps_nothing ready.emulator ready.native ready.journal c.in_ok-ready.ensures.log c.in_ok-ready.ensures.records
    (c.in_ok-ready.ensures.native ∙ c.line_without_options-line.ensures.native) (c.in_ok-ready.ensures.journal ∙ c.line_without_options-line.ensures.journal)

use Rattle.std.proofs.Common.{◌≡◌, ◌<◌, ℕ, List, ap, subst, ◌∙◌, ◌≤◌, arith, length, string_bytes, sym}
use Rattle.kernel_model.specs.System.{round}
use Rattle.o32_runner.specs.Emulators.{Emulated}
use Rattle.start_stack.specs.Stack.{start_size, start_limit}
use Rattle.start_stack.specs.Start.{start_memory, start_processor}
use Rattle.o32_session.specs.Asked.{stack_chance}
use Rattle.o32_session.specs.Words.{texts, IsPlain}
use Rattle.session_words.specs.Read.{line_seen}
use Rattle.o32_session.proofs.Preparing.{machine_ready}
use Rattle.journal.specs.Text.{head_text}
use Rattle.o32_runner.specs.Passed.{first_log}
use Rattle.turn_records.specs.Keeping.{first_records}
use Rattle.session_files.proofs.Plain.{are_texts}
use Rattle.std.specs.Prelude.{All}
use Rattle.std.proofs.lemmas.List.{length-map}
use Rattle.o32_session.proofs.prepare.machine_of_plan.Goals as goal

pub returns-clause-ready : goal.returns-clause-ready
returns-clause-ready c =
    let args = texts c.args.args.now in
    let plan = c.args.plan.now in
    let start = c.in_ok-start.start in
    let env_is : texts c.as_slice-environment.result.now ≡ texts c.args.line.environment.items = ap texts c.as_slice-environment.ensures.value in
    let chance_is : c.stack_chance-chance.result ≡ stack_chance c.args.schedule = c.stack_chance-chance.ensures ∙ ap (λ (bytes : List ℕ). round bytes 0 16) c.as_slice.ensures in
    machine_ready args (line_seen c.args.line) plan c.args.tree c.args.schedule start.cpu start.space c.in_ok-new.field-0.quantum c.in_ok-new.field-0.machine c.in_ok-front.front.items
    (subst (λ (env : List (List ℕ)). start_limit < start_size args env → ⊥) env_is (λ over. let wrong = c.in_ok-start.ensures.too_long.1 over in cc))
    (subst (λ (env : List (List ℕ)). start.cpu ≡ start_processor plan args env) env_is c.in_ok-start.ensures.cpu)
    (subst (λ (chance : List ℕ). start.space ≡ start_memory plan args (texts c.args.line.environment.items) chance) chance_is
    (subst (λ (env : List (List ℕ)). start.space ≡ start_memory plan args env c.stack_chance-chance.result) env_is c.in_ok-start.ensures.space))
    (ap (λ (e : Emulated). e.quantum) c.in_ok-new.ensures.first)
    (ap (λ (e : Emulated). e.machine) c.in_ok-new.ensures.first)
    (c.in_ok-front.ensures ∙ ap (λ (env : List (List ℕ)). head_text args env c.stack_chance-chance.result) env_is
    ∙ ap (λ (chance : List ℕ). head_text args (texts c.args.line.environment.items) chance) chance_is)

pub returns-clause-log : goal.returns-clause-log
returns-clause-log c = ap (λ (e : Emulated). e.native) c.in_ok-new.ensures.first ∙ ap first_log c.is_some-log.ensures

pub returns-clause-records : goal.returns-clause-records
returns-clause-records c = ap (λ (e : Emulated). e.records) c.in_ok-new.ensures.first ∙ ap first_records c.is_some-journal.ensures

pub journal_front-requires : goal.journal_front-requires
journal_front-requires c =
    let args = texts c.args.args.now in
    let env_is : texts c.as_slice-environment.result.now ≡ texts c.args.line.environment.items = ap texts c.as_slice-environment.ensures.value in
    let over : (start_limit < start_size args (texts c.as_slice-environment.result.now)) → ⊥ = λ over. let wrong = c.in_ok-start.ensures.too_long.1 over in cc in
    let fits : start_size args (texts c.as_slice-environment.result.now) ≤ start_limit = omega (arith, over) in
    let long : length args ≡ length c.args.args.now = length-map c.args.args.now string_bytes in
    are_texts args (texts c.as_slice-environment.result.now) fits (omega (arith, c.requires.named, long)) c.requires.args
    (subst (λ (env : List (List ℕ)). All IsPlain env) (sym env_is) c.requires.environment)

use Rattle.std.proofs.Common.{◌≡◌, ◌+◌, ◌-◌, ℕ, refl, arith, ap, sym, subst, ◌∙◌}
use Rattle.std.specs.Prelude.{Result, Ok, Err, OnErr}
use Rattle.guest_space.proofs.Ranges.{protection-bits}
use Rattle.guest_space.specs.Memory.{Pages}
use Rattle.guest_space.specs.Remapping.{IsRemapAnswer}
use Rattle.kernel_core.specs.declared.error.Errno.TheVariants.{ENOMEM}
use Rattle.kernel_model.specs.Came.{Did, Done, Refused}
use Rattle.bridge_map.proofs.Resizing.{full_is, has_room, nowhere_is, remapped_is}
use Rattle.bridge_map.proofs.Sizes.{resize_leads}
use Rattle.bridge_map.proofs.remap.resize.Goals as goal

pub returns-in_ok-keep_resized-in-Ok-clause-answer : goal.returns-in_ok-keep_resized-in-Ok-clause-answer
returns-in_ok-keep_resized-in-Ok-clause-answer c =
    ap (λ (did : Did Pages ℕ). did.came)
    (remapped_is c.args.space.now.pages c.args.first c.args.old c.args.new c.args.may_move c.remap.new.self.pages c.in-Ok.at c.requires.mapped c.in-Ok.ensures.answer.0 c.in-Ok.ensures.answer.1)

pub returns-in_ok-keep_resized-in-Ok-clause-stored : goal.returns-in_ok-keep_resized-in-Ok-clause-stored
returns-in_ok-keep_resized-in-Ok-clause-stored c =
    c.in-Ok.ensures.others
    ∙ ap (λ (did : Did Pages ℕ). record c.args.space.now { pages = did.state })
    (sym (remapped_is c.args.space.now.pages c.args.first c.args.old c.args.new c.args.may_move c.remap.new.self.pages c.in-Ok.at c.requires.mapped c.in-Ok.ensures.answer.0 c.in-Ok.ensures.answer.1))

pub returns-in_ok-keep_resized-in-Ok-clause-effects : goal.returns-in_ok-keep_resized-in-Ok-clause-effects
returns-in_ok-keep_resized-in-Ok-clause-effects c =
    let bits = protection-bits c.args.space.now.pages (c.args.first + c.args.old - 1) _ c.whole.ensures refl in
    resize_leads c.args.log.now.effects c.keep_resized.new.log.effects c.args.space.now.pages c.remap.new.self.pages c.args.first c.args.old c.args.new c.in-Ok.at
    c.protection_of-protection.result c.requires.mapped c.requires.some_old c.requires.ends c.whole.ensures c.protection_of-protection.ensures
    (omega (arith, bits, c.protection_of-protection.ensures)) c.in_ok-keep_resized-in-Ok.ensures.effects c.args.may_move c.in-Ok.ensures.answer.0 c.in-Ok.ensures.answer.1
    c.in_ok-keep_resized-in-Ok.ensures.zeros

pub returns-in-Err-Full-clause-answer : goal.returns-in-Err-Full-clause-answer
returns-in-Err-Full-clause-answer c =
    let answer = subst (λ e. IsRemapAnswer (Err e) c.args.space.now.pages c.remap.new.self.pages c.args.first c.args.old c.args.new c.args.may_move) c.in-Err-Full.field-0-is c.in-Err-Full.ensures.answer in
    ap (λ (did : Did Pages ℕ). did.came) (full_is c.args.space.now.pages c.args.first c.args.old c.args.new c.args.may_move answer.0)

pub returns-in-Err-Full-clause-stored : goal.returns-in-Err-Full-clause-stored
returns-in-Err-Full-clause-stored c =
    let answer = subst (λ e. IsRemapAnswer (Err e) c.args.space.now.pages c.remap.new.self.pages c.args.first c.args.old c.args.new c.args.may_move) c.in-Err-Full.field-0-is c.in-Err-Full.ensures.answer in
    c.in-Err-Full.ensures.others
    ∙ ap (λ (pages : Pages). record c.args.space.now { pages = pages })
    (answer.1 ∙ ap (λ (did : Did Pages ℕ). did.state) (sym (full_is c.args.space.now.pages c.args.first c.args.old c.args.new c.args.may_move answer.0)))

pub returns-in-Err-NoPlace-clause-answer : goal.returns-in-Err-NoPlace-clause-answer
returns-in-Err-NoPlace-clause-answer c =
    let answer = subst (λ e. IsRemapAnswer (Err e) c.args.space.now.pages c.remap.new.self.pages c.args.first c.args.old c.args.new c.args.may_move) c.in-Err-NoPlace.field-0-is c.in-Err-NoPlace.ensures.answer in
    ap (λ (did : Did Pages ℕ). did.came) (nowhere_is c.args.space.now.pages c.args.first c.args.old c.args.new c.args.may_move answer.0 answer.1)

pub returns-in-Err-NoPlace-clause-stored : goal.returns-in-Err-NoPlace-clause-stored
returns-in-Err-NoPlace-clause-stored c =
    let answer = subst (λ e. IsRemapAnswer (Err e) c.args.space.now.pages c.remap.new.self.pages c.args.first c.args.old c.args.new c.args.may_move) c.in-Err-NoPlace.field-0-is c.in-Err-NoPlace.ensures.answer in
    c.in-Err-NoPlace.ensures.others
    ∙ ap (λ (pages : Pages). record c.args.space.now { pages = pages })
    (answer.2 ∙ ap (λ (did : Did Pages ℕ). did.state) (sym (nowhere_is c.args.space.now.pages c.args.first c.args.old c.args.new c.args.may_move answer.0 answer.1)))

pub returns-in-Err-NoMemory-clause-no_memory : goal.returns-in-Err-NoMemory-clause-no_memory
returns-in-Err-NoMemory-clause-no_memory c =
    let answer = subst (λ e. IsRemapAnswer (Err e) c.args.space.now.pages c.remap.new.self.pages c.args.first c.args.old c.args.new c.args.may_move) c.in-Err-NoMemory.field-0-is c.in-Err-NoMemory.ensures.answer in
    has_room c.args.space.now.pages c.args.first c.args.old c.args.new c.args.may_move answer.0 answer.1

-- what is so is so after any result
on_err : {A E : Type 0} (result : Result A E) (Holds : Type 0) → Holds → OnErr result Holds
on_err (Ok value) Holds holds = tt
on_err (Err error) Holds holds = holds

pub returns-in_err-keep_resized-in-Ok-clause-no_memory : goal.returns-in_err-keep_resized-in-Ok-clause-no_memory
returns-in_err-keep_resized-in-Ok-clause-no_memory c =
    let done_so = ap (λ (did : Did Pages ℕ). did.came)
    (remapped_is c.args.space.now.pages c.args.first c.args.old c.args.new c.args.may_move c.remap.new.self.pages c.in-Ok.at c.requires.mapped c.in-Ok.ensures.answer.0 c.in-Ok.ensures.answer.1) in
    on_err c.from_residual.result _ (λ none. absurd (let wrong : Done c.in-Ok.at ≡ Refused ENOMEM = sym done_so ∙ none in cc))

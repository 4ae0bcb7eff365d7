use Rattle.std.proofs.Common.{◌≡◌, ◌-◌, ◌<◌, ℕ, true, subst, sym, ◌∙◌, arith}
use Rattle.guest_space.specs.Mapping.{with_zeros}
use Rattle.guest_space.specs.Places.{IsFree}
use Rattle.guest_space.specs.Remapping.{without}
use Rattle.guest_space.specs.Break.{pages_up_to}
use Rattle.guest_space.proofs.Breaks.{may_add-too_many, may_add-taken, may_add-all, between-less, between-more}
use Rattle.guest_space.proofs.resize.move_break.Goals as goal

pub returns-then-new_end-old_end-clause-ok : goal.returns-then-new_end-old_end-clause-ok
returns-then-new_end-old_end-clause-ok c =
    let pages = c.args.pages.now in
    c.unmap_pages.ensures.changed
    ∙ (λ i. without pages (c.page_up-new_end.ensures i) (c.page_up-old_end.ensures i - c.page_up-new_end.ensures i))
    ∙ between-less pages c.args.from c.args.to (omega (arith, c.if-new_end-old_end.true, c.page_up-new_end.ensures, c.page_up-old_end.ensures))

pub returns-then-passes_limit-clause-answer : goal.returns-then-passes_limit-clause-answer
returns-then-passes_limit-clause-answer c =
    let more : 0 < pages_up_to c.args.to - pages_up_to c.args.from = omega (arith, c.if-new_end-old_end.false, c.page_up-new_end.ensures, c.page_up-old_end.ensures) in
    sym (may_add-too_many c.args.pages.now (pages_up_to c.args.from) (pages_up_to c.args.to - pages_up_to c.args.from) more
    (let many = c.passes_limit.ensures.0 c.if-passes_limit.true in omega (arith, many, c.page_up-new_end.ensures, c.page_up-old_end.ensures)))

pub returns-then-not-is_free-clause-answer : goal.returns-then-not-is_free-clause-answer
returns-then-not-is_free-clause-answer c =
    let more : 0 < pages_up_to c.args.to - pages_up_to c.args.from = omega (arith, c.if-new_end-old_end.false, c.page_up-new_end.ensures, c.page_up-old_end.ensures) in
    sym (may_add-taken c.args.pages.now (pages_up_to c.args.from) (pages_up_to c.args.to - pages_up_to c.args.from) more
    (λ (free : IsFree c.args.pages.now (pages_up_to c.args.from) (pages_up_to c.args.to - pages_up_to c.args.from)).
    let same : IsFree c.args.pages.now c.page_up-old_end.result (c.page_up-new_end.result - c.page_up-old_end.result) =
    subst (λ (n : ℕ). IsFree c.args.pages.now n (c.page_up-new_end.result - n)) (sym c.page_up-old_end.ensures)
    (subst (λ (n : ℕ). IsFree c.args.pages.now (pages_up_to c.args.from) (n - pages_up_to c.args.from)) (sym c.page_up-new_end.ensures) free) in
    let found = c.is_free.ensures.1 same in
    absurd (cc (found, c.if-not-is_free.true))))

pub returns-clause-answer : goal.returns-clause-answer
returns-clause-answer c =
    let more : 0 < pages_up_to c.args.to - pages_up_to c.args.from = omega (arith, c.if-new_end-old_end.false, c.page_up-new_end.ensures, c.page_up-old_end.ensures) in
    let there : c.is_free.result ≡ true = c.if-not-is_free.false in
    sym (may_add-all c.args.pages.now (pages_up_to c.args.from) (pages_up_to c.args.to - pages_up_to c.args.from) more
    (λ many. let passes = c.passes_limit.ensures.1 (omega (arith, many, c.page_up-new_end.ensures, c.page_up-old_end.ensures)) in absurd (cc (passes, c.if-passes_limit.false)))
    (subst (λ (n : ℕ). IsFree c.args.pages.now n (pages_up_to c.args.to - n)) c.page_up-old_end.ensures
    (subst (λ (n : ℕ). IsFree c.args.pages.now c.page_up-old_end.result (n - c.page_up-old_end.result)) c.page_up-new_end.ensures (c.is_free.ensures.0 there))))

pub returns-clause-ok : goal.returns-clause-ok
returns-clause-ok c =
    let pages = c.args.pages.now in
    c.in_ok-map_zeros.ensures.ok
    ∙ (λ i. with_zeros pages (c.page_up-old_end.ensures i) (c.page_up-new_end.ensures i - c.page_up-old_end.ensures i) 3)
    ∙ between-more pages c.args.from c.args.to (omega (arith, c.if-new_end-old_end.false, c.page_up-new_end.ensures, c.page_up-old_end.ensures))

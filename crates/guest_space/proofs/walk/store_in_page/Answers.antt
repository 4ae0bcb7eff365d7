use Rattle.std.proofs.Common.{◌≡◌, ◌/◌, ◌+◌, refl, sym, ap, ◌∙◌, arith, length, Option, Err, subst}
use Rattle.std.specs.FinMap.{get}
use Rattle.raw_pages.specs.Pages.{is_ready, IsWriteAnswer}
use Rattle.raw_pages.specs.declared.write_error.WriteError.{WriteError}
use Rattle.raw_pages.specs.declared.write_error.WriteError.TheVariants as error
use Rattle.guest_space.specs.Memory.{MappedPage, IsValid}
use Rattle.guest_space.proofs.Validity.{valid-with_bytes}
use Rattle.guest_space.specs.declared.access.Access.TheVariants.{Store}
use Rattle.guest_space.specs.declared.access.Why.TheVariants.{Absent, Forbidden, Beyond}
use Rattle.guest_space.specs.Access.{page_refusal}
use Rattle.guest_space.proofs.Prefixes.{refusal-beyond, refusal-page, first_denied-here}
use Rattle.guest_space.proofs.ByteLemmas.{with_bytes-page}
use Rattle.guest_space.proofs.Writes.{ok-writable, absent-none, forbidden-refusal, memory-writable, memory-unready, writable-none, are_ready-not}
use Rattle.guest_space.proofs.walk.store_in_page.Goals as goal

answered : (o : Option MappedPage) (e f : WriteError) → e ≡ f → IsWriteAnswer o (Err e) → IsWriteAnswer o (Err f)
answered o e f same answer = subst (λ d. IsWriteAnswer o (Err d)) same answer

pub returns-then-address-ge-USER_END-clause-answer : goal.returns-then-address-ge-USER_END-clause-answer
returns-then-address-ge-USER_END-clause-answer c =
    first_denied-here Store c.args.pages.now c.args.address (length c.args.bytes.now) Beyond (refusal-beyond Store c.args.pages.now c.args.address c.if-address-ge-USER_END.true) c.requires.some

pub returns-in-Ok-clause-ok : goal.returns-in-Ok-clause-ok
returns-in-Ok-clause-ok c =
    c.in-Ok.ensures.ok ∙ sym (with_bytes-page c.args.bytes.now c.args.pages.now c.args.address _ refl c.requires.some c.requires.room)

pub returns-in-Ok-clause-answer : goal.returns-in-Ok-clause-answer
returns-in-Ok-clause-answer c =
    writable-none c.args.pages.now c.args.address (length c.args.bytes.now) c.if-address-ge-USER_END.false c.requires.room (ok-writable _ c.in-Ok.ensures.answer)

pub returns-in-Err-Absent-clause-answer : goal.returns-in-Err-Absent-clause-answer
returns-in-Err-Absent-clause-answer c =
    first_denied-here Store c.args.pages.now c.args.address (length c.args.bytes.now) Absent
    (refusal-page Store c.args.pages.now c.args.address c.if-address-ge-USER_END.false ∙ ap (page_refusal Store) (absent-none _ (answered _ c.in-Err-Absent.field-0 error.Absent c.in-Err-Absent.field-0-is c.in-Err-Absent.ensures.answer))) c.requires.some

pub returns-in-Err-Forbidden-clause-answer : goal.returns-in-Err-Forbidden-clause-answer
returns-in-Err-Forbidden-clause-answer c =
    first_denied-here Store c.args.pages.now c.args.address (length c.args.bytes.now) Forbidden
    (refusal-page Store c.args.pages.now c.args.address c.if-address-ge-USER_END.false ∙ forbidden-refusal _ (answered _ c.in-Err-Forbidden.field-0 error.Forbidden c.in-Err-Forbidden.field-0-is c.in-Err-Forbidden.ensures.answer)) c.requires.some

pub returns-in-Err-NoMemory-clause-answer : goal.returns-in-Err-NoMemory-clause-answer
returns-in-Err-NoMemory-clause-answer c =
    let here : c.args.address + 0 ≡ c.args.address = omega arith in (
      writable-none c.args.pages.now c.args.address (length c.args.bytes.now) c.if-address-ge-USER_END.false c.requires.room (memory-writable _ (answered _ c.in-Err-NoMemory.field-0 error.NoMemory c.in-Err-NoMemory.field-0-is c.in-Err-NoMemory.ensures.answer)),
      are_ready-not c.args.pages.now 0 (length c.args.bytes.now) c.args.address c.requires.some
          (ap (λ a. is_ready (get c.args.pages.now (a / 4096))) here ∙ memory-unready _ (answered _ c.in-Err-NoMemory.field-0 error.NoMemory c.in-Err-NoMemory.field-0-is c.in-Err-NoMemory.ensures.answer)),
    )

pub returns-in-Ok-clause-valid : goal.returns-in-Ok-clause-valid
returns-in-Ok-clause-valid c =
    λ valid. subst IsValid (sym (c.in-Ok.ensures.ok ∙ sym (with_bytes-page c.args.bytes.now c.args.pages.now c.args.address _ refl c.requires.some c.requires.room)))
    (valid-with_bytes _ _ _ valid (λ k. let byte = c.type_inv.bytes k in omega arith))

use Rattle.std.proofs.Common.{◌≡◌, ◌+◌, ◌-◌, ◌%◌, ◌/◌, ◌<◌, ◌≤◌, ap, sym, subst, ◌∙◌, arith, refl, take, drop, length, true, false}
use Rattle.std.proofs.lemmas.List.{length-take-le, take_all}
use Rattle.std.specs.FinMap.{get}
use Rattle.raw_pages.specs.Pages.{is_ready}
use Rattle.raw_pages.proofs.Puts.{length-part}
use Rattle.guest_space.specs.Memory.{IsValid}
use Rattle.guest_space.proofs.Validity.{valid-with_bytes, take_are_bytes}
use Rattle.guest_space.specs.Bytes.{with_bytes}
use Rattle.guest_space.proofs.ByteLemmas.{with_bytes-append, with_bytes-page, with_bytes-nil}
use Rattle.guest_space.proofs.Writes.{take-part, unready-with_bytes, unready_of, are_ready-not, on_err}
use Rattle.guest_space.proofs.walk.write_bytes.Goals as goal

pub loop-done-init : goal.loop-done-init
loop-done-init c = record { within = omega arith; written = sym (with_bytes-nil _ _) }

pub loop-done-preserved : goal.loop-done-preserved
loop-done-preserved c =
    let done = c.loop-done.done in
    let size = c.min-size.result in
    let at = c.args.address + done in
    let bytes = c.args.bytes.now in
    let before = take done bytes in
    let piece = take (done + size - done) (drop done bytes) in
    let long : length piece ≡ size = length-part bytes done size (omega arith) in
    let some : 0 < length piece = omega arith in
    let room : at % 4096 + length piece ≤ 4096 = omega arith in
    let next : at ≡ c.args.address + length before = ap (λ n. c.args.address + n) (sym (length-take-le done bytes (omega arith))) in
    record {
      within = omega arith;
      written =
          c.in_ok-write.ensures.ok
          ∙ sym (with_bytes-page piece c.loop-done.pages at _ refl some room)
          ∙ ap (λ m. with_bytes m at piece) c.loop-done.invariant.written
          ∙ ap (λ n. with_bytes (with_bytes c.args.pages.now c.args.address before) n piece) next
          ∙ sym (with_bytes-append before piece c.args.pages.now c.args.address)
          ∙ ap (with_bytes c.args.pages.now c.args.address) (sym (take-part bytes done size));
    }

pub returns-clause-ok : goal.returns-clause-ok
returns-clause-ok c =
    c.loop-done.invariant.written
    ∙ ap (with_bytes c.args.pages.now c.args.address) (take_all c.loop-done.done c.args.bytes.now c.loop-done-test.false)

pub returns-in_err-write-clause-part : goal.returns-in_err-write-clause-part
returns-in_err-write-clause-part c =
    on_err c.from_residual.result (c.loop-done.done, c.loop-done.invariant.within, c.in_err-write.ensures.err ∙ c.loop-done.invariant.written)

pub returns-in_err-write-clause-ready : goal.returns-in_err-write-clause-ready
returns-in_err-write-clause-ready c =
    let done = c.loop-done.done in
    let number = (c.args.address + done) / 4096 in
    let now_unready = unready_of (is_ready (get c.loop-done.pages number)) (λ ready. let failed : false ≡ true = c.in_err-write.ensures.ready ready in absurd (cc)) in
    let unready = unready-with_bytes (take done c.args.bytes.now) c.args.pages.now c.args.address number
    (ap (λ m. is_ready (get m number)) (sym c.loop-done.invariant.written) ∙ now_unready) in
    on_err c.from_residual.result (are_ready-not c.args.pages.now done (length c.args.bytes.now) c.args.address (omega arith) unready)

pub returns-in_err-write-clause-valid : goal.returns-in_err-write-clause-valid
returns-in_err-write-clause-valid c =
    λ valid. subst IsValid (sym (c.in_err-write.ensures.err ∙ c.loop-done.invariant.written))
    (valid-with_bytes _ _ _ valid (take_are_bytes c.loop-done.done c.args.bytes.now (λ k. let byte = c.type_inv.bytes k in omega arith)))

pub returns-clause-valid : goal.returns-clause-valid
returns-clause-valid c =
    λ valid. subst IsValid (sym c.loop-done.invariant.written)
    (valid-with_bytes _ _ _ valid (take_are_bytes c.loop-done.done c.args.bytes.now (λ k. let byte = c.type_inv.bytes k in omega arith)))

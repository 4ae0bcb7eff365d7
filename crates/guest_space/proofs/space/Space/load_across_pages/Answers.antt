use Rattle.std.proofs.Common.{◌≡◌, ap, sym, ◌∙◌, length, Ok, Err, [], ◌∷◌}
use Rattle.std.proofs.lemmas.List.{length-take-le}
use Rattle.std.proofs.lemmas.Result.{err_from_is_err_and}
use Rattle.byteorder.specs.Endian.{big_number}
use Rattle.guest_space.specs.declared.access.Access.TheVariants.{Load}
use Rattle.guest_space.specs.Access.{first_denied, unless_denied}
use Rattle.guest_space.specs.Bytes.{read, bytes_at}
use Rattle.guest_space.proofs.ByteLemmas.{length-bytes_at}
use Rattle.guest_space.proofs.Numbers.{denied_same, not_denied}
use Rattle.guest_space.proofs.space.Space.load_across_pages.Goals as goal

pub returns-in_err-copy_in-clause-value : goal.returns-in_err-copy_in-clause-value
unfolding read
returns-in_err-copy_in-clause-value c =
    let pages = c.args.self.now.pages in
    let size = length-take-le c.args.n (0 ∷ 0 ∷ 0 ∷ 0 ∷ []) c.requires.high in
    let p = err_from_is_err_and c.from_residual.result c.from_residual.ensures.1 in
    p.1 ∙ ap Err p.2
    ∙ denied_same (first_denied Load pages c.args.address c.args.n) tt _ _
    (c.in_err-copy_in.ensures.answer ∙ ap (λ n. unless_denied (first_denied Load pages c.args.address n) tt) size)

pub returns-clause-value : goal.returns-clause-value
unfolding read
returns-clause-value c =
    let pages = c.args.self.now.pages in
    let size = length-take-le c.args.n (0 ∷ 0 ∷ 0 ∷ 0 ∷ []) c.requires.high in
    let answer = c.in_ok-copy_in.ensures.answer ∙ ap (λ n. unless_denied (first_denied Load pages c.args.address n) tt) size in
    let buf = c.in_ok-copy_in.ensures.ok ∙ ap (bytes_at pages c.args.address) size in
    let long : length c.copy_in.new.buf ≡ c.args.n = ap length buf ∙ length-bytes_at pages c.args.n c.args.address in
    ap Ok (c.number.ensures.value ∙ ap (λ n. big_number n c.copy_in.new.buf) long ∙ ap (big_number c.args.n) buf)
    ∙ ap (λ o. unless_denied o (big_number c.args.n (bytes_at pages c.args.address c.args.n))) (sym (not_denied _ tt _ answer))

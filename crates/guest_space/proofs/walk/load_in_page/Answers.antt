use Rattle.std.proofs.Common.{◌≡◌, ◌+◌, ◌-◌, ◌%◌, ap, sym, ◌∙◌, arith, refl, Ok, take, drop}
use Rattle.byteorder.specs.Endian.{big_number}
use Rattle.guest_space.specs.declared.access.Access.TheVariants.{Load}
use Rattle.guest_space.specs.Access.{unless_denied}
use Rattle.guest_space.specs.Bytes.{bytes_at}
use Rattle.guest_space.proofs.Prefixes.{first_denied-same, first_denied-page, first_denied-zero, first_denied-here}
use Rattle.guest_space.proofs.ByteLemmas.{bytes_at-page}
use Rattle.guest_space.proofs.walk.load_in_page.Goals as goal

pub returns-in-Ok-clause-value : goal.returns-in-Ok-clause-value
returns-in-Ok-clause-value c =
    let pages = c.args.pages.now in
    let address = c.args.address in
    let n = c.args.n in
    let place = address % 4096 in
    let exact : place + n - place ≡ n = omega arith in
    let piece =
    ap (λ k. take k (drop place c.in-Ok.page.now.bytes)) exact
    ∙ sym (bytes_at-page pages address n c.in-Ok.page.now c.in-Ok.ensures.allowed.1 c.requires.room c.number_in_page.ensures.whole) in
    let free =
    first_denied-same Load pages {a = address} {b = address} {m = n} {n = n + 0} refl (omega arith)
    ∙ first_denied-page Load pages address n 0 c.in-Ok.ensures.allowed.0 c.requires.room
    ∙ first_denied-zero Load pages (address + n) in
    ap Ok (c.number_in_page.ensures.value ∙ ap (big_number n) piece)
    ∙ ap (λ o. unless_denied o (big_number n (bytes_at pages address n))) (sym free)

pub returns-in-Err-clause-value : goal.returns-in-Err-clause-value
returns-in-Err-clause-value c =
    let pages = c.args.pages.now in
    let number = big_number c.args.n (bytes_at pages c.args.address c.args.n) in
    ap (λ o. unless_denied o number) (sym (first_denied-here Load pages c.args.address c.args.n c.in-Err.why c.in-Err.ensures.refused (omega arith)))

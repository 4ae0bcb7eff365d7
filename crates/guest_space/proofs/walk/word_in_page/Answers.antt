use Rattle.std.proofs.Common.{◌≡◌, ◌+◌, ◌-◌, ◌%◌, ap, sym, ◌∙◌, arith, refl, Ok, take, drop}
use Rattle.byteorder.specs.Endian.{big_number}
use Rattle.guest_space.specs.declared.access.Access.TheVariants.{Load}
use Rattle.guest_space.specs.Access.{unless_denied}
use Rattle.guest_space.specs.Bytes.{bytes_at}
use Rattle.guest_space.proofs.Prefixes.{first_denied-same, first_denied-page, first_denied-zero}
use Rattle.guest_space.proofs.CodePages.{bytes_at-shown}
use Rattle.guest_space.proofs.walk.word_in_page.Goals as goal

pub returns : goal.returns
returns c =
    let pages = c.args.pages.now in
    let address = c.args.address in
    let bytes = c.args.bytes.now in
    let place = address % 4096 in
    let exact : place + 4 - place ≡ 4 = omega arith in
    let piece =
    ap (λ k. take k (drop place bytes)) exact
    ∙ sym (bytes_at-shown pages address 4 bytes c.requires.usable c.requires.there c.requires.room c.word_at.ensures.whole) in
    let free =
    first_denied-same Load pages {a = address} {b = address} {m = 4} {n = 4 + 0} refl (omega arith)
    ∙ first_denied-page Load pages address 4 0 c.requires.usable c.requires.room
    ∙ first_denied-zero Load pages (address + 4) in
    sym (ap Ok (c.word_at.ensures.value ∙ ap (big_number 4) piece)
    ∙ ap (λ o. unless_denied o (big_number 4 (bytes_at pages address 4))) (sym free))

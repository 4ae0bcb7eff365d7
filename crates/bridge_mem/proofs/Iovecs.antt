-- The structures of a vector, one behind the other, and the words of one.
use Rattle.std.proofs.Common.{ℕ, suc, ◌≡◌, ◌+◌, ◌*◌, ◌≤◌, List, [], ◌∷◌, ◌++◌, append_assoc, append-nil, Option, Some, None, Ok, Err, refl, sym, ap, ◌∙◌, arith}
use Rattle.byteorder.specs.Endian.{big_number}
use Rattle.guest_space.specs.Access.{first_denied, unless_denied, user_end}
use Rattle.guest_space.specs.Bytes.{bytes_at, read}
use Rattle.guest_space.specs.Memory.{Memory}
use Rattle.guest_space.specs.declared.access.Access.TheVariants.{Load}
use Rattle.guest_space.specs.declared.access.Denied.{Denied}
use Rattle.guest_space.proofs.ByteLemmas.{bytes_at-append, bytes_at-zero}
use Rattle.guest_space.proofs.Prefixes.{none_denied-within, first_denied-zero}
use Rattle.kernel_core.specs.declared.error.Errno.TheVariants.{EFAULT}
use Rattle.kernel_model.specs.Came.{Given}
use Rattle.kernel_model.specs.Shared.{Errno}
use Rattle.layouts.specs.O32.{iovec}
use Rattle.o32_model.specs.GuestBytes.{given, structure, read_as, ranges_in}
use Rattle.o32_model.specs.declared.range.Range.{Range}
use Rattle.bridge_mem.specs.inside.Ranges.{word_in, range_in}
use Rattle.bridge_mem.proofs.Denials.{first_or, denied-join}

-- Words

value_go : (o : Option Denied) (word : ℕ) (bytes : List ℕ) → Ok word ≡ unless_denied o (big_number 4 bytes) → Ok word ≡ read_as word_in (given o bytes)
value_go None word bytes is = let e : word ≡ big_number 4 bytes = cc in ap Ok e
value_go (Some denied) word bytes is = absurd (cc)

err_go : (o : Option Denied) (denied : Denied) (bytes : List ℕ) → Err denied ≡ unless_denied o (big_number 4 bytes) → Err EFAULT ≡ read_as word_in (given o bytes)
err_go None denied bytes is = absurd (cc)
err_go (Some other) denied bytes is = refl

none_go : (o : Option Denied) (word : ℕ) (bytes : List ℕ) → Ok word ≡ unless_denied o (big_number 4 bytes) → o ≡ None
none_go None word bytes is = refl
none_go (Some denied) word bytes is = absurd (cc)

module _ (memory : Memory) (at : ℕ) where
  pub word-value : (word : ℕ) → Ok word ≡ read memory at 4 → Ok word ≡ read_as word_in (structure memory at 4)
  unfolding read
  word-value word is = value_go (first_denied Load memory.pages at 4) word (bytes_at memory.pages at 4) is

  pub word-error : (denied : Denied) → Err denied ≡ read memory at 4 → Err EFAULT ≡ read_as word_in (structure memory at 4)
  unfolding read
  word-error denied is = err_go (first_denied Load memory.pages at 4) denied (bytes_at memory.pages at 4) is

  pub word-inside : (word : ℕ) → Ok word ≡ read memory at 4 → at + 4 ≤ user_end
  unfolding read
  word-inside word is = none_denied-within Load memory.pages 4 at (none_go (first_denied Load memory.pages at 4) word (bytes_at memory.pages at 4) is) (omega arith)

-- Two structures, one behind the other

abbrev pub range_of_words : ℕ → ℕ → Range
range_of_words address length = record { address = address; length = length }

-- what is read of the first, and then of the second
abbrev pub both : {A B C : Type 0} → (A → B → C) → Given A → Given B → Given C
both join (Err error) second = Err error
both join (Ok first) second = read_as (join first) second

given-both : {A B C : Type 0} (of : List ℕ → C) (first : List ℕ → A) (second : List ℕ → B) (join : A → B → C) (o p : Option Denied) (xs ys : List ℕ)
    → of (xs ++ ys) ≡ join (first xs) (second ys)
    → read_as of (given (first_or o p) (xs ++ ys)) ≡ both join (read_as first (given o xs)) (read_as second (given p ys))
given-both of first second join None None xs ys is = ap Ok is
given-both of first second join None (Some denied) xs ys is = refl
given-both of first second join (Some denied) p xs ys is = refl

module _ (memory : Memory) (at : ℕ) where
  structure-join : (k n : ℕ) → structure memory at (k + n) ≡ given (first_or (first_denied Load memory.pages at k) (first_denied Load memory.pages (at + k) n)) (bytes_at memory.pages at k ++ bytes_at memory.pages (at + k) n)
  structure-join k n = λ i. given (denied-join Load memory.pages k n at i) (bytes_at-append memory.pages k n at i)

  words-range : (ys : List ℕ) → range_in (bytes_at memory.pages at 4 ++ ys) ≡ range_of_words (word_in (bytes_at memory.pages at 4)) (word_in ys)
  unfolding bytes_at
  words-range ys = refl

  -- a buffer is the one of its words
  pub range-both : read_as range_in (structure memory at iovec.size) ≡ both range_of_words (read_as word_in (structure memory at 4)) (read_as word_in (structure memory (at + 4) 4))
  range-both =
      ap (read_as range_in) (structure-join 4 4)
      ∙ given-both range_in word_in word_in range_of_words _ _ (bytes_at memory.pages at 4) (bytes_at memory.pages (at + 4) 4) (words-range (bytes_at memory.pages (at + 4) 4))

  first-range : (more : ℕ) (ys : List ℕ) → ranges_in (suc more) (bytes_at memory.pages at 8 ++ ys) ≡ range_in (bytes_at memory.pages at 8) ∷ ranges_in more ys
  unfolding bytes_at
  first-range more ys = refl

  -- the buffers of a vector are its first one and those of the vector behind it
  pub ranges-both : (more : ℕ) → read_as (ranges_in (suc more)) (structure memory at (suc more * iovec.size))
      ≡ both (λ range ranges. range ∷ ranges) (read_as range_in (structure memory at iovec.size)) (read_as (ranges_in more) (structure memory (at + iovec.size) (more * iovec.size)))
  ranges-both more =
      (λ i. read_as (ranges_in (suc more)) (structure memory at (let e : suc more * 8 ≡ 8 + more * 8 = omega arith in e i)))
      ∙ ap (read_as (ranges_in (suc more))) (structure-join 8 (more * 8))
      ∙ given-both (ranges_in (suc more)) range_in (ranges_in more) (λ range ranges. range ∷ ranges) _ _ (bytes_at memory.pages at 8) (bytes_at memory.pages (at + 8) (more * 8))
      (first-range more (bytes_at memory.pages (at + 8) (more * 8)))

-- The buffers that were read so far, with those of so many structures to come

abbrev pub with_more : Memory → ℕ → ℕ → List Range → Given (List Range)
with_more memory at left pushed = read_as (λ more. pushed ++ more) (read_as (ranges_in left) (structure memory at (left * iovec.size)))

nothing_before : (g : Given (List Range)) → read_as (λ more. [] ++ more) g ≡ g
nothing_before (Err error) = refl
nothing_before (Ok ranges) = refl

pushed_one : (pushed : List Range) (range : Range) (g : Given (List Range)) → read_as (λ more. pushed ++ more) (read_as (λ ranges. range ∷ ranges) g) ≡ read_as (λ more. (pushed ++ range ∷ []) ++ more) g
pushed_one pushed range (Err error) = refl
pushed_one pushed range (Ok ranges) = ap Ok (sym (append_assoc pushed (range ∷ []) ranges))

module _ (memory : Memory) where
  same_more : {at to left rest : ℕ} (pushed : List Range) → at ≡ to → left ≡ rest → with_more memory at left pushed ≡ with_more memory to rest pushed
  same_more pushed p q = λ i. with_more memory (p i) (q i) pushed

  pub with_more-all : (at to left count : ℕ) (pushed : List Range) → at ≡ to → left ≡ count → pushed ≡ []
      → with_more memory at left pushed ≡ read_as (ranges_in count) (structure memory to (count * iovec.size))
  with_more-all at to left count pushed p q empty =
      same_more pushed p q ∙ ap (with_more memory to count) empty ∙ nothing_before (read_as (ranges_in count) (structure memory to (count * iovec.size)))

  pub with_more-none : (at left : ℕ) (pushed : List Range) → left ≡ 0 → with_more memory at left pushed ≡ Ok pushed
  with_more-none at left pushed none =
      same_more {at = at} {to = at} pushed refl none
      ∙ (λ i. read_as (λ more. pushed ++ more) (read_as (ranges_in 0) (given (first_denied-zero Load memory.pages at i) (bytes_at-zero memory.pages at i))))
      ∙ ap Ok (append-nil pushed)

  pub with_more-step : (at to left rest : ℕ) (pushed after : List Range) (range : Range) → to ≡ at + iovec.size → left ≡ suc rest
      → Ok range ≡ read_as range_in (structure memory at iovec.size) → after ≡ pushed ++ range ∷ []
      → with_more memory to rest after ≡ with_more memory at left pushed
  with_more-step at to left rest pushed after range p q is pushes =
      same_more after p refl
      ∙ ap (with_more memory (at + iovec.size) rest) pushes
      ∙ sym (pushed_one pushed range (read_as (ranges_in rest) (structure memory (at + iovec.size) (rest * iovec.size))))
      ∙ ap (read_as (λ more. pushed ++ more)) (sym (ranges-both memory at rest
      ∙ ap (λ g. both (λ range ranges. range ∷ ranges) g (read_as (ranges_in rest) (structure memory (at + iovec.size) (rest * iovec.size)))) (sym is)))
      ∙ same_more pushed refl (sym q)

  pub with_more-error : (at left rest : ℕ) (pushed : List Range) (error : Errno) → left ≡ suc rest
      → Err error ≡ read_as range_in (structure memory at iovec.size) → Err error ≡ with_more memory at left pushed
  with_more-error at left rest pushed error q is =
      ap (read_as (λ more. pushed ++ more)) (sym (ranges-both memory at rest
      ∙ ap (λ g. both (λ range ranges. range ∷ ranges) g (read_as (ranges_in rest) (structure memory (at + iovec.size) (rest * iovec.size)))) (sym is)))
      ∙ same_more pushed refl (sym q)

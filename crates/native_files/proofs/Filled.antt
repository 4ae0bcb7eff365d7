-- A buffer after a read into it.
use Rattle.std.proofs.Common.{◌≡◌, ℕ, ◌≤◌, List, ◌++◌, length, take, drop, min, Option, None, Some, Result, Ok, Err, sym, ap, subst, ◌∙◌, arith, IfOk, append_assoc, length-append, length-drop}
use Rattle.std.proofs.lemmas.List.{drop-append-le, length-take, length-take-le, take-append-drop, take_min, drop_min}
use Rattle.kernel_core.specs.declared.error.Errno.{Errno}
use Rattle.kernel_model.specs.Came.{Came, Done, Refused, Waits, Did, came_as}
use Rattle.kernel_model.specs.State.{Files}
use Rattle.kernel_model.specs.Transfers.{Reading}
use Rattle.native_files.specs.Answers.{HasRead, ReadsSo, came_of, filled}

-- the first of some bytes, as many as are there

module _ (bytes buffer : List ℕ) (count most : ℕ) (is : count ≡ min most (length bytes)) where
  same_take : take count bytes ≡ take most bytes
  same_take = ap (λ n. take n bytes) is ∙ take_min most bytes

  pub count-taken : count ≡ length (take most bytes)
  count-taken = is ∙ sym (length-take most bytes)

  pub left-taken : drop count bytes ≡ drop most bytes
  left-taken = ap (λ n. drop n bytes) is ∙ drop_min most bytes

  pub buffer-taken : take count bytes ++ drop count buffer ≡ take most bytes ++ drop (length (take most bytes)) buffer
  buffer-taken = (λ i. same_take i ++ drop (count-taken i) buffer)

pub ruleset taken = (count-taken, left-taken, buffer-taken)

-- The first bytes of a buffer are lent.

drop_front : (old : List ℕ) (n most : ℕ) → n ≤ most → most ≤ length old → drop n (take most old) ++ drop most old ≡ drop n old
drop_front old n most within small =
    let whole : length (take most old) ≡ most = length-take-le most old small in
    sym (drop-append-le n (take most old) (drop most old) (omega (arith, within, whole))) ∙ ap (drop n) (take-append-drop most old)

module _ (old front : List ℕ) (most : ℕ) (small : most ≤ length old) (size : length front ≡ length (take most old)) where
  long : length front ≡ most
  long = size ∙ length-take-le most old small

  pub filled-front : (came : Came (List ℕ)) → front ≡ filled (take most old) came → front ++ drop most old ≡ filled old came
  filled-front (Done bytes) is =
      let count = ap length is ∙ length-append bytes (drop (length bytes) (take most old)) in
      let rest = length-drop (length bytes) (take most old) in
      let within : length bytes ≤ most = omega (arith, count, rest, long) in
      ap (λ l. l ++ drop most old) is
      ∙ append_assoc bytes (drop (length bytes) (take most old)) (drop most old)
      ∙ ap (λ l. bytes ++ l) (drop_front old (length bytes) most within small)
  filled-front (Refused error) is = ap (λ l. l ++ drop most old) is ∙ take-append-drop most old
  filled-front (Waits wake) is = ap (λ l. l ++ drop most old) is ∙ take-append-drop most old

  pub within-front : (result : Result ℕ Errno) (came : Came (List ℕ)) → came_of result ≡ came_as length came → front ≡ filled (take most old) came
      → IfOk result (λ count. count ≤ most)
  within-front (Ok count) (Done bytes) same is =
      let number : count ≡ length bytes = cc in
      let whole = ap length is ∙ length-append bytes (drop (length bytes) (take most old)) in
      omega (arith, number, whole, long)
  within-front (Ok count) (Refused error) same is = absurd (cc)
  within-front (Ok count) (Waits wake) same is = absurd (cc)
  within-front (Err error) came same is = tt

  -- a read into them is a read into the buffer
  pub reads-front : (step : ℕ → Did Reading (List ℕ)) (came : Option (Came ℕ)) (files : Files) (before after : Option (List ℕ))
      → ReadsSo (step (length (take most old))) came files before after (take most old) front → ReadsSo (step most) came files before after old (front ++ drop most old)
  reads-front step None files before after same = same
  reads-front step (Some came) files before after read =
      subst (λ n. HasRead (step n) came files after old (front ++ drop most old)) (length-take-le most old small)
      (record {
        answered = read.answered;
        became = read.became;
        rest = read.rest;
        stored = filled-front (step (length (take most old))).came read.stored;
      })

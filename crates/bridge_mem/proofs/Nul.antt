-- The first NUL of bytes that are looked at piece by piece.
use Rattle.std.proofs.Common.{ℕ, ◌≡◌, ◌+◌, ◌-◌, ◌≤◌, ◌<◌, Bool, true, false, not, cond, List, ◌++◌, length, take, Option, Some, None, Ok, Err, nat_lt, nat_eq, refl, sym, ap, subst, ◌∙◌, arith, append_assoc, position, is_some, unwrap_or}
use Rattle.std.specs.List.{position_or_len}
use Rattle.std.proofs.Math.Seq.{take-append-add}
use Rattle.std.proofs.lemmas.Bool.Decides.{nat_tests}
use Rattle.std.proofs.lemmas.List.{take-append-le, length-append, length-take-le, get_or-take, take_all}
use Rattle.std.proofs.lemmas.List.Sums.{prefix_len-le-length, position_or_len_is}
use Rattle.std.proofs.lemmas.List.Folds.{prefix_len-append}
use Rattle.std.proofs.lemmas.List.Quantifiers.{position-Some}
use Rattle.guest_space.specs.Access.{readable_prefix}
use Rattle.guest_space.specs.Bytes.{bytes_at}
use Rattle.guest_space.specs.Memory.{Memory}
use Rattle.guest_space.proofs.ByteLemmas.{bytes_at-append, bytes_at-same, length-bytes_at}
use Rattle.guest_space.proofs.Uses.{readable_prefix-le}
use Rattle.kernel_core.specs.declared.error.Errno.TheVariants.{EFAULT, ENAMETOOLONG}
use Rattle.bridge_mem.specs.Paths.{IsPathAnswer}
use Rattle.bridge_mem.specs.declared.paths.PathError.{PathError}
use Rattle.bridge_mem.specs.declared.paths.PathError.TheVariants.{TooLong, Fault}
use Rattle.o32_model.specs.Paths.{path_at, path_in, is_nul, path_limit}

-- a place, or none where it is the end
abbrev place_in : ℕ → ℕ → Option ℕ
place_in place end = cond (nat_lt place end) (Some place) None

none-end : (n m : ℕ) → n ≤ m → place_in n m ≡ None → n ≡ m
none-end n m le none = grind (arith, nat_tests)

end-none : (n m : ℕ) → n ≡ m → place_in n m ≡ None
end-none n m is = grind (arith, nat_tests)

some-place : (n m k : ℕ) → place_in n m ≡ Some k → n ≡ k
some-place n m k some = grind (arith, nat_tests)

some-below : (n m k : ℕ) → place_in n m ≡ Some k → n < m
some-below n m k some = grind (arith, nat_tests)

below-some : (n m k : ℕ) → n ≡ k → n < m → place_in n m ≡ Some k
below-some n m k is below = grind (arith, nat_tests)

at_end : (n m a b : ℕ) → n ≡ m → cond (nat_eq n m) a b ≡ a
at_end n m a b is = grind (arith, nat_tests)

before_end : (n m a b : ℕ) → n < m → cond (nat_eq n m) a b ≡ b
before_end n m a b below = grind (arith, nat_tests)

module _ {X : Type 0} (p : X → Bool) where
  -- none in the first piece: the place in the second is counted on
  pub position-after : (xs ys : List X) (k : ℕ) → position p xs ≡ None → position p ys ≡ Some k → position p (xs ++ ys) ≡ Some (length xs + k)
  position-after xs ys k none some =
      let all = none-end (position_or_len p xs) (length xs) (prefix_len-le-length (λ x. not (p x)) xs) none in
      let at = some-place (position_or_len p ys) (length ys) k some in
      let below = some-below (position_or_len p ys) (length ys) k some in
      let whole = prefix_len-append (λ x. not (p x)) xs ys ∙ at_end _ _ _ _ all in
      below-some (position_or_len p (xs ++ ys)) (length (xs ++ ys)) (length xs + k) (whole ∙ ap (λ n. length xs + n) at)
      (omega (arith, whole, length-append xs ys))

  pub position-neither : (xs ys : List X) → position p xs ≡ None → position p ys ≡ None → position p (xs ++ ys) ≡ None
  position-neither xs ys none neither =
      let all = none-end (position_or_len p xs) (length xs) (prefix_len-le-length (λ x. not (p x)) xs) none in
      let rest = none-end (position_or_len p ys) (length ys) (prefix_len-le-length (λ x. not (p x)) ys) neither in
      let whole = prefix_len-append (λ x. not (p x)) xs ys ∙ at_end _ _ _ _ all in
      end-none (position_or_len p (xs ++ ys)) (length (xs ++ ys)) (whole ∙ ap (λ n. length xs + n) rest ∙ sym (length-append xs ys))

  -- the place in the first piece stays
  pub position-front : (xs ys : List X) (k : ℕ) → position p xs ≡ Some k → position p (xs ++ ys) ≡ Some k
  position-front xs ys k some =
      let at = some-place (position_or_len p xs) (length xs) k some in
      let below = some-below (position_or_len p xs) (length xs) k some in
      let whole = prefix_len-append (λ x. not (p x)) xs ys ∙ before_end _ _ _ _ below in
      below-some (position_or_len p (xs ++ ys)) (length (xs ++ ys)) k (whole ∙ at) (omega (arith, whole, length-append xs ys))

  -- none stands before the first
  pub position-before : (xs : List X) (k : ℕ) (d : X) → position p xs ≡ Some k → position p (take k xs) ≡ None
  position-before xs k d some =
      let found = position-Some p xs k d some in
      let long = length-take-le k xs (omega (arith, found.0)) in
      end-none (position_or_len p (take k xs)) (length (take k xs))
      (position_or_len_is p (take k xs) k d (omega (arith, long)) (λ j below. ap p (get_or-take k xs j d below) ∙ found.2 j below) (λ below. absurd (omega (arith, long)))
      ∙ sym long)

  pub position-bound : (xs : List X) (k : ℕ) → position p xs ≡ Some k → k < length xs
  position-bound xs k some = omega (arith, some-below (position_or_len p xs) (length xs) k some, some-place (position_or_len p xs) (length xs) k some)

module _ (memory : Memory) (addr room : ℕ) (readable : room ≡ readable_prefix memory.pages addr path_limit) where
  -- a NUL in the piece of `size` bytes behind `len` others that have none
  pub path-found : (len size k : ℕ) (front : List ℕ) → len + size ≤ room → front ≡ bytes_at memory.pages addr len → position is_nul front ≡ None
      → position is_nul (bytes_at memory.pages (addr + len) size) ≡ Some k
      → path_at memory addr ≡ Ok (front ++ take k (bytes_at memory.pages (addr + len) size))
  unfolding path_at
  path-found len size k front within is none some =
      let piece = bytes_at memory.pages (addr + len) size in
      let rest = bytes_at memory.pages (addr + (len + size)) (room - (len + size)) in
      let long = position-bound is_nul piece k some in
      let count : readable_prefix memory.pages addr path_limit ≡ len + size + (room - (len + size)) = omega (arith, readable) in
      let parts : bytes_at memory.pages addr (readable_prefix memory.pages addr path_limit) ≡ (front ++ piece) ++ rest =
      bytes_at-same memory.pages {a = addr} {b = addr} refl count
      ∙ bytes_at-append memory.pages (len + size) (room - (len + size)) addr
      ∙ ap (λ s. s ++ rest) (bytes_at-append memory.pages len size addr ∙ ap (λ s. s ++ piece) (sym is)) in
      let at : position is_nul ((front ++ piece) ++ rest) ≡ Some (length front + k) =
      position-front is_nul (front ++ piece) rest (length front + k) (position-after is_nul front piece k none some) in
      (λ i. path_in (parts i) (position is_nul (parts i)))
      ∙ ap (path_in ((front ++ piece) ++ rest)) at
      ∙ ap Ok (ap (take (length front + k)) (append_assoc front piece rest) ∙ take-append-add front (piece ++ rest) k
      ∙ ap (λ s. front ++ s) (take-append-le k piece rest (omega (arith, long))))

  -- no NUL in all that can be read
  pub path-none : (bytes : List ℕ) → bytes ≡ bytes_at memory.pages addr room → position is_nul bytes ≡ None
      → path_at memory addr ≡ Err (cond (nat_eq room path_limit) ENAMETOOLONG EFAULT)
  unfolding path_at
  path-none bytes is none =
      let all : bytes_at memory.pages addr (readable_prefix memory.pages addr path_limit) ≡ bytes = bytes_at-same memory.pages refl (sym readable) ∙ sym is in
      let long : length bytes ≡ room = ap length is ∙ length-bytes_at memory.pages room addr in
      (λ i. path_in (all i) (position is_nul (all i)))
      ∙ ap (path_in bytes) none
      ∙ ap (λ n. Err (cond (nat_eq n path_limit) ENAMETOOLONG EFAULT)) long

  -- what a piece of `size` bytes behind `len` others adds, up to its first NUL at `place`
  module _ (len size a : ℕ) (front after : List ℕ) (place : Option ℕ) (within : len + size ≤ room) (at : a ≡ addr + len)
      (is : front ≡ bytes_at memory.pages addr len) (none : position is_nul front ≡ None) (found : position is_nul (bytes_at memory.pages a size) ≡ place)
      (text : after ≡ front ++ take (unwrap_or place size) (bytes_at memory.pages a size)) where
    limit : room ≤ path_limit
    limit = omega (arith, readable, readable_prefix-le memory.pages path_limit addr)

    there : bytes_at memory.pages a size ≡ bytes_at memory.pages (addr + len) size
    there = bytes_at-same memory.pages at refl

    long : length front ≡ len
    long = ap length is ∙ length-bytes_at memory.pages len addr

    pub found-path : is_some place ≡ true → path_at memory addr ≡ Ok after
    found-path some = by_place place found text some
      where
        by_place : (o : Option ℕ) → position is_nul (bytes_at memory.pages a size) ≡ o → after ≡ front ++ take (unwrap_or o size) (bytes_at memory.pages a size)
            → is_some o ≡ true → path_at memory addr ≡ Ok after
        by_place None found text some = absurd (cc)
        by_place (Some k) found text some =
            path-found len size k front within is none (ap (position is_nul) (sym there) ∙ found)
            ∙ ap Ok (ap (λ s. front ++ take k s) (sym there) ∙ sym text)

    pub found-short : is_some place ≡ true → length after < path_limit
    found-short some = by_place place found text some
      where
        by_place : (o : Option ℕ) → position is_nul (bytes_at memory.pages a size) ≡ o → after ≡ front ++ take (unwrap_or o size) (bytes_at memory.pages a size)
            → is_some o ≡ true → length after < path_limit
        by_place None found text some = absurd (cc)
        by_place (Some k) found text some =
            let piece = bytes_at memory.pages a size in
            let below = position-bound is_nul piece k found in
            let size_is : length piece ≡ size = length-bytes_at memory.pages size a in
            let added : length (take k piece) ≡ k = length-take-le k piece (omega arith) in
            let sum : length after ≡ length front + length (take k piece) = ap length text ∙ length-append front (take k piece) in
            omega (arith, limit, long)

    pub found-plain : is_some place ≡ true → position is_nul after ≡ None
    found-plain some = by_place place found text some
      where
        by_place : (o : Option ℕ) → position is_nul (bytes_at memory.pages a size) ≡ o → after ≡ front ++ take (unwrap_or o size) (bytes_at memory.pages a size)
            → is_some o ≡ true → position is_nul after ≡ None
        by_place None found text some = absurd (cc)
        by_place (Some k) found text some =
            ap (position is_nul) text
            ∙ position-neither is_nul front (take k (bytes_at memory.pages a size)) none (position-before is_nul (bytes_at memory.pages a size) k 0 found)

    pub more-first : is_some place ≡ false → after ≡ bytes_at memory.pages addr (len + size)
    more-first nowhere = by_place place found text nowhere
      where
        by_place : (o : Option ℕ) → position is_nul (bytes_at memory.pages a size) ≡ o → after ≡ front ++ take (unwrap_or o size) (bytes_at memory.pages a size)
            → is_some o ≡ false → after ≡ bytes_at memory.pages addr (len + size)
        by_place (Some k) found text nowhere = absurd (cc)
        by_place None found text nowhere =
            let piece = bytes_at memory.pages a size in
            let all : take size piece ≡ piece = take_all size piece (omega (arith, length-bytes_at memory.pages size a)) in
            text ∙ (λ i. is i ++ all i) ∙ ap (λ s. bytes_at memory.pages addr len ++ s) there ∙ sym (bytes_at-append memory.pages len size addr)

    pub more-plain : is_some place ≡ false → position is_nul after ≡ None
    more-plain nowhere = by_place place found text nowhere
      where
        by_place : (o : Option ℕ) → position is_nul (bytes_at memory.pages a size) ≡ o → after ≡ front ++ take (unwrap_or o size) (bytes_at memory.pages a size)
            → is_some o ≡ false → position is_nul after ≡ None
        by_place (Some k) found text nowhere = absurd (cc)
        by_place None found text nowhere =
            let piece = bytes_at memory.pages a size in
            let all : take size piece ≡ piece = take_all size piece (omega (arith, length-bytes_at memory.pages size a)) in
            ap (position is_nul) (text ∙ ap (λ s. front ++ s) all) ∙ position-neither is_nul front piece none found

-- the error tells why there is no path
pub without-path : (memory : Memory) (addr room : ℕ) (error : PathError) → room ≡ readable_prefix memory.pages addr path_limit
    → (bytes : List ℕ) → bytes ≡ bytes_at memory.pages addr room → position is_nul bytes ≡ None
    → error ≡ cond (nat_eq room path_limit) TooLong Fault → IsPathAnswer (path_at memory addr) (Err error)
without-path memory addr room error readable bytes is none why =
    subst (λ e. IsPathAnswer (path_at memory addr) (Err e)) (sym why) (by_test (nat_eq room path_limit) (path-none memory addr room readable bytes is none))
  where
    by_test : (b : Bool) → path_at memory addr ≡ Err (cond b ENAMETOOLONG EFAULT) → IsPathAnswer (path_at memory addr) (Err (cond b TooLong Fault))
    by_test true is = is
    by_test false is = is

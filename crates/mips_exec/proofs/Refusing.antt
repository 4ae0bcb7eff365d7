-- Why an aligned word may not be stored to.
use Rattle.std.specs.FinMap.{get}
use Rattle.std.proofs.Common.{ℕ, ◌⊎◌, inl, inr, ◌+◌, ◌/◌, ◌%◌, ◌<◌, ◌≡◌, ◌≢◌, ◌∙◌, ap, refl, arith, Bool, true, false, not, Option, Some, None, Ok, Err, nat_le, ◌==◌, if◌then◌else◌}
use Rattle.guest_space.specs.declared.access.Access.{Access}
use Rattle.guest_space.specs.declared.access.Access.TheVariants.{Load, Store}
use Rattle.guest_space.specs.declared.access.Why.{Why}
use Rattle.guest_space.specs.declared.access.Why.TheVariants.{Forbidden, Beyond}
use Rattle.guest_space.specs.declared.access.Denied.{Denied}
use Rattle.guest_space.specs.Access.{refusal, page_refusal, user_end, first_denied, denied_or, writable_prefix, bytes_before, unless_denied}
use Rattle.guest_space.specs.Bytes.{read}
use Rattle.guest_space.specs.Memory.{Memory, Pages, MappedPage}

-- the bytes of an aligned word stand in one page
same_refusal : (use_ : Access) (pages : Pages) (a i : ℕ) → a % 4 ≡ 0 → i < 4 →
    refusal use_ pages (a + i) ≡ refusal use_ pages a
unfolding refusal
same_refusal use_ pages a i h k =
    let page : (a + i) / 4096 ≡ a / 4096 = omega arith in
    let beyond : nat_le user_end (a + i) ≡ nat_le user_end a = grind arith in
    rw (page, beyond) refl

same_answer : (r : Option Why) (a b c d : ℕ) →
    denied_or a r (denied_or b r (denied_or c r (denied_or d r None))) ≡ denied_or a r None
same_answer None a b c d = refl
same_answer (Some why) a b c d = refl

-- the first byte of an aligned word is the first that is denied
first_denied_word : (use_ : Access) (pages : Pages) (a : ℕ) → a % 4 ≡ 0 →
    first_denied use_ pages a 4 ≡ denied_or a (refusal use_ pages a) None
unfolding first_denied
first_denied_word use_ pages a h =
    let one : refusal use_ pages (a + 1) ≡ refusal use_ pages a = same_refusal use_ pages a 1 h (omega arith) in
    let two : refusal use_ pages (a + 1 + 1) ≡ refusal use_ pages a = ap (refusal use_ pages) (omega arith) ∙ same_refusal use_ pages a 2 h (omega arith) in
    let three : refusal use_ pages (a + 1 + 1 + 1) ≡ refusal use_ pages a = ap (refusal use_ pages) (omega arith) ∙ same_refusal use_ pages a 3 h (omega arith) in
    rw (one, two, three) (same_answer (refusal use_ pages a) a (a + 1) (a + 1 + 1) (a + 1 + 1 + 1))

none_denied : (r : Option Why) (a : ℕ) → bytes_before a 4 (denied_or a r None) ≡ 4 → None ≡ denied_or a r None
none_denied None a w = refl
none_denied (Some why) a w = absurd (omega (arith, w))

-- a word whose four bytes may be stored to has none that is denied
pub first_denied_of_writable : (pages : Pages) (a : ℕ) → a % 4 ≡ 0 → writable_prefix pages a 4 ≡ 4 →
    None ≡ first_denied Store pages a 4
unfolding writable_prefix
first_denied_of_writable pages a h w =
    let e = first_denied_word Store pages a h in
    rw e (none_denied (refusal Store pages a) a (rw e at w))

may_be_loaded : (r : Option Why) (a n v : ℕ) → Ok n ≡ unless_denied (denied_or a r None) v → r ≡ None
may_be_loaded None a n v h = refl
may_be_loaded (Some why) a n v h = cc

-- by the protection alone, and by the page
by_protection : (protection : ℕ) →
    ((if protection / 2 % 2 == 1 then None else Some Forbidden) ≡ None) ⊎ ((if protection / 2 % 2 == 1 then None else Some Forbidden) ≡ Some Forbidden)
by_protection protection =
    elim (protection / 2 % 2 == 1) as (λ b. ((if b then None else Some Forbidden) ≡ None) ⊎ ((if b then None else Some Forbidden) ≡ Some Forbidden)) [ true ↦ inl refl | false ↦ inr refl ]

store_refusal_of_loaded : (b : Bool) (page : Option MappedPage) → (if b then Some Beyond else page_refusal Load page) ≡ None →
    ((if b then Some Beyond else page_refusal Store page) ≡ None) ⊎ ((if b then Some Beyond else page_refusal Store page) ≡ Some Forbidden)
store_refusal_of_loaded true page h = cc
store_refusal_of_loaded false None h = cc
store_refusal_of_loaded false (Some page) h = by_protection page.protection

forbidden_word : (r : Option Why) (a : ℕ) → (r ≡ None) ⊎ (r ≡ Some Forbidden) → bytes_before a 4 (denied_or a r None) ≢ 4 →
    Some (record { addr = a; why = Forbidden }) ≡ denied_or a r None
forbidden_word r a (inl e) w = absurd (w (rw e refl))
forbidden_word r a (inr e) w = rw e refl

-- a byte that may be loaded is denied to a store by its protection alone
pub first_denied_of_loaded : (m : Memory) (a n : ℕ) → a % 4 ≡ 0 → writable_prefix m.pages a 4 ≢ 4 → Ok n ≡ read m a 1 →
    Some (record { addr = a; why = Forbidden }) ≡ first_denied Store m.pages a 4
unfolding writable_prefix read refusal first_denied
first_denied_of_loaded m a n h w r =
    let e = first_denied_word Store m.pages a h in
    let loaded : refusal Load m.pages a ≡ None = may_be_loaded (refusal Load m.pages a) a n _ r in
    let why = store_refusal_of_loaded (nat_le user_end a) (get m.pages (a / 4096)) loaded in
    rw e (forbidden_word (refusal Store m.pages a) a why (rw e at w))

may_not_be_loaded : (r : Option Why) (a v : ℕ) (d : Denied) → Err d ≡ unless_denied (denied_or a r None) v → r ≡ Some d.why
may_not_be_loaded None a v d h = cc
may_not_be_loaded (Some why) a v d h = cc

is_forbidden : (none : Bool) (why : Why) → (if not none then None else Some Forbidden) ≡ Some why → (none ≡ true) × (Some Forbidden ≡ Some why)
is_forbidden true why h = (refl, h)
is_forbidden false why h = cc

no_protection : (protection : ℕ) (why : Why) → (if not (protection == 0) then None else Some Forbidden) ≡ Some why →
    (if protection / 2 % 2 == 1 then None else Some Forbidden) ≡ Some why
no_protection protection why h =
    let f = is_forbidden (protection == 0) why h in
    let none : protection ≡ 0 = grind (arith, f.0) in
    rw none f.1

store_refusal_of_denied : (b : Bool) (page : Option MappedPage) (why : Why) →
    (if b then Some Beyond else page_refusal Load page) ≡ Some why → (if b then Some Beyond else page_refusal Store page) ≡ Some why
store_refusal_of_denied true page why h = h
store_refusal_of_denied false None why h = h
store_refusal_of_denied false (Some page) why h = no_protection page.protection why h

-- a byte that may not be loaded is denied to a store for the same reason
pub first_denied_of_denied : (m : Memory) (a : ℕ) (d : Denied) → a % 4 ≡ 0 → Err d ≡ read m a 1 →
    Some (record { addr = a; why = d.why }) ≡ first_denied Store m.pages a 4
unfolding read refusal first_denied
first_denied_of_denied m a d h r =
    let e = first_denied_word Store m.pages a h in
    let loaded : refusal Load m.pages a ≡ Some d.why = may_not_be_loaded (refusal Load m.pages a) a _ d r in
    let why : refusal Store m.pages a ≡ Some d.why = store_refusal_of_denied (nat_le user_end a) (get m.pages (a / 4096)) d.why loaded in
    rw (e, why) refl

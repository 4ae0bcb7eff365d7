-- The program break after a wish.
use Rattle.std.proofs.Common.{◌≡◌, ◌≤◌, ◌<◌, ◌+◌, ◌-◌, ℕ, Bool, true, false, cond, eqb, leb, ◌&&◌, ◌||◌, refl, sym, ap, ◌∙◌, arith}
use Rattle.std.proofs.lemmas.Bool.Decides.{nat_tests}
use Rattle.std.specs.FinMap.{len}
use Rattle.guest_space.specs.Memory.{Pages, Memory}
use Rattle.guest_space.specs.Mapping.{absent_count, page_limit, with_zeros}
use Rattle.guest_space.specs.Places.{IsFree}
use Rattle.guest_space.specs.Remapping.{without}
use Rattle.guest_space.specs.Break.{may_add, may_break, pages_between, pages_up_to, with_break, break_end}
use Rattle.guest_space.proofs.MappingLemmas.{with_zeros-none}
use Rattle.guest_space.proofs.Ranges.{absent-free, free-absent, without-none}

never : (b : Bool) → b && false ≡ false
never true = refl
never false = refl

module _ (pages : Pages) (first count : ℕ) where
  pub may_add-none : count ≡ 0 → may_add pages first count ≡ true
  may_add-none none =
      let zero_pages : eqb count 0 ≡ true = grind (arith, nat_tests) in
      ap (λ b. b || (eqb (absent_count pages first count) count && leb (len pages + count) page_limit)) zero_pages

  some_pages : 0 < count → may_add pages first count ≡ eqb (absent_count pages first count) count && leb (len pages + count) page_limit
  some_pages some =
      let not_zero : eqb count 0 ≡ false = grind (arith, nat_tests) in
      ap (λ b. b || (eqb (absent_count pages first count) count && leb (len pages + count) page_limit)) not_zero

  pub may_add-too_many : 0 < count → 131072 < len pages + count → may_add pages first count ≡ false
  may_add-too_many some many =
      let past : leb (len pages + count) page_limit ≡ false = grind (arith, nat_tests) in
      some_pages some
      ∙ ap (λ b. eqb (absent_count pages first count) count && b) past
      ∙ never (eqb (absent_count pages first count) count)

  pub may_add-taken : 0 < count → (IsFree pages first count → ⊥) → may_add pages first count ≡ false
  may_add-taken some taken =
      some_pages some ∙ ap (λ b. b && leb (len pages + count) page_limit) (by_test (eqb (absent_count pages first count) count) refl)
    where
      by_test : (b : Bool) → eqb (absent_count pages first count) count ≡ b → eqb (absent_count pages first count) count ≡ false
      by_test true all = absurd (taken (absent-free pages first count (let e : absent_count pages first count ≡ count = grind (arith, nat_tests) in e)))
      by_test false some = some

  pub may_add-all : 0 < count → (131072 < len pages + count → ⊥) → IsFree pages first count → may_add pages first count ≡ true
  may_add-all some room free =
      let all : eqb (absent_count pages first count) count ≡ true = let same = free-absent pages first count free in grind (arith, nat_tests) in
      let within : leb (len pages + count) page_limit ≡ true = let few : len pages + count ≤ 131072 = omega (arith, room) in grind (arith, nat_tests) in
      some_pages some
      ∙ ap (λ b. b && leb (len pages + count) page_limit) all
      ∙ within

module _ (pages : Pages) (from to : ℕ) where
  -- a break that does not grow
  pub between-less : pages_up_to to ≤ pages_up_to from → without pages (pages_up_to to) (pages_up_to from - pages_up_to to) ≡ pages_between pages from to
  between-less less =
      let none : pages_up_to to - pages_up_to from ≡ 0 = omega arith in
      sym (ap (λ n. with_zeros (without pages (pages_up_to to) (pages_up_to from - pages_up_to to)) (pages_up_to from) n 3) none
      ∙ with_zeros-none (without pages (pages_up_to to) (pages_up_to from - pages_up_to to)) (pages_up_to from) 3)

  -- and one that grows
  pub between-more : pages_up_to from ≤ pages_up_to to → with_zeros pages (pages_up_to from) (pages_up_to to - pages_up_to from) 3 ≡ pages_between pages from to
  between-more more =
      let none : pages_up_to from - pages_up_to to ≡ 0 = omega arith in
      sym (ap (λ m. with_zeros m (pages_up_to from) (pages_up_to to - pages_up_to from) 3)
      (ap (without pages (pages_up_to to)) none ∙ without-none pages (pages_up_to to)))

module _ (pages : Pages) (from start to : ℕ) where
  stays : may_break (record { pages = pages; program_break = from; break_start = start }) to ≡ false
      → ◌≡◌ {A = Memory} (record { pages = pages; program_break = from; break_start = start }) (with_break (record { pages = pages; program_break = from; break_start = start }) to)
  unfolding with_break
  stays may =
      let before : Memory = record { pages = pages; program_break = from; break_start = start } in
      sym (ap (λ b. cond b (record before { pages = pages_between pages from to; program_break = to }) before) may)

  pub break-below : to < start
      → ◌≡◌ {A = Memory} (record { pages = pages; program_break = from; break_start = start }) (with_break (record { pages = pages; program_break = from; break_start = start }) to)
  break-below below =
      let low : leb start to ≡ false = grind (arith, nat_tests) in
      stays (ap (λ b. b && leb to break_end && may_add pages (pages_up_to from) (pages_up_to to - pages_up_to from)) low)

  pub break-above : break_end < to
      → ◌≡◌ {A = Memory} (record { pages = pages; program_break = from; break_start = start }) (with_break (record { pages = pages; program_break = from; break_start = start }) to)
  break-above above =
      let high : leb to break_end ≡ false = grind (arith, nat_tests) in
      stays (ap (λ b. leb start to && b && may_add pages (pages_up_to from) (pages_up_to to - pages_up_to from)) high
      ∙ ap (λ b. b && may_add pages (pages_up_to from) (pages_up_to to - pages_up_to from)) (never (leb start to)))

  may_break-is : start ≤ to → to ≤ break_end → (moved : Bool) → moved ≡ may_add pages (pages_up_to from) (pages_up_to to - pages_up_to from)
      → may_break (record { pages = pages; program_break = from; break_start = start }) to ≡ moved
  may_break-is low high moved is =
      let first : leb start to ≡ true = grind (arith, nat_tests) in
      let second : leb to break_end ≡ true = grind (arith, nat_tests) in
      (λ i. first i && second i && sym is i)

  by_test : (b : Bool) → ◌≡◌ {A = Memory} (record { pages = cond b (pages_between pages from to) pages; program_break = cond b to from; break_start = start })
      (cond b (record { pages = pages_between pages from to; program_break = to; break_start = start }) (record { pages = pages; program_break = from; break_start = start }))
  by_test true = refl
  by_test false = refl

  pub break-moved : (after : Pages) (moved : Bool) → start ≤ to → to ≤ break_end → moved ≡ may_add pages (pages_up_to from) (pages_up_to to - pages_up_to from)
      → after ≡ cond moved (pages_between pages from to) pages
      → ◌≡◌ {A = Memory} (record { pages = after; program_break = cond moved to from; break_start = start }) (with_break (record { pages = pages; program_break = from; break_start = start }) to)
  unfolding with_break
  break-moved after moved low high is now =
      let before : Memory = record { pages = pages; program_break = from; break_start = start } in
      (λ i. record { pages = now i; program_break = cond moved to from; break_start = start })
      ∙ by_test moved
      ∙ sym (ap (λ b. cond b (record before { pages = pages_between pages from to; program_break = to }) before) (may_break-is low high moved is))

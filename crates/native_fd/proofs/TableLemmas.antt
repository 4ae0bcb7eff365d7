-- The descriptions that live, after each change of the descriptors.
use Rattle.std.proofs.Common.{◌≡◌, ◌≢◌, ℕ, ◌+◌, ◌<◌, Bool, true, false, cond, ◌==◌, nat_lt, List, length, set, Option, Some, None, refl, sym, ap, subst, ◌∙◌, inl, inr, arith}
use Rattle.std.specs.Prelude.{is_some, option_map, unwrap_or}
use Rattle.std.specs.List.{list_any}
use Rattle.std.proofs.Math.ListN.{length-set}
use Rattle.std.proofs.lemmas.Bool.{cases_eq, cases_lt}
use Rattle.std.proofs.lemmas.Bool.Decides.{nat_tests}
use Rattle.std.proofs.lemmas.List.{get_or_past, get_or-set_same, get_or-set_other, set-get_or, set_past}
use Rattle.kernel_model.specs.Always.{IsTable}
use Rattle.kernel_model.specs.Begin.{free_places}
use Rattle.kernel_model.specs.State.{Descriptors}
use Rattle.std.proofs.lemmas.Option.{same_Some}
use Rattle.kernel_model.specs.Table.{slot, new_place, leads_to, number_at, closed, closed_at, last_at, last_description, set_cloexec}
use Rattle.kernel_model.specs.declared.descriptor.Descriptor.{Descriptor}
use Rattle.native_fd.specs.inside.Links.{AreLive, IsUnused, leading, left_alone}
use Rattle.native_fd.proofs.LinkLemmas.{new, one, slot-free, length-free, leading-free, leading-set, leading-any, leading-some}
use Rattle.native_fd.proofs.LowestLemmas.{lowest_free-is}

module _ {A : Type 0} where
  pub AreLive-none : AreLive {A = A} (free_places 1024) (free_places 1024)
  AreLive-none = record {
    sized = length-free A 1024;
    lives = λ number. ap (λ o. is_some o) (slot-free 1024 number) ∙ ap (λ n. nat_lt 0 n) (sym (leading-free 1024 number));
  }

  -- a closed descriptor is free
  pub closed-free : (table : Descriptors A) (fd : ℕ) → slot (closed table fd).fds fd ≡ None
  unfolding closed
  closed-free table fd = by (slot table.fds fd) refl
    where
      gone : slot (set table.fds fd None) fd ≡ None
      gone = elim (cases_lt fd (length table.fds)) [
        | inl within ↦ get_or-set_same table.fds fd None None within
        | inr past ↦ get_or_past (set table.fds fd None) fd None (omega (arith, length-set table.fds fd None, past))
      ]

      by : (o : Option Descriptor) → slot table.fds fd ≡ o → slot (closed_at table fd (option_map (λ d. d.number) o)).fds fd ≡ None
      by None free = free
      by (Some d) at = gone

  -- the number of an open descriptor is that of a description that lives
  pub number-lives : (table : Descriptors A) → IsTable table → (fd number : ℕ) → number_at table fd ≡ Some number → is_some (slot table.live number) ≡ true
  number-lives table valid fd number is = by (slot table.fds fd) refl is
    where
      by : (o : Option Descriptor) → slot table.fds fd ≡ o → option_map (λ d. d.number) o ≡ Some number → is_some (slot table.live number) ≡ true
      by None at is = absurd (cc)
      by (Some d) at is = subst (λ n. is_some (slot table.live n) ≡ true) (same_Some d.number number is) (valid.leads fd d at)

  pub number-small : (table : Descriptors A) → IsTable table → (fd number : ℕ) → number_at table fd ≡ Some number → number < 1024
  number-small table valid fd number is = elim (cases_lt number 1024) [
    | inl within ↦ within
    | inr past ↦ absurd (let bad : true ≡ false = sym (number-lives table valid fd number is) ∙ ap (λ o. is_some o) (get_or_past table.live number None (omega (arith, valid.live, past))) in cc)
  ]

  nothing : (o : Option A) → is_some o ≡ false → o ≡ None
  nothing None e = refl
  nothing (Some x) e = absurd (cc)

  module _ (fds : List (Option Descriptor)) (live : List (Option A)) (are : AreLive fds live) where
    pub live_some : (number : ℕ) → 0 < leading fds number → is_some (slot live number) ≡ true
    live_some number some = are.lives number ∙ grind (arith, nat_tests)

    pub leading-lives : (number : ℕ) → is_some (slot live number) ≡ true → 0 < leading fds number
    leading-lives number lives = let t : nat_lt 0 (leading fds number) ≡ true = sym (are.lives number) ∙ lives in grind (arith, nat_tests)

    pub number-free : (number : ℕ) → IsUnused fds number → slot live number ≡ None
    number-free number unused = nothing _ (are.lives number ∙ ap (λ n. nat_lt 0 n) unused.none)

    -- the least number that no descriptor leads to is the least place without a description
    pub new_place-unused : (number : ℕ) → IsUnused fds number → new_place live ≡ number
    new_place-unused number unused =
        let none = number-free number unused in
        ap (λ o. unwrap_or o (length live)) (lowest_free-is live 0 number (omega arith) (omega (arith, are.sized, unused.small)) none
        (λ lower _ below. live_some lower (unused.below lower below)))

    -- a new description at the number of a new descriptor
    pub AreLive-inserted : (fd number : ℕ) (item : A) → fd < length fds → slot fds fd ≡ None → number < 1024 → AreLive (set fds fd (Some (new number))) (set live number (Some item))
    AreLive-inserted fd number item within free small = record {
      sized = length-set live number _ ∙ are.sized;
      lives = λ n. elim (cases_eq n number) [
        | inl here ↦ ap (λ k. is_some (slot (set live number (Some item)) k)) here ∙ ap (λ o. is_some o) (get_or-set_same live number (Some item) None (omega (arith, are.sized, small)))
            ∙ (let some : 0 < leading (set fds fd (Some (new number))) number = more in let t : true ≡ nat_lt 0 (leading (set fds fd (Some (new number))) number) = grind (arith, nat_tests) in t)
            ∙ ap (λ k. nat_lt 0 (leading (set fds fd (Some (new number))) k)) (sym here)
        | inr apart ↦ ap (λ o. is_some o) (get_or-set_other live number n (Some item) None apart) ∙ are.lives n ∙ ap (λ k. nat_lt 0 k) (sym (alike n apart))
      ];
    }
      where
        lead : (n : ℕ) → leading (set fds fd (Some (new number))) n + 0 ≡ leading fds n + one (number == n)
        lead n = ap (λ o. leading (set fds fd (Some (new number))) n + one (leads_to n o)) (sym free) ∙ leading-set fds fd n (Some (new number)) within

        more : 0 < leading (set fds fd (Some (new number))) number
        more =
            let same : (number == number) ≡ true = grind (arith, nat_tests) in
            let e = lead number ∙ ap (λ b. leading fds number + one b) same in omega (arith, e)

        alike : (n : ℕ) → n ≢ number → leading (set fds fd (Some (new number))) n ≡ leading fds n
        alike n apart =
            let other : (number == n) ≡ false = grind (arith, nat_tests) in
            let e = lead n ∙ ap (λ b. leading fds n + one b) other in omega (arith, e)

    -- another descriptor of a description that is there
    pub AreLive-shared : (fd number : ℕ) → fd < length fds → slot fds fd ≡ None → 0 < leading fds number → AreLive (set fds fd (Some (new number))) live
    AreLive-shared fd number within free some = record {
      sized = are.sized;
      lives = λ n. are.lives n ∙ same n;
    }
      where
        lead : (n : ℕ) → leading (set fds fd (Some (new number))) n + 0 ≡ leading fds n + one (number == n)
        lead n = ap (λ o. leading (set fds fd (Some (new number))) n + one (leads_to n o)) (sym free) ∙ leading-set fds fd n (Some (new number)) within

        both : {m k : ℕ} → 0 < m → 0 < k → nat_lt 0 m ≡ nat_lt 0 k
        both p q = grind (arith, nat_tests)

        same : (n : ℕ) → nat_lt 0 (leading fds n) ≡ nat_lt 0 (leading (set fds fd (Some (new number))) n)
        same n =
            elim (cases_eq n number) [
              | inl here ↦
                  let there : 0 < leading fds n = subst (λ k. 0 < leading fds k) (sym here) some in
                  let e = lead n in
                  both there (omega (arith, e, there))
              | inr apart ↦
                  let other : (number == n) ≡ false = grind (arith, nat_tests) in
                  let e = lead n ∙ ap (λ b. leading fds n + one b) other in
                  ap (λ k. nat_lt 0 k) (let s : leading fds n ≡ leading (set fds fd (Some (new number))) n = omega (arith, e) in s)
            ]

    -- the description changes that is there
    pub AreLive-changed : (number : ℕ) (item : A) → 0 < leading fds number → AreLive fds (set live number (Some item))
    AreLive-changed number item some = record {
      sized = length-set live number _ ∙ are.sized;
      lives = λ n. elim (cases_eq n number) [
        | inl here ↦ ap (λ k. is_some (slot (set live number (Some item)) k)) here ∙ there ∙ sym (ap (λ k. nat_lt 0 (leading fds k)) here ∙ (let t : nat_lt 0 (leading fds number) ≡ true = grind (arith, nat_tests) in t))
        | inr apart ↦ ap (λ o. is_some o) (get_or-set_other live number n (Some item) None apart) ∙ are.lives n
      ];
    }
      where
        within : number < length live
        within = elim (cases_lt number (length live)) [
          | inl inside ↦ inside
          | inr past ↦ absurd (let bad : true ≡ false = sym (live_some number some) ∙ ap (λ o. is_some o) (get_or_past live number None past) in cc)
        ]

        there : is_some (slot (set live number (Some item)) number) ≡ true
        there = ap (λ o. is_some o) (get_or-set_same live number (Some item) None within)

    -- A descriptor is closed.
    module _ (fd : ℕ) where
      without_none : slot fds fd ≡ None → set fds fd None ≡ fds
      without_none free = ap (λ o. set fds fd o) (sym free) ∙ set-get_or fds fd None

      module _ (descriptor : Descriptor) (at : slot fds fd ≡ Some descriptor) where
        inside : fd < length fds
        inside = elim (cases_lt fd (length fds)) [
          | inl within ↦ within
          | inr past ↦ absurd (let bad : None ≡ Some descriptor = sym (get_or_past fds fd None past) ∙ at in cc)
        ]

        lead_less : (n : ℕ) → leading (set fds fd None) n + one (descriptor.number == n) ≡ leading fds n
        lead_less n =
            ap (λ o. leading (set fds fd None) n + one (leads_to n o)) (sym at)
            ∙ leading-set fds fd n None inside
            ∙ (let e : leading fds n + 0 ≡ leading fds n = omega arith in e)

        less_here : leading (set fds fd None) descriptor.number + 1 ≡ leading fds descriptor.number
        less_here =
            let same : (descriptor.number == descriptor.number) ≡ true = grind (arith, nat_tests) in
            ap (λ b. leading (set fds fd None) descriptor.number + one b) (sym same) ∙ lead_less descriptor.number

        same_else : (n : ℕ) → n ≢ descriptor.number → leading (set fds fd None) n ≡ leading fds n
        same_else n apart =
            let other : (descriptor.number == n) ≡ false = grind (arith, nat_tests) in
            let e = ap (λ b. leading (set fds fd None) n + one b) (sym other) ∙ lead_less n in omega (arith, e)

        any_left : list_any (leads_to descriptor.number) (set fds fd None) ≡ nat_lt 0 (leading (set fds fd None) descriptor.number)
        any_left = leading-any (set fds fd None) descriptor.number

        live_shared : list_any (leads_to descriptor.number) (set fds fd None) ≡ true → AreLive (set fds fd None) live
        live_shared any = record {
          sized = are.sized;
          lives = λ n. are.lives n ∙ elim (cases_eq n descriptor.number) [
            | inl here ↦
                let before : 0 < leading fds descriptor.number = omega (arith, less_here) in
                let t : nat_lt 0 (leading fds descriptor.number) ≡ true = grind (arith, nat_tests) in
                ap (λ k. nat_lt 0 (leading fds k)) here ∙ t ∙ sym (sym any_left ∙ any) ∙ ap (λ k. nat_lt 0 (leading (set fds fd None) k)) (sym here)
            | inr apart ↦ ap (λ k. nat_lt 0 k) (sym (same_else n apart))
          ];
        }

        live_last : list_any (leads_to descriptor.number) (set fds fd None) ≡ false → AreLive (set fds fd None) (set live descriptor.number None)
        live_last none = record {
          sized = length-set live descriptor.number _ ∙ are.sized;
          lives = λ n. elim (cases_eq n descriptor.number) [
            | inl here ↦ ap (λ k. is_some (slot (set live descriptor.number None) k)) here ∙ gone ∙ sym (sym any_left ∙ none) ∙ ap (λ k. nat_lt 0 (leading (set fds fd None) k)) (sym here)
            | inr apart ↦ ap (λ o. is_some o) (get_or-set_other live descriptor.number n None None apart) ∙ are.lives n ∙ ap (λ k. nat_lt 0 k) (sym (same_else n apart))
          ];
        }
          where
            gone : is_some (slot (set live descriptor.number None) descriptor.number) ≡ false
            gone = elim (cases_lt descriptor.number (length live)) [
              | inl within ↦ ap (λ o. is_some o) (get_or-set_same live descriptor.number None None within)
              | inr past ↦ ap (λ o. is_some o) (get_or_past (set live descriptor.number None) descriptor.number None (omega (arith, length-set live descriptor.number None, past)))
            ]

      -- the table that is seen, after some other descriptor is left
      kept_table : (o : Option Descriptor) → slot fds fd ≡ o → left_alone fds fd o ≡ None
          → (closed_at (record { fds = fds; live = live }) fd (option_map (λ d. d.number) o) ≡ record { fds = set fds fd None; live = live })
          × (last_at (record { fds = fds; live = live }) fd (option_map (λ d. d.number) o) ≡ None)
          × AreLive (set fds fd None) live
      kept_table None free alone =
          (ap (λ f. record { fds = f; live = live }) (sym (without_none free)), refl, subst (λ f. AreLive f live) (sym (without_none free)) are)
      kept_table (Some d) at alone = by (list_any (leads_to d.number) (set fds fd None)) refl alone
        where
          by : (b : Bool) → list_any (leads_to d.number) (set fds fd None) ≡ b → cond b None (Some d.number) ≡ None
              → (closed_at (record { fds = fds; live = live }) fd (Some d.number) ≡ record { fds = set fds fd None; live = live })
              × (last_at (record { fds = fds; live = live }) fd (Some d.number) ≡ None)
              × AreLive (set fds fd None) live
          by true any left =
              (ap (λ b. record { fds = set fds fd None; live = cond b live (set live d.number None) }) any, ap (λ b. cond b None (slot live d.number)) any, live_shared d at any)
          by false any left = absurd (cc)

      last_table : (o : Option Descriptor) (number : ℕ) → slot fds fd ≡ o → left_alone fds fd o ≡ Some number
          → (closed_at (record { fds = fds; live = live }) fd (option_map (λ d. d.number) o) ≡ record { fds = set fds fd None; live = set live number None })
          × (last_at (record { fds = fds; live = live }) fd (option_map (λ d. d.number) o) ≡ slot live number)
          × AreLive (set fds fd None) (set live number None)
      last_table None number free alone = absurd (cc)
      last_table (Some d) number at alone = by (list_any (leads_to d.number) (set fds fd None)) refl alone
        where
          by : (b : Bool) → list_any (leads_to d.number) (set fds fd None) ≡ b → cond b None (Some d.number) ≡ Some number
              → (closed_at (record { fds = fds; live = live }) fd (Some d.number) ≡ record { fds = set fds fd None; live = set live number None })
              × (last_at (record { fds = fds; live = live }) fd (Some d.number) ≡ slot live number)
              × AreLive (set fds fd None) (set live number None)
          by true any left = absurd (cc)
          by false any left =
              let same : d.number ≡ number = same_Some d.number number left in (
                ap (λ b. record { fds = set fds fd None; live = cond b live (set live d.number None) }) any ∙ ap (λ n. record { fds = set fds fd None; live = set live n None }) same,
                ap (λ b. cond b None (slot live d.number)) any ∙ ap (slot live) same,
                subst (λ n. AreLive (set fds fd None) (set live n None)) same (live_last d at any),
              )

      -- some other descriptor leads to the description, or the descriptor was not open
      module _ (alone : left_alone fds fd (slot fds fd) ≡ None) where
        pub closed-kept : closed (record { fds = fds; live = live }) fd ≡ record { fds = set fds fd None; live = live }
        unfolding closed
        closed-kept = (kept_table (slot fds fd) refl alone).0

        pub last-kept : last_description (record { fds = fds; live = live }) fd ≡ None
        unfolding last_description
        last-kept = (kept_table (slot fds fd) refl alone).1

        pub AreLive-kept : AreLive (set fds fd None) live
        AreLive-kept = (kept_table (slot fds fd) refl alone).2

      -- the descriptor was the last one
      module _ (number : ℕ) (alone : left_alone fds fd (slot fds fd) ≡ Some number) where
        pub closed-last : closed (record { fds = fds; live = live }) fd ≡ record { fds = set fds fd None; live = set live number None }
        unfolding closed
        closed-last = (last_table (slot fds fd) number refl alone).0

        pub last-gone : last_description (record { fds = fds; live = live }) fd ≡ slot live number
        unfolding last_description
        last-gone = (last_table (slot fds fd) number refl alone).1

        pub AreLive-last : AreLive (set fds fd None) (set live number None)
        AreLive-last = (last_table (slot fds fd) number refl alone).2

    -- another close-on-exec
    pub AreLive-cloexec : (fd : ℕ) (on : Bool) → AreLive (set fds fd (option_map (set_cloexec on) (slot fds fd))) live
    AreLive-cloexec fd on = record { sized = are.sized; lives = λ n. are.lives n ∙ ap (λ k. nat_lt 0 k) (sym (same n)) }
      where
        alike : (o : Option Descriptor) (n : ℕ) → leads_to n (option_map (set_cloexec on) o) ≡ leads_to n o
        alike None n = refl
        alike (Some d) n = refl

        same : (n : ℕ) → leading (set fds fd (option_map (set_cloexec on) (slot fds fd))) n ≡ leading fds n
        same n = elim (cases_lt fd (length fds)) [
          | inl within ↦
              let e = leading-set fds fd n (option_map (set_cloexec on) (slot fds fd)) within in
              let f : one (leads_to n (option_map (set_cloexec on) (slot fds fd))) ≡ one (leads_to n (slot fds fd)) = ap one (alike (slot fds fd) n) in
              omega (arith, e, f)
          | inr past ↦ ap (λ l. leading l n) (set_past fds fd _ past)
        ]

    -- what a table always is
    pub IsTable-links : length fds ≡ 1024 → IsTable (record { fds = fds; live = live })
    IsTable-links long = record {
      fds = long;
      live = are.sized;
      leads = λ fd descriptor at. live_some descriptor.number (leading-some fds fd descriptor at);
      used = λ number some. leading-any fds number ∙ sym (are.lives number) ∙ some;
    }

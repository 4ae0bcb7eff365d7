-- What descriptors lead to after they are closed and duplicated.
use Rattle.std.proofs.Common.{◌≡◌, ◌≢◌, ℕ, ◌<◌, length, Bool, true, false, refl, sym, ◌∙◌, ap, subst, arith}
use Rattle.std.specs.Prelude.{Option, Some, None, option_and_then, option_map, unwrap_or, nat_le, ◌==◌, if◌then◌else◌}
use Rattle.std.specs.List.{list_any}
use Rattle.std.proofs.lemmas.Bool.{eq-eqb, eqb-true, leb-false}
use Rattle.std.proofs.lemmas.List.{get_or-set_other, get_or-set_same, length-set}
use Rattle.std.proofs.lemmas.List.Folds.{list_any_at}
use Rattle.kernel_core.specs.declared.error.Errno.TheVariants.{EBADF}
use Rattle.kernel_laws.proofs.CloseKept.{after_close_table, closed_free}
use Rattle.kernel_laws.proofs.Lists.{same}
use Rattle.kernel_laws.proofs.Says.{Says, choice_says, says}
use Rattle.kernel_model.proofs.Described.{within}
use Rattle.kernel_model.proofs.LeastFree.{least_free}
use Rattle.kernel_model.specs.Came.{Done, done, with_some}
use Rattle.kernel_model.specs.DescriptorRows.{after_close, after_duplicate, after_duplicate_onto, close, duplicate, duplicate_onto, duplicate_onto_with}
use Rattle.kernel_model.specs.Descriptions.{opened}
use Rattle.kernel_model.specs.State.{Descriptors, Files}
use Rattle.kernel_model.specs.Table.{closed, closed_at, description_at, descriptor_limit, leads_to, lowest_free, number_at, shared_at, slot, with_slot}
use Rattle.kernel_model.specs.declared.descriptor.Descriptor.{Descriptor}
use Rattle.kernel_model.specs.declared.descriptor.Description.{Description}

-- A closed descriptor leads nowhere.

number_of : (found : Option Descriptor) (number : ℕ) → option_map (λ d. d.number) found ≡ Some number
    → (descriptor : Descriptor) × (found ≡ Some descriptor) × (descriptor.number ≡ number)
number_of None number e = absurd cc
number_of (Some descriptor) number e = (descriptor, refl, ap (λ o. unwrap_or o number) e)

open_descriptor : (table : Descriptors Description) (fd : ℕ) (description : Description) → description_at table fd ≡ Some description
    → (number : ℕ) × (number_at table fd ≡ Some number) × (slot table.live number ≡ Some description)
open_descriptor table fd description e = by (number_at table fd) refl where
  by : (found : Option ℕ) → number_at table fd ≡ found → (number : ℕ) × (number_at table fd ≡ Some number) × (slot table.live number ≡ Some description)
  by None f = absurd (let wrong : None ≡ Some description = sym (ap (λ o. option_and_then (λ n. slot table.live n) o) f) ∙ e in cc)
  by (Some number) f = (number, f, sym (ap (λ o. option_and_then (λ n. slot table.live n) o) f) ∙ e)

module _ (table : Descriptors Description) (fd : ℕ) (description : Description) (open_as : description_at table fd ≡ Some description) where
  is_within : fd < length table.fds
  is_within =
      let number = open_descriptor table fd description open_as in
      let mine = number_of (slot table.fds fd) number.0 number.1 in
      within table.fds fd mine.0 mine.1

  closed_leads_nowhere : description_at (closed table fd) fd ≡ None
  closed_leads_nowhere = ap (λ o. option_and_then (λ n. slot (closed table fd).live n) (option_map (λ d. d.number) o)) (closed_free table fd is_within)

pub close_closes : (files : Files) (fd : ℕ) → opened (close files fd).state fd ≡ None
unfolding close
close_closes files fd = by (opened files fd) refl where
  by : (found : Option Description) → opened files fd ≡ found → opened (with_some {V = Unit {0}} files EBADF found (λ _. done (after_close files fd) tt)).state fd ≡ None
  by None e = e
  by (Some description) e = ap (λ t. description_at t fd) (after_close_table files fd) ∙ closed_leads_nowhere files.table fd description e

-- Other descriptors lead where they led.

module _ (table : Descriptors Description) (onto fd : ℕ) (apart : fd ≢ onto) (description : Description) (open_as : description_at table fd ≡ Some description) where
  mine : (number : ℕ) × (number_at table fd ≡ Some number) × (slot table.live number ≡ Some description)
  mine = open_descriptor table fd description open_as

  abbrev left : ℕ → Bool
  left number = list_any (leads_to number) (with_slot table.fds onto None)

  mine_left : left mine.0 ≡ true
  mine_left =
      let descriptor = number_of (slot table.fds fd) mine.0 mine.1 in
      let there : slot (with_slot table.fds onto None) fd ≡ Some descriptor.0 = get_or-set_other table.fds onto fd None None apart ∙ descriptor.1 in
      list_any_at (leads_to mine.0) (with_slot table.fds onto None) fd None (within (with_slot table.fds onto None) fd descriptor.0 there)
      (ap (λ o. leads_to mine.0 o) there ∙ ap (λ n. n == mine.0) descriptor.2 ∙ same mine.0)

  live_still : (number : ℕ) (b : Bool) → left number ≡ b → slot (if b then table.live else with_slot table.live number None) mine.0 ≡ Some description
  live_still number true e = mine.2
  live_still number false e =
      let other : mine.0 ≢ number = λ s. (let wrong : true ≡ false = sym mine_left ∙ ap left s ∙ e in absurd cc) in
      get_or-set_other table.live number mine.0 None None other ∙ mine.2

  live_closed : slot (closed table onto).live mine.0 ≡ Some description
  unfolding closed
  live_closed = by (number_at table onto) where
    by : (found : Option ℕ) → slot (closed_at table onto found).live mine.0 ≡ Some description
    by None = mine.2
    by (Some number) = live_still number (left number) refl

  number_closed : number_at (closed table onto) fd ≡ Some mine.0
  unfolding closed
  number_closed = by (number_at table onto) where
    by : (found : Option ℕ) → number_at (closed_at table onto found) fd ≡ Some mine.0
    by None = mine.1
    by (Some number) = ap (λ o. option_map (λ d. d.number) o) (get_or-set_other table.fds onto fd None None apart) ∙ mine.1

  others_open : description_at (closed table onto) fd ≡ Some description
  others_open = ap (λ o. option_and_then (λ n. slot (closed table onto).live n) o) number_closed ∙ live_closed

pub close_leaves_others : (files : Files) (onto fd : ℕ) (description : Description) → fd ≢ onto → opened files fd ≡ Some description
    → opened (close files onto).state fd ≡ Some description
unfolding close
close_leaves_others files onto fd description apart open_as = by (opened files onto) where
  by : (found : Option Description) → opened (with_some {V = Unit {0}} files EBADF found (λ _. done (after_close files onto) tt)).state fd ≡ Some description
  by None = open_as
  by (Some other) = ap (λ t. description_at t fd) (after_close_table files onto) ∙ others_open files.table onto fd apart description open_as

-- A duplicate leads where the first does.

closed_long : (table : Descriptors Description) (fd : ℕ) → length (closed table fd).fds ≡ length table.fds
unfolding closed
closed_long table fd = by (number_at table fd) where
  by : (found : Option ℕ) → length (closed_at table fd found).fds ≡ length table.fds
  by None = refl
  by (Some number) = length-set table.fds fd None

module _ (table : Descriptors Description) (fd onto : ℕ) (cloexec : Bool) (description : Description) (open_as : description_at table fd ≡ Some description) (low : onto < length table.fds) where
  shared_open : description_at (shared_at table onto cloexec (number_at table fd)) onto ≡ Some description
  shared_open =
      let number = open_descriptor table fd description open_as in
      ap (λ o. description_at (shared_at table onto cloexec o) onto) number.1
      ∙ ap (λ o. option_and_then (λ n. slot table.live n) (option_map (λ d. d.number) o))
      (get_or-set_same table.fds onto (Some (record { number = number.0; cloexec = cloexec })) None low)
      ∙ number.2

module _ (files : Files) (fd : ℕ) (description : Description) (open_as : opened files fd ≡ Some description) where
  abbrev LeadsThere : Files → ℕ → Type 0
  LeadsThere state new = opened state new ≡ Some description

  duplicate_leads : (cloexec : Bool) (least new : ℕ) → lowest_free files.table.fds least ≡ Some new → LeadsThere (after_duplicate files fd new cloexec) new
  duplicate_leads cloexec least new e = shared_open files.table fd new cloexec description open_as (least_free files.table.fds least new e).within

  duplicate_says : (from : Option ℕ) (cloexec : Bool) → Says LeadsThere (duplicate files fd from cloexec)
  unfolding duplicate
  duplicate_says from cloexec = search (says, duplicate_leads) depth 14

  pub duplicate_leads_there : (from : Option ℕ) (cloexec : Bool) (new : ℕ) → (duplicate files fd from cloexec).came ≡ Done new → opened (duplicate files fd from cloexec).state new ≡ Some description
  duplicate_leads_there from cloexec new e = (duplicate_says from cloexec).said new e

  module _ (long : length files.table.fds ≡ descriptor_limit) (onto : ℕ) where
    onto_leads : (cloexec : Bool) → (fd == onto) ≡ false → nat_le descriptor_limit onto ≡ false → LeadsThere (after_duplicate_onto files fd onto cloexec) onto
    onto_leads cloexec other low =
        let apart : fd ≢ onto = λ e. (let wrong : true ≡ false = sym (eq-eqb fd onto e) ∙ other in absurd cc) in
        let table = after_close_table files onto in
        let still : opened (after_close files onto) fd ≡ Some description = ap (λ t. description_at t fd) table ∙ others_open files.table onto fd apart description open_as in
        let room : onto < length (after_close files onto).table.fds
        = subst (λ t. onto < length t.fds) (sym table) (omega (arith, closed_long files.table onto, long, leb-false descriptor_limit onto low)) in
        shared_open (after_close files onto).table fd onto cloexec description still room

    itself : (fd == onto) ≡ true → LeadsThere files onto
    itself e = subst (λ n. opened files n ≡ Some description) (eqb-true fd onto e) open_as

    onto_says : Says LeadsThere (duplicate_onto files fd onto)
    unfolding duplicate_onto
    onto_says = search (says, choice_says, onto_leads, itself) depth 14

    pub onto_leads_there : (duplicate_onto files fd onto).came ≡ Done onto → opened (duplicate_onto files fd onto).state onto ≡ Some description
    onto_leads_there e = onto_says.said onto e

    onto_with_says : (cloexec : Option Bool) → Says LeadsThere (duplicate_onto_with files fd onto cloexec)
    unfolding duplicate_onto_with
    onto_with_says cloexec = search (says, onto_leads) depth 14

    pub onto_with_leads_there : (cloexec : Option Bool) → (duplicate_onto_with files fd onto cloexec).came ≡ Done onto
        → opened (duplicate_onto_with files fd onto cloexec).state onto ≡ Some description
    onto_with_leads_there cloexec e = (onto_with_says cloexec).said onto e

-- A description that changes, and has the same object open, keeps what files always are.
use Rattle.std.proofs.Common.{◌≡◌, ◌≢◌, ℕ, zero, suc, ◌+◌, ◌<◌, List, [], ◌∷◌, length, get_or, set, Bool, true, false, ◌||◌, refl, sym, ◌∙◌, ap, subst, arith}
use Rattle.std.specs.Prelude.{Option, Some, None, is_some, option_and_then, unwrap_or, count_by, ◌==◌, if◌then◌else◌}
use Rattle.std.specs.List.{list_any}
use Rattle.std.proofs.lemmas.List.{length-set, get_or-set_same, get_or-set_other}
use Rattle.std.proofs.lemmas.List.Sums.{sum_by-set}
use Rattle.kernel_model.specs.Always.{IsFiles, IsTable, IsPipe, IsOpen, any_open, has_open, is_node, is_read_end, is_write_end, fits_object}
use Rattle.kernel_model.specs.Descriptions.{kept_flags, opened}
use Rattle.kernel_model.specs.Pipes.{pipe_at}
use Rattle.kernel_model.specs.State.{Files, Pipe}
use Rattle.kernel_model.specs.Table.{slot, with_slot, number_at, with_description, changed_at}
use Rattle.kernel_model.specs.declared.descriptor.Description.{Description}
use Rattle.kernel_model.specs.declared.descriptor.Object.{Object}

-- Lists of places

same_number : (a b : ℕ) → (a == b) ≡ true → a ≡ b
same_number a b e = grind (arith, e)

other_number : (a b : ℕ) → (a == b) ≡ false → a ≢ b
other_number a b e = grind (arith, e)

-- something stands only within the list
pub within : {A : Type 0} (slots : List (Option A)) (number : ℕ) (item : A) → slot slots number ≡ Some item → number < length slots
within [] number item e = absurd cc
within (s ∷ slots) zero item e = omega arith
within (s ∷ slots) (suc number) item e = omega (arith, within slots number item e)

-- what stands at a place of the list after one of them changed
pub slot_cases : {A : Type 0} (slots : List (Option A)) (at number : ℕ) (content : Option A) → at < length slots
    → (P : Option A → Type 0) → (number ≡ at → P content) → (number ≢ at → P (slot slots number)) → P (slot (with_slot slots at content) number)
slot_cases slots at number content low P here there = by (number == at) refl where
  by : (b : Bool) → (number == at) ≡ b → P (slot (with_slot slots at content) number)
  by true e =
      let same : number ≡ at = same_number number at e in
      subst P (sym (ap (λ n. slot (with_slot slots at content) n) same ∙ get_or-set_same slots at content None low)) (here same)
  by false e =
      let other : number ≢ at = other_number number at e in
      subst P (sym (get_or-set_other slots at number content None other)) (there other)

pub any_set : {A : Type 0} (test : A → Bool) (xs : List A) (i : ℕ) (y d : A) → test y ≡ test (get_or xs i d) → list_any test (set xs i y) ≡ list_any test xs
any_set test [] i y d e = refl
any_set test (x ∷ xs) zero y d e = ap (λ b. b || list_any test xs) e
any_set test (x ∷ xs) (suc i) y d e = ap (λ b. test x || b) (any_set test xs i y d e)

abbrev one_if : Bool → ℕ
one_if b = if b then 1 else 0

pub count_set : {A : Type 0} (test : A → Bool) (xs : List A) (i : ℕ) (y d : A) → i < length xs → test y ≡ test (get_or xs i d) → count_by test (set xs i y) ≡ count_by test xs
count_set test xs i y d low e =
    let sums = sum_by-set (λ x. one_if (test x)) xs i y d low in
    let same : one_if (test y) ≡ one_if (test (get_or xs i d)) = ap one_if e in
    omega (arith, sums, same)

module _ (files : Files) (is : IsFiles files) (number : ℕ) (old item : Description) (there : slot files.table.live number ≡ Some old)
    (same : item.object ≡ old.object) (position : IsOpen files item item.object) (kept : kept_flags item.flags ≡ item.flags)
    (access : item.flags.access ≡ old.flags.access) where
  abbrev changed : Files
  changed = record files { table = record files.table { live = with_slot files.table.live number (Some item) } }

  low : number < length files.table.live
  low = within files.table.live number old there

  has_same : (test : Object → Bool) → has_open test (Some item) ≡ has_open test (slot files.table.live number)
  has_same test = ap test same ∙ ap (λ o. has_open test o) (sym there)

  any_same : (test : Object → Bool) → any_open changed test ≡ any_open files test
  any_same test = any_set (has_open test) files.table.live number (Some item) None (has_same test)

  lives_same : (m : ℕ) → is_some (slot changed.table.live m) ≡ is_some (slot files.table.live m)
  lives_same m =
      slot_cases files.table.live number m (Some item) low (λ o. is_some o ≡ is_some (slot files.table.live m))
      (λ e. sym (ap (λ n. is_some (slot files.table.live n)) e ∙ ap (λ o. is_some o) there)) (λ e. refl)

  table_is : IsTable changed.table
  table_is = record {
    fds = is.table.fds;
    live = length-set files.table.live number (Some item) ∙ is.table.live;
    leads = λ fd descriptor h. lives_same descriptor.number ∙ is.table.leads fd descriptor h;
    used = λ m h. is.table.used m (sym (lives_same m) ∙ h);
  }

  pipe_is : (at : ℕ) (pipe : Pipe) → pipe_at files.flow at ≡ Some pipe → IsPipe changed at pipe
  pipe_is at pipe h =
      let p = is.pipes at pipe h in
      record {
        small = p.small;
        are_bytes = p.are_bytes;
        used = p.used;
        readers = p.readers ∙ sym (any_same (is_read_end at));
        writers = p.writers ∙ sym (any_same (is_write_end at));
      }

  opens_is : (m : ℕ) (description : Description) → slot changed.table.live m ≡ Some description → IsOpen changed description description.object
  opens_is m description h =
      slot_cases files.table.live number m (Some item) low (λ o. o ≡ Some description → IsOpen files description description.object)
      (λ e g. subst (λ d. IsOpen files d d.object) (ap (λ o. unwrap_or o item) g) position)
      (λ e g. is.opens m description g) h

  kept_is : (m : ℕ) (description : Description) → slot changed.table.live m ≡ Some description → kept_flags description.flags ≡ description.flags
  kept_is m description h =
      slot_cases files.table.live number m (Some item) low (λ o. o ≡ Some description → kept_flags description.flags ≡ description.flags)
      (λ e g. subst (λ d. kept_flags d.flags ≡ d.flags) (ap (λ o. unwrap_or o item) g) kept)
      (λ e g. is.kept m description g) h

  fits_is : (m : ℕ) (description : Description) → slot changed.table.live m ≡ Some description → fits_object files.nodes description.flags.access description.object ≡ true
  fits_is m description h =
      slot_cases files.table.live number m (Some item) low (λ o. o ≡ Some description → fits_object files.nodes description.flags.access description.object ≡ true)
      (λ e g. subst (λ d. fits_object files.nodes d.flags.access d.object ≡ true) (ap (λ o. unwrap_or o item) g)
      (ap (λ a. fits_object files.nodes a item.object) access ∙ ap (λ o. fits_object files.nodes old.flags.access o) same ∙ is.fits number old there))
      (λ e g. is.fits m description g) h

  pub changed_is : IsFiles changed
  changed_is = record {
    nodes = is.nodes;
    table = table_is;
    places = is.places;
    pipes = pipe_is;
    moved = is.moved;
    opens = opens_is;
    kept = kept_is;
    fits = fits_is;
    directory = is.directory;
    holds = λ node. is.holds node
        ∙ ap (λ n. n + (if files.directory == node then 1 else 0)) (sym (count_set (has_open (is_node node)) files.table.live number (Some item) None low (has_same (is_node node))));
    umask = is.umask;
  }

-- the same where a descriptor leads to it
pub described_kept : (files : Files) (fd : ℕ) (old item : Description) → IsFiles files → opened files fd ≡ Some old → item.object ≡ old.object
    → IsOpen files item item.object → kept_flags item.flags ≡ item.flags → item.flags.access ≡ old.flags.access
    → IsFiles (record files { table = with_description files.table fd item })
described_kept files fd old item is open_as same position kept access = by (number_at files.table fd) refl where
  by : (found : Option ℕ) → number_at files.table fd ≡ found → IsFiles (record files { table = with_description files.table fd item })
  by None e = absurd (let none : None ≡ Some old = sym (ap (λ o. option_and_then (λ n. slot files.table.live n) o) e) ∙ open_as in cc)
  by (Some number) e =
      subst (λ o. IsFiles (record files { table = changed_at files.table o item })) (sym e)
      (changed_is files is number old item (sym (ap (λ o. option_and_then (λ n. slot files.table.live n) o) e) ∙ open_as) same position kept access)

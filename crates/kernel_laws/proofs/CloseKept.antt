-- A descriptor that is closed, and a descriptor that is put in the place of another, keep what files always are.
use Rattle.std.proofs.Common.{◌≡◌, ◌≢◌, ℕ, ◌+◌, ◌<◌, ◌≤◌, length, Bool, true, false, ◌||◌, refl, sym, ◌∙◌, ap, subst, arith, inl, inr}
use Rattle.std.specs.Prelude.{Option, Some, None, is_some, option_and_then, option_map, unwrap_or, count_by, nat_le, ◌==◌, if◌then◌else◌}
use Rattle.std.specs.List.{list_any}
use Rattle.std.proofs.lemmas.Bool.{cases_eq, eq-eqb, leb-false}
use Rattle.std.proofs.lemmas.List.{length-set, get_or-set_same, get_or-set_other}
use Rattle.std.proofs.lemmas.List.Folds.{list_any_at}
use Rattle.kernel_laws.proofs.Keeps.{Keeps, keeps}
use Rattle.kernel_laws.proofs.Lists.{any_taken, apart, count_changed, none_counted, one_if, same}
use Rattle.kernel_laws.proofs.Owing.{IsOwing, IsThere, let_go_kept}
use Rattle.kernel_laws.specs.Ends.{AreSoundFiles, HasEndsOnce}
use Rattle.kernel_model.proofs.Described.{any_set, slot_cases, within}
use Rattle.kernel_model.proofs.DuplicateKept.{after_duplicate_kept}
use Rattle.kernel_model.specs.Always.{IsFiles, IsOpen, IsTable, any_open, has_open, is_node, is_read_end, is_write_end}
use Rattle.kernel_model.specs.DescriptorRows.{after_close, after_duplicate, after_duplicate_onto, after_last, close, duplicate_onto, duplicate_onto_with, let_go}
use Rattle.kernel_model.specs.Descriptions.{opened}
use Rattle.kernel_model.specs.State.{Files, Descriptors}
use Rattle.kernel_model.specs.Table.{closed, closed_at, descriptor_limit, last_at, last_description, leads_to, number_at, shared_at, slot, with_slot}
use Rattle.kernel_model.specs.declared.descriptor.Descriptor.{Descriptor}
use Rattle.kernel_model.specs.declared.descriptor.Description.{Description}
use Rattle.kernel_model.specs.declared.descriptor.Object.{Object}
use Rattle.kernel_model.specs.declared.descriptor.Object.TheVariants as objects

-- The table without a descriptor

descriptor_of : (found : Option Descriptor) (number : ℕ) → option_map (λ d. d.number) found ≡ Some number
    → (descriptor : Descriptor) × (found ≡ Some descriptor) × (descriptor.number ≡ number)
descriptor_of None number e = absurd cc
descriptor_of (Some descriptor) number e = (descriptor, refl, ap (λ o. unwrap_or o number) e)

there_of : (found : Option Description) → is_some found ≡ true → (description : Description) × (found ≡ Some description)
there_of None e = absurd cc
there_of (Some description) e = (description, refl)

module _ (files : Files) (is : IsFiles files) (fd number : ℕ) (at : number_at files.table fd ≡ Some number) where
  mine : (descriptor : Descriptor) × (slot files.table.fds fd ≡ Some descriptor) × (descriptor.number ≡ number)
  mine = descriptor_of (slot files.table.fds fd) number at

  inside : fd < length files.table.fds
  inside = within files.table.fds fd mine.0 mine.1

  abbrev rest : Descriptors Description
  rest = record files.table { fds = with_slot files.table.fds fd None }

  -- a descriptor that is left was there, and is another one
  left : (k : ℕ) (descriptor : Descriptor) → slot rest.fds k ≡ Some descriptor → slot files.table.fds k ≡ Some descriptor
  left k descriptor =
      slot_cases files.table.fds fd k None inside (λ o. o ≡ Some descriptor → slot files.table.fds k ≡ Some descriptor) (λ e g. absurd cc) (λ e g. g)

  -- a description that is not this descriptor's has its descriptors still
  others_used : (m : ℕ) → number ≢ m → list_any (leads_to m) files.table.fds ≡ true → list_any (leads_to m) rest.fds ≡ true
  others_used m other h =
      any_set (leads_to m) files.table.fds fd None None (sym (ap (λ o. leads_to m o) mine.1 ∙ ap (λ n. n == m) mine.2 ∙ apart m number (λ e. other (sym e)))) ∙ h

  -- Where another descriptor leads to its description, that stays.

  module _ (shared : list_any (leads_to number) rest.fds ≡ true) where
    shared_used : (m : ℕ) → is_some (slot files.table.live m) ≡ true → list_any (leads_to m) rest.fds ≡ true
    shared_used m h = elim (cases_eq number m) [
      | inl here ↦ subst (λ n. list_any (leads_to n) rest.fds ≡ true) here shared
      | inr other ↦ others_used m other (is.table.used m h)
    ]

    shared_table : IsTable rest
    shared_table = record {
      fds = length-set files.table.fds fd None ∙ is.table.fds;
      live = is.table.live;
      leads = λ k descriptor h. is.table.leads k descriptor (left k descriptor h);
      used = shared_used;
    }

    open_as : (description : Description) (object : Object) → IsOpen files description object → IsOpen (record files { table = rest }) description object
    open_as description (objects.Stream stream) h = h
    open_as description (objects.ReadEnd pipe) h = h
    open_as description (objects.WriteEnd pipe) h = h
    open_as description (objects.Node node) h = h

    shared_kept : IsFiles (record files { table = rest })
    shared_kept = record {
      nodes = is.nodes;
      table = shared_table;
      places = is.places;
      pipes = λ k pipe h. let p = is.pipes k pipe h in record { small = p.small; are_bytes = p.are_bytes; used = p.used; readers = p.readers; writers = p.writers };
      moved = is.moved;
      opens = λ k description h. open_as description description.object (is.opens k description h);
      kept = is.kept;
      fits = is.fits;
      directory = is.directory;
      holds = is.holds;
      umask = is.umask;
    }

  -- Where none does, the description goes, and what it had open is owed.

  module _ (last : list_any (leads_to number) rest.fds ≡ false) (once : HasEndsOnce files) where
    gone : (description : Description) × (slot files.table.live number ≡ Some description)
    gone = there_of (slot files.table.live number) (subst (λ n. is_some (slot files.table.live n) ≡ true) mine.2 (is.table.leads fd mine.0 mine.1))

    low : number < length files.table.live
    low = within files.table.live number gone.0 gone.1

    abbrev less : Descriptors Description
    less = record { fds = rest.fds; live = with_slot files.table.live number None }

    abbrev after : Files
    after = record files { table = less }

    leads_on : (k : ℕ) (descriptor : Descriptor) → slot rest.fds k ≡ Some descriptor → is_some (slot less.live descriptor.number) ≡ true
    leads_on k descriptor h =
        slot_cases files.table.live number descriptor.number None low (λ o. is_some o ≡ true)
        (λ e.
        let passes : leads_to number (slot rest.fds k) ≡ true = ap (λ o. leads_to number o) h ∙ ap (λ n. n == number) e ∙ same number in
        let any : list_any (leads_to number) rest.fds ≡ true = list_any_at (leads_to number) rest.fds k None (within rest.fds k descriptor h) passes in
        sym last ∙ any)
        (λ e. is.table.leads k descriptor (left k descriptor h))

    used_still : (m : ℕ) → is_some (slot less.live m) ≡ true → list_any (leads_to m) rest.fds ≡ true
    used_still m =
        slot_cases files.table.live number m None low (λ o. is_some o ≡ true → list_any (leads_to m) rest.fds ≡ true)
        (λ e g. absurd (let wrong : false ≡ true = g in cc)) (λ e g. others_used m (λ s. e (sym s)) (is.table.used m g))

    less_table : IsTable less
    less_table = record {
      fds = length-set files.table.fds fd None ∙ is.table.fds;
      live = length-set files.table.live number None ∙ is.table.live;
      leads = leads_on;
      used = used_still;
    }

    -- a description that is left was there
    was : (m : ℕ) (description : Description) → slot less.live m ≡ Some description → slot files.table.live m ≡ Some description
    was m description =
        slot_cases files.table.live number m None low (λ o. o ≡ Some description → slot files.table.live m ≡ Some description) (λ e g. absurd cc) (λ e g. g)

    any_but : (test : Object → Bool) → any_open files test ≡ (any_open after test || test gone.0.object)
    any_but test =
        any_taken (has_open test) files.table.live number None None low refl ∙ ap (λ o. any_open after test || has_open test o) gone.1

    count_but : (test : Object → Bool) → count_by (has_open test) less.live + one_if (test gone.0.object) ≡ count_by (has_open test) files.table.live
    count_but test =
        let counts = count_changed (has_open test) files.table.live number None None low in
        let this : one_if (has_open test (slot files.table.live number)) ≡ one_if (test gone.0.object) = ap (λ o. one_if (has_open test o)) gone.1 in
        omega (arith, counts, this)

    none_else : (test : Object → Bool) → count_by (has_open test) files.table.live ≤ 1 → test gone.0.object ≡ true → any_open after test ≡ false
    none_else test few passes =
        let one : one_if (test gone.0.object) ≡ 1 = ap one_if passes in
        none_counted (has_open test) less.live (omega (arith, count_but test, one, few))

    open_left : (description : Description) (object : Object) → IsOpen files description object → IsOpen after description object
    open_left description (objects.Stream stream) h = h
    open_left description (objects.ReadEnd pipe) h = h
    open_left description (objects.WriteEnd pipe) h = h
    open_left description (objects.Node node) h = h

    is_there : (description : Description) (object : Object) → IsOpen files description object → IsThere after object
    is_there description (objects.Stream stream) h = tt
    is_there description (objects.ReadEnd pipe) h = h.0
    is_there description (objects.WriteEnd pipe) h = h.0
    is_there description (objects.Node node) h = tt

    owing : IsOwing after gone.0.object
    owing = record {
      nodes = is.nodes;
      table = less_table;
      places = is.places;
      pipes = λ k pipe h. let p = is.pipes k pipe h in record {
        small = p.small;
        are_bytes = p.are_bytes;
        used = p.used;
        readers = p.readers ∙ any_but (is_read_end k);
        writers = p.writers ∙ any_but (is_write_end k);
      };
      moved = is.moved;
      opens = λ m description h. open_left description description.object (is.opens m description (was m description h));
      kept = λ m description h. is.kept m description (was m description h);
      fits = λ m description h. is.fits m description (was m description h);
      directory = is.directory;
      holds = λ node. omega (arith, is.holds node, count_but (is_node node));
      umask = is.umask;
      there = is_there gone.0 gone.0.object (is.opens number gone.0 gone.1);
      reads_once = λ k h. none_else (is_read_end k) (once.reads k) h;
      writes_once = λ k h. none_else (is_write_end k) (once.writes k) h;
    }

    fewer : (test : Object → Bool) → count_by (has_open test) files.table.live ≤ 1 → count_by (has_open test) less.live ≤ 1
    fewer test few = omega (arith, count_but test, few)

    fewer_ends : HasEndsOnce after
    fewer_ends = record { reads = λ k. fewer (is_read_end k) (once.reads k); writes = λ k. fewer (is_write_end k) (once.writes k) }

-- A descriptor is closed

pub same_live : (files new : Files) → new.table.live ≡ files.table.live → HasEndsOnce files → HasEndsOnce new
same_live files new e once = record {
  reads = λ k. subst (λ live. count_by (has_open (is_read_end k)) live ≤ 1) (sym e) (once.reads k);
  writes = λ k. subst (λ live. count_by (has_open (is_write_end k)) live ≤ 1) (sym e) (once.writes k);
}

after_last_table : (files : Files) (last : Option Description) → (after_last files last).table ≡ files.table
after_last_table files None = refl
after_last_table files (Some description) = by description.object where
  by : (object : Object) → (let_go files object).table ≡ files.table
  by (objects.Stream stream) = refl
  by (objects.ReadEnd pipe) = refl
  by (objects.WriteEnd pipe) = refl
  by (objects.Node node) = refl

pub after_close_table : (files : Files) (fd : ℕ) → (after_close files fd).table ≡ closed files.table fd
unfolding after_close
after_close_table files fd = after_last_table (record files { table = closed files.table fd }) (last_description files.table fd)

module _ (files : Files) (is : IsFiles files) (once : HasEndsOnce files) (fd : ℕ) where
  last_kept : (number : ℕ) (at : number_at files.table fd ≡ Some number) (b : Bool) → list_any (leads_to number) (with_slot files.table.fds fd None) ≡ b
      → IsFiles (after_last (record files { table = record { fds = with_slot files.table.fds fd None; live = if b then files.table.live else with_slot files.table.live number None } })
      (if b then None else slot files.table.live number))
  last_kept number at true e = shared_kept files is fd number at e
  last_kept number at false e =
      let g = gone files is fd number at e once in
      subst (λ o. IsFiles (after_last (after files is fd number at e once) o)) (sym g.1)
      (let_go_kept (after files is fd number at e once) g.0.object (owing files is fd number at e once))

  pub after_close_kept : IsFiles (after_close files fd)
  unfolding after_close closed last_description
  after_close_kept = by (number_at files.table fd) refl where
    by : (found : Option ℕ) → number_at files.table fd ≡ found
        → IsFiles (after_last (record files { table = closed_at files.table fd found }) (last_at files.table fd found))
    by None e = is
    by (Some number) e = last_kept number e (list_any (leads_to number) (with_slot files.table.fds fd None)) refl

  closed_ends : HasEndsOnce (record files { table = closed files.table fd })
  unfolding closed
  closed_ends = by (number_at files.table fd) refl where
    either : (number : ℕ) (at : number_at files.table fd ≡ Some number) (b : Bool) → list_any (leads_to number) (with_slot files.table.fds fd None) ≡ b
        → HasEndsOnce (record files { table = record { fds = with_slot files.table.fds fd None; live = if b then files.table.live else with_slot files.table.live number None } })
    either number at true e = same_live files _ refl once
    either number at false e = fewer_ends files is fd number at e once

    by : (found : Option ℕ) → number_at files.table fd ≡ found → HasEndsOnce (record files { table = closed_at files.table fd found })
    by None e = once
    by (Some number) e = either number e (list_any (leads_to number) (with_slot files.table.fds fd None)) refl

  pub after_close_ends : HasEndsOnce (after_close files fd)
  after_close_ends = same_live (record files { table = closed files.table fd }) (after_close files fd) (ap (λ t. t.live) (after_close_table files fd)) closed_ends

-- Onto another descriptor

open_number : (files : Files) (fd : ℕ) (description : Description) → opened files fd ≡ Some description
    → (descriptor : Descriptor) × (slot files.table.fds fd ≡ Some descriptor)
open_number files fd description = by (slot files.table.fds fd) refl where
  by : (found : Option Descriptor) → slot files.table.fds fd ≡ found → option_and_then (λ n. slot files.table.live n) (option_map (λ d. d.number) found) ≡ Some description
      → (descriptor : Descriptor) × (slot files.table.fds fd ≡ Some descriptor)
  by None e h = absurd cc
  by (Some descriptor) e h = (descriptor, e)

opened_still : (files : Files) (fd : ℕ) (descriptor : Descriptor) → IsFiles files → slot files.table.fds fd ≡ Some descriptor
    → (description : Description) × (opened files fd ≡ Some description)
opened_still files fd descriptor is e =
    let found = there_of (slot files.table.live descriptor.number) (is.table.leads fd descriptor e) in
    (found.0, ap (λ o. option_and_then (λ n. slot files.table.live n) (option_map (λ d. d.number) o)) e ∙ found.1)

no_number : (found : Option Descriptor) → option_map (λ d. d.number) found ≡ None → found ≡ None
no_number None e = refl
no_number (Some descriptor) e = absurd cc

module _ (table : Descriptors Description) (onto : ℕ) (low : onto < length table.fds) where
  pub closed_free : slot (closed table onto).fds onto ≡ None
  unfolding closed
  closed_free = by (number_at table onto) refl where
    by : (found : Option ℕ) → number_at table onto ≡ found → slot (closed_at table onto found).fds onto ≡ None
    by None e = no_number (slot table.fds onto) e
    by (Some number) e = get_or-set_same table.fds onto None None low

  pub closed_other : (fd : ℕ) → fd ≢ onto → slot (closed table onto).fds fd ≡ slot table.fds fd
  unfolding closed
  closed_other fd other = by (number_at table onto) where
    by : (found : Option ℕ) → slot (closed_at table onto found).fds fd ≡ slot table.fds fd
    by None = refl
    by (Some number) = get_or-set_other table.fds onto fd None None other

pub shared_live : (files : Files) (fd onto : ℕ) (cloexec : Bool) → (after_duplicate files fd onto cloexec).table.live ≡ files.table.live
shared_live files fd onto cloexec = by (number_at files.table fd) where
  by : (found : Option ℕ) → (shared_at files.table onto cloexec found).live ≡ files.table.live
  by None = refl
  by (Some number) = refl

module _ (files : Files) (is : IsFiles files) (once : HasEndsOnce files) (fd onto : ℕ) (cloexec : Bool) (other : (fd == onto) ≡ false)
    (low : nat_le descriptor_limit onto ≡ false) (description : Description) (open_as : opened files fd ≡ Some description) where
  abbrev freed : Files
  freed = after_close files onto

  freed_is : IsFiles freed
  freed_is = after_close_kept files is once onto

  below : onto < length files.table.fds
  below = omega (arith, is.table.fds, leb-false descriptor_limit onto low)

  still : slot freed.table.fds fd ≡ slot files.table.fds fd
  still = ap (λ t. slot t.fds fd) (after_close_table files onto) ∙ closed_other files.table onto below fd (λ e. absurd (let wrong : true ≡ false = sym (eq-eqb fd onto e) ∙ other in cc))

  pub onto_kept : IsFiles (after_duplicate_onto files fd onto cloexec)
  onto_kept =
      let number = open_number files fd description open_as in
      let found = opened_still freed fd number.0 freed_is (still ∙ number.1) in
      after_duplicate_kept freed fd onto cloexec found.0 freed_is found.1 (omega (arith, freed_is.table.fds, leb-false descriptor_limit onto low))
      (ap (λ t. slot t.fds onto) (after_close_table files onto) ∙ closed_free files.table onto below)

  pub onto_ends : HasEndsOnce (after_duplicate_onto files fd onto cloexec)
  onto_ends = same_live freed _ (shared_live freed fd onto cloexec) (after_close_ends files is once onto)

  pub onto_files : AreSoundFiles (after_duplicate_onto files fd onto cloexec)
  onto_files = record { always = onto_kept; ends = onto_ends }

-- The rows

module _ (files : Files) (is : AreSoundFiles files) where
  closed_files : (fd : ℕ) → AreSoundFiles (after_close files fd)
  closed_files fd = record { always = after_close_kept files is.always is.ends fd; ends = after_close_ends files is.always is.ends fd }

  onto_are : (fd onto : ℕ) (cloexec : Bool) → (fd == onto) ≡ false → nat_le descriptor_limit onto ≡ false → (description : Description) → opened files fd ≡ Some description
      → AreSoundFiles (after_duplicate_onto files fd onto cloexec)
  onto_are fd onto cloexec other low description open_as = onto_files files is.always is.ends fd onto cloexec other low description open_as

  pub close_keeps : (fd : ℕ) → Keeps AreSoundFiles (close files fd)
  unfolding close
  close_keeps fd = search (keeps, closed_files, is) depth 14

  pub duplicate_onto_keeps : (fd onto : ℕ) → Keeps AreSoundFiles (duplicate_onto files fd onto)
  unfolding duplicate_onto
  duplicate_onto_keeps fd onto = search (keeps, onto_are, is) depth 14

  pub duplicate_onto_with_keeps : (fd onto : ℕ) (cloexec : Option Bool) → Keeps AreSoundFiles (duplicate_onto_with files fd onto cloexec)
  unfolding duplicate_onto_with
  duplicate_onto_with_keeps fd onto cloexec = search (keeps, onto_are, is) depth 14

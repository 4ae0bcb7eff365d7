-- One more descriptor of a description keeps what files always are.
use Rattle.std.proofs.Common.{◌≡◌, ℕ, zero, suc, ◌<◌, List, [], ◌∷◌, length, get_or, set, Bool, true, false, ◌||◌, refl, sym, ◌∙◌, ap, subst}
use Rattle.std.specs.Prelude.{Option, Some, None, is_some, option_and_then, option_map, unwrap_or, nat_le}
use Rattle.std.specs.List.{list_any}
use Rattle.std.proofs.lemmas.List.{length-set}
use Rattle.kernel_core.specs.declared.error.Errno.TheVariants.{EBADF, EINVAL, EMFILE}
use Rattle.kernel_model.proofs.Described.{slot_cases}
use Rattle.kernel_model.proofs.LeastFree.{least_free}
use Rattle.kernel_model.specs.Always.{IsFiles, IsOpen, IsTable}
use Rattle.kernel_model.specs.Came.{done, refused_if, with_some}
use Rattle.kernel_model.specs.DescriptorRows.{after_duplicate, duplicate}
use Rattle.kernel_model.specs.Descriptions.{opened}
use Rattle.kernel_model.specs.State.{Files, Descriptors}
use Rattle.kernel_model.specs.Table.{descriptor_limit, slot, number_at, lowest_free, leads_to, shared_at, with_slot}
use Rattle.kernel_model.specs.declared.descriptor.Descriptor.{Descriptor}
use Rattle.kernel_model.specs.declared.descriptor.Description.{Description}
use Rattle.kernel_model.specs.declared.descriptor.Object.{Object}
use Rattle.kernel_model.specs.declared.descriptor.Object.TheVariants as objects

pub any_more : {A : Type 0} (test : A → Bool) (xs : List A) (i : ℕ) (y d : A) → test (get_or xs i d) ≡ false → list_any test xs ≡ true → list_any test (set xs i y) ≡ true
any_more test [] i y d e h = h
any_more test (x ∷ xs) zero y d e h =
    let rest : list_any test xs ≡ true = sym (ap (λ b. b || list_any test xs) e) ∙ h in
    either (test y) (list_any test xs) rest where
      either : (a b : Bool) → b ≡ true → (a || b) ≡ true
      either true b p = refl
      either false b p = p
any_more test (x ∷ xs) (suc i) y d e h = by (test x) refl (λ g. any_more test xs i y d e g) where
  by : (b : Bool) → test x ≡ b → (list_any test xs ≡ true → list_any test (set xs i y) ≡ true) → (test x || list_any test (set xs i y)) ≡ true
  by true p more = ap (λ b. b || list_any test (set xs i y)) p
  by false p more = ap (λ b. b || list_any test (set xs i y)) p ∙ more (sym (ap (λ b. b || list_any test xs) p) ∙ h)

module _ (table : Descriptors Description) (is : IsTable table) (number new : ℕ) (cloexec : Bool) (lives : is_some (slot table.live number) ≡ true)
    (within : new < length table.fds) (free : slot table.fds new ≡ None) where
  shared_kept : IsTable (shared_at table new cloexec (Some number))
  shared_kept = record {
    fds = length-set table.fds new (Some (record { number = number; cloexec = cloexec })) ∙ is.fds;
    live = is.live;
    leads = λ fd descriptor h.
        slot_cases table.fds new fd (Some (record { number = number; cloexec = cloexec })) within
        (λ o. o ≡ Some descriptor → is_some (slot table.live descriptor.number) ≡ true)
        (λ e g. let same : number ≡ descriptor.number = ap (λ o. unwrap_or (option_map (λ d. d.number) o) 0) g in subst (λ n. is_some (slot table.live n) ≡ true) same lives)
        (λ e g. is.leads fd descriptor g) h;
    used = λ m h. any_more (leads_to m) table.fds new (Some (record { number = number; cloexec = cloexec })) None (ap (λ o. leads_to m o) free) (is.used m h);
  }

-- other descriptors, of descriptions that stay
with_fds : (files : Files) (fds : List (Option Descriptor)) → IsFiles files → IsTable (record files.table { fds = fds }) → IsFiles (record files { table = record files.table { fds = fds } })
with_fds files fds is t = record {
  nodes = is.nodes;
  table = t;
  places = is.places;
  pipes = λ at pipe h. let p = is.pipes at pipe h in record { small = p.small; are_bytes = p.are_bytes; used = p.used; readers = p.readers; writers = p.writers };
  moved = is.moved;
  opens = λ at description h. open_as description description.object (is.opens at description h);
  kept = is.kept;
  fits = is.fits;
  directory = is.directory;
  holds = is.holds;
  umask = is.umask;
} where
  open_as : (description : Description) (object : Object) → IsOpen files description object → IsOpen (record files { table = record files.table { fds = fds } }) description object
  open_as description (objects.Stream stream) h = h
  open_as description (objects.ReadEnd pipe) h = h
  open_as description (objects.WriteEnd pipe) h = h
  open_as description (objects.Node node) h = h

pub after_duplicate_kept : (files : Files) (fd new : ℕ) (cloexec : Bool) (description : Description) → IsFiles files → opened files fd ≡ Some description
    → new < length files.table.fds → slot files.table.fds new ≡ None → IsFiles (after_duplicate files fd new cloexec)
after_duplicate_kept files fd new cloexec description is open_as within free = by (number_at files.table fd) refl where
  by : (found : Option ℕ) → number_at files.table fd ≡ found → IsFiles (record files { table = shared_at files.table new cloexec (number_at files.table fd) })
  by None e = absurd (let none : None ≡ Some description = sym (ap (λ o. option_and_then (λ n. slot files.table.live n) o) e) ∙ open_as in cc)
  by (Some number) e =
      let lives : slot files.table.live number ≡ Some description = sym (ap (λ o. option_and_then (λ n. slot files.table.live n) o) e) ∙ open_as in
      subst (λ o. IsFiles (record files { table = shared_at files.table new cloexec o })) (sym e)
      (with_fds files (with_slot files.table.fds new (Some (record { number = number; cloexec = cloexec }))) is
      (shared_kept files.table is.table number new cloexec (ap (λ o. is_some o) lives) within free))

-- dup(2)
pub duplicate_kept : (files : Files) (fd : ℕ) (from : Option ℕ) (cloexec : Bool) → IsFiles files → IsFiles (duplicate files fd from cloexec).state
unfolding duplicate
duplicate_kept files fd from cloexec is = by (opened files fd) from refl where
  placed : (description : Description) → opened files fd ≡ Some description → (least : ℕ) (found : Option ℕ) → lowest_free files.table.fds least ≡ found
      → IsFiles (with_some files EMFILE found (λ new. done (after_duplicate files fd new cloexec) new)).state
  placed description e least None f = is
  placed description e least (Some new) f =
      let free = least_free files.table.fds least new f in
      after_duplicate_kept files fd new cloexec description is e free.within free.free

  bounded : (description : Description) → opened files fd ≡ Some description → (least : ℕ) (b : Bool)
      → IsFiles (refused_if b EINVAL files (with_some files EMFILE (lowest_free files.table.fds least) (λ new. done (after_duplicate files fd new cloexec) new))).state
  bounded description e least true = is
  bounded description e least false = placed description e least (lowest_free files.table.fds least) refl

  by : (found : Option Description) (start : Option ℕ) → opened files fd ≡ found
      → IsFiles (with_some files EBADF found (λ _. with_some files EINVAL start (λ least. refused_if (nat_le descriptor_limit least) EINVAL files (
      with_some files EMFILE (lowest_free files.table.fds least) (λ new. done (after_duplicate files fd new cloexec) new))))).state
  by None start e = is
  by (Some description) None e = is
  by (Some description) (Some least) e = bounded description e least (nat_le descriptor_limit least)

-- The rows that change a description keep what files always are.
use Rattle.std.proofs.Common.{◌≡◌, ℕ, ◌≤◌, Bool, true, false, ◌&&◌, refl, sym, ◌∙◌, ap}
use Rattle.std.specs.Prelude.{ℤ, pos, ◌+ℤ◌, nat_abs, nat_le, int_lt, not, Option, Some, None, option_and_then, Ok, Err}
use Rattle.std.proofs.lemmas.Bool.{leb-true}
use Rattle.kernel_core.specs.FileContent.{greatest_size}
use Rattle.kernel_core.specs.declared.error.Errno.TheVariants.{EBADF, EINVAL, ESPIPE}
use Rattle.kernel_model.proofs.Described.{described_kept}
use Rattle.kernel_model.specs.Always.{IsFiles, IsOpen}
use Rattle.kernel_model.specs.Came.{Given, done, refused_if, with_some, with_given}
use Rattle.kernel_model.specs.ContentRows.{seek, seek_from, is_position}
use Rattle.kernel_model.specs.DescriptorRows.{set_status_flags, set_nonblock, with_flags}
use Rattle.kernel_model.specs.Descriptions.{kept_flags, opened, node_of}
use Rattle.kernel_model.specs.Shared.{OpenSet}
use Rattle.kernel_model.specs.State.{Files}
use Rattle.kernel_model.specs.Table.{slot, number_at}
use Rattle.kernel_model.specs.Transfers.{moved_to}
use Rattle.kernel_model.specs.declared.descriptor.Description.{Description}
use Rattle.kernel_model.specs.declared.descriptor.Object.{Object}
use Rattle.kernel_model.specs.declared.descriptor.Object.TheVariants as objects

-- what is known of a description that a descriptor leads to
pub open_facts : (files : Files) (fd : ℕ) (description : Description) → IsFiles files → opened files fd ≡ Some description
    → IsOpen files description description.object × (kept_flags description.flags ≡ description.flags)
open_facts files fd description is open_as = by (number_at files.table fd) refl where
  by : (found : Option ℕ) → number_at files.table fd ≡ found → IsOpen files description description.object × (kept_flags description.flags ≡ description.flags)
  by None e = absurd (let none : None ≡ Some description = sym (ap (λ o. option_and_then (λ n. slot files.table.live n) o) e) ∙ open_as in cc)
  by (Some number) e =
      let there : slot files.table.live number ≡ Some description = sym (ap (λ o. option_and_then (λ n. slot files.table.live n) o) e) ∙ open_as in
      (is.opens number description there, is.kept number description there)

-- Flags

module _ (files : Files) (fd : ℕ) (is : IsFiles files) where
  flags_kept : (description : Description) (append nonblock : Bool) → opened files fd ≡ Some description
      → IsFiles (with_flags files fd description (record description.flags { append = append; nonblock = nonblock }))
  flags_kept description append nonblock e =
      let facts = open_facts files fd description is e in
      described_kept files fd description (record description { flags = record description.flags { append = append; nonblock = nonblock } }) is e refl
      facts.0 (ap (λ (f : OpenSet). record f { append = append; nonblock = nonblock }) facts.1) refl

  pub set_status_flags_kept : (append nonblock : Bool) → IsFiles (set_status_flags files fd append nonblock).state
  unfolding set_status_flags
  set_status_flags_kept append nonblock = by (opened files fd) refl where
    by : (found : Option Description) → opened files fd ≡ found
        → IsFiles (with_some {V = Unit {0}} files EBADF found (λ description. done (with_flags files fd description (record description.flags { append = append; nonblock = nonblock })) tt)).state
    by None e = is
    by (Some description) e = flags_kept description append nonblock e

  pub set_nonblock_kept : (on : Given Bool) → IsFiles (set_nonblock files fd on).state
  unfolding set_nonblock
  set_nonblock_kept on = by (opened files fd) on refl where
    by : (found : Option Description) (given : Given Bool) → opened files fd ≡ found
        → IsFiles (with_some {V = Unit {0}} files EBADF found (λ description. with_given files given (λ on. done (with_flags files fd description (record description.flags { nonblock = on })) tt))).state
    by None given e = is
    by (Some description) (Err error) e = is
    by (Some description) (Ok on) e = flags_kept description description.flags.append on e

  -- Positions

  at_position : (description : Description) (object : Object) (node position : ℕ) → node_of object ≡ Some node → position ≤ greatest_size
      → IsOpen files description object → IsOpen files (record description { position = position }) object
  at_position description (objects.Stream stream) node position e small h = absurd cc
  at_position description (objects.ReadEnd pipe) node position e small h = absurd cc
  at_position description (objects.WriteEnd pipe) node position e small h = absurd cc
  at_position description (objects.Node number) node position e small h = (small, h.1)

  pub moved_kept : (description : Description) (node position : ℕ) → opened files fd ≡ Some description → node_of description.object ≡ Some node
      → position ≤ greatest_size → IsFiles (moved_to files fd description position)
  moved_kept description node position e node_is small =
      let facts = open_facts files fd description is e in
      described_kept files fd description (record description { position = position }) is e refl
      (at_position description description.object node position node_is small facts.0) facts.1 refl

  small_place : (place : ℤ) → not (is_position place) ≡ false → nat_abs place ≤ greatest_size
  small_place place e = by (int_lt place (pos 0)) (nat_le (nat_abs place) greatest_size) refl e where
    by : (a b : Bool) → nat_le (nat_abs place) greatest_size ≡ b → not (not a && b) ≡ false → nat_abs place ≤ greatest_size
    by a true p h = leb-true (nat_abs place) greatest_size p
    by true false p h = absurd cc
    by false false p h = absurd cc

  pub seek_kept : (offset : ℤ) (origin : ℕ) → IsFiles (seek files fd offset origin).state
  unfolding seek
  seek_kept offset origin = by (opened files fd) refl where
    placed : (description : Description) (node : ℕ) → opened files fd ≡ Some description → node_of description.object ≡ Some node → (place : ℤ) (b : Bool) → not (is_position place) ≡ b
        → IsFiles (refused_if {V = ℕ} b EINVAL files (done (moved_to files fd description (nat_abs place)) (nat_abs place))).state
    placed description node e node_is place true p = is
    placed description node e node_is place false p = moved_kept description node (nat_abs place) e node_is (small_place place p)

    from : (description : Description) (node : ℕ) → opened files fd ≡ Some description → node_of description.object ≡ Some node → (start : Option ℕ)
        → IsFiles (with_some {V = ℕ} files EINVAL start (λ from. let place = pos from +ℤ offset in
        refused_if (not (is_position place)) EINVAL files (done (moved_to files fd description (nat_abs place)) (nat_abs place)))).state
    from description node e node_is None = is
    from description node e node_is (Some start) = placed description node e node_is (pos start +ℤ offset) (not (is_position (pos start +ℤ offset))) refl

    at_node : (description : Description) → opened files fd ≡ Some description → (found : Option ℕ) → node_of description.object ≡ found
        → IsFiles (with_some {V = ℕ} files ESPIPE found (λ node. with_some files EINVAL (seek_from files.nodes description node origin) (λ from. let place = pos from +ℤ offset in
        refused_if (not (is_position place)) EINVAL files (done (moved_to files fd description (nat_abs place)) (nat_abs place))))).state
    at_node description e None node_is = is
    at_node description e (Some node) node_is = from description node e node_is (seek_from files.nodes description node origin)

    by : (found : Option Description) → opened files fd ≡ found
        → IsFiles (with_some {V = ℕ} files EBADF found (λ description. with_some files ESPIPE (node_of description.object) (λ node. with_some files EINVAL (seek_from files.nodes description node origin) (λ from. let place = pos from +ℤ offset in
        refused_if (not (is_position place)) EINVAL files (done (moved_to files fd description (nat_abs place)) (nat_abs place)))))).state
    by None e = is
    by (Some description) e = at_node description e (node_of description.object) refl

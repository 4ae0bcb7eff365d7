-- A description's position, where it moves more than once.
use Rattle.std.proofs.Common.{◌≡◌, ℕ, ◌<◌, ◌≤◌, ◌^◌, Bool, true, false, List, [], ◌∷◌, length, get_or, Option, Some, None, refl, sym, ap, ◌∙◌, arith}
use Rattle.std.specs.Int.{w64, cast_signed}
use Rattle.std.specs.Prelude.{ℤ, pos, ◌+ℤ◌, nat_le, nat_lt, nat_abs, int_lt, not, option_and_then, slice_index_or, slice_set, sum_by, if◌then◌else◌}
use Rattle.std.proofs.lemmas.Bool.Decides.{nat_tests}
use Rattle.std.proofs.lemmas.Int.{ints}
use Rattle.std.proofs.lemmas.List.{set-get_or, set-set, get_or-set_same, get_or_past}
use Rattle.kernel_core.specs.FileContent.{greatest_size}
use Rattle.kernel_core.specs.declared.error.Errno.{Errno}
use Rattle.kernel_core.specs.declared.error.Errno.TheVariants.{EBADF, EFAULT, EINVAL, ESPIPE}
use Rattle.kernel_model.specs.Came.{Came, Done, Refused, done, refused, refused_by, refused_if, with_some}
use Rattle.kernel_model.specs.ContentRows.{Entry, entries_refusal, fitting, give_entries, is_position, position_after, record_length, seek, seek_from}
use Rattle.kernel_model.specs.Descriptions.{node_of, opened}
use Rattle.kernel_model.specs.State.{Files, Descriptors}
use Rattle.kernel_model.specs.Table.{changed_at, number_at, slot, with_description}
use Rattle.kernel_model.specs.Transfers.{moved_to}
use Rattle.kernel_model.specs.declared.descriptor.Description.{Description}
use Rattle.bridge_entries.specs.inside.Answers.{came_by, came_of, narrow}
use Rattle.bridge_entries.specs.inside.Given.{AreListed}
use Rattle.bridge_entries.specs.inside.Listed.{listed_of}

-- In the table

some_is : {A : Type 0} {a b : A} → Some a ≡ Some b → a ≡ b
some_is same = cc

abbrev item_at : Descriptors Description → Option ℕ → Option Description
item_at table None = None
item_at table (Some number) = slot table.live number

item_is : (table : Descriptors Description) (at : Option ℕ) → option_and_then (λ number. slot table.live number) at ≡ item_at table at
item_is table None = refl
item_is table (Some number) = refl

set_same : (live : List (Option Description)) (number : ℕ) (item : Description) → slice_index_or live number None ≡ Some item → slice_set live number (Some item) ≡ live
set_same live number item there = ap (slice_set live number) (sym there) ∙ set-get_or live number None

changed_same : (table : Descriptors Description) (at : Option ℕ) (d : Description) → item_at table at ≡ Some d → changed_at table at d ≡ table
changed_same table None d there = refl
changed_same table (Some number) d there = ap (λ (live : List (Option Description)). record table { live = live }) (set_same table.live number d there)

placed_below : (live : List (Option Description)) (number : ℕ) (item : Description) → get_or live number None ≡ Some item → number < length live
placed_below live number item there = by (nat_le (length live) number) refl where
  by : (b : Bool) → nat_le (length live) number ≡ b → number < length live
  by true is = absurd (let past : length live ≤ number = grind (arith, nat_tests) in let none = get_or_past live number None past in let bad : None ≡ Some item = sym none ∙ there in cc)
  by false is = grind (arith, nat_tests)

changed_there : (table : Descriptors Description) (at : Option ℕ) (d item : Description) → item_at table at ≡ Some d → item_at (changed_at table at item) at ≡ Some item
changed_there table None d item there = absurd cc
changed_there table (Some number) d item there = get_or-set_same table.live number (Some item) None (placed_below table.live number d there)

numbers_stay : (table : Descriptors Description) (fd : ℕ) (at : Option ℕ) (item : Description) → number_at (changed_at table at item) fd ≡ number_at table fd
numbers_stay table fd None item = refl
numbers_stay table fd (Some number) item = refl

changed_twice : (table : Descriptors Description) (at : Option ℕ) (one other : Description) → changed_at (changed_at table at one) at other ≡ changed_at table at other
changed_twice table None one other = refl
changed_twice table (Some number) one other = ap (λ (live : List (Option Description)). record table { live = live }) (set-set table.live number (Some one) (Some other))

module _ (files : Files) (fd : ℕ) (d : Description) (there : opened files fd ≡ Some d) where
  at_there : item_at files.table (number_at files.table fd) ≡ Some d
  at_there = sym (item_is files.table (number_at files.table fd)) ∙ there

  pub moved_nowhere : moved_to files fd d d.position ≡ files
  moved_nowhere = ap (λ (table : Descriptors Description). record files { table = table }) (changed_same files.table (number_at files.table fd) d at_there)

  pub opened_moved : (place : ℕ) → opened (moved_to files fd d place) fd ≡ Some (record d { position = place })
  opened_moved place =
      let item : Description = record d { position = place } in
      let table : Descriptors Description = with_description files.table fd item in
      ap (λ (at : Option ℕ). option_and_then (λ number. slot table.live number) at) (numbers_stay files.table fd (number_at files.table fd) item)
      ∙ item_is table (number_at files.table fd)
      ∙ changed_there files.table (number_at files.table fd) d item at_there

  pub moved_twice : (one other : ℕ) → moved_to (moved_to files fd d one) fd (record d { position = one }) other ≡ moved_to files fd d other
  moved_twice one other =
      let first : Description = record d { position = one } in
      let item : Description = record d { position = other } in
      ap (λ (table : Descriptors Description). record files { table = table })
      (ap (λ (at : Option ℕ). changed_at (with_description files.table fd first) at item) (numbers_stay files.table fd (number_at files.table fd) first)
      ∙ changed_twice files.table (number_at files.table fd) first item)

  -- What is given, and where the position is then

  narrow_by : (room : ℕ) (o : Option Errno) (found : List Entry) (b : Bool) → nat_lt room (sum_by (record_length narrow) found) ≡ b
      → refused_by o files (refused_if (nat_lt room (sum_by (record_length narrow) found)) EFAULT files (done (moved_to files fd d (position_after d.position found)) found))
      ≡ record { state = moved_to files fd d (position_after d.position (listed_of (came_of room o found))); came = came_of room o found }
  narrow_by room (Some error) found b is = ap (λ (f : Files). refused f error) (sym moved_nowhere)
  narrow_by room None found true is =
      ap (λ (b : Bool). refused_if b EFAULT files (done (moved_to files fd d (position_after d.position found)) found)) is
      ∙ ap (λ (f : Files). refused f EFAULT) (sym moved_nowhere)
      ∙ sym (ap (λ (b : Bool). let came = (if b then Refused EFAULT else Done found) in record { state = moved_to files fd d (position_after d.position (listed_of came)); came = came }) is)
  narrow_by room None found false is =
      ap (λ (b : Bool). refused_if b EFAULT files (done (moved_to files fd d (position_after d.position found)) found)) is
      ∙ sym (ap (λ (b : Bool). let came = (if b then Refused EFAULT else Done found) in record { state = moved_to files fd d (position_after d.position (listed_of came)); came = came }) is)

  pub narrow_gives : (size room : ℕ) (found : List Entry)
      → give_entries files fd d narrow size room found ≡ record { state = moved_to files fd d (position_after d.position (listed_of (came_by size room found))); came = came_by size room found }
  narrow_gives size room found = narrow_by room (entries_refusal narrow size found) (fitting narrow size found) _ refl

-- lseek(2) to a place from the beginning

cast_same : (place : ℕ) → place < 2 ^ 31 → cast_signed w64 place ≡ pos place
cast_same place small = grind (arith, ints)

from_0 : (place : ℕ) → pos 0 +ℤ pos place ≡ pos place
from_0 place = omega (arith, ints)

not_below : (place : ℕ) → int_lt (pos place) (pos 0) ≡ false
not_below place = grind (arith, nat_tests)

within : (place : ℕ) → place < 2 ^ 31 → nat_le place greatest_size ≡ true
within place small = grind (arith, nat_tests)

position_is : (place : ℕ) → place < 2 ^ 31 → is_position (pos place) ≡ true
position_is place small = rw (not_below place) (within place small)

pub seek_is : (files : Files) (fd : ℕ) (d : Description) (node place : ℕ) → opened files fd ≡ Some d → node_of d.object ≡ Some node → place < 2 ^ 31
    → seek files fd (cast_signed w64 place) 0 ≡ done (moved_to files fd d place) place
unfolding seek
seek_is files fd d node place there is_node small =
    let at : pos 0 +ℤ cast_signed w64 place ≡ pos place = ap (λ (z : ℤ). pos 0 +ℤ z) (cast_same place small) ∙ from_0 place in
    ap (λ (o : Option Description). with_some files EBADF o (λ description. with_some files ESPIPE (node_of description.object) (λ node. with_some files EINVAL (seek_from files.nodes description node 0) (λ from.
    let to = pos from +ℤ cast_signed w64 place in refused_if (not (is_position to)) EINVAL files (done (moved_to files fd description (nat_abs to)) (nat_abs to)))))) there
    ∙ ap (λ (o : Option ℕ). with_some files ESPIPE o (λ node. with_some files EINVAL (seek_from files.nodes d node 0) (λ from.
    let to = pos from +ℤ cast_signed w64 place in refused_if (not (is_position to)) EINVAL files (done (moved_to files fd d (nat_abs to)) (nat_abs to))))) is_node
    ∙ ap (λ (to : ℤ). refused_if (not (is_position to)) EINVAL files (done (moved_to files fd d (nat_abs to)) (nat_abs to))) at
    ∙ ap (λ (b : Bool). refused_if (not b) EINVAL files (done (moved_to files fd d place) place)) (position_is place small)

-- The position stays small.

small_after : (position cookie : ℕ) (found : List Entry) → cookie < 2 ^ 31 → AreListed position found → position_after cookie found < 2 ^ 31
small_after position cookie [] small listed = small
small_after position cookie (entry ∷ found) small listed = small_after position entry.cookie found listed.0.cookie listed.1

pub position_small : (position : ℕ) (found : List Entry) → position < 2 ^ 31 → AreListed position found → position_after position found < 2 ^ 31
position_small position found small listed = small_after position position found small listed

-- lseek(2) by no byte from the position on

place_is : (position : ℕ) → pos position +ℤ pos 0 ≡ pos position
place_is position = omega (arith, ints)

position_test : (position : ℕ) → is_position (pos position) ≡ nat_le position greatest_size
position_test position = rw (not_below position) refl

abbrev pub node_came : Description → Option ℕ → Came ℕ
node_came d None = Refused ESPIPE
node_came d (Some node) = if nat_le d.position greatest_size then Done d.position else Refused EINVAL

abbrev pub position_came : Option Description → Came ℕ
position_came None = Refused EBADF
position_came (Some d) = node_came d (node_of d.object)

pub position_did : (files : Files) (fd : ℕ) → seek files fd (cast_signed w64 0) 1 ≡ record { state = files; came = position_came (opened files fd) }
unfolding seek
position_did files fd = by (opened files fd) refl where
  placed : (d : Description) → opened files fd ≡ Some d → (place : ℤ) → place ≡ pos d.position
      → refused_if (not (is_position place)) EINVAL files (done (moved_to files fd d (nat_abs place)) (nat_abs place)) ≡ record { state = files; came = (if nat_le d.position greatest_size then Done d.position else Refused EINVAL) }
  placed d there place is = rw (is, position_test d.position) (tested (nat_le d.position greatest_size)) where
    tested : (within : Bool) → refused_if (not within) EINVAL files (done (moved_to files fd d d.position) d.position) ≡ record { state = files; came = (if within then Done d.position else Refused EINVAL) }
    tested true = ap (λ (f : Files). done f d.position) (moved_nowhere files fd d there)
    tested false = refl

  from : (d : Description) → opened files fd ≡ Some d → (node : Option ℕ) → with_some files ESPIPE node (λ n. with_some files EINVAL (Some d.position) (λ at.
      let place = pos at +ℤ cast_signed w64 0 in refused_if (not (is_position place)) EINVAL files (done (moved_to files fd d (nat_abs place)) (nat_abs place)))) ≡ record { state = files; came = node_came d node }
  from d there None = refl
  from d there (Some node) = placed d there (pos d.position +ℤ cast_signed w64 0) (place_is d.position)

  by : (there : Option Description) → opened files fd ≡ there → with_some files EBADF there (λ d. with_some files ESPIPE (node_of d.object) (λ n. with_some files EINVAL (Some d.position) (λ at.
      let place = pos at +ℤ cast_signed w64 0 in refused_if (not (is_position place)) EINVAL files (done (moved_to files fd d (nat_abs place)) (nat_abs place))))) ≡ record { state = files; came = position_came there }
  by None is = refl
  by (Some d) is = from d is (node_of d.object)

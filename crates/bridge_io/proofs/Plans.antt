-- How bytes are written at a place, by what was found out.
use Rattle.std.proofs.Common.{◌≡◌, ℕ, ◌-◌, ◌<◌, ◌≤◌, ◌^◌, Option, Some, None, refl, sym, ap, subst, ◌∙◌, inl, inr, arith, Ok}
use Rattle.std.proofs.lemmas.Bool.Decides.{nat_tests}
use Rattle.std.specs.Int.{w64, cast_signed}
use Rattle.std.specs.Prelude.{ℤ, pos, Bool, true, false, int_lt, min, nat_abs, nat_lt}
use Rattle.kernel_core.specs.FileContent.{greatest_size}
use Rattle.kernel_core.specs.Nodes.{Nodes, file_at}
use Rattle.kernel_model.specs.Descriptions.{opened}
use Rattle.kernel_model.specs.State.{Files}
use Rattle.kernel_model.specs.Transfers.{transfer_limit, write_at}
use Rattle.kernel_model.specs.declared.descriptor.Description.{Description}
use Rattle.kernel_model.specs.declared.descriptor.Object.{Object}
use Rattle.kernel_model.specs.declared.descriptor.Object.TheVariants as objects
use Rattle.o32_model.specs.Transfers.{small_file_limit}
use Rattle.bridge_io.proofs.PlaceLimits.{far_at_place, negative_place, past_at_place, room_at_place}
use Rattle.bridge_io.proofs.Rooms.{position_room_in, size_none_object, size_past_object, size_room_object, some_is}
use Rattle.bridge_io.specs.inside.Plans.{HasPlace, IsPlan, NodeRoom}
use Rattle.bridge_io.specs.inside.Rooms.{IsPast, ObjectPast, ObjectRoom, flags_there, is_ready, size_there, write_flags}
use Rattle.bridge_io.specs.declared.room.Plan.TheVariants.{Write, Past}
use Rattle.bridge_io.specs.declared.room.WriteFlags.{WriteFlags}

-- A number of 64 bits as a place

below_zero : (place : ℕ) → 2 ^ 63 ≤ place → place < 2 ^ 64 → int_lt (cast_signed w64 place) (pos 0) ≡ true
below_zero place high fits = let test : nat_lt place (2 ^ 63) ≡ false = grind (arith, nat_tests) in rw test refl

is_itself : (place : ℕ) → place < 2 ^ 63 → cast_signed w64 place ≡ pos place
is_itself place low = let test : nat_lt place (2 ^ 63) ≡ true = grind (arith, nat_tests) in rw test refl

not_below : (place : ℕ) → int_lt (pos place) (pos 0) ≡ false
not_below place = grind (arith, nat_tests)

from_zero : (place : ℕ) → place < 2 ^ 63 → int_lt (cast_signed w64 place) (pos 0) ≡ false
from_zero place low = ap (λ (p : ℤ). int_lt p (pos 0)) (is_itself place low) ∙ not_below place

whole_place : (place : ℕ) → place < 2 ^ 63 → nat_abs (cast_signed w64 place) ≡ place
whole_place place low = ap nat_abs (is_itself place low)

-- What there is room for

pub negative_plan : (files : Files) (fd place room : ℕ) → 2 ^ 63 ≤ place → place < 2 ^ 64 → IsPlan files small_file_limit fd (cast_signed w64 place) (Write room place)
negative_plan files fd place room high fits = negative_place files small_file_limit room fd (cast_signed w64 place) (cast_signed w64 place) refl (below_zero place high fits)

plan_of : (files : Files) (fd place room : ℕ) → place < 2 ^ 63 → 0 < room → HasPlace files small_file_limit room place (opened files fd) → IsPlan files small_file_limit fd (cast_signed w64 place) (Write room place)
plan_of files fd place room low some fits =
    room_at_place files small_file_limit room fd (cast_signed w64 place) (cast_signed w64 place) some refl
    (subst (λ (p : ℕ). HasPlace files small_file_limit room p (opened files fd)) (sym (whole_place place low)) fits)

closed_has : (files : Files) (room place : ℕ) (there : Option Description) → flags_there there ≡ None → HasPlace files small_file_limit room place there
closed_has files room place None none = tt
closed_has files room place (Some d) none = absurd cc

pub closed_plan : (files : Files) (fd place room : ℕ) → place < 2 ^ 63 → 0 < room → flags_there (opened files fd) ≡ None → IsPlan files small_file_limit fd (cast_signed w64 place) (Write room place)
closed_plan files fd place room low some none = plan_of files fd place room low some (closed_has files room place (opened files fd) none)

large_has : (files : Files) (room place : ℕ) (there : Option Description) (flags : WriteFlags) → flags_there there ≡ Some flags → flags.largefile ≡ true → transfer_limit ≤ room → HasPlace files small_file_limit room place there
large_has files room place None flags found large all = absurd cc
large_has files room place (Some d) flags found large all = inl (record { large = ap (λ (f : WriteFlags). f.largefile) (some_is found) ∙ large; all = all })

pub large_plan : (files : Files) (fd place room : ℕ) (flags : WriteFlags) → place < 2 ^ 63 → transfer_limit ≤ room → flags_there (opened files fd) ≡ Some flags → flags.largefile ≡ true → IsPlan files small_file_limit fd (cast_signed w64 place) (Write room place)
large_plan files fd place room flags low all found large = plan_of files fd place room low (omega arith) (large_has files room place (opened files fd) flags found large all)

-- Under O_APPEND, by the size

of_object : (nodes : Nodes) (limit room at : ℕ) (append : Bool) (object : Object) → ObjectRoom nodes limit room append at object → NodeRoom nodes limit room append at object
of_object nodes limit room at append (objects.Stream stream) fits = tt
of_object nodes limit room at append (objects.ReadEnd pipe) fits = tt
of_object nodes limit room at append (objects.WriteEnd pipe) fits = tt
of_object nodes limit room at append (objects.Node node) fits = fits

append_is : (d : Description) (flags : WriteFlags) (append : Bool) → Some (write_flags d) ≡ Some flags → flags.append ≡ append → d.flags.append ≡ append
append_is d flags append found is = ap (λ (f : WriteFlags). f.append) (some_is found) ∙ is

small_is : (d : Description) (flags : WriteFlags) → Some (write_flags d) ≡ Some flags → flags.largefile ≡ false → d.flags.largefile ≡ false
small_is d flags found small = ap (λ (f : WriteFlags). f.largefile) (some_is found) ∙ small

size_none_has : (files : Files) (room place : ℕ) (there : Option Description) (flags : WriteFlags) → flags_there there ≡ Some flags → flags.largefile ≡ false → flags.append ≡ true → size_there files there ≡ None → transfer_limit ≤ room
    → HasPlace files small_file_limit room place there
size_none_has files room place None flags found small append none all = tt
size_none_has files room place (Some d) flags found small append none all = inr (record {
  small = small_is d flags found small;
  rest = subst (λ (a : Bool). NodeRoom files.nodes small_file_limit room a place d.object) (sym (append_is d flags true found append)) (of_object files.nodes small_file_limit room place true d.object (size_none_object files room place d.object none all));
})

pub size_none_plan : (files : Files) (fd place room : ℕ) (flags : WriteFlags) → place < 2 ^ 63 → transfer_limit ≤ room → flags_there (opened files fd) ≡ Some flags → flags.largefile ≡ false → flags.append ≡ true → size_there files (opened files fd) ≡ None
    → IsPlan files small_file_limit fd (cast_signed w64 place) (Write room place)
size_none_plan files fd place room flags low all found small append none = plan_of files fd place room low (omega arith) (size_none_has files room place (opened files fd) flags found small append none all)

size_room_has : (files : Files) (place size : ℕ) (there : Option Description) (flags : WriteFlags) → flags_there there ≡ Some flags → flags.largefile ≡ false → flags.append ≡ true → size_there files there ≡ Some size → size < small_file_limit
    → HasPlace files small_file_limit (small_file_limit - size) place there
size_room_has files place size None flags found small append is below = tt
size_room_has files place size (Some d) flags found small append is below = inr (record {
  small = small_is d flags found small;
  rest = subst (λ (a : Bool). NodeRoom files.nodes small_file_limit (small_file_limit - size) a place d.object) (sym (append_is d flags true found append))
      (of_object files.nodes small_file_limit (small_file_limit - size) place true d.object (size_room_object files place size d.object is below));
})

pub size_room_plan : (files : Files) (fd place size : ℕ) (flags : WriteFlags) → place < 2 ^ 63 → flags_there (opened files fd) ≡ Some flags → flags.largefile ≡ false → flags.append ≡ true → size_there files (opened files fd) ≡ Some size → size < small_file_limit
    → IsPlan files small_file_limit fd (cast_signed w64 place) (Write (small_file_limit - size) place)
size_room_plan files fd place size flags low found small append is below = plan_of files fd place (small_file_limit - size) low (omega arith) (size_room_has files place size (opened files fd) flags found small append is below)

pub size_past_plan : (files : Files) (fd place size : ℕ) (file : Bool) (flags : WriteFlags) → place < 2 ^ 63 → flags_there (opened files fd) ≡ Some flags → flags.largefile ≡ false → flags.append ≡ true → size_there files (opened files fd) ≡ Some size → small_file_limit ≤ size
    → is_ready files (opened files fd) ≡ file → IsPlan files small_file_limit fd (cast_signed w64 place) (Past flags.writable file)
size_past_plan files fd place size file flags low found small append is past regular =
    past_at_place files small_file_limit fd (cast_signed w64 place) flags.writable file (from_zero place low) (by (opened files fd) found is regular) where
      by : (there : Option Description) → flags_there there ≡ Some flags → size_there files there ≡ Some size → is_ready files there ≡ file → IsPast files small_file_limit (λ _. nat_abs (cast_signed w64 place)) flags.writable file there
      by None found is regular = absurd cc
      by (Some d) found is regular = record {
        small = small_is d flags found small;
        allowed = ap (λ (f : WriteFlags). f.writable) (some_is found);
        regular = regular;
        begun = subst (λ (a : Bool). ObjectPast files.nodes small_file_limit a (nat_abs (cast_signed w64 place)) d.object) (sym (append_is d flags true found append)) (size_past_object files (nat_abs (cast_signed w64 place)) size d.object is past);
      }

-- At the place itself

place_room : (files : Files) (place : ℕ) (object : Object) → place < small_file_limit → NodeRoom files.nodes small_file_limit (small_file_limit - place) false place object
place_room files place (objects.Stream stream) below = tt
place_room files place (objects.ReadEnd pipe) below = tt
place_room files place (objects.WriteEnd pipe) below = tt
place_room files place (objects.Node node) below = position_room_in place place (file_at files.nodes node) refl below

place_has : (files : Files) (place : ℕ) (there : Option Description) (flags : WriteFlags) → flags_there there ≡ Some flags → flags.largefile ≡ false → flags.append ≡ false → place < small_file_limit → HasPlace files small_file_limit (small_file_limit - place) place there
place_has files place None flags found small append below = tt
place_has files place (Some d) flags found small append below = inr (record {
  small = small_is d flags found small;
  rest = subst (λ (a : Bool). NodeRoom files.nodes small_file_limit (small_file_limit - place) a place d.object) (sym (append_is d flags false found append)) (place_room files place d.object below);
})

pub place_plan : (files : Files) (fd place : ℕ) (flags : WriteFlags) → flags_there (opened files fd) ≡ Some flags → flags.largefile ≡ false → flags.append ≡ false → place < small_file_limit
    → IsPlan files small_file_limit fd (cast_signed w64 place) (Write (small_file_limit - place) place)
place_plan files fd place flags found small append below = plan_of files fd place (small_file_limit - place) (omega arith) (omega arith) (place_has files place (opened files fd) flags found small append below)

-- one far behind, where the native kernel has no file either
pub far_plan : (files : Files) (fd place room far : ℕ) (flags : WriteFlags) → place < 2 ^ 63 → far < 2 ^ 63 → greatest_size < far → 0 < room → flags_there (opened files fd) ≡ Some flags → flags.largefile ≡ false → flags.append ≡ false → small_file_limit ≤ place
    → IsPlan files small_file_limit fd (cast_signed w64 place) (Write room far)
far_plan files fd place room far flags low far_low behind some found small append past = λ time count bytes. by (opened files fd) refl found time count bytes where
  by : (there : Option Description) → opened files fd ≡ there → flags_there there ≡ Some flags → IsPlan files small_file_limit fd (cast_signed w64 place) (Write room far)
  by None is found = absurd cc
  by (Some d) is found = λ time count bytes.
      far_at_place files small_file_limit room far fd (cast_signed w64 place) d is (small_is d flags found small) (append_is d flags false found append) (from_zero place low) (not_below far) (subst (λ (p : ℕ). small_file_limit ≤ p) (sym (whole_place place low)) past) behind some time count bytes
      ∙ ap (λ (p : ℤ). write_at files None time fd p (Ok (min count room)) bytes) (sym (is_itself far far_low))

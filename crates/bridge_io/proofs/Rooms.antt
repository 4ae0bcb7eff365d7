-- Whether a write has room, by what was found out.
use Rattle.std.proofs.Common.{◌≡◌, ℕ, ◌-◌, ◌<◌, ◌≤◌, ◌%◌, ◌^◌, Option, Some, None, refl, sym, ap, ◌∙◌, inl, inr, arith}
use Rattle.std.proofs.lemmas.Bool.Decides.{nat_tests}
use Rattle.std.specs.FinMap.{get}
use Rattle.std.specs.Prelude.{Bool, true, false, nat_le, option_map, if◌then◌else◌}
use Rattle.kernel_core.specs.FileContent.{FileContent, greatest_size}
use Rattle.kernel_core.specs.Nodes.{Inode, File, Directory, Link, NodeContent, file_at, file_in, in_inode}
use Rattle.kernel_core.specs.NodeCalls.{content_size}
use Rattle.kernel_model.specs.ContentRows.{node_status, object_status, stream_status}
use Rattle.kernel_model.specs.Descriptions.{node_of}
use Rattle.kernel_model.specs.State.{Files}
use Rattle.kernel_model.specs.Transfers.{transfer_limit}
use Rattle.kernel_model.specs.declared.descriptor.Description.{Description}
use Rattle.kernel_model.specs.declared.descriptor.Object.{Object}
use Rattle.kernel_model.specs.declared.descriptor.Object.TheVariants as objects
use Rattle.kernel_model.specs.declared.terminal.Terminal.{Terminal}
use Rattle.o32_model.specs.Transfers.{small_file_limit}
use Rattle.bridge_io.specs.inside.Rooms.{write_flags, flags_there, node_position, low_size, begin_there, is_ready, FileRoom, ContentRoom, ObjectRoom, HasRoom, ContentPast, ObjectPast, IsPast}
use Rattle.bridge_io.specs.declared.room.WriteFlags.{WriteFlags}

abbrev own_place : Description → ℕ
own_place d = d.position

-- Nothing limits it.

pub closed_room : (files : Files) (room : ℕ) (at : Description → ℕ) (there : Option Description) → flags_there there ≡ None → HasRoom files small_file_limit room at there
closed_room files room at None none = tt
closed_room files room at (Some d) none = absurd cc

pub some_is : {A : Type 0} {a b : A} → Some a ≡ Some b → a ≡ b
some_is same = cc

pub large_room : (files : Files) (room : ℕ) (at : Description → ℕ) (there : Option Description) (flags : WriteFlags) → flags_there there ≡ Some flags → flags.largefile ≡ true → transfer_limit ≤ room → HasRoom files small_file_limit room at there
large_room files room at None flags found large all = absurd cc
large_room files room at (Some d) flags found large all = inl (record { large = ap (λ (f : WriteFlags). f.largefile) (some_is found) ∙ large; all = all })

-- Where it begins, as the size tells it

size_room_in : (content : NodeContent) (at begin : ℕ) → content_size content % 2 ^ 64 ≡ begin → begin < small_file_limit → ContentRoom small_file_limit (small_file_limit - begin) true at (file_in content)
size_room_in (File content) at begin is below = grind arith
size_room_in (Directory listing) at begin is below = tt
size_room_in (Link target) at begin is below = tt

size_past_in : (content : NodeContent) (at begin : ℕ) → content_size content % 2 ^ 64 ≡ begin → small_file_limit ≤ begin → ContentPast small_file_limit true at (file_in content)
size_past_in (File content) at begin is past = omega arith
size_past_in (Directory listing) at begin is past = tt
size_past_in (Link target) at begin is past = tt

size_none_at : (node room at : ℕ) (there : Option Inode) → option_map low_size (option_map (node_status node) there) ≡ None → ContentRoom small_file_limit room true at (in_inode file_in there)
size_none_at node room at None none = tt
size_none_at node room at (Some inode) none = absurd cc

size_room_at : (node at begin : ℕ) (there : Option Inode) → option_map low_size (option_map (node_status node) there) ≡ Some begin → begin < small_file_limit → ContentRoom small_file_limit (small_file_limit - begin) true at (in_inode file_in there)
size_room_at node at begin None is below = tt
size_room_at node at begin (Some inode) is below = size_room_in inode.content at begin (some_is is) below

size_past_at : (node at begin : ℕ) (there : Option Inode) → option_map low_size (option_map (node_status node) there) ≡ Some begin → small_file_limit ≤ begin → ContentPast small_file_limit true at (in_inode file_in there)
size_past_at node at begin None is past = tt
size_past_at node at begin (Some inode) is past = size_past_in inode.content at begin (some_is is) past

-- Where it begins, as the position tells it

position_none_in : (room at : ℕ) (content : Option FileContent) → (if nat_le at greatest_size then Some at else None) ≡ None → ContentRoom small_file_limit room false at content
position_none_in room at None none = tt
position_none_in room at (Some content) none = by (nat_le at greatest_size) refl none where
  by : (within : Bool) → nat_le at greatest_size ≡ within → (if within then Some at else None) ≡ None → FileRoom small_file_limit room at
  by true is none = absurd cc
  by false is none = inr (grind (arith, nat_tests), grind (arith, nat_tests))

position_told : (at begin : ℕ) → (if nat_le at greatest_size then Some at else None) ≡ Some begin → at ≡ begin
position_told at begin is = by (nat_le at greatest_size) is where
  by : (within : Bool) → (if within then Some at else None) ≡ Some begin → at ≡ begin
  by true is = cc
  by false is = absurd cc

pub position_room_in : (at begin : ℕ) (content : Option FileContent) → at ≡ begin → begin < small_file_limit → ContentRoom small_file_limit (small_file_limit - begin) false at content
position_room_in at begin None is below = tt
position_room_in at begin (Some content) is below = inl (omega arith, ap (λ (n : ℕ). small_file_limit - n) (sym is))

position_past_in : (at begin : ℕ) (content : Option FileContent) → at ≡ begin → small_file_limit ≤ begin → ContentPast small_file_limit false at content
position_past_in at begin None is past = tt
position_past_in at begin (Some content) is past = omega arith

-- What is open: a stream or a pipe has the size 0, and no position that lseek(2) tells.

no_size : (size begin : ℕ) → size ≡ 0 → size % 2 ^ 64 ≡ begin → begin ≡ 0
no_size size begin none is = let low : size % 2 ^ 64 ≡ 0 = rw none in omega arith

pub size_none_object : (files : Files) (room at : ℕ) (object : Object) → option_map low_size (object_status files object) ≡ None → transfer_limit ≤ room → ObjectRoom files.nodes small_file_limit room true at object
size_none_object files room at (objects.Stream stream) none all = all
size_none_object files room at (objects.ReadEnd pipe) none all = all
size_none_object files room at (objects.WriteEnd pipe) none all = all
size_none_object files room at (objects.Node node) none all = size_none_at node room at (get files.nodes node) none

stream_begins : (number begin : ℕ) (terminal : Option Terminal) → Some (low_size (stream_status number terminal)) ≡ Some begin → begin ≡ 0
stream_begins number begin None is = sym (some_is is)
stream_begins number begin (Some terminal) is = sym (some_is is)

pub size_room_object : (files : Files) (at begin : ℕ) (object : Object) → option_map low_size (object_status files object) ≡ Some begin → begin < small_file_limit → ObjectRoom files.nodes small_file_limit (small_file_limit - begin) true at object
size_room_object files at begin (objects.Stream stream) is below = let none = stream_begins _ begin files.terminal is in omega arith
size_room_object files at begin (objects.ReadEnd pipe) is below = let none : 0 ≡ begin = some_is is in omega arith
size_room_object files at begin (objects.WriteEnd pipe) is below = let none : 0 ≡ begin = some_is is in omega arith
size_room_object files at begin (objects.Node node) is below = size_room_at node at begin (get files.nodes node) is below

pub size_past_object : (files : Files) (at begin : ℕ) (object : Object) → option_map low_size (object_status files object) ≡ Some begin → small_file_limit ≤ begin → ObjectPast files.nodes small_file_limit true at object
size_past_object files at begin (objects.Stream stream) is past = let none = stream_begins _ begin files.terminal is in omega arith
size_past_object files at begin (objects.ReadEnd pipe) is past = let none : 0 ≡ begin = some_is is in omega arith
size_past_object files at begin (objects.WriteEnd pipe) is past = let none : 0 ≡ begin = some_is is in omega arith
size_past_object files at begin (objects.Node node) is past = size_past_at node at begin (get files.nodes node) is past

position_none_object : (files : Files) (room : ℕ) (d : Description) (object : Object) → node_position d (node_of object) ≡ None → transfer_limit ≤ room → ObjectRoom files.nodes small_file_limit room false d.position object
position_none_object files room d (objects.Stream stream) none all = all
position_none_object files room d (objects.ReadEnd pipe) none all = all
position_none_object files room d (objects.WriteEnd pipe) none all = all
position_none_object files room d (objects.Node node) none all = position_none_in room d.position (file_at files.nodes node) none

position_room_object : (files : Files) (d : Description) (begin : ℕ) (object : Object) → node_position d (node_of object) ≡ Some begin → begin < small_file_limit → ObjectRoom files.nodes small_file_limit (small_file_limit - begin) false d.position object
position_room_object files d begin (objects.Stream stream) is below = absurd cc
position_room_object files d begin (objects.ReadEnd pipe) is below = absurd cc
position_room_object files d begin (objects.WriteEnd pipe) is below = absurd cc
position_room_object files d begin (objects.Node node) is below = position_room_in d.position begin (file_at files.nodes node) (position_told d.position begin is) below

position_past_object : (files : Files) (d : Description) (begin : ℕ) (object : Object) → node_position d (node_of object) ≡ Some begin → small_file_limit ≤ begin → ObjectPast files.nodes small_file_limit false d.position object
position_past_object files d begin (objects.Stream stream) is past = absurd cc
position_past_object files d begin (objects.ReadEnd pipe) is past = absurd cc
position_past_object files d begin (objects.WriteEnd pipe) is past = absurd cc
position_past_object files d begin (objects.Node node) is past = position_past_in d.position begin (file_at files.nodes node) (position_told d.position begin is) past

-- A description

begin_none_of : (append : Bool) (files : Files) (room : ℕ) (d : Description) → begin_there append files (Some d) ≡ None → transfer_limit ≤ room → ObjectRoom files.nodes small_file_limit room append d.position d.object
begin_none_of true files room d none all = size_none_object files room d.position d.object none all
begin_none_of false files room d none all = position_none_object files room d d.object none all

begin_room_of : (append : Bool) (files : Files) (begin : ℕ) (d : Description) → begin_there append files (Some d) ≡ Some begin → begin < small_file_limit → ObjectRoom files.nodes small_file_limit (small_file_limit - begin) append d.position d.object
begin_room_of true files begin d is below = size_room_object files d.position begin d.object is below
begin_room_of false files begin d is below = position_room_object files d begin d.object is below

begin_past_of : (append : Bool) (files : Files) (begin : ℕ) (d : Description) → begin_there append files (Some d) ≡ Some begin → small_file_limit ≤ begin → ObjectPast files.nodes small_file_limit append d.position d.object
begin_past_of true files begin d is past = size_past_object files d.position begin d.object is past
begin_past_of false files begin d is past = position_past_object files d begin d.object is past

append_is : (d : Description) (flags : WriteFlags) → Some (write_flags d) ≡ Some flags → flags.append ≡ d.flags.append
append_is d flags found = ap (λ (f : WriteFlags). f.append) (sym (some_is found))

small_is : (d : Description) (flags : WriteFlags) → Some (write_flags d) ≡ Some flags → flags.largefile ≡ false → d.flags.largefile ≡ false
small_is d flags found small = ap (λ (f : WriteFlags). f.largefile) (some_is found) ∙ small

pub begin_none : (files : Files) (room : ℕ) (there : Option Description) (flags : WriteFlags) → flags_there there ≡ Some flags → flags.largefile ≡ false → begin_there flags.append files there ≡ None → transfer_limit ≤ room
    → HasRoom files small_file_limit room (λ d. d.position) there
begin_none files room None flags found small none all = tt
begin_none files room (Some d) flags found small none all = inr (record {
  small = small_is d flags found small;
  rest = begin_none_of d.flags.append files room d (ap (λ (a : Bool). begin_there a files (Some d)) (sym (append_is d flags found)) ∙ none) all;
})

pub begin_room : (files : Files) (begin : ℕ) (there : Option Description) (flags : WriteFlags) → flags_there there ≡ Some flags → flags.largefile ≡ false → begin_there flags.append files there ≡ Some begin → begin < small_file_limit
    → HasRoom files small_file_limit (small_file_limit - begin) (λ d. d.position) there
begin_room files begin None flags found small is below = tt
begin_room files begin (Some d) flags found small is below = inr (record {
  small = small_is d flags found small;
  rest = begin_room_of d.flags.append files begin d (ap (λ (a : Bool). begin_there a files (Some d)) (sym (append_is d flags found)) ∙ is) below;
})

pub begin_past : (files : Files) (begin : ℕ) (file : Bool) (there : Option Description) (flags : WriteFlags) → flags_there there ≡ Some flags → flags.largefile ≡ false → begin_there flags.append files there ≡ Some begin → small_file_limit ≤ begin
    → is_ready files there ≡ file → IsPast files small_file_limit (λ d. d.position) flags.writable file there
begin_past files begin file None flags found small is past regular = absurd cc
begin_past files begin file (Some d) flags found small is past regular = record {
  small = small_is d flags found small;
  allowed = ap (λ (f : WriteFlags). f.writable) (some_is found);
  regular = regular;
  begun = begin_past_of d.flags.append files begin d (ap (λ (a : Bool). begin_there a files (Some d)) (sym (append_is d flags found)) ∙ is) past;
}

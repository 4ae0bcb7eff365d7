-- How a file's size limits a write at a place (pwrite(2)).
use Rattle.std.proofs.Common.{◌≡◌, ℕ, ◌<◌, ◌≤◌, ◌⊎◌, List, length, take, Option, Some, None, refl, sym, ap, subst, ◌∙◌, inl, inr, arith, Ok, length-take}
use Rattle.std.specs.Prelude.{ℤ, pos, Bool, true, false, min, is_some, int_lt, nat_abs, if◌then◌else◌}
use Rattle.kernel_core.specs.FileContent.{FileContent, greatest_size}
use Rattle.kernel_core.specs.Nodes.{Nodes, file_at}
use Rattle.kernel_core.specs.declared.error.Errno.TheVariants.{EBADF, EFBIG, EINVAL, ESPIPE}
use Rattle.kernel_model.specs.Came.{Did, refused, refused_if, with_some}
use Rattle.kernel_model.specs.ContentRows.{ready_bytes}
use Rattle.kernel_model.specs.Descriptions.{opened, writable, if_writes, writes, node_of}
use Rattle.kernel_model.specs.State.{Files}
use Rattle.kernel_model.specs.Transfers.{at_place, transferring, transfer_limit, write_at, write_content, write_place}
use Rattle.kernel_model.specs.declared.descriptor.Description.{Description}
use Rattle.kernel_model.specs.declared.descriptor.Object.{Object}
use Rattle.kernel_model.specs.declared.descriptor.Object.TheVariants as objects
use Rattle.bridge_io.proofs.Limits.{content_far, content_large, content_past, fewer, fewer_bytes, file_is_ready, past_for_node, past_moves, room_for_file}
use Rattle.bridge_io.specs.inside.Plans.{HasPlace, NodeRoom, SmallPlace}
use Rattle.bridge_io.specs.inside.Rooms.{ContentRoom, LargeRoom, ObjectPast, IsPast, past_came}

-- the write of so many bytes to a node
abbrev pub at_node : Files → Option ℕ → ℤ → Description → ℕ → ℕ → List ℕ → ℕ → Did Files ℕ
at_node files limit time d node at bytes most = write_content files limit time d node at (take most bytes) (λ files _. files) (file_at files.nodes node)

-- the row, by what is open
abbrev pub by_description : Files → Option ℕ → ℤ → ℤ → ℕ → List ℕ → Option Description → Did Files ℕ
by_description files limit time place count bytes there =
    with_some files EBADF (if_writes there) (λ d. at_place files place d.object (λ at node. transferring files (Ok count) (length bytes) 0 (at_node files limit time d node at bytes)))

pub write_by : (files : Files) (limit : Option ℕ) (time : ℤ) (fd count : ℕ) (place : ℤ) (bytes : List ℕ) → write_at files limit time fd place (Ok count) bytes ≡ by_description files limit time place count bytes (opened files fd)
unfolding write_at
write_by files limit time fd count place bytes = refl

-- Two such rows are the same where the writes to a node are.
pub same_by : (files : Files) (one other : Option ℕ) (time place : ℤ) (elsewhere : ℤ) (count fewer_count : ℕ) (bytes other_bytes : List ℕ) (there : Option Description) → int_lt elsewhere (pos 0) ≡ int_lt place (pos 0)
    → ((d : Description) (node : ℕ) → there ≡ Some d → d.object ≡ objects.Node node → int_lt place (pos 0) ≡ false
    → transferring files (Ok count) (length bytes) 0 (at_node files one time d node (nat_abs place) bytes) ≡ transferring files (Ok fewer_count) (length other_bytes) 0 (at_node files other time d node (nat_abs elsewhere) other_bytes))
    → by_description files one time place count bytes there ≡ by_description files other time elsewhere fewer_count other_bytes there
same_by files one other time place elsewhere count fewer_count bytes other_bytes None signs each = refl
same_by files one other time place elsewhere count fewer_count bytes other_bytes (Some d) signs each = allowed_by (writes d.flags.access) where
  placed : (object : Object) → d.object ≡ object → (below : Bool) → int_lt place (pos 0) ≡ below
      → refused_if below EINVAL files (with_some files ESPIPE (node_of object) (λ node. transferring files (Ok count) (length bytes) 0 (at_node files one time d node (nat_abs place) bytes)))
      ≡ refused_if below EINVAL files (with_some files ESPIPE (node_of object) (λ node. transferring files (Ok fewer_count) (length other_bytes) 0 (at_node files other time d node (nat_abs elsewhere) other_bytes)))
  placed object is true same = refl
  placed (objects.Stream stream) is false same = refl
  placed (objects.ReadEnd pipe) is false same = refl
  placed (objects.WriteEnd pipe) is false same = refl
  placed (objects.Node node) is false same = each d node refl is same

  allowed_by : (allowed : Bool)
      → with_some files EBADF (if allowed then Some d else None) (λ d. at_place files place d.object (λ at node. transferring files (Ok count) (length bytes) 0 (at_node files one time d node at bytes)))
      ≡ with_some files EBADF (if allowed then Some d else None) (λ d. at_place files elsewhere d.object (λ at node. transferring files (Ok fewer_count) (length other_bytes) 0 (at_node files other time d node at other_bytes)))
  allowed_by false = refl
  allowed_by true =
      placed d.object refl (int_lt place (pos 0)) refl
      ∙ ap (λ (below : Bool). refused_if below EINVAL files (with_some files ESPIPE (node_of d.object) (λ node. transferring files (Ok fewer_count) (length other_bytes) 0 (at_node files other time d node (nat_abs elsewhere) other_bytes)))) (sym signs)

-- A write for which there is room

has_of : (files : Files) (limit room at : ℕ) (there : Option Description) (d : Description) → there ≡ Some d → HasPlace files limit room at there → LargeRoom room d ⊎ SmallPlace files.nodes limit room d at
has_of files limit room at there d is fits = subst (λ (t : Option Description). HasPlace files limit room at t) is fits

node_room : (nodes : Nodes) (limit room at node : ℕ) (append : Bool) (object : Object) → object ≡ objects.Node node → NodeRoom nodes limit room append at object → ContentRoom limit room append at (file_at nodes node)
node_room nodes limit room at node append object is fits = subst (λ (o : Object). NodeRoom nodes limit room append at o) is fits

moves : (files : Files) (limit room : ℕ) (time : ℤ) (d : Description) (node at : ℕ) (bytes : List ℕ) (most : ℕ) → d.object ≡ objects.Node node → 0 < room → LargeRoom room d ⊎ SmallPlace files.nodes limit room d at
    → 0 < most → most ≤ length bytes → most ≤ transfer_limit → at_node files (Some limit) time d node at bytes most ≡ at_node files None time d node at bytes (min most room)
moves files limit room time d node at bytes most is some (inl whole) there within few =
    let same : min most room ≡ most = let all = whole.all in omega arith in
    content_large files (Some limit) time d node at (take most bytes) (λ files _. files) (file_at files.nodes node) whole.large ∙ ap (at_node files None time d node at bytes) (sym same)
moves files limit room time d node at bytes most is some (inr part) there within few =
    let long : length (take most bytes) ≡ most = omega (arith, length-take most bytes) in
    room_for_file files limit room time d node at (take most bytes) (λ files _. files) (file_at files.nodes node) part.small some (omega arith) (node_room files.nodes limit room at node d.flags.append d.object is part.rest)
    ∙ ap (λ (b : List ℕ). write_content files None time d node at b (λ files _. files) (file_at files.nodes node)) (fewer_bytes bytes most room)

pub room_at_place : (files : Files) (limit room fd : ℕ) (place elsewhere : ℤ) → 0 < room → elsewhere ≡ place → HasPlace files limit room (nat_abs place) (opened files fd)
    → (time : ℤ) (count : ℕ) (bytes : List ℕ) → write_at files (Some limit) time fd place (Ok count) bytes ≡ write_at files None time fd elsewhere (Ok (min count room)) bytes
room_at_place files limit room fd place elsewhere some same fits time count bytes =
    write_by files (Some limit) time fd count place bytes
    ∙ same_by files (Some limit) None time place place count (min count room) bytes bytes (opened files fd) refl (λ d node there is above.
    fewer files count (length bytes) room 0 (at_node files (Some limit) time d node (nat_abs place) bytes) (at_node files None time d node (nat_abs place) bytes) some (λ most more within few.
    moves files limit room time d node (nat_abs place) bytes most is some (has_of files limit room (nat_abs place) (opened files fd) d there fits) more within few))
    ∙ sym (write_by files None time fd (min count room) place bytes)
    ∙ ap (λ (p : ℤ). write_at files None time fd p (Ok (min count room)) bytes) (sym same)

-- a place below 0
pub negative_place : (files : Files) (limit room fd : ℕ) (place elsewhere : ℤ) → elsewhere ≡ place → int_lt place (pos 0) ≡ true
    → (time : ℤ) (count : ℕ) (bytes : List ℕ) → write_at files (Some limit) time fd place (Ok count) bytes ≡ write_at files None time fd elsewhere (Ok (min count room)) bytes
negative_place files limit room fd place elsewhere same below time count bytes =
    write_by files (Some limit) time fd count place bytes
    ∙ same_by files (Some limit) None time place place count (min count room) bytes bytes (opened files fd) refl (λ d node there is above. absurd (let wrong : true ≡ false = sym below ∙ above in cc))
    ∙ sym (write_by files None time fd (min count room) place bytes)
    ∙ ap (λ (p : ℤ). write_at files None time fd p (Ok (min count room)) bytes) (sym same)

-- A write past the limit at a place of its own is one far behind.

far_content : (files : Files) (limit room far : ℕ) (time : ℤ) (d : Description) (node at : ℕ) (bytes : List ℕ) (most : ℕ) (content : Option FileContent) → d.flags.largefile ≡ false → d.flags.append ≡ false → limit ≤ at → greatest_size < far → 0 < room → 0 < most → most ≤ length bytes
    → write_content files (Some limit) time d node at (take most bytes) (λ files _. files) content ≡ write_content files None time d node far (take (min most room) bytes) (λ files _. files) content
far_content files limit room far time d node at bytes most None small own past behind some there within = refl
far_content files limit room far time d node at bytes most (Some content) small own past behind some there within =
    let begun : limit ≤ write_place d.flags.append at content = subst (λ (a : Bool). limit ≤ write_place a at content) (sym own) past in
    let beyond : greatest_size < write_place d.flags.append far content = subst (λ (a : Bool). greatest_size < write_place a far content) (sym own) behind in
    content_past files limit time d node at (take most bytes) (λ files _. files) content small begun
    ∙ sym (content_far files time d node far (take (min most room) bytes) (λ files _. files) content (omega (arith, length-take (min most room) bytes)) beyond)

pub far_at_place : (files : Files) (limit room far fd : ℕ) (place : ℤ) (d : Description) → opened files fd ≡ Some d → d.flags.largefile ≡ false → d.flags.append ≡ false → int_lt place (pos 0) ≡ false → int_lt (pos far) (pos 0) ≡ false → limit ≤ nat_abs place → greatest_size < far → 0 < room
    → (time : ℤ) (count : ℕ) (bytes : List ℕ) → write_at files (Some limit) time fd place (Ok count) bytes ≡ write_at files None time fd (pos far) (Ok (min count room)) bytes
far_at_place files limit room far fd place d there small own above over past behind some time count bytes =
    write_by files (Some limit) time fd count place bytes
    ∙ same_by files (Some limit) None time place (pos far) count (min count room) bytes bytes (opened files fd) (over ∙ sym above) (λ other node found is _.
    let same : other ≡ d = let both : Some other ≡ Some d = sym found ∙ there in cc in
    fewer files count (length bytes) room 0 (at_node files (Some limit) time other node (nat_abs place) bytes) (at_node files None time other node far bytes) some (λ most more within few.
    far_content files limit room far time other node (nat_abs place) bytes most (file_at files.nodes node)
    (ap (λ (e : Description). e.flags.largefile) same ∙ small) (ap (λ (e : Description). e.flags.append) same ∙ own) past behind some more within))
    ∙ sym (write_by files None time fd (min count room) (pos far) bytes)

-- A write past the limit at the end of a file does nothing.

past_of : (files : Files) (limit : ℕ) (time place : ℤ) (count : ℕ) (writable file : Bool) (bytes : List ℕ) (there : Option Description) → int_lt place (pos 0) ≡ false → IsPast files limit (λ _. nat_abs place) writable file there
    → by_description files (Some limit) time place count bytes there ≡ record { state = files; came = past_came writable file count (length bytes) }
past_of files limit time place count writable file bytes None above past = absurd past
past_of files limit time place count writable file bytes (Some d) above past = allowed_by (writes d.flags.access) writable past.allowed where
  placed : (object : Object) → d.object ≡ object → ObjectPast files.nodes limit d.flags.append (nat_abs place) object → is_some (ready_bytes files d object) ≡ file
      → with_some files ESPIPE (node_of object) (λ node. transferring files (Ok count) (length bytes) 0 (at_node files (Some limit) time d node (nat_abs place) bytes)) ≡ record { state = files; came = past_came true file count (length bytes) }
  placed (objects.Stream stream) is begun regular = absurd begun
  placed (objects.ReadEnd pipe) is begun regular = absurd begun
  placed (objects.WriteEnd pipe) is begun regular = absurd begun
  placed (objects.Node node) is begun regular = past_moves files count (length bytes) file (at_node files (Some limit) time d node (nat_abs place) bytes) (λ most.
      past_for_node files limit time d node (nat_abs place) (take most bytes) (λ files _. files) (file_at files.nodes node) past.small begun
      ∙ ap (λ (b : Bool). refused files (if b then EFBIG else EBADF)) (sym (file_is_ready d.position (file_at files.nodes node)) ∙ regular))

  signed : (below : Bool) → int_lt place (pos 0) ≡ below → below ≡ false
      → refused_if below EINVAL files (with_some files ESPIPE (node_of d.object) (λ node. transferring files (Ok count) (length bytes) 0 (at_node files (Some limit) time d node (nat_abs place) bytes))) ≡ record { state = files; came = past_came true file count (length bytes) }
  signed true same is = absurd cc
  signed false same is = placed d.object refl past.begun past.regular

  allowed_by : (allowed writable : Bool) → allowed ≡ writable
      → with_some files EBADF (if allowed then Some d else None) (λ d. at_place files place d.object (λ at node. transferring files (Ok count) (length bytes) 0 (at_node files (Some limit) time d node at bytes)))
      ≡ record { state = files; came = past_came writable file count (length bytes) }
  allowed_by false false is = refl
  allowed_by true true is = signed (int_lt place (pos 0)) refl above
  allowed_by true false is = absurd cc
  allowed_by false true is = absurd cc

pub past_at_place : (files : Files) (limit fd : ℕ) (place : ℤ) (writable file : Bool) → int_lt place (pos 0) ≡ false → IsPast files limit (λ _. nat_abs place) writable file (opened files fd)
    → (time : ℤ) (count : ℕ) (bytes : List ℕ) → write_at files (Some limit) time fd place (Ok count) bytes ≡ record { state = files; came = past_came writable file count (length bytes) }
past_at_place files limit fd place writable file above past time count bytes = write_by files (Some limit) time fd count place bytes ∙ past_of files limit time place count writable file bytes (opened files fd) above past

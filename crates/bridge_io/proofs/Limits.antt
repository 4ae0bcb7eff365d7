-- How a file's size limits a write by a description without O_LARGEFILE (open(2)): as one of fewer bytes that nothing limits.
use Rattle.std.proofs.Common.{◌≡◌, ℕ, zero, suc, ◌+◌, ◌-◌, ◌<◌, ◌≤◌, ◌⊎◌, List, [], ◌∷◌, length, take, Option, Some, None, refl, sym, ap, ◌∙◌, inl, inr, arith, Ok, length-take}
use Rattle.std.proofs.lemmas.Bool.Decides.{nat_tests}
use Rattle.std.specs.Prelude.{ℤ, Bool, true, false, min, is_some, nat_le, nat_lt, ◌==◌, if◌then◌else◌}
use Rattle.kernel_core.specs.FileContent.{FileContent, greatest_size}
use Rattle.kernel_core.specs.NodeCalls.{write_refusal}
use Rattle.kernel_core.specs.Nodes.{Nodes, file_at}
use Rattle.kernel_core.specs.declared.error.Errno.TheVariants.{EBADF, EFAULT, EFBIG}
use Rattle.kernel_model.specs.Came.{Done, Refused, Did, done, refused, refused_if, with_some, widened}
use Rattle.kernel_model.specs.ContentRows.{ready_bytes, file_rest}
use Rattle.kernel_model.specs.Descriptions.{opened, writable, if_writes, writes}
use Rattle.kernel_model.specs.State.{Files}
use Rattle.kernel_model.specs.Transfers.{limit_for, transferring, transfer_limit, write, write_content, write_object, write_place, writing, moved_to}
use Rattle.kernel_model.specs.declared.descriptor.Description.{Description}
use Rattle.kernel_model.specs.declared.descriptor.Object.{Object}
use Rattle.kernel_model.specs.declared.descriptor.Object.TheVariants as objects
use Rattle.kernel_model.specs.declared.stream.Stream.TheVariants as streams
use Rattle.bridge_io.specs.inside.Rooms.{ContentRoom, ObjectRoom, SmallRoom, LargeRoom, HasRoom, ContentPast, ObjectPast, IsPast, past_came}

-- A file

no_limit : (large : Bool) → limit_for None large ≡ None
no_limit true = refl
no_limit false = refl

refusal_far : (nodes : Nodes) (content : FileContent) (at count : ℕ) → 0 < count → greatest_size < at → write_refusal nodes content at count ≡ Some EFBIG
refusal_far nodes content at zero some far = absurd (omega arith)
refusal_far nodes content at (suc count) some far =
    let past : nat_lt greatest_size (at + suc count) ≡ true = grind (arith, nat_tests) in
    rw past

content_cut : (files : Files) (limit : ℕ) (now : ℤ) (d : Description) (node at : ℕ) (bytes : List ℕ) (after : Files → ℕ → Files) (content : FileContent) → d.flags.largefile ≡ false → write_place d.flags.append at content < limit
    → write_content files (Some limit) now d node at bytes after (Some content) ≡ write_content files None now d node at (take (limit - write_place d.flags.append at content) bytes) after (Some content)
content_cut files limit now d node at bytes after content small before =
    let below : nat_le limit (write_place d.flags.append at content) ≡ false = grind (arith, nat_tests) in
    rw (small, below) refl

pub content_past : (files : Files) (limit : ℕ) (now : ℤ) (d : Description) (node at : ℕ) (bytes : List ℕ) (after : Files → ℕ → Files) (content : FileContent) → d.flags.largefile ≡ false → limit ≤ write_place d.flags.append at content
    → write_content files (Some limit) now d node at bytes after (Some content) ≡ refused files EFBIG
content_past files limit now d node at bytes after content small begun =
    let past : nat_le limit (write_place d.flags.append at content) ≡ true = grind (arith, nat_tests) in
    rw (small, past) refl

pub content_far : (files : Files) (now : ℤ) (d : Description) (node at : ℕ) (bytes : List ℕ) (after : Files → ℕ → Files) (content : FileContent) → 0 < length bytes → greatest_size < write_place d.flags.append at content
    → write_content files None now d node at bytes after (Some content) ≡ refused files EFBIG
content_far files now d node at bytes after content some far =
    let refusal = refusal_far files.nodes content (write_place d.flags.append at content) (length bytes) some far in
    rw (no_limit d.flags.largefile, refusal) refl

pub content_large : (files : Files) (limit : Option ℕ) (now : ℤ) (d : Description) (node at : ℕ) (bytes : List ℕ) (after : Files → ℕ → Files) (content : Option FileContent) → d.flags.largefile ≡ true
    → write_content files limit now d node at bytes after content ≡ write_content files None now d node at bytes after content
content_large files limit now d node at bytes after None large = refl
content_large files limit now d node at bytes after (Some content) large = rw large refl

take_all : (bytes : List ℕ) (count : ℕ) → length bytes ≤ count → take count bytes ≡ bytes
take_all [] zero within = refl
take_all [] (suc count) within = refl
take_all (byte ∷ bytes) zero within = absurd (omega arith)
take_all (byte ∷ bytes) (suc count) within = ap (λ (rest : List ℕ). byte ∷ rest) (take_all bytes count (omega arith))

take_some : (bytes : List ℕ) (count : ℕ) → 0 < count → 0 < length bytes → 0 < length (take count bytes)
take_some bytes count some there = omega (arith, length-take count bytes)

pub room_for_file : (files : Files) (limit room : ℕ) (now : ℤ) (d : Description) (node at : ℕ) (bytes : List ℕ) (after : Files → ℕ → Files) (content : Option FileContent) → d.flags.largefile ≡ false → 0 < room → 0 < length bytes
    → ContentRoom limit room d.flags.append at content
    → write_content files (Some limit) now d node at bytes after content ≡ write_content files None now d node at (take room bytes) after content
room_for_file files limit room now d node at bytes after None small some there fits = refl
room_for_file files limit room now d node at bytes after (Some content) small some there (inl (before, is)) =
    content_cut files limit now d node at bytes after content small before
    ∙ ap (λ (r : ℕ). write_content files None now d node at (take r bytes) after (Some content)) (sym is)
room_for_file files limit room now d node at bytes after (Some content) small some there (inr (begun, far)) =
    content_past files limit now d node at bytes after content small begun
    ∙ sym (content_far files now d node at (take room bytes) after content (take_some bytes room some there) far)

room_for_object : (files : Files) (limit room : ℕ) (now : ℤ) (fd : ℕ) (d : Description) (bytes : List ℕ) (object : Object) → d.flags.largefile ≡ false → 0 < room → 0 < length bytes → length bytes ≤ transfer_limit
    → ObjectRoom files.nodes limit room d.flags.append d.position object
    → write_object files (Some limit) now fd d bytes object ≡ write_object files None now fd d (take room bytes) object
room_for_object files limit room now fd d bytes (objects.Stream streams.Input) small some there few fits = refl
room_for_object files limit room now fd d bytes (objects.Stream streams.Out) small some there few fits =
    let all : take room bytes ≡ bytes = take_all bytes room (omega arith) in rw all refl
room_for_object files limit room now fd d bytes (objects.Stream streams.Err) small some there few fits =
    let all : take room bytes ≡ bytes = take_all bytes room (omega arith) in rw all refl
room_for_object files limit room now fd d bytes (objects.ReadEnd pipe) small some there few fits = refl
room_for_object files limit room now fd d bytes (objects.WriteEnd pipe) small some there few fits =
    let all : take room bytes ≡ bytes = take_all bytes room (omega arith) in rw all refl
room_for_object files limit room now fd d bytes (objects.Node node) small some there few fits =
    ap (widened writing) (room_for_file files limit room now d node d.position bytes (λ files position. moved_to files fd d position) (file_at files.nodes node) small some there fits)

large_object : (files : Files) (limit : Option ℕ) (now : ℤ) (fd : ℕ) (d : Description) (bytes : List ℕ) (object : Object) → d.flags.largefile ≡ true
    → write_object files limit now fd d bytes object ≡ write_object files None now fd d bytes object
large_object files limit now fd d bytes (objects.Stream streams.Input) large = refl
large_object files limit now fd d bytes (objects.Stream streams.Out) large = refl
large_object files limit now fd d bytes (objects.Stream streams.Err) large = refl
large_object files limit now fd d bytes (objects.ReadEnd pipe) large = refl
large_object files limit now fd d bytes (objects.WriteEnd pipe) large = refl
large_object files limit now fd d bytes (objects.Node node) large =
    ap (widened writing) (content_large files limit now d node d.position bytes (λ files position. moved_to files fd d position) (file_at files.nodes node) large)

-- The transfer

-- the first bytes of those that count are those that count of fewer
pub fewer_bytes : (bytes : List ℕ) (most room : ℕ) → take room (take most bytes) ≡ take (min most room) bytes
fewer_bytes [] most room = none most room where
  none_of : (count : ℕ) → take {A = ℕ} count [] ≡ []
  none_of zero = refl
  none_of (suc count) = refl

  none : (most room : ℕ) → take {A = ℕ} room (take most []) ≡ take (min most room) []
  none most room = ap (take room) (none_of most) ∙ none_of room ∙ sym (none_of (min most room))
fewer_bytes (byte ∷ bytes) zero room = let less : min 0 room ≡ 0 = omega arith in rw less (none room) where
  none : (room : ℕ) → take {A = ℕ} room [] ≡ []
  none zero = refl
  none (suc room) = refl
fewer_bytes (byte ∷ bytes) (suc most) zero = let less : min (suc most) 0 ≡ 0 = omega arith in rw less refl
fewer_bytes (byte ∷ bytes) (suc most) (suc room) =
    let less : min (suc most) (suc room) ≡ suc (min most room) = omega arith in
    rw less (ap (λ (rest : List ℕ). byte ∷ rest) (fewer_bytes bytes most room))

-- `rest` of so many bytes is `other` of fewer
pub fewer : {S V : Type 0} (state : S) (count accessible room : ℕ) (none : V) (rest other : ℕ → Did S V) → 0 < room
    → ((most : ℕ) → 0 < most → most ≤ accessible → most ≤ transfer_limit → rest most ≡ other (min most room))
    → transferring state (Ok count) accessible none rest ≡ transferring state (Ok (min count room)) accessible none other
fewer state zero accessible room none rest other some each =
    let less : min 0 room ≡ 0 = omega arith in rw less refl
fewer state (suc count) zero room none rest other some each =
    let more : (min (suc count) room == 0) ≡ false = grind (arith, nat_tests) in
    let asked : (suc count == 0) ≡ false = grind (arith, nat_tests) in
    rw (more, asked) refl
fewer state (suc count) (suc accessible) room none rest other some each =
    let more : (min (suc count) room == 0) ≡ false = grind (arith, nat_tests) in
    let asked : (suc count == 0) ≡ false = grind (arith, nat_tests) in
    let there : (suc accessible == 0) ≡ false = grind (arith, nat_tests) in
    let most = min (min (suc count) (suc accessible)) transfer_limit in
    let less : min (min (min (suc count) room) (suc accessible)) transfer_limit ≡ min most room = omega arith in
    rw (more, asked, there, less) (each most (omega arith) (omega arith) (omega arith))

pub room_for_write : (files : Files) (limit room : ℕ) (now : ℤ) (fd count : ℕ) (bytes : List ℕ) → 0 < room → HasRoom files limit room (λ d. d.position) (opened files fd)
    → write files (Some limit) now fd (Ok count) bytes ≡ write files None now fd (Ok (min count room)) bytes
unfolding write
room_for_write files limit room now fd count bytes some fits = by (opened files fd) fits where
  moves : (d : Description) (most : ℕ) → LargeRoom room d ⊎ SmallRoom files.nodes limit room d d.position → 0 < most → most ≤ length bytes → most ≤ transfer_limit
      → write_object files (Some limit) now fd d (take most bytes) d.object ≡ write_object files None now fd d (take (min most room) bytes) d.object
  moves d most (inl whole) there within few =
      let same : min most room ≡ most = let all = whole.all in omega arith in
      large_object files (Some limit) now fd d (take most bytes) d.object whole.large ∙ ap (λ (n : ℕ). write_object files None now fd d (take n bytes) d.object) (sym same)
  moves d most (inr part) there within few =
      let long : length (take most bytes) ≡ most = omega (arith, length-take most bytes) in
      room_for_object files limit room now fd d (take most bytes) d.object part.small some (omega arith) (omega arith) part.rest
      ∙ ap (λ (b : List ℕ). write_object files None now fd d b d.object) (fewer_bytes bytes most room)

  by : (there : Option Description) → HasRoom files limit room (λ d. d.position) there
      → with_some (writing files) EBADF (if_writes there) (λ d. transferring (writing files) (Ok count) (length bytes) 0 (λ most. write_object files (Some limit) now fd d (take most bytes) d.object))
      ≡ with_some (writing files) EBADF (if_writes there) (λ d. transferring (writing files) (Ok (min count room)) (length bytes) 0 (λ most. write_object files None now fd d (take most bytes) d.object))
  by None fits = refl
  by (Some d) fits = opened_by (writes d.flags.access) where
    opened_by : (allowed : Bool)
        → with_some (writing files) EBADF (if allowed then Some d else None) (λ d. transferring (writing files) (Ok count) (length bytes) 0 (λ most. write_object files (Some limit) now fd d (take most bytes) d.object))
        ≡ with_some (writing files) EBADF (if allowed then Some d else None) (λ d. transferring (writing files) (Ok (min count room)) (length bytes) 0 (λ most. write_object files None now fd d (take most bytes) d.object))
    opened_by false = refl
    opened_by true = fewer (writing files) count (length bytes) room 0 (λ most. write_object files (Some limit) now fd d (take most bytes) d.object) (λ most. write_object files None now fd d (take most bytes) d.object) some (λ most there within few. moves d most fits there within few)

-- Past the limit

pub past_for_node : (files : Files) (limit : ℕ) (time : ℤ) (d : Description) (node at : ℕ) (bytes : List ℕ) (after : Files → ℕ → Files) (content : Option FileContent) → d.flags.largefile ≡ false → ContentPast limit d.flags.append at content
    → write_content files (Some limit) time d node at bytes after content ≡ refused files (if is_some content then EFBIG else EBADF)
past_for_node files limit time d node at bytes after None small past = refl
past_for_node files limit time d node at bytes after (Some content) small past = content_past files limit time d node at bytes after content small past

pub file_is_ready : (position : ℕ) (content : Option FileContent) → is_some (file_rest position content) ≡ is_some content
file_is_ready position None = refl
file_is_ready position (Some content) = refl

past_for_object : (files : Files) (limit : ℕ) (time : ℤ) (fd : ℕ) (d : Description) (bytes : List ℕ) (object : Object) → d.flags.largefile ≡ false → ObjectPast files.nodes limit d.flags.append d.position object
    → write_object files (Some limit) time fd d bytes object ≡ refused (writing files) (if is_some (ready_bytes files d object) then EFBIG else EBADF)
past_for_object files limit time fd d bytes (objects.Stream stream) small past = absurd past
past_for_object files limit time fd d bytes (objects.ReadEnd pipe) small past = absurd past
past_for_object files limit time fd d bytes (objects.WriteEnd pipe) small past = absurd past
past_for_object files limit time fd d bytes (objects.Node node) small past =
    ap (widened writing) (past_for_node files limit time d node d.position bytes (λ files position. moved_to files fd d position) (file_at files.nodes node) small past)
    ∙ ap (λ (b : Bool). refused (writing files) (if b then EFBIG else EBADF)) (sym (file_is_ready d.position (file_at files.nodes node)))

pub past_moves : {S : Type 0} (state : S) (count accessible : ℕ) (file : Bool) (rest : ℕ → Did S ℕ) → ((most : ℕ) → rest most ≡ refused state (if file then EFBIG else EBADF))
    → transferring state (Ok count) accessible 0 rest ≡ record { state = state; came = past_came true file count accessible }
past_moves state count accessible file rest each = by (count == 0) (accessible == 0) file (each (min (min count accessible) transfer_limit)) where
  by : (none unreachable file : Bool) → rest (min (min count accessible) transfer_limit) ≡ refused state (if file then EFBIG else EBADF)
      → (if none then done state 0 else refused_if unreachable EFAULT state (rest (min (min count accessible) transfer_limit)))
      ≡ record { state = state; came = (if none then Done 0 else (if unreachable then Refused EFAULT else (if file then Refused EFBIG else Refused EBADF))) }
  by true unreachable file is = refl
  by false true file is = refl
  by false false true is = is
  by false false false is = is

pub past_for_write : (files : Files) (limit : ℕ) (time : ℤ) (fd count : ℕ) (writable file : Bool) (bytes : List ℕ) → IsPast files limit (λ d. d.position) writable file (opened files fd)
    → write files (Some limit) time fd (Ok count) bytes ≡ record { state = writing files; came = past_came writable file count (length bytes) }
unfolding write
past_for_write files limit time fd count writable file bytes past = by (opened files fd) past where
  by : (there : Option Description) → IsPast files limit (λ d. d.position) writable file there
      → with_some (writing files) EBADF (if_writes there) (λ d. transferring (writing files) (Ok count) (length bytes) 0 (λ most. write_object files (Some limit) time fd d (take most bytes) d.object))
      ≡ record { state = writing files; came = past_came writable file count (length bytes) }
  by None past = absurd past
  by (Some d) past = allowed_by (writes d.flags.access) writable past.allowed where
    allowed_by : (allowed writable : Bool) → allowed ≡ writable
        → with_some (writing files) EBADF (if allowed then Some d else None) (λ d. transferring (writing files) (Ok count) (length bytes) 0 (λ most. write_object files (Some limit) time fd d (take most bytes) d.object))
        ≡ record { state = writing files; came = past_came writable file count (length bytes) }
    allowed_by false false is = refl
    allowed_by true true is = past_moves (writing files) count (length bytes) file _ (λ most.
        past_for_object files limit time fd d (take most bytes) d.object past.small past.begun
        ∙ ap (λ (b : Bool). refused (writing files) (if b then EFBIG else EBADF)) past.regular)
    allowed_by true false is = absurd cc
    allowed_by false true is = absurd cc

-- Only the bytes that count do.

pub taken_twice : (bytes : List ℕ) (asked : ℕ) → let there = take (min asked (length bytes)) bytes in min asked (length there) ≡ min asked (length bytes)
taken_twice bytes asked = omega (arith, length-take (min asked (length bytes)) bytes)

pub zero_same : (asked whole part : ℕ) → (asked == 0) ≡ false → part ≡ min asked whole → (part == 0) ≡ (whole == 0)
zero_same asked zero part some is = let none : part ≡ 0 = omega arith in rw none refl
zero_same asked (suc whole) part some is =
    let there : (part == 0) ≡ false = grind (arith, nat_tests) in
    let more : (suc whole == 0) ≡ false = grind (arith, nat_tests) in
    there ∙ sym more

pub write_of_those : (files : Files) (limit : Option ℕ) (time : ℤ) (fd asked : ℕ) (bytes : List ℕ)
    → write files limit time fd (Ok asked) (take (min asked (length bytes)) bytes) ≡ write files limit time fd (Ok asked) bytes
unfolding write
write_of_those files limit time fd asked bytes = by (writable files fd) where
  moving : (d : Description) → (without : Bool) → without ≡ (asked == 0)
      → (if without then done (writing files) 0 else refused_if (length (take (min asked (length bytes)) bytes) == 0) EFAULT (writing files) (write_object files limit time fd d (take (min (min asked (length (take (min asked (length bytes)) bytes))) transfer_limit) (take (min asked (length bytes)) bytes)) d.object))
      ≡ (if without then done (writing files) 0 else refused_if (length bytes == 0) EFAULT (writing files) (write_object files limit time fd d (take (min (min asked (length bytes)) transfer_limit) bytes) d.object))
  moving d true is = refl
  moving d false is =
      let none : (length (take (min asked (length bytes)) bytes) == 0) ≡ (length bytes == 0) = zero_same asked (length bytes) (length (take (min asked (length bytes)) bytes)) (sym is) (omega (arith, length-take (min asked (length bytes)) bytes)) in
      let most = min (min asked (length bytes)) transfer_limit in
      let same : min (min asked (length (take (min asked (length bytes)) bytes))) transfer_limit ≡ most = ap (λ (n : ℕ). min n transfer_limit) (taken_twice bytes asked) in
      let few : take most (take (min asked (length bytes)) bytes) ≡ take most bytes = fewer_bytes bytes (min asked (length bytes)) most ∙ ap (λ (n : ℕ). take n bytes) (omega arith) in
      rw (none, same, few) refl

  by : (there : Option Description) → with_some (writing files) EBADF there (λ d. transferring (writing files) (Ok asked) (length (take (min asked (length bytes)) bytes)) 0 (λ most. write_object files limit time fd d (take most (take (min asked (length bytes)) bytes)) d.object))
      ≡ with_some (writing files) EBADF there (λ d. transferring (writing files) (Ok asked) (length bytes) 0 (λ most. write_object files limit time fd d (take most bytes) d.object))
  by None = refl
  by (Some d) = moving d (asked == 0) refl

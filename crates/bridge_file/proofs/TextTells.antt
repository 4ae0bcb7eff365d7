-- The calls that tell a text, as native calls.
use Rattle.std.proofs.Common.{◌≡◌, ℕ, ◌+◌, ◌-◌, ◌<◌, ◌≤◌, ◌%◌, ◌^◌, List, [], ◌∷◌, ◌++◌, length, take, drop, replicate, Option, Some, None, Ok, Err, refl, sym, ap, subst, ◌∙◌, inl, inr, append_assoc, arith, length-take, lit<}
use Rattle.std.proofs.Math.Seq.{take-append_seam, drop-append_seam}
use Rattle.std.proofs.lemmas.Bool.{cases_lt}
use Rattle.std.proofs.lemmas.Bool.Decides.{nat_tests}
use Rattle.std.proofs.lemmas.Int.{to_z_pos}
use Rattle.std.proofs.lemmas.List.{length-append, length-replicate, length-take-le}
use Rattle.std.specs.Int.{cast_signed, w32}
use Rattle.std.specs.Prelude.{Bool, true, false, ◌&&◌, is_none, nat_le, nat_lt, nat_abs, int_lt, pos, if◌then◌else◌}
use Rattle.bridge_paths.proofs.Passed.{denied-join, first_or}
use Rattle.bridge_paths.proofs.Passed.{prefix-stores}
use Rattle.guest_space.proofs.Prefixes.{denied-stands}
use Rattle.guest_space.specs.Access.{bytes_before, first_denied, writable_prefix}
use Rattle.guest_space.specs.Bytes.{copied_out}
use Rattle.guest_space.specs.Memory.{Memory, Pages}
use Rattle.guest_space.specs.declared.access.Access.TheVariants.{Store}
use Rattle.guest_space.specs.declared.access.Denied.{Denied}
use Rattle.host_mem.specs.Memory.{first_address, is_inside, replaced, written}
use Rattle.kernel_core.specs.Nodes.{target_at}
use Rattle.kernel_core.specs.declared.error.Errno.{Errno}
use Rattle.kernel_core.specs.declared.error.Errno.TheVariants.{EFAULT, EINVAL, ENOENT, ERANGE}
use Rattle.kernel_core.specs.declared.reply.Reply.{Reply}
use Rattle.kernel_model.specs.Came.{Came, Done, Refused, Waits, Did, Given, came_as, done, refused_if, told_as, with_given, with_some}
use Rattle.kernel_model.specs.NameRows.{read_link}
use Rattle.kernel_model.specs.NodeRows.{path_to, working_directory}
use Rattle.kernel_model.specs.Paths.{Base, walk_to_node}
use Rattle.kernel_model.specs.State.{Kernel, Files}
use Rattle.kernel_model.specs.Whole.{on_files}
use Rattle.native_calls.specs.Names as native_names
use Rattle.native_calls.specs.Nodes as native_nodes
use Rattle.native_calls.specs.Nodes.{with_nul}
use Rattle.native_calls.specs.Paths as host
use Rattle.native_calls.specs.Step as native_step
use Rattle.native_calls.specs.Table.{native_call}
use Rattle.o32_model.specs.GuestBytes.{is_storable, with_stored}
use Rattle.o32_model.specs.Names as names
use Rattle.o32_model.specs.NodeCalls as node_calls
use Rattle.o32_model.specs.PathArguments.{base}
use Rattle.o32_model.specs.Paths as guest_paths
use Rattle.o32_model.specs.Results.{stores_text, value_if}
use Rattle.o32_model.specs.Step.{Guest}
use Rattle.bridge_paths.proofs.Passed.{outcome_of_wake, word_stays}
use Rattle.bridge_paths.specs.Passed.{Bounded}
use Rattle.bridge_paths.proofs.Rows.{bounded_given, bounded_some, word}
use Rattle.bridge_file.proofs.Tellings.{told_of_failure, outcome_told_of_failure}
use Rattle.bridge_file.specs.declared.telling.Told.TheVariants.{Text}
use Rattle.bridge_paths.specs.Refusals.{Refuses}
use Rattle.bridge_paths.specs.HostPaths.{HasRoom}
use Rattle.bridge_file.specs.inside.Tells.{Tells, memory_told, outcome_told, outcome_stored, size_room}

-- The first bytes of a buffer can be stored exactly where they are no more than its longest prefix that can.

past_free : (pages : Pages) (address n more : ℕ) (later : Option Denied) → first_denied Store pages (address + n) more ≡ later → n ≤ bytes_before address (n + more) later
past_free pages address n more None is = omega arith
past_free pages address n more (Some denied) is =
    let from = (denied-stands Store pages more (address + n) denied is).from in omega arith

free_long : (pages : Pages) (address n more : ℕ) → first_denied Store pages address n ≡ None → n ≤ writable_prefix pages address (n + more)
unfolding writable_prefix
free_long pages address n more free =
    let joined : first_denied Store pages address (n + more) ≡ first_denied Store pages (address + n) more =
    denied-join Store pages n more address ∙ ap (λ (first : Option Denied). first_or first (first_denied Store pages (address + n) more)) free in
    subst (λ (o : Option Denied). n ≤ bytes_before address (n + more) o) (sym joined) (past_free pages address n more (first_denied Store pages (address + n) more) refl)

free_within : (pages : Pages) (address n count : ℕ) → n ≤ count → first_denied Store pages address n ≡ None → n ≤ writable_prefix pages address count
free_within pages address n count few free =
    let whole : n + (count - n) ≡ count = omega arith in
    subst (λ (c : ℕ). n ≤ writable_prefix pages address c) whole (free_long pages address n (count - n) free)

storable_by : (pages : Pages) (address n count : ℕ) (denied : Option Denied) → n ≤ count → first_denied Store pages address n ≡ denied → is_none denied ≡ nat_le n (writable_prefix pages address count)
storable_by pages address n count None few is =
    let within = free_within pages address n count few is in grind (arith, nat_tests)
storable_by pages address n count (Some denied) few is =
    elim (cases_lt (writable_prefix pages address count) n) [
      | inl past ↦ grind (arith, nat_tests)
      | inr within ↦ absurd (let none = prefix-stores pages address count n within in let e : None ≡ Some denied = sym none ∙ is in cc)
    ]

pub storable_is : (memory : Memory) (address n count : ℕ) → n ≤ count → is_storable memory address n ≡ nat_le n (writable_prefix memory.pages address count)
storable_is memory address n count few = storable_by memory.pages address n count (first_denied Store memory.pages address n) few refl

-- So they can be where there is room in host memory for them.

inside_by : (size place room at n : ℕ) → size ≡ place + room → at ≡ 65536 + place → (nat_le 65536 at && nat_le (at + n) (65536 + size)) ≡ nat_le n room
inside_by size place room at n whole from = grind (arith, nat_tests)

inside_is : (memory : List ℕ) (at room n : ℕ) → HasRoom memory at room → is_inside memory at n ≡ nat_le n room
inside_is memory at room n has =
    let long : length memory ≡ length has.front + room =
    ap length has.stands ∙ length-append has.front (replicate room 0) ∙ ap (λ (k : ℕ). length has.front + k) (length-replicate {A = ℕ} room 0) in
    inside_by (length memory) (length has.front) room at n long has.from

drop_front : (n : ℕ) (front rest : List ℕ) → length front ≡ n → drop n (front ++ rest) ≡ rest
drop_front n front rest is = rw (← is) (drop-append_seam front rest)

replaced_back : (place : ℕ) (memory bytes : List ℕ) → place ≤ length memory → take (length bytes) (drop place (replaced memory place bytes)) ≡ bytes
replaced_back place memory bytes within =
    ap (λ (m : List ℕ). take (length bytes) (drop place m)) (append_assoc (take place memory) bytes (drop (place + length bytes) memory))
    ∙ ap (take (length bytes)) (drop_front place (take place memory) (bytes ++ drop (place + length bytes) memory) (length-take-le place memory within))
    ∙ take-append_seam bytes (drop (place + length bytes) memory)

written_back : (memory bytes : List ℕ) (at room : ℕ) → HasRoom memory at room → is_inside memory at (length bytes) ≡ true → take (length bytes) (drop (at - first_address) (written memory at bytes)) ≡ bytes
written_back memory bytes at room has inside =
    let long : length memory ≡ length has.front + room =
    ap length has.stands ∙ length-append has.front (replicate room 0) ∙ ap (λ (k : ℕ). length has.front + k) (length-replicate {A = ℕ} room 0) in
    let within : at - 65536 ≤ length memory = omega (arith, long, has.from) in
    ap (λ (b : Bool). take (length bytes) (drop (at - first_address) (if b then replaced memory (at - first_address) bytes else memory))) inside
    ∙ replaced_back (at - first_address) memory bytes within

-- A text that is no longer than `count` bytes

module _ (guest : Guest) (kernel : Kernel) (address count at : ℕ) (memory left : List ℕ) (short : count < 2 ^ 32)
    (has : HasRoom memory at (writable_prefix guest.memory.pages address count)) where
  abbrev replied : List ℕ → Bool → Reply
  replied bytes fits = if fits then native_step.value (length bytes) else native_step.failure EFAULT

  text_by : (bytes : List ℕ) (fits : Bool) → length bytes ≤ count → is_inside memory at (length bytes) ≡ fits → is_storable guest.memory address (length bytes) ≡ fits
      → Tells guest address (Text at) (native_step.counts memory at (done kernel bytes) left) (stores_text guest address (done kernel bytes) left)
  text_by bytes true few inside storable =
      let back = written_back memory bytes at _ has inside in
      record {
        kernel = refl;
        left = refl;
        native_sends = refl;
        sends = refl;
        stored_so =
            sym (ap (λ (b : Bool). memory_told guest.memory address (Text at) (written memory at bytes) (replied bytes b)) inside
            ∙ ap (with_stored guest.memory address) back);
        set = refl;
        came =
            sym (ap (λ (b : Bool). outcome_told guest.words guest.memory address (Text at) (written memory at bytes) (replied bytes b)) inside
            ∙ ap (λ (b : List ℕ). outcome_stored guest.memory address b (length bytes % 2 ^ 32)) back
            ∙ ap (outcome_stored guest.memory address bytes) (word_stays (length bytes) (omega arith)));
      }
  text_by bytes false few inside storable = record {
    kernel = refl;
    left = refl;
    native_sends = refl;
    sends = refl;
    stored_so =
        ap (λ (b : Bool). if b then copied_out guest.memory address bytes else guest.memory) storable
        ∙ sym (ap (λ (b : Bool). memory_told guest.memory address (Text at) (written memory at bytes) (replied bytes b)) inside
        ∙ told_of_failure guest.memory address (Text at) (written memory at bytes) EFAULT);
    set = refl;
    came =
        ap (λ (b : Bool). value_if b (length bytes)) storable
        ∙ sym (ap (λ (b : Bool). outcome_told guest.words guest.memory address (Text at) (written memory at bytes) (replied bytes b)) inside
        ∙ outcome_told_of_failure guest.words guest.memory address (Text at) (written memory at bytes) EFAULT);
  }

  text_came : (came : Came (List ℕ)) → Bounded (λ bytes. length bytes ≤ count) came
      → Tells guest address (Text at) (native_step.counts memory at (record { state = kernel; came = came }) left) (stores_text guest address (record { state = kernel; came = came }) left)
  text_came (Done bytes) few =
      text_by bytes (is_inside memory at (length bytes)) few refl
      (storable_is guest.memory address (length bytes) count few ∙ sym (inside_is memory at (writable_prefix guest.memory.pages address count) (length bytes) has))
  text_came (Refused error) few = record {
    kernel = refl;
    left = refl;
    native_sends = refl;
    sends = refl;
    stored_so = sym (told_of_failure guest.memory address (Text at) memory error);
    set = refl;
    came = sym (outcome_told_of_failure guest.words guest.memory address (Text at) memory error);
  }
  text_came (Waits wake) few = record {
    kernel = refl;
    left = refl;
    native_sends = refl;
    sends = refl;
    stored_so = refl;
    set = refl;
    came = sym (outcome_of_wake guest.words wake few);
  }

-- both calls tell what a row came to
text_tells : (guest : Guest) (did given there : Did Kernel (List ℕ)) (address count at : ℕ) (memory left : List ℕ) → given ≡ did → there ≡ did → count < 2 ^ 32
    → HasRoom memory at (writable_prefix guest.memory.pages address count) → Bounded (λ bytes. length bytes ≤ count) did.came
    → Tells guest address (Text at) (native_step.counts memory at given left) (stores_text guest address there left)
text_tells guest did given there address count at memory left same also short has few =
    subst (λ (d : Did Kernel (List ℕ)). Tells guest address (Text at) (native_step.counts memory at given left) (stores_text guest address d left)) (sym also)
    (subst (λ (d : Did Kernel (List ℕ)). Tells guest address (Text at) (native_step.counts memory at d left) (stores_text guest address did left)) (sym same)
    (text_came guest did.state address count at memory left short has did.came few))

-- The working directory

bounded_as : {V W : Type 0} (P : W → Type 0) (meaning : V → W) (came : Came V) → Bounded (λ v. P (meaning v)) came → Bounded P (came_as meaning came)
bounded_as P meaning (Done found) bounded = bounded
bounded_as P meaning (Refused error) bounded = tt
bounded_as P meaning (Waits wake) bounded = bounded

cwd_path : (files : Files) (size : ℕ) (path : List ℕ) (long : Bool) → nat_lt size (length path + 1) ≡ long
    → Bounded (λ (p : List ℕ). length (p ++ 0 ∷ []) ≤ size) (refused_if long ERANGE files (done files path)).came
cwd_path files size path true is = tt
cwd_path files size path false is =
    let joined : length (path ++ 0 ∷ []) ≡ length path + 1 = length-append path (0 ∷ []) in grind (arith, nat_tests)

cwd_within : (files : Files) (size : ℕ) → Bounded (λ bytes. length bytes ≤ size) (came_as with_nul (working_directory files size).came)
unfolding working_directory
cwd_within files size =
    bounded_as (λ bytes. length bytes ≤ size) with_nul _
    (bounded_some (λ (p : List ℕ). length (p ++ 0 ∷ []) ≤ size) files ENOENT (path_to files.nodes files.directory) _ (λ path. cwd_path files size path (nat_lt size (length path + 1)) refl))

abbrev cwd_as : Kernel → ℕ → Did Kernel (List ℕ)
cwd_as kernel size = told_as with_nul (on_files kernel (working_directory kernel.files size))

pub getcwd_tells : (guest : Guest) (kernel : Kernel) (buffer given size : ℕ) (memory left : List ℕ) → given ≡ size → size < 2 ^ 32 → memory ≡ replicate (writable_prefix guest.memory.pages buffer size) 0
    → Tells guest buffer (Text 65536) (native_call 17 (65536 ∷ given ∷ 0 ∷ 0 ∷ 0 ∷ 0 ∷ []) kernel memory left) (node_calls.getcwd_row kernel guest buffer size left)
unfolding native_nodes.getcwd_row node_calls.getcwd_row
getcwd_tells guest kernel buffer given size memory left same short room =
    text_tells guest (cwd_as kernel size) (cwd_as kernel given) (cwd_as kernel size) buffer size 65536 memory left (ap (cwd_as kernel) same) refl short
    (record { front = []; stands = room; from = refl }) (cwd_within kernel.files size)

-- Links

below_one : (size : ℕ) → nat_lt size (2 ^ 31) ≡ false → int_lt (cast_signed w32 size) (pos 1) ≡ true
below_one size test = rw test refl

text_size : (target : List ℕ) (size : ℕ) (below small : Bool) → int_lt (cast_signed w32 size) (pos 1) ≡ below → nat_lt size (2 ^ 31) ≡ small → below ≡ false
    → length (take (nat_abs (cast_signed w32 size)) target) ≤ (if small then size else 0)
text_size target size below true is less some =
    let signed : cast_signed w32 size ≡ pos size = to_z_pos w32 size (grind (arith, nat_tests)) in
    rw signed (omega (arith, length-take size target))
text_size target size below false is less some = absurd (let e : true ≡ false = sym (below_one size less) ∙ is ∙ some in cc)

link_text : (files : Files) (target : List ℕ) (size : ℕ) (below : Bool) → int_lt (cast_signed w32 size) (pos 1) ≡ below → below ≡ false
    → length (take (nat_abs (cast_signed w32 size)) target) ≤ size_room size
link_text files target size below is some = text_size target size below (nat_lt size (2 ^ 31)) is refl some

link_by : (files : Files) (base : Base) (path : List ℕ) (size : ℕ) (below : Bool) → int_lt (cast_signed w32 size) (pos 1) ≡ below
    → Bounded (λ bytes. length bytes ≤ size_room size)
    (refused_if below EINVAL files (
    with_given files (walk_to_node files base path false) (λ node.
    with_some files EINVAL (target_at files.nodes node) (λ target.
    done files (take (nat_abs (cast_signed w32 size)) target))))).came
link_by files base path size true is = tt
link_by files base path size false is =
    bounded_given (λ bytes. length bytes ≤ size_room size) files (walk_to_node files base path false) _ (λ node.
    bounded_some (λ bytes. length bytes ≤ size_room size) files EINVAL (target_at files.nodes node) _ (λ target.
    link_text files target size false is refl))

link_within : (files : Files) (base : Base) (path : List ℕ) (size : ℕ) → Bounded (λ bytes. length bytes ≤ size_room size) (read_link files base (Ok path) (cast_signed w32 size)).came
unfolding read_link
link_within files base path size = link_by files base path size (int_lt (cast_signed w32 size) (pos 1)) refl

room_short : (size : ℕ) (small : Bool) → size < 2 ^ 32 → (if small then size else 0) < 2 ^ 32
room_short size true short = short
room_short size false short = lit< tt

abbrev link_as : Kernel → ℕ → ℕ → Given (List ℕ) → Did Kernel (List ℕ)
link_as kernel from size path = on_files kernel (read_link kernel.files (base from) path (cast_signed w32 size))

pub readlink_tells : (guest : Guest) (kernel : Kernel) (address buffer at given_from given_size from size : ℕ) (path memory left : List ℕ) → given_from ≡ from → given_size ≡ size → from < 2 ^ 32 → size < 2 ^ 32
    → guest_paths.path_at guest.memory address ≡ Ok path → host.path_at memory 65536 ≡ Ok path → HasRoom memory at (writable_prefix guest.memory.pages buffer (size_room size))
    → Tells guest buffer (Text at) (native_call 78 (given_from ∷ 65536 ∷ at ∷ given_size ∷ 0 ∷ 0 ∷ []) kernel memory left) (names.readlink_row kernel guest (base from) address buffer (cast_signed w32 size) left)
unfolding native_names.readlinkat_row names.readlink_row
readlink_tells guest kernel address buffer at given_from given_size from size path memory left one two first second there here has =
    let e1 = word given_from from one first in
    let e2 = word given_size size two second in
    text_tells guest (link_as kernel from size (Ok path)) (link_as kernel (given_from % 2 ^ 32) (given_size % 2 ^ 32) (host.path_at memory 65536)) (link_as kernel from size (guest_paths.path_at guest.memory address))
    buffer (size_room size) at memory left (λ i. link_as kernel (e1 i) (e2 i) (here i)) (ap (link_as kernel from size) there) (room_short size (nat_lt size (2 ^ 31)) second) has (link_within kernel.files (base from) path size)

pub readlink_lost : (guest : Guest) (kernel : Kernel) (from address buffer size : ℕ) (error : Errno) (left : List ℕ) → guest_paths.path_at guest.memory address ≡ Err error
    → Refuses guest kernel error left (names.readlink_row kernel guest (base from) address buffer (cast_signed w32 size) left)
unfolding names.readlink_row read_link
readlink_lost guest kernel from address buffer size error left there =
    ap (λ (p : Given (List ℕ)). stores_text guest buffer (link_as kernel from size p) left) there

-- The opening of files: what limits it, and as native calls.
use Rattle.std.proofs.Common.{◌≡◌, ℕ, ◌+◌, ◌≤◌, ◌<◌, ◌^◌, ◌/◌, ◌%◌, ◌-◌, ◌⊎◌, List, [], ◌∷◌, length, drop, replicate, Option, Some, None, Ok, Err, refl, sym, ap, subst, ◌∙◌, inl, inr, arith, length-drop, Result, IsErr}
use Rattle.std.proofs.lemmas.Bool.Decides.{nat_tests}
use Rattle.std.proofs.lemmas.List.Quantifiers.{position-Some}
use Rattle.std.specs.FinMap.{get}
use Rattle.std.specs.Prelude.{ℤ, Bool, true, false, ◌==◌, ◌&&◌, ◌||◌, not, IsTrue, is_none, nat_lt, ok_or, option_map, position, if◌then◌else◌}
use Rattle.kernel_core.specs.Bits.{has, one_if}
use Rattle.kernel_core.specs.FileContent.{FileContent}
use Rattle.kernel_core.specs.FileSystem.{IsFileSystem, IsLiveContent}
use Rattle.kernel_core.specs.NodeCalls.{content_size}
use Rattle.kernel_core.specs.NameCalls.{make_refusal}
use Rattle.kernel_core.specs.Nodes.{Inode, NodeContent, Nodes, File, Directory, Link}
use Rattle.kernel_core.specs.OpenSet.{OpenSet}
use Rattle.kernel_core.specs.PathWalk.{Place}
use Rattle.kernel_core.specs.Queries.{new_number}
use Rattle.guest_space.specs.Memory.{Memory}
use Rattle.kernel_core.specs.declared.core_error.Stop.{Stop}
use Rattle.kernel_core.specs.declared.error.Errno.{Errno}
use Rattle.kernel_core.specs.declared.error.Errno.TheVariants.{EEXIST, EINVAL, EMFILE, ENOENT, ENOTDIR, EOVERFLOW}
use Rattle.kernel_core.specs.declared.open_flags.Access.{Access}
use Rattle.kernel_core.specs.declared.open_flags.Access.TheVariants.{Read, Write, ReadWrite}
use Rattle.kernel_model.specs.Came.{Did, Given, done, refused, refused_by, refused_if, with_given, with_some}
use Rattle.kernel_model.specs.Clock.{now}
use Rattle.kernel_model.specs.Opening.{after_open, create, follows, is_larger, kind_refusal, open_file, open_node, open_place, truncated}
use Rattle.kernel_model.specs.Paths.{Base, node_found, walk, is_missing_before_slash}
use Rattle.kernel_model.specs.State.{Kernel, Files}
use Rattle.kernel_model.specs.Table.{lowest_free}
use Rattle.kernel_model.specs.Transfers.{limit_for}
use Rattle.kernel_model.specs.Whole.{marked, on_files}
use Rattle.mips_exec.specs.Processor.{Processor}
use Rattle.native_calls.specs.Names as native
use Rattle.native_calls.specs.Paths as host
use Rattle.native_calls.specs.Step as native_step
use Rattle.native_calls.specs.Table.{native_call}
use Rattle.number_tables.specs.OpenNumbers.{access_number, is_synced, native_open, open_of_native}
use Rattle.number_tables.specs.inside.OpenLaws.{native_open_found}
use Rattle.o32_model.specs.Answered.{Answers, Stopped}
use Rattle.o32_model.specs.Opening as o32
use Rattle.o32_model.specs.PathArguments.{base}
use Rattle.o32_model.specs.Paths as guest_paths
use Rattle.o32_model.specs.Step as o32_step
use Rattle.o32_model.specs.Step.{Guest}
use Rattle.o32_model.specs.Transfers.{small_file_limit}
use Rattle.o32_model.specs.declared.outcome.Outcome.{Outcome}
use Rattle.outside.specs.Streams.{Contents}
use Rattle.bridge_paths.specs.Passed.{AreUnusedZero}
use Rattle.bridge_paths.specs.Passed.{Bounded}
use Rattle.bridge_paths.specs.Passed.{Mirrors}
use Rattle.bridge_paths.specs.Passed.{by_reply}
use Rattle.bridge_paths.proofs.Rows.{bounded_by, bounded_given, bounded_if, same_gives, word}
use Rattle.bridge_open.specs.inside.Openings.{IsTooLarge, Unlimited, is_unlimited, size_in, size_led, size_of, told_large}
use Rattle.bridge_paths.specs.Refusals.{Refuses}

-- Where nothing limits it

abbrev Small : OpenSet → ℕ → Type 0
Small flags size = (flags.directory ≡ true) ⊎ ((flags.largefile ≡ true) ⊎ (size ≤ small_file_limit))

none_larger : (large : Bool) (size : ℕ) → is_larger (limit_for None large) size ≡ false
none_larger true size = refl
none_larger false size = refl

small_larger : (large : Bool) (size : ℕ) → size ≤ small_file_limit → is_larger (limit_for (Some small_file_limit) large) size ≡ false
small_larger true size small = refl
small_larger false size small = grind (arith, nat_tests)

file_kind : Bool → Bool → Option Errno
file_kind directory larger = if directory then Some ENOTDIR else (if larger then Some EOVERFLOW else None)

kind_file : (flags : OpenSet) (content : FileContent) → Small flags content.size → kind_refusal (Some small_file_limit) flags (Some (File content)) ≡ kind_refusal None flags (Some (File content))
unfolding file_kind
kind_file flags content (inl directory) =
    ap (λ (d : Bool). file_kind d (is_larger (limit_for (Some small_file_limit) flags.largefile) content.size)) directory
    ∙ sym (ap (λ (d : Bool). file_kind d (is_larger (limit_for None flags.largefile) content.size)) directory)
kind_file flags content (inr (inl large)) =
    ap (λ (l : Bool). file_kind flags.directory (is_larger (limit_for (Some small_file_limit) l) content.size)) large
    ∙ sym (ap (λ (l : Bool). file_kind flags.directory (is_larger (limit_for None l) content.size)) large)
kind_file flags content (inr (inr small)) =
    ap (file_kind flags.directory) (small_larger flags.largefile content.size small ∙ sym (none_larger flags.largefile content.size))

kind_content : (flags : OpenSet) (content : NodeContent) → Small flags (content_size content) → kind_refusal (Some small_file_limit) flags (Some content) ≡ kind_refusal None flags (Some content)
kind_content flags (File content) small = kind_file flags content small
kind_content flags (Directory listing) small = refl
kind_content flags (Link target) small = refl

kind_in : (flags : OpenSet) (there : Option Inode) → Small flags (size_in there)
    → kind_refusal (Some small_file_limit) flags (option_map (λ i. i.content) there) ≡ kind_refusal None flags (option_map (λ i. i.content) there)
kind_in flags None small = refl
kind_in flags (Some inode) small = kind_content flags inode.content small

abbrev Free : OpenSet → ℕ → Type 0
Free flags size = ((flags.creat && flags.excl) ≡ true) ⊎ Small flags size

module _ (files : Files) (now : ℤ) (path : List ℕ) (flags : OpenSet) (mode : ℕ) where
  by_kind : ℕ → ℕ → Bool → Option Errno → Did Files ℕ
  by_kind fd node makes error = refused_if makes EEXIST files (refused_by error files (done (after_open (truncated files now flags node) flags fd node) fd))

  node_same : (fd node : ℕ) → Free flags (size_in (get files.nodes node)) → open_node files (Some small_file_limit) now flags fd node ≡ open_node files None now flags fd node
  unfolding by_kind
  node_same fd node (inl makes) =
      ap (λ (m : Bool). by_kind fd node m (kind_refusal (Some small_file_limit) flags (option_map (λ i. i.content) (get files.nodes node)))) makes
      ∙ sym (ap (λ (m : Bool). by_kind fd node m (kind_refusal None flags (option_map (λ i. i.content) (get files.nodes node)))) makes)
  node_same fd node (inr small) = ap (by_kind fd node (flags.creat && flags.excl)) (kind_in flags (get files.nodes node) small)

  place_same : (fd : ℕ) (place : Place) (there : Option ℕ) → ((node : ℕ) → there ≡ Some node → Free flags (size_in (get files.nodes node)))
      → open_place files (Some small_file_limit) now path flags mode fd place there ≡ open_place files None now path flags mode fd place there
  place_same fd place None free = refl
  place_same fd place (Some node) free = node_same fd node (free node refl)

  found_same : (fd : ℕ) (there : Given Place) → ((place : Place) (node : ℕ) → there ≡ Ok place → place.node ≡ Some node → Free flags (size_in (get files.nodes node)))
      → with_given files there (λ place. open_place files (Some small_file_limit) now path flags mode fd place place.node) ≡ with_given files there (λ place. open_place files None now path flags mode fd place place.node)
  found_same fd (Err error) free = refl
  found_same fd (Ok place) free = place_same fd place place.node (λ node is. free place node refl is)

some_same : (files : Files) (there : Option ℕ) (one other : ℕ → Did Files ℕ) → ((fd : ℕ) → one fd ≡ other fd) → with_some files EMFILE there one ≡ with_some files EMFILE there other
some_same files None one other same = refl
some_same files (Some fd) one other same = same fd

unlimited : (files : Files) (from : Base) (path : List ℕ) (flags : OpenSet) → ((place : Place) (node : ℕ) → walk files from path (follows flags) ≡ Ok place → place.node ≡ Some node → Free flags (size_in (get files.nodes node)))
    → Unlimited files from path flags
unfolding open_file
unlimited files from path flags free = λ now mode.
    ap (refused_if (flags.creat && flags.directory) EINVAL files)
    (some_same files (lowest_free files.table.fds 0) _ _ (λ fd. found_same files now path flags mode fd (walk files from path (follows flags)) free))

free_by : (large directory makes : Bool) → (large || (directory || makes)) ≡ true → (makes ≡ true) ⊎ ((directory ≡ true) ⊎ (large ≡ true))
free_by true directory makes is = inr (inr refl)
free_by false true makes is = inr (inl refl)
free_by false false makes is = inl is

pub unlimited_by_flags : (files : Files) (from : Base) (path : List ℕ) (flags : OpenSet) → is_unlimited flags ≡ true → Unlimited files from path flags
unlimited_by_flags files from path flags is =
    unlimited files from path flags (λ place node walked there.
    elim (free_by flags.largefile flags.directory (flags.creat && flags.excl) is) [
      | inl makes ↦ inl makes
      | inr (inl directory) ↦ inr (inl directory)
      | inr (inr large) ↦ inr (inr (inl large))
    ])

led_is : (files : Files) (from : Base) (path : List ℕ) (follow : Bool) (place : Place) (node : ℕ) → walk files from path follow ≡ Ok place → place.node ≡ Some node → size_led files from path follow ≡ size_in (get files.nodes node)
led_is files from path follow place node walked there =
    ap (λ (w : Given Place). size_of files.nodes (node_found w)) walked ∙ ap (λ (n : Option ℕ). size_of files.nodes (ok_or n ENOENT)) there

pub unlimited_by_size : (files : Files) (from : Base) (path : List ℕ) (flags : OpenSet) → size_led files from path (follows flags) ≤ small_file_limit → Unlimited files from path flags
unlimited_by_size files from path flags small =
    unlimited files from path flags (λ place node walked there.
    inr (inr (inr (subst (λ (n : ℕ). n ≤ small_file_limit) (led_is files from path (follows flags) place node walked there) small))))

-- Where it is too large

large_content : (nodes : Nodes) (number links : ℕ) (flags : OpenSet) (content : NodeContent) → IsLiveContent nodes number links content → flags.directory ≡ false → flags.largefile ≡ false → small_file_limit < content_size content
    → kind_refusal (Some small_file_limit) flags (Some content) ≡ Some EOVERFLOW
unfolding file_kind
large_content nodes number links flags (File content) live directory large past =
    let larger : nat_lt small_file_limit content.size ≡ true = grind (arith, nat_tests) in
    ap (λ (d : Bool). file_kind d (is_larger (limit_for (Some small_file_limit) flags.largefile) content.size)) directory
    ∙ ap (λ (l : Bool). file_kind false (is_larger (limit_for (Some small_file_limit) l) content.size)) large
    ∙ ap (file_kind false) larger
large_content nodes number links flags (Directory listing) live directory large past = absurd (omega arith)
large_content nodes number links flags (Link target) live directory large past = absurd (omega (arith, live.0.short))

module _ (files : Files) (valid : IsFileSystem files.nodes) (now : ℤ) (path : List ℕ) (flags : OpenSet) (mode : ℕ)
    (directory : flags.directory ≡ false) (large : flags.largefile ≡ false) (makes : (flags.creat && flags.excl) ≡ false) where
  large_node : (fd node : ℕ) (there : Option Inode) → get files.nodes node ≡ there → small_file_limit < size_in there → open_node files (Some small_file_limit) now flags fd node ≡ refused files EOVERFLOW
  unfolding by_kind
  large_node fd node None is past = absurd (omega arith)
  large_node fd node (Some inode) is past =
      ap (λ (m : Bool). by_kind files now path flags mode fd node m (kind_refusal (Some small_file_limit) flags (option_map (λ i. i.content) (get files.nodes node)))) makes
      ∙ ap (λ (g : Option Inode). by_kind files now path flags mode fd node false (kind_refusal (Some small_file_limit) flags (option_map (λ i. i.content) g))) is
      ∙ ap (by_kind files now path flags mode fd node false) (large_content files.nodes node inode.links flags inode.content (valid.each node inode is).content directory large past)

  large_place : (fd : ℕ) (place : Place) (there : Option ℕ) → small_file_limit < size_of files.nodes (ok_or there ENOENT) → open_place files (Some small_file_limit) now path flags mode fd place there ≡ refused files EOVERFLOW
  large_place fd place None past = absurd (omega arith)
  large_place fd place (Some node) past = large_node fd node (get files.nodes node) refl past

  large_found : (fd : ℕ) (there : Given Place) → small_file_limit < size_of files.nodes (node_found there) → with_given files there (λ place. open_place files (Some small_file_limit) now path flags mode fd place place.node) ≡ refused files EOVERFLOW
  large_found fd (Err error) past = absurd (omega arith)
  large_found fd (Ok place) past = large_place fd place place.node past

no_and : (one other : Bool) → other ≡ false → (one && other) ≡ false
no_and true other none = none
no_and false other none = refl

limited_by : (large directory makes : Bool) → (large || (directory || makes)) ≡ false → (large ≡ false) × (directory ≡ false) × (makes ≡ false)
limited_by true directory makes is = absurd cc
limited_by false true makes is = absurd cc
limited_by false false makes is = (refl, refl, is)

pub too_large : (files : Files) (from : Base) (path : List ℕ) (flags : OpenSet) → IsFileSystem files.nodes → is_unlimited flags ≡ false → small_file_limit < size_led files from path (follows flags) → IsTooLarge files from path flags
unfolding open_file
too_large files from path flags valid limited past = λ now mode.
    let parts = limited_by flags.largefile flags.directory (flags.creat && flags.excl) limited in
    ap (λ (b : Bool). refused_if b EINVAL files (with_some files EMFILE (lowest_free files.table.fds 0) (λ fd.
    with_given files (walk files from path (follows flags)) (λ place. open_place files (Some small_file_limit) now path flags mode fd place place.node)))) (no_and flags.creat flags.directory parts.1)
    ∙ some_same files (lowest_free files.table.fds 0) _ _ (λ fd. large_found files valid now path flags mode parts.1 parts.0 parts.2 fd (walk files from path (follows flags)) past)

-- A free descriptor lies below the number of places.

free_below : {A : Type 0} (slots : List (Option A)) (from new : ℕ) (at : Option ℕ) → position (λ s. is_none s) (drop from slots) ≡ at → option_map (λ k. from + k) at ≡ Some new → new < length slots
free_below slots from new None found same = absurd cc
free_below slots from new (Some k) found same =
    let inside = (position-Some (λ s. is_none s) (drop from slots) k None found).0 in
    let is : from + k ≡ new = cc in
    omega (arith, length-drop from slots)

bounded_free : {A : Type 0} (files : Files) (slots : List (Option A)) (there : Option ℕ) (rest : ℕ → Did Files ℕ) → lowest_free slots 0 ≡ there → length slots ≡ 1024 → ((fd : ℕ) → fd < 2 ^ 32 → Bounded (λ n. n < 2 ^ 32) (rest fd).came)
    → Bounded (λ n. n < 2 ^ 32) (with_some files EMFILE there rest).came
bounded_free files slots None rest is whole each = tt
bounded_free files slots (Some fd) rest is whole each =
    let below = free_below slots 0 fd (position (λ s. is_none s) (drop 0 slots)) refl is in each fd (omega arith)

place_bounded : (files : Files) (limit : Option ℕ) (now : ℤ) (path : List ℕ) (flags : OpenSet) (mode fd : ℕ) (place : Place) (there : Option ℕ) → fd < 2 ^ 32
    → Bounded (λ n. n < 2 ^ 32) (open_place files limit now path flags mode fd place there).came
place_bounded files limit now path flags mode fd place None short =
    bounded_if (λ n. n < 2 ^ 32) _ ENOENT files _
    (bounded_if (λ n. n < 2 ^ 32) (is_missing_before_slash path place) ENOENT files _
    (bounded_by (λ n. n < 2 ^ 32) (make_refusal files.nodes place) files _ short))
place_bounded files limit now path flags mode fd place (Some node) short =
    bounded_if (λ n. n < 2 ^ 32) (flags.creat && flags.excl) EEXIST files _
    (bounded_by (λ n. n < 2 ^ 32) (kind_refusal limit flags (option_map (λ i. i.content) (get files.nodes node))) files _ short)

open_bounded : (files : Files) (limit : Option ℕ) (now : ℤ) (from : Base) (path : List ℕ) (flags : OpenSet) (mode : ℕ) → length files.table.fds ≡ 1024
    → Bounded (λ n. n < 2 ^ 32) (open_file files limit now from (Ok path) (Some flags) mode).came
unfolding open_file
open_bounded files limit now from path flags mode whole =
    bounded_if (λ n. n < 2 ^ 32) (flags.creat && flags.directory) EINVAL files _
    (bounded_free files files.table.fds (lowest_free files.table.fds 0) _ refl whole (λ fd short.
    bounded_given (λ n. n < 2 ^ 32) files (walk files from path (follows flags)) _ (λ place. place_bounded files limit now path flags mode fd place place.node short)))

-- The calls

one_if-le : (b : Bool) → one_if b ≤ 1
one_if-le true = omega arith
one_if-le false = omega arith

access-le : (access : Access) → access_number access ≤ 2
access-le Read = omega arith
access-le Write = omega arith
access-le ReadWrite = omega arith

flags_short : (flags : OpenSet) → native_open flags < 2 ^ 32
flags_short flags =
    omega (
      arith,
      access-le flags.access,
      one_if-le flags.append,
      one_if-le flags.dsync,
      one_if-le flags.nonblock,
      one_if-le flags.creat,
      one_if-le flags.trunc,
      one_if-le flags.excl,
      one_if-le flags.noctty,
      one_if-le flags.largefile,
      one_if-le flags.sync,
      one_if-le flags.directory,
      one_if-le flags.nofollow,
      one_if-le flags.cloexec,
    )

-- without CREAT a mode is not looked at

handed_short : (creat : Bool) (mode : ℕ) → mode < 2 ^ 32 → (if creat then mode else 0) < 2 ^ 32
handed_short true mode short = short
handed_short false mode short = omega arith

place_any : (files : Files) (limit : Option ℕ) (now : ℤ) (path : List ℕ) (flags : OpenSet) (mode fd : ℕ) (place : Place) (there : Option ℕ)
    → open_place files limit now path flags (if flags.creat then mode else 0) fd place there ≡ open_place files limit now path flags mode fd place there
place_any files limit now path flags mode fd place None =
    by flags.creat (λ m.
    refused_if (is_missing_before_slash path place) ENOENT files (
    refused_by (make_refusal files.nodes place) files (
    done (after_open (create files now m place) flags fd (new_number files.nodes)) fd))) where
      by : (creat : Bool) (rest : ℕ → Did Files ℕ) → refused_if (not creat) ENOENT files (rest (if creat then mode else 0)) ≡ refused_if (not creat) ENOENT files (rest mode)
      by true rest = refl
      by false rest = refl
place_any files limit now path flags mode fd place (Some node) = refl

mode_unused : (files : Files) (limit : Option ℕ) (now : ℤ) (from : Base) (path : List ℕ) (flags : OpenSet) (mode : ℕ)
    → open_file files limit now from (Ok path) (Some flags) (if flags.creat then mode else 0) ≡ open_file files limit now from (Ok path) (Some flags) mode
unfolding open_file
mode_unused files limit now from path flags mode =
    λ i. refused_if (flags.creat && flags.directory) EINVAL files (
    with_some files EMFILE (lowest_free files.table.fds 0) (λ fd.
    with_given files (walk files from path (follows flags)) (λ place.
    place_any files limit now path flags mode fd place place.node i)))

-- and is handed on as 0

create_again : (creat : Bool) (bit : ℕ) → bit ≡ one_if creat → (bit == 1) ≡ creat
create_again true bit same = rw same
create_again false bit same = rw same

pub creat_is : (flags : OpenSet) → has (native_open flags) 0x40 ≡ flags.creat
creat_is flags =
    create_again flags.creat (native_open flags / 0x40 % 2)
    (omega (
      arith,
      access-le flags.access,
      one_if-le flags.append,
      one_if-le flags.dsync,
      one_if-le flags.nonblock,
      one_if-le flags.creat,
      one_if-le flags.trunc,
      one_if-le flags.excl,
      one_if-le flags.noctty,
      one_if-le flags.largefile,
      one_if-le flags.sync,
      one_if-le flags.directory,
      one_if-le flags.nofollow,
      one_if-le flags.cloexec,
    ))

handed_unused : (creat : Bool) (first second third fourth mode : ℕ) → fourth ≡ (if creat then mode else 0)
    → drop (if creat then 4 else 3) (first ∷ second ∷ third ∷ fourth ∷ 0 ∷ 0 ∷ []) ≡ replicate (6 - (if creat then 4 else 3)) 0
handed_unused true first second third fourth mode is = refl
handed_unused false first second third fourth mode is = ap (λ (n : ℕ). n ∷ 0 ∷ 0 ∷ []) is

pub open_unused : (first second third fourth mode : ℕ) (flags : OpenSet) → third ≡ native_open flags → fourth ≡ (if flags.creat then mode else 0)
    → AreUnusedZero 56 (first ∷ second ∷ third ∷ fourth ∷ 0 ∷ 0 ∷ [])
open_unused first second third fourth mode flags third_is fourth_is =
    let creat : has (third % 2 ^ 32) 0x40 ≡ flags.creat = ap (λ (n : ℕ). has n 0x40) (word third (native_open flags) third_is (flags_short flags)) ∙ creat_is flags in
    subst (λ (b : Bool). drop (if b then 4 else 3) (first ∷ second ∷ third ∷ fourth ∷ 0 ∷ 0 ∷ []) ≡ replicate (6 - (if b then 4 else 3)) 0) (sym creat)
    (handed_unused flags.creat first second third fourth mode fourth_is)

abbrev open_as : Kernel → Option ℕ → ℕ → Given (List ℕ) → Option OpenSet → ℕ → Did Kernel ℕ
open_as kernel limit from path flags mode = marked kernel (λ files now. open_file files limit now (base from) path flags mode)

pub open_mirrors : (guest : Guest) (kernel : Kernel) (address given_from given_flags given_mode from mode : ℕ) (flags : OpenSet) (path memory left : List ℕ) → length kernel.files.table.fds ≡ 1024 → IsTrue (is_synced flags)
    → given_from ≡ from → given_flags ≡ native_open flags → given_mode ≡ (if flags.creat then mode else 0) → from < 2 ^ 32 → mode < 2 ^ 32 → guest_paths.path_at guest.memory address ≡ Ok path → host.path_at memory 65536 ≡ Ok path → Unlimited kernel.files (base from) path flags
    → Mirrors guest (by_reply guest.words) (native_call 56 (given_from ∷ 65536 ∷ given_flags ∷ given_mode ∷ 0 ∷ 0 ∷ []) kernel memory left) (o32.open_row kernel guest (base from) address (Some flags) mode left)
unfolding native.openat_row o32.open_row
open_mirrors guest kernel address given_from given_flags given_mode from mode flags path memory left whole listed one two three first third there here free =
    let e1 = word given_from from one first in
    let e2 : open_of_native (given_flags % 2 ^ 32) ≡ Some flags = ap open_of_native (word given_flags (native_open flags) two (flags_short flags)) ∙ native_open_found flags listed in
    let e3 = word given_mode (if flags.creat then mode else 0) three (handed_short flags.creat mode third) in
    same_gives guest memory left
    (open_as kernel None (given_from % 2 ^ 32) (host.path_at memory 65536) (open_of_native (given_flags % 2 ^ 32)) (given_mode % 2 ^ 32))
    (open_as kernel (Some small_file_limit) from (guest_paths.path_at guest.memory address) (Some flags) mode)
    (open_as kernel None from (Ok path) (Some flags) mode)
    ((λ i. open_as kernel None (e1 i) (here i) (e2 i) (e3 i))
    ∙ ap (on_files kernel) (mode_unused kernel.files None (now kernel) (base from) path flags mode))
    (ap (λ (p : Given (List ℕ)). open_as kernel (Some small_file_limit) from p (Some flags) mode) there ∙ ap (on_files kernel) (free (now kernel) mode))
    (open_bounded kernel.files None (now kernel) (base from) path flags mode whole)

-- what comes of the flags or of the path is found without a native call

pub open_unlisted : (guest : Guest) (kernel : Kernel) (from : Base) (address mode : ℕ) (left : List ℕ) → Refuses guest kernel EINVAL left (o32.open_row kernel guest from address None mode left)
unfolding o32.open_row open_file
open_unlisted guest kernel from address mode left = refl

pub open_makes : (guest : Guest) (kernel : Kernel) (from : Base) (address mode : ℕ) (flags : OpenSet) (left : List ℕ) → (flags.creat && flags.directory) ≡ true → Refuses guest kernel EINVAL left (o32.open_row kernel guest from address (Some flags) mode left)
unfolding o32.open_row open_file
open_makes guest kernel from address mode flags left makes =
    ap (λ (b : Bool). o32_step.gives guest (marked kernel (λ files now.
    refused_if b EINVAL files (with_given files (guest_paths.path_at guest.memory address) (λ path.
    with_some files EMFILE (lowest_free files.table.fds 0) (λ fd.
    with_given files (walk files from path (follows flags)) (λ place.
    open_place files (Some small_file_limit) now path flags mode fd place place.node)))))) left) makes

pub open_lost : (guest : Guest) (kernel : Kernel) (from : Base) (address mode : ℕ) (flags : OpenSet) (error : Errno) (left : List ℕ) → (flags.creat && flags.directory) ≡ false → guest_paths.path_at guest.memory address ≡ Err error
    → Refuses guest kernel error left (o32.open_row kernel guest from address (Some flags) mode left)
unfolding o32.open_row open_file
open_lost guest kernel from address mode flags error left makes there =
    λ i. o32_step.gives guest (marked kernel (λ files now.
    refused_if (makes i) EINVAL files (with_given files (there i) (λ path.
    with_some files EMFILE (lowest_free files.table.fds 0) (λ fd.
    with_given files (walk files from path (follows flags)) (λ place.
    open_place files (Some small_file_limit) now path flags mode fd place place.node)))))) left

-- A file that is too large: whether there is a free descriptor

abbrev free_or : Kernel → Option ℕ → Errno → Did Kernel ℕ
free_or kernel there error = on_files kernel (with_some {V = ℕ} kernel.files EMFILE there (λ _. refused kernel.files error))

large_by : (guest : Guest) (kernel : Kernel) (memory left : List ℕ) (there : Option ℕ) → Mirrors guest (told_large guest.words) (native_step.gives memory (free_or kernel there ENOENT) left) (o32_step.gives guest (free_or kernel there EOVERFLOW) left)
large_by guest kernel memory left None = record { kernel = refl; left = refl; native_sends = refl; sends = refl; stored = refl; set = refl; came = refl }
large_by guest kernel memory left (Some fd) = record { kernel = refl; left = refl; native_sends = refl; sends = refl; stored = refl; set = refl; came = refl }

empty_path : (memory : List ℕ) → memory ≡ 0 ∷ [] → host.path_at memory 65536 ≡ Ok []
unfolding host.path_at
empty_path memory is = ap (λ (m : List ℕ). host.path_at m 65536) is

empty_as : (kernel : Kernel) → open_as kernel None 0 (Ok []) (open_of_native 0) 0 ≡ free_or kernel (lowest_free kernel.files.table.fds 0) ENOENT
unfolding open_file walk
empty_as kernel = refl

pub large_mirrors : (guest : Guest) (kernel : Kernel) (from address mode : ℕ) (flags : OpenSet) (path memory left : List ℕ) → guest_paths.path_at guest.memory address ≡ Ok path → memory ≡ 0 ∷ [] → IsTooLarge kernel.files (base from) path flags
    → Mirrors guest (told_large guest.words) (native_call 56 (0 ∷ 65536 ∷ 0 ∷ 0 ∷ 0 ∷ 0 ∷ []) kernel memory left) (o32.open_row kernel guest (base from) address (Some flags) mode left)
unfolding native.openat_row o32.open_row
large_mirrors guest kernel from address mode flags path memory left there is large =
    let given : open_as kernel None 0 (host.path_at memory 65536) (open_of_native 0) 0 ≡ free_or kernel (lowest_free kernel.files.table.fds 0) ENOENT =
    ap (λ (p : Given (List ℕ)). open_as kernel None 0 p (open_of_native 0) 0) (empty_path memory is) ∙ empty_as kernel in
    let asked : open_as kernel (Some small_file_limit) from (guest_paths.path_at guest.memory address) (Some flags) mode ≡ free_or kernel (lowest_free kernel.files.table.fds 0) EOVERFLOW =
    ap (λ (p : Given (List ℕ)). open_as kernel (Some small_file_limit) from p (Some flags) mode) there ∙ ap (on_files kernel) (large (now kernel) mode) in
    subst (λ (d : Did Kernel ℕ). Mirrors guest (told_large guest.words) (native_step.gives memory (open_as kernel None 0 (host.path_at memory 65536) (open_of_native 0) 0) left) (o32_step.gives guest d left)) (sym asked)
    (subst (λ (d : Did Kernel ℕ). Mirrors guest (told_large guest.words) (native_step.gives memory d left) (o32_step.gives guest (free_or kernel (lowest_free kernel.files.table.fds 0) EOVERFLOW) left)) (sym given)
    (large_by guest kernel memory left (lowest_free kernel.files.table.fds 0)))

-- a call that stopped early
pub fails_stopped : (step : o32_step.O32Step) (result : Result Outcome Stop) (kernel : Kernel) (memory : Memory) (processor : Processor) (before after : Contents) → IsErr result → Stopped step before after
    → Answers step result kernel memory processor before after
fails_stopped step (Ok outcome) kernel memory processor before after failed stopped = absurd cc
fails_stopped step (Err stop) kernel memory processor before after failed stopped = stopped

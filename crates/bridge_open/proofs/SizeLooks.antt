-- What a look at the size of what a path leads to finds.
use Rattle.std.proofs.Common.{◌≡◌, ℕ, ◌+◌, ◌-◌, ◌/◌, ◌≤◌, ◌<◌, ◌^◌, ◌%◌, List, [], ◌∷◌, ◌++◌, length, take, drop, replicate, Option, Some, None, Ok, Err, refl, sym, ap, subst, ◌∙◌, arith, append-nil, length-take, length-drop}
use Rattle.std.proofs.lemmas.Bool.Decides.{nat_tests}
use Rattle.std.proofs.lemmas.List.{length-append}
use Rattle.std.specs.FinMap.{get}
use Rattle.std.specs.Prelude.{Bool, true, false, option_map, if◌then◌else◌}
use Rattle.byteorder.specs.Endian.{little_number}
use Rattle.byteorder.specs.Numbers.{little_from-bytes}
use Rattle.host_mem.specs.Memory.{bytes_at, first_address, is_inside, replaced, written}
use Rattle.kernel_core.specs.FileSystem.{IsFileSystem, IsLiveContent}
use Rattle.kernel_core.specs.NodeCalls.{content_size}
use Rattle.kernel_core.specs.Nodes.{Inode, NodeContent, Nodes, File, Directory, Link}
use Rattle.kernel_core.specs.declared.error.Errno.{Errno}
use Rattle.kernel_core.specs.declared.error.Errno.TheVariants.{EFAULT, ENOENT, EPERM}
use Rattle.kernel_core.specs.declared.reply.Reply.{Reply}
use Rattle.kernel_model.specs.Came.{Came, Done, Refused, Did, Given, came_as, done, told_as, with_given, with_some}
use Rattle.kernel_model.specs.ContentRows.{Status, node_status, status_at}
use Rattle.kernel_model.specs.NodeRows.{status_at_path}
use Rattle.kernel_model.specs.Paths.{Base, walk_to_node}
use Rattle.kernel_model.specs.State.{Kernel, Files}
use Rattle.kernel_model.specs.Whole.{on_files}
use Rattle.layouts.specs.Number.{bytes_of}
use Rattle.native_calls.specs.Nodes as native
use Rattle.native_calls.specs.Paths as host
use Rattle.native_calls.specs.Status.{status_bytes}
use Rattle.native_calls.specs.Step as native_step
use Rattle.native_calls.specs.Table.{native_call}
use Rattle.o32_model.specs.PathArguments.{base}
use Rattle.bridge_paths.proofs.Rows.{word}
use Rattle.bridge_paths.specs.Passed.{IsLook}
use Rattle.bridge_open.specs.inside.Openings.{size_there, size_in, size_led, size_of, size_told}
use Rattle.bridge_paths.specs.HostPaths.{BeginsWith}

-- The row

abbrev pub came_at : Option Status → Came Status
came_at None = Refused ENOENT
came_at (Some status) = Done status

abbrev pub came_led : Nodes → Given ℕ → Came Status
came_led nodes (Err error) = Refused error
came_led nodes (Ok node) = came_at (status_at nodes node)

did_at : (files : Files) (there : Option Status) → with_some files ENOENT there (λ status. done files status) ≡ record { state = files; came = came_at there }
did_at files None = refl
did_at files (Some status) = refl

did_led : (files : Files) (there : Given ℕ)
    → with_given files there (λ node. with_some files ENOENT (status_at files.nodes node) (λ status. done files status)) ≡ record { state = files; came = came_led files.nodes there }
did_led files (Err error) = refl
did_led files (Ok node) = did_at files (status_at files.nodes node)

status_did : (files : Files) (from : Base) (path : List ℕ) (follow : Bool)
    → status_at_path files from (Ok path) (Some (record { follow = follow; empty = false })) ≡ record { state = files; came = came_led files.nodes (walk_to_node files from path follow) }
unfolding status_at_path
status_did files from path follow = did_led files (walk_to_node files from path follow)

-- The native call

abbrev pub reply_of : List ℕ → Came Status → Reply
reply_of memory came = native_step.reply_to (native_step.stored memory 65536) (came_as status_bytes came)

abbrev pub memory_of : List ℕ → Came Status → List ℕ
memory_of memory came = native_step.memory_after (written memory 65536) memory (came_as status_bytes came)

look_of : (kernel : Kernel) (memory left : List ℕ) (came : Came Status)
    → IsLook kernel (reply_of memory came) (memory_of memory came) left (native_step.stores memory 65536 (told_as status_bytes (on_files kernel (record { state = kernel.files; came = came }))) left)
look_of kernel memory left came = record { kernel_stays = refl; left_stays = refl; sends = refl; replied = refl; stored = refl }

flags_of : (follow : Bool) (given : ℕ) → given ≡ (if follow then 0 else 256) → native.status_flags (given % 2 ^ 32) ≡ Some (record { follow = follow; empty = false })
flags_of true given is = ap (λ (n : ℕ). native.status_flags (n % 2 ^ 32)) is
flags_of false given is = ap (λ (n : ℕ). native.status_flags (n % 2 ^ 32)) is

pub size_look : (kernel : Kernel) (memory left : List ℕ) (given_from at given_flags from : ℕ) (follow : Bool) (path : List ℕ) → given_from ≡ from → from < 2 ^ 32 → given_flags ≡ (if follow then 0 else 256) → host.path_at memory at ≡ Ok path
    → (let came = came_led kernel.files.nodes (walk_to_node kernel.files (base from) path follow) in
    IsLook kernel (reply_of memory came) (memory_of memory came) left (native_call 79 (given_from ∷ at ∷ 65536 ∷ given_flags ∷ 0 ∷ 0 ∷ []) kernel memory left))
unfolding native.newfstatat_row
size_look kernel memory left given_from at given_flags from follow path one first flags here =
    let e1 = word given_from from one first in
    let e3 = flags_of follow given_flags flags in
    let came = came_led kernel.files.nodes (walk_to_node kernel.files (base from) path follow) in
    let did : status_at_path kernel.files (base (given_from % 2 ^ 32)) (host.path_at memory at) (native.status_flags (given_flags % 2 ^ 32)) ≡ record { state = kernel.files; came = came } =
    (λ i. status_at_path kernel.files (base (e1 i)) (here i) (e3 i)) ∙ status_did kernel.files (base from) path follow in
    subst (λ (d : Did Files Status). IsLook kernel (reply_of memory came) (memory_of memory came) left (native_step.stores memory 65536 (told_as status_bytes (on_files kernel d)) left)) (sym did)
    (look_of kernel memory left came)

-- The size that it tells

pub long : (status : Status) → length (status_bytes status) ≡ 128
long status = refl

split : (status : Status) (rest : List ℕ) → drop 48 (status_bytes status ++ rest) ≡ bytes_of false 8 status.size ++ (drop 56 (status_bytes status) ++ rest)
split status rest = refl

pub first_eight : (size : ℕ) (rest : List ℕ) → take 8 (bytes_of false 8 size ++ rest) ≡ bytes_of false 8 size
first_eight size rest = refl

pub eight_back : (size : ℕ) → size < 2 ^ 64 → little_number 8 (bytes_of false 8 size) ≡ size
eight_back size small =
    ap (little_number 8) (sym (append-nil (bytes_of false 8 size))) ∙ little_from-bytes 8 0 size [] ∙ whole size small where
      whole : (size : ℕ) → size < 2 ^ 64 → size / 256 ^ 0 % 256 ^ 8 ≡ size
      whole size small = omega arith

pub content_short : (nodes : Nodes) (number links : ℕ) (content : NodeContent) → IsLiveContent nodes number links content → content_size content < 2 ^ 64
content_short nodes number links (File content) live = let small = live.0.small in omega arith
content_short nodes number links (Directory listing) live = omega arith
content_short nodes number links (Link target) live = let short = live.0.short in omega arith

pub status_stands : (memory : List ℕ) (status : Status) → BeginsWith (replicate 128 0) memory → (rest : List ℕ) × (written memory 65536 (status_bytes status) ≡ status_bytes status ++ rest) × (is_inside memory 65536 (length (status_bytes status)) ≡ true)
status_stands memory status begins =
    let size : length memory ≡ 128 + length begins.rest = ap length begins.stands ∙ length-append (replicate 128 0) begins.rest in
    let inside : is_inside memory 65536 128 ≡ true = grind (arith, nat_tests) in
    (drop 128 memory, ap (λ (b : Bool). if b then replaced memory 0 (status_bytes status) else memory) inside, inside)

told_done : (memory : List ℕ) (status : Status) → status.size < 2 ^ 64 → BeginsWith (replicate 128 0) memory → size_told (memory_of memory (Done status)) (reply_of memory (Done status)) ≡ status.size
told_done memory status small begins =
    let stands = status_stands memory status begins in
    let there : is_inside (status_bytes status ++ stands.0) 65584 8 ≡ true = grind (arith, nat_tests, length-append (status_bytes status) stands.0, long status) in
    ap (λ (b : Bool). size_told (written memory 65536 (status_bytes status)) (if b then native_step.value 0 else native_step.failure EFAULT)) stands.2
    ∙ ap (λ (m : List ℕ). size_there (bytes_at m 65584 8)) stands.1
    ∙ ap (λ (b : Bool). size_there (if b then Some (take 8 (drop 48 (status_bytes status ++ stands.0))) else None)) there
    ∙ ap (λ (l : List ℕ). little_number 8 (take 8 l)) (split status stands.0)
    ∙ ap (little_number 8) (first_eight status.size (drop 56 (status_bytes status) ++ stands.0))
    ∙ eight_back status.size small

told_failed : (memory : List ℕ) (error : Errno) → size_told memory (native_step.failure error) ≡ 0
told_failed memory EPERM = refl
told_failed memory _ = refl

told_node : (nodes : Nodes) (memory : List ℕ) (node : ℕ) (there : Option Inode) → ((inode : Inode) → there ≡ Some inode → content_size inode.content < 2 ^ 64) → BeginsWith (replicate 128 0) memory
    → (let came = came_at (option_map (node_status node) there) in size_told (memory_of memory came) (reply_of memory came) ≡ size_in there)
told_node nodes memory node None short begins = told_failed memory ENOENT
told_node nodes memory node (Some inode) short begins = told_done memory (node_status node inode) (short inode refl) begins

told_led : (nodes : Nodes) (memory : List ℕ) (there : Given ℕ) → IsFileSystem nodes → BeginsWith (replicate 128 0) memory
    → size_told (memory_of memory (came_led nodes there)) (reply_of memory (came_led nodes there)) ≡ size_of nodes there
told_led nodes memory (Err error) valid begins = told_failed memory error
told_led nodes memory (Ok node) valid begins =
    told_node nodes memory node (get nodes node) (λ inode is. content_short nodes node inode.links inode.content (valid.each node inode is).content) begins

pub size_found : (files : Files) (from : Base) (path : List ℕ) (follow : Bool) (memory : List ℕ) → IsFileSystem files.nodes → BeginsWith (replicate 128 0) memory
    → (let came = came_led files.nodes (walk_to_node files from path follow) in size_told (memory_of memory came) (reply_of memory came) ≡ size_led files from path follow)
size_found files from path follow memory valid begins = told_led files.nodes memory (walk_to_node files from path follow) valid begins

-- the bytes that were read are as many as were asked for
pub long_enough : (memory bytes : List ℕ) (place count : ℕ) → Some bytes ≡ bytes_at memory place count → count ≤ length bytes
long_enough memory bytes place count read = by (is_inside memory place count) refl read where
  by : (inside : Bool) → is_inside memory place count ≡ inside → Some bytes ≡ (if inside then Some (take count (drop (place - first_address) memory)) else None) → count ≤ length bytes
  by true inside read =
      let same : bytes ≡ take count (drop (place - first_address) memory) = cc in
      let low : 65536 ≤ place = grind (arith, nat_tests) in
      let high : place + count ≤ 65536 + length memory = grind (arith, nat_tests) in
      omega (arith, low, high, ap length same, length-take count (drop (place - first_address) memory), length-drop (place - first_address) memory)
  by false inside read = absurd cc

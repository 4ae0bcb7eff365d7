-- How long texts are.
use Rattle.std.proofs.Common.{◌≡◌, ℕ, ◌+◌, ◌*◌, ◌<◌, ◌≤◌, List, [], ◌∷◌, ◌++◌, length, get_or, take, drop, All, ap, ◌∙◌, arith, sym}
use Rattle.std.specs.List.{flat_map, sum_by}
use Rattle.std.proofs.lemmas.List.{length-append, drop_more}
use Rattle.std.proofs.lemmas.List.Concat.{flat_map-cons}
use Rattle.std.proofs.lemmas.List.Elements.{All-head, All-tail}
use Rattle.std.proofs.lemmas.List.Sums.{sum_by-cons}
use Rattle.byteorder.specs.Endian.{big_bytes}
use Rattle.kernel_core.specs.declared.tree.Block.{Block}
use Rattle.kernel_core.specs.declared.tree.DirEntry.{DirEntry}
use Rattle.kernel_core.specs.declared.tree.Node.{Node}
use Rattle.kernel_core.specs.declared.tree.Kind.{Kind}
use Rattle.kernel_core.specs.declared.tree.Kind.TheVariants.{File, Dir, Link}
use Rattle.kernel_core.specs.ValidTree.{entries_of}
use Rattle.fs_image.specs.Text.{block_text, entry_text, head_text, kind_text, node_text}
use Rattle.fs_image.proofs.Gains.{parted}

pub blocks_length : (blocks : List Block) → All (λ b. length b.bytes ≡ 4096) blocks → length (flat_map block_text blocks) ≡ 4100 * length blocks
blocks_length [] whole = omega arith
blocks_length (b ∷ blocks) whole =
    let here : length b.bytes ≡ 4096 = All-head (λ (o : Block). length o.bytes ≡ 4096) b blocks whole in
    let more = blocks_length blocks (All-tail (λ (o : Block). length o.bytes ≡ 4096) b blocks whole) in
    let both : length (flat_map block_text (b ∷ blocks)) ≡ length (block_text b) + length (flat_map block_text blocks) = ap length (flat_map-cons block_text b blocks) ∙ length-append (block_text b) (flat_map block_text blocks) in
    let one : length (block_text b) ≡ 4 + length b.bytes = length-append (big_bytes 4 b.index) b.bytes in
    omega (arith, here, more, both, one)

-- the fixed parts of the texts, and the names
pub entries_length : (entries : List DirEntry) → length (flat_map entry_text entries) ≡ 13 * length entries + sum_by (λ (e : DirEntry). length e.name) entries
entries_length [] = omega arith
entries_length (e ∷ entries) =
    let more = entries_length entries in
    let both : length (flat_map entry_text (e ∷ entries)) ≡ length (entry_text e) + length (flat_map entry_text entries) = ap length (flat_map-cons entry_text e entries) ∙ length-append (entry_text e) (flat_map entry_text entries) in
    let one : length (entry_text e) ≡ 13 + length e.name = omega (arith, length-append e.name (big_bytes 8 e.node)) in
    let sum = sum_by-cons (λ (o : DirEntry). length o.name) e entries in
    omega (arith, more, both, one, sum)

-- the texts so far and the next one are within all of them
pub within : {A : Type 0} (text : A → List ℕ) (xs : List A) (i : ℕ) (x : A) → i < length xs → x ≡ get_or xs i x → length (flat_map text (take i xs)) + length (text x) ≤ length (flat_map text xs)
within text xs i x below is =
    let front = flat_map text (take i xs) in
    let rest = flat_map text (drop (i + 1) xs) in
    let whole : length (flat_map text xs) ≡ length front + (length (text x) + length rest) =
    ap length (parted text xs i x below is) ∙ (length-append front (text x ++ rest) ∙ ap (λ n. length front + n) (length-append (text x) rest)) in
    omega (arith, whole)

-- what is left of a list begins with its next element
pub next_left : {A : Type 0} (xs : List A) (i : ℕ) (x : A) → i < length xs → x ≡ get_or xs i x → drop i xs ≡ x ∷ drop (i + 1) xs
next_left xs i x below is = drop_more xs i x below ∙ ap (λ y. y ∷ drop (i + 1) xs) (sym is)

-- the place behind the next text, and the texts behind it
pub text_end : {A : Type 0} (text : A → List ℕ) (xs : List A) (i place end : ℕ) (x : A) → i < length xs → x ≡ get_or xs i x → place + length (flat_map text (drop i xs)) ≡ end
    → (place + length (text x)) + length (flat_map text (drop (i + 1) xs)) ≡ end
text_end text xs i place end x below is so_far =
    let rest = flat_map text (drop (i + 1) xs) in
    let parts : length (flat_map text (drop i xs)) ≡ length (text x) + length rest =
    ap (λ ys. length (flat_map text ys)) (next_left xs i x below is) ∙ (ap length (flat_map-cons text x (drop (i + 1) xs)) ∙ length-append (text x) rest) in
    omega (arith, parts, so_far)

-- the entries of a node are within its text
pub entries_within : (node : Node) → length (flat_map entry_text (entries_of node.kind)) ≤ length (node_text node)
entries_within node = omega (arith, length-append (head_text node) (kind_text node.kind), by_kind node.kind)
  where
    by_kind : (kind : Kind) → length (flat_map entry_text (entries_of kind)) ≤ length (kind_text kind)
    by_kind (File size blocks) = omega arith
    by_kind (Dir entries) = omega (arith, length-append (big_bytes 4 (length entries)) (flat_map entry_text entries))
    by_kind (Link target) = omega arith

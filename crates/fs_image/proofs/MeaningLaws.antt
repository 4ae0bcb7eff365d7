-- An image means a tree exactly where it is the text of that tree and the tree is valid.
use Rattle.std.proofs.Common.{◌≡◌, ℕ, ◌+◌, ◌^◌, ◌<◌, ◌≤◌, true, List, [], ◌∷◌, ◌++◌, length, get_or, take, drop, All, Option, Some, None, Result, Ok, Err, refl, sym, ap, subst, ◌∙◌, arith}
use Rattle.std.specs.Prelude.{Contains, slice_get}
use Rattle.std.proofs.lemmas.List.{take-append-drop, drop_more, length-append}
use Rattle.std.proofs.lemmas.List.Elements.{All-contains, All-map, All-weaker}
use Rattle.kernel_core.specs.declared.tree.Tree.{Tree}
use Rattle.kernel_core.specs.declared.tree.Node.{Node}
use Rattle.kernel_core.specs.declared.tree.DirEntry.{DirEntry}
use Rattle.kernel_core.specs.ValidTree.{IsValidTree, IsNode, root, is_dir, entries_of, numbers}
use Rattle.fs_image.specs.declared.refusal.ImageRefusal.{ImageRefusal}
use Rattle.fs_image.specs.Refusal.{unless}
use Rattle.fs_image.specs.Text.{magic, node_text, text_of}
use Rattle.fs_image.specs.Reading.{◌>>=◌, reading_of}
use Rattle.fs_image.specs.Naming.{naming_failure}
use Rattle.fs_image.specs.declared.refusal.ImageError.{ImageError}
use Rattle.fs_image.specs.declared.refusal.ImageError.TheVariants.{Refused, NoMemory}
use Rattle.std.specs.List.{flat_map}
use Rattle.std.specs.Prelude.{IfOk, IfErr, OnOk}
use Rattle.byteorder.specs.Endian.{big_bytes}
use Rattle.fs_image.specs.Meaning.{meaning_of, failure_in, first_failure, Fails, Gives, IsCause}
use Rattle.fs_image.proofs.FieldLaws.{IsBytes, bind_ok, ok_is}
use Rattle.fs_image.specs.inside.Valid.{AreNodes, IsRead}
use Rattle.fs_image.proofs.NodeLaws.{root_first, reading_takes, reading_again}
use Rattle.fs_image.proofs.NamingLaws.{naming-sound, naming-complete}

pub first_of_some : (nodes : List Node) → 1 ≤ length nodes → (n : Node) × (slice_get nodes 0 ≡ Some n)
first_of_some [] some = absurd (omega (arith, some))
first_of_some (n ∷ nodes) some = (n, refl)

-- the root is a directory, and no other node has its number
root_dirs : (nodes : List Node) → AreNodes nodes → All (λ n. n.number ≡ root → is_dir n.kind ≡ true) nodes
root_dirs nodes are = λ k d below.
    let split : nodes ≡ take k nodes ++ get_or nodes k d ∷ drop (k + 1) nodes = sym (take-append-drop k nodes) ∙ ap (λ (ns : List Node). take k nodes ++ ns) (drop_more nodes k d below) in
    root_first nodes (take k nodes) (get_or nodes k d) (drop (k + 1) nodes) are split

pub valid_from : (tree : Tree) → IsRead tree → naming_failure tree ≡ None → IsValidTree tree
valid_from tree read none =
    let well = naming-sound tree (root_dirs tree.nodes read.nodes) none in
    let first = first_of_some tree.nodes read.some in
    let begins = read.nodes.begins first.0 first.1 in
    record {
      begins = (first.0, first.1, begins.0, begins.1);
      count = read.few;
      rising = read.nodes.rising;
      each = read.nodes.each;
      blocks = read.nodes.blocks;
      entries = read.nodes.entries;
      targets = well.targets;
      named = well.named;
      reached = well.reached;
    }

same_first : (a b : Node) (o : Option Node) → o ≡ Some a → o ≡ Some b → a ≡ b
same_first a b o ea eb = cc

some_first : (nodes : List Node) (first : Node) → slice_get nodes 0 ≡ Some first → 1 ≤ length nodes
some_first [] first e = absurd cc
some_first (n ∷ nodes) first e = omega arith

pub read_from : (tree : Tree) → IsValidTree tree → IsRead tree
read_from tree valid = record {
  nodes = record {
    begins = λ n e.
        let P : Node → Type 0 = λ m. (m.number ≡ root) × (is_dir m.kind ≡ true) in
        subst P (same_first valid.begins.0 n (slice_get tree.nodes 0) valid.begins.1 e) (valid.begins.2, valid.begins.3);
    rising = valid.rising;
    each = valid.each;
    blocks = valid.blocks;
    entries = valid.entries;
  };
  some = some_first tree.nodes valid.begins.0 valid.begins.1;
  few = valid.count;
}

-- an entry's number fits its field
pub known_numbers : (tree : Tree) → IsValidTree tree → All (λ (n : Node). All (λ (o : DirEntry). o.node < 256 ^ 8) (entries_of n.kind)) tree.nodes
known_numbers tree valid =
    let small : All (λ (m : ℕ). m < 256 ^ 8) (numbers tree.nodes) =
    All-map (λ (m : ℕ). m < 256 ^ 8) (λ (n : Node). n.number) tree.nodes (All-weaker IsNode (λ (n : Node). n.number < 256 ^ 8) (λ n h. omega (arith, h.high)) tree.nodes valid.each) in
    All-weaker (λ (n : Node). All (λ (o : DirEntry). Contains (numbers tree.nodes) o.node) (entries_of n.kind)) (λ (n : Node). All (λ (o : DirEntry). o.node < 256 ^ 8) (entries_of n.kind))
    (λ n h. All-weaker (λ (o : DirEntry). Contains (numbers tree.nodes) o.node) (λ (o : DirEntry). o.node < 256 ^ 8) (λ o c. All-contains (λ (m : ℕ). m < 256 ^ 8) (numbers tree.nodes) o.node small c) (entries_of n.kind) h) tree.nodes valid.targets

unless_ok : (failure : Option ImageRefusal) (made tree : Tree) → unless failure made ≡ Ok tree → (failure ≡ None) × (made ≡ tree)
unless_ok None made tree e = (refl, ok_is made tree e)
unless_ok (Some refusal) made tree e = absurd cc

pub meaning-sound : (bytes : List ℕ) (tree : Tree) → IsBytes bytes → meaning_of bytes ≡ Ok tree → IsValidTree tree × (bytes ≡ text_of tree)
unfolding meaning_of
meaning-sound bytes tree fits e =
    let b = bind_ok (reading_of bytes) (λ made. unless (naming_failure made) made) tree e in
    let u = unless_ok (naming_failure b.0) b.0 tree b.2 in
    let read = reading_takes bytes b.0 fits b.1 in
    let P : Tree → Type 0 = λ t. IsValidTree t × (bytes ≡ text_of t) in
    subst P u.1 (valid_from b.0 read.1 u.0, read.0)

pub meaning-complete : (tree : Tree) → IsValidTree tree → meaning_of (text_of tree) ≡ Ok tree
unfolding meaning_of
meaning-complete tree valid =
    let read = reading_again tree (read_from tree valid) (known_numbers tree valid) in
    let none = naming-complete tree valid in
    ap (λ r. r >>= λ made. unless (naming_failure made) made) read ∙ ap (λ o. unless o tree) none

-- a text is that of one tree alone
pub one_tree : (a b : Tree) → IsValidTree a → IsValidTree b → text_of a ≡ text_of b → a ≡ b
one_tree a b va vb e = ok_is a b (sym (meaning-complete a va) ∙ (ap meaning_of e ∙ meaning-complete b vb))

-- Answers

pub fails_reading : (error : ImageError) (bytes : List ℕ) → Fails error (reading_of bytes) → Fails error (meaning_of bytes)
unfolding meaning_of
fails_reading (Refused refusal) bytes e = ap (λ r. r >>= λ made. unless (naming_failure made) made) e
fails_reading NoMemory bytes e = tt

pub means_failure : (bytes : List ℕ) (tree : Tree) (refusal : ImageRefusal) → reading_of bytes ≡ Ok tree → naming_failure tree ≡ Some refusal → meaning_of bytes ≡ Err refusal
unfolding meaning_of
means_failure bytes tree refusal read found = ap (λ r. r >>= λ made. unless (naming_failure made) made) read ∙ ap (λ o. unless o tree) found

pub means_tree : (bytes : List ℕ) (tree : Tree) → reading_of bytes ≡ Ok tree → naming_failure tree ≡ None → meaning_of bytes ≡ Ok tree
unfolding meaning_of
means_tree bytes tree read none = ap (λ r. r >>= λ made. unless (naming_failure made) made) read ∙ ap (λ o. unless o tree) none

-- what a tree's text has before its nodes
pub nodes_short : (bytes : List ℕ) (tree : Tree) → IsBytes bytes → reading_of bytes ≡ Ok tree → 12 + length (flat_map node_text tree.nodes) ≡ length bytes
unfolding text_of
nodes_short bytes tree fits e =
    let text = (reading_takes bytes tree fits e).0 in
    let len : length bytes ≡ length (text_of tree) = ap length text in
    let whole : length (text_of tree) ≡ 12 + length (flat_map node_text tree.nodes) = length-append (magic ++ big_bytes 4 (length tree.nodes)) (flat_map node_text tree.nodes) in
    omega (arith, len, whole)

pub accepted_from : (bytes : List ℕ) (r : Result Tree ImageError) → IsBytes bytes → Gives r (meaning_of bytes) → IfOk r (λ tree. IsValidTree tree × (bytes ≡ text_of tree))
accepted_from bytes (Ok tree) fits e = meaning-sound bytes tree fits e
accepted_from bytes (Err error) fits e = tt

pub complete_from : (bytes : List ℕ) (r : Result Tree ImageError) → Gives r (meaning_of bytes) → (tree : Tree) → IsValidTree tree → bytes ≡ text_of tree → Gives r (Ok tree)
complete_from bytes r e tree valid is =
    let P : Result Tree ImageRefusal → Type 0 = Gives r in
    subst P (ap meaning_of is ∙ meaning-complete tree valid) e

pub sound_from : (bytes : List ℕ) (r : Result Tree ImageError) → Gives r (meaning_of bytes) → OnOk r (first_failure bytes ≡ None)
sound_from bytes (Ok tree) e = ap (λ (m : Result Tree ImageRefusal). failure_in m) e
sound_from bytes (Err error) e = tt

pub refused_from : (bytes : List ℕ) (r : Result Tree ImageError) → Gives r (meaning_of bytes) → IfErr r (IsCause (first_failure bytes))
refused_from bytes (Ok tree) e = tt
refused_from bytes (Err (Refused refusal)) e = ap (λ (m : Result Tree ImageRefusal). failure_in m) e
refused_from bytes (Err NoMemory) e = tt

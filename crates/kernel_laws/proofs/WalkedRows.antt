-- What a row knows of the places and nodes that its paths lead to.
use Rattle.std.proofs.Common.{◌≡◌, ℕ, Bool, true, List, refl, ap, subst}
use Rattle.std.specs.Prelude.{Option, Some, None, is_some, ok_or, Result, Ok, Err, option_map, unwrap_or}
use Rattle.std.specs.FinMap.{get}
use Rattle.kernel_core.specs.FileContent.{FileContent}
use Rattle.kernel_core.specs.Nodes.{Nodes, File, Inode, file_at, file_in, in_inode}
use Rattle.kernel_core.specs.PathWalk.{Place}
use Rattle.kernel_core.specs.Queries.{kind_at, kind_of}
use Rattle.kernel_core.specs.declared.error.Errno.{Errno}
use Rattle.kernel_core.specs.declared.error.Errno.TheVariants.{ENOENT}
use Rattle.kernel_laws.proofs.WalkAgrees.{place_lives, walk_agrees}
use Rattle.kernel_laws.specs.Arguments.{IsText, WhereRead}
use Rattle.kernel_model.specs.Always.{IsFiles}
use Rattle.kernel_model.specs.Came.{Given}
use Rattle.kernel_model.specs.Descriptions.{content_at}
use Rattle.kernel_model.specs.Paths.{Base, node_found, walk, walk_to_node}
use Rattle.kernel_model.specs.State.{Files}

-- what holds of an argument holds of what was read
pub read_is : {A : Type 0} (P : A → Type 0) (given : Given A) → WhereRead P given → (value : A) → given ≡ Ok value → P value
read_is P (Err error) known value e = absurd cc
read_is P (Ok other) known value e = let same : other ≡ value = cc in subst P same known

pub text_is : (given : Given (List ℕ)) → WhereRead IsText given → (path : List ℕ) → given ≡ Ok path → IsText path
text_is given text path e = read_is IsText given text path e

module _ (files : Files) (is : IsFiles files) (base : Base) (path : List ℕ) (follow : Bool) (text : IsText path) where
  place_of : (answer : Result Place Errno) (node : ℕ) → node_found answer ≡ Ok node → (place : Place) × (answer ≡ Ok place) × (place.node ≡ Some node)
  place_of (Err error) node e = absurd cc
  place_of (Ok place) node e = (place, refl, some_of place.node node e) where
    some_of : (found : Option ℕ) (number : ℕ) → ok_or found ENOENT ≡ Ok number → found ≡ Some number
    some_of None number h = absurd cc
    some_of (Some other) number h = let same : other ≡ number = cc in ap Some same

  -- the node that a path leads to lives
  pub found_lives : (node : ℕ) → walk_to_node files base path follow ≡ Ok node → is_some (get files.nodes node) ≡ true
  found_lives node e =
      let found = place_of (walk files base path follow) node e in
      place_lives files.nodes is.nodes found.0 node (walk_agrees files is base path follow text found.0 found.1) found.2

inode_of : (found : Option Inode) → is_some found ≡ true → (inode : Inode) × (found ≡ Some inode)
inode_of None e = absurd cc
inode_of (Some inode) e = (inode, refl)

pub found_inode : (files : Files) → IsFiles files → (base : Base) (path : List ℕ) (follow : Bool) → IsText path → (node : ℕ) → walk_to_node files base path follow ≡ Ok node
    → (inode : Inode) × (get files.nodes node ≡ Some inode)
found_inode files is base path follow text node e = inode_of (get files.nodes node) (found_lives files is base path follow text node e)

-- The content of a node tells what it is.

of_inode : (found : Option Inode) (content : FileContent) → option_map (λ i. i.content) found ≡ Some (File content) → in_inode file_in found ≡ Some content
of_inode None content e = absurd cc
of_inode (Some inode) content e = let same : inode.content ≡ File content = ap (λ o. unwrap_or o inode.content) e in ap file_in same

pub file_of : (nodes : Nodes) (node : ℕ) (content : FileContent) → content_at nodes node ≡ Some (File content) → file_at nodes node ≡ Some content
file_of nodes node content e = of_inode (get nodes node) content e

kind_in : (found : Option Inode) → option_map (λ i. kind_of i.content) found ≡ option_map kind_of (option_map (λ i. i.content) found)
kind_in None = refl
kind_in (Some inode) = refl

pub kind_by_content : (nodes : Nodes) (node : ℕ) → kind_at nodes node ≡ option_map kind_of (content_at nodes node)
kind_by_content nodes node = kind_in (get nodes node)

-- A place that the walk of a path gives agrees with the nodes.
use Rattle.std.proofs.Common.{◌≡◌, ℕ, zero, suc, ◌<◌, ◌≤◌, Bool, true, false, List, [], ◌∷◌, ◌++◌, length, Option, Some, None, is_some, refl, sym, ◌∙◌, ap, subst, arith, inl, inr}
use Rattle.std.specs.Prelude.{Result, Ok, Err, ◌||◌, ◌&&◌, not, ◌==◌, nat_lt, slice_index, ok_or, ⊤, if◌then◌else◌}
use Rattle.std.specs.List.{list_any}
use Rattle.std.specs.FinMap.{get}
use Rattle.std.proofs.lemmas.Bool.{leb-false, or_parts}
use Rattle.std.proofs.lemmas.List.Folds.{list_any-append}
use Rattle.kernel_core.specs.FileSystem.{IsFileSystem, IsLiveContent, parent_of}
use Rattle.kernel_core.specs.Nodes.{Nodes, Inode, NodeContent, File, Directory, Link, Listing, in_inode, is_directory, listing_at, listing_in, target_at, target_in}
use Rattle.kernel_core.specs.PathWalk.{Agrees, Place, begins_with_slash, closed, components, components_after, ends_with_slash, link_limit, name_limit, named}
use Rattle.kernel_core.specs.Queries.{Wrong, listed_meaning, named_meaning, node_meaning, at_last, on_the_way, place, walked, walked_from, walked_through}
use Rattle.kernel_core.specs.ValidTree.{is_no_name_byte, root}
use Rattle.kernel_core.specs.declared.error.Errno.{Errno}
use Rattle.kernel_core.specs.declared.error.Errno.TheVariants.{ELOOP, ENAMETOOLONG, ENOENT, ENOTDIR}
use Rattle.file_system_laws.proofs.Places.{by_name, node_lives, parent_is_directory}
use Rattle.file_system_laws.proofs.Tallies.{opened as tree_of}
use Rattle.kernel_laws.specs.Arguments.{IsText}
use Rattle.kernel_model.specs.Always.{IsFiles}
use Rattle.kernel_model.specs.Descriptions.{if_directory, node_of, open_directory, opened}
use Rattle.kernel_model.specs.Paths.{Base, Working, Descriptor, base_directory, directory_of, walk, walked_by}
use Rattle.kernel_model.specs.State.{Files}
use Rattle.kernel_model.specs.declared.descriptor.Description.{Description}

-- Components are names: bytes without `/` and NUL

record IsPart (name : List ℕ) : Type 0 where
  are_bytes : (at : ℕ) → slice_index name at < 256
  plain : list_any is_no_name_byte name ≡ false

AreParts : List (List ℕ) → Type 0
AreParts [] = ⊤
AreParts (name ∷ rest) = IsPart name × AreParts rest

no_parts : AreParts []
unfolding AreParts
no_parts = tt

empty_part : IsPart []
empty_part = record { are_bytes = λ at. omega arith; plain = refl }

more_bytes : (name : List ℕ) (byte : ℕ) → ((at : ℕ) → slice_index name at < 256) → byte < 256 → (at : ℕ) → slice_index (name ++ byte ∷ []) at < 256
more_bytes [] byte all small zero = small
more_bytes [] byte all small (suc at) = omega arith
more_bytes (b ∷ name) byte all small zero = all zero
more_bytes (b ∷ name) byte all small (suc at) = more_bytes name byte (λ k. all (suc k)) small at

more_part : (name : List ℕ) (byte : ℕ) → IsPart name → byte < 256 → (byte == 47) ≡ false → (byte == 0) ≡ false → IsPart (name ++ byte ∷ [])
more_part name byte is small slash nul = record {
  are_bytes = more_bytes name byte is.are_bytes small;
  plain =
      list_any-append is_no_name_byte name (byte ∷ []) ∙ ap (λ b. b || list_any is_no_name_byte (byte ∷ [])) is.plain
      ∙ ap (λ b. (b || (byte == 0)) || false) slash ∙ ap (λ b. (false || b) || false) nul;
}

closed_parts : (name : List ℕ) (rest : List (List ℕ)) → IsPart name → AreParts rest → AreParts (closed name rest)
unfolding AreParts
closed_parts [] rest is all = all
closed_parts (b ∷ name) rest is all = (is, all)

text_rest : (byte : ℕ) (bytes : List ℕ) → IsText (byte ∷ bytes) → IsText bytes
text_rest byte bytes is = record {
  are_bytes = λ k. is.are_bytes (suc k);
  plain = (or_parts (byte == 0) (list_any (λ b. b == 0) bytes) is.plain).1;
}

parts_after : (bytes name : List ℕ) → IsText bytes → IsPart name → AreParts (components_after name bytes)
unfolding components_after AreParts
parts_after [] name is part = closed_parts name [] part tt
parts_after (byte ∷ bytes) name is part = by (byte == 47) refl (parts_after bytes [] (text_rest byte bytes is) empty_part) (λ small slash nul. parts_after bytes (name ++ byte ∷ []) (text_rest byte bytes is) (more_part name byte part small slash nul)) where
  by : (b : Bool) → (byte == 47) ≡ b → AreParts (components_after [] bytes)
      → (byte < 256 → (byte == 47) ≡ false → (byte == 0) ≡ false → AreParts (components_after (name ++ byte ∷ []) bytes))
      → AreParts (if b then closed name (components_after [] bytes) else components_after (name ++ byte ∷ []) bytes)
  by true e rest more = closed_parts name (components_after [] bytes) part rest
  by false e rest more = more (is.are_bytes zero) e (or_parts (byte == 0) (list_any (λ b. b == 0) bytes) is.plain).0

parts_append : (left right : List (List ℕ)) → AreParts left → AreParts right → AreParts (left ++ right)
unfolding AreParts
parts_append [] right l r = r
parts_append (name ∷ left) right l r = (l.0, parts_append left right l.1 r)

parts_of : (path : List ℕ) → IsText path → AreParts (components path)
parts_of path is = parts_after path [] is empty_part

-- The walk

listed : (o : Option Listing) → is_some o ≡ true → (listing : Listing) × (o ≡ Some listing)
listed None e = absurd (let wrong : false ≡ true = e in cc)
listed (Some listing) e = (listing, refl)

module _ (nodes : Nodes) (fs : IsFileSystem nodes) where
  root_is : is_directory nodes root ≡ true
  root_is = by (listing_at nodes root) refl fs.top where
    by : (o : Option Listing) → listing_at nodes root ≡ o → parent_of o ≡ Some root → is_some (listing_at nodes root) ≡ true
    by None e h = absurd cc
    by (Some listing) e h = ap (λ o. is_some o) e

  target_is : (number : ℕ) (target : List ℕ) → target_at nodes number ≡ Some target → IsText target
  target_is number target = by (get nodes number) refl where
    of_content : (content : NodeContent) (links : ℕ) → IsLiveContent nodes number links content → target_in content ≡ Some target → IsText target
    of_content (File content) links is e = absurd cc
    of_content (Directory listing) links is e = absurd cc
    of_content (Link other) links is e =
        let same : other ≡ target = cc in
        subst IsText same (record { are_bytes = is.0.are_bytes; plain = is.0.plain })

    by : (o : Option Inode) → get nodes number ≡ o → in_inode target_in o ≡ Some target → IsText target
    by None e h = absurd cc
    by (Some inode) e h = of_content inode.content inode.links (fs.each number inode e).content h

  abbrev AgreesIf : Result Place Errno → Type 0
  AgreesIf answer = (found : Place) → answer ≡ Ok found → Agrees nodes found

  no_place : (error : Errno) → AgreesIf (Err error)
  no_place error found e = absurd cc

  placed : (at : ℕ) (name : List ℕ) (node : Option ℕ) (listing : Listing) → listing_at nodes at ≡ Some listing → node ≡ named at listing name → IsPart name → length name ≤ 255
      → AgreesIf (place at name node)
  placed at name node listing live names part short found e =
      let same : record { directory = at; name = name; node = node } ≡ found = cc in
      subst (Agrees nodes) same (record { listing = listing; live = live; names = names; are_bytes = part.are_bytes; short = short; plain = part.plain })

  choice : (test : Bool) (first second : Result Place Errno) → AgreesIf first → AgreesIf second → AgreesIf (if test then first else second)
  choice true first second h g = h
  choice false first second h g = g

  abbrev Onward : Type 0
  Onward = ℕ → List ℕ → List (List ℕ) → Bool → Result Place Errno

  abbrev Through : Onward → Type 0
  Through through = (at : ℕ) (target : List ℕ) (rest : List (List ℕ)) (slash : Bool) → is_directory nodes at ≡ true → IsText target → AreParts rest → AgreesIf (through at target rest slash)

  abbrev Starts : ℕ → List (List ℕ) → Type 0
  Starts at [] = is_directory nodes at ≡ true
  Starts at (name ∷ rest) = ⊤

  starts : (at : ℕ) (rest : List (List ℕ)) → is_directory nodes at ≡ true → Starts at rest
  starts at [] e = e
  starts at (name ∷ rest) e = tt

  from_root : (slash : Bool) (at : ℕ) → is_directory nodes at ≡ true → is_directory nodes (if slash then root else at) ≡ true
  from_root true at e = root_is
  from_root false at e = e

  module _ (follow slash : Bool) (through : Onward) (follows : Through through) where
    module _ (at : ℕ) (name : List ℕ) (part : IsPart name) (target_slash : Bool) where
      abbrev last_through : List ℕ → Result Place Errno
      last_through target = through at target [] (target_slash || ends_with_slash target)

      module _ (short : length name ≤ 255) (listing : Listing) (live : listing_at nodes at ≡ Some listing) where
        directory : is_directory nodes at ≡ true
        directory = ap (λ o. is_some o) live

        last_kind : (node : ℕ) → named at listing name ≡ Some node → (target : Option (List ℕ)) → target_at nodes node ≡ target
            → AgreesIf (at_last nodes follow slash target_slash at name last_through (node_meaning node target))
        last_kind node names None t =
            choice ((slash || target_slash) && not (is_directory nodes node)) _ _ (no_place ENOTDIR) (placed at name (Some node) listing live (sym names) part short)
        last_kind node names (Some target) t =
            choice (slash || target_slash || follow) _ _ (follows at target [] (target_slash || ends_with_slash target) directory (target_is node target t) no_parts)
            (placed at name (Some node) listing live (sym names) part short)

        last_named : (node : Option ℕ) → named at listing name ≡ node → AgreesIf (at_last nodes follow slash target_slash at name last_through (named_meaning nodes node))
        last_named None names = choice (target_slash && not slash) _ _ (no_place ENOENT) (placed at name None listing live (sym names) part short)
        last_named (Some node) names = last_kind node names (target_at nodes node) refl

      last : (long : Bool) → nat_lt name_limit (length name) ≡ long → (listing : Option Listing) → listing_at nodes at ≡ listing
          → AgreesIf (at_last nodes follow slash target_slash at name last_through (if long then Wrong ENAMETOOLONG else listed_meaning nodes at name listing))
      last true l listing e = no_place ENAMETOOLONG
      last false l None e = no_place ENOTDIR
      last false l (Some listing) e = last_named (omega (arith, leb-false (suc name_limit) (length name) l)) listing e (named at listing name) refl

      module _ (next : List ℕ) (rest : List (List ℕ)) (all : AreParts (next ∷ rest)) (onward : ℕ → Result Place Errno) (goes : (node : ℕ) → AgreesIf (onward node)) where
        abbrev way_through : List ℕ → Result Place Errno
        way_through target = through at target (next ∷ rest) target_slash

        way_kind : (node : ℕ) → is_directory nodes at ≡ true → (target : Option (List ℕ)) → target_at nodes node ≡ target → AgreesIf (on_the_way onward way_through (node_meaning node target))
        way_kind node directory None t = goes node
        way_kind node directory (Some target) t = follows at target (next ∷ rest) target_slash directory (target_is node target t) all

        way_named : is_directory nodes at ≡ true → (node : Option ℕ) → AgreesIf (on_the_way onward way_through (named_meaning nodes node))
        way_named directory None = no_place ENOENT
        way_named directory (Some node) = way_kind node directory (target_at nodes node) refl

        way : (long : Bool) (listing : Option Listing) → listing_at nodes at ≡ listing
            → AgreesIf (on_the_way onward way_through (if long then Wrong ENAMETOOLONG else listed_meaning nodes at name listing))
        way true listing e = no_place ENAMETOOLONG
        way false None e = no_place ENOTDIR
        way false (Some listing) e = way_named (ap (λ o. is_some o) e) (named at listing name)

    components_agree : (rest : List (List ℕ)) (at : ℕ) (target_slash : Bool) → AreParts rest → Starts at rest → AgreesIf (walked_from nodes follow slash through at rest target_slash)
    unfolding walked_from AreParts
    components_agree [] at target_slash all start =
        let l = listed (listing_at nodes at) start in
        placed at [] (Some at) l.0 l.1 refl empty_part (omega arith)
    components_agree (name ∷ []) at target_slash all start =
        last at name all.0 target_slash (nat_lt name_limit (length name)) refl (listing_at nodes at) refl
    components_agree (name ∷ next ∷ rest) at target_slash all start =
        way at name all.0 target_slash next rest all.1 (λ node. walked_from nodes follow slash through node (next ∷ rest) target_slash)
        (λ node. components_agree (next ∷ rest) node target_slash all.1 tt) (nat_lt name_limit (length name)) (listing_at nodes at) refl

  links_agree : (follow slash : Bool) (more : ℕ) → Through (walked_through more nodes follow slash)
  unfolding walked_through
  links_agree follow slash zero at target rest target_slash directory text all = no_place ELOOP
  links_agree follow slash (suc more) at target rest target_slash directory text all =
      components_agree follow slash (walked_through more nodes follow slash) (links_agree follow slash more) (components target ++ rest) (if begins_with_slash target then root else at) target_slash
      (parts_append (components target) rest (parts_of target text) all)
      (starts (if begins_with_slash target then root else at) (components target ++ rest) (from_root (begins_with_slash target) at directory))

  pub walked_agrees : (from : ℕ) (path : List ℕ) (follow : Bool) → is_directory nodes from ≡ true → IsText path → AgreesIf (walked nodes from path follow)
  unfolding walked
  walked_agrees from [] follow directory text = no_place ENOENT
  walked_agrees from (byte ∷ bytes) follow directory text =
      components_agree follow (ends_with_slash (byte ∷ bytes)) (walked_through link_limit nodes follow (ends_with_slash (byte ∷ bytes)))
      (links_agree follow (ends_with_slash (byte ∷ bytes)) link_limit) (components (byte ∷ bytes)) (if begins_with_slash (byte ∷ bytes) then root else from) false
      (parts_of (byte ∷ bytes) text)
      (starts (if begins_with_slash (byte ∷ bytes) then root else from) (components (byte ∷ bytes)) (from_root (begins_with_slash (byte ∷ bytes)) from directory))

  -- the node of a place that agrees lives
  pub place_lives : (found : Place) (node : ℕ) → Agrees nodes found → found.node ≡ Some node → is_some (get nodes node) ≡ true
  place_lives found node agrees e =
      elim (by_name found.directory agrees.listing found.name node (sym agrees.names ∙ e)) [
        | inl entry ↦ node_lives nodes (tree_of nodes fs) found.directory found.name node
            (record { listing = agrees.listing; live = agrees.live; entry = entry.0; named = entry.1; is = entry.2 })
        | inr other ↦ elim other [
          | inl itself ↦ directory_lives node (subst (λ n. is_directory nodes n ≡ true) itself (ap (λ o. is_some o) agrees.live))
          | inr parent ↦ directory_lives node (parent_is_directory nodes (tree_of nodes fs) found.directory node (ap (λ o. parent_of o) agrees.live ∙ parent))
        ]
      ] where
        directory_lives : (number : ℕ) → is_directory nodes number ≡ true → is_some (get nodes number) ≡ true
        directory_lives number = by (get nodes number) refl where
          by : (o : Option Inode) → get nodes number ≡ o → is_some (in_inode listing_in o) ≡ true → is_some (get nodes number) ≡ true
          by None f h = absurd (let wrong : false ≡ true = h in cc)
          by (Some inode) f h = ap (λ k. is_some k) f

-- From where rows walk

module _ (files : Files) (is : IsFiles files) where
  if_directory_is : (found : Option ℕ) (node : ℕ) → if_directory files.nodes found ≡ Some node → is_directory files.nodes node ≡ true
  if_directory_is None node e = absurd cc
  if_directory_is (Some other) node e = by (is_some (listing_at files.nodes other)) refl e where
    by : (b : Bool) → is_some (listing_at files.nodes other) ≡ b → (if b then Some other else None) ≡ Some node → is_directory files.nodes node ≡ true
    by true f h = let same : other ≡ node = cc in subst (λ n. is_directory files.nodes n ≡ true) same f
    by false f h = absurd cc

  pub directory_of_is : (description : Option Description) (from : ℕ) → directory_of files.nodes description ≡ Ok from → is_directory files.nodes from ≡ true
  directory_of_is None from e = absurd cc
  directory_of_is (Some description) from e = by (open_directory files.nodes description.object) refl e where
    by : (found : Option ℕ) → open_directory files.nodes description.object ≡ found → ok_or found ENOTDIR ≡ Ok from → is_directory files.nodes from ≡ true
    by None f h = absurd cc
    by (Some node) f h = let same : node ≡ from = cc in if_directory_is (node_of description.object) from (f ∙ ap Some same)

  base_is : (base : Base) (from : ℕ) → base_directory files base ≡ Ok from → is_directory files.nodes from ≡ true
  base_is Working from e = let same : files.directory ≡ from = cc in subst (λ n. is_directory files.nodes n ≡ true) same is.directory
  base_is (Descriptor fd) from e = directory_of_is (opened files fd) from e

  pub walk_agrees : (base : Base) (path : List ℕ) (follow : Bool) → IsText path → (found : Place) → walk files base path follow ≡ Ok found → Agrees files.nodes found
  unfolding walk
  walk_agrees base [] follow text found e = absurd cc
  walk_agrees base (byte ∷ bytes) follow text found e = by (begins_with_slash (byte ∷ bytes)) (base_directory files base) refl e where
    walked_to : (from : Result ℕ Errno) → ((number : ℕ) → from ≡ Ok number → is_directory files.nodes number ≡ true)
        → walked_by files.nodes from (byte ∷ bytes) follow ≡ Ok found → Agrees files.nodes found
    walked_to (Err error) known h = absurd cc
    walked_to (Ok from) known h = walked_agrees files.nodes is.nodes from (byte ∷ bytes) follow (known from refl) text found h

    by : (b : Bool) (from : Result ℕ Errno) → base_directory files base ≡ from → walked_by files.nodes (if b then Ok root else from) (byte ∷ bytes) follow ≡ Ok found
        → Agrees files.nodes found
    by true from f h = walked_to (Ok root) (λ number g. let same : root ≡ number = cc in subst (λ n. is_directory files.nodes n ≡ true) same (root_is files.nodes is.nodes)) h
    by false from f h = walked_to from (λ number g. base_is base number (f ∙ g)) h

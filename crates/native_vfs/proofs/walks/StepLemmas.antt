-- One step of a walk, for what is kept at the key where it stands.
use Rattle.std.proofs.Common.{◌≡◌, ◌≢◌, ◌≤◌, ◌<◌, ℕ, suc, ◌+◌, Bool, true, false, List, [], ◌∷◌, ◌++◌, length, Option, Some, None, Result, Err, is_some, refl, sym, ◌∙◌, ap, subst, arith, length-append}
use Rattle.std.specs.Prelude.{option_map, if◌then◌else◌, nat_lt, slice_index}
use Rattle.std.specs.List.{list_any}
use Rattle.std.proofs.lemmas.Bool.{ne_eqb}
use Rattle.std.proofs.lemmas.Bool.Decides.{nat_tests}
use Rattle.kernel_core.specs.Nodes.{Nodes, Listing, listing_at, listing_in, in_inode, is_directory, target_at}
use Rattle.kernel_core.specs.PathWalk as walking
use Rattle.kernel_core.specs.PathWalk.{components, begins_with_slash, link_limit, name_limit}
use Rattle.kernel_core.specs.ValidTree.{root, IsTarget, is_no_name_byte}
use Rattle.kernel_core.specs.declared.core_error.CoreError.{CoreError}
use Rattle.kernel_core.specs.declared.error.Errno.TheVariants.{ELOOP, ENAMETOOLONG, ENOTDIR}
use Rattle.native_vfs.specs.Keyed.{Keyed, IsLiveKey, number_at, inode_at, AgreesAt, AreLiveKeys}
use Rattle.native_vfs.specs.inside.Stored.{inode_of, content_of, listing_of}
use Rattle.native_vfs.specs.inside.Walking.{IsSound, named_key, walk_of, steps_left, IsUnderWay, Gives}
use Rattle.native_vfs.specs.declared.stored.Stored.{Stored}
use Rattle.native_vfs.specs.declared.stored.StoredContent.{StoredContent}
use Rattle.native_vfs.specs.declared.stored.StoredContent.TheVariants as kept
use Rattle.native_vfs.specs.declared.stored.StoredDirectory.{StoredDirectory}
use Rattle.native_vfs.specs.declared.walk.Found.{Found}
use Rattle.native_vfs.specs.declared.walk.Walk.{Walk as KeyedWalk}
use Rattle.native_vfs.proofs.walks.Components.{length-components, has-component}
use Rattle.native_vfs.proofs.walks.NameLemmas.{named-number, named-live}
use Rattle.native_vfs.proofs.walks.WalkLemmas.{step-some}

-- A link is followed

pub follow-goes :
    (system : Keyed) (old : KeyedWalk) (at : ℕ) (rest : List (List ℕ)) (target : List ℕ) → old.links ≢ 40 →
    rest ≡ components target ++ old.rest → number_at system at ≡ (if begins_with_slash target then root else number_at system old.at) →
    walking.following (walk_of system old) target old.rest old.target_slash
    ≡ walking.Goes (walk_of system (record { at = at; rest = rest; slash = old.slash; target_slash = old.target_slash; links = old.links + 1 }))
follow-goes system old at rest target few is number =
    let next = walking.Goes (record {
      at = if begins_with_slash target then root else number_at system old.at;
      rest = components target ++ old.rest;
      slash = old.slash;
      target_slash = old.target_slash;
      links = old.links + 1;
    }) in
    ap (λ b. if b then walking.Ends (Err ELOOP) else next) (ne_eqb old.links 40 few)
    ∙ ap (λ a. walking.Goes (record { at = a; rest = components target ++ old.rest; slash = old.slash; target_slash = old.target_slash; links = old.links + 1 })) (sym number)
    ∙ ap (λ r. walking.Goes (record { at = number_at system at; rest = r; slash = old.slash; target_slash = old.target_slash; links = old.links + 1 })) (sym is)

pub follow-way :
    (system : Keyed) (old : KeyedWalk) (at : ℕ) (rest : List (List ℕ)) (target : List ℕ) → old.links ≢ 40 → old.links ≤ 40 → IsTarget target →
    rest ≡ components target ++ old.rest → IsLiveKey system at → number_at system at ≡ (if begins_with_slash target then root else number_at system old.at) →
    (begins_with_slash target ≡ true → is_directory system.nodes root ≡ true) →
    IsUnderWay system (record { at = at; rest = rest; slash = old.slash; target_slash = old.target_slash; links = old.links + 1 })
follow-way system old at rest target few links sound is live number directory = record {
  live = live;
  ends = λ none. ends none (begins_with_slash target) refl;
  links = omega arith;
}
  where
    ends : rest ≡ [] → (b : Bool) → begins_with_slash target ≡ b → is_directory system.nodes (number_at system at) ≡ true
    ends none true begins = ap (is_directory system.nodes) (number ∙ ap (λ b. if b then root else number_at system old.at) begins) ∙ directory begins
    ends none false begins = absurd (has-component target old.rest sound.some begins (sym is ∙ none))

pub follow-left :
    (old : KeyedWalk) (at : ℕ) (rest : List (List ℕ)) (target : List ℕ) → old.links ≢ 40 → old.links ≤ 40 → length target ≤ 4095 →
    rest ≡ components target ++ old.rest →
    steps_left (record { at = at; rest = rest; slash = old.slash; target_slash = old.target_slash; links = old.links + 1 }) < steps_left old + 1
follow-left old at rest target few links short is =
    let size : length rest ≡ length (components target) + length old.rest = ap length is ∙ length-append (components target) old.rest in
    omega (arith, size, length-components target)

-- A component is looked up

-- what stands at a key, where it is a directory
pub listing-found :
    (system : Keyed) (at : ℕ) (node : Stored) (content : StoredContent) → node.content ≡ content → inode_at system at ≡ Some (inode_of node) →
    listing_at system.nodes (number_at system at) ≡ listing_in (content_of content)
listing-found system at node content is inode = ap (in_inode listing_in) inode ∙ ap (λ k. listing_in (content_of k)) is

pub found-here :
    (system : Keyed) (at : ℕ) → IsLiveKey system at → is_directory system.nodes (number_at system at) ≡ true →
    AgreesAt system (record { dir = at; name = []; node = Some at })
found-here system at live directory = by (listing_at system.nodes (number_at system at)) refl directory
  where
    by : (o : Option Listing) → listing_at system.nodes (number_at system at) ≡ o → is_some o ≡ true → AgreesAt system (record { dir = at; name = []; node = Some at })
    by None is some = absurd (cc)
    by (Some listing) is some = record {
      directory = live;
      node = live;
      agrees = record { listing = listing; live = is; names = refl; are_bytes = λ place. omega arith; short = omega arith; plain = refl };
    }

pub found-named :
    (system : Keyed) (at : ℕ) (node : Stored) (directory : StoredDirectory) (name : List ℕ) (result : Option ℕ) →
    IsLiveKey system at → inode_at system at ≡ Some (inode_of node) → node.content ≡ kept.Directory directory → IsSound system node.content →
    result ≡ named_key at directory name → ((place : ℕ) → slice_index name place < 256) → length name ≤ 255 → list_any is_no_name_byte name ≡ false →
    AgreesAt system (record { dir = at; name = name; node = result })
found-named system at node directory name result live inode is sound names bytes short plain =
    let leads = subst (IsSound system) is sound in
    record {
      directory = live;
      node = subst (AreLiveKeys system) (sym names) (named-live system at directory name live leads);
      agrees = record {
        listing = listing_of directory;
        live = listing-found system at node (kept.Directory directory) is inode;
        names = ap (option_map (number_at system)) names ∙ named-number system at directory name leads;
        are_bytes = bytes;
        short = short;
        plain = plain;
      };
    }

-- what is named there
pub number-named :
    (system : Keyed) (at : ℕ) (node : Stored) (directory : StoredDirectory) (name : List ℕ) (result : Option ℕ) →
    node.content ≡ kept.Directory directory → IsSound system node.content → result ≡ named_key at directory name →
    option_map (number_at system) result ≡ walking.named (number_at system at) (listing_of directory) name
number-named system at node directory name result is sound names =
    ap (option_map (number_at system)) names ∙ named-number system at directory name (subst (IsSound system) is sound)

component-long :
    (nodes : Nodes) (follow : Bool) (walk : walking.Walk) (name : List ℕ) (rest : List (List ℕ)) → 255 < length name →
    walking.at_component nodes follow walk (name ∷ rest) ≡ walking.Ends (Err ENAMETOOLONG)
component-long nodes follow walk name rest long =
    let test : nat_lt name_limit (length name) ≡ true = grind (arith, nat_tests) in
    ap (λ b. if b then walking.Ends (Err ENAMETOOLONG) else walking.in_listing nodes follow walk name rest (listing_at nodes walk.at)) test

component-short :
    (nodes : Nodes) (follow : Bool) (walk : walking.Walk) (name : List ℕ) (rest : List (List ℕ)) → length name ≤ 255 →
    walking.at_component nodes follow walk (name ∷ rest) ≡ walking.in_listing nodes follow walk name rest (listing_at nodes walk.at)
component-short nodes follow walk name rest short =
    let test : nat_lt name_limit (length name) ≡ false = grind (arith, nat_tests) in
    ap (λ b. if b then walking.Ends (Err ENAMETOOLONG) else walking.in_listing nodes follow walk name rest (listing_at nodes walk.at)) test

pub step-long :
    (system : Keyed) (follow : Bool) (walk : KeyedWalk) (name : List ℕ) (rest : List (List ℕ)) → walk.rest ≡ name ∷ rest → 255 < length name →
    walking.walk_step system.nodes follow (walk_of system walk) ≡ walking.Ends (Err ENAMETOOLONG)
step-long system follow walk name rest is long =
    step-some system follow walk name rest is ∙ component-long system.nodes follow (walk_of system walk) name rest long

no-listing : (content : StoredContent) → ((directory : StoredDirectory) → content ≡ kept.Directory directory → ⊥) → listing_in (content_of content) ≡ None
no-listing (kept.File content) other = refl
no-listing (kept.Directory directory) other = absurd (other directory refl)
no-listing (kept.Link target) other = refl

pub step-no_directory :
    (system : Keyed) (follow : Bool) (walk : KeyedWalk) (name : List ℕ) (rest : List (List ℕ)) (node : Stored) → walk.rest ≡ name ∷ rest →
    length name ≤ 255 → inode_at system walk.at ≡ Some (inode_of node) → ((directory : StoredDirectory) → node.content ≡ kept.Directory directory → ⊥) →
    walking.walk_step system.nodes follow (walk_of system walk) ≡ walking.Ends (Err ENOTDIR)
step-no_directory system follow walk name rest node is short inode other =
    step-some system follow walk name rest is
    ∙ component-short system.nodes follow (walk_of system walk) name rest short
    ∙ ap (walking.in_listing system.nodes follow (walk_of system walk) name rest)
    (listing-found system walk.at node node.content refl inode ∙ no-listing node.content other)

-- the components before which a name was taken play no part
named-any_rest :
    (nodes : Nodes) (follow : Bool) (walk : walking.Walk) (name : List ℕ) (rest other : List (List ℕ)) (node : Option ℕ) →
    walking.at_named nodes follow walk name rest node ≡ walking.at_named nodes follow (record walk { rest = other }) name rest node
named-any_rest nodes follow walk name [] other None = refl
named-any_rest nodes follow walk name (next ∷ rest) other None = refl
named-any_rest nodes follow walk name [] other (Some number) = by (target_at nodes number)
  where
    by : (target : Option (List ℕ)) →
        walking.at_kind nodes follow walk name [] number target ≡ walking.at_kind nodes follow (record walk { rest = other }) name [] number target
    by None = refl
    by (Some target) = refl
named-any_rest nodes follow walk name (next ∷ rest) other (Some number) = by (target_at nodes number)
  where
    by : (target : Option (List ℕ)) →
        walking.at_kind nodes follow walk name (next ∷ rest) number target
        ≡ walking.at_kind nodes follow (record walk { rest = other }) name (next ∷ rest) number target
    by None = refl
    by (Some target) = refl

pub step-named :
    (system : Keyed) (follow : Bool) (walk : KeyedWalk) (name : List ℕ) (rest : List (List ℕ)) (node : Stored) (directory : StoredDirectory)
    (result : Option ℕ) → walk.rest ≡ name ∷ rest → length name ≤ 255 → inode_at system walk.at ≡ Some (inode_of node) →
    node.content ≡ kept.Directory directory → IsSound system node.content → result ≡ named_key walk.at directory name →
    walking.walk_step system.nodes follow (walk_of system walk)
    ≡ walking.at_named system.nodes follow (walk_of system (record walk { rest = rest })) name rest (option_map (number_at system) result)
step-named system follow walk name rest node directory result is short inode content sound names =
    step-some system follow walk name rest is
    ∙ component-short system.nodes follow (walk_of system walk) name rest short
    ∙ ap (walking.in_listing system.nodes follow (walk_of system walk) name rest) (listing-found system walk.at node (kept.Directory directory) content inode)
    ∙ ap (walking.at_named system.nodes follow (walk_of system walk) name rest) (sym (number-named system walk.at node directory name result content sound names))
    ∙ named-any_rest system.nodes follow (walk_of system walk) name rest rest (option_map (number_at system) result)

-- a component fewer is left
pub step-left : (walk : KeyedWalk) (name : List ℕ) (rest : List (List ℕ)) → walk.rest ≡ name ∷ rest → steps_left (record walk { rest = rest }) + 1 ≡ steps_left walk
step-left walk name rest is =
    let size : length walk.rest ≡ suc (length rest) = ap length is in
    omega (arith, size)

pub gives-same :
    (system : Keyed) (most other : ℕ) (step same : walking.WalkStep) (walk : KeyedWalk) (result : Result (Option Found) CoreError) → most ≡ other → step ≡ same →
    Gives system most step walk result → Gives system other same walk result
gives-same system most other step same walk result m s gives =
    subst (λ m. Gives system m same walk result) m (subst (λ s. Gives system most s walk result) s gives)

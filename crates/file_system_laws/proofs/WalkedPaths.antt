-- The function `walked` gives the answer of the walk.
use Rattle.std.proofs.Common.{◌≡◌, ◌+◌, ◌<◌, ℕ, zero, suc, Bool, true, false, List, [], ◌∷◌, ◌++◌, Option, Some, None, refl, sym, subst, arith, eq-eqb, ne_eqb}
use Rattle.std.specs.Prelude.{Result, Ok, Err, length, ◌||◌, ◌&&◌, not, nat_lt, if◌then◌else◌}
use Rattle.kernel_core.specs.Nodes.{Nodes, Listing, listing_at, target_at, is_directory}
use Rattle.kernel_core.specs.PathWalk.{Place, Walk, WalkStep, Ends, Goes, EndsAfter, Walks, walk_step, following, in_listing, at_named, at_kind, named, components, begins_with_slash, ends_with_slash, name_limit, link_limit}
use Rattle.kernel_core.specs.Queries.{Wrong, node_meaning, named_meaning, listed_meaning, at_last, on_the_way, walked_from, walked_through, walked}
use Rattle.kernel_core.specs.ValidTree.{root}
use Rattle.kernel_core.specs.declared.error.Errno.{Errno}
use Rattle.kernel_core.specs.declared.error.Errno.TheVariants.{ENAMETOOLONG, ENOENT, ELOOP}

-- how a walk goes on from a link: from where it stands, by the target, the components behind the link and the slash of targets
abbrev Onward : Type 0
Onward = ℕ → List ℕ → List (List ℕ) → Bool → Result Place Errno

module _ (nodes : Nodes) (follow slash : Bool) where
  -- a walk ends with an answer
  abbrev Ended : WalkStep → Result Place Errno → Type 0
  Ended step answer = (count : ℕ) × EndsAfter count nodes follow step answer

  at_once : (answer : Result Place Errno) → Ended (Ends answer) answer
  unfolding EndsAfter
  at_once answer = (0, refl)

  one_more : (walk : Walk) (answer : Result Place Errno) → Ended (walk_step nodes follow walk) answer → Ended (Goes walk) answer
  unfolding EndsAfter
  one_more walk answer (count, h) = (suc count, h)

  either : (test : Bool) (first second : Result Place Errno) → Ended (if test then Ends first else Ends second) (if test then first else second)
  either true first second = at_once first
  either false first second = at_once second

  -- a walk that has followed so many links
  abbrev standing : ℕ → ℕ → List (List ℕ) → Bool → Walk
  standing links at rest target_slash = record { at = at; rest = rest; slash = slash; target_slash = target_slash; links = links }

  -- the function goes on from a link as the walk does that has followed so many
  abbrev Follows : Onward → ℕ → Type 0
  Follows through links =
      (at : ℕ) (held : List (List ℕ)) (before : Bool) (target : List ℕ) (rest : List (List ℕ)) (after : Bool)
      → Ended (following (standing links at held before) target rest after) (through at target rest after)

  module _ (through : Onward) (links : ℕ) (follows : Follows through links) where
    module _ (at : ℕ) (name : List ℕ) (target_slash : Bool) where
      -- the last component
      abbrev last_through : List ℕ → Result Place Errno
      last_through target = through at target [] (target_slash || ends_with_slash target)

      abbrev last_walk : Walk
      last_walk = standing links at (name ∷ []) target_slash

      last_kind : (node : ℕ) (target : Option (List ℕ))
          → Ended (at_kind nodes follow last_walk name [] node target) (at_last nodes follow slash target_slash at name last_through (node_meaning node target))
      last_kind node None = either ((slash || target_slash) && not (is_directory nodes node)) _ _
      last_kind node (Some target) = go (slash || target_slash || follow)
        where
          go : (test : Bool)
              → Ended (if test then following last_walk target [] (target_slash || ends_with_slash target) else Ends (Ok (record { directory = at; name = name; node = Some node })))
              (if test then last_through target else Ok (record { directory = at; name = name; node = Some node }))
          go true = follows at (name ∷ []) target_slash target [] (target_slash || ends_with_slash target)
          go false = at_once _

      last_named : (node : Option ℕ)
          → Ended (at_named nodes follow last_walk name [] node) (at_last nodes follow slash target_slash at name last_through (named_meaning nodes node))
      last_named None = either (target_slash && not slash) _ _
      last_named (Some node) = last_kind node (target_at nodes node)

      last : (long : Bool) (listing : Option Listing)
          → Ended (if long then Ends (Err ENAMETOOLONG) else in_listing nodes follow last_walk name [] listing)
          (at_last nodes follow slash target_slash at name last_through (if long then Wrong ENAMETOOLONG else listed_meaning nodes at name listing))
      last true listing = at_once _
      last false None = at_once _
      last false (Some listing) = last_named (named at listing name)

      -- a component before others
      module _ (next : List ℕ) (rest : List (List ℕ)) (onward : ℕ → Result Place Errno)
          (goes : (node : ℕ) → Ended (Goes (standing links node (next ∷ rest) target_slash)) (onward node)) where
        abbrev way_through : List ℕ → Result Place Errno
        way_through target = through at target (next ∷ rest) target_slash

        abbrev way_walk : Walk
        way_walk = standing links at (name ∷ next ∷ rest) target_slash

        way_kind : (node : ℕ) (target : Option (List ℕ))
            → Ended (at_kind nodes follow way_walk name (next ∷ rest) node target) (on_the_way onward way_through (node_meaning node target))
        way_kind node None = goes node
        way_kind node (Some target) = follows at (name ∷ next ∷ rest) target_slash target (next ∷ rest) target_slash

        way_named : (node : Option ℕ)
            → Ended (at_named nodes follow way_walk name (next ∷ rest) node) (on_the_way onward way_through (named_meaning nodes node))
        way_named None = at_once _
        way_named (Some node) = way_kind node (target_at nodes node)

        way : (long : Bool) (listing : Option Listing)
            → Ended (if long then Ends (Err ENAMETOOLONG) else in_listing nodes follow way_walk name (next ∷ rest) listing)
            (on_the_way onward way_through (if long then Wrong ENAMETOOLONG else listed_meaning nodes at name listing))
        way true listing = at_once _
        way false None = at_once _
        way false (Some listing) = way_named (named at listing name)

    -- the components that are left
    pub components_walked : (rest : List (List ℕ)) (at : ℕ) (target_slash : Bool)
        → Ended (Goes (standing links at rest target_slash)) (walked_from nodes follow slash through at rest target_slash)
    unfolding walk_step walked_from
    components_walked [] at target_slash = one_more _ _ (at_once _)
    components_walked (name ∷ []) at target_slash =
        one_more _ _ (last at name target_slash (nat_lt name_limit (length name)) (listing_at nodes at))
    components_walked (name ∷ next ∷ rest) at target_slash =
        one_more _ _
        (way at name target_slash next rest (λ node. walked_from nodes follow slash through node (next ∷ rest) target_slash)
        (λ node. components_walked (next ∷ rest) node target_slash)
        (nat_lt name_limit (length name)) (listing_at nodes at))

  -- the links that may still be followed
  pub links_followed : (more links : ℕ) → links + more ≡ link_limit → Follows (walked_through more nodes follow slash) links
  unfolding walked_through
  links_followed zero links whole at held before target rest after =
      let limit : links ≡ link_limit = omega (arith, whole) in
      subst (λ test. Ended (if test then Ends (Err ELOOP) else Goes (standing (links + 1) (if begins_with_slash target then root else at) (components target ++ rest) after)) (Err ELOOP))
      (sym (eq-eqb links link_limit limit)) (at_once (Err ELOOP))
  links_followed (suc more) links whole at held before target rest after =
      let below : links < link_limit = omega (arith, whole) in
      let apart : links ≡ link_limit → ⊥ = λ e. omega (arith, e, below) in
      let less : links + 1 + more ≡ link_limit = omega (arith, whole) in
      subst (λ test. Ended (if test then Ends (Err ELOOP) else Goes (standing (links + 1) (if begins_with_slash target then root else at) (components target ++ rest) after))
      (walked_from nodes follow slash (walked_through more nodes follow slash) (if begins_with_slash target then root else at) (components target ++ rest) after))
      (sym (ne_eqb links link_limit apart))
      (components_walked (walked_through more nodes follow slash) (links + 1) (links_followed more (links + 1) less) (components target ++ rest) (if begins_with_slash target then root else at) after)

pub walked_is_the_walk : (nodes : Nodes) (from : ℕ) (path : List ℕ) (follow : Bool) → Walks nodes from path follow (walked nodes from path follow)
unfolding walked
walked_is_the_walk nodes from [] follow = at_once nodes follow false (Err ENOENT)
walked_is_the_walk nodes from (byte ∷ bytes) follow =
    components_walked nodes follow (ends_with_slash (byte ∷ bytes)) (walked_through link_limit nodes follow (ends_with_slash (byte ∷ bytes))) 0
    (links_followed nodes follow (ends_with_slash (byte ∷ bytes)) link_limit 0 (omega arith))
    (components (byte ∷ bytes)) (if begins_with_slash (byte ∷ bytes) then root else from) false

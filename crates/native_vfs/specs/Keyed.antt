-- A file system as its callers see it: its nodes by their numbers, and which node each key stands for. A key is given out by the
-- file system for a live node, and stands for that node as long as it lives. (The keys are this project's own.)
use Rattle.std.specs.Prelude.{◌≡◌, ◌↔◌, ℕ, ⊤, Option, Some, None, IsSome, option_map, is_some, true, refl}
use Rattle.std.specs.Coded.{Coded, code_by, coded×, coded_ℕ}
use Rattle.std.specs.Ordering.{nat_cmp}
use Rattle.std.specs.Option.{unwrap_or}
use Rattle.std.specs.FinMap.{FinMap, code, get}
use Rattle.kernel_core.specs.Nodes.{Nodes, Inode, nodes_code}
use Rattle.kernel_core.specs.PathWalk.{Place, Agrees}
use Rattle.native_vfs.specs.declared.place.Place.{Place as KeyedPlace}

-- the number of the node that each key stands for
abbrev pub Keys : Type 0
Keys = FinMap nat_cmp ℕ

pub record Keyed : Type 0 where
  pub nodes : Nodes
  pub keys : Keys

abbrev pub keyed_code : Coded Keyed
keyed_code =
    code_by (Nodes × Keys) (coded× nodes_code (code coded_ℕ coded_ℕ))
    (λ k. (k.nodes, k.keys)) (λ t. record { nodes = t.0; keys = t.1 }) (λ _. refl)

-- Each key stands for a live node, and each live node has one key.
pub record AreKeys (system : Keyed) : Type 0 where
  pub live : (key number : ℕ) → get system.keys key ≡ Some number → is_some (get system.nodes number) ≡ true
  pub each : (number : ℕ) → is_some (get system.nodes number) ≡ true → (key : ℕ) × (get system.keys key ≡ Some number)
  pub once : (key other number : ℕ) → get system.keys key ≡ Some number → get system.keys other ≡ Some number → key ≡ other

-- the key stands for a live node
abbrev pub IsLiveKey : Keyed → ℕ → Type 0
IsLiveKey system key = IsSome (get system.keys key)

-- the number of the node that a key stands for
abbrev pub number_at : Keyed → ℕ → ℕ
number_at system key = unwrap_or (get system.keys key) 0

-- the node that a key stands for
abbrev pub inode_at : Keyed → ℕ → Option Inode
inode_at system key = get system.nodes (number_at system key)

-- Each key stands for the node that it stood for, as long as that node lives.
abbrev pub KeepsKeys : Keyed → Keyed → Type 0
KeepsKeys old new =
    (key number : ℕ) →
    (get new.keys key ≡ Some number) ↔ ((get old.keys key ≡ Some number) × (is_some (get new.nodes number) ≡ true))

-- a place by the numbers of its nodes
abbrev pub place_at : Keyed → KeyedPlace → Place
place_at system place = record {
  directory = number_at system place.dir;
  name = place.name;
  node = option_map (number_at system) place.node;
}

abbrev pub AreLiveKeys : Keyed → Option ℕ → Type 0
AreLiveKeys system None = ⊤
AreLiveKeys system (Some key) = IsLiveKey system key

-- A place that agrees with the file system: its keys stand for live nodes, and its name names its node in its directory.
pub record AgreesAt (system : Keyed) (place : KeyedPlace) : Type 0 where
  pub directory : IsLiveKey system place.dir
  pub node : AreLiveKeys system place.node
  pub agrees : Agrees system.nodes (place_at system place)

-- The row that reads a link, from what the walk of its path gave.
use Rattle.std.proofs.Common.{◌≡◌, ℕ, false, List, take, Option, Some, None, refl, sym, ap, subst, ◌∙◌}
use Rattle.std.specs.Prelude.{Result, Ok, Err, is_some}
use Rattle.std.specs.FinMap.{get}
use Rattle.kernel_core.specs.Nodes.{Nodes, target_at, target_in}
use Rattle.kernel_core.specs.Queries.{LinkKind, NodeKind, kind_at}
use Rattle.kernel_core.specs.declared.core_error.CoreError.{CoreError}
use Rattle.kernel_core.specs.declared.core_error.CoreError.TheVariants as errors
use Rattle.kernel_core.specs.declared.error.Errno.{Errno}
use Rattle.kernel_core.specs.declared.error.Errno.TheVariants.{EINVAL}
use Rattle.file_system_laws.proofs.HeldNodes.{target_kind, told}
use Rattle.kernel_model.specs.Came.{Did, done, with_given, with_some}
use Rattle.kernel_model.specs.Paths.{Base, node_found}
use Rattle.kernel_model.specs.State.{Descriptors, Files, Flow}
use Rattle.kernel_model.specs.declared.descriptor.Description.{Description}
use Rattle.kernel_model.specs.declared.terminal.Terminal.{Terminal}
use Rattle.native_vfs.specs.Keyed.{Keyed, number_at as node_at}
use Rattle.native_files.specs.Answers.{Answers}
use Rattle.native_files.specs.inside.Targets.{read_target}
use Rattle.native_files.specs.inside.Walks.{FindsNode, walk_in}
use Rattle.native_files.proofs.NamedRows.{find-lost, found-at}
use Rattle.native_files.proofs.NameSteps.{seen}

-- a node of another kind is no link
pub no-target : (nodes : Nodes) (node : ℕ) (kind : NodeKind) → kind_at nodes node ≡ Some kind → (kind ≡ LinkKind → ⊥) → target_at nodes node ≡ None
no-target nodes node kind is other = by (target_at nodes node) refl
  where
    by : (o : Option (List ℕ)) → target_at nodes node ≡ o → o ≡ None
    by None at = refl
    by (Some target) at =
        let link : kind_at nodes node ≡ Some LinkKind = (told target_in LinkKind target_kind (get nodes node)).1 (ap (λ o. is_some o) at) in
        let same : Some kind ≡ Some LinkKind = sym is ∙ link in
        absurd (other (cc))

module _ (table : Descriptors Description) (flow : Flow) (directory umask : ℕ) (terminal : Option Terminal) (system : Keyed) (base : Base) (path : List ℕ) (most : ℕ) where
  abbrev files : Files
  files = seen table flow directory umask terminal system

  abbrev read_at : ℕ → Did Files (List ℕ)
  read_at node = with_some files EINVAL (target_at system.nodes node) (λ target. done files (take most target))

  abbrev Found : Result ℕ CoreError → Type 0
  Found result = FindsNode system (node_found (walk_in system.nodes table (node_at system directory) base path false)) result

  pub target-lost : (error : CoreError) → Found (Err error) → Answers (read_target files base path most) (Err error) files
  target-lost error found = find-lost table flow directory umask terminal system base path false read_at error found

  module _ (key : ℕ) (found : Found (Ok key)) where
    reads : (o : Option (List ℕ)) → target_at system.nodes (node_at system key) ≡ o → read_target files base path most ≡ with_some files EINVAL o (λ target. done files (take most target))
    reads o is =
        ap (λ (r : Result ℕ Errno). with_given files r read_at) (found-at table flow directory umask terminal system base path false key found)
        ∙ ap (λ o. with_some files EINVAL o (λ target. done files (take most target))) is

    pub target-none : target_at system.nodes (node_at system key) ≡ None → Answers (read_target files base path most) (Err (errors.Refused EINVAL)) files
    target-none is = subst (λ (step : Did Files (List ℕ)). Answers step (Err (errors.Refused EINVAL)) files) (sym (reads None is)) (refl, refl)

    pub target-read : (target text : List ℕ) → target_at system.nodes (node_at system key) ≡ Some target → text ≡ take most target → Answers (read_target files base path most) (Ok text) files
    target-read target text is cut =
        subst (λ (step : Did Files (List ℕ)). Answers step (Ok text) files) (sym (reads (Some target) is))
        (subst (λ t. Answers (done files t) (Ok text) files) cut (refl, refl))

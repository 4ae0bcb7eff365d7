-- Rows on names, from what the walk of their paths and the call on the nodes gave.
use Rattle.std.proofs.Common.{◌≡◌, ℕ, ◌%◌, ℤ, false, List, Option, refl, sym, subst, ◌∙◌}
use Rattle.std.specs.Prelude.{Result, Ok, Err}
use Rattle.kernel_core.specs.NameCalls.{after_mkdir, make_refusal}
use Rattle.kernel_core.specs.Nodes.{Nodes}
use Rattle.kernel_core.specs.PathWalk.{Place}
use Rattle.kernel_core.specs.Queries.{new_number}
use Rattle.kernel_core.specs.declared.core_error.CoreError.{CoreError}
use Rattle.kernel_core.specs.declared.core_error.CoreError.TheVariants as errors
use Rattle.kernel_core.specs.declared.core_error.Stop.TheVariants as stops
use Rattle.kernel_core.specs.declared.error.Errno.{Errno}
use Rattle.kernel_model.specs.Came.{Did, done, refused_by, with_given}
use Rattle.kernel_model.specs.Modes.{permitted}
use Rattle.kernel_model.specs.NameRows.{make_directory, with_nodes}
use Rattle.kernel_model.specs.Paths.{Base, walk}
use Rattle.kernel_model.specs.State.{Descriptors, Files, Flow}
use Rattle.kernel_model.specs.declared.descriptor.Description.{Description}
use Rattle.kernel_model.specs.declared.terminal.Terminal.{Terminal}
use Rattle.native_vfs.specs.Keyed.{Keyed, number_at as node_at, place_at}
use Rattle.native_vfs.specs.declared.place.Place.{Place as KeyedPlace}
use Rattle.native_files.specs.Answers.{Answers}
use Rattle.native_files.specs.inside.Changes.{Changes}
use Rattle.native_files.specs.inside.Walks.{FindsNode, LeadsTo, walk_in}
use Rattle.native_files.proofs.Walked.{walk-is}

-- a path that leads nowhere
pub walk-refused : {V : Type 0} (system : Keyed) (files : Files) (walked : Result Place Errno) (rest : Place → Did Files V) (error : CoreError) → LeadsTo system walked (Err error)
    → Answers (with_given files walked rest) (Err error) files
walk-refused system files walked rest (errors.Refused error) is =
    subst (λ (w : Result Place Errno). Answers (with_given files w rest) (Err (errors.Refused error)) files) (sym is) (refl, refl)
walk-refused system files walked rest (errors.Stop stops.NoMemory) is = tt
walk-refused system files walked rest (errors.Stop stops.ReadFault) is = is
walk-refused system files walked rest (errors.Stop stops.WriteFault) is = is

pub find-refused : {V : Type 0} (system : Keyed) (files : Files) (found : Result ℕ Errno) (rest : ℕ → Did Files V) (error : CoreError) → FindsNode system found (Err error)
    → Answers (with_given files found rest) (Err error) files
find-refused system files found rest (errors.Refused error) is =
    subst (λ (w : Result ℕ Errno). Answers (with_given files w rest) (Err (errors.Refused error)) files) (sym is) (refl, refl)
find-refused system files found rest (errors.Stop stops.NoMemory) is = tt
find-refused system files found rest (errors.Stop stops.ReadFault) is = is
find-refused system files found rest (errors.Stop stops.WriteFault) is = is

module _ (table : Descriptors Description) (flow : Flow) (directory umask : ℕ) (terminal : Option Terminal) where
  -- the files as rows see them
  abbrev pub seen : Keyed → Files
  seen system = record { nodes = system.nodes; table = table; flow = flow; directory = node_at system directory; umask = umask; terminal = terminal }

  module _ (system : Keyed) (base : Base) (path : List ℕ) (time : ℤ) where
    pub make_directory-lost : (mode : ℕ) (error : CoreError) → LeadsTo system (walk_in system.nodes table (node_at system directory) base path false) (Err error)
        → Answers (make_directory (seen system) time base (Ok path) mode) (Err error) (seen system)
    unfolding make_directory
    make_directory-lost mode error leads =
        let rest : Place → Did Files (Unit {0}) = λ place.
        refused_by (make_refusal system.nodes place) (seen system)
        (done (with_nodes (seen system) (after_mkdir system.nodes place (new_number system.nodes) (permitted umask (mode % 0x400)) time)) tt) in
        walk-refused system (seen system) (walk (seen system) base path false) rest error
        (subst (λ (w : Result Place Errno). LeadsTo system w (Err error)) (sym (walk-is (seen system) base path false)) leads)

  module _ (system now : Keyed) (home : node_at now directory ≡ node_at system directory) where
    became : (after : Nodes) → now.nodes ≡ after → seen now ≡ with_nodes (seen system) after
    became after is = λ i. record { nodes = is i; table = table; flow = flow; directory = home i; umask = umask; terminal = terminal }

    -- a change of the nodes
    pub change-answers : (refusal : Option Errno) (after : Nodes) (result : Result (Unit {0}) CoreError) → Changes system.nodes refusal after result now.nodes
        → Answers (refused_by refusal (seen system) (done (with_nodes (seen system) after) tt)) result (seen now)
    change-answers refusal after (Ok value) is =
        subst (λ (r : Option Errno). Answers (refused_by r (seen system) (done (with_nodes (seen system) after) tt)) (Ok value) (seen now)) (sym is.0) (refl, became after is.1)
    change-answers refusal after (Err (errors.Refused error)) is =
        subst (λ (r : Option Errno). Answers (refused_by r (seen system) (done (with_nodes (seen system) after) tt)) (Err (errors.Refused error)) (seen now)) (sym is.0) (refl, became system.nodes is.1)
    change-answers refusal after (Err (errors.Stop stops.NoMemory)) is = tt
    change-answers refusal after (Err (errors.Stop stops.ReadFault)) is = is
    change-answers refusal after (Err (errors.Stop stops.WriteFault)) is = is

    module _ (base : Base) (path : List ℕ) (time : ℤ) where
      pub make_directory-row : (mode : ℕ) (at : KeyedPlace) → LeadsTo system (walk_in system.nodes table (node_at system directory) base path false) (Ok at)
          → (now_as : ℤ) → now_as ≡ time → (bits : ℕ) → bits ≡ permitted umask (mode % 0x400) → (result : Result (Unit {0}) CoreError)
          → Changes system.nodes (make_refusal system.nodes (place_at system at)) (after_mkdir system.nodes (place_at system at) (new_number system.nodes) bits now_as) result now.nodes
          → Answers (make_directory (seen system) time base (Ok path) mode) result (seen now)
      unfolding make_directory
      make_directory-row mode at leads now_as same bits bits_are result changes =
          let made : ℕ → ℤ → Nodes = λ bits time. after_mkdir system.nodes (place_at system at) (new_number system.nodes) bits time in
          let rest : Place → Did Files (Unit {0}) = λ place.
          refused_by (make_refusal system.nodes place) (seen system)
          (done (with_nodes (seen system) (after_mkdir system.nodes place (new_number system.nodes) (permitted umask (mode % 0x400)) time)) tt) in
          let is : walk (seen system) base path false ≡ Ok (place_at system at) = walk-is (seen system) base path false ∙ leads.0 in
          subst (λ (w : Result Place Errno). Answers (with_given (seen system) w rest) result (seen now)) (sym is)
          (change-answers (make_refusal system.nodes (place_at system at)) (made (permitted umask (mode % 0x400)) time) result
          (subst (λ (n : Nodes). Changes system.nodes (make_refusal system.nodes (place_at system at)) n result now.nodes) (λ i. made (bits_are i) (same i)) changes))

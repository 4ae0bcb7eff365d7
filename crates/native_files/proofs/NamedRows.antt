-- The rows that take, add and move names, from what the walks of their paths and the call on the nodes gave.
use Rattle.std.proofs.Common.{◌≡◌, ℕ, ℤ, Bool, true, false, List, Option, Some, None, refl, sym, ap, subst, ◌∙◌}
use Rattle.std.specs.Prelude.{Result, Ok, Err, option_map}
use Rattle.kernel_core.specs.NameCalls.{after_link, after_rename, after_rmdir, after_symlink, after_unlink, is_empty_list, link_refusal, rename_refusal, rmdir_refusal, symlink_refusal, unlink_refusal}
use Rattle.kernel_core.specs.Nodes.{Nodes, is_directory}
use Rattle.kernel_core.specs.PathWalk.{Place}
use Rattle.kernel_core.specs.Queries.{new_number}
use Rattle.kernel_core.specs.declared.core_error.CoreError.{CoreError}
use Rattle.kernel_core.specs.declared.error.Errno.{Errno}
use Rattle.kernel_core.specs.declared.error.Errno.TheVariants.{ENOENT, EPERM}
use Rattle.kernel_model.specs.Came.{Did, done, refused, refused_by, refused_if, with_given, with_some}
use Rattle.kernel_model.specs.NameRows as rows
use Rattle.kernel_model.specs.NameRows.{makes_file_before_slash, with_nodes}
use Rattle.kernel_model.specs.Paths.{Base, is_missing_before_slash, node_found, walk, walk_to_node}
use Rattle.kernel_model.specs.State.{Descriptors, Files, Flow}
use Rattle.kernel_model.specs.declared.descriptor.Description.{Description}
use Rattle.kernel_model.specs.declared.terminal.Terminal.{Terminal}
use Rattle.native_vfs.specs.Answers.{with_node}
use Rattle.native_vfs.specs.Keyed.{Keyed, number_at as node_at, place_at}
use Rattle.native_vfs.specs.declared.place.Place.{Place as KeyedPlace}
use Rattle.native_files.specs.Answers.{Answers}
use Rattle.native_files.specs.inside.Changes.{Changes, first_reason, link_reason, make_link_reason, rename_reason}
use Rattle.native_files.specs.inside.Walks.{FindsNode, LeadsTo, walk_in}
use Rattle.native_files.proofs.NameSteps.{change-answers, find-refused, seen, walk-refused}
use Rattle.native_files.proofs.Walked.{walk-is}

-- checks as one reason
by_reason : {V : Type 0} (files : Files) (wrong : Bool) (error : Errno) (rest : Option Errno) (step : Did Files V)
    → refused_if wrong error files (refused_by rest files step) ≡ refused_by (first_reason wrong error rest) files step
by_reason files true error rest step = refl
by_reason files false error rest step = refl

module _ (table : Descriptors Description) (flow : Flow) (directory umask : ℕ) (terminal : Option Terminal) where
  abbrev here : Keyed → Files
  here system = seen table flow directory umask terminal system

  module _ (system : Keyed) where
    -- where the walk of a path leads

    abbrev led : Base → List ℕ → Bool → Result Place Errno
    led base path follow = walk_in system.nodes table (node_at system directory) base path follow

    pub walked-to : (base : Base) (path : List ℕ) (follow : Bool) (at : KeyedPlace) → LeadsTo system (led base path follow) (Ok at) → walk (here system) base path follow ≡ Ok (place_at system at)
    walked-to base path follow at leads = walk-is (here system) base path follow ∙ leads.0

    pub walk-lost : {V : Type 0} (base : Base) (path : List ℕ) (follow : Bool) (rest : Place → Did Files V) (error : CoreError) → LeadsTo system (led base path follow) (Err error)
        → Answers (with_given (here system) (walk (here system) base path follow) rest) (Err error) (here system)
    walk-lost base path follow rest error leads =
        walk-refused system (here system) (walk (here system) base path follow) rest error
        (subst (λ (w : Result Place Errno). LeadsTo system w (Err error)) (sym (walk-is (here system) base path follow)) leads)

    pub found-at : (base : Base) (path : List ℕ) (follow : Bool) (key : ℕ) → FindsNode system (node_found (led base path follow)) (Ok key) → walk_to_node (here system) base path follow ≡ Ok (node_at system key)
    found-at base path follow key found = ap node_found (walk-is (here system) base path follow) ∙ found.0

    pub find-lost : {V : Type 0} (base : Base) (path : List ℕ) (follow : Bool) (rest : ℕ → Did Files V) (error : CoreError) → FindsNode system (node_found (led base path follow)) (Err error)
        → Answers (with_given (here system) (walk_to_node (here system) base path follow) rest) (Err error) (here system)
    find-lost base path follow rest error found =
        find-refused system (here system) (walk_to_node (here system) base path follow) rest error
        (subst (λ (w : Result ℕ Errno). FindsNode system w (Err error)) (sym (ap node_found (walk-is (here system) base path follow))) found)

    -- the rows where a path leads nowhere

    module _ (base : Base) (path : List ℕ) (time : ℤ) (error : CoreError) (leads : LeadsTo system (led base path false) (Err error)) where
      pub remove_directory-lost : Answers (rows.remove_name (here system) time base (Ok path) (Some true)) (Err error) (here system)
      unfolding rows.remove_name
      remove_directory-lost = walk-lost base path false (λ place. rows.remove_directory (here system) time place) error leads

      pub unlink-lost : Answers (rows.remove_name (here system) time base (Ok path) (Some false)) (Err error) (here system)
      unfolding rows.remove_name
      unlink-lost = walk-lost base path false (λ place. rows.unlink (here system) time place) error leads

    -- what follows the walks

    abbrev linked : ℤ → ℕ → List ℕ → Place → Did Files (Unit {0})
    linked time node path place =
        refused_if (is_directory system.nodes node) EPERM (here system) (
        refused_if (is_missing_before_slash path place) ENOENT (here system) (
        refused_by (link_refusal system.nodes node place) (here system) (
        done (with_nodes (here system) (after_link system.nodes node place time)) tt)))

    abbrev link_to : ℤ → Base → List ℕ → ℕ → Did Files (Unit {0})
    link_to time base path node = with_given (here system) (walk (here system) base path false) (λ place. linked time node path place)

    abbrev made_link : ℤ → List ℕ → List ℕ → Place → Did Files (Unit {0})
    made_link time target path place =
        refused_if (is_missing_before_slash path place) ENOENT (here system) (
        refused_by (symlink_refusal system.nodes place target) (here system) (
        done (with_nodes (here system) (after_symlink system.nodes place (new_number system.nodes) target time)) tt))

    abbrev link_made : ℤ → List ℕ → Base → List ℕ → Did Files (Unit {0})
    link_made time target base path = with_given (here system) (walk (here system) base path false) (λ place. made_link time target path place)

    abbrev renamed : ℤ → List ℕ → Place → ℕ → Place → Did Files (Unit {0})
    renamed time path from moved to =
        refused_if (makes_file_before_slash system.nodes moved from path to) ENOENT (here system) (
        refused_by (rename_refusal system.nodes from to) (here system) (
        done (with_nodes (here system) (after_rename system.nodes from to moved time)) tt))

    abbrev rename_to : ℤ → Base → List ℕ → Place → ℕ → Did Files (Unit {0})
    rename_to time base path from moved = with_given (here system) (walk (here system) base path false) (λ to. renamed time path from moved to)

    abbrev rename_from : ℤ → Base → List ℕ → Place → Did Files (Unit {0})
    rename_from time base path from = with_some (here system) ENOENT from.node (λ moved. rename_to time base path from moved)

    pub make_link-lost : (base : Base) (path target : List ℕ) (time : ℤ) (error : CoreError) → is_empty_list target ≡ false → LeadsTo system (led base path false) (Err error)
        → Answers (rows.make_link (here system) time (Ok target) base (Ok path)) (Err error) (here system)
    unfolding rows.make_link
    make_link-lost base path target time error some leads =
        subst (λ b. Answers (refused_if b ENOENT (here system) (link_made time target base path)) (Err error) (here system)) (sym some)
        (walk-lost base path false (λ place. made_link time target path place) error leads)

    module _ (old_base : Base) (old_path : List ℕ) (new_base : Base) (new_path : List ℕ) (time : ℤ) where
      module _ (follow : Bool) where
        abbrev link_row : Did Files (Unit {0})
        link_row = rows.link (here system) time old_base (Ok old_path) new_base (Ok new_path) (Some follow)

        pub link-lost : (error : CoreError) → FindsNode system (node_found (led old_base old_path follow)) (Err error) → Answers link_row (Err error) (here system)
        unfolding rows.link
        link-lost error found = find-lost old_base old_path follow (λ node. link_to time new_base new_path node) error found

        module _ (node : ℕ) (found : FindsNode system (node_found (led old_base old_path follow)) (Ok node)) where
          pub link-found : link_row ≡ link_to time new_base new_path (node_at system node)
          unfolding rows.link
          link-found = ap (λ (r : Result ℕ Errno). with_given (here system) r (λ node. link_to time new_base new_path node)) (found-at old_base old_path follow node found)

          pub link-lost_new : (error : CoreError) → LeadsTo system (led new_base new_path false) (Err error) → Answers link_row (Err error) (here system)
          link-lost_new error leads =
              subst (λ (step : Did Files (Unit {0})). Answers step (Err error) (here system)) (sym link-found)
              (walk-lost new_base new_path false (λ place. linked time (node_at system node) new_path place) error leads)

      abbrev rename_row : Did Files (Unit {0})
      rename_row = rows.rename (here system) time old_base (Ok old_path) new_base (Ok new_path)

      pub rename-lost : (error : CoreError) → LeadsTo system (led old_base old_path false) (Err error) → Answers rename_row (Err error) (here system)
      unfolding rows.rename
      rename-lost error leads = walk-lost old_base old_path false (λ from. rename_from time new_base new_path from) error leads

      module _ (from : KeyedPlace) (leads : LeadsTo system (led old_base old_path false) (Ok from)) where
        rename_walked : rename_row ≡ rename_from time new_base new_path (place_at system from)
        unfolding rows.rename
        rename_walked = ap (λ (r : Result Place Errno). with_given (here system) r (λ from. rename_from time new_base new_path from)) (walked-to old_base old_path false from leads)

        pub rename-missing : from.node ≡ None → rename_row ≡ refused (here system) ENOENT
        rename-missing none =
            rename_walked ∙ ap (λ o. with_some (here system) ENOENT (option_map (node_at system) o) (λ moved. rename_to time new_base new_path (place_at system from) moved)) none

        module _ (moved : ℕ) (node : from.node ≡ Some moved) where
          pub rename-found : rename_row ≡ rename_to time new_base new_path (place_at system from) (node_at system moved)
          rename-found =
              rename_walked ∙ ap (λ o. with_some (here system) ENOENT (option_map (node_at system) o) (λ moved. rename_to time new_base new_path (place_at system from) moved)) node

          pub rename-lost_new : (error : CoreError) → LeadsTo system (led new_base new_path false) (Err error) → Answers rename_row (Err error) (here system)
          rename-lost_new error leads =
              subst (λ (step : Did Files (Unit {0})). Answers step (Err error) (here system)) (sym rename-found)
              (walk-lost new_base new_path false (λ to. renamed time new_path (place_at system from) (node_at system moved) to) error leads)

    -- the rows that change the nodes, where the call was told the time as it is

    module _ (now : Keyed) (home : node_at now directory ≡ node_at system directory) (result : Result (Unit {0}) CoreError) (time now_as : ℤ) (same : now_as ≡ time) where
      abbrev Becomes : Option Errno → (ℤ → Nodes) → Type 0
      Becomes refusal after = Changes system.nodes refusal (after now_as) result now.nodes

      on_time : (refusal : Option Errno) (after : ℤ → Nodes) → Becomes refusal after → Changes system.nodes refusal (after time) result now.nodes
      on_time refusal after changes = subst (λ t. Changes system.nodes refusal (after t) result now.nodes) same changes

      -- a name that is there goes
      goes : (node : Option ℕ) (refusal : Option Errno) → (node ≡ None → refusal ≡ Some ENOENT) → (after : ℕ → ℤ → Nodes) → Becomes refusal (λ t. with_node node system.nodes (λ n. after n t))
          → Answers (refused_by refusal (here system) (with_some (here system) ENOENT node (λ n. done (with_nodes (here system) (after n time)) tt))) result (here now)
      goes None refusal missing after changes =
          let e = missing refl in
          subst (λ (r : Option Errno). Answers (refused_by r (here system) (refused (here system) ENOENT)) result (here now)) (sym e)
          (subst (λ (r : Option Errno). Answers (refused_by r (here system) (done (with_nodes (here system) system.nodes) tt)) result (here now)) e
          (change-answers table flow directory umask terminal system now home refusal system.nodes result changes))
      goes (Some node) refusal missing after changes =
          change-answers table flow directory umask terminal system now home refusal (after node time) result (on_time refusal (after node) changes)

      module _ (base : Base) (path : List ℕ) (at : KeyedPlace) (leads : LeadsTo system (led base path false) (Ok at)) where
        abbrev place : Place
        place = place_at system at

        pub remove_directory-row : Becomes (rmdir_refusal system.nodes place) (λ t. with_node place.node system.nodes (λ node. after_rmdir system.nodes place node t))
            → Answers (rows.remove_name (here system) time base (Ok path) (Some true)) result (here now)
        unfolding rows.remove_name
        remove_directory-row changes =
            subst (λ (r : Result Place Errno). Answers (with_given (here system) r (λ place. rows.remove_directory (here system) time place)) result (here now)) (sym (walked-to base path false at leads))
            (goes place.node (rmdir_refusal system.nodes place) (λ none. missing at.node none) (λ node t. after_rmdir system.nodes place node t) changes)
          where
            missing : (o : Option ℕ) → option_map (node_at system) o ≡ None → rmdir_refusal system.nodes (record place { node = option_map (node_at system) o }) ≡ Some ENOENT
            missing None none = refl
            missing (Some n) none = absurd (cc)

        pub unlink-row : Becomes (unlink_refusal system.nodes place) (λ t. with_node place.node system.nodes (λ node. after_unlink system.nodes place node t))
            → Answers (rows.remove_name (here system) time base (Ok path) (Some false)) result (here now)
        unfolding rows.remove_name
        unlink-row changes =
            subst (λ (r : Result Place Errno). Answers (with_given (here system) r (λ place. rows.unlink (here system) time place)) result (here now)) (sym (walked-to base path false at leads))
            (goes place.node (unlink_refusal system.nodes place) (λ none. missing at.node none) (λ node t. after_unlink system.nodes place node t) changes)
          where
            missing : (o : Option ℕ) → option_map (node_at system) o ≡ None → unlink_refusal system.nodes (record place { node = option_map (node_at system) o }) ≡ Some ENOENT
            missing None none = refl
            missing (Some n) none = absurd (cc)

        pub make_link-row : (target : List ℕ) → is_empty_list target ≡ false
            → Becomes (make_link_reason system.nodes path place target) (λ t. after_symlink system.nodes place (new_number system.nodes) target t)
            → Answers (rows.make_link (here system) time (Ok target) base (Ok path)) result (here now)
        unfolding rows.make_link
        make_link-row target some changes =
            subst (λ b. Answers (refused_if b ENOENT (here system) (link_made time target base path)) result (here now)) (sym some)
            (subst (λ (r : Result Place Errno). Answers (with_given (here system) r (λ place. made_link time target path place)) result (here now)) (sym (walked-to base path false at leads))
            (subst (λ (step : Did Files (Unit {0})). Answers step result (here now))
            (sym (by_reason (here system) (is_missing_before_slash path place) ENOENT (symlink_refusal system.nodes place target) (done (with_nodes (here system) (after_symlink system.nodes place (new_number system.nodes) target time)) tt)))
            (change-answers table flow directory umask terminal system now home (make_link_reason system.nodes path place target) (after_symlink system.nodes place (new_number system.nodes) target time) result
            (on_time (make_link_reason system.nodes path place target) (λ t. after_symlink system.nodes place (new_number system.nodes) target t) changes))))

        module _ (old_base : Base) (old_path : List ℕ) where
          pub link-row : (follow : Bool) (node : ℕ) → FindsNode system (node_found (led old_base old_path follow)) (Ok node)
              → Becomes (link_reason system.nodes (node_at system node) path place) (λ t. after_link system.nodes (node_at system node) place t)
              → Answers (rows.link (here system) time old_base (Ok old_path) base (Ok path) (Some follow)) result (here now)
          link-row follow node found changes =
              let number = node_at system node in
              let linking : Did Files (Unit {0}) = done (with_nodes (here system) (after_link system.nodes number place time)) tt in
              subst (λ (step : Did Files (Unit {0})). Answers step result (here now)) (sym (link-found old_base old_path base path time follow node found))
              (subst (λ (r : Result Place Errno). Answers (with_given (here system) r (λ place. linked time number path place)) result (here now)) (sym (walked-to base path false at leads))
              (subst (λ (step : Did Files (Unit {0})). Answers (refused_if (is_directory system.nodes number) EPERM (here system) step) result (here now))
              (sym (by_reason (here system) (is_missing_before_slash path place) ENOENT (link_refusal system.nodes number place) linking))
              (subst (λ (step : Did Files (Unit {0})). Answers step result (here now))
              (sym (by_reason (here system) (is_directory system.nodes number) EPERM (first_reason (is_missing_before_slash path place) ENOENT (link_refusal system.nodes number place)) linking))
              (change-answers table flow directory umask terminal system now home (link_reason system.nodes number path place) (after_link system.nodes number place time) result
              (on_time (link_reason system.nodes number path place) (λ t. after_link system.nodes number place t) changes)))))

          pub rename-row : (from : KeyedPlace) (moved : ℕ) → LeadsTo system (led old_base old_path false) (Ok from) → from.node ≡ Some moved
              → Becomes (rename_reason system.nodes (node_at system moved) (place_at system from) path place) (λ t. after_rename system.nodes (place_at system from) place (node_at system moved) t)
              → Answers (rows.rename (here system) time old_base (Ok old_path) base (Ok path)) result (here now)
          rename-row from moved from_leads node changes =
              let number = node_at system moved in
              let old = place_at system from in
              subst (λ (step : Did Files (Unit {0})). Answers step result (here now)) (sym (rename-found old_base old_path base path time from from_leads moved node))
              (subst (λ (r : Result Place Errno). Answers (with_given (here system) r (λ to. renamed time path old number to)) result (here now)) (sym (walked-to base path false at leads))
              (subst (λ (step : Did Files (Unit {0})). Answers step result (here now))
              (sym (by_reason (here system) (makes_file_before_slash system.nodes number old path place) ENOENT (rename_refusal system.nodes old place) (done (with_nodes (here system) (after_rename system.nodes old place number time)) tt)))
              (change-answers table flow directory umask terminal system now home (rename_reason system.nodes number old path place) (after_rename system.nodes old place number time) result
              (on_time (rename_reason system.nodes number old path place) (λ t. after_rename system.nodes old place number t) changes))))

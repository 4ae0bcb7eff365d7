-- The rows on names keep what files always are.
use Rattle.std.proofs.Common.{◌≡◌, ℕ, ◌%◌, List, Bool, false, arith}
use Rattle.std.specs.Prelude.{Option, Some, None, Ok, ℤ}
use Rattle.kernel_core.specs.FileSystem.{IsTime}
use Rattle.kernel_core.specs.NameCalls.{IsNewNumber, after_link, after_mkdir, after_rename, after_rmdir, after_symlink, after_unlink, link_refusal, make_refusal, rename_refusal, rmdir_refusal, symlink_refusal, unlink_refusal}
use Rattle.kernel_core.specs.PathWalk.{Place}
use Rattle.kernel_core.specs.Queries.{new_number}
use Rattle.file_system_laws.proofs.HeldNodes.{keeps-lost, link_loses, mkdir_keeps_holds, rename_loses, rmdir_loses, symlink_keeps_holds, unlink_loses}
use Rattle.file_system_laws.proofs.Making.{link_keeps, mkdir_keeps, symlink_keeps}
use Rattle.file_system_laws.proofs.NewNumbers.{new_number_is_new}
use Rattle.file_system_laws.proofs.Removing.{rmdir_keeps, unlink_keeps}
use Rattle.file_system_laws.proofs.Renaming.{rename_keeps as move_keeps}
use Rattle.kernel_laws.proofs.Keeps.{Keeps, keeps}
use Rattle.kernel_laws.proofs.NodesKept.{nodes_kept}
use Rattle.kernel_laws.proofs.WalkAgrees.{walk_agrees}
use Rattle.kernel_laws.proofs.WalkedRows.{found_inode, read_is, text_is}
use Rattle.kernel_laws.specs.Arguments.{IsShortText, IsText, WhereRead}
use Rattle.kernel_model.specs.Always.{IsFiles}
use Rattle.kernel_model.specs.Came.{Given}
use Rattle.kernel_model.specs.Modes.{permitted}
use Rattle.kernel_model.specs.NameRows.{link, make_directory, make_link, remove_name, rename, with_nodes}
use Rattle.kernel_model.specs.Paths.{Base, walk, walk_to_node}
use Rattle.kernel_model.specs.State.{Files}

module _ (files : Files) (is : IsFiles files) (now : ℤ) (time : IsTime now) where
  abbrev new : ℕ
  new = new_number files.nodes

  is_new : IsNewNumber files.nodes new
  is_new = new_number_is_new files.nodes

  -- Making

  module _ (base : Base) (given : Given (List ℕ)) (text : WhereRead IsText given) where
    directory_made : (mode : ℕ) (path : List ℕ) → given ≡ Ok path → (place : Place) → walk files base path false ≡ Ok place → make_refusal files.nodes place ≡ None
        → IsFiles (with_nodes files (after_mkdir files.nodes place new (permitted files.umask (mode % 0x400)) now))
    directory_made mode path e place found free =
        let agrees = walk_agrees files is base path false (text_is given text path e) place found in
        let kept = mkdir_keeps_holds files.nodes place new is_new now (permitted files.umask (mode % 0x400)) in
        nodes_kept files _ is (mkdir_keeps files.nodes place new now is.nodes agrees free is_new time (permitted files.umask (mode % 0x400)) (omega arith)) kept.holds kept.kinds

    pub make_directory_keeps : (mode : ℕ) → Keeps IsFiles (make_directory files now base given mode)
    unfolding make_directory
    make_directory_keeps mode = search (keeps, directory_made, is) depth 14

    link_made : (target : List ℕ) → IsShortText target → (path : List ℕ) → given ≡ Ok path → (place : Place) → walk files base path false ≡ Ok place
        → symlink_refusal files.nodes place target ≡ None → IsFiles (with_nodes files (after_symlink files.nodes place new target now))
    link_made target short path e place found free =
        let agrees = walk_agrees files is base path false (text_is given text path e) place found in
        let kept = symlink_keeps_holds files.nodes place new is_new now target in
        nodes_kept files _ is (symlink_keeps files.nodes place new target now is.nodes agrees free is_new time short.text.are_bytes short.short short.text.plain) kept.holds kept.kinds

    target_made : (other : Given (List ℕ)) → WhereRead IsShortText other → (target : List ℕ) → other ≡ Ok target → (path : List ℕ) → given ≡ Ok path → (place : Place)
        → walk files base path false ≡ Ok place → symlink_refusal files.nodes place target ≡ None → IsFiles (with_nodes files (after_symlink files.nodes place new target now))
    target_made other known target e path f place found free = link_made target (read_is IsShortText other known target e) path f place found free

    pub make_link_keeps : (target : Given (List ℕ)) → WhereRead IsShortText target → Keeps IsFiles (make_link files now target base given)
    unfolding make_link
    make_link_keeps target known = search (keeps, target_made target known, is) depth 14

    -- Removing

    name_removed : (path : List ℕ) → given ≡ Ok path → (place : Place) → walk files base path false ≡ Ok place → unlink_refusal files.nodes place ≡ None → (node : ℕ)
        → place.node ≡ Some node → IsFiles (with_nodes files (after_unlink files.nodes place node now))
    name_removed path e place found free node there =
        let agrees = walk_agrees files is base path false (text_is given text path e) place found in
        let lost = keeps-lost files.nodes _ (unlink_loses files.nodes place node now) in
        nodes_kept files _ is (unlink_keeps files.nodes place node now is.nodes agrees there free time) lost.holds lost.kinds

    directory_removed : (path : List ℕ) → given ≡ Ok path → (place : Place) → walk files base path false ≡ Ok place → rmdir_refusal files.nodes place ≡ None → (node : ℕ)
        → place.node ≡ Some node → IsFiles (with_nodes files (after_rmdir files.nodes place node now))
    directory_removed path e place found free node there =
        let agrees = walk_agrees files is base path false (text_is given text path e) place found in
        let lost = keeps-lost files.nodes _ (rmdir_loses files.nodes place node now) in
        nodes_kept files _ is (rmdir_keeps files.nodes place node now is.nodes agrees there free time) lost.holds lost.kinds

    pub remove_name_keeps : (directory : Option Bool) → Keeps IsFiles (remove_name files now base given directory)
    unfolding remove_name
    remove_name_keeps directory = search (keeps, name_removed, directory_removed, is) depth 18

    -- A second path

    module _ (new_base : Base) (new_given : Given (List ℕ)) (new_text : WhereRead IsText new_given) where
      linked : (path : List ℕ) → given ≡ Ok path → (new_path : List ℕ) → new_given ≡ Ok new_path → (follow : Bool) (node : ℕ) → walk_to_node files base path follow ≡ Ok node
          → (place : Place) → walk files new_base new_path false ≡ Ok place → link_refusal files.nodes node place ≡ None → IsFiles (with_nodes files (after_link files.nodes node place now))
      linked path e new_path f follow node there place found free =
          let inode = found_inode files is base path follow (text_is given text path e) node there in
          let agrees = walk_agrees files is new_base new_path false (text_is new_given new_text new_path f) place found in
          let lost = keeps-lost files.nodes _ (link_loses files.nodes place node now) in
          nodes_kept files _ is (link_keeps files.nodes node place now inode.0 is.nodes agrees free inode.1 time) lost.holds lost.kinds

      pub link_row_keeps : (follow : Option Bool) → Keeps IsFiles (link files now base given new_base new_given follow)
      unfolding link
      link_row_keeps follow = search (keeps, linked, is) depth 18

      moved : (path : List ℕ) → given ≡ Ok path → (new_path : List ℕ) → new_given ≡ Ok new_path → (from : Place) → walk files base path false ≡ Ok from → (node : ℕ)
          → from.node ≡ Some node → (to : Place) → walk files new_base new_path false ≡ Ok to → rename_refusal files.nodes from to ≡ None
          → IsFiles (with_nodes files (after_rename files.nodes from to node now))
      moved path e new_path f from old node there to found free =
          let from_agrees = walk_agrees files is base path false (text_is given text path e) from old in
          let to_agrees = walk_agrees files is new_base new_path false (text_is new_given new_text new_path f) to found in
          let lost = keeps-lost files.nodes _ (rename_loses files.nodes from to node now) in
          nodes_kept files _ is (move_keeps files.nodes from to node now is.nodes from_agrees to_agrees there free time) lost.holds lost.kinds

      pub rename_keeps : Keeps IsFiles (rename files now base given new_base new_given)
      unfolding rename
      rename_keeps = search (keeps, moved, is) depth 18

-- The rows on names and nodes that the calls apply: none is refused with ENOMEM, and none waits.
use Rattle.std.specs.Prelude.{ℕ, ℤ, Bool, false, List, [], ◌∷◌, Option, Some, None}
use Rattle.kernel_core.specs.NameCalls.{link_refusal, make_refusal, move_refusal, name_refusal, rename_of, rename_refusal, replace_refusal, rmdir_of, rmdir_refusal, symlink_refusal, unlink_of, unlink_refusal}
use Rattle.kernel_core.specs.NodeCalls.{resize_refusal}
use Rattle.kernel_core.specs.Nodes.{Directory, File, Link, NodeContent, Nodes}
use Rattle.kernel_core.specs.PathWalk.{Place}
use Rattle.kernel_core.specs.declared.error.Errno.TheVariants.{EINVAL}
use Rattle.kernel_model.specs.Came.{Given}
use Rattle.kernel_model.specs.NameRows.{link, make_directory, make_link, read_link, remove_name, rename}
use Rattle.kernel_model.specs.NodeRows.{StatusFlags, TimeChanges, Times, access, change_directory, change_mode, change_open_mode, change_to_open, on_open_node, set_times, set_umask, status_at_path, status_of_base, times_on, truncate, truncate_content, truncate_open, working_directory}
use Rattle.kernel_model.specs.Opening.{kind_refusal, open_file, open_place}
use Rattle.kernel_model.specs.Paths.{Base, Descriptor, Working}
use Rattle.kernel_model.specs.Shared.{OpenSet}
use Rattle.kernel_model.specs.State.{Files}
use Rattle.native_calls.proofs.Plain.{FineGiven, FineOption, FineUnlessNull, Plain, fine_invalid, given_plain, if_plain, or_none_fine, plain, refusals, some_plain}
use Rattle.native_calls.proofs.PlainRows.{status_plain}
use Rattle.native_calls.proofs.WalkPlain.{directory_fine, to_node_fine, walk_fine}

-- What refuses a change of names

name_fine : (nodes : Nodes) (place : Place) (full : Bool) → FineOption (name_refusal nodes place full)
name_fine nodes place full = search refusals

make_fine : (nodes : Nodes) (place : Place) → FineOption (make_refusal nodes place)
make_fine nodes place = name_fine nodes place _

symlink_fine : (nodes : Nodes) (place : Place) (target : List ℕ) → FineOption (symlink_refusal nodes place target)
symlink_fine nodes place [] = search refusals
symlink_fine nodes place (byte ∷ target) = make_fine nodes place

link_fine : (nodes : Nodes) (node : ℕ) (place : Place) → FineOption (link_refusal nodes node place)
link_fine nodes node place = search (refusals, name_fine)

unlink_of_fine : (nodes : Nodes) (found : Option ℕ) → FineOption (unlink_of nodes found)
unlink_of_fine nodes None = search refusals
unlink_of_fine nodes (Some node) = search refusals

unlink_fine : (nodes : Nodes) (place : Place) → FineOption (unlink_refusal nodes place)
unlink_fine nodes place = unlink_of_fine nodes place.node

rmdir_of_fine : (nodes : Nodes) (name : List ℕ) (found : Option ℕ) → FineOption (rmdir_of nodes name found)
rmdir_of_fine nodes name None = search refusals
rmdir_of_fine nodes name (Some node) = search refusals depth 14

rmdir_fine : (nodes : Nodes) (place : Place) → FineOption (rmdir_refusal nodes place)
rmdir_fine nodes place = rmdir_of_fine nodes place.name place.node

replace_fine : (nodes : Nodes) (moved : ℕ) (found : Option ℕ) → FineOption (replace_refusal nodes moved found)
replace_fine nodes moved None = search refusals
replace_fine nodes moved (Some old) = search refusals

move_fine : (nodes : Nodes) (to : Place) (moved : ℕ) → FineOption (move_refusal nodes to moved)
move_fine nodes to moved = search (refusals, replace_fine) depth 14

rename_of_fine : (nodes : Nodes) (from to : Place) (found : Option ℕ) → FineOption (rename_of nodes from to found)
rename_of_fine nodes from to None = search refusals
rename_of_fine nodes from to (Some moved) = search (refusals, move_fine)

rename_fine : (nodes : Nodes) (from to : Place) → FineOption (rename_refusal nodes from to)
rename_fine nodes from to = rename_of_fine nodes from to from.node

kind_fine : (limit : Option ℕ) (flags : OpenSet) (content : Option NodeContent) → FineOption (kind_refusal limit flags content)
kind_fine limit flags None = search refusals
kind_fine limit flags (Some (File content)) = search refusals
kind_fine limit flags (Some (Directory listing)) = search refusals
kind_fine limit flags (Some (Link target)) = search refusals

resize_fine : (size : ℕ) → FineOption (resize_refusal size)
resize_fine size = search refusals

ruleset named = (make_fine, symlink_fine, link_fine, unlink_fine, rmdir_fine, rename_fine, kind_fine, resize_fine, walk_fine, to_node_fine, directory_fine)

-- Names

place_plain : (files : Files) (limit : Option ℕ) (now : ℤ) (path : List ℕ) (flags : OpenSet) (mode fd : ℕ) (place : Place) (node : Option ℕ)
    → Plain false (open_place files limit now path flags mode fd place node)
place_plain files limit now path flags mode fd place None = search (plain, named) depth 14
place_plain files limit now path flags mode fd place (Some node) = search (plain, named) depth 14

pub open_file_plain : (files : Files) (limit : Option ℕ) (now : ℤ) (base : Base) (path : Given (List ℕ)) (flags : Option OpenSet) (mode : ℕ)
    → FineGiven path → Plain false (open_file files limit now base path flags mode)
unfolding open_file
open_file_plain files limit now base path flags mode given =
    some_plain false files EINVAL flags _ fine_invalid (λ flags.
    if_plain false files _ EINVAL _ fine_invalid (
    given_plain false files path _ given (λ path. search (plain, named, place_plain) depth 14)))

pub make_directory_plain : (files : Files) (now : ℤ) (base : Base) (path : Given (List ℕ)) (mode : ℕ) → FineGiven path
    → Plain false (make_directory files now base path mode)
unfolding make_directory
make_directory_plain files now base path mode given = given_plain false files path _ given (λ path. search (plain, named) depth 14)

pub remove_name_plain : (files : Files) (now : ℤ) (base : Base) (path : Given (List ℕ)) (directory : Option Bool) → FineGiven path
    → Plain false (remove_name files now base path directory)
unfolding remove_name
remove_name_plain files now base path directory given = given_plain false files path _ given (λ path. search (plain, named) depth 14)

pub link_plain : (files : Files) (now : ℤ) (old_base : Base) (old_path : Given (List ℕ)) (new_base : Base) (new_path : Given (List ℕ)) (follow : Option Bool)
    → FineGiven old_path → FineGiven new_path → Plain false (link files now old_base old_path new_base new_path follow)
unfolding link
link_plain files now old_base old_path new_base new_path follow old new =
    given_plain false files old_path _ old (λ old_path. given_plain false files new_path _ new (λ new_path. search (plain, named) depth 14))

pub make_link_plain : (files : Files) (now : ℤ) (target : Given (List ℕ)) (base : Base) (path : Given (List ℕ)) → FineGiven target → FineGiven path
    → Plain false (make_link files now target base path)
unfolding make_link
make_link_plain files now target base path text given =
    given_plain false files target _ text (λ target. given_plain false files path _ given (λ path. search (plain, named) depth 14))

pub rename_plain : (files : Files) (now : ℤ) (old_base : Base) (old_path : Given (List ℕ)) (new_base : Base) (new_path : Given (List ℕ))
    → FineGiven old_path → FineGiven new_path → Plain false (rename files now old_base old_path new_base new_path)
unfolding rename
rename_plain files now old_base old_path new_base new_path old new =
    given_plain false files old_path _ old (λ old_path. given_plain false files new_path _ new (λ new_path. search (plain, named) depth 14))

pub read_link_plain : (files : Files) (base : Base) (path : Given (List ℕ)) (size : ℤ) → FineGiven path → Plain false (read_link files base path size)
unfolding read_link
read_link_plain files base path size given = given_plain false files path _ given (λ path. search (plain, named) depth 14)

-- Nodes

open_node_plain : (files : Files) (node : Option ℕ) (change : ℕ → Files) → Plain false (on_open_node files node change)
open_node_plain files None change = search plain
open_node_plain files (Some node) change = search plain

base_plain : (files : Files) (base : Base) → Plain false (status_of_base files base)
base_plain files Working = search plain
base_plain files (Descriptor fd) = status_plain files fd

times_on_plain : (files : Files) (now : ℤ) (changes : TimeChanges) (base : Base) (follow : Bool) (path : Option (List ℕ))
    → Plain false (times_on files now changes base follow path)
times_on_plain files now changes base follow (Some path) = search (plain, named)
times_on_plain files now changes Working follow None = search plain
times_on_plain files now changes (Descriptor fd) follow None = search (plain, open_node_plain)

content_plain : (files : Files) (now : ℤ) (node size : ℕ) (content : Option NodeContent) → Plain false (truncate_content files now node size content)
content_plain files now node size None = search plain
content_plain files now node size (Some (File content)) = search (plain, named)
content_plain files now node size (Some (Directory listing)) = search plain
content_plain files now node size (Some (Link target)) = search plain

pub status_at_path_plain : (files : Files) (base : Base) (path : Given (List ℕ)) (flags : Option StatusFlags) → FineGiven path
    → Plain false (status_at_path files base path flags)
unfolding status_at_path
status_at_path_plain files base path flags given =
    some_plain false files EINVAL flags _ fine_invalid (λ flags.
    given_plain false files path _ given (λ path. search (plain, named, base_plain) depth 14))

pub access_plain : (files : Files) (base : Base) (path : Given (List ℕ)) (mode : ℕ) → FineGiven path → Plain false (access files base path mode)
unfolding access
access_plain files base path mode given = given_plain false files path _ given (λ path. search (plain, named) depth 14)

pub change_mode_plain : (files : Files) (now : ℤ) (base : Base) (path : Given (List ℕ)) (mode : ℕ) → FineGiven path
    → Plain false (change_mode files now base path mode)
unfolding change_mode
change_mode_plain files now base path mode given = given_plain false files path _ given (λ path. search (plain, named) depth 14)

pub change_open_mode_plain : (files : Files) (now : ℤ) (fd mode : ℕ) → Plain false (change_open_mode files now fd mode)
unfolding change_open_mode
change_open_mode_plain files now fd mode = search (plain, open_node_plain) depth 14

pub set_times_plain : (files : Files) (now : ℤ) (base : Base) (path : Option (Given (List ℕ))) (times : Option (Given Times)) (follow : Option Bool)
    → FineUnlessNull path → FineUnlessNull times → Plain false (set_times files now base path times follow)
unfolding set_times
set_times_plain files now base path times follow text given = search (plain, or_none_fine, text, given, times_on_plain) depth 14

pub truncate_plain : (files : Files) (now : ℤ) (base : Base) (path : Given (List ℕ)) (size : ℤ) → FineGiven path
    → Plain false (truncate files now base path size)
unfolding truncate
truncate_plain files now base path size given = given_plain false files path _ given (λ path. search (plain, named, content_plain) depth 14)

pub truncate_open_plain : (files : Files) (now : ℤ) (fd : ℕ) (size : ℤ) → Plain false (truncate_open files now fd size)
unfolding truncate_open
truncate_open_plain files now fd size = search (plain, content_plain) depth 14

pub change_directory_plain : (files : Files) (path : Given (List ℕ)) → FineGiven path → Plain false (change_directory files path)
unfolding change_directory
change_directory_plain files path given = given_plain false files path _ given (λ path. search (plain, named) depth 14)

pub change_to_open_plain : (files : Files) (fd : ℕ) → Plain false (change_to_open files fd)
unfolding change_to_open
change_to_open_plain files fd = search (plain, named) depth 14

pub working_directory_plain : (files : Files) (size : ℕ) → Plain false (working_directory files size)
unfolding working_directory
working_directory_plain files size = search plain depth 14

pub set_umask_plain : (files : Files) (umask : ℕ) → Plain false (set_umask files umask)
unfolding set_umask
set_umask_plain files umask = search plain

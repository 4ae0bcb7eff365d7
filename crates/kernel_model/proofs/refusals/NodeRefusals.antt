-- Refused rows on a node.
use Rattle.kernel_core.specs.Nodes.{Directory, File, Link, NodeContent}
use Rattle.kernel_model.proofs.refusals.Checks.{stays}
use Rattle.kernel_model.proofs.refusals.ContentRefusals.{status_stays}
use Rattle.kernel_model.specs.Came.{Given}
use Rattle.kernel_model.specs.Laws.{StaysUnlessDone}
use Rattle.kernel_model.specs.NodeRows.{StatusFlags, TimeChanges, Times, access, change_directory, change_mode, change_open_mode, change_to_open, on_open_node, set_times, set_umask, status_at_path, status_of_base, times_on, truncate, truncate_content, truncate_open, working_directory}
use Rattle.kernel_model.specs.Paths.{Base, Descriptor, Working}
use Rattle.kernel_model.specs.State.{Files}
use Rattle.std.specs.Prelude.{Bool, List, None, Option, Some, ℕ, ℤ}

open_node_stays : (files : Files) (node : Option ℕ) (change : ℕ → Files) → StaysUnlessDone files (on_open_node files node change)
open_node_stays files None change = search stays
open_node_stays files (Some node) change = search stays

base_stays : (files : Files) (base : Base) → StaysUnlessDone files (status_of_base files base)
base_stays files Working = search stays
base_stays files (Descriptor fd) = status_stays files fd

times_on_stays : (files : Files) (now : ℤ) (changes : TimeChanges) (base : Base) (follow : Bool) (path : Option (List ℕ))
    → StaysUnlessDone files (times_on files now changes base follow path)
times_on_stays files now changes base follow (Some path) = search stays
times_on_stays files now changes Working follow None = search stays
times_on_stays files now changes (Descriptor fd) follow None = search (stays, open_node_stays)

content_stays : (files : Files) (now : ℤ) (node size : ℕ) (content : Option NodeContent) → StaysUnlessDone files (truncate_content files now node size content)
content_stays files now node size None = search stays
content_stays files now node size (Some (File content)) = search stays
content_stays files now node size (Some (Directory listing)) = search stays
content_stays files now node size (Some (Link target)) = search stays

pub status_at_path_stays : (files : Files) (base : Base) (path : Given (List ℕ)) (flags : Option StatusFlags) → StaysUnlessDone files (status_at_path files base path flags)
unfolding status_at_path
status_at_path_stays files base path flags = search (stays, base_stays) depth 14

pub access_stays : (files : Files) (base : Base) (path : Given (List ℕ)) (mode : ℕ) → StaysUnlessDone files (access files base path mode)
unfolding access
access_stays files base path mode = search stays depth 14

pub change_mode_stays : (files : Files) (now : ℤ) (base : Base) (path : Given (List ℕ)) (mode : ℕ) → StaysUnlessDone files (change_mode files now base path mode)
unfolding change_mode
change_mode_stays files now base path mode = search stays depth 14

pub change_open_mode_stays : (files : Files) (now : ℤ) (fd : ℕ) (mode : ℕ) → StaysUnlessDone files (change_open_mode files now fd mode)
unfolding change_open_mode
change_open_mode_stays files now fd mode = search (stays, open_node_stays) depth 14

pub set_times_stays : (files : Files) (now : ℤ) (base : Base) (path : Option (Given (List ℕ))) (times : Option (Given Times)) (follow : Option Bool) → StaysUnlessDone files (set_times files now base path times follow)
unfolding set_times
set_times_stays files now base path times follow = search (stays, times_on_stays) depth 14

pub truncate_stays : (files : Files) (now : ℤ) (base : Base) (path : Given (List ℕ)) (size : ℤ) → StaysUnlessDone files (truncate files now base path size)
unfolding truncate
truncate_stays files now base path size = search (stays, content_stays) depth 14

pub truncate_open_stays : (files : Files) (now : ℤ) (fd : ℕ) (size : ℤ) → StaysUnlessDone files (truncate_open files now fd size)
unfolding truncate_open
truncate_open_stays files now fd size = search (stays, content_stays) depth 14

pub change_directory_stays : (files : Files) (path : Given (List ℕ)) → StaysUnlessDone files (change_directory files path)
unfolding change_directory
change_directory_stays files path = search stays depth 14

pub change_to_open_stays : (files : Files) (fd : ℕ) → StaysUnlessDone files (change_to_open files fd)
unfolding change_to_open
change_to_open_stays files fd = search stays depth 14

pub working_directory_stays : (files : Files) (size : ℕ) → StaysUnlessDone files (working_directory files size)
unfolding working_directory
working_directory_stays files size = search stays depth 14

pub set_umask_stays : (files : Files) (umask : ℕ) → StaysUnlessDone files (set_umask files umask)
unfolding set_umask
set_umask_stays files umask = search stays depth 14

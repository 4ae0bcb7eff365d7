-- Refused rows on names.
use Rattle.kernel_core.specs.PathWalk.{Place}
use Rattle.kernel_model.proofs.refusals.Checks.{stays}
use Rattle.kernel_model.specs.Came.{Given}
use Rattle.kernel_model.specs.Laws.{StaysUnlessDone}
use Rattle.kernel_model.specs.NameRows.{link, make_directory, make_link, read_link, remove_name, rename}
use Rattle.kernel_model.specs.Opening.{open_file, open_place}
use Rattle.kernel_model.specs.Paths.{Base}
use Rattle.kernel_model.specs.Shared.{OpenSet}
use Rattle.kernel_model.specs.State.{Files}
use Rattle.std.specs.Prelude.{Bool, List, None, Option, Some, ℕ, ℤ}

place_stays : (files : Files) (limit : Option ℕ) (now : ℤ) (path : List ℕ) (flags : OpenSet) (mode fd : ℕ) (place : Place) (node : Option ℕ)
    → StaysUnlessDone files (open_place files limit now path flags mode fd place node)
place_stays files limit now path flags mode fd place None = search stays
place_stays files limit now path flags mode fd place (Some node) = search stays

pub open_file_stays : (files : Files) (limit : Option ℕ) (now : ℤ) (base : Base) (path : Given (List ℕ)) (flags : Option OpenSet) (mode : ℕ) → StaysUnlessDone files (open_file files limit now base path flags mode)
unfolding open_file
open_file_stays files limit now base path flags mode = search (stays, place_stays) depth 14

pub make_directory_stays : (files : Files) (now : ℤ) (base : Base) (path : Given (List ℕ)) (mode : ℕ) → StaysUnlessDone files (make_directory files now base path mode)
unfolding make_directory
make_directory_stays files now base path mode = search stays depth 14

pub remove_name_stays : (files : Files) (now : ℤ) (base : Base) (path : Given (List ℕ)) (directory : Option Bool) → StaysUnlessDone files (remove_name files now base path directory)
unfolding remove_name
remove_name_stays files now base path directory = search stays depth 14

pub link_stays : (files : Files) (now : ℤ) (old_base : Base) (old_path : Given (List ℕ)) (new_base : Base) (new_path : Given (List ℕ)) (follow : Option Bool) → StaysUnlessDone files (link files now old_base old_path new_base new_path follow)
unfolding link
link_stays files now old_base old_path new_base new_path follow = search stays depth 14

pub make_link_stays : (files : Files) (now : ℤ) (target : Given (List ℕ)) (base : Base) (path : Given (List ℕ)) → StaysUnlessDone files (make_link files now target base path)
unfolding make_link
make_link_stays files now target base path = search stays depth 14

pub rename_stays : (files : Files) (now : ℤ) (old_base : Base) (old_path : Given (List ℕ)) (new_base : Base) (new_path : Given (List ℕ)) → StaysUnlessDone files (rename files now old_base old_path new_base new_path)
unfolding rename
rename_stays files now old_base old_path new_base new_path = search stays depth 14

pub read_link_stays : (files : Files) (base : Base) (path : Given (List ℕ)) (size : ℤ) → StaysUnlessDone files (read_link files base path size)
unfolding read_link
read_link_stays files base path size = search stays depth 14

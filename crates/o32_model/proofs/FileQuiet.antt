-- A call that fails moves nothing: the calls on files.
use Rattle.std.proofs.Common.{ℕ, List, length}
use Rattle.kernel_model.specs.Came.{Did}
use Rattle.kernel_model.specs.State.{Kernel}
use Rattle.o32_model.proofs.ResultQuiet.{result_quiet}
use Rattle.o32_model.proofs.Quiet.{Quiet, CallsQuiet, gives_quiet, stores_quiet, fills_quiet}
use Rattle.o32_model.specs.Entries.{entry_calls, getdents_row}
use Rattle.o32_model.specs.Names.{name_calls, mkdir_row, remove_row, link_row, linkat_row, symlink_row, readlink_row, rename_row}
use Rattle.o32_model.specs.NodeCalls.{node_calls, access_row, chmod_row, fchmod_row, utimensat_row, truncate_row, ftruncate_row, sync_row, chdir_row, fchdir_row, getcwd_row, umask_row}
use Rattle.o32_model.specs.Opening.{opening_calls, open_row, lseek_row, llseek_row}
use Rattle.o32_model.specs.Status.{status_calls, stat_row, fstat_row, stat64_row, fstat64_row, fstatat64_row}
use Rattle.o32_model.specs.Step.{Guest}
use Rattle.o32_model.specs.Results.{stores_text}

text_quiet : (guest : Guest) (address : ℕ) (did : Did Kernel (List ℕ)) (left : List ℕ) → Quiet guest left (stores_text guest address did left)
text_quiet guest address did left = result_quiet (λ bytes. bytes) length guest address did left

pub opening_quiet : CallsQuiet opening_calls
unfolding open_row lseek_row llseek_row
opening_quiet = (record { quiet = λ kernel guest left. gives_quiet guest _ left }, (record { quiet = λ kernel guest left. gives_quiet guest _ left }, (record { quiet = λ kernel guest left. gives_quiet guest _ left }, (record { quiet = λ kernel guest left. stores_quiet guest _ _ left }, (record { quiet = λ kernel guest left. gives_quiet guest _ left }, tt)))))

pub status_quiet : CallsQuiet status_calls
unfolding stat_row fstat_row stat64_row fstat64_row fstatat64_row
status_quiet = (record { quiet = λ kernel guest left. stores_quiet guest _ _ left }, (record { quiet = λ kernel guest left. stores_quiet guest _ _ left }, (record { quiet = λ kernel guest left. stores_quiet guest _ _ left }, (record { quiet = λ kernel guest left. stores_quiet guest _ _ left }, (record { quiet = λ kernel guest left. stores_quiet guest _ _ left }, (record { quiet = λ kernel guest left. stores_quiet guest _ _ left }, (record { quiet = λ kernel guest left. stores_quiet guest _ _ left }, tt)))))))

pub entries_quiet : CallsQuiet entry_calls
unfolding getdents_row
entries_quiet = (record { quiet = λ kernel guest left. fills_quiet _ guest _ left }, (record { quiet = λ kernel guest left. fills_quiet _ guest _ left }, tt))

pub names_quiet : CallsQuiet name_calls
unfolding mkdir_row remove_row link_row linkat_row symlink_row readlink_row rename_row
names_quiet = (record { quiet = λ kernel guest left. gives_quiet guest _ left }, (record { quiet = λ kernel guest left. gives_quiet guest _ left }, (record { quiet = λ kernel guest left. gives_quiet guest _ left }, (record { quiet = λ kernel guest left. gives_quiet guest _ left }, (record { quiet = λ kernel guest left. gives_quiet guest _ left }, (record { quiet = λ kernel guest left. gives_quiet guest _ left }, (record { quiet = λ kernel guest left. text_quiet guest _ _ left }, (record { quiet = λ kernel guest left. gives_quiet guest _ left }, (record { quiet = λ kernel guest left. gives_quiet guest _ left }, (record { quiet = λ kernel guest left. gives_quiet guest _ left }, (record { quiet = λ kernel guest left. gives_quiet guest _ left }, (record { quiet = λ kernel guest left. gives_quiet guest _ left }, (record { quiet = λ kernel guest left. text_quiet guest _ _ left }, tt)))))))))))))

pub nodes_quiet : CallsQuiet node_calls
unfolding access_row chmod_row fchmod_row utimensat_row truncate_row ftruncate_row sync_row chdir_row fchdir_row getcwd_row umask_row
nodes_quiet = (record { quiet = λ kernel guest left. gives_quiet guest _ left }, (record { quiet = λ kernel guest left. gives_quiet guest _ left }, (record { quiet = λ kernel guest left. gives_quiet guest _ left }, (record { quiet = λ kernel guest left. gives_quiet guest _ left }, (record { quiet = λ kernel guest left. gives_quiet guest _ left }, (record { quiet = λ kernel guest left. gives_quiet guest _ left }, (record { quiet = λ kernel guest left. gives_quiet guest _ left }, (record { quiet = λ kernel guest left. gives_quiet guest _ left }, (record { quiet = λ kernel guest left. gives_quiet guest _ left }, (record { quiet = λ kernel guest left. gives_quiet guest _ left }, (record { quiet = λ kernel guest left. text_quiet guest _ _ left }, (record { quiet = λ kernel guest left. gives_quiet guest _ left }, (record { quiet = λ kernel guest left. gives_quiet guest _ left }, (record { quiet = λ kernel guest left. gives_quiet guest _ left }, (record { quiet = λ kernel guest left. gives_quiet guest _ left }, (record { quiet = λ kernel guest left. gives_quiet guest _ left }, tt))))))))))))))))

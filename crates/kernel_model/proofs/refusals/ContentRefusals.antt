-- Refused rows on what a descriptor has open.
use Rattle.kernel_model.proofs.refusals.Checks.{stays}
use Rattle.kernel_model.specs.Came.{Given}
use Rattle.kernel_model.specs.ContentRows.{Records, bytes_ready, entries, seek, set_terminal_settings, status, sync, terminal_settings, window_size}
use Rattle.kernel_model.specs.Laws.{StaysUnlessDone}
use Rattle.kernel_model.specs.State.{Files}
use Rattle.kernel_model.specs.declared.terminal.TerminalSettings.{TerminalSettings}
use Rattle.std.specs.Prelude.{ℕ, ℤ}

pub seek_stays : (files : Files) (fd : ℕ) (offset : ℤ) (origin : ℕ) → StaysUnlessDone files (seek files fd offset origin)
unfolding seek
seek_stays files fd offset origin = search stays depth 14

pub status_stays : (files : Files) (fd : ℕ) → StaysUnlessDone files (status files fd)
unfolding status
status_stays files fd = search stays depth 14

pub entries_stays : (files : Files) (fd : ℕ) (records : Records) (size : ℕ) (room : ℕ) → StaysUnlessDone files (entries files fd records size room)
unfolding entries
entries_stays files fd records size room = search stays depth 14

pub sync_stays : (files : Files) (fd : ℕ) → StaysUnlessDone files (sync files fd)
unfolding sync
sync_stays files fd = search stays depth 14

pub bytes_ready_stays : (files : Files) (fd : ℕ) → StaysUnlessDone files (bytes_ready files fd)
unfolding bytes_ready
bytes_ready_stays files fd = search stays depth 14

pub terminal_settings_stays : (files : Files) (fd : ℕ) → StaysUnlessDone files (terminal_settings files fd)
unfolding terminal_settings
terminal_settings_stays files fd = search stays depth 14

pub set_terminal_settings_stays : (files : Files) (fd : ℕ) (settings : Given TerminalSettings) → StaysUnlessDone files (set_terminal_settings files fd settings)
unfolding set_terminal_settings
set_terminal_settings_stays files fd settings = search stays depth 14

pub window_size_stays : (files : Files) (fd : ℕ) → StaysUnlessDone files (window_size files fd)
unfolding window_size
window_size_stays files fd = search stays depth 14

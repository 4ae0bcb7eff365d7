use Rattle.kernel_model.proofs.refusals.ContentRefusals.{seek_stays, status_stays, entries_stays, sync_stays, bytes_ready_stays, terminal_settings_stays, set_terminal_settings_stays, window_size_stays}
use Rattle.kernel_model.proofs.laws.refusals.a_refused_row_on_what_is_open_changes_nothing.Goals as goal

pub returns : goal.returns
returns c = record {
  seek = seek_stays;
  status = status_stays;
  entries = entries_stays;
  sync = sync_stays;
  bytes_ready = bytes_ready_stays;
  terminal_settings = terminal_settings_stays;
  set_terminal_settings = set_terminal_settings_stays;
  window_size = window_size_stays;
}

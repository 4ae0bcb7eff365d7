use Rattle.kernel_laws.proofs.EndsKept.{bytes_ready_ends, entries_ends, seek_ends, set_terminal_settings_ends, status_ends, sync_ends, terminal_settings_ends, window_size_ends}
use Rattle.kernel_laws.proofs.OpenThingsKept.{bytes_ready_keeps, entries_keeps, set_terminal_settings_keeps, status_keeps, sync_keeps, terminal_settings_keeps, window_size_keeps}
use Rattle.kernel_model.proofs.DescribedRows.{seek_kept}
use Rattle.kernel_laws.proofs.every_row.a_row_on_what_is_open_keeps_files_sound.Goals as goal

pub returns : goal.returns
returns c = record {
  seek = λ files fd offset origin is. record { always = seek_kept files fd is.always offset origin; ends = (seek_ends files is.ends fd offset origin).kept };
  status = λ files fd is. record { always = (status_keeps files is.always fd).kept; ends = (status_ends files is.ends fd).kept };
  entries = λ files fd records size room is. record { always = (entries_keeps files is.always fd records size room).kept; ends = (entries_ends files is.ends fd records size room).kept };
  sync = λ files fd is. record { always = (sync_keeps files is.always fd).kept; ends = (sync_ends files is.ends fd).kept };
  bytes_ready = λ files fd is. record { always = (bytes_ready_keeps files is.always fd).kept; ends = (bytes_ready_ends files is.ends fd).kept };
  terminal_settings = λ files fd is. record { always = (terminal_settings_keeps files is.always fd).kept; ends = (terminal_settings_ends files is.ends fd).kept };
  set_terminal_settings = λ files fd settings is. record { always = (set_terminal_settings_keeps files is.always fd settings).kept; ends = (set_terminal_settings_ends files is.ends fd settings).kept };
  window_size = λ files fd is. record { always = (window_size_keeps files is.always fd).kept; ends = (window_size_ends files is.ends fd).kept };
}

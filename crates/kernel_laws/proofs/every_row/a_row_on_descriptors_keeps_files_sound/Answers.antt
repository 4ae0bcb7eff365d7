use Rattle.kernel_laws.proofs.CloseKept.{close_keeps, duplicate_onto_keeps, duplicate_onto_with_keeps}
use Rattle.kernel_laws.proofs.EndsKept.{close_on_exec_ends, duplicate_ends, make_pipe_ends, set_close_on_exec_ends, set_nonblock_ends, set_status_flags_ends, status_flags_ends, unlisted_command_ends, unlisted_request_ends}
use Rattle.kernel_laws.proofs.OpenThingsKept.{close_on_exec_keeps, set_close_on_exec_keeps, status_flags_keeps, unlisted_command_keeps, unlisted_request_keeps}
use Rattle.kernel_model.proofs.DescribedRows.{set_nonblock_kept, set_status_flags_kept}
use Rattle.kernel_model.proofs.DuplicateKept.{duplicate_kept}
use Rattle.kernel_model.proofs.PipeKept.{make_pipe_kept}
use Rattle.kernel_laws.proofs.every_row.a_row_on_descriptors_keeps_files_sound.Goals as goal

pub returns : goal.returns
returns c = record {
  close = λ files fd is. (close_keeps files is fd).kept;
  duplicate = λ files fd from cloexec is. record { always = duplicate_kept files fd from cloexec is.always; ends = (duplicate_ends files is.ends fd from cloexec).kept };
  duplicate_onto = λ files fd onto is. (duplicate_onto_keeps files is fd onto).kept;
  duplicate_onto_with = λ files fd onto cloexec is. (duplicate_onto_with_keeps files is fd onto cloexec).kept;
  make_pipe = λ files flags is. record { always = make_pipe_kept files flags is.always; ends = (make_pipe_ends files is.ends is.always flags).kept };
  close_on_exec = λ files fd is. record { always = (close_on_exec_keeps files is.always fd).kept; ends = (close_on_exec_ends files is.ends fd).kept };
  set_close_on_exec = λ files fd cloexec is. record { always = (set_close_on_exec_keeps files is.always fd cloexec).kept; ends = (set_close_on_exec_ends files is.ends fd cloexec).kept };
  status_flags = λ files fd is. record { always = (status_flags_keeps files is.always fd).kept; ends = (status_flags_ends files is.ends fd).kept };
  set_status_flags = λ files fd append nonblock is. record { always = set_status_flags_kept files fd is.always append nonblock; ends = (set_status_flags_ends files is.ends fd append nonblock).kept };
  set_nonblock = λ files fd on is. record { always = set_nonblock_kept files fd is.always on; ends = (set_nonblock_ends files is.ends fd on).kept };
  unlisted_command = λ files fd is. record { always = (unlisted_command_keeps files is.always fd).kept; ends = (unlisted_command_ends files is.ends fd).kept };
  unlisted_request = λ files fd is. record { always = (unlisted_request_keeps files is.always fd).kept; ends = (unlisted_request_ends files is.ends fd).kept };
}

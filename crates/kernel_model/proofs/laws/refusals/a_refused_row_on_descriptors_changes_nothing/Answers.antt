use Rattle.kernel_model.proofs.refusals.DescriptorRefusals.{close_stays, duplicate_stays, duplicate_onto_stays, duplicate_onto_with_stays, make_pipe_stays, close_on_exec_stays, set_close_on_exec_stays, status_flags_stays, set_status_flags_stays, set_nonblock_stays, unlisted_command_stays, unlisted_request_stays}
use Rattle.kernel_model.proofs.laws.refusals.a_refused_row_on_descriptors_changes_nothing.Goals as goal

pub returns : goal.returns
returns c = record {
  close = close_stays;
  duplicate = duplicate_stays;
  duplicate_onto = duplicate_onto_stays;
  duplicate_onto_with = duplicate_onto_with_stays;
  make_pipe = make_pipe_stays;
  close_on_exec = close_on_exec_stays;
  set_close_on_exec = set_close_on_exec_stays;
  status_flags = status_flags_stays;
  set_status_flags = set_status_flags_stays;
  set_nonblock = set_nonblock_stays;
  unlisted_command = unlisted_command_stays;
  unlisted_request = unlisted_request_stays;
}

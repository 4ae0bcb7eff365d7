use Rattle.kernel_laws.proofs.CloseKept.{close_keeps}
use Rattle.kernel_laws.proofs.descriptors.closing_a_descriptor_keeps_files.Goals as goal

pub returns : goal.returns
returns c = λ files fd is once. (close_keeps files (record { always = is; ends = once }) fd).kept.always

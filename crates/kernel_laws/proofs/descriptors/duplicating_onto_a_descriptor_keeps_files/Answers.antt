use Rattle.kernel_laws.proofs.CloseKept.{duplicate_onto_keeps, duplicate_onto_with_keeps}
use Rattle.kernel_laws.proofs.descriptors.duplicating_onto_a_descriptor_keeps_files.Goals as goal

pub returns : goal.returns
returns c = record {
  duplicate_onto = λ files fd onto is once. (duplicate_onto_keeps files (record { always = is; ends = once }) fd onto).kept.always;
  duplicate_onto_with = λ files fd onto cloexec is once. (duplicate_onto_with_keeps files (record { always = is; ends = once }) fd onto cloexec).kept.always;
}

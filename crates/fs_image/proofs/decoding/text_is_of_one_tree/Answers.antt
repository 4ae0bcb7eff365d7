use Rattle.fs_image.proofs.MeaningLaws.{one_tree}
use Rattle.fs_image.proofs.decoding.text_is_of_one_tree.Goals as goal

pub returns : goal.returns
returns c = one_tree

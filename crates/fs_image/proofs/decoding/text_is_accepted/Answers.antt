use Rattle.fs_image.proofs.MeaningLaws.{meaning-complete}
use Rattle.fs_image.proofs.decoding.text_is_accepted.Goals as goal

pub returns : goal.returns
returns c = meaning-complete

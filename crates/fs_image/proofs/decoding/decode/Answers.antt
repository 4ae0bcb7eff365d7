use Rattle.std.proofs.Common.{arith}
use Rattle.fs_image.proofs.MeaningLaws.{accepted_from, complete_from, sound_from, refused_from}
use Rattle.fs_image.proofs.decoding.decode.Goals as goal

pub returns-clause-accepted : goal.returns-clause-accepted
returns-clause-accepted c = accepted_from c.args.bytes.now c.decoded.result (λ i. omega (arith, c.type_inv.bytes i)) c.decoded.ensures

pub returns-clause-complete : goal.returns-clause-complete
returns-clause-complete c = complete_from c.args.bytes.now c.decoded.result c.decoded.ensures

pub returns-clause-sound : goal.returns-clause-sound
returns-clause-sound c = sound_from c.args.bytes.now c.decoded.result c.decoded.ensures

pub returns-clause-refused : goal.returns-clause-refused
returns-clause-refused c = refused_from c.args.bytes.now c.decoded.result c.decoded.ensures

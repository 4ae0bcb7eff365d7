use Rattle.std.proofs.Common.{[], sym, ap, ◌∙◌, subst, refl, arith}
use Rattle.std.specs.Option.{IsSome}
use Rattle.file_blocks.specs.inside.Extents.{AreExtents, blocks_in, blocks_from}
use Rattle.file_blocks.proofs.ExtentJoins.{room_alone, none_begins, joined-extents}
use Rattle.file_blocks.proofs.StoreLaws.{inserted, room_there}
use Rattle.file_blocks.proofs.extent_list.ExtentList.add.Goals as goal

pub grow-requires-clause-there : goal.grow-requires-clause-there
grow-requires-clause-there c = subst IsSome (sym c.in-Some.ensures.found.last.there) refl

pub grow-requires-clause-apart : goal.grow-requires-clause-apart
grow-requires-clause-apart c = let h = c.in-Some.ensures.found.last.up_to in omega arith

pub returns-in-Some-clause-valid : goal.returns-in-Some-clause-valid
returns-in-Some-clause-valid c =
    subst AreExtents (sym c.in_ok-grow.ensures.ok)
    (joined-extents c.args.self.now c.args.index c.in-Some.first (blocks_from c.args.self.now c.in-Some.first) c.args.block c.requires.valid c.requires.small
    (room_there c.args.self.now c.args.index c.in-Some.first c.requires.valid c.in-Some.ensures.found))

pub returns-in-Some-clause-ok : goal.returns-in-Some-clause-ok
returns-in-Some-clause-ok c =
    ap blocks_in c.in_ok-grow.ensures.ok
    ∙ inserted c.args.self.now c.args.index c.in-Some.first (blocks_from c.args.self.now c.in-Some.first) c.args.block c.requires.valid c.requires.small
    (room_there c.args.self.now c.args.index c.in-Some.first c.requires.valid c.in-Some.ensures.found)

pub begin-requires-clause-absent : goal.begin-requires-clause-absent
begin-requires-clause-absent c = none_begins c.args.self.now c.args.index c.requires.valid c.requires.absent

pub returns-clause-valid : goal.returns-clause-valid
returns-clause-valid c =
    subst AreExtents (sym c.in_ok-begin.ensures.ok)
    (joined-extents c.args.self.now c.args.index c.args.index [] c.args.block c.requires.valid c.requires.small
    (room_alone c.args.self.now c.args.index c.requires.valid c.requires.absent c.in_default.ensures.none))

pub returns-clause-ok : goal.returns-clause-ok
returns-clause-ok c =
    ap blocks_in c.in_ok-begin.ensures.ok
    ∙ inserted c.args.self.now c.args.index c.args.index [] c.args.block c.requires.valid c.requires.small
    (room_alone c.args.self.now c.args.index c.requires.valid c.requires.absent c.in_default.ensures.none)

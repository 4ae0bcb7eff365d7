use Rattle.std.proofs.Common.{sym, ap, ◌∙◌, subst, refl}
use Rattle.std.specs.Option.{IsSome, is_some}
use Rattle.std.specs.FinMap.{len}
use Rattle.file_blocks.specs.inside.Pieces.{with_kept_piece}
use Rattle.file_blocks.specs.inside.Extents.{AreExtents, blocks_in}
use Rattle.file_blocks.proofs.StoreLaws.{is_there, written}
use Rattle.file_blocks.proofs.extent_list.ExtentList.write.Goals as goal

pub returns-in_default-clause-is_kept : goal.returns-in_default-clause-is_kept
returns-in_default-clause-is_kept c = sym (ap is_some c.in_default.ensures.none)

pub returns-in_default-clause-written : goal.returns-in_default-clause-written
returns-in_default-clause-written c = ap (λ o. with_kept_piece (blocks_in c.args.self.now) c.args.index o c.args.place c.args.bytes.now) (sym c.in_default.ensures.none)

pub write_at-requires-clause-there : goal.write_at-requires-clause-there
write_at-requires-clause-there c = subst IsSome (sym c.in-Some.ensures.found.last.there) refl

pub returns-clause-is_kept : goal.returns-clause-is_kept
returns-clause-is_kept c = sym (is_there _ _ _ _ c.requires.valid c.in-Some.ensures.found)

pub returns-clause-valid : goal.returns-clause-valid
returns-clause-valid c = subst AreExtents (sym c.write_at.ensures) (written _ _ _ _ c.requires.valid c.in-Some.ensures.found c.args.place c.args.bytes.now).0

pub returns-clause-written : goal.returns-clause-written
returns-clause-written c = ap blocks_in c.write_at.ensures ∙ (written _ _ _ _ c.requires.valid c.in-Some.ensures.found c.args.place c.args.bytes.now).1

pub returns-clause-count : goal.returns-clause-count
returns-clause-count c =
    ap (λ m. len (blocks_in m)) c.write_at.ensures ∙ (written _ _ _ _ c.requires.valid c.in-Some.ensures.found c.args.place c.args.bytes.now).2

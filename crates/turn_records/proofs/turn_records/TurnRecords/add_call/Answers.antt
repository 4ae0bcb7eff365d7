use Rattle.std.proofs.Common.{◌≡◌, ◌∙◌, List, Option, Vec, Global, ap, subst, sym}
use Rattle.std.specs.Prelude.{option_map}
use Rattle.kernel_core.specs.declared.record.Effect.{Effect}
use Rattle.turn_records.proofs.Entries.{so_kept}
use Rattle.turn_records.specs.Entry.{registers_of}
use Rattle.turn_records.specs.Keeping.{AreKept}
use Rattle.turn_records.proofs.turn_records.TurnRecords.add_call.Goals as goal

abbrev items : Option (Vec Effect Global) → Option (List Effect)
items list = option_map (λ (v : Vec Effect Global). v.items) list

pub returns : goal.returns
returns c = λ p processor memory became sent is kept.
    let there = ap items c.in-Some.is in
    c.in_ok-keep_call.ensures p processor memory became sent
    (so_kept c.args.self.now c.in-Some.effects.items kept.more (registers_of processor ≡ c.args.was.now) is (sym there ∙ kept.kept))
    (subst (λ (e : Option (List Effect)). AreKept c.args.self.now e p memory became sent) there kept)

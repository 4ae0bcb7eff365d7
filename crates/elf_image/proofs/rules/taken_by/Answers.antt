use Rattle.std.proofs.Common.{sym, ◌∙◌}
use Rattle.elf_image.proofs.Judging.{judged-more, judged-stop}
use Rattle.elf_image.proofs.rules.taken_by.Goals as goal

pub returns-in-Some-clause-judged : goal.returns-in-Some-clause-judged
returns-in-Some-clause-judged c =
    let kept = c.loop-load.invariant in
    judged-stop c.args.size c.args.loads.now c.loop-load.load-index _ c.loop-load.taken.entries c.in-Some.rule c.loop-load-test.true (record { apart = kept.apart; same = kept.same; decides = kept.decides }) (sym c.broken_load_rule.ensures ∙ c.in-Some.is)

pub loop-load-preserved : goal.loop-load-preserved
loop-load-preserved c =
    let kept = c.loop-load.invariant in
    let more = judged-more c.args.size c.args.loads.now c.loop-load.load-index _ c.loop-load.taken.entries c.loop-load-test.true (c.requires c.loop-load.load-index _ c.loop-load-test.true) (record { apart = kept.apart; same = kept.same; decides = kept.decides }) (sym c.broken_load_rule.ensures ∙ c.in_default.is) in
    rw c.in_ok-insert.ensures.entries (record { apart = more.apart; same = more.same; decides = more.decides })

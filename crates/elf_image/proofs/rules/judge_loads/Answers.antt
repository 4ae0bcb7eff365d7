use Rattle.std.proofs.Common.{[], map, sym, ◌∙◌, arith}
use Rattle.std.proofs.lemmas.Result.{err_from_is_err_and}
use Rattle.elf_image.specs.Fields.{span_of}
use Rattle.elf_image.specs.Rules.{loads_rules, whole_rules}
use Rattle.elf_image.proofs.Counting.{pages-same}
use Rattle.elf_image.proofs.Judging.{broken-append-none, cause-more, whole-pages, whole-none}
use Rattle.elf_image.proofs.rules.judge_loads.Goals as goal

pub returns-in_err-taken : goal.returns-in_err-taken
returns-in_err-taken c =
    let p = err_from_is_err_and c.from_residual.result c.from_residual.ensures.1 in
    rw (p.1, p.2) (cause-more (loads_rules c.args.size [] c.args.loads.now) (whole_rules c.args.loads.now) _ c.in_err-taken.ensures.judged)

pub returns-then-page_count-gt-MOST_PAGES : goal.returns-then-page_count-gt-MOST_PAGES
returns-then-page_count-gt-MOST_PAGES c =
    let hs = c.args.loads.now in
    let pages = c.page_count.ensures ∙ sym (pages-same (map span_of hs) _ c.in_ok-taken.ensures.same) in
    broken-append-none (loads_rules c.args.size [] hs) (whole_rules hs) c.in_ok-taken.ensures.judged ∙ whole-pages hs (grind arith) (omega (arith, pages))

pub returns : goal.returns
returns c =
    let hs = c.args.loads.now in
    let pages = c.page_count.ensures ∙ sym (pages-same (map span_of hs) _ c.in_ok-taken.ensures.same) in
    broken-append-none (loads_rules c.args.size [] hs) (whole_rules hs) c.in_ok-taken.ensures.judged ∙ whole-none hs (grind arith) (omega (arith, pages))

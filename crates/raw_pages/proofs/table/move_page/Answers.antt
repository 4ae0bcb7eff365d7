use Rattle.raw_pages.proofs.table.move_page.Goals as goal

pub put-requires-clause-there : goal.put-requires-clause-there
put-requires-clause-there c = c.take.ensures.tables _ c.in_ok-make_leaf.ensures.there

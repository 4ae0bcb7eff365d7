use Rattle.raw_pages.proofs.Searches.{last-below}
use Rattle.raw_pages.proofs.page_store.PageStore.last_below.Goals as goal

pub returns : goal.returns
returns c = last-below c.args.self.now c.args.end c.last_mapped.result c.last_mapped.ensures

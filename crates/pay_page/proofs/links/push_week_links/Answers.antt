use Rattle.pay_page.specs.Links.{week_links}
use Rattle.pay_page.proofs.links.push_week_links.Goals as goal

pub returns : goal.returns
unfolding week_links
returns c = rw c.monday-monday.ensures.value at c.in_ok-write.ensures.bytes

use Rattle.pay_links.proofs.KeptJourneys.{each_tap}
use Rattle.pay_links.proofs.laws.each_tap.Goals as goal

pub returns : goal.returns
returns c = each_tap (λ tables taps. (c.one_parting.ensures.there tables taps).each_tap)

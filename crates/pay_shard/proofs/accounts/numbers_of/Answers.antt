use Rattle.pay_shard.proofs.Places.{numbers_of_keys}
use Rattle.pay_shard.proofs.accounts.numbers_of.Goals as goal

pub returns : goal.returns
returns c =
    numbers_of_keys c.args.places.now.entries c.in_ok-numbers.numbers.items c.sort_unstable.new.self.items c.in_ok-numbers.ensures.distinct c.in_ok-numbers.ensures.has c.sort_unstable.ensures.permutation c.sort_unstable.ensures.sorted

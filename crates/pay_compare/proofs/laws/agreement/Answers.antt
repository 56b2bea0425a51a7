use Rattle.pay_compare.proofs.AccountsAlike.{comes_to_the_same}
use Rattle.pay_compare.proofs.laws.agreement.Goals as goal

pub returns : goal.returns
returns c last accepted agree = comes_to_the_same c.args.new.now c.args.old.now last (record {
  agree = agree;
  of_new = c.editions_share.ensures;
  of_old = c.editions_share-2.ensures;
  stations = c.each_day.ensures.stations;
  spans = c.spans_within.ensures;
}) accepted

use Rattle.std.specs.FinMap.{get, len}
use Rattle.pay_rules.specs.Judgement.{added_iff}
use Rattle.pay_rules.specs.NumberOrder.{one_more}
use Rattle.pay_rule_laws.proofs.OneMore.{among, taken_out}
use Rattle.pay_rule_laws.proofs.sets.one_more.Goals as goal

pub returns : goal.returns
returns g c =
    let own = g.T.Numbered in
    let met = g.met.T.Numbered in
    record {
      numbered = λ most set x is added.
          let room = (added_iff own.same met.same_is_one met.one_is_same most x (get set (own.number x)) (len set)).0 added in
          one_more own.number most set x is room.0 room.1;
      among = λ set x none. among set (own.number x) x none;
      taken_out = λ set x none. taken_out set (own.number x) x none;
    }

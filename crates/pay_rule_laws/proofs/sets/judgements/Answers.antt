use Rattle.std.specs.FinMap.{get, len}
use Rattle.pay_rules.specs.Judgement.{added_iff, repeat_iff, conflict_iff, full_iff, never_memory}
use Rattle.pay_rule_laws.proofs.sets.judgements.Goals as goal

pub returns : goal.returns
returns g c =
    let own = g.T.Numbered in
    let met = g.met.T.Numbered in
    record {
      added = λ most set x. added_iff own.same met.same_is_one met.one_is_same most x (get set (own.number x)) (len set);
      repeat = λ most set x. repeat_iff own.same met.same_is_one met.one_is_same most x (get set (own.number x)) (len set);
      conflict = λ most set x. conflict_iff own.same met.same_is_one met.one_is_same most x (get set (own.number x)) (len set);
      full = λ most set x. full_iff own.same met.same_is_one met.one_is_same most x (get set (own.number x)) (len set);
      never_memory = λ most set x. never_memory own.same met.same_is_one met.one_is_same most x (get set (own.number x)) (len set);
    }

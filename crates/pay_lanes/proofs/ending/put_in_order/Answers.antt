use Rattle.std.proofs.Common.{rules, sym, ap, ◌∙◌}
use Rattle.std.proofs.lemmas.List.Sorted.{IsNonDecreasingBy-from_sort_by_key}
use Rattle.pay_lanes.specs.Parts.{LaneParts}
use Rattle.pay_lanes.specs.Ends.{numbers}
use Rattle.pay_lanes.proofs.Numbers.{sorted_all, in_order_all}
use Rattle.pay_lanes.proofs.ending.put_in_order.Goals as goal

pub returns-clause-all : goal.returns-clause-all
returns-clause-all c =
    let up = IsNonDecreasingBy-from_sort_by_key (λ (l : LaneParts). l.number) _ c.sort_unstable_by_key.ensures.sorted (λ a r q k. search rules) in
    let same = ap numbers c.deref.ensures.value in (
      λ yes. in_order_all c.args.count c.args.lanes.now.items c.sort_unstable_by_key.new.self.items c.sort_unstable_by_key.ensures.permutation (sym same ∙ c.are_in_order.ensures.0 yes),
      λ all. c.are_in_order.ensures.1 (same ∙ sorted_all c.args.count c.args.lanes.now.items c.sort_unstable_by_key.new.self.items c.sort_unstable_by_key.ensures.permutation up all),
    )

pub returns-clause-in_order : goal.returns-clause-in_order
returns-clause-in_order c = λ yes. sym (ap numbers c.deref.ensures.value) ∙ c.are_in_order.ensures.0 yes

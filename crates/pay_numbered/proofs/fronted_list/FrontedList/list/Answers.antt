use Rattle.std.proofs.Common.{◌≡◌, rules, subst, length, take, drop}
use Rattle.pay_numbered.proofs.Fronts.{copied_more}
use Rattle.pay_numbered.proofs.fronted_list.FrontedList.list.Goals as goal

pub loop-items-preserved : goal.loop-items-preserved
loop-items-preserved g c =
    let many : c.len-in-loop-items.result ≡ length c.loop-items.items.items = search rules in
    let more = copied_more c.args.self.now c.loop-items.items.items c.extend_from_slice.new.self.items c.from.result.now c.loop-items.invariant.value c.loop-items.invariant.within
    (subst (λ n. c.from.result.now ≡ take (length c.from.result.now) (drop n c.args.self.now)) many c.from.ensures.items) c.in_ok-extend_from_slice.ensures.items in
    record { value = more.0; within = more.1 }

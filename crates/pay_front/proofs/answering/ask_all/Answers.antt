use Rattle.std.proofs.Common.{◌≡◌, ◌+◌, ◌++◌, ◌∷◌, [], length, map, sym, subst, rules, arith}
use Rattle.std.specs.Prelude.{vec_items}
use Rattle.std.proofs.lemmas.List.{map-append, length-map}
use Rattle.pay_front.specs.Answers.{AreAsked, IsAsked}
use Rattle.pay_front.proofs.Asked.{asked_then}
use Rattle.pay_front.proofs.answering.ask_all.Goals as goal

pub loop-partition-preserved : goal.loop-partition-preserved
loop-partition-preserved g c =
    let gives = g.P.Partitions.MayGive in
    let before = c.loop-partition.replies.items in
    let reply = c.ask_one.new.out.items in
    let line = c.args.line.now in
    let at : 0 + length (map vec_items before) ≡ c.loop-partition.partition = search (rules, length-map) in
    let all : map vec_items c.push.new.self.items ≡ map vec_items before ++ reply ∷ [] = search (rules, map-append) in
    record {
      asked = subst (λ l. AreAsked gives 0 line c.args.partitions.now l c.ask_one.new.partitions) (sym all)
          (asked_then gives 0 line (map vec_items before) reply c.args.partitions.now c.loop-partition.partitions c.ask_one.new.partitions c.loop-partition.invariant.asked
          (subst (λ n. IsAsked gives n line c.loop-partition.partitions reply c.ask_one.new.partitions) (sym at) c.in_ok-ask_one.ensures));
      count = search (rules, arith);
    }

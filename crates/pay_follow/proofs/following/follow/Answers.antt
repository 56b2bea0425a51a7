use Rattle.std.proofs.Common.{refl, sym, ap, arith, suc, append_assoc, append-nil, ℕ, List, [], ◌∷◌, ◌++◌, ◌∙◌, subst}
use Rattle.pay_follow.specs.Partitions.{PartitionParts, publish, read_on}
use Rattle.pay_follow.specs.Following.{replica, Follows, IfUnpublished}
use Rattle.pay_follow.proofs.FollowedLines.{follows_none, follows_then, owed_next}
use Rattle.pay_follow.proofs.following.follow.Goals as goal

pub loop-init : goal.loop-init
loop-init g c =
    let P = g.P.Partition in
    record { same = refl; clean = λ h. h; follows = follows_none g.S.Store (P.HasLine (P.origin c.args.partition.now)) c.args.zone.now (replica c.args.desk.now.shard c.args.ledger.now (P.parts c.args.partition.now)); many = omega arith; grew = ([], sym (append-nil _)) }

pub loop-preserved : goal.loop-preserved
loop-preserved g c =
    let P = g.P.Partition in
    let so_far = c.loop.invariant in
    let line = c.in_default.ensures in
    let first = replica c.args.desk.now.shard c.args.ledger.now (P.parts c.args.partition.now) in
    let before = replica c.loop.desk.shard c.loop.ledger (P.parts c.loop.partition) in
    let after = replica c.follow_line.new.desk.shard c.follow_line.new.ledger (P.parts c.follow_line.new.partition) in
    record {
      same = line.same ∙ so_far.same;
      clean = λ h. so_far.clean (line.clean h);
      follows = follows_then g.S.Store (P.HasLine (P.origin c.args.partition.now)) c.args.zone.now first before after line.clean so_far.follows
          (subst (λ o. Follows g.S.Store (P.HasLine o) c.args.zone.now before after) so_far.same line.follows);
      many = omega (arith, so_far.many, ap (λ (p : PartitionParts). p.last) line.one.1);
      grew = (
        so_far.grew.0 ++ ((P.parts c.follow_line.new.partition).last, line.one.0) ∷ [],
        ap (λ (p : PartitionParts). p.published) line.one.1
            ∙ ap (λ (l : List (ℕ × List ℕ)). l ++ (suc (P.parts c.loop.partition).last, line.one.0) ∷ []) so_far.grew.1
            ∙ append_assoc (P.parts c.args.partition.now).published so_far.grew.0 ((suc (P.parts c.loop.partition).last, line.one.0) ∷ [])
            ∙ ap (λ k. (P.parts c.args.partition.now).published ++ (so_far.grew.0 ++ (k, line.one.0) ∷ [])) (sym (ap (λ (p : PartitionParts). p.last) line.one.1)),
      );
    }

pub returns-in-Err-clause-owed : goal.returns-in-Err-clause-owed
returns-in-Err-clause-owed g c =
    let P = g.P.Partition in
    let so_far = c.loop.invariant in
    let line = c.in-Err.ensures in
    let H = P.HasLine (P.origin c.args.partition.now) in
    let before = replica c.loop.desk.shard c.loop.ledger (P.parts c.loop.partition) in
    let after = replica c.follow_line.new.desk.shard c.follow_line.new.ledger (P.parts c.follow_line.new.partition) in
    owed_next g.S.Store H c.args.zone.now (replica c.args.desk.now.shard c.args.ledger.now (P.parts c.args.partition.now)) before after c.in-Err.stop c.follow_line.new.answered.reply.items
    line.clean so_far.follows so_far.grew line.stopped
    (subst (λ o. IfUnpublished c.in-Err.stop (Follows g.S.Store (P.HasLine o) c.args.zone.now before (replica after.shard after.ledger (publish (read_on before.partition) c.follow_line.new.answered.reply.items)))) so_far.same line.owed)

use Rattle.std.proofs.Common.{refl, sym, ◌∙◌, subst}
use Rattle.std.proofs.lemmas.Bool.{true≢false}
use Rattle.pay_follow.specs.Partitions.{read_up_to}
use Rattle.pay_follow.specs.Following.{replica}
use Rattle.pay_follow.specs.Resuming.{GoesOn, Ends, moment}
use Rattle.pay_follow.proofs.FollowedLines.{follows_none}
use Rattle.pay_follow.proofs.Resumed.{no_more}
use Rattle.pay_follow.proofs.resuming.follow_on.Goals as goal

pub loop-init : goal.loop-init
loop-init g c =
    let O = g.O.Opens in
    let began = replica c.args.desk.now.shard c.args.ledger.now (read_up_to 0) in
    record {
      same = refl;
      clean = λ h. h;
      underway = record { until = began; follows = follows_none g.S.Store (O.HasLine (O.source c.args.opens.now)) c.args.zone.now began; since = λ h. h; clean = λ h. h; paid = λ _. (refl, refl); owed = λ e. absurd (true≢false (sym e)) };
    }

pub returns-in-Err-clause-followed : goal.returns-in-Err-clause-followed
returns-in-Err-clause-followed g c =
    let O = g.O.Opens in
    let so_far = c.loop.invariant in
    subst (λ o. Ends g.S.Store (O.HasLine o) c.args.zone.now (moment c.loop.desk.shard c.loop.ledger c.loop.progress) (moment c.follow_once.new.desk.shard c.follow_once.new.ledger c.follow_once.new.progress) c.in-Err.stop) so_far.same c.in-Err.ensures.ended
    (replica c.args.desk.now.shard c.args.ledger.now (read_up_to 0)) so_far.underway

pub loop-preserved : goal.loop-preserved
loop-preserved g c =
    let O = g.O.Opens in
    let so_far = c.loop.invariant in
    let once = c.in-Ok.ensures in
    record {
      same = c.pause.ensures.same ∙ once.same ∙ so_far.same;
      clean = λ h. so_far.clean (once.clean h);
      underway = subst (λ o. GoesOn g.S.Store (O.HasLine o) c.args.zone.now (moment c.loop.desk.shard c.loop.ledger c.loop.progress) (moment c.follow_once.new.desk.shard c.follow_once.new.ledger c.follow_once.new.progress)) so_far.same once.underway
          (replica c.args.desk.now.shard c.args.ledger.now (read_up_to 0)) so_far.underway;
    }

pub returns-clause-followed : goal.returns-clause-followed
returns-clause-followed g c =
    let O = g.O.Opens in
    no_more g.S.Store (O.HasLine (O.source c.args.opens.now)) c.args.zone.now (replica c.args.desk.now.shard c.args.ledger.now (read_up_to 0)) (moment c.loop.desk.shard c.loop.ledger c.loop.progress) c.loop.invariant.underway

use Rattle.std.proofs.Common.{length, sym, subst}
use Rattle.pay_office.specs.Words.{answer_to}
use Rattle.pay_till.specs.Words.{AreAnswered}
use Rattle.pay_lanes.specs.Words.{LaneParts}
use Rattle.pay_serve.specs.Lanes.{AreAllWith}
use Rattle.pay_serve.proofs.Going.{all_back, lanes_same}
use Rattle.pay_serve.proofs.OneClose.{over_as_one}
use Rattle.pay_serve.proofs.ToldCloses.{told_flushed, told_cause}
use Rattle.pay_serve.proofs.closing.close_day.Goals as goal

-- the last lane has gone on
pub end-gates-requires-clause-all : goal.end-gates-requires-clause-all
end-gates-requires-clause-all g c =
    all_back c.still_together.ensures.in_order c.same_workers.ensures.itself c.args.office c.args.lanes.items c.args.lanes.items c.args.last c.close_through-closed.result.1
    (lanes_same c.same_lanes.ensures.itself c.args.lanes.items) c.close_through-closed.ensures.same c.requires.all

-- the close of all shards
pub returns-clause-closed : goal.returns-clause-closed
unfolding over_as_one
returns-clause-closed g c =
    let through = c.close_through-closed.ensures.closed in
    let l : LaneParts = c.close_through-closed.result.1 in
    let ls = c.args.lanes.items in
    let put = through.closed.closed.put in
    let shards = length c.args.last.shards in
    let all : AreAllWith c.args.office ls l =
    all_back c.still_together.ensures.in_order c.same_workers.ensures.itself c.args.office ls ls c.args.last l (lanes_same c.same_lanes.ensures.itself ls) c.close_through-closed.ensures.same c.requires.all in
    let its = subst (λ (m : LaneParts). AreAnswered (λ ticket. answer_to ticket m.answers.got) put) (sym through.lane) through.closed.closed.answered in
    record {
      lane = l;
      same = c.close_through-closed.ensures.same;
      closed = c.close_through-closed.result.0;
      through = through;
      none_hidden = c.close_through-closed.ensures.none_hidden;
      told = c.told.ensures;
      one = over_as_one c.any_shards.ensures.merged c.args.office ls l c.args.day shards put all (sym (c.same_lanes.ensures.shards c.args.last l c.close_through-closed.ensures.same)) through.closed.closed.close.quotes its c.end-gates.ensures.over.0;
      gates = c.end-gates.ensures.over.1;
    }

pub returns-clause-flushed : goal.returns-clause-flushed
returns-clause-flushed g c = told_flushed _ _ _ c.told.ensures c.close_through-closed.ensures.flushed

pub returns-clause-cause : goal.returns-clause-cause
returns-clause-cause g c = told_cause _ _ _ c.told.ensures c.close_through-closed.ensures.cause

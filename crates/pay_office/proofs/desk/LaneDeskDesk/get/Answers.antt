use Rattle.std.proofs.Common.{◌≡◌, ℕ, ◌≤◌, List, length, sym, ap, ◌∙◌, subst, rules}
use Rattle.pay_rules.specs.InTurn.{IsIn}
use Rattle.pay_shard.specs.Words.{Standing, NothingIsLost, without}
use Rattle.pay_shard.specs.declared.limits.TheConstants.{MOST_SHARDS}
use Rattle.pay_lanes.specs.Parts.{LaneParts}
use Rattle.pay_office.specs.Waits.{commands_sent, answer_to, tickets_of, IsUntoldOf}
use Rattle.pay_office.specs.LaneDesks.{LaneDeskParts}
use Rattle.pay_office.proofs.Waited.{stays, commands_stay, answers_stay, waiting_left, tickets_left, reply_told, none_told}
use Rattle.pay_office.proofs.desk.LaneDeskDesk.get.Goals as goal

pub invariant_of-self : goal.invariant_of-self
invariant_of-self g c =
    let many = c.same_lanes.ensures.shards c.self.inside.lane c.take_until.new.lane c.take_until.ensures.same in record {
      same = c.same_lanes.ensures.then c.self.inside.began.value c.self.inside.lane c.take_until.new.lane c.self.invariant.same c.take_until.ensures.same;
      some = subst (λ n. 1 ≤ n) (sym many) c.self.invariant.some;
      few = subst (λ n. n ≤ MOST_SHARDS) (sym many) c.self.invariant.few;
      waits = waiting_left _ c.take_until.new.lane c.take_until.new.waiting.items c.take_out.new.waiting.items c.take_until.ensures.waiting c.take_out.ensures.rest;
    }

pub invariant_of-self-in_default : goal.invariant_of-self-in_default
invariant_of-self-in_default g c =
    let many = c.same_lanes.ensures.shards c.self.inside.lane c.take_until.new.lane c.take_until.ensures.same in record {
      same = c.same_lanes.ensures.then c.self.inside.began.value c.self.inside.lane c.take_until.new.lane c.self.invariant.same c.take_until.ensures.same;
      some = subst (λ n. 1 ≤ n) (sym many) c.self.invariant.some;
      few = subst (λ n. n ≤ MOST_SHARDS) (sym many) c.self.invariant.few;
      waits = waiting_left _ c.take_until.new.lane c.take_until.new.waiting.items c.take_out.new.waiting.items c.take_until.ensures.waiting c.take_out.ensures.rest;
    }

pub returns-in_default-clause-none_added : goal.returns-in_default-clause-none_added
returns-in_default-clause-none_added g c =
    commands_stay c.self.inside.lane c.take_until.new.lane (stays c.self.inside.lane c.take_until.new.lane c.take_until.ensures.lane) c.self.invariant.waits.sent
    ∙ ap (λ (d : LaneDeskParts). commands_sent d.lane) c.self.view_is

pub returns-clause-none_added : goal.returns-clause-none_added
returns-clause-none_added g c =
    commands_stay c.self.inside.lane c.take_until.new.lane (stays c.self.inside.lane c.take_until.new.lane c.take_until.ensures.lane) c.self.invariant.waits.sent
    ∙ ap (λ (d : LaneDeskParts). commands_sent d.lane) c.self.view_is

pub returns-in_default-clause-transcript : goal.returns-in_default-clause-transcript
returns-in_default-clause-transcript g c =
    subst (λ (d : LaneDeskParts). NothingIsLost (λ t. answer_to t d.lane.answers.got) (λ t. answer_to t c.take_until.new.lane.answers.got)) c.self.view_is
    (answers_stay c.self.inside.lane c.take_until.new.lane (stays c.self.inside.lane c.take_until.new.lane c.take_until.ensures.lane))

pub returns-clause-transcript : goal.returns-clause-transcript
returns-clause-transcript g c =
    subst (λ (d : LaneDeskParts). NothingIsLost (λ t. answer_to t d.lane.answers.got) (λ t. answer_to t c.take_until.new.lane.answers.got)) c.self.view_is
    (answers_stay c.self.inside.lane c.take_until.new.lane (stays c.self.inside.lane c.take_until.new.lane c.take_until.ensures.lane))

stands : (before now : LaneDeskParts) (l : LaneParts) (kept left : List ℕ) (ticket : ℕ) → before ≡ now → length l.shards ≡ length before.lane.shards → kept ≡ before.waiting → left ≡ without ticket kept
    → ◌≡◌ {A = Standing LaneParts} (record { origin = before.began; shards = length l.shards; waiting = left }) (record { origin = now.began; shards = length now.lane.shards; waiting = without ticket now.waiting })
stands before now l kept left ticket is many same rest =
    ap (λ n. record { origin = before.began; shards = n; waiting = left }) many
    ∙ (ap (λ ts. record { origin = before.began; shards = length before.lane.shards; waiting = ts }) (rest ∙ ap (without ticket) same)
    ∙ ap (λ (d : LaneDeskParts). record { origin = d.began; shards = length d.lane.shards; waiting = without ticket d.waiting }) is)

pub returns-in_default-clause-got : goal.returns-in_default-clause-got
returns-in_default-clause-got g c =
    stands (record { began = c.self.inside.began.value; lane = c.self.inside.lane; waiting = tickets_of c.self.inside.waiting.items }) c.args.self.now c.take_until.new.lane (tickets_of c.take_until.new.waiting.items) (tickets_of c.take_out.new.waiting.items) c.args.ticket
    c.self.view_is (c.same_lanes.ensures.shards c.self.inside.lane c.take_until.new.lane c.take_until.ensures.same) c.take_until.ensures.tickets
    (ap tickets_of c.take_out.ensures.rest
    ∙ (tickets_left c.number-2.result c.take_until.new.waiting.items c.take_until.ensures.waiting.distinct ∙ ap (λ t. without t (tickets_of c.take_until.new.waiting.items)) c.number-2.ensures))

pub returns-clause-got : goal.returns-clause-got
returns-clause-got g c =
    stands (record { began = c.self.inside.began.value; lane = c.self.inside.lane; waiting = tickets_of c.self.inside.waiting.items }) c.args.self.now c.take_until.new.lane (tickets_of c.take_until.new.waiting.items) (tickets_of c.take_out.new.waiting.items) c.args.ticket
    c.self.view_is (c.same_lanes.ensures.shards c.self.inside.lane c.take_until.new.lane c.take_until.ensures.same) c.take_until.ensures.tickets
    (ap tickets_of c.take_out.ensures.rest
    ∙ (tickets_left c.number-2.result c.take_until.new.waiting.items c.take_until.ensures.waiting.distinct ∙ ap (λ t. without t (tickets_of c.take_until.new.waiting.items)) c.number-2.ensures))

pub returns-clause-reply : goal.returns-clause-reply
returns-clause-reply g c =
    search (rules, reply_told c.args.ticket c.take_until.new.lane c.take_until.new.waiting.items c.in-Some.field-0 c.take_until.ensures.waiting.each (search rules))

pub returns-in_default-clause-none : goal.returns-in_default-clause-none
returns-in_default-clause-none g c =
    none_told c.args.ticket c.take_until.new.lane c.take_until.new.waiting.items c.take_until.ensures.waiting.each
    (subst (λ ts. IsIn ts c.args.ticket) (sym (c.take_until.ensures.tickets ∙ ap (λ (d : LaneDeskParts). d.waiting) c.self.view_is)) c.requires)
    (subst (λ t. IsUntoldOf t c.take_until.new.waiting.items) c.number-2.ensures c.in_default.ensures.none)

use Rattle.std.proofs.Common.{◌≤◌, ◌++◌, [], ◌∷◌, refl, sym, ap, ◌∙◌, subst, None, Err, rules}
use Rattle.pay_shard.specs.Words.{NothingIsLost, IsAfterAll, IsNoneOf}
use Rattle.pay_shard.specs.declared.limits.TheConstants.{MOST_SHARDS}
use Rattle.pay_lanes.specs.Parts.{LaneParts}
use Rattle.pay_lanes.specs.Words.{all_sent}
use Rattle.pay_office.specs.Waits.{commands_sent, answer_to, tickets_of}
use Rattle.pay_office.specs.LaneDesks.{LaneDeskParts, MayRefuse, WasBusy}
use Rattle.pay_office.proofs.Commands.{commands_put, after_all}
use Rattle.pay_office.proofs.Waited.{stays, commands_stay, answers_stay, waiting_put, none_of}
use Rattle.pay_office.proofs.Refused.{may_refuse, was_busy}
use Rattle.pay_office.proofs.desk.LaneDeskDesk.put.Goals as goal

pub returns-then-is_full-clause-not_added : goal.returns-then-is_full-clause-not_added
returns-then-is_full-clause-not_added g c =
    commands_stay c.self.inside.lane c.take_all.new.lane (stays c.self.inside.lane c.take_all.new.lane c.take_all.ensures.lane) c.self.invariant.waits.sent
    ∙ ap (λ (d : LaneDeskParts). commands_sent d.lane) c.self.view_is

pub returns-then-is_full-clause-transcript : goal.returns-then-is_full-clause-transcript
returns-then-is_full-clause-transcript g c =
    subst (λ (d : LaneDeskParts). NothingIsLost (λ t. answer_to t d.lane.answers.got) (λ t. answer_to t c.take_all.new.lane.answers.got)) c.self.view_is
    (answers_stay c.self.inside.lane c.take_all.new.lane (stays c.self.inside.lane c.take_all.new.lane c.take_all.ensures.lane))

pub returns-in-Err-clause-not_added : goal.returns-in-Err-clause-not_added
returns-in-Err-clause-not_added g c =
    ap commands_sent c.in-Err.ensures.refused
    ∙ (commands_stay c.self.inside.lane c.take_all.new.lane (stays c.self.inside.lane c.take_all.new.lane c.take_all.ensures.lane) c.self.invariant.waits.sent
    ∙ ap (λ (d : LaneDeskParts). commands_sent d.lane) c.self.view_is)

pub returns-in-Err-clause-refused : goal.returns-in-Err-clause-refused
returns-in-Err-clause-refused g c =
    let d : LaneDeskParts = record { began = c.self.inside.began.value; lane = c.self.inside.lane; waiting = tickets_of c.self.inside.waiting.items } in
    subst (λ (e : LaneDeskParts). MayRefuse e c.refusal.result) c.self.view_is
    (subst (MayRefuse d) (sym c.refusal.ensures) (may_refuse d c.take_all.new.lane c.take_all.ensures.lane c.in-Err.fault (λ e. c.in-Err.ensures.window.0 (ap Err e))))

pub returns-in-Err-clause-busy : goal.returns-in-Err-clause-busy
returns-in-Err-clause-busy g c = λ e.
    let d : LaneDeskParts = record { began = c.self.inside.began.value; lane = c.self.inside.lane; waiting = tickets_of c.self.inside.waiting.items } in
    subst (λ (x : LaneDeskParts). WasBusy x (record { began = c.self.inside.began.value; lane = c.send.new.self; waiting = tickets_of c.take_all.new.waiting.items })) c.self.view_is
    (was_busy d c.take_all.new.lane c.take_all.ensures.lane _ c.in-Err.fault (record { began = c.self.inside.began.value; lane = c.send.new.self; waiting = tickets_of c.take_all.new.waiting.items }) c.in-Err.ensures.refused (λ is. c.in-Err.ensures.busy (ap Err is)) (search rules))

pub returns-in-Err-clause-transcript : goal.returns-in-Err-clause-transcript
returns-in-Err-clause-transcript g c =
    subst (λ (d : LaneDeskParts). NothingIsLost (λ t. answer_to t d.lane.answers.got) (λ t. answer_to t c.send.new.self.answers.got)) c.self.view_is
    (subst (λ (l : LaneParts). NothingIsLost (λ t. answer_to t c.self.inside.lane.answers.got) (λ t. answer_to t l.answers.got)) (sym c.in-Err.ensures.refused)
    (answers_stay c.self.inside.lane c.take_all.new.lane (stays c.self.inside.lane c.take_all.new.lane c.take_all.ensures.lane)))

pub invariant_of-self-2 : goal.invariant_of-self-2
invariant_of-self-2 g c =
    let same = c.same_lanes.ensures.then c.self.inside.lane c.take_all.new.lane c.send.new.self c.take_all.ensures.same c.in-Ok.ensures.same in
    let many = c.same_lanes.ensures.shards c.self.inside.lane c.send.new.self same in record {
      same = c.same_lanes.ensures.then c.self.inside.began.value c.self.inside.lane c.send.new.self c.self.invariant.same same;
      some = subst (λ n. 1 ≤ n) (sym many) c.self.invariant.some;
      few = subst (λ n. n ≤ MOST_SHARDS) (sym many) c.self.invariant.few;
      waits =
          waiting_put c.take_all.new.lane c.args.command c.in-Ok.ensures.place c.take_all.ensures.waiting.sent c.take_all.new.waiting.items c.push.new.self.items c.send.new.self c.number.result None
          c.take_all.ensures.waiting c.in-Ok.ensures.new (c.number.ensures ∙ c.in-Ok.ensures.ticket) refl c.in-Ok.ensures.sent c.push.ensures.items;
    }

pub returns-clause-added : goal.returns-clause-added
returns-clause-added g c =
    ap commands_sent c.in-Ok.ensures.sent
    ∙ (commands_put c.take_all.new.lane c.args.command c.in-Ok.ensures.place c.take_all.ensures.waiting.sent
    ∙ (ap (λ t. commands_sent c.take_all.new.lane ++ (t, c.args.command) ∷ []) (sym c.in-Ok.ensures.ticket)
    ∙ ap (λ cs. cs ++ (c.in-Ok.ticket, c.args.command) ∷ [])
    (commands_stay c.self.inside.lane c.take_all.new.lane (stays c.self.inside.lane c.take_all.new.lane c.take_all.ensures.lane) c.self.invariant.waits.sent
    ∙ ap (λ (d : LaneDeskParts). commands_sent d.lane) c.self.view_is)))

pub returns-clause-later : goal.returns-clause-later
returns-clause-later g c =
    subst (IsAfterAll c.in-Ok.ticket)
    (commands_stay c.self.inside.lane c.take_all.new.lane (stays c.self.inside.lane c.take_all.new.lane c.take_all.ensures.lane) c.self.invariant.waits.sent
    ∙ ap (λ (d : LaneDeskParts). commands_sent d.lane) c.self.view_is)
    (subst (λ n. IsAfterAll n (commands_sent c.take_all.new.lane)) (sym c.in-Ok.ensures.ticket) (after_all c.take_all.new.lane.next (all_sent c.take_all.new.lane.shards)))

pub returns-clause-fresh : goal.returns-clause-fresh
returns-clause-fresh g c =
    subst (IsNoneOf c.in-Ok.ticket) (c.take_all.ensures.tickets ∙ ap (λ (d : LaneDeskParts). d.waiting) c.self.view_is)
    (none_of c.take_all.new.lane c.in-Ok.ticket c.take_all.new.waiting.items c.take_all.ensures.waiting.each c.in-Ok.ensures.ticket)

pub returns-clause-transcript : goal.returns-clause-transcript
returns-clause-transcript g c =
    subst (λ (d : LaneDeskParts). NothingIsLost (λ t. answer_to t d.lane.answers.got) (λ t. answer_to t c.send.new.self.answers.got)) c.self.view_is
    (subst (λ (l : LaneParts). NothingIsLost (λ t. answer_to t c.self.inside.lane.answers.got) (λ t. answer_to t l.answers.got)) (sym c.in-Ok.ensures.sent)
    (answers_stay c.self.inside.lane c.take_all.new.lane (stays c.self.inside.lane c.take_all.new.lane c.take_all.ensures.lane)))

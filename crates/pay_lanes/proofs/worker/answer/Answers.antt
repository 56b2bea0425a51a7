use Rattle.std.proofs.Common.{ap}
use Rattle.pay_shard.specs.Words.{item_of, is_memory}
use Rattle.pay_lanes.proofs.Gated.{now_shut, now_passed}
use Rattle.pay_lanes.proofs.Told.{now_held, offered, offered_mailboxes, answer_offerable, still_offerable}
use Rattle.pay_lanes.proofs.worker.answer.Goals as goal

pub returns-clause-kept : goal.returns-clause-kept
returns-clause-kept g c = c.apply-answer.ensures.kept g.G.Gate.forgets

pub returns-then-not-after_job-clause-kept : goal.returns-then-not-after_job-clause-kept
returns-then-not-after_job-clause-kept g c = c.apply-answer.ensures.kept g.G.Gate.forgets

pub offer-requires : goal.offer-requires
offer-requires g c = answer_offerable c.args.shard.now c.args.lanes.now.items c.args.entry.lane c.apply-answer.result c.requires.lane c.requires.told (ap (λ a. a.shard) c.apply-answer.ensures.answer)

pub returns-clause-told : goal.returns-clause-told
returns-clause-told g c =
    offered c.apply-answer.new.self c.args.lanes.now.items c.offer.new.lanes.items (record { lane = c.args.entry.lane; answer = c.apply-answer.result }) c.offer.result
    (now_held c.args.shard.now c.apply-answer.new.self c.args.lanes.now.items (item_of c.args.entry (is_memory c.apply-answer.result.reply)) c.apply-answer.result
    (record { number = ap (λ s. s.number) c.apply-answer.ensures.journal; journal = ap (λ s. s.journal) c.apply-answer.ensures.journal; answers = c.apply-answer.ensures.answers })
    c.requires.told)
    c.offer.ensures.sent c.offer.ensures.refused

pub returns-clause-held : goal.returns-clause-held
returns-clause-held g c =
    still_offerable c.args.lanes.now.items c.offer.new.lanes.items (record { lane = c.args.entry.lane; answer = c.apply-answer.result }) c.offer.result
    (answer_offerable c.args.shard.now c.args.lanes.now.items c.args.entry.lane c.apply-answer.result c.requires.lane c.requires.told (ap (λ a. a.shard) c.apply-answer.ensures.answer))
    c.offer.ensures.refused

pub returns-clause-mailboxes : goal.returns-clause-mailboxes
returns-clause-mailboxes g c = offered_mailboxes c.args.lanes.now.items c.offer.new.lanes.items (record { lane = c.args.entry.lane; answer = c.apply-answer.result }) c.offer.result c.offer.ensures.sent c.offer.ensures.refused

pub returns-clause-gated : goal.returns-clause-gated
returns-clause-gated g c =
    now_passed (g.G.Gate.Holds c.after_job.new.self) c.args.shard.now c.apply-answer.new.self (item_of c.args.entry (is_memory c.apply-answer.result.reply)) c.apply-answer.result c.offer.new.lanes.items c.args.shut.now c.after_job.result
    (record { number = ap (λ s. s.number) c.apply-answer.ensures.journal; journal = ap (λ s. s.journal) c.apply-answer.ensures.journal; answers = c.apply-answer.ensures.answers })
    c.requires.not_shut c.if-not-after_job.false (c.after_job.ensures.passed _ (c.before_job.ensures.same _ c.requires.gate))

-- it is held for good
pub returns-then-not-after_job-clause-told : goal.returns-then-not-after_job-clause-told
returns-then-not-after_job-clause-told g c =
    now_held c.args.shard.now c.apply-answer.new.self c.args.lanes.now.items (item_of c.args.entry (is_memory c.apply-answer.result.reply)) c.apply-answer.result
    (record { number = ap (λ s. s.number) c.apply-answer.ensures.journal; journal = ap (λ s. s.journal) c.apply-answer.ensures.journal; answers = c.apply-answer.ensures.answers })
    c.requires.told

pub returns-then-not-after_job-clause-held : goal.returns-then-not-after_job-clause-held
returns-then-not-after_job-clause-held g c = answer_offerable c.args.shard.now c.args.lanes.now.items c.args.entry.lane c.apply-answer.result c.requires.lane c.requires.told (ap (λ a. a.shard) c.apply-answer.ensures.answer)

pub returns-then-not-after_job-clause-gated : goal.returns-then-not-after_job-clause-gated
returns-then-not-after_job-clause-gated g c =
    now_shut (g.G.Gate.Holds c.after_job.new.self) c.args.shard.now c.apply-answer.new.self (item_of c.args.entry (is_memory c.apply-answer.result.reply)) c.apply-answer.result c.args.lanes.now.items c.after_job.result
    (record { number = ap (λ s. s.number) c.apply-answer.ensures.journal; journal = ap (λ s. s.journal) c.apply-answer.ensures.journal; answers = c.apply-answer.ensures.answers })
    c.requires.told c.if-not-after_job.true (c.after_job.ensures.passed _ (c.before_job.ensures.same _ c.requires.gate))

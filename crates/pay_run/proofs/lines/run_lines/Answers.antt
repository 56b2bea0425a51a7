use Rattle.std.proofs.Common.{sym, ◌∙◌}
use Rattle.std.specs.Prelude.{IfSome}
use Rattle.sqlite.specs.Held.{state}
use Rattle.sqlite.specs.State.{HasCleanDisk}
use Rattle.pay_journal.specs.Words.{CanFail, kept_parts}
use Rattle.pay_run.specs.LineRuns.{LinesEnd, LinesFail, after, before, with_ledger_in}
use Rattle.pay_run.proofs.WholeRuns.{Went, kept_plain, lending, of_lent, settled_if, till_ends, till_fails, till_sound}
use Rattle.pay_run.proofs.lines.run_lines.Goals as goal

pub returns-clause-ends : goal.returns-clause-ends
returns-clause-ends g c =
    let lent = c.new-till.ensures in
    let K = g.K.Keeper in
    let went : Went (CanFail K.HasFailed) c.args.desk (K.holds c.args.keeper) c.begin-desk.result c.session-ended.new.desk c.settle.new.self = record {
      is = c.begin-desk.ensures;
      same = c.session-ended.ensures.same_desk;
      seen = c.settle.ensures.seen;
      first = c.settle.ensures.first;
      placed = c.shard.ensures.in_place;
      lines = c.shard.ensures.kept;
    } in
    of_lent (λ till. till.ledger.now) (λ old last. LinesEnd (with_ledger_in g.S.Store K g.R.Read.remaining g.W.Write.contents) c.args.zone.now c.args.desk (before c.args.keeper old c.args.reader.now c.args.writer.now)
    (after c.settle.new.self last c.session-ended.new.reader c.session-ended.new.writer) c.session-ended.result) _ _ c.new-till.result c.session-ended.new.till
    (sym lent.ledger) (c.ledger-1.given.1 (sym lent.same_ledger ∙ sym c.session-ended.ensures.same_till))
    (till_ends (lending (λ held. state g.S.Store held) (λ till. till.ledger.now)) c.one_line.ensures c.args.zone.now went
    (kept_plain (λ till. state g.S.Store till.ledger.now) (CanFail K.HasFailed) (kept_parts (CanFail K.HasFailed) c.begin-desk.result).standing c.one_shard.ensures.gathered)
    c.new-till.result c.session-ended.new.till c.session-ended.result _ _ _ _ c.session-ended.ensures.ends)

pub returns-clause-fails : goal.returns-clause-fails
returns-clause-fails g c =
    let lent = c.new-till.ensures in
    let K = g.K.Keeper in
    let went : Went (CanFail K.HasFailed) c.args.desk (K.holds c.args.keeper) c.begin-desk.result c.session-ended.new.desk c.settle.new.self = record {
      is = c.begin-desk.ensures;
      same = c.session-ended.ensures.same_desk;
      seen = c.settle.ensures.seen;
      first = c.settle.ensures.first;
      placed = c.shard.ensures.in_place;
      lines = c.shard.ensures.kept;
    } in
    of_lent (λ till. till.ledger.now) (λ old last. LinesFail (with_ledger_in g.S.Store K g.R.Read.remaining g.W.Write.contents) c.args.zone.now c.args.desk (before c.args.keeper old c.args.reader.now c.args.writer.now)
    (after c.settle.new.self last c.session-ended.new.reader c.session-ended.new.writer) c.session-ended.result) _ _ c.new-till.result c.session-ended.new.till
    (sym lent.ledger) (c.ledger-1.given.1 (sym lent.same_ledger ∙ sym c.session-ended.ensures.same_till))
    (till_fails (lending (λ held. state g.S.Store held) (λ till. till.ledger.now)) c.one_line.ensures c.args.zone.now went
    (kept_plain (λ till. state g.S.Store till.ledger.now) (CanFail K.HasFailed) (kept_parts (CanFail K.HasFailed) c.begin-desk.result).standing c.one_shard.ensures.gathered)
    c.new-till.result c.session-ended.new.till c.session-ended.result _ _ _ _ c.session-ended.ensures.fails)

pub returns-clause-clean : goal.returns-clause-clean
returns-clause-clean g c =
    let lent = c.new-till.ensures in
    let K = g.K.Keeper in
    let went : Went (CanFail K.HasFailed) c.args.desk (K.holds c.args.keeper) c.begin-desk.result c.session-ended.new.desk c.settle.new.self = record {
      is = c.begin-desk.ensures;
      same = c.session-ended.ensures.same_desk;
      seen = c.settle.ensures.seen;
      first = c.settle.ensures.first;
      placed = c.shard.ensures.in_place;
      lines = c.shard.ensures.kept;
    } in
    of_lent (λ till. till.ledger.now) (λ old last. IfSome (g.R.Read.remaining c.args.reader.now) (λ _. HasCleanDisk (state g.S.Store last) → HasCleanDisk (state g.S.Store old))) _ _ c.new-till.result c.session-ended.new.till
    (sym lent.ledger) (c.ledger-1.given.1 (sym lent.same_ledger ∙ sym c.session-ended.ensures.same_till))
    (till_sound (lending (λ held. state g.S.Store held) (λ till. till.ledger.now)) c.one_line.ensures c.args.zone.now went
    (kept_plain (λ till. state g.S.Store till.ledger.now) (CanFail K.HasFailed) (kept_parts (CanFail K.HasFailed) c.begin-desk.result).standing c.one_shard.ensures.gathered)
    c.new-till.result c.session-ended.new.till c.session-ended.result _ _ _ _ c.session-ended.ensures.ends c.session-ended.ensures.fails)

pub returns-clause-settled : goal.returns-clause-settled
returns-clause-settled g c = settled_if c.settle.result _ _ c.settle.ensures.settled c.settle.ensures.err

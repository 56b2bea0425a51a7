use Rattle.std.specs.Prelude.{None, ⊤}
use Rattle.std.specs.Arc.{arc_value}
use Rattle.std.proofs.lemmas.Result.{err_from_is_err_and}
use Rattle.pay_journal.specs.declared.keeper.NoKeeper.{NoKeeper}
use Rattle.pay_run.proofs.Weeks.{is_day, is_monday, past_fails, past_cause, week_cause, not_stuck}
use Rattle.pay_run.proofs.WeekRuns.{Resumed, week_told, week_breaks, week_lacks}
use Rattle.pay_run.proofs.week.week_by_lines.Goals as goal

pub lines_of-requires-clause-is_day : goal.lines_of-requires-clause-is_day
lines_of-requires-clause-is_day g c = is_day c.args.day c.monday.result c.requires c.monday.ensures.is_monday c.monday.ensures.not_after

pub lines_of-requires-clause-is_monday : goal.lines_of-requires-clause-is_monday
lines_of-requires-clause-is_monday g c = is_monday c.monday.result c.monday.ensures.is_monday

pub returns-in_err-begun-clause-fails : goal.returns-in_err-begun-clause-fails
returns-in_err-begun-clause-fails g c =
    let p = err_from_is_err_and c.from_residual.result c.from_residual.ensures.1 in
    rw (p.1, p.2) (past_fails c.args.zone.now (arc_value c.args.editions) c.args.past.now (g.R.Read.remaining c.args.reader.now) _ c.in_err-begun.ensures.stopped)

pub returns-in_err-begun-clause-cause : goal.returns-in_err-begun-clause-cause
returns-in_err-begun-clause-cause g c =
    let p = err_from_is_err_and c.from_residual.result c.from_residual.ensures.1 in
    rw (p.1, p.2) (λ n is. absurd (past_cause _ n is))

pub returns-clause-week : goal.returns-clause-week
returns-clause-week g c =
    let ran : Resumed (λ (k : NoKeeper). ⊥) c.args.zone.now (arc_value c.args.editions) c.args.past.now = record {
      never = λ k failed. failed;
      by_line = c.one_line.ensures;
      desk = c.in_ok-begun.begun.0;
      held = _;
      begun = c.begin-desk.result;
      now = c.session-ended.new.desk;
      before = _;
      after = _;
      gives = c.in_ok-begun.ensures.replayed.gives_back None;
      is = c.begin-desk.ensures;
      same = c.session-ended.ensures.same_desk;
      placed = c.shard-shard.ensures.in_place;
      lines = c.shard-shard.ensures.kept;
    } in
    week_told ran _ _ _ _ c.args.account c.args.day c.in_ok-done.done c.shard-shard.result.now c.shard-shard.ensures.seen (not_stuck c.is_stuck.result _ c.is_stuck.ensures.value (λ stuck. (c.is_stuck.ensures.cause stuck).1)) c.if-done.false c.monday.ensures.value c.in_ok-lines.ensures c.in_ok-done.ensures.ends

pub returns-in_err-done-clause-fails : goal.returns-in_err-done-clause-fails
returns-in_err-done-clause-fails g c =
    let ran : Resumed (λ (k : NoKeeper). ⊥) c.args.zone.now (arc_value c.args.editions) c.args.past.now = record {
      never = λ k failed. failed;
      by_line = c.one_line.ensures;
      desk = c.in_ok-begun.begun.0;
      held = _;
      begun = c.begin-desk.result;
      now = c.session-ended.new.desk;
      before = _;
      after = _;
      gives = c.in_ok-begun.ensures.replayed.gives_back None;
      is = c.begin-desk.ensures;
      same = c.session-ended.ensures.same_desk;
      placed = c.shard-shard.ensures.in_place;
      lines = c.shard-shard.ensures.kept;
    } in
    let p = err_from_is_err_and c.from_residual-in_err-done.result c.from_residual-in_err-done.ensures.1 in
    rw (p.1, p.2) (week_breaks ran _ _ _ c.in_err-done.ensures.fails)

pub returns-in_err-done-clause-cause : goal.returns-in_err-done-clause-cause
returns-in_err-done-clause-cause g c =
    let p = err_from_is_err_and c.from_residual-in_err-done.result c.from_residual-in_err-done.ensures.1 in
    rw p.1 (λ n read. week_cause g.R.KnownReader.MayAnswer (λ _ _ _. ⊤) _ _ _ _ _ n p.2 c.in_err-done.ensures.cause read)

pub returns-in_err-lines-clause-fails : goal.returns-in_err-lines-clause-fails
returns-in_err-lines-clause-fails g c =
    let ran : Resumed (λ (k : NoKeeper). ⊥) c.args.zone.now (arc_value c.args.editions) c.args.past.now = record {
      never = λ k failed. failed;
      by_line = c.one_line.ensures;
      desk = c.in_ok-begun.begun.0;
      held = _;
      begun = c.begin-desk.result;
      now = c.session-ended.new.desk;
      before = _;
      after = _;
      gives = c.in_ok-begun.ensures.replayed.gives_back None;
      is = c.begin-desk.ensures;
      same = c.session-ended.ensures.same_desk;
      placed = c.shard-shard.ensures.in_place;
      lines = c.shard-shard.ensures.kept;
    } in
    let p = err_from_is_err_and c.from_residual-in_err-lines.result c.from_residual-in_err-lines.ensures.1 in
    rw (p.1, p.2) (week_lacks ran _ _ _ _ c.in_ok-done.done c.in_ok-done.ensures.ends)

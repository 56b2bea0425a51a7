use Rattle.std.proofs.Common.{◌≡◌, ap, ◌∙◌, None, inl, inr, refl, sym}
use Rattle.std.proofs.lemmas.Result.{err_from_is_err_and}
use Rattle.std.specs.Arc.{arc_value}
use Rattle.pay_rules.specs.State.{accepted_of}
use Rattle.pay_run.specs.Words.{Machine, new_machine}
use Rattle.pay_shard.specs.Words.{ShardParts, state_now}
use Rattle.pay_explain_job.proofs.corrections.owed_by_texts.Goals as goal

pub returns-in_err-read-clause-fails : goal.returns-in_err-read-clause-fails
returns-in_err-read-clause-fails c =
    let p = err_from_is_err_and c.from_residual.result c.from_residual.ensures.1 in
    rw (p.1, p.2) (inl c.in_err-read.ensures.fails)

pub returns-in_err-replayed-clause-fails : goal.returns-in_err-replayed-clause-fails
returns-in_err-replayed-clause-fails c =
    let p = err_from_is_err_and c.from_residual-in_err-replayed.result c.from_residual-in_err-replayed.ensures.1 in
    let read = c.in_ok-read.ensures.read in
    rw (p.1, p.2) (inr (new_machine c.in_ok-read.read.zone (arc_value c.in_ok-read.read.editions) None, record { says = read.says; rule = read.rule; new = refl; posted = refl }, c.in_err-replayed.ensures.stopped))

pub returns-clause-owed : goal.returns-clause-owed
returns-clause-owed c =
    let read = c.in_ok-read.ensures.read in
    let editions = arc_value c.in_ok-read.read.editions in
    let machine = new_machine c.in_ok-read.read.zone editions None in
    let replayed = c.in_ok-replayed.ensures.replayed in
    let gives = c.replayed_lines.ensures.accepted c.in_ok-read.read.zone editions _ replayed in
    let same : c.shard.result.now.editions ≡ editions = ap (λ (s : ShardParts). s.editions) c.shard.ensures.value ∙ (ap (λ s. s.origin.0) replayed.stands ∙ replayed.same) in
    record {
      editions = c.shard.result.now.editions;
      accepted = accepted_of (state_now c.shard.result.now) c.args.account;
      by_journals = record {
        machine = machine;
        begins = record { says = read.says; rule = read.rule; new = refl; posted = refl };
        priced = gives.accepted;
        editions = same;
        accepted = ap (λ (s : ShardParts). accepted_of (state_now s) c.args.account) c.shard.ensures.value ∙ ap (λ (m : Machine). accepted_of m.accounts c.args.account) (sym gives.machine);
      };
      is = c.in_ok-owed.ensures;
    }

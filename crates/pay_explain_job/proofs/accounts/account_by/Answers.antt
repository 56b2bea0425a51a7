use Rattle.std.proofs.Common.{rules, ◌≡◌, ap, ◌∙◌, None, inl, inr, refl, sym}
use Rattle.std.proofs.lemmas.Result.{err_from_is_err_and}
use Rattle.std.specs.Arc.{arc_value}
use Rattle.std.specs.Prelude.{map as each, vec_items}
use Rattle.pay_rules.specs.Fixes.{number as fix_number}
use Rattle.pay_rules.specs.SetsParts.{SetsParts}
use Rattle.pay_rules.specs.State.{accepted_of}
use Rattle.pay_rules.specs.Taps.{number as tap_number}
use Rattle.pay_run.specs.Words.{Machine, new_machine}
use Rattle.pay_shard.specs.Words.{ShardParts, state_now}
use Rattle.pay_jobs.specs.Replays.{all_requests}
use Rattle.pay_explain_job.specs.Numbered.{set_of}
use Rattle.pay_explain_job.proofs.Counted.{counted}
use Rattle.pay_explain_job.proofs.accounts.account_by.Goals as goal

pub returns-in_err-read-clause-fails : goal.returns-in_err-read-clause-fails
returns-in_err-read-clause-fails c =
    let p = err_from_is_err_and c.from_residual.result c.from_residual.ensures.1 in
    rw (p.1, p.2) (inl c.in_err-read.ensures.fails)

pub returns-in_err-replayed-clause-fails : goal.returns-in_err-replayed-clause-fails
returns-in_err-replayed-clause-fails c =
    let p = err_from_is_err_and c.from_residual-in_err-replayed.result c.from_residual-in_err-replayed.ensures.1 in
    let read = c.in_ok-read.ensures.read in
    rw (p.1, p.2) (inr (new_machine c.in_ok-read.read.zone (arc_value c.in_ok-read.read.editions) None, record { says = read.says; rule = read.rule; new = refl; posted = refl }, c.in_err-replayed.ensures.stopped))

pub returns-clause-account : goal.returns-clause-account
returns-clause-account c =
    let read = c.in_ok-read.ensures.read in
    let editions = arc_value c.in_ok-read.read.editions in
    let machine = new_machine c.in_ok-read.read.zone editions None in
    let requests = all_requests (each vec_items c.args.texts.now) in
    let gives = c.replayed_lines.ensures.accepted c.in_ok-read.read.zone editions _ c.in_ok-replayed.ensures.replayed in
    let same : arc_value c.in_ok-editions.editions ≡ editions = search rules in
    let accepted = accepted_of (state_now c.shard.result.now) c.args.account in
    let sets = c.in_ok-sets.ensures in
    let taps = c.in_ok-taps.ensures ∙ ap (set_of tap_number) (c.taps.ensures.value ∙ ap (λ (s : SetsParts). s.taps) sets) in
    let fixes = c.in_ok-fixes.ensures ∙ ap (set_of fix_number) (c.fixes.ensures.value ∙ ap (λ (s : SetsParts). s.fixes) sets) in
    let is = c.in_ok-called.ensures in
    record {
      accepted = accepted;
      by_journals = record {
        machine = machine;
        begins = record { says = read.says; rule = read.rule; new = refl; posted = refl };
        priced = gives.accepted;
        editions = same;
        accepted = ap (λ (s : ShardParts). accepted_of (state_now s) c.args.account) c.shard.ensures.value ∙ ap (λ (m : Machine). accepted_of m.accounts c.args.account) (sym gives.machine);
      };
      sets = λ i. record { taps = taps i; fixes = fixes i };
      version = c.version_of.ensures ∙ counted c.args.account accepted _ sets;
      places = is.places;
      operators = is.operators;
      currency = is.currency;
    }

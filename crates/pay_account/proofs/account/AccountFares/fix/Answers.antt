use Rattle.std.proofs.Common.{◌≡◌, true, false, Ok, ap, sym, ◌∙◌}
use Rattle.pay_rules.specs.declared.addition.Addition.{Addition}
use Rattle.pay_rules.specs.declared.addition.Addition.TheVariants.{Added}
use Rattle.pay_rules.specs.Numbers.{set_after}
use Rattle.pay_rules.specs.declared.limits.TheConstants.{MOST_FIXES}
use Rattle.pay_rules.specs.Fixes.{Fixes, number, judged}
use Rattle.pay_rules.specs.Accepted.{Accepted, with_fix}
use Rattle.pay_rules.specs.TapPlaces.{is_known_fix}
use Rattle.pay_rules.specs.FixResults.{prices_named, fix_result}
use Rattle.pay_account.proofs.Own.{fix_is_own}
use Rattle.pay_account.proofs.KnownPlaces.{known_fix}
use Rattle.pay_account.proofs.account.AccountFares.fix.Goals as goal

-- a correction that is added is of the account, as the others are
pub invariant_of-self-in-Added : goal.invariant_of-self-in-Added
invariant_of-self-in-Added c =
    let fix = c.args.fix in
    let fixes = c.self.inside.fixes in
    let judgement : judged fixes fix ≡ Ok Added = c.in_ok-add.ensures.answer ∙ ap Ok c.in-Added.is in
    fix_is_own c.self.inside.number c.self.inside.taps fixes c.add.new.self fix (c.one_more.ensures.among fixes fix) ((c.judgements.ensures.added MOST_FIXES fixes fix).0 judgement).0
    (c.in_ok-add.ensures.after ∙ ap (λ (it : Addition). set_after number (Ok it) fixes fix) c.in-Added.is) (c.requires.own ∙ sym (ap (λ a. a.0) c.self.view_is)) c.self.invariant

pub invariant_of-self-in-Ok : goal.invariant_of-self-in-Ok
invariant_of-self-in-Ok c =
    let fix = c.args.fix in
    let fixes = c.self.inside.fixes in
    let judgement : judged fixes fix ≡ Ok Added = c.in_ok-add.ensures.answer ∙ ap Ok c.in-Added.is in
    fix_is_own c.self.inside.number c.self.inside.taps fixes c.add.new.self fix (c.one_more.ensures.among fixes fix) ((c.judgements.ensures.added MOST_FIXES fixes fix).0 judgement).0
    (c.in_ok-add.ensures.after ∙ ap (λ (it : Addition). set_after number (Ok it) fixes fix) c.in-Added.is) (c.requires.own ∙ sym (ap (λ a. a.0) c.self.view_is)) c.self.invariant

pub returns-in-Ok-clause-answer : goal.returns-in-Ok-clause-answer
returns-in-Ok-clause-answer c =
    let editions = c.args.editions.now in
    let fix = c.args.fix in
    let before : Accepted = record { taps = c.self.inside.taps; fixes = c.self.inside.fixes } in
    let place : is_known_fix editions fix.what ≡ true = sym c.is_known_fix.ensures ∙ c.if-not-is_known_fix.false in
    let judgement : judged before.fixes fix ≡ Ok Added = c.in_ok-add.ensures.answer ∙ ap Ok c.in-Added.is in
    let more : c.add.new.self ≡ (with_fix before fix).fixes = c.in_ok-add.ensures.after ∙ ap (λ (it : Addition). set_after number (Ok it) before.fixes fix) c.in-Added.is in
    ap Ok (c.in-Ok.ensures ∙ ap (λ (fs : Fixes). prices_named editions (record { taps = before.taps; fixes = fs }) false fix.what) more)
    ∙ sym (known_fix editions before fix (Ok Added) place judgement) ∙ ap (λ a. fix_result editions a.1 fix) c.self.view_is

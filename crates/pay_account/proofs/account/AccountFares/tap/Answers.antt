use Rattle.std.proofs.Common.{◌≡◌, true, false, Ok, ap, sym, ◌∙◌}
use Rattle.pay_rules.specs.declared.addition.Addition.{Addition}
use Rattle.pay_rules.specs.declared.addition.Addition.TheVariants.{Added, Repeat}
use Rattle.pay_rules.specs.declared.limits.TheConstants.{MOST_TAPS}
use Rattle.pay_rules.specs.Taps.{Taps, number, judged}
use Rattle.pay_rules.specs.Numbers.{set_after}
use Rattle.pay_rules.specs.Accepted.{Accepted, with_tap}
use Rattle.pay_rules.specs.TapPlaces.{is_known}
use Rattle.pay_rules.specs.Prices.{prices}
use Rattle.pay_rules.specs.TapResults.{tap_result}
use Rattle.pay_account.proofs.Own.{tap_is_own}
use Rattle.pay_account.proofs.KnownPlaces.{known}
use Rattle.pay_account.proofs.account.AccountFares.tap.Goals as goal

-- a tap that is added is of the account, as the others are
pub invariant_of-self-in-Added : goal.invariant_of-self-in-Added
invariant_of-self-in-Added c =
    let tap = c.args.tap in
    let taps = c.self.inside.taps in
    let judgement : judged taps tap ≡ Ok Added = c.in_ok-add.ensures.answer ∙ ap Ok c.in-Added.is in
    tap_is_own c.self.inside.number taps c.add.new.self c.self.inside.fixes tap (c.one_more.ensures.among taps tap) ((c.judgements.ensures.added MOST_TAPS taps tap).0 judgement).0
    (c.in_ok-add.ensures.after ∙ ap (λ (it : Addition). set_after number (Ok it) taps tap) c.in-Added.is) (c.requires.own ∙ sym (ap (λ a. a.0) c.self.view_is)) c.self.invariant

pub invariant_of-self-in-Ok : goal.invariant_of-self-in-Ok
invariant_of-self-in-Ok c =
    let tap = c.args.tap in
    let taps = c.self.inside.taps in
    let judgement : judged taps tap ≡ Ok Added = c.in_ok-add.ensures.answer ∙ ap Ok c.in-Added.is in
    tap_is_own c.self.inside.number taps c.add.new.self c.self.inside.fixes tap (c.one_more.ensures.among taps tap) ((c.judgements.ensures.added MOST_TAPS taps tap).0 judgement).0
    (c.in_ok-add.ensures.after ∙ ap (λ (it : Addition). set_after number (Ok it) taps tap) c.in-Added.is) (c.requires.own ∙ sym (ap (λ a. a.0) c.self.view_is)) c.self.invariant

pub returns-in_ok-price-in-Repeat-clause-answer : goal.returns-in_ok-price-in-Repeat-clause-answer
returns-in_ok-price-in-Repeat-clause-answer c =
    let editions = c.args.editions.now in
    let tap = c.args.tap in
    let before : Accepted = record { taps = c.self.inside.taps; fixes = c.self.inside.fixes } in
    let place : is_known editions tap.place tap.kind ≡ true = sym c.is_known.ensures ∙ c.if-not-is_known.false in
    let judgement : judged before.taps tap ≡ Ok Repeat = c.in_ok-add.ensures.answer ∙ ap Ok c.in-Repeat.is in
    let same : c.add.new.self ≡ before.taps = c.in_ok-add.ensures.after ∙ ap (λ (it : Addition). set_after number (Ok it) before.taps tap) c.in-Repeat.is in
    ap Ok (c.in_ok-price-in-Repeat.ensures ∙ ap (λ (ts : Taps). prices editions (record { taps = ts; fixes = before.fixes }) true c.day.result) same ∙ ap (prices editions before true) c.day.ensures.value)
    ∙ sym (known editions before tap (Ok Repeat) place judgement) ∙ ap (λ a. tap_result editions a.1 tap) c.self.view_is

pub returns-in-Ok-clause-answer : goal.returns-in-Ok-clause-answer
returns-in-Ok-clause-answer c =
    let editions = c.args.editions.now in
    let tap = c.args.tap in
    let before : Accepted = record { taps = c.self.inside.taps; fixes = c.self.inside.fixes } in
    let place : is_known editions tap.place tap.kind ≡ true = sym c.is_known.ensures ∙ c.if-not-is_known.false in
    let judgement : judged before.taps tap ≡ Ok Added = c.in_ok-add.ensures.answer ∙ ap Ok c.in-Added.is in
    let more : c.add.new.self ≡ (with_tap before tap).taps = c.in_ok-add.ensures.after ∙ ap (λ (it : Addition). set_after number (Ok it) before.taps tap) c.in-Added.is in
    ap Ok (c.in-Ok.ensures ∙ ap (λ (ts : Taps). prices editions (record { taps = ts; fixes = before.fixes }) false c.day-in-Added.result) more ∙ ap (prices editions (with_tap before tap) false) c.day-in-Added.ensures.value)
    ∙ sym (known editions before tap (Ok Added) place judgement) ∙ ap (λ a. tap_result editions a.1 tap) c.self.view_is

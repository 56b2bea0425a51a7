use Rattle.std.proofs.Common.{◌∙◌, ap}
use Rattle.pay_numbered.specs.Sound.{addition_at}
use Rattle.pay_rules.specs.TapResults.{tap_result}
use Rattle.pay_book.specs.Books.{BookParts}
use Rattle.pay_book.proofs.Accepting.{tap_again, tap_more}
use Rattle.pay_book.proofs.book.Book.tap.Goals as goal

pub returns-in-None-clause-answer : goal.returns-in-None-clause-answer
returns-in-None-clause-answer c =
    tap_again c.args.editions.now c.self.inside.account.1 c.args.tap (addition_at c.in_ok-judge_tap.field-0) c.prices.result c.day.result c.in_ok-judge_tap.ensures.priced (ap addition_at c.in-None.is) c.prices.ensures c.day.ensures.value
    ∙ ap (λ (b : BookParts). tap_result c.args.editions.now b.accepted c.args.tap) c.self.view_is

pub returns-in_ok-add_tap-in-Some-clause-answer : goal.returns-in_ok-add_tap-in-Some-clause-answer
returns-in_ok-add_tap-in-Some-clause-answer c =
    tap_more c.args.editions.now c.self.inside.account.1 c.add_tap.new.self.accepted c.args.tap (addition_at c.in_ok-judge_tap.field-0) c.prices-in-Some.result c.day-in-Some.result c.in_ok-judge_tap.ensures.priced (ap addition_at c.in-Some.is)
    c.in_ok-add_tap-in-Some.ensures.accepted c.prices-in-Some.ensures c.day-in-Some.ensures.value
    ∙ ap (λ (b : BookParts). tap_result c.args.editions.now b.accepted c.args.tap) c.self.view_is

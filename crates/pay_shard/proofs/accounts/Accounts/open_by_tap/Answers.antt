use Rattle.std.proofs.Common.{◌≡◌, Ok, ap, ◌∙◌}
use Rattle.std.specs.FinMap as map
use Rattle.pay_rules.specs.Accepted.{nothing}
use Rattle.pay_rules.specs.TapResults.{tap_result, after_tap}
use Rattle.pay_rules.specs.declared.fares.TapFault.{TapFault}
use Rattle.pay_shard.specs.State.{is_new, after_tap_of}
use Rattle.pay_rules.specs.State.{accepted_of}
use Rattle.pay_shard.proofs.FirstOnes.{first_tap_is_new}
use Rattle.pay_shard.proofs.Places.{nothing_there, kept_new}
use Rattle.pay_shard.proofs.accounts.Accounts.open_by_tap.Goals as goal

pub returns-clause-after : goal.returns-clause-after
returns-clause-after g c =
    let tap = c.args.tap in
    let now = c.args.self.now.state in
    let priced = c.in_ok-priced.priced in
    let account = c.tap.new.self in
    let none : nothing ≡ accepted_of now tap.account = nothing_there now tap.account c.requires.absent in
    let first = first_tap_is_new c.deref.result.now tap priced (c.in_ok-priced.ensures.answer ∙ ap (λ a. tap_result c.deref.result.now a tap) c.new-account.ensures.nothing) in
    let number : g.F.Fares.account account ≡ tap.account = c.in_ok-priced.ensures.same_account ∙ c.new-account.ensures.numbered in
    let state : map.insert now (g.F.Fares.account account) (g.F.Fares.accepted account) ≡ after_tap_of (Ok priced) now tap =
    ap (λ n. map.insert now n (g.F.Fares.accepted account)) number
    ∙ kept_new (is_new {E = TapFault} (Ok priced)) now tap.account (g.F.Fares.accepted account) (after_tap (Ok priced) (accepted_of now tap.account) tap) first
    (c.in_ok-priced.ensures.after ∙ ap (λ a. after_tap (Ok priced) a tap) (c.new-account.ensures.nothing ∙ none)) in
    c.in_ok-keep.ensures.kept ∙ (λ i. record { editions = c.args.self.now.editions; state = state i })

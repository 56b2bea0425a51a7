use Rattle.std.proofs.Common.{◌≡◌, Ok, ap, ◌∙◌}
use Rattle.std.specs.FinMap as map
use Rattle.pay_rules.specs.Accepted.{nothing}
use Rattle.pay_rules.specs.FixResults.{fix_result, after_fix}
use Rattle.pay_rules.specs.declared.fares.FixFault.{FixFault}
use Rattle.pay_shard.specs.State.{is_new, after_fix_of}
use Rattle.pay_rules.specs.State.{accepted_of}
use Rattle.pay_shard.proofs.FirstOnes.{first_fix_is_new}
use Rattle.pay_shard.proofs.Places.{nothing_there, kept_new}
use Rattle.pay_shard.proofs.accounts.Accounts.open_by_fix.Goals as goal

pub returns-clause-after : goal.returns-clause-after
returns-clause-after g c =
    let fix = c.args.fix in
    let now = c.args.self.now.state in
    let priced = c.in_ok-priced.priced in
    let account = c.fix.new.self in
    let none : nothing ≡ accepted_of now fix.account = nothing_there now fix.account c.requires.absent in
    let first = first_fix_is_new c.deref.result.now fix priced (c.in_ok-priced.ensures.answer ∙ ap (λ a. fix_result c.deref.result.now a fix) c.new-account.ensures.nothing) in
    let number : g.F.Fares.account account ≡ fix.account = c.in_ok-priced.ensures.same_account ∙ c.new-account.ensures.numbered in
    let state : map.insert now (g.F.Fares.account account) (g.F.Fares.accepted account) ≡ after_fix_of (Ok priced) now fix =
    ap (λ n. map.insert now n (g.F.Fares.accepted account)) number
    ∙ kept_new (is_new {E = FixFault} (Ok priced)) now fix.account (g.F.Fares.accepted account) (after_fix (Ok priced) (accepted_of now fix.account) fix) first
    (c.in_ok-priced.ensures.after ∙ ap (λ a. after_fix (Ok priced) a fix) (c.new-account.ensures.nothing ∙ none)) in
    c.in_ok-keep.ensures.kept ∙ (λ i. record { editions = c.args.self.now.editions; state = state i })

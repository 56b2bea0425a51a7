use Rattle.std.proofs.Common.{rules, ℕ, List, [], ◌∷◌, ◌++◌, get_or, take, refl, sym, subst}
use Rattle.std.proofs.lemmas.List.{take_more}
use Rattle.pay_settle.specs.Standing.{AreHomesOf}
use Rattle.pay_settle.specs.Refused.{IsWhyShared}
use Rattle.pay_settle.proofs.Adding.{by_fault}
use Rattle.pay_settle.proofs.Standing.{none_yet, one_more, stands_twice}
use Rattle.pay_settle.proofs.homes.Homes.add.Goals as goal

pub loop-account-init : goal.loop-account-init
loop-account-init c ledgers last are = none_yet ledgers c.args.self.now are

pub returns-in_err-put-clause-refused : goal.returns-in_err-put-clause-refused
returns-in_err-put-clause-refused c ledgers last are =
    let accounts = c.args.accounts.now in
    let k = c.loop-account.account-index in
    by_fault c.from_residual.result (IsWhyShared (ledgers ++ accounts ∷ [])) c.in_err-put.field-0.0 (search rules)
    (stands_twice ledgers (take k accounts) accounts k (get_or accounts k 0) c.args.place c.loop-account.self c.in_err-put.field-0.0 last (c.loop-account.invariant ledgers last are) c.loop-account-test.true refl c.in_err-put.ensures.refused)

pub loop-account-preserved : goal.loop-account-preserved
loop-account-preserved c ledgers last are =
    let accounts = c.args.accounts.now in
    let k = c.loop-account.account-index in
    subst (λ (l : List ℕ). AreHomesOf (ledgers ++ l ∷ []) c.put.new.self) (sym (take_more accounts k 0 c.loop-account-test.true))
    (one_more ledgers (take k accounts) (get_or accounts k 0) c.args.place c.loop-account.self c.put.new.self last (c.loop-account.invariant ledgers last are) c.in_ok-put.ensures.alone c.in_ok-put.ensures.put)

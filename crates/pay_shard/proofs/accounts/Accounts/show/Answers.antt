use Rattle.std.proofs.Common.{◌≡◌, ℕ, ap, sym, ◌∙◌, unwrap_or}
use Rattle.std.proofs.lemmas.Result.{IfOk-weaker}
use Rattle.pay_tables.specs.Words.{FareEditions}
use Rattle.pay_rules.specs.Accepted.{Accepted, nothing}
use Rattle.pay_rules.specs.Lines.{shown}
use Rattle.pay_rules.specs.declared.shown.Shown.{Shown}
use Rattle.pay_shard.specs.Held.{Held}
use Rattle.pay_shard.proofs.Places.{nothing_there}
use Rattle.pay_shard.proofs.accounts.Accounts.show.Goals as goal

-- of the same account by the same fare file
same_account : (t u : FareEditions) (a b : ℕ) (x y : Accepted) (day : ℕ) (it : Shown) → t ≡ u → a ≡ b → x ≡ y → it ≡ shown t a x day → it ≡ shown u b y day
same_account t u a b x y day it o p q e = e ∙ (λ i. shown (o i) (p i) (q i) day)

pub returns-in-Some : goal.returns-in-Some
returns-in-Some g c =
    let held = c.in-Some.held.now in
    let editions = c.deref.ensures ∙ ap (λ (h : Held). h.editions) c.self.view_is in
    let accepted = sym (ap (λ o. unwrap_or o nothing) c.in-Some.ensures.some) in
    IfOk-weaker c.show.result _ _ (λ it. same_account c.deref.result.now c.args.self.now.editions (g.F.Fares.account held) c.args.account (g.F.Fares.accepted held) _ c.args.day it editions c.in-Some.ensures.own accepted) c.show.ensures

pub returns-in-None : goal.returns-in-None
returns-in-None g c =
    let new = c.new.result in
    let editions = c.deref-in-None.ensures ∙ ap (λ (h : Held). h.editions) c.self.view_is in
    let accepted = c.new.ensures.nothing ∙ nothing_there c.args.self.now.state c.args.account c.in-None.ensures.none in
    IfOk-weaker c.show-in-None.result _ _ (λ it. same_account c.deref-in-None.result.now c.args.self.now.editions (g.F.Fares.account new) c.args.account (g.F.Fares.accepted new) _ c.args.day it editions c.new.ensures.numbered accepted) c.show-in-None.ensures

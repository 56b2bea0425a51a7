use Rattle.std.proofs.Common.{map as each, ap, sym, ◌∙◌, ◌++◌, ◌∷◌, [], length, subst}
use Rattle.pay_shard.specs.Held.{Held, ArePlaces, state_of}
use Rattle.pay_rules.specs.State.{ArePriced}
use Rattle.pay_shard.proofs.Places.{opened, opens, all_more}
use Rattle.pay_shard.proofs.accounts.Accounts.keep.Goals as goal

pub invariant_of-self-2 : goal.invariant_of-self-2
invariant_of-self-2 g c =
    let before = c.self.inside.accounts.items in
    let same = sym (c.push_reserved.ensures.items ∙ ap (λ l. l ++ c.args.account ∷ []) c.reserve.ensures.items) in (
      subst (λ l. ArePlaces c.insert.new.self.entries (each g.F.Fares.account l)) same
          (opened g.F.Fares.account g.F.Fares.accepted before c.self.inside.places.entries c.insert.new.self.entries c.number.result c.len.result c.args.self.now.state c.args.account
          (ap (λ (h : Held). h.state) c.self.view_is) c.self.invariant.0 c.requires.absent c.number.ensures (c.len.ensures ∙ c.reserve.new.self.ok.0 ∙ ap length c.reserve.ensures.items) c.in_ok-insert.ensures.updates.0),
      subst (ArePriced g.F.Fares.account (g.F.Fares.IsPricedBy _)) same (all_more _ before c.args.account c.self.invariant.1 (c.requires.numbered, subst (λ t. g.F.Fares.IsPricedBy t c.args.account) (sym (ap (λ (h : Held). h.editions) c.self.view_is)) c.requires.priced_by)),
    )

pub returns-clause-kept : goal.returns-clause-kept
returns-clause-kept g c =
    let same = c.push_reserved.ensures.items ∙ ap (λ l. l ++ c.args.account ∷ []) c.reserve.ensures.items in
    let state = opens g.F.Fares.account g.F.Fares.accepted c.self.inside.accounts.items c.args.self.now.state c.args.account (ap (λ (h : Held). h.state) c.self.view_is) c.requires.absent in
    λ i. record {
      editions = (c.self.view_is i).editions;
      state = (ap (state_of g.F.Fares.account g.F.Fares.accepted) same ∙ state) i;
    }

use Rattle.std.proofs.Common.{◌≡◌, ℕ, List, fold, map as each, ap, ◌∙◌, subst}
use Rattle.std.specs.FinMap as finite
use Rattle.pay_rules.specs.State.{State, accepted_of}
use Rattle.pay_shard.specs.BatchParts.{batch_with}
use Rattle.pay_shard.specs.Held.{Held}
use Rattle.pay_shard.proofs.Batches.{all_quoted}
use Rattle.pay_shard.proofs.Places.{entries_by_number}
use Rattle.pay_shard.proofs.accounts.Accounts.quotes.Goals as goal

-- the entries of a state by their numbers
abbrev AreBy : List ℕ → State → Type 0
AreBy numbers state = finite.entries state ≡ each (λ n. (n, accepted_of state n)) numbers

pub loop-account-init : goal.loop-account-init
loop-account-init g c =
    let now = c.args.self.now in
    let numbers = c.in_ok-numbers.numbers.items in
    let entries : AreBy numbers now.state =
    subst (AreBy numbers) (ap (λ (h : Held). h.state) c.self.view_is)
    (entries_by_number g.F.Fares.account g.F.Fares.accepted c.self.inside.accounts.items c.self.inside.places.entries numbers c.self.invariant.0 c.in_ok-numbers.ensures) in
    (λ i. fold (batch_with now.editions now.state (c.args.through, c.args.shard, c.args.of)) (c.new-batch.ensures i) (c.deref-account-items.ensures.value i))
    ∙ all_quoted now.editions now.state c.args.through c.args.shard c.args.of numbers entries

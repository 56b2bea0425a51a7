-- A service that goes on after another one.
use Rattle.std.specs.Prelude.{◌≡◌, ◌%◌, ℕ, Bool, List, map, length, Option}
use Rattle.std.specs.FinMap.{empty}
use Rattle.std.specs.FinMap as finite
use Rattle.pay_rules.specs.Accepted.{Accepted}
use Rattle.pay_tables.specs.Words.{FareEditions}
use Rattle.pay_shard.specs.Words.{replay, items_of, all_items, asked_by, AreUnmarked, AreAskedOf}
use Rattle.pay_shard.specs.declared.asked.Asked.{Asked}
use Rattle.pay_shard.specs.declared.item.Item.{Item}
use Rattle.pay_lanes.specs.Words.{Passed}
use Rattle.pay_office.specs.Words.{commands_sent}
use Rattle.pay_serve.specs.Closes.{Terms}
use Rattle.pay_serve.specs.KeepingGates.{GateParts}
use Rattle.pay_journal_laws.specs.Services.{IsLeft, TakesUp}

-- what an account is in its shard, of so many that were asked a merge of journals from no accounts on
abbrev pub account_in : FareEditions → ℕ → List (ℕ × Item) → ℕ → Option Accepted
account_in fares of merged account = finite.get (replay fares empty (items_of (account % of) merged)) account

-- The items, each beside the shard of its account, by which a service takes its texts again: they ask for what its first lane did, in its
-- order.
pub record AreTakenUp {Holds : GateParts → List Passed → Bool → Type 0} {terms : Terms} (next : IsLeft Holds terms) (taken : List (ℕ × Item)) : Type 0 where
  pub asked : AreAskedOf (length next.office) taken
  pub unmarked : AreUnmarked (all_items taken)
  pub all : asked_by (all_items taken) ≡ map (λ (t : ℕ × Asked). t.1) (commands_sent next.last)

-- A service that takes up what another one has left, by the same fare file and in the same zone, and over however many shards, begins with
-- the accounts with which that one ended: each is in its shard what it was in its shard there.
abbrev pub ServiceGoesOn : (GateParts → List Passed → Bool → Type 0) → Type 0
ServiceGoesOn Holds = (before terms : Terms) (left : IsLeft Holds before) (next : IsLeft Holds terms) (merged taken : List (ℕ × Item))
    → TakesUp left merged terms.texts → (terms.fares ≡ before.fares) × (terms.zone ≡ before.zone) → AreTakenUp next taken
    → (account : ℕ) → account_in terms.fares (length next.office) taken account ≡ account_in before.fares (length left.office) merged account

-- An account that no command of a journal is of has what it had.
use Rattle.std.proofs.Common.{◌≡◌, ℕ, inl, inr, Bool, true, false, cond, List, [], ◌∷◌, ◌++◌, Option, Some, unwrap_or, Result, Ok, Err, refl, sym, ap, ◌∙◌}
use Rattle.std.specs.Cmp.{nat_cmp_total}
use Rattle.std.specs.FinMap as map
use Rattle.std.specs.FinMap.{get-insert}
use Rattle.std.specs.Ordering.{nat_cmp, eq_by_cmp}
use Rattle.pay_tables.specs.Words.{FareEditions}
use Rattle.pay_rules.specs.InTurn.{IsIn}
use Rattle.pay_rules.specs.declared.tap.Tap.{Tap}
use Rattle.pay_rules.specs.declared.fix.Fix.{Fix}
use Rattle.pay_rules.specs.declared.priced.Priced.{Priced}
use Rattle.pay_rules.specs.declared.fares.TapFault.{TapFault}
use Rattle.pay_rules.specs.declared.fares.FixFault.{FixFault}
use Rattle.pay_rules.specs.Accepted.{Accepted, nothing}
use Rattle.pay_rules.specs.TapResults.{tap_result}
use Rattle.pay_rules.specs.FixResults.{fix_result}
use Rattle.pay_rules.specs.State.{State, accepted_of}
use Rattle.pay_shard.specs.State.{kept}
use Rattle.pay_shard.specs.Machine.{step, marked_step, item_step, step_tap_result, step_fix_result}
use Rattle.pay_shard.specs.Runs.{replay}
use Rattle.pay_shard.specs.declared.asked.Asked.{Asked}
use Rattle.pay_shard.specs.declared.asked.Asked.TheVariants as asked
use Rattle.pay_shard.specs.declared.item.Item.{Item}
use Rattle.pay_shard.proofs.Places.{one_number}
use Rattle.pay_kept.specs.Alike.{account_of, asked_of}

module _ (editions : FareEditions) (q : ℕ) where
  -- what is kept of one account is not kept of another
  kept_of_other : (new : Bool) (state : State) (account : ℕ) (accepted : Accepted) → (account ≡ q → ⊥) → map.get (kept new state account accepted) q ≡ map.get state q
  kept_of_other false state account accepted other = refl
  kept_of_other true state account accepted other = get-insert nat_cmp_total state account accepted q ∙ by (eq_by_cmp nat_cmp q account) refl
    where
      by : (b : Bool) → eq_by_cmp nat_cmp q account ≡ b → cond b (Some accepted) (map.get state q) ≡ map.get state q
      by true same = absurd (other (sym (one_number q account same)))
      by false same = refl

  by_tap : (state : State) (tap : Tap) (r : Result Priced TapFault) → (tap.account ≡ q → ⊥) → map.get (step_tap_result state tap r).after q ≡ map.get state q
  by_tap state tap (Ok priced) other = kept_of_other _ state tap.account _ other
  by_tap state tap (Err fault) other = refl

  by_fix : (state : State) (fix : Fix) (r : Result Priced FixFault) → (fix.account ≡ q → ⊥) → map.get (step_fix_result state fix r).after q ≡ map.get state q
  by_fix state fix (Ok priced) other = kept_of_other _ state fix.account _ other
  by_fix state fix (Err fault) other = refl

  by_step : (state : State) (a : Asked) → (IsIn (account_of a) q → ⊥) → map.get (step editions state a).after q ≡ map.get state q
  by_step state (asked.Tap tap) other = by_tap state tap (tap_result editions (accepted_of state tap.account) tap) (λ same. other (inl same))
  by_step state (asked.Fix fix) other = by_fix state fix (fix_result editions (accepted_of state fix.account) fix) (λ same. other (inl same))
  by_step state (asked.Due account day) other = refl
  by_step state (asked.Show account day) other = refl
  by_step state (asked.Quotes day shard of) other = refl

  by_marked : (state : State) (refused : Bool) (a : Asked) → (IsIn (account_of a) q → ⊥) → map.get (marked_step refused editions state a).after q ≡ map.get state q
  by_marked state true a other = refl
  by_marked state false a other = by_step state a other

  in_first : (xs ys : List ℕ) → IsIn xs q → IsIn (xs ++ ys) q
  in_first [] ys h = absurd h
  in_first (x ∷ xs) ys (inl is) = inl is
  in_first (x ∷ xs) ys (inr later) = inr (in_first xs ys later)

  in_second : (xs ys : List ℕ) → IsIn ys q → IsIn (xs ++ ys) q
  in_second [] ys h = h
  in_second (x ∷ xs) ys h = inr (in_second xs ys h)

  by_items : (state : State) (items : List Item) → (IsIn (asked_of items) q → ⊥) → map.get (replay editions state items) q ≡ map.get state q
  by_items state [] other = refl
  by_items state (item ∷ items) other =
      by_items (item_step editions state item).after items (λ h. other (in_second (account_of item.entry.command) (asked_of items) h))
      ∙ by_marked state item.refused_memory item.entry.command (λ h. other (in_first (account_of item.entry.command) (asked_of items) h))

  pub as_before : (state : State) (items : List Item) → (IsIn (asked_of items) q → ⊥) → accepted_of (replay editions state items) q ≡ accepted_of state q
  as_before state items other = ap (λ (o : Option Accepted). unwrap_or o nothing) (by_items state items other)

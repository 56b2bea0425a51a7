-- What follows for the accounts where no effective tap is outside of what two fare files agree on, and what one that is outside shows.
use Rattle.std.proofs.Common.{◌≡◌, ℕ, inl, inr, ◌≤◌, ◌<◌, nat_le, Bool, true, false, List, [], ◌∷◌, filter, Option, Some, None, IfSome, refl, subst, arith}
use Rattle.std.specs.List.{AllByRecursion}
use Rattle.std.proofs.lemmas.Bool.Decides.{nat_tests}
use Rattle.pay_day.specs.declared.limits.TheConstants.{FIRST_DAY, LAST_DAY}
use Rattle.pay_tables.specs.Words.{FareEditions}
use Rattle.pay_rules.specs.InTurn.{IsIn}
use Rattle.pay_rules.specs.declared.tap.Touch.{Touch}
use Rattle.pay_rules.specs.Accepted.{Accepted, touches}
use Rattle.pay_rules.specs.Journeys.{is_bus, is_rail}
use Rattle.pay_rules.specs.State.{accepted_of}
use Rattle.pay_shard.specs.Words.{ShardParts, state_now}
use Rattle.pay_compare.specs.Words.{AgreeThrough}
use Rattle.pay_compare.specs.Laws.{IsTouchWithin, AreTouchesWithin, ComesToTheSame}
use Rattle.pay_compare.specs.declared.difference.Difference.{Difference}
use Rattle.pay_kept.specs.Alike.{asked_of, IsPricedAlike, AreAlike, AreWithin, IsLastAlike, IsOutsideOf}
use Rattle.pay_kept.proofs.Lists.{all_parts, in_filtered, of_one}
use Rattle.pay_kept.proofs.OnlyAsked.{as_before}

-- ---- one account, by the taps that a book has of each kind

module _ (old : FareEditions) (last : ℕ) (accepted : Accepted) (rail buses : List Touch) (of_rail : rail ≡ filter is_rail (touches accepted)) (of_buses : buses ≡ filter is_bus (touches accepted)) where
  pub none_outside : AllByRecursion (IsTouchWithin old last) rail → AllByRecursion (IsTouchWithin old last) buses → AreTouchesWithin old last accepted
  none_outside by_rail on_buses =
      all_parts (IsTouchWithin old last) is_bus (touches accepted) (subst (AllByRecursion (IsTouchWithin old last)) of_rail by_rail) (subst (AllByRecursion (IsTouchWithin old last)) of_buses on_buses)

  pub outside_by_rail : (touch : Touch) → IsIn rail touch × ¬ IsTouchWithin old last touch → IsOutsideOf old last accepted touch
  outside_by_rail touch it = (in_filtered is_rail (touches accepted) touch (subst (λ l. IsIn l touch) of_rail it.0), it.1)

  pub outside_on_buses : (touch : Touch) → IsIn buses touch × ¬ IsTouchWithin old last touch → IsOutsideOf old last accepted touch
  outside_on_buses touch it = (in_filtered is_bus (touches accepted) touch (subst (λ l. IsIn l touch) of_buses it.0), it.1)

-- ---- all accounts

no_touches : (old : FareEditions) (last : ℕ) (list : List Touch) → last < FIRST_DAY → AllByRecursion (IsTouchWithin old last) list → list ≡ []
no_touches old last [] below all = refl
no_touches old last (touch ∷ list) below all = let from = all.0.0 in let to = all.0.1 in absurd (omega (arith, below, from, to))

-- the day before a difference, or the last one
is_within_days : (first : Option Difference) (last : ℕ) → IsLastAlike first last → IfSome first (λ d. (FIRST_DAY ≤ d.day) × (d.day ≤ LAST_DAY)) → (last ≤ LAST_DAY) × IfSome first (λ d. last < d.day)
is_within_days None last is range = (omega (arith, is), tt)
is_within_days (Some d) last is range = let to = range.1 in (omega (arith, is, to), omega (arith, is))

module _ (shard : ShardParts) (old new : FareEditions) (same : new ≡ shard.editions) (first : Option Difference) (last : ℕ) (is : IsLastAlike first last) (range : IfSome first (λ d. (FIRST_DAY ≤ d.day) × (d.day ≤ LAST_DAY)))
    (agree : (last : ℕ) → FIRST_DAY ≤ last → last ≤ LAST_DAY → IfSome first (λ d. last < d.day) → AgreeThrough new old last)
    (law : (last : ℕ) (accepted : Accepted) → AgreeThrough new old last → AreTouchesWithin old last accepted → ComesToTheSame new old accepted) where
  priced_alike : (accepted : Accepted) → AreTouchesWithin old last accepted → IsPricedAlike new old accepted
  priced_alike accepted within = by (nat_le FIRST_DAY last) refl
    where
      days : (last ≤ LAST_DAY) × IfSome first (λ d. last < d.day)
      days = is_within_days first last is range

      by : (b : Bool) → nat_le FIRST_DAY last ≡ b → IsPricedAlike new old accepted
      by true from = inr (law last accepted (agree last (grind (arith, nat_tests)) days.0 days.1) within)
      by false before = inl (no_touches old last (touches accepted) (grind (arith, nat_tests)) within)

  pub all_alike : AreWithin shard old last → AreAlike shard old
  all_alike within account = elim (of_one (λ q. AreTouchesWithin old last (accepted_of (state_now shard) q)) account (asked_of shard.journal) within) [
    | inl so ↦ inr (subst (λ e. IsPricedAlike e old (accepted_of (state_now shard) account)) same (priced_alike (accepted_of (state_now shard) account) so))
    | inr other ↦ inl (as_before shard.editions account shard.base shard.journal other)
  ]

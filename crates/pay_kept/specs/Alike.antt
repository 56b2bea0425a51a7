-- When the accounts of a shard come to the same by an old fare file.
use Rattle.std.specs.Prelude.{◌≡◌, ◌⊎◌, ◌≤◌, ℕ, ◌+◌, List, [], ◌∷◌, Option, None, Some}
use Rattle.std.specs.List.{AllByRecursion, flat_map}
use Rattle.pay_day.specs.declared.limits.TheConstants.{LAST_DAY}
use Rattle.pay_tables.specs.Words.{FareEditions}
use Rattle.pay_rules.specs.InTurn.{IsIn}
use Rattle.pay_rules.specs.declared.tap.Touch.{Touch}
use Rattle.pay_rules.specs.Accepted.{Accepted, touches}
use Rattle.pay_rules.specs.State.{accepted_of}
use Rattle.pay_compare.specs.Words.{IsDifference, IsKnownPlace}
use Rattle.pay_compare.specs.Laws.{IsTouchWithin, AreTouchesWithin, ComesToTheSame}
use Rattle.pay_compare.specs.declared.difference.Difference.{Difference}
use Rattle.pay_compare.specs.declared.key.Key.TheVariants.{Place}
use Rattle.pay_shard.specs.declared.asked.Asked.{Asked}
use Rattle.pay_shard.specs.declared.asked.Asked.TheVariants as asked
use Rattle.pay_shard.specs.declared.item.Item.{Item}
use Rattle.pay_shard.specs.Words.{ShardParts, state_now}

-- the account that a command is of; what asks for quotes is of none
abbrev pub account_of : Asked → List ℕ
account_of (asked.Tap tap) = tap.account ∷ []
account_of (asked.Fix fix) = fix.account ∷ []
account_of (asked.Due account day) = account ∷ []
account_of (asked.Show account day) = account ∷ []
account_of (asked.Quotes day shard of) = []

-- those of a journal
abbrev pub asked_of : List Item → List ℕ
asked_of = flat_map (λ (i : Item). account_of i.entry.command)

-- an account has no effective taps, or comes to the same by a fare file as by an old one
abbrev pub IsPricedAlike : FareEditions → FareEditions → Accepted → Type 0
IsPricedAlike new old accepted = (touches accepted ≡ []) ⊎ ComesToTheSame new old accepted

-- each account of a shard has what it began with, or is priced alike by the shard's fare file and by an old one
abbrev pub AreAlike : ShardParts → FareEditions → Type 0
AreAlike shard old =
    (account : ℕ) → (accepted_of (state_now shard) account ≡ accepted_of shard.base account) ⊎ IsPricedAlike shard.editions old (accepted_of (state_now shard) account)

-- An effective tap shows that an old fare file is another: it is of the day of a difference or a later one, or at a place that the old one does not have.
abbrev pub IsTouched : FareEditions → FareEditions → Difference → Touch → Type 0
IsTouched new old d touch =
    (IsDifference new old d.day d.key × (d.day ≤ touch.stamp.day))
    ⊎ ((d.key ≡ Place touch.place) × (d.day ≡ touch.stamp.day) × ¬ IsKnownPlace old.own touch.place)

-- an account of a shard has one of a day that does
abbrev pub AreTouched : ShardParts → FareEditions → Difference → (account on : ℕ) → Type 0
AreTouched shard old d account on =
    (touch : Touch) × IsIn (touches (accepted_of (state_now shard) account)) touch × (touch.stamp.day ≡ on) × IsTouched shard.editions old d touch

-- ---- how it is looked for

-- an effective tap of an account is not of a day up to one, at a place of the old fare file
abbrev pub IsOutsideOf : FareEditions → ℕ → Accepted → Touch → Type 0
IsOutsideOf old last accepted touch = IsIn (touches accepted) touch × ¬ IsTouchWithin old last touch

-- each account that the journal is of has none
abbrev pub AreWithin : ShardParts → FareEditions → ℕ → Type 0
AreWithin shard old last = AllByRecursion (λ account. AreTouchesWithin old last (accepted_of (state_now shard) account)) (asked_of shard.journal)

-- the day before a difference, or the last day
abbrev pub IsLastAlike : Option Difference → ℕ → Type 0
IsLastAlike None last = last ≡ LAST_DAY
IsLastAlike (Some d) last = last + 1 ≡ d.day

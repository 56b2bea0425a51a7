-- Files that differ on a day do not agree through it.
use Rattle.std.proofs.Common.{◌≡◌, ℕ, ◌≤◌, inl, inr, ap, arith}
use Rattle.pay_day.specs.declared.limits.TheConstants.{FIRST_DAY}
use Rattle.pay_tables.specs.declared.rules.Rules.{Rules}
use Rattle.pay_tables.specs.Words.{FareEditions, FareTables, on}
use Rattle.pay_compare.specs.declared.key.Key.{Key}
use Rattle.pay_compare.specs.declared.key.Key.TheVariants as key
use Rattle.pay_compare.specs.Agreement.{AgreeThrough, KeepsNetwork, PriceAlike}
use Rattle.pay_compare.specs.Differences.{DayDiffers, IsDifference, NetworkDiffers, RulesDiffer}

network : (new old : FareTables) (it : Key) → NetworkDiffers new old it → KeepsNetwork new old → ⊥
network new old key.Zones differs keeps = omega (arith, differs, keeps.zones)
network new old key.Hopper differs keeps = differs keeps.hopper
network new old (key.Place number) differs keeps = differs.1 (keeps.places number differs.0)
network new old (key.Interchange a b) differs keeps = differs.2 (keeps.interchanges a b differs.0 differs.1)
network new old (key.Minutes zones) differs keeps = differs
network new old key.Bus differs keeps = differs
network new old key.Maximum differs keeps = differs
network new old key.SameFree differs keeps = differs
network new old key.SameLimit differs keeps = differs
network new old (key.Single span) differs keeps = differs
network new old key.Band differs keeps = differs
network new old key.Holidays differs keeps = differs

rules : (new old : Rules) (it : Key) → RulesDiffer new old it → new ≡ old → ⊥
rules new old key.Bus differs same = differs (ap (λ (r : Rules). r.bus) same)
rules new old key.Maximum differs same = differs (ap (λ (r : Rules). r.maximum) same)
rules new old key.Hopper differs same = differs
rules new old key.SameFree differs same = differs (ap (λ (r : Rules). r.same_free) same)
rules new old key.SameLimit differs same = differs (ap (λ (r : Rules). r.same_limit) same)
rules new old key.Zones differs same = differs
rules new old (key.Minutes zones) differs same = differs
rules new old (key.Single span) differs same = differs
rules new old key.Band differs same = differs
rules new old key.Holidays differs same = differs
rules new old (key.Place number) differs same = differs
rules new old (key.Interchange a b) differs same = differs

of_day : (new old : FareTables) (day : ℕ) (it : Key) → DayDiffers new old day it → PriceAlike new old day → ⊥
of_day new old day (key.Minutes zones) differs alike = differs.2 (alike.minutes (record { from = 1; to = zones }) (record { from = omega arith; to = (differs.0, differs.1) }))
of_day new old day (key.Single span) differs alike = differs.1.1 (alike.singles span differs.1.0 differs.0)
of_day new old day key.Band differs alike = differs alike.bands
of_day new old day key.Holidays differs alike = differs alike.holiday
of_day new old day key.Bus differs alike = rules new.rules old.rules key.Bus differs alike.rules
of_day new old day key.Maximum differs alike = rules new.rules old.rules key.Maximum differs alike.rules
of_day new old day key.Hopper differs alike = rules new.rules old.rules key.Hopper differs alike.rules
of_day new old day key.SameFree differs alike = rules new.rules old.rules key.SameFree differs alike.rules
of_day new old day key.SameLimit differs alike = rules new.rules old.rules key.SameLimit differs alike.rules
of_day new old day key.Zones differs alike = rules new.rules old.rules key.Zones differs alike.rules
of_day new old day (key.Place number) differs alike = rules new.rules old.rules (key.Place number) differs alike.rules
of_day new old day (key.Interchange a b) differs alike = rules new.rules old.rules (key.Interchange a b) differs alike.rules

pub none_agree : (new old : FareEditions) (day : ℕ) (it : Key) → FIRST_DAY ≤ day → IsDifference new old day it → AgreeThrough new old day → ⊥
none_agree new old day it from (inl differs) agree = network new.own old.own it differs agree.network
none_agree new old day it from (inr (keeps, differs)) agree = of_day (on new day) (on old day) day it differs (agree.days day from (omega arith))

-- Which accounts are quoted.
use Rattle.std.specs.Prelude.{◌≡◌, ℕ, nat_le, ◌%◌, ◌==◌, ◌&&◌, ◌||◌, Bool, true, false, List, filter, refl}
use Rattle.std.specs.FinMap as map
use Rattle.std.specs.List.{list_any}
use Rattle.pay_day.specs.Words.{monday}
use Rattle.pay_rules.specs.declared.tap.Tap.{Tap}
use Rattle.pay_rules.specs.declared.fix.Fix.{Fix}
use Rattle.pay_rules.specs.declared.fix.What.{What}
use Rattle.pay_rules.specs.declared.fix.What.TheVariants as what
use Rattle.pay_rules.specs.Accepted.{Accepted}
use Rattle.pay_rules.specs.SetsParts.{SetsParts, sets}
use Rattle.pay_rules.specs.State.{State}

abbrev pub is_between : ℕ → ℕ → ℕ → Bool
is_between from through day = nat_le from day && nat_le day through

abbrev pub is_tap_between : ℕ → ℕ → Tap → Bool
is_tap_between from through tap = is_between from through tap.stamp.day

-- whether a correction is a Fill that adds a tap on one of these days
abbrev pub is_what_between : ℕ → ℕ → What → Bool
is_what_between from through (what.Fill stamp place kind) = is_between from through stamp.day
is_what_between from through _ = false

abbrev pub is_fill_between : ℕ → ℕ → Fix → Bool
is_fill_between from through fix = is_what_between from through fix.what

-- an accepted tap or an accepted Fill on a day of the week through that day: voided, dropped or not
abbrev pub is_quoted : ℕ → SetsParts → Bool
is_quoted through s = list_any (is_tap_between (monday through) through) s.taps || list_any (is_fill_between (monday through) through) s.fixes

-- the accounts that are a shard's
abbrev pub is_of : ℕ → ℕ → ℕ → Bool
is_of shard of account = account % of == shard

-- the accounts of a shard that are quoted, in ascending order, with what they have accepted
abbrev pub quoted : State → ℕ → ℕ → ℕ → List (ℕ × Accepted)
quoted state through shard of = filter (λ e. is_of shard of e.0 && is_quoted through (sets e.0 e.1)) (map.entries state)

-- Monday through Thursday 2024-01-11: the Sunday before is not of that week, and the Friday comes after
sunday_before : is_between (monday 19_733) 19_733 19_729 ≡ false
sunday_before = refl

that_monday : is_between (monday 19_733) 19_733 19_730 ≡ true
that_monday = refl

friday_after : is_between (monday 19_733) 19_733 19_734 ≡ false
friday_after = refl

-- account 23 of 16 shards is shard 7's
seventh : is_of 7 16 23 ≡ true
seventh = refl

-- The accepted taps of an account by number, and when two of them are one.
use Rattle.std.specs.Prelude.{◌≡◌, ℕ, ◌==◌, ◌&&◌, Bool, true, false, Some, None, Result, Ok, Err, refl}
use Rattle.pay_day.specs.Words.{Stamp}
use Rattle.pay_rules.specs.Numbers.{ByNumber, judgement, judged as judged_by}
use Rattle.pay_rules.specs.declared.addition.Addition.{Addition}
use Rattle.pay_rules.specs.declared.addition.Addition.TheVariants.{Added, Repeat}
use Rattle.pay_rules.specs.declared.addition.AdditionFault.{AdditionFault}
use Rattle.pay_rules.specs.declared.addition.AdditionFault.TheVariants.{Conflict, Full}
use Rattle.pay_rules.specs.declared.limits.TheConstants.{MOST_TAPS}
use Rattle.pay_rules.specs.declared.tap.Kind.{Kind}
use Rattle.pay_rules.specs.declared.tap.Kind.TheVariants.{In, Out, Bus}
use Rattle.pay_rules.specs.declared.tap.Tap.{Tap}

-- a tap's number: its reader, and the reader's count
abbrev pub number : Tap → ℕ × ℕ
number tap = (tap.reader, tap.seq)

-- the taps of an account by number
abbrev pub Taps : Type 0
Taps = ByNumber Tap

-- whether two kinds are one
abbrev pub same_kind : Kind → Kind → Bool
same_kind In In = true
same_kind Out Out = true
same_kind Bus Bus = true
same_kind _ _ = false

-- whether two stamps are one
abbrev pub same_stamp : Stamp → Stamp → Bool
same_stamp a b = a.utc == b.utc && a.day == b.day && a.second == b.second

-- whether two taps have the same content
abbrev pub same_tap : Tap → Tap → Bool
same_tap a b = a.account == b.account && a.reader == b.reader && a.seq == b.seq && same_stamp a.stamp b.stamp && a.place == b.place && same_kind a.kind b.kind

-- how a set of taps judges one more
abbrev pub judged : Taps → Tap → Result Addition AdditionFault
judged taps tap = judged_by same_tap number MOST_TAPS taps tap

-- ---- worked rows: a bus tap at 07:00 on 2024-01-08, and the same number as a tap at a station

bus_tap : Tap
bus_tap = record { account = 7; reader = 1; seq = 1; stamp = record { utc = 1_704_697_200; day = 19730; second = 25_200 }; place = 50; kind = Bus }

rail_tap : Tap
rail_tap = record { account = 7; reader = 1; seq = 1; stamp = record { utc = 1_704_697_200; day = 19730; second = 25_200 }; place = 10; kind = In }

first_tap : judgement same_tap MOST_TAPS bus_tap None 0 ≡ Ok Added
first_tap = refl

-- the same line twice
same_again : judgement same_tap MOST_TAPS bus_tap (Some bus_tap) 1 ≡ Ok Repeat
unfolding bus_tap
same_again = refl

-- other content under its number
other_content : judgement same_tap MOST_TAPS rail_tap (Some bus_tap) 1 ≡ Err Conflict
unfolding bus_tap rail_tap
other_content = refl

-- a full account takes no further tap, and knows those that it has
one_place_left : judgement same_tap MOST_TAPS bus_tap None 16_383 ≡ Ok Added
one_place_left = refl

no_place_left : judgement same_tap MOST_TAPS bus_tap None 16_384 ≡ Err Full
no_place_left = refl

again_at_full : judgement same_tap MOST_TAPS bus_tap (Some bus_tap) 16_384 ≡ Ok Repeat
unfolding bus_tap
again_at_full = refl

conflict_at_full : judgement same_tap MOST_TAPS rail_tap (Some bus_tap) 16_384 ≡ Err Conflict
unfolding bus_tap rail_tap
conflict_at_full = refl

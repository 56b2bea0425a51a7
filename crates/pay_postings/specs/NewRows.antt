-- Which taps and corrections are to be written beside the rows that are archived.
use Rattle.std.specs.Prelude.{◌≡◌, ℕ, ◌&&◌, Bool, true, false, if◌then◌else◌, List, [], ◌∷◌, ◌++◌, find, Option, Some, None, Result, Ok, Err, refl}
use Rattle.std.specs.Ordering.{int_eq}
use Rattle.pay_rules.specs.declared.tap.Kind.TheVariants.{Bus}
use Rattle.pay_rules.specs.declared.tap.Tap.{Tap}
use Rattle.pay_rules.specs.declared.fix.Fix.{Fix}
use Rattle.pay_rules.specs.declared.post_fault.PostFault.{PostFault}
use Rattle.pay_rules.specs.declared.post_fault.PostFault.TheVariants.{ArchiveConflict}
use Rattle.pay_postings.specs.Faults.{◌>>=◌}
use Rattle.pay_rows.specs.declared.row.TapRow.{TapRow}
use Rattle.pay_rows.specs.declared.row.FixRow.{FixRow}
use Rattle.pay_set_rows.specs.SetRows.{tap_row, fix_row}

-- whether two rows of taps have one number, one instant, one place and kind, and all of these
abbrev pub is_tap_at : TapRow → TapRow → Bool
is_tap_at row other = int_eq row.reader other.reader && int_eq row.seq other.seq

abbrev pub is_tap_stamp : TapRow → TapRow → Bool
is_tap_stamp row other = int_eq row.utc other.utc && int_eq row.day other.day && int_eq row.second other.second

abbrev pub is_tap_touch : TapRow → TapRow → Bool
is_tap_touch row other = int_eq row.place other.place && int_eq row.kind other.kind

abbrev pub is_tap_row : TapRow → TapRow → Bool
is_tap_row row other = is_tap_at row other && is_tap_stamp row other && is_tap_touch row other

-- and two rows of corrections: one number, one form with its first two numbers, the three further numbers, and all of these
abbrev pub is_fix_at : FixRow → FixRow → Bool
is_fix_at row other = int_eq row.staff other.staff && int_eq row.seq other.seq

abbrev pub is_fix_form : FixRow → FixRow → Bool
is_fix_form row other = int_eq row.what other.what && int_eq row.a other.a && int_eq row.b other.b

abbrev pub is_fix_rest : FixRow → FixRow → Bool
is_fix_rest row other = int_eq row.c other.c && int_eq row.d other.d && int_eq row.e other.e

abbrev pub is_fix_row : FixRow → FixRow → Bool
is_fix_row row other = is_fix_at row other && is_fix_form row other && is_fix_rest row other

-- what is at a number is not written again where it has the same content, and refused where it has another
abbrev pub unless_other : Bool → Result Bool PostFault
unless_other is_same = if is_same then Ok false else Err ArchiveConflict

-- whether a row is to be written, by the row that is at its number, if there is one
abbrev pub is_new_beside : {R : Type 0} → (R → R → Bool) → R → Option R → Result Bool PostFault
is_new_beside same row None = Ok true
is_new_beside same row (Some there) = unless_other (same row there)

-- whether a tap is not archived yet
abbrev pub is_new_tap : List TapRow → Tap → Result Bool PostFault
is_new_tap rows tap = is_new_beside is_tap_row (tap_row tap) (find (is_tap_at (tap_row tap)) rows)

-- whether a correction is not
abbrev pub is_new_fix : List FixRow → Fix → Result Bool PostFault
is_new_fix rows fix = is_new_beside is_fix_row (fix_row fix) (find (is_fix_at (fix_row fix)) rows)

-- some, and one more if it is new
abbrev pub with_new : {X : Type 0} → Bool → X → List X → List X
with_new is_new x list = if is_new then list ++ x ∷ [] else list

-- those that are new, after some that are
abbrev pub new_after : {X : Type 0} → (X → Result Bool PostFault) → List X → List X → Result (List X) PostFault
new_after is_new list [] = Ok list
new_after is_new list (x ∷ more) = do
  is ← is_new x
  new_after is_new (with_new is x list) more

-- the taps that are to be written
abbrev pub new_taps : List TapRow → List Tap → Result (List Tap) PostFault
new_taps rows taps = new_after (is_new_tap rows) [] taps

-- the corrections that are to be written
abbrev pub new_fixes : List FixRow → List Fix → Result (List Fix) PostFault
new_fixes rows fixes = new_after (is_new_fix rows) [] fixes

-- ---- worked rows

tap_at : ℕ → ℕ → Tap
tap_at seq place = record { account = 7; reader = 1; seq = seq; place = place; kind = Bus; stamp = record { utc = 1_704_697_200; day = 19_730; second = 25_200 } }

one_of_two : new_taps (tap_row (tap_at 1 50) ∷ []) (tap_at 1 50 ∷ tap_at 2 51 ∷ []) ≡ Ok (tap_at 2 51 ∷ [])
unfolding tap_at
one_of_two = refl

other_place : new_taps (tap_row (tap_at 1 50) ∷ []) (tap_at 2 51 ∷ tap_at 1 52 ∷ []) ≡ Err ArchiveConflict
unfolding tap_at
other_place = refl

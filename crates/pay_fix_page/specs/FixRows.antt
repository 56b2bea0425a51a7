-- The accepted corrections of an account, as a table.
use Rattle.std.specs.Prelude.{◌≡◌, ◌&&◌, not, ℕ, Bool, true, false, List, [], ◌∷◌, ◌++◌, Option, Some, None, codes, refl}
use Rattle.std.specs.Fmt.{digits}
use Rattle.std.specs.List.{flat_map}
use Rattle.std.specs.FinMap.{values}
use Rattle.pay_dates.specs.Words.{dated_text}
use Rattle.pay_names.specs.Words.{Named}
use Rattle.pay_rules.specs.declared.fix.Fix.{Fix}
use Rattle.pay_rules.specs.declared.fix.What.{What}
use Rattle.pay_rules.specs.declared.fix.What.TheVariants as what
use Rattle.pay_rules.specs.Taps.{Taps}
use Rattle.pay_rules.specs.Fixes.{Fixes, is_drop}
use Rattle.pay_rules.specs.NamedDay.{day_named}
use Rattle.pay_why.specs.Words.{fix_reason}
use Rattle.pay_why.specs.declared.correction.FixReason.{FixReason}
use Rattle.pay_why.specs.declared.correction.FixReason.TheVariants.{Stands, DroppedBy, NamesNothing}
use Rattle.pay_explain.specs.Corrections.{correction_text, tap_of}
use Rattle.pay_html.specs.Words.{escaped}
use Rattle.pay_fix_page.specs.declared.back_forms.TakenBack.TheVariants as back
use Rattle.pay_fix_page.specs.declared.fix_rows.WithdrawCell.{WithdrawCell}
use Rattle.pay_fix_page.specs.BackForms.{account_fields, back_form, hidden}

-- what a correction is and does, for a service day
abbrev pub fix_line : Named → Taps → Fixes → ℕ → Fix → List ℕ
fix_line names taps fixes day fix = correction_text names day (tap_of taps fix.what) (fix_reason taps fixes fix) fix

-- the day that it is about, if it names one
abbrev pub day_text : Option ℕ → List ℕ
day_text None = codes "none"
day_text (Some day) = dated_text day

-- the day whose prices are shown where it is withdrawn: that one, or else the page's
abbrev pub day_or : ℕ → Option ℕ → ℕ
day_or day None = day
day_or day (Some named) = named

abbrev pub does_something : FixReason → Bool
does_something Stands = true
does_something (DroppedBy staff seq) = false
does_something NamesNothing = false

-- whether to withdraw a correction changes anything now: it does something, and is no Drop, which none withdraws
abbrev pub can_withdraw : What → FixReason → Bool
can_withdraw what reason = not (is_drop what) && does_something reason

-- what stands where it is withdrawn: a form, where that changes anything
abbrev pub form_or_no : Bool → List ℕ → List ℕ
form_or_no true form = codes "\n" ++ form
form_or_no false form = codes "no"

abbrev pub withdraw_cell : WithdrawCell → List ℕ
withdraw_cell it = form_or_no it.can (back_form it.account it.day (back.Fix it.staff it.seq) (codes "Withdraw.."))

-- the row of a correction by its line, and as HTML the day that it is about and what withdraws it
unfoldable pub fix_row : List ℕ → List ℕ → List ℕ → List ℕ
fix_row line about cell =
    codes "<tr><th scope=\"row\">" ++ (escaped line ++ (codes "</th><td>" ++ (about ++ (codes "</td><td>" ++ (cell ++ codes "</td></tr>\n")))))

abbrev pub cell_of : Taps → Fixes → ℕ → ℕ → Fix → WithdrawCell
cell_of taps fixes account day fix =
    record {
      can = can_withdraw fix.what (fix_reason taps fixes fix);
      account = account;
      day = day_or day (day_named taps fixes fix.what);
      staff = fix.staff;
      seq = fix.seq;
    }

abbrev pub row_of : Named → Taps → Fixes → ℕ → ℕ → Fix → List ℕ
row_of names taps fixes account day fix =
    fix_row (fix_line names taps fixes day fix) (day_text (day_named taps fixes fix.what)) (withdraw_cell (cell_of taps fixes account day fix))

-- those of all that are accepted, in the order of their numbers
abbrev pub fix_rows : Named → Taps → Fixes → ℕ → ℕ → List ℕ
fix_rows names taps fixes account day = flat_map (row_of names taps fixes account day) (values fixes)

-- as a table, or that there are none
unfoldable pub fixes_table : List ℕ → List ℕ
fixes_table rows =
    codes "<table>\n<caption>The corrections of the account, of all days</caption>\n<thead>\n"
    ++ (codes "<tr><th scope=\"col\">Correction</th><th scope=\"col\">About</th><th scope=\"col\">Withdraw</th></tr>\n</thead>\n<tbody>\n"
    ++ (rows ++ codes "</tbody>\n</table>\n"))

abbrev pub fixes_part : List ℕ → List ℕ
fixes_part [] = codes "<p>The account has no accepted correction.</p>\n"
fixes_part (byte ∷ rows) = fixes_table (byte ∷ rows)

-- ---- worked rows, seen from account 7 and Monday, 2024-01-08

of_a_credit : fix_row (codes "Credit 3 4 of 1.05: stands\n") (codes "day 19731, 2024-01-09")
    (withdraw_cell (record { can = true; account = 7; day = day_or 19_730 (Some 19_731); staff = 3; seq = 4 }))
    ≡ codes "<tr><th scope=\"row\">Credit 3 4 of 1.05: stands\n</th><td>day 19731, 2024-01-09</td><td>\n"
    ++ codes "<form action=\"/preview\" method=\"post\">\n<input type=\"hidden\" name=\"account\" value=\"7\">\n"
    ++ codes "<input type=\"hidden\" name=\"day\" value=\"19731\">\n<input type=\"hidden\" name=\"what\" value=\"DROP 3 4\">\n"
    ++ codes "<button type=\"submit\">Withdraw..</button>\n</form>\n</td></tr>\n"
unfolding digits hidden account_fields back_form fix_row
of_a_credit = refl

withdrawn : fix_row (codes "Credit 3 4 of 1.05: withdrawn by 3 5\n") (codes "day 19731, 2024-01-09") (withdraw_cell (record { can = false; account = 7; day = 19_731; staff = 3; seq = 4 }))
    ≡ codes "<tr><th scope=\"row\">Credit 3 4 of 1.05: withdrawn by 3 5\n</th><td>day 19731, 2024-01-09</td><td>no</td></tr>\n"
unfolding digits fix_row
withdrawn = refl

-- what was withdrawn is not withdrawn once more, and neither is a Void of a tap that is not there, nor a Drop
not_once_more : can_withdraw (what.Void 1 1) (DroppedBy 3 5) ≡ false
not_once_more = refl

not_of_nothing : can_withdraw (what.Void 9 9) NamesNothing ≡ false
not_of_nothing = refl

not_a_drop : can_withdraw (what.Drop 3 4) Stands ≡ false
not_a_drop = refl

a_void_that_stands : can_withdraw (what.Void 1 1) Stands ≡ true
a_void_that_stands = refl

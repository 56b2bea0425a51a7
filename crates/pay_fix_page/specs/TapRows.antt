-- The accepted taps of a day, as a table.
use Rattle.std.specs.Prelude.{◌≡◌, ℕ, ◌==◌, if◌then◌else◌, List, [], ◌∷◌, ◌++◌, codes, decimal, refl}
use Rattle.std.specs.Fmt.{digits}
use Rattle.std.specs.List.{flat_map}
use Rattle.std.specs.FinMap.{values}
use Rattle.pay_names.specs.Words.{Named}
use Rattle.pay_rules.specs.declared.tap.Kind.{Kind}
use Rattle.pay_rules.specs.declared.tap.Kind.TheVariants.{In, Out, Bus}
use Rattle.pay_rules.specs.declared.tap.Tap.{Tap}
use Rattle.pay_rules.specs.Taps.{Taps}
use Rattle.pay_explain.specs.Amounts.{clock_text}
use Rattle.pay_explain.specs.Routes.{place_text}
use Rattle.pay_html.specs.Words.{escaped}
use Rattle.pay_fix_page.specs.declared.back_forms.TakenBack.TheVariants as back
use Rattle.pay_fix_page.specs.BackForms.{account_fields, back_form, hidden}

-- what a tap's kind is called
abbrev pub kind_text : Kind → List ℕ
kind_text In = codes "In at a station"
kind_text Out = codes "Out of a station"
kind_text Bus = codes "On a bus"

-- what a tap is, as cells of a row: its time, its place as it is called, its kind and its number
unfoldable pub tap_cells : Tap → List ℕ → List ℕ
tap_cells tap place =
    codes "<th scope=\"row\" class=\"time\">"
    ++ (clock_text tap.stamp.second
    ++ (codes "</th><td>"
    ++ (escaped place
    ++ (codes "</td><td>"
    ++ (kind_text tap.kind ++ (codes "</td><td>" ++ (decimal tap.reader ++ (codes " " ++ (decimal tap.seq ++ codes "</td>")))))))))

-- its row, with a form that takes it out
abbrev pub tap_row : ℕ → ℕ → Tap → List ℕ → List ℕ
tap_row account day tap place =
    codes "<tr>"
    ++ (tap_cells tap place
    ++ (codes "<td>\n" ++ (back_form account day (back.Tap tap.reader tap.seq) (codes "Take it out..") ++ codes "</td></tr>\n")))

-- if it is of a day
abbrev pub day_row : Named → ℕ → ℕ → Tap → List ℕ
day_row names account day tap = if tap.stamp.day == day then tap_row account day tap (place_text names tap.place) else []

-- those of the accepted taps, in the order of their numbers
abbrev pub day_rows : Named → ℕ → ℕ → Taps → List ℕ
day_rows names account day taps = flat_map (day_row names account day) (values taps)

-- as a table, or that there are none
unfoldable pub taps_table : List ℕ → List ℕ
taps_table rows =
    codes "<table>\n<caption>The taps of the day</caption>\n<thead>\n"
    ++ (codes "<tr><th scope=\"col\">Time</th><th scope=\"col\">Where</th><th scope=\"col\">Kind</th>"
    ++ (codes "<th scope=\"col\">Reader and number</th><th scope=\"col\">Take out</th></tr>\n</thead>\n<tbody>\n" ++ (rows ++ codes "</tbody>\n</table>\n")))

abbrev pub taps_part : List ℕ → List ℕ
taps_part [] = codes "<p>The account has no accepted tap of this day.</p>\n"
taps_part (byte ∷ rows) = taps_table (byte ∷ rows)

-- ---- worked rows, of a tap at 09:10:00 of Monday, 2024-01-08, at a place whose name has markup in it

abbrev boarded : Tap
boarded = record { account = 7; reader = 1; seq = 2; place = 50; kind = Bus; stamp = record { utc = 1_704_705_000; day = 19_730; second = 33_000 } }

of_the_day : day_row ((50, codes "<b>&\"x'") ∷ []) 7 19_730 boarded
    ≡ codes "<tr><th scope=\"row\" class=\"time\">09:10:00</th><td>&lt;b&gt;&amp;&quot;x&#39; (50)</td><td>On a bus</td><td>1 2</td><td>\n"
    ++ codes "<form action=\"/preview\" method=\"post\">\n<input type=\"hidden\" name=\"account\" value=\"7\">\n"
    ++ codes "<input type=\"hidden\" name=\"day\" value=\"19730\">\n<input type=\"hidden\" name=\"what\" value=\"VOID 1 2\">\n"
    ++ codes "<button type=\"submit\">Take it out..</button>\n</form>\n</td></tr>\n"
unfolding digits hidden account_fields back_form tap_cells
of_the_day = refl

of_another_day : day_row [] 7 19_731 boarded ≡ []
of_another_day = refl

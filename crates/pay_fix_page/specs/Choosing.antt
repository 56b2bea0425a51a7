-- The page of what can be corrected.
use Rattle.std.specs.Prelude.{◌≡◌, ℕ, List, ◌++◌, codes, decimal, refl}
use Rattle.std.specs.Fmt.{digits}
use Rattle.pay_names.specs.Words.{Named}
use Rattle.pay_rules.specs.Accepted.{Accepted}
use Rattle.pay_page.specs.Words.{day_link, named_day, page_end, page_start}
use Rattle.pay_fix_page.specs.AskingForms.{credit_form, tap_form}
use Rattle.pay_fix_page.specs.FixRows.{fix_rows, fixes_part}
use Rattle.pay_fix_page.specs.TapRows.{day_rows, taps_part}

abbrev pub choices_title : ℕ → ℕ → List ℕ
choices_title account day = codes "Correct account " ++ (decimal account ++ (codes ", " ++ named_day day))

-- links to the day and to the start
unfoldable pub choices_links : ℕ → ℕ → List ℕ
choices_links account day =
    codes "<nav>\n<ul>\n<li>"
    ++ (day_link account day (codes "The day") ++ codes "</li>\n<li><a href=\"/\">Another account or day</a></li>\n</ul>\n</nav>\n")

-- the taps of the day, and the corrections
abbrev pub tables : Named → Accepted → ℕ → ℕ → List ℕ
tables names accepted account day =
    taps_part (day_rows names account day accepted.taps) ++ fixes_part (fix_rows names accepted.taps accepted.fixes account day)

-- the page, by what an account has accepted
abbrev pub choices_text : Named → Accepted → ℕ → ℕ → List ℕ
choices_text names accepted account day =
    page_start (choices_title account day)
    ++ (choices_links account day ++ (tables names accepted account day ++ (credit_form account day ++ (tap_form account day ++ page_end))))

-- ---- a worked row

from_a_monday : choices_links 7 19_730
    ≡ codes "<nav>\n<ul>\n<li><a href=\"/day?account=7&amp;day=19730\">The day</a></li>\n"
    ++ codes "<li><a href=\"/\">Another account or day</a></li>\n</ul>\n</nav>\n"
unfolding digits choices_links day_link
from_a_monday = refl

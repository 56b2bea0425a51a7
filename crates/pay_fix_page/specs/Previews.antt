-- The page of what a correction would change.
use Rattle.std.specs.Prelude.{◌≡◌, ℕ, ◌-◌, nat_lt, if◌then◌else◌, List, ◌++◌, codes, decimal, refl}
use Rattle.std.specs.Fmt.{digits}
use Rattle.pay_explain.specs.Amounts.{pounds_text}
use Rattle.pay_html.specs.Words.{escaped}
use Rattle.pay_page.specs.Words.{page_end, page_start}
use Rattle.pay_fix_page.specs.declared.fix_lines.FixLine.{FixLine}
use Rattle.pay_fix_page.specs.declared.previews.Owed.{Owed}
use Rattle.pay_fix_page.specs.declared.previews.Preview.{Preview}
use Rattle.pay_fix_page.specs.BackForms.{account_fields, hidden}
use Rattle.pay_fix_page.specs.FixLines.{fix_line}

-- how a price differs from the one before, with its sign
unfoldable pub difference : ℕ → ℕ → List ℕ
difference before after =
    if nat_lt before after then codes "+" ++ pounds_text (after - before)
    else if nat_lt after before then codes "-" ++ pounds_text (before - after)
    else codes "0.00"

-- the row of a price, with what it is as HTML
unfoldable pub price_row : List ℕ → ℕ → ℕ → List ℕ
price_row label before after =
    codes "<tr><th scope=\"row\">"
    ++ (label
    ++ (codes "</th><td class=\"amount\">"
    ++ (pounds_text before
    ++ (codes "</td><td class=\"amount\">" ++ (pounds_text after ++ (codes "</td><td class=\"amount\">" ++ (difference before after ++ codes "</td></tr>\n")))))))

-- the table of the day's price and of what is due of its week
unfoldable pub prices : Owed → Owed → List ℕ
prices before after =
    codes "<table>\n<caption>Before the correction, and after it</caption>\n<thead>\n"
    ++ (codes "<tr><th scope=\"col\">Of</th><th scope=\"col\">Before</th><th scope=\"col\">After</th>"
    ++ (codes "<th scope=\"col\">Difference</th></tr>\n</thead>\n<tbody>\n"
    ++ (price_row (codes "The price of this day") before.day after.day
    ++ (price_row (codes "Due of its week through this day") before.week after.week
    ++ (codes "</tbody>\n</table>\n" ++ (codes "<p>A Credit changes no price: it is taken off what is due." ++ codes " What changes on other days is not shown here.</p>\n"))))))

-- who corrects, and the line
unfoldable pub head : List ℕ → FixLine → List ℕ
head clerk line =
    codes "<p>You are "
    ++ (escaped clerk
    ++ (codes ", staff number "
    ++ (decimal line.staff ++ (codes ".</p>\n<p>The correction: " ++ (fix_line line.staff line.seq line.account line.what.now ++ codes "</p>\n")))))

-- the form that sends the correction
unfoldable pub fix_form : ℕ → ℕ → ℕ → List ℕ → List ℕ → List ℕ
fix_form account day seq token what =
    codes "<form action=\"/fix\" method=\"post\">\n"
    ++ (account_fields account day
    ++ (hidden (codes "seq") (decimal seq)
    ++ (hidden (codes "token") (escaped token)
    ++ (hidden (codes "what") (escaped what) ++ codes "<p><button type=\"submit\">Correct</button></p>\n</form>\n"))))

-- and the link back to what can be corrected
unfoldable pub back_link : ℕ → ℕ → List ℕ
back_link account day =
    codes "<p><a href=\"/correct?account=" ++ (decimal account ++ (codes "&amp;day=" ++ (decimal day ++ codes "\">Back, and correct nothing</a></p>\n")))

abbrev pub preview_title : ℕ → ℕ → List ℕ
preview_title account day = codes "What a correction of account " ++ (decimal account ++ (codes " would change, day " ++ decimal day))

-- the page
abbrev pub preview_text : Preview → List ℕ
preview_text it =
    page_start (preview_title it.account it.day)
    ++ (head it.clerk.now (record { staff = it.staff; seq = it.seq; account = it.account; what = it.what })
    ++ (prices it.before it.after
    ++ (fix_form it.account it.day it.seq it.token.now it.what.now ++ (back_link it.account it.day ++ page_end))))

-- ---- worked rows

dearer : difference 340 515 ≡ codes "+1.75"
unfolding digits difference
dearer = refl

cheaper : difference 515 340 ≡ codes "-1.75"
unfolding digits difference
cheaper = refl

as_before : difference 340 340 ≡ codes "0.00"
unfolding difference
as_before = refl

from_five_pounds : price_row (codes "The price of this day") 515 340
    ≡ codes "<tr><th scope=\"row\">The price of this day</th><td class=\"amount\">5.15</td><td class=\"amount\">3.40</td><td class=\"amount\">-1.75</td></tr>\n"
unfolding digits difference price_row
from_five_pounds = refl

sent_by : fix_form 7 19_730 5 (codes "a\"b") (codes "VOID 1 2")
    ≡ codes "<form action=\"/fix\" method=\"post\">\n<input type=\"hidden\" name=\"account\" value=\"7\">\n"
    ++ codes "<input type=\"hidden\" name=\"day\" value=\"19730\">\n<input type=\"hidden\" name=\"seq\" value=\"5\">\n"
    ++ codes "<input type=\"hidden\" name=\"token\" value=\"a&quot;b\">\n<input type=\"hidden\" name=\"what\" value=\"VOID 1 2\">\n"
    ++ codes "<p><button type=\"submit\">Correct</button></p>\n</form>\n"
unfolding digits hidden account_fields fix_form
sent_by = refl

-- The links from a day and from a week to others.
use Rattle.std.specs.Prelude.{◌≡◌, ℕ, ◌+◌, ◌-◌, ◌*◌, nat_le, ◌&&◌, Bool, true, false, List, [], ◌++◌, codes, decimal, refl}
use Rattle.std.specs.Fmt.{digits}
use Rattle.pay_day.specs.Words.{monday}
use Rattle.pay_day.specs.declared.limits.TheConstants.{DAYS_PER_WEEK, FIRST_DAY, LAST_DAY}
use Rattle.pay_html.specs.Words.{escaped}

-- to a page of an account and a day
abbrev link : List ℕ → ℕ → ℕ → List ℕ → List ℕ
link start account day label = start ++ (decimal account ++ (codes "&amp;day=" ++ (decimal day ++ (codes "\">" ++ (escaped label ++ codes "</a>")))))

-- to the day, and to the week through it
unfoldable pub day_link : ℕ → ℕ → List ℕ → List ℕ
day_link account day label = link (codes "<a href=\"/day?account=") account day label

abbrev pub week_link : ℕ → ℕ → List ℕ → List ℕ
week_link account through label = link (codes "<a href=\"/week?account=") account through label

-- whether a number is that of a service day
abbrev pub is_day : ℕ → Bool
is_day day = nat_le FIRST_DAY day && nat_le day LAST_DAY

-- an item of a list, if there is such a day
abbrev pub item_if : Bool → List ℕ → List ℕ
item_if true text = codes "<li>" ++ (text ++ codes "</li>\n")
item_if false text = []

abbrev pub day_item : ℕ → ℕ → List ℕ → List ℕ
day_item account day label = item_if (is_day day) (day_link account day label)

abbrev pub week_item : ℕ → ℕ → List ℕ → List ℕ
week_item account through label = item_if (is_day through) (week_link account through label)

-- the links of a page begin with the one to the start
abbrev nav_start : List ℕ
nav_start = codes "<nav>\n<ul>\n<li><a href=\"/\">Another account or day</a></li>\n"

abbrev nav_end : List ℕ
nav_end = codes "</ul>\n</nav>\n"

-- an item with the link to the corrections of a day, where accounts may be corrected
abbrev pub correct_item : Bool → ℕ → ℕ → List ℕ → List ℕ
correct_item true account day label = codes "<li>" ++ (link (codes "<a href=\"/correct?account=") account day label ++ codes "</li>\n")
correct_item false account day label = []

-- from a day to its week, to the days beside it, and perhaps to its corrections
unfoldable pub day_links : Bool → ℕ → ℕ → List ℕ
day_links corrects account day =
    nav_start
    ++ (week_item account day (codes "The week through this day")
    ++ (day_item account (day - 1) (codes "The day before")
    ++ (day_item account (day + 1) (codes "The day after") ++ (correct_item corrects account day (codes "Correct this day") ++ nav_end))))

-- from a week to those beside it, each through its Sunday, and perhaps to the corrections of its last day
unfoldable pub week_links : Bool → ℕ → ℕ → List ℕ
week_links corrects account through =
    nav_start
    ++ (week_item account (monday through - 1) (codes "The week before")
    ++ (week_item account (monday through + (2 * DAYS_PER_WEEK - 1)) (codes "The week after")
    ++ (correct_item corrects account through (codes "Correct its last day") ++ nav_end)))

-- ---- worked rows, from Tuesday, 2024-01-09, and from the first day of all

from_a_tuesday : day_links false 7 19_731
    ≡ codes "<nav>\n<ul>\n<li><a href=\"/\">Another account or day</a></li>\n"
    ++ codes "<li><a href=\"/week?account=7&amp;day=19731\">The week through this day</a></li>\n"
    ++ codes "<li><a href=\"/day?account=7&amp;day=19730\">The day before</a></li>\n"
    ++ codes "<li><a href=\"/day?account=7&amp;day=19732\">The day after</a></li>\n"
    ++ codes "</ul>\n</nav>\n"
unfolding digits day_links day_link
from_a_tuesday = refl

weeks_of_a_tuesday : week_links true 7 19_731
    ≡ codes "<nav>\n<ul>\n<li><a href=\"/\">Another account or day</a></li>\n"
    ++ codes "<li><a href=\"/week?account=7&amp;day=19729\">The week before</a></li>\n"
    ++ codes "<li><a href=\"/week?account=7&amp;day=19743\">The week after</a></li>\n"
    ++ codes "<li><a href=\"/correct?account=7&amp;day=19731\">Correct its last day</a></li>\n"
    ++ codes "</ul>\n</nav>\n"
unfolding digits week_links
weeks_of_a_tuesday = refl

before_the_first : day_item 7 3 (codes "The day before") ≡ []
before_the_first = refl

after_the_last : day_item 7 50_001 (codes "The day after") ≡ []
after_the_last = refl

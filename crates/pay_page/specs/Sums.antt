-- What a day and a week come to, as rows of a table.
use Rattle.std.specs.Prelude.{◌≡◌, ℕ, List, [], ◌++◌, Option, Some, None, codes, decimal, refl}
use Rattle.std.specs.Fmt.{digits}
use Rattle.pay_tables.specs.declared.band.Cover.TheVariants.{Zones}
use Rattle.pay_rules.specs.declared.fix.Fix.{Fix}
use Rattle.pay_rules.specs.declared.fix.What.{What}
use Rattle.pay_rules.specs.declared.fix.What.TheVariants.{Credit}
use Rattle.pay_why.specs.declared.cap.CappedBand.{CappedBand}
use Rattle.pay_why.specs.declared.cap.CapReason.{CapReason}
use Rattle.pay_why.specs.declared.due.DueReason.{DueReason}
use Rattle.pay_explain.specs.Amounts.{pounds_text}
use Rattle.pay_explain.specs.Sums.{cover_text}

-- a table with a caption, of rows of two cells
unfoldable pub sums_start : List ℕ → List ℕ
sums_start caption =
    codes "<table>\n<caption>"
    ++ (caption ++ codes "</caption>\n<thead>\n<tr><th scope=\"col\">What</th><th scope=\"col\">Amount</th></tr>\n</thead>\n<tbody>\n")

unfoldable pub table_end : List ℕ
table_end = codes "</tbody>\n</table>\n"

-- a sum of so many pence
unfoldable pub sum_row : List ℕ → ℕ → List ℕ
sum_row label pence = codes "<tr><th scope=\"row\">" ++ (label ++ (codes "</th><td class=\"amount\">" ++ (pounds_text pence ++ codes "</td></tr>\n")))

-- the band that gives a price: its cap stands for what is inside, and what is outside comes on top of it
unfoldable pub band_rows : Option CappedBand → List ℕ
band_rows None = []
band_rows (Some band) =
    codes "<tr><th scope=\"row\">By the cap of "
    ++ (cover_text band.cover
    ++ (codes ", in place of "
    ++ (pounds_text band.inside
    ++ (codes "</th><td class=\"amount\">" ++ (pounds_text band.cap ++ (codes "</td></tr>\n" ++ sum_row (codes "Outside of it") band.outside))))))

-- the fares that caps are for, the band, the maximum fares, and what is charged
unfoldable pub day_sum_rows : CapReason → List ℕ
day_sum_rows reason =
    sum_row (codes "All but maximum fares, without a cap") reason.uncapped
    ++ (band_rows reason.band ++ (sum_row (codes "Maximum fares") reason.maximum ++ sum_row (codes "The day") reason.price))

-- the same of a week, of the prices of its days
unfoldable pub week_sum_rows : CapReason → List ℕ
week_sum_rows reason =
    sum_row (codes "These days, without a week cap") reason.uncapped
    ++ (band_rows reason.band ++ (sum_row (codes "Maximum fares of these days") reason.maximum ++ sum_row (codes "The week") reason.price))

-- a Credit that counts
abbrev pub credit_row_of : ℕ → ℕ → What → List ℕ
credit_row_of staff seq (Credit credit) =
    codes "<tr><th scope=\"row\">Credit "
    ++ (decimal staff
    ++ (codes " "
    ++ (decimal seq
    ++ (codes " of day " ++ (decimal credit.day ++ (codes "</th><td class=\"amount\">" ++ (pounds_text credit.pence ++ codes "</td></tr>\n")))))))
credit_row_of staff seq _ = []

abbrev pub credit_row : Fix → List ℕ
credit_row fix = credit_row_of fix.staff fix.seq fix.what

-- the Credits together, and what is left
unfoldable pub due_rows : DueReason → List ℕ
due_rows reason = sum_row (codes "Credits, taken off") reason.credits ++ sum_row (codes "Due") reason.due

-- ---- worked rows

-- three journeys in zones 1 and 2, one in zone 3, and a tap that stands alone: the band 1-2 leaves the one in zone 3 outside
by_a_band : day_sum_rows (record {
  uncapped = 1_200;
  band = Some (record { place = 1; cover = Zones (record { from = 1; to = 2 }); cap = 890; inside = 1_020; outside = 180 });
  maximum = 860;
  price = 1_930;
})
    ≡ codes "<tr><th scope=\"row\">All but maximum fares, without a cap</th><td class=\"amount\">12.00</td></tr>\n"
    ++ codes "<tr><th scope=\"row\">By the cap of zones 1 to 2, in place of 10.20</th><td class=\"amount\">8.90</td></tr>\n"
    ++ codes "<tr><th scope=\"row\">Outside of it</th><td class=\"amount\">1.80</td></tr>\n"
    ++ codes "<tr><th scope=\"row\">Maximum fares</th><td class=\"amount\">8.60</td></tr>\n"
    ++ codes "<tr><th scope=\"row\">The day</th><td class=\"amount\">19.30</td></tr>\n"
unfolding digits day_sum_rows band_rows sum_row
by_a_band = refl

one_credit : credit_row (record { account = 7; staff = 3; seq = 2; what = Credit (record { day = 19_730; pence = 100 }) })
    ≡ codes "<tr><th scope=\"row\">Credit 3 2 of day 19730</th><td class=\"amount\">1.00</td></tr>\n"
unfolding digits
one_credit = refl

less_a_pound : due_rows (record { price = 860; credits = 100; due = 760 })
    ≡ codes "<tr><th scope=\"row\">Credits, taken off</th><td class=\"amount\">1.00</td></tr>\n"
    ++ codes "<tr><th scope=\"row\">Due</th><td class=\"amount\">7.60</td></tr>\n"
unfolding digits due_rows sum_row
less_a_pound = refl

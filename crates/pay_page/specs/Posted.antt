-- What was posted for an account and a week, as a table.
use Rattle.std.specs.Prelude.{◌≡◌, ℕ, ◌+◌, nat_le, if◌then◌else◌, Bool, true, false, ℤ, pos, negsuc, unsigned_abs, List, [], ◌∷◌, ◌++◌, codes, decimal, refl}
use Rattle.std.specs.Fmt.{digits}
use Rattle.std.specs.List.{flat_map}
use Rattle.std.specs.Ordering.{int_eq}
use Rattle.pay_dates.specs.Words.{dated_text}
use Rattle.pay_names.specs.Words.{Named}
use Rattle.pay_rules.specs.declared.posting.Posting.{Posting}
use Rattle.pay_explain.specs.Amounts.{pounds_text}
use Rattle.pay_explain.specs.Routes.{place_text}
use Rattle.pay_html.specs.Words.{escaped}
use Rattle.pay_page.specs.declared.posted.Posted.{Posted}
use Rattle.pay_page.specs.declared.posted.PostedWeek.{PostedWeek}
use Rattle.pay_page.specs.declared.posted.Posted.TheVariants.{NoLedger, Unknown, Known}
use Rattle.pay_page.specs.Sums.{table_end}

-- whether a ledger is looked at
abbrev pub is_of_ledger : Posted → Bool
is_of_ledger NoLedger = false
is_of_ledger Unknown = true
is_of_ledger (Known postings) = true

-- an amount in pounds and pence, below 0 what was given back
abbrev signed_by : ℤ → ℕ → List ℕ
signed_by (pos _) pence = pounds_text pence
signed_by (negsuc _) pence = codes "-" ++ pounds_text pence

abbrev pub signed_pounds : ℤ → List ℕ
signed_pounds amount = signed_by amount (unsigned_abs amount)

-- how many taps and corrections were accepted when it was posted, and how many are by the journals
abbrev pub versions_text : ℕ → ℕ → List ℕ
versions_text posted now =
    if nat_le posted now then decimal posted ++ (codes " then, " ++ (decimal now ++ codes " now"))
    else codes "the ledger is ahead of the journal: " ++ (decimal posted ++ (codes " then, " ++ (decimal now ++ codes " in the journal")))

-- what of a posting fell to an operator, by its name, if it has one, and no item for nothing
abbrev pub share_item : Named → ℕ → ℤ → List ℕ
share_item names operator amount =
    if int_eq amount (pos 0) then [] else codes "<li>" ++ (signed_pounds amount ++ (codes " to operator " ++ (escaped (place_text names operator) ++ codes "</li>")))

-- the same of the operators from a number on
abbrev pub share_items : Named → ℕ → List ℤ → List ℕ
share_items names operator [] = []
share_items names operator (amount ∷ amounts) = share_item names operator amount ++ share_items names (operator + 1) amounts

-- a posting: what was charged or given back, through which day, what was due by then, at which version, and these items
unfoldable pub row_with : ℕ → Posting → List ℕ → List ℕ
row_with now p shares =
    codes "<tr><td class=\"amount\">"
    ++ (signed_pounds p.amount
    ++ (codes "</td><td>"
    ++ (dated_text p.quote.through
    ++ (codes "</td><td class=\"amount\">"
    ++ (pounds_text p.quote.due
    ++ (codes "</td><td>" ++ (versions_text p.quote.version now ++ (codes "</td><td><ul>" ++ (shares ++ codes "</ul></td></tr>\n")))))))))

-- with what of it fell to each operator
abbrev pub posting_row : Named → ℕ → Posting → List ℕ
posting_row names now p = row_with now p (share_items names 1 p.share_amounts)

unfoldable pub postings_start : List ℕ
postings_start =
    codes "<h2>Posted</h2>\n<table>\n<caption>What was posted for the week, below 0 what was given back</caption>\n"
    ++ (codes "<thead>\n<tr><th scope=\"col\">Amount</th><th scope=\"col\">Through</th><th scope=\"col\">Due then</th>"
    ++ codes "<th scope=\"col\">Taps and corrections accepted</th><th scope=\"col\">Operators</th></tr>\n</thead>\n<tbody>\n")

-- postings, each after the one before
abbrev pub postings_table : Named → ℕ → List Posting → List ℕ
postings_table names now postings = postings_start ++ (flat_map (posting_row names now) postings ++ table_end)

-- or that there are none
abbrev pub postings_part : Named → ℕ → List Posting → List ℕ
postings_part names now [] = codes "<h2>Posted</h2>\n<p>Nothing was posted for the week.</p>\n"
postings_part names now (posting ∷ postings) = postings_table names now (posting ∷ postings)

-- what was posted, where a ledger is looked at, operators have these names, and the account has this version now
abbrev pub posted_part : Named → ℕ → Posted → List ℕ
posted_part names now NoLedger = []
posted_part names now Unknown = codes "<h2>Posted</h2>\n<p>What was posted is not known now.</p>\n"
posted_part names now (Known postings) = postings_part names now postings

-- the same of what was posted for a week
abbrev pub posted_of : PostedWeek → List ℕ
posted_of week = posted_part week.operators.now week.version week.posted.now

-- ---- worked rows

charged : signed_pounds (pos 890) ≡ codes "8.90"
unfolding digits
charged = refl

given_back : signed_pounds (negsuc 149) ≡ codes "-1.50"
unfolding digits
given_back = refl

two_since : versions_text 3 5 ≡ codes "3 then, 5 now"
unfolding digits
two_since = refl

ahead : versions_text 6 5 ≡ codes "the ledger is ahead of the journal: 6 then, 5 in the journal"
unfolding digits
ahead = refl

-- an operator whose name has markup in it, and one without a name
to_two_operators : share_items ((1, codes "<b>") ∷ []) 1 (pos 540 ∷ pos 0 ∷ negsuc 149 ∷ [])
    ≡ codes "<li>5.40 to operator &lt;b&gt; (1)</li><li>-1.50 to operator 3</li>"
unfolding digits
to_two_operators = refl

nothing_posted : (names : Named) (now : ℕ) → postings_part names now [] ≡ codes "<h2>Posted</h2>\n<p>Nothing was posted for the week.</p>\n"
nothing_posted names now = refl

-- What was posted for an account and a week, as lines.
use Rattle.std.specs.Prelude.{◌≡◌, ℕ, ◌+◌, nat_lt, nat_le, if◌then◌else◌, ℤ, pos, negsuc, unsigned_abs, List, [], ◌∷◌, ◌++◌, codes, decimal, refl}
use Rattle.std.specs.Fmt.{digits}
use Rattle.std.specs.List.{flat_map}
use Rattle.std.specs.Ordering.{int_eq}
use Rattle.pay_dates.specs.Words.{dated_text}
use Rattle.pay_names.specs.Words.{Named}
use Rattle.pay_rules.specs.declared.posting.Posting.{Posting}
use Rattle.pay_explain.specs.Amounts.{head_text, pounds_text}
use Rattle.pay_explain.specs.Routes.{place_text}

-- what stands before an amount that was given back, so that its point is in the column of the others
abbrev pub refund_indent : ℕ → List ℕ
refund_indent pence = if nat_lt pence 1_000 then codes "  -" else if nat_lt pence 10_000 then codes " -" else codes "-"

abbrev pub head_by : ℤ → ℕ → List ℕ
head_by (pos _) pence = head_text pence
head_by (negsuc _) pence = refund_indent pence ++ (pounds_text pence ++ codes "  ")

-- an amount at the head of a line, below 0 what was given back
abbrev pub signed_head : ℤ → List ℕ
signed_head amount = head_by amount (unsigned_abs amount)

-- an operator, from 1 on, by its name, if it has one
abbrev pub operator_text : Named → ℕ → List ℕ
operator_text names operator = codes "operator " ++ place_text names operator

-- the version at which it was posted, and the one that the account has by its journals
abbrev pub versions_text : ℕ → ℕ → List ℕ
versions_text posted now =
    if nat_le posted now then codes "taps and corrections accepted: " ++ (decimal posted ++ (codes " then, " ++ (decimal now ++ codes " now")))
    else codes "the ledger is ahead of the journal: taps and corrections accepted: " ++ (decimal posted ++ (codes " then, " ++ (decimal now ++ codes " in the journal")))

-- what of a posting fell to an operator, and no line for nothing
abbrev pub share_line : Named → ℕ → ℤ → List ℕ
share_line names operator amount = if int_eq amount (pos 0) then [] else codes "      " ++ (signed_head amount ++ (codes "of it to " ++ (operator_text names operator ++ codes "\n")))

-- the same of the operators from a number on
abbrev pub share_lines : Named → ℕ → List ℤ → List ℕ
share_lines names operator [] = []
share_lines names operator (amount ∷ amounts) = share_line names operator amount ++ share_lines names (operator + 1) amounts

-- a posting: what was charged or given back, through which day, what was due by then, and at which version
abbrev pub posting_line : ℕ → Posting → List ℕ
posting_line now p =
    signed_head p.amount ++ (codes "through " ++ (dated_text p.quote.through ++ (codes ": " ++ (pounds_text p.quote.due ++ (codes " due; " ++ (versions_text p.quote.version now ++ codes "\n"))))))

-- and what of it fell to each operator
unfoldable pub posting_lines : Named → ℕ → Posting → List ℕ
posting_lines names now p = posting_line now p ++ share_lines names 1 p.share_amounts

-- no posting of the week from this day on
abbrev pub nothing_text : ℕ → List ℕ
nothing_text week = codes "         nothing was posted for the week from " ++ (dated_text week ++ codes "\n")

-- its postings, each after the one before
abbrev pub postings_text : Named → ℕ → ℕ → List Posting → List ℕ
postings_text names week now postings = (codes "         posted for the week from " ++ (dated_text week ++ codes ":\n")) ++ flat_map (posting_lines names now) postings

-- either of these
abbrev pub posted_text : Named → ℕ → ℕ → List Posting → List ℕ
posted_text names week now [] = nothing_text week
posted_text names week now (posting ∷ postings) = postings_text names week now (posting ∷ postings)

-- ---- worked rows

abbrev metro : Named
metro = (1, codes "Metro") ∷ []

charged : signed_head (pos 890) ≡ codes "   8.90  "
unfolding digits
charged = refl

given_back : signed_head (negsuc 149) ≡ codes "  -1.50  "
unfolding digits
given_back = refl

twelve_given_back : signed_head (negsuc 1_199) ≡ codes " -12.00  "
unfolding digits
twelve_given_back = refl

to_the_metro : share_line metro 1 (pos 540) ≡ codes "         5.40  of it to operator Metro (1)\n"
unfolding digits
to_the_metro = refl

to_operator_two : share_line metro 2 (negsuc 149) ≡ codes "        -1.50  of it to operator 2\n"
unfolding digits
to_operator_two = refl

to_nobody : share_line metro 2 (pos 0) ≡ []
to_nobody = refl

of_the_third : share_lines [] 1 (pos 0 ∷ pos 0 ∷ pos 350 ∷ []) ≡ codes "         3.50  of it to operator 3\n"
unfolding digits
of_the_third = refl

two_since : versions_text 3 5 ≡ codes "taps and corrections accepted: 3 then, 5 now"
unfolding digits
two_since = refl

none_since : versions_text 5 5 ≡ codes "taps and corrections accepted: 5 then, 5 now"
unfolding digits
none_since = refl

ahead : versions_text 6 5 ≡ codes "the ledger is ahead of the journal: taps and corrections accepted: 6 then, 5 in the journal"
unfolding digits
ahead = refl

nothing : dated_text 19_730 ≡ codes "day 19730, 2024-01-08" → posted_text metro 19_730 5 [] ≡ codes "         nothing was posted for the week from day 19730, 2024-01-08\n"
nothing it = rw it refl

-- What posting a quote does to the list of all postings.
use Rattle.std.specs.Prelude.{ℕ, ◌==◌, ◌&&◌, ◌||◌, nat_lt, Bool, if◌then◌else◌, ℤ, pos, ◌+ℤ◌, ◌-ℤ◌, List, [], ◌∷◌, ◌++◌, fold, filter, Option, Some, None, Result, Ok, Err, nat_eq}
use lib.Pointwise.{pointwise}
use Rattle.pay_rules.specs.declared.posting.Posting.{Posting}
use Rattle.pay_rules.specs.QuoteParts.{QuoteParts}
use Rattle.pay_rules.specs.declared.post_fault.PostFault.{PostFault}
use Rattle.pay_rules.specs.declared.post_fault.PostFault.TheVariants.{StaleQuote, QuoteDiffers}
use Rattle.pay_postings.specs.Faults.{◌>>=◌}
use Rattle.pay_postings.specs.Amounts.{added, less, no_amounts}

-- whether a quote is of an account and a week, which is named by its Monday
abbrev pub is_quote_of : ℕ → ℕ → QuoteParts → Bool
is_quote_of account week quote = quote.account == account && quote.week == week

-- whether a posting is
abbrev pub is_of : ℕ → ℕ → Posting → Bool
is_of account week posting = is_quote_of account week posting.quote

-- the postings of an account and a week, in order
abbrev pub postings_of : ℕ → ℕ → List Posting → List Posting
postings_of account week list = filter (is_of account week) list

abbrev pub with_amount : ℕ → ℕ → ℤ → Posting → ℤ
with_amount account week so_far posting = if is_of account week posting then so_far +ℤ posting.amount else so_far

-- what an account was charged for a week less what it was given back: the sum of the amounts
abbrev pub net : ℕ → ℕ → List Posting → ℤ
net account week list = fold (with_amount account week) (pos 0) list

abbrev pub with_shares : ℕ → ℕ → List ℤ → Posting → List ℤ
with_shares account week so_far posting = if is_of account week posting then added so_far posting.share_amounts else so_far

-- what of it fell to each operator: the sums of the share amounts
abbrev pub shares_posted : ℕ → ℕ → List Posting → List ℤ
shares_posted account week list = fold (with_shares account week) no_amounts list

abbrev pub later_of : ℕ → ℕ → Option Posting → Posting → Option Posting
later_of account week last posting = if is_of account week posting then Some posting else last

-- the last posting of an account and a week
abbrev pub last_of : ℕ → ℕ → List Posting → Option Posting
last_of account week list = fold (later_of account week) None list

-- a quote as a further posting: what is due less what was posted, and each operator's share likewise
abbrev pub posting_of : List Posting → QuoteParts → Posting
posting_of list quote = record {
  quote = quote;
  amount = pos quote.due -ℤ net quote.account quote.week list;
  share_amounts = less quote.shares (shares_posted quote.account quote.week list);
}

-- whether a quote is of an earlier version, or through an earlier day
abbrev pub is_stale : QuoteParts → QuoteParts → Bool
is_stale quote posted = nat_lt quote.version posted.version || nat_lt quote.through posted.through

-- whether it is of the same version, through the same day
abbrev pub is_again : QuoteParts → QuoteParts → Bool
is_again quote posted = quote.version == posted.version && quote.through == posted.through

-- whether what is due is the same, and so is each share
abbrev pub is_as_due : QuoteParts → QuoteParts → Bool
is_as_due quote posted = quote.due == posted.due && pointwise nat_eq quote.shares posted.shares

-- whether it is of the edition of what was posted, as far as that is known: 0 stands for one that is not
abbrev pub is_of_edition : QuoteParts → QuoteParts → Bool
is_of_edition quote posted = posted.edition == 0 || quote.edition == posted.edition

-- whether what was posted is kept for it
abbrev pub is_kept : QuoteParts → QuoteParts → Bool
is_kept quote posted = is_as_due quote posted && is_of_edition quote posted

-- a further posting stands at the end
abbrev pub posted_anew : List Posting → QuoteParts → Result (Posting × List Posting) PostFault
posted_anew list quote = Ok (posting_of list quote, list ++ posting_of list quote ∷ [])

-- what was posted for the same version and day is kept as it stands, where as much was due and no other edition is known
abbrev pub posted_again : List Posting → QuoteParts → Posting → Result (Posting × List Posting) PostFault
posted_again list quote last = if is_kept quote last.quote then Ok (last, list) else Err QuoteDiffers

-- a quote beside the last posting of its account and week
abbrev pub posted_after : List Posting → QuoteParts → Option Posting → Result (Posting × List Posting) PostFault
posted_after list quote None = posted_anew list quote
posted_after list quote (Some last) =
    if is_stale quote last.quote then Err (StaleQuote last.quote.account last.quote.version last.quote.through)
    else if is_again quote last.quote then posted_again list quote last
    else posted_anew list quote

-- A quote posted: its posting, and all postings then. An old quote is refused, and so is one of the same version and day by which something else was due,
-- or that is of another edition.
abbrev pub post : List Posting → QuoteParts → Result (Posting × List Posting) PostFault
post list quote = posted_after list quote (last_of quote.account quote.week list)

-- quotes posted one after another: the posting of each, and all postings then
abbrev pub post_each : List Posting → List QuoteParts → Result (List Posting × List Posting) PostFault
post_each list [] = Ok ([], list)
post_each list (quote ∷ quotes) = do
  first ← post list quote
  others ← post_each first.1 quotes
  Ok (first.0 ∷ others.0, others.1)

abbrev pub later_quote_of : ℕ → ℕ → Option QuoteParts → QuoteParts → Option QuoteParts
later_quote_of account week last quote = if is_quote_of account week quote then Some quote else last

-- the last quote of an account and a week
abbrev pub last_quote_of : ℕ → ℕ → List QuoteParts → Option QuoteParts
last_quote_of account week quotes = fold (later_quote_of account week) None quotes

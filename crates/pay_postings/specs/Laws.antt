-- What postings come to, and that rows tell them.
use Rattle.std.specs.Prelude.{◌≡◌, ℕ, ℤ, pos, List, map, length, Some, Ok, IsPermutation}
use Rattle.std.specs.List.{AllByRecursion}
use Rattle.pay_rules.specs.declared.posting.Posting.{Posting}
use Rattle.pay_rules.specs.QuoteParts.{QuoteParts, IsQuote}
use Rattle.pay_rules.specs.SetsParts.{SetsParts}
use Rattle.pay_rows.specs.declared.row.ShareRow.{ShareRow}
use Rattle.pay_postings.specs.Amounts.{total}
use Rattle.pay_postings.specs.Postings.{net, shares_posted, last_quote_of}
use Rattle.pay_postings.specs.Paid.{ArePaid}
use Rattle.pay_postings.specs.Ledger.{LedgerParts, posted}
use Rattle.pay_postings.specs.PostingRows.{postings_from_rows}
use Rattle.pay_postings.specs.AccountRows.{of_account, rows_of, shares_of, RiseAfter}

-- ---- once quotes were posted

-- so it is of any quotes and the postings of the ledger after them, if those before were posted one after another
abbrev pub OncePosted : (List QuoteParts → List Posting → Type 0) → Type 0
OncePosted Holds = (ledger after : LedgerParts) (quotes : List QuoteParts) (sets : List SetsParts) (given : List Posting)
    → ArePaid ledger.postings → AllByRecursion IsQuote quotes → posted ledger quotes sets ≡ Ok (given, after) → Holds quotes after.postings

-- the postings after them are such as well
abbrev pub PostedStayKept : Type 0
PostedStayKept = OncePosted (λ quotes after. ArePaid after)

-- so it is of the last of the quotes of each account and week, and of the postings after all of them
abbrev pub ByLastQuote : (QuoteParts → List Posting → Type 0) → Type 0
ByLastQuote Holds = OncePosted (λ quotes after. (quote : QuoteParts) → last_quote_of quote.account quote.week quotes ≡ Some quote → Holds quote after)

-- what the account was charged for the week, less what it was given back, is what is due by that quote
abbrev pub NetIsDue : Type 0
NetIsDue = ByLastQuote (λ quote after. net quote.account quote.week after ≡ pos quote.due)

-- what fell to each operator is its share
abbrev pub SharesAreDue : Type 0
SharesAreDue = ByLastQuote (λ quote after. shares_posted quote.account quote.week after ≡ map pos quote.shares)

-- and what fell to all of them together is what is due
abbrev pub SharesComeToDue : Type 0
SharesComeToDue = ByLastQuote (λ quote after. total (shares_posted quote.account quote.week after) ≡ pos quote.due)

-- ---- rows

-- Of postings that were posted one after another and have rising numbers, those of an account are read back from their rows, in
-- order, and from the rows of their shares, in any order.
abbrev pub PostingsAreReadBack : Type 0
PostingsAreReadBack = (account : ℕ) (before : ℤ) (ids : List ℤ) (list : List Posting) (shares : List ShareRow) → ArePaid list → length ids ≡ length list → RiseAfter before ids
    → IsPermutation (shares_of account ids list) shares → postings_from_rows account (rows_of account ids list) shares ≡ Some (of_account account list)

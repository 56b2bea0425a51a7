-- Postings as rows of whole numbers.
use Rattle.std.specs.Prelude.{◌≡◌, ℕ, ◌+◌, ◌==◌, ◌&&◌, nat_le, Bool, if◌then◌else◌, int_le, ℤ, pos, negsuc, ◌+ℤ◌, unsigned_abs, List, [], ◌∷◌, ◌++◌, map, sum, find, replicate, Option, Some, None, is_some, refl}
use Rattle.std.specs.List.{list_all, range_with_len}
use Rattle.std.specs.Ordering.{int_eq}
use Rattle.pay_day.specs.Words.{monday}
use Rattle.pay_day.specs.declared.limits.TheConstants.{FIRST_DAY, LAST_DAY}
use Rattle.pay_money.specs.declared.limits.TheConstants.{OPERATORS, MOST_MONEY}
use Rattle.pay_rules.specs.declared.limits.TheConstants.{MOST_TAPS, MOST_FIXES}
use Rattle.pay_rules.specs.declared.posting.Posting.{Posting}
use Rattle.pay_rules.specs.QuoteParts.{QuoteParts}
use Rattle.pay_rows.specs.declared.row.PostingRow.{PostingRow}
use Rattle.pay_rows.specs.declared.row.ShareRow.{ShareRow}
use Rattle.pay_postings.specs.Amounts.{added}
use Rattle.pay_postings.specs.Postings.{net, shares_posted}
use Rattle.pay_set_rows.specs.Ranged.{◌>>=◌, ranged}

-- whether an amount is within the largest sum of money either way
abbrev pub is_money : ℤ → Bool
is_money amount = nat_le (unsigned_abs amount) MOST_MONEY

-- whether a row of a share names an operator, and its amount is a sum of money
abbrev pub is_share_row : ShareRow → Bool
is_share_row row = is_some (ranged 1 OPERATORS row.operator) && is_money row.amount

-- whether it is of a posting and an operator
abbrev pub is_share_of : ℤ → ℕ → ShareRow → Bool
is_share_of id operator row = int_eq row.posting id && int_eq row.operator (pos operator)

-- the amount of a row, and 0 without one
abbrev pub amount_or_none : Option ShareRow → ℤ
amount_or_none None = pos 0
amount_or_none (Some row) = row.amount

-- what rows say that fell to an operator of a posting
abbrev pub amount_of : List ShareRow → ℤ → ℕ → ℤ
amount_of shares id operator = amount_or_none (find (is_share_of id operator) shares)

-- and to each operator, from operator 1 on
abbrev pub amounts_of : List ShareRow → ℤ → List ℤ
amounts_of shares id = map (amount_of shares id) (range_with_len 1 OPERATORS)

abbrev pub is_natural : ℤ → Bool
is_natural amount = int_le (pos 0) amount

-- amounts as shares, if none is below 0
abbrev pub naturals : List ℤ → Option (List ℕ)
naturals amounts = if list_all is_natural amounts then Some (map unsigned_abs amounts) else None

-- the first day of the edition of a row, which is a service day, or 0
abbrev pub edition_from_row : PostingRow → Option ℕ
edition_from_row row = if int_eq row.edition (pos 0) then Some 0 else ranged FIRST_DAY LAST_DAY row.edition

-- The quote of a row, by its week and the shares that were posted up to it: each number is in its range, the day is of the week, and the shares are all that is due.
abbrev pub quote_from_row : ℕ → ℕ → PostingRow → List ℕ → Option QuoteParts
quote_from_row account week row shares = do
  through ← ranged FIRST_DAY LAST_DAY row.through
  version ← ranged 0 (MOST_TAPS + MOST_FIXES) row.version
  due ← ranged 0 MOST_MONEY row.due
  edition ← edition_from_row row
  if nat_le 1 account && week == monday through && sum shares == due then Some (record { account = account; week = week; through = through; version = version; due = due; edition = edition; shares = shares }) else None

-- the quote of a row, by its week and what of its posting fell to each operator, after the postings before it
abbrev pub quote_after : ℕ → ℕ → List Posting → List ℤ → PostingRow → Option QuoteParts
quote_after account week before amounts row = naturals (added (shares_posted account week before) amounts) >>= quote_from_row account week row

-- whether an amount is a sum of money, by itself and with those of its week before it
abbrev pub is_amount_after : ℕ → ℕ → List Posting → ℤ → Bool
is_amount_after account week before amount = is_money amount && is_money (net account week before +ℤ amount)

-- the posting of a row, by its week and what of it fell to each operator, after those before it
abbrev pub posting_after : ℕ → ℕ → List Posting → List ℤ → PostingRow → Option Posting
posting_after account week before amounts row = do
  quote ← quote_after account week before amounts row
  if is_amount_after account week before row.amount then Some (record { quote = quote; amount = row.amount; share_amounts = amounts }) else None

-- the week of a row, if it is named by a service day
abbrev pub week_from_row : PostingRow → Option ℕ
week_from_row row = ranged FIRST_DAY LAST_DAY row.week

-- the posting of a row, after those before it
abbrev pub posting_from_row : ℕ → List ShareRow → List Posting → ℤ → PostingRow → Option Posting
posting_from_row account shares before id row = do
  week ← week_from_row row
  posting_after account week before (amounts_of shares id) row

-- the postings of rows, one after another, after those before them
abbrev pub with_rows : ℕ → List ShareRow → List Posting → List (ℤ × PostingRow) → Option (List Posting)
with_rows account shares before [] = Some before
with_rows account shares before (numbered ∷ rows) = do
  posting ← posting_from_row account shares before numbered.0 numbered.1
  with_rows account shares (before ++ posting ∷ []) rows

-- the postings of an account by its rows, each beside its number, and by those of their shares
abbrev pub postings_from_rows : ℕ → List (ℤ × PostingRow) → List ShareRow → Option (List Posting)
postings_from_rows account rows shares = if list_all is_share_row shares then with_rows account shares [] rows else None

-- a posting as a row
abbrev pub posting_row : Posting → PostingRow
posting_row p = record { week = pos p.quote.week; through = pos p.quote.through; version = pos p.quote.version; due = pos p.quote.due; amount = p.amount; edition = pos p.quote.edition }

-- the amount of an operator as a row, and no row for 0
abbrev pub share_row : ℤ → ℕ → ℤ → List ShareRow
share_row id operator amount = if int_eq amount (pos 0) then [] else record { posting = id; operator = pos operator; amount = amount } ∷ []

-- the amounts of the operators from a number on as rows
abbrev pub share_rows_from : ℤ → ℕ → List ℤ → List ShareRow
share_rows_from id operator [] = []
share_rows_from id operator (amount ∷ amounts) = share_row id operator amount ++ share_rows_from id (operator + 1) amounts

-- the share amounts of a posting as rows
abbrev pub share_rows : ℤ → Posting → List ShareRow
share_rows id p = share_rows_from id 1 p.share_amounts

-- ---- worked rows

unfoldable pub charge_row : PostingRow
charge_row = record { week = pos 19_730; through = pos 19_730; version = pos 1; due = pos 860; amount = pos 860; edition = pos 0 }

unfoldable pub refund_row : PostingRow
refund_row = record { week = pos 19_730; through = pos 19_730; version = pos 2; due = pos 340; amount = negsuc 519; edition = pos 4 }

a_share : ℤ → ℤ → ℤ → ShareRow
a_share id operator amount = record { posting = id; operator = operator; amount = amount }

of_operator_1 : ℕ → ℕ → ℤ → ℕ → Posting
of_operator_1 version due amount edition = record {
  quote = record { account = 7; week = 19_730; through = 19_730; version = version; due = due; edition = edition; shares = due ∷ replicate 15 0 };
  amount = amount;
  share_amounts = amount ∷ replicate 15 (pos 0);
}

-- the first was copied, and its edition is not known
charge_and_refund : postings_from_rows 7 ((pos 1, charge_row) ∷ (pos 4, refund_row) ∷ []) (a_share (pos 4) (pos 1) (negsuc 519) ∷ a_share (pos 1) (pos 1) (pos 860) ∷ [])
    ≡ Some (of_operator_1 1 860 (pos 860) 0 ∷ of_operator_1 2 340 (negsuc 519) 4 ∷ [])
unfolding charge_row refund_row a_share of_operator_1
charge_and_refund = refl

row_of_refund : posting_row (of_operator_1 2 340 (negsuc 519) 4) ≡ refund_row
unfolding refund_row of_operator_1
row_of_refund = refl

share_of_refund : share_rows (pos 4) (of_operator_1 2 340 (negsuc 519) 4) ≡ a_share (pos 4) (pos 1) (negsuc 519) ∷ []
unfolding a_share of_operator_1
share_of_refund = refl

-- without the share of the refund, the shares are no longer what was due
share_missing : postings_from_rows 7 ((pos 1, charge_row) ∷ (pos 4, refund_row) ∷ []) (a_share (pos 1) (pos 1) (pos 860) ∷ []) ≡ None
unfolding charge_row refund_row a_share
share_missing = refl

-- days 3 and 50,001 are no service days, and -1 is no day
edition_too_early : edition_from_row (record charge_row { edition = pos 3 }) ≡ None
unfolding charge_row
edition_too_early = refl

edition_too_late : edition_from_row (record charge_row { edition = pos 50_001 }) ≡ None
unfolding charge_row
edition_too_late = refl

edition_below_zero : postings_from_rows 7 ((pos 1, record charge_row { edition = negsuc 0 }) ∷ []) (a_share (pos 1) (pos 1) (pos 860) ∷ []) ≡ None
unfolding charge_row a_share
edition_below_zero = refl

no_operator : postings_from_rows 7 [] (a_share (pos 1) (pos 17) (pos 0) ∷ []) ≡ None
unfolding a_share
no_operator = refl

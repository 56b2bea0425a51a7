-- What was posted for an account and a week, as JSON.
use Rattle.std.specs.Prelude.{◌≡◌, ℕ, if◌then◌else◌, ℤ, pos, negsuc, List, [], ◌∷◌, ◌++◌, true, Option, Some, None, codes, decimal, refl}
use Rattle.std.specs.Fmt.{digits}
use Rattle.std.specs.List.{enumerate_from}
use Rattle.std.specs.Ordering.{int_eq}
use Rattle.json.specs.Print.{escape_byte}
use Rattle.serde_json.specs.Data.{Data, null, unsigned, negative, number, array, Members, no_members}
use Rattle.serde_json.specs.Written.{compact_text, members_text}
use Rattle.pay_dates.specs.Words.{date_text_of}
use Rattle.pay_names.specs.Words.{Named}
use Rattle.pay_rules.specs.declared.posting.Posting.{Posting}
use Rattle.pay_page.specs.declared.posted.Posted.{Posted}
use Rattle.pay_page.specs.declared.posted.PostedWeek.{PostedWeek}
use Rattle.pay_page.specs.declared.posted.Posted.TheVariants.{NoLedger, Unknown, Known}
use Rattle.pay_json.specs.Places.{place_value}
use Rattle.pay_json.specs.Values.{all_joined, fields, items_of, whole}
use Rattle.pay_json.specs.Weeks.{dated_value}

-- a whole number, which may be below 0
unfoldable pub signed : ℤ → Data
signed (pos n) = number (unsigned n)
signed (negsuc n) = number (negative (negsuc n))

-- what of a posting fell to an operator, by its name, if it has one
unfoldable pub share_members : Named → ℕ → ℤ → Members
share_members names operator amount = fields ((codes "operator", place_value names operator) ∷ (codes "amount_pence", signed amount) ∷ [])

-- and nothing where that is nothing
abbrev pub share_of : Named → ℕ × ℤ → Option Members
share_of names one = if int_eq one.1 (pos 0) then None else Some (share_members names one.0 one.1)

abbrev pub shares_joined : Named → List ℤ → List ℕ
shares_joined names amounts = all_joined (share_of names) [] (enumerate_from 1 amounts)

abbrev pub shares_value : Named → List ℤ → Data
shares_value names amounts = array (items_of (share_of names) (enumerate_from 1 amounts))

-- a posting: what was charged, or given back below 0, through which day, what was due by then, how many taps and corrections were accepted
-- then and are by the journals, and what of it fell to operators
unfoldable pub posting_members : ℕ → Posting → List ℕ → Data → Members
posting_members now p date shares =
    fields (
    (codes "amount_pence", signed p.amount) ∷ (codes "through", dated_value p.quote.through date) ∷ (codes "due_pence", whole p.quote.due)
    ∷ (codes "accepted_then", whole p.quote.version) ∷ (codes "accepted_now", whole now) ∷ (codes "shares", shares) ∷ [])

abbrev pub posting_of : Named → ℕ → Posting → Option Members
posting_of names now p = Some (posting_members now p (date_text_of p.quote.through) (shares_value names p.share_amounts))

-- the end of its text: how many were accepted then and are now, and the text of its shares
unfoldable pub accepted_text : ℕ → ℕ → List ℕ → List ℕ
accepted_text posted now shares =
    codes ",\"accepted_then\":" ++ (decimal posted ++ (codes ",\"accepted_now\":" ++ (decimal now ++ (codes ",\"shares\":" ++ (shares ++ codes "}")))))

-- its text, by its amount, the day through which it is with that day's date, what was due by then, and its end
unfoldable pub posting_text : ℤ → ℕ × List ℕ → ℕ → List ℕ → List ℕ
posting_text amount through due end =
    codes "{\"amount_pence\":"
    ++ (compact_text (signed amount) ++ (codes ",\"through\":" ++ (compact_text (dated_value through.0 through.1) ++ (codes ",\"due_pence\":" ++ (decimal due ++ end)))))

abbrev pub postings_joined : Named → ℕ → List Posting → List ℕ
postings_joined names now postings = all_joined (posting_of names now) [] postings

abbrev pub postings_value : Named → ℕ → List Posting → Data
postings_value names now postings = array (items_of (posting_of names now) postings)

-- what a week has of it, with these names of operators and this version of the account now: nothing where no ledger is looked at, and else its postings, or that they are not known
abbrev pub posted_members : Named → ℕ → Posted → Members
posted_members names now NoLedger = no_members
posted_members names now Unknown = fields ((codes "posted", null) ∷ [])
posted_members names now (Known postings) = fields ((codes "posted", postings_value names now postings) ∷ [])

-- the same of what was posted for a week
abbrev pub posted_of : PostedWeek → Members
posted_of week = posted_members week.operators.now week.version week.posted.now

-- the end of an object's text with that field, by the text of its value
abbrev pub posted_end : List ℕ → List ℕ
posted_end text = codes ",\"posted\":" ++ (text ++ codes "}")

-- ---- worked rows

given_back : compact_text (signed (negsuc 149)) ≡ codes "-150"
unfolding digits signed
given_back = refl

to_the_metro : compact_text (shares_value ((1, codes "Metro") ∷ []) (pos 540 ∷ pos 0 ∷ negsuc 149 ∷ []))
    ≡ codes "[{\"operator\":{\"number\":1,\"name\":\"Metro\"},\"amount_pence\":540},{\"operator\":{\"number\":3},\"amount_pence\":-150}]"
unfolding digits escape_byte share_members place_value signed
to_the_metro = refl

not_known : members_text true (posted_members [] 5 Unknown) ≡ codes ",\"posted\":null}"
unfolding escape_byte
not_known = refl

nothing_posted : members_text true (posted_members [] 5 (Known [])) ≡ codes ",\"posted\":[]}"
unfolding escape_byte
nothing_posted = refl

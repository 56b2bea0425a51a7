-- The replies as lines.
use Rattle.std.specs.Prelude.{◌≡◌, ℕ, ◌+◌, ◌<◌, ◌^◌, true, false, List, [], ◌∷◌, ◌++◌, length, map, replicate, ℤ, pos, negsuc, None, if◌then◌else◌, codes, refl, decimal}
use Rattle.std.specs.Fmt.{digits, signed_decimal}
use Rattle.std.specs.Int.Signed.{mag}
use Rattle.std.specs.Str.{bytes_eq}
use Rattle.std.specs.List.{join_with_byte, flat_map, AllByRecursion}
use Rattle.pay_wire.specs.declared.refusal.Refusal.{Refusal}
use Rattle.pay_wire.specs.declared.refusal.Refusal.TheVariants.{OutOfTime, UnknownPlace, Conflict, AccountFull, FixConflict, FixesFull, Busy, Window, NotHere, StaleQuote, Store, DeskFault, BadArchive, ArchiveConflict, QuoteDiffers, NotKept, NotOver, BadLine, LongLine, Late, Memory}
use Rattle.pay_rules.specs.declared.priced.Priced.{Priced}
use Rattle.pay_rules.specs.declared.posting.Posting.{Posting}
use Rattle.pay_rules.specs.QuoteParts.{QuoteParts}
use Rattle.pay_rules.specs.KindWords.{word_of_kind}
use Rattle.pay_rules.specs.declared.shown.Line.{Line}
use Rattle.pay_rules.specs.declared.shown.LineKind.TheVariants as kind
use Rattle.pay_rules.specs.declared.shown.Shown.{Shown}
use Rattle.pay_money.specs.declared.limits.TheConstants.{OPERATORS}
use Rattle.pay_wire.specs.declared.reply.Closed.{Closed}
use Rattle.pay_wire.specs.declared.reply.SpelledReply.{SpelledReply}
use Rattle.pay_wire.specs.declared.reply.SpelledReply.TheVariants as replies

-- the number of a refusal, which stays its own
abbrev pub refusal_number : Refusal → ℕ
refusal_number OutOfTime = 1
refusal_number UnknownPlace = 15
refusal_number Conflict = 20
refusal_number AccountFull = 21
refusal_number FixConflict = 22
refusal_number FixesFull = 23
refusal_number Busy = 30
refusal_number Window = 31
refusal_number NotHere = 34
refusal_number StaleQuote = 42
refusal_number Store = 43
refusal_number DeskFault = 44
refusal_number BadArchive = 45
refusal_number ArchiveConflict = 46
refusal_number QuoteDiffers = 47
refusal_number NotKept = 48
refusal_number NotOver = 49
refusal_number BadLine = 50
refusal_number LongLine = 51
refusal_number Late = 52
refusal_number Memory = 90

-- the name of a refusal
abbrev pub refusal_name : Refusal → List ℕ
refusal_name OutOfTime = codes "OutOfTime"
refusal_name UnknownPlace = codes "UnknownPlace"
refusal_name Conflict = codes "Conflict"
refusal_name AccountFull = codes "AccountFull"
refusal_name FixConflict = codes "FixConflict"
refusal_name FixesFull = codes "FixesFull"
refusal_name Busy = codes "Busy"
refusal_name Window = codes "Window"
refusal_name NotHere = codes "NotHere"
refusal_name StaleQuote = codes "StaleQuote"
refusal_name Store = codes "Store"
refusal_name DeskFault = codes "DeskFault"
refusal_name BadArchive = codes "BadArchive"
refusal_name ArchiveConflict = codes "ArchiveConflict"
refusal_name QuoteDiffers = codes "QuoteDiffers"
refusal_name NotKept = codes "NotKept"
refusal_name NotOver = codes "NotOver"
refusal_name BadLine = codes "BadLine"
refusal_name LongLine = codes "LongLine"
refusal_name Late = codes "Late"
refusal_name Memory = codes "Memory"

-- a tap was accepted, or had been before; the day, and the prices with it
abbrev pub words_of_priced : Priced → List (List ℕ)
words_of_priced p =
    (if p.again then codes "AGAIN" else codes "OK") ∷ decimal p.day ∷ decimal p.day_price ∷ decimal p.week_price ∷ []

-- a refusal: its number and its name
abbrev pub words_of_refusal : Refusal → List (List ℕ)
words_of_refusal r = codes "NO" ∷ decimal (refusal_number r) ∷ refusal_name r ∷ []

-- a journey: what it was, from where to where, the instant of its first tap, and its fare
abbrev pub words_of_journey : Line → List (List ℕ)
words_of_journey l = codes "JNY" ∷ word_of_kind l.kind ∷ decimal l.from ∷ decimal l.to ∷ decimal l.utc ∷ decimal l.fare ∷ []

-- a day that is shown: the account, the day, how many journeys it has, and its price
abbrev pub words_of_shown : Shown → List (List ℕ)
words_of_shown s = codes "SHOW" ∷ decimal s.account ∷ decimal s.day ∷ decimal (length s.lines) ∷ decimal s.day_price ∷ []

-- an operator and the numeral of its share, as `operator=pence`
abbrev pub word_of_share : ℕ → List ℕ → List ℕ
word_of_share operator share = decimal operator ++ codes "=" ++ share

-- a share that is 0 has no word
abbrev pub words_of_share : ℕ → List ℕ → List (List ℕ)
words_of_share operator share = if bytes_eq share (codes "0") then [] else word_of_share operator share ∷ []

-- the shares of an operator and of those after it, by their numerals, in ascending order of operator
abbrev pub words_of_shares : ℕ → List (List ℕ) → List (List ℕ)
words_of_shares operator [] = []
words_of_shares operator (share ∷ more) = words_of_share operator share ++ words_of_shares (operator + 1) more

-- the account, the week, the day through which it is, the version, and the pence that are due
abbrev pub words_of_quote : QuoteParts → List (List ℕ)
words_of_quote q = decimal q.account ∷ decimal q.week ∷ decimal q.through ∷ decimal q.version ∷ decimal q.due ∷ []

-- what is due: the quote, and the shares of the operators from 1 on
abbrev pub words_of_due : QuoteParts → List (List ℕ)
words_of_due q = codes "DUE" ∷ words_of_quote q ++ words_of_shares 1 (map decimal q.shares)

-- a posting: the quote, what was charged, below 0 what was given back, and what of it fell to the operators from 1 on
abbrev pub words_of_posting : Posting → List (List ℕ)
words_of_posting p =
    codes "PAY" ∷ words_of_quote p.quote ++ signed_decimal p.amount ∷ words_of_shares 1 (map signed_decimal p.share_amounts)

-- the end of a close: the day, and how many postings there are
abbrev pub words_of_closed : Closed → List (List ℕ)
words_of_closed c = codes "DONE" ∷ decimal c.day ∷ decimal (length c.postings) ∷ []

-- the words of the line that each reply has, in order
abbrev pub words_of_reply : SpelledReply → List (List ℕ)
words_of_reply (replies.Priced p) = words_of_priced p
words_of_reply (replies.Shown s) = words_of_shown s
words_of_reply (replies.Due q) = words_of_due q
words_of_reply (replies.Closed c) = words_of_closed c
words_of_reply (replies.No r) = words_of_refusal r
words_of_reply replies.Bye = codes "BYE" ∷ []

-- words as a line: a space between each two, and the newline at the end
abbrev pub line_of_words : List (List ℕ) → List ℕ
line_of_words ws = join_with_byte 32 ws ++ codes "\n"

-- further words of a line: a space stands before each
abbrev pub text_of_fields : List (List ℕ) → List ℕ
text_of_fields = flat_map (λ word. 32 ∷ word)

-- the postings that have lines of their own before that line
abbrev pub postings_of_reply : SpelledReply → List Posting
postings_of_reply (replies.Closed c) = c.postings
postings_of_reply _ = []

-- postings, a line for each
abbrev pub text_of_postings : List Posting → List ℕ
text_of_postings = flat_map (λ p. line_of_words (words_of_posting p))

-- the journeys that have lines of their own after that line
abbrev pub journeys_of_reply : SpelledReply → List Line
journeys_of_reply (replies.Shown s) = s.lines
journeys_of_reply _ = []

-- journeys, a line for each
abbrev pub text_of_journeys : List Line → List ℕ
text_of_journeys = flat_map (λ l. line_of_words (words_of_journey l))

-- the lines of a reply after its postings: the line that each has, and the journeys
abbrev pub ending_of_reply : SpelledReply → List ℕ
ending_of_reply reply = line_of_words (words_of_reply reply) ++ text_of_journeys (journeys_of_reply reply)

-- the lines of a reply, newlines included
abbrev pub spelling_of_reply : SpelledReply → List ℕ
spelling_of_reply reply = text_of_postings (postings_of_reply reply) ++ ending_of_reply reply

-- a journey as who reads its line knows it: its day stands in the first line, and its local second and a band nowhere
abbrev pub journey_as_read : Line → Line
journey_as_read l = record { day = 0; kind = l.kind; from = l.from; to = l.to; utc = l.utc; second = 0; fare = l.fare; band = None }

-- a quote as who reads its line knows it: its edition stands nowhere
abbrev pub quote_as_read : QuoteParts → QuoteParts
quote_as_read q = record { account = q.account; week = q.week; through = q.through; version = q.version; due = q.due; edition = 0; shares = q.shares }

-- a posting as who reads its line knows it: nor do the shares of what is due
abbrev pub posting_as_read : Posting → Posting
posting_as_read p = record {
  quote = record { account = p.quote.account; week = p.quote.week; through = p.quote.through; version = p.quote.version; due = p.quote.due; edition = 0; shares = [] };
  amount = p.amount;
  share_amounts = p.share_amounts;
}

-- a reply as who reads its lines knows it
abbrev pub reply_as_read : SpelledReply → SpelledReply
reply_as_read (replies.Shown s) = replies.Shown (record { account = s.account; day = s.day; lines = map journey_as_read s.lines; day_price = s.day_price })
reply_as_read (replies.Due q) = replies.Due (quote_as_read q)
reply_as_read (replies.Closed c) = replies.Closed (record { day = c.day; postings = map posting_as_read c.postings })
reply_as_read reply = reply

-- the numbers of a journey are those of its type
abbrev pub IsReplyJourney : Line → Type 0
IsReplyJourney l = (l.from < 2 ^ 16) × (l.to < 2 ^ 16) × (l.utc < 2 ^ 64) × (l.fare < 2 ^ 64)

-- the numbers of a quote, its edition and its shares apart, are those of its types
pub record IsReplyNumbers (quote : QuoteParts) : Type 0 where
  pub account : quote.account < 2 ^ 32
  pub week : quote.week < 2 ^ 32
  pub through : quote.through < 2 ^ 32
  pub version : quote.version < 2 ^ 32
  pub due : quote.due < 2 ^ 64

-- the numbers of a quote are those of its types, and each operator has a share, if only 0
pub record IsReplyQuote (quote : QuoteParts) : Type 0 where
  pub numbers : IsReplyNumbers quote
  pub operators : length quote.shares ≡ OPERATORS
  pub shares : AllByRecursion (λ share. share < 2 ^ 64) quote.shares

-- the numbers of a posting are those of its types, and each operator has an amount, if only 0
pub record IsReplyPosting (posting : Posting) : Type 0 where
  pub numbers : IsReplyNumbers posting.quote
  pub within : mag posting.amount < 2 ^ 63
  pub operators : length posting.share_amounts ≡ OPERATORS
  pub shares : AllByRecursion (λ amount. mag amount < 2 ^ 63) posting.share_amounts

-- the numbers of a reply are those of its types
abbrev pub IsReply : SpelledReply → Type 0
IsReply (replies.Priced p) = (p.day < 2 ^ 32) × (p.day_price < 2 ^ 64) × (p.week_price < 2 ^ 64)
IsReply (replies.Shown s) = (s.account < 2 ^ 32) × (s.day < 2 ^ 32) × (length s.lines < 2 ^ 64) × (s.day_price < 2 ^ 64) × AllByRecursion IsReplyJourney s.lines
IsReply (replies.Due q) = IsReplyQuote q
IsReply (replies.Closed c) = (c.day < 2 ^ 32) × (length c.postings < 2 ^ 64) × AllByRecursion IsReplyPosting c.postings
IsReply (replies.No r) = Unit {0}
IsReply replies.Bye = Unit {0}

accepted_tap : spelling_of_reply (replies.Priced (record { again = false; day = 19_730; day_price = 175; week_price = 350 })) ≡ codes "OK 19730 175 350\n"
unfolding digits
accepted_tap = refl

accepted_before : spelling_of_reply (replies.Priced (record { again = true; day = 6; day_price = 0; week_price = 175 })) ≡ codes "AGAIN 6 0 175\n"
unfolding digits
accepted_before = refl

-- an account's day of one boarding
shown_day : spelling_of_reply (replies.Shown (record {
  account = 7;
  day = 19_730;
  lines = record { day = 19_730; kind = kind.Bus; from = 50; to = 0; utc = 1_704_696_200; second = 24_200; fare = 175; band = None } ∷ [];
  day_price = 350;
})) ≡ codes "SHOW 7 19730 1 350\nJNY BUS 50 0 1704696200 175\n"
unfolding digits
shown_day = refl

-- a day without journeys
empty_day : spelling_of_reply (replies.Shown (record { account = 7; day = 19_730; lines = []; day_price = 0 })) ≡ codes "SHOW 7 19730 0 0\n"
unfolding digits
empty_day = refl

-- what account 7 owes for a week through one of its days, at a version, by the edition from day 4 on
abbrev quoted : ℕ → ℕ → ℕ → ℕ → List ℕ → SpelledReply
quoted week through version due shares =
    replies.Due (record { account = 7; week = week; through = through; version = version; due = due; edition = 4; shares = shares })

due_to_one_operator : spelling_of_reply (quoted 19_723 19_729 2 280 (280 ∷ replicate 15 0)) ≡ codes "DUE 7 19723 19729 2 280 1=280\n"
unfolding digits
due_to_one_operator = refl

due_to_two_operators : spelling_of_reply (quoted 19_730 19_730 6 890 (593 ∷ 297 ∷ replicate 14 0)) ≡ codes "DUE 7 19730 19730 6 890 1=593 2=297\n"
unfolding digits
due_to_two_operators = refl

due_to_three_operators : spelling_of_reply (quoted 19_730 19_730 8 1_050 (595 ∷ 297 ∷ 158 ∷ replicate 13 0)) ≡ codes "DUE 7 19730 19730 8 1050 1=595 2=297 3=158\n"
unfolding digits
due_to_three_operators = refl

due_to_operator_4 : spelling_of_reply (quoted 19_730 19_730 1 175 (0 ∷ 0 ∷ 0 ∷ 175 ∷ replicate 12 0)) ≡ codes "DUE 7 19730 19730 1 175 4=175\n"
unfolding digits
due_to_operator_4 = refl

due_to_the_last_operator : spelling_of_reply (quoted 19_730 19_734 3 5 (replicate 15 0 ++ 5 ∷ [])) ≡ codes "DUE 7 19730 19734 3 5 16=5\n"
unfolding digits
due_to_the_last_operator = refl

nothing_due : spelling_of_reply (quoted 19_730 19_730 0 0 (replicate 16 0)) ≡ codes "DUE 7 19730 19730 0 0\n"
unfolding digits
nothing_due = refl

-- what was posted for a quote of account 7, by that edition
abbrev posted : ℕ → ℕ → ℕ → ℤ → List ℤ → Posting
posted through version due amount share_amounts = record {
  quote = record { account = 7; week = 19_730; through = through; version = version; due = due; edition = 4; shares = 0 ∷ 0 ∷ 0 ∷ due ∷ replicate 12 0 };
  amount = amount;
  share_amounts = share_amounts;
}

-- an amount that falls to operator 4 alone
abbrev to_operator_4 : ℤ → List ℤ
to_operator_4 amount = pos 0 ∷ pos 0 ∷ pos 0 ∷ amount ∷ replicate 12 (pos 0)

-- a close of day 19730
abbrev closed_of : List Posting → SpelledReply
closed_of postings = replies.Closed (record { day = 19_730; postings = postings })

charge : spelling_of_reply (closed_of (posted 19_730 1 175 (pos 175) (to_operator_4 (pos 175)) ∷ [])) ≡ codes "PAY 7 19730 19730 1 175 175 4=175\nDONE 19730 1\n"
unfolding digits
charge = refl

no_charge : spelling_of_reply (closed_of (posted 19_731 1 175 (pos 0) (replicate 16 (pos 0)) ∷ [])) ≡ codes "PAY 7 19730 19731 1 175 0\nDONE 19730 1\n"
unfolding digits
no_charge = refl

refund : spelling_of_reply (closed_of (posted 19_730 2 0 (negsuc 174) (to_operator_4 (negsuc 174)) ∷ [])) ≡ codes "PAY 7 19730 19730 2 0 -175 4=-175\nDONE 19730 1\n"
unfolding digits
refund = refl

charge_and_refund : spelling_of_reply (closed_of (posted 19_730 1 175 (pos 175) (to_operator_4 (pos 175)) ∷ posted 19_730 2 0 (negsuc 174) (to_operator_4 (negsuc 174)) ∷ [])) ≡ codes "PAY 7 19730 19730 1 175 175 4=175\nPAY 7 19730 19730 2 0 -175 4=-175\nDONE 19730 2\n"
unfolding digits
charge_and_refund = refl

empty_close : spelling_of_reply (closed_of []) ≡ codes "DONE 19730 0\n"
unfolding digits
empty_close = refl

not_closed_here : spelling_of_reply (replies.No NotHere) ≡ codes "NO 34 NotHere\n"
unfolding digits
not_closed_here = refl

longest_refusal : spelling_of_reply (replies.No ArchiveConflict) ≡ codes "NO 46 ArchiveConflict\n"
unfolding digits
longest_refusal = refl

too_late : spelling_of_reply (replies.No Late) ≡ codes "NO 52 Late\n"
unfolding digits
too_late = refl

no_such_place : spelling_of_reply (replies.No UnknownPlace) ≡ codes "NO 15 UnknownPlace\n"
unfolding digits
no_such_place = refl

another_fix : spelling_of_reply (replies.No FixConflict) ≡ codes "NO 22 FixConflict\n"
unfolding digits
another_fix = refl

too_many_fixes : spelling_of_reply (replies.No FixesFull) ≡ codes "NO 23 FixesFull\n"
unfolding digits
too_many_fixes = refl

out_of_time : spelling_of_reply (replies.No OutOfTime) ≡ codes "NO 1 OutOfTime\n"
unfolding digits
out_of_time = refl

-- The replies of all partitions to the close of a day, put together as one.
use Rattle.std.specs.Prelude.{◌≡◌, ℕ, nat_eq, Bool, true, false, List, [], ◌∷◌, ◌++◌, take, drop, length, map, flat_map, Option, Some, None, option_map, option_and_then, IfSome, unwrap_or, if◌then◌else◌, codes, decimal, refl, IsPermutation, IsSortedByKey}
use Rattle.std.specs.Fmt.{digits}
use Rattle.std.specs.List.{position_or_len, starts_with}
use Rattle.std.specs.Ordering.{nat_cmp}
use Rattle.pay_numeral.specs.Numerals.{number_of}
use Rattle.pay_session.specs.Requests.{InputLine, input_lines, rest_of}
use Rattle.pay_wire.specs.Fields.{is_space}
use Rattle.pay_front.specs.declared.closes.Posted.{Posted}

-- a posting in a reply: its account, and its line without a newline
pub record PostedLine : Type 0 where
  pub account : ℕ
  pub line : List ℕ

abbrev pub posted_line : Posted → PostedLine
posted_line it = record { account = it.account; line = it.line.now }

-- what stands before the first space, or all
abbrev pub first_word : List ℕ → List ℕ
first_word text = take (position_or_len is_space text) text

-- what stands after the word of a posting
abbrev pub after_pay : List ℕ → Option (List ℕ)
after_pay line = if starts_with nat_eq line (codes "PAY ") then Some (drop 4 line) else None

-- the account of the line of a posting
abbrev pub account_in : List ℕ → Option ℕ
account_in line = option_and_then (λ fields. number_of (first_word fields)) (after_pay line)

-- the line after the postings
abbrev pub is_done : List ℕ → Bool
is_done line = starts_with nat_eq line (codes "DONE ")

-- lines of postings, and then one that says that it is done
abbrev pub with_line : Option ℕ → List ℕ → List (List ℕ) → Option (List PostedLine) → Option (List PostedLine)
with_line (Some account) line lines more = option_map (λ l. record { account = account; line = line } ∷ l) more
with_line None line [] more = if is_done line then Some [] else None
with_line None line (other ∷ lines) more = None

abbrev pub postings_in : List (List ℕ) → Option (List PostedLine)
postings_in [] = None
postings_in (line ∷ lines) = with_line (account_in line) line lines (postings_in lines)

-- the lines of a text, which newlines end
abbrev pub lines_of : List ℕ → List (List ℕ)
lines_of text = map (λ (l : InputLine). l.text) (input_lines text)

-- the postings of the reply to a close, and none where it is another reply
abbrev pub if_whole : List ℕ → Option (List PostedLine) → Option (List PostedLine)
if_whole [] postings = postings
if_whole (byte ∷ rest) postings = None

abbrev pub close_in : List ℕ → Option (List PostedLine)
close_in reply = if_whole (rest_of reply) (postings_in (lines_of reply))

-- The postings of a reply stand after others. Of one that is none to a close nothing is said.
abbrev pub Adds : Bool → Option (List PostedLine) → List PostedLine → List PostedLine → Type 0
Adds true close before after = (postings : List PostedLine) × (close ≡ Some postings) × (after ≡ before ++ postings)
Adds false close before after = close ≡ None

-- the first reply that is none to a close
abbrev pub other_or : Option (List PostedLine) → List ℕ → Option (List ℕ) → Option (List ℕ)
other_or (Some postings) reply more = more
other_or None reply more = Some reply

abbrev pub first_other : List (List ℕ) → Option (List ℕ)
first_other [] = None
first_other (reply ∷ replies) = other_or (close_in reply) reply (first_other replies)

-- the postings of all
abbrev pub all_postings : List (List ℕ) → List PostedLine
all_postings [] = []
all_postings (reply ∷ replies) = unwrap_or (close_in reply) [] ++ all_postings replies

-- the reply to the close of a day
abbrev pub close_text : ℕ → List PostedLine → List ℕ
close_text day postings = flat_map (λ (p : PostedLine). p.line ++ codes "\n") postings ++ (codes "DONE " ++ (decimal day ++ (codes " " ++ (decimal (length postings) ++ codes "\n"))))

-- What the replies come to: the first that is none to a close, or all postings by account.
pub record IsPutTogether (day : ℕ) (replies : List (List ℕ)) (out : List ℕ) : Type 0 where
  pub other : IfSome (first_other replies) (λ reply. out ≡ reply)
  pub close : first_other replies ≡ None → (sorted : List Posted) × IsPermutation (all_postings replies) (map posted_line sorted) × IsSortedByKey (λ (p : Posted). p.account) nat_cmp sorted × (out ≡ close_text day (map posted_line sorted))

-- ---- worked rows

of_account_7 : account_in (codes "PAY 7 19730 19730 1 175 175 4=175") ≡ Some 7
unfolding digits
of_account_7 = refl

of_no_account : account_in (codes "DONE 19730 1") ≡ None
of_no_account = refl

one_posting : close_in (codes "PAY 7 19730\nDONE 19730 1\n") ≡ Some (record { account = 7; line = codes "PAY 7 19730" } ∷ [])
unfolding digits
one_posting = refl

refused : close_in (codes "NO 42 StaleQuote\n") ≡ None
refused = refl

not_whole : close_in (codes "DONE 19730 0\nNO") ≡ None
not_whole = refl

two_partitions : all_postings (codes "PAY 7 19730\nDONE 19730 1\n" ∷ codes "DONE 19730 0\n" ∷ codes "PAY 2 19730\nDONE 19730 1\n" ∷ [])
    ≡ record { account = 7; line = codes "PAY 7 19730" } ∷ record { account = 2; line = codes "PAY 2 19730" } ∷ []
unfolding digits
two_partitions = refl

as_one : close_text 19_730 (record { account = 2; line = codes "PAY 2 19730" } ∷ record { account = 7; line = codes "PAY 7 19730" } ∷ []) ≡ codes "PAY 2 19730\nPAY 7 19730\nDONE 19730 2\n"
unfolding digits
as_one = refl

one_refuses : first_other (codes "DONE 19730 0\n" ∷ codes "NO 42 StaleQuote\n" ∷ codes "NO 52 Late\n" ∷ []) ≡ Some (codes "NO 42 StaleQuote\n")
one_refuses = refl

-- Replies that follow one another are told apart.
use Rattle.std.proofs.Common.{◌≡◌, ℕ, suc, ◌<◌, ◌≤◌, ◌^◌, Bool, true, false, List, [], ◌∷◌, ◌++◌, map, length, ℤ, pos, negsuc, None, refl, sym, ap, ◌∙◌, append_assoc, arith, codes}
use Rattle.std.specs.Prelude.{decimal, ◌==◌, ◌≢◌, if◌then◌else◌}
use Rattle.std.specs.Fmt.{signed_decimal}
use Rattle.std.specs.Int.Signed.{mag}
use Rattle.std.specs.List.{join_with_byte, AllByRecursion, flat_map}
use Rattle.std.proofs.lemmas.Bool.{ne_eqb}
use Rattle.std.proofs.lemmas.Fmt.{decimal_injective, signed_decimal_injective}
use Rattle.std.proofs.lemmas.List.{length-append}
use Rattle.std.proofs.lemmas.List.Splits.{join_with_byte-slice_split}
use Rattle.pay_wire.specs.declared.refusal.Refusal.{Refusal}
use Rattle.pay_wire.specs.declared.refusal.Refusal.TheVariants.{OutOfTime, UnknownPlace, Conflict, AccountFull, FixConflict, FixesFull, Busy, Window, NotHere, StaleQuote, Store, DeskFault, BadArchive, ArchiveConflict, QuoteDiffers, NotKept, NotOver, BadLine, LongLine, Late, Memory}
use Rattle.pay_rules.specs.declared.priced.Priced.{Priced}
use Rattle.pay_rules.specs.declared.posting.Posting.{Posting}
use Rattle.pay_rules.specs.QuoteParts.{QuoteParts}
use Rattle.pay_rules.specs.KindWords.{word_of_kind}
use Rattle.pay_wire.specs.declared.reply.SpelledReply.{SpelledReply}
use Rattle.pay_wire.specs.declared.reply.SpelledReply.TheVariants as replies
use Rattle.pay_wire.specs.Fields.{words}
use Rattle.pay_wire.specs.Replies.{refusal_number, refusal_name, line_of_words, words_of_journey, words_of_shares, words_of_quote, words_of_due, words_of_posting, words_of_reply, postings_of_reply, text_of_postings, journeys_of_reply, text_of_journeys, ending_of_reply, spelling_of_reply, journey_as_read, quote_as_read, posting_as_read, reply_as_read, IsReplyJourney, IsReplyNumbers, IsReplyQuote, IsReplyPosting, IsReply}
use Rattle.pay_rules.specs.declared.shown.Line.{Line}
use Rattle.pay_rules.specs.declared.shown.LineKind.{LineKind}
use Rattle.pay_rules.specs.declared.shown.LineKind.TheVariants as kind
use Rattle.pay_wire.proofs.ShareWords.{AreNumerals, numeral_words_visible, one_from_share_words}
use Rattle.pay_wire.proofs.Visible.{is_visible, decimal_visible, AllVisible, IsText, words_joined, text_joined, pieces}

-- ---- one reply

name_visible : (r : Refusal) → is_visible (refusal_name r) ≡ true
name_visible OutOfTime = refl
name_visible UnknownPlace = refl
name_visible Conflict = refl
name_visible AccountFull = refl
name_visible FixConflict = refl
name_visible FixesFull = refl
name_visible Busy = refl
name_visible Window = refl
name_visible NotHere = refl
name_visible StaleQuote = refl
name_visible Store = refl
name_visible DeskFault = refl
name_visible BadArchive = refl
name_visible ArchiveConflict = refl
name_visible QuoteDiffers = refl
name_visible NotKept = refl
name_visible NotOver = refl
name_visible BadLine = refl
name_visible LongLine = refl
name_visible Late = refl
name_visible Memory = refl

number_small : (r : Refusal) → refusal_number r < 100
number_small OutOfTime = omega arith
number_small UnknownPlace = omega arith
number_small Conflict = omega arith
number_small AccountFull = omega arith
number_small FixConflict = omega arith
number_small FixesFull = omega arith
number_small Busy = omega arith
number_small Window = omega arith
number_small NotHere = omega arith
number_small StaleQuote = omega arith
number_small Store = omega arith
number_small DeskFault = omega arith
number_small BadArchive = omega arith
number_small ArchiveConflict = omega arith
number_small QuoteDiffers = omega arith
number_small NotKept = omega arith
number_small NotOver = omega arith
number_small BadLine = omega arith
number_small LongLine = omega arith
number_small Late = omega arith
number_small Memory = omega arith

opening_visible : (again : Bool) → is_visible (if again then codes "AGAIN" else codes "OK") ≡ true
opening_visible true = refl
opening_visible false = refl

signed_visible : (n : ℤ) → mag n < 2 ^ 63 → is_visible (signed_decimal n) ≡ true
signed_visible (pos n) lt = decimal_visible n (omega (arith, lt))
signed_visible (negsuc n) lt = decimal_visible (suc n) (omega (arith, lt))

decimals : AreNumerals (λ share. share < 2 ^ 64) decimal
decimals = record { seen = decimal_visible; one = decimal_injective }

signed_decimals : AreNumerals (λ amount. mag amount < 2 ^ 63) signed_decimal
signed_decimals = record { seen = signed_visible; one = signed_decimal_injective }

-- a quote's numbers, before words that are visible
quote_visible : (q : QuoteParts) (ws : List (List ℕ)) → IsReplyNumbers q → AllVisible ws → AllVisible (words_of_quote q ++ ws)
quote_visible q ws fits seen = (
  decimal_visible q.account (omega (arith, fits.account)),
  (
    decimal_visible q.week (omega (arith, fits.week)),
    (
      decimal_visible q.through (omega (arith, fits.through)),
      (decimal_visible q.version (omega (arith, fits.version)), (decimal_visible q.due fits.due, seen)),
    ),
  ),
)

due_visible : (q : QuoteParts) → IsReplyQuote q → AllVisible (words_of_due q)
due_visible q fits =
    (refl, quote_visible q (words_of_shares 1 (map decimal q.shares)) fits.numbers (numeral_words_visible decimals q.shares fits.operators fits.shares))

reply_visible : (r : SpelledReply) → IsReply r → AllVisible (words_of_reply r)
reply_visible (replies.Priced p) fits =
    (opening_visible p.again, (decimal_visible p.day (omega (arith, fits.0)), (decimal_visible p.day_price (omega (arith, fits.1)), (decimal_visible p.week_price (omega (arith, fits.2)), tt))))
reply_visible (replies.Shown s) fits =
    (refl, (decimal_visible s.account (omega (arith, fits.0)), (decimal_visible s.day (omega (arith, fits.1)), (decimal_visible (length s.lines) (omega (arith, fits.2)), (decimal_visible s.day_price (omega (arith, fits.3)), tt)))))
reply_visible (replies.Due q) fits = due_visible q fits
reply_visible (replies.Closed c) fits = (refl, (decimal_visible c.day (omega (arith, fits.0)), (decimal_visible (length c.postings) (omega (arith, fits.1)), tt)))
reply_visible (replies.No r) fits = (refl, (decimal_visible (refusal_number r) (omega (arith, number_small r)), (name_visible r, tt)))
reply_visible replies.Bye fits = (refl, tt)

-- the words of a reply are those of its line
reply_words : (r : SpelledReply) → IsReply r → words (join_with_byte 32 (words_of_reply r)) ≡ words_of_reply r
reply_words (replies.Priced p) fits = words_joined (if p.again then codes "AGAIN" else codes "OK") (decimal p.day ∷ decimal p.day_price ∷ decimal p.week_price ∷ []) (reply_visible (replies.Priced p) fits)
reply_words (replies.Shown s) fits = words_joined (codes "SHOW") (decimal s.account ∷ decimal s.day ∷ decimal (length s.lines) ∷ decimal s.day_price ∷ []) (reply_visible (replies.Shown s) fits)
reply_words (replies.Due q) fits = words_joined (codes "DUE") (words_of_quote q ++ words_of_shares 1 (map decimal q.shares)) (due_visible q fits)
reply_words (replies.Closed c) fits = words_joined (codes "DONE") (decimal c.day ∷ decimal (length c.postings) ∷ []) (reply_visible (replies.Closed c) fits)
reply_words (replies.No r) fits = words_joined (codes "NO") (decimal (refusal_number r) ∷ refusal_name r ∷ []) (reply_visible (replies.No r) fits)
reply_words replies.Bye fits = refl

-- ---- the words tell the reply

refusal_at : ℕ → Refusal
refusal_at n =
    if n == 1 then OutOfTime else if n == 15 then UnknownPlace else if n == 20 then Conflict else if n == 21 then AccountFull else
    if n == 22 then FixConflict else if n == 23 then FixesFull else if n == 30 then Busy else if n == 31 then Window else
    if n == 34 then NotHere else if n == 42 then StaleQuote else if n == 43 then Store else if n == 44 then DeskFault else
    if n == 45 then BadArchive else if n == 46 then ArchiveConflict else if n == 47 then QuoteDiffers else if n == 48 then NotKept else if n == 49 then NotOver else if n == 50 then BadLine else
    if n == 51 then LongLine else if n == 52 then Late else Memory

refusal_again : (r : Refusal) → refusal_at (refusal_number r) ≡ r
unfolding refusal_at
refusal_again OutOfTime = refl
refusal_again UnknownPlace = refl
refusal_again Conflict = refl
refusal_again AccountFull = refl
refusal_again FixConflict = refl
refusal_again FixesFull = refl
refusal_again Busy = refl
refusal_again Window = refl
refusal_again NotHere = refl
refusal_again StaleQuote = refl
refusal_again Store = refl
refusal_again DeskFault = refl
refusal_again BadArchive = refl
refusal_again ArchiveConflict = refl
refusal_again QuoteDiffers = refl
refusal_again NotKept = refl
refusal_again NotOver = refl
refusal_again BadLine = refl
refusal_again LongLine = refl
refusal_again Late = refl
refusal_again Memory = refl

one_number : (r s : Refusal) → refusal_number r ≡ refusal_number s → r ≡ s
one_number r s e = sym (refusal_again r) ∙ ap refusal_at e ∙ refusal_again s

one_opening : (a b : Bool) → (if a then codes "AGAIN" else codes "OK") ≡ (if b then codes "AGAIN" else codes "OK") → a ≡ b
one_opening true true e = refl
one_opening true false e = absurd cc
one_opening false true e = absurd cc
one_opening false false e = refl

not_priced : {A : Type 0} (a : Bool) (n : ℕ) (bytes : List ℕ) → (if a then codes "AGAIN" else codes "OK") ≡ n ∷ bytes → n ≢ 65 → n ≢ 79 → A
not_priced true n bytes e x y = absurd (x cc)
not_priced false n bytes e x y = absurd (y cc)

heads : {A : Type 0} (x y : A) (xs ys : List A) → (x ∷ xs) ≡ (y ∷ ys) → (x ≡ y) × (xs ≡ ys)
heads x y xs ys e = (cc, cc)

abbrev priced : Bool → ℕ → ℕ → ℕ → Priced
priced again day day_price week_price = record { again = again; day = day; day_price = day_price; week_price = week_price }

same_fields : (a b : Bool) (d e x y w z : ℕ) → a ≡ b → d ≡ e → x ≡ y → w ≡ z → priced a d x w ≡ priced b e y z
same_fields a b d e x y w z p q r s = rw (p, q, r, s) refl

one_priced : (p q : Priced) → p.again ≡ q.again → p.day ≡ q.day → p.day_price ≡ q.day_price → p.week_price ≡ q.week_price → p ≡ q
one_priced p q a d e f = same_fields p.again q.again p.day q.day p.day_price q.day_price p.week_price q.week_price a d e f

-- a quote as who reads its line knows it
abbrev quote : ℕ → ℕ → ℕ → ℕ → ℕ → List ℕ → QuoteParts
quote account week through version due shares =
    record { account = account; week = week; through = through; version = version; due = due; edition = 0; shares = shares }

same_quote : (a b w x t u v y d e : ℕ) (xs ys : List ℕ) → a ≡ b → w ≡ x → t ≡ u → v ≡ y → d ≡ e → xs ≡ ys → quote a w t v d xs ≡ quote b x u y e ys
same_quote a b w x t u v y d e xs ys f g h k l m = rw (f, g, h, k, l, m) refl

-- the words of two quotes, and those after them
one_quote : (p q : QuoteParts) (ws vs : List (List ℕ)) → IsReplyNumbers p → IsReplyNumbers q → words_of_quote p ++ ws ≡ words_of_quote q ++ vs
    → ((xs ys : List ℕ) → xs ≡ ys → quote p.account p.week p.through p.version p.due xs ≡ quote q.account q.week q.through q.version q.due ys) × (ws ≡ vs)
one_quote p q ws vs f g e =
    let a = heads _ _ _ _ e in
    let w = heads _ _ _ _ a.1 in
    let t = heads _ _ _ _ w.1 in
    let v = heads _ _ _ _ t.1 in
    let d = heads _ _ _ _ v.1 in (
      λ xs ys same. same_quote p.account q.account p.week q.week p.through q.through p.version q.version p.due q.due xs ys
          (decimal_injective p.account q.account (omega (arith, f.account)) (omega (arith, g.account)) a.0)
          (decimal_injective p.week q.week (omega (arith, f.week)) (omega (arith, g.week)) w.0)
          (decimal_injective p.through q.through (omega (arith, f.through)) (omega (arith, g.through)) t.0)
          (decimal_injective p.version q.version (omega (arith, f.version)) (omega (arith, g.version)) v.0)
          (decimal_injective p.due q.due f.due g.due d.0) same,
      d.1,
    )

one_due : (p q : QuoteParts) → IsReplyQuote p → IsReplyQuote q → words_of_due p ≡ words_of_due q → quote_as_read p ≡ quote_as_read q
one_due p q f g e =
    let h = one_quote p q (words_of_shares 1 (map decimal p.shares)) (words_of_shares 1 (map decimal q.shares)) f.numbers g.numbers (heads _ _ _ _ e).1 in
    h.0 p.shares q.shares (one_from_share_words decimals p.shares q.shares f.operators g.operators f.shares g.shares h.1)

-- what the line that each reply has tells of two replies that have the same
abbrev Alike : SpelledReply → SpelledReply → Type 0
Alike (replies.Shown s) (replies.Shown t) = (s.account ≡ t.account) × (s.day ≡ t.day) × (length s.lines ≡ length t.lines) × (s.day_price ≡ t.day_price)
Alike (replies.Due p) (replies.Due q) = quote_as_read p ≡ quote_as_read q
Alike (replies.Closed c) (replies.Closed d) = c.day ≡ d.day
Alike a b = a ≡ b

one_from_words : (r s : SpelledReply) → IsReply r → IsReply s → words_of_reply r ≡ words_of_reply s → Alike r s
one_from_words (replies.Priced p) (replies.Priced q) f g e =
    let a = heads _ _ _ _ e in
    let d = heads _ _ _ _ a.1 in
    let x = heads _ _ _ _ d.1 in
    let w = heads _ _ _ _ x.1 in
    ap (λ (t : Priced). replies.Priced t) (one_priced p q (one_opening p.again q.again a.0)
    (decimal_injective p.day q.day (omega (arith, f.0)) (omega (arith, g.0)) d.0)
    (decimal_injective p.day_price q.day_price f.1 g.1 x.0)
    (decimal_injective p.week_price q.week_price f.2 g.2 w.0))
one_from_words (replies.Priced p) (replies.Shown t) f g e = not_priced p.again 83 _ (heads _ _ _ _ e).0 (λ h. absurd (omega (arith, h))) (λ h. absurd (omega (arith, h)))
one_from_words (replies.Priced p) (replies.Due q) f g e = not_priced p.again 68 _ (heads _ _ _ _ e).0 (λ h. absurd (omega (arith, h))) (λ h. absurd (omega (arith, h)))
one_from_words (replies.Priced p) (replies.Closed d) f g e = not_priced p.again 68 _ (heads _ _ _ _ e).0 (λ h. absurd (omega (arith, h))) (λ h. absurd (omega (arith, h)))
one_from_words (replies.Priced p) (replies.No s) f g e = not_priced p.again 78 _ (heads _ _ _ _ e).0 (λ h. absurd (omega (arith, h))) (λ h. absurd (omega (arith, h)))
one_from_words (replies.Priced p) replies.Bye f g e = not_priced p.again 66 _ (heads _ _ _ _ e).0 (λ h. absurd (omega (arith, h))) (λ h. absurd (omega (arith, h)))
one_from_words (replies.Shown s) (replies.Priced q) f g e = not_priced q.again 83 _ (sym (heads _ _ _ _ e).0) (λ h. absurd (omega (arith, h))) (λ h. absurd (omega (arith, h)))
one_from_words (replies.Shown s) (replies.Shown t) f g e =
    let a = heads _ _ _ _ (heads _ _ _ _ e).1 in
    let d = heads _ _ _ _ a.1 in
    let n = heads _ _ _ _ d.1 in
    let x = heads _ _ _ _ n.1 in (
      decimal_injective s.account t.account (omega (arith, f.0)) (omega (arith, g.0)) a.0,
      decimal_injective s.day t.day (omega (arith, f.1)) (omega (arith, g.1)) d.0,
      decimal_injective (length s.lines) (length t.lines) f.2 g.2 n.0,
      decimal_injective s.day_price t.day_price f.3 g.3 x.0,
    )
one_from_words (replies.Shown s) (replies.Due q) f g e = absurd cc
one_from_words (replies.Shown s) (replies.Closed d) f g e = absurd cc
one_from_words (replies.Shown s) (replies.No t) f g e = absurd cc
one_from_words (replies.Shown s) replies.Bye f g e = absurd cc
one_from_words (replies.Due p) (replies.Priced q) f g e = not_priced q.again 68 _ (sym (heads _ _ _ _ e).0) (λ h. absurd (omega (arith, h))) (λ h. absurd (omega (arith, h)))
one_from_words (replies.Due p) (replies.Shown t) f g e = absurd cc
one_from_words (replies.Due p) (replies.Due q) f g e = one_due p q f g e
one_from_words (replies.Due p) (replies.Closed d) f g e = absurd cc
one_from_words (replies.Due p) (replies.No s) f g e = absurd cc
one_from_words (replies.Due p) replies.Bye f g e = absurd cc
one_from_words (replies.Closed c) (replies.Priced q) f g e = not_priced q.again 68 _ (sym (heads _ _ _ _ e).0) (λ h. absurd (omega (arith, h))) (λ h. absurd (omega (arith, h)))
one_from_words (replies.Closed c) (replies.Shown t) f g e = absurd cc
one_from_words (replies.Closed c) (replies.Due q) f g e = absurd cc
one_from_words (replies.Closed c) (replies.Closed d) f g e =
    decimal_injective c.day d.day (omega (arith, f.0)) (omega (arith, g.0)) (heads _ _ _ _ (heads _ _ _ _ e).1).0
one_from_words (replies.Closed c) (replies.No s) f g e = absurd cc
one_from_words (replies.Closed c) replies.Bye f g e = absurd cc
one_from_words (replies.No r) (replies.Priced q) f g e = not_priced q.again 78 _ (sym (heads _ _ _ _ e).0) (λ h. absurd (omega (arith, h))) (λ h. absurd (omega (arith, h)))
one_from_words (replies.No r) (replies.Shown t) f g e = absurd cc
one_from_words (replies.No r) (replies.Due q) f g e = absurd cc
one_from_words (replies.No r) (replies.Closed d) f g e = absurd cc
one_from_words (replies.No r) (replies.No s) f g e =
    let n = heads _ _ _ _ (heads _ _ _ _ e).1 in
    ap (λ (t : Refusal). replies.No t) (one_number r s (decimal_injective (refusal_number r) (refusal_number s) (omega (arith, number_small r)) (omega (arith, number_small s)) n.0))
one_from_words (replies.No r) replies.Bye f g e = absurd cc
one_from_words replies.Bye (replies.Priced q) f g e = not_priced q.again 66 _ (sym (heads _ _ _ _ e).0) (λ h. absurd (omega (arith, h))) (λ h. absurd (omega (arith, h)))
one_from_words replies.Bye (replies.Shown t) f g e = absurd cc
one_from_words replies.Bye (replies.Due q) f g e = absurd cc
one_from_words replies.Bye (replies.Closed d) f g e = absurd cc
one_from_words replies.Bye (replies.No s) f g e = absurd cc
one_from_words replies.Bye replies.Bye f g e = refl

-- ---- the words tell the journey

kind_visible : (k : LineKind) → is_visible (word_of_kind k) ≡ true
kind_visible kind.Rail = refl
kind_visible kind.Same = refl
kind_visible kind.Lone = refl
kind_visible kind.Bus = refl

-- a kind by the first letter of its word
kind_from : List ℕ → LineKind
kind_from [] = kind.Bus
kind_from (letter ∷ letters) = if letter == 82 then kind.Rail else if letter == 83 then kind.Same else if letter == 76 then kind.Lone else kind.Bus

kind_again : (k : LineKind) → kind_from (word_of_kind k) ≡ k
unfolding kind_from
kind_again kind.Rail = refl
kind_again kind.Same = refl
kind_again kind.Lone = refl
kind_again kind.Bus = refl

one_kind : (k l : LineKind) → word_of_kind k ≡ word_of_kind l → k ≡ l
one_kind k l e = sym (kind_again k) ∙ ap kind_from e ∙ kind_again l

journey_visible : (l : Line) → IsReplyJourney l → AllVisible (words_of_journey l)
journey_visible l fits = (
  refl,
  (
    kind_visible l.kind,
    (
      decimal_visible l.from (omega (arith, fits.0)),
      (decimal_visible l.to (omega (arith, fits.1)), (decimal_visible l.utc (omega (arith, fits.2)), (decimal_visible l.fare (omega (arith, fits.3)), tt))),
    ),
  ),
)

journey_words : (l : Line) → IsReplyJourney l → words (join_with_byte 32 (words_of_journey l)) ≡ words_of_journey l
journey_words l fits = words_joined (codes "JNY") (word_of_kind l.kind ∷ decimal l.from ∷ decimal l.to ∷ decimal l.utc ∷ decimal l.fare ∷ []) (journey_visible l fits)

abbrev journey : LineKind → ℕ → ℕ → ℕ → ℕ → Line
journey k from to utc fare = record { day = 0; kind = k; from = from; to = to; utc = utc; second = 0; fare = fare; band = None }

same_journey : (k l : LineKind) (a b c d e f g h : ℕ) → k ≡ l → a ≡ b → c ≡ d → e ≡ f → g ≡ h → journey k a c e g ≡ journey l b d f h
same_journey k l a b c d e f g h p q r s t = rw (p, q, r, s, t) refl

one_journey : (l m : Line) → IsReplyJourney l → IsReplyJourney m → words_of_journey l ≡ words_of_journey m → journey_as_read l ≡ journey_as_read m
one_journey l m f g e =
    let k = heads _ _ _ _ (heads _ _ _ _ e).1 in
    let a = heads _ _ _ _ k.1 in
    let b = heads _ _ _ _ a.1 in
    let u = heads _ _ _ _ b.1 in
    let p = heads _ _ _ _ u.1 in
    same_journey l.kind m.kind l.from m.from l.to m.to l.utc m.utc l.fare m.fare (one_kind l.kind m.kind k.0)
    (decimal_injective l.from m.from (omega (arith, f.0)) (omega (arith, g.0)) a.0)
    (decimal_injective l.to m.to (omega (arith, f.1)) (omega (arith, g.1)) b.0)
    (decimal_injective l.utc m.utc f.2 g.2 u.0)
    (decimal_injective l.fare m.fare f.3 g.3 p.0)

-- ---- the words tell the posting

posting_visible : (p : Posting) → IsReplyPosting p → AllVisible (words_of_posting p)
posting_visible p fits =
    (refl, quote_visible p.quote (signed_decimal p.amount ∷ words_of_shares 1 (map signed_decimal p.share_amounts)) fits.numbers (signed_visible p.amount fits.within, numeral_words_visible signed_decimals p.share_amounts fits.operators fits.shares))

posting_words : (p : Posting) → IsReplyPosting p → words (join_with_byte 32 (words_of_posting p)) ≡ words_of_posting p
posting_words p fits = words_joined (codes "PAY") (words_of_quote p.quote ++ signed_decimal p.amount ∷ words_of_shares 1 (map signed_decimal p.share_amounts)) (posting_visible p fits)

abbrev posting : QuoteParts → ℤ → List ℤ → Posting
posting quoted amount share_amounts = record { quote = quoted; amount = amount; share_amounts = share_amounts }

same_posting : (p q : QuoteParts) (x y : ℤ) (xs ys : List ℤ) → p ≡ q → x ≡ y → xs ≡ ys → posting p x xs ≡ posting q y ys
same_posting p q x y xs ys e f g = rw (e, f, g) refl

one_posting : (p q : Posting) → IsReplyPosting p → IsReplyPosting q → words_of_posting p ≡ words_of_posting q → posting_as_read p ≡ posting_as_read q
one_posting p q f g e =
    let h = one_quote p.quote q.quote (signed_decimal p.amount ∷ words_of_shares 1 (map signed_decimal p.share_amounts)) (signed_decimal q.amount ∷ words_of_shares 1 (map signed_decimal q.share_amounts)) f.numbers g.numbers (heads _ _ _ _ e).1 in
    let a = heads _ _ _ _ h.1 in
    same_posting (posting_as_read p).quote (posting_as_read q).quote p.amount q.amount p.share_amounts q.share_amounts (h.0 [] [] refl)
    (signed_decimal_injective p.amount q.amount f.within g.within a.0)
    (one_from_share_words signed_decimals p.share_amounts q.share_amounts f.operators g.operators f.shares g.shares a.1)

-- ---- one line after another

text_cut : (text rest : List ℕ) → IsText text → pieces 10 (text ++ 10 ∷ rest) ≡ text ∷ pieces 10 rest
text_cut [] rest h = refl
text_cut (b ∷ bs) rest h =
    let above : 32 ≤ b = h.0 in
    rw (ne_eqb b 10 (λ e. absurd (omega arith)), text_cut bs rest h.1) refl

line_cut : (ws : List (List ℕ)) (x : List ℕ) → AllVisible ws → pieces 10 (line_of_words ws ++ x) ≡ join_with_byte 32 ws ∷ pieces 10 x
line_cut ws x seen = ap (pieces 10) (append_assoc (join_with_byte 32 ws) (codes "\n") x) ∙ text_cut (join_with_byte 32 ws) x (text_joined ws seen)

one_rest : (x y : List ℕ) → pieces 10 x ≡ pieces 10 y → x ≡ y
one_rest x y e = sym (join_with_byte-slice_split 10 x) ∙ ap (join_with_byte 10) e ∙ join_with_byte-slice_split 10 y

-- lines are told apart, and so is what follows them
lines_apart : (ws vs : List (List ℕ)) (x y : List ℕ) → AllVisible ws → AllVisible vs → words (join_with_byte 32 ws) ≡ ws → words (join_with_byte 32 vs) ≡ vs
    → line_of_words ws ++ x ≡ line_of_words vs ++ y → (ws ≡ vs) × (x ≡ y)
lines_apart ws vs x y f g again others e =
    let h = heads (join_with_byte 32 ws) (join_with_byte 32 vs) (pieces 10 x) (pieces 10 y) (sym (line_cut ws x f) ∙ ap (pieces 10) e ∙ line_cut vs y g) in
    (sym again ∙ ap words h.0 ∙ others, one_rest x y h.1)

-- as many journeys, a line for each
one_journeys : (js ks : List Line) (x y : List ℕ) → length js ≡ length ks → AllByRecursion IsReplyJourney js → AllByRecursion IsReplyJourney ks
    → text_of_journeys js ++ x ≡ text_of_journeys ks ++ y → (map journey_as_read js ≡ map journey_as_read ks) × (x ≡ y)
one_journeys [] [] x y n f g e = (refl, e)
one_journeys [] (k ∷ ks) x y n f g e = absurd (omega (arith, n))
one_journeys (j ∷ js) [] x y n f g e = absurd (omega (arith, n))
one_journeys (j ∷ js) (k ∷ ks) x y n f g e =
    let left = append_assoc (line_of_words (words_of_journey j)) (text_of_journeys js) x in
    let right = append_assoc (line_of_words (words_of_journey k)) (text_of_journeys ks) y in
    let h = lines_apart (words_of_journey j) (words_of_journey k) (text_of_journeys js ++ x) (text_of_journeys ks ++ y) (journey_visible j f.0) (journey_visible k g.0) (journey_words j f.0) (journey_words k g.0)
    (sym left ∙ e ∙ right) in
    let rest = one_journeys js ks x y (omega (arith, n)) f.1 g.1 h.1 in
    (λ i. one_journey j k f.0 g.0 h.0 i ∷ rest.0 i, rest.1)

abbrev first_letter : List (List ℕ) → ℕ
first_letter [] = 0
first_letter ([] ∷ ws) = 0
first_letter ((letter ∷ letters) ∷ ws) = letter

-- the words of a line that is no posting's
record IsOther (ws : List (List ℕ)) : Type 0 where
  seen : AllVisible ws
  again : words (join_with_byte 32 ws) ≡ ws
  other : first_letter ws ≢ 80

-- postings, a line for each, and then another line
one_postings : (ps qs : List Posting) (ws vs : List (List ℕ)) (x y : List ℕ) → AllByRecursion IsReplyPosting ps → AllByRecursion IsReplyPosting qs → IsOther ws → IsOther vs
    → text_of_postings ps ++ (line_of_words ws ++ x) ≡ text_of_postings qs ++ (line_of_words vs ++ y) → (map posting_as_read ps ≡ map posting_as_read qs) × (ws ≡ vs) × (x ≡ y)
one_postings [] [] ws vs x y f g a b e =
    let h = lines_apart ws vs x y a.seen b.seen a.again b.again e in
    (refl, h.0, h.1)
one_postings [] (q ∷ qs) ws vs x y f g a b e =
    let right = append_assoc (line_of_words (words_of_posting q)) (text_of_postings qs) (line_of_words vs ++ y) in
    let h = lines_apart ws (words_of_posting q) x (text_of_postings qs ++ (line_of_words vs ++ y)) a.seen (posting_visible q g.0) a.again (posting_words q g.0) (e ∙ right) in
    absurd (a.other (ap first_letter h.0))
one_postings (p ∷ ps) [] ws vs x y f g a b e =
    let left = append_assoc (line_of_words (words_of_posting p)) (text_of_postings ps) (line_of_words ws ++ x) in
    let h = lines_apart (words_of_posting p) vs (text_of_postings ps ++ (line_of_words ws ++ x)) y (posting_visible p f.0) b.seen (posting_words p f.0) b.again (sym left ∙ e) in
    absurd (b.other (sym (ap first_letter h.0)))
one_postings (p ∷ ps) (q ∷ qs) ws vs x y f g a b e =
    let left = append_assoc (line_of_words (words_of_posting p)) (text_of_postings ps) (line_of_words ws ++ x) in
    let right = append_assoc (line_of_words (words_of_posting q)) (text_of_postings qs) (line_of_words vs ++ y) in
    let h = lines_apart (words_of_posting p) (words_of_posting q) (text_of_postings ps ++ (line_of_words ws ++ x)) (text_of_postings qs ++ (line_of_words vs ++ y)) (posting_visible p f.0) (posting_visible q g.0) (posting_words p f.0) (posting_words q g.0)
    (sym left ∙ e ∙ right) in
    let rest = one_postings ps qs ws vs x y f.1 g.1 a b h.1 in
    (λ i. one_posting p q f.0 g.0 h.0 i ∷ rest.0 i, rest.1, rest.2)

-- ---- one reply after another

opening_letter : (again : Bool) (ws : List (List ℕ)) → first_letter ((if again then codes "AGAIN" else codes "OK") ∷ ws) ≢ 80
opening_letter true ws e = absurd (omega (arith, e))
opening_letter false ws e = absurd (omega (arith, e))

reply_letter : (r : SpelledReply) → first_letter (words_of_reply r) ≢ 80
reply_letter (replies.Priced p) e = opening_letter p.again (decimal p.day ∷ decimal p.day_price ∷ decimal p.week_price ∷ []) e
reply_letter (replies.Shown s) e = absurd (omega (arith, e))
reply_letter (replies.Due q) e = absurd (omega (arith, e))
reply_letter (replies.Closed c) e = absurd (omega (arith, e))
reply_letter (replies.No r) e = absurd (omega (arith, e))
reply_letter replies.Bye e = absurd (omega (arith, e))

reply_is_other : (r : SpelledReply) → IsReply r → IsOther (words_of_reply r)
reply_is_other r fits = record { seen = reply_visible r fits; again = reply_words r fits; other = reply_letter r }

postings_fit : (r : SpelledReply) → IsReply r → AllByRecursion IsReplyPosting (postings_of_reply r)
postings_fit (replies.Priced p) fits = tt
postings_fit (replies.Shown s) fits = tt
postings_fit (replies.Due q) fits = tt
postings_fit (replies.Closed c) fits = fits.2
postings_fit (replies.No r) fits = tt
postings_fit replies.Bye fits = tt

abbrev closed_as : ℕ → List Posting → SpelledReply
closed_as day postings = replies.Closed (record { day = day; postings = postings })

same_closed : (d e : ℕ) (ps qs : List Posting) → d ≡ e → ps ≡ qs → closed_as d ps ≡ closed_as e qs
same_closed d e ps qs f g = rw (f, g) refl

abbrev shown_as : ℕ → ℕ → List Line → ℕ → SpelledReply
shown_as account day lines price = replies.Shown (record { account = account; day = day; lines = lines; day_price = price })

same_shown : (a b d e p q : ℕ) (js ks : List Line) → a ≡ b → d ≡ e → js ≡ ks → p ≡ q → shown_as a d js p ≡ shown_as b e ks q
same_shown a b d e p q js ks f g h k = rw (f, g, h, k) refl

-- replies whose lines that each has are alike, with the same postings before these, and what follows these lines
alike_as_read : (a b : SpelledReply) (x y : List ℕ) → IsReply a → IsReply b → Alike a b → map posting_as_read (postings_of_reply a) ≡ map posting_as_read (postings_of_reply b)
    → text_of_journeys (journeys_of_reply a) ++ x ≡ text_of_journeys (journeys_of_reply b) ++ y → (reply_as_read a ≡ reply_as_read b) × (x ≡ y)
alike_as_read (replies.Shown s) (replies.Shown t) x y f g same postings e =
    let js = one_journeys s.lines t.lines x y same.2 f.4 g.4 e in
    (same_shown s.account t.account s.day t.day s.day_price t.day_price (map journey_as_read s.lines) (map journey_as_read t.lines) same.0 same.1 js.0 same.3, js.1)
alike_as_read (replies.Shown s) (replies.Priced q) x y f g same postings e = absurd cc
alike_as_read (replies.Shown s) (replies.Due q) x y f g same postings e = absurd cc
alike_as_read (replies.Shown s) (replies.Closed d) x y f g same postings e = absurd cc
alike_as_read (replies.Shown s) (replies.No r) x y f g same postings e = absurd cc
alike_as_read (replies.Shown s) replies.Bye x y f g same postings e = absurd cc
alike_as_read (replies.Priced p) (replies.Shown t) x y f g same postings e = absurd cc
alike_as_read (replies.Priced p) (replies.Priced q) x y f g same postings e = (same, e)
alike_as_read (replies.Priced p) (replies.Due q) x y f g same postings e = absurd cc
alike_as_read (replies.Priced p) (replies.Closed d) x y f g same postings e = absurd cc
alike_as_read (replies.Priced p) (replies.No s) x y f g same postings e = absurd cc
alike_as_read (replies.Priced p) replies.Bye x y f g same postings e = absurd cc
alike_as_read (replies.Due p) (replies.Shown t) x y f g same postings e = absurd cc
alike_as_read (replies.Due p) (replies.Priced q) x y f g same postings e = absurd cc
alike_as_read (replies.Due p) (replies.Due q) x y f g same postings e = (ap (λ (t : QuoteParts). replies.Due t) same, e)
alike_as_read (replies.Due p) (replies.Closed d) x y f g same postings e = absurd cc
alike_as_read (replies.Due p) (replies.No s) x y f g same postings e = absurd cc
alike_as_read (replies.Due p) replies.Bye x y f g same postings e = absurd cc
alike_as_read (replies.Closed c) (replies.Shown t) x y f g same postings e = absurd cc
alike_as_read (replies.Closed c) (replies.Priced q) x y f g same postings e = absurd cc
alike_as_read (replies.Closed c) (replies.Due q) x y f g same postings e = absurd cc
alike_as_read (replies.Closed c) (replies.Closed d) x y f g same postings e = (same_closed c.day d.day (map posting_as_read c.postings) (map posting_as_read d.postings) same postings, e)
alike_as_read (replies.Closed c) (replies.No s) x y f g same postings e = absurd cc
alike_as_read (replies.Closed c) replies.Bye x y f g same postings e = absurd cc
alike_as_read (replies.No r) (replies.Shown t) x y f g same postings e = absurd cc
alike_as_read (replies.No r) (replies.Priced q) x y f g same postings e = absurd cc
alike_as_read (replies.No r) (replies.Due q) x y f g same postings e = absurd cc
alike_as_read (replies.No r) (replies.Closed d) x y f g same postings e = absurd cc
alike_as_read (replies.No r) (replies.No s) x y f g same postings e = (same, e)
alike_as_read (replies.No r) replies.Bye x y f g same postings e = absurd cc
alike_as_read replies.Bye (replies.Shown t) x y f g same postings e = absurd cc
alike_as_read replies.Bye (replies.Priced q) x y f g same postings e = absurd cc
alike_as_read replies.Bye (replies.Due q) x y f g same postings e = absurd cc
alike_as_read replies.Bye (replies.Closed d) x y f g same postings e = absurd cc
alike_as_read replies.Bye (replies.No s) x y f g same postings e = absurd cc
alike_as_read replies.Bye replies.Bye x y f g same postings e = (same, e)

-- the parts of a reply, and what follows it
parts_of : (r : SpelledReply) (x : List ℕ) → spelling_of_reply r ++ x ≡ text_of_postings (postings_of_reply r) ++ (line_of_words (words_of_reply r) ++ (text_of_journeys (journeys_of_reply r) ++ x))
parts_of r x =
    append_assoc (text_of_postings (postings_of_reply r)) (ending_of_reply r) x
    ∙ ap (λ (t : List ℕ). text_of_postings (postings_of_reply r) ++ t) (append_assoc (line_of_words (words_of_reply r)) (text_of_journeys (journeys_of_reply r)) x)

pub one_reply : (a b : SpelledReply) (x y : List ℕ) → IsReply a → IsReply b → spelling_of_reply a ++ x ≡ spelling_of_reply b ++ y → (reply_as_read a ≡ reply_as_read b) × (x ≡ y)
one_reply a b x y f g e =
    let h = one_postings (postings_of_reply a) (postings_of_reply b) (words_of_reply a) (words_of_reply b) (text_of_journeys (journeys_of_reply a) ++ x) (text_of_journeys (journeys_of_reply b) ++ y)
    (postings_fit a f) (postings_fit b g) (reply_is_other a f) (reply_is_other b g) (sym (parts_of a x) ∙ e ∙ parts_of b y) in
    alike_as_read a b x y f g (one_from_words a b f g h.1) h.0 h.2

-- a stream that has a reply is not empty
not_the_end : {A : Type 0} (r : SpelledReply) (x : List ℕ) → spelling_of_reply r ++ x ≡ [] → A
not_the_end r x e =
    let none : length (spelling_of_reply r ++ x) ≡ 0 = ap length e in
    absurd (omega (
      arith,
      none,
      length-append (spelling_of_reply r) x,
      length-append (text_of_postings (postings_of_reply r)) (ending_of_reply r),
      length-append (line_of_words (words_of_reply r)) (text_of_journeys (journeys_of_reply r)),
      length-append (join_with_byte 32 (words_of_reply r)) (codes "\n"),
    ))

pub one_stream : (a b : List SpelledReply) → AllByRecursion IsReply a → AllByRecursion IsReply b → flat_map spelling_of_reply a ≡ flat_map spelling_of_reply b
    → map reply_as_read a ≡ map reply_as_read b
one_stream [] [] f g e = refl
one_stream [] (b ∷ bs) f g e = not_the_end b (flat_map spelling_of_reply bs) (sym e)
one_stream (a ∷ rest) [] f g e = not_the_end a (flat_map spelling_of_reply rest) e
one_stream (a ∷ rest) (b ∷ bs) f g e =
    let h = one_reply a b (flat_map spelling_of_reply rest) (flat_map spelling_of_reply bs) f.0 g.0 e in
    let others = one_stream rest bs f.1 g.1 h.1 in
    λ i. h.0 i ∷ others i

-- Quotes are judged by what was posted last, and by the quotes before them.
use Rattle.std.proofs.Common.{◌≡◌, ℕ, ◌+◌, ◌<◌, ◌≤◌, Bool, true, false, if◌then◌else◌, List, [], ◌∷◌, ◌++◌, length, take, drop, get_or, Option, Some, None, Result, Ok, Err, IsOk, MatchResult, is_ok, refl, sym, ap, ◌∙◌, subst, arith}
use Rattle.std.specs.Prelude.{fold, max, nat_lt, not, ◌==◌, ◌&&◌}
use Rattle.std.specs.Option.{option_map}
use Rattle.std.proofs.lemmas.Bool.{ne_eqb}
use Rattle.std.proofs.lemmas.Bool.Decides.{nat_tests}
use Rattle.std.proofs.lemmas.List.{take_more, take-append-drop}
use Rattle.pay_rules.specs.declared.posting.Posting.{Posting}
use Rattle.pay_rules.specs.QuoteParts.{QuoteParts}
use Rattle.pay_rules.specs.declared.post_fault.PostFault.{PostFault}
use Rattle.pay_rules.specs.declared.post_fault.PostFault.TheVariants as fault
use Rattle.pay_postings.specs.Faults.{◌>>=◌}
use Rattle.pay_postings.specs.Answers.{IsJudged}
use Rattle.pay_postings.specs.Postings.{is_quote_of, last_of, posting_of, is_stale, is_again, is_kept, posted_anew, posted_after, post, post_each}
use Rattle.pay_postings.specs.Ledger.{LedgerParts}
use Rattle.pay_postings.specs.AccountRows.{of_account}
use Rattle.pay_postings.specs.Judged.{is_further, quoted_then, last_quoted, IsWhy, IsNext, AreUpTo}
use Rattle.pay_postings.proofs.Postings.{last_own}
use Rattle.pay_postings.proofs.Settling.{last_more, named}
use Rattle.pay_postings.proofs.Archiving.{all_more, each_so}
use Rattle.pay_postings.proofs.Loops.{next_left}

-- ---- the quote that was posted last

abbrev quote_of : Posting → QuoteParts
quote_of p = p.quote

abbrev Answer : Type 0
Answer = Result (Posting × List Posting) PostFault

-- a quote of another account or week becomes the last of none
passes : (account week : ℕ) (quote : QuoteParts) (o : Option QuoteParts) → is_quote_of account week quote ≡ false → quoted_then account week o quote ≡ o
passes account week quote None e = ap (λ (b : Bool). if b then Some quote else None) e
passes account week quote (Some last) e = ap (λ (b : Bool). if b && not (is_again quote last) then Some quote else Some last) e

module _ (account week : ℕ) (list : List Posting) (quote : QuoteParts) where
  abbrev last_there : Option QuoteParts
  last_there = option_map quote_of (last_of account week list)

  -- once the quote is posted, what was posted last for an account and a week
  abbrev IsLast : List Posting → Type 0
  IsLast after = option_map quote_of (last_of account week after) ≡ quoted_then account week last_there quote

  abbrev new_list : List Posting
  new_list = list ++ posting_of list quote ∷ []

  -- of its own account and week it is what it is beside
  moved : is_quote_of account week quote ≡ true → last_of account week list ≡ last_of quote.account quote.week list
  moved e =
      let names = named account week quote e in
      let its_account : account ≡ quote.account = sym names.0 in
      let its_week : week ≡ quote.week = sym names.1 in
      λ i. last_of (its_account i) (its_week i) list

  becomes_beside : (o : Option Posting) → last_of quote.account quote.week list ≡ o → is_quote_of account week quote ≡ true → quoted_then account week (option_map quote_of o) quote ≡ Some quote → quoted_then account week last_there quote ≡ Some quote
  becomes_beside o found e is = ap (λ (p : Option Posting). quoted_then account week (option_map quote_of p) quote) (moved e ∙ found) ∙ is

  -- a further posting is the last of its own account and week
  last_anew : (b : Bool) → is_quote_of account week quote ≡ b → (b ≡ true → quoted_then account week last_there quote ≡ Some quote) → IsLast new_list
  last_anew true e is =
      ap (option_map quote_of) (last_more account week list (posting_of list quote) ∙ ap (λ (b : Bool). if b then Some (posting_of list quote) else last_of account week list) e) ∙ sym (is refl)
  last_anew false e is =
      ap (option_map quote_of) (last_more account week list (posting_of list quote) ∙ ap (λ (b : Bool). if b then Some (posting_of list quote) else last_of account week list) e) ∙ sym (passes account week quote last_there e)

  anew_beside_none : last_of quote.account quote.week list ≡ None → IsLast new_list
  anew_beside_none found =
      last_anew (is_quote_of account week quote) refl
      (λ e. becomes_beside None found e (ap (λ (b : Bool). if b then Some quote else None) e))

  anew_beside : (last : Posting) → last_of quote.account quote.week list ≡ Some last → is_again quote last.quote ≡ false → IsLast new_list
  anew_beside last found again =
      last_anew (is_quote_of account week quote) refl
      (λ e.
      let is : quoted_then account week (Some last.quote) quote ≡ Some quote = λ i. if e i && not (again i) then Some quote else Some last.quote in
      becomes_beside (Some last) found e is)

  -- and one that is kept stays the last, whatever its edition is
  last_kept : (last : Posting) → last_of quote.account quote.week list ≡ Some last → is_again quote last.quote ≡ true → IsLast list
  last_kept last found again = by (is_quote_of account week quote) refl
    where
      by : (b : Bool) → is_quote_of account week quote ≡ b → IsLast list
      by true e =
          let there : last_of account week list ≡ Some last = moved e ∙ found in
          let is : quoted_then account week (Some last.quote) quote ≡ Some last.quote = λ i. if e i && not (again i) then Some quote else Some last.quote in
          ap (option_map quote_of) there ∙ sym is ∙ ap (λ (p : Option Posting). quoted_then account week (option_map quote_of p) quote) (sym there)
      by false e = sym (passes account week quote last_there e)

  last_answered : (after : List Posting) (given there : Posting) (l : List Posting) → IsLast l → ◌≡◌ {A = Answer} (Ok (there, l)) (Ok (given, after)) → IsLast after
  last_answered after given there l is e =
      let same : ◌≡◌ {A = Posting × List Posting} (there, l) (given, after) = cc in
      subst IsLast (ap (λ (p : Posting × List Posting). p.1) same) is

  last_by_tests : (after : List Posting) (given last : Posting) → last_of quote.account quote.week list ≡ Some last → (stale again kept : Bool) → is_again quote last.quote ≡ again
      → ◌≡◌ {A = Answer} (if stale then Err (fault.StaleQuote last.quote.account last.quote.version last.quote.through) else if again then if kept then Ok (last, list) else Err fault.QuoteDiffers else posted_anew list quote) (Ok (given, after))
      → IsLast after
  last_by_tests after given last found true again kept a e = absurd (cc)
  last_by_tests after given last found false true true a e = last_answered after given last list (last_kept last found a) e
  last_by_tests after given last found false true false a e = absurd (cc)
  last_by_tests after given last found false false kept a e = last_answered after given (posting_of list quote) new_list (anew_beside last found a) e

  last_by : (after : List Posting) (given : Posting) (o : Option Posting) → last_of quote.account quote.week list ≡ o → posted_after list quote o ≡ Ok (given, after) → IsLast after
  last_by after given None found e = last_answered after given (posting_of list quote) new_list (anew_beside_none found) e
  last_by after given (Some last) found e = last_by_tests after given last found (is_stale quote last.quote) (is_again quote last.quote) (is_kept quote last.quote) refl e

  last_after : (after : List Posting) (given : Posting) → post list quote ≡ Ok (given, after) → IsLast after
  last_after after given e = last_by after given (last_of quote.account quote.week list) refl e

-- and so it is once several are posted
abbrev Answers : Type 0
Answers = Result (List Posting × List Posting) PostFault

abbrev EndsAt : ℕ → ℕ → Option QuoteParts → Answers → Type 0
EndsAt account week last (Ok answer) = option_map quote_of (last_of account week answer.1) ≡ last
EndsAt account week last (Err why) = Unit {0}

ends_with : (account week : ℕ) (last : Option QuoteParts) (given : Posting) (others : Answers) → EndsAt account week last others → EndsAt account week last (others >>= (λ o. Ok (given ∷ o.0, o.1)))
ends_with account week last given (Ok others) ends = ends
ends_with account week last given (Err why) ends = tt

ends_first : (account week : ℕ) (last : Option QuoteParts) (first : Answer) (quotes : List QuoteParts)
    → ((list : List Posting) (given : Posting) → first ≡ Ok (given, list) → EndsAt account week last (post_each list quotes))
    → EndsAt account week last (first >>= (λ f. post_each f.1 quotes >>= (λ o. Ok (f.0 ∷ o.0, o.1))))
ends_first account week last (Ok first) quotes ends = ends_with account week last first.0 (post_each first.1 quotes) (ends first.1 first.0 refl)
ends_first account week last (Err why) quotes ends = tt

each_ends : (account week : ℕ) (last : Option QuoteParts) (list : List Posting) (quotes : List QuoteParts) → option_map quote_of (last_of account week list) ≡ last
    → EndsAt account week (fold (quoted_then account week) last quotes) (post_each list quotes)
each_ends account week last list [] is = is
each_ends account week last list (quote ∷ quotes) is =
    ends_first account week (fold (quoted_then account week) (quoted_then account week last quote) quotes) (post list quote) quotes
    (λ after given e. each_ends account week (quoted_then account week last quote) after quotes (last_after account week list quote after given e ∙ ap (λ (o : Option QuoteParts). quoted_then account week o quote) is))

-- ---- quotes after others

-- postings that are given in front of others, one, and those of quotes after them
abbrev given_front : List Posting → List Posting × List Posting → Answers
given_front before o = Ok (before ++ o.0, o.1)

abbrev given_first : Posting → List Posting × List Posting → Answers
given_first p o = Ok (p ∷ o.0, o.1)

abbrev and_later : List QuoteParts → List Posting × List Posting → Answers
and_later later g = post_each g.1 later >>= given_front g.0

abbrev and_others : List QuoteParts → Posting × List Posting → Answers
and_others quotes f = post_each f.1 quotes >>= given_first f.0

append_third : (p : Posting) (g : List Posting × List Posting) (r : Answers) → ((r >>= given_front g.0) >>= given_first p) ≡ (r >>= given_front (p ∷ g.0))
append_third p g (Ok o) = refl
append_third p g (Err why) = refl

append_second : (p : Posting) (r : Answers) (later : List QuoteParts) → ((r >>= and_later later) >>= given_first p) ≡ ((r >>= given_first p) >>= and_later later)
append_second p (Ok g) later = append_third p g (post_each g.1 later)
append_second p (Err why) later = refl

append_first : (first : Answer) (before later : List QuoteParts) → ((l : List Posting) → post_each l (before ++ later) ≡ (post_each l before >>= and_later later))
    → (first >>= and_others (before ++ later)) ≡ ((first >>= and_others before) >>= and_later later)
append_first (Ok f) before later each = ap (λ (r : Answers). r >>= given_first f.0) (each f.1) ∙ append_second f.0 (post_each f.1 before) later
append_first (Err why) before later each = refl

nothing_before : (r : Answers) → r ≡ (r >>= given_front [])
nothing_before (Ok o) = refl
nothing_before (Err why) = refl

append_each : (list : List Posting) (before later : List QuoteParts) → post_each list (before ++ later) ≡ (post_each list before >>= and_later later)
append_each list [] later = nothing_before (post_each list later)
append_each list (quote ∷ before) later = append_first (post list quote) before later (λ l. append_each l before later)

-- ---- a judgement

abbrev JudgedAs : Result Bool PostFault → Answer → Type 0
JudgedAs (Ok is) answer = IsOk answer
JudgedAs (Err why) answer = IsWhy answer why

judged_by : (list : List Posting) (quote : QuoteParts) (last : Posting) (stale again kept : Bool)
    → JudgedAs (if stale then Err (fault.StaleQuote last.quote.account last.quote.version last.quote.through) else if again then if kept then Ok false else Err fault.QuoteDiffers else Ok true)
    (if stale then Err (fault.StaleQuote last.quote.account last.quote.version last.quote.through) else if again then if kept then Ok (last, list) else Err fault.QuoteDiffers else posted_anew list quote)
judged_by list quote last true again kept = (refl, λ e. cc, λ e. cc)
judged_by list quote last false true true = refl
judged_by list quote last false true false = (refl, λ e. cc, λ e. cc)
judged_by list quote last false false kept = refl

judged_after : (list : List Posting) (quote : QuoteParts) (o : Option Posting) → JudgedAs (is_further quote (option_map quote_of o)) (posted_after list quote o)
judged_after list quote None = refl
judged_after list quote (Some last) = judged_by list quote last (is_stale quote last.quote) (is_again quote last.quote) (is_kept quote last.quote)

ok_through : (before : List Posting) (r : Answer) → IsOk r → IsOk ((r >>= and_others []) >>= given_front before)
ok_through before (Ok f) is = refl
ok_through before (Err why) is = absurd (cc)

module _ (list : List Posting) (before later : List QuoteParts) (quote : QuoteParts) (g : List Posting × List Posting) (e : post_each list before ≡ Ok g) where
  after_front : (more : List QuoteParts) → post_each list (before ++ more) ≡ (post_each g.1 more >>= given_front g.0)
  after_front more = append_each list before more ∙ ap (λ (r : Answers). r >>= and_later more) e

  next_judged : (o : Result Bool PostFault) → JudgedAs o (post g.1 quote) → MatchResult o (λ _. IsOk (post_each list (before ++ quote ∷ []))) (IsWhy (post_each list (before ++ quote ∷ later)))
  next_judged (Ok is) judged = ap is_ok (after_front (quote ∷ [])) ∙ ok_through g.0 (post g.1 quote) judged
  next_judged (Err why) judged = (after_front (quote ∷ later) ∙ ap (λ (r : Answer). (r >>= and_others later) >>= given_front g.0) judged.0, judged.1, judged.2)

-- a quote is judged by the postings of its account, and by the quotes before it
module _ (list rows : List Posting) (before later : List QuoteParts) (quote : QuoteParts) (own : rows ≡ of_account quote.account list) where
  last_is : (g : List Posting × List Posting) → post_each list before ≡ Ok g → last_quoted rows before quote.account quote.week ≡ option_map quote_of (last_of quote.account quote.week g.1)
  last_is g e =
      let ends : EndsAt quote.account quote.week (fold (quoted_then quote.account quote.week) (option_map quote_of (last_of quote.account quote.week list)) before) (Ok g) =
      subst (EndsAt quote.account quote.week (fold (quoted_then quote.account quote.week) (option_map quote_of (last_of quote.account quote.week list)) before)) e
      (each_ends quote.account quote.week (option_map quote_of (last_of quote.account quote.week list)) list before refl) in
      ap (λ (l : List Posting). fold (quoted_then quote.account quote.week) (option_map quote_of (last_of quote.account quote.week l)) before) own
      ∙ ap (λ (o : Option Posting). fold (quoted_then quote.account quote.week) (option_map quote_of o) before) (last_own quote.account quote.week list)
      ∙ sym ends

  judged_by_front : (front : Answers) → post_each list before ≡ front → (o : Result Bool PostFault) → o ≡ is_further quote (last_quoted rows before quote.account quote.week)
      → IsOk front → MatchResult o (λ _. IsOk (post_each list (before ++ quote ∷ []))) (IsWhy (post_each list (before ++ quote ∷ later)))
  judged_by_front (Ok g) e o is ok =
      next_judged list before later quote g e o
      (subst (λ (r : Result Bool PostFault). JudgedAs r (post g.1 quote)) (sym (is ∙ ap (is_further quote) (last_is g e))) (judged_after g.1 quote (last_of quote.account quote.week g.1)))
  judged_by_front (Err why) e o is ok = absurd (cc)

  pub quote_judged : (o : Result Bool PostFault) → o ≡ is_further quote (last_quoted rows before quote.account quote.week)
      → IsOk (post_each list before) → MatchResult o (λ _. IsOk (post_each list (before ++ quote ∷ []))) (IsWhy (post_each list (before ++ quote ∷ later)))
  quote_judged o is ok = judged_by_front (post_each list before) refl o is ok

-- ---- quotes of accounts below one are none of it

none_below : (account week highest : ℕ) (o : Option QuoteParts) (quotes : List QuoteParts) → AreUpTo highest quotes → highest < account → fold (quoted_then account week) o quotes ≡ o
none_below account week highest o [] up below = refl
none_below account week highest o (quote ∷ quotes) up below =
    let least : quote.account ≤ highest = up.0 in
    let off : is_quote_of account week quote ≡ false = ap (λ (c : Bool). c && quote.week == week) (ne_eqb quote.account account (λ same. absurd (omega (arith, least, below, same)))) in
    ap (λ (p : Option QuoteParts). fold (quoted_then account week) p quotes) (passes account week quote o off) ∙ none_below account week highest o quotes up.1 below

-- so no quote has to be looked for there
pub last_above : (list : List Posting) (quotes : List QuoteParts) (account week highest : ℕ) → AreUpTo highest quotes → highest < account → last_quoted list [] account week ≡ last_quoted list quotes account week
last_above list quotes account week highest up below = sym (none_below account week highest (option_map quote_of (last_of account week list)) quotes up below)

-- ---- never a bad archive

-- ---- one quote beside the last posting

module _ (list : List Posting) (quote : QuoteParts) (last : Posting) (found : last_of quote.account quote.week list ≡ Some last) where
  there : post list quote ≡ posted_after list quote (Some last)
  there = ap (posted_after list quote) found

  kept_by : (stale again kept : Bool)
      → ◌≡◌ {A = Result Bool PostFault} (if stale then Err (fault.StaleQuote last.quote.account last.quote.version last.quote.through) else if again then if kept then Ok false else Err fault.QuoteDiffers else Ok true) (Ok false)
      → ◌≡◌ {A = Answer} (if stale then Err (fault.StaleQuote last.quote.account last.quote.version last.quote.through) else if again then if kept then Ok (last, list) else Err fault.QuoteDiffers else posted_anew list quote) (Ok (last, list))
  kept_by true again kept e = absurd (cc)
  kept_by false true true e = refl
  kept_by false true false e = absurd (cc)
  kept_by false false kept e = absurd (let same : ◌≡◌ {A = Bool} true false = cc in cc)

  pub kept_beside : is_further quote (Some last.quote) ≡ Ok false → post list quote ≡ Ok (last, list)
  kept_beside e = there ∙ kept_by (is_stale quote last.quote) (is_again quote last.quote) (is_kept quote last.quote) e

  refused_so : (why : PostFault) → IsWhy (post list quote) why → IsJudged (Err why) list quote
  refused_so fault.BadArchive is = is.0
  refused_so (fault.StaleQuote account version through) is = is.0
  refused_so fault.QuoteDiffers is = is.0
  refused_so fault.ArchiveConflict is = is.0
  refused_so fault.Memory is = absurd (is.1 refl)

-- ---- the quote at a place

nothing_looked_at : (highest account place count : ℕ) (quotes before : List QuoteParts) (b : Bool) → nat_lt highest account ≡ b → count ≡ (if b then 0 else place) → before ≡ take count quotes → (week : ℕ) (rows : List Posting) → AreUpTo highest (take place quotes)
    → last_quoted rows before account week ≡ last_quoted rows (take place quotes) account week
nothing_looked_at highest account place count quotes before true e few is week rows up =
    let below : highest < account = grind (arith, nat_tests) in
    ap (λ (l : List QuoteParts). last_quoted rows l account week) (is ∙ ap (λ (n : ℕ). take n quotes) few) ∙ last_above rows (take place quotes) account week highest up below
nothing_looked_at highest account place count quotes before false e few is week rows up = ap (λ (l : List QuoteParts). last_quoted rows l account week) (is ∙ ap (λ (n : ℕ). take n quotes) few)

pub front_and_one : {X : Type 0} (list : List X) (n : ℕ) (x : X) → n < length list → x ≡ get_or list n x → take n list ++ x ∷ [] ≡ take (n + 1) list
front_and_one list n x below is = ap (λ y. take n list ++ y ∷ []) is ∙ sym (take_more list n x below)

pub front_and_rest : {X : Type 0} (list : List X) (n : ℕ) (x : X) → n < length list → x ≡ get_or list n x → take n list ++ x ∷ drop (n + 1) list ≡ list
front_and_rest list n x below is = ap (λ l. take n list ++ l) (sym (next_left list n x below is)) ∙ take-append-drop n list

pub judged_at : (ledger : LedgerParts) (quotes before : List QuoteParts) (place highest count : ℕ) (quote : QuoteParts) (rows : List Posting) (o : Result Bool PostFault)
    → place < length quotes → quote ≡ get_or quotes place quote → rows ≡ of_account quote.account ledger.postings → count ≡ (if nat_lt highest quote.account then 0 else place) → before ≡ take count quotes
    → o ≡ is_further quote (last_quoted rows before quote.account quote.week) → AreUpTo highest (take place quotes)
    → IsNext o (post_each ledger.postings (take place quotes)) (post_each ledger.postings (take (place + 1) quotes)) (post_each ledger.postings quotes)
judged_at ledger quotes before place highest count quote rows o below is own few taken judged up ok =
    let list = ledger.postings in
    let last = nothing_looked_at highest quote.account place count quotes before (nat_lt highest quote.account) refl few taken quote.week rows up in
    subst (λ (l : List QuoteParts). MatchResult o (λ _. IsOk (post_each list l)) (IsWhy (post_each list quotes))) (front_and_one quotes place quote below is)
    (subst (λ (l : List QuoteParts). MatchResult o (λ _. IsOk (post_each list (take place quotes ++ quote ∷ []))) (IsWhy (post_each list l))) (front_and_rest quotes place quote below is)
    (quote_judged list rows (take place quotes) (drop (place + 1) quotes) quote own o (judged ∙ ap (is_further quote) last) ok))

pub up_more : (quotes : List QuoteParts) (place highest account next : ℕ) (quote : QuoteParts) → place < length quotes → quote ≡ get_or quotes place quote → account ≡ quote.account → next ≡ max highest account → AreUpTo highest (take place quotes) → AreUpTo next (take (place + 1) quotes)
up_more quotes place highest account next quote below is own more up =
    subst (AreUpTo next) (front_and_one quotes place quote below is)
    (all_more (λ (q : QuoteParts). q.account ≤ next) (take place quotes) quote (each_so (λ (q : QuoteParts). q.account ≤ highest) (λ (q : QuoteParts). q.account ≤ next) (λ q h. omega (arith, h, more)) (take place quotes) up) (omega (arith, own, more)))

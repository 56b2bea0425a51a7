-- The sums of postings, and those with one posting more.
use Rattle.std.proofs.Common.{◌≡◌, ℕ, ◌<◌, Bool, true, false, cond, if◌then◌else◌, List, [], ◌∷◌, ◌++◌, map, filter, fold, length, get_or, Option, Some, None, Result, Ok, Err, IfErr, IsErrAnd, OnOk, eqb-true, eq-eqb, inl, inr, zero, suc, refl, sym, ap, ◌∙◌, subst, arith, append-nil}
use Rattle.std.specs.Prelude.{ℤ, pos, ◌+ℤ◌, ◌&&◌, ◌||◌, ◌==◌}
use Rattle.std.specs.BTreeMap as tree
use Rattle.std.specs.BTreeMap.{is_at}
use Rattle.std.specs.Cmp.{unsigned_tied, tied_then}
use Rattle.std.specs.List.{list_any}
use Rattle.std.specs.Option.{unwrap_or}
use Rattle.std.specs.Ordering.{nat_cmp}
use Rattle.std.proofs.lemmas.Bool.{and_parts, and_from}
use Rattle.std.proofs.lemmas.Int.{ints}
use Rattle.std.proofs.lemmas.List.{map-append}
use Rattle.std.proofs.lemmas.List.Elements.{filter-append}
use Rattle.std.proofs.lemmas.List.Folds.{list_any-append}
use Rattle.std.proofs.lemmas.List.FromFn.{fill_by_all}
use Rattle.std.proofs.lemmas.List.Sums.{fold-append}
use Rattle.pay_rules.specs.declared.posting.Posting.{Posting}
use Rattle.pay_postings.specs.Words.{total, no_amounts, added, is_of}
use Rattle.pay_settle.specs.declared.fault.SettleFault.{SettleFault}
use Rattle.pay_settle.specs.declared.fault.SettleFault.TheVariants.{Shared, Shares, TooLarge, Memory}
use Rattle.pay_settle.specs.Sums.{sum_of, sum_where, is_in, week_sum, account_sum, with_shares, by_operator, HasNoBits}
use Rattle.pay_settle.specs.Settled.{pair_cmp, key_of, IsPutIn, IsTooLarge, IsWhyNot}

-- ---- amounts

-- what is added from an amount on
pub from_amount : (amount : ℤ) (amounts : List ℤ) → fold ◌+ℤ◌ amount amounts ≡ amount +ℤ total amounts
from_amount amount [] = omega (arith, ints)
from_amount amount (next ∷ amounts) = omega (arith, ints, from_amount (amount +ℤ next) amounts, from_amount (pos 0 +ℤ next) amounts)

pub total-cons : (amount : ℤ) (amounts : List ℤ) → total (amount ∷ amounts) ≡ amount +ℤ total amounts
total-cons amount amounts = omega (arith, ints, from_amount (pos 0 +ℤ amount) amounts)

-- two amounts for each operator
pub total-added : (amounts others : List ℤ) → length amounts ≡ length others → total (added amounts others) ≡ total amounts +ℤ total others
total-added [] [] e = refl
total-added [] (other ∷ others) e = absurd (omega (arith, e))
total-added (amount ∷ amounts) [] e = absurd (omega (arith, e))
total-added (amount ∷ amounts) (other ∷ others) e =
    omega (arith, ints, total-cons (amount +ℤ other) (added amounts others), total-cons amount amounts, total-cons other others, total-added amounts others (omega (arith, e)))

pub length-added : (amounts others : List ℤ) → length amounts ≡ length others → length (added amounts others) ≡ length amounts
length-added [] [] e = refl
length-added [] (other ∷ others) e = absurd (omega (arith, e))
length-added (amount ∷ amounts) [] e = absurd (omega (arith, e))
length-added (amount ∷ amounts) (other ∷ others) e = omega (arith, length-added amounts others (omega (arith, e)))

-- the sum at a place
abbrev pub sum_at : List ℤ → List ℤ → ℕ → ℤ
sum_at sums amounts k = get_or sums k (pos 0) +ℤ get_or amounts k (pos 0)

pub added_at : (sums amounts : List ℤ) (k : ℕ) → k < length sums → k < length amounts → get_or (added sums amounts) k (pos 0) ≡ sum_at sums amounts k
added_at [] amounts k h h' = absurd (omega (arith, h))
added_at (sum ∷ sums) [] k h h' = absurd (omega (arith, h'))
added_at (sum ∷ sums) (amount ∷ amounts) zero h h' = refl
added_at (sum ∷ sums) (amount ∷ amounts) (suc k) h h' = added_at sums amounts k (omega (arith, h)) (omega (arith, h'))

-- a list that has the sum at each place is the sums
pub sums_are : (sums amounts further : List ℤ) (n : ℕ) → length sums ≡ n → length amounts ≡ n → length further ≡ n → ((k : ℕ) → k < n → get_or further k (pos 0) ≡ sum_at sums amounts k) → further ≡ added sums amounts
sums_are sums amounts further n a b c each =
    fill_by_all (sum_at sums amounts) further n (pos 0) c each
    ∙ sym (fill_by_all (sum_at sums amounts) (added sums amounts) n (pos 0) (length-added sums amounts (a ∙ sym b) ∙ a) (λ k h. added_at sums amounts k (omega (arith, a, h)) (omega (arith, b, h))))

-- ---- one posting more

pub sum_more : (list : List Posting) (p : Posting) → sum_of (list ++ p ∷ []) ≡ sum_of list +ℤ p.amount
sum_more list p =
    ap total (map-append (λ (q : Posting). q.amount) list (p ∷ [])) ∙ fold-append ◌+ℤ◌ (pos 0) (map (λ (q : Posting). q.amount) list) (p.amount ∷ [])

pub shares_more : (list : List Posting) (p : Posting) → by_operator (list ++ p ∷ []) ≡ added (by_operator list) p.share_amounts
shares_more list p = fold-append with_shares no_amounts list (p ∷ [])

pub or_false : (b : Bool) → (b || false) ≡ b
or_false true = refl
or_false false = refl

pub or_true : (b : Bool) → (b || true) ≡ true
or_true true = refl
or_true false = refl

module _ (passes : Posting → Bool) where
  -- where none passes, none is left
  pub none_left : (list : List Posting) → list_any passes list ≡ false → filter passes list ≡ []
  none_left [] none = refl
  none_left (p ∷ list) none = by (passes p) none (none_left list)
    where
      by : (b : Bool) → (b || list_any passes list) ≡ false → (list_any passes list ≡ false → filter passes list ≡ []) → cond b (p ∷ filter passes list) (filter passes list) ≡ []
      by true e later = absurd cc
      by false e later = later e

  pub or_nothing : (list : List Posting) → unwrap_or (sum_where passes list) (pos 0) ≡ sum_of (filter passes list)
  or_nothing list = by (list_any passes list) refl
    where
      by : (b : Bool) → list_any passes list ≡ b → unwrap_or (if b then Some (sum_of (filter passes list)) else None) (pos 0) ≡ sum_of (filter passes list)
      by true e = refl
      by false e = sym (ap sum_of (none_left list e))

  abbrev with_posting : List Posting → Posting → Bool → Option ℤ
  with_posting list p b = cond b (Some (unwrap_or (sum_where passes list) (pos 0) +ℤ p.amount)) (sum_where passes list)

  left : Posting → Bool → List Posting
  left p b = cond b (p ∷ []) []

  by_test : (list : List Posting) (p : Posting) (b : Bool) → with_posting list p b ≡ (if list_any passes list || (b || false) then Some (sum_of (filter passes list ++ left p b)) else None)
  unfolding left
  by_test list p true =
      ap (λ (n : ℤ). Some (n +ℤ p.amount)) (or_nothing list) ∙ ap Some (sym (sum_more (filter passes list) p))
      ∙ ap (λ (b : Bool). if b then Some (sum_of (filter passes list ++ p ∷ [])) else None) (sym (or_true (list_any passes list)))
  by_test list p false =
      ap (λ (b : Bool). if b then Some (sum_of (filter passes list)) else None) (sym (or_false (list_any passes list)))
      ∙ ap (λ (l : List Posting). if list_any passes list || false then Some (sum_of l) else None) (sym (append-nil (filter passes list)))

  pub where_more : (list : List Posting) (p : Posting) → with_posting list p (passes p) ≡ sum_where passes (list ++ p ∷ [])
  unfolding left
  where_more list p =
      let any : list_any passes (list ++ p ∷ []) ≡ (list_any passes list || (passes p || false)) = list_any-append passes list (p ∷ []) in
      let those : filter passes (list ++ p ∷ []) ≡ filter passes list ++ cond (passes p) (p ∷ []) [] = filter-append passes list (p ∷ []) in
      by_test list p (passes p)
      ∙ ap (λ (b : Bool). if b then Some (sum_of (filter passes list ++ cond (passes p) (p ∷ []) [])) else None) (sym any)
      ∙ ap (λ (l : List Posting). if list_any passes (list ++ p ∷ []) then Some (sum_of l) else None) (sym those)

  -- what those that pass come to with a further one
  pub sum_with : (list : List Posting) (p : Posting) → passes p ≡ true → sum_of (filter passes (list ++ p ∷ [])) ≡ unwrap_or (sum_where passes list) (pos 0) +ℤ p.amount
  sum_with list p is =
      let those : filter passes (list ++ p ∷ []) ≡ filter passes list ++ cond (passes p) (p ∷ []) [] = filter-append passes list (p ∷ []) in
      ap sum_of those ∙ ap (λ (b : Bool). sum_of (filter passes list ++ cond b (p ∷ []) [])) is ∙ sum_more (filter passes list) p ∙ ap (λ (n : ℤ). n +ℤ p.amount) (sym (or_nothing list))

-- ---- sums by a key

-- A key is put with the amount of a posting, and it is the one whose postings this one joins. So the sums are those of all.
pub put_in : {K : Type 0} (passes : K → Posting → Bool) (ties : K → Bool) (old new : K → Option ℤ) (list : List Posting) (p : Posting) (key : K) (amount : ℤ) → amount ≡ p.amount
    → ((q : K) → ties q ≡ passes q p) → ((q : K) → passes q p ≡ true → key ≡ q) → ((q : K) → old q ≡ sum_where (passes q) list)
    → ((q : K) → new q ≡ cond (ties q) (Some (unwrap_or (old key) (pos 0) +ℤ amount)) (old q)) → (q : K) → new q ≡ sum_where (passes q) (list ++ p ∷ [])
put_in {K} passes ties old new list p key amount same tied named sums put q =
    put q ∙ ap (λ (b : Bool). cond b (Some (unwrap_or (old key) (pos 0) +ℤ amount)) (old q)) (tied q) ∙ by (passes q p) refl ∙ where_more (passes q) list p
  where
    by : (b : Bool) → passes q p ≡ b → cond b (Some (unwrap_or (old key) (pos 0) +ℤ amount)) (old q) ≡ cond b (Some (unwrap_or (sum_where (passes q) list) (pos 0) +ℤ p.amount)) (sum_where (passes q) list)
    by true is = ap (λ (o : Option ℤ). Some (unwrap_or o (pos 0) +ℤ amount)) (ap old (named q is) ∙ sums q) ∙ ap (λ (n : ℤ). Some (unwrap_or (sum_where (passes q) list) (pos 0) +ℤ n)) same
    by false is = sums q

pub week_put : (list : List Posting) (p : Posting) (old new : tree.BTreeMap ℕ ℤ) → ((q : ℕ) → tree.get nat_cmp old q ≡ week_sum q list) → IsPutIn nat_cmp old new p.quote.week p.amount → (q : ℕ) → tree.get nat_cmp new q ≡ week_sum q (list ++ p ∷ [])
week_put list p old new sums put =
    put_in is_in (λ q. is_at (nat_cmp p.quote.week) q) (λ q. tree.get nat_cmp old q) (λ q. tree.get nat_cmp new q) list p p.quote.week p.amount refl (λ q. unsigned_tied p.quote.week q) (λ q passes. eqb-true p.quote.week q passes) sums put

pair_tied : (p : Posting) (q : ℕ × ℕ) → is_at (pair_cmp (key_of p)) q ≡ is_of q.0 q.1 p
pair_tied p q = sym (tied_then (nat_cmp p.quote.account q.0) (nat_cmp p.quote.week q.1)) ∙ (λ i. unsigned_tied p.quote.account q.0 i && unsigned_tied p.quote.week q.1 i)

pair_named : (p : Posting) (q : ℕ × ℕ) → is_of q.0 q.1 p ≡ true → key_of p ≡ q
pair_named p q passes =
    let parts = and_parts (p.quote.account == q.0) (p.quote.week == q.1) passes in
    let account : p.quote.account ≡ q.0 = eqb-true p.quote.account q.0 parts.0 in
    let week : p.quote.week ≡ q.1 = eqb-true p.quote.week q.1 parts.1 in
    λ i. (account i, week i)

pub account_put : (list : List Posting) (p : Posting) (old new : tree.BTreeMap (ℕ × ℕ) ℤ) → ((account week : ℕ) → tree.get pair_cmp old (account, week) ≡ account_sum account week list) → IsPutIn pair_cmp old new (key_of p) p.amount
    → (account week : ℕ) → tree.get pair_cmp new (account, week) ≡ account_sum account week (list ++ p ∷ [])
account_put list p old new sums put account week =
    put_in (λ (q : ℕ × ℕ). is_of q.0 q.1) (λ q. is_at (pair_cmp (key_of p)) q) (λ q. tree.get pair_cmp old q) (λ q. tree.get pair_cmp new q) list p (key_of p) p.amount refl (pair_tied p) (pair_named p) (λ q. sums q.0 q.1) put (account, week)

-- ---- answers

pub by_fault : {A E : Type 0} (answer : Result A E) (Says : E → Type 0) (why : E) → IsErrAnd answer (λ fault. fault ≡ why) → Says why → IfErr answer Says
by_fault (Ok it) Says why is said = tt
by_fault (Err fault) Says why is said = subst Says (sym is) said

pub each_fault : {A E : Type 0} (answer : Result A E) (Says Means : E → Type 0) → ((fault : E) → Says fault → Means fault) → IfErr answer Says → IfErr answer Means
each_fault (Ok it) Says Means each said = tt
each_fault (Err fault) Says Means each said = each fault said

pub on_both : {A E : Type 0} (answer : Result A E) (One Other Both : Type 0) → (One → Other → Both) → OnOk answer One → OnOk answer Other → OnOk answer Both
on_both (Ok it) One Other Both both one other = both one other
on_both (Err fault) One Other Both both one other = tt

-- ---- sums that are too large

all_left : (list : List Posting) → filter (λ (p : Posting). true) list ≡ list
all_left [] = refl
all_left (p ∷ list) = ap (λ (l : List Posting). p ∷ l) (all_left list)

pub total_beyond : (list : List Posting) (p : Posting) (sum amount : ℤ) (fault : SettleFault) → sum ≡ sum_of list → amount ≡ p.amount → (fault ≡ TooLarge) × HasNoBits (sum +ℤ amount) → IsWhyNot list p fault
total_beyond list p sum amount fault is of beyond =
    let all : sum_of (filter (λ (q : Posting). true) (list ++ p ∷ [])) ≡ sum +ℤ amount =
    ap sum_of (all_left (list ++ p ∷ [])) ∙ sum_more list p ∙ (λ i. sym is i +ℤ sym of i) in
    subst (IsWhyNot list p) (sym beyond.0) (inl ((λ (q : Posting). true), subst HasNoBits (sym all) beyond.1))

pub shares_beyond : (list : List Posting) (p : Posting) (sums : List ℤ) (fault : SettleFault) → sums ≡ by_operator list → (fault ≡ TooLarge) × (place : ℕ) × HasNoBits (get_or (added sums p.share_amounts) place (pos 0)) → IsWhyNot list p fault
shares_beyond list p sums fault is beyond =
    let here : added sums p.share_amounts ≡ by_operator (list ++ p ∷ []) = ap (λ (o : List ℤ). added o p.share_amounts) is ∙ sym (shares_more list p) in
    subst (IsWhyNot list p) (sym beyond.0) (inr (beyond.1, subst (λ (o : List ℤ). HasNoBits (get_or o beyond.1 (pos 0))) here beyond.2))

pub put_beyond : (passes : Posting → Bool) (list : List Posting) (p : Posting) (old : Option ℤ) (amount : ℤ) (fault : SettleFault) → passes p ≡ true → old ≡ sum_where passes list → amount ≡ p.amount → IsTooLarge fault (unwrap_or old (pos 0) +ℤ amount) → IsWhyNot list p fault
put_beyond passes list p old amount (Shares account week) is was of beyond = absurd beyond
put_beyond passes list p old amount TooLarge is was of beyond =
    let sum : unwrap_or old (pos 0) +ℤ amount ≡ sum_of (filter passes (list ++ p ∷ [])) = (λ i. unwrap_or (was i) (pos 0) +ℤ of i) ∙ sym (sum_with passes list p is) in
    inl (passes, subst HasNoBits sum beyond)
put_beyond passes list p old amount Memory is was of beyond = tt
put_beyond passes list p old amount (Shared account first second) is was of beyond = absurd beyond

pub week_beyond : (list : List Posting) (p : Posting) (old : Option ℤ) (fault : SettleFault) → old ≡ week_sum p.quote.week list → IsTooLarge fault (unwrap_or old (pos 0) +ℤ p.amount) → IsWhyNot list p fault
week_beyond list p old fault was beyond = put_beyond (is_in p.quote.week) list p old p.amount fault (eq-eqb p.quote.week p.quote.week refl) was refl beyond

pub account_beyond : (list : List Posting) (p : Posting) (old : Option ℤ) (fault : SettleFault) → old ≡ account_sum p.quote.account p.quote.week list → IsTooLarge fault (unwrap_or old (pos 0) +ℤ p.amount) → IsWhyNot list p fault
account_beyond list p old fault was beyond =
    let its : is_of p.quote.account p.quote.week p ≡ true = and_from (p.quote.account == p.quote.account) (p.quote.week == p.quote.week) (eq-eqb p.quote.account p.quote.account refl) (eq-eqb p.quote.week p.quote.week refl) in
    put_beyond (is_of p.quote.account p.quote.week) list p old p.amount fault its was refl beyond

-- Postings as they are read back of their rows.
use Rattle.std.proofs.Common.{◌≡◌, ℕ, ◌+◌, ◌≤◌, Bool, true, false, if◌then◌else◌, List, [], ◌∷◌, ◌++◌, length, map, Option, Some, None, eqb-true, eq-eqb, refl, sym, ap, ◌∙◌, subst, arith, append_assoc, append-nil}
use Rattle.std.specs.Prelude.{ℤ, pos, negsuc, ◌+ℤ◌, ◌==◌, ◌&&◌, is_some, unsigned_abs, sum, filter, flat_map, replicate, IsPermutation}
use Rattle.std.specs.List.{list_all, AllByRecursion, zip}
use Rattle.std.proofs.lemmas.Bool.{and_parts, and_from, le-leb}
use Rattle.std.proofs.lemmas.Int.{ints}
use Rattle.std.proofs.lemmas.List.Sums.{fold-append, sum_by-cons}
use Rattle.std.proofs.lemmas.List.Folds.{list_all-append}
use Rattle.pay_day.specs.Words.{IsDay, monday}
use Rattle.pay_day.specs.declared.limits.TheConstants.{FIRST_DAY, LAST_DAY}
use Rattle.pay_money.specs.declared.limits.TheConstants.{MOST_MONEY}
use Rattle.pay_rules.specs.declared.limits.TheConstants.{MOST_TAPS, MOST_FIXES}
use Rattle.pay_rules.specs.declared.posting.Posting.{Posting}
use Rattle.pay_rules.specs.QuoteParts.{QuoteParts, IsEditionDay, IsQuote}
use Rattle.pay_postings.specs.Amounts.{added, no_amounts}
use Rattle.pay_postings.specs.Postings.{is_of, with_amount, net, with_shares, shares_posted}
use Rattle.pay_postings.specs.Paid.{EachStands, IsPaid, ArePaid}
use Rattle.pay_rows.specs.declared.row.PostingRow.{PostingRow}
use Rattle.pay_rows.specs.declared.row.ShareRow.{ShareRow}
use Rattle.pay_set_rows.specs.Ranged.{◌>>=◌, number_back, ranged}
use Rattle.pay_postings.specs.PostingRows.{is_money, is_share_row, is_natural, amounts_of, naturals, edition_from_row, quote_from_row, quote_after, is_amount_after, posting_after, week_from_row, posting_from_row, with_rows, postings_from_rows, posting_row, share_row, share_rows_from, share_rows}
use Rattle.pay_postings.specs.AccountRows.{is_of_account, of_account, rows_of, shares_of, RiseAfter}
use Rattle.pay_postings.proofs.Reading.{of_its_own, net_more, shares_more, others_net, others_shares, quote_of}
use Rattle.pay_postings.proofs.Sets.{pos_is}
use Rattle.pay_postings.proofs.SharesBack.{HasAmounts, all_moved, amounts_back, numbered_rise, all_kept, rise_kept}

-- ---- one posting

natural_all : (shares : List ℕ) → list_all is_natural (map pos shares) ≡ true
natural_all [] = refl
natural_all (share ∷ shares) = and_from _ _ (le-leb 0 share (omega arith)) (natural_all shares)

magnitudes_back : (shares : List ℕ) → map unsigned_abs (map pos shares) ≡ shares
magnitudes_back [] = refl
magnitudes_back (share ∷ shares) = ap (λ (l : List ℕ). share ∷ l) (magnitudes_back shares)

naturals_back : (shares : List ℕ) → naturals (map pos shares) ≡ Some shares
naturals_back shares = ap (λ (b : Bool). if b then Some (map unsigned_abs (map pos shares)) else None) (natural_all shares) ∙ ap Some (magnitudes_back shares)

monday_is_day : (week through : ℕ) → week ≡ monday through → IsDay through → IsDay week
monday_is_day week through e is = (omega (arith, e, is.0, is.1), omega (arith, e, is.0, is.1))

edition_back : (p : Posting) → IsEditionDay p.quote.edition → edition_from_row (posting_row p) ≡ Some p.quote.edition
edition_back p is = ap (λ (b : Bool). if b then Some 0 else ranged FIRST_DAY LAST_DAY (pos n)) (pos_is n 0) ∙ by (0 == n) refl
  where
    n : ℕ
    n = p.quote.edition

    by : (b : Bool) → (0 == n) ≡ b → (if b then Some 0 else ranged FIRST_DAY LAST_DAY (pos n)) ≡ Some n
    by true e = ap Some (eqb-true 0 n e)
    by false e =
        let day = is (λ zero. let same : (0 == n) ≡ true = eq-eqb 0 n (sym zero) in absurd (cc)) in
        number_back FIRST_DAY LAST_DAY n day.0 day.1

quote_back : (p : Posting) → IsQuote p.quote → quote_from_row p.quote.account p.quote.week (posting_row p) p.quote.shares ≡ Some p.quote
quote_back p is =
    let q = p.quote in
    let through = number_back FIRST_DAY LAST_DAY q.through is.of_week.through_day.0 is.of_week.through_day.1 in
    let version = number_back 0 (MOST_TAPS + MOST_FIXES) q.version (omega arith) is.at_version in
    let due = number_back 0 MOST_MONEY q.due (omega arith) is.in_range in
    let edition = edition_back p is.of_edition in
    let parts : quote_from_row q.account q.week (posting_row p) q.shares ≡ quote_of q.account q.week q.shares q.through q.version q.due q.edition =
    λ i. through i >>= (λ t. version i >>= (λ v. due i >>= (λ d. edition i >>= (λ n. quote_of q.account q.week q.shares t v d n)))) in
    parts ∙ ap (λ (b : Bool). if b then Some q else None) (and_from _ _ (and_from _ _ (le-leb 1 q.account is.of_account) (eq-eqb q.week (monday q.through) is.of_week.its_monday)) (eq-eqb (sum q.shares) q.due is.shared))

posting_back : (shares : List ShareRow) (before : List Posting) (id : ℤ) (p : Posting) → IsQuote p.quote → amounts_of shares id ≡ p.share_amounts
    → added (shares_posted p.quote.account p.quote.week before) p.share_amounts ≡ map pos p.quote.shares → net p.quote.account p.quote.week before +ℤ p.amount ≡ pos p.quote.due → is_money p.amount ≡ true
    → posting_from_row p.quote.account shares before id (posting_row p) ≡ Some p
posting_back shares before id p is amounts sums due money =
    let q = p.quote in
    let row = posting_row p in
    let day = monday_is_day q.week q.through is.of_week.its_monday is.of_week.through_day in
    let week : week_from_row row ≡ Some q.week = number_back FIRST_DAY LAST_DAY q.week day.0 day.1 in
    let quote : quote_after q.account q.week before p.share_amounts row ≡ Some q =
    ap (λ (l : List ℤ). naturals l >>= quote_from_row q.account q.week row) sums ∙ ap (λ (o : Option (List ℕ)). o >>= quote_from_row q.account q.week row) (naturals_back q.shares) ∙ quote_back p is in
    let amount : is_amount_after q.account q.week before p.amount ≡ true = and_from _ _ money (ap is_money due ∙ le-leb q.due MOST_MONEY is.in_range) in
    ap (λ (o : Option ℕ). o >>= (λ w. posting_after q.account w before (amounts_of shares id) row)) week
    ∙ ap (λ (l : List ℤ). posting_after q.account q.week before l row) amounts
    ∙ ap (λ (o : Option QuoteParts). o >>= (λ given. if is_amount_after q.account q.week before p.amount then Some (record { quote = given; amount = p.amount; share_amounts = p.share_amounts }) else None)) quote
    ∙ ap (λ (b : Bool). if b then Some p else None) amount

-- ---- what is posted is within the largest sum of money

pub record IsWithin (amount : ℤ) (shares : List ℤ) : Type 0 where
  pub due : ℕ
  pub parts : List ℕ
  pub amount_is : amount ≡ pos due
  pub due_within : due ≤ MOST_MONEY
  pub shares_are : shares ≡ map pos parts
  pub each_within : AllByRecursion (λ (s : ℕ). s ≤ MOST_MONEY) parts

abbrev AllWithin : List Posting → Type 0
AllWithin list = (account week : ℕ) → IsWithin (net account week list) (shares_posted account week list)

each_of_sum : (shares : List ℕ) (most : ℕ) → sum shares ≤ most → AllByRecursion (λ (s : ℕ). s ≤ most) shares
each_of_sum [] most h = tt
each_of_sum (share ∷ shares) most h =
    let e = sum_by-cons (λ (n : ℕ). n) share shares in
    (omega (arith, e, h), each_of_sum shares most (omega (arith, e, h)))

shares_within : (quote : QuoteParts) → IsQuote quote → AllByRecursion (λ (s : ℕ). s ≤ MOST_MONEY) quote.shares
shares_within quote is = each_of_sum quote.shares MOST_MONEY (omega (arith, is.shared, is.in_range))

nothing_within : AllWithin []
nothing_within account week = record { due = 0; parts = replicate 16 0; amount_is = refl; due_within = omega arith; shares_are = refl; each_within = each_of_sum (replicate 16 0) MOST_MONEY (omega arith) }

kept_within : (p : Posting) (amount : ℤ) (shares : List ℤ) → IsPaid p amount shares → IsWithin amount shares
kept_within p amount shares kept = record { due = p.quote.due; parts = p.quote.shares; amount_is = kept.due; due_within = kept.quote.in_range; shares_are = kept.shared; each_within = shares_within p.quote kept.quote }

abbrev Stands : List Posting → Posting → Type 0
Stands list p = IsPaid p (net p.quote.account p.quote.week (list ++ p ∷ [])) (shares_posted p.quote.account p.quote.week (list ++ p ∷ []))

within_by : (account week : ℕ) (list : List Posting) (p : Posting) (is : Bool) → is_of account week p ≡ is → AllWithin list → Stands list p → IsWithin (net account week (list ++ p ∷ [])) (shares_posted account week (list ++ p ∷ []))
within_by account week list p false e all kept =
    subst (λ (n : ℤ). IsWithin n (shares_posted account week (list ++ p ∷ []))) (sym (others_net account week list p e))
    (subst (λ (s : List ℤ). IsWithin (net account week list) s) (sym (others_shares account week list p e)) (all account week))
within_by account week list p true e all kept =
    let parts = and_parts _ _ e in
    subst (λ (a : ℕ). IsWithin (net a week (list ++ p ∷ [])) (shares_posted a week (list ++ p ∷ []))) (eqb-true _ _ parts.0)
    (subst (λ (w : ℕ). IsWithin (net p.quote.account w (list ++ p ∷ [])) (shares_posted p.quote.account w (list ++ p ∷ []))) (eqb-true _ _ parts.1)
    (kept_within p _ _ kept))

within_more : (list : List Posting) (p : Posting) → AllWithin list → Stands list p → AllWithin (list ++ p ∷ [])
within_more list p all kept account week = within_by account week list p (is_of account week p) refl all kept

-- ---- amounts are sums of money

money_between : (least due most : ℕ) (amount : ℤ) → least ≤ most → due ≤ most → pos least +ℤ amount ≡ pos due → unsigned_abs amount ≤ most
money_between least due most (pos n) low high e = omega (arith, ints, low, high, e)
money_between least due most (negsuc n) low high e = omega (arith, ints, low, high, e)

each_money : (parts : List ℕ) (amounts : List ℤ) (shares : List ℕ) → added (map pos parts) amounts ≡ map pos shares → length amounts ≡ length shares
    → AllByRecursion (λ (s : ℕ). s ≤ MOST_MONEY) parts → AllByRecursion (λ (s : ℕ). s ≤ MOST_MONEY) shares → list_all is_money amounts ≡ true
each_money parts [] shares e long low high = refl
each_money parts (amount ∷ amounts) [] e long low high = absurd (omega (arith, long))
each_money [] (amount ∷ amounts) (share ∷ shares) e long low high = absurd cc
each_money (part ∷ parts) (amount ∷ amounts) (share ∷ shares) e long low high =
    let first : pos part +ℤ amount ≡ pos share = cc in
    let others : added (map pos parts) amounts ≡ map pos shares = cc in
    and_from _ _ (le-leb _ _ (money_between part share MOST_MONEY amount low.0 high.0 first)) (each_money parts amounts shares others (omega (arith, long)) low.1 high.1)

-- what a posting adds to what was posted before it
pub record Adds (list : List Posting) (p : Posting) : Type 0 where
  pub sums : added (shares_posted p.quote.account p.quote.week list) p.share_amounts ≡ map pos p.quote.shares
  pub due : net p.quote.account p.quote.week list +ℤ p.amount ≡ pos p.quote.due
  pub money : is_money p.amount ≡ true
  pub shares_money : list_all is_money p.share_amounts ≡ true

adds : (list : List Posting) (p : Posting) → AllWithin list → Stands list p → HasAmounts p → Adds list p
adds list p all kept has =
    let q = p.quote in
    let own = of_its_own q.account q.week q refl refl in
    let within = all q.account q.week in
    let sums : added (shares_posted q.account q.week list) p.share_amounts ≡ map pos q.shares = sym (shares_more q.account q.week list p own) ∙ kept.shared in
    let due : net q.account q.week list +ℤ p.amount ≡ pos q.due = sym (net_more q.account q.week list p own) ∙ kept.due in
    record {
      sums = sums;
      due = due;
      money = le-leb _ _ (money_between within.due q.due MOST_MONEY p.amount within.due_within kept.quote.in_range (ap (λ (n : ℤ). n +ℤ p.amount) (sym within.amount_is) ∙ due));
      shares_money = each_money within.parts p.share_amounts q.shares (ap (λ (s : List ℤ). added s p.share_amounts) (sym within.shares_are) ∙ sums) (has ∙ sym kept.quote.operators) within.each_within (shares_within q kept.quote);
    }

-- ---- their rows

row_is_share : (id : ℤ) (operator : ℕ) (amount : ℤ) (is_zero : Bool) → 1 ≤ operator → operator ≤ 16 → is_money amount ≡ true
    → list_all is_share_row (if is_zero then [] else record { posting = id; operator = pos operator; amount = amount } ∷ []) ≡ true
row_is_share id operator amount true low high money = refl
row_is_share id operator amount false low high money = and_from _ _ (and_from _ _ (ap is_some (number_back 1 16 operator low high)) money) refl

rows_are_shares : (id : ℤ) (operator : ℕ) (amounts : List ℤ) → 1 ≤ operator → operator + length amounts ≤ 17 → list_all is_money amounts ≡ true → list_all is_share_row (share_rows_from id operator amounts) ≡ true
rows_are_shares id operator [] low high money = refl
rows_are_shares id operator (amount ∷ amounts) low high money =
    let parts = and_parts _ _ money in
    list_all-append is_share_row (share_row id operator amount) (share_rows_from id (operator + 1) amounts)
    ∙ and_from _ _ (row_is_share id operator amount _ low (omega (arith, high)) parts.0) (rows_are_shares id (operator + 1) amounts (omega arith) (omega (arith, high)) parts.1)

abbrev IsMoneyAll : Posting → Type 0
IsMoneyAll p = list_all is_money p.share_amounts ≡ true

all_are_shares : (list : List (ℤ × Posting)) → AllByRecursion (λ (n : ℤ × Posting). HasAmounts n.1) list → AllByRecursion (λ (n : ℤ × Posting). IsMoneyAll n.1) list
    → list_all is_share_row (flat_map (λ (n : ℤ × Posting). share_rows n.0 n.1) list) ≡ true
all_are_shares [] has money = refl
all_are_shares (n ∷ list) has money =
    list_all-append is_share_row (share_rows n.0 n.1) (flat_map (λ (m : ℤ × Posting). share_rows m.0 m.1) list)
    ∙ and_from _ _ (rows_are_shares n.0 1 n.1.share_amounts (omega arith) (omega (arith, has.0)) money.0) (all_are_shares list has.1 money.1)

all_money : (done list : List Posting) → AllWithin done → EachStands IsPaid done list → AllByRecursion HasAmounts list → AllByRecursion IsMoneyAll list
all_money done [] within kept has = tt
all_money done (p ∷ list) within kept has = ((adds done p within kept.0 has.0).shares_money, all_money (done ++ p ∷ []) list (within_more done p within kept.0) kept.1 has.1)

all_beside : (P : Posting → Type 0) (ids : List ℤ) (list : List Posting) → AllByRecursion P list → AllByRecursion (λ (n : ℤ × Posting). P n.1) (zip ids list)
all_beside P [] list all = tt
all_beside P (id ∷ ids) [] all = tt
all_beside P (id ∷ ids) (p ∷ list) all = (all.0, all_beside P ids list all.1)

all_have : (done list : List Posting) → EachStands IsPaid done list → AllByRecursion HasAmounts list
all_have done [] kept = tt
all_have done (p ∷ list) kept = (kept.0.amounts, all_have (done ++ p ∷ []) list kept.1)

-- ---- one posting after another

-- as much was posted for an account in both lists
pub record IsAlike (account : ℕ) (done before : List Posting) : Type 0 where
  pub nets : (week : ℕ) → net account week before ≡ net account week done
  pub shares : (week : ℕ) → shares_posted account week before ≡ shares_posted account week done

alike_both : (account : ℕ) (done before : List Posting) (p : Posting) → IsAlike account done before → IsAlike account (done ++ p ∷ []) (before ++ p ∷ [])
alike_both account done before p alike = record {
  nets = λ week. fold-append (with_amount account week) (pos 0) before (p ∷ []) ∙ ap (λ (n : ℤ). with_amount account week n p) (alike.nets week) ∙ sym (fold-append (with_amount account week) (pos 0) done (p ∷ []));
  shares = λ week. fold-append (with_shares account week) no_amounts before (p ∷ []) ∙ ap (λ (s : List ℤ). with_shares account week s p) (alike.shares week) ∙ sym (fold-append (with_shares account week) no_amounts done (p ∷ []));
}

other_week : (account week : ℕ) (p : Posting) → is_of_account account p ≡ false → is_of account week p ≡ false
other_week account week p e = ap (λ (b : Bool). b && p.quote.week == week) e

alike_one : (account : ℕ) (done before : List Posting) (p : Posting) → is_of_account account p ≡ false → IsAlike account done before → IsAlike account (done ++ p ∷ []) before
alike_one account done before p e alike = record {
  nets = λ week. alike.nets week ∙ sym (others_net account week done p (other_week account week p e));
  shares = λ week. alike.shares week ∙ sym (others_shares account week done p (other_week account week p e));
}

abbrev row_beside : ℤ × Posting → ℤ × PostingRow
row_beside n = (n.0, posting_row n.1)

abbrev second : ℤ × Posting → Posting
second n = n.1

abbrev AreBack : ℕ → List ShareRow → List Posting → List (ℤ × Posting) → Type 0
AreBack account shares before list = with_rows account shares before (map row_beside list) ≡ Some (before ++ map second list)

abbrev HaveBack : List ShareRow → List (ℤ × Posting) → Type 0
HaveBack shares list = AllByRecursion (λ (n : ℤ × Posting). amounts_of shares n.0 ≡ n.1.share_amounts) list

own_back : (account : ℕ) (shares : List ShareRow) (done before : List Posting) (n : ℤ × Posting) → is_of_account account n.1 ≡ true → Adds done n.1 → IsQuote n.1.quote → IsAlike account done before → amounts_of shares n.0 ≡ n.1.share_amounts
    → posting_from_row account shares before n.0 (posting_row n.1) ≡ Some n.1
own_back account shares done before n e add is alike amounts =
    let p = n.1 in
    let q = p.quote in
    let same : q.account ≡ account = eqb-true _ _ e in
    let own : IsAlike q.account done before = subst (λ (a : ℕ). IsAlike a done before) (sym same) alike in
    subst (λ (a : ℕ). posting_from_row a shares before n.0 (posting_row p) ≡ Some p) same
    (posting_back shares before n.0 p is amounts (ap (λ (s : List ℤ). added s p.share_amounts) (own.shares q.week) ∙ add.sums) (ap (λ (m : ℤ). m +ℤ p.amount) (own.nets q.week) ∙ add.due) add.money)

back_by : (account : ℕ) (shares : List ShareRow) (done before : List Posting) (n : ℤ × Posting) (others : List (ℤ × Posting)) (is : Bool) → is_of_account account n.1 ≡ is → Adds done n.1 → IsQuote n.1.quote → IsAlike account done before
    → HaveBack shares (if is then n ∷ others else others)
    → ((now : List Posting) → IsAlike account (done ++ n.1 ∷ []) now → HaveBack shares others → AreBack account shares now others)
    → AreBack account shares before (if is then n ∷ others else others)
back_by account shares done before n others false e add is alike have further = further before (alike_one account done before n.1 e alike) have
back_by account shares done before n others true e add is alike have further =
    ap (λ (o : Option Posting). o >>= (λ p. with_rows account shares (before ++ p ∷ []) (map row_beside others))) (own_back account shares done before n e add is alike have.0)
    ∙ further (before ++ n.1 ∷ []) (alike_both account done before n.1 alike) have.1
    ∙ ap Some (append_assoc before (n.1 ∷ []) (map second others))

all_back : (account : ℕ) (shares : List ShareRow) (done before : List Posting) (list : List (ℤ × Posting)) → AllWithin done → EachStands IsPaid done (map second list) → AllByRecursion (λ (n : ℤ × Posting). HasAmounts n.1) list
    → IsAlike account done before → HaveBack shares (filter (λ (n : ℤ × Posting). is_of_account account n.1) list)
    → AreBack account shares before (filter (λ (n : ℤ × Posting). is_of_account account n.1) list)
all_back account shares done before [] within kept has alike have = ap Some (sym (append-nil before))
all_back account shares done before (n ∷ list) within kept has alike have =
    back_by account shares done before n (filter (λ (m : ℤ × Posting). is_of_account account m.1) list) (is_of_account account n.1) refl (adds done n.1 within kept.0 has.0) kept.0.quote alike have
    (λ now still rest. all_back account shares (done ++ n.1 ∷ []) now list (within_more done n.1 within kept.0) kept.1 has.1 still rest)

seconds : (ids : List ℤ) (list : List Posting) → length ids ≡ length list → map second (zip ids list) ≡ list
seconds [] [] e = refl
seconds [] (p ∷ list) e = absurd (omega (arith, e))
seconds (id ∷ ids) [] e = absurd (omega (arith, e))
seconds (id ∷ ids) (p ∷ list) e = ap (λ (l : List Posting). p ∷ l) (seconds ids list (omega (arith, e)))

kept_by : (n : ℤ × Posting) (others : List (ℤ × Posting)) (list : List Posting) (is : Bool) → map second others ≡ list → map second (if is then n ∷ others else others) ≡ (if is then n.1 ∷ list else list)
kept_by n others list true e = ap (λ (l : List Posting). n.1 ∷ l) e
kept_by n others list false e = e

kept_seconds : (account : ℕ) (list : List (ℤ × Posting)) → map second (filter (λ (n : ℤ × Posting). is_of_account account n.1) list) ≡ of_account account (map second list)
kept_seconds account [] = refl
kept_seconds account (n ∷ list) = kept_by n (filter (λ (m : ℤ × Posting). is_of_account account m.1) list) (of_account account (map second list)) (is_of_account account n.1) (kept_seconds account list)

pub postings_back : (account : ℕ) (low : ℤ) (ids : List ℤ) (list : List Posting) (shares : List ShareRow) → ArePaid list → length ids ≡ length list → RiseAfter low ids
    → IsPermutation (shares_of account ids list) shares → postings_from_rows account (rows_of account ids list) shares ≡ Some (of_account account list)
postings_back account low ids list shares kept long rise moved =
    let test : ℤ × Posting → Bool = λ n. is_of_account account n.1 in
    let beside = zip ids list in
    let seen = seconds ids list long in
    let has = all_have [] list kept in
    let has_each = all_beside HasAmounts ids list has in
    let own_has = all_kept (λ (n : ℤ × Posting). HasAmounts n.1) test beside has_each in
    let own_money = all_kept (λ (n : ℤ × Posting). IsMoneyAll n.1) test beside (all_beside IsMoneyAll ids list (all_money [] list nothing_within kept has)) in
    let are : list_all is_share_row shares ≡ true = all_moved is_share_row (shares_of account ids list) shares moved ∙ all_are_shares (filter test beside) own_has own_money in
    let have = amounts_back shares (filter test beside) moved (rise_kept test beside (numbered_rise low ids list rise)) own_has in
    let alike : IsAlike account [] [] = record { nets = λ week. refl; shares = λ week. refl } in
    let back = all_back account shares [] [] beside nothing_within (subst (EachStands IsPaid []) (sym seen) kept) has_each alike have in
    ap (λ (b : Bool). if b then with_rows account shares [] (rows_of account ids list) else None) are
    ∙ back
    ∙ ap Some (kept_seconds account beside ∙ ap (of_account account) seen)

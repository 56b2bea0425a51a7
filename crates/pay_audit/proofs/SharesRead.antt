-- What rows say of an account's postings: what fell to each operator up to the last of a week is the share of its quote.
use Rattle.std.proofs.Common.{◌≡◌, ◌∙◌, ◌<◌, ℕ, zero, suc, Bool, true, false, cond, if◌then◌else◌, List, [], ◌∷◌, ◌++◌, map, filter, length, get_or, Option, Some, None, eqb-true, refl, sym, ap, subst, arith}
use Rattle.std.specs.Prelude.{ℤ, pos, ◌+ℤ◌, fold}
use Rattle.std.specs.List.{list_all}
use Rattle.std.specs.Option.{option_map}
use Rattle.std.proofs.lemmas.Bool.{and_parts}
use Rattle.std.proofs.lemmas.List.FromFn.{fill_by_all}
use Rattle.std.proofs.lemmas.List.Sums.{fold-append}
use Rattle.pay_rules.specs.declared.posting.Posting.{Posting}
use Rattle.pay_rules.specs.QuoteParts.{QuoteParts}
use Rattle.pay_rows.specs.declared.row.PostingRow.{PostingRow}
use Rattle.pay_rows.specs.declared.row.ShareRow.{ShareRow}
use Rattle.pay_set_rows.specs.Ranged.{◌>>=◌}
use Rattle.pay_postings.specs.Amounts.{added, no_amounts}
use Rattle.pay_postings.specs.Postings.{is_of, postings_of, net, shares_posted, later_of, last_of}
use Rattle.pay_postings.specs.PostingRows.{is_natural, is_share_row, quote_after, is_amount_after, posting_after, week_from_row, amounts_of, posting_from_row, with_rows, postings_from_rows}
use Rattle.pay_postings.proofs.Reading.{if_some, quotes_amounts, shares_more, others_shares}
use Rattle.pay_audit.specs.Settled.{posted_for}

-- ---- shares as amounts

map_at : (shares : List ℕ) (k : ℕ) → k < length shares → get_or (map pos shares) k (pos 0) ≡ pos (get_or shares k 0)
map_at [] k h = absurd (omega arith)
map_at (share ∷ shares) zero h = refl
map_at (share ∷ shares) (suc k) h = map_at shares k (omega arith)

map_long : (shares : List ℕ) → length (map pos shares) ≡ length shares
map_long [] = refl
map_long (share ∷ shares) = omega (arith, map_long shares)

-- a list that has the amount at each place is the amounts
pub amounts_are : (shares : List ℕ) (amounts : List ℤ) (n : ℕ) → length shares ≡ n → length amounts ≡ n → ((k : ℕ) → k < n → get_or amounts k (pos 0) ≡ pos (get_or shares k 0)) → amounts ≡ map pos shares
amounts_are shares amounts n a b each =
    let at : ℕ → ℤ = λ k. pos (get_or shares k 0) in
    fill_by_all at amounts n (pos 0) b each
    ∙ sym (fill_by_all at (map pos shares) n (pos 0) (map_long shares ∙ a) (λ k h. map_at shares k (omega (arith, a, h))))

-- ---- a posting that a row says

-- of whom it is, and what fell to each operator with it
abbrev IsSharedAfter : ℕ → ℕ → List Posting → Posting → Type 0
IsSharedAfter account week before p = (p.quote.account ≡ account) × (p.quote.week ≡ week) × (added (shares_posted account week before) p.share_amounts ≡ map pos p.quote.shares)

shared_by : (account week : ℕ) (before : List Posting) (amounts : List ℤ) (row : PostingRow) (p : Posting) (quote : Option QuoteParts) → quote_after account week before amounts row ≡ quote
    → (quote >>= (λ q. if is_amount_after account week before row.amount then Some (record { quote = q; amount = row.amount; share_amounts = amounts }) else None)) ≡ Some p → IsSharedAfter account week before p
shared_by account week before amounts row p None is e = absurd (cc)
shared_by account week before amounts row p (Some q) is e =
    let given : Posting = record { quote = q; amount = row.amount; share_amounts = amounts } in
    let one = if_some (is_amount_after account week before row.amount) given p e in
    let sum = added (shares_posted account week before) amounts in
    let parts = quotes_amounts account week row sum q (list_all is_natural sum) refl is in
    subst (IsSharedAfter account week before) one.1 (parts.0.of_account, parts.0.of_week, parts.1)

shared_of : (account : ℕ) (shares : List ShareRow) (before : List Posting) (id : ℤ) (row : PostingRow) (p : Posting) (week : Option ℕ) → week_from_row row ≡ week
    → (week >>= (λ w. posting_after account w before (amounts_of shares id) row)) ≡ Some p → IsSharedAfter account p.quote.week before p
shared_of account shares before id row p None is e = absurd (cc)
shared_of account shares before id row p (Some w) is e =
    let said : IsSharedAfter account w before p = shared_by account w before (amounts_of shares id) row p (quote_after account w before (amounts_of shares id) row) refl e in
    subst (λ (n : ℕ). IsSharedAfter account n before p) (sym said.1) said

-- ---- what fell to each operator up to the last posting of a week

-- it is the share of that posting's quote, and nothing where there is none
abbrev pub IsSharedBy : Option Posting → List ℤ → Type 0
IsSharedBy None shares = shares ≡ no_amounts
IsSharedBy (Some last) shares = shares ≡ map pos last.quote.shares

module _ (account week : ℕ) where
  abbrev pub IsShared : List Posting → Type 0
  IsShared list = IsSharedBy (last_of account week list) (shares_posted account week list)

  one_more : (before : List Posting) (p : Posting) (is : Bool) → is_of account week p ≡ is → IsSharedAfter account p.quote.week before p → IsShared before → IsShared (before ++ p ∷ [])
  one_more before p true is after shared =
      let same : p.quote.week ≡ week = eqb-true _ _ (and_parts _ _ is).1 in
      let last : last_of account week (before ++ p ∷ []) ≡ Some p = fold-append (later_of account week) None before (p ∷ []) ∙ ap (λ (b : Bool). if b then Some p else last_of account week before) is in
      let its : added (shares_posted account week before) p.share_amounts ≡ map pos p.quote.shares = subst (λ (w : ℕ). added (shares_posted account w before) p.share_amounts ≡ map pos p.quote.shares) same after.2 in
      subst (λ (o : Option Posting). IsSharedBy o (shares_posted account week (before ++ p ∷ []))) (sym last) (shares_more account week before p is ∙ its)
  one_more before p false is after shared =
      let last : last_of account week (before ++ p ∷ []) ≡ last_of account week before = fold-append (later_of account week) None before (p ∷ []) ∙ ap (λ (b : Bool). if b then Some p else last_of account week before) is in
      subst (λ (o : Option Posting). IsSharedBy o (shares_posted account week (before ++ p ∷ []))) (sym last)
      (subst (IsSharedBy (last_of account week before)) (sym (others_shares account week before p is)) shared)

  all_more : (shares : List ShareRow) (before list : List Posting) (rows : List (ℤ × PostingRow)) → with_rows account shares before rows ≡ Some list → IsShared before → IsShared list
  all_more shares before list [] e shared = let is : before ≡ list = cc in subst IsShared is shared
  all_more shares before list (numbered ∷ rows) e shared = by (posting_from_row account shares before numbered.0 numbered.1) refl e (λ p. all_more shares (before ++ p ∷ []) list rows)
    where
      by : (o : Option Posting) → posting_from_row account shares before numbered.0 numbered.1 ≡ o → (o >>= (λ p. with_rows account shares (before ++ p ∷ []) rows)) ≡ Some list
          → ((p : Posting) → with_rows account shares (before ++ p ∷ []) rows ≡ Some list → IsShared (before ++ p ∷ []) → IsShared list) → IsShared list
      by None is e more = absurd (cc)
      by (Some p) is e more = more p e (one_more before p (is_of account week p) refl (shared_of account shares before numbered.0 numbered.1 p (week_from_row numbered.1) refl is) shared)

  -- so it is where rows say postings
  pub all_shared : (rows : List (ℤ × PostingRow)) (shares : List ShareRow) (list : List Posting) → postings_from_rows account rows shares ≡ Some list → IsShared list
  all_shared rows shares list e = by (list_all is_share_row shares) e
    where
      by : (b : Bool) → (if b then with_rows account shares [] rows else None) ≡ Some list → IsShared list
      by true e = all_more shares [] list rows e refl
      by false e = absurd (cc)

-- ---- by the postings of an account and a week alone

if_true : {Y : Type 0} (b : Bool) (y z : Y) → b ≡ false → (if b then y else z) ≡ z
if_true true y z e = absurd (cc)
if_true false y z e = refl

module _ {X Y : Type 0} (p : X → Bool) (f : Y → X → Y) where
  abbrev where_passing : Y → X → Y
  where_passing y x = if p x then f y x else y

  -- what does not pass changes nothing
  of_passing : (y : Y) (xs : List X) → fold where_passing y (filter p xs) ≡ fold where_passing y xs
  of_passing y [] = refl
  of_passing y (x ∷ xs) = by (p x) refl (λ z. of_passing z xs)
    where
      by : (b : Bool) → p x ≡ b → ((z : Y) → fold where_passing z (filter p xs) ≡ fold where_passing z xs) → fold where_passing y (cond b (x ∷ filter p xs) (filter p xs)) ≡ fold where_passing (where_passing y x) xs
      by true is others = others (where_passing y x)
      by false is others = others y ∙ ap (λ (z : Y). fold where_passing z xs) (sym (if_true (p x) (f y x) y is))

module _ (account week : ℕ) where
  by_own : (list : List Posting) → posted_for account week (postings_of account week list) ≡ posted_for account week list
  by_own list =
      let test : Posting → Bool = is_of account week in
      let nets : net account week (postings_of account week list) ≡ net account week list = of_passing test (λ (n : ℤ) (p : Posting). n +ℤ p.amount) (pos 0) list in
      let shares : shares_posted account week (postings_of account week list) ≡ shares_posted account week list = of_passing test (λ (s : List ℤ) (p : Posting). added s p.share_amounts) no_amounts list in
      let lasts : last_of account week (postings_of account week list) ≡ last_of account week list = of_passing test (λ (o : Option Posting) (p : Posting). Some p) None list in
      λ i. option_map (λ (last : Posting). record { through = last.quote.through; sums = record { net = nets i; shares = shares i } }) (lasts i)

  -- so lists with the same of these come to the same
  pub alike : (list other : List Posting) → postings_of account week list ≡ postings_of account week other → posted_for account week list ≡ posted_for account week other
  alike list other same = sym (by_own list) ∙ ap (posted_for account week) same ∙ by_own other

-- Archiving looks at what is archived of the account alone: for taps and corrections alike.
use Rattle.std.proofs.Common.{◌≡◌, ℕ, Bool, true, false, cond, if◌then◌else◌, List, [], ◌∷◌, ◌++◌, map, Option, Some, None, Result, Ok, Err, refl, sym, ap, ◌∙◌, subst, eq-eqb}
use Rattle.std.specs.Prelude.{◌==◌, filter, find}
use Rattle.std.specs.List.{AllByRecursion}
use Rattle.std.specs.Option.{option_map, option_or}
use Rattle.std.proofs.lemmas.List.{append-nil, map-append}
use Rattle.std.proofs.lemmas.List.Elements.{filter-append}
use Rattle.std.proofs.lemmas.List.Folds.{find-append}
use Rattle.pay_rules.specs.declared.post_fault.PostFault.{PostFault}
use Rattle.pay_rules.specs.declared.post_fault.PostFault.TheVariants.{ArchiveConflict}
use Rattle.pay_postings.specs.Faults.{◌>>=◌}
use Rattle.pay_postings.specs.Archive.{archived_beside, archived_each}
use Rattle.pay_postings.specs.NewRows.{unless_other, is_new_beside, with_new, new_after}
use Rattle.pay_postings.proofs.Postings.{beyond}

pub all_more : {X : Type 0} (P : X → Type 0) (list : List X) (x : X) → AllByRecursion P list → P x → AllByRecursion P (list ++ x ∷ [])
all_more P [] x all one = (one, tt)
all_more P (y ∷ list) x all one = (all.0, all_more P list x all.1 one)

all_new : {X : Type 0} (P : X → Type 0) (list : List X) (x : X) (is : Bool) → AllByRecursion P list → P x → AllByRecursion P (with_new is x list)
all_new P list x true all one = all_more P list x all one
all_new P list x false all one = all

or_none : {X : Type 0} (o : Option X) → option_or o None ≡ o
or_none None = refl
or_none (Some x) = refl

pub all_pass : {X : Type 0} (test : X → Bool) (list : List X) → AllByRecursion (λ x. test x ≡ true) list → filter test list ≡ list
all_pass test [] all = refl
all_pass test (x ∷ list) all = ap (λ b. cond b (x ∷ filter test list) (filter test list)) all.0 ∙ ap (λ l. x ∷ l) (all_pass test list all.1)

pub none_pass : {X : Type 0} (test : X → Bool) (list : List X) → AllByRecursion (λ x. test x ≡ false) list → filter test list ≡ []
none_pass test [] all = refl
none_pass test (x ∷ list) all = ap (λ b. cond b (x ∷ filter test list) (filter test list)) all.0 ∙ none_pass test list all.1

pub each_so : {X : Type 0} (P Q : X → Type 0) → ((x : X) → P x → Q x) → (list : List X) → AllByRecursion P list → AllByRecursion Q list
each_so P Q so [] all = tt
each_so P Q so (x ∷ list) all = (so x all.0, each_so P Q so list all.1)

-- each is at another number than those before it
abbrev pub AreApart : {X : Type 0} → (X → X → Bool) → List X → Type 0
AreApart at [] = Unit {0}
AreApart at (x ∷ xs) = AllByRecursion (λ y. at y x ≡ false) xs × AreApart at xs

module _ {X R : Type 0} (row : X → R) (account : X → ℕ) (numbered : X → X → Bool) (at same_rows : R → R → Bool) (same : X → X → Bool)
    (own_number : (x y : X) → (account y == account x) ≡ true → at (row x) (row y) ≡ numbered x y)
    (other_number : (x y : X) → (account y == account x) ≡ false → numbered x y ≡ false)
    (same_content : (x y : X) → numbered x y ≡ true → same_rows (row x) (row y) ≡ same y x) where
  -- those of an account, in order, and their rows
  abbrev pub own : ℕ → List X → List X
  own a list = filter (λ x. account x == a) list

  abbrev pub rows_of : ℕ → List X → List R
  rows_of a list = map row (own a list)

  abbrev pub is_new : List R → X → Result Bool PostFault
  is_new rows x = is_new_beside same_rows (row x) (find (at (row x)) rows)

  abbrev pub archived : List X → X → Result (List X) PostFault
  archived list x = archived_beside same list x (find (numbered x) list)

  abbrev pub AreOf : ℕ → List X → Type 0
  AreOf a = AllByRecursion (λ x. account x ≡ a)

  -- no number of one list is among another's
  abbrev pub AreOff : List X → List X → Type 0
  AreOff list = AllByRecursion (λ x. AllByRecursion (λ y. at (row x) (row y) ≡ false) list)

  one_found : (x y : X) (list : List X) (b c : Bool) → (account y == account x) ≡ b → numbered x y ≡ c → find (at (row x)) (rows_of (account x) list) ≡ option_map row (find (numbered x) list)
      → find (at (row x)) (map row (cond b (y ∷ own (account x) list) (own (account x) list))) ≡ option_map row (cond c (Some y) (find (numbered x) list))
  one_found x y list true true is e more = ap (λ t. cond t (Some (row y)) (find (at (row x)) (rows_of (account x) list))) (own_number x y is ∙ e)
  one_found x y list true false is e more = ap (λ t. cond t (Some (row y)) (find (at (row x)) (rows_of (account x) list))) (own_number x y is ∙ e) ∙ more
  one_found x y list false true is e more = let no = other_number x y is in absurd (cc)
  one_found x y list false false is e more = more

  pub find_own : (x : X) (list : List X) → find (at (row x)) (rows_of (account x) list) ≡ option_map row (find (numbered x) list)
  find_own x [] = refl
  find_own x (y ∷ list) = one_found x y list (account y == account x) (numbered x y) refl refl (find_own x list)

  by_content : (x : X) (whole : List X) (c d : Bool) → c ≡ d → (if d then Ok whole else Err ArchiveConflict) ≡ (unless_other c >>= (λ is. Ok (with_new is x whole)))
  by_content x whole true true e = refl
  by_content x whole true false e = absurd (cc)
  by_content x whole false true e = absurd (cc)
  by_content x whole false false e = refl

  one_beside : (x y : X) (whole list : List X) (b : Bool) → numbered x y ≡ b
      → archived_beside same whole x (find (numbered x) list) ≡ (is_new_beside same_rows (row x) (option_map row (find (numbered x) list)) >>= (λ is. Ok (with_new is x whole)))
      → archived_beside same whole x (cond b (Some y) (find (numbered x) list)) ≡ (is_new_beside same_rows (row x) (option_map row (cond b (Some y) (find (numbered x) list))) >>= (λ is. Ok (with_new is x whole)))
  one_beside x y whole list true e more = by_content x whole (same_rows (row x) (row y)) (same y x) (same_content x y e)
  one_beside x y whole list false e more = more

  beside : (x : X) (whole list : List X) → archived_beside same whole x (find (numbered x) list) ≡ (is_new_beside same_rows (row x) (option_map row (find (numbered x) list)) >>= (λ is. Ok (with_new is x whole)))
  beside x whole [] = refl
  beside x whole (y ∷ list) = one_beside x y whole list (numbered x y) refl (beside x whole list)

  one_archived : (x : X) (list : List X) → archived list x ≡ (is_new (rows_of (account x) list) x >>= (λ is. Ok (with_new is x list)))
  one_archived x list = beside x list list ∙ ap (λ o. is_new_beside same_rows (row x) o >>= (λ is. Ok (with_new is x list))) (sym (find_own x list))

  not_among : (x : X) (list : List X) → AllByRecursion (λ y. at (row x) (row y) ≡ false) list → find (at (row x)) (map row list) ≡ None
  not_among x [] off = refl
  not_among x (y ∷ list) off = ap (λ b. cond b (Some (row y)) (find (at (row x)) (map row list))) off.0 ∙ not_among x list off.1

  own_rows : (a : ℕ) (list new : List X) → AreOf a new → rows_of a (list ++ new) ≡ rows_of a list ++ map row new
  own_rows a list new of =
      ap (map row) (filter-append (λ x. account x == a) list new ∙ ap (λ l. own a list ++ l) (all_pass (λ x. account x == a) new (each_so _ _ (λ x e. eq-eqb (account x) a e) new of)))
      ∙ map-append row (own a list) new

  still_new : (a : ℕ) (x : X) (list new : List X) → account x ≡ a → AreOf a new → AllByRecursion (λ y. at (row x) (row y) ≡ false) new → is_new (rows_of (account x) (list ++ new)) x ≡ is_new (rows_of a list) x
  still_new a x list new is of off =
      ap (λ (k : ℕ). is_new (rows_of k (list ++ new)) x) is
      ∙ ap (λ rows. is_new rows x) (own_rows a list new of)
      ∙ ap (is_new_beside same_rows (row x)) (find-append (at (row x)) (rows_of a list) (map row new) ∙ ap (option_or (find (at (row x)) (rows_of a list))) (not_among x new off) ∙ or_none (find (at (row x)) (rows_of a list)))

  off_more : (x : X) (new xs : List X) (is : Bool) → AreOff new xs → AllByRecursion (λ y. at (row y) (row x) ≡ false) xs → AreOff (with_new is x new) xs
  off_more x new [] is off apart = tt
  off_more x new (y ∷ xs) is off apart = (all_new (λ z. at (row y) (row z) ≡ false) new x is off.0 apart.0, off_more x new xs is off.1 apart.1)

  by_new : (rows : List R) (list new xs : List X) (x : X) (first : Result Bool PostFault)
      → ((is : Bool) → archived_each archived (list ++ with_new is x new) xs ≡ (new_after (is_new rows) (with_new is x new) xs >>= (λ n. Ok (list ++ n))))
      → ((first >>= (λ is. Ok (with_new is x (list ++ new)))) >>= (λ now. archived_each archived now xs)) ≡ ((first >>= (λ is. new_after (is_new rows) (with_new is x new) xs)) >>= (λ n. Ok (list ++ n)))
  by_new rows list new xs x (Err f) more = refl
  by_new rows list new xs x (Ok is) more = ap (λ l. archived_each archived l xs) (sym (beyond list new is x)) ∙ more is

  -- some of an account, each number once, after a list with what is new of it already
  pub each_archived : (a : ℕ) (list new xs : List X) → AreOf a new → AreOf a xs → AreOff new xs → AreApart (λ x y. at (row x) (row y)) xs → archived_each archived (list ++ new) xs ≡ (new_after (is_new (rows_of a list)) new xs >>= (λ n. Ok (list ++ n)))
  each_archived a list new [] of_new of off apart = refl
  each_archived a list new (x ∷ xs) of_new of off apart =
      ap (λ first. first >>= (λ now. archived_each archived now xs)) (one_archived x (list ++ new) ∙ ap (λ first. first >>= (λ is. Ok (with_new is x (list ++ new)))) (still_new a x list new of.0 of_new off.0))
      ∙ by_new (rows_of a list) list new xs x (is_new (rows_of a list) x) (λ is. each_archived a list (with_new is x new) xs (all_new (λ y. account y ≡ a) new x is of_new of.0) of.1 (off_more x new xs is off.1 apart.0) apart.1)

  off_none : (xs : List X) → AreOff [] xs
  off_none [] = tt
  off_none (x ∷ xs) = (tt, off_none xs)

  pub all_archived : (a : ℕ) (list xs : List X) (rows : List R) → rows ≡ rows_of a list → AreOf a xs → AreApart (λ x y. at (row x) (row y)) xs → archived_each archived list xs ≡ (new_after (is_new rows) [] xs >>= (λ n. Ok (list ++ n)))
  all_archived a list xs rows e of apart =
      ap (λ l. archived_each archived l xs) (sym (append-nil list)) ∙ each_archived a list [] xs tt of (off_none xs) apart ∙ ap (λ r. new_after (is_new r) [] xs >>= (λ n. Ok (list ++ n))) (sym e)

-- what is new of those of a kind is of the kind
pub new_are : {X : Type 0} (P : X → Type 0) (is_new : X → Result Bool PostFault) (new xs n : List X) → AllByRecursion P new → AllByRecursion P xs → new_after is_new new xs ≡ Ok n → AllByRecursion P n
new_are P is_new new [] n all_new all e = let same : new ≡ n = cc in subst (AllByRecursion P) same all_new
new_are P is_new new (x ∷ xs) n before all e = by (is_new x) e (λ is. new_are P is_new (with_new is x new) xs n (all_new P new x is before all.0) all.1)
  where
    by : (first : Result Bool PostFault) → (first >>= (λ is. new_after is_new (with_new is x new) xs)) ≡ Ok n → ((is : Bool) → new_after is_new (with_new is x new) xs ≡ Ok n → AllByRecursion P n) → AllByRecursion P n
    by (Err f) e more = absurd (cc)
    by (Ok is) e more = more is e

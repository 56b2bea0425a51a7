-- Sets are judged by what is archived of their account, and by the sets before them.
use Rattle.std.proofs.Common.{◌≡◌, ℕ, ◌+◌, ◌<◌, ◌≤◌, length, drop, take, get_or, Bool, true, false, cond, if◌then◌else◌, List, [], ◌∷◌, ◌++◌, map, Option, Some, None, Result, Ok, Err, IsOk, is_ok, refl, sym, ap, ◌∙◌, subst, arith}
use Rattle.std.specs.Prelude.{max, nat_lt, MatchResult, ◌==◌, ◌&&◌, ◌||◌, not, filter, find, flat_map}
use Rattle.std.specs.List.{AllByRecursion, list_any}
use Rattle.std.specs.Option.{option_map, option_or}
use Rattle.std.proofs.lemmas.Bool.{and_parts, ne_eqb}
use Rattle.std.proofs.Common.{eqb-true, Bor}
use Rattle.std.proofs.lemmas.Bool.Decides.{nat_tests}
use Rattle.std.proofs.lemmas.List.Folds.{find-append}
use Rattle.pay_rules.specs.declared.tap.Tap.{Tap}
use Rattle.pay_rules.specs.declared.limits.TheConstants.{MOST_TAPS, MOST_FIXES}
use Rattle.pay_rules.specs.Taps.{same_tap, number as tap_number}
use Rattle.pay_rules.specs.declared.fix.Fix.{Fix}
use Rattle.pay_rules.specs.Fixes.{same_fix, number as fix_number}
use Rattle.pay_rules.specs.SetsParts.{AreTapsOf, AreFixesOf, SetsParts}
use Rattle.pay_rules.specs.declared.posting.Posting.{Posting}
use Rattle.pay_rules.specs.QuoteParts.{QuoteParts}
use Rattle.pay_rules.specs.declared.post_fault.PostFault.{PostFault}
use Rattle.pay_rules.specs.declared.post_fault.PostFault.TheVariants.{ArchiveConflict}
use Rattle.pay_postings.specs.Faults.{◌>>=◌}
use Rattle.pay_postings.specs.Archive.{is_numbered_as, is_fix_numbered_as, archived_beside, archived_each, archived_tap, archived_fix, archived_set, archived_sets}
use Rattle.pay_set_rows.specs.SetRows.{tap_row, fix_row}
use Rattle.pay_postings.specs.NewRows.{is_tap_at, is_tap_row, is_fix_at, is_fix_row, unless_other, is_new_beside, with_new, new_after}
use Rattle.pay_postings.specs.Postings.{post_each}
use Rattle.pay_postings.specs.Ledger.{LedgerParts, posted}
use Rattle.pay_postings.specs.Archived.{ArchivedParts}
use Rattle.pay_postings.specs.Batches.{archived_of}
use Rattle.pay_postings.specs.Judged.{is_other, is_tap_refused, is_fix_refused, is_set_refused, IsWhy, IsVerdict, IsNext, IsSetUpTo, AreSetsUpTo, IsConflictIf}
use Rattle.pay_postings.proofs.QuotesJudged.{front_and_one, front_and_rest}
use Rattle.pay_postings.proofs.Archiving.{all_more, AreApart, rows_of, find_own, all_archived}
use Rattle.pay_postings.proofs.Sets.{own_tap, other_tap, same_taps, tap_number_at, own_fix, other_fix, same_fixes, fix_number_at, numbered_apart}
use Rattle.pay_postings.proofs.Loops.{next_left}
use Rattle.pay_postings.proofs.Steps.{RowsTell, AreTaps, AreFixes}

-- ---- what stands at a number

or_none : {X : Type 0} (o : Option X) → option_or o None ≡ o
or_none None = refl
or_none (Some x) = refl

or_or : {X : Type 0} (o p q : Option X) → option_or (option_or o p) q ≡ option_or o (option_or p q)
or_or None p q = refl
or_or (Some x) p q = refl

map_or : {X Y : Type 0} (f : X → Y) (o p : Option X) → option_map f (option_or o p) ≡ option_or (option_map f o) (option_map f p)
map_or f None p = refl
map_or f (Some x) p = refl

one_then : {X : Type 0} (test : X → Bool) (x : X) (xs : List X) (b : Bool) → option_or (cond b (Some x) None) (find test xs) ≡ cond b (Some x) (find test xs)
one_then test x xs true = refl
one_then test x xs false = refl

module _ {X : Type 0} (numbered : X → X → Bool) (same : X → X → Bool) (alike : (x y z : X) → numbered x y ≡ true → numbered x z ≡ numbered y z) where
  abbrev archived : List X → X → Result (List X) PostFault
  archived list x = archived_beside same list x (find (numbered x) list)

  find_alike : (x y : X) → numbered x y ≡ true → (list : List X) → find (numbered x) list ≡ find (numbered y) list
  find_alike x y e [] = refl
  find_alike x y e (z ∷ list) =
      let one = alike x y z e in
      let more = find_alike x y e list in
      λ i. cond (one i) (Some z) (more i)

  kept_found : (x y there : X) (list : List X) (b : Bool) → numbered x y ≡ b → find (numbered y) list ≡ Some there → find (numbered x) list ≡ option_or (find (numbered x) list) (cond b (Some y) None)
  kept_found x y there list false e found = sym (or_none (find (numbered x) list))
  kept_found x y there list true e found =
      let here : find (numbered x) list ≡ Some there = find_alike x y e list ∙ found in
      here ∙ ap (λ (o : Option X). option_or o (Some y)) (sym here)

  same_found : (x y there : X) (list now : List X) (b : Bool) → find (numbered y) list ≡ Some there → ◌≡◌ {A = Result (List X) PostFault} (if b then Ok list else Err ArchiveConflict) (Ok now)
      → find (numbered x) now ≡ option_or (find (numbered x) list) (find (numbered x) (y ∷ []))
  same_found x y there list now true found e =
      let is : list ≡ now = cc in
      ap (find (numbered x)) (sym is) ∙ kept_found x y there list (numbered x y) refl found
  same_found x y there list now false found e = absurd (cc)

  beside_found : (x y : X) (list now : List X) (o : Option X) → find (numbered y) list ≡ o → archived_beside same list y o ≡ Ok now → find (numbered x) now ≡ option_or (find (numbered x) list) (find (numbered x) (y ∷ []))
  beside_found x y list now None found e =
      let is : list ++ y ∷ [] ≡ now = cc in
      ap (find (numbered x)) (sym is) ∙ find-append (numbered x) list (y ∷ [])
  beside_found x y list now (Some there) found e = same_found x y there list now (same there y) found e

  one_found : (x y : X) (list now : List X) → archived list y ≡ Ok now → find (numbered x) now ≡ option_or (find (numbered x) list) (find (numbered x) (y ∷ []))
  one_found x y list now e = beside_found x y list now (find (numbered y) list) refl e

  -- once some were archived, what was there stands at its number, or else the first of them
  pub all_found : (x : X) (list xs now : List X) → archived_each archived list xs ≡ Ok now → find (numbered x) now ≡ option_or (find (numbered x) list) (find (numbered x) xs)
  all_found x list [] now e = let is : list ≡ now = cc in ap (find (numbered x)) (sym is) ∙ sym (or_none (find (numbered x) list))
  all_found x list (y ∷ xs) now e = by (archived list y) refl e (λ mid. all_found x mid xs now)
    where
      by : (r : Result (List X) PostFault) → archived list y ≡ r → (r >>= (λ mid. archived_each archived mid xs)) ≡ Ok now
          → ((mid : List X) → archived_each archived mid xs ≡ Ok now → find (numbered x) now ≡ option_or (find (numbered x) mid) (find (numbered x) xs)) → find (numbered x) now ≡ option_or (find (numbered x) list) (find (numbered x) (y ∷ xs))
      by (Err why) r e more = absurd (cc)
      by (Ok mid) r e more =
          more mid e ∙ ap (λ (o : Option X). option_or o (find (numbered x) xs)) (one_found x y list mid r)
          ∙ or_or (find (numbered x) list) (find (numbered x) (y ∷ [])) (find (numbered x) xs)
          ∙ ap (option_or (find (numbered x) list)) (one_then (numbered x) y xs (numbered x y))

-- ---- whether those of an account are refused

abbrev pub JudgedBy : {A : Type 0} → Result A PostFault → Bool → Type 0
JudgedBy answer false = IsOk answer
JudgedBy answer true = answer ≡ Err ArchiveConflict

by_other : {R : Type 0} (same : R → R → Bool) (row : R) (o : Option R) → JudgedBy (is_new_beside same row o) (is_other same row o)
by_other same row None = refl
by_other same row (Some there) = by (same row there)
  where
    by : (b : Bool) → JudgedBy (unless_other b) (not b)
    by true = refl
    by false = refl

each_judged : {X : Type 0} (is_new : X → Result Bool PostFault) (refused : X → Bool) (new xs : List X) → AllByRecursion (λ x. JudgedBy (is_new x) (refused x)) xs → JudgedBy (new_after is_new new xs) (list_any refused xs)
each_judged is_new refused new [] all = refl
each_judged is_new refused new (x ∷ xs) all = by (is_new x) (refused x) all.0 (λ is. each_judged is_new refused (with_new is x new) xs all.1)
  where
    by : (first : Result Bool PostFault) (b : Bool) → JudgedBy first b → ((is : Bool) → JudgedBy (new_after is_new (with_new is x new) xs) (list_any refused xs)) → JudgedBy (first >>= (λ is. new_after is_new (with_new is x new) xs)) (b || list_any refused xs)
    by first true one more = ap (λ (r : Result Bool PostFault). r >>= (λ is. new_after is_new (with_new is x new) xs)) one
    by (Ok is) false one more = more is
    by (Err why) false one more = absurd (cc)

through : {X Y : Type 0} (f : X → Y) (r : Result X PostFault) (b : Bool) → JudgedBy r b → JudgedBy (r >>= (λ x. Ok (f x))) b
through f (Ok x) false is = refl
through f (Err why) false is = absurd (cc)
through f r true is = ap (λ r. r >>= (λ x. Ok (f x))) is

each_with : {X : Type 0} (P Q : X → Type 0) → ((x : X) → P x → Q x) → (xs : List X) → AllByRecursion P xs → AllByRecursion Q xs
each_with P Q so [] all = tt
each_with P Q so (x ∷ xs) all = (so x all.0, each_with P Q so xs all.1)

module _ {X R : Type 0} (row : X → R) (account : X → ℕ) (numbered : X → X → Bool) (at same_rows : R → R → Bool) (same : X → X → Bool)
    (own_number : (x y : X) → (account y == account x) ≡ true → at (row x) (row y) ≡ numbered x y)
    (other_number : (x y : X) → (account y == account x) ≡ false → numbered x y ≡ false)
    (same_content : (x y : X) → numbered x y ≡ true → same_rows (row x) (row y) ≡ same y x) where
  abbrev rows_at : ℕ → List X → List R
  rows_at a list = rows_of row account numbered at same_rows same own_number other_number same_content a list

  own_found : (x : X) (list : List X) → find (at (row x)) (rows_at (account x) list) ≡ option_map row (find (numbered x) list)
  own_found x list = find_own row account numbered at same_rows same own_number other_number same_content x list

  -- what stands at a number among the rows of an account, once some more were archived
  same_there : (a : ℕ) (x : X) (list now more : List X) (rows : List R) → account x ≡ a → rows ≡ rows_at a list → find (numbered x) now ≡ option_or (find (numbered x) list) (find (numbered x) more)
      → find (at (row x)) (rows_at a now) ≡ option_or (find (at (row x)) rows) (option_map row (find (numbered x) more))
  same_there a x list now more rows is own found =
      ap (λ (k : ℕ). find (at (row x)) (rows_at k now)) (sym is) ∙ own_found x now ∙ ap (option_map row) found ∙ map_or row (find (numbered x) list) (find (numbered x) more)
      ∙ ap (λ (o : Option R). option_or o (option_map row (find (numbered x) more))) (sym (own_found x list) ∙ ap (λ (k : ℕ). find (at (row x)) (rows_at k list)) is ∙ ap (find (at (row x))) (sym own))

  pub list_judged : (a : ℕ) (list now more xs : List X) (rows : List R) → rows ≡ rows_at a list → AllByRecursion (λ x. account x ≡ a) xs → AreApart (λ x y. at (row x) (row y)) xs
      → ((x : X) → find (numbered x) now ≡ option_or (find (numbered x) list) (find (numbered x) more))
      → JudgedBy (archived_each (λ (l : List X) (x : X). archived_beside same l x (find (numbered x) l)) now xs) (list_any (λ x. is_other same_rows (row x) (option_or (find (at (row x)) rows) (option_map row (find (numbered x) more)))) xs)
  list_judged a list now more xs rows own of apart found =
      let refused : X → Bool = λ x. is_other same_rows (row x) (option_or (find (at (row x)) rows) (option_map row (find (numbered x) more))) in
      let is_new : X → Result Bool PostFault = λ x. is_new_beside same_rows (row x) (find (at (row x)) (rows_at a now)) in
      let each : AllByRecursion (λ x. JudgedBy (is_new x) (refused x)) xs =
      each_with (λ x. account x ≡ a) (λ x. JudgedBy (is_new x) (refused x))
      (λ x is. subst (λ (o : Option R). JudgedBy (is_new_beside same_rows (row x) o) (refused x)) (sym (same_there a x list now more rows is own (found x)))
      (by_other same_rows (row x) (option_or (find (at (row x)) rows) (option_map row (find (numbered x) more))))) xs of in
      subst (λ (r : Result (List X) PostFault). JudgedBy r (list_any refused xs)) (sym (all_archived row account numbered at same_rows same own_number other_number same_content a now xs (rows_at a now) refl of apart))
      (through (λ (n : List X). now ++ n) (new_after is_new [] xs) (list_any refused xs) (each_judged is_new refused [] xs each))

-- ---- taps and corrections

tap_alike : (x y z : Tap) → is_numbered_as x y ≡ true → is_numbered_as x z ≡ is_numbered_as y z
tap_alike x y z e =
    let last = and_parts _ _ e in
    let first = and_parts _ _ last.0 in
    let account : y.account ≡ x.account = eqb-true _ _ first.0 in
    let reader : y.reader ≡ x.reader = eqb-true _ _ first.1 in
    let seq : y.seq ≡ x.seq = eqb-true _ _ last.1 in
    sym (λ i. z.account == account i && z.reader == reader i && z.seq == seq i)

fix_alike : (x y z : Fix) → is_fix_numbered_as x y ≡ true → is_fix_numbered_as x z ≡ is_fix_numbered_as y z
fix_alike x y z e =
    let last = and_parts _ _ e in
    let first = and_parts _ _ last.0 in
    let account : y.account ≡ x.account = eqb-true _ _ first.0 in
    let staff : y.staff ≡ x.staff = eqb-true _ _ first.1 in
    let seq : y.seq ≡ x.seq = eqb-true _ _ last.1 in
    sym (λ i. z.account == account i && z.staff == staff i && z.seq == seq i)

abbrev Archives : Type 0
Archives = List Tap × List Fix

abbrev taps_in : List SetsParts → List Tap
taps_in sets = flat_map (λ (s : SetsParts). s.taps) sets

abbrev fixes_in : List SetsParts → List Fix
fixes_in sets = flat_map (λ (s : SetsParts). s.fixes) sets

-- what stands at each number once sets were archived
record AreFound (archive now : Archives) (sets : List SetsParts) : Type 0 where
  at_taps : (tap : Tap) → find (is_numbered_as tap) now.0 ≡ option_or (find (is_numbered_as tap) archive.0) (find (is_numbered_as tap) (taps_in sets))
  at_fixes : (fix : Fix) → find (is_fix_numbered_as fix) now.1 ≡ option_or (find (is_fix_numbered_as fix) archive.1) (find (is_fix_numbered_as fix) (fixes_in sets))

found_on : {X : Type 0} (test : X → Bool) (archive mid now set more : List X) → find test mid ≡ option_or (find test archive) (find test set) → find test now ≡ option_or (find test mid) (find test more)
    → find test now ≡ option_or (find test archive) (find test (set ++ more))
found_on test archive mid now set more one rest =
    rest ∙ ap (λ o. option_or o (find test more)) one ∙ or_or (find test archive) (find test set) (find test more) ∙ ap (option_or (find test archive)) (sym (find-append test set more))

sets_found : (archive now : Archives) (sets : List SetsParts) → archived_sets archive sets ≡ Ok now → AreFound archive now sets
sets_found archive now [] e =
    let is : archive ≡ now = cc in
    record {
      at_taps = λ tap. ap (λ (a : Archives). find (is_numbered_as tap) a.0) (sym is) ∙ sym (or_none (find (is_numbered_as tap) archive.0));
      at_fixes = λ fix. ap (λ (a : Archives). find (is_fix_numbered_as fix) a.1) (sym is) ∙ sym (or_none (find (is_fix_numbered_as fix) archive.1));
    }
sets_found archive now (set ∷ sets) e = by (archived_each archived_tap archive.0 set.taps) refl (archived_each archived_fix archive.1 set.fixes) refl e (λ mid. sets_found mid now sets)
  where
    by : (taps : Result (List Tap) PostFault) → archived_each archived_tap archive.0 set.taps ≡ taps → (fixes : Result (List Fix) PostFault) → archived_each archived_fix archive.1 set.fixes ≡ fixes
        → ((taps >>= (λ t. fixes >>= (λ f. Ok (t, f)))) >>= (λ mid. archived_sets mid sets)) ≡ Ok now → ((mid : Archives) → archived_sets mid sets ≡ Ok now → AreFound mid now sets) → AreFound archive now (set ∷ sets)
    by (Err why) t fixes f e more = absurd (cc)
    by (Ok taps) t (Err why) f e more = absurd (cc)
    by (Ok taps) t (Ok fixes) f e more =
        let rest = more (taps, fixes) e in
        record {
          at_taps = λ tap. found_on (is_numbered_as tap) archive.0 taps now.0 set.taps (taps_in sets) (all_found is_numbered_as same_tap tap_alike tap archive.0 set.taps taps t) (rest.at_taps tap);
          at_fixes = λ fix. found_on (is_fix_numbered_as fix) archive.1 fixes now.1 set.fixes (fixes_in sets) (all_found is_fix_numbered_as same_fix fix_alike fix archive.1 set.fixes fixes f) (rest.at_fixes fix);
        }

-- ---- a set after others

abbrev with_fixes : List Tap → List Fix → Result Archives PostFault
with_fixes t f = Ok (t, f)

abbrev and_fixes : Result (List Fix) PostFault → List Tap → Result Archives PostFault
and_fixes fixes t = fixes >>= with_fixes t

both_judged : (taps : Result (List Tap) PostFault) (fixes : Result (List Fix) PostFault) (b c : Bool) → JudgedBy taps b → JudgedBy fixes c → JudgedBy (taps >>= and_fixes fixes) (b || c)
both_judged taps fixes true c one two = ap (λ (r : Result (List Tap) PostFault). r >>= and_fixes fixes) one
both_judged (Ok t) fixes false true one two = ap (λ (r : Result (List Fix) PostFault). r >>= with_fixes t) two
both_judged (Ok t) (Ok f) false false one two = refl
both_judged (Ok t) (Err why) false false one two = absurd (cc)
both_judged (Err why) fixes false c one two = absurd (cc)

append_sets : (archive : Archives) (before later : List SetsParts) → archived_sets archive (before ++ later) ≡ (archived_sets archive before >>= (λ now. archived_sets now later))
append_sets archive [] later = refl
append_sets archive (set ∷ before) later = by (archived_set archive set) (λ now. append_sets now before later)
  where
    by : (first : Result Archives PostFault) → ((now : Archives) → archived_sets now (before ++ later) ≡ (archived_sets now before >>= (λ n. archived_sets n later)))
        → (first >>= (λ now. archived_sets now (before ++ later))) ≡ ((first >>= (λ now. archived_sets now before)) >>= (λ n. archived_sets n later))
    by (Err why) more = refl
    by (Ok now) more = more now

-- the rows of an account as the ledger has them
pub record AreRows (archive : Archives) (account : ℕ) (archived : ArchivedParts) : Type 0 where
  pub taps : archived.taps ≡ map tap_row (filter (λ (t : Tap). t.account == account) archive.0)
  pub fixes : archived.fixes ≡ map fix_row (filter (λ (f : Fix). f.account == account) archive.1)

module _ (tell : RowsTell) (archive : Archives) (before later : List SetsParts) (set : SetsParts) (archived : ArchivedParts) (rows : AreRows archive set.account archived) (are : AreTaps set) (too : AreFixes set) where
  set_judged_at : (now : Archives) → archived_sets archive before ≡ Ok now → JudgedBy (archived_set now set) (is_set_refused archived before set)
  set_judged_at now e =
      let found = sets_found archive now before e in
      both_judged (archived_each archived_tap now.0 set.taps) (archived_each archived_fix now.1 set.fixes) (list_any (is_tap_refused archived.taps before) set.taps) (list_any (is_fix_refused archived.fixes before) set.fixes)
      (list_judged tap_row (λ (t : Tap). t.account) is_numbered_as is_tap_at is_tap_row same_tap own_tap other_tap (same_taps tell.taps) set.account archive.0 now.0 (taps_in before) set.taps archived.taps rows.taps are.0
      (numbered_apart tap_number (λ x y. is_tap_at (tap_row x) (tap_row y)) tap_number_at MOST_TAPS set.taps are.1) found.at_taps)
      (list_judged fix_row (λ (f : Fix). f.account) is_fix_numbered_as is_fix_at is_fix_row same_fix own_fix other_fix (same_fixes tell.fixes) set.account archive.1 now.1 (fixes_in before) set.fixes archived.fixes rows.fixes too.0
      (numbered_apart fix_number (λ x y. is_fix_at (fix_row x) (fix_row y)) fix_number_at MOST_FIXES set.fixes too.1) found.at_fixes)

  one_more : (r : Result Archives PostFault) → IsOk r → IsOk (r >>= (λ now. archived_sets now []))
  one_more (Ok now) is = refl
  one_more (Err why) is = absurd (cc)

  not_refused_at : (front : Result Archives PostFault) → archived_sets archive before ≡ front → IsOk front → is_set_refused archived before set ≡ false → IsOk (archived_sets archive (before ++ set ∷ []))
  not_refused_at (Err why) e is off = absurd (cc)
  not_refused_at (Ok now) e is off =
      let whole : archived_sets archive (before ++ set ∷ []) ≡ (archived_set now set >>= (λ n. archived_sets n [])) = append_sets archive before (set ∷ []) ∙ ap (λ (r : Result Archives PostFault). r >>= (λ n. archived_sets n (set ∷ []))) e in
      ap is_ok whole ∙ one_more (archived_set now set) (subst (JudgedBy (archived_set now set)) off (set_judged_at now e))

  refused_at : (front : Result Archives PostFault) → archived_sets archive before ≡ front → IsOk front → is_set_refused archived before set ≡ true → archived_sets archive (before ++ set ∷ later) ≡ Err ArchiveConflict
  refused_at (Err why) e is on = absurd (cc)
  refused_at (Ok now) e is on =
      append_sets archive before (set ∷ later) ∙ ap (λ (r : Result Archives PostFault). r >>= (λ n. archived_sets n (set ∷ later))) e
      ∙ ap (λ (r : Result Archives PostFault). r >>= (λ n. archived_sets n later)) (subst (JudgedBy (archived_set now set)) on (set_judged_at now e))

  pub set_not_refused : IsOk (archived_sets archive before) → is_set_refused archived before set ≡ false → IsOk (archived_sets archive (before ++ set ∷ []))
  set_not_refused is off = not_refused_at (archived_sets archive before) refl is off

  pub set_refused : IsOk (archived_sets archive before) → is_set_refused archived before set ≡ true → archived_sets archive (before ++ set ∷ later) ≡ Err ArchiveConflict
  set_refused is on = refused_at (archived_sets archive before) refl is on

-- ---- sets of accounts below one have nothing of it

none_in : {X : Type 0} (account : X → ℕ) (test : X → Bool) (a highest : ℕ) → ((x : X) → (account x ≡ a → ⊥) → test x ≡ false) → (k : ℕ) → k ≤ highest → highest < a → (xs : List X) → AllByRecursion (λ x. account x ≡ k) xs → find test xs ≡ None
none_in account test a highest off k least below [] own = refl
none_in account test a highest off k least below (x ∷ xs) own =
    ap (λ b. cond b (Some x) (find test xs)) (off x (λ same. let is = own.0 in absurd (omega (arith, is, same, least, below)))) ∙ none_in account test a highest off k least below xs own.1

tap_off : (tap x : Tap) → (x.account ≡ tap.account → ⊥) → is_numbered_as tap x ≡ false
tap_off tap x apart = ap (λ (b : Bool). b && x.reader == tap.reader && x.seq == tap.seq) (ne_eqb x.account tap.account apart)

fix_off : (fix x : Fix) → (x.account ≡ fix.account → ⊥) → is_fix_numbered_as fix x ≡ false
fix_off fix x apart = ap (λ (b : Bool). b && x.staff == fix.staff && x.seq == fix.seq) (ne_eqb x.account fix.account apart)

no_taps : (tap : Tap) (highest : ℕ) (sets : List SetsParts) → AreSetsUpTo highest sets → highest < tap.account → find (is_numbered_as tap) (taps_in sets) ≡ None
no_taps tap highest [] up below = refl
no_taps tap highest (set ∷ sets) up below =
    find-append (is_numbered_as tap) set.taps (taps_in sets)
    ∙ (λ i. option_or (none_in (λ (t : Tap). t.account) (is_numbered_as tap) tap.account highest (tap_off tap) set.account up.0.0 below set.taps up.0.1 i) (no_taps tap highest sets up.1 below i))

no_fixes : (fix : Fix) (highest : ℕ) (sets : List SetsParts) → AreSetsUpTo highest sets → highest < fix.account → find (is_fix_numbered_as fix) (fixes_in sets) ≡ None
no_fixes fix highest [] up below = refl
no_fixes fix highest (set ∷ sets) up below =
    find-append (is_fix_numbered_as fix) set.fixes (fixes_in sets)
    ∙ (λ i. option_or (none_in (λ (f : Fix). f.account) (is_fix_numbered_as fix) fix.account highest (fix_off fix) set.account up.0.0 below set.fixes up.0.2 i) (no_fixes fix highest sets up.1 below i))

any_same : {X : Type 0} (p q : X → Bool) (xs : List X) → AllByRecursion (λ x. p x ≡ q x) xs → list_any p xs ≡ list_any q xs
any_same p q [] all = refl
any_same p q (x ∷ xs) all = let one = all.0 in let more = any_same p q xs all.1 in λ i. one i || more i

-- so no set has to be looked for there
pub refused_above : (archived : ArchivedParts) (sets : List SetsParts) (set : SetsParts) (highest : ℕ) → AreSetsUpTo highest sets → AreTapsOf set.account set.taps → AreFixesOf set.account set.fixes → highest < set.account
    → is_set_refused archived [] set ≡ is_set_refused archived sets set
refused_above archived sets set highest up own too below =
    let taps : list_any (is_tap_refused archived.taps []) set.taps ≡ list_any (is_tap_refused archived.taps sets) set.taps =
    any_same (is_tap_refused archived.taps []) (is_tap_refused archived.taps sets) set.taps (each_with (λ (t : Tap). t.account ≡ set.account) (λ (t : Tap). is_tap_refused archived.taps [] t ≡ is_tap_refused archived.taps sets t)
    (λ t is. ap (λ (o : Option Tap). is_other is_tap_row (tap_row t) (option_or (find (is_tap_at (tap_row t)) archived.taps) (option_map tap_row o))) (sym (no_taps t highest sets up (omega (arith, below, is))))) set.taps own) in
    let fixes : list_any (is_fix_refused archived.fixes []) set.fixes ≡ list_any (is_fix_refused archived.fixes sets) set.fixes =
    any_same (is_fix_refused archived.fixes []) (is_fix_refused archived.fixes sets) set.fixes (each_with (λ (f : Fix). f.account ≡ set.account) (λ (f : Fix). is_fix_refused archived.fixes [] f ≡ is_fix_refused archived.fixes sets f)
    (λ f is. ap (λ (o : Option Fix). is_other is_fix_row (fix_row f) (option_or (find (is_fix_at (fix_row f)) archived.fixes) (option_map fix_row o))) (sym (no_fixes f highest sets up (omega (arith, below, is))))) set.fixes too) in
    λ i. taps i || fixes i

-- ---- the first that passes, list by list

module _ {X Y : Type 0} (f : X → List Y) (test : Y → Bool) (xs : List X) (n : ℕ) (x : X) (below : n < length xs) (is : x ≡ get_or xs n x) where
  from_here : find test (flat_map f (drop n xs)) ≡ option_or (find test (f x)) (find test (flat_map f (drop (n + 1) xs)))
  from_here = ap (λ l. find test (flat_map f l)) (next_left xs n x below is) ∙ find-append test (f x) (flat_map f (drop (n + 1) xs))

  pub found_here : (y : Y) → find test (f x) ≡ Some y → find test (flat_map f (drop n xs)) ≡ Some y
  found_here y e = from_here ∙ ap (λ o. option_or o (find test (flat_map f (drop (n + 1) xs)))) e

  pub found_later : find test (f x) ≡ None → find test (flat_map f (drop n xs)) ≡ find test (flat_map f (drop (n + 1) xs))
  found_later e = from_here ∙ ap (λ o. option_or o (find test (flat_map f (drop (n + 1) xs)))) e

-- ---- the set at a place

none_looked_at : (highest place count : ℕ) (sets before : List SetsParts) (set : SetsParts) (archived : ArchivedParts) (b : Bool) → nat_lt highest set.account ≡ b → count ≡ (if b then 0 else place) → before ≡ take count sets → AreSetsUpTo highest (take place sets)
    → AreTapsOf set.account set.taps → AreFixesOf set.account set.fixes → is_set_refused archived before set ≡ is_set_refused archived (take place sets) set
none_looked_at highest place count sets before set archived true e few is up own too =
    let below : highest < set.account = grind (arith, nat_tests) in
    ap (λ (l : List SetsParts). is_set_refused archived l set) (is ∙ ap (λ (n : ℕ). take n sets) few) ∙ refused_above archived (take place sets) set highest up own too below
none_looked_at highest place count sets before set archived false e few is up own too = ap (λ (l : List SetsParts). is_set_refused archived l set) (is ∙ ap (λ (n : ℕ). take n sets) few)

next_set : {U : Type 0} (tell : RowsTell) (archive : Archives) (before later : List SetsParts) (set : SetsParts) (archived : ArchivedParts) (rows : AreRows archive set.account archived) (are : AreTaps set) (too : AreFixes set) (result : Result U PostFault)
    → IsConflictIf (is_set_refused archived before set) result → IsOk (archived_sets archive before)
    → MatchResult result (λ _. IsOk (archived_sets archive (before ++ set ∷ []))) (IsWhy (archived_sets archive (before ++ set ∷ later)))
next_set tell archive before later set archived rows are too (Ok done) judged ok = set_not_refused tell archive before later set archived rows are too ok judged
next_set tell archive before later set archived rows are too (Err why) judged ok =
    let is = judged.0 in
    (set_refused tell archive before later set archived rows are too ok judged.1 ∙ ap (λ (f : PostFault). Err f) (sym is), λ e. let clash = sym is ∙ e in cc, λ e. let clash = sym is ∙ e in cc)

pub set_judged : {U : Type 0} (tell : RowsTell) (ledger : LedgerParts) (sets before : List SetsParts) (place highest count : ℕ) (set : SetsParts) (archived : ArchivedParts) (result : Result U PostFault)
    → place < length sets → set ≡ get_or sets place set → archived ≡ archived_of set.account ledger → count ≡ (if nat_lt highest set.account then 0 else place) → before ≡ take count sets
    → IsConflictIf (is_set_refused archived before set) result → AreTaps set → AreFixes set → AreSetsUpTo highest (take place sets)
    → IsNext result (archived_sets (ledger.taps, ledger.fixes) (take place sets)) (archived_sets (ledger.taps, ledger.fixes) (take (place + 1) sets)) (archived_sets (ledger.taps, ledger.fixes) sets)
set_judged {U} tell ledger sets before place highest count set archived result below is own few taken judged are too up ok =
    let archive : Archives = (ledger.taps, ledger.fixes) in
    let rows : AreRows archive set.account archived = record { taps = ap (λ (a : ArchivedParts). a.taps) own; fixes = ap (λ (a : ArchivedParts). a.fixes) own } in
    let refused = none_looked_at highest place count sets before set archived (nat_lt highest set.account) refl few taken up are.0 too.0 in
    subst (λ (l : List SetsParts). MatchResult result (λ _. IsOk (archived_sets archive l)) (IsWhy (archived_sets archive sets))) (front_and_one sets place set below is)
    (subst (λ (l : List SetsParts). MatchResult result (λ _. IsOk (archived_sets archive (take place sets ++ set ∷ []))) (IsWhy (archived_sets archive l))) (front_and_rest sets place set below is)
    (next_set tell archive (take place sets) (drop (place + 1) sets) set archived rows are too result
    (subst (λ (b : Bool). IsConflictIf b result) refused judged) ok))

pub sets_up_more : (sets : List SetsParts) (place highest account next : ℕ) (set : SetsParts) → place < length sets → set ≡ get_or sets place set → account ≡ set.account → next ≡ max highest account → AreTapsOf set.account set.taps → AreFixesOf set.account set.fixes
    → AreSetsUpTo highest (take place sets) → AreSetsUpTo next (take (place + 1) sets)
sets_up_more sets place highest account next set below is own more taps fixes up =
    subst (AreSetsUpTo next) (front_and_one sets place set below is)
    (all_more (IsSetUpTo next) (take place sets) set
    (each_with (IsSetUpTo highest) (IsSetUpTo next) (λ s h. let least = h.0 in (omega (arith, least, more), h.1, h.2)) (take place sets) up)
    (omega (arith, own, more), taps, fixes))

-- ---- quotes and then sets

abbrev ended : List Posting × List Posting → Archives → Result (List Posting × LedgerParts) PostFault
ended g a = Ok (g.0, record { postings = g.1; taps = a.0; fixes = a.1 })

pub by_quotes : (ledger : LedgerParts) (quotes : List QuoteParts) (sets : List SetsParts) (why : PostFault) → IsWhy (post_each ledger.postings quotes) why → IsWhy (posted ledger quotes sets) why
by_quotes ledger quotes sets why is =
    (ap (λ (r : Result (List Posting × List Posting) PostFault). r >>= (λ g. archived_sets (ledger.taps, ledger.fixes) sets >>= ended g)) is.0, is.1, is.2)

ok_ended : (answer : Result (List Posting × List Posting) PostFault) (archive : Result Archives PostFault) → IsOk answer → IsOk archive → IsOk (answer >>= (λ g. archive >>= ended g))
ok_ended (Ok g) (Ok a) one two = refl
ok_ended (Ok g) (Err why) one two = absurd (cc)
ok_ended (Err why) archive one two = absurd (cc)

why_ended : (answer : Result (List Posting × List Posting) PostFault) (archive : Result Archives PostFault) (why : PostFault) → IsOk answer → archive ≡ Err why → (answer >>= (λ g. archive >>= ended g)) ≡ Err why
why_ended (Ok g) archive why one e = ap (λ (r : Result Archives PostFault). r >>= ended g) e
why_ended (Err why) archive other one e = absurd (cc)

pub by_sets : {U : Type 0} (ledger : LedgerParts) (quotes : List QuoteParts) (sets : List SetsParts) (result : Result U PostFault) → IsOk (post_each ledger.postings quotes) → IsVerdict result (archived_sets (ledger.taps, ledger.fixes) sets) → IsVerdict result (posted ledger quotes sets)
by_sets ledger quotes sets (Ok done) ok is = ok_ended (post_each ledger.postings quotes) (archived_sets (ledger.taps, ledger.fixes) sets) ok is
by_sets ledger quotes sets (Err why) ok is = (why_ended (post_each ledger.postings quotes) (archived_sets (ledger.taps, ledger.fixes) sets) why ok is.0, is.1, is.2)

pub none_lent : {X : Type 0} (o : Option (Bor X)) → ((x : Bor X) → o ≡ Some x → ⊥) → option_map (λ a. a.now) o ≡ None
none_lent None not = refl
none_lent (Some x) not = absurd (not x refl)

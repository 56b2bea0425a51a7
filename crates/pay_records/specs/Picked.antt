-- What a stretch of accounts has of one of them is what there is of it.
use Rattle.std.specs.Prelude.{◌≡◌, ℤ, Bool, true, false, cond, List, [], ◌∷◌, ◌++◌, map, filter, flat_map}
use Rattle.std.specs.Ordering.{int_eq}
use Rattle.std.specs.Cmp.{signed_Decides}
use Rattle.std.proofs.Common.{refl, sym, ap, ap₂, subst, ◌∙◌}
use Rattle.std.proofs.lemmas.List.Elements.{filter-append}
use Rattle.std.proofs.lemmas.List.{map-append}
use Rattle.sqlite_keyed.proofs.ListLemmas.{map-map, filter-map, filter-filter}
use Rattle.pay_rows.specs.declared.row.PostingRow.{PostingRow}
use Rattle.pay_rows.specs.declared.row.ShareRow.{ShareRow}
use Rattle.pay_rows.specs.declared.row.TapRow.{TapRow}
use Rattle.pay_rows.specs.declared.row.FixRow.{FixRow}
use Rattle.pay_records.specs.Rows.{LedgerRows}
use Rattle.pay_records.specs.Found.{rows_of, is_between, postings_of, shares_of, taps_of, fixes_of, postings_between, shares_between, taps_between, fixes_between}

-- rows that stand beside one number
beside_one : {A : Type 0} (account number : ℤ) (rows : List A) → rows_of account (map (λ x. (number, x)) rows) ≡ cond (int_eq number account) rows []
beside_one {A} account number [] = none (int_eq number account)
  where
    none : (b : Bool) → ◌≡◌ {A = List A} [] (cond b [] [])
    none true = refl
    none false = refl
beside_one {A} account number (x ∷ rows) = one (int_eq number account) (beside_one account number rows)
  where
    later : List (ℤ × A)
    later = filter (λ (r : ℤ × A). int_eq r.0 account) (map (λ x. (number, x)) rows)

    one : (b : Bool) → map (λ (r : ℤ × A). r.1) later ≡ cond b rows [] → map (λ (r : ℤ × A). r.1) (cond b ((number, x) ∷ later) later) ≡ cond b (x ∷ rows) []
    one true e = ap (λ l. x ∷ l) e
    one false e = e

-- what each row has, beside the account of it
rows_of_each : {A B : Type 0} (account : ℤ) (of : A → List B) (rows : List (ℤ × A)) → rows_of account (flat_map (λ (r : ℤ × A). map (λ x. (r.0, x)) (of r.1)) rows) ≡ flat_map of (rows_of account rows)
rows_of_each account of [] = refl
rows_of_each {A} {B} account of (r ∷ rows) =
    let own : ℤ × B → Bool = λ (s : ℤ × B). int_eq s.0 account in
    let first = map (λ x. (r.0, x)) (of r.1) in
    let later = flat_map (λ (r : ℤ × A). map (λ x. (r.0, x)) (of r.1)) rows in
    ap (map (λ (s : ℤ × B). s.1)) (filter-append own first later)
    ∙ map-append (λ (s : ℤ × B). s.1) (filter own first) (filter own later)
    ∙ ap₂ ◌++◌ (beside_one account r.0 (of r.1)) (rows_of_each account of rows)
    ∙ both (int_eq r.0 account)
  where
    rest : List (ℤ × A)
    rest = filter (λ (s : ℤ × A). int_eq s.0 account) rows

    both : (b : Bool) → cond b (of r.1) [] ++ flat_map of (map (λ (s : ℤ × A). s.1) rest) ≡ flat_map of (map (λ (s : ℤ × A). s.1) (cond b (r ∷ rest) rest))
    both true = refl
    both false = refl

module _ (from through account : ℤ) (l : LedgerRows) (inside : is_between from through account ≡ true) where
  own_is_between : (number : ℤ) → int_eq number account ≡ true → is_between from through number ≡ true
  own_is_between number own = subst (λ n. is_between from through n ≡ true) (sym ((signed_Decides number account).0 own)) inside

  pub postings_picked : rows_of account (postings_between from through l) ≡ postings_of account l
  postings_picked =
      let beside : ℤ × ℤ × PostingRow → ℤ × (ℤ × PostingRow) = λ (p : ℤ × ℤ × PostingRow). (p.1, (p.0, p.2)) in
      let between : ℤ × ℤ × PostingRow → Bool = λ (p : ℤ × ℤ × PostingRow). is_between from through p.1 in
      let own : ℤ × ℤ × PostingRow → Bool = λ (p : ℤ × ℤ × PostingRow). int_eq p.1 account in
      ap (map (λ (r : ℤ × (ℤ × PostingRow)). r.1)) (filter-map (λ (r : ℤ × (ℤ × PostingRow)). int_eq r.0 account) beside (filter between l.postings))
      ∙ map-map (λ (r : ℤ × (ℤ × PostingRow)). r.1) beside (filter own (filter between l.postings))
      ∙ ap (map (λ (p : ℤ × ℤ × PostingRow). (p.0, p.2))) (filter-filter own between (λ p. own_is_between p.1) l.postings)

  pub shares_picked : rows_of account (shares_between from through l) ≡ shares_of account l
  shares_picked =
      let of : ℤ × PostingRow → List ShareRow = λ (p : ℤ × PostingRow). filter (λ (s : ShareRow). int_eq s.posting p.0) l.shares in
      rows_of_each account of (postings_between from through l) ∙ ap (flat_map of) postings_picked

  pub taps_picked : rows_of account (taps_between from through l) ≡ taps_of account l
  taps_picked = ap (map (λ (t : ℤ × TapRow). t.1)) (filter-filter (λ (t : ℤ × TapRow). int_eq t.0 account) (λ (t : ℤ × TapRow). is_between from through t.0) (λ t. own_is_between t.0) l.taps)

  pub fixes_picked : rows_of account (fixes_between from through l) ≡ fixes_of account l
  fixes_picked = ap (map (λ (f : ℤ × FixRow). f.1)) (filter-filter (λ (f : ℤ × FixRow). int_eq f.0 account) (λ (f : ℤ × FixRow). is_between from through f.0) (λ f. own_is_between f.0) l.fixes)

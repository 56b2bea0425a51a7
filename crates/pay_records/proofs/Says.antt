-- What the rows that each SELECT shows tell.
use Rattle.std.proofs.Common.{◌≡◌, ◌≢◌, ℕ, ℤ, List, [], ◌∷◌, map, Result, Err, IfErr, refl, sym, ap, subst, ◌∙◌, IsPermutation}
use Rattle.std.specs.List.{AllByRecursion}
use Rattle.sqlite.specs.declared.types.Value.TheVariants.{Int}
use Rattle.sqlite.specs.Order.{Row, column}
use Rattle.sqlite.specs.State.{State, Shown}
use Rattle.pay_rows.specs.declared.row.PostingRow.{PostingRow}
use Rattle.pay_rows.specs.declared.row.ShareRow.{ShareRow}
use Rattle.pay_rows.specs.declared.row.TapRow.{TapRow}
use Rattle.pay_rows.specs.declared.row.FixRow.{FixRow}
use Rattle.pay_records.specs.Rows.{LedgerRows, HoldsRows, tap_numbers, fix_numbers}
use Rattle.pay_records.specs.declared.fault.ReadFault.{ReadFault}
use Rattle.pay_records.specs.declared.fault.ReadFault.TheVariants.{BadArchive, Memory}
use Rattle.pay_records.specs.Told.{IsWhole, AreWhole, whole_in, IsBadUnless, number_at, posting_at, share_at, tap_at, fix_at}
use Rattle.pay_records.specs.Found.{Finds, postings_between, shares_between, taps_between, fixes_between, posted_accounts, tapped_accounts, fixed_accounts}
use Rattle.pay_records.proofs.SelectTexts.{select_postings, select_shares, select_taps, select_fixes, select_all_taps, select_all_fixes, select_posted_accounts, select_tapped_accounts, select_fixed_accounts}
use Rattle.pay_records.proofs.Answered.{told_in_some_order, told_in_order, each_shown, each_in_order, beside_share, posting_shown, taps_shown, fixes_shown, all_taps_shown, all_fixes_shown, shares_shown, postings_shown, one_number, posted_accounts_shown, tapped_accounts_shown, fixed_accounts_shown}

-- columns that are whole numbers are not told to be bad
pub never_told_bad : {A : Type 0} (r : Result A ReadFault) (Whole : Type 0) → IfErr r (λ fault. fault ≢ Memory → IsBadUnless Whole fault) → r ≡ Err BadArchive → Whole → ⊥
never_told_bad r Whole told bad whole = (subst (λ r. IfErr r (λ fault. fault ≢ Memory → IsBadUnless Whole fault)) bad told (λ e. cc)).1 whole

itself : {X : Type 0} (xs : List X) → map (λ x. x) xs ≡ xs
itself [] = refl
itself (x ∷ xs) = ap (λ l. x ∷ l) (itself xs)

-- as the code has it: the parameters and the rows by other names
module _ (old new : State) (given : Row) (rows held : List Row) where
  pub record IsShown (text : List ℕ) (params : Row) : Type 0 where
    pub shown : Shown text given old new rows
    pub params_are : given ≡ params
    pub rows_are : held ≡ rows

  shown_rows : (text : List ℕ) (params : Row) → IsShown text params → Shown text params old new held
  shown_rows text params h = subst (λ r. Shown text params old new r) (sym h.rows_are) (subst (λ p. Shown text p old new rows) h.params_are h.shown)

  pub taps_told : (from through : ℤ) (list : List (ℤ × TapRow)) → IsShown select_taps (Int from ∷ Int through ∷ []) → list ≡ map (λ r. (whole_in (column r 0), tap_at 1 r)) held → Finds old new (λ l. list ≡ taps_between from through l)
  taps_told from through list is told l holds =
      let h = taps_shown from through old new held (shown_rows select_taps (Int from ∷ Int through ∷ []) is) l holds in
      (told ∙ told_in_order tap_numbers (λ r. (whole_in (column r 0), tap_at 1 r)) (λ (t : ℤ × TapRow). t) (λ x. refl) _ old new held h ∙ itself (taps_between from through l), h.unchanged)

  pub taps_whole : (from through : ℤ) → IsShown select_taps (Int from ∷ Int through ∷ []) → (l : LedgerRows) → HoldsRows old.now l → AllByRecursion (λ r. IsWhole (column r 0) × AreWhole 1 7 r) held
  taps_whole from through is l holds =
      let h = taps_shown from through old new held (shown_rows select_taps (Int from ∷ Int through ∷ []) is) l holds in
      each_in_order tap_numbers (λ r. IsWhole (column r 0) × AreWhole 1 7 r) (λ x. ((_, refl), ((_, refl), ((_, refl), ((_, refl), ((_, refl), ((_, refl), ((_, refl), ((_, refl), tt))))))))) _ old new held h

  pub fixes_told : (from through : ℤ) (list : List (ℤ × FixRow)) → IsShown select_fixes (Int from ∷ Int through ∷ []) → list ≡ map (λ r. (whole_in (column r 0), fix_at 1 r)) held → Finds old new (λ l. list ≡ fixes_between from through l)
  fixes_told from through list is told l holds =
      let h = fixes_shown from through old new held (shown_rows select_fixes (Int from ∷ Int through ∷ []) is) l holds in
      (told ∙ told_in_order fix_numbers (λ r. (whole_in (column r 0), fix_at 1 r)) (λ (f : ℤ × FixRow). f) (λ x. refl) _ old new held h ∙ itself (fixes_between from through l), h.unchanged)

  pub fixes_whole : (from through : ℤ) → IsShown select_fixes (Int from ∷ Int through ∷ []) → (l : LedgerRows) → HoldsRows old.now l → AllByRecursion (λ r. IsWhole (column r 0) × AreWhole 1 8 r) held
  fixes_whole from through is l holds =
      let h = fixes_shown from through old new held (shown_rows select_fixes (Int from ∷ Int through ∷ []) is) l holds in
      each_in_order fix_numbers (λ r. IsWhole (column r 0) × AreWhole 1 8 r) (λ x. ((_, refl), ((_, refl), ((_, refl), ((_, refl), ((_, refl), ((_, refl), ((_, refl), ((_, refl), ((_, refl), tt)))))))))) _ old new held h

  pub postings_told : (from through : ℤ) (list : List (ℤ × (ℤ × PostingRow))) → IsShown select_postings (Int from ∷ Int through ∷ []) → list ≡ map (λ r. (whole_in (column r 0), posting_at 1 r)) held
      → Finds old new (λ l. list ≡ postings_between from through l)
  postings_told from through list is told l holds =
      let h = postings_shown from through old new held (shown_rows select_postings (Int from ∷ Int through ∷ []) is) l holds in
      (told ∙ told_in_order posting_shown (λ r. (whole_in (column r 0), posting_at 1 r)) (λ (p : ℤ × ℤ × PostingRow). (p.1, (p.0, p.2))) (λ x. refl) _ old new held h, h.unchanged)

  pub postings_whole : (from through : ℤ) → IsShown select_postings (Int from ∷ Int through ∷ []) → (l : LedgerRows) → HoldsRows old.now l → AllByRecursion (λ r. IsWhole (column r 0) × AreWhole 1 7 r) held
  postings_whole from through is l holds =
      let h = postings_shown from through old new held (shown_rows select_postings (Int from ∷ Int through ∷ []) is) l holds in
      each_in_order posting_shown (λ r. IsWhole (column r 0) × AreWhole 1 7 r) (λ x. ((_, refl), ((_, refl), ((_, refl), ((_, refl), ((_, refl), ((_, refl), ((_, refl), ((_, refl), tt))))))))) _ old new held h

  pub shares_told : (from through : ℤ) (list : List (ℤ × ShareRow)) → IsShown select_shares (Int from ∷ Int through ∷ []) → list ≡ map (λ r. (whole_in (column r 0), share_at 1 r)) held
      → Finds old new (λ l. IsPermutation (shares_between from through l) list)
  shares_told from through list is told l holds =
      let h = shares_shown from through old new held (shown_rows select_shares (Int from ∷ Int through ∷ []) is) l holds in
      let same = told_in_some_order beside_share (λ r. (whole_in (column r 0), share_at 1 r)) (λ (s : ℤ × ShareRow). s) (λ x. refl) _ old new held h in
      (subst (IsPermutation (shares_between from through l)) (sym told) (subst (λ f. IsPermutation f (map (λ r. (whole_in (column r 0), share_at 1 r)) held)) (itself (shares_between from through l)) same), h.unchanged)

  pub shares_whole : (from through : ℤ) → IsShown select_shares (Int from ∷ Int through ∷ []) → (l : LedgerRows) → HoldsRows old.now l → AllByRecursion (λ r. IsWhole (column r 0) × AreWhole 1 3 r) held
  shares_whole from through is l holds =
      let h = shares_shown from through old new held (shown_rows select_shares (Int from ∷ Int through ∷ []) is) l holds in
      each_shown beside_share (λ r. IsWhole (column r 0) × AreWhole 1 3 r) (λ x. ((_, refl), ((_, refl), ((_, refl), ((_, refl), tt))))) _ old new held h

  pub all_taps_told : (list : List (ℤ × TapRow)) → IsShown select_all_taps [] → list ≡ map (λ r. (whole_in (column r 0), tap_at 1 r)) held → Finds old new (λ l. list ≡ l.taps)
  all_taps_told list is told l holds =
      let h = all_taps_shown old new held (shown_rows select_all_taps [] is) l holds in
      (told ∙ told_in_order tap_numbers (λ r. (whole_in (column r 0), tap_at 1 r)) (λ (t : ℤ × TapRow). t) (λ x. refl) _ old new held h ∙ itself l.taps, h.unchanged)

  pub all_taps_whole : IsShown select_all_taps [] → (l : LedgerRows) → HoldsRows old.now l → AllByRecursion (λ r. IsWhole (column r 0) × AreWhole 1 7 r) held
  all_taps_whole is l holds =
      let h = all_taps_shown old new held (shown_rows select_all_taps [] is) l holds in
      each_in_order tap_numbers (λ r. IsWhole (column r 0) × AreWhole 1 7 r) (λ x. ((_, refl), ((_, refl), ((_, refl), ((_, refl), ((_, refl), ((_, refl), ((_, refl), ((_, refl), tt))))))))) _ old new held h

  pub all_fixes_told : (list : List (ℤ × FixRow)) → IsShown select_all_fixes [] → list ≡ map (λ r. (whole_in (column r 0), fix_at 1 r)) held → Finds old new (λ l. list ≡ l.fixes)
  all_fixes_told list is told l holds =
      let h = all_fixes_shown old new held (shown_rows select_all_fixes [] is) l holds in
      (told ∙ told_in_order fix_numbers (λ r. (whole_in (column r 0), fix_at 1 r)) (λ (t : ℤ × FixRow). t) (λ x. refl) _ old new held h ∙ itself l.fixes, h.unchanged)

  pub all_fixes_whole : IsShown select_all_fixes [] → (l : LedgerRows) → HoldsRows old.now l → AllByRecursion (λ r. IsWhole (column r 0) × AreWhole 1 8 r) held
  all_fixes_whole is l holds =
      let h = all_fixes_shown old new held (shown_rows select_all_fixes [] is) l holds in
      each_in_order fix_numbers (λ r. IsWhole (column r 0) × AreWhole 1 8 r) (λ x. ((_, refl), ((_, refl), ((_, refl), ((_, refl), ((_, refl), ((_, refl), ((_, refl), ((_, refl), ((_, refl), tt)))))))))) _ old new held h

  pub posted_accounts_told : (list : List ℤ) → IsShown select_posted_accounts [] → list ≡ map (number_at 0) held → Finds old new (λ l. list ≡ posted_accounts l)
  posted_accounts_told list is told l holds =
      let h = posted_accounts_shown old new held (shown_rows select_posted_accounts [] is) l holds in
      (told ∙ told_in_order one_number (number_at 0) (λ (n : ℤ). n) (λ x. refl) _ old new held h ∙ itself (posted_accounts l), h.unchanged)

  pub posted_accounts_whole : IsShown select_posted_accounts [] → (l : LedgerRows) → HoldsRows old.now l → AllByRecursion (AreWhole 0 1) held
  posted_accounts_whole is l holds =
      let h = posted_accounts_shown old new held (shown_rows select_posted_accounts [] is) l holds in
      each_in_order one_number (AreWhole 0 1) (λ x. ((_, refl), tt)) _ old new held h

  pub tapped_accounts_told : (list : List ℤ) → IsShown select_tapped_accounts [] → list ≡ map (number_at 0) held → Finds old new (λ l. list ≡ tapped_accounts l)
  tapped_accounts_told list is told l holds =
      let h = tapped_accounts_shown old new held (shown_rows select_tapped_accounts [] is) l holds in
      (told ∙ told_in_order one_number (number_at 0) (λ (n : ℤ). n) (λ x. refl) _ old new held h ∙ itself (tapped_accounts l), h.unchanged)

  pub tapped_accounts_whole : IsShown select_tapped_accounts [] → (l : LedgerRows) → HoldsRows old.now l → AllByRecursion (AreWhole 0 1) held
  tapped_accounts_whole is l holds =
      let h = tapped_accounts_shown old new held (shown_rows select_tapped_accounts [] is) l holds in
      each_in_order one_number (AreWhole 0 1) (λ x. ((_, refl), tt)) _ old new held h

  pub fixed_accounts_told : (list : List ℤ) → IsShown select_fixed_accounts [] → list ≡ map (number_at 0) held → Finds old new (λ l. list ≡ fixed_accounts l)
  fixed_accounts_told list is told l holds =
      let h = fixed_accounts_shown old new held (shown_rows select_fixed_accounts [] is) l holds in
      (told ∙ told_in_order one_number (number_at 0) (λ (n : ℤ). n) (λ x. refl) _ old new held h ∙ itself (fixed_accounts l), h.unchanged)

  pub fixed_accounts_whole : IsShown select_fixed_accounts [] → (l : LedgerRows) → HoldsRows old.now l → AllByRecursion (AreWhole 0 1) held
  fixed_accounts_whole is l holds =
      let h = fixed_accounts_shown old new held (shown_rows select_fixed_accounts [] is) l holds in
      each_in_order one_number (AreWhole 0 1) (λ x. ((_, refl), tt)) _ old new held h

-- A row is taken into its account, which is put back at its number.
use Rattle.std.proofs.Common.{◌≡◌, ℕ, ◌≤◌, List, Option, Some, None, is_some, IsSome, refl, sym, ap, ◌∙◌, subst}
use Rattle.std.specs.Prelude.{ℤ}
use Rattle.std.specs.FinMap.{insert, empty, entries}
use Rattle.pay_tables.specs.Words.{FareEditions}
use Rattle.pay_rules.specs.declared.tap.Tap.{Tap}
use Rattle.pay_rules.specs.declared.fix.Fix.{Fix}
use Rattle.pay_rules.specs.Accepted.{Accepted}
use Rattle.pay_rules.specs.State.{State, accepted_of}
use Rattle.pay_rows.specs.declared.row.TapRow.{TapRow}
use Rattle.pay_rows.specs.declared.row.FixRow.{FixRow}
use Rattle.pay_set_rows.specs.Ranged.{◌>>=◌}
use Rattle.pay_restore.specs.Restored.{tap_of_row, fix_of_row, with_archived_tap, with_archived_fix, with_tap_row, with_tap_rows, with_fix_row, with_fix_rows, restored}

pub still_from_1 : (account before now : ℕ) → 1 ≤ account → before ≡ account → now ≡ before → 1 ≤ now
still_from_1 account before now from_1 own same = subst (λ n. 1 ≤ n) (sym (same ∙ own)) from_1

some_through : {A B : Type 0} (f : A → B) (o : Option A) → IsSome o → IsSome (o >>= λ a. Some (f a))
some_through f (Some a) is = refl
some_through f None is = absurd (cc)

-- a row whose tap or correction its account takes is taken
module _ (editions : FareEditions) (state : State) (before : Accepted) where
  pub tap_taken : (row : ℤ × TapRow) (tap : Tap) → Some tap ≡ tap_of_row row → before ≡ accepted_of state tap.account → IsSome (with_archived_tap editions before tap) → IsSome (with_tap_row editions state row)
  tap_taken row tap read was is =
      let whole : with_tap_row editions state row ≡ (with_archived_tap editions before tap >>= λ a. Some (insert state tap.account a)) =
      ap (λ (o : Option Tap). o >>= λ t. with_archived_tap editions (accepted_of state t.account) t >>= λ a. Some (insert state t.account a)) (sym read)
      ∙ ap (λ (b : Accepted). with_archived_tap editions b tap >>= λ a. Some (insert state tap.account a)) (sym was) in
      ap is_some whole ∙ some_through (insert state tap.account) (with_archived_tap editions before tap) is

  pub fix_taken : (row : ℤ × FixRow) (fix : Fix) → Some fix ≡ fix_of_row row → before ≡ accepted_of state fix.account → IsSome (with_archived_fix editions before fix) → IsSome (with_fix_row editions state row)
  fix_taken row fix read was is =
      let whole : with_fix_row editions state row ≡ (with_archived_fix editions before fix >>= λ a. Some (insert state fix.account a)) =
      ap (λ (o : Option Fix). o >>= λ f. with_archived_fix editions (accepted_of state f.account) f >>= λ a. Some (insert state f.account a)) (sym read)
      ∙ ap (λ (b : Accepted). with_archived_fix editions b fix >>= λ a. Some (insert state fix.account a)) (sym was) in
      ap is_some whole ∙ some_through (insert state fix.account) (with_archived_fix editions before fix) is

pub taken_some : {X : Type 0} (o : Option X) (x : X) → o ≡ Some x → IsSome o
taken_some o x e = ap is_some e

module _ (editions : FareEditions) (state mid end : State) (before after : Accepted) (account : ℕ) where
  pub tap_restored : (row : ℤ × TapRow) (tap : Tap) → Some tap ≡ tap_of_row row → before ≡ accepted_of state tap.account → with_archived_tap editions before tap ≡ Some after → account ≡ tap.account
      → end ≡ insert mid account after → ((a : Accepted) → insert mid tap.account a ≡ insert state tap.account a) → with_tap_row editions state row ≡ Some end
  tap_restored row tap read was taken own kept others =
      ap (λ (o : Option Tap). o >>= λ t. with_archived_tap editions (accepted_of state t.account) t >>= λ a. Some (insert state t.account a)) (sym read)
      ∙ ap (λ (b : Accepted). with_archived_tap editions b tap >>= λ a. Some (insert state tap.account a)) (sym was)
      ∙ ap (λ (o : Option Accepted). o >>= λ a. Some (insert state tap.account a)) taken
      ∙ ap Some (sym (others after) ∙ ap (λ n. insert mid n after) (sym own) ∙ sym kept)

  pub fix_restored : (row : ℤ × FixRow) (fix : Fix) → Some fix ≡ fix_of_row row → before ≡ accepted_of state fix.account → with_archived_fix editions before fix ≡ Some after → account ≡ fix.account
      → end ≡ insert mid account after → ((a : Accepted) → insert mid fix.account a ≡ insert state fix.account a) → with_fix_row editions state row ≡ Some end
  fix_restored row fix read was taken own kept others =
      ap (λ (o : Option Fix). o >>= λ f. with_archived_fix editions (accepted_of state f.account) f >>= λ a. Some (insert state f.account a)) (sym read)
      ∙ ap (λ (b : Accepted). with_archived_fix editions b fix >>= λ a. Some (insert state fix.account a)) (sym was)
      ∙ ap (λ (o : Option Accepted). o >>= λ a. Some (insert state fix.account a)) taken
      ∙ ap Some (sym (others after) ∙ ap (λ n. insert mid n after) (sym own) ∙ sym kept)

-- ---- the whole archive

module _ (editions : FareEditions) (taps : List (ℤ × TapRow)) (fixes : List (ℤ × FixRow)) (start : State) (none : start ≡ empty) where
  after_taps : restored editions taps fixes ≡ (with_tap_rows editions start taps >>= λ tapped. with_fix_rows editions tapped fixes >>= λ all. Some (entries all))
  after_taps = ap (λ s. with_tap_rows editions s taps >>= λ tapped. with_fix_rows editions tapped fixes >>= λ all. Some (entries all)) (sym none)

  after_fixes : (mid : State) → with_tap_rows editions start taps ≡ Some mid → restored editions taps fixes ≡ (with_fix_rows editions mid fixes >>= λ all. Some (entries all))
  after_fixes mid tapped = after_taps ∙ ap (λ (o : Option State). o >>= λ tapped. with_fix_rows editions tapped fixes >>= λ all. Some (entries all)) tapped

  pub tap_refused : with_tap_rows editions start taps ≡ None → restored editions taps fixes ≡ None
  tap_refused refused = after_taps ∙ ap (λ (o : Option State). o >>= λ tapped. with_fix_rows editions tapped fixes >>= λ all. Some (entries all)) refused

  pub fix_refused : (mid : State) → with_tap_rows editions start taps ≡ Some mid → with_fix_rows editions mid fixes ≡ None → restored editions taps fixes ≡ None
  fix_refused mid tapped refused = after_fixes mid tapped ∙ ap (λ (o : Option State). o >>= λ all. Some (entries all)) refused

  pub all_restored : (mid end : State) (list : List (ℕ × Accepted)) → with_tap_rows editions start taps ≡ Some mid → with_fix_rows editions mid fixes ≡ Some end → entries end ≡ list → restored editions taps fixes ≡ Some list
  all_restored mid end list tapped fixed is = after_fixes mid tapped ∙ ap (λ (o : Option State). o >>= λ all. Some (entries all)) fixed ∙ ap Some is

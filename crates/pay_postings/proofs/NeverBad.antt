-- Neither a quote nor a set is refused by saying that the archive is bad.
use Rattle.std.proofs.Common.{◌≡◌, Bool, true, false, List, [], ◌∷◌, find, Option, Some, None, Result, Ok, Err, IsErrAnd, sym, ap, ◌∙◌}
use Rattle.pay_rules.specs.declared.tap.Tap.{Tap}
use Rattle.pay_rules.specs.declared.fix.Fix.{Fix}
use Rattle.pay_rows.specs.declared.row.TapRow.{TapRow}
use Rattle.pay_rows.specs.declared.row.FixRow.{FixRow}
use Rattle.pay_rules.specs.declared.post_fault.PostFault.{PostFault}
use Rattle.pay_rules.specs.declared.post_fault.PostFault.TheVariants.{BadArchive}
use Rattle.pay_postings.specs.Faults.{◌>>=◌}
use Rattle.pay_set_rows.specs.SetRows.{tap_row, fix_row}
use Rattle.pay_postings.specs.NewRows.{is_tap_at, is_tap_row, is_fix_at, is_fix_row, unless_other, is_new_beside, is_new_tap, is_new_fix, with_new, new_after, new_taps, new_fixes}

-- ---- what is to be written of a set

beside_never_bad : {R : Type 0} (same : R → R → Bool) (row : R) (there : Option R) → is_new_beside same row there ≡ Err BadArchive → ⊥
beside_never_bad same row None e = cc
beside_never_bad same row (Some there) e = go (same row there) e
  where
    go : (is_same : Bool) → unless_other is_same ≡ Err BadArchive → ⊥
    go true e = cc
    go false e = cc

new_never_bad : {X : Type 0} (is_new : X → Result Bool PostFault) → ((x : X) → is_new x ≡ Err BadArchive → ⊥) → (list more : List X) → new_after is_new list more ≡ Err BadArchive → ⊥
new_never_bad is_new never list [] e = cc
new_never_bad is_new never list (x ∷ more) e = go (is_new x) (never x) (λ is. new_never_bad is_new never (with_new is x list) more) e
  where
    go : (first : Result Bool PostFault) → (first ≡ Err BadArchive → ⊥) → ((is : Bool) → new_after is_new (with_new is x list) more ≡ Err BadArchive → ⊥)
        → (first >>= (λ is. new_after is_new (with_new is x list) more)) ≡ Err BadArchive → ⊥
    go (Ok is) first rest e = rest is e
    go (Err why) first rest e = let bad : why ≡ BadArchive = cc in first (ap Err bad)

pub taps_never_bad : (rows : List TapRow) (taps : List Tap) → new_taps rows taps ≡ Err BadArchive → ⊥
taps_never_bad rows taps = new_never_bad (is_new_tap rows) (λ tap. beside_never_bad is_tap_row (tap_row tap) (find (is_tap_at (tap_row tap)) rows)) [] taps

pub fixes_never_bad : (rows : List FixRow) (fixes : List Fix) → new_fixes rows fixes ≡ Err BadArchive → ⊥
fixes_never_bad rows fixes = new_never_bad (is_new_fix rows) (λ fix. beside_never_bad is_fix_row (fix_row fix) (find (is_fix_at (fix_row fix)) rows)) [] fixes

-- ---- what a definition refuses otherwise, or what wants memory, is not refused so

pub not_bad : {A : Type 0} (r : Result A PostFault) (why : PostFault) → IsErrAnd r (λ fault. fault ≡ why) → (why ≡ BadArchive → ⊥) → r ≡ Err BadArchive → ⊥
not_bad (Ok x) why is not e = cc
not_bad (Err fault) why is not e = let bad : fault ≡ BadArchive = cc in not (sym is ∙ bad)

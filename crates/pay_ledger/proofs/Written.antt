-- A posting, a tap and a correction more in a ledger.
use Rattle.std.proofs.Common.{◌≡◌, ℤ, pos, List, [], ◌∷◌, ◌++◌, length, map, flat_map, refl, sym, ap, ap₂, subst, ◌∙◌, append-nil, arith}
use Rattle.std.specs.List.{zip}
use Rattle.std.proofs.lemmas.List.{map-append}
use Rattle.std.proofs.lemmas.Grind.{flat_map-append}
use Rattle.sqlite.specs.Effect.{Database}
use Rattle.sqlite.specs.State.{State}
use Rattle.pay_rules.specs.declared.tap.Tap.{Tap}
use Rattle.pay_rules.specs.declared.fix.Fix.{Fix}
use Rattle.pay_rules.specs.declared.posting.Posting.{Posting}
use Rattle.pay_postings.specs.Words.{LedgerParts, BatchLists, with_batch}
use Rattle.pay_rows.specs.declared.row.ShareRow.{ShareRow}
use Rattle.pay_rows.specs.declared.row.PostingRow.{PostingRow}
use Rattle.pay_rows.specs.declared.row.TapRow.{TapRow}
use Rattle.pay_rows.specs.declared.row.FixRow.{FixRow}
use Rattle.pay_postings.specs.PostingRows.{posting_row, share_rows}
use Rattle.pay_set_rows.specs.SetRows.{tap_row, fix_row}
use Rattle.pay_records.specs.Words.{LedgerRows, HoldsRows}
use Rattle.pay_ledger.specs.Stores.{Stores, row_of_posting, row_of_tap, row_of_fix, with_postings, with_taps, with_fixes}
use Rattle.pay_ledger.specs.Steps.{Grows}
use Rattle.pay_ledger.proofs.Along.{others_then}

zip_more : {A B : Type 0} (xs : List A) (bs : List B) (a : A) (b : B) → length xs ≡ length bs → zip (xs ++ a ∷ []) (bs ++ b ∷ []) ≡ zip xs bs ++ (a, b) ∷ []
zip_more [] [] a b same = refl
zip_more [] (y ∷ bs) a b same = absurd (omega (arith, same))
zip_more (x ∷ xs) [] a b same = absurd (omega (arith, same))
zip_more (x ∷ xs) (y ∷ bs) a b same = ap (λ l. (x, y) ∷ l) (zip_more xs bs a b (omega (arith, same)))

long_more : {A B : Type 0} (xs : List A) (bs : List B) (a : A) (b : B) → length xs ≡ length bs → length (xs ++ a ∷ []) ≡ length (bs ++ b ∷ [])
long_more [] [] a b same = refl
long_more [] (y ∷ bs) a b same = absurd (omega (arith, same))
long_more (x ∷ xs) [] a b same = absurd (omega (arith, same))
long_more (x ∷ xs) (y ∷ bs) a b same = let more = long_more xs bs a b (omega (arith, same)) in omega (arith, more)

pub posting_written : (db mid new : Database) (id account : ℤ) (row : PostingRow) (shares : List ShareRow) (posting : Posting) → account ≡ pos posting.quote.account → row ≡ posting_row posting → shares ≡ share_rows id posting
    → ((l : LedgerRows) → HoldsRows db l → HoldsRows mid (record l { postings = l.postings ++ (id, account, row) ∷ [] })) → ((l : LedgerRows) → HoldsRows mid l → HoldsRows new (record l { shares = l.shares ++ shares }))
    → (ledger : LedgerParts) → Stores db ledger → Stores new (record ledger { postings = ledger.postings ++ posting ∷ [] })
posting_written db mid new id account row shares posting of is are one two ledger k =
    let more : zip (k.are.ids ++ id ∷ []) (ledger.postings ++ posting ∷ []) ≡ zip k.are.ids ledger.postings ++ (id, posting) ∷ [] = zip_more k.are.ids ledger.postings id posting k.are.as_long in
    record {
      rows = record k.rows { postings = k.rows.postings ++ (id, account, row) ∷ []; shares = k.rows.shares ++ shares };
      held = two _ (one k.rows k.held);
      are = record {
        ids = k.are.ids ++ id ∷ [];
        as_long = long_more k.are.ids ledger.postings id posting k.are.as_long;
        postings = ap₂ (λ l (r : ℤ × ℤ × PostingRow). l ++ r ∷ []) k.are.postings (ap₂ (λ a r. (id, a, r)) of is) ∙ sym (map-append row_of_posting (zip k.are.ids ledger.postings) ((id, posting) ∷ [])) ∙ ap (map row_of_posting) (sym more);
        shares = ap₂ ◌++◌ k.are.shares are ∙ ap (λ l. flat_map (λ (n : ℤ × Posting). share_rows n.0 n.1) (zip k.are.ids ledger.postings) ++ l) (sym (append-nil (share_rows id posting)))
            ∙ sym (flat_map-append (λ (n : ℤ × Posting). share_rows n.0 n.1) (zip k.are.ids ledger.postings) ((id, posting) ∷ [])) ∙ ap (flat_map (λ (n : ℤ × Posting). share_rows n.0 n.1)) (sym more);
        taps = k.are.taps;
        fixes = k.are.fixes;
      };
    }

pub tap_written : (db new : Database) (tap : Tap) (account : ℤ) (row : TapRow) → account ≡ pos tap.account → row ≡ tap_row tap → ((l : LedgerRows) → HoldsRows db l → HoldsRows new (record l { taps = l.taps ++ (account, row) ∷ [] }))
    → (ledger : LedgerParts) → Stores db ledger → Stores new (record ledger { taps = ledger.taps ++ tap ∷ [] })
tap_written db new tap account row of is one ledger k = record {
  rows = record k.rows { taps = k.rows.taps ++ (account, row) ∷ [] };
  held = one k.rows k.held;
  are = record {
    ids = k.are.ids;
    as_long = k.are.as_long;
    postings = k.are.postings;
    shares = k.are.shares;
    taps = ap₂ (λ l (r : ℤ × TapRow). l ++ r ∷ []) k.are.taps (ap₂ (λ a r. (a, r)) of is) ∙ sym (map-append row_of_tap ledger.taps (tap ∷ []));
    fixes = k.are.fixes;
  };
}

pub fix_written : (db new : Database) (fix : Fix) (account : ℤ) (row : FixRow) → account ≡ pos fix.account → row ≡ fix_row fix → ((l : LedgerRows) → HoldsRows db l → HoldsRows new (record l { fixes = l.fixes ++ (account, row) ∷ [] }))
    → (ledger : LedgerParts) → Stores db ledger → Stores new (record ledger { fixes = ledger.fixes ++ fix ∷ [] })
fix_written db new fix account row of is one ledger k = record {
  rows = record k.rows { fixes = k.rows.fixes ++ (account, row) ∷ [] };
  held = one k.rows k.held;
  are = record {
    ids = k.are.ids;
    as_long = k.are.as_long;
    postings = k.are.postings;
    shares = k.are.shares;
    taps = k.are.taps;
    fixes = ap₂ (λ l (r : ℤ × FixRow). l ++ r ∷ []) k.are.fixes (ap₂ (λ a r. (a, r)) of is) ∙ sym (map-append row_of_fix ledger.fixes (fix ∷ []));
  };
}

-- all that a batch adds
pub batch_written : (a b c d : State) (batch : BatchLists) (postings : List Posting) (taps : List Tap) (fixes : List Fix) → postings ≡ batch.postings → taps ≡ batch.taps → fixes ≡ batch.fixes
    → Grows a b (with_postings postings) → Grows b c (with_taps taps) → Grows c d (with_fixes fixes) → Grows a d (λ ledger. with_batch ledger batch)
batch_written a b c d batch postings taps fixes posted tapped fixed first second third =
    let one = subst (λ more. Grows a b (with_postings more)) posted first in
    let two = subst (λ more. Grows b c (with_taps more)) tapped second in
    let three = subst (λ more. Grows c d (with_fixes more)) fixed third in
    (λ ledger unchanged. three.0 _ (two.0 _ (one.0 ledger unchanged)), others_then a.now c.now d.now (others_then a.now b.now c.now one.1 two.1) three.1)

use Rattle.std.proofs.Common.{rules, ◌≡◌, ◌↔◌, ℤ, true, Err, Equal, get_or, to_z, of_z, w64, subst}
use Rattle.std.specs.List.Sorted.{IsBinarySearchResult}
use Rattle.std.proofs.lemmas.List.Sorted.{answers_always}
use Rattle.pay_rows.specs.declared.row.TapRow.{TapRow}
use Rattle.pay_rules.specs.declared.limits.TheConstants.{MOST_TAPS}
use Rattle.pay_rules.specs.declared.tap.Tap.{Tap}
use Rattle.pay_rules.specs.Taps.{number}
use Rattle.pay_set_rows.specs.SetRows.{tap_row}
use Rattle.pay_audit.proofs.Sought.{wide, wide_cmp, at_place, nowhere, tap_number}
use Rattle.pay_audit.proofs.comparing.is_tap_row.Goals as goal

pub returns-in-Ok : goal.returns-in-Ok
returns-in-Ok c =
    let row = c.args.row.now in
    let first : to_z w64 (of_z w64 row.reader) ≡ row.reader = search rules in
    let second : to_z w64 (of_z w64 row.seq) ≡ row.seq = search rules in
    let item = c.index-taps-at.result in
    at_place number MOST_TAPS tap_row (λ (r : TapRow). (r.reader, r.seq)) tap_number c.args.taps.now row c.requires c.is_of_tap.result c.in-Ok.at item c.in-Ok.ensures.bound
    (subst (λ (q : ℤ × ℤ). wide_cmp (wide (number (get_or c.args.taps.now c.in-Ok.at item))) q ≡ Equal) {x = (to_z w64 (of_z w64 row.reader), to_z w64 (of_z w64 row.seq))} {y = (row.reader, row.seq)} (λ i. (first i, second i))
    (c.in-Ok.ensures.position (λ (tap : Tap). wide (number tap)) (answers_always _ _ _ (λ f a r g h. search rules)) item))
    (subst (λ (tap : Tap). (c.is_of_tap.result ≡ true) ↔ (tap_row tap ≡ row)) c.index-taps-at.is c.is_of_tap.ensures)

pub returns-in-Err : goal.returns-in-Err
returns-in-Err c =
    let row = c.args.row.now in
    let first : to_z w64 (of_z w64 row.reader) ≡ row.reader = search rules in
    let second : to_z w64 (of_z w64 row.seq) ≡ row.seq = search rules in
    nowhere number MOST_TAPS tap_row (λ (r : TapRow). (r.reader, r.seq)) tap_number c.args.taps.now row c.requires c.in-Err.field-0
    (subst (λ (q : ℤ × ℤ). IsBinarySearchResult (λ (tap : Tap). wide_cmp (wide (number tap)) q) c.args.taps.now (Err c.in-Err.field-0)) {x = (to_z w64 (of_z w64 row.reader), to_z w64 (of_z w64 row.seq))} {y = (row.reader, row.seq)} (λ i. (first i, second i))
    (c.in-Err.ensures.position (λ (tap : Tap). wide (number tap)) (answers_always _ _ _ (λ f a r g h. search rules))))

use Rattle.std.proofs.Common.{rules, ◌≡◌, ◌↔◌, ℤ, true, Err, Equal, get_or, to_z, of_z, w64, subst}
use Rattle.std.specs.List.Sorted.{IsBinarySearchResult}
use Rattle.std.proofs.lemmas.List.Sorted.{answers_always}
use Rattle.pay_rows.specs.declared.row.FixRow.{FixRow}
use Rattle.pay_rules.specs.declared.limits.TheConstants.{MOST_FIXES}
use Rattle.pay_rules.specs.declared.fix.Fix.{Fix}
use Rattle.pay_rules.specs.Fixes.{number}
use Rattle.pay_set_rows.specs.SetRows.{fix_row}
use Rattle.pay_audit.proofs.Sought.{wide, wide_cmp, at_place, nowhere, fix_number}
use Rattle.pay_audit.proofs.comparing.is_fix_row.Goals as goal

pub returns-in-Ok : goal.returns-in-Ok
returns-in-Ok c =
    let row = c.args.row.now in
    let first : to_z w64 (of_z w64 row.staff) ≡ row.staff = search rules in
    let second : to_z w64 (of_z w64 row.seq) ≡ row.seq = search rules in
    let item = c.index-fixes-at.result in
    at_place number MOST_FIXES fix_row (λ (r : FixRow). (r.staff, r.seq)) fix_number c.args.fixes.now row c.requires c.is_of_fix.result c.in-Ok.at item c.in-Ok.ensures.bound
    (subst (λ (q : ℤ × ℤ). wide_cmp (wide (number (get_or c.args.fixes.now c.in-Ok.at item))) q ≡ Equal) {x = (to_z w64 (of_z w64 row.staff), to_z w64 (of_z w64 row.seq))} {y = (row.staff, row.seq)} (λ i. (first i, second i))
    (c.in-Ok.ensures.position (λ (fix : Fix). wide (number fix)) (answers_always _ _ _ (λ f a r g h. search rules)) item))
    (subst (λ (fix : Fix). (c.is_of_fix.result ≡ true) ↔ (fix_row fix ≡ row)) c.index-fixes-at.is c.is_of_fix.ensures)

pub returns-in-Err : goal.returns-in-Err
returns-in-Err c =
    let row = c.args.row.now in
    let first : to_z w64 (of_z w64 row.staff) ≡ row.staff = search rules in
    let second : to_z w64 (of_z w64 row.seq) ≡ row.seq = search rules in
    nowhere number MOST_FIXES fix_row (λ (r : FixRow). (r.staff, r.seq)) fix_number c.args.fixes.now row c.requires c.in-Err.field-0
    (subst (λ (q : ℤ × ℤ). IsBinarySearchResult (λ (fix : Fix). wide_cmp (wide (number fix)) q) c.args.fixes.now (Err c.in-Err.field-0)) {x = (to_z w64 (of_z w64 row.staff), to_z w64 (of_z w64 row.seq))} {y = (row.staff, row.seq)} (λ i. (first i, second i))
    (c.in-Err.ensures.position (λ (fix : Fix). wide (number fix)) (answers_always _ _ _ (λ f a r g h. search rules))))

-- Corrections with the same content are one.
use Rattle.std.proofs.Common.{◌≡◌, ℕ, true, eqb-true, eq-eqb, refl}
use Rattle.std.proofs.lemmas.Bool.{and_parts, and_from}
use Rattle.pay_rules.specs.SameTap.{stamp_from_same, stamp_itself, kind_from_same, kind_itself}
use Rattle.pay_rules.specs.Fixes.{is_number, same_what, same_fix}
use Rattle.pay_rules.specs.declared.fix.Fix.{Fix}
use Rattle.pay_rules.specs.declared.fix.What.{What}
use Rattle.pay_rules.specs.declared.fix.What.TheVariants.{Void, Fill, Credit, Drop}

pub number_from_same : (a b : ℕ × ℕ) → is_number a b ≡ true → a ≡ b
number_from_same a b e =
    let parts = and_parts _ _ e in
    let first : a.0 ≡ b.0 = eqb-true _ _ parts.0 in
    let second : a.1 ≡ b.1 = eqb-true _ _ parts.1 in
    λ i. (first i, second i)

pub number_itself : (a : ℕ × ℕ) → is_number a a ≡ true
number_itself a = and_from _ _ (eq-eqb a.0 _ refl) (eq-eqb a.1 _ refl)

void_from_same : (r s q t : ℕ) → is_number (r, s) (q, t) ≡ true → Void r s ≡ Void q t
void_from_same r s q t e =
    let same : ◌≡◌ {A = ℕ × ℕ} (r, s) (q, t) = number_from_same _ _ e in
    λ i. Void (same i).0 (same i).1

drop_from_same : (r s q t : ℕ) → is_number (r, s) (q, t) ≡ true → Drop r s ≡ Drop q t
drop_from_same r s q t e =
    let same : ◌≡◌ {A = ℕ × ℕ} (r, s) (q, t) = number_from_same _ _ e in
    λ i. Drop (same i).0 (same i).1

what_from_same : (a b : What) → same_what a b ≡ true → a ≡ b
what_from_same (Void r s) (Void q t) e = void_from_same r s q t e
what_from_same (Void r s) (Fill u q l) e = absurd (cc)
what_from_same (Void r s) (Credit d) e = absurd (cc)
what_from_same (Void r s) (Drop q t) e = absurd (cc)
what_from_same (Fill u p k) (Void q t) e = absurd (cc)
what_from_same (Fill u p k) (Fill v q l) e =
    let kind = and_parts _ _ e in
    let place = and_parts _ _ kind.0 in
    let stamp_same : u ≡ v = stamp_from_same _ _ place.0 in
    let place_same : p ≡ q = eqb-true _ _ place.1 in
    let kind_same : k ≡ l = kind_from_same _ _ kind.1 in
    λ i. Fill (stamp_same i) (place_same i) (kind_same i)
what_from_same (Fill u p k) (Credit d) e = absurd (cc)
what_from_same (Fill u p k) (Drop q t) e = absurd (cc)
what_from_same (Credit c) (Void q t) e = absurd (cc)
what_from_same (Credit c) (Fill u q l) e = absurd (cc)
what_from_same (Credit c) (Credit d) e =
    let parts = and_parts _ _ e in
    let day_same : c.day ≡ d.day = eqb-true _ _ parts.0 in
    let pence_same : c.pence ≡ d.pence = eqb-true _ _ parts.1 in
    λ i. Credit (record { day = day_same i; pence = pence_same i })
what_from_same (Credit c) (Drop q t) e = absurd (cc)
what_from_same (Drop r s) (Void q t) e = absurd (cc)
what_from_same (Drop r s) (Fill u q l) e = absurd (cc)
what_from_same (Drop r s) (Credit d) e = absurd (cc)
what_from_same (Drop r s) (Drop q t) e = drop_from_same r s q t e

what_itself : (a : What) → same_what a a ≡ true
what_itself (Void r s) = number_itself (r, s)
what_itself (Fill u p k) = and_from _ _ (and_from _ _ (stamp_itself u) (eq-eqb p _ refl)) (kind_itself k)
what_itself (Credit c) = and_from _ _ (eq-eqb c.day _ refl) (eq-eqb c.pence _ refl)
what_itself (Drop r s) = number_itself (r, s)

pub same_is_one : (a b : Fix) → same_fix a b ≡ true → a ≡ b
same_is_one a b e =
    let what = and_parts _ _ e in
    let numbers = and_parts _ _ what.0 in
    let account_same : a.account ≡ b.account = eqb-true _ _ numbers.0 in
    let number_same : ◌≡◌ {A = ℕ × ℕ} (a.staff, a.seq) (b.staff, b.seq) = number_from_same _ _ numbers.1 in
    let what_same : a.what ≡ b.what = what_from_same _ _ what.1 in
    λ i. record { account = account_same i; staff = (number_same i).0; seq = (number_same i).1; what = what_same i }

pub one_is_same : (a : Fix) → same_fix a a ≡ true
one_is_same a = and_from _ _ (and_from _ _ (eq-eqb a.account _ refl) (number_itself (a.staff, a.seq))) (what_itself a.what)

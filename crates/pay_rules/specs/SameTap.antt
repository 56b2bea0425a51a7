-- Taps with the same content are one.
use Rattle.std.proofs.Common.{◌≡◌, true, eqb-true, eq-eqb, refl}
use Rattle.std.proofs.lemmas.Bool.{and_parts, and_from}
use Rattle.pay_day.specs.Words.{Stamp}
use Rattle.pay_rules.specs.declared.tap.Kind.{Kind}
use Rattle.pay_rules.specs.declared.tap.Kind.TheVariants.{In, Out, Bus}
use Rattle.pay_rules.specs.declared.tap.Tap.{Tap}
use Rattle.pay_rules.specs.Taps.{same_kind, same_stamp, same_tap}

pub kind_from_same : (a b : Kind) → same_kind a b ≡ true → a ≡ b
kind_from_same In In e = refl
kind_from_same In Out e = absurd (cc)
kind_from_same In Bus e = absurd (cc)
kind_from_same Out In e = absurd (cc)
kind_from_same Out Out e = refl
kind_from_same Out Bus e = absurd (cc)
kind_from_same Bus In e = absurd (cc)
kind_from_same Bus Out e = absurd (cc)
kind_from_same Bus Bus e = refl

pub kind_itself : (a : Kind) → same_kind a a ≡ true
kind_itself In = refl
kind_itself Out = refl
kind_itself Bus = refl

pub stamp_from_same : (a b : Stamp) → same_stamp a b ≡ true → a ≡ b
stamp_from_same a b e =
    let second = and_parts _ _ e in
    let day = and_parts _ _ second.0 in
    let utc_same : a.utc ≡ b.utc = eqb-true _ _ day.0 in
    let day_same : a.day ≡ b.day = eqb-true _ _ day.1 in
    let second_same : a.second ≡ b.second = eqb-true _ _ second.1 in
    λ i. record { utc = utc_same i; day = day_same i; second = second_same i }

pub stamp_itself : (a : Stamp) → same_stamp a a ≡ true
stamp_itself a = and_from _ _ (and_from _ _ (eq-eqb a.utc _ refl) (eq-eqb a.day _ refl)) (eq-eqb a.second _ refl)

pub tap_from_same : (a b : Tap) → same_tap a b ≡ true → a ≡ b
tap_from_same a b e =
    let kind = and_parts _ _ e in
    let place = and_parts _ _ kind.0 in
    let stamp = and_parts _ _ place.0 in
    let seq = and_parts _ _ stamp.0 in
    let reader = and_parts _ _ seq.0 in
    let account_same : a.account ≡ b.account = eqb-true _ _ reader.0 in
    let reader_same : a.reader ≡ b.reader = eqb-true _ _ reader.1 in
    let seq_same : a.seq ≡ b.seq = eqb-true _ _ seq.1 in
    let stamp_same : a.stamp ≡ b.stamp = stamp_from_same _ _ stamp.1 in
    let place_same : a.place ≡ b.place = eqb-true _ _ place.1 in
    let kind_same : a.kind ≡ b.kind = kind_from_same _ _ kind.1 in
    λ i. record { account = account_same i; reader = reader_same i; seq = seq_same i; stamp = stamp_same i; place = place_same i; kind = kind_same i }

pub tap_itself : (a : Tap) → same_tap a a ≡ true
tap_itself a =
    and_from _ _ (and_from _ _ (and_from _ _ (and_from _ _ (and_from _ _ (eq-eqb a.account _ refl) (eq-eqb a.reader _ refl)) (eq-eqb a.seq _ refl)) (stamp_itself a.stamp)) (eq-eqb a.place _ refl)) (kind_itself a.kind)

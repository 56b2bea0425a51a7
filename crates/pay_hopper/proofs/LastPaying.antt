-- The last paying instant stands for all of them.
use Rattle.std.proofs.Common.{◌≡◌, ℕ, ◌+◌, Bool, true, false, List, [], ◌∷◌, ◌++◌, ◌≤◌, length, drop, Option, Some, None, nat_lt, if◌then◌else◌, ◌&&◌, refl, arith}
use Rattle.std.proofs.lemmas.Bool.Decides.{nat_tests}
use Rattle.std.proofs.lemmas.List.{append-nil, drop_all}
use Rattle.pay_day.specs.Words.{Stamp}
use Rattle.pay_rules.specs.declared.tap.Touch.{Touch}
use Rattle.pay_rules.specs.Hopper.{instants_of, pays_after, marks_after, paying_marks}
use Rattle.pay_hopper.specs.LastPaid.{pays_by_last, last_paid_after, marks_by_last}

-- a second test that follows from the first adds nothing
and_same : (a b : Bool) → (a ≡ true → b ≡ true) → (a && b) ≡ a
and_same true b h = h refl
and_same false b h = refl

-- what is long after a paying instant is long after the one before it
later_too : (hopper : ℕ) (last : Option Stamp) (utc : ℕ) → pays_by_last hopper last utc ≡ true →
    (next : ℕ) → nat_lt (utc + hopper) next ≡ true → pays_by_last hopper last next ≡ true
later_too hopper None utc h next l = refl
later_too hopper (Some paid) utc h next l = grind (arith, nat_tests)

-- the last paying instant stands for all of them after one more tap too
step : (hopper : ℕ) (paid : List ℕ) (last : Option Stamp) (stamp : Stamp) (pays : Bool) →
    ((utc : ℕ) → pays_after hopper paid utc ≡ pays_by_last hopper last utc) →
    pays_by_last hopper last stamp.utc ≡ pays →
    (utc : ℕ) →
    pays_after hopper (if pays then stamp.utc ∷ paid else paid) utc ≡ pays_by_last hopper (if pays then Some stamp else last) utc
step hopper paid last stamp true same h utc =
    rw (same utc) (and_same (nat_lt (stamp.utc + hopper) utc) (pays_by_last hopper last utc) (later_too hopper last stamp.utc h utc))
step hopper paid last stamp false same h utc = same utc

-- the marks by the last paying instant are those by all of them
marks_by_last_is : (hopper : ℕ) (paid : List ℕ) (last : Option Stamp) (taps : List Touch) →
    ((utc : ℕ) → pays_after hopper paid utc ≡ pays_by_last hopper last utc) →
    marks_by_last hopper last taps ≡ marks_after hopper paid (instants_of taps)
marks_by_last_is hopper paid last [] same = refl
marks_by_last_is hopper paid last (tap ∷ later) same =
    let pays = pays_by_last hopper last tap.stamp.utc in
    let rest = marks_by_last_is hopper (if pays then tap.stamp.utc ∷ paid else paid) (last_paid_after hopper last tap.stamp) later
    (step hopper paid last tap.stamp pays same refl) in
    rw (same tap.stamp.utc) (cc)

-- before the first tap there is no paying one
pub by_last : (hopper : ℕ) (taps : List Touch) → marks_by_last hopper None taps ≡ paying_marks hopper (instants_of taps)
by_last hopper taps = marks_by_last_is hopper [] None taps (λ _. refl)

-- past the last tap, the marks so far are all of them
pub all_marked : (hopper : ℕ) (last : Option Stamp) (taps : List Touch) (marks : List Bool) (count : ℕ) →
    length taps ≤ count → marks_by_last hopper None taps ≡ marks ++ marks_by_last hopper last (drop count taps) →
    marks ≡ paying_marks hopper (instants_of taps)
all_marked hopper last taps marks count past h =
    let whole = by_last hopper taps in
    let none_left = drop_all count taps past in
    let e : marks ++ marks_by_last hopper last (drop count taps) ≡ marks = rw none_left (append-nil marks) in
    cc

-- The last boarding that paid before a place, by those before it alone; and the reason by that.
use Rattle.std.proofs.Common.{◌≡◌, ℕ, zero, suc, ◌+◌, ◌<◌, ◌↔◌, Bool, true, false, List, [], ◌∷◌, length, take, slice_get, option_map, Option, Some, None, nat_lt, if◌then◌else◌, refl, ap, sym, ◌∙◌, arith}
use Rattle.pay_day.specs.Words.{Stamp}
use Rattle.pay_rules.specs.declared.tap.Touch.{Touch}
use Rattle.pay_rules.specs.Hopper.{instants_of, paying_marks}
use Rattle.pay_hopper.specs.Words.{pays_by_last, last_paid_after, marks_by_last, last_paid_over, last_marked, LastPaidIsMarked}
use Rattle.pay_why.specs.declared.boarding.BoardingReason.{BoardingReason}
use Rattle.pay_why.specs.declared.boarding.BoardingReason.TheVariants.{First, PaysAfter, FreeAfter}
use Rattle.pay_why.specs.Boardings.{last_paid_before, reason_after, boarding_reason, pays_by_reason}
use Rattle.pay_why.specs.Laws.{ReasonsArePaying, FirstIsFirst}

-- boardings may be marked one after the other
abbrev pub MarkedByLast : Type 0
MarkedByLast = (hopper : ℕ) (taps : List Touch) → marks_by_last hopper None taps ≡ paying_marks hopper (instants_of taps)

-- the marks of the first ones are the first marks
marks_of_front : (hopper : ℕ) (last : Option Stamp) (taps : List Touch) (place : ℕ) → marks_by_last hopper last (take place taps) ≡ take place (marks_by_last hopper last taps)
marks_of_front hopper last taps zero = refl
marks_of_front hopper last [] (suc place) = refl
marks_of_front hopper last (tap ∷ later) (suc place) =
    ap (λ (marks : List Bool). pays_by_last hopper last tap.stamp.utc ∷ marks) (marks_of_front hopper (last_paid_after hopper last tap.stamp) later place)

-- so those before a place alone say which of them paid last
pub last_before : MarkedByLast → LastPaidIsMarked → (hopper : ℕ) (taps : List Touch) (place : ℕ) → last_paid_over hopper None (take place taps) ≡ last_paid_before hopper taps place
last_before marked same hopper taps place =
    same hopper (take place taps) ∙ ap (λ (marks : List Bool). last_marked marks (take place taps)) (marks_of_front hopper None taps place ∙ ap (take place) (marked hopper taps))

-- the reason at a place, by the last that paid before all of them
abbrev pub reason_from : ℕ → Option Stamp → List Touch → ℕ → Option BoardingReason
reason_from hopper last taps place = option_map (reason_after hopper (last_paid_over hopper last (take place taps))) (slice_get taps place)

pub reason_by_front : MarkedByLast → LastPaidIsMarked → (hopper : ℕ) (taps : List Touch) (place : ℕ) → reason_from hopper None taps place ≡ boarding_reason hopper taps place
reason_by_front marked same hopper taps place = ap (λ (last : Option Stamp). option_map (reason_after hopper last) (slice_get taps place)) (last_before marked same hopper taps place)

-- the reason that is found at a place
pub reason_found : MarkedByLast → LastPaidIsMarked → (hopper : ℕ) (taps : List Touch) (place : ℕ) (tap : Touch) (last : Option Stamp) (reason : BoardingReason)
    → slice_get taps place ≡ Some tap → last ≡ last_paid_over hopper None (take place taps) → reason ≡ reason_after hopper last tap → Some reason ≡ boarding_reason hopper taps place
reason_found marked same hopper taps place tap last reason there before is =
    ap Some (is ∙ ap (λ (one : Option Stamp). reason_after hopper one tap) (before ∙ last_before marked same hopper taps place))
    ∙ sym (ap (option_map (reason_after hopper (last_paid_before hopper taps place))) there)

-- a reason pays just when the boarding does
pays_alike : (late : Bool) (paid : Stamp) → pays_by_reason (if late then PaysAfter paid else FreeAfter paid) ≡ late
pays_alike true paid = refl
pays_alike false paid = refl

here_alike : (hopper : ℕ) (last : Option Stamp) (tap : Touch) → pays_by_reason (reason_after hopper last tap) ≡ pays_by_last hopper last tap.stamp.utc
here_alike hopper None tap = refl
here_alike hopper (Some paid) tap = pays_alike (nat_lt (paid.utc + hopper) tap.stamp.utc) paid

all_alike : (hopper : ℕ) (last : Option Stamp) (taps : List Touch) (place : ℕ) → option_map pays_by_reason (reason_from hopper last taps place) ≡ slice_get (marks_by_last hopper last taps) place
all_alike hopper last [] zero = refl
all_alike hopper last [] (suc place) = refl
all_alike hopper last (tap ∷ later) zero = ap Some (here_alike hopper last tap)
all_alike hopper last (tap ∷ later) (suc place) = all_alike hopper (last_paid_after hopper last tap.stamp) later place

pub reasons_pay : MarkedByLast → LastPaidIsMarked → ReasonsArePaying
reasons_pay marked same hopper taps place =
    ap (option_map pays_by_reason) (sym (reason_by_front marked same hopper taps place)) ∙ all_alike hopper None taps place
    ∙ ap (λ (marks : List Bool). slice_get marks place) (marked hopper taps)

-- once one has paid, no boarding is the first
never_first_after : (late : Bool) (paid : Stamp) → (if late then PaysAfter paid else FreeAfter paid) ≡ First → ⊥
never_first_after true paid e = cc
never_first_after false paid e = cc

either_way : (hopper : ℕ) (paid : Stamp) (tap : Touch) (later : List Touch) (place : ℕ) (pays : Bool)
    → (reason_from hopper (Some tap.stamp) later place ≡ Some First → ⊥) → (reason_from hopper (Some paid) later place ≡ Some First → ⊥)
    → reason_from hopper (if pays then Some tap.stamp else Some paid) later place ≡ Some First → ⊥
either_way hopper paid tap later place true by_it by_other e = by_it e
either_way hopper paid tap later place false by_it by_other e = by_other e

never_first : (hopper : ℕ) (paid : Stamp) (taps : List Touch) (place : ℕ) → reason_from hopper (Some paid) taps place ≡ Some First → ⊥
never_first hopper paid [] zero e = cc
never_first hopper paid [] (suc place) e = cc
never_first hopper paid (tap ∷ later) zero e = never_first_after (nat_lt (paid.utc + hopper) tap.stamp.utc) paid (cc)
never_first hopper paid (tap ∷ later) (suc place) e =
    either_way hopper paid tap later place (nat_lt (paid.utc + hopper) tap.stamp.utc) (never_first hopper tap.stamp later place) (never_first hopper paid later place) e

first_by_front : (hopper : ℕ) (taps : List Touch) (place : ℕ) → reason_from hopper None taps place ≡ Some First ↔ ((place ≡ 0) × (0 < length taps))
first_by_front hopper [] zero = (λ e. cc, λ h. absurd (omega (arith, h.1)))
first_by_front hopper [] (suc place) = (λ e. cc, λ h. absurd (omega (arith, h.1)))
first_by_front hopper (tap ∷ later) zero = (λ e. (refl, omega arith), λ h. refl)
first_by_front hopper (tap ∷ later) (suc place) = (λ e. absurd (never_first hopper tap.stamp later place e), λ h. absurd (omega (arith, h.0)))

pub first_is_first : MarkedByLast → LastPaidIsMarked → FirstIsFirst
first_is_first marked same hopper taps place = rw (sym (reason_by_front marked same hopper taps place)) (first_by_front hopper taps place)

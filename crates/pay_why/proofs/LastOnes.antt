-- The last of some boardings that is marked stands at a place, and none from it on is marked; and the fare of a marked boarding.
use Rattle.std.proofs.Common.{◌≡◌, ℕ, zero, suc, ◌+◌, ◌<◌, ◌≤◌, ◌⊎◌, inl, inr, Bool, true, false, List, [], ◌∷◌, length, map, filter, take, slice_get, option_map, Option, Some, None, nat_lt, if◌then◌else◌, refl, ap, sym, ◌∙◌, arith}
use Rattle.std.proofs.lemmas.Bool.Decides.{nat_tests}
use Rattle.std.specs.List.{fold, zip}
use Rattle.pay_day.specs.Words.{Stamp}
use Rattle.pay_rules.specs.declared.tap.Touch.{Touch}
use Rattle.pay_rules.specs.declared.journey.Journey.TheVariants as journey
use Rattle.pay_rules.specs.Hopper.{Pays, IsPayingSet, instants_of, paying_marks}
use Rattle.pay_rules.specs.Journeys.{is_bus, boarding}
use Rattle.pay_rules.specs.JourneyFares.{fare_by}
use Rattle.pay_why.specs.declared.boarding.BoardingReason.{BoardingReason}
use Rattle.pay_why.specs.declared.boarding.BoardingReason.TheVariants.{PaysAfter, FreeAfter}
use Rattle.pay_why.specs.Boardings.{last_paid_before, reason_after, pays_by_reason, IsLastPaying}
use Rattle.pay_why.specs.Laws.{ReasonsArePaying, InstantsPay, InstantsTellTimes, ReasonsGiveBoardingFares}

abbrev one_more : Option Stamp → Bool × Touch → Option Stamp
one_more before one = if one.0 then Some one.1.stamp else before

-- of those before a place the last marked one
record IsLastMarked (marks : List Bool) (taps : List Touch) (place : ℕ) (paid : Stamp) : Type 0 where
  last : ℕ
  earlier : last < place
  pays : Pays marks last
  instant : option_map (λ tap. tap.stamp) (slice_get taps last) ≡ Some paid
  none_later : (other : ℕ) → last < other → other < place → Pays marks other → ⊥

-- none before a place is marked
abbrev NoneMarked : List Bool → ℕ → Type 0
NoneMarked marks place = (other : ℕ) → other < place → Pays marks other → ⊥

-- one more in front of them
one_in_front : (mark : Bool) (tap : Touch) (marks : List Bool) (taps : List Touch) (place : ℕ) (paid : Stamp) → IsLastMarked marks taps place paid → IsLastMarked (mark ∷ marks) (tap ∷ taps) (suc place) paid
one_in_front mark tap marks taps place paid h = record {
  last = suc h.last;
  earlier = omega (arith, h.earlier);
  pays = h.pays;
  instant = h.instant;
  none_later = later;
}
  where
    later : (other : ℕ) → suc h.last < other → other < suc place → Pays (mark ∷ marks) other → ⊥
    later zero l m p = omega (arith, l)
    later (suc other) l m p = h.none_later other (omega (arith, l)) (omega (arith, m)) p

-- and where none of the others is marked, it is the last if it is
by_the_first : (before : Option Stamp) (mark : Bool) (tap : Touch) (marks : List Bool) (taps : List Touch) (place : ℕ) (paid : Stamp)
    → one_more before (mark, tap) ≡ Some paid → NoneMarked marks place
    → IsLastMarked (mark ∷ marks) (tap ∷ taps) (suc place) paid ⊎ ((before ≡ Some paid) × NoneMarked (mark ∷ marks) (suc place))
by_the_first before true tap marks taps place paid e none = inl (record { last = zero; earlier = omega arith; pays = refl; instant = e; none_later = later })
  where
    later : (other : ℕ) → zero < other → other < suc place → Pays (true ∷ marks) other → ⊥
    later zero l m p = omega (arith, l)
    later (suc other) l m p = none other (omega (arith, m)) p
by_the_first before false tap marks taps place paid e none = inr (e, all)
  where
    all : (other : ℕ) → other < suc place → Pays (false ∷ marks) other → ⊥
    all zero l p = cc
    all (suc other) l p = none other (omega (arith, l)) p

last_of : (before : Option Stamp) (marks : List Bool) (taps : List Touch) (place : ℕ) (paid : Stamp) → length marks ≡ length taps
    → fold one_more before (zip (take place marks) (take place taps)) ≡ Some paid
    → IsLastMarked marks taps place paid ⊎ ((before ≡ Some paid) × NoneMarked marks place)
last_of before marks taps zero paid same e = inr (e, λ other l p. absurd (omega (arith, l)))
last_of before [] [] (suc place) paid same e = inr (e, λ other l p. none_there other p)
  where
    none_there : (other : ℕ) → Pays [] other → ⊥
    none_there zero p = cc
    none_there (suc other) p = cc
last_of before [] (tap ∷ taps) (suc place) paid same e = absurd (omega (arith, same))
last_of before (mark ∷ marks) [] (suc place) paid same e = absurd (omega (arith, same))
last_of before (mark ∷ marks) (tap ∷ taps) (suc place) paid same e = go_on (last_of (one_more before (mark, tap)) marks taps place paid (omega (arith, same)) e)
  where
    go_on : IsLastMarked marks taps place paid ⊎ ((one_more before (mark, tap) ≡ Some paid) × NoneMarked marks place)
        → IsLastMarked (mark ∷ marks) (tap ∷ taps) (suc place) paid ⊎ ((before ≡ Some paid) × NoneMarked (mark ∷ marks) (suc place))
    go_on (inl h) = inl (one_in_front mark tap marks taps place paid h)
    go_on (inr h) = by_the_first before mark tap marks taps place paid h.0 h.1

-- of boardings the last that paid before a place
pub last_paying : (hopper : ℕ) (taps : List Touch) (place : ℕ) (paid : Stamp) → length (paying_marks hopper (instants_of taps)) ≡ length taps → last_paid_before hopper taps place ≡ Some paid → IsLastPaying hopper taps place paid
last_paying hopper taps place paid same e = found (last_of None (paying_marks hopper (instants_of taps)) taps place paid same e)
  where
    found : IsLastMarked (paying_marks hopper (instants_of taps)) taps place paid ⊎ ((None ≡ Some paid) × NoneMarked (paying_marks hopper (instants_of taps)) place) → IsLastPaying hopper taps place paid
    found (inl h) = record { last = h.last; earlier = h.earlier; pays = h.pays; instant = h.instant; none_later = h.none_later }
    found (inr h) = absurd (cc)

-- the instant that a reason names
instant_named : (hopper : ℕ) (last : Option Stamp) (tap : Option Touch) (paid : Stamp)
    → (option_map (reason_after hopper last) tap ≡ Some (PaysAfter paid)) ⊎ (option_map (reason_after hopper last) tap ≡ Some (FreeAfter paid)) → last ≡ Some paid
instant_named hopper last None paid (inl e) = cc
instant_named hopper last None paid (inr e) = cc
instant_named hopper None (Some tap) paid (inl e) = cc
instant_named hopper None (Some tap) paid (inr e) = cc
instant_named hopper (Some other) (Some tap) paid h = by_test (nat_lt (other.utc + hopper) tap.stamp.utc) h
  where
    by_test : (late : Bool) → (Some (if late then PaysAfter other else FreeAfter other) ≡ Some (PaysAfter paid)) ⊎ (Some (if late then PaysAfter other else FreeAfter other) ≡ Some (FreeAfter paid)) → Some other ≡ Some paid
    by_test true (inl e) = cc
    by_test true (inr e) = cc
    by_test false (inl e) = cc
    by_test false (inr e) = cc

-- and what it says of the time since then
time_told : (hopper : ℕ) (last : Option Stamp) (tap : Touch) (paid : Stamp)
    → (reason_after hopper last tap ≡ PaysAfter paid → paid.utc + hopper < tap.stamp.utc) × (reason_after hopper last tap ≡ FreeAfter paid → tap.stamp.utc ≤ paid.utc + hopper)
time_told hopper None tap paid = (λ e. cc, λ e. cc)
time_told hopper (Some other) tap paid = by_test (nat_lt (other.utc + hopper) tap.stamp.utc) refl
  where
    by_test : (late : Bool) → nat_lt (other.utc + hopper) tap.stamp.utc ≡ late
        → ((if late then PaysAfter other else FreeAfter other) ≡ PaysAfter paid → paid.utc + hopper < tap.stamp.utc)
        × ((if late then PaysAfter other else FreeAfter other) ≡ FreeAfter paid → tap.stamp.utc ≤ paid.utc + hopper)
    by_test true h = (λ e. let same : other ≡ paid = cc in grind (arith, nat_tests, h, same), λ e. cc)
    by_test false h = (λ e. cc, λ e. let same : other ≡ paid = cc in grind (arith, nat_tests, h, same))

pub times_told : InstantsTellTimes
times_told hopper taps place tap paid there =
    let told = time_told hopper (last_paid_before hopper taps place) tap paid in
    let here = ap (option_map (reason_after hopper (last_paid_before hopper taps place))) there in
    (λ e. told.0 (inner (sym here ∙ e)), λ e. told.1 (inner (sym here ∙ e)))
  where
    inner : {one other : BoardingReason} → Some one ≡ Some other → one ≡ other
    inner e = cc

-- each boarding has a mark
abbrev pub MarkedEach : Type 0
MarkedEach = (hopper : ℕ) (utcs : List ℕ) → IsPayingSet hopper utcs (paying_marks hopper utcs)

each_instant : (taps : List Touch) → length (instants_of taps) ≡ length taps
each_instant [] = refl
each_instant (tap ∷ later) = ap suc (each_instant later)

pub instants_pay : MarkedEach → InstantsPay
instants_pay each hopper taps place paid h =
    last_paying hopper taps place paid ((each hopper (instants_of taps)).one_each ∙ each_instant taps) (instant_named hopper (last_paid_before hopper taps place) (slice_get taps place) paid h)

-- a boarding beside its mark
beside : (taps : List Touch) (marks : List Bool) (place : ℕ) (tap : Touch) (mark : Bool)
    → slice_get taps place ≡ Some tap → slice_get marks place ≡ Some mark → slice_get (map boarding (zip taps marks)) place ≡ Some (journey.Bus tap mark)
beside [] marks zero tap mark e f = cc
beside [] marks (suc place) tap mark e f = cc
beside (one ∷ taps) [] zero tap mark e f = cc
beside (one ∷ taps) [] (suc place) tap mark e f = cc
beside (one ∷ taps) (its ∷ marks) zero tap mark e f = cc
beside (one ∷ taps) (its ∷ marks) (suc place) tap mark e f = beside taps marks place tap mark e f

pub reasons_give_fares : ReasonsArePaying → ReasonsGiveBoardingFares
reasons_give_fares pay editions touches place tap reason e f =
    let hopper = editions.own.rules.hopper in
    let buses = filter is_bus touches in
    let mark : slice_get (paying_marks hopper (instants_of buses)) place ≡ Some (pays_by_reason reason) = sym (pay hopper buses place) ∙ ap (option_map pays_by_reason) f in
    ap (option_map (fare_by editions)) (beside buses (paying_marks hopper (instants_of buses)) place tap (pays_by_reason reason) e mark)

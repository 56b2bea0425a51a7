-- Some of the journeys whose sums are kept, replaced by others.
use Rattle.std.proofs.Common.{◌≡◌, ℕ, ◌+◌, ◌*◌, ◌≤◌, cond, not, List, [], ◌∷◌, ◌++◌, length, sum_by, refl, sym, ap, ◌∙◌, subst, eq-eqb, arith}
use Rattle.std.proofs.lemmas.List.{length-append}
use Rattle.std.proofs.lemmas.List.Elements.{filter-append}
use Rattle.std.proofs.lemmas.List.Filters.{length-filter_both}
use Rattle.std.proofs.lemmas.List.Sums.{sum_by-cons}
use Rattle.pay_rules.specs.declared.limits.TheConstants.{MOST_TOUCHES}
use Rattle.pay_tables.specs.declared.limits.TheConstants.{MOST_FARE}
use Rattle.pay_tables.specs.Words.{FareEditions, FareTables, on}
use Rattle.pay_rules.specs.declared.journey.Journey.{Journey}
use Rattle.pay_caps.specs.Words.{CellSums, cell_of, cells_of, sum_at, total, all_added, all_taken, StretchIsTaken, EachFareIsThere, StretchIsAdded}
use Rattle.pay_rules.specs.JourneyFares.{fare, fare_by}
use Rattle.pay_rules.specs.DayPrices.{fares}
use Rattle.pay_rules.specs.Journeys.{is_on}
use Rattle.pay_rules.specs.Prices.{journeys_on}
use Rattle.pay_book.specs.Days.{Days, sums_on, day_of, AreSummed, AreSums, AreThere, HaveRoomFor, StaySummed}

-- ---- the parts of a day

parts_on : (left some right : List Journey) (day : ℕ) → journeys_on (left ++ some ++ right) day ≡ journeys_on left day ++ journeys_on some day ++ journeys_on right day
parts_on left some right day = filter-append (is_on day) (left ++ some) right ∙ ap (λ (l : List Journey). l ++ journeys_on right day) (filter-append (is_on day) left some)

-- those before and after a journey on its own day
around : (done : List Journey) (one : Journey) (rest : List Journey) → journeys_on (done ++ one ∷ rest) (day_of one) ≡ journeys_on done (day_of one) ++ one ∷ journeys_on rest (day_of one)
around done one rest =
    filter-append (is_on (day_of one)) done (one ∷ rest)
    ∙ ap (λ b. journeys_on done (day_of one) ++ cond b (one ∷ journeys_on rest (day_of one)) (journeys_on rest (day_of one))) (eq-eqb (day_of one) (day_of one) refl)

-- ---- what is kept

stored_front : (days : Days) (front back : List Journey) → AreSummed days (front ++ back) → AreSummed days front
stored_front days [] back h = tt
stored_front days (one ∷ front) back h = (h.0, stored_front days front back h.1)

stored_back : (days : Days) (front back : List Journey) → AreSummed days (front ++ back) → AreSummed days back
stored_back days [] back h = h
stored_back days (one ∷ front) back h = stored_back days front back h.1

stored_both : (days : Days) (front back : List Journey) → AreSummed days front → AreSummed days back → AreSummed days (front ++ back)
stored_both days [] back f b = b
stored_both days (one ∷ front) back f b = (f.0, stored_both days front back f.1 b)

pub stored_still : (before now : Days) (list : List Journey) → StaySummed before now → AreSummed before list → AreSummed now list
stored_still before now [] stay h = tt
stored_still before now (one ∷ list) stay h = (stay (day_of one) h.0, stored_still before now list stay h.1)

pub middle_stored : (editions : FareEditions) (days : Days) (left some right : List Journey) → AreSums editions days (left ++ some ++ right) → AreSummed days some
middle_stored editions days left some right are = stored_back days left some (stored_front days (left ++ some) right are.held)

-- ---- taken

pub all_there : (editions : FareEditions) → ((day : ℕ) → EachFareIsThere (on editions day)) → (days : Days) (left some right : List Journey) → AreSums editions days (left ++ some ++ right) → AreThere editions days some
all_there editions law days left some right are done one rest e =
    let day : ℕ = day_of one in
    let its : List Journey → List Journey = λ (l : List Journey). journeys_on l day in
    let before : sums_on days day ≡ cells_of (on editions day) (its left ++ its some ++ its right) = are.sums day ∙ ap (cells_of (on editions day)) (parts_on left some right day) in
    subst (λ (sums : CellSums). fare_by editions one ≤ sum_at (cell_of (on editions day) one) (all_taken (on editions day) (its done) sums)) (sym before)
    (law day (its left) (its some) (its right) (its done) one (its rest) (ap its e ∙ around done one rest))

pub left_then : (editions : FareEditions) → ((day : ℕ) → StretchIsTaken (on editions day)) → (days now : Days) (left some right : List Journey) → AreSums editions days (left ++ some ++ right)
    → ((day : ℕ) → sums_on now day ≡ all_taken (on editions day) (journeys_on some day) (sums_on days day))
    → (day : ℕ) → sums_on now day ≡ cells_of (on editions day) (journeys_on left day ++ journeys_on right day)
left_then editions law days now left some right are taken day =
    taken day
    ∙ ap (all_taken (on editions day) (journeys_on some day)) (are.sums day ∙ ap (cells_of (on editions day)) (parts_on left some right day))
    ∙ law day (journeys_on left day) (journeys_on some day) (journeys_on right day)

-- ---- added

few_fares : (tables : FareTables) → ((journey : Journey) → fare tables journey ≤ MOST_FARE) → (list : List Journey) → sum_by (fare tables) list ≤ length list * MOST_FARE
few_fares tables each [] = omega arith
few_fares tables each (journey ∷ list) = omega (arith, sum_by-cons (fare tables) journey list, each journey, few_fares tables each list)

few_on : (list : List Journey) (day : ℕ) → length (journeys_on list day) ≤ length list
few_on list day = omega (arith, length-filter_both (is_on day) (λ journey. not (is_on day journey)) (λ _. refl) list)

pub room_then : (editions : FareEditions) → ((day : ℕ) (journey : Journey) → fare (on editions day) journey ≤ MOST_FARE) → ((day : ℕ) (list : List Journey) → total (cells_of (on editions day) list) ≡ fares (on editions day) list) → (now : Days) (left new right : List Journey)
    → ((day : ℕ) → sums_on now day ≡ cells_of (on editions day) (journeys_on left day ++ journeys_on right day)) → length (left ++ new ++ right) ≤ MOST_TOUCHES → HaveRoomFor now (length new * MOST_FARE)
room_then editions each all now left new right are few day =
    let its : List Journey → List Journey = λ (l : List Journey). journeys_on l day in
    let sum : total (sums_on now day) ≡ sum_by (fare (on editions day)) (its left ++ its right) = ap total (are day) ∙ all day (its left ++ its right) in
    let count : length (its left ++ its right) + length new ≤ MOST_TOUCHES =
    omega (arith, few, length-append (its left) (its right), few_on left day, few_on right day, length-append (left ++ new) right, length-append left new) in
    omega (arith, sum, few_fares (on editions day) (each day) (its left ++ its right), count)

pub sums_then : (editions : FareEditions) → ((day : ℕ) → StretchIsAdded (on editions day)) → (now last : Days) (left new right : List Journey)
    → ((day : ℕ) → sums_on now day ≡ cells_of (on editions day) (journeys_on left day ++ journeys_on right day))
    → ((day : ℕ) → sums_on last day ≡ all_added (on editions day) (journeys_on new day) (sums_on now day))
    → (day : ℕ) → sums_on last day ≡ cells_of (on editions day) (journeys_on (left ++ new ++ right) day)
sums_then editions law now last left new right are added day =
    added day ∙ ap (all_added (on editions day) (journeys_on new day)) (are day) ∙ law day (journeys_on left day) (journeys_on new day) (journeys_on right day)
    ∙ ap (cells_of (on editions day)) (sym (parts_on left new right day))

pub stored_then : (editions : FareEditions) (days last : Days) (left old new right : List Journey) → AreSums editions days (left ++ old ++ right) → AreSummed days new → StaySummed days last → AreSummed last (left ++ new ++ right)
stored_then editions days last left old new right are held stay =
    stored_still days last (left ++ new ++ right) stay
    (stored_both days (left ++ new) right (stored_both days left new (stored_front days left old (stored_front days (left ++ old) right are.held)) held) (stored_back days (left ++ old) right are.held))

-- days of which more sums are kept, and the same, are right for the same journeys
pub sums_stay : (before now : Days) → ((day : ℕ) → sums_on now day ≡ sums_on before day) → StaySummed before now → (editions : FareEditions) (list : List Journey) → AreSums editions before list → AreSums editions now list
sums_stay before now same stay editions list are = record { held = stored_still before now list stay are.held; sums = λ day. same day ∙ are.sums day }

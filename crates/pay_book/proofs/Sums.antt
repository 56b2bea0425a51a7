-- The sums of days, as journeys are added or taken one after another.
use Rattle.std.proofs.Common.{◌≡◌, ◌==◌, ℕ, suc, ◌+◌, ◌≤◌, ◌<◌, Bool, true, false, cond, Option, Some, unwrap_or, List, [], ◌∷◌, length, drop, get_or, refl, sym, ap, ◌∙◌, subst, eq-eqb, add-one}
use Rattle.std.specs.BTreeMap.{is_at}
use Rattle.std.specs.Ordering.{nat_cmp}
use mathlib.Core.Logic.{⊎_elim}
use Rattle.std.specs.List.{fold}
use Rattle.std.proofs.Math.Seq.{drop-cons}
use Rattle.std.proofs.lemmas.List.Elements.{filter-append}
use Rattle.std.proofs.lemmas.List.Sums.{fold-append}
use Rattle.pay_tables.specs.Words.{FareEditions, FareTables, on}
use Rattle.pay_rules.specs.declared.journey.Journey.{Journey}
use Rattle.pay_caps.specs.Words.{CellSums, cell_of, no_fares, sum_at, all_taken}
use Rattle.pay_rules.specs.JourneyFares.{fare_by}
use Rattle.pay_rules.specs.Journeys.{is_on}
use Rattle.pay_rules.specs.Prices.{journeys_on}
use Rattle.pay_book.specs.Days.{Days, stored_on, sums_on, day_of, AreThere}
use Rattle.pay_book.proofs.InStep.{at_itself, either, same_day}

-- the journey at an index, and those after it
pub next_of : (list : List Journey) (i : ℕ) (journey : Journey) → i < length list → journey ≡ get_or list i journey → drop i list ≡ journey ∷ drop (i + 1) list
next_of list i journey below same =
    drop-cons list i journey below ∙ ap (λ (j : Journey). j ∷ drop (suc i) list) (sym same) ∙ ap (λ (k : ℕ). journey ∷ drop k list) (sym (add-one i))

-- what is to be done, after one more
pub one_more_done : (change : CellSums → Journey → CellSums) (before now : CellSums) (list : List Journey) (i : ℕ) (journey : Journey) (day : ℕ) → i < length list → journey ≡ get_or list i journey
    → now ≡ fold change before (journeys_on (journey ∷ []) day)
    → fold change now (journeys_on (drop (i + 1) list) day) ≡ fold change before (journeys_on (drop i list) day)
one_more_done change before now list i journey day below same is =
    let rest : List Journey = drop (i + 1) list in
    ap (λ (sums : CellSums). fold change sums (journeys_on rest day)) is
    ∙ sym (fold-append change before (journeys_on (journey ∷ []) day) (journeys_on rest day))
    ∙ ap (fold change before) (sym (filter-append (is_on day) (journey ∷ []) rest))
    ∙ ap (λ (l : List Journey). fold change before (journeys_on l day)) (sym (next_of list i journey below same))

-- the fares of those after one are there, once its own was taken
pub rest_there : (editions : FareEditions) (before now : Days) (list : List Journey) (i : ℕ) (journey : Journey) → i < length list → journey ≡ get_or list i journey
    → ((day : ℕ) → sums_on now day ≡ all_taken (on editions day) (journeys_on (journey ∷ []) day) (sums_on before day))
    → AreThere editions before (drop i list) → AreThere editions now (drop (i + 1) list)
rest_there editions before now list i journey below same is there done one rest e =
    let day : ℕ = day_of one in
    let all : all_taken (on editions day) (journeys_on (journey ∷ done) day) (sums_on before day) ≡ all_taken (on editions day) (journeys_on done day) (sums_on now day) =
    ap (λ (l : List Journey). all_taken (on editions day) l (sums_on before day)) (filter-append (is_on day) (journey ∷ []) done)
    ∙ fold-append _ (sums_on before day) (journeys_on (journey ∷ []) day) (journeys_on done day)
    ∙ ap (λ (sums : CellSums). all_taken (on editions day) (journeys_on done day) sums) (sym (is day)) in
    subst (λ (sums : CellSums). fare_by editions one ≤ sum_at (cell_of (on editions day) one) sums) all
    (there (journey ∷ done) one rest (next_of list i journey below same ∙ ap (λ (l : List Journey). journey ∷ l) e))

-- the fare of the next one is there
pub next_there : (editions : FareEditions) (days : Days) (list : List Journey) (i : ℕ) (journey : Journey) → i < length list → journey ≡ get_or list i journey
    → AreThere editions days (drop i list) → fare_by editions journey ≤ sum_at (cell_of (on editions (day_of journey)) journey) (sums_on days (day_of journey))
next_there editions days list i journey below same there = there [] journey (drop (i + 1) list) (next_of list i journey below same)

-- ---- one journey, by the edition of its day

its_day_changed : (change : FareTables → Journey → CellSums → CellSums) (editions : FareEditions) (before now : Days) (journey : Journey) (its : CellSums → CellSums) (day : ℕ) → day ≡ day_of journey
    → its (sums_on before day) ≡ change (on editions day) journey (sums_on before day)
    → stored_on now day ≡ cond (is_at (nat_cmp day) day) (Some (its (sums_on before day))) (stored_on before day)
    → sums_on now day ≡ fold (λ sums one. change (on editions day) one sums) (sums_on before day) (journeys_on (journey ∷ []) day)
its_day_changed change editions before now journey its day is same stored =
    let step : CellSums → Journey → CellSums = λ sums one. change (on editions day) one sums in
    ap (λ (k : Option CellSums). unwrap_or k no_fares) (stored ∙ ap (λ b. cond b (Some (its (sums_on before day))) (stored_on before day)) (at_itself day))
    ∙ same
    ∙ sym (ap (λ b. fold step (sums_on before day) (cond b (journey ∷ []) [])) (eq-eqb (day_of journey) day (sym is)))

not_its_day : (day other : ℕ) (b : Bool) → (day == other) ≡ b → is_at (nat_cmp day) other ≡ false → b ≡ false
not_its_day day other true e apart = let here : is_at (nat_cmp day) other ≡ true = subst (λ (k : ℕ). is_at (nat_cmp day) k ≡ true) (same_day day other e) (at_itself day) in absurd (cc)
not_its_day day other false e apart = refl

other_day_stays : (change : FareTables → Journey → CellSums → CellSums) (editions : FareEditions) (before now : Days) (journey : Journey) (its : CellSums → CellSums) (day other : ℕ) → day ≡ day_of journey
    → is_at (nat_cmp day) other ≡ false
    → stored_on now other ≡ cond (is_at (nat_cmp day) other) (Some (its (sums_on before day))) (stored_on before other)
    → sums_on now other ≡ fold (λ sums one. change (on editions other) one sums) (sums_on before other) (journeys_on (journey ∷ []) other)
other_day_stays change editions before now journey its day other is apart stored =
    let step : CellSums → Journey → CellSums = λ sums one. change (on editions other) one sums in
    let away : (day_of journey == other) ≡ false = ap (λ (k : ℕ). k == other) (sym is) ∙ not_its_day day other (day == other) refl apart in
    ap (λ (k : Option CellSums). unwrap_or k no_fares) (stored ∙ ap (λ b. cond b (Some (its (sums_on before day))) (stored_on before other)) apart)
    ∙ sym (ap (λ b. fold step (sums_on before other) (cond b (journey ∷ []) [])) away)

-- where the sums of its day change by one journey, all days are as if it were among theirs
pub one_changed : (change : FareTables → Journey → CellSums → CellSums) (editions : FareEditions) (before now : Days) (journey : Journey) (its : CellSums → CellSums) (day : ℕ) → day ≡ day_of journey
    → ((sums : CellSums) → its sums ≡ change (on editions day) journey sums)
    → ((other : ℕ) → stored_on now other ≡ cond (is_at (nat_cmp day) other) (Some (its (sums_on before day))) (stored_on before other))
    → (other : ℕ) → sums_on now other ≡ fold (λ sums one. change (on editions other) one sums) (sums_on before other) (journeys_on (journey ∷ []) other)
one_changed change editions before now journey its day is same stored other =
    ⊎_elim
    (λ here. subst (λ (k : ℕ). sums_on now k ≡ fold (λ sums one. change (on editions k) one sums) (sums_on before k) (journeys_on (journey ∷ []) k)) here
    (its_day_changed change editions before now journey its day is (same (sums_on before day)) (stored day)))
    (λ apart. other_day_stays change editions before now journey its day other is apart (stored other))
    (either day other)

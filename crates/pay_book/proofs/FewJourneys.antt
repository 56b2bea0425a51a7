-- Few journeys are disturbed, and their taps are all that is read of them.
use Rattle.std.proofs.Common.{◌≡◌, ℕ, zero, suc, ◌+◌, ◌-◌, ◌<◌, ◌≤◌, Bool, true, false, List, [], length, ◌∷◌, ◌++◌, map, flat_map, take, drop, None, refl, sym, ap, ◌∙◌, length-take, arith}
use Rattle.std.specs.List.{insert}
use Rattle.std.proofs.lemmas.List.{get_or-append-add, get_or_append_left}
use Rattle.std.proofs.lemmas.List.Edits.{length-insert, length-between}
use Rattle.pay_tables.specs.Words.{FareEditions}
use Rattle.pay_rules.specs.declared.tap.Touch.{Touch}
use Rattle.pay_rules.specs.Legs.{legs}
use Rattle.pay_links.specs.Starts.{taps_of_leg}
use Rattle.pay_rules.specs.RailJourneys.{journeys}
use Rattle.pay_links.specs.Words.{starts, start_marks, MarksAreCut, StartsAreLocal}
use Rattle.pay_rules.specs.declared.journey.Journey.{Journey}
use Rattle.pay_rules.specs.declared.journey.Journey.TheVariants as journey
use Rattle.pay_book.specs.Rail.{mark_in, taps_in, IsStretch}
use Rattle.pay_book.proofs.Marks.{as_many, marks_before, marks_after_it}
use Rattle.pay_book.proofs.Between.{AreInThree, first_apart, second_apart, fewer_in_three, more_in_three}

-- ---- how many journeys start

abbrev count : List Bool → ℕ
count [] = 0
count (true ∷ marks) = suc (count marks)
count (false ∷ marks) = count marks

-- marks of which only the first few may be true
first_few : (few : ℕ) (marks : List Bool) → ((place : ℕ) → few ≤ place → place < length marks → mark_in marks place ≡ false) → count marks ≤ few
first_few few [] none = omega arith
first_few zero (true ∷ marks) none = let one : true ≡ false = none zero (omega arith) (omega arith) in absurd (cc)
first_few zero (false ∷ marks) none = first_few zero marks (λ place le lt. none (suc place) (omega arith) (omega arith))
first_few (suc few) (true ∷ marks) none =
    let rest = first_few few marks (λ place le lt. none (suc place) (omega arith) (omega arith)) in omega arith
first_few (suc few) (false ∷ marks) none =
    let rest = first_few few marks (λ place le lt. none (suc place) (omega arith) (omega arith)) in omega arith

-- marks of which only that before a place, and a few from there on, may be true
few_around : (middle few : ℕ) (marks : List Bool) → ((place : ℕ) → suc place < middle → mark_in marks place ≡ false) →
    ((place : ℕ) → middle + few ≤ place → place < length marks → mark_in marks place ≡ false) → count marks ≤ suc few
few_around zero few marks before beyond = let most = first_few few marks (λ place le lt. beyond place (omega arith) lt) in omega arith
few_around (suc zero) few marks before beyond = first_few (suc few) marks (λ place le lt. beyond place (omega arith) lt)
few_around (suc (suc middle)) few [] before beyond = omega arith
few_around (suc (suc middle)) few (true ∷ marks) before beyond = let one : true ≡ false = before zero (omega arith) in absurd (cc)
few_around (suc (suc middle)) few (false ∷ marks) before beyond =
    few_around (suc middle) few marks (λ place lt. before (suc place) (omega arith)) (λ place le lt. beyond (suc place) (omega arith) (omega arith))

-- and the first mark of all
one_more : (mark : Bool) (marks : List Bool) → count (mark ∷ marks) ≤ suc (count marks)
one_more true marks = omega arith
one_more false marks = omega arith

few_with_first : (middle few : ℕ) (marks : List Bool) → ((place : ℕ) → 0 < place → suc place < middle → mark_in marks place ≡ false) →
    ((place : ℕ) → middle + few ≤ place → place < length marks → mark_in marks place ≡ false) → count marks ≤ suc (suc few)
few_with_first middle few [] before beyond = omega arith
few_with_first middle few (mark ∷ marks) before beyond =
    let rest = few_around (middle - 1) few marks (λ place lt. before (suc place) (omega arith) (omega arith)) (λ place le lt. beyond (suc place) (omega arith) (omega arith)) in
    let all = one_more mark marks in omega arith

-- ---- a journey for each start

none_more : (others : List Touch) (marks : List Bool) → count (map (λ _. false) others ++ marks) ≡ count marks
none_more [] marks = refl
none_more (tap ∷ others) marks = none_more others marks

one_each : (list : List Journey) → count (start_marks list) ≡ length list
one_each [] = refl
one_each (journey.Run run ∷ later) = ap suc (none_more (run.first.exit ∷ flat_map taps_of_leg run.others) (start_marks later) ∙ one_each later)
one_each (journey.Same leg ∷ later) = ap suc (one_each later)
one_each (journey.Lone tap ∷ later) = ap suc (one_each later)
one_each (journey.Bus tap pays ∷ later) = ap suc (one_each later)

counted_by_marks : StartsAreLocal → (editions : FareEditions) (taps : List Touch) → length (journeys editions.own (legs editions taps)) ≡ count (starts editions taps)
counted_by_marks local editions taps = sym (ap count (local editions taps) ∙ one_each (journeys editions.own (legs editions taps)))

-- ---- the marks of a stretch

mark_within : MarksAreCut → (editions : FareEditions) (taps a b c : List Touch) → AreInThree editions taps a b c →
    (from place : ℕ) → length a ≡ from → place < length b → mark_in (starts editions b) place ≡ mark_in (starts editions taps) (from + place)
mark_within marks editions taps a b c three from place long lt =
    let whole : starts editions taps ≡ starts editions a ++ (starts editions b ++ starts editions c) =
    ap (starts editions) three.parts ∙ marks editions a (b ++ c) (first_apart editions taps a b c three)
    ∙ ap (λ (list : List Bool). starts editions a ++ list) (marks editions b c (second_apart marks editions taps a b c three)) in
    let many_a = as_many editions None None a in
    let many_b = as_many editions None None b in
    let at : length (starts editions a) + place ≡ from + place = omega arith in
    sym (ap (λ (list : List Bool). mark_in list (from + place)) whole
    ∙ ap (mark_in (starts editions a ++ (starts editions b ++ starts editions c))) (sym at)
    ∙ get_or-append-add (starts editions a) (starts editions b ++ starts editions c) place true
    ∙ get_or_append_left (starts editions b) (starts editions c) true place (omega arith))

pub few_fewer : MarksAreCut → StartsAreLocal → (editions : FareEditions) (fewer : List Touch) (touch : Touch) (place from to : ℕ) → IsStretch editions fewer touch place from to →
    length (journeys editions.own (legs editions (taps_in from to fewer))) ≤ 4
few_fewer marks local editions fewer touch place from to s =
    let over = s.from_before in let under = s.to_after in let within = s.within in
    let b = taps_in from to fewer in
    let long_a : length (take from fewer) ≡ from = let n = length-take from fewer in omega arith in
    let long_b : length b ≡ to - from = length-between fewer from to within in
    let many = as_many editions None None b in
    let same : (k : ℕ) → k < length b → mark_in (starts editions b) k ≡ mark_in (starts editions fewer) (from + k) =
    λ k lt. mark_within marks editions fewer (take from fewer) b (drop to fewer) (fewer_in_three editions fewer touch place from to s) from k long_a lt in
    let most : count (starts editions b) ≤ 4 = few_with_first (place - from) 2 (starts editions b)
    (λ k some lt. same k (omega arith) ∙ s.none_before (from + k) (omega arith) (omega arith))
    (λ k le lt. same k (omega arith) ∙ s.none_after (from + k) (omega arith) (omega arith)) in
    let counted = counted_by_marks local editions b in omega arith

pub few_more : MarksAreCut → StartsAreLocal → (editions : FareEditions) (fewer : List Touch) (touch : Touch) (place from to : ℕ) → IsStretch editions fewer touch place from to →
    length (journeys editions.own (legs editions (insert (taps_in from to fewer) (place - from) touch))) ≤ 5
few_more marks local editions fewer touch place from to s =
    let over = s.from_before in let under = s.to_after in let within = s.within in
    let inside : place ≤ length fewer = omega arith in
    let b = insert (taps_in from to fewer) (place - from) touch in
    let long_a : length (take from fewer) ≡ from = let n = length-take from fewer in omega arith in
    let long_in : length (taps_in from to fewer) ≡ to - from = length-between fewer from to within in
    let long_b : length b ≡ length (taps_in from to fewer) + 1 = length-insert (taps_in from to fewer) (place - from) touch (omega arith) in
    let many = as_many editions None None b in
    let same : (k : ℕ) → k < length b → mark_in (starts editions b) k ≡ mark_in (starts editions (insert fewer place touch)) (from + k) =
    λ k lt. mark_within marks editions (insert fewer place touch) (take from fewer) b (drop to fewer) (more_in_three editions fewer touch place from to s) from k long_a lt in
    let back : (k : ℕ) → place + 3 ≤ k → mark_in (starts editions (insert fewer place touch)) k ≡ mark_in (starts editions fewer) (k - 1) =
    λ k le. let e : k ≡ suc (k - 1) = omega arith in
    ap (mark_in (starts editions (insert fewer place touch))) e ∙ marks_after_it editions fewer place (k - 1) touch (omega arith) inside in
    let most : count (starts editions b) ≤ 5 = few_with_first (place - from) 3 (starts editions b)
    (λ k some lt. same k (omega arith) ∙ marks_before editions fewer place (from + k) touch (omega arith) inside ∙ s.none_before (from + k) (omega arith) (omega arith))
    (λ k le lt. same k (omega arith) ∙ back (from + k) (omega arith) ∙ s.none_after (from + k - 1) (omega arith) (omega arith)) in
    let counted = counted_by_marks local editions b in omega arith

-- ---- the same of what was computed

pub few_finished : MarksAreCut → StartsAreLocal → (editions : FareEditions) (fewer : List Touch) (touch : Touch) (place from to : ℕ) (taps more : List Touch) (less with_it : List Journey) →
    IsStretch editions fewer touch place from to → taps ≡ taps_in from to fewer → less ≡ journeys editions.own (legs editions taps) →
    more ≡ insert taps (place - from) touch → with_it ≡ journeys editions.own (legs editions more) → (length less ≤ 4) × (length with_it ≤ 5)
few_finished marks local editions fewer touch place from to taps more less with_it s same less_is more_is with_is =
    let a : length less ≡ length (journeys editions.own (legs editions (taps_in from to fewer))) =
    ap length (less_is ∙ ap (λ (list : List Touch). journeys editions.own (legs editions list)) same) in
    let b : length with_it ≡ length (journeys editions.own (legs editions (insert (taps_in from to fewer) (place - from) touch))) =
    ap length (with_is ∙ ap (λ (list : List Touch). journeys editions.own (legs editions list)) (more_is ∙ ap (λ (list : List Touch). insert list (place - from) touch) same)) in
    let most = few_fewer marks local editions fewer touch place from to s in
    let most_with = few_more marks local editions fewer touch place from to s in
    (omega arith, omega arith)

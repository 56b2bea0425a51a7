-- The stretch that a rail tap disturbs has few taps beside those that are disturbed by the definition.
use Rattle.std.proofs.Common.{◌≡◌, ℕ, zero, suc, ◌+◌, ◌-◌, ◌*◌, ◌<◌, ◌≤◌, ◌&&◌, nat_lt, Bool, true, false, if◌then◌else◌, List, [], ◌∷◌, ◌++◌, length, flat_map, slice_get, Some, refl, sym, ap, ◌∙◌, arith}
use Rattle.std.specs.List.{insert, remove}
use mathlib.Core.Logic.{⊎_elim}
use Rattle.std.proofs.lemmas.Bool.{cases_lt}
use Rattle.std.proofs.lemmas.Bool.Decides.{nat_tests}
use Rattle.std.proofs.lemmas.List.{length-append, length-map, get_or-append-add}
use Rattle.std.proofs.lemmas.List.Edits.{length-insert}
use Rattle.pay_tables.specs.Words.{FareEditions}
use Rattle.pay_rules.specs.declared.tap.Touch.{Touch}
use Rattle.pay_rules.specs.Order.{put_in}
use Rattle.pay_taps.specs.Words.{place_of, PutInAtPlace}
use Rattle.pay_rules.specs.Legs.{legs}
use Rattle.pay_rules.specs.RailJourneys.{journeys}
use Rattle.pay_links.specs.Words.{starts, start_marks, marks_of_one, taps_of_journey, StartsAreLocal, JourneysHaveEachTap}
use Rattle.pay_rules.specs.declared.journey.Journey.{Journey}
use Rattle.pay_rules.specs.declared.journey.Journey.TheVariants as journey
use Rattle.pay_book.specs.Disturbed.{taps_of_any, disturbed_by_rail}
use Rattle.pay_book.specs.Fewer.{fewer_of, more_of}
use Rattle.pay_book.specs.Rail.{mark_in, IsStretch}
use Rattle.pay_book.proofs.Marks.{put_back, marks_before, marks_after_it}

-- ---- the journey that goes on from one place to another

as_many : (taps : List Touch) → length (marks_of_one taps) ≡ length taps
as_many [] = refl
as_many (tap ∷ others) = ap suc (length-map others (λ _. false))

first_marked : (list : List Journey) → mark_in (start_marks list) 0 ≡ true
first_marked [] = refl
first_marked (journey.Run run ∷ later) = refl
first_marked (journey.Same leg ∷ later) = refl
first_marked (journey.Lone tap ∷ later) = refl
first_marked (journey.Bus tap pays ∷ later) = refl

-- marks after those of one journey
after_one : (one : Journey) (later : List Journey) (on : ℕ) → mark_in (start_marks (one ∷ later)) (length (taps_of_journey one) + on) ≡ mark_in (start_marks later) on
after_one one later on =
    ap (λ (n : ℕ). mark_in (marks_of_one (taps_of_journey one) ++ start_marks later) (n + on)) (sym (as_many (taps_of_journey one)))
    ∙ get_or-append-add (marks_of_one (taps_of_journey one)) (start_marks later) on true

is_below : (a b : ℕ) → a < b → nat_lt a b ≡ true
is_below a b lt = grind (arith, nat_tests)

counted : (from to at many rest : ℕ) → from < at + many → at < to → (if nat_lt from (at + many) && nat_lt at to then many else 0) + rest ≡ many + rest
counted from to at many rest under over = rw (is_below from (at + many) under) (rw (is_below at to over) refl)

-- all taps from one place through another are of the journey that has one of them, where none starts after the first of them
pub held : (list : List Journey) (from to at first last x : ℕ) → at ≤ first → first ≤ last → last < at + length (flat_map taps_of_journey list)
    → ((place : ℕ) → first < place → place ≤ last → mark_in (start_marks list) (place - at) ≡ false)
    → first ≤ x → x ≤ last → from ≤ x → x < to → suc last ≤ first + taps_of_any from to at list
held [] from to at first last x begin up within none low high over under = absurd (omega (arith, begin, up, within))
held (one ∷ later) from to at first last x begin up within none low high over under =
    let many = length (taps_of_journey one) in
    let all = length-append (taps_of_journey one) (flat_map taps_of_journey later) in
    ⊎_elim
    (λ here. ⊎_elim
    (λ ends. let its = counted from to at many (taps_of_any from to (at + many) later) (omega (arith, ends, high, over)) (omega (arith, begin, low, under)) in
    omega (arith, its, ends, begin))
    (λ beyond.
    let none_there = none (at + many) here beyond in
    let on : (at + many) - at ≡ many + 0 = omega arith in
    let one_there = ap (mark_in (start_marks (one ∷ later))) on ∙ after_one one later 0 ∙ first_marked later in
    let both : true ≡ false = sym one_there ∙ none_there in absurd (cc))
    (cases_lt last (at + many)))
    (λ further.
    let rest = held later from to (at + many) first last x further up (omega (arith, within, all))
    (λ place lt le. let on : place - at ≡ many + (place - (at + many)) = omega (arith, lt, further) in
    sym (after_one one later (place - (at + many))) ∙ ap (mark_in (start_marks (one ∷ later))) (sym on) ∙ none place lt le)
    low high over under in
    omega (arith, rest))
    (cases_lt first (at + many))

-- ---- the same of rail taps

module _ (local : StartsAreLocal) (each : JourneysHaveEachTap) (editions : FareEditions) where
  held_among : (taps : List Touch) (from to first last x : ℕ) → first ≤ last → last < length taps
      → ((place : ℕ) → first < place → place ≤ last → mark_in (starts editions taps) place ≡ false)
      → first ≤ x → x ≤ last → from ≤ x → x < to → suc last ≤ first + taps_of_any from to 0 (journeys editions.own (legs editions taps))
  held_among taps from to first last x up within none low high over under =
      held (journeys editions.own (legs editions taps)) from to 0 first last x (omega arith) up (omega (arith, within, ap length (each editions taps)))
      (λ place lt le. let on : place - 0 ≡ place = omega arith in
      ap (mark_in (start_marks (journeys editions.own (legs editions taps)))) on ∙ ap (λ (marks : List Bool). mark_in marks place) (sym (local editions taps)) ∙ none place lt le) low high over under

  -- from the first place up to that of the tap
  before_it : (fewer : List Touch) (touch : Touch) (place from to : ℕ) → IsStretch editions fewer touch place from to
      → place ≤ from + 1 + (taps_of_any (place - 1) (place + 1) 0 (journeys editions.own (legs editions fewer)) + taps_of_any (place - 1) (place + 2) 0 (journeys editions.own (legs editions (insert fewer place touch))))
  before_it fewer touch place from to s =
      let inside : place ≤ length fewer = omega (arith, s.to_after, s.within) in
      let long = length-insert fewer place touch inside in
      ⊎_elim
      (λ far. ⊎_elim
      (λ goes.
      let it = held_among fewer (place - 1) (place + 1) from (place - 1) (place - 1) (omega (arith, far)) (omega (arith, far, inside))
      (λ other lt le. ⊎_elim
      (λ below. s.none_before other lt (omega (arith, below)))
      (λ there. let same : other ≡ place - 1 = omega (arith, there, le) in ap (mark_in (starts editions fewer)) same ∙ goes)
      (cases_lt other (place - 1)))
      (omega (arith, far)) (omega arith) (omega arith) (omega (arith, far)) in
      omega (arith, it, far))
      (λ goes.
      let more = insert fewer place touch in
      let it = held_among more (place - 1) (place + 2) from (place - 1) (place - 1) (omega (arith, far)) (omega (arith, far, inside, long))
      (λ other lt le. ⊎_elim
      (λ below. marks_before editions fewer place other touch (omega (arith, below)) inside ∙ s.none_before other lt (omega (arith, below)))
      (λ there. let same : other ≡ place - 1 = omega (arith, there, le) in ap (mark_in (starts editions more)) same ∙ goes)
      (cases_lt other (place - 1)))
      (omega (arith, far)) (omega arith) (omega arith) (omega (arith, far)) in
      omega (arith, it, far))
      (s.goes_on_before far))
      (λ near. omega (arith, near))
      (cases_lt (suc from) place)

  -- and from it up to the last place
  after_it : (fewer : List Touch) (touch : Touch) (place from to : ℕ) → IsStretch editions fewer touch place from to
      → to ≤ place + 1 + (taps_of_any (place - 1) (place + 1) 0 (journeys editions.own (legs editions fewer)) + taps_of_any (place - 1) (place + 2) 0 (journeys editions.own (legs editions (insert fewer place touch))))
  after_it fewer touch place from to s =
      let inside : place ≤ length fewer = omega (arith, s.to_after, s.within) in
      let long = length-insert fewer place touch inside in
      let within = s.within in
      ⊎_elim
      (λ far. ⊎_elim
      (λ goes.
      let it = held_among fewer (place - 1) (place + 1) place (to - 1) place (omega (arith, far)) (omega (arith, far, within))
      (λ other lt le. ⊎_elim
      (λ above. s.none_after other above (omega (arith, le, far)))
      (λ there. let same : other ≡ suc place = omega (arith, there, lt) in ap (mark_in (starts editions fewer)) same ∙ goes)
      (cases_lt (suc place) other))
      (omega arith) (omega (arith, far)) (omega arith) (omega arith) in
      omega (arith, it, far))
      (λ goes.
      let more = insert fewer place touch in
      let it = held_among more (place - 1) (place + 2) (suc place) to (suc place) (omega (arith, far)) (omega (arith, within, long))
      (λ other lt le. ⊎_elim
      (λ above. let on : other ≡ suc (other - 1) = omega (arith, lt) in
      ap (mark_in (starts editions more)) on ∙ marks_after_it editions fewer place (other - 1) touch (omega (arith, above)) inside ∙ s.none_after (other - 1) (omega (arith, above)) (omega (arith, le, lt)))
      (λ there. let same : other ≡ suc (suc place) = omega (arith, there, lt) in ap (mark_in (starts editions more)) same ∙ goes)
      (cases_lt (suc (suc place)) other))
      (omega arith) (omega (arith, far)) (omega arith) (omega arith) in
      omega (arith, it, far))
      (s.goes_on_after far))
      (λ near. omega (arith, near))
      (cases_lt (suc place) to)

  -- so a stretch has at most two taps and twice as many as are disturbed
  pub few_in_stretch : (fewer : List Touch) (touch : Touch) (place from to : ℕ) → IsStretch editions fewer touch place from to → remove (insert fewer place touch) place ≡ fewer
      → to - from ≤ 2 + 2 * disturbed_by_rail editions (insert fewer place touch) place
  few_in_stretch fewer touch place from to s out =
      let more = insert fewer place touch in
      let a = taps_of_any (place - 1) (place + 1) 0 (journeys editions.own (legs editions fewer)) in
      let b = taps_of_any (place - 1) (place + 2) 0 (journeys editions.own (legs editions more)) in
      let same : disturbed_by_rail editions more place ≡ a + b = ap (λ (taps : List Touch). taps_of_any (place - 1) (place + 1) 0 (journeys editions.own (legs editions taps)) + b) out in
      omega (arith, before_it fewer touch place from to s, after_it fewer touch place from to s, same)

  remove_inserted : (taps : List Touch) (place : ℕ) (touch : Touch) → place ≤ length taps → remove (insert taps place touch) place ≡ taps
  remove_inserted [] zero touch le = refl
  remove_inserted [] (suc place) touch le = absurd (omega (arith, le))
  remove_inserted (tap ∷ taps) zero touch le = refl
  remove_inserted (tap ∷ taps) (suc place) touch le = ap (λ (list : List Touch). tap ∷ list) (remove_inserted taps place touch (omega (arith, le)))

  -- of a tap that enters, or leaves where it is there
  pub few_around : PutInAtPlace → (taps : List Touch) (touch : Touch) (is_there : Bool) (place from to : ℕ) → (is_there ≡ true → slice_get taps (place_of touch taps) ≡ Some touch)
      → place ≡ place_of touch taps → place ≤ length taps → IsStretch editions (fewer_of is_there place taps) touch place from to
      → to - from ≤ 2 + 2 * disturbed_by_rail editions (more_of is_there touch taps) (place_of touch taps)
  few_around put taps touch true place from to there is within s =
      let again : insert (remove taps place) place touch ≡ taps = put_back taps place touch (ap (slice_get taps) is ∙ there refl) in
      let few = few_in_stretch (remove taps place) touch place from to s (ap (λ (list : List Touch). remove list place) again) in
      let same : disturbed_by_rail editions (insert (remove taps place) place touch) place ≡ disturbed_by_rail editions taps (place_of touch taps) =
      ap (λ (list : List Touch). disturbed_by_rail editions list place) again ∙ ap (disturbed_by_rail editions taps) is in
      omega (arith, few, same)
  few_around put taps touch false place from to there is within s =
      let few = few_in_stretch taps touch place from to s (remove_inserted taps place touch within) in
      let same : disturbed_by_rail editions (insert taps place touch) place ≡ disturbed_by_rail editions (put_in touch taps) (place_of touch taps) =
      ap (λ (n : ℕ). disturbed_by_rail editions (insert taps n touch) n) is ∙ ap (λ (list : List Touch). disturbed_by_rail editions list (place_of touch taps)) (sym (put touch taps)) in
      omega (arith, few, same)

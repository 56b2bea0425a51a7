-- The journeys of a stretch are all that change.
use Rattle.std.proofs.Common.{◌≡◌, ℕ, zero, suc, ◌+◌, ◌-◌, ◌≤◌, Bool, true, List, [], length, ◌∷◌, ◌++◌, take, drop, slice_get, Option, Some, None, refl, sym, ap, ◌∙◌, subst, append_assoc, length-take, take-append-drop, arith}
use Rattle.std.specs.List.{insert, remove}
use Rattle.std.proofs.lemmas.List.{get_or-append-add}
use Rattle.std.proofs.lemmas.List.Edits.{between_none, length-insert, length-between, split_between, insert-append_left, insert-append_right}
use Rattle.pay_tables.specs.Words.{FareEditions}
use Rattle.pay_rules.specs.declared.tap.Touch.{Touch}
use Rattle.pay_rules.specs.Legs.{legs}
use Rattle.pay_rules.specs.RailJourneys.{journeys}
use Rattle.pay_links.specs.Words.{starts, MarksAreCut, JourneysAreCut}
use Rattle.pay_rules.specs.declared.journey.Journey.{Journey}
use Rattle.pay_book.specs.Rail.{mark_in, taps_in, at_most_one, IsCut, IsStretch, IsDisturbed}
use Rattle.pay_book.specs.Fewer.{fewer_of}
use Rattle.pay_book.proofs.Marks.{as_many, put_back}

-- ---- taps from one place up to before another

pub none_in : (taps : List Touch) (from : ℕ) → taps_in from from taps ≡ []
none_in taps from = between_none taps from

-- one place more, and the tap there if there is one
pub one_more_in : (taps : List Touch) (from at : ℕ) → from ≤ at → taps_in from (at + 1) taps ≡ taps_in from at taps ++ at_most_one (slice_get taps at)
one_more_in taps from at le =
    let span : (at + 1) - from ≡ suc (at - from) = omega arith in
    let there : from + (at - from) ≡ at = omega arith in
    ap (λ (n : ℕ). take n (drop from taps)) span ∙ one_more (drop from taps) (at - from)
    ∙ ap (λ (found : Option Touch). taps_in from at taps ++ at_most_one found) (get_after taps from (at - from) ∙ ap (slice_get taps) there)
  where
    one_more : (list : List Touch) (n : ℕ) → take (suc n) list ≡ take n list ++ at_most_one (slice_get list n)
    one_more [] zero = refl
    one_more [] (suc n) = refl
    one_more (tap ∷ list) zero = refl
    one_more (tap ∷ list) (suc n) = ap (λ (later : List Touch). tap ∷ later) (one_more list n)

    get_after : (list : List Touch) (n k : ℕ) → slice_get (drop n list) k ≡ slice_get list (n + k)
    get_after [] zero k = refl
    get_after [] (suc n) k = refl
    get_after (tap ∷ list) zero k = let e : k ≡ 0 + k = omega arith in ap (slice_get (tap ∷ list)) e
    get_after (tap ∷ list) (suc n) k = let e : suc (n + k) ≡ suc n + k = omega arith in get_after list n k ∙ ap (slice_get (tap ∷ list)) e

-- a loop that adds the tap there
pub grown : (taps : List Touch) (from at : ℕ) (list more : List Touch) (found : Option Touch) → from ≤ at → more ≡ list ++ at_most_one found → list ≡ taps_in from at taps →
    found ≡ slice_get taps at → more ≡ taps_in from (at + 1) taps
grown taps from at list more found le added same there =
    added ∙ ap (λ (l : List Touch). l ++ at_most_one found) same ∙ ap (λ (f : Option Touch). taps_in from at taps ++ at_most_one f) there ∙ sym (one_more_in taps from at le)

-- a stretch ends where it has to
pub up_to : (taps : List Touch) (from at to : ℕ) (list : List Touch) → at ≡ to → list ≡ taps_in from at taps → list ≡ taps_in from to taps
up_to taps from at to list e same = same ∙ ap (λ (n : ℕ). taps_in from n taps) e

-- ---- taps in three parts

-- taps in three parts, of which journeys start with the second and with the third
pub record AreInThree (editions : FareEditions) (taps a b c : List Touch) : Type 0 where
  pub parts : taps ≡ a ++ (b ++ c)
  pub first : mark_in (starts editions taps) (length a) ≡ true
  pub second : mark_in (starts editions taps) (length a + length b) ≡ true

-- the second and third part stand apart from the first, and from each other
pub first_apart : (editions : FareEditions) (taps a b c : List Touch) → AreInThree editions taps a b c → mark_in (starts editions (a ++ (b ++ c))) (length a) ≡ true
first_apart editions taps a b c three = ap (λ (list : List Touch). mark_in (starts editions list) (length a)) (sym three.parts) ∙ three.first

pub second_apart : MarksAreCut → (editions : FareEditions) (taps a b c : List Touch) → AreInThree editions taps a b c → mark_in (starts editions (b ++ c)) (length b) ≡ true
second_apart marks editions taps a b c three =
    let long : length (starts editions a) + length b ≡ length a + length b = ap (λ (n : ℕ). n + length b) (as_many editions None None a) in
    let cut : starts editions taps ≡ starts editions a ++ starts editions (b ++ c) = ap (starts editions) three.parts ∙ marks editions a (b ++ c) (first_apart editions taps a b c three) in
    sym (get_or-append-add (starts editions a) (starts editions (b ++ c)) (length b) true)
    ∙ ap (λ (list : List Bool). mark_in list (length (starts editions a) + length b)) (sym cut)
    ∙ ap (mark_in (starts editions taps)) long ∙ three.second

journeys_in_three : JourneysAreCut → MarksAreCut → (editions : FareEditions) (taps a b c : List Touch) → AreInThree editions taps a b c →
    journeys editions.own (legs editions taps) ≡ (journeys editions.own (legs editions a) ++ journeys editions.own (legs editions b)) ++ journeys editions.own (legs editions c)
journeys_in_three cut marks editions taps a b c three =
    ap (λ (list : List Touch). journeys editions.own (legs editions list)) three.parts ∙ cut editions a (b ++ c) (first_apart editions taps a b c three)
    ∙ ap (λ (list : List Journey). journeys editions.own (legs editions a) ++ list) (cut editions b c (second_apart marks editions taps a b c three))
    ∙ sym (append_assoc (journeys editions.own (legs editions a)) (journeys editions.own (legs editions b)) (journeys editions.own (legs editions c)))

-- where taps are cut, a journey starts
cut_marked : (editions : FareEditions) (taps : List Touch) (place : ℕ) → place ≤ length taps → IsCut editions taps place → mark_in (starts editions taps) place ≡ true
cut_marked editions taps place le cut =
    let long : length (take place taps) ≡ place = let n = length-take place taps in omega arith in
    sym (ap (λ (list : List Touch). mark_in (starts editions list) (length (take place taps))) (take-append-drop place taps) ∙ ap (mark_in (starts editions taps)) long) ∙ cut

-- a stretch, and what stands before and after it
pub fewer_in_three : (editions : FareEditions) (fewer : List Touch) (touch : Touch) (place from to : ℕ) → IsStretch editions fewer touch place from to →
    AreInThree editions fewer (take from fewer) (taps_in from to fewer) (drop to fewer)
fewer_in_three editions fewer touch place from to s =
    let over = s.from_before in let under = s.to_after in let within = s.within in
    let long_a : length (take from fewer) ≡ from = let n = length-take from fewer in omega arith in
    let long_b : length (taps_in from to fewer) ≡ to - from = length-between fewer from to within in
    let both : length (take from fewer) + length (taps_in from to fewer) ≡ to = omega arith in
    record {
      parts = split_between fewer from to (omega arith);
      first = ap (mark_in (starts editions fewer)) long_a ∙ cut_marked editions fewer from (omega arith) s.fewer_from;
      second = ap (mark_in (starts editions fewer)) both ∙ cut_marked editions fewer to within s.fewer_to;
    }

-- the same with the tap in it
pub more_in_three : (editions : FareEditions) (fewer : List Touch) (touch : Touch) (place from to : ℕ) → IsStretch editions fewer touch place from to →
    AreInThree editions (insert fewer place touch) (take from fewer) (insert (taps_in from to fewer) (place - from) touch) (drop to fewer)
more_in_three editions fewer touch place from to s =
    let over = s.from_before in let under = s.to_after in let within = s.within in
    let a = take from fewer in
    let b = taps_in from to fewer in
    let c = drop to fewer in
    let more = insert fewer place touch in
    let long_a : length a ≡ from = let n = length-take from fewer in omega arith in
    let long_b : length b ≡ to - from = length-between fewer from to within in
    let long_with : length (insert b (place - from) touch) ≡ length b + 1 = length-insert b (place - from) touch (omega arith) in
    let both : length a + length (insert b (place - from) touch) ≡ suc to = omega arith in
    let long : length more ≡ length fewer + 1 = length-insert fewer place touch (omega arith) in
    record {
      parts = ap (λ (list : List Touch). insert list place touch) (split_between fewer from to (omega arith)) ∙ insert-append_right a (b ++ c) from place touch long_a over
          ∙ ap (λ (list : List Touch). a ++ list) (insert-append_left b c (place - from) touch (omega arith));
      first = ap (mark_in (starts editions more)) long_a ∙ cut_marked editions more from (omega arith) s.more_from;
      second = ap (mark_in (starts editions more)) both ∙ cut_marked editions more (suc to) (omega arith) s.more_to;
    }

pub disturbed : JourneysAreCut → MarksAreCut → (editions : FareEditions) (fewer : List Touch) (touch : Touch) (place from to : ℕ) → IsStretch editions fewer touch place from to →
    IsDisturbed editions fewer (insert fewer place touch) (journeys editions.own (legs editions (taps_in from to fewer)))
    (journeys editions.own (legs editions (insert (taps_in from to fewer) (place - from) touch)))
disturbed cut marks editions fewer touch place from to s = record {
  before = journeys editions.own (legs editions (take from fewer));
  beyond = journeys editions.own (legs editions (drop to fewer));
  all_fewer = journeys_in_three cut marks editions fewer _ _ _ (fewer_in_three editions fewer touch place from to s);
  all_more = journeys_in_three cut marks editions (insert fewer place touch) _ _ _ (more_in_three editions fewer touch place from to s);
}

-- the same of taps and journeys that were computed
pub finished : JourneysAreCut → MarksAreCut → (editions : FareEditions) (stored : List Touch) (touch : Touch) (is_there : Bool) (place at from to : ℕ) (taps more : List Touch) (less with_it : List Journey) →
    at ≡ place → IsStretch editions (fewer_of is_there at stored) touch at from to → taps ≡ taps_in from to (fewer_of is_there at stored) → less ≡ journeys editions.own (legs editions taps) →
    more ≡ insert taps (at - from) touch → with_it ≡ journeys editions.own (legs editions more) →
    IsDisturbed editions (fewer_of is_there place stored) (insert (fewer_of is_there place stored) place touch) less with_it
finished cut marks editions stored touch is_there place at from to taps more less with_it e s same less_is more_is with_is =
    let fewer = fewer_of is_there at stored in
    let base = disturbed cut marks editions fewer touch at from to s in
    let a : less ≡ journeys editions.own (legs editions (taps_in from to fewer)) = less_is ∙ ap (λ (list : List Touch). journeys editions.own (legs editions list)) same in
    let b : with_it ≡ journeys editions.own (legs editions (insert (taps_in from to fewer) (at - from) touch)) =
    with_is ∙ ap (λ (list : List Touch). journeys editions.own (legs editions list)) (more_is ∙ ap (λ (list : List Touch). insert list (at - from) touch) same) in
    let P : ℕ → Type 0 = λ n. IsDisturbed editions (fewer_of is_there n stored) (insert (fewer_of is_there n stored) n touch) less with_it in
    subst P e (record {
      before = base.before;
      beyond = base.beyond;
      all_fewer = base.all_fewer ∙ ap (λ (list : List Journey). (base.before ++ list) ++ base.beyond) (sym a);
      all_more = base.all_more ∙ ap (λ (list : List Journey). (base.before ++ list) ++ base.beyond) (sym b);
    })

-- what is disturbed where a tap enters, and where one leaves, in terms of the timeline
pub disturbed_out : (editions : FareEditions) (taps : List Touch) (touch : Touch) (place : ℕ) (less with_it : List Journey) → slice_get taps place ≡ Some touch →
    IsDisturbed editions (remove taps place) (insert (remove taps place) place touch) less with_it → IsDisturbed editions (remove taps place) taps less with_it
disturbed_out editions taps touch place less with_it there d =
    subst (λ (more : List Touch). IsDisturbed editions (remove taps place) more less with_it) (put_back taps place touch there) d

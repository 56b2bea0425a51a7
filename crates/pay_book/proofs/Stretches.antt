-- Places around a tap at which journeys start with it and without it.
use Rattle.std.proofs.Common.{◌≡◌, ◌⊎◌, inl, inr, ℕ, zero, suc, ◌+◌, ◌-◌, ◌<◌, ◌≤◌, ◌&&◌, Bool, true, false, List, [], length, ◌∷◌, take, slice_get, get_or, Some, None, refl, sym, ap, ◌∙◌, subst, if◌then◌else◌, length-take, take-append-drop, arith}
use Rattle.std.specs.List.{insert}
use mathlib.Core.Logic.{⊎_elim}
use Rattle.std.proofs.lemmas.Bool.{cases_lt, and_parts}
use Rattle.std.proofs.lemmas.Option.{slice_get_past, slice_get_within}
use Rattle.std.proofs.lemmas.List.Edits.{length-insert, length-remove}
use Rattle.pay_taps.specs.Words.{touch_before}
use Rattle.pay_tables.specs.Words.{FareEditions}
use Rattle.pay_rules.specs.declared.tap.Touch.{Touch}
use Rattle.pay_links.specs.Words.{starts}
use Rattle.pay_book.specs.declared.stretch.Around.{Around}
use Rattle.pay_book.specs.Rail.{second_before, starts_if_there, starts_in, mark_in, IsCut, IsAround, IsPlaced, IsFirstPlace, IsLastPlace, IsStretch, StandsThere, starts_at_it, starts_before_it, starts_after_it, starts_further, GoesOnInOne}
use Rattle.pay_book.specs.Fewer.{fewer_of}
use Rattle.pay_book.proofs.Marks.{as_many, put_back, before_same, after_same, it_stands, mark_by_place, marks_before, marks_after_it}

-- where a journey starts the taps are cut
pub cut_at : (editions : FareEditions) (taps : List Touch) (place : ℕ) → place ≤ length taps → mark_in (starts editions taps) place ≡ true → IsCut editions taps place
cut_at editions taps place le marked =
    let long : length (take place taps) ≡ place = let n = length-take place taps in omega arith in
    let all = take-append-drop place taps in
    ap (λ (list : List Touch). get_or (starts editions list) (length (take place taps)) true) all ∙ ap (mark_in (starts editions taps)) long ∙ marked

-- ---- the four taps around each place next to one that is put in

first_same : (taps : List Touch) (place other : ℕ) (touch : Touch) → other ≤ place → place ≤ length taps → touch_before (insert taps place touch) other ≡ touch_before taps other
first_same taps place zero touch lt le = refl
first_same taps place (suc other) touch lt le = before_same taps place other touch (omega arith) le

second_same : (taps : List Touch) (place other : ℕ) (touch : Touch) → other ≤ place → place ≤ length taps → second_before (insert taps place touch) other ≡ second_before taps other
second_same taps place zero touch lt le = refl
second_same taps place (suc other) touch lt le = first_same taps place other touch (omega arith) le

-- at the tap itself
at_it : (editions : FareEditions) (taps : List Touch) (place : ℕ) (touch : Touch) → place ≤ length taps →
    starts_in editions (insert taps place touch) place ≡ starts_if_there editions (second_before taps place) (touch_before taps place) (Some touch) (slice_get taps place)
at_it editions taps place touch le =
    let farther = second_same taps place place touch (omega arith) le in
    let nearer = first_same taps place place touch (omega arith) le in
    let here = it_stands taps place touch le in
    let next = after_same taps place place touch (omega arith) le in cc

-- at the tap before it
before_it : (editions : FareEditions) (taps : List Touch) (place : ℕ) (touch : Touch) → suc place ≤ length taps →
    starts_in editions (insert taps (suc place) touch) place ≡ starts_if_there editions (second_before taps place) (touch_before taps place) (slice_get taps place) (Some touch)
before_it editions taps place touch le =
    let farther = second_same taps (suc place) place touch (omega arith) le in
    let nearer = first_same taps (suc place) place touch (omega arith) le in
    let here = before_same taps (suc place) place touch (omega arith) le in
    let next = it_stands taps (suc place) touch le in cc

-- at the tap after it
after_it : (editions : FareEditions) (taps : List Touch) (place : ℕ) (touch : Touch) → place ≤ length taps →
    starts_in editions (insert taps place touch) (suc place) ≡ starts_if_there editions (touch_before taps place) (Some touch) (slice_get taps place) (slice_get taps (suc place))
after_it editions taps place touch le =
    let farther = first_same taps place place touch (omega arith) le in
    let nearer = it_stands taps place touch le in
    let here = after_same taps place place touch (omega arith) le in
    let next = after_same taps place (suc place) touch (omega arith) le in cc

-- at the second tap after it
further : (editions : FareEditions) (taps : List Touch) (place : ℕ) (touch : Touch) → place ≤ length taps →
    starts_in editions (insert taps place touch) (suc (suc place)) ≡ starts_if_there editions (Some touch) (slice_get taps place) (slice_get taps (suc place)) (slice_get taps (suc (suc place)))
further editions taps place touch le =
    let farther = it_stands taps place touch le in
    let nearer = after_same taps place place touch (omega arith) le in
    let here = after_same taps place (suc place) touch (omega arith) le in
    let next = after_same taps place (suc (suc place)) touch (omega arith) le in cc

-- ---- where a journey goes on

one_is_false : (a b : Bool) → (a && b) ≡ false → (b ≡ false) ⊎ (a ≡ false)
one_is_false true b e = inl e
one_is_false false b e = inr refl

-- at the tap before it
goes_before : (editions : FareEditions) (fewer : List Touch) (touch : Touch) (place : ℕ) (near : Around) → suc place ≤ length fewer → IsAround fewer (suc place) near →
    starts_before_it editions near touch ≡ false → GoesOnInOne editions fewer place (insert fewer (suc place) touch) place
goes_before editions fewer touch place near le around not_there =
    let window = before_it editions fewer place touch le in
    ⊎_elim
    (λ without. let a : starts_in editions fewer place ≡ false = cc in inl (mark_by_place editions fewer place ∙ a))
    (λ with_it. let b : starts_in editions (insert fewer (suc place) touch) place ≡ false = cc in inr (mark_by_place editions (insert fewer (suc place) touch) place ∙ b))
    (one_is_false (starts_if_there editions near.third near.second near.first (Some touch)) (starts_if_there editions near.third near.second near.first near.here) not_there)

goes_on_ahead : (editions : FareEditions) (fewer : List Touch) (touch : Touch) (place : ℕ) (near : Around) → place ≤ length fewer → IsAround fewer place near →
    starts_before_it editions near touch ≡ false → 0 < place → GoesOnInOne editions fewer (place - 1) (insert fewer place touch) (place - 1)
goes_on_ahead editions fewer touch zero near le around not_there some = absurd (omega (arith, some))
goes_on_ahead editions fewer touch (suc place) near le around not_there some =
    let back : place ≡ suc place - 1 = omega arith in
    subst (λ (n : ℕ). GoesOnInOne editions fewer n (insert fewer (suc place) touch) n) back (goes_before editions fewer touch place near le around not_there)

-- at the second tap after it
goes_on_further : (editions : FareEditions) (fewer : List Touch) (touch : Touch) (place : ℕ) (near : Around) → place ≤ length fewer → IsAround fewer place near →
    starts_further editions near touch ≡ false → GoesOnInOne editions fewer (suc place) (insert fewer place touch) (suc (suc place))
goes_on_further editions fewer touch place near le around not_there =
    let window = further editions fewer place touch le in
    ⊎_elim
    (λ without. let a : starts_in editions fewer (suc place) ≡ false = cc in inl (mark_by_place editions fewer (suc place) ∙ a))
    (λ with_it. let b : starts_in editions (insert fewer place touch) (suc (suc place)) ≡ false = cc in inr (mark_by_place editions (insert fewer place touch) (suc (suc place)) ∙ b))
    (one_is_false (starts_if_there editions (Some touch) near.here near.next near.later) (starts_if_there editions near.first near.here near.next near.later) not_there)

-- ---- the first place

long_more : (taps : List Touch) (place : ℕ) (touch : Touch) → place ≤ length taps → length (insert taps place touch) ≡ suc (length taps)
long_more taps place touch le = let n = length-insert taps place touch le in omega arith

-- a journey starts at the first tap of all
pub first_starts : (editions : FareEditions) (taps : List Touch) → mark_in (starts editions taps) 0 ≡ true
first_starts editions [] = refl
first_starts editions (tap ∷ later) = refl

pub first_place_from_marks : (editions : FareEditions) (fewer : List Touch) (touch : Touch) (place from : ℕ) → place ≤ length fewer → from ≤ place →
    ((other : ℕ) → from < other → suc other < place → mark_in (starts editions fewer) other ≡ false) →
    (suc from < place → GoesOnInOne editions fewer (place - 1) (insert fewer place touch) (place - 1)) →
    mark_in (starts editions fewer) from ≡ true → mark_in (starts editions (insert fewer place touch)) from ≡ true → IsFirstPlace editions fewer touch place from
first_place_from_marks editions fewer touch place from le below none goes a b =
    let long = long_more fewer place touch le in
    record {
      from_before = below;
      none_before = none;
      goes_on_before = goes;
      fewer_from = cut_at editions fewer from (omega arith) a;
      more_from = cut_at editions (insert fewer place touch) from (omega arith) b;
    }

pub first_at_it : (editions : FareEditions) (fewer : List Touch) (touch : Touch) (place : ℕ) (near : Around) → place ≤ length fewer → IsAround fewer place near →
    starts_at_it editions near touch ≡ true → IsFirstPlace editions fewer touch place place
first_at_it editions fewer touch place near le around there =
    let both = and_parts _ _ there in
    let with_it : starts_if_there editions near.second near.first (Some touch) near.here ≡ true = both.0 in
    let without : starts_if_there editions near.second near.first near.here near.next ≡ true = both.1 in
    let a : starts_in editions fewer place ≡ true = cc in
    let window = at_it editions fewer place touch le in
    let b : starts_in editions (insert fewer place touch) place ≡ true = cc in
    first_place_from_marks editions fewer touch place place le (omega arith) (λ other lt far. absurd (omega arith)) (λ far. absurd (omega (arith, far))) (mark_by_place editions fewer place ∙ a) (mark_by_place editions (insert fewer place touch) place ∙ b)

first_of_all : (editions : FareEditions) (fewer : List Touch) (touch : Touch) (place : ℕ) → place ≤ length fewer →
    ((other : ℕ) → 0 < other → suc other < place → mark_in (starts editions fewer) other ≡ false) →
    (1 < place → GoesOnInOne editions fewer (place - 1) (insert fewer place touch) (place - 1)) → IsFirstPlace editions fewer touch place 0
first_of_all editions fewer touch place le none goes =
    first_place_from_marks editions fewer touch place 0 le (omega arith) none goes (first_starts editions fewer) (first_starts editions (insert fewer place touch))

pub first_before_it : (editions : FareEditions) (fewer : List Touch) (touch : Touch) (place : ℕ) (near : Around) → suc place ≤ length fewer → IsAround fewer (suc place) near →
    starts_before_it editions near touch ≡ true → IsFirstPlace editions fewer touch (suc place) place
first_before_it editions fewer touch place near le around there =
    let both = and_parts _ _ there in
    let with_it : starts_if_there editions near.third near.second near.first (Some touch) ≡ true = both.0 in
    let without : starts_if_there editions near.third near.second near.first near.here ≡ true = both.1 in
    let a : starts_in editions fewer place ≡ true = cc in
    let window = before_it editions fewer place touch le in
    let b : starts_in editions (insert fewer (suc place) touch) place ≡ true = cc in
    first_place_from_marks editions fewer touch (suc place) place le (omega arith) (λ other lt far. absurd (omega arith)) (λ far. absurd (omega (arith, far))) (mark_by_place editions fewer place ∙ a)
    (mark_by_place editions (insert fewer (suc place) touch) place ∙ b)

pub first_at_zero : (editions : FareEditions) (fewer : List Touch) (touch : Touch) (place : ℕ) → place ≡ 0 → place ≤ length fewer → IsFirstPlace editions fewer touch place place
first_at_zero editions fewer touch place e le =
    subst (IsFirstPlace editions fewer touch place) (sym e) (first_of_all editions fewer touch place le (λ other lt far. absurd (omega arith)) (λ far. absurd (omega (arith, far, e))))

pub first_ahead : (editions : FareEditions) (fewer : List Touch) (touch : Touch) (place from : ℕ) (near : Around) → place ≤ length fewer → IsAround fewer place near →
    starts_before_it editions near touch ≡ true → suc from ≡ place → IsFirstPlace editions fewer touch place from
first_ahead editions fewer touch place from near le around there e =
    let P : ℕ → Type 0 = λ at. at ≤ length fewer → IsAround fewer at near → IsFirstPlace editions fewer touch at from in
    subst P e (λ fits is. first_before_it editions fewer touch from near fits is there) le around

-- before the tap before it the marks are those without it
earlier_mark : (editions : FareEditions) (fewer : List Touch) (touch : Touch) (is_there : Bool) (place : ℕ) (marks : List Bool) → IsPlaced editions fewer touch is_there place marks →
    (other : ℕ) → suc other < place → mark_in (starts editions fewer) other ≡ mark_in marks other
earlier_mark editions fewer touch true place marks placed other lt =
    sym (marks_before editions fewer place other touch lt placed.inside) ∙ ap (λ (list : List Bool). mark_in list other) (sym placed.marked)
earlier_mark editions fewer touch false place marks placed other lt = ap (λ (list : List Bool). mark_in list other) (sym placed.marked)

-- by the mark of an earlier tap
pub first_by_mark : (editions : FareEditions) (fewer : List Touch) (touch : Touch) (is_there : Bool) (place from : ℕ) (marks : List Bool) (near : Around) →
    IsAround fewer place near → IsPlaced editions fewer touch is_there place marks → starts_before_it editions near touch ≡ false →
    from ≤ place - 1 - 1 → (mark_in marks 0 ≡ true → mark_in marks from ≡ true) → ((other : ℕ) → from < other → other < place - 1 → mark_in marks other ≡ false) →
    IsFirstPlace editions fewer touch place from
first_by_mark editions fewer touch is_there place zero marks near around placed not_there close marked none = first_of_all editions fewer touch place placed.inside
    (λ other lt far. earlier_mark editions fewer touch is_there place marks placed other far ∙ none other lt (omega arith))
    (λ far. goes_on_ahead editions fewer touch place near placed.inside around not_there (omega (arith, far)))
first_by_mark editions fewer touch is_there place (suc from) marks near around placed not_there close marked none =
    let stored : List Touch = if is_there then insert fewer place touch else fewer in
    let first : mark_in marks 0 ≡ true = ap (λ (list : List Bool). mark_in list 0) placed.marked ∙ first_starts editions stored in
    let a : mark_in (starts editions fewer) (suc from) ≡ true = earlier_mark editions fewer touch is_there place marks placed (suc from) (omega arith) ∙ marked first in
    first_place_from_marks editions fewer touch place (suc from) placed.inside (omega arith)
    (λ other lt far. earlier_mark editions fewer touch is_there place marks placed other far ∙ none other lt (omega arith))
    (λ far. goes_on_ahead editions fewer touch place near placed.inside around not_there (omega (arith, far)))
    a (marks_before editions fewer place (suc from) touch (omega arith) placed.inside ∙ a)

-- ---- the last place

pub last_place_from_marks : (editions : FareEditions) (fewer : List Touch) (touch : Touch) (place to : ℕ) → place ≤ to → to ≤ length fewer →
    ((other : ℕ) → suc place < other → other < to → mark_in (starts editions fewer) other ≡ false) →
    (suc place < to → GoesOnInOne editions fewer (suc place) (insert fewer place touch) (suc (suc place))) →
    mark_in (starts editions fewer) to ≡ true → mark_in (starts editions (insert fewer place touch)) (suc to) ≡ true → IsLastPlace editions fewer touch place to
last_place_from_marks editions fewer touch place to over within none goes a b =
    let long = long_more fewer place touch (omega arith) in
    record {
      to_after = over;
      none_after = none;
      goes_on_after = goes;
      within = within;
      fewer_to = cut_at editions fewer to within a;
      more_to = cut_at editions (insert fewer place touch) (suc to) (omega arith) b;
    }

pub last_after_it : (editions : FareEditions) (fewer : List Touch) (touch : Touch) (place : ℕ) (near : Around) → place ≤ length fewer → IsAround fewer place near →
    starts_after_it editions near touch ≡ true → IsLastPlace editions fewer touch place place
last_after_it editions fewer touch place near le around there =
    let both = and_parts _ _ there in
    let with_it : starts_if_there editions near.first (Some touch) near.here near.next ≡ true = both.0 in
    let without : starts_if_there editions near.second near.first near.here near.next ≡ true = both.1 in
    let a : starts_in editions fewer place ≡ true = cc in
    let window = after_it editions fewer place touch le in
    let b : starts_in editions (insert fewer place touch) (suc place) ≡ true = cc in
    last_place_from_marks editions fewer touch place place (omega arith) le (λ other lt far. absurd (omega arith)) (λ far. absurd (omega (arith, far))) (mark_by_place editions fewer place ∙ a)
    (mark_by_place editions (insert fewer place touch) (suc place) ∙ b)

-- what is no start is there
none_starts_after : (editions : FareEditions) (fewer : List Touch) (touch : Touch) (place : ℕ) (near : Around) → IsAround fewer place near →
    starts_after_it editions near touch ≡ false → place < length fewer
none_starts_after editions fewer touch place near around not_there = ⊎_elim (λ h. h)
    (λ over. let none : near.here ≡ None = around.here ∙ slice_get_past fewer place over in
    let starts : starts_after_it editions near touch ≡ true = rw none refl in absurd (cc))
    (cases_lt place (length fewer))

none_starts_further : (editions : FareEditions) (fewer : List Touch) (touch : Touch) (place : ℕ) (near : Around) → IsAround fewer place near →
    starts_further editions near touch ≡ false → suc place < length fewer
none_starts_further editions fewer touch place near around not_there = ⊎_elim (λ h. h)
    (λ over. let none : near.next ≡ None = around.next ∙ slice_get_past fewer (suc place) over in
    let starts : starts_further editions near touch ≡ true = rw none refl in absurd (cc))
    (cases_lt (suc place) (length fewer))

pub last_further : (editions : FareEditions) (fewer : List Touch) (touch : Touch) (place to : ℕ) (near : Around) → place ≤ length fewer → IsAround fewer place near →
    starts_after_it editions near touch ≡ false → starts_further editions near touch ≡ true → to ≡ suc place → IsLastPlace editions fewer touch place to
last_further editions fewer touch place to near le around not_after there on =
    let both = and_parts _ _ there in
    let with_it : starts_if_there editions (Some touch) near.here near.next near.later ≡ true = both.0 in
    let without : starts_if_there editions near.first near.here near.next near.later ≡ true = both.1 in
    let a : starts_in editions fewer (suc place) ≡ true = cc in
    let window = further editions fewer place touch le in
    let b : starts_in editions (insert fewer place touch) (suc (suc place)) ≡ true = cc in
    let within = none_starts_after editions fewer touch place near around not_after in
    let last : IsLastPlace editions fewer touch place (suc place) = last_place_from_marks editions fewer touch place (suc place) (omega arith) (omega arith) (λ other lt far. absurd (omega arith)) (λ far. absurd (omega (arith, far))) (mark_by_place editions fewer (suc place) ∙ a)
    (mark_by_place editions (insert fewer place touch) (suc (suc place)) ∙ b) in
    subst (IsLastPlace editions fewer touch place) (sym on) last

-- which of two numbers it is
pub in_then : (test : Bool) (n a b : ℕ) → test ≡ true → n ≡ a → n ≡ (if test then a else b)
in_then test n a b h e = e ∙ sym (ap (λ (v : Bool). if v then a else b) h)

pub in_else : (test : Bool) (n a b : ℕ) → test ≡ false → n ≡ b → n ≡ (if test then a else b)
in_else test n a b h e = e ∙ sym (ap (λ (v : Bool). if v then a else b) h)

-- by the mark of a later tap
pub last_by_mark : (editions : FareEditions) (fewer : List Touch) (touch : Touch) (is_there : Bool) (place first to : ℕ) (marks : List Bool) (near : Around) →
    IsAround fewer place near → IsPlaced editions fewer touch is_there place marks → starts_further editions near touch ≡ false →
    first ≡ (if is_there then place + 3 else place + 2) → (more : ℕ) → to ≡ place + 2 + more → more ≤ length marks - first → mark_in marks (first + more) ≡ true →
    ((other : ℕ) → first ≤ other → other < first + more → mark_in marks other ≡ false) → IsLastPlace editions fewer touch place to
last_by_mark editions fewer touch true place first to marks near around placed not_further at more far within marked none =
    let room = none_starts_further editions fewer touch place near around not_further in
    let many : length marks ≡ suc (length fewer) = ap length placed.marked ∙ as_many editions None None (insert fewer place touch) ∙ long_more fewer place touch placed.inside in
    let on : first + more ≡ suc to = omega arith in
    let same : (other : ℕ) → place + 2 ≤ other → mark_in (starts editions fewer) other ≡ mark_in marks (suc other) =
    λ other le. sym (marks_after_it editions fewer place other touch le placed.inside) ∙ ap (λ (list : List Bool). mark_in list (suc other)) (sym placed.marked) in
    let a : mark_in (starts editions fewer) to ≡ true = same to (omega arith) ∙ ap (mark_in marks) (sym on) ∙ marked in
    last_place_from_marks editions fewer touch place to (omega arith) (omega arith) (λ other lt before. same other (omega arith) ∙ none (suc other) (omega arith) (omega arith))
    (λ far. goes_on_further editions fewer touch place near placed.inside around not_further) a (marks_after_it editions fewer place to touch (omega arith) placed.inside ∙ a)
last_by_mark editions fewer touch false place first to marks near around placed not_further at more far within marked none =
    let room = none_starts_further editions fewer touch place near around not_further in
    let many : length marks ≡ length fewer = ap length placed.marked ∙ as_many editions None None fewer in
    let on : first + more ≡ to = omega arith in
    let same : (other : ℕ) → mark_in (starts editions fewer) other ≡ mark_in marks other = λ other. ap (λ (list : List Bool). mark_in list other) (sym placed.marked) in
    let a : mark_in (starts editions fewer) to ≡ true = same to ∙ ap (mark_in marks) (sym on) ∙ marked in
    last_place_from_marks editions fewer touch place to (omega arith) (omega arith) (λ other lt before. same other ∙ none other (omega arith) (omega arith))
    (λ far. goes_on_further editions fewer touch place near placed.inside around not_further) a (marks_after_it editions fewer place to touch (omega arith) placed.inside ∙ a)

-- ---- both

pub placed_by : (editions : FareEditions) (taps : List Touch) (touch : Touch) (is_there : Bool) (place : ℕ) (marks : List Bool) → StandsThere is_there place touch taps →
    marks ≡ starts editions taps → IsPlaced editions (fewer_of is_there place taps) touch is_there place marks
placed_by editions taps touch true place marks there marked = record {
  inside = let within = slice_get_within taps place touch there in let one = length-remove taps place within in omega arith;
  marked = marked ∙ ap (starts editions) (sym (put_back taps place touch there));
}
placed_by editions taps touch false place marks there marked = record { inside = there; marked = marked }

pub place_within : (editions : FareEditions) (taps : List Touch) (touch : Touch) (is_there : Bool) (place : ℕ) (marks : List Bool) → StandsThere is_there place touch taps →
    marks ≡ starts editions taps → place ≤ length marks
place_within editions taps touch true place marks there marked =
    let within = slice_get_within taps place touch there in let many = as_many editions None None taps in let same = ap length marked in omega arith
place_within editions taps touch false place marks there marked = let many = as_many editions None None taps in let same = ap length marked in omega arith

pub from_to : (editions : FareEditions) (fewer : List Touch) (touch : Touch) (place from to : ℕ) → IsFirstPlace editions fewer touch place from → IsLastPlace editions fewer touch place to →
    IsStretch editions fewer touch place from to
from_to editions fewer touch place from to a b = record {
  from_before = a.from_before;
  to_after = b.to_after;
  within = b.within;
  none_before = a.none_before;
  none_after = b.none_after;
  goes_on_before = a.goes_on_before;
  goes_on_after = b.goes_on_after;
  fewer_from = a.fewer_from;
  fewer_to = b.fewer_to;
  more_from = a.more_from;
  more_to = b.more_to;
}

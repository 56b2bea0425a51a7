-- The mark at each place, and the marks of taps of which one was put in or taken out.
use Rattle.std.proofs.Common.{◌≡◌, ◌⊎◌, ℕ, zero, suc, ◌+◌, ◌-◌, ◌^◌, ◌<◌, ◌≤◌, min, Bool, true, List, [], length, ◌∷◌, slice_get, get_or, Option, Some, None, inl, inr, refl, sym, ap, ◌∙◌, subst, arith}
use Rattle.std.specs.List.{insert, remove}
use mathlib.Core.Logic.{⊎_elim}
use Rattle.std.proofs.lemmas.Option.{slice_get_within}
use Rattle.std.proofs.lemmas.Bool.{cases_lt}
use Rattle.std.proofs.lemmas.List.Edits.{length-insert, get_or-insert_below, get_or-insert_above, length-remove, get_or-remove_below, get_or-remove_above}
use Rattle.pay_rules.specs.Order.{put_in}
use Rattle.pay_taps.specs.Words.{place_of, PutInAtPlace}
use Rattle.pay_tables.specs.Words.{FareEditions}
use Rattle.pay_rules.specs.declared.tap.Touch.{Touch}
use Rattle.pay_links.specs.Words.{starts_after, starts}
use Rattle.pay_book.specs.Rail.{starts_if_there, starts_in, mark_in, AreMarkedElsewhere}

-- ---- one mark

pub as_many : (editions : FareEditions) (farther nearer : Option Touch) (taps : List Touch) → length (starts_after editions farther nearer taps) ≡ length taps
as_many editions farther nearer [] = refl
as_many editions farther nearer (tap ∷ later) = ap suc (as_many editions nearer (Some tap) later)

-- the tap before a place, and the one before that, after two others
abbrev first_after : Option Touch → List Touch → ℕ → Option Touch
first_after nearer taps zero = nearer
first_after nearer taps (suc place) = slice_get taps place

abbrev second_after : Option Touch → Option Touch → List Touch → ℕ → Option Touch
second_after farther nearer taps zero = farther
second_after farther nearer taps (suc place) = first_after nearer taps place

mark_after : (editions : FareEditions) (farther nearer : Option Touch) (taps : List Touch) (place : ℕ) →
    get_or (starts_after editions farther nearer taps) place true
    ≡ starts_if_there editions (second_after farther nearer taps place) (first_after nearer taps place) (slice_get taps place) (slice_get taps (suc place))
mark_after editions farther nearer [] place = refl
mark_after editions farther nearer (tap ∷ later) zero = refl
mark_after editions farther nearer (tap ∷ later) (suc zero) = mark_after editions nearer (Some tap) later zero
mark_after editions farther nearer (tap ∷ later) (suc (suc zero)) = mark_after editions nearer (Some tap) later (suc zero)
mark_after editions farther nearer (tap ∷ later) (suc (suc (suc place))) = mark_after editions nearer (Some tap) later (suc (suc place))

-- the taps next to a place decide its mark
pub mark_by_place : (editions : FareEditions) (taps : List Touch) (place : ℕ) → mark_in (starts editions taps) place ≡ starts_in editions taps place
mark_by_place editions taps zero = mark_after editions None None taps zero
mark_by_place editions taps (suc zero) = mark_after editions None None taps (suc zero)
mark_by_place editions taps (suc (suc place)) = mark_after editions None None taps (suc (suc place))

-- ---- all marks, made one after another

pub same_marks : (marks others : List Bool) → length marks ≡ length others → ((place : ℕ) → mark_in marks place ≡ mark_in others place) → marks ≡ others
same_marks [] [] long same = refl
same_marks [] (other ∷ others) long same = absurd (omega arith)
same_marks (mark ∷ marks) [] long same = absurd (omega arith)
same_marks (mark ∷ marks) (other ∷ others) long same =
    ap (λ one. one ∷ marks) (same zero) ∙ ap (λ (list : List Bool). other ∷ list) (same_marks marks others (omega arith) (λ place. same (suc place)))

-- marks that are right before one place, and from another on
pub record AreMarkedBut (editions : FareEditions) (taps : List Touch) (from to : ℕ) (marks : List Bool) : Type 0 where
  pub as_many : length marks ≡ length taps
  pub before : (other : ℕ) → other < from → mark_in marks other ≡ mark_in (starts editions taps) other
  pub beyond : (other : ℕ) → to ≤ other → mark_in marks other ≡ mark_in (starts editions taps) other

pub all_marked : (editions : FareEditions) (taps : List Touch) (from to : ℕ) (marks : List Bool) → to ≤ from → AreMarkedBut editions taps from to marks → marks ≡ starts editions taps
all_marked editions taps from to marks over are =
    same_marks marks (starts editions taps) (are.as_many ∙ sym (as_many editions None None taps)) (λ place. ⊎_elim (are.before place) (are.beyond place) (either place))
  where
    either : (place : ℕ) → (place < from) ⊎ (to ≤ place)
    either place = ⊎_elim (λ h. inl h) (λ h. inr (omega arith)) (cases_lt place from)

past_end : (marks : List Bool) (place : ℕ) → length marks ≤ place → mark_in marks place ≡ true
past_end [] place over = refl
past_end (mark ∷ marks) zero over = absurd (omega arith)
past_end (mark ∷ marks) (suc place) over = past_end marks place (omega arith)

pub marked_around : (editions : FareEditions) (taps : List Touch) (place from to : ℕ) (marks : List Bool) → AreMarkedElsewhere editions taps place marks →
    from ≤ place - 1 → (place + 3 ≤ to) ⊎ (length marks ≤ to) → AreMarkedBut editions taps from to marks
marked_around editions taps place from to marks are low high = record {
  as_many = are.as_many;
  before = λ other lt. are.before other (omega arith);
  beyond = λ other le. ⊎_elim (λ (far : place + 3 ≤ to). are.beyond other (omega arith)) (λ (end : length marks ≤ to). over other (omega arith)) high;
}
  where
    over : (other : ℕ) → length marks ≤ other → mark_in marks other ≡ mark_in (starts editions taps) other
    over other le = past_end marks other le ∙ sym (past_end (starts editions taps) other (let long = as_many editions None None taps in let same = are.as_many in omega arith))

-- two places after one are reached, or the end
pub reached : (place sum to long : ℕ) → sum ≡ min (place + 3) (2 ^ 64 - 1) → to ≡ min sum long → long < 2 ^ 64 → (place + 3 ≤ to) ⊎ (long ≤ to)
reached place sum to long a b few = ⊎_elim (λ h. inl (omega arith)) (λ h. inr h) (cases_lt to long)

-- ---- one tap more, and one less

-- before its place a tap that is put in leaves all where it was
pub before_same : (taps : List Touch) (place other : ℕ) (touch : Touch) → other < place → place ≤ length taps → slice_get (insert taps place touch) other ≡ slice_get taps other
before_same [] zero other touch lt le = absurd (omega arith)
before_same [] (suc place) other touch lt le = absurd (omega arith)
before_same (tap ∷ taps) zero other touch lt le = absurd (omega arith)
before_same (tap ∷ taps) (suc place) zero touch lt le = refl
before_same (tap ∷ taps) (suc place) (suc other) touch lt le = before_same taps place other touch (omega arith) (omega arith)

-- from there on it moves all one place on
pub after_same : (taps : List Touch) (place other : ℕ) (touch : Touch) → place ≤ other → place ≤ length taps → slice_get (insert taps place touch) (suc other) ≡ slice_get taps other
after_same [] zero other touch lt le = refl
after_same [] (suc place) other touch lt le = absurd (omega arith)
after_same (tap ∷ taps) zero other touch lt le = refl
after_same (tap ∷ taps) (suc place) zero touch lt le = absurd (omega arith)
after_same (tap ∷ taps) (suc place) (suc other) touch lt le = after_same taps place other touch (omega arith) (omega arith)

pub it_stands : (taps : List Touch) (place : ℕ) (touch : Touch) → place ≤ length taps → slice_get (insert taps place touch) place ≡ Some touch
it_stands [] zero touch le = refl
it_stands [] (suc place) touch le = absurd (omega arith)
it_stands (tap ∷ taps) zero touch le = refl
it_stands (tap ∷ taps) (suc place) touch le = it_stands taps place touch (omega arith)

-- a tap that was taken out is put back
pub put_back : (taps : List Touch) (place : ℕ) (touch : Touch) → slice_get taps place ≡ Some touch → insert (remove taps place) place touch ≡ taps
put_back [] place touch there = absurd (cc)
put_back (tap ∷ taps) zero touch there = let same : tap ≡ touch = cc in ap (λ (one : Touch). one ∷ taps) (sym same)
put_back (tap ∷ taps) (suc place) touch there = ap (λ (later : List Touch). tap ∷ later) (put_back taps place touch there)

-- before the tap before its place the marks are the same
starts_before : (editions : FareEditions) (taps : List Touch) (place other : ℕ) (touch : Touch) → suc other < place → place ≤ length taps →
    starts_in editions (insert taps place touch) other ≡ starts_in editions taps other
starts_before editions taps place zero touch lt le =
    let here = before_same taps place zero touch (omega arith) le in
    let next = before_same taps place (suc zero) touch lt le in cc
starts_before editions taps place (suc zero) touch lt le =
    let nearer = before_same taps place zero touch (omega arith) le in
    let here = before_same taps place (suc zero) touch (omega arith) le in
    let next = before_same taps place (suc (suc zero)) touch lt le in cc
starts_before editions taps place (suc (suc other)) touch lt le =
    let farther = before_same taps place other touch (omega arith) le in
    let nearer = before_same taps place (suc other) touch (omega arith) le in
    let here = before_same taps place (suc (suc other)) touch (omega arith) le in
    let next = before_same taps place (suc (suc (suc other))) touch lt le in cc

-- after the second tap after it they are the same, one place on
starts_after_it : (editions : FareEditions) (taps : List Touch) (place other : ℕ) (touch : Touch) → place + 2 ≤ other → place ≤ length taps →
    starts_in editions (insert taps place touch) (suc other) ≡ starts_in editions taps other
starts_after_it editions taps place zero touch lt le = absurd (omega arith)
starts_after_it editions taps place (suc zero) touch lt le = absurd (omega arith)
starts_after_it editions taps place (suc (suc other)) touch lt le =
    let farther = after_same taps place other touch (omega arith) le in
    let nearer = after_same taps place (suc other) touch (omega arith) le in
    let here = after_same taps place (suc (suc other)) touch (omega arith) le in
    let next = after_same taps place (suc (suc (suc other))) touch (omega arith) le in cc

pub marks_before : (editions : FareEditions) (taps : List Touch) (place other : ℕ) (touch : Touch) → suc other < place → place ≤ length taps →
    mark_in (starts editions (insert taps place touch)) other ≡ mark_in (starts editions taps) other
marks_before editions taps place other touch lt le =
    mark_by_place editions (insert taps place touch) other ∙ starts_before editions taps place other touch lt le ∙ sym (mark_by_place editions taps other)

pub marks_after_it : (editions : FareEditions) (taps : List Touch) (place other : ℕ) (touch : Touch) → place + 2 ≤ other → place ≤ length taps →
    mark_in (starts editions (insert taps place touch)) (suc other) ≡ mark_in (starts editions taps) other
marks_after_it editions taps place other touch lt le =
    mark_by_place editions (insert taps place touch) (suc other) ∙ starts_after_it editions taps place other touch lt le ∙ sym (mark_by_place editions taps other)

-- once a tap is put in, and a mark beside it, the marks are right elsewhere
pub marked_with_one_more : (editions : FareEditions) (taps : List Touch) (place : ℕ) (touch : Touch) (mark : Bool) → place ≤ length taps →
    AreMarkedElsewhere editions (insert taps place touch) place (insert (starts editions taps) place mark)
marked_with_one_more editions taps place touch mark le = record {
  as_many = length-insert (starts editions taps) place mark fits ∙ ap (λ (n : ℕ). n + 1) (as_many editions None None taps) ∙ sym (length-insert taps place touch le);
  before = λ other lt. get_or-insert_below (starts editions taps) place mark true other (omega arith) fits ∙ sym (marks_before editions taps place other touch lt le);
  beyond = beyond;
}
  where
    fits : place ≤ length (starts editions taps)
    fits = let long = as_many editions None None taps in omega arith

    beyond : (other : ℕ) → place + 2 < other → mark_in (insert (starts editions taps) place mark) other ≡ mark_in (starts editions (insert taps place touch)) other
    beyond zero lt = absurd (omega arith)
    beyond (suc other) lt =
        let on : suc other ≡ other + 1 = omega arith in
        ap (mark_in (insert (starts editions taps) place mark)) on ∙ get_or-insert_above (starts editions taps) place mark true other (omega arith) fits
        ∙ sym (marks_after_it editions taps place other touch (omega arith) le)

-- once a tap is taken out, and its mark, the marks are right elsewhere
pub marked_with_one_fewer : (editions : FareEditions) (taps : List Touch) (place : ℕ) (touch : Touch) → slice_get taps place ≡ Some touch →
    AreMarkedElsewhere editions (remove taps place) place (remove (starts editions taps) place)
marked_with_one_fewer editions taps place touch there =
    let fewer = remove taps place in
    let within : place < length taps = slice_get_within taps place touch there in
    let long = as_many editions None None taps in
    let one = length-remove taps place within in
    let fits : place < length (starts editions taps) = omega arith in
    let rest = length-remove (starts editions taps) place fits in
    let le : place ≤ length fewer = omega arith in
    let was : (k : ℕ) → mark_in (starts editions taps) k ≡ mark_in (starts editions (insert fewer place touch)) k =
    λ k. ap (λ (list : List Touch). mark_in (starts editions list) k) (sym (put_back taps place touch there)) in
    let many = as_many editions None None fewer in
    record {
      as_many = omega arith;
      before = λ other lt. get_or-remove_below (starts editions taps) place true other (omega arith) fits ∙ was other ∙ marks_before editions fewer place other touch lt le;
      beyond = λ other lt. let on : other + 1 ≡ suc other = omega arith in
          get_or-remove_above (starts editions taps) place true other (omega arith) fits ∙ ap (mark_in (starts editions taps)) on ∙ was (suc other)
          ∙ marks_after_it editions fewer place other touch (omega arith) le;
    }

-- the same of a timeline and its marks after they were changed: a tap was put in at its place, and a mark there
pub marked_once_in : PutInAtPlace → (editions : FareEditions) (old new : List Touch) (touch : Touch) (place : ℕ) (mark : Bool) (marks : List Bool) → new ≡ put_in touch old →
    place ≡ place_of touch old → place ≤ length old → marks ≡ insert (starts editions old) place mark → AreMarkedElsewhere editions new place marks
marked_once_in put editions old new touch place mark marks e at le given =
    let is : insert old place touch ≡ new = ap (λ (n : ℕ). insert old n touch) at ∙ sym (put touch old) ∙ sym e in
    subst (λ (list : List Touch). AreMarkedElsewhere editions list place marks) is
    (subst (AreMarkedElsewhere editions (insert old place touch) place) (sym given) (marked_with_one_more editions old place touch mark le))

-- a tap was taken out, and the mark there
pub marked_once_out : (editions : FareEditions) (old new : List Touch) (touch : Touch) (place : ℕ) (marks : List Bool) → new ≡ remove old place → slice_get old place ≡ Some touch →
    marks ≡ remove (starts editions old) place → AreMarkedElsewhere editions new place marks
marked_once_out editions old new touch place marks e there given =
    subst (λ (list : List Touch). AreMarkedElsewhere editions list place marks) (sym e)
    (subst (AreMarkedElsewhere editions (remove old place) place) (sym given) (marked_with_one_fewer editions old place touch there))

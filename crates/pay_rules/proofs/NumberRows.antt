-- Worked rows: a few things with numbers, and small sets of them.
use Rattle.std.proofs.Common.{◌≡◌, inl, inr, ℕ, ◌&&◌, nat_eq, Bool, [], ◌∷◌, Some, None, Ok, Err, Less, Equal, Greater, refl}
use Rattle.std.specs.FinMap.{empty, get, len, insert, remove, gets}
use Rattle.pay_rules.specs.declared.addition.Addition.TheVariants.{Added, Repeat}
use Rattle.pay_rules.specs.declared.addition.AdditionFault.TheVariants.{Conflict, Full, Memory}
use Rattle.pay_rules.specs.Numbers.{ByNumber, number_cmp, judgement, judged, IsJudged, set_after}
use Rattle.pay_rules.specs.InTurn.{after_all, AreTaken, IsIn}
use Rattle.pay_rules.specs.NumberOrder.{number_total}

-- a thing that has a number, and beside it only a weight
record Thing : Type 0 where
  pub number : ℕ × ℕ
  pub weight : ℕ

abbrev thing : ℕ → ℕ → ℕ → Thing
thing first second weight = record { number = (first, second); weight = weight }

abbrev number : Thing → ℕ × ℕ
number x = x.number

abbrev same : Thing → Thing → Bool
same a b = nat_eq a.number.0 b.number.0 && (nat_eq a.number.1 b.number.1 && nat_eq a.weight b.weight)

-- ---- the order of numbers

first_decides : number_cmp (1, 9) (2, 0) ≡ Less
first_decides = refl

then_the_second : number_cmp (3, 10) (3, 9) ≡ Greater
then_the_second = refl

both_alike : number_cmp (3, 7) (3, 7) ≡ Equal
both_alike = refl

-- ---- the judgement of one more, where two may be

the_second : judgement same 2 (thing 1 4 20) None 1 ≡ Ok Added
the_second = refl

the_third : judgement same 2 (thing 1 4 20) None 2 ≡ Err Full
the_third = refl

none_may_be : judgement same 0 (thing 1 4 20) None 0 ≡ Err Full
none_may_be = refl

the_very_same : judgement same 2 (thing 1 4 20) (Some (thing 1 4 20)) 1 ≡ Ok Repeat
the_very_same = refl

another_weight : judgement same 2 (thing 1 4 21) (Some (thing 1 4 20)) 1 ≡ Err Conflict
another_weight = refl

-- a full set knows what it has, and a conflict comes before want of room
the_very_same_at_full : judgement same 2 (thing 1 4 20) (Some (thing 1 4 20)) 2 ≡ Ok Repeat
the_very_same_at_full = refl

another_weight_at_full : judgement same 2 (thing 1 4 21) (Some (thing 1 4 20)) 2 ≡ Err Conflict
another_weight_at_full = refl

-- ---- what a result leaves

added_stands : (set : ByNumber Thing) → set_after number (Ok Added) set (thing 1 4 20) ≡ insert set (1, 4) (thing 1 4 20)
added_stands set = refl

repeat_changes_nothing : (set : ByNumber Thing) → set_after number (Ok Repeat) set (thing 1 4 20) ≡ set
repeat_changes_nothing set = refl

conflict_changes_nothing : (set : ByNumber Thing) → set_after number (Err Conflict) set (thing 1 4 20) ≡ set
conflict_changes_nothing set = refl

full_changes_nothing : (set : ByNumber Thing) → set_after number (Err Full) set (thing 1 4 20) ≡ set
full_changes_nothing set = refl

no_memory_changes_nothing : (set : ByNumber Thing) → set_after number (Err Memory) set (thing 1 4 20) ≡ set
no_memory_changes_nothing set = refl

-- ---- a set that has (2, 0) and (1, 4)

abbrev two : ByNumber Thing
two = insert (insert empty (2, 0) (thing 2 0 30)) (1, 4) (thing 1 4 20)

count : len two ≡ 2
count = simp (gets, number_total)

found : get two (2, 0) ≡ Some (thing 2 0 30)
found = simp (gets, number_total)

not_there : get two (2, 4) ≡ None
not_there = simp (gets, number_total)

a_third : judged same number 3 two (thing 1 5 20) ≡ Ok Added
a_third = simp (gets, number_total)

no_third : judged same number 2 two (thing 1 5 20) ≡ Err Full
no_third = simp (gets, number_total)

again : judged same number 2 two (thing 1 4 20) ≡ Ok Repeat
again = simp (gets, number_total)

other_content : judged same number 3 two (thing 2 0 31) ≡ Err Conflict
other_content = simp (gets, number_total)

-- want of memory is told only where one would be added
no_memory_for_a_third : IsJudged same number 3 (Err Memory) two (thing 1 5 20)
no_memory_for_a_third = simp (gets, number_total)

-- ---- removal

one_taken_out : len (remove two (1, 4)) ≡ 1
one_taken_out = simp (gets, number_total)

gone : get (remove two (1, 4)) (1, 4) ≡ None
gone = simp (gets, number_total)

other_stays : get (remove two (1, 4)) (2, 0) ≡ Some (thing 2 0 30)
other_stays = simp (gets, number_total)

-- a number that none has takes nothing out
none_taken_out : len (remove two (1, 5)) ≡ 2
none_taken_out = simp (gets, number_total)

-- ---- one after another

-- a further one, it again, and other content at its number
in_turn : after_all same number 3 two (thing 1 5 7 ∷ thing 1 5 7 ∷ thing 2 0 31 ∷ []) ≡ insert two (1, 5) (thing 1 5 7)
in_turn = simp (gets, number_total)

-- only the first of two finds room
room_for_one : after_all same number 3 two (thing 1 5 7 ∷ thing 9 0 7 ∷ []) ≡ insert two (1, 5) (thing 1 5 7)
room_for_one = simp (gets, number_total)

a_repeat_is_taken : AreTaken same number 3 two (thing 1 5 7 ∷ thing 1 5 7 ∷ thing 2 0 30 ∷ [])
a_repeat_is_taken = simp (gets, number_total) (refl, (refl, (refl, tt)))

is_second : IsIn (thing 1 4 20 ∷ thing 2 0 30 ∷ []) (thing 2 0 30)
is_second = inr (inl refl)

-- A set after something archived was taken into it.
use Rattle.std.proofs.Common.{◌≡◌, inl, inr, ◌⊎◌, ◌↔◌, ℕ, ◌+◌, ◌<◌, ◌≤◌, Bool, true, false, cond, if◌then◌else◌, Option, Some, None, Result, Ok, Err, is_some, Ordering, Less, Equal, Greater, is_eq, nat_le, refl, sym, ap, ◌∙◌, subst, arith}
use Rattle.std.specs.Cmp.{IsTotalOrder, nat_cmp_total, eq_by_cmp_equiv}
use Rattle.std.specs.FinMap.{get, len, insert, get-insert, len-insert}
use Rattle.std.specs.Ordering.{nat_cmp, eq_by_cmp}
use Rattle.std.proofs.lemmas.Bool.{leb-true}
use Rattle.std.proofs.lemmas.Cmp.{on_total, then_total}
use Rattle.std.proofs.lemmas.Map.Lookups.{CmpEqualImpliesEq, exact_pairs, exact_unsigned}
use Rattle.std.proofs.lemmas.Option.{none-some}
use Rattle.pay_rules.specs.Numbers.{number_cmp, ByNumber, judgement, judged, set_after}
use Rattle.pay_rules.specs.declared.addition.Addition.{Addition}
use Rattle.pay_rules.specs.declared.addition.Addition.TheVariants.{Added, Repeat}
use Rattle.pay_rules.specs.declared.addition.AdditionFault.{AdditionFault}
use Rattle.pay_rules.specs.declared.addition.AdditionFault.TheVariants.{Conflict, Full}

pub number_total : IsTotalOrder number_cmp
number_total = then_total (on_total (λ n. n.0) nat_cmp_total) (on_total (λ n. n.1) nat_cmp_total)

equal : (r : Ordering) → is_eq r ≡ true → r ≡ Equal
equal Less e = absurd (cc)
equal Equal e = refl
equal Greater e = absurd (cc)

pub exact_numbers : CmpEqualImpliesEq number_cmp
exact_numbers = exact_pairs nat_cmp nat_cmp exact_unsigned exact_unsigned

pub same_number : (q k : ℕ × ℕ) → eq_by_cmp number_cmp q k ≡ true → q ≡ k
same_number q k e = exact_numbers q k (equal (number_cmp q k) e)

pub at_itself : (q k : ℕ × ℕ) → q ≡ k → eq_by_cmp number_cmp q k ≡ true
at_itself q k e = subst (λ n. eq_by_cmp number_cmp n k ≡ true) (sym e) ((eq_by_cmp_equiv number_total).refl k)

-- it has what it had, and this
pub record Took {X : Type 0} (number : X → ℕ × ℕ) (set more : ByNumber X) (x : X) : Type 0 where
  pub at : (n : ℕ × ℕ) (y : X) → (get more n ≡ Some y) ↔ ((get set n ≡ Some y) ⊎ ((x ≡ y) × (number x ≡ n)))
  pub size : len more ≤ len set + 1

module _ {X : Type 0} (number : X → ℕ × ℕ) where
  either : (b : Bool) (there : Option X) (x y : X) (n : ℕ × ℕ) → (b ≡ true → n ≡ number x) → cond b (Some x) there ≡ Some y → (there ≡ Some y) ⊎ ((x ≡ y) × (number x ≡ n))
  either true there x y n is e = let one : x ≡ y = cc in inr (one, sym (is refl))
  either false there x y n is e = inl e

  not_lost : (b : Bool) (there : Option X) (x y : X) → (b ≡ true → there ≡ None) → there ≡ Some y → cond b (Some x) there ≡ Some y
  not_lost true there x y none e = absurd (none-some y (sym (none refl) ∙ e))
  not_lost false there x y none e = e

  took_new : (set : ByNumber X) (x : X) → get set (number x) ≡ None → Took number set (insert set (number x) x) x
  took_new set x none = record {
    at = λ n y. (
      λ e. either (eq_by_cmp number_cmp n (number x)) (get set n) x y n (same_number n (number x)) (sym (get-insert number_total set (number x) x n) ∙ e),
      λ h. get-insert number_total set (number x) x n ∙ elim h [
        | inl e ↦ not_lost (eq_by_cmp number_cmp n (number x)) (get set n) x y (λ is. ap (get set) (same_number n (number x) is) ∙ none) e
        | inr w ↦ ap (λ b. cond b (Some x) (get set n)) (at_itself n (number x) (sym w.1)) ∙ ap Some w.0
      ],
    );
    size = omega (arith, len-insert number_total set (number x) x ∙ ap (λ (o : Option X). cond (is_some o) (len set) (len set + 1)) none);
  }

  took_again : (set : ByNumber X) (x : X) → get set (number x) ≡ Some x → Took number set set x
  took_again set x there = record {
    at = λ n y. (λ e. inl e, λ h. elim h [ inl e ↦ e | inr w ↦ ap (get set) (sym w.1) ∙ there ∙ ap Some w.0 ]);
    size = omega arith;
  }

  module _ (same : X → X → Bool) (most : ℕ) (same_is_one : (a b : X) → same a b ≡ true → a ≡ b) (one_is_same : (a : X) → same a a ≡ true) where
    -- what is not refused is taken
    pub took : (set : ByNumber X) (x : X) (r : Addition) → judged same number most set x ≡ Ok r → Took number set (set_after number (Ok r) set x) x
    took set x r e = by_there (get set (number x)) refl e
      where
        by_room : (b : Bool) → get set (number x) ≡ None → ◌≡◌ {A = Result Addition AdditionFault} (if b then Err Full else Ok Added) (Ok r) → Took number set (set_after number (Ok r) set x) x
        by_room true none f = absurd (cc)
        by_room false none f = let is : Added ≡ r = cc in subst (λ (s : Addition). Took number set (set_after number (Ok s) set x) x) is (took_new set x none)

        by_same : (there : X) (b : Bool) → same there x ≡ b → get set (number x) ≡ Some there → ◌≡◌ {A = Result Addition AdditionFault} (if b then Ok Repeat else Err Conflict) (Ok r) → Took number set (set_after number (Ok r) set x) x
        by_same there true here at f =
            let is : Repeat ≡ r = cc in
            subst (λ (s : Addition). Took number set (set_after number (Ok s) set x) x) is (took_again set x (at ∙ ap Some (same_is_one there x here)))
        by_same there false here at f = absurd (cc)

        by_there : (o : Option X) → get set (number x) ≡ o → judgement same most x o (len set) ≡ Ok r → Took number set (set_after number (Ok r) set x) x
        by_there None at f = by_room (nat_le most (len set)) at f
        by_there (Some there) at f = by_same there (same there x) refl at f

    -- where no other has its number, and there is room, it is not refused
    pub not_refused : (set : ByNumber X) (x : X) → ((y : X) → get set (number x) ≡ Some y → y ≡ x) → len set < most → (r : Addition) × (judged same number most set x ≡ Ok r)
    not_refused set x own room = by_there (get set (number x)) refl
      where
        by_room : (b : Bool) → nat_le most (len set) ≡ b → (r : Addition) × (◌≡◌ {A = Result Addition AdditionFault} (if b then Err Full else Ok Added) (Ok r))
        by_room true full = absurd (omega (arith, leb-true most (len set) full, room))
        by_room false full = (Added, refl)

        by_there : (o : Option X) → get set (number x) ≡ o → (r : Addition) × (judgement same most x o (len set) ≡ Ok r)
        by_there None at = by_room (nat_le most (len set)) refl
        by_there (Some there) at =
            let is : same there x ≡ true = subst (λ y. same y x ≡ true) (sym (own there at)) (one_is_same x) in
            (Repeat, ap (λ (b : Bool). if b then Ok Repeat else Err Conflict) is)

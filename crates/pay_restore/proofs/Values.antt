-- What a set has at a number is the one of its values that has it.
use Rattle.std.proofs.Common.{◌≡◌, inl, inr, ◌↔◌, ℕ, Bool, true, false, cond, ◌&&◌, T, List, [], ◌∷◌, map, Some, refl, sym, ap, ◌∙◌, subst}
use Rattle.std.specs.Cmp.{nat_cmp_is}
use Rattle.std.specs.FinMap.{find, entries, values, is_sorted, get-entries, entries_sorted}
use Rattle.std.specs.FinMap.Entries.{below_all}
use Rattle.std.specs.Ordering.{eq_by_cmp, is_lt, ordering_then}
use Rattle.std.specs.declared.cmp.Ordering.TheVariants.{Equal}
use Rattle.pay_rules.specs.Numbers.{number_cmp, ByNumber, IsNumbered}
use Rattle.pay_rules.specs.InTurn.{IsIn}
use Rattle.pay_restore.specs.Archives.{IsSetOf}
use Rattle.pay_restore.proofs.Sets.{same_number, at_itself}

pub first : (a b : Bool) → T (a && b) → T a
first true b p = tt
first false b p = p

pub second : (a b : Bool) → T (a && b) → T b
second true b p = p
second false b p = absurd p

not_below_itself : (n : ℕ × ℕ) → is_lt (number_cmp n n) ≡ false
not_below_itself n =
    let one = sym (nat_cmp_is n.0 n.0 Equal refl) in
    let other = sym (nat_cmp_is n.1 n.1 Equal refl) in
    λ i. is_lt (ordering_then (one i) (other i))

module _ {X : Type 0} (number : X → ℕ × ℕ) where
  abbrev those : List ((ℕ × ℕ) × X) → List X
  those es = map (λ (e : (ℕ × ℕ) × X). e.1) es

  -- each stands at its own number
  abbrev AreOwn : List ((ℕ × ℕ) × X) → Type 0
  AreOwn es = map number (those es) ≡ map (λ (e : (ℕ × ℕ) × X). e.0) es

  below_member : (k : ℕ × ℕ) (es : List ((ℕ × ℕ) × X)) (x : X) → T (below_all number_cmp k es) → AreOwn es → IsIn (those es) x → T (is_lt (number_cmp k (number x)))
  below_member k [] x below own h = absurd h
  below_member k (e ∷ es) x below own h =
      let here : number e.1 ≡ e.0 = cc in
      let more : AreOwn es = cc in
      elim h [
        | inl one ↦ subst (λ n. T (is_lt (number_cmp k n))) (sym here ∙ ap number one) (first (is_lt (number_cmp k e.0)) (below_all number_cmp k es) below)
        | inr later ↦ below_member k es x (second (is_lt (number_cmp k e.0)) (below_all number_cmp k es) below) more later
      ]

  found_is_in : (es : List ((ℕ × ℕ) × X)) (n : ℕ × ℕ) (x : X) → AreOwn es → find number_cmp n es ≡ Some x → IsIn (those es) x × (number x ≡ n)
  found_is_in [] n x own f = absurd (cc)
  found_is_in (e ∷ es) n x own f =
      let here : number e.1 ≡ e.0 = cc in
      let more : AreOwn es = cc in
      by (eq_by_cmp number_cmp n e.0) refl here f (found_is_in es n x more)
    where
      by : (b : Bool) → eq_by_cmp number_cmp n e.0 ≡ b → number e.1 ≡ e.0 → cond b (Some e.1) (find number_cmp n es) ≡ Some x → (find number_cmp n es ≡ Some x → IsIn (those es) x × (number x ≡ n)) → IsIn (those (e ∷ es)) x × (number x ≡ n)
      by true at here g later = let one : e.1 ≡ x = cc in (inl one, ap number (sym one) ∙ here ∙ sym (same_number n e.0 at))
      by false at here g later = let w = later g in (inr w.0, w.1)

  in_is_found : (es : List ((ℕ × ℕ) × X)) (n : ℕ × ℕ) (x : X) → T (is_sorted number_cmp es) → AreOwn es → IsIn (those es) x → number x ≡ n → find number_cmp n es ≡ Some x
  in_is_found [] n x sorted own h is = absurd h
  in_is_found (e ∷ es) n x sorted own h is =
      let here : number e.1 ≡ e.0 = cc in
      let more : AreOwn es = cc in
      let below = first (below_all number_cmp e.0 es) (is_sorted number_cmp es) sorted in
      let rest = second (below_all number_cmp e.0 es) (is_sorted number_cmp es) sorted in
      elim h [
        | inl one ↦ ap (λ b. cond b (Some e.1) (find number_cmp n es)) (at_itself n e.0 (sym is ∙ ap number (sym one) ∙ here)) ∙ ap Some one
        | inr later ↦ ap (λ b. cond b (Some e.1) (find number_cmp n es)) (off (eq_by_cmp number_cmp n e.0) refl (below_member e.0 es x below more later)) ∙ in_is_found es n x rest more later is
      ]
    where
      off : (b : Bool) → eq_by_cmp number_cmp n e.0 ≡ b → T (is_lt (number_cmp e.0 (number x))) → b ≡ false
      off true at less = absurd (subst T ((λ i. is_lt (number_cmp (sym (same_number n e.0 at) i) (is i))) ∙ not_below_itself n) less)
      off false at less = refl

  -- so a set whose values are those of an account in a list is just what the list has of it
  pub set_of_values : (account : X → ℕ) (most : ℕ) (list : List X) (a : ℕ) (set : ByNumber X) → IsNumbered number most set → ((x : X) → IsIn (values set) x ↔ (IsIn list x × (account x ≡ a))) → IsSetOf account number list a set
  set_of_values account most list a set is alike n x = (
    λ e. let w = found_is_in (entries set) n x is.own_numbers (sym (get-entries set n) ∙ e) in let there = (alike x).0 w.0 in (there.0, there.1, w.1),
    λ w. get-entries set n ∙ in_is_found (entries set) n x (entries_sorted set) is.own_numbers ((alike x).1 (w.0, w.1)) w.2,
  )

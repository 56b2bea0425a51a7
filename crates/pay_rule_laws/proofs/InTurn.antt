-- What additions to a set come to, in whatever order.
use Rattle.std.proofs.Common.{◌≡◌, ◌⊎◌, inl, inr, ℕ, ◌+◌, ◌<◌, ◌≤◌, Bool, true, false, cond, List, [], ◌∷◌, Option, Some, None, Result, Ok, Err, IsOk, is_some, refl, sym, ap, ◌∙◌, subst, arith}
use Rattle.std.specs.Ordering.{eq_by_cmp}
use Rattle.std.specs.FinMap.{get, len, insert, same_map, get-insert, len-insert}
use Rattle.std.proofs.lemmas.Cmp.{eq_by_cmp_equiv}
use Rattle.std.proofs.lemmas.Option.{none-some}
use Rattle.pay_rules.specs.declared.addition.Addition.{Addition}
use Rattle.pay_rules.specs.declared.addition.Addition.TheVariants.{Added, Repeat}
use Rattle.pay_rules.specs.declared.addition.AdditionFault.{AdditionFault}
use Rattle.pay_rules.specs.Numbers.{ByNumber, number_cmp, judged, set_after}
use Rattle.pay_rules.specs.InTurn.{after, after_all, AreTaken, IsIn}
use Rattle.pay_rules.specs.Judgement.{added_iff, repeat_iff}
use Rattle.pay_rules.specs.NumberOrder.{number_total, exact_numbers, same_number}
use Rattle.pay_rule_laws.proofs.OneMore.{IsPart, as_many, more}

module _ {X : Type 0} (same : X → X → Bool) (same_is_one : (a b : X) → same a b ≡ true → a ≡ b) (one_is_same : (a : X) → same a a ≡ true) (number : X → ℕ × ℕ) (most : ℕ) where
  abbrev Has : ByNumber X → X → Type 0
  Has set x = get set (number x) ≡ Some x

  itself : (k : ℕ × ℕ) → eq_by_cmp number_cmp k k ≡ true
  itself = (eq_by_cmp_equiv number_total).refl

  -- ---- one more

  with_it : (set : ByNumber X) (x : X) → Has (insert set (number x) x) x
  with_it set x = get-insert number_total set (number x) x (number x) ∙ ap (λ b. cond b (Some x) (get set (number x))) (itself (number x))

  not_lost : (b : Bool) (o : Option X) (y x : X) → (b ≡ true → o ≡ None) → o ≡ Some y → cond b (Some x) o ≡ Some y
  not_lost true o y x h e = absurd (none-some y (sym (h refl) ∙ e))
  not_lost false o y x h e = e

  part_of_more : (set : ByNumber X) (x : X) → get set (number x) ≡ None → IsPart set (insert set (number x) x)
  part_of_more set x none n y e =
      get-insert number_total set (number x) x n ∙ not_lost (eq_by_cmp number_cmp n (number x)) (get set n) y x (λ is. ap (get set) (same_number n (number x) is) ∙ none) e

  where_from : (b : Bool) (o : Option X) (n : ℕ × ℕ) (x y : X) → (b ≡ true → n ≡ number x) → cond b (Some x) o ≡ Some y → (o ≡ Some y) ⊎ ((x ≡ y) × (number x ≡ n))
  where_from true o n x y h e = let one : x ≡ y = cc in inr (one, sym (h refl))
  where_from false o n x y h e = inl e

  from_more : (set : ByNumber X) (x : X) (n : ℕ × ℕ) (y : X) → get (insert set (number x) x) n ≡ Some y → (get set n ≡ Some y) ⊎ ((x ≡ y) × (number x ≡ n))
  from_more set x n y e = where_from (eq_by_cmp number_cmp n (number x)) (get set n) n x y (λ is. same_number n (number x) is) (sym (get-insert number_total set (number x) x n) ∙ e)

  one_longer : (set : ByNumber X) (x : X) → get set (number x) ≡ None → len (insert set (number x) x) ≡ len set + 1
  one_longer set x none = len-insert number_total set (number x) x ∙ ap (λ (o : Option X). cond (is_some o) (len set) (len set + 1)) none

  abbrev IsBounded : ByNumber X → ByNumber X → Type 0
  IsBounded start end = (len end ≤ most) ⊎ IsPart end start

  -- what one that is taken leaves
  record Took (set : ByNumber X) (x : X) (end : ByNumber X) : Type 0 where
    pub part : IsPart set end
    pub has : Has end x
    pub from : (n : ℕ × ℕ) (y : X) → get end n ≡ Some y → (get set n ≡ Some y) ⊎ ((x ≡ y) × (number x ≡ n))
    pub bounded : IsBounded set end

  took : (set : ByNumber X) (x : X) (r : Result Addition AdditionFault) → judged same number most set x ≡ r → IsOk r → Took set x (set_after number r set x)
  took set x (Ok Added) e is =
      let room = (added_iff same same_is_one one_is_same most x (get set (number x)) (len set)).0 e in
      record {
        part = part_of_more set x room.0;
        has = with_it set x;
        from = from_more set x;
        bounded = inl (omega (arith, one_longer set x room.0, room.1));
      }
  took set x (Ok Repeat) e is = record {
    part = λ n y h. h;
    has = (repeat_iff same same_is_one one_is_same most x (get set (number x)) (len set)).0 e;
    from = λ n y h. inl h;
    bounded = inr (λ n y h. h);
  }
  took set x (Err fault) e is = absurd (cc)

  -- ---- all of a list

  record TookAll (set : ByNumber X) (list : List X) (end : ByNumber X) : Type 0 where
    pub part : IsPart set end
    pub has : (x : X) → IsIn list x → Has end x
    pub from : (n : ℕ × ℕ) (y : X) → get end n ≡ Some y → (get set n ≡ Some y) ⊎ (IsIn list y × (number y ≡ n))
    pub bounded : IsBounded set end

  took_all : (set : ByNumber X) (list : List X) → AreTaken same number most set list → TookAll set list (after_all same number most set list)
  took_all set [] are = record { part = λ n y h. h; has = λ x h. absurd h; from = λ n y h. inl h; bounded = inr (λ n y h. h) }
  took_all set (x ∷ list) are =
      let next = after same number most set x in
      let end = after_all same number most next list in
      let one = took set x (judged same number most set x) refl are.0 in
      let rest = took_all next list are.1 in
      record {
        part = λ n y h. rest.part n y (one.part n y h);
        has = λ y h. elim h [
          | inl is ↦ rest.part (number y) y (subst (λ z. Has next z) is one.has)
          | inr later ↦ rest.has y later
        ];
        from = λ n y h. elim (rest.from n y h) [
          | inl was ↦ elim (one.from n y was) [
            | inl before ↦ inl before
            | inr is ↦ inr (inl is.0, ap number (sym is.0) ∙ is.1)
          ]
          | inr later ↦ inr (inr later.0, later.1)
        ];
        bounded = elim rest.bounded [
          | inl within ↦ inl within
          | inr same_then ↦ elim one.bounded [
            | inl within ↦ inl (omega (arith, within, as_many end next same_then))
            | inr same_first ↦ inr (λ n y h. same_first n y (same_then n y h))
          ]
        ];
      }

  -- ---- another list of the same ones

  either_there : (o : Option X) → (o ≡ None) ⊎ ((y : X) × (o ≡ Some y))
  either_there None = inl refl
  either_there (Some y) = inr (y, refl)

  taken_again : (start end set : ByNumber X) (x : X) → IsPart start set → IsPart set end → Has end x → IsBounded start end → IsOk (judged same number most set x) × IsPart (after same number most set x) end
  taken_again start end set x from within has bounded =
      elim (either_there (get set (number x))) [
        | inl none ↦
            let room : len set < most = elim bounded [
              | inl few ↦ omega (arith, few, more set end (number x) x within none has)
              | inr nothing_new ↦ absurd (none-some x (sym none ∙ from (number x) x (nothing_new (number x) x has)))
            ] in
            let added : judged same number most set x ≡ Ok Added = (added_iff same same_is_one one_is_same most x (get set (number x)) (len set)).1 (none, room) in (
              subst IsOk (sym added) refl,
              subst (λ r. IsPart (set_after number r set x) end) (sym added) (λ n y h. elim (from_more set x n y h) [
                | inl before ↦ within n y before
                | inr is ↦ subst (λ k. get end k ≡ Some y) is.1 (has ∙ ap Some is.0)
              ]),
            )
        | inr there ↦
            let one : Some there.0 ≡ Some x = sym (within (number x) there.0 there.1) ∙ has in
            let repeat : judged same number most set x ≡ Ok Repeat = (repeat_iff same same_is_one one_is_same most x (get set (number x)) (len set)).1 (there.1 ∙ one) in
            (subst IsOk (sym repeat) refl, subst (λ r. IsPart (set_after number r set x) end) (sym repeat) within)
      ]

  all_again : (start end set : ByNumber X) (list : List X) → IsPart start set → IsPart set end → ((x : X) → IsIn list x → Has end x) → IsBounded start end
      → AreTaken same number most set list × IsPart (after_all same number most set list) end
  all_again start end set [] from within has bounded = (tt, within)
  all_again start end set (x ∷ list) from within has bounded =
      let one = taken_again start end set x from within (has x (inl refl)) bounded in
      let grown = took set x (judged same number most set x) refl one.0 in
      let rest = all_again start end (after same number most set x) list (λ n y h. grown.part n y (from n y h)) one.1 (λ y h. has y (inr h)) bounded in
      ((one.0, rest.0), rest.1)

  same_at : (o p : Option X) → ((y : X) → o ≡ Some y → p ≡ Some y) → ((y : X) → p ≡ Some y → o ≡ Some y) → o ≡ p
  same_at None None h k = refl
  same_at None (Some y) h k = k y refl
  same_at (Some y) p h k = sym (h y refl)

  pub forgets : (set : ByNumber X) (list other : List X) → ((x : X) → IsIn list x → IsIn other x) → ((x : X) → IsIn other x → IsIn list x) → AreTaken same number most set list
      → AreTaken same number most set other × (after_all same number most set other ≡ after_all same number most set list)
  forgets set list other there back are =
      let end = after_all same number most set list in
      let first = took_all set list are in
      let again = all_again set end set other (λ n y h. h) first.part (λ x h. first.has x (back x h)) first.bounded in
      let second = took_all set other again.0 in (
        again.0,
        same_map number_total exact_numbers _ _ (λ q. same_at _ _ (λ y h. again.1 q y h) (λ y h. elim (first.from q y h) [
          | inl was ↦ second.part q y was
          | inr came ↦ subst (λ k. get (after_all same number most set other) k ≡ Some y) came.1 (second.has y (there y came.0))
        ])),
      )

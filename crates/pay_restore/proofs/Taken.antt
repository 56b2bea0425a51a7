-- Accounts after archived taps, or corrections, were taken one after another.
use Rattle.std.proofs.Common.{◌≡◌, inl, inr, ◌⊎◌, ◌↔◌, ℕ, suc, ◌+◌, ◌<◌, ◌≤◌, Bool, true, false, cond, List, [], ◌∷◌, length, Some, unwrap_or, is_some, eqb-true, eq-eqb, refl, sym, ap, ◌∙◌, subst, arith}
use Rattle.std.specs.Prelude.{◌==◌, filter}
use Rattle.std.specs.Cmp.{nat_cmp_total, eq_by_cmp_equiv}
use Rattle.std.specs.FinMap.{get, len, insert, contains_key, get-insert}
use Rattle.std.specs.Ordering.{nat_cmp, eq_by_cmp}
use Rattle.pay_rules.specs.Numbers.{ByNumber}
use Rattle.pay_rules.specs.InTurn.{IsIn}
use Rattle.pay_rules.specs.Accepted.{Accepted, nothing}
use Rattle.pay_rules.specs.State.{State, accepted_of}
use Rattle.pay_restore.specs.Archives.{HasOf}
use Rattle.pay_restore.proofs.AtNumbers.{one_number}
use Rattle.pay_restore.proofs.Sets.{Took}

at_itself : (a k : ℕ) → a ≡ k → eq_by_cmp nat_cmp a k ≡ true
at_itself a k e = subst (λ n. eq_by_cmp nat_cmp n k ≡ true) (sym e) ((eq_by_cmp_equiv nat_cmp_total).refl k)

-- ---- an account with something else accepted

module _ (state : State) (k : ℕ) (after : Accepted) where
  pub now_at : (a : ℕ) (b : Bool) → eq_by_cmp nat_cmp a k ≡ b → accepted_of (insert state k after) a ≡ cond b after (accepted_of state a)
  now_at a b e = ap (λ o. unwrap_or o nothing) (get-insert nat_cmp_total state k after a ∙ ap (λ c. cond c (Some after) (get state a)) e) ∙ either b
    where
      either : (c : Bool) → unwrap_or (cond c (Some after) (get state a)) nothing ≡ cond c after (accepted_of state a)
      either true = refl
      either false = refl

  pub there_at : (a : ℕ) (b : Bool) → eq_by_cmp nat_cmp a k ≡ b → contains_key (insert state k after) a ≡ cond b true (contains_key state a)
  there_at a b e = ap is_some (get-insert nat_cmp_total state k after a ∙ ap (λ c. cond c (Some after) (get state a)) e) ∙ either b
    where
      either : (c : Bool) → is_some (cond c (Some after) (get state a)) ≡ cond c true (contains_key state a)
      either true = refl
      either false = refl

-- ---- all that was taken

module _ {X O : Type 0} (account : X → ℕ) (number : X → ℕ × ℕ) (set_of : Accepted → ByNumber X) (other_of : Accepted → O) where
  abbrev pub HasAt : List X → ℕ → ℕ × ℕ → X → Type 0
  HasAt list a n y = IsIn list y × (account y ≡ a) × (number y ≡ n)

  -- The accounts that were there, and those of the list; each has in its set what it had, and its own of the list. The other set stays.
  pub record TookAll (state next : State) (list : List X) : Type 0 where
    pub there : (a : ℕ) → (contains_key next a ≡ true) ↔ ((contains_key state a ≡ true) ⊎ HasOf account list a)
    pub at : (a : ℕ) (n : ℕ × ℕ) (y : X) → (get (set_of (accepted_of next a)) n ≡ Some y) ↔ ((get (set_of (accepted_of state a)) n ≡ Some y) ⊎ HasAt list a n y)
    pub others : (a : ℕ) → other_of (accepted_of next a) ≡ other_of (accepted_of state a)

  pub took_none : (state : State) → TookAll state state []
  took_none state = record {
    there = λ a. (λ h. inl h, λ h. elim h [ inl e ↦ e | inr w ↦ absurd w.1 ]);
    at = λ a n y. (λ h. inl h, λ h. elim h [ inl e ↦ e | inr w ↦ absurd w.0 ]);
    others = λ a. refl;
  }

  of_one : (x y : X) (list : List X) → IsIn (x ∷ []) y → IsIn (x ∷ list) y
  of_one x y list h = elim h [ inl e ↦ inl e | inr z ↦ absurd z ]

  pub took_then : (state mid next : State) (x : X) (list : List X) → TookAll state mid (x ∷ []) → TookAll mid next list → TookAll state next (x ∷ list)
  took_then state mid next x list one rest = record {
    there = λ a. (
      λ h. elim ((rest.there a).0 h) [
        | inl e ↦ elim ((one.there a).0 e) [ inl f ↦ inl f | inr w ↦ inr (w.0, of_one x w.0 list w.1, w.2) ]
        | inr w ↦ inr (w.0, inr w.1, w.2)
      ],
      λ h. elim h [
        | inl e ↦ (rest.there a).1 (inl ((one.there a).1 (inl e)))
        | inr w ↦ elim (w.1) [ inl e ↦ (rest.there a).1 (inl ((one.there a).1 (inr (w.0, inl e, w.2)))) | inr later ↦ (rest.there a).1 (inr (w.0, later, w.2)) ]
      ],
    );
    at = λ a n y. (
      λ h. elim ((rest.at a n y).0 h) [
        | inl e ↦ elim ((one.at a n y).0 e) [ inl f ↦ inl f | inr w ↦ inr (of_one x y list w.0, w.1, w.2) ]
        | inr w ↦ inr (inr w.0, w.1, w.2)
      ],
      λ h. elim h [
        | inl e ↦ (rest.at a n y).1 (inl ((one.at a n y).1 (inl e)))
        | inr w ↦ elim (w.0) [ inl e ↦ (rest.at a n y).1 (inl ((one.at a n y).1 (inr (inl e, w.1, w.2)))) | inr later ↦ (rest.at a n y).1 (inr (later, w.1, w.2)) ]
      ],
    );
    others = λ a. rest.others a ∙ one.others a;
  }

  -- ---- one

  module _ (state : State) (after : Accepted) (x : X) (took : Took number (set_of (accepted_of state (account x))) (set_of after) x) where
    abbrev next : State
    next = insert state (account x) after

    there_now : (a : ℕ) (b : Bool) → eq_by_cmp nat_cmp a (account x) ≡ b → (contains_key next a ≡ true) ↔ ((contains_key state a ≡ true) ⊎ HasOf account (x ∷ []) a)
    there_now a true here = (λ h. inr (x, inl refl, sym (one_number a (account x) here)), λ h. there_at state (account x) after a true here)
    there_now a false off = (
      λ h. inl (sym (there_at state (account x) after a false off) ∙ h),
      λ h. there_at state (account x) after a false off ∙ elim h [ inl e ↦ e | inr w ↦ absurd (not_here w.1 w.2) ],
    )
      where
        not_here : {y : X} → IsIn (x ∷ []) y → account y ≡ a → ⊥
        not_here h own = elim h [
          | inl e ↦ let here = at_itself a (account x) (sym own ∙ ap account (sym e)) in absurd (cc)
          | inr z ↦ z
        ]

    at_now : (a : ℕ) (n : ℕ × ℕ) (y : X) (b : Bool) → eq_by_cmp nat_cmp a (account x) ≡ b → (get (set_of (accepted_of next a)) n ≡ Some y) ↔ ((get (set_of (accepted_of state a)) n ≡ Some y) ⊎ HasAt (x ∷ []) a n y)
    at_now a n y true here =
        let own : a ≡ account x = one_number a (account x) here in
        let was : get (set_of (accepted_of state a)) n ≡ get (set_of (accepted_of state (account x))) n = ap (λ k. get (set_of (accepted_of state k)) n) own in
        let is : get (set_of (accepted_of next a)) n ≡ get (set_of after) n = ap (λ (z : Accepted). get (set_of z) n) (now_at state (account x) after a true here) in (
          λ h. elim ((took.at n y).0 (sym is ∙ h)) [ inl e ↦ inl (was ∙ e) | inr w ↦ inr (inl w.0, ap account (sym w.0) ∙ sym own, ap number (sym w.0) ∙ w.1) ],
          λ h. is ∙ (took.at n y).1 (elim h [ inl e ↦ inl (sym was ∙ e) | inr w ↦ elim (w.0) [ inl one ↦ inr (one, ap number one ∙ w.2) | inr z ↦ absurd z ] ]),
        )
    at_now a n y false off =
        let is : get (set_of (accepted_of next a)) n ≡ get (set_of (accepted_of state a)) n = ap (λ (z : Accepted). get (set_of z) n) (now_at state (account x) after a false off) in (
          λ h. inl (sym is ∙ h),
          λ h. is ∙ elim h [ inl e ↦ e | inr w ↦ absurd (not_here w.0 w.1) ],
        )
      where
        not_here : IsIn (x ∷ []) y → account y ≡ a → ⊥
        not_here h own = elim h [
          | inl e ↦ let here = at_itself a (account x) (sym own ∙ ap account (sym e)) in absurd (cc)
          | inr z ↦ z
        ]

    others_now : other_of after ≡ other_of (accepted_of state (account x)) → (a : ℕ) (b : Bool) → eq_by_cmp nat_cmp a (account x) ≡ b → other_of (accepted_of next a) ≡ other_of (accepted_of state a)
    others_now same a true here = ap other_of (now_at state (account x) after a true here) ∙ same ∙ ap (λ k. other_of (accepted_of state k)) (sym (one_number a (account x) here))
    others_now same a false off = ap other_of (now_at state (account x) after a false off)

    pub took_one : other_of after ≡ other_of (accepted_of state (account x)) → TookAll state next (x ∷ [])
    took_one same = record {
      there = λ a. there_now a (eq_by_cmp nat_cmp a (account x)) refl;
      at = λ a n y. at_now a n y (eq_by_cmp nat_cmp a (account x)) refl;
      others = λ a. others_now same a (eq_by_cmp nat_cmp a (account x)) refl;
    }

    -- ---- room for the others

    no_longer : (a : ℕ) (c : Bool) → (account x == a) ≡ c → len (set_of (accepted_of next a)) ≤ len (set_of (accepted_of state a)) + cond c 1 0
    no_longer a true here =
        let own : a ≡ account x = sym (eqb-true (account x) a here) in
        let was : len (set_of (accepted_of state a)) ≡ len (set_of (accepted_of state (account x))) = ap (λ k. len (set_of (accepted_of state k))) own in
        let is : len (set_of (accepted_of next a)) ≡ len (set_of after) = ap (λ (z : Accepted). len (set_of z)) (now_at state (account x) after a true (at_itself a (account x) own)) in
        omega (arith, was, is, took.size)
    no_longer a false off = by (eq_by_cmp nat_cmp a (account x)) refl
      where
        by : (b : Bool) → eq_by_cmp nat_cmp a (account x) ≡ b → len (set_of (accepted_of next a)) ≤ len (set_of (accepted_of state a)) + 0
        by true here = let same = eq-eqb (account x) a (sym (one_number a (account x) here)) in absurd (cc)
        by false apart =
            let is : len (set_of (accepted_of next a)) ≡ len (set_of (accepted_of state a)) = ap (λ (z : Accepted). len (set_of z)) (now_at state (account x) after a false apart) in
            omega (arith, is)

  -- those of a list are still taken
  pub record Fits (most : ℕ) (state : State) (list : List X) : Type 0 where
    pub own_numbers : (y : X) → IsIn list y → (z : X) → get (set_of (accepted_of state (account y))) (number y) ≡ Some z → z ≡ y
    pub few : (a : ℕ) → len (set_of (accepted_of state a)) + length (filter (λ y. account y == a) list) ≤ most

  length_first : (c : Bool) (x : X) (list : List X) → length (cond c (x ∷ list) list) ≡ cond c 1 0 + length list
  length_first true x list = omega arith
  length_first false x list = omega arith

  pub fits_on : (most : ℕ) (state : State) (after : Accepted) (x : X) (list : List X) → ((y z : X) → IsIn (x ∷ list) y → IsIn (x ∷ list) z → account y ≡ account z → number y ≡ number z → y ≡ z)
      → Took number (set_of (accepted_of state (account x))) (set_of after) x → other_of after ≡ other_of (accepted_of state (account x)) → Fits most state (x ∷ list) → Fits most (insert state (account x) after) list
  fits_on most state after x list apart took same fits = record {
    own_numbers = λ y h z e. elim (((took_one state after x took same).at (account y) (number y) z).0 e) [
      | inl before ↦ fits.own_numbers y (inr h) z before
      | inr w ↦ elim (w.0) [ inl one ↦ sym one ∙ apart x y (inl refl) (inr h) (ap account one ∙ w.1) (ap number one ∙ w.2) | inr none ↦ absurd none ]
    ];
    few = λ a.
        let longer = no_longer state after x took a (account x == a) refl in
        let first = length_first (account x == a) x (filter (λ y. account y == a) list) in
        let before = fits.few a in
        omega (arith, longer, first, before);
  }

  pub room_for : (most : ℕ) (state : State) (x : X) (list : List X) → Fits most state (x ∷ list) → len (set_of (accepted_of state (account x))) < most
  room_for most state x list fits =
      let is : (account x == account x) ≡ true = eq-eqb (account x) (account x) refl in
      let first : length (filter (λ y. account y == account x) (x ∷ list)) ≡ suc (length (filter (λ y. account y == account x) list)) = ap (λ c. length (cond c (x ∷ filter (λ y. account y == account x) list) (filter (λ y. account y == account x) list))) is in
      omega (arith, first, fits.few (account x))

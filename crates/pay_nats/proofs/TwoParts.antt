-- A text in two parts, round the first of a byte.
use Rattle.std.proofs.Common.{◌≡◌, ◌∙◌, ℕ, Bool, true, false, cond, ◌||◌, List, [], ◌∷◌, ◌++◌, length, get_or, Option, Some, None, refl, subst, take_at}
use Rattle.std.specs.List.{after_first, before_first, list_any, position_or_len}
use Rattle.std.proofs.lemmas.Bool.{eq-eqb, eqb-true}
use Rattle.std.proofs.lemmas.List.Sums.{split_at_first, passes_at_first}
use Rattle.std.proofs.lemmas.Option.{some_pair_parts}
use Rattle.pay_nats.specs.Parts.{is_byte, parted}
use Rattle.pay_nats.proofs.Firsts.{without_front, first_at, first_within, none_before}

module _ (c : ℕ) where
  own : is_byte c c ≡ true
  own = eq-eqb c c refl

  -- a text with the byte is not without
  some_byte : (a b : List ℕ) → list_any (is_byte c) (a ++ c ∷ b) ≡ true
  some_byte [] b = rw own refl
  some_byte (x ∷ a) b = by (is_byte c x) (some_byte a b)
    where
      by : (t : Bool) → list_any (is_byte c) (a ++ c ∷ b) ≡ true → (t || list_any (is_byte c) (a ++ c ∷ b)) ≡ true
      by true e = refl
      by false e = e

  -- the parts are found again
  pub parted_again : (a b : List ℕ) → list_any (is_byte c) a ≡ false → parted (is_byte c) (a ++ c ∷ b) ≡ Some (a, b)
  unfolding parted
  parted_again a b none =
      let at : position_or_len (is_byte c) (a ++ c ∷ b) ≡ length a = first_at (is_byte c) a c b none own in
      rw (some_byte a b, at, take_at a (c ∷ b) (length a) refl, without_front a (c ∷ b) 1) refl

  pub parted_none : (a : List ℕ) → list_any (is_byte c) a ≡ false → parted (is_byte c) a ≡ None
  unfolding parted
  parted_none a none = rw none refl

  -- and are those of the text
  pub parted_is : (text a b : List ℕ) → parted (is_byte c) text ≡ Some (a, b) → (text ≡ a ++ c ∷ b) × (list_any (is_byte c) a ≡ false)
  unfolding parted
  parted_is text a b e = by (list_any (is_byte c) text) refl e
    where
      by : (t : Bool) → list_any (is_byte c) text ≡ t → cond {A = Option (List ℕ × List ℕ)} t (Some (before_first (is_byte c) text, after_first (is_byte c) text)) None ≡ Some (a, b) → (text ≡ a ++ c ∷ b) × (list_any (is_byte c) a ≡ false)
      by true is e =
          let within = first_within (is_byte c) text is in
          let byte : get_or text (position_or_len (is_byte c) text) 0 ≡ c = eqb-true _ _ (passes_at_first (is_byte c) text 0 within) in
          let parts = some_pair_parts (before_first (is_byte c) text) a (after_first (is_byte c) text) b e in
          let whole = split_at_first (is_byte c) text 0 within in
          (whole ∙ cc (byte, parts.0, parts.1), subst (λ (x : List ℕ). list_any (is_byte c) x ≡ false) parts.0 (none_before (is_byte c) text))
      by false is e = absurd cc

-- A text in two parts, by the place of the first byte of a kind.
use Rattle.std.proofs.Common.{◌≡◌, ℕ, ◌+◌, ◌-◌, ◌<◌, Bool, Bor, true, false, cond, not, ◌||◌, List, [], ◌∷◌, length, take, drop, Option, Some, None, option_map, refl, ap, arith, nat_lt, MatchOption}
use Rattle.std.proofs.lemmas.Bool.{ltb-true, ltb-false}
use Rattle.std.proofs.lemmas.Grind.{common_steps}
use Rattle.std.proofs.lemmas.List.Folds.{list_any_at}
use Rattle.std.proofs.lemmas.List.Sums.{passes_at_first, prefix_len-le-length}
use Rattle.std.specs.List.{after_first, before_first, list_any, position_or_len}
use Rattle.std.specs.Prelude.{position}
use Rattle.pay_nats.specs.Parts.{parted}

module _ (test : ℕ → Bool) where
  some_passes : (text : List ℕ) → position_or_len test text < length text → list_any test text ≡ true
  some_passes text within = list_any_at test text (position_or_len test text) 0 within (passes_at_first test text 0 within)

  none_passes : (text : List ℕ) → position_or_len test text ≡ length text → list_any test text ≡ false
  none_passes [] e = refl
  none_passes (b ∷ text) e = by (none_passes text) (test b) e
    where
      by : (position_or_len test text ≡ length text → list_any test text ≡ false) → (t : Bool) → cond (not t) (1 + position_or_len test text) 0 ≡ length (b ∷ text) → (t || list_any test text) ≡ false
      by rest true e = absurd (omega arith)
      by rest false e = rest (omega arith)

  -- by the two parts, as a text is split
  pub by_parts : (text : List ℕ) (r : Option (Bor (List ℕ) × Bor (List ℕ)))
      → MatchOption r (position_or_len test text ≡ length text) (λ x. (x.0.now ≡ before_first test text) × (x.1.now ≡ after_first test text) × (position_or_len test text < length text))
      → option_map (λ (it : Bor (List ℕ) × Bor (List ℕ)). (it.0.now, it.1.now)) r ≡ parted test text
  unfolding parted
  by_parts text None e = rw (none_passes text e) refl
  by_parts text (Some x) h = rw (some_passes text h.2, h.0, h.1) refl

  placed : (text : List ℕ) (place : ℕ) → Some place ≡ position test text → (position_or_len test text < length text) × (place ≡ position_or_len test text)
  placed text place is = by (nat_lt (position_or_len test text) (length text)) refl is
    where
      by : (t : Bool) → nat_lt (position_or_len test text) (length text) ≡ t → Some place ≡ cond t (Some (position_or_len test text)) None → (position_or_len test text < length text) × (place ≡ position_or_len test text)
      by true within is = (ltb-true _ _ within, cc)
      by false within is = absurd cc

  -- by the place of the first, as bytes are sliced
  pub parted_at : (text : List ℕ) (place : ℕ) → Some place ≡ position test text → Some (take place text, take (length text - (place + 1)) (drop (place + 1) text)) ≡ parted test text
  unfolding parted
  parted_at text place is =
      let it = placed text place is in
      rw (some_passes text it.0, it.1) (ap (λ rest. Some (before_first test text, rest)) (grind (arith, common_steps)))

  not_placed : (text : List ℕ) → None ≡ position test text → position_or_len test text ≡ length text
  not_placed text is = by (nat_lt (position_or_len test text) (length text)) refl is
    where
      by : (t : Bool) → nat_lt (position_or_len test text) (length text) ≡ t → None ≡ cond t (Some (position_or_len test text)) None → position_or_len test text ≡ length text
      by true within is = absurd cc
      by false within is = omega (arith, ltb-false (position_or_len test text) (length text) within, prefix_len-le-length (λ b. not (test b)) text)

  pub not_parted : (text : List ℕ) → None ≡ position test text → None ≡ parted test text
  unfolding parted
  not_parted text is = rw (none_passes text (not_placed text is)) refl

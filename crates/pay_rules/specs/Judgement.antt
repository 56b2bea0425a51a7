-- What each judgement of one more means.
use Rattle.std.proofs.Common.{◌≡◌, ◌≢◌, ◌↔◌, ℕ, ◌<◌, ◌≤◌, Bool, true, false, nat_le, Option, Some, None, Ok, Err, if◌then◌else◌, leb-true, leb-false, le-leb, refl, sym, ap, ◌∙◌, subst}
use Rattle.std.proofs.lemmas.Bool.{lt-leb}
use Rattle.pay_rules.specs.declared.addition.Addition.TheVariants.{Added, Repeat}
use Rattle.pay_rules.specs.declared.addition.AdditionFault.TheVariants.{Conflict, Full, Memory}
use Rattle.pay_rules.specs.Numbers.{judgement}

there_not_added : (b : Bool) → (if b then Ok Repeat else Err Conflict) ≡ Ok Added → ⊥
there_not_added true e = cc
there_not_added false e = cc

there_not_full : (b : Bool) → (if b then Ok Repeat else Err Conflict) ≡ Err Full → ⊥
there_not_full true e = cc
there_not_full false e = cc

there_not_memory : (b : Bool) → (if b then Ok Repeat else Err Conflict) ≡ Err Memory → ⊥
there_not_memory true e = cc
there_not_memory false e = cc

new_not_repeat : (b : Bool) → (if b then Err Full else Ok Added) ≡ Ok Repeat → ⊥
new_not_repeat true e = cc
new_not_repeat false e = cc

new_not_conflict : (b : Bool) → (if b then Err Full else Ok Added) ≡ Err Conflict → ⊥
new_not_conflict true e = cc
new_not_conflict false e = cc

new_not_memory : (b : Bool) → (if b then Err Full else Ok Added) ≡ Err Memory → ⊥
new_not_memory true e = cc
new_not_memory false e = cc

room_left : (most count : ℕ) (b : Bool) → nat_le most count ≡ b → (if b then Err Full else Ok Added) ≡ Ok Added → count < most
room_left most count true p e = absurd (cc)
room_left most count false p e = leb-false most count p

no_room : (most count : ℕ) (b : Bool) → nat_le most count ≡ b → (if b then Err Full else Ok Added) ≡ Err Full → most ≤ count
no_room most count true p e = leb-true most count p
no_room most count false p e = absurd (cc)

module _ {X : Type 0} (same : X → X → Bool) (same_is_one : (a b : X) → same a b ≡ true → a ≡ b) (one_is_same : (a : X) → same a a ≡ true) (most : ℕ) where
  same_from_one : (a b : X) → a ≡ b → same a b ≡ true
  same_from_one a b e = subst (λ t. same a t ≡ true) e (one_is_same a)

  repeat_found : (x y : X) (b : Bool) → same y x ≡ b → (if b then Ok Repeat else Err Conflict) ≡ Ok Repeat → Some y ≡ Some x
  repeat_found x y true s e = ap Some (same_is_one y x s)
  repeat_found x y false s e = absurd (cc)

  conflict_found : (x y : X) (b : Bool) → same y x ≡ b → (if b then Ok Repeat else Err Conflict) ≡ Err Conflict → y ≢ x
  conflict_found x y true s e = absurd (cc)
  conflict_found x y false s e = λ is. let one : same y x ≡ true = same_from_one y x is in cc

  conflict_given : (x y : X) (b : Bool) → same y x ≡ b → y ≢ x → (if b then Ok Repeat else Err Conflict) ≡ Err Conflict
  conflict_given x y true s other = absurd (other (same_is_one y x s))
  conflict_given x y false s other = refl

  -- a repeat is what stands there
  pub repeat_iff : (x : X) (there : Option X) (count : ℕ) → (judgement same most x there count ≡ Ok Repeat) ↔ (there ≡ Some x)
  repeat_iff x (Some y) count = (repeat_found x y (same y x) refl, λ e. let one : y ≡ x = cc in ap (λ b. if b then Ok Repeat else Err Conflict) (same_from_one y x one))
  repeat_iff x None count = (λ e. absurd (new_not_repeat (nat_le most count) e), λ e. absurd (cc))

  -- a conflict has other content
  pub conflict_iff : (x : X) (there : Option X) (count : ℕ) → (judgement same most x there count ≡ Err Conflict) ↔ ((other : X) × (there ≡ Some other) × (other ≢ x))
  conflict_iff x (Some y) count = (
    λ e. (y, refl, conflict_found x y (same y x) refl e),
    λ h. let one : y ≡ h.0 = cc (h.1) in conflict_given x y (same y x) refl (λ is. h.2 (sym one ∙ is)),
  )
  conflict_iff x None count = (λ e. absurd (new_not_conflict (nat_le most count) e), λ h. absurd (cc (h.1)))

  -- one is added where there is none and there is room
  pub added_iff : (x : X) (there : Option X) (count : ℕ) → (judgement same most x there count ≡ Ok Added) ↔ ((there ≡ None) × (count < most))
  added_iff x (Some y) count = (λ e. absurd (there_not_added (same y x) e), λ h. absurd (cc (h.0)))
  added_iff x None count = (λ e. (refl, room_left most count (nat_le most count) refl e), λ h. ap (λ b. if b then Err Full else Ok Added) (lt-leb most count h.1))

  -- a full set takes no further one
  pub full_iff : (x : X) (there : Option X) (count : ℕ) → (judgement same most x there count ≡ Err Full) ↔ ((there ≡ None) × (most ≤ count))
  full_iff x (Some y) count = (λ e. absurd (there_not_full (same y x) e), λ h. absurd (cc (h.0)))
  full_iff x None count = (λ e. (refl, no_room most count (nat_le most count) refl e), λ h. ap (λ b. if b then Err Full else Ok Added) (le-leb most count h.1))

  pub never_memory : (x : X) (there : Option X) (count : ℕ) → judgement same most x there count ≢ Err Memory
  never_memory x (Some y) count e = there_not_memory (same y x) e
  never_memory x None count e = new_not_memory (nat_le most count) e

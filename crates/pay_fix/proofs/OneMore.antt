-- Lists of which one has an element more than the other.
use Rattle.std.proofs.Common.{◌≡◌, Bool, true, false, cond, List, [], ◌∷◌, ◌++◌, map, filter, append_assoc, refl, sym, ap, ◌∙◌, subst}
use Rattle.std.specs.List.{flat_map, AllByRecursion}
use Rattle.pay_fix.proofs.AmongFixes.{filter_same, flat_same}

pub record HasOneMore {X : Type 0} (x : X) (fewer more : List X) : Type 0 where
  pub before : List X
  pub after : List X
  pub is_fewer : fewer ≡ before ++ after
  pub is_more : more ≡ before ++ x ∷ after

-- ---- after and before others, and mapped

module _ {X : Type 0} where
  pub more_after : (front : List X) (x : X) (fewer more : List X) → HasOneMore x fewer more → HasOneMore x (front ++ fewer) (front ++ more)
  more_after front x fewer more h = record {
    before = front ++ h.before;
    after = h.after;
    is_fewer = ap (λ l. front ++ l) h.is_fewer ∙ sym (append_assoc front h.before h.after);
    is_more = ap (λ l. front ++ l) h.is_more ∙ sym (append_assoc front h.before (x ∷ h.after));
  }

  pub more_before : (back : List X) (x : X) (fewer more : List X) → HasOneMore x fewer more → HasOneMore x (fewer ++ back) (more ++ back)
  more_before back x fewer more h = record {
    before = h.before;
    after = h.after ++ back;
    is_fewer = ap (λ l. l ++ back) h.is_fewer ∙ append_assoc h.before h.after back;
    is_more = ap (λ l. l ++ back) h.is_more ∙ append_assoc h.before (x ∷ h.after) back;
  }

  map_of_two : {Y : Type 0} (f : X → Y) (front back : List X) → map f (front ++ back) ≡ map f front ++ map f back
  map_of_two f [] back = refl
  map_of_two f (x ∷ front) back = ap (λ l. f x ∷ l) (map_of_two f front back)

  pub more_mapped : {Y : Type 0} (f : X → Y) (x : X) (fewer more : List X) → HasOneMore x fewer more → HasOneMore (f x) (map f fewer) (map f more)
  more_mapped f x fewer more h = record {
    before = map f h.before;
    after = map f h.after;
    is_fewer = ap (map f) h.is_fewer ∙ map_of_two f h.before h.after;
    is_more = ap (map f) h.is_more ∙ map_of_two f h.before (x ∷ h.after);
  }

-- ---- an element that passes one test and fails another, which agree on all others

module _ {X : Type 0} where
  more_kept : (b c : Bool) (y x : X) (fewer more : List X) → b ≡ c → HasOneMore x fewer more → HasOneMore x (cond b (y ∷ fewer) fewer) (cond c (y ∷ more) more)
  more_kept true true y x fewer more e h = more_after (y ∷ []) x fewer more h
  more_kept true false y x fewer more e h = absurd (cc)
  more_kept false true y x fewer more e h = absurd (cc)
  more_kept false false y x fewer more e h = h

  pub more_pass : (p q : X → Bool) (low : List X) (x : X) (high : List X) → AllByRecursion (λ y. p y ≡ q y) (low ++ high) → p x ≡ false → q x ≡ true → HasOneMore x (filter p (low ++ x ∷ high)) (filter q (low ++ x ∷ high))
  more_pass p q [] x high agree fails passes = record {
    before = [];
    after = filter p high;
    is_fewer = ap (λ b. cond b (x ∷ filter p high) (filter p high)) fails;
    is_more = ap (λ b. cond b (x ∷ filter q high) (filter q high)) passes ∙ ap (λ l. x ∷ l) (sym (filter_same p q high agree));
  }
  more_pass p q (y ∷ low) x high agree fails passes = more_kept (p y) (q y) y x _ _ agree.0 (more_pass p q low x high agree.1 fails passes)

  -- an element more, which passes
  pub filter_with : (p : X → Bool) (low : List X) (x : X) (high : List X) → p x ≡ true → HasOneMore x (filter p (low ++ high)) (filter p (low ++ x ∷ high))
  filter_with p [] x high passes = record {
    before = [];
    after = filter p high;
    is_fewer = refl;
    is_more = ap (λ b. cond b (x ∷ filter p high) (filter p high)) passes;
  }
  filter_with p (y ∷ low) x high passes = more_kept (p y) (p y) y x _ _ refl (filter_with p low x high passes)

  -- ---- an element that gives one thing, or none

  pub more_given : {Y : Type 0} (f g : X → List Y) (low : List X) (x : X) (high : List X) (y : Y) → AllByRecursion (λ z. f z ≡ g z) (low ++ high) → f x ≡ [] → g x ≡ y ∷ []
      → HasOneMore y (flat_map f (low ++ x ∷ high)) (flat_map g (low ++ x ∷ high))
  more_given f g [] x high y agree none one = record {
    before = [];
    after = flat_map f high;
    is_fewer = ap (λ l. l ++ flat_map f high) none;
    is_more = ap (λ l. l ++ flat_map g high) one ∙ ap (λ l. y ∷ l) (sym (flat_same f g high agree));
  }
  more_given f g (z ∷ low) x high y agree none one =
      subst (λ l. HasOneMore y (f z ++ flat_map f (low ++ x ∷ high)) (l ++ flat_map g (low ++ x ∷ high))) agree.0 (more_after (f z) y _ _ (more_given f g low x high y agree.1 none one))

  pub given_with : {Y : Type 0} (f : X → List Y) (low : List X) (x : X) (high : List X) (y : Y) → f x ≡ y ∷ [] → HasOneMore y (flat_map f (low ++ high)) (flat_map f (low ++ x ∷ high))
  given_with f [] x high y one = record {
    before = [];
    after = flat_map f high;
    is_fewer = refl;
    is_more = ap (λ l. l ++ flat_map f high) one;
  }
  given_with f (z ∷ low) x high y one = more_after (f z) y _ _ (given_with f low x high y one)

  -- ---- an element put back among the others

  pub all_with : (P : X → Type 0) (low : List X) (x : X) (high : List X) → P x → AllByRecursion P (low ++ high) → AllByRecursion P (low ++ x ∷ high)
  all_with P [] x high p h = (p, h)
  all_with P (y ∷ low) x high p h = (h.0, all_with P low x high p h.1)

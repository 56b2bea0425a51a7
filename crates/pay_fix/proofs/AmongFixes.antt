-- What one more correction does to those that stand, and to the effective taps.
use Rattle.std.proofs.Common.{◌≡◌, ◌≢◌, ℕ, Bool, true, false, not, ◌&&◌, ◌||◌, cond, if◌then◌else◌, List, [], ◌∷◌, ◌++◌, map, filter, refl, sym, ap, ◌∙◌}
use Rattle.std.specs.List.{list_any, flat_map, AllByRecursion}
use Rattle.pay_rules.specs.declared.tap.Tap.{Tap}
use Rattle.pay_rules.specs.declared.tap.Touch.{Touch}
use Rattle.pay_rules.specs.Order.{touch_of, in_order}
use Rattle.pay_rules.specs.Taps.{number as tap_number}
use Rattle.pay_rules.specs.Credits.{CreditOf}
use Rattle.pay_rules.specs.declared.fix.Fix.{Fix}
use Rattle.pay_rules.specs.declared.fix.What.TheVariants.{Void, Credit, Drop}
use Rattle.pay_rules.specs.Fixes.{number, is_number, is_drop, drops, is_dropped, stands}
use Rattle.pay_rules.specs.Effective.{voids, is_voided, not_voided, fill_of, filled_by, filled, effective_of}
use Rattle.pay_rules.specs.SameFix.{number_from_same, number_itself}

-- ---- one more in a list

or_swap : (u v w : Bool) → (u || (v || w)) ≡ (v || (u || w))
or_swap true true w = refl
or_swap true false w = refl
or_swap false v w = refl

module _ {X : Type 0} where
  pub any_among : (p : X → Bool) (before : List X) (x : X) (after : List X) → list_any p (before ++ x ∷ after) ≡ (p x || list_any p (before ++ after))
  any_among p [] x after = refl
  any_among p (y ∷ before) x after = ap (λ b. p y || b) (any_among p before x after) ∙ or_swap (p y) (p x) (list_any p (before ++ after))

  pub any_same : (p q : X → Bool) (list : List X) → AllByRecursion (λ x. p x ≡ q x) list → list_any p list ≡ list_any q list
  any_same p q [] h = refl
  any_same p q (x ∷ list) h = ap (λ b. b || list_any p list) h.0 ∙ ap (λ b. q x || b) (any_same p q list h.1)

  pub flat_among : {Y : Type 0} (f : X → List Y) (before : List X) (x : X) (after : List X) → f x ≡ [] → flat_map f (before ++ x ∷ after) ≡ flat_map f (before ++ after)
  flat_among f [] x after none = ap (λ l. l ++ flat_map f after) none
  flat_among f (y ∷ before) x after none = ap (λ l. f y ++ l) (flat_among f before x after none)

  pub flat_same : {Y : Type 0} (f g : X → List Y) (list : List X) → AllByRecursion (λ x. f x ≡ g x) list → flat_map f list ≡ flat_map g list
  flat_same f g [] h = refl
  flat_same f g (x ∷ list) h = ap (λ l. l ++ flat_map f list) h.0 ∙ ap (λ l. g x ++ l) (flat_same f g list h.1)

  pub filter_same : (p q : X → Bool) (list : List X) → AllByRecursion (λ x. p x ≡ q x) list → filter p list ≡ filter q list
  filter_same p q [] h = refl
  filter_same p q (x ∷ list) h = ap (λ b. cond b (x ∷ filter p list) (filter p list)) h.0 ∙ ap (λ l. cond (q x) (x ∷ l) l) (filter_same p q list h.1)

  pub filter_among : (p : X → Bool) (before : List X) (x : X) (after : List X) → p x ≡ false → filter p (before ++ x ∷ after) ≡ filter p (before ++ after)
  filter_among p [] x after e = ap (λ b. cond b (x ∷ filter p after) (filter p after)) e
  filter_among p (y ∷ before) x after e = ap (λ l. cond (p y) (y ∷ l) l) (filter_among p before x after e)

  pub all_more : {P Q : X → Type 0} (list : List X) → ((x : X) → P x → Q x) → AllByRecursion P list → AllByRecursion Q list
  all_more [] f h = tt
  all_more (x ∷ list) f h = (f x h.0, all_more list f h.1)

  pub all_of : {P : X → Type 0} (list : List X) → ((x : X) → P x) → AllByRecursion P list
  all_of [] f = tt
  all_of (x ∷ list) f = (f x, all_of list f)

pub is_false : (b : Bool) → (b ≡ true → ⊥) → b ≡ false
is_false true h = absurd (h refl)
is_false false h = refl

pub and_false : (b : Bool) → (b && false) ≡ false
and_false true = refl
and_false false = refl

pub either : (b : Bool) → ◌≡◌ {A = List Touch} (if b then [] else []) []
either true = refl
either false = refl

pub other_number : (a b : ℕ × ℕ) → b ≢ a → is_number a b ≡ false
other_number a b h = is_false (is_number a b) (λ e. h (sym (number_from_same a b e)))

-- ---- a correction that is no Drop leaves the others standing

module _ (before : List Fix) (x : Fix) (after : List Fix) where
  abbrev more : List Fix
  more = before ++ x ∷ after

  abbrev rest : List Fix
  rest = before ++ after

  pub stands_alike : ((n : ℕ × ℕ) → drops n x.what ≡ false) → (f : Fix) → stands more f ≡ stands rest f
  stands_alike none f =
      ap (λ b. is_drop f.what || not b) (any_among (λ (fix : Fix). drops (number f) fix.what) before x after ∙ ap (λ b. b || is_dropped rest (number f)) (none (number f)))

  pub voided_alike : ((n : ℕ × ℕ) → drops n x.what ≡ false) → (n : ℕ × ℕ) → is_voided more n ≡ ((voids n x.what && stands rest x) || is_voided rest n)
  voided_alike none n =
      any_same (λ (f : Fix). voids n f.what && stands more f) (λ (f : Fix). voids n f.what && stands rest f) more (all_of more (λ f. ap (λ b. voids n f.what && b) (stands_alike none f)))
      ∙ any_among (λ (f : Fix). voids n f.what && stands rest f) before x after

  pub filled_alike : ((n : ℕ × ℕ) → drops n x.what ≡ false) → fill_of (x.staff, x.seq) x.what ≡ [] → filled more ≡ filled rest
  filled_alike none no_fill =
      flat_same (filled_by more) (filled_by rest) more (all_of more (λ f. ap (λ b. if b then fill_of (f.staff, f.seq) f.what else []) (stands_alike none f)))
      ∙ flat_among (filled_by rest) before x after (ap (λ l. if stands rest x then l else []) no_fill ∙ either (stands rest x))

both : (taps others : List Tap) (fixes less : List Fix) → not_voided fixes taps ≡ not_voided less others → filled fixes ≡ filled less → effective_of taps fixes ≡ effective_of others less
both taps others fixes less e f = ap (λ (l : List Tap). in_order (map touch_of l ++ filled fixes)) e ∙ ap (λ l. in_order (map touch_of (not_voided less others) ++ l)) f

-- ---- a Credit

pub with_credit : (taps : List Tap) (before : List Fix) (x : Fix) (after : List Fix) (credit : CreditOf) → x.what ≡ Credit credit → effective_of taps (before ++ x ∷ after) ≡ effective_of taps (before ++ after)
with_credit taps before x after credit is =
    let none : (n : ℕ × ℕ) → drops n x.what ≡ false = λ n. ap (drops n) is in
    let same : (n : ℕ × ℕ) → is_voided (before ++ x ∷ after) n ≡ is_voided (before ++ after) n =
    λ n. voided_alike before x after none n ∙ ap (λ w. (voids n w && stands (before ++ after) x) || is_voided (before ++ after) n) is in
    both taps taps (before ++ x ∷ after) (before ++ after)
    (filter_same _ _ taps (all_of taps (λ tap. ap not (same (tap_number tap)))))
    (filled_alike before x after none (ap (fill_of (x.staff, x.seq)) is))

-- ---- a Void and its tap

pub with_void : (low : List Tap) (tap : Tap) (high : List Tap) (before : List Fix) (x : Fix) (after : List Fix) → x.what ≡ Void tap.reader tap.seq → is_dropped (before ++ after) (number x) ≡ false
    → AllByRecursion (λ (t : Tap). tap_number t ≢ tap_number tap) (low ++ high) → effective_of (low ++ tap ∷ high) (before ++ x ∷ after) ≡ effective_of (low ++ high) (before ++ after)
with_void low tap high before x after is standing others =
    let none : (n : ℕ × ℕ) → drops n x.what ≡ false = λ n. ap (drops n) is in
    let up : stands (before ++ after) x ≡ true = ap (λ b. is_drop x.what || not b) standing ∙ or_true (is_drop x.what) in
    let voided : (n : ℕ × ℕ) → is_voided (before ++ x ∷ after) n ≡ (is_number (tap_number tap) n || is_voided (before ++ after) n) =
    λ n. voided_alike before x after none n ∙ ap (λ b. (voids n x.what && b) || is_voided (before ++ after) n) up ∙ ap (λ w. (voids n w && true) || is_voided (before ++ after) n) is ∙ ap (λ b. b || is_voided (before ++ after) n) (and_true (is_number (tap_number tap) n)) in
    let own : not (is_voided (before ++ x ∷ after) (tap_number tap)) ≡ false = ap not (voided (tap_number tap) ∙ ap (λ b. b || is_voided (before ++ after) (tap_number tap)) (number_itself (tap_number tap))) in
    both (low ++ tap ∷ high) (low ++ high) (before ++ x ∷ after) (before ++ after)
    (filter_among (λ (t : Tap). not (is_voided (before ++ x ∷ after) (tap_number t))) low tap high own
    ∙ filter_same _ _ (low ++ high) (all_more (low ++ high) (λ t differs. ap not (voided (tap_number t) ∙ ap (λ b. b || is_voided (before ++ after) (tap_number t)) (other_number (tap_number tap) (tap_number t) differs))) others))
    (filled_alike before x after none (ap (fill_of (x.staff, x.seq)) is))
  where
    or_true : (b : Bool) → (b || true) ≡ true
    or_true true = refl
    or_true false = refl

    and_true : (b : Bool) → (b && true) ≡ b
    and_true true = refl
    and_true false = refl

-- ---- a Drop of a Void

pub with_drop : (taps : List Tap) (before : List Fix) (v : Fix) (after low : List Fix) (d : Fix) (high : List Fix) (reader seq : ℕ) → v.what ≡ Void reader seq → d.what ≡ Drop v.staff v.seq → low ++ high ≡ before ++ v ∷ after
    → AllByRecursion (λ (f : Fix). number f ≢ number v) (before ++ after) → effective_of taps (low ++ d ∷ high) ≡ effective_of taps (before ++ after)
with_drop taps before v after low d high reader seq is drop parts others =
    both taps taps (low ++ d ∷ high) (before ++ after)
    (filter_same _ _ taps (all_of taps (λ tap. ap not (voided (tap_number tap)))))
    fills
  where
    dropped : (n : ℕ × ℕ) → is_dropped (low ++ d ∷ high) n ≡ (is_number (number v) n || is_dropped (before ++ after) n)
    dropped n =
        any_among (λ (fix : Fix). drops n fix.what) low d high
        ∙ ap (λ w. drops n w || is_dropped (low ++ high) n) drop
        ∙ ap (λ l. is_number (number v) n || is_dropped l n) parts
        ∙ ap (λ b. is_number (number v) n || b) (any_among (λ (fix : Fix). drops n fix.what) before v after ∙ ap (λ w. drops n w || is_dropped (before ++ after) n) is)

    down : stands (low ++ d ∷ high) v ≡ false
    down = ap (λ w. is_drop w || not (is_dropped (low ++ d ∷ high) (number v))) is ∙ ap not (dropped (number v) ∙ ap (λ b. b || is_dropped (before ++ after) (number v)) (number_itself (number v)))

    up : (f : Fix) → number f ≢ number v → stands (low ++ d ∷ high) f ≡ stands (before ++ after) f
    up f differs = ap (λ b. is_drop f.what || not b) (dropped (number f) ∙ ap (λ b. b || is_dropped (before ++ after) (number f)) (other_number (number v) (number f) differs))

    voided : (n : ℕ × ℕ) → is_voided (low ++ d ∷ high) n ≡ is_voided (before ++ after) n
    voided n =
        any_among (λ (f : Fix). voids n f.what && stands (low ++ d ∷ high) f) low d high
        ∙ ap (λ w. (voids n w && stands (low ++ d ∷ high) d) || list_any (λ (f : Fix). voids n f.what && stands (low ++ d ∷ high) f) (low ++ high)) drop
        ∙ ap (list_any (λ (f : Fix). voids n f.what && stands (low ++ d ∷ high) f)) parts
        ∙ any_among (λ (f : Fix). voids n f.what && stands (low ++ d ∷ high) f) before v after
        ∙ ap (λ b. (voids n v.what && b) || list_any (λ (f : Fix). voids n f.what && stands (low ++ d ∷ high) f) (before ++ after)) down
        ∙ ap (λ b. b || list_any (λ (f : Fix). voids n f.what && stands (low ++ d ∷ high) f) (before ++ after)) (and_false (voids n v.what))
        ∙ any_same _ _ (before ++ after) (all_more (before ++ after) (λ f differs. ap (λ b. voids n f.what && b) (up f differs)) others)

    fills : filled (low ++ d ∷ high) ≡ filled (before ++ after)
    fills =
        flat_among (filled_by (low ++ d ∷ high)) low d high (ap (λ w. if stands (low ++ d ∷ high) d then fill_of (d.staff, d.seq) w else []) drop ∙ either (stands (low ++ d ∷ high) d))
        ∙ ap (flat_map (filled_by (low ++ d ∷ high))) parts
        ∙ flat_among (filled_by (low ++ d ∷ high)) before v after (ap (λ b. if b then fill_of (v.staff, v.seq) v.what else []) down)
        ∙ flat_same _ _ (before ++ after) (all_more (before ++ after) (λ f differs. ap (λ b. if b then fill_of (f.staff, f.seq) f.what else []) (up f differs)) others)

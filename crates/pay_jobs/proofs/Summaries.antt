-- What is told of journals, by what stands at each place of them.
use Rattle.std.proofs.Common.{◌≡◌, ◌≤◌, ◌∙◌, ℕ, zero, suc, ◌+◌, List, [], ◌∷◌, ◌++◌, length, take, drop, Option, Some, None, sym, ap, subst, arith, append-nil, zero-add}
use Rattle.std.specs.Prelude.{fold, flat_map, slice_get}
use Rattle.std.proofs.lemmas.Grind.{flat_map-append, fold-append}
use Rattle.std.proofs.lemmas.List.{length-take-le}
use Rattle.std.proofs.lemmas.Option.{slice_get_within}
use Rattle.jiff.specs.declared.tz.timezone.TimeZone.{TimeZone}
use Rattle.pay_tables.specs.Words.{FareEditions}
use Rattle.pay_session.specs.Words.{line_requests, rest_of}
use Rattle.pay_jobs.specs.Replays.{IsStoppedAt, IsStoppedAmong, all_requests, rests}
use Rattle.pay_jobs.specs.declared.fault.Fault.{Fault}

-- ---- one more

some_is : {X : Type 0} (x y : X) → ◌≡◌ {A = Option X} (Some x) (Some y) → x ≡ y
some_is x y e = cc

none_some : {X : Type 0} (y : X) → ◌≡◌ {A = Option X} None (Some y) → ⊥
none_some y e = cc

taken_next : {X : Type 0} (xs : List X) (n : ℕ) (x : X) → slice_get xs n ≡ Some x → take (suc n) xs ≡ take n xs ++ x ∷ []
taken_next [] n x e = absurd (none_some x e)
taken_next (y ∷ xs) zero x e = ap (λ z. z ∷ []) (some_is y x e)
taken_next (y ∷ xs) (suc n) x e = ap (λ l. y ∷ l) (taken_next xs n x e)

pub taken_more : {X : Type 0} (xs : List X) (n : ℕ) (x : X) → slice_get xs n ≡ Some x → take (n + 1) xs ≡ take n xs ++ x ∷ []
taken_more xs n x e =
    let next : n + 1 ≡ suc n = omega arith in
    ap (λ m. take m xs) next ∙ taken_next xs n x e

-- a fold over what some items have, with one item more
pub fold_more : {X Y A : Type 0} (f : A → Y → A) (g : X → List Y) (init : A) (xs : List X) (n : ℕ) (x : X) → slice_get xs n ≡ Some x
    → fold f init (flat_map g (take (n + 1) xs)) ≡ fold f (fold f init (flat_map g (take n xs))) (g x)
fold_more f g init xs n x e =
    ap (λ l. fold f init (flat_map g l)) (taken_more xs n x e) ∙ ap (fold f init) (flat_map-append g (take n xs) (x ∷ []))
    ∙ fold-append f init (flat_map g (take n xs)) (g x ++ []) ∙ ap (fold f (fold f init (flat_map g (take n xs)))) (append-nil (g x))

-- ---- texts

rests_both : (xs ys : List (List ℕ)) → rests (xs ++ ys) ≡ rests xs + rests ys
rests_both [] ys = sym (zero-add _)
rests_both (x ∷ xs) ys = let more = rests_both xs ys in omega (arith, more)

pub rests_more : (texts : List (List ℕ)) (n : ℕ) (text : List ℕ) → slice_get texts n ≡ Some text → rests (take (n + 1) texts) ≡ rests (take n texts) + length (rest_of text)
rests_more texts n text e =
    let split = ap rests (taken_more texts n text e) ∙ rests_both (take n texts) (text ∷ []) in
    omega (arith, split)

pub requests_more : (texts : List (List ℕ)) (n : ℕ) (text : List ℕ) → slice_get texts n ≡ Some text → all_requests (take (n + 1) texts) ≡ all_requests (take n texts) ++ line_requests text
requests_more texts n text e =
    ap all_requests (taken_more texts n text e) ∙ flat_map-append line_requests (take n texts) (text ∷ []) ∙ ap (λ l. all_requests (take n texts) ++ l) (append-nil (line_requests text))

-- the texts before one, that one, and the others
pub stopped_among : (zone : TimeZone) (editions : FareEditions) (texts : List (List ℕ)) (n first : ℕ) (text : List ℕ) (fault : Fault) → slice_get texts n ≡ Some text → IsStoppedAt zone editions (all_requests (take n texts)) text (n + first) fault
    → IsStoppedAmong zone editions texts first fault
stopped_among zone editions texts n first text fault e stops = record {
  front = take n texts;
  text = text;
  others = drop (suc n) texts;
  parts = split_at texts n text e;
  stops = subst (λ m. IsStoppedAt zone editions (all_requests (take n texts)) text (m + first) fault) (sym (length-take-le n texts (within texts n text e))) stops;
}
  where
    split_at : (xs : List (List ℕ)) (n : ℕ) (x : List ℕ) → slice_get xs n ≡ Some x → xs ≡ take n xs ++ x ∷ drop (suc n) xs
    split_at [] n x e = absurd (none_some x e)
    split_at (y ∷ xs) zero x e = ap (λ z. z ∷ xs) (some_is y x e)
    split_at (y ∷ xs) (suc n) x e = ap (λ l. y ∷ l) (split_at xs n x e)

    within : (xs : List (List ℕ)) (n : ℕ) (x : List ℕ) → slice_get xs n ≡ Some x → n ≤ length xs
    within xs n x e = let less = slice_get_within xs n x e in omega (arith, less)

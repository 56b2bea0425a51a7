-- How many items there are of some senders, and that a receiver which got as many as there are got all.
use Rattle.std.proofs.Common.{◌≡◌, ◌≢◌, ℕ, zero, suc, ◌+◌, ◌≤◌, ◌<◌, cond, List, [], ◌∷◌, ◌++◌, length, get_or, All, sym, refl, ap, ◌∙◌, subst, ap₂, append-nil, length-append, zero-add, arith, eq-eqb, ne_eqb}
use mathlib.Core.Logic.{dite}
use mathlib.Core.List.{IsPrefix}
use native.Mathlib.Decide.{dec_le}
use Rattle.std.specs.List.{range_with_len}
use Rattle.std.proofs.lemmas.List.{get_or-map, length-map}
use Rattle.std.proofs.lemmas.List.Elements.{All-map, All-from_get_or}
use Rattle.std.proofs.lemmas.List.FromFn.{length-range_with_len, get_or-range_with_len}
use Rattle.pay_mailbox.specs.Of.{of}
use Rattle.pay_mailbox.specs.Parts.{SenderParts, ReceiverParts, AreAllBack, HasAll, HasFirst, HasWaiting, having_got}
use Rattle.pay_mailbox.proofs.Learned.{no_item}

prefix_length : {X : Type 0} (xs ys : List X) → IsPrefix xs ys → length xs ≤ length ys
prefix_length xs ys h = let n = ap length h.1 in omega (arith, length-append xs h.0)

prefix_whole : {X : Type 0} (xs ys : List X) → IsPrefix xs ys → length xs ≡ length ys → xs ≡ ys
prefix_whole xs ys h e = let n = ap length h.1 in let none : h.0 ≡ [] = no_item h.0 (omega (arith, length-append xs h.0)) in sym (append-nil xs) ∙ (ap (λ l. xs ++ l) (sym none) ∙ h.1)

-- what is so of the numbers from 0 on is so of each below the last
each_below : (P : ℕ → Type 0) (m : ℕ) → All P (range_with_len 0 m) → (p : ℕ) → p < m → P p
each_below P m h p lt = subst P (get_or-range_with_len 0 m p 0 lt ∙ zero-add p) (h p 0 (omega (arith, length-range_with_len 0 m)))

all_below : (m : ℕ) → All (λ p. p < m) (range_with_len 0 m)
all_below m = All-from_get_or (λ p. p < m) (range_with_len 0 m) 0 (λ i lt. let n = length-range_with_len 0 m in let in_range : i < m = omega (arith, n) in omega (arith, get_or-range_with_len 0 m i 0 in_range))

module _ {T : Type 0} (sender : T → ℕ) where
  of_own : (x : T) (xs : List T) (p : ℕ) → sender x ≡ p → of sender p (x ∷ xs) ≡ x ∷ of sender p xs
  of_own x xs p e = ap (λ b. cond b (x ∷ of sender p xs) (of sender p xs)) (eq-eqb (sender x) p e)

  of_other : (x : T) (xs : List T) (p : ℕ) → sender x ≢ p → of sender p (x ∷ xs) ≡ of sender p xs
  of_other x xs p ne = ap (λ b. cond b (x ∷ of sender p xs) (of sender p xs)) (ne_eqb (sender x) p ne)

  -- how many of the items are from the senders below m
  abbrev counted : ℕ → List T → ℕ
  counted zero xs = 0
  counted (suc m) xs = counted m xs + length (of sender m xs)

  counted_none : (m : ℕ) → counted m [] ≡ 0
  counted_none zero = refl
  counted_none (suc m) = omega (arith, counted_none m)

  counted_other : (m : ℕ) (x : T) (xs : List T) → m ≤ sender x → counted m (x ∷ xs) ≡ counted m xs
  counted_other zero x xs le = refl
  counted_other (suc m) x xs le = ap₂ (λ a (l : List T). a + length l) (counted_other m x xs (omega arith)) (of_other x xs m (λ e. omega arith))

  counted_one : (m : ℕ) (x : T) (xs : List T) → sender x < m → counted m (x ∷ xs) ≡ suc (counted m xs)
  counted_one zero x xs lt = absurd (omega arith)
  counted_one (suc m) x xs lt = dite (dec_le m (sender x))
      (λ le. let e : sender x ≡ m = omega arith in let before = counted_other m x xs le in let here = ap length (of_own x xs m e) in omega arith)
      (λ no. let before = counted_one m x xs (omega (arith, no)) in let here = ap length (of_other x xs m (λ e. omega (arith, no))) in omega arith)

  all_counted : (m : ℕ) (xs : List T) → ((p : ℕ) → m ≤ p → of sender p xs ≡ []) → counted m xs ≡ length xs
  all_counted m [] none = counted_none m
  all_counted m (x ∷ xs) none = dite (dec_le m (sender x)) (λ le. let n = ap length (sym (of_own x xs (sender x) refl) ∙ none (sender x) le) in absurd (omega arith))
      (λ no. counted_one m x xs (omega (arith, no)) ∙ ap suc (all_counted m xs (λ p far. sym (of_other x xs p (λ e. omega (arith, no))) ∙ none p far)))

  counted_less : (m : ℕ) (xs ys : List T) → ((p : ℕ) → p < m → length (of sender p xs) ≤ length (of sender p ys)) → counted m xs ≤ counted m ys
  counted_less zero xs ys le = omega arith
  counted_less (suc m) xs ys le = omega (arith, counted_less m xs ys (λ p lt. le p (omega arith)), le m (omega arith))

  -- as many in all, and no more of each, are as many of each
  counted_same : (m : ℕ) (xs ys : List T) → ((p : ℕ) → p < m → length (of sender p xs) ≤ length (of sender p ys)) → counted m xs ≡ counted m ys
      → (p : ℕ) → p < m → length (of sender p xs) ≡ length (of sender p ys)
  counted_same zero xs ys le e p lt = absurd (omega arith)
  counted_same (suc m) xs ys le e p lt = let before = counted_less m xs ys (λ q small. le q (omega arith)) in let here = le m (omega arith) in dite (dec_le m p)
      (λ at. let same : m ≡ p = omega arith in subst (λ q. length (of sender q xs) ≡ length (of sender q ys)) same (omega arith))
      (λ no. counted_same m xs ys (λ q small. le q (omega arith)) (omega arith) p (omega (arith, no)))

  -- a receiver that got as many items as were left has got all
  pub got_all : (r s : ReceiverParts T) (n : ℕ) (items : List T) → AreAllBack r → HasWaiting sender n r → length items ≡ n → s ≡ having_got r items → HasFirst sender s → HasAll sender s
  got_all r s n items back waiting long got first = subst (HasAll sender) (sym got) (each, now.1) where
    now : HasFirst sender (having_got r items)
    now = subst (HasFirst sender) got first

    xs : List T
    xs = r.got ++ items

    ys : List T
    ys = r.got ++ waiting.0

    fewer : (p : ℕ) → p < r.made → length (of sender p xs) ≤ length (of sender p ys)
    fewer = let Q : ℕ → Type 0 = λ p. length (of sender p xs) ≤ length (of sender p ys) in each_below Q r.made
        (subst (All Q) back (All-map Q (λ (s : SenderParts T). s.number) r.back (λ k d lt. let sent = ap length (waiting.2 k d lt) in omega (arith, prefix_length _ _ (now.0 k d lt), sent))))

    same : (p : ℕ) → p < r.made → length (of sender p xs) ≡ length (of sender p ys)
    same = counted_same r.made xs ys fewer
        (let a = all_counted r.made xs now.1 in let b = all_counted r.made ys waiting.3 in omega (arith, length-append r.got items, length-append r.got waiting.0, long, waiting.1))

    each : All (λ s. of sender s.number xs ≡ s.sent) r.back
    each k d lt = let s = get_or r.back k d in let numbers = subst (All (λ p. p < r.made)) (sym back) (all_below r.made) in
        let made : s.number < r.made = subst (λ p. p < r.made) (get_or-map (λ (s : SenderParts T). s.number) r.back k d 0 lt) (numbers k 0 (omega (arith, length-map r.back (λ (s : SenderParts T). s.number)))) in
        prefix_whole (of sender s.number xs) s.sent (now.0 k d lt) (same s.number made ∙ ap length (waiting.2 k d lt))

-- The shares of operators in a line: how they are put there, and that they are told apart.
use Rattle.std.proofs.Common.{◌≡◌, ℕ, ◌+◌, ◌^◌, ◌<◌, ◌≤◌, Bool, true, false, cond, List, [], ◌∷◌, ◌++◌, map, length, get_or, take, refl, sym, ap, ◌∙◌, append_assoc, arith, inl, inr, ◌⊎◌, codes}
use Rattle.std.specs.Prelude.{decimal}
use Rattle.std.specs.Str.{bytes_eq}
use Rattle.std.specs.List.{AllByRecursion}
use Rattle.std.specs.Str.Parse.{AllDigits}
use Rattle.std.proofs.lemmas.Bool.{and_parts, and_from}
use Rattle.std.proofs.lemmas.Fmt.{digits_decimal, decimal_injective, length-decimal-le}
use Rattle.std.proofs.lemmas.Grind.{flat_map-append}
use Rattle.std.proofs.lemmas.List.{append-nil, length-append, length-map, length-take-le, map-append, take_more}
use Rattle.std.proofs.lemmas.Slice.Eq.{bytes_eq-Decides}
use Rattle.std.proofs.lemmas.Str.Parse.{digit_from_value}
use Rattle.pay_wire.specs.Replies.{text_of_fields, word_of_share, words_of_share, words_of_shares}
use Rattle.pay_wire.proofs.Digits.{own}
use Rattle.pay_wire.proofs.Visible.{is_visible, decimal_visible, AllVisible}

-- ---- put after a line

-- one share more
words_more : (n : ℕ) (xs : List (List ℕ)) (x : List ℕ) → words_of_shares n (xs ++ x ∷ []) ≡ words_of_shares n xs ++ words_of_share (n + length xs) x
words_more n [] x =
    let same : n + 0 ≡ n = omega arith in
    append-nil (words_of_share n x) ∙ ap (λ (k : ℕ). words_of_share k x) (sym same)
words_more n (y ∷ ys) x =
    let same : n + 1 + length ys ≡ n + length (y ∷ ys) = omega arith in
    ap (λ (ws : List (List ℕ)). words_of_share n y ++ ws) (words_more (n + 1) ys x ∙ ap (λ (k : ℕ). words_of_shares (n + 1) ys ++ words_of_share k x) same)
    ∙ sym (append_assoc (words_of_share n y) (words_of_shares (n + 1) ys) (words_of_share (n + length (y ∷ ys)) x))

-- the shares of the first operators, and then that of the next one
shares_more : {A : Type 0} (numeral : A → List ℕ) (line : List ℕ) (shares : List A) (i : ℕ) (d : A) → i < length shares
    → (line ++ text_of_fields (words_of_shares 1 (map numeral (take i shares)))) ++ text_of_fields (words_of_share (i + 1) (numeral (get_or shares i d)))
    ≡ line ++ text_of_fields (words_of_shares 1 (map numeral (take (i + 1) shares)))
shares_more {A} numeral line shares i d low =
    let front = map numeral (take i shares) in
    let share = numeral (get_or shares i d) in
    let place : i + 1 ≡ 1 + length front = omega (arith, length-map (take i shares) numeral, length-take-le i shares (omega (arith, low))) in
    append_assoc line (text_of_fields (words_of_shares 1 front)) (text_of_fields (words_of_share (i + 1) share))
    ∙ ap (λ (r : List ℕ). line ++ r) (sym (flat_map-append (λ (w : List ℕ). 32 ∷ w) (words_of_shares 1 front) (words_of_share (i + 1) share))
    ∙ ap text_of_fields (ap (λ (k : ℕ). words_of_shares 1 front ++ words_of_share k share) place ∙ sym (words_more 1 front share)
    ∙ ap (words_of_shares 1) (sym (map-append numeral (take i shares) (get_or shares i d ∷ [])) ∙ ap (map numeral) (sym (take_more shares i d low)))))

-- a share put after those of the first operators
pub share_put : {A : Type 0} (numeral : A → List ℕ) (line : List ℕ) (shares : List A) (i : ℕ) (d : A) (before after : List ℕ) → i < length shares
    → before ≡ line ++ text_of_fields (words_of_shares 1 (map numeral (take i shares))) → after ≡ before ++ text_of_fields (words_of_share (i + 1) (numeral (get_or shares i d)))
    → after ≡ line ++ text_of_fields (words_of_shares 1 (map numeral (take (i + 1) shares)))
share_put numeral line shares i d before after low e f = f ∙ rw e (shares_more numeral line shares i d low)

-- an operator has two digits at most
pub operator_short : (line : List ℕ) (operator : ℕ) → operator ≤ 16 → length (line ++ 32 ∷ decimal operator) ≤ length line + 3
operator_short line operator few =
    omega (arith, length-append line (32 ∷ decimal operator), length-decimal-le 2 operator (omega arith) (omega (arith, few)) (omega (arith, few)))

-- ---- told apart

visible_append : (a b : List ℕ) → is_visible a ≡ true → is_visible b ≡ true → is_visible (a ++ b) ≡ true
visible_append [] b f g = g
visible_append (c ∷ cs) b f g = let p = and_parts _ _ f in and_from _ _ p.0 (visible_append cs b p.1 g)

word_visible : (operator : ℕ) (share : List ℕ) → operator < 2 ^ 64 → is_visible share ≡ true → is_visible (word_of_share operator share) ≡ true
word_visible operator share f g =
    visible_append (decimal operator ++ codes "=") share (visible_append (decimal operator) (codes "=") (decimal_visible operator f) refl) g

perhaps_visible : (none : Bool) (word : List ℕ) (ws : List (List ℕ)) → is_visible word ≡ true → AllVisible ws → AllVisible (cond none [] (word ∷ []) ++ ws)
perhaps_visible true word ws seen others = others
perhaps_visible false word ws seen others = (seen, others)

pub shares_visible : (n : ℕ) (xs : List (List ℕ)) → n + length xs ≤ 100 → AllVisible xs → AllVisible (words_of_shares n xs)
shares_visible n [] few seen = tt
shares_visible n (x ∷ xs) few seen =
    perhaps_visible (bytes_eq x (codes "0")) (word_of_share n x) (words_of_shares (n + 1) xs) (word_visible n x (omega (arith, few)) seen.0) (shares_visible (n + 1) xs (omega (arith, few)) seen.1)

heads : {A : Type 0} (x y : A) (xs ys : List A) → (x ∷ xs) ≡ (y ∷ ys) → (x ≡ y) × (xs ≡ ys)
heads x y xs ys e = (cc, cc)

both : {A : Type 0} {x y : A} {xs ys : List A} → x ≡ y → xs ≡ ys → (x ∷ xs) ≡ (y ∷ ys)
both e f i = e i ∷ f i

-- digits end at the first `=`
digits_apart : (a b x y : List ℕ) → AllDigits 10 a → AllDigits 10 b → a ++ 61 ∷ x ≡ b ++ 61 ∷ y → (a ≡ b) × (x ≡ y)
digits_apart [] [] x y f g e = (refl, (heads 61 61 x y e).1)
digits_apart [] (d ∷ ds) x y f g e =
    absurd (omega (arith, digit_from_value d g.0, (heads 61 d x (ds ++ 61 ∷ y) e).0))
digits_apart (c ∷ cs) [] x y f g e =
    absurd (omega (arith, digit_from_value c f.0, (heads c 61 (cs ++ 61 ∷ x) y e).0))
digits_apart (c ∷ cs) (d ∷ ds) x y f g e =
    let h = heads c d (cs ++ 61 ∷ x) (ds ++ 61 ∷ y) e in
    let rest = digits_apart cs ds x y f.1 g.1 h.1 in
    (both h.0 rest.0, rest.1)

digits : (n : ℕ) → n < 2 ^ 64 → AllDigits 10 (decimal n)
digits n lt = own.to (decimal n) (digits_decimal own n lt)

-- the word of a share tells the operator and the share
one_word : (m n : ℕ) (x y : List ℕ) → m < 2 ^ 64 → n < 2 ^ 64 → word_of_share m x ≡ word_of_share n y → (m ≡ n) × (x ≡ y)
one_word m n x y f g e =
    let apart = digits_apart (decimal m) (decimal n) x y (digits m f) (digits n g)
    (sym (append_assoc (decimal m) (codes "=") x) ∙ e ∙ append_assoc (decimal n) (codes "=") y) in
    (decimal_injective m n f g apart.0, apart.1)

-- the first of some shares has a word or none
abbrev FirstShare : ℕ → List ℕ → List (List ℕ) → Type 0
FirstShare n x xs =
    ((x ≡ codes "0") × (words_of_shares n (x ∷ xs) ≡ words_of_shares (n + 1) xs))
    ⊎ (words_of_shares n (x ∷ xs) ≡ word_of_share n x ∷ words_of_shares (n + 1) xs)

first_share : (n : ℕ) (x : List ℕ) (xs : List (List ℕ)) → FirstShare n x xs
first_share n x xs = by_test (bytes_eq x (codes "0")) refl
  where
    by_test : (none : Bool) → bytes_eq x (codes "0") ≡ none → FirstShare n x xs
    by_test true e = inl ((bytes_eq-Decides x (codes "0")).0 e, rw e refl)
    by_test false e = inr (rw e refl)

-- no word of later operators is that of an earlier one
not_later : (m n : ℕ) (x : List ℕ) (ys more : List (List ℕ)) → n < m → m + length ys ≤ 100 → words_of_shares m ys ≡ word_of_share n x ∷ more → ⊥
not_later m n x [] more later few e = cc
not_later m n x (y ∷ ys) more later few e =
    let others : words_of_shares (m + 1) ys ≡ word_of_share n x ∷ more → ⊥ = not_later (m + 1) n x ys more (omega (arith, later)) (omega (arith, few)) in
    elim (first_share m y ys) [
      | inl none ↦ others (sym none.1 ∙ e)
      | inr some ↦
          let h = heads (word_of_share m y) (word_of_share n x) (words_of_shares (m + 1) ys) more (sym some ∙ e) in
          let same = one_word m n y x (omega (arith, few)) (omega (arith, few, later)) h.0 in
          omega (arith, same.0, later)
    ]

-- as many shares with the same words are the same
one_list : (n : ℕ) (xs ys : List (List ℕ)) → length xs ≡ length ys → n + length xs ≤ 100 → words_of_shares n xs ≡ words_of_shares n ys → xs ≡ ys
one_list n [] [] same few e = refl
one_list n [] (y ∷ ys) same few e = absurd (omega (arith, same))
one_list n (x ∷ xs) [] same few e = absurd (omega (arith, same))
one_list n (x ∷ xs) (y ∷ ys) same few e =
    let rest : words_of_shares (n + 1) xs ≡ words_of_shares (n + 1) ys → xs ≡ ys = one_list (n + 1) xs ys (omega (arith, same)) (omega (arith, few)) in
    elim (first_share n x xs) [
      | inl a ↦ elim (first_share n y ys) [
        | inl b ↦ both (a.0 ∙ sym b.0) (rest (sym a.1 ∙ e ∙ b.1))
        | inr b ↦ absurd (not_later (n + 1) n y xs (words_of_shares (n + 1) ys) (omega arith) (omega (arith, few)) (sym a.1 ∙ e ∙ b))
      ]
      | inr a ↦ elim (first_share n y ys) [
        | inl b ↦ absurd (not_later (n + 1) n x ys (words_of_shares (n + 1) xs) (omega arith) (omega (arith, few, same)) (sym b.1 ∙ sym e ∙ a))
        | inr b ↦
            let h = heads (word_of_share n x) (word_of_share n y) (words_of_shares (n + 1) xs) (words_of_shares (n + 1) ys) (sym a ∙ e ∙ b) in
            let one = one_word n n x y (omega (arith, few)) (omega (arith, few)) h.0 in
            both one.1 (rest h.1)
      ]
    ]

-- ---- numbers by their numerals

numerals_visible : {A : Type 0} (P : A → Type 0) (numeral : A → List ℕ) → ((x : A) → P x → is_visible (numeral x) ≡ true) → (xs : List A) → AllByRecursion P xs → AllVisible (map numeral xs)
numerals_visible P numeral seen [] fits = tt
numerals_visible P numeral seen (x ∷ xs) fits = (seen x fits.0, numerals_visible P numeral seen xs fits.1)

one_from_numerals : {A : Type 0} (P : A → Type 0) (numeral : A → List ℕ) → ((x y : A) → P x → P y → numeral x ≡ numeral y → x ≡ y)
    → (xs ys : List A) → AllByRecursion P xs → AllByRecursion P ys → map numeral xs ≡ map numeral ys → xs ≡ ys
one_from_numerals P numeral one [] [] f g e = refl
one_from_numerals P numeral one [] (y ∷ ys) f g e = absurd cc
one_from_numerals P numeral one (x ∷ xs) [] f g e = absurd cc
one_from_numerals P numeral one (x ∷ xs) (y ∷ ys) f g e =
    let h = heads (numeral x) (numeral y) (map numeral xs) (map numeral ys) e in
    both (one x y f.0 g.0 h.0) (one_from_numerals P numeral one xs ys f.1 g.1 h.1)

-- numbers of a range whose numerals are visible, and tell them
pub record AreNumerals {A : Type 0} (P : A → Type 0) (numeral : A → List ℕ) : Type 0 where
  pub seen : (x : A) → P x → is_visible (numeral x) ≡ true
  pub one : (x y : A) → P x → P y → numeral x ≡ numeral y → x ≡ y

module _ {A : Type 0} {P : A → Type 0} {numeral : A → List ℕ} (are : AreNumerals P numeral) where
  pub numeral_words_visible : (xs : List A) → length xs ≡ 16 → AllByRecursion P xs → AllVisible (words_of_shares 1 (map numeral xs))
  numeral_words_visible xs all fits =
      shares_visible 1 (map numeral xs) (omega (arith, length-map xs numeral, all)) (numerals_visible P numeral are.seen xs fits)

  pub one_from_share_words : (xs ys : List A) → length xs ≡ 16 → length ys ≡ 16 → AllByRecursion P xs → AllByRecursion P ys
      → words_of_shares 1 (map numeral xs) ≡ words_of_shares 1 (map numeral ys) → xs ≡ ys
  one_from_share_words xs ys all others f g e =
      one_from_numerals P numeral are.one xs ys f g (one_list 1 (map numeral xs) (map numeral ys)
      (omega (arith, length-map xs numeral, length-map ys numeral, all, others)) (omega (arith, length-map xs numeral, all)) e)

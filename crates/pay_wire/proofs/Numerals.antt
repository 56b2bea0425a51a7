-- A number has one numeral, and it is read back.
use Rattle.std.proofs.Common.{◌≡◌, ℕ, ◌<◌, ◌≤◌, Bool, true, false, cond, leb, ◌&&◌, List, [], ◌∷◌, length, get_or, Option, Some, None, refl, sym, ap, ◌∙◌, arith, inl, inr}
use Rattle.std.specs.Prelude.{decimal}
use Rattle.std.specs.Str.{all_ascii_digits}
use Rattle.std.specs.Str.Parse.{digits_value}
use Rattle.std.proofs.lemmas.Bool.{cases_eq, and_parts, leb-true, le-leb, eqb-false, ne_eqb}
use Rattle.std.proofs.lemmas.Option.{cond_some}
use Rattle.std.proofs.lemmas.Fmt.{digits_decimal, digits_value-decimal, decimal-digits_value, decimal_digit, decimal_nonempty, first_decimal}
use Rattle.pay_wire.specs.Numbers.{number_of, value_of_digits, has_leading_zero}
use Rattle.pay_wire.specs.Fields.{◌>>=◌}
use Rattle.pay_wire.specs.Commands.{number_within}
use Rattle.pay_wire.proofs.Digits.{own}

-- the value of a step that did not fail
pub bind_some : {A B : Type 0} (o : Option A) (f : A → Option B) (y : B) → (o >>= f) ≡ Some y → (x : A) × (o ≡ Some x) × (f x ≡ Some y)
bind_some (Some x) f y e = (x, refl, e)
bind_some None f y e = absurd cc

-- a test that passed, where a word that fails it is nothing
past_test : {A : Type 0} (b : Bool) (o : Option A) (y : A) → cond b None o ≡ Some y → (b ≡ false) × (o ≡ Some y)
past_test true o y e = absurd cc
past_test false o y e = (refl, e)

value_again : (word : List ℕ) (n : ℕ) → n ≤ 4_294_967_295 → all_ascii_digits word ≡ true → digits_value 10 word ≡ n → value_of_digits word ≡ Some n
value_again word n small digits value =
    let yes : leb (digits_value 10 word) 4_294_967_295 ≡ true = le-leb _ _ (omega arith) in
    rw (digits, yes) (ap (λ (m : ℕ). Some m) value)

numeral_again : (word : List ℕ) (n : ℕ) → n ≤ 4_294_967_295 → all_ascii_digits word ≡ true → digits_value 10 word ≡ n → 0 < length word → (get_or word 0 0 ≡ 48 → length word ≡ 1) → number_of word ≡ Some n
numeral_again [] n small digits value some first = absurd (omega arith)
numeral_again (c ∷ []) n small digits value some first = value_again (c ∷ []) n small digits value
numeral_again (c ∷ d ∷ more) n small digits value some first =
    rw (ne_eqb c 48 (λ e. absurd (omega (arith, first e)))) (value_again (c ∷ d ∷ more) n small digits value)

zero_alone : (n : ℕ) → n ≤ 4_294_967_295 → get_or (decimal n) 0 0 ≡ 48 → length (decimal n) ≡ 1
zero_alone n small e =
    elim (cases_eq n 0) [
      | inl nothing ↦ ap length (decimal_digit n (omega arith))
      | inr some ↦ absurd (omega (arith, first_decimal n (omega arith) (omega arith)))
    ]

-- the numeral of a number is read as that number
pub number_again : (n : ℕ) → n ≤ 4_294_967_295 → number_of (decimal n) ≡ Some n
number_again n small =
    numeral_again (decimal n) n small (digits_decimal own n (omega arith)) (digits_value-decimal own n (omega arith)) (decimal_nonempty n (omega arith)) (zero_alone n small)

value_is : (word : List ℕ) (n : ℕ) → value_of_digits word ≡ Some n → 0 < length word → (get_or word 0 0 ≡ 48 → length word ≡ 1) → (word ≡ decimal n) × (n ≤ 4_294_967_295)
value_is word n e some first =
    let c = cond_some (all_ascii_digits word && leb (digits_value 10 word) 4_294_967_295) (digits_value 10 word) n e in
    let p = and_parts _ _ c.0 in
    let small : digits_value 10 word ≤ 4_294_967_295 = leb-true _ _ p.1 in
    (sym (decimal-digits_value own word p.0 some first (omega arith)) ∙ ap decimal c.1, omega (arith, small, c.1))

-- no other word is read as the number
pub number_is : (word : List ℕ) (n : ℕ) → number_of word ≡ Some n → (word ≡ decimal n) × (n ≤ 4_294_967_295)
number_is [] n e = absurd cc
number_is (c ∷ []) n e = value_is (c ∷ []) n e (omega arith) (λ _. refl)
number_is (c ∷ d ∷ more) n e =
    let p = past_test (has_leading_zero (c ∷ d ∷ more)) (value_of_digits (c ∷ d ∷ more)) n e in
    value_is (c ∷ d ∷ more) n p.1 (omega arith) (λ z. absurd (eqb-false c 48 p.0 z))

pub within_again : (low high n : ℕ) → low ≤ n → n ≤ high → high ≤ 4_294_967_295 → number_within low high (decimal n) ≡ Some n
within_again low high n above below most =
    rw (number_again n (omega arith), le-leb low n above, le-leb n high below) refl

pub within_is : (low high : ℕ) (word : List ℕ) (n : ℕ) → number_within low high word ≡ Some n → (word ≡ decimal n) × (low ≤ n) × (n ≤ high)
within_is low high word n e =
    let b = bind_some (number_of word) (λ m. cond (leb low m && leb m high) (Some m) None) n e in
    let c = cond_some (leb low b.0 && leb b.0 high) b.0 n b.2 in
    let p = and_parts (leb low b.0) (leb b.0 high) c.0 in
    let above : low ≤ b.0 = leb-true low b.0 p.0 in
    let below : b.0 ≤ high = leb-true b.0 high p.1 in
    let is : b.0 ≡ n = c.1 in
    ((number_is word b.0 b.1).0 ∙ ap decimal is, omega arith, omega arith)

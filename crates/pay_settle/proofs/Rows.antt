-- Rows that are added one after another.
use Rattle.std.proofs.Common.{◌≡◌, ◌∙◌, ℕ, ◌+◌, ◌≤◌, ◌<◌, zero, suc, get_or, refl, List, [], ◌∷◌, ◌++◌, drop, length, sym, ap, arith, append_assoc, append-nil}
use Rattle.std.specs.Prelude.{ℤ, pos, flat_map}
use Rattle.std.proofs.lemmas.List.{drop_all}
use Rattle.pay_settle.specs.Text.{operator_row, operator_rows}

pub five : (a b c d e s t u v w : List ℕ) → s ≡ a → t ≡ s ++ b → u ≡ t ++ c → v ≡ u ++ d → w ≡ v ++ e → w ≡ a ++ (b ++ (c ++ (d ++ e)))
five a b c d e s t u v w one two three four last =
    last ∙ ap (λ (l : List ℕ). l ++ e) (four ∙ ap (λ (l : List ℕ). l ++ d) (three ∙ ap (λ (l : List ℕ). l ++ c) (two ∙ ap (λ (l : List ℕ). l ++ b) one)))
    ∙ append_assoc (((a ++ b) ++ c)) d e ∙ append_assoc (a ++ b) c (d ++ e) ∙ append_assoc a b (c ++ (d ++ e))

-- nothing is left after the last operator
pub rows_are : (number place : ℕ) (sums : List ℤ) (before rows all : List ℕ) → length sums ≡ 16 → 16 ≤ place → rows ++ operator_rows number (drop place sums) ≡ before ++ all → rows ≡ before ++ all
rows_are number place sums before rows all long past e =
    sym (append-nil rows) ∙ ap (λ (l : List ℤ). rows ++ operator_rows number l) (sym (drop_all place sums (omega (arith, long, past)))) ∙ e

-- those of the operators from a place on are that of the first, and the others
left_from : (number place : ℕ) (sums : List ℤ) → place < length sums → operator_rows number (drop place sums) ≡ operator_row number (get_or sums place (pos 0)) ++ operator_rows (number + 1) (drop (place + 1) sums)
left_from number place [] below = absurd (omega (arith, below))
left_from number zero (sum ∷ sums) below = refl
left_from number (suc place) (sum ∷ sums) below =
    let more : suc (place + 1) ≡ suc place + 1 = omega arith in
    left_from number place sums (omega (arith, below)) ∙ ap (λ (n : ℕ). operator_row number (get_or sums place (pos 0)) ++ operator_rows (number + 1) (drop n (sum ∷ sums))) more

pub next_operator : (place : ℕ) (sums : List ℤ) (rows after all : List ℕ) → place < length sums → after ≡ rows ++ operator_row (place + 1) (get_or sums place (pos 0)) → rows ++ operator_rows (place + 1) (drop place sums) ≡ all
    → after ++ operator_rows (place + 1 + 1) (drop (place + 1) sums) ≡ all
next_operator place sums rows after all below is so_far =
    let row = operator_row (place + 1) (get_or sums place (pos 0)) in
    let later = operator_rows (place + 1 + 1) (drop (place + 1) sums) in
    ap (λ (l : List ℕ). l ++ later) is ∙ append_assoc rows row later ∙ ap (λ (l : List ℕ). rows ++ l) (sym (left_from (place + 1) place sums below)) ∙ so_far

-- a row more of those of entries
pub next_row : {X : Type 0} (row : X → List ℕ) (rows after all : List ℕ) (one : X) (left rest : List X) → after ≡ rows ++ row one → left ≡ one ∷ rest → rows ++ flat_map row left ≡ all → after ++ flat_map row rest ≡ all
next_row {X} row rows after all one left rest is first so_far =
    ap (λ (l : List ℕ). l ++ flat_map row rest) is ∙ append_assoc rows (row one) (flat_map row rest) ∙ ap (λ (l : List X). rows ++ flat_map row l) (sym first) ∙ so_far

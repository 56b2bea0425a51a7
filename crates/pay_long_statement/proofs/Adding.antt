-- Rows added to a text, one after the other.
use Rattle.std.proofs.Common.{◌≡◌, ◌∙◌, ℕ, ◌+◌, List, [], ◌∷◌, ◌++◌, map, refl, sym, ap, append_assoc}
use Rattle.std.proofs.lemmas.Grind.{flat_map-append}
use Rattle.std.proofs.lemmas.List.FromFn.{map-range_with_len_more}
use Rattle.std.specs.List.{flat_map, range_with_len}
use Rattle.pay_names.specs.Words.{Named}
use Rattle.pay_long_statement.specs.declared.row.Row.{Row}
use Rattle.pay_long_statement.specs.Text.{row_bytes, rows_bytes}

-- rows after others
pub then : (names : Named) (before now after : List ℕ) (first second : List Row) → now ≡ before ++ rows_bytes names first → after ≡ now ++ rows_bytes names second
    → after ≡ before ++ rows_bytes names (first ++ second)
then names before now after first second one two =
    two ∙ ap (λ (text : List ℕ). text ++ rows_bytes names second) one ∙ append_assoc before (rows_bytes names first) (rows_bytes names second)
    ∙ ap (λ (text : List ℕ). before ++ text) (sym (flat_map-append (row_bytes names) first second))

-- the same list
same : (list : List ℕ) → map (λ (day : ℕ). day) list ≡ list
same [] = refl
same (day ∷ days) = ap (λ (more : List ℕ). day ∷ more) (same days)

-- one day more
one_more : (from count : ℕ) → range_with_len from (count + 1) ≡ range_with_len from count ++ (from + count) ∷ []
one_more from count =
    sym (same (range_with_len from (count + 1))) ∙ map-range_with_len_more (λ (day : ℕ). day) from count (from + count) refl
    ∙ ap (λ (days : List ℕ). days ++ (from + count) ∷ []) (same (range_with_len from count))

-- the rows of the days so far, and then those of the next one
pub next_day : (names : Named) (rows : ℕ → List Row) (before now after : List ℕ) (from count : ℕ) → now ≡ before ++ rows_bytes names (flat_map rows (range_with_len from count))
    → after ≡ now ++ rows_bytes names (rows (from + count)) → after ≡ before ++ rows_bytes names (flat_map rows (range_with_len from (count + 1)))
next_day names rows before now after from count one two =
    let all : flat_map rows (range_with_len from (count + 1)) ≡ flat_map rows (range_with_len from count) ++ (rows (from + count) ++ []) =
    ap (flat_map rows) (one_more from count) ∙ flat_map-append rows (range_with_len from count) ((from + count) ∷ []) in
    then names before now after (flat_map rows (range_with_len from count)) (rows (from + count)) one two
    ∙ ap (λ (list : List Row). before ++ rows_bytes names list) (ap (λ (last : List Row). flat_map rows (range_with_len from count) ++ last) (sym (nothing_after (rows (from + count)))) ∙ sym all)
  where
    nothing_after : (list : List Row) → list ++ [] ≡ list
    nothing_after [] = refl
    nothing_after (row ∷ more) = ap (λ (rest : List Row). row ∷ rest) (nothing_after more)

-- Texts by their lines, and the lines of one account.
use Rattle.std.proofs.Common.{◌≡◌, ℕ, Bool, true, false, cond, eqb, List, [], ◌∷◌, ◌++◌, map, ap, ◌∙◌, refl, append_assoc}
use Rattle.std.specs.Prelude.{filter}
use Rattle.std.specs.List.{AllByRecursion, flat_map}
use Rattle.std.proofs.lemmas.Bool.{or_parts}
use Rattle.pay_session.specs.Requests.{InputLine, onto_first, input_lines, has_newline, request_of, line_requests, IsReadByLine}
use Rattle.pay_session.specs.declared.request.Request.{Request}
use Rattle.pay_account_lines.specs.OwnLines.{is_own, line_text, own_lines}

first_line : (line more : List ℕ) → has_newline line ≡ false → input_lines (line ++ 10 ∷ more) ≡ record { text = line; after = more } ∷ input_lines more
first_line [] more h = refl
first_line (b ∷ line) more h =
    let both = or_parts (eqb b 10) (has_newline line) h in
    ap (λ c. cond c (record { text = []; after = line ++ 10 ∷ more } ∷ input_lines (line ++ 10 ∷ more)) (onto_first b (input_lines (line ++ 10 ∷ more)))) both.0
    ∙ ap (onto_first b) (first_line line more both.1)

abbrev is_line_of : ℕ → InputLine → Bool
is_line_of account line = is_own account (request_of line.text)

-- the lines of an account in a text, by its first line
pub own_first : (account : ℕ) (line more : List ℕ) → has_newline line ≡ false
    → own_lines account (line ++ 10 ∷ more) ≡ cond (is_own account (request_of line)) (line ++ 10 ∷ []) [] ++ own_lines account more
own_first account line more h =
    ap (λ lines. flat_map line_text (filter (is_line_of account) lines)) (first_line line more h) ∙ by_test (is_own account (request_of line)) (filter (is_line_of account) (input_lines more))
  where
    by_test : (own : Bool) (rest : List InputLine) → flat_map line_text (cond own (record { text = line; after = more } ∷ rest) rest) ≡ cond own (line ++ 10 ∷ []) [] ++ flat_map line_text rest
    by_test true rest = refl
    by_test false rest = refl

-- they ask for what is asked for of that account
pub asked_of_own : IsReadByLine → (account : ℕ) (lines : List InputLine) → AllByRecursion (λ (l : InputLine). has_newline l.text ≡ false) lines
    → line_requests (flat_map line_text (filter (is_line_of account) lines)) ≡ filter (is_own account) (map (λ (l : InputLine). request_of l.text) lines)
asked_of_own by account [] whole = refl
asked_of_own by account (line ∷ lines) whole = by_test (is_own account (request_of line.text)) _ _ (asked_of_own by account lines whole.1)
  where
    by_test : (own : Bool) (rest : List InputLine) (requests : List Request) → line_requests (flat_map line_text rest) ≡ requests
        → line_requests (flat_map line_text (cond own (line ∷ rest) rest)) ≡ cond own (request_of line.text ∷ requests) requests
    by_test true rest requests again = ap line_requests (append_assoc line.text (10 ∷ []) (flat_map line_text rest)) ∙ by.line line.text (flat_map line_text rest) whole.0 ∙ ap (λ rs. request_of line.text ∷ rs) again
    by_test false rest requests again = again

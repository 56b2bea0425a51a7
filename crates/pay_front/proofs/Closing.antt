-- What the lines of a reply make of it, one after another.
use Rattle.std.proofs.Common.{◌≡◌, ℕ, Bool, true, false, cond, List, [], ◌∷◌, ◌++◌, map, append-nil, append_assoc, refl, sym, ap, ◌∙◌, subst, Option, Some, None}
use Rattle.std.specs.Prelude.{◌≢◌, option_map, flat_map}
use Rattle.pay_session.specs.Requests.{InputLine, has_newline, input_lines, rest_of}
use Rattle.pay_session.proofs.InputLines.{whole_again}
use Rattle.pay_session.proofs.InputPieces.{lines_of_line, lines_of_part, rest_of_line}
use Rattle.pay_front.specs.Closes.{Adds, PostedLine, account_in, close_in, if_whole, is_done, lines_of, postings_in, with_line}

-- ---- the first line

close_of_line : (line rest : List ℕ) → has_newline line ≡ false → close_in (line ++ 10 ∷ rest) ≡ if_whole (rest_of rest) (with_line (account_in line) line (lines_of rest) (postings_in (lines_of rest)))
close_of_line line rest free =
    ap (λ r. if_whole r (postings_in (lines_of (line ++ 10 ∷ rest)))) (rest_of_line line rest)
    ∙ ap (λ (ls : List InputLine). if_whole (rest_of rest) (postings_in (map (λ (l : InputLine). l.text) ls))) (lines_of_line line rest free)

with_whole : (rest : List ℕ) (f : List PostedLine → List PostedLine) (o : Option (List PostedLine)) → if_whole rest (option_map f o) ≡ option_map f (if_whole rest o)
with_whole [] f o = refl
with_whole (b ∷ rest) f o = refl

-- of a posting
posting_first : (line rest : List ℕ) (account : ℕ) → has_newline line ≡ false → account_in line ≡ Some account
    → close_in (line ++ 10 ∷ rest) ≡ option_map (λ more. record { account = account; line = line } ∷ more) (close_in rest)
posting_first line rest account free is =
    close_of_line line rest free ∙ ap (λ o. if_whole (rest_of rest) (with_line o line (lines_of rest) (postings_in (lines_of rest)))) is
    ∙ with_whole (rest_of rest) (λ more. record { account = account; line = line } ∷ more) (postings_in (lines_of rest))

none_of_any : (rest : List ℕ) → if_whole rest None ≡ None
none_of_any [] = refl
none_of_any (b ∷ rest) = refl

-- of what is none: only the last line may be so
other_first : (line rest : List ℕ) → has_newline line ≡ false → account_in line ≡ None → (is_done line ≡ true → rest ≡ [] → ⊥) → close_in (line ++ 10 ∷ rest) ≡ None
other_first line rest free is not_last =
    close_of_line line rest free ∙ ap (λ o. if_whole (rest_of rest) (with_line o line (lines_of rest) (postings_in (lines_of rest)))) is ∙ by (input_lines rest) refl
  where
    last : (left : List ℕ) (done : Bool) → rest_of rest ≡ left → is_done line ≡ done → rest_of rest ≡ rest → if_whole left (cond done (Some []) None) ≡ None
    last [] true left_is done_is whole = absurd (not_last done_is (sym whole ∙ left_is))
    last [] false left_is done_is whole = refl
    last (b ∷ left) done left_is done_is whole = refl

    by : (ls : List InputLine) → input_lines rest ≡ ls → if_whole (rest_of rest) (with_line None line (map (λ (l : InputLine). l.text) ls) (postings_in (lines_of rest))) ≡ None
    by [] none = last (rest_of rest) (is_done line) refl refl (sym (ap (λ (ls : List InputLine). flat_map (λ (l : InputLine). l.text ++ 10 ∷ []) ls ++ rest_of rest) none) ∙ whole_again rest)
    by (l ∷ ls) some = none_of_any (rest_of rest)

done_first : (line : List ℕ) → has_newline line ≡ false → account_in line ≡ None → is_done line ≡ true → close_in (line ++ 10 ∷ []) ≡ Some []
done_first line free is done = close_of_line line [] free ∙ ap (λ o. with_line o line [] None) is ∙ rw done refl

no_line : (rest : List ℕ) → has_newline rest ≡ false → close_in rest ≡ None
no_line rest free = ap (λ (ls : List InputLine). if_whole (rest_of rest) (postings_in (map (λ (l : InputLine). l.text) ls))) (lines_of_part rest free) ∙ none_of_any (rest_of rest)

-- ---- after the postings so far

more_of : (done : List PostedLine) (p : PostedLine) (o : Option (List PostedLine)) → option_map (λ more. done ++ more) (option_map (λ more. p ∷ more) o) ≡ option_map (λ more. (done ++ p ∷ []) ++ more) o
more_of done p None = refl
more_of done p (Some l) = ap Some (sym (append_assoc done (p ∷ []) l))

-- one posting more
pub goes_on : (reply ahead line rest : List ℕ) (done : List PostedLine) (account : ℕ) → close_in reply ≡ option_map (λ more. done ++ more) (close_in ahead) → ahead ≡ line ++ 10 ∷ rest → has_newline line ≡ false
    → Some account ≡ account_in line → close_in reply ≡ option_map (λ more. (done ++ record { account = account; line = line } ∷ []) ++ more) (close_in rest)
goes_on reply ahead line rest done account so parts free is =
    so ∙ ap (λ a. option_map (λ more. done ++ more) (close_in a)) parts ∙ ap (option_map (λ more. done ++ more)) (posting_first line rest account free (sym is))
    ∙ more_of done (record { account = account; line = line }) (close_in rest)

-- a line that is none of a posting
pub ends : (reply ahead line rest : List ℕ) (done before after : List PostedLine) (last : Bool) → close_in reply ≡ option_map (λ more. done ++ more) (close_in ahead) → after ≡ before ++ done → ahead ≡ line ++ 10 ∷ rest
    → has_newline line ≡ false → None ≡ account_in line → (last ≡ true → (is_done line ≡ true) × (rest ≡ [])) → (last ≡ false → is_done line ≡ true → rest ≢ []) → Adds last (close_in reply) before after
ends reply ahead line rest done before after true so added parts free is last other = (
  done,
  so ∙ ap (λ a. option_map (λ more. done ++ more) (close_in a)) (parts ∙ ap (λ r. line ++ 10 ∷ r) (last refl).1) ∙ ap (option_map (λ more. done ++ more)) (done_first line free (sym is) (last refl).0) ∙ ap Some (append-nil done),
  added,
)
ends reply ahead line rest done before after false so added parts free is last other =
    so ∙ ap (λ a. option_map (λ more. done ++ more) (close_in a)) parts ∙ ap (option_map (λ more. done ++ more)) (other_first line rest free (sym is) (other refl))

-- no line
pub runs_out : (reply ahead : List ℕ) (done : List PostedLine) → close_in reply ≡ option_map (λ more. done ++ more) (close_in ahead) → has_newline ahead ≡ false → close_in reply ≡ None
runs_out reply ahead done so free = so ∙ ap (option_map (λ more. done ++ more)) (no_line ahead free)

pub begins : (reply : List ℕ) → close_in reply ≡ option_map (λ more. [] ++ more) (close_in reply)
begins reply = by (close_in reply)
  where
    by : (o : Option (List PostedLine)) → o ≡ option_map (λ more. [] ++ more) o
    by None = refl
    by (Some l) = refl

-- ---- one reply after another

pub none_if : (b : Bool) (o : Option (List PostedLine)) (before after : List PostedLine) → b ≡ false → Adds b o before after → o ≡ None
none_if b o before after e adds = subst (λ b. Adds b o before after) e adds

pub some_if : (b : Bool) (o : Option (List PostedLine)) (before after : List PostedLine) → b ≡ true → Adds b o before after → (postings : List PostedLine) × (o ≡ Some postings) × (after ≡ before ++ postings)
some_if b o before after e adds = subst (λ b. Adds b o before after) e adds

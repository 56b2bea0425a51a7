-- Marks of lines.
use Rattle.std.proofs.Common.{◌≡◌, ℕ, ◌+◌, ◌≤◌, List, [], ◌∷◌, ◌++◌, length, Option, Some, None, cond, sym, ap, ◌∙◌, subst, append_assoc, lt-ltb, inl, inr}
use Rattle.std.specs.Prelude.{option_map}
use Rattle.std.proofs.lemmas.Bool.{cases_lt}
use Rattle.pay_wire.specs.declared.limits.TheConstants.{MOST_LINE_BYTES}
use Rattle.pay_wire.specs.Words.{command_of}
use Rattle.pay_session.specs.Requests.{asked, rest_of, request_of, IsReadByLine}
use Rattle.pay_session.specs.declared.request.Request.TheVariants as requests
use Rattle.pay_account_lines.specs.declared.line_mark.LineMark.{LineMark}
use Rattle.pay_account_lines.specs.Marks.{mark_of, AreMarksOf}
use Rattle.pay_account_lines.specs.OwnLines.{account_of}

-- a tap and a correction have no more bytes than a line may have
pub fits : (line : List ℕ) (account : ℕ) → account_of (request_of line) ≡ Some account → length line ≤ MOST_LINE_BYTES
unfolding request_of
fits line account own = elim (cases_lt MOST_LINE_BYTES (length line)) [
  | inl long ↦ absurd (cc (ap (λ b. account_of (cond b requests.LongLine (asked (command_of line)))) (lt-ltb MOST_LINE_BYTES (length line) long), own))
  | inr short ↦ short
]

-- what a mark says of its line
pub marked_so : (line : List ℕ) (mark : LineMark) → mark_of line ≡ Some mark → (account_of (request_of line) ≡ Some mark.account) × (mark.bytes ≡ length line + 1)
marked_so line mark = at (account_of (request_of line))
  where
    at : (o : Option ℕ) → option_map {U = LineMark} (λ account. record { account = account; bytes = length line + 1 }) o ≡ Some mark → (o ≡ Some mark.account) × (mark.bytes ≡ length line + 1)
    at None e = absurd (cc)
    at (Some account) e =
        let same : ◌≡◌ {A = LineMark} (record { account = account; bytes = length line + 1 }) mark = cc in
        (ap (λ (m : LineMark). Some m.account) same, sym (ap (λ (m : LineMark). m.bytes) same))

pub marks_both : (marks others : List LineMark) (text more : List ℕ) → AreMarksOf marks text → AreMarksOf others more → AreMarksOf (marks ++ others) (text ++ more)
marks_both [] others text more none are = subst (λ t. AreMarksOf others (t ++ more)) (sym none) are
marks_both (mark ∷ marks) others text more (rest, first, after) are = (
  rest ++ more,
  record {
    line = first.line;
    parts = ap (λ t. t ++ more) first.parts ∙ append_assoc first.line (10 ∷ rest) more;
    whole = first.whole;
    marked = first.marked;
  },
  marks_both marks others rest more after are,
)

-- nothing stands after the last newline
pub no_rest : IsReadByLine → (marks : List LineMark) (text : List ℕ) → AreMarksOf marks text → rest_of text ≡ []
no_rest by [] text none = ap rest_of none
no_rest by (mark ∷ marks) text (more, first, after) = ap rest_of first.parts ∙ by.rest first.line more ∙ no_rest by marks more after

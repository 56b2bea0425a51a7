-- The marks of lines.
use Rattle.std.specs.Prelude.{◌≡◌, ℕ, ◌+◌, false, List, [], ◌∷◌, ◌++◌, length, Option, Some, option_map}
use Rattle.pay_session.specs.Requests.{has_newline, request_of}
use Rattle.pay_account_lines.specs.declared.line_mark.LineMark.{LineMark}
use Rattle.pay_account_lines.specs.OwnLines.{account_of}

-- the mark of a line, if it is a tap or a correction
abbrev pub mark_of : List ℕ → Option LineMark
mark_of line = option_map (λ (account : ℕ). record { account = account; bytes = length line + 1 }) (account_of (request_of line))

-- a text begins with a line of this mark, and then there is more
pub record IsMarkOf (mark : LineMark) (text more : List ℕ) : Type 0 where
  pub line : List ℕ
  pub parts : text ≡ line ++ 10 ∷ more
  pub whole : has_newline line ≡ false
  pub marked : mark_of line ≡ Some mark

-- the marks of all lines of a text, in their order, which has nothing after its last newline
abbrev pub AreMarksOf : List LineMark → List ℕ → Type 0
AreMarksOf [] text = text ≡ []
AreMarksOf (mark ∷ marks) text = (more : List ℕ) × IsMarkOf mark text more × AreMarksOf marks more

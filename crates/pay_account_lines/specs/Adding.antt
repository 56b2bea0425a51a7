-- What comes of a text whose lines are added.
use Rattle.std.specs.Prelude.{◌≡◌, ℕ, ◌+◌, ◌≤◌, List, ◌∷◌, ◌++◌, length, take, drop, None, IsSome, ⊤}
use Rattle.std.specs.List.{AllByRecursion}
use Rattle.pay_session.specs.Requests.{line_requests, rest_of}
use Rattle.pay_session.specs.declared.request.Request.{Request}
use Rattle.pay_account_lines.specs.declared.account_lines.LineFault.{LineFault}
use Rattle.pay_account_lines.specs.declared.account_lines.LineFault.TheVariants as fault
use Rattle.pay_account_lines.specs.declared.line_mark.LineMark.{LineMark}
use Rattle.pay_account_lines.specs.Marks.{AreMarksOf}
use Rattle.pay_account_lines.specs.OwnLines.{account_of}

-- a request is the tap or the correction of an account
abbrev pub HasAccount : Request → Type 0
HasAccount request = IsSome (account_of request)

-- the line of this number, from 1, is the first that is neither
pub record IsOther (text : List ℕ) (line : ℕ) : Type 0 where
  pub done : List Request
  pub request : Request
  pub others : List Request
  pub requests : line_requests text ≡ done ++ request ∷ others
  pub counted : line ≡ length done + 1
  pub owned : AllByRecursion HasAccount done
  pub other : account_of request ≡ None

-- why the lines of a text are not added
abbrev pub IsRefused : List ℕ → LineFault → Type 0
IsRefused text (fault.Line line) = IsOther text line
IsRefused text fault.Memory = ⊤

-- the marks of all whole lines of a text were added, which are so many bytes of it
pub record AreAdded (before after : List LineMark) (text : List ℕ) (taken : ℕ) : Type 0 where
  pub marks : List LineMark
  pub added : after ≡ before ++ marks
  pub marked : AreMarksOf marks (take taken text)
  pub fits : taken ≤ length text
  pub rest : drop taken text ≡ rest_of text
  pub owned : AllByRecursion HasAccount (line_requests text)

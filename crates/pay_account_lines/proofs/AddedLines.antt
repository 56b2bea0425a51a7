-- The lines of a text, added one after another.
use Rattle.std.proofs.Common.{◌≡◌, ℕ, ◌+◌, false, Result, Ok, Err, IfOk, is_err, List, [], ◌∷◌, ◌++◌, take, Some, sym, ap, ◌∙◌, subst, refl, append_assoc, append-nil}
use Rattle.pay_session.specs.Requests.{has_newline, IsReadByLine}
use Rattle.pay_account_lines.specs.declared.account_lines.LineFault.{LineFault}
use Rattle.pay_account_lines.specs.declared.line_mark.LineMark.{LineMark}
use Rattle.pay_account_lines.specs.Adding.{AreAdded}
use Rattle.pay_account_lines.specs.Marks.{mark_of, AreMarksOf}
use Rattle.pay_account_lines.proofs.Marked.{marked_so, marks_both}
use Rattle.pay_account_lines.proofs.ReadLines.{AreRead, none_read, one_read}

-- so far: the marks of the lines before those that are left were added, and the next has this number
pub record IsUnderway (before after : List LineMark) (text left : List ℕ) (number : ℕ) : Type 0 where
  pub marks : List LineMark
  pub front : List ℕ
  pub added : after ≡ before ++ marks
  pub parts : text ≡ front ++ left
  pub marked : AreMarksOf marks front
  pub read : AreRead text left number

pub none_yet : (before : List LineMark) (text : List ℕ) → IsUnderway before before text text 1
none_yet before text = record {
  marks = [];
  front = [];
  added = sym (append-nil before);
  parts = refl;
  marked = refl;
  read = none_read text;
}

-- a line more
pub one_more : IsReadByLine → (before after : List LineMark) (text left line more : List ℕ) (number : ℕ) (mark : LineMark) → IsUnderway before after text left number
    → left ≡ line ++ 10 ∷ more → has_newline line ≡ false → mark_of line ≡ Some mark → IsUnderway before (after ++ mark ∷ []) text more (number + 1)
one_more by before after text left line more number mark so parts whole marked = record {
  marks = so.marks ++ mark ∷ [];
  front = so.front ++ (line ++ 10 ∷ []);
  added = ap (λ marks. marks ++ mark ∷ []) so.added ∙ append_assoc before so.marks (mark ∷ []);
  parts = so.parts ∙ ap (λ l. so.front ++ l) (parts ∙ sym (append_assoc line (10 ∷ []) more)) ∙ sym (append_assoc so.front (line ++ 10 ∷ []) more);
  marked = marks_both so.marks (mark ∷ []) so.front (line ++ 10 ∷ []) so.marked ([], record { line = line; parts = refl; whole = whole; marked = marked }, refl);
  read = one_read by text left line more number mark.account so.read parts whole (marked_so line mark marked).0;
}

-- the marks of all lines are those from before and the new ones
pub marked_after : (result : Result ℕ LineFault) (before after : List LineMark) (bytes longer text : List ℕ) → is_err result ≡ false → IfOk result (AreAdded before after text)
    → IfOk result (λ taken. longer ≡ bytes ++ take taken text) → AreMarksOf before bytes → AreMarksOf after longer
marked_after (Err fault) before after bytes longer text ok added is are = absurd (cc)
marked_after (Ok taken) before after bytes longer text ok added is are =
    subst (λ l. AreMarksOf after l) (sym is) (subst (λ marks. AreMarksOf marks (bytes ++ take taken text)) (sym added.added) (marks_both before added.marks bytes (take taken text) are added.marked))

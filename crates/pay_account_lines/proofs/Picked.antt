-- The lines of one account, picked by the marks.
use Rattle.std.proofs.Common.{◌≡◌, ℕ, ◌+◌, ◌-◌, ◌≤◌, ◌<◌, get_or, cond, eqb, List, [], ◌∷◌, ◌++◌, length, take, drop, sym, ap, ◌∙◌, subst, arith, append_assoc, length-append, length-drop, drop-drop}
use Rattle.std.proofs.lemmas.Bool.{eq-eqb, ne_eqb}
use Rattle.std.proofs.lemmas.List.{drop_more}
use Rattle.std.proofs.Math.Seq.{drop-append_seam, take-append_seam}
use Rattle.pay_account_lines.specs.declared.line_mark.LineMark.{LineMark}
use Rattle.pay_account_lines.specs.Marks.{AreMarksOf}
use Rattle.pay_account_lines.specs.OwnLines.{is_same, own_lines}
use Rattle.pay_account_lines.proofs.Lines.{own_first}
use Rattle.pay_account_lines.proofs.Marked.{marked_so}

-- so far: these are the account's lines of the text before a place, where the lines of these marks begin
pub record IsPicked (account : ℕ) (text own : List ℕ) (start : ℕ) (marks : List LineMark) : Type 0 where
  pub fits : start ≤ length text
  pub marked : AreMarksOf marks (drop start text)
  pub picked : own_lines account text ≡ own ++ own_lines account (drop start text)

-- the line of the first mark
pub record IsNext (account : ℕ) (text : List ℕ) (start : ℕ) (mark : LineMark) (marks : List LineMark) : Type 0 where
  pub fits : start + mark.bytes ≤ length text
  pub marked : AreMarksOf marks (drop (start + mark.bytes) text)
  pub own : own_lines account (drop start text) ≡ cond (eqb mark.account account) (take mark.bytes (drop start text)) [] ++ own_lines account (drop (start + mark.bytes) text)

pub next_line : (account : ℕ) (text own : List ℕ) (start : ℕ) (mark : LineMark) (marks : List LineMark) → IsPicked account text own start (mark ∷ marks) → IsNext account text start mark marks
next_line account text own start mark marks so =
    let (more, first, after) = so.marked in
    let line = first.line in
    let said = marked_so line mark first.marked in
    let ended : drop start text ≡ (line ++ 10 ∷ []) ++ more = first.parts ∙ sym (append_assoc line (10 ∷ []) more) in
    let size : length (line ++ 10 ∷ []) ≡ mark.bytes = length-append line (10 ∷ []) ∙ sym said.1 in
    let rest : drop (start + mark.bytes) text ≡ more = sym (drop-drop mark.bytes start text) ∙ ap (drop mark.bytes) ended ∙ ap (λ n. drop n ((line ++ 10 ∷ []) ++ more)) (sym size) ∙ drop-append_seam (line ++ 10 ∷ []) more in
    let front : take mark.bytes (drop start text) ≡ line ++ 10 ∷ [] = ap (take mark.bytes) ended ∙ ap (λ n. take n ((line ++ 10 ∷ []) ++ more)) (sym size) ∙ take-append_seam (line ++ 10 ∷ []) more in
    record {
      fits = omega (arith, so.fits, size, ap length ended, length-drop start text, length-append (line ++ 10 ∷ []) more);
      marked = subst (AreMarksOf marks) (sym rest) after;
      own = ap (own_lines account) first.parts ∙ own_first account line more first.whole
          ∙ ap (λ o. cond (is_same account o) (line ++ 10 ∷ []) [] ++ own_lines account more) said.0
          ∙ ap (λ l. cond (eqb mark.account account) l [] ++ own_lines account more) (sym front)
          ∙ ap (λ l. cond (eqb mark.account account) (take mark.bytes (drop start text)) [] ++ own_lines account l) (sym rest);
    }

-- in the lists as they are shown, the marks from a place begin with the one there
pub at_mark : (account : ℕ) (text own : List ℕ) (start : ℕ) (marks shown : List LineMark) (place : ℕ) → shown ≡ marks → place < length shown → IsPicked account text own start (drop place marks)
    → IsPicked account text own start (get_or shown place (record { account = 0; bytes = 0 }) ∷ drop (place + 1) marks)
at_mark account text own start marks shown place same lt so =
    subst (λ l. IsPicked account text own start (get_or shown place (record { account = 0; bytes = 0 }) ∷ drop (place + 1) l)) same
    (subst (IsPicked account text own start) (drop_more shown place (record { account = 0; bytes = 0 }) lt) (subst (λ l. IsPicked account text own start (drop place l)) (sym same) so))

-- the next line is the account's, and is picked
pub own_next : (account : ℕ) (text own : List ℕ) (start : ℕ) (mark : LineMark) (marks : List LineMark) → IsPicked account text own start (mark ∷ marks) → mark.account ≡ account
    → (shown longer : List ℕ) (bytes next : ℕ) → shown ≡ text → bytes ≡ mark.bytes → next ≡ start + bytes → longer ≡ own ++ take (start + bytes - start) (drop start shown) → IsPicked account text longer next marks
own_next account text own start mark marks so is shown longer bytes next same sized ends added =
    let line = next_line account text own start mark marks so in
    let size : start + bytes - start ≡ mark.bytes = omega arith in
    let picked : own ++ take mark.bytes (drop start text) ≡ longer = sym (added ∙ ap (λ n. own ++ take n (drop start shown)) size ∙ ap (λ l. own ++ take mark.bytes (drop start l)) same) in
    let end : start + mark.bytes ≡ next = omega arith in
    subst (λ l. IsPicked account text l next marks) picked
    (subst (λ n. IsPicked account text (own ++ take mark.bytes (drop start text)) n marks) end
    (record {
      fits = line.fits;
      marked = line.marked;
      picked = so.picked ∙ ap (λ l. own ++ l) (line.own ∙ ap (λ b. cond b (take mark.bytes (drop start text)) [] ++ own_lines account (drop (start + mark.bytes) text)) (eq-eqb mark.account account is))
          ∙ sym (append_assoc own (take mark.bytes (drop start text)) (own_lines account (drop (start + mark.bytes) text)));
    }))

-- it is another's, and is passed over
pub other_next : (account : ℕ) (text own : List ℕ) (start : ℕ) (mark : LineMark) (marks : List LineMark) → IsPicked account text own start (mark ∷ marks) → (mark.account ≡ account → ⊥)
    → (kept : List ℕ) (bytes next : ℕ) → bytes ≡ mark.bytes → next ≡ start + bytes → kept ≡ own → IsPicked account text kept next marks
other_next account text own start mark marks so other kept bytes next sized ends same =
    let line = next_line account text own start mark marks so in
    let end : start + mark.bytes ≡ next = omega arith in
    subst (λ l. IsPicked account text l next marks) (sym same)
    (subst (λ n. IsPicked account text own n marks) end
    (record {
      fits = line.fits;
      marked = line.marked;
      picked = so.picked ∙ ap (λ l. own ++ l) (line.own ∙ ap (λ b. cond b (take mark.bytes (drop start text)) [] ++ own_lines account (drop (start + mark.bytes) text)) (ne_eqb mark.account account other));
    }))

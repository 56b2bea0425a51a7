-- The lines of one account in a text, picked as they are read.
use Rattle.std.proofs.Common.{◌≡◌, ◌≢◌, ℕ, ◌+◌, ◌-◌, ◌==◌, ◌≤◌, Bool, false, cond, List, [], ◌∷◌, ◌++◌, map, length, Some, sym, ap, ◌∙◌, refl, arith, append_assoc, append-nil, length-append, zero-add}
use Rattle.std.specs.Prelude.{filter}
use Rattle.std.specs.List.{flat_map}
use Rattle.std.proofs.lemmas.Bool.{ne_eqb}
use Rattle.pay_session.specs.Requests.{InputLine, input_lines, has_newline, request_of, line_requests, IsReadByLine}
use Rattle.pay_session.specs.declared.request.Request.{Request}
use Rattle.pay_account_lines.specs.OwnLines.{account_of, is_own, is_same, line_text, own_lines, lines_through}
use Rattle.pay_account_lines.proofs.Lines.{own_first}
use Rattle.pay_account_lines.proofs.ReadLines.{AreRead, none_read, one_read}

-- so far: these are the account's lines before those that are left, of which the first has this number
pub record ArePicked (account : ℕ) (text left own : List ℕ) (number : ℕ) : Type 0 where
  pub read : AreRead text left number
  pub picked : own_lines account text ≡ own ++ own_lines account left

pub none_picked : (account : ℕ) (text : List ℕ) → ArePicked account text text [] 1
none_picked account text = record { read = none_read text; picked = refl }

-- a line more, which is the account's or not
pub one_picked : IsReadByLine → (account : ℕ) (text left own longer line more : List ℕ) (number of : ℕ) (is : Bool) → ArePicked account text left own number → left ≡ line ++ 10 ∷ more
    → has_newline line ≡ false → account_of (request_of line) ≡ Some of → (of == account) ≡ is → longer ≡ own ++ cond is (line ++ 10 ∷ []) [] → ArePicked account text more longer (number + 1)
one_picked by account text left own longer line more number of is so parts whole its same added = record {
  read = one_read by text left line more number of so.read parts whole its;
  picked = so.picked
      ∙ ap (λ l. own ++ l) (ap (own_lines account) parts ∙ own_first account line more whole ∙ ap (λ o. cond (is_same account o) (line ++ 10 ∷ []) [] ++ own_lines account more) its
      ∙ ap (λ b. cond b (line ++ 10 ∷ []) [] ++ own_lines account more) same)
      ∙ sym (append_assoc own (cond is (line ++ 10 ∷ []) []) (own_lines account more)) ∙ ap (λ l. l ++ own_lines account more) (sym added);
}

-- a text without a whole line has none of an account
no_lines : (lines : List InputLine) → map (λ (l : InputLine). request_of l.text) lines ≡ [] → lines ≡ []
no_lines [] none = refl
no_lines (line ∷ lines) none = absurd (cc)

pub all_picked : IsReadByLine → (account : ℕ) (text left own : List ℕ) (number : ℕ) → ArePicked account text left own number → has_newline left ≡ false → own ≡ own_lines account text
all_picked by account text left own number so none =
    let nothing : own_lines account left ≡ [] = ap (λ (lines : List InputLine). flat_map line_text (filter (λ line. is_own account (request_of line.text)) lines)) (no_lines (input_lines left) (by.no_line left none)) in
    sym (so.picked ∙ ap (λ l. own ++ l) nothing ∙ append-nil own)

-- so many lines were counted, up to those that are left, where more of the account's own are sought
pub record AreCounted (account own : ℕ) (text left : List ℕ) (more lines : ℕ) : Type 0 where
  pub counted : lines_through account own (line_requests text) ≡ lines + lines_through account more (line_requests left)
  pub few : lines + length left ≤ length text

pub none_counted : (account own : ℕ) (text : List ℕ) → AreCounted account own text text own 0
none_counted account own text = record { counted = sym (zero-add _); few = omega arith }

pub one_counted : IsReadByLine → (account own : ℕ) (text left line rest : List ℕ) (more lines fewer : ℕ) → AreCounted account own text left more lines → left ≡ line ++ 10 ∷ rest
    → has_newline line ≡ false → more ≢ 0 → fewer ≡ cond (is_own account (request_of line)) (more - 1) more → AreCounted account own text rest fewer (lines + 1)
one_counted by account own text left line rest more lines fewer so parts whole some its = record {
  counted = so.counted ∙ ap (λ n. lines + n)
      (ap (lines_through account more) (ap line_requests parts ∙ by.line line rest whole)
      ∙ ap (λ b. cond b 0 (1 + lines_through account (cond (is_own account (request_of line)) (more - 1) more) (line_requests rest))) (ne_eqb more 0 some)
      ∙ ap (λ n. 1 + lines_through account n (line_requests rest)) (sym its))
      ∙ sum (lines_through account fewer (line_requests rest));
  few = omega (arith, so.few, ap length parts, length-append line (10 ∷ rest));
}
  where
    sum : (n : ℕ) → lines + (1 + n) ≡ lines + 1 + n
    sum n = omega arith

-- none of the account's own is sought any more, or nothing is left
pub enough_counted : (account own : ℕ) (text left : List ℕ) (more lines : ℕ) → AreCounted account own text left more lines → more ≡ 0 → lines ≡ lines_through account own (line_requests text)
enough_counted account own text left more lines so none = sym (so.counted ∙ ap (λ n. lines + n) (ap (λ n. lines_through account n (line_requests left)) none ∙ through_none (line_requests left)) ∙ omega arith)
  where
    through_none : (list : List Request) → lines_through account 0 list ≡ 0
    through_none [] = refl
    through_none (r ∷ rs) = refl

pub all_counted : IsReadByLine → (account own : ℕ) (text left : List ℕ) (more lines : ℕ) → AreCounted account own text left more lines → has_newline left ≡ false
    → lines ≡ lines_through account own (line_requests text)
all_counted by account own text left more lines so none = sym (so.counted ∙ ap (λ n. lines + n) (ap (lines_through account more) (by.no_line left none)) ∙ omega arith)

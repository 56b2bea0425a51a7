-- The lines of a text, read one after another.
use Rattle.std.proofs.Common.{◌≡◌, ℕ, ◌+◌, ◌≤◌, false, List, [], ◌∷◌, ◌++◌, length, Some, IsSome, sym, ap, ◌∙◌, subst, refl, arith, append_assoc, length-append}
use Rattle.std.specs.List.{AllByRecursion}
use Rattle.pay_session.specs.Requests.{rest_of, has_newline, request_of, line_requests, IsReadByLine}
use Rattle.pay_session.specs.declared.request.Request.{Request}
use Rattle.pay_account_lines.specs.Adding.{HasAccount}
use Rattle.pay_account_lines.specs.OwnLines.{account_of}

-- so far: the lines before those that are left are taps and corrections, and the next has this number
pub record AreRead (text left : List ℕ) (number : ℕ) : Type 0 where
  pub done : List Request
  pub requests : line_requests text ≡ done ++ line_requests left
  pub rest : rest_of text ≡ rest_of left
  pub owned : AllByRecursion HasAccount done
  pub counted : number ≡ length done + 1
  pub few : number + length left ≤ length text + 1

pub none_read : (text : List ℕ) → AreRead text text 1
none_read text = record {
  done = [];
  requests = refl;
  rest = refl;
  owned = tt;
  counted = refl;
  few = omega arith;
}

all_one : {X : Type 0} (P : X → Type 0) (xs : List X) (x : X) → AllByRecursion P xs → P x → AllByRecursion P (xs ++ x ∷ [])
all_one P [] x f g = (g, tt)
all_one P (y ∷ xs) x f g = (f.0, all_one P xs x f.1 g)

-- a line more
pub one_read : IsReadByLine → (text left line more : List ℕ) (number account : ℕ) → AreRead text left number → left ≡ line ++ 10 ∷ more → has_newline line ≡ false
    → account_of (request_of line) ≡ Some account → AreRead text more (number + 1)
one_read by text left line more number account so parts whole its =
    let request = request_of line in
    record {
      done = so.done ++ request ∷ [];
      requests = so.requests ∙ ap (λ l. so.done ++ l) (ap line_requests parts ∙ by.line line more whole) ∙ sym (append_assoc so.done (request ∷ []) (line_requests more));
      rest = so.rest ∙ ap rest_of parts ∙ by.rest line more;
      owned = all_one HasAccount so.done request so.owned (subst IsSome (sym its) refl);
      counted = omega (arith, so.counted, length-append so.done (request ∷ []));
      few = omega (arith, so.few, ap length parts, length-append line (10 ∷ more));
    }

-- That commands are read back from their lines, whole or cut.
use Rattle.std.proofs.Common.{◌≡◌, ℕ, ◌+◌, ◌-◌, ◌<◌, ◌≤◌, zero, suc, Bool, true, false, ◌||◌, cond, eqb, List, [], ◌∷◌, ◌++◌, map, length, take, drop, Some, sym, ap, ◌∙◌, refl, arith, le-ltb, append_assoc, length-append, take-append-drop, codes, inl, inr, ◌⊎◌}
use Rattle.std.specs.Prelude.{◌≢◌, All}
use Rattle.std.specs.List.{AllByRecursion}
use Rattle.std.proofs.Math.Seq.{take-append-add}
use Rattle.std.proofs.lemmas.Bool.{cases_lt, ne_eqb}
use Rattle.std.proofs.lemmas.List.{take-append-le}
use Rattle.std.proofs.lemmas.List.Elements.{All-head, All-tail}
use Rattle.std.proofs.lemmas.List.Folds.{list_any-append}
use Rattle.pay_day.specs.Words.{IsDay}
use Rattle.pay_wire.specs.declared.limits.TheConstants.{MOST_LINE_BYTES}
use Rattle.pay_wire.specs.declared.command.SpelledTap.{SpelledTap}
use Rattle.pay_wire.specs.declared.command.SpelledFix.{SpelledFix}
use Rattle.pay_wire.specs.declared.command.SpelledCommand.{SpelledCommand}
use Rattle.pay_wire.specs.declared.command.SpelledCommand.TheVariants.{Tap, Fix, Due, Show, Close, Quit}
use Rattle.pay_wire.specs.Spellings.{IsSpelledTap, spelling_of_tap, IsSpelledFix, spelling_of_fix, IsAccountDay, spelling_of_due, spelling_of_show, spelling_of_close, IsSpelled, spelling_of_command, Spells, IsLine}
use Rattle.pay_wire.specs.Words.{command_of}
use Rattle.pay_journal_laws.specs.CommandLines.{lines_of, HasWholeLines}
use Rattle.pay_session.specs.Requests.{asked, has_newline, line_requests, request_of, rest_of, IsReadByLine}
use Rattle.pay_session.specs.declared.request.Request.TheVariants as requests

-- ---- a spelling is a line

-- the laws of pay_wire, taken as premises, since another crate's proofs are not named here
abbrev AreRead : Type 0
AreRead = (line : List ℕ) (command : SpelledCommand) → Spells line command → command_of line ≡ Some command

abbrev AreLines : Type 0
AreLines = (command : SpelledCommand) → IsSpelled command → IsLine (spelling_of_command command)

pub all_lines : ((tap : SpelledTap) → IsSpelledTap tap → IsLine (spelling_of_tap tap)) → ((fix : SpelledFix) → IsSpelledFix fix → IsLine (spelling_of_fix fix))
    → ((account day : ℕ) → IsAccountDay account day → IsLine (spelling_of_due account day)) → ((account day : ℕ) → IsAccountDay account day → IsLine (spelling_of_show account day))
    → ((day : ℕ) → IsDay day → IsLine (spelling_of_close day)) → IsLine (codes "QUIT") → AreLines
all_lines taps fixes dues shows closes quit (Tap tap) h = taps tap h
all_lines taps fixes dues shows closes quit (Fix fix) h = fixes fix h
all_lines taps fixes dues shows closes quit (Due account day) h = dues account day h
all_lines taps fixes dues shows closes quit (Show account day) h = shows account day h
all_lines taps fixes dues shows closes quit (Close day) h = closes day h
all_lines taps fixes dues shows closes quit Quit h = quit

no_newline : (line : List ℕ) → All (λ byte. byte ≢ 10) line → has_newline line ≡ false
no_newline [] h = refl
no_newline (b ∷ bs) h = ap (λ c. c || has_newline bs) (ne_eqb b 10 (All-head (λ byte. byte ≢ 10) b bs h)) ∙ no_newline bs (All-tail (λ byte. byte ≢ 10) b bs h)

neither : (a b : Bool) → (a || b) ≡ false → a ≡ false
neither true b h = h
neither false b h = refl

no_newline_front : (n : ℕ) (line : List ℕ) → has_newline line ≡ false → has_newline (take n line) ≡ false
no_newline_front n line h =
    neither (has_newline (take n line)) (has_newline (drop n line)) (sym (list_any-append (λ b. eqb b 10) (take n line) (drop n line)) ∙ ap has_newline (take-append-drop n line) ∙ h)

-- ---- a line before others, and what a cut leaves of it

-- a line with its newline, before what stands after it
joined : (z x y : List ℕ) → ((z ++ codes "\n") ++ x) ++ y ≡ z ++ 10 ∷ (x ++ y)
joined z x y = append_assoc (z ++ codes "\n") x y ∙ append_assoc z (codes "\n") (x ++ y)

line_size : (s more : List ℕ) → length ((s ++ codes "\n") ++ more) ≡ length s + 1 + length more
line_size s more =
    let one : length (s ++ codes "\n") ≡ length s + 1 = length-append s (codes "\n") in
    omega (arith, length-append (s ++ codes "\n") more, one)

none_less : (n : ℕ) → 0 ≤ n
none_less n = omega arith

cut_within : (s more : List ℕ) (n : ℕ) → n ≤ length s → take n ((s ++ codes "\n") ++ more) ≡ take n s
cut_within s more n h = ap (take n) (append_assoc s (codes "\n") more) ∙ take-append-le n s (codes "\n" ++ more) h

cut_after : (s more : List ℕ) (n : ℕ) → length s < n → take n ((s ++ codes "\n") ++ more) ≡ s ++ 10 ∷ take (n - length s - 1) more
cut_after s more n h =
    let whole : n ≡ length s + suc (n - length s - 1) = omega (arith, h) in
    ap (take n) (append_assoc s (codes "\n") more) ∙ ap (λ k. take k (s ++ 10 ∷ more)) whole ∙ take-append-add s (10 ∷ more) (suc (n - length s - 1))

module _ (by_line : IsReadByLine) (reads : AreRead) (are_lines : AreLines) where
  whole_line : (c : SpelledCommand) → IsSpelled c → has_newline (spelling_of_command c) ≡ false
  whole_line c h = no_newline (spelling_of_command c) (are_lines c h).1

  asks_it : (c : SpelledCommand) → IsSpelled c → request_of (spelling_of_command c) ≡ requests.Command c
  unfolding request_of
  asks_it c h =
      let s = spelling_of_command c in
      ap (λ b. cond b requests.LongLine (asked (command_of s))) (le-ltb MOST_LINE_BYTES (length s) (are_lines c h).0) ∙ ap asked (reads s c (h, refl))

  -- what is read of a line before others
  first_read : (c : SpelledCommand) (more : List ℕ) → IsSpelled c → line_requests (spelling_of_command c ++ 10 ∷ more) ≡ requests.Command c ∷ line_requests more
  first_read c more h = by_line.line (spelling_of_command c) more (whole_line c h) ∙ ap (λ r. r ∷ line_requests more) (asks_it c h)

  pub read_back : (commands : List SpelledCommand) → AllByRecursion IsSpelled commands → (line_requests (lines_of commands) ≡ map requests.Command commands) × (rest_of (lines_of commands) ≡ [])
  read_back [] h = (refl, refl)
  read_back (c ∷ cs) h =
      let s = spelling_of_command c in
      let is : lines_of (c ∷ cs) ≡ s ++ 10 ∷ lines_of cs = append_assoc s (codes "\n") (lines_of cs) in
      let again = read_back cs h.1 in (
        ap line_requests is ∙ first_read c (lines_of cs) h.0 ∙ ap (λ rs. requests.Command c ∷ rs) again.0,
        ap rest_of is ∙ by_line.rest s (lines_of cs) ∙ again.1,
      )

  -- ---- a cut

  none_whole : (n : ℕ) → take n (lines_of []) ≡ [] → HasWholeLines [] n 0
  none_whole n none = record {
    read = ap line_requests none;
    parts = none ∙ ap rest_of (sym none);
    some = none_less 0;
    within = none_less n;
    most = λ m few fits. few;
  }

  cut_in_first : (c : SpelledCommand) (cs : List SpelledCommand) (n : ℕ) → IsSpelled c → n ≤ length (spelling_of_command c) → HasWholeLines (c ∷ cs) n 0
  cut_in_first c cs n h short =
      let s = spelling_of_command c in
      let is : take n (lines_of (c ∷ cs)) ≡ take n s = cut_within s (lines_of cs) n short in
      let part = no_newline_front n s (whole_line c h) in
      record {
        read = ap line_requests is ∙ by_line.no_line (take n s) part;
        parts = is ∙ sym (by_line.all_rest (take n s) part) ∙ ap rest_of (sym is);
        some = none_less (length (c ∷ cs));
        within = none_less n;
        most = too_many;
      }
    where
      too_many : (m : ℕ) → m ≤ length (c ∷ cs) → length (lines_of (take m (c ∷ cs))) ≤ n → m ≤ 0
      too_many zero few fits = none_less 0
      too_many (suc m) few fits =
          let s = spelling_of_command c in
          let all : length ((s ++ codes "\n") ++ lines_of (take m cs)) ≤ n = fits in
          absurd (omega (arith, short, all, line_size s (lines_of (take m cs))))

  cut_after_first : (c : SpelledCommand) (cs : List SpelledCommand) (n whole : ℕ) → IsSpelled c → length (spelling_of_command c) < n → HasWholeLines cs (n - length (spelling_of_command c) - 1) whole
      → HasWholeLines (c ∷ cs) n (suc whole)
  cut_after_first c cs n whole h long f =
      let s = spelling_of_command c in
      let left = take (n - length s - 1) (lines_of cs) in
      let is : take n (lines_of (c ∷ cs)) ≡ s ++ 10 ∷ left = cut_after s (lines_of cs) n long in
      let beyond : rest_of left ≡ rest_of (take n (lines_of (c ∷ cs))) = sym (by_line.rest s left) ∙ ap rest_of (sym is) in
      let lines_left = lines_of (take whole cs) in
      let within : length ((s ++ codes "\n") ++ lines_left) ≤ n = omega (arith, long, f.within, line_size s lines_left) in
      let some : suc whole ≤ suc (length cs) = omega (arith, f.some) in
      record {
        read = ap line_requests is ∙ first_read c left h ∙ ap (λ rs. requests.Command c ∷ rs) f.read;
        parts = is ∙ ap (λ l. s ++ 10 ∷ l) f.parts ∙ sym (joined s lines_left (rest_of left)) ∙ ap (λ r. ((s ++ codes "\n") ++ lines_left) ++ r) beyond;
        some = some;
        within = within;
        most = no_more;
      }
    where
      no_more : (m : ℕ) → m ≤ length (c ∷ cs) → length (lines_of (take m (c ∷ cs))) ≤ n → m ≤ suc whole
      no_more zero few fits = none_less (suc whole)
      no_more (suc m) few fits =
          let s = spelling_of_command c in
          let fewer : suc m ≤ suc (length cs) = few in
          let all : length ((s ++ codes "\n") ++ lines_of (take m cs)) ≤ n = fits in
          let beyond : m ≤ whole = f.most m (omega (arith, fewer)) (omega (arith, all, long, line_size s (lines_of (take m cs)))) in
          omega (arith, beyond)

  pub cut : (commands : List SpelledCommand) → AllByRecursion IsSpelled commands → (n : ℕ) → (whole : ℕ) × HasWholeLines commands n whole
  cut [] h zero = (0, none_whole zero refl)
  cut [] h (suc n) = (0, none_whole (suc n) refl)
  cut (c ∷ cs) h n = by_size (cases_lt (length (spelling_of_command c)) n) (cut cs h.1 (n - length (spelling_of_command c) - 1))
    where
      by_size : (length (spelling_of_command c) < n) ⊎ (n ≤ length (spelling_of_command c)) → ((whole : ℕ) × HasWholeLines cs (n - length (spelling_of_command c) - 1) whole) → ((whole : ℕ) × HasWholeLines (c ∷ cs) n whole)
      by_size (inl long) f = (suc f.0, cut_after_first c cs n f.0 h.0 long f.1)
      by_size (inr short) f = (0, cut_in_first c cs n h.0 short)

  pub one_lost : (commands : List SpelledCommand) (last : SpelledCommand) → AllByRecursion IsSpelled (commands ++ last ∷ []) → (n : ℕ) → length (lines_of commands) ≤ n → n < length (lines_of (commands ++ last ∷ []))
      → line_requests (take n (lines_of (commands ++ last ∷ []))) ≡ map requests.Command commands
  one_lost [] last h n low high =
      let s = spelling_of_command last in
      let short : n < length ((s ++ codes "\n") ++ []) = high in
      ap line_requests (cut_within s [] n (omega (arith, short, line_size s []))) ∙ by_line.no_line (take n s) (no_newline_front n s (whole_line last h.0))
  one_lost (c ∷ cs) last h n low high =
      let s = spelling_of_command c in
      let all = lines_of (cs ++ last ∷ []) in
      let least : length ((s ++ codes "\n") ++ lines_of cs) ≤ n = low in
      let most : n < length ((s ++ codes "\n") ++ all) = high in
      let size = line_size s (lines_of cs) in
      let left = n - length s - 1 in
      ap line_requests (cut_after s all n (omega (arith, least, size))) ∙ first_read c (take left all) h.0
      ∙ ap (λ rs. requests.Command c ∷ rs) (one_lost cs last h.1 left (omega (arith, least, size)) (omega (arith, least, most, size, line_size s all)))

-- An input by its lines: how it is cut, what QUIT ends, and that a line leaves those after it alone.
use Rattle.std.proofs.Common.{◌≡◌, ℕ, ◌<◌, ◌≤◌, Bool, true, false, ◌||◌, cond, nat_lt, eqb, List, [], ◌∷◌, ◌++◌, map, length, Option, Some, None, sym, ap, ◌∙◌, subst, refl, arith, le-ltb, lt-ltb, append_assoc, append-nil, eqb-true, codes}
use Rattle.std.specs.Prelude.{◌≢◌}
use Rattle.std.specs.List.{list_any, AllByRecursion, flat_map}
use Rattle.pay_wire.specs.declared.limits.TheConstants.{MOST_LINE_BYTES}
use Rattle.pay_wire.specs.Words.{command_of, Spells}
use Rattle.pay_session.specs.Requests.{InputLine, asked, input_lines, rest_of, has_newline, request_of, request_of_rest, is_quit, through_quit, line_requests, requests_of, quits, unread}
use Rattle.pay_wire.specs.declared.command.SpelledCommand.{SpelledCommand}
use Rattle.pay_wire.specs.declared.command.SpelledCommand.TheVariants.{Tap, Fix, Due, Show, Close, Quit}
use Rattle.pay_session.specs.declared.request.Request.TheVariants as requests
use Rattle.pay_session.proofs.InputPieces.{false_or, lines_of_line, lines_of_part, rest_of_line, rest_of_part, has_newline_both, line_requests_line, line_requests_part, unread_line, unread_part}

-- what holds of a text that no newline ends, and of a line in front of what it holds of, holds of each input
by_lines_from : (P : List ℕ → Type 0) → ((p : List ℕ) → has_newline p ≡ false → P p) → ((z more : List ℕ) → has_newline z ≡ false → P more → P (z ++ 10 ∷ more))
    → (xs front : List ℕ) → has_newline front ≡ false → P (front ++ xs)
by_lines_from P part line [] front h = subst P (sym (append-nil front)) (part front h)
by_lines_from P part line (b ∷ xs) front h = at (eqb b 10) refl (by_lines_from P part line xs [] refl) (by_lines_from P part line xs (front ++ b ∷ []))
  where
    at : (c : Bool) → eqb b 10 ≡ c → P xs → (has_newline (front ++ b ∷ []) ≡ false → P ((front ++ b ∷ []) ++ xs)) → P (front ++ b ∷ xs)
    at true e beyond longer = subst (λ a. P (front ++ a ∷ xs)) (sym (eqb-true b 10 e)) (line front xs h beyond)
    at false e beyond longer = subst P (append_assoc front (b ∷ []) xs) (longer (has_newline_both front (b ∷ []) h (ap (λ c. c || false) e)))

by_lines : (P : List ℕ → Type 0) → ((p : List ℕ) → has_newline p ≡ false → P p) → ((z more : List ℕ) → has_newline z ≡ false → P more → P (z ++ 10 ∷ more)) → (input : List ℕ) → P input
by_lines P part line input = by_lines_from P part line input [] refl

-- ---- the cutting

abbrev ended : List ℕ → List ℕ
ended t = t ++ codes "\n"

abbrev ended_line : InputLine → List ℕ
ended_line l = l.text ++ codes "\n"

-- a line with its newline, before what is after it
pub joined : (z x y : List ℕ) → ((z ++ codes "\n") ++ x) ++ y ≡ z ++ 10 ∷ (x ++ y)
joined z x y = append_assoc (z ++ codes "\n") x y ∙ append_assoc z (codes "\n") (x ++ y)

pub whole_again : (input : List ℕ) → flat_map (λ (l : InputLine). l.text ++ codes "\n") (input_lines input) ++ rest_of input ≡ input
whole_again = by_lines
    (λ input. flat_map ended_line (input_lines input) ++ rest_of input ≡ input)
    (λ p h. ap (λ ls. flat_map ended_line ls ++ rest_of p) (lines_of_part p h) ∙ rest_of_part p h)
    (λ z more h again.
    ap (λ ls. flat_map ended_line ls ++ rest_of (z ++ 10 ∷ more)) (lines_of_line z more h)
    ∙ ap (λ r. (ended z ++ flat_map ended_line (input_lines more)) ++ r) (rest_of_line z more)
    ∙ joined z (flat_map ended_line (input_lines more)) (rest_of more) ∙ ap (λ l. z ++ 10 ∷ l) again)

pub lines_are_whole : (input : List ℕ) → AllByRecursion (λ (l : InputLine). has_newline l.text ≡ false) (input_lines input)
lines_are_whole = by_lines
    (λ input. AllByRecursion (λ (l : InputLine). has_newline l.text ≡ false) (input_lines input))
    (λ p h. subst (AllByRecursion (λ (l : InputLine). has_newline l.text ≡ false)) (sym (lines_of_part p h)) tt)
    (λ z more h all. subst (AllByRecursion (λ (l : InputLine). has_newline l.text ≡ false)) (sym (lines_of_line z more h)) (h, all))

pub rest_is_no_line : (input : List ℕ) → has_newline (rest_of input) ≡ false
rest_is_no_line = by_lines
    (λ input. has_newline (rest_of input) ≡ false)
    (λ p h. ap has_newline (rest_of_part p h) ∙ h)
    (λ z more h none. ap has_newline (rest_of_line z more) ∙ none)

only_of : (texts : List (List ℕ)) (rest : List ℕ) → AllByRecursion (λ (t : List ℕ). has_newline t ≡ false) texts → has_newline rest ≡ false
    → (map (λ (l : InputLine). l.text) (input_lines (flat_map ended texts ++ rest)) ≡ texts) × (rest_of (flat_map ended texts ++ rest) ≡ rest)
only_of [] rest all none = (ap (map (λ (l : InputLine). l.text)) (lines_of_part rest none), rest_of_part rest none)
only_of (t ∷ texts) rest all none =
    let beyond = flat_map ended texts ++ rest in
    let again = only_of texts rest all.1 none in
    let is = joined t (flat_map ended texts) rest in (
      ap (λ i. map (λ (l : InputLine). l.text) (input_lines i)) is ∙ ap (map (λ (l : InputLine). l.text)) (lines_of_line t beyond all.0) ∙ ap (λ ts. t ∷ ts) again.0,
      ap rest_of is ∙ rest_of_line t beyond ∙ again.1,
    )

pub only_cutting : (input rest : List ℕ) (texts : List (List ℕ)) → AllByRecursion (λ (t : List ℕ). has_newline t ≡ false) texts → has_newline rest ≡ false → input ≡ flat_map (λ (t : List ℕ). t ++ codes "\n") texts ++ rest
    → (map (λ (l : InputLine). l.text) (input_lines input) ≡ texts) × (rest_of input ≡ rest)
only_cutting input rest texts all none e =
    let again = only_of texts rest all none in
    (ap (λ i. map (λ (l : InputLine). l.text) (input_lines i)) e ∙ again.0, ap rest_of e ∙ again.1)

-- ---- what a line asks for

-- what is read of a line is what the line spells: the law of pay_wire, taken as a premise, since another crate's
-- proofs are not named here
abbrev ReadAsSpelled : Type 0
ReadAsSpelled = (line : List ℕ) (command : SpelledCommand) → command_of line ≡ Some command → Spells line command

quit_line : ReadAsSpelled → (z : List ℕ) → is_quit (request_of z) ≡ true → z ≡ codes "QUIT"
unfolding request_of
quit_line spelled z e = at (nat_lt MOST_LINE_BYTES (length z)) (command_of z) refl e
  where
    at : (b : Bool) (o : Option SpelledCommand) → command_of z ≡ o → is_quit (cond b requests.LongLine (asked o)) ≡ true → z ≡ codes "QUIT"
    at true o is f = cc
    at false None is f = cc
    at false (Some (Tap t)) is f = cc
    at false (Some (Fix t)) is f = cc
    at false (Some (Due account day)) is f = cc
    at false (Some (Show account day)) is f = cc
    at false (Some (Close day)) is f = cc
    at false (Some Quit) is f = (spelled z Quit is).1

quit_asks : request_of (codes "QUIT") ≡ requests.Command Quit
unfolding request_of
quit_asks = refl

other_line : ReadAsSpelled → (z : List ℕ) → z ≢ codes "QUIT" → is_quit (request_of z) ≡ false
other_line spelled z other = at (is_quit (request_of z)) refl
  where
    at : (b : Bool) → is_quit (request_of z) ≡ b → is_quit (request_of z) ≡ false
    at true e = absurd (other (quit_line spelled z e))
    at false e = e

too_long : (z : List ℕ) → MOST_LINE_BYTES < length z → request_of z ≡ requests.LongLine
unfolding request_of
too_long z long = ap (λ b. cond b requests.LongLine (asked (command_of z))) (lt-ltb MOST_LINE_BYTES (length z) long)

no_command : ReadAsSpelled → (z : List ℕ) → length z ≤ MOST_LINE_BYTES → ((command : SpelledCommand) → Spells z command → ⊥) → request_of z ≡ requests.BadLine
unfolding request_of
no_command spelled z short none = ap (λ b. cond b requests.LongLine (asked (command_of z))) (le-ltb MOST_LINE_BYTES (length z) short) ∙ at (command_of z) refl
  where
    at : (o : Option SpelledCommand) → command_of z ≡ o → asked o ≡ requests.BadLine
    at None is = refl
    at (Some command) is = absurd (none command (spelled z command is))

-- ---- after QUIT

quits_part : (p : List ℕ) → has_newline p ≡ false → quits p ≡ false
quits_part p h = ap (list_any is_quit) (line_requests_part p h)

quits_line : (z more : List ℕ) → has_newline z ≡ false → quits (z ++ 10 ∷ more) ≡ (is_quit (request_of z) || quits more)
quits_line z more h = ap (list_any is_quit) (line_requests_line z more h)

abbrev Front : List ℕ → Type 0
Front input = (before : List ℕ) × (input ≡ before ++ (codes "QUIT\n" ++ unread input)) × (quits before ≡ false) × (rest_of before ≡ [])

front_of_line : ReadAsSpelled → (z more : List ℕ) → has_newline z ≡ false → (quits more ≡ true → Front more) → quits (z ++ 10 ∷ more) ≡ true → Front (z ++ 10 ∷ more)
front_of_line spelled z more h fronts e = at (is_quit (request_of z)) refl
  where
    at : (b : Bool) → is_quit (request_of z) ≡ b → Front (z ++ 10 ∷ more)
    at true q =
        let left : unread (z ++ 10 ∷ more) ≡ more = unread_line z more h ∙ ap (λ c. cond c more (unread more)) q in
        ([], ap (λ l. l ++ 10 ∷ more) (quit_line spelled z q) ∙ ap (λ l. codes "QUIT\n" ++ l) (sym left), refl, refl)
    at false q =
        let left : unread (z ++ 10 ∷ more) ≡ unread more = unread_line z more h ∙ ap (λ c. cond c more (unread more)) q in
        let f = fronts (sym (quits_line z more h ∙ ap (λ c. c || quits more) q) ∙ e) in (
          z ++ 10 ∷ f.0,
          ap (λ l. z ++ 10 ∷ l) f.1 ∙ sym (append_assoc z (10 ∷ f.0) (codes "QUIT\n" ++ unread more)) ∙ ap (λ l. (z ++ 10 ∷ f.0) ++ (codes "QUIT\n" ++ l)) (sym left),
          quits_line z f.0 h ∙ ap (λ c. c || quits f.0) q ∙ f.2,
          rest_of_line z f.0 ∙ f.3,
        )

pub front_of : ReadAsSpelled → (input : List ℕ) → quits input ≡ true → (before : List ℕ) × (input ≡ before ++ codes "QUIT\n" ++ unread input) × (quits before ≡ false) × (rest_of before ≡ [])
front_of spelled input e =
    let f = by_lines (λ input. quits input ≡ true → Front input) (λ p h e. absurd (cc (quits_part p h, e))) (front_of_line spelled) input e in
    (f.0, f.1 ∙ sym (append_assoc f.0 (codes "QUIT\n") (unread input)), f.2, f.3)

pub none_unread : (input : List ℕ) → quits input ≡ false → unread input ≡ []
none_unread = by_lines
    (λ input. quits input ≡ false → unread input ≡ [])
    (λ p h e. unread_part p h)
    (λ z more h none e.
    let both = false_or (is_quit (request_of z)) (quits more) (sym (quits_line z more h) ∙ e) in
    unread_line z more h ∙ ap (λ c. cond c more (unread more)) both.0 ∙ none both.1)

-- ---- a line and those after it

requests_line : (z more : List ℕ) → has_newline z ≡ false → requests_of (z ++ 10 ∷ more) ≡ cond (is_quit (request_of z)) (request_of z ∷ []) (request_of z ∷ requests_of more)
requests_line z more h =
    ap (λ rs. through_quit (rs ++ request_of_rest (rest_of (z ++ 10 ∷ more)))) (line_requests_line z more h)
    ∙ ap (λ l. through_quit ((request_of z ∷ line_requests more) ++ request_of_rest l)) (rest_of_line z more)

pub goes_on : ReadAsSpelled → (line more : List ℕ) → has_newline line ≡ false → line ≢ codes "QUIT" → requests_of (line ++ codes "\n" ++ more) ≡ request_of line ∷ requests_of more
goes_on spelled line more h other =
    ap requests_of (append_assoc line (codes "\n") more) ∙ requests_line line more h ∙ ap (λ c. cond c (request_of line ∷ []) (request_of line ∷ requests_of more)) (other_line spelled line other)

pub bad_goes_on : ReadAsSpelled → (line more : List ℕ) → has_newline line ≡ false → length line ≤ MOST_LINE_BYTES → ((command : SpelledCommand) → Spells line command → ⊥) → requests_of (line ++ codes "\n" ++ more) ≡ requests.BadLine ∷ requests_of more
bad_goes_on spelled line more h short none =
    goes_on spelled line more h (λ e. none Quit (tt, e)) ∙ ap (λ r. r ∷ requests_of more) (no_command spelled line short none)

pub long_goes_on : ReadAsSpelled → (line more : List ℕ) → has_newline line ≡ false → MOST_LINE_BYTES < length line → requests_of (line ++ codes "\n" ++ more) ≡ requests.LongLine ∷ requests_of more
long_goes_on spelled line more h long =
    let other : line ≢ codes "QUIT" = λ e. absurd (omega (arith, long, ap length e)) in
    goes_on spelled line more h other ∙ ap (λ r. r ∷ requests_of more) (too_long line long)

abbrev Stops : List ℕ → List ℕ → Type 0
Stops x before = quits before ≡ false → rest_of before ≡ []
    → (requests_of (before ++ (codes "QUIT\n" ++ x)) ≡ line_requests before ++ requests.Command Quit ∷ []) × (unread (before ++ (codes "QUIT\n" ++ x)) ≡ x)

stops_here : (x p : List ℕ) → has_newline p ≡ false → Stops x p
stops_here x p h e none = subst (λ l. (requests_of (l ++ (codes "QUIT\n" ++ x)) ≡ line_requests l ++ requests.Command Quit ∷ []) × (unread (l ++ (codes "QUIT\n" ++ x)) ≡ x)) (sym none ∙ rest_of_part p h) at_once
  where
    at_once : (requests_of (codes "QUIT\n" ++ x) ≡ requests.Command Quit ∷ []) × (unread (codes "QUIT\n" ++ x) ≡ x)
    at_once = (
      requests_line (codes "QUIT") x refl ∙ ap (λ r. cond (is_quit r) (r ∷ []) (r ∷ requests_of x)) quit_asks,
      unread_line (codes "QUIT") x refl ∙ ap (λ r. cond (is_quit r) x (unread x)) quit_asks,
    )

stops_after : (x z more : List ℕ) → has_newline z ≡ false → Stops x more → Stops x (z ++ 10 ∷ more)
stops_after x z more h stops e none =
    let both = false_or (is_quit (request_of z)) (quits more) (sym (quits_line z more h) ∙ e) in
    let beyond = more ++ (codes "QUIT\n" ++ x) in
    let is : (z ++ 10 ∷ more) ++ (codes "QUIT\n" ++ x) ≡ z ++ 10 ∷ beyond = append_assoc z (10 ∷ more) (codes "QUIT\n" ++ x) in
    let s = stops both.1 (sym (rest_of_line z more) ∙ none) in (
      ap requests_of is ∙ requests_line z beyond h ∙ ap (λ c. cond c (request_of z ∷ []) (request_of z ∷ requests_of beyond)) both.0
          ∙ ap (λ rs. request_of z ∷ rs) s.0 ∙ ap (λ rs. rs ++ requests.Command Quit ∷ []) (sym (line_requests_line z more h)),
      ap unread is ∙ unread_line z beyond h ∙ ap (λ c. cond c beyond (unread beyond)) both.0 ∙ s.1,
    )

stops : (x before : List ℕ) → Stops x before
stops x = by_lines (Stops x) (stops_here x) (stops_after x)

pub stops_at_quit : (before x : List ℕ) → quits before ≡ false → rest_of before ≡ [] → requests_of (before ++ codes "QUIT\n" ++ x) ≡ line_requests before ++ requests.Command Quit ∷ []
stops_at_quit before x e none = ap requests_of (append_assoc before (codes "QUIT\n") x) ∙ (stops x before e none).0

pub leaves_after_quit : (before x : List ℕ) → quits before ≡ false → rest_of before ≡ [] → unread (before ++ codes "QUIT\n" ++ x) ≡ x
leaves_after_quit before x e none = ap unread (append_assoc before (codes "QUIT\n") x) ∙ (stops x before e none).1

pub same_before_quit : (before x y : List ℕ) → quits before ≡ false → rest_of before ≡ [] → requests_of (before ++ codes "QUIT\n" ++ x) ≡ requests_of (before ++ codes "QUIT\n" ++ y)
same_before_quit before x y e none = stops_at_quit before x e none ∙ sym (stops_at_quit before y e none)

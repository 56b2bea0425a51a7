-- The line with which a connection has to begin, as it comes.
use Rattle.std.proofs.Common.{◌≡◌, ℕ, ◌≤◌, Bool, true, false, List, [], ◌∷◌, ◌++◌, length, take, Option, Some, None, Result, Ok, Err, IfOk, IfSome, ap, sym, subst, ◌∙◌, refl, append_assoc, length-append, arith}
use Rattle.std.specs.Option.{is_some}
use Rattle.std.specs.Str.{bytes_eq}
use Rattle.std.proofs.lemmas.List.{take_at}
use Rattle.std.proofs.lemmas.Slice.Eq.{bytes_eq-Decides}
use Rattle.pay_session.specs.Requests.{has_newline}
use Rattle.pay_session.specs.declared.port.Role.{Role}
use Rattle.pay_session.specs.declared.port.Role.TheVariants.{Taps, All}
use Rattle.pay_peers.specs.Fates.{word_in, Lasts}
use Rattle.pay_peers.specs.Greetings.{Greets, RefusesAlone, is_greeted, refusal_of}
use Rattle.pay_peers.specs.Lines.{IsTaken, MayGreet, word_at}
use Rattle.pay_peers.specs.declared.fate.Fate.{Fate}
use Rattle.pay_peers.specs.declared.fate.Fate.TheVariants.{Waits, GoesOn, Asks, Lost, Ends}
use Rattle.pay_peers.specs.declared.word.Word.{Word}
use Rattle.pay_peers.proofs.FirstWords.{line_is_taken, word_kept}
use Rattle.pay_peers.proofs.Kept.{kept_before}

-- where no line is awaited
pub none_greets : (awaited : Option (List ℕ)) (bytes : List ℕ) → awaited ≡ None → is_greeted awaited bytes ≡ true
unfolding is_greeted
none_greets awaited bytes none = ap (λ a. is_greeted a bytes) none

-- what is kept of a front shows whether it greets
front_greets : (greeting front behind : List ℕ) → length greeting ≤ 128 → is_greeted (Some greeting) (take 129 front ++ behind) ≡ is_greeted (Some greeting) (front ++ behind)
unfolding is_greeted
front_greets greeting front behind short =
    let line : List ℕ = greeting ++ 10 ∷ [] in
    let fits : length (greeting ++ 10 ∷ []) ≤ 129 = omega (arith, short, length-append greeting (10 ∷ [])) in
    ap (bytes_eq line) (kept_before (length line) 129 front behind fits)

-- the line itself does
line_itself : (greeting behind : List ℕ) → is_greeted (Some greeting) (greeting ++ 10 ∷ behind) ≡ true
unfolding is_greeted
line_itself greeting behind =
    let line : List ℕ = greeting ++ 10 ∷ [] in
    let front : take (length line) (greeting ++ 10 ∷ behind) ≡ line =
    ap (take (length line)) (sym (append_assoc greeting (10 ∷ []) behind)) ∙ take_at line behind (length line) refl in
    ap (bytes_eq line) front ∙ (bytes_eq-Decides line line).1 refl

-- A piece without a newline goes on with the line.
pub begun_greets : (awaited : Option (List ℕ)) (begun piece kept behind : List ℕ) → IfSome awaited MayGreet → kept ≡ take 129 (begun ++ piece) → behind ≡ []
    → Greets (awaited, begun) piece (awaited, kept, behind)
unfolding is_greeted
begun_greets None begun piece kept behind fits is none = λ more. refl
begun_greets (Some greeting) begun piece kept behind fits is none = λ more.
    ap (is_greeted (Some greeting)) (sym (append_assoc begun piece more))
    ∙ sym (front_greets greeting (begun ++ piece) more fits.0)
    ∙ ap (λ (l : List ℕ). is_greeted (Some greeting) (l ++ more)) (sym is)
    ∙ ap (λ (l : List ℕ). is_greeted (Some greeting) (kept ++ (l ++ more))) (sym none)

-- A line that is the one that is awaited.
pub line_greets : (awaited : Option (List ℕ)) (begun piece text behind kept more : List ℕ) → IfSome awaited MayGreet → piece ≡ text ++ 10 ∷ behind
    → kept ≡ take 129 (begun ++ text) → awaited ≡ Some kept → is_greeted awaited (begun ++ (piece ++ more)) ≡ true
line_greets awaited begun piece text behind kept more fits cut is same =
    let may : MayGreet kept = subst (λ a. IfSome a MayGreet) same fits in
    let whole : begun ++ (piece ++ more) ≡ (begun ++ text) ++ 10 ∷ (behind ++ more) =
    ap (λ (l : List ℕ). begun ++ (l ++ more)) cut
    ∙ ap (λ (l : List ℕ). begun ++ l) (append_assoc text (10 ∷ behind) more)
    ∙ sym (append_assoc begun text (10 ∷ (behind ++ more))) in
    ap (λ a. is_greeted a (begun ++ (piece ++ more))) same
    ∙ ap (is_greeted (Some kept)) whole
    ∙ sym (front_greets kept (begun ++ text) (10 ∷ (behind ++ more)) may.0)
    ∙ ap (λ (l : List ℕ). is_greeted (Some kept) (l ++ 10 ∷ (behind ++ more))) (sym is)
    ∙ line_itself kept (behind ++ more)

-- it is no word
at_role : (role : Role) (line : List ℕ) → word_at All line ≡ None → word_at role line ≡ None
at_role Taps line none = refl
at_role All line none = none

pub greeting_taken : (role : Role) (awaited : Option (List ℕ)) (begun piece text behind kept anew : List ℕ) → IfSome awaited MayGreet
    → piece ≡ text ++ 10 ∷ behind → has_newline text ≡ false → kept ≡ take 129 (begun ++ text) → awaited ≡ Some kept → anew ≡ []
    → IsTaken role begun piece None anew behind
greeting_taken role awaited begun piece text behind kept anew fits cut none is same cleared =
    let may : MayGreet kept = subst (λ a. IfSome a MayGreet) same fits in
    let no_word : word_at role (begun ++ text) ≡ None = sym (word_kept role (begun ++ text)) ∙ ap (word_at role) (sym is) ∙ at_role role kept may.1 in
    line_is_taken role begun piece text behind anew None cut none (sym no_word) cleared

-- Behind the line that was awaited, or where none is, whatever is taken.
pub greeted_on : (awaited later : Option (List ℕ)) (begun piece kept behind last left : List ℕ) (now : Option (List ℕ)) → now ≡ None → later ≡ now
    → Greets (awaited, begun) piece (now, kept, behind) → Greets (awaited, begun) piece (later, last, left)
greeted_on awaited later begun piece kept behind last left now none same so_far = λ more.
    so_far more ∙ none_greets now (kept ++ (behind ++ more)) none ∙ sym (none_greets later (last ++ (left ++ more)) (same ∙ none))

pub none_when : {A : Type 0} (awaited : Option A) → is_some awaited ≡ false → awaited ≡ None
none_when None e = refl
none_when (Some x) e = cc

pub if_ok : {A E : Type 0} (taken : Result A E) (P : Type 0) → P → IfOk taken (λ _. P)
if_ok (Ok x) P p = p
if_ok (Err e) P p = tt

-- what is written while it is awaited
pub nothing_written : (over : Bool) (before after : List ℕ) → over ≡ false → after ≡ before → RefusesAlone over before after
nothing_written over before after still same = subst (λ o. RefusesAlone o before after) (sym still) same

pub refusal_written : (over : Bool) (line before after : List ℕ) → over ≡ true → after ≡ before ++ refusal_of line → RefusesAlone over before after
refusal_written over line before after ends is = subst (λ o. RefusesAlone o before after) (sym ends) (line, is)

-- what a turn says of the words of staff, by what was taken
pub no_word_in : {E : Type 0} (fate : Fate) (taken : Result (Option Word) E) → (Lasts fate → taken ≡ Ok (word_in fate)) → IfOk taken (λ word. word ≡ None)
    → word_in fate ≡ None
no_word_in Waits taken is none = refl
no_word_in GoesOn taken is none = refl
no_word_in (Asks word) taken is none = subst (λ t. IfOk t (λ found. found ≡ None)) (is tt) none
no_word_in (Lost why) taken is none = refl
no_word_in Ends taken is none = refl

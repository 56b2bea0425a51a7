-- No line spells two commands, and each spelling is one line.
use Rattle.std.proofs.Common.{◌≡◌, ℕ, ◌+◌, ◌≤◌, true, List, [], ◌∷◌, ◌++◌, length, Option, Some, refl, sym, ap, ◌∙◌, arith, codes}
use Rattle.std.specs.Prelude.{decimal, All, ◌≢◌}
use Rattle.std.specs.List.{join_with_byte}
use Rattle.std.proofs.lemmas.Fmt.{length-decimal-le}
use Rattle.std.proofs.lemmas.List.{length-append}
use Rattle.std.proofs.lemmas.List.Elements.{All-from_recursion, All-weaker}
use Rattle.pay_day.specs.Words.{IsDay}
use Rattle.pay_rules.specs.declared.tap.Kind.{Kind}
use Rattle.pay_rules.specs.declared.tap.Kind.TheVariants.{In, Out, Bus}
use Rattle.pay_wire.specs.declared.command.SpelledTap.{SpelledTap}
use Rattle.pay_wire.specs.declared.command.SpelledFix.{SpelledFix}
use Rattle.pay_wire.specs.declared.command.SpelledWhat.{SpelledWhat}
use Rattle.pay_wire.specs.declared.command.SpelledWhat.TheVariants as spelled
use Rattle.pay_wire.specs.declared.command.SpelledCommand.{SpelledCommand}
use Rattle.pay_wire.specs.Fields.{words}
use Rattle.pay_wire.specs.Commands.{tap_of, fix_of, account_day_of, day_of}
use Rattle.pay_wire.specs.Spellings.{IsSpelledTap, spelling_of_kind, spelling_of_tap, IsSpelledWhat, words_of_what, IsSpelledFix, spelling_of_fix, IsAccountDay, spelling_of_account_day, spelling_of_due, spelling_of_show, spelling_of_close, Spells, IsLine}
use Rattle.pay_wire.proofs.Visible.{is_visible, AllVisible, text_joined}
use Rattle.pay_wire.proofs.Spelled.{fields_of, tap_visible, tap_words, tap_again, fix_fields, fix_visible, fix_words, fix_again, account_day_fields, account_day_visible, account_day_words, account_day_again, day_fields, close_visible, close_words, day_again, is_read}

abbrev some : {A : Type 0} → A → Option A
some x = Some x

some_is : {A : Type 0} (x y : A) → some x ≡ some y → x ≡ y
some_is x y e = cc

tails : {A : Type 0} (x y : A) (xs ys : List A) → (x ∷ xs) ≡ (y ∷ ys) → xs ≡ ys
tails x y xs ys e = cc

pub one_command : (line : List ℕ) (a b : SpelledCommand) → Spells line a → Spells line b → a ≡ b
one_command line a b f g = some_is a b (sym (is_read line a f) ∙ is_read line b g)

pub one_tap : (a b : SpelledTap) → IsSpelledTap a → IsSpelledTap b → spelling_of_tap a ≡ spelling_of_tap b → a ≡ b
one_tap a b f g e =
    let fields : fields_of a ≡ fields_of b = tails (codes "TAP") (codes "TAP") (fields_of a) (fields_of b) (sym (tap_words a f) ∙ ap words e ∙ tap_words b g) in
    some_is a b (sym (tap_again a f) ∙ ap tap_of fields ∙ tap_again b g)

pub one_fix : (a b : SpelledFix) → IsSpelledFix a → IsSpelledFix b → spelling_of_fix a ≡ spelling_of_fix b → a ≡ b
one_fix a b f g e =
    let fields : fix_fields a ≡ fix_fields b = tails (codes "FIX") (codes "FIX") (fix_fields a) (fix_fields b) (sym (fix_words a f) ∙ ap words e ∙ fix_words b g) in
    some_is a b (sym (fix_again a f) ∙ ap fix_of fields ∙ fix_again b g)

abbrev pair : ℕ → ℕ → ℕ × ℕ
pair account day = (account, day)

one_account_day : (name : List ℕ) → is_visible name ≡ true → (account day x y : ℕ) → IsAccountDay account day → IsAccountDay x y
    → spelling_of_account_day name account day ≡ spelling_of_account_day name x y → (account ≡ x) × (day ≡ y)
one_account_day name seen account day x y f g e =
    let fields : account_day_fields account day ≡ account_day_fields x y = tails name name (account_day_fields account day) (account_day_fields x y) (sym (account_day_words name seen account day f) ∙ ap words e ∙ account_day_words name seen x y g) in
    let both = some_is (pair account day) (pair x y) (sym (account_day_again account day f) ∙ ap account_day_of fields ∙ account_day_again x y g) in
    (ap (λ (p : ℕ × ℕ). p.0) both, ap (λ (p : ℕ × ℕ). p.1) both)

pub one_due : (account day x y : ℕ) → IsAccountDay account day → IsAccountDay x y → spelling_of_due account day ≡ spelling_of_due x y → (account ≡ x) × (day ≡ y)
one_due = one_account_day (codes "DUE") refl

pub one_show : (account day x y : ℕ) → IsAccountDay account day → IsAccountDay x y → spelling_of_show account day ≡ spelling_of_show x y → (account ≡ x) × (day ≡ y)
one_show = one_account_day (codes "SHOW") refl

pub one_close : (day x : ℕ) → IsDay day → IsDay x → spelling_of_close day ≡ spelling_of_close x → day ≡ x
one_close day x f g e =
    let fields : day_fields day ≡ day_fields x = tails (codes "CLOSE") (codes "CLOSE") (day_fields day) (day_fields x) (sym (close_words day f) ∙ ap words e ∙ close_words x g) in
    some_is day x (sym (day_again day f) ∙ ap day_of fields ∙ day_again x g)

pub one_line : (command : SpelledCommand) (a b : List ℕ) → Spells a command → Spells b command → a ≡ b
one_line command a b f g = f.1 ∙ sym g.1

kind_short : (kind : Kind) → length (spelling_of_kind kind) ≤ 3
kind_short In = omega arith
kind_short Out = omega arith
kind_short Bus = omega arith

joined_length : (a b : List ℕ) → length (a ++ (32 ∷ b)) ≡ length a + (1 + length b)
joined_length a b = omega (arith, length-append a (32 ∷ b))

number_short : (n : ℕ) → n ≤ 4_294_967_295 → length (decimal n) ≤ 10
number_short n small = length-decimal-le 10 n (omega arith) (omega arith) (omega arith)

tap_short : (tap : SpelledTap) → IsSpelledTap tap → length (spelling_of_tap tap) ≤ 128
tap_short tap fits =
    let place = spelling_of_kind tap.kind in
    let utc = decimal tap.place ++ (32 ∷ place) in
    let account = decimal tap.utc ++ (32 ∷ utc) in
    let seq = decimal tap.account ++ (32 ∷ account) in
    let reader = decimal tap.seq ++ (32 ∷ seq) in
    let all = decimal tap.reader ++ (32 ∷ reader) in
    omega (
      arith,
      joined_length (codes "TAP") all,
      joined_length (decimal tap.reader) reader,
      joined_length (decimal tap.seq) seq,
      joined_length (decimal tap.account) account,
      joined_length (decimal tap.utc) utc,
      joined_length (decimal tap.place) place,
      kind_short tap.kind,
      number_short tap.reader (omega (arith, fits.reader)),
      number_short tap.seq fits.seq,
      number_short tap.account fits.account.1,
      number_short tap.utc fits.utc,
      number_short tap.place (omega (arith, fits.place)),
    )

-- no byte of such words is below a space
no_newline : (ws : List (List ℕ)) → AllVisible ws → All (λ byte. byte ≢ 10) (join_with_byte 32 ws)
no_newline ws seen =
    All-weaker (λ b. 32 ≤ b) (λ b. b ≢ 10) (λ b above e. absurd (omega arith)) (join_with_byte 32 ws) (All-from_recursion (λ b. 32 ≤ b) (join_with_byte 32 ws) (text_joined ws seen))

pub tap_is_line : (tap : SpelledTap) → IsSpelledTap tap → IsLine (spelling_of_tap tap)
tap_is_line tap fits = (tap_short tap fits, no_newline (codes "TAP" ∷ fields_of tap) (tap_visible tap fits))

named_short : (name : List ℕ) (a b : ℕ) → length name ≤ 6 → a ≤ 4_294_967_295 → b ≤ 4_294_967_295 → length (join_with_byte 32 (name ∷ decimal a ∷ decimal b ∷ [])) ≤ 28
named_short name a b short f g =
    omega (
      arith,
      short,
      joined_length name (decimal a ++ (32 ∷ decimal b)),
      joined_length (decimal a) (decimal b),
      number_short a f,
      number_short b g,
    )

fill_short : (utc place : ℕ) (kind : Kind) → utc ≤ 4_294_967_295 → place ≤ 65_535 → length (join_with_byte 32 (words_of_what (spelled.Fill utc place kind))) ≤ 30
fill_short utc place kind f g =
    let word = spelling_of_kind kind in
    omega (
      arith,
      joined_length (codes "FILL") (decimal utc ++ (32 ∷ (decimal place ++ (32 ∷ word)))),
      joined_length (decimal utc) (decimal place ++ (32 ∷ word)),
      joined_length (decimal place) word,
      kind_short kind,
      number_short utc f,
      number_short place (omega (arith, g)),
    )

-- the words of what a correction does have a first one, so they stand after a space
more_short : (a : ℕ) (what : SpelledWhat) → IsSpelledWhat what → a ≤ 4_294_967_295 → length (join_with_byte 32 (decimal a ∷ words_of_what what)) ≤ 41
more_short a (spelled.Void reader seq) fits f =
    omega (arith, number_short a f, joined_length (decimal a) (join_with_byte 32 (words_of_what (spelled.Void reader seq))), named_short (codes "VOID") reader seq (omega arith) (omega (arith, fits.0.1)) fits.1)
more_short a (spelled.Fill utc place kind) fits f =
    omega (arith, number_short a f, joined_length (decimal a) (join_with_byte 32 (words_of_what (spelled.Fill utc place kind))), fill_short utc place kind fits.0 fits.1.1)
more_short a (spelled.Credit credit) fits f =
    omega (
      arith,
      number_short a f,
      joined_length (decimal a) (join_with_byte 32 (words_of_what (spelled.Credit credit))),
      named_short (codes "CREDIT") credit.day credit.pence (omega arith) (omega (arith, fits.day)) (omega (arith, fits.within)),
    )
more_short a (spelled.Drop staff seq) fits f =
    omega (arith, number_short a f, joined_length (decimal a) (join_with_byte 32 (words_of_what (spelled.Drop staff seq))), named_short (codes "DROP") staff seq (omega arith) (omega (arith, fits.0.1)) fits.1)

fix_short : (fix : SpelledFix) → IsSpelledFix fix → length (spelling_of_fix fix) ≤ 128
fix_short fix fits =
    let account = join_with_byte 32 (decimal fix.account ∷ words_of_what fix.what) in
    let seq = decimal fix.seq ++ (32 ∷ account) in
    let staff = decimal fix.staff ++ (32 ∷ seq) in
    omega (
      arith,
      joined_length (codes "FIX") staff,
      joined_length (decimal fix.staff) seq,
      joined_length (decimal fix.seq) account,
      number_short fix.staff (omega (arith, fits.staff)),
      number_short fix.seq fits.seq,
      more_short fix.account fix.what fits.what fits.account.1,
    )

pub fix_is_line : (fix : SpelledFix) → IsSpelledFix fix → IsLine (spelling_of_fix fix)
fix_is_line fix fits = (fix_short fix fits, no_newline (codes "FIX" ∷ fix_fields fix) (fix_visible fix fits))

account_day_is_line : (name : List ℕ) → is_visible name ≡ true → length name ≤ 6 → (account day : ℕ) → IsAccountDay account day → IsLine (spelling_of_account_day name account day)
account_day_is_line name seen short account day fits = (
  omega (arith, named_short name account day short fits.0.1 (omega (arith, fits.1))),
  no_newline (name ∷ account_day_fields account day) (account_day_visible name seen account day fits),
)

pub due_is_line : (account day : ℕ) → IsAccountDay account day → IsLine (spelling_of_due account day)
due_is_line = account_day_is_line (codes "DUE") refl (omega arith)

pub show_is_line : (account day : ℕ) → IsAccountDay account day → IsLine (spelling_of_show account day)
show_is_line = account_day_is_line (codes "SHOW") refl (omega arith)

pub close_is_line : (day : ℕ) → IsDay day → IsLine (spelling_of_close day)
close_is_line day fits = (
  omega (arith, joined_length (codes "CLOSE") (decimal day), number_short day (omega (arith, fits))),
  no_newline (codes "CLOSE" ∷ day_fields day) (close_visible day fits),
)

pub quit_is_line : IsLine (codes "QUIT")
quit_is_line = (omega arith, no_newline (codes "QUIT" ∷ []) (refl, tt))

-- A line is read as a command just where it spells it.
use Rattle.std.proofs.Common.{◌≡◌, ℕ, ◌≤◌, Bool, true, false, cond, List, [], ◌∷◌, Option, Some, None, refl, sym, ap, ◌∙◌, subst, arith, inl, inr, ◌⊎◌, codes, drop}
use Rattle.std.specs.Prelude.{decimal, IfSome}
use Rattle.std.specs.Str.{bytes_eq}
use Rattle.std.specs.List.{before_first, join_with_byte, position_or_len}
use Rattle.std.proofs.lemmas.Option.{cond_some}
use Rattle.std.proofs.lemmas.List.Splits.{join_with_byte-slice_split}
use Rattle.std.proofs.lemmas.Slice.Eq.{bytes_eq-Decides}
use Rattle.pay_day.specs.Words.{IsDay}
use Rattle.pay_rules.specs.declared.tap.Kind.{Kind}
use Rattle.pay_rules.specs.declared.tap.Kind.TheVariants.{In, Out, Bus}
use Rattle.pay_wire.specs.declared.command.SpelledCredit.{SpelledCredit}
use Rattle.pay_wire.specs.Spellings.{IsSpelledCredit}
use Rattle.pay_wire.specs.declared.command.SpelledTap.{SpelledTap}
use Rattle.pay_wire.specs.declared.command.SpelledFix.{SpelledFix}
use Rattle.pay_wire.specs.declared.command.SpelledWhat.{SpelledWhat}
use Rattle.pay_wire.specs.declared.command.SpelledWhat.TheVariants as spelled
use Rattle.pay_wire.specs.declared.command.Form.{Form}
use Rattle.pay_wire.specs.declared.command.Form.TheVariants as form
use Rattle.pay_wire.specs.declared.command.SpelledCommand.{SpelledCommand}
use Rattle.pay_wire.specs.declared.command.SpelledCommand.TheVariants.{Tap, Fix, Due, Show, Close, Quit}
use Rattle.pay_wire.specs.declared.command.Keyword.{Keyword}
use Rattle.pay_wire.specs.declared.command.Keyword.TheVariants as keyword
use Rattle.pay_wire.specs.Fields.{◌>>=◌, is_space, words, words_after, has_none, field}
use Rattle.pay_wire.specs.Commands.{number_within, kind_of_word, tap_of, named_of, fill_of, credit_of, form_of_word, what_for, what_of, fix_of, account_day_of, day_of, keyword_of, command_for, command_of_words, command_of}
use Rattle.pay_wire.specs.Spellings.{IsSpelledTap, spelling_of_kind, spelling_of_tap, IsSpelledWhat, words_of_what, IsSpelledFix, spelling_of_fix, IsAccountDay, spelling_of_account_day, spelling_of_due, spelling_of_show, spelling_of_close, IsSpelled, Spells}
use Rattle.pay_wire.proofs.Spaces.{split_at_end}
use Rattle.pay_wire.proofs.Numerals.{bind_some, within_again, within_is}
use Rattle.pay_wire.proofs.Visible.{is_visible, decimal_visible, AllVisible, words_joined}

-- ---- what is spelled is read

kind_again : (kind : Kind) → kind_of_word (spelling_of_kind kind) ≡ Some kind
kind_again In = refl
kind_again Out = refl
kind_again Bus = refl

kind_visible : (kind : Kind) → is_visible (spelling_of_kind kind) ≡ true
kind_visible In = refl
kind_visible Out = refl
kind_visible Bus = refl

abbrev pub fields_of : SpelledTap → List (List ℕ)
fields_of tap = decimal tap.reader ∷ decimal tap.seq ∷ decimal tap.account ∷ decimal tap.utc ∷ decimal tap.place ∷ spelling_of_kind tap.kind ∷ []

pub tap_visible : (tap : SpelledTap) → IsSpelledTap tap → AllVisible (codes "TAP" ∷ fields_of tap)
tap_visible tap fits = (
  refl,
  (
    decimal_visible tap.reader (omega (arith, fits.reader)),
    (
      decimal_visible tap.seq (omega (arith, fits.seq)),
      (
        decimal_visible tap.account (omega (arith, fits.account)),
        (
          decimal_visible tap.utc (omega (arith, fits.utc)),
          (decimal_visible tap.place (omega (arith, fits.place)), (kind_visible tap.kind, tt)),
        ),
      ),
    ),
  ),
)

pub tap_words : (tap : SpelledTap) → IsSpelledTap tap → words (spelling_of_tap tap) ≡ codes "TAP" ∷ fields_of tap
tap_words tap fits = words_joined (codes "TAP") (fields_of tap) (tap_visible tap fits)

pub tap_again : (tap : SpelledTap) → IsSpelledTap tap → tap_of (fields_of tap) ≡ Some tap
unfolding tap_of
tap_again tap fits =
    rw (
      within_again 1 65_535 tap.reader fits.reader.0 fits.reader.1 (omega arith),
      within_again 0 4_294_967_295 tap.seq (omega arith) fits.seq (omega arith),
      within_again 1 4_294_967_295 tap.account fits.account.0 fits.account.1 (omega arith),
      within_again 0 4_294_967_295 tap.utc (omega arith) fits.utc (omega arith),
      within_again 1 65_535 tap.place fits.place.0 fits.place.1 (omega arith),
      kind_again tap.kind,
    ) refl

tap_line_again : (tap : SpelledTap) → IsSpelledTap tap → command_of (spelling_of_tap tap) ≡ Some (Tap tap)
tap_line_again tap fits = ap command_of_words (tap_words tap fits) ∙ rw (tap_again tap fits) refl

two_visible : (a b : ℕ) → a ≤ 4_294_967_295 → b ≤ 4_294_967_295 → AllVisible (decimal a ∷ decimal b ∷ [])
two_visible a b f g = (decimal_visible a (omega (arith, f)), (decimal_visible b (omega (arith, g)), tt))

what_visible : (what : SpelledWhat) → IsSpelledWhat what → AllVisible (words_of_what what)
what_visible (spelled.Void reader seq) fits = (refl, two_visible reader seq (omega (arith, fits.0.1)) fits.1)
what_visible (spelled.Fill utc place kind) fits =
    (refl, (decimal_visible utc (omega (arith, fits.0)), (decimal_visible place (omega (arith, fits.1.1)), (kind_visible kind, tt))))
what_visible (spelled.Credit credit) fits = (refl, two_visible credit.day credit.pence (omega (arith, fits.day)) (omega (arith, fits.within)))
what_visible (spelled.Drop staff seq) fits = (refl, two_visible staff seq (omega (arith, fits.0.1)) fits.1)

named_again : (most first seq : ℕ) → 1 ≤ first → first ≤ most → most ≤ 4_294_967_295 → seq ≤ 4_294_967_295 → named_of most (decimal first ∷ decimal seq ∷ []) ≡ Some (first, seq)
unfolding named_of
named_again most first seq above below high small =
    rw (within_again 1 most first above below high, within_again 0 4_294_967_295 seq (omega arith) small (omega arith)) refl

fill_again : (utc place : ℕ) (kind : Kind) → utc ≤ 4_294_967_295 → 1 ≤ place → place ≤ 65_535 → fill_of (decimal utc ∷ decimal place ∷ spelling_of_kind kind ∷ []) ≡ Some (spelled.Fill utc place kind)
unfolding fill_of
fill_again utc place kind small above below =
    rw (
      within_again 0 4_294_967_295 utc (omega arith) small (omega arith),
      within_again 1 65_535 place above below (omega arith),
      kind_again kind,
    ) refl

credit_again : (credit : SpelledCredit) → IsSpelledCredit credit → credit_of (decimal credit.day ∷ decimal credit.pence ∷ []) ≡ Some credit
unfolding credit_of
credit_again credit fits =
    rw (
      within_again 4 50_000 credit.day fits.day.0 fits.day.1 (omega arith),
      within_again 1 100_000 credit.pence fits.some fits.within (omega arith),
    ) refl

what_again : (what : SpelledWhat) → IsSpelledWhat what → what_of (words_of_what what) ≡ Some what
what_again (spelled.Void reader seq) fits = rw (named_again 65_535 reader seq fits.0.0 fits.0.1 (omega arith) fits.1) refl
what_again (spelled.Fill utc place kind) fits = fill_again utc place kind fits.0 fits.1.0 fits.1.1
what_again (spelled.Credit credit) fits = rw (credit_again credit fits) refl
what_again (spelled.Drop staff seq) fits = rw (named_again 65_535 staff seq fits.0.0 fits.0.1 (omega arith) fits.1) refl

abbrev pub fix_fields : SpelledFix → List (List ℕ)
fix_fields fix = decimal fix.staff ∷ decimal fix.seq ∷ decimal fix.account ∷ words_of_what fix.what

pub fix_visible : (fix : SpelledFix) → IsSpelledFix fix → AllVisible (codes "FIX" ∷ fix_fields fix)
fix_visible fix fits = (
  refl,
  (
    decimal_visible fix.staff (omega (arith, fits.staff)),
    (
      decimal_visible fix.seq (omega (arith, fits.seq)),
      (decimal_visible fix.account (omega (arith, fits.account)), what_visible fix.what fits.what),
    ),
  ),
)

pub fix_words : (fix : SpelledFix) → IsSpelledFix fix → words (spelling_of_fix fix) ≡ codes "FIX" ∷ fix_fields fix
fix_words fix fits = words_joined (codes "FIX") (fix_fields fix) (fix_visible fix fits)

pub fix_again : (fix : SpelledFix) → IsSpelledFix fix → fix_of (fix_fields fix) ≡ Some fix
unfolding fix_of
fix_again fix fits =
    rw (
      within_again 1 65_535 fix.staff fits.staff.0 fits.staff.1 (omega arith),
      within_again 0 4_294_967_295 fix.seq (omega arith) fits.seq (omega arith),
      within_again 1 4_294_967_295 fix.account fits.account.0 fits.account.1 (omega arith),
      what_again fix.what fits.what,
    ) refl

fix_line_again : (fix : SpelledFix) → IsSpelledFix fix → command_of (spelling_of_fix fix) ≡ Some (Fix fix)
fix_line_again fix fits = ap command_of_words (fix_words fix fits) ∙ rw (fix_again fix fits) refl

abbrev pub account_day_fields : ℕ → ℕ → List (List ℕ)
account_day_fields account day = decimal account ∷ decimal day ∷ []

pub account_day_visible : (name : List ℕ) → is_visible name ≡ true → (account day : ℕ) → IsAccountDay account day → AllVisible (name ∷ account_day_fields account day)
account_day_visible name seen account day fits = (seen, two_visible account day fits.0.1 (omega (arith, fits.1)))

pub account_day_words : (name : List ℕ) → is_visible name ≡ true → (account day : ℕ) → IsAccountDay account day → words (spelling_of_account_day name account day) ≡ name ∷ account_day_fields account day
account_day_words name seen account day fits = words_joined name (account_day_fields account day) (account_day_visible name seen account day fits)

pub account_day_again : (account day : ℕ) → IsAccountDay account day → account_day_of (account_day_fields account day) ≡ Some (account, day)
unfolding account_day_of
account_day_again account day fits =
    rw (
      within_again 1 4_294_967_295 account fits.0.0 fits.0.1 (omega arith),
      within_again 4 50_000 day fits.1.0 fits.1.1 (omega arith),
    ) refl

due_line_again : (account day : ℕ) → IsAccountDay account day → command_of (spelling_of_due account day) ≡ Some (Due account day)
due_line_again account day fits =
    ap command_of_words (account_day_words (codes "DUE") refl account day fits) ∙ rw (account_day_again account day fits) refl

show_line_again : (account day : ℕ) → IsAccountDay account day → command_of (spelling_of_show account day) ≡ Some (Show account day)
show_line_again account day fits =
    ap command_of_words (account_day_words (codes "SHOW") refl account day fits) ∙ rw (account_day_again account day fits) refl

abbrev pub day_fields : ℕ → List (List ℕ)
day_fields day = decimal day ∷ []

pub close_visible : (day : ℕ) → IsDay day → AllVisible (codes "CLOSE" ∷ day_fields day)
close_visible day fits = (refl, (decimal_visible day (omega (arith, fits)), tt))

pub close_words : (day : ℕ) → IsDay day → words (spelling_of_close day) ≡ codes "CLOSE" ∷ day_fields day
close_words day fits = words_joined (codes "CLOSE") (day_fields day) (close_visible day fits)

pub day_again : (day : ℕ) → IsDay day → day_of (day_fields day) ≡ Some day
unfolding day_of
day_again day fits = rw (within_again 4 50_000 day fits.0 fits.1 (omega arith)) refl

close_line_again : (day : ℕ) → IsDay day → command_of (spelling_of_close day) ≡ Some (Close day)
close_line_again day fits = ap command_of_words (close_words day fits) ∙ rw (day_again day fits) refl

pub is_read : (line : List ℕ) (command : SpelledCommand) → Spells line command → command_of line ≡ Some command
is_read line (Tap tap) h = ap command_of h.1 ∙ tap_line_again tap h.0
is_read line (Fix fix) h = ap command_of h.1 ∙ fix_line_again fix h.0
is_read line (Due account day) h = ap command_of h.1 ∙ due_line_again account day h.0
is_read line (Show account day) h = ap command_of h.1 ∙ show_line_again account day h.0
is_read line (Close day) h = ap command_of h.1 ∙ close_line_again day h.0
is_read line Quit h = ap command_of h.1

-- ---- what is read is spelled

abbrev some : {A : Type 0} → A → Option A
some x = Some x

some_is : {A : Type 0} (x y : A) → some x ≡ some y → x ≡ y
some_is x y e = cc

-- one test of several, and what the others say
choice : {A : Type 0} (b : Bool) (o : Option A) (x y : A) → cond b (Some x) o ≡ Some y → ((b ≡ true) × (x ≡ y)) ⊎ (o ≡ Some y)
choice true o x y e = inl (refl, some_is x y e)
choice false o x y e = inr e

field_is : {A : Type 0} (read : List ℕ → Option A) (ws : List (List ℕ)) (x : A × List (List ℕ)) → field read ws ≡ Some x → (w : List ℕ) × (ws ≡ w ∷ x.1) × (read w ≡ Some x.0)
field_is read [] x e = absurd cc
field_is {A} read (w ∷ more) x e =
    let b = bind_some (read w) (λ v. Some (v, more)) x e in
    let is = some_is (b.0, more) x b.2 in
    (w, ap (λ (p : A × List (List ℕ)). w ∷ p.1) is, b.1 ∙ ap (λ (p : A × List (List ℕ)). Some p.0) is)

number_is_next : (low high : ℕ) (ws : List (List ℕ)) (x : ℕ × List (List ℕ)) → field (number_within low high) ws ≡ Some x → (ws ≡ decimal x.0 ∷ x.1) × (low ≤ x.0) × (x.0 ≤ high)
number_is_next low high ws x e =
    let f = field_is (number_within low high) ws x e in
    let n = within_is low high f.0 x.0 f.2 in
    (f.1 ∙ ap (λ (w : List ℕ). w ∷ x.1) n.0, n.1, n.2)

same_kind : (word : List ℕ) (a kind : Kind) → (bytes_eq word (spelling_of_kind a) ≡ true) × (a ≡ kind) → word ≡ spelling_of_kind kind
same_kind word a kind h = (bytes_eq-Decides word (spelling_of_kind a)).0 h.0 ∙ ap spelling_of_kind h.1

kind_is : (word : List ℕ) (kind : Kind) → kind_of_word word ≡ Some kind → word ≡ spelling_of_kind kind
kind_is word kind e =
    elim (choice (bytes_eq word (codes "IN")) (cond (bytes_eq word (codes "OUT")) (Some Out) (cond (bytes_eq word (codes "BUS")) (Some Bus) None)) In kind e) [
      | inl p ↦ same_kind word In kind p
      | inr others ↦ elim (choice (bytes_eq word (codes "OUT")) (cond (bytes_eq word (codes "BUS")) (Some Bus) None) Out kind others) [
        | inl p ↦ same_kind word Out kind p
        | inr last ↦ same_kind word Bus kind (cond_some (bytes_eq word (codes "BUS")) Bus kind last)
      ]
    ]

abbrev form_word : Form → List ℕ
form_word form.Void = codes "VOID"
form_word form.Fill = codes "FILL"
form_word form.Credit = codes "CREDIT"
form_word form.Drop = codes "DROP"

same_form : (word : List ℕ) (a f : Form) → (bytes_eq word (form_word a) ≡ true) × (a ≡ f) → word ≡ form_word f
same_form word a f h = (bytes_eq-Decides word (form_word a)).0 h.0 ∙ ap form_word h.1

abbrev last_form : List ℕ → Option Form
last_form word = cond (bytes_eq word (codes "DROP")) (Some form.Drop) None

abbrev credit_or_drop : List ℕ → Option Form
credit_or_drop word = cond (bytes_eq word (codes "CREDIT")) (Some form.Credit) (last_form word)

form_is : (word : List ℕ) (f : Form) → form_of_word word ≡ Some f → word ≡ form_word f
form_is word f e =
    elim (choice (bytes_eq word (codes "VOID")) (cond (bytes_eq word (codes "FILL")) (Some form.Fill) (credit_or_drop word)) form.Void f e) [
      | inl p ↦ same_form word form.Void f p
      | inr others ↦ elim (choice (bytes_eq word (codes "FILL")) (credit_or_drop word) form.Fill f others) [
        | inl p ↦ same_form word form.Fill f p
        | inr more ↦ elim (choice (bytes_eq word (codes "CREDIT")) (last_form word) form.Credit f more) [
          | inl p ↦ same_form word form.Credit f p
          | inr last ↦ same_form word form.Drop f (cond_some (bytes_eq word (codes "DROP")) form.Drop f last)
        ]
      ]
    ]

kind_is_next : (ws : List (List ℕ)) (x : Kind × List (List ℕ)) → field kind_of_word ws ≡ Some x → ws ≡ spelling_of_kind x.0 ∷ x.1
kind_is_next ws x e =
    let f = field_is kind_of_word ws x e in
    f.1 ∙ ap (λ (w : List ℕ). w ∷ x.1) (kind_is f.0 x.0 f.2)

none_left : (ws : List (List ℕ)) → has_none ws ≡ true → ws ≡ []
none_left [] e = refl
none_left (w ∷ ws) e = absurd cc

-- a tap that is read, step by step
abbrev NumberAndRest : Type 0
NumberAndRest = ℕ × List (List ℕ)

abbrev at_end : NumberAndRest → NumberAndRest → NumberAndRest → NumberAndRest → NumberAndRest → Kind × List (List ℕ) → Option SpelledTap
at_end reader seq account utc place kind =
    cond (has_none kind.1) (Some (record { reader = reader.0; seq = seq.0; account = account.0; utc = utc.0; place = place.0; kind = kind.0 })) None

abbrev at_kind : NumberAndRest → NumberAndRest → NumberAndRest → NumberAndRest → NumberAndRest → Option SpelledTap
at_kind reader seq account utc place = field kind_of_word place.1 >>= at_end reader seq account utc place

abbrev at_place : NumberAndRest → NumberAndRest → NumberAndRest → NumberAndRest → Option SpelledTap
at_place reader seq account utc = field (number_within 1 65_535) utc.1 >>= at_kind reader seq account utc

abbrev at_utc : NumberAndRest → NumberAndRest → NumberAndRest → Option SpelledTap
at_utc reader seq account = field (number_within 0 4_294_967_295) account.1 >>= at_place reader seq account

abbrev at_account : NumberAndRest → NumberAndRest → Option SpelledTap
at_account reader seq = field (number_within 1 4_294_967_295) seq.1 >>= at_utc reader seq

abbrev at_seq : NumberAndRest → Option SpelledTap
at_seq reader = field (number_within 0 4_294_967_295) reader.1 >>= at_account reader

fields_joined : (ws : List (List ℕ)) (reader seq account utc place : NumberAndRest) (kind : Kind × List (List ℕ))
    → ws ≡ decimal reader.0 ∷ reader.1 → reader.1 ≡ decimal seq.0 ∷ seq.1 → seq.1 ≡ decimal account.0 ∷ account.1 → account.1 ≡ decimal utc.0 ∷ utc.1
    → utc.1 ≡ decimal place.0 ∷ place.1 → place.1 ≡ spelling_of_kind kind.0 ∷ kind.1 → kind.1 ≡ []
    → ws ≡ fields_of (record { reader = reader.0; seq = seq.0; account = account.0; utc = utc.0; place = place.0; kind = kind.0 })
fields_joined ws reader seq account utc place kind a b c d e f g = rw (a, b, c, d, e, f, g) refl

read_as : (ws : List (List ℕ)) (read tap : SpelledTap) → IsSpelledTap read → ws ≡ fields_of read → read ≡ tap → IsSpelledTap tap × (ws ≡ fields_of tap)
read_as ws read tap fits spelled e = subst (λ (t : SpelledTap). IsSpelledTap t × (ws ≡ fields_of t)) e (fits, spelled)

tap_is : (ws : List (List ℕ)) (tap : SpelledTap) → tap_of ws ≡ Some tap → IsSpelledTap tap × (ws ≡ fields_of tap)
unfolding tap_of
tap_is ws tap e =
    let r = bind_some (field (number_within 1 65_535) ws) at_seq tap e in
    let s = bind_some (field (number_within 0 4_294_967_295) r.0.1) (at_account r.0) tap r.2 in
    let a = bind_some (field (number_within 1 4_294_967_295) s.0.1) (at_utc r.0 s.0) tap s.2 in
    let u = bind_some (field (number_within 0 4_294_967_295) a.0.1) (at_place r.0 s.0 a.0) tap a.2 in
    let p = bind_some (field (number_within 1 65_535) u.0.1) (at_kind r.0 s.0 a.0 u.0) tap u.2 in
    let k = bind_some (field kind_of_word p.0.1) (at_end r.0 s.0 a.0 u.0 p.0) tap p.2 in
    let read : SpelledTap = record { reader = r.0.0; seq = s.0.0; account = a.0.0; utc = u.0.0; place = p.0.0; kind = k.0.0 } in
    let last = cond_some (has_none k.0.1) read tap k.2 in
    let reader = number_is_next 1 65_535 ws r.0 r.1 in
    let seq = number_is_next 0 4_294_967_295 r.0.1 s.0 s.1 in
    let account = number_is_next 1 4_294_967_295 s.0.1 a.0 a.1 in
    let utc = number_is_next 0 4_294_967_295 a.0.1 u.0 u.1 in
    let place = number_is_next 1 65_535 u.0.1 p.0 p.1 in
    let fits : IsSpelledTap read = record { reader = (reader.1, reader.2); seq = seq.2; account = (account.1, account.2); utc = utc.2; place = (place.1, place.2) } in
    let spelled : ws ≡ fields_of read = fields_joined ws r.0 s.0 a.0 u.0 p.0 k.0 reader.0 seq.0 account.0 utc.0 place.0 (kind_is_next p.0.1 k.0 k.1) (none_left k.0.1 last.0) in
    read_as ws read tap fits spelled last.1

-- two numbers, and no word after them
two_joined : (ws : List (List ℕ)) (a b : NumberAndRest) → ws ≡ decimal a.0 ∷ a.1 → a.1 ≡ decimal b.0 ∷ b.1 → b.1 ≡ [] → ws ≡ decimal a.0 ∷ decimal b.0 ∷ []
two_joined ws a b f g h = rw (f, g, h) refl

-- the reader or the staff of a number and its seq that are read, step by step
abbrev at_named_end : NumberAndRest → NumberAndRest → Option (ℕ × ℕ)
at_named_end first seq = cond (has_none seq.1) (Some (first.0, seq.0)) None

abbrev at_named_seq : NumberAndRest → Option (ℕ × ℕ)
at_named_seq first = field (number_within 0 4_294_967_295) first.1 >>= at_named_end first

abbrev NamedRead : ℕ → List (List ℕ) → ℕ × ℕ → Type 0
NamedRead most ws named = (ws ≡ decimal named.0 ∷ decimal named.1 ∷ []) × ((1 ≤ named.0) × (named.0 ≤ most)) × (named.1 ≤ 4_294_967_295)

named_is : (most : ℕ) (ws : List (List ℕ)) (named : ℕ × ℕ) → named_of most ws ≡ Some named → NamedRead most ws named
unfolding named_of
named_is most ws named e =
    let f = bind_some (field (number_within 1 most) ws) at_named_seq named e in
    let s = bind_some (field (number_within 0 4_294_967_295) f.0.1) (at_named_end f.0) named f.2 in
    let last = cond_some (has_none s.0.1) (f.0.0, s.0.0) named s.2 in
    let first = number_is_next 1 most ws f.0 f.1 in
    let seq = number_is_next 0 4_294_967_295 f.0.1 s.0 s.1 in
    subst (λ (n : ℕ × ℕ). NamedRead most ws n) last.1 (two_joined ws f.0 s.0 first.0 seq.0 (none_left s.0.1 last.0), (first.1, first.2), seq.2)

abbrev WhatRead : Form → List (List ℕ) → SpelledWhat → Type 0
WhatRead f ws what = IsSpelledWhat what × (form_word f ∷ ws ≡ words_of_what what)

beyond : (w : List ℕ) {ws vs : List (List ℕ)} → ws ≡ vs → w ∷ ws ≡ w ∷ vs
beyond w e = ap (λ (r : List (List ℕ)). w ∷ r) e

-- a fill that is read, step by step
abbrev at_fill_end : NumberAndRest → NumberAndRest → Kind × List (List ℕ) → Option SpelledWhat
at_fill_end utc place kind = cond (has_none kind.1) (Some (spelled.Fill utc.0 place.0 kind.0)) None

abbrev at_fill_kind : NumberAndRest → NumberAndRest → Option SpelledWhat
at_fill_kind utc place = field kind_of_word place.1 >>= at_fill_end utc place

abbrev at_fill_place : NumberAndRest → Option SpelledWhat
at_fill_place utc = field (number_within 1 65_535) utc.1 >>= at_fill_kind utc

fill_joined : (ws : List (List ℕ)) (utc place : NumberAndRest) (kind : Kind × List (List ℕ)) → ws ≡ decimal utc.0 ∷ utc.1 → utc.1 ≡ decimal place.0 ∷ place.1 → place.1 ≡ spelling_of_kind kind.0 ∷ kind.1 → kind.1 ≡ []
    → ws ≡ decimal utc.0 ∷ decimal place.0 ∷ spelling_of_kind kind.0 ∷ []
fill_joined ws utc place kind a b c d = rw (a, b, c, d) refl

fill_is : (ws : List (List ℕ)) (what : SpelledWhat) → fill_of ws ≡ Some what → WhatRead form.Fill ws what
unfolding fill_of
fill_is ws what e =
    let u = bind_some (field (number_within 0 4_294_967_295) ws) at_fill_place what e in
    let p = bind_some (field (number_within 1 65_535) u.0.1) (at_fill_kind u.0) what u.2 in
    let k = bind_some (field kind_of_word p.0.1) (at_fill_end u.0 p.0) what p.2 in
    let last = cond_some (has_none k.0.1) (spelled.Fill u.0.0 p.0.0 k.0.0) what k.2 in
    let utc = number_is_next 0 4_294_967_295 ws u.0 u.1 in
    let place = number_is_next 1 65_535 u.0.1 p.0 p.1 in
    let joined = fill_joined ws u.0 p.0 k.0 utc.0 place.0 (kind_is_next p.0.1 k.0 k.1) (none_left k.0.1 last.0) in
    subst (λ (w : SpelledWhat). WhatRead form.Fill ws w) last.1 ((utc.2, (place.1, place.2)), beyond (codes "FILL") joined)

-- a credit that is read, step by step
abbrev credit_from : ℕ → ℕ → SpelledCredit
credit_from day pence = record { day = day; pence = pence }

abbrev at_credit_end : NumberAndRest → NumberAndRest → Option SpelledCredit
at_credit_end day pence = cond (has_none pence.1) (Some (credit_from day.0 pence.0)) None

abbrev at_pence : NumberAndRest → Option SpelledCredit
at_pence day = field (number_within 1 100_000) day.1 >>= at_credit_end day

abbrev CreditRead : List (List ℕ) → SpelledCredit → Type 0
CreditRead ws credit = IsSpelledCredit credit × (ws ≡ decimal credit.day ∷ decimal credit.pence ∷ [])

in_ranges : (day pence : ℕ) → 4 ≤ day → day ≤ 50_000 → 1 ≤ pence → pence ≤ 100_000 → IsSpelledCredit (credit_from day pence)
in_ranges day pence a b c d = record { day = (a, b); some = c; within = d }

credit_is : (ws : List (List ℕ)) (credit : SpelledCredit) → credit_of ws ≡ Some credit → CreditRead ws credit
unfolding credit_of
credit_is ws credit e =
    let d = bind_some (field (number_within 4 50_000) ws) at_pence credit e in
    let p = bind_some (field (number_within 1 100_000) d.0.1) (at_credit_end d.0) credit d.2 in
    let last = cond_some (has_none p.0.1) (credit_from d.0.0 p.0.0) credit p.2 in
    let day = number_is_next 4 50_000 ws d.0 d.1 in
    let pence = number_is_next 1 100_000 d.0.1 p.0 p.1 in
    subst (λ (c : SpelledCredit). CreditRead ws c) last.1 (in_ranges d.0.0 p.0.0 day.1 day.2 pence.1 pence.2, two_joined ws d.0 p.0 day.0 pence.0 (none_left p.0.1 last.0))

-- what is read of the fields of a form
what_from : (f : Form) (ws : List (List ℕ)) (what : SpelledWhat) → what_for f ws ≡ Some what → WhatRead f ws what
what_from form.Void ws what e =
    let b = bind_some (named_of 65_535 ws) (λ named. Some (spelled.Void named.0 named.1)) what e in
    let n = named_is 65_535 ws b.0 b.1 in
    subst (λ (w : SpelledWhat). WhatRead form.Void ws w) (some_is (spelled.Void b.0.0 b.0.1) what b.2) ((n.1, n.2), beyond (codes "VOID") n.0)
what_from form.Fill ws what e = fill_is ws what e
what_from form.Credit ws what e =
    let b = bind_some (credit_of ws) (λ credit. Some (spelled.Credit credit)) what e in
    let c = credit_is ws b.0 b.1 in
    subst (λ (w : SpelledWhat). WhatRead form.Credit ws w) (some_is (spelled.Credit b.0) what b.2) (c.0, beyond (codes "CREDIT") c.1)
what_from form.Drop ws what e =
    let b = bind_some (named_of 65_535 ws) (λ named. Some (spelled.Drop named.0 named.1)) what e in
    let n = named_is 65_535 ws b.0 b.1 in
    subst (λ (w : SpelledWhat). WhatRead form.Drop ws w) (some_is (spelled.Drop b.0.0 b.0.1) what b.2) ((n.1, n.2), beyond (codes "DROP") n.0)

what_is : (ws : List (List ℕ)) (what : SpelledWhat) → what_of ws ≡ Some what → IsSpelledWhat what × (ws ≡ words_of_what what)
what_is ws what e =
    let b = bind_some (field form_of_word ws) (λ f. what_for f.0 f.1) what e in
    let f = field_is form_of_word ws b.0 b.1 in
    let read = what_from b.0.0 b.0.1 what b.2 in
    (read.0, f.1 ∙ ap (λ (w : List ℕ). w ∷ b.0.1) (form_is f.0 b.0.0 f.2) ∙ read.1)

-- a correction that is read, step by step
abbrev at_fix_end : NumberAndRest → NumberAndRest → NumberAndRest → SpelledWhat → Option SpelledFix
at_fix_end staff seq account what = Some (record { staff = staff.0; seq = seq.0; account = account.0; what = what })

abbrev at_what : NumberAndRest → NumberAndRest → NumberAndRest → Option SpelledFix
at_what staff seq account = what_of account.1 >>= at_fix_end staff seq account

abbrev at_fix_account : NumberAndRest → NumberAndRest → Option SpelledFix
at_fix_account staff seq = field (number_within 1 4_294_967_295) seq.1 >>= at_what staff seq

abbrev at_fix_seq : NumberAndRest → Option SpelledFix
at_fix_seq staff = field (number_within 0 4_294_967_295) staff.1 >>= at_fix_account staff

fix_joined : (ws : List (List ℕ)) (staff seq account : NumberAndRest) (what : SpelledWhat)
    → ws ≡ decimal staff.0 ∷ staff.1 → staff.1 ≡ decimal seq.0 ∷ seq.1 → seq.1 ≡ decimal account.0 ∷ account.1 → account.1 ≡ words_of_what what
    → ws ≡ fix_fields (record { staff = staff.0; seq = seq.0; account = account.0; what = what })
fix_joined ws staff seq account what a b c d = rw (a, b, c, d) refl

abbrev FixRead : List (List ℕ) → SpelledFix → Type 0
FixRead ws fix = IsSpelledFix fix × (ws ≡ fix_fields fix)

fix_read_as : (ws : List (List ℕ)) (read fix : SpelledFix) → IsSpelledFix read → ws ≡ fix_fields read → read ≡ fix → FixRead ws fix
fix_read_as ws read fix fits spelled e = subst (λ (x : SpelledFix). FixRead ws x) e (fits, spelled)

fix_is : (ws : List (List ℕ)) (fix : SpelledFix) → fix_of ws ≡ Some fix → FixRead ws fix
unfolding fix_of
fix_is ws fix e =
    let f = bind_some (field (number_within 1 65_535) ws) at_fix_seq fix e in
    let s = bind_some (field (number_within 0 4_294_967_295) f.0.1) (at_fix_account f.0) fix f.2 in
    let a = bind_some (field (number_within 1 4_294_967_295) s.0.1) (at_what f.0 s.0) fix s.2 in
    let w = bind_some (what_of a.0.1) (at_fix_end f.0 s.0 a.0) fix a.2 in
    let read : SpelledFix = record { staff = f.0.0; seq = s.0.0; account = a.0.0; what = w.0 } in
    let staff = number_is_next 1 65_535 ws f.0 f.1 in
    let seq = number_is_next 0 4_294_967_295 f.0.1 s.0 s.1 in
    let account = number_is_next 1 4_294_967_295 s.0.1 a.0 a.1 in
    let what = what_is a.0.1 w.0 w.1 in
    let fits : IsSpelledFix read = record { staff = (staff.1, staff.2); seq = seq.2; account = (account.1, account.2); what = what.0 } in
    let spelled : ws ≡ fix_fields read = fix_joined ws f.0 s.0 a.0 w.0 staff.0 seq.0 account.0 what.1 in
    fix_read_as ws read fix fits spelled (some_is read fix w.2)

-- an account and a service day that are read, step by step
abbrev at_day_end : NumberAndRest → NumberAndRest → Option (ℕ × ℕ)
at_day_end account day = cond (has_none day.1) (Some (account.0, day.0)) None

abbrev at_day : NumberAndRest → Option (ℕ × ℕ)
at_day account = field (number_within 4 50_000) account.1 >>= at_day_end account

abbrev AccountDayRead : List (List ℕ) → ℕ × ℕ → Type 0
AccountDayRead ws asked = IsAccountDay asked.0 asked.1 × (ws ≡ account_day_fields asked.0 asked.1)

account_day_is : (ws : List (List ℕ)) (asked : ℕ × ℕ) → account_day_of ws ≡ Some asked → AccountDayRead ws asked
unfolding account_day_of
account_day_is ws asked e =
    let a = bind_some (field (number_within 1 4_294_967_295) ws) at_day asked e in
    let d = bind_some (field (number_within 4 50_000) a.0.1) (at_day_end a.0) asked a.2 in
    let last = cond_some (has_none d.0.1) (a.0.0, d.0.0) asked d.2 in
    let account = number_is_next 1 4_294_967_295 ws a.0 a.1 in
    let day = number_is_next 4 50_000 a.0.1 d.0 d.1 in
    subst (λ (r : ℕ × ℕ). AccountDayRead ws r) last.1 (((account.1, account.2), (day.1, day.2)), two_joined ws a.0 d.0 account.0 day.0 (none_left d.0.1 last.0))

-- a service day that is read, step by step
abbrev at_close_end : NumberAndRest → Option ℕ
at_close_end day = cond (has_none day.1) (Some day.0) None

abbrev DayRead : List (List ℕ) → ℕ → Type 0
DayRead ws day = IsDay day × (ws ≡ day_fields day)

one_joined : (ws : List (List ℕ)) (a : NumberAndRest) → ws ≡ decimal a.0 ∷ a.1 → a.1 ≡ [] → ws ≡ decimal a.0 ∷ []
one_joined ws a f g = rw (f, g) refl

day_is : (ws : List (List ℕ)) (day : ℕ) → day_of ws ≡ Some day → DayRead ws day
unfolding day_of
day_is ws day e =
    let d = bind_some (field (number_within 4 50_000) ws) at_close_end day e in
    let last = cond_some (has_none d.0.1) d.0.0 day d.2 in
    let read = number_is_next 4 50_000 ws d.0 d.1 in
    subst (λ (n : ℕ). DayRead ws n) last.1 ((read.1, read.2), one_joined ws d.0 read.0 (none_left d.0.1 last.0))

abbrev keyword_word : Keyword → List ℕ
keyword_word keyword.Tap = codes "TAP"
keyword_word keyword.Fix = codes "FIX"
keyword_word keyword.Due = codes "DUE"
keyword_word keyword.Show = codes "SHOW"
keyword_word keyword.Close = codes "CLOSE"
keyword_word keyword.Quit = codes "QUIT"

same_keyword : (name : List ℕ) (a k : Keyword) → (bytes_eq name (keyword_word a) ≡ true) × (a ≡ k) → name ≡ keyword_word k
same_keyword name a k h = (bytes_eq-Decides name (keyword_word a)).0 h.0 ∙ ap keyword_word h.1

abbrev quit_alone : List ℕ → Option Keyword
quit_alone name = cond (bytes_eq name (codes "QUIT")) (Some keyword.Quit) None

abbrev from_close : List ℕ → Option Keyword
from_close name = cond (bytes_eq name (codes "CLOSE")) (Some keyword.Close) (quit_alone name)

abbrev from_show : List ℕ → Option Keyword
from_show name = cond (bytes_eq name (codes "SHOW")) (Some keyword.Show) (from_close name)

abbrev from_due : List ℕ → Option Keyword
from_due name = cond (bytes_eq name (codes "DUE")) (Some keyword.Due) (from_show name)

abbrev from_fix : List ℕ → Option Keyword
from_fix name = cond (bytes_eq name (codes "FIX")) (Some keyword.Fix) (from_due name)

keyword_is : (name : List ℕ) (k : Keyword) → keyword_of name ≡ Some k → name ≡ keyword_word k
keyword_is name k e =
    elim (choice (bytes_eq name (codes "TAP")) (from_fix name) keyword.Tap k e) [
      | inl p ↦ same_keyword name keyword.Tap k p
      | inr after_tap ↦ elim (choice (bytes_eq name (codes "FIX")) (from_due name) keyword.Fix k after_tap) [
        | inl p ↦ same_keyword name keyword.Fix k p
        | inr after_fix ↦ elim (choice (bytes_eq name (codes "DUE")) (from_show name) keyword.Due k after_fix) [
          | inl p ↦ same_keyword name keyword.Due k p
          | inr after_due ↦ elim (choice (bytes_eq name (codes "SHOW")) (from_close name) keyword.Show k after_due) [
            | inl p ↦ same_keyword name keyword.Show k p
            | inr after_show ↦ elim (choice (bytes_eq name (codes "CLOSE")) (quit_alone name) keyword.Close k after_show) [
              | inl p ↦ same_keyword name keyword.Close k p
              | inr last ↦ same_keyword name keyword.Quit k (cond_some (bytes_eq name (codes "QUIT")) keyword.Quit k last)
            ]
          ]
        ]
      ]
    ]

-- the bytes up to the first space, or to the end
abbrev first_word : List ℕ → List ℕ
first_word line = before_first is_space line

-- a line is its words with one space between each two
joined_again : (line first name : List ℕ) (rest ws : List (List ℕ)) → words line ≡ first ∷ rest → first ≡ name → rest ≡ ws → line ≡ join_with_byte 32 (name ∷ ws)
joined_again line first name rest ws split f e = sym (join_with_byte-slice_split 32 line) ∙ ap (join_with_byte 32) (split ∙ λ i. f i ∷ e i)

spelled_after : (line : List ℕ) (rest : List (List ℕ)) (k : Keyword) (command : SpelledCommand) → words line ≡ first_word line ∷ rest → first_word line ≡ keyword_word k → command_for k rest ≡ Some command → Spells line command
spelled_after line rest keyword.Tap command split name e =
    let b = bind_some (tap_of rest) (λ tap. Some (Tap tap)) command e in
    let t = tap_is rest b.0 b.1 in
    subst (λ (c : SpelledCommand). Spells line c) (some_is (Tap b.0) command b.2) (t.0, joined_again line (first_word line) (codes "TAP") rest (fields_of b.0) split name t.1)
spelled_after line rest keyword.Fix command split name e =
    let b = bind_some (fix_of rest) (λ fix. Some (Fix fix)) command e in
    let f = fix_is rest b.0 b.1 in
    subst (λ (c : SpelledCommand). Spells line c) (some_is (Fix b.0) command b.2) (f.0, joined_again line (first_word line) (codes "FIX") rest (fix_fields b.0) split name f.1)
spelled_after line rest keyword.Due command split name e =
    let b = bind_some (account_day_of rest) (λ asked. Some (Due asked.0 asked.1)) command e in
    let a = account_day_is rest b.0 b.1 in
    subst (λ (c : SpelledCommand). Spells line c) (some_is (Due b.0.0 b.0.1) command b.2) (a.0, joined_again line (first_word line) (codes "DUE") rest (account_day_fields b.0.0 b.0.1) split name a.1)
spelled_after line rest keyword.Show command split name e =
    let b = bind_some (account_day_of rest) (λ asked. Some (Show asked.0 asked.1)) command e in
    let a = account_day_is rest b.0 b.1 in
    subst (λ (c : SpelledCommand). Spells line c) (some_is (Show b.0.0 b.0.1) command b.2) (a.0, joined_again line (first_word line) (codes "SHOW") rest (account_day_fields b.0.0 b.0.1) split name a.1)
spelled_after line rest keyword.Close command split name e =
    let b = bind_some (day_of rest) (λ day. Some (Close day)) command e in
    let d = day_is rest b.0 b.1 in
    subst (λ (c : SpelledCommand). Spells line c) (some_is (Close b.0) command b.2) (d.0, joined_again line (first_word line) (codes "CLOSE") rest (day_fields b.0) split name d.1)
spelled_after line rest keyword.Quit command split name e =
    let q = cond_some (has_none rest) Quit command e in
    subst (λ (c : SpelledCommand). Spells line c) q.1 (tt, joined_again line (first_word line) (codes "QUIT") rest [] split name (none_left rest q.0))

pub is_spelled : (line : List ℕ) (command : SpelledCommand) → command_of line ≡ Some command → Spells line command
is_spelled line command e =
    let split = split_at_end line in
    let rest = words_after (drop (position_or_len is_space line) line) in
    let b = bind_some (keyword_of (first_word line)) (λ k. command_for k rest) command (ap command_of_words (sym split) ∙ e) in
    spelled_after line rest b.0 command split (keyword_is (first_word line) b.0 b.1) b.2

-- what is read of a keyword and the words after it is in its ranges
pub in_range : (line name : List ℕ) (rest : List (List ℕ)) (k : Keyword) (command : Option SpelledCommand) → words line ≡ name ∷ rest → keyword_of name ≡ Some k → command ≡ command_for k rest → IfSome command IsSpelled
in_range line name rest k (Some command) split keyword e =
    let read : command_of_words (name ∷ rest) ≡ Some command = rw keyword (sym e) in
    (is_spelled line command (ap command_of_words split ∙ read)).0
in_range line name rest k None split keyword e = tt

-- What a posted form asks for.
use Rattle.std.specs.Prelude.{◌≡◌, ◌++◌, ℕ, List, codes, decimal, bytes_eq, Option, Some, None, Result, Ok, Err, String, if◌then◌else◌, option_map, refl}
use Rattle.std.specs.String.{string_bytes}
use Rattle.pay_clerks.specs.Words.{ClerkOf}
use Rattle.pay_wire.specs.declared.command.SpelledFix.{SpelledFix}
use Rattle.pay_web.specs.Asked.{IsAsked, value_of}
use Rattle.pay_web.specs.Corrections.{fix_by, is_over}
use Rattle.pay_web.specs.Forms.{FixWords, FormWords, TapWords, fix_form, fix_words, form_of, tap_form}
use Rattle.pay_web.specs.declared.asked.Asked.{Asked}
use Rattle.pay_web.specs.declared.forms.FixForm.{FixForm}
use Rattle.pay_web.specs.declared.wish.BadWish.{BadWish}
use Rattle.pay_web.specs.declared.wish.BadWish.TheVariants.{BadForm, Stale, OverLimit, NoSuchTime}
use Rattle.pay_web.specs.declared.wish.Form.{Form}
use Rattle.pay_web.specs.declared.wish.Form.TheVariants as form
use Rattle.pay_web.specs.declared.wish.Wish.{Wish}
use Rattle.pay_web.specs.declared.wish.Wish.TheVariants.{Correction, Nothing}

-- each path of a form is for one thing
abbrev pub form_at : List ℕ → Option Form
form_at path =
    if bytes_eq path (codes "/preview") then Some form.Named
    else if bytes_eq path (codes "/preview-credit") then Some form.Credit
    else if bytes_eq path (codes "/preview-tap") then Some form.Tap
    else if bytes_eq path (codes "/fix") then Some form.Fix
    else None

-- a correction, if there is one and it is in the clerk's limit
abbrev pub wish_by : ℕ → Asked → Option SpelledFix → Wish
wish_by limit asked None = Nothing BadForm
wish_by limit asked (Some fix) = if is_over limit fix then Nothing OverLimit else Correction asked fix

-- the day that is asked for with a correction is a service day
abbrev pub IsWish : Wish → Type 0
IsWish (Correction asked fix) = IsAsked asked
IsWish _ = Unit {0}

-- ---- what makes a correction

-- by the words of its form: the token is that of the page as it runs, and the number, the account and what it does are the form's
abbrev pub wish_of_words : List ℕ → ClerkOf → Asked → FixWords → Wish
wish_of_words token clerk asked words =
    if bytes_eq words.token token then wish_by clerk.limit asked (fix_by clerk.staff words.seq asked.account words.what) else Nothing Stale

abbrev pub wish_of_form : List ℕ → ClerkOf → Asked → FixForm → Wish
wish_of_form token clerk asked form = wish_of_words token clerk asked (fix_words form)

abbrev pub wish_of_rest : List ℕ → ClerkOf → Asked → Option FixWords → Wish
wish_of_rest token clerk asked None = Nothing BadForm
wish_of_rest token clerk asked (Some words) = wish_of_words token clerk asked words

abbrev pub wish_after : List ℕ → ClerkOf → Option FormWords → Wish
wish_after token clerk None = Nothing BadForm
wish_after token clerk (Some form) = wish_of_rest token clerk form.asked (fix_form form.rest)

abbrev pub fix_wish : List ℕ → ClerkOf → List ℕ → Wish
fix_wish token clerk body = wish_after token clerk (form_of body)

-- ---- what shows a correction

abbrev pub credit_said : ℕ → List ℕ → List ℕ
credit_said day pence = codes "CREDIT " ++ (decimal day ++ (codes " " ++ pence))

abbrev pub fill_said : ℕ → TapWords → List ℕ
fill_said utc words = codes "FILL " ++ (decimal utc ++ (codes " " ++ (words.place ++ (codes " " ++ words.kind))))

-- what a form says, which is there or not
abbrev pub said_or_bad : Option (List ℕ) → Result (List ℕ) BadWish
said_or_bad (Some what) = Ok what
said_or_bad None = Err BadForm

-- a tap is added at an instant, if the clock shows its time at one
abbrev pub fill_or_bad : TapWords → Option ℕ → Result (List ℕ) BadWish
fill_or_bad words (Some utc) = Ok (fill_said utc words)
fill_or_bad words None = Err NoSuchTime

abbrev pub said_of : {Z : Type 0} → Result (String Z) BadWish → Result (List ℕ) BadWish
said_of (Ok text) = Ok (string_bytes text)
said_of (Err why) = Err why

-- By which instants pages know: of a service day, and a local second of it.
module _ {P : Type 0} (is_instant : P → ℕ → ℕ → Option ℕ → Type 0) (pages : P) where
  -- a tap that is added says the instant of its day and second; none is added where the form cannot be read, or there is no such instant
  abbrev pub IsTapSaidBy : ℕ → Option TapWords → Result (List ℕ) BadWish → Type 0
  IsTapSaidBy day None said = said ≡ Err BadForm
  IsTapSaidBy day (Some words) said = (utc : Option ℕ) × is_instant pages day words.second utc × (said ≡ fill_or_bad words utc)

  abbrev pub IsTapSaid : ℕ → List ℕ → Result (List ℕ) BadWish → Type 0
  IsTapSaid day rest = IsTapSaidBy day (tap_form rest)

  -- what a correction does, as the form of a path says it
  abbrev pub IsSaidAt : Form → ℕ → List ℕ → Result (List ℕ) BadWish → Type 0
  IsSaidAt form.Named day rest said = said ≡ said_or_bad (value_of (codes "what=") rest)
  IsSaidAt form.Fix day rest said = said ≡ said_or_bad (value_of (codes "what=") rest)
  IsSaidAt form.Credit day rest said = said ≡ said_or_bad (option_map (credit_said day) (value_of (codes "pence=") rest))
  IsSaidAt form.Tap day rest said = IsTapSaid day rest said

  abbrev pub wish_of_said : ClerkOf → Asked → ℕ → Result (List ℕ) BadWish → Wish
  wish_of_said clerk asked seq (Err why) = Nothing why
  wish_of_said clerk asked seq (Ok what) = wish_by clerk.limit asked (fix_by clerk.staff seq asked.account what)

  -- a correction of the clerk, of some number
  pub record IsShown (clerk : ClerkOf) (form : Form) (asked : Asked) (rest : List ℕ) (wish : Wish) : Type 0 where
    pub seq : ℕ
    pub said : Result (List ℕ) BadWish
    pub says : IsSaidAt form asked.day rest said
    pub is : wish ≡ wish_of_said clerk asked seq said

  abbrev pub IsShownAfter : ClerkOf → Form → Option FormWords → Wish → Type 0
  IsShownAfter clerk form None wish = wish ≡ Nothing BadForm
  IsShownAfter clerk form (Some read) wish = IsShown clerk form read.asked read.rest wish

  abbrev pub IsPreviewWish : ClerkOf → Form → List ℕ → Wish → Type 0
  IsPreviewWish clerk form body wish = IsShownAfter clerk form (form_of body) wish

-- ---- worked rows, of a form that is read, where no clock shows its time

no_clock_shows_it : fill_or_bad (record { second = 5_400; place = codes "50"; kind = codes "BUS" }) None ≡ Err NoSuchTime
no_clock_shows_it = refl

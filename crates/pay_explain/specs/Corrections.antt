-- What the corrections about a day do, as lines.
use Rattle.std.specs.Prelude.{◌≡◌, ℕ, ◌+◌, ◌*◌, ◌==◌, Bool, true, false, if◌then◌else◌, List, [], ◌∷◌, ◌++◌, codes, decimal, Option, Some, None, refl}
use Rattle.std.specs.Fmt.{digits}
use Rattle.std.specs.List.{flat_map}
use Rattle.std.specs.FinMap.{get, values}
use Rattle.pay_day.specs.Words.{Stamp}
use Rattle.pay_names.specs.Words.{Named}
use Rattle.pay_rules.specs.declared.tap.Kind.{Kind}
use Rattle.pay_rules.specs.declared.tap.Kind.TheVariants as kind
use Rattle.pay_rules.specs.declared.tap.Tap.{Tap}
use Rattle.pay_rules.specs.declared.fix.Fix.{Fix}
use Rattle.pay_rules.specs.declared.fix.What.{What}
use Rattle.pay_rules.specs.declared.fix.What.TheVariants.{Void, Fill, Credit, Drop}
use Rattle.pay_rules.specs.Taps.{Taps}
use Rattle.pay_rules.specs.Fixes.{Fixes}
use Rattle.pay_rules.specs.Accepted.{Accepted}
use Rattle.pay_rules.specs.NamedDay.{day_named}
use Rattle.pay_why.specs.declared.correction.FixReason.{FixReason}
use Rattle.pay_why.specs.declared.correction.FixReason.TheVariants.{Stands, DroppedBy, NamesNothing}
use Rattle.pay_why.specs.Words.{fix_reason}
use Rattle.pay_explain.specs.declared.routes.Route.{Route}
use Rattle.pay_explain.specs.declared.routes.Route.TheVariants as route
use Rattle.pay_explain.specs.Amounts.{pounds_text}
use Rattle.pay_explain.specs.Routes.{route_text}
use Rattle.pay_explain.specs.Sentences.{when_text}

-- the form of a correction
abbrev pub form_text : What → List ℕ
form_text (Void reader seq) = codes "Void"
form_text (Fill stamp place kind) = codes "Fill"
form_text (Credit credit) = codes "Credit"
form_text (Drop staff seq) = codes "Drop"

-- where a tap was made
abbrev pub place_of : ℕ → Kind → Route
place_of place kind.In = route.In place
place_of place kind.Out = route.Out place
place_of place kind.Bus = route.Bus place

-- a tap, for a service day
abbrev pub tap_text : Named → ℕ → Stamp → ℕ → Kind → List ℕ
tap_text names day stamp place kind = route_text names (place_of place kind) ++ (codes " " ++ when_text day stamp)

-- the tap of a number, where it is accepted
abbrev pub named_tap_text : Named → ℕ → Option Tap → List ℕ
named_tap_text names day None = []
named_tap_text names day (Some tap) = codes ", " ++ tap_text names day tap.stamp tap.place tap.kind

-- what a correction is of: the tap of a Void, as far as it is known, that of a Fill, an amount, or another correction
abbrev pub subject_text : Named → ℕ → Option Tap → What → List ℕ
subject_text names day tap (Void reader seq) = codes "tap " ++ (decimal reader ++ (codes " " ++ (decimal seq ++ named_tap_text names day tap)))
subject_text names day tap (Fill stamp place kind) = tap_text names day stamp place kind
subject_text names day tap (Credit credit) = pounds_text credit.pence
subject_text names day tap (Drop staff seq) = decimal staff ++ (codes " " ++ decimal seq)

-- what it does now
abbrev pub effect_text : FixReason → List ℕ
effect_text Stands = codes "stands"
effect_text (DroppedBy staff seq) = codes "withdrawn by " ++ (decimal staff ++ (codes " " ++ decimal seq))
effect_text NamesNothing = codes "names nothing"

-- a correction, for a service day; the text begins where that of a journey does, below its amount
abbrev pub correction_text : Named → ℕ → Option Tap → FixReason → Fix → List ℕ
correction_text names day tap reason fix =
    codes "         " ++ (form_text fix.what
    ++ (codes " " ++ (decimal fix.staff ++ (codes " " ++ (decimal fix.seq ++ (codes " of " ++ (subject_text names day tap fix.what ++ (codes ": " ++ (effect_text reason ++ codes "\n")))))))))

-- the tap that a Void names, where it is accepted
abbrev pub tap_of : Taps → What → Option Tap
tap_of taps (Void reader seq) = get taps (reader, seq)
tap_of taps _ = None

-- whether what names this day is about a day: what names none may be about any
abbrev pub is_about : Option ℕ → ℕ → Bool
is_about None day = true
is_about (Some named) day = named == day

-- the line of an accepted correction, if it is about a day
abbrev pub correction_line : Named → Taps → Fixes → ℕ → Fix → List ℕ
correction_line names taps fixes day fix =
    if is_about (day_named taps fixes fix.what) day then correction_text names day (tap_of taps fix.what) (fix_reason taps fixes fix) fix else []

-- and those of all, in the order of their numbers
abbrev pub corrections_text : Named → Taps → Fixes → ℕ → List ℕ
corrections_text names taps fixes day = flat_map (correction_line names taps fixes day) (values fixes)

-- ---- worked rows: corrections of account 7 by staff 3 about Monday, 2024-01-08

abbrev fix : ℕ → What → Fix
fix seq what = record { account = 7; staff = 3; seq = seq; what = what }

abbrev at_second : ℕ → Stamp
at_second second = record { utc = 86_400 * 19_730 + second; day = 19_730; second = second }

voided : correction_text [] 19_730 (Some (record { account = 7; reader = 1; seq = 1; place = 10; kind = kind.In; stamp = at_second 25_200 })) Stands (fix 1 (Void 1 1))
    ≡ codes "         Void 3 1 of tap 1 1, rail in at 10 at 07:00:00: stands\n"
unfolding digits
voided = refl

early : correction_text [] 19_730 None NamesNothing (fix 2 (Void 1 9)) ≡ codes "         Void 3 2 of tap 1 9: names nothing\n"
unfolding digits
early = refl

filled : correction_text [] 19_730 None Stands (fix 3 (Fill (at_second 27_000) 12 kind.Out)) ≡ codes "         Fill 3 3 of rail out at 12 at 07:30:00: stands\n"
unfolding digits
filled = refl

withdrawn : correction_text [] 19_730 None (DroppedBy 3 5) (fix 4 (Credit (record { day = 19_730; pence = 105 }))) ≡ codes "         Credit 3 4 of 1.05: withdrawn by 3 5\n"
unfolding digits
withdrawn = refl

withdraws : correction_text [] 19_730 None Stands (fix 5 (Drop 3 4)) ≡ codes "         Drop 3 5 of 3 4: stands\n"
unfolding digits
withdraws = refl

by_name : correction_text ((12, codes "Castle") ∷ []) 19_730 None Stands (fix 3 (Fill (at_second 27_000) 12 kind.Out)) ≡ codes "         Fill 3 3 of rail out at Castle (12) at 07:30:00: stands\n"
unfolding digits
by_name = refl

boarded : tap_text [] 19_730 (at_second 31_200) 50 kind.Bus ≡ codes "bus 50 at 08:40:00"
unfolding digits
boarded = refl

-- what is about another day is not told, and what names none is
of_another_day : is_about (Some 19_731) 19_730 ≡ false
of_another_day = refl

of_no_day : is_about None 19_730 ≡ true
of_no_day = refl

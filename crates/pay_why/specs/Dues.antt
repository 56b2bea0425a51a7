-- Why so much is due of a week through a day.
use Rattle.std.specs.Prelude.{◌≡◌, ℕ, nat_le, ◌&&◌, Bool, true, false, List, [], ◌∷◌, filter, refl}
use Rattle.std.specs.FinMap.{values}
use Rattle.pay_day.specs.Words.{monday}
use Rattle.pay_rules.specs.declared.fix.Fix.{Fix}
use Rattle.pay_rules.specs.declared.fix.What.{What}
use Rattle.pay_rules.specs.declared.fix.What.TheVariants.{Void, Credit, Drop}
use Rattle.pay_rules.specs.Fixes.{Fixes, stands}
use Rattle.pay_rules.specs.StandingCredits.{credits}
use Rattle.pay_rules.specs.WeekPrices.{due}
use Rattle.pay_why.specs.declared.due.DueReason.{DueReason}

-- whether a correction is a Credit of one of the days from one through another
abbrev pub is_credit_within : ℕ → ℕ → What → Bool
is_credit_within from through (Credit credit) = nat_le from credit.day && nat_le credit.day through
is_credit_within from through _ = false

-- whether one counts for these days: it is a Credit of them, and stands among the accepted ones
abbrev pub counts : List Fix → ℕ → ℕ → Fix → Bool
counts accepted from through fix = stands accepted fix && is_credit_within from through fix.what

-- those of the accepted corrections that count for the week of a day through that day
abbrev pub counted : List Fix → ℕ → List Fix
counted accepted through = filter (counts accepted (monday through) through) accepted

abbrev pub counted_credits : Fixes → ℕ → List Fix
counted_credits fixes through = counted (values fixes) through

-- what a Credit gives back
abbrev pub pence_of : What → ℕ
pence_of (Credit credit) = credit.pence
pence_of _ = 0

-- why so much is due of a week through a day, where it costs so much
abbrev pub due_reason : ℕ → Fixes → ℕ → DueReason
due_reason price fixes through = let given = credits fixes (monday through) through in record { price = price; credits = given; due = due price given }

-- ---- worked rows: corrections of account 7 by staff 3, for the week from Monday, 19730

abbrev fix : ℕ → What → Fix
fix seq what = record { account = 7; staff = 3; seq = seq; what = what }

abbrev credit_of : ℕ → ℕ → ℕ → Fix
credit_of seq day pence = fix seq (Credit (record { day = day; pence = pence }))

-- of the Sunday before, of Monday, of Wednesday, and of the Monday after
abbrev four : List Fix
four = credit_of 1 19_729 100 ∷ credit_of 2 19_730 200 ∷ credit_of 3 19_732 300 ∷ credit_of 4 19_737 400 ∷ []

through_monday : counted four 19_730 ≡ credit_of 2 19_730 200 ∷ []
through_monday = refl

through_tuesday : counted four 19_731 ≡ credit_of 2 19_730 200 ∷ []
through_tuesday = refl

through_sunday : counted four 19_736 ≡ credit_of 2 19_730 200 ∷ credit_of 3 19_732 300 ∷ []
through_sunday = refl

-- one that a Drop names counts no more, and other corrections never do
dropped : counted (credit_of 2 19_730 200 ∷ credit_of 3 19_732 300 ∷ fix 5 (Drop 3 2) ∷ fix 6 (Void 1 1) ∷ []) 19_736 ≡ credit_of 3 19_732 300 ∷ []
dropped = refl

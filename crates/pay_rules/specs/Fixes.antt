-- The corrections of an account by number, and which of them stand.
use Rattle.std.specs.Prelude.{ℕ, ◌==◌, ◌&&◌, ◌||◌, not, Bool, true, false, List, Result}
use Rattle.std.specs.List.{list_any}
use Rattle.pay_rules.specs.Taps.{same_stamp, same_kind}
use Rattle.pay_rules.specs.Numbers.{ByNumber, judged as judged_by}
use Rattle.pay_rules.specs.declared.addition.Addition.{Addition}
use Rattle.pay_rules.specs.declared.addition.AdditionFault.{AdditionFault}
use Rattle.pay_rules.specs.declared.limits.TheConstants.{MOST_FIXES}
use Rattle.pay_rules.specs.declared.fix.Fix.{Fix}
use Rattle.pay_rules.specs.declared.fix.What.{What}
use Rattle.pay_rules.specs.declared.fix.What.TheVariants.{Void, Fill, Credit, Drop}

-- a correction's number: its staff, and the staff's count
abbrev pub number : Fix → ℕ × ℕ
number fix = (fix.staff, fix.seq)

-- the corrections of an account by number
abbrev pub Fixes : Type 0
Fixes = ByNumber Fix

abbrev pub is_number : ℕ × ℕ → ℕ × ℕ → Bool
is_number a b = a.0 == b.0 && a.1 == b.1

-- whether two corrections do the same: those of two forms never do
abbrev pub same_what : What → What → Bool
same_what (Void reader seq) (Void other_reader other_seq) = is_number (reader, seq) (other_reader, other_seq)
same_what (Fill stamp place kind) (Fill other_stamp other_place other_kind) = same_stamp stamp other_stamp && place == other_place && same_kind kind other_kind
same_what (Credit credit) (Credit other) = credit.day == other.day && credit.pence == other.pence
same_what (Drop staff seq) (Drop other_staff other_seq) = is_number (staff, seq) (other_staff, other_seq)
same_what _ _ = false

-- whether two corrections have the same content
abbrev pub same_fix : Fix → Fix → Bool
same_fix a b = a.account == b.account && is_number (number a) (number b) && same_what a.what b.what

-- how a set of corrections judges one more
abbrev pub judged : Fixes → Fix → Result Addition AdditionFault
judged fixes fix = judged_by same_fix number MOST_FIXES fixes fix

-- whether a correction is a Drop
abbrev pub is_drop : What → Bool
is_drop (Drop staff seq) = true
is_drop _ = false

-- whether it is one that names the correction of a number
abbrev pub drops : ℕ × ℕ → What → Bool
drops named (Drop staff seq) = is_number (staff, seq) named
drops named _ = false

-- whether one of the accepted corrections is a Drop that names that of a number
abbrev pub is_dropped : List Fix → ℕ × ℕ → Bool
is_dropped accepted named = list_any (λ (fix : Fix). drops named fix.what) accepted

-- A Drop always stands. A Void, a Fill or a Credit stands unless an accepted Drop names it.
abbrev pub stands : List Fix → Fix → Bool
stands accepted fix = is_drop fix.what || not (is_dropped accepted (number fix))

-- The correction that a form asks for.
use Rattle.std.specs.Prelude.{◌≡◌, ◌++◌, ◌==◌, ◌&&◌, ℕ, Bool, List, codes, decimal, map, nat_lt, Option, Some, None, if◌then◌else◌, refl}
use Rattle.std.specs.Fmt.{digits}
use Rattle.pay_wire.specs.Words.{command_of}
use Rattle.pay_wire.specs.Commands.{fix_of, named_of}
use Rattle.pay_wire.specs.declared.command.SpelledCommand.{SpelledCommand}
use Rattle.pay_wire.specs.declared.command.SpelledCommand.TheVariants.{Fix}
use Rattle.pay_wire.specs.declared.command.SpelledFix.{SpelledFix}
use Rattle.pay_wire.specs.declared.command.SpelledWhat.{SpelledWhat}
use Rattle.pay_wire.specs.declared.command.SpelledWhat.TheVariants.{Credit, Void}

-- a form is sent with a plus (43) for each space (32)
abbrev pub space_for_plus : ℕ → ℕ
space_for_plus byte = if byte == 43 then 32 else byte

-- the line of a correction
abbrev pub fix_line : ℕ → ℕ → ℕ → List ℕ → List ℕ
fix_line staff seq account what =
    (codes "FIX " ++ (decimal staff ++ (codes " " ++ (decimal seq ++ (codes " " ++ (decimal account ++ codes " ")))))) ++ map space_for_plus what

abbrev pub is_whose : ℕ → ℕ → SpelledFix → Bool
is_whose staff account fix = fix.staff == staff && fix.account == account

abbrev pub fix_if : ℕ → ℕ → Option SpelledCommand → Option SpelledFix
fix_if staff account (Some (Fix fix)) = if is_whose staff account fix then Some fix else None
fix_if staff account _ = None

-- the correction that a line spells, if it is this clerk's and of this account
abbrev pub fix_in : ℕ → ℕ → List ℕ → Option SpelledFix
fix_in staff account line = fix_if staff account (command_of line)

-- the correction of a clerk, by its number among the clerk's, of an account
abbrev pub fix_by : ℕ → ℕ → ℕ → List ℕ → Option SpelledFix
fix_by staff seq account what = fix_in staff account (fix_line staff seq account what)

-- how much a correction gives back
abbrev pub pence_of : SpelledWhat → ℕ
pence_of (Credit credit) = credit.pence
pence_of _ = 0

-- a Credit of more than the limit
abbrev pub is_over : ℕ → SpelledFix → Bool
is_over limit fix = nat_lt limit (pence_of fix.what)

-- ---- worked rows

a_void : fix_by 17 1 7 (codes "VOID+1+2") ≡ Some (record { staff = 17; seq = 1; account = 7; what = Void 1 2 })
unfolding fix_of named_of digits
a_void = refl

-- another correction cannot be hidden in what it does
no_second_line : fix_by 17 1 7 (codes "VOID+1+2%0AFIX+17+2+7+VOID+1+3") ≡ None
unfolding fix_of named_of digits
no_second_line = refl

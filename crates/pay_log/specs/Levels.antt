-- What a line begins with, by how much it matters.
use Rattle.std.specs.Prelude.{◌≡◌, ◌++◌, Bool, true, false, ℕ, List, codes, decimal, refl}
use Rattle.std.specs.Fmt.{digits}
use Rattle.pay_log.specs.declared.level.Level.{Level}
use Rattle.pay_log.specs.declared.level.Level.TheVariants.{Error, Warning, Information}

-- the number of a level, as syslog and the system's journal have it
abbrev pub number_of : Level → ℕ
number_of Error = 3
number_of Warning = 4
number_of Information = 6

-- what a line begins with, which the journal reads as its level
abbrev pub prefix_of : Bool → Level → List ℕ
prefix_of false _ = codes ""
prefix_of true level = codes "<" ++ (decimal (number_of level) ++ codes ">")

-- ---- worked rows

error_in_the_journal : prefix_of true Error ≡ codes "<3>"
unfolding digits
error_in_the_journal = refl

warning_in_the_journal : prefix_of true Warning ≡ codes "<4>"
unfolding digits
warning_in_the_journal = refl

information_in_the_journal : prefix_of true Information ≡ codes "<6>"
unfolding digits
information_in_the_journal = refl

error_elsewhere : prefix_of false Error ≡ codes ""
error_elsewhere = refl

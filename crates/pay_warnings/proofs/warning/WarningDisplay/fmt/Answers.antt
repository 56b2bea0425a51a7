use Rattle.std.proofs.Common.{◌≡◌, ◌++◌, refl, subst}
use Rattle.std.specs.Fmt.{HasWritten}
use Rattle.pay_warnings.specs.declared.warning.Concern.{Concern}
use Rattle.pay_warnings.specs.declared.warning.Concern.TheVariants.{NotRead, PeakBelowOff, FareOfZero, WeekBelowDay, CapOfZero, NoBands, NoHolidayAfter, NoHolidays}
use Rattle.pay_warnings.specs.declared.warning.TableAt.{TableAt}
use Rattle.pay_warnings.specs.Printed.{concern_text, said_text, table_text}
use Rattle.pay_warnings.specs.Warnings.{says_of}
use Rattle.pay_warnings.proofs.warning.WarningDisplay.fmt.Goals as goal

line_text : (at : TableAt) (concern : Concern) → table_text at ++ concern_text concern ≡ said_text (says_of at concern)
line_text at (NotRead name) = refl
line_text at (PeakBelowOff peak off) = refl
line_text at FareOfZero = refl
line_text at (WeekBelowDay week day) = refl
line_text at CapOfZero = refl
line_text at NoBands = refl
line_text at (NoHolidayAfter day) = refl
line_text at NoHolidays = refl

pub returns-clause-writes : goal.returns-clause-writes
returns-clause-writes g c = λ plain ok.
    subst (λ text. HasWritten {W = g.row.W.Denot} g.W.Write.write_str_gives c.args.f.now text c.write.new.self) (line_text c.args.self.now.table c.args.self.now.concern) (c.write.ensures.writes plain ok)

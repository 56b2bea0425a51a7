use Rattle.std.proofs.Common.{◌≡◌, ℕ, ◌++◌, codes, ap, sym, ◌∙◌, subst, append_assoc}
use Rattle.std.specs.Fmt.{HasWritten, decimal}
use Rattle.pay_warnings.specs.declared.warning.Concern.TheVariants.{PeakBelowOff, WeekBelowDay}
use Rattle.pay_warnings.specs.Printed.{concern_text}
use Rattle.pay_warnings.proofs.warning.ConcernDisplay.fmt.Goals as goal

-- the two amounts, as they were read, are those of the concern
below_text : (peak off p o : ℕ) → p ≡ peak → o ≡ off → codes "peak " ++ (decimal p ++ (codes " is below off " ++ decimal o)) ≡ concern_text (PeakBelowOff peak off)
below_text peak off p o a b = rw (a, b) (ap (λ text. codes "peak " ++ text) (sym (append_assoc (decimal peak) (codes " is below off ") (decimal off))))

-- and so the two caps
week_text : (week day w d : ℕ) → w ≡ week → d ≡ day → codes "week " ++ (decimal w ++ (codes " is below day " ++ decimal d)) ≡ concern_text (WeekBelowDay week day)
week_text week day w d a b = rw (a, b) (ap (λ text. codes "week " ++ text) (sym (append_assoc (decimal week) (codes " is below day ") (decimal day))))

pub returns-in-WeekBelowDay-clause-writes : goal.returns-in-WeekBelowDay-clause-writes
returns-in-WeekBelowDay-clause-writes g c = λ plain ok.
    let same = week_text c.in-WeekBelowDay.week c.in-WeekBelowDay.day c.pence-week.result c.pence-day.result c.pence-week.ensures c.pence-day.ensures in
    subst (λ text. HasWritten {W = g.row.W.Denot} g.W.Write.write_str_gives c.args.f.now text c.write-in-WeekBelowDay.new.self) (same ∙ ap concern_text (sym c.in-WeekBelowDay.is)) (c.write-in-WeekBelowDay.ensures.writes plain ok)

pub returns-in-PeakBelowOff-clause-writes : goal.returns-in-PeakBelowOff-clause-writes
returns-in-PeakBelowOff-clause-writes g c = λ plain ok.
    let same = below_text c.in-PeakBelowOff.peak c.in-PeakBelowOff.off c.pence-peak.result c.pence-off.result c.pence-peak.ensures c.pence-off.ensures in
    subst (λ text. HasWritten {W = g.row.W.Denot} g.W.Write.write_str_gives c.args.f.now text c.write-in-PeakBelowOff.new.self) (same ∙ ap concern_text (sym c.in-PeakBelowOff.is)) (c.write-in-PeakBelowOff.ensures.writes plain ok)

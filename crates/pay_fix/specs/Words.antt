-- Words for the crates above: what a further tap or correction does to the effective taps.
pub use Rattle.pay_fix.specs.Changes.{IsOneMore, IsChanged, change_by_tap, change_by_fix}
pub use Rattle.pay_fix.specs.Laws.{with_fix, VoidTakesOut, DropRestores, CreditChangesNoTap, EffectiveHaveOwnNumbers, EffectiveAreInOrder, EffectiveAreFew, TapChanges, FixChanges}

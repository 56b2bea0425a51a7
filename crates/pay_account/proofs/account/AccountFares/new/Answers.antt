use Rattle.std.proofs.Common.{◌≡◌}
use Rattle.pay_rules.specs.declared.tap.Tap.{Tap}
use Rattle.pay_rules.specs.declared.fix.Fix.{Fix}
use Rattle.pay_account.proofs.Own.{none_is_other}
use Rattle.pay_account.proofs.account.AccountFares.new.Goals as goal

pub invariant_of-result : goal.invariant_of-result
invariant_of-result c = record {
  own_taps = none_is_other (λ (t : Tap). t.account ≡ c.args.number) c.new.result c.new.ensures;
  own_fixes = none_is_other (λ (f : Fix). f.account ≡ c.args.number) c.new-2.result c.new-2.ensures;
}

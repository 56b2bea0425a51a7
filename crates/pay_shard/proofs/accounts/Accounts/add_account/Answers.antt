use Rattle.std.proofs.Common.{◌≡◌, true, false, Bool, if◌then◌else◌, refl}
use Rattle.pay_shard.specs.BatchParts.{BatchParts, batch_if_quoted}
use Rattle.pay_shard.specs.Selection.{is_of}
use Rattle.pay_rules.specs.State.{accepted_of}
use Rattle.pay_shard.proofs.Batches.{not_there}
use Rattle.pay_shard.proofs.Places.{nothing_there}
use Rattle.pay_shard.proofs.accounts.Accounts.add_account.Goals as goal

either : (b : Bool) (x y : BatchParts) → x ≡ y → x ≡ (if b then y else x)
either true x y e = e
either false x y e = refl

pub returns-in-None : goal.returns-in-None
returns-in-None g c =
    let account = c.args.account in
    let accepted = accepted_of c.args.self.now.state account in
    either (is_of c.args.shard c.args.of account) c.args.batch.now (batch_if_quoted c.args.self.now.editions c.args.through c.args.batch.now account accepted)
    (not_there c.args.self.now.editions c.args.through c.args.batch.now account accepted (nothing_there c.args.self.now.state account c.in-None.ensures.none))

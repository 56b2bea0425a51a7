use Rattle.std.proofs.Common.{pos, rules}
use Rattle.std.proofs.lemmas.Result.{IfOk-weaker}
use Rattle.pay_ledger.proofs.Stretching.{picked_each}
use Rattle.pay_ledger.proofs.stretch.read_stretch.Goals as goal

pub returns-clause-found : goal.returns-clause-found
returns-clause-found g c clean =
    IfOk-weaker c.read_between.result _ _ (λ stretch told rows k.
    let it = told rows k in
    (picked_each rows _ _ stretch it.0 c.args.numbers.now (pos 0) c.requires.ascend c.requires.some (search rules) (search rules), it.1)) (c.read_between.ensures.found clean)

use Rattle.std.proofs.Common.{arith}
use Rattle.pay_journal.proofs.WholeLines.{last_at, all_rest}
use Rattle.pay_journal.proofs.whole.whole_bytes.Goals as goal

pub returns-in-Some : goal.returns-in-Some
returns-in-Some c =
    let last = c.in-Some.ensures in
    let whole = last_at c.args.text.now c.in-Some.place last.0.high last.1 (λ j more lt. last.0.after j (omega (arith, more)) lt) in
    let long = whole.1 in
    omega (arith, long)

pub returns-in-None : goal.returns-in-None
returns-in-None c = let all = all_rest c.args.text.now (λ k lt. c.in-None.ensures k (omega arith) lt) in omega (arith, all)

use Rattle.std.proofs.Common.{◌≡◌, ◌++◌, ◌∷◌, [], map, rules, append_assoc, None}
use Rattle.std.proofs.lemmas.List.{map-append}
use Rattle.pay_front.specs.Closes.{PostedLine, account_in, posted_line}
use Rattle.pay_front.proofs.Closing.{begins, ends, goes_on, runs_out}
use Rattle.pay_front.proofs.closes.add_postings.Goals as goal

pub loop-line-init : goal.loop-line-init
loop-line-init c = ([], search rules, begins c.args.reply.now)

pub loop-line-preserved : goal.loop-line-preserved
loop-line-preserved c =
    let done = c.loop-line.invariant.0 in
    let one : PostedLine = record { account = c.in-Some-account_in.account; line = c.in-Some.line.now } in (
      done ++ one ∷ [],
      search (rules, map-append, append_assoc),
      goes_on c.args.reply.now c.loop-line.ahead.now c.in-Some.line.now c.in-Some.rest.now done c.in-Some-account_in.account c.loop-line.invariant.2 c.in-Some.ensures.parts c.in-Some.ensures.line (search rules),
    )

pub returns : goal.returns
returns c = runs_out c.args.reply.now c.loop-line.ahead.now c.loop-line.invariant.0 c.loop-line.invariant.2 c.in_default.ensures.none

pub returns-in_default-account_in : goal.returns-in_default-account_in
returns-in_default-account_in c =
    let none : None ≡ account_in c.in-Some.line.now = search rules in
    ends c.args.reply.now c.loop-line.ahead.now c.in-Some.line.now c.in-Some.rest.now c.loop-line.invariant.0 (map posted_line c.args.all.now.items) (map posted_line c.loop-line.all.items) c.is_last.result
    c.loop-line.invariant.2 c.loop-line.invariant.1 c.in-Some.ensures.parts c.in-Some.ensures.line none c.is_last.ensures.last c.is_last.ensures.other

use Rattle.std.proofs.Common.{◌≡◌, drop}
use Rattle.std.specs.Prelude.{fold, option_map}
use Rattle.pay_postings.specs.Judged.{quoted_then, last_quoted}
use Rattle.pay_postings.proofs.judging.last_quoted.Given as goal

-- what is left, after the last so far, comes to the last of all
abbrev pub invariant-loop-quote : goal.invariant-loop-quote
invariant-loop-quote l = fold (quoted_then l.account l.week) (option_map (λ q. q.now) l.last) (drop l.quote-index l.quotes) ≡ last_quoted l.posted l.quotes l.account l.week

use Rattle.std.proofs.Common.{take}
use Rattle.std.specs.List.{AllByRecursion}
use Rattle.pay_rules.specs.QuoteParts.{IsQuote}
use Rattle.pay_ledger.proofs.post.are_quotes.Given as goal

abbrev pub invariant-loop-quote : goal.invariant-loop-quote
invariant-loop-quote l = AllByRecursion IsQuote (take l.quote-index l.quotes)

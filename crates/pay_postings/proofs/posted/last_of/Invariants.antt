use Rattle.std.proofs.Common.{◌≡◌, drop}
use Rattle.std.specs.Prelude.{fold, option_map}
use Rattle.pay_postings.specs.Postings.{later_of, last_of}
use Rattle.pay_postings.proofs.posted.last_of.Given as goal

-- the last so far, and what is left, come to the last of all
abbrev pub invariant-loop-posting : goal.invariant-loop-posting
invariant-loop-posting l = fold (later_of l.account l.week) (option_map (λ p. p.now) l.last) (drop l.posting-index l.postings) ≡ last_of l.account l.week l.postings

-- What it is to answer by a definition, or to want memory.
use Rattle.std.specs.Prelude.{◌≡◌, ◌≢◌, Bool, List, Option, Some, None, Result, Ok, Err, IsOk, MatchResult}
use Rattle.pay_rules.specs.declared.posting.Posting.{Posting}
use Rattle.pay_rules.specs.QuoteParts.{QuoteParts}
use Rattle.pay_rules.specs.declared.post_fault.PostFault.{PostFault}
use Rattle.pay_rules.specs.declared.post_fault.PostFault.TheVariants.{Memory}
use Rattle.pay_postings.specs.Postings.{post, posted_anew}
use Rattle.pay_postings.specs.NewRows.{with_new}

-- the answer to a quote, and all postings then: those before where it is refused, and where memory is wanting, which it never is for a quote that is refused
abbrev pub IsPosted : Result Posting PostFault → List Posting → List Posting → QuoteParts → Type 0
IsPosted (Ok posting) old new quote = post old quote ≡ Ok (posting, new)
IsPosted (Err Memory) old new quote = IsOk (post old quote) × (new ≡ old)
IsPosted (Err fault) old new quote = (post old quote ≡ Err fault) × (new ≡ old)

-- the posting that is kept for a quote, none where a further one is wanted, or why it is refused
abbrev pub IsJudged : Result (Option Posting) PostFault → List Posting → QuoteParts → Type 0
IsJudged (Ok (Some kept)) list quote = post list quote ≡ Ok (kept, list)
IsJudged (Ok None) list quote = post list quote ≡ posted_anew list quote
IsJudged (Err Memory) list quote = IsOk (post list quote)
IsJudged (Err fault) list quote = post list quote ≡ Err fault

-- the answer to a quote, with whether its posting is new and so stands after those before, and all postings then; or why it is refused
abbrev pub IsPostedNewOrKept : Result (Posting × Bool) PostFault → List Posting → List Posting → QuoteParts → Type 0
IsPostedNewOrKept result old new quote =
    MatchResult result (λ answer. (post old quote ≡ Ok (answer.0, new)) × (new ≡ with_new answer.1 answer.0 old)) (λ fault. fault ≢ Memory → post old quote ≡ Err fault)

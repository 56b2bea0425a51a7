-- What is so of the rows of each week.
use Rattle.std.specs.Prelude.{◌≡◌, ℕ, ◌+◌, List}
use Rattle.pay_tables.specs.Words.{FareEditions}
use Rattle.pay_rules.specs.declared.posting.Posting.{Posting}
use Rattle.pay_rules.specs.Accepted.{Accepted}
use Rattle.pay_rules.specs.Quotes.{due_through}
use Rattle.pay_postings.specs.Words.{net, postings_of}
use Rattle.pay_long_statement.specs.Sums.{added, taken_off, posted}
use Rattle.pay_long_statement.specs.Weeks.{posted_rows, rows_through}

-- their amounts come to what is due of the week through that day: what they add is that and what they take off
abbrev pub AmountsAreDue : Type 0
AmountsAreDue = (editions : FareEditions) (accepted : Accepted) (through : ℕ)
    → added (rows_through editions accepted through) ≡ due_through editions accepted through + taken_off (rows_through editions accepted through)

-- of what was posted nothing stands in that column
abbrev pub PostingsAddNothing : Type 0
PostingsAddNothing = (list : List Posting) → (added (posted_rows list) ≡ 0) × (taken_off (posted_rows list) ≡ 0)

-- the rows of postings come to what the account was charged for the week, less what it was given back
abbrev pub PostingsAddUp : Type 0
PostingsAddUp = (account week : ℕ) (all : List Posting) → posted (posted_rows (postings_of account week all)) ≡ net account week all

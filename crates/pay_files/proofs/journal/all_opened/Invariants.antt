use Rattle.std.proofs.Common.{◌≡◌, ◌+◌, ◌≤◌, length}
use Rattle.pay_words.specs.declared.limits.TheConstants.{MOST_SHARDS}
use Rattle.pay_files.proofs.journal.all_opened.Given as goal

-- a keeper for each shard so far, and nothing else
abbrev pub invariant-loop-number : goal.invariant-loop-number
invariant-loop-number g l = (l.number ≤ l.shards) × (length l.journals.keepers.items ≡ l.number)
    × (length l.journals.texts.items ≡ l.number) × (length l.journals.others.items ≡ 0)

-- no more keepers, and all others so far
abbrev pub invariant-loop-number-2 : goal.invariant-loop-number-2
invariant-loop-number-2 g l = (l.number ≤ MOST_SHARDS) × (length l.journals.keepers.items ≡ l.shards)
    × (length l.journals.texts.items ≡ l.number) × (length l.journals.keepers.items + length l.journals.others.items ≡ l.number)

-- When a line is kept: the policy of all that keeps lines.
use Rattle.std.specs.Prelude.{◌≡◌, ℕ, Bool, true, false, List, [], if◌then◌else◌, refl}
use Rattle.pay_shard.specs.Words.{is_new}
use Rattle.pay_shard.specs.declared.asked.Asked.{Asked}
use Rattle.pay_shard.specs.declared.asked.Asked.TheVariants as asked
use Rattle.pay_shard.specs.declared.reply.Reply.{Reply}
use Rattle.pay_shard.specs.declared.reply.Reply.TheVariants as replies
use Rattle.pay_journal.specs.Lines.{line_of}

-- a close asks for these
abbrev pub is_quotes : Asked → Bool
is_quotes (asked.Quotes day shard of) = true
is_quotes _ = false

-- a command's line, if it is kept
abbrev pub line_if : Bool → Asked → List ℕ
line_if new a = if new then line_of a else []

-- the line that is kept of a command that was answered so: that of what is newly accepted
abbrev pub kept_line_of : Asked → Reply → List ℕ
kept_line_of a reply = line_if (is_new reply) a

-- ---- worked rows

-- a repeat is not kept
repeat_not_kept : (a : Asked) → kept_line_of a (replies.Priced (record { day = 19_730; day_price = 175; week_price = 175; again = true })) ≡ []
repeat_not_kept a = refl

-- what is newly accepted is
new_kept : (a : Asked) → kept_line_of a (replies.Priced (record { day = 19_730; day_price = 175; week_price = 175; again = false })) ≡ line_of a
new_kept a = refl

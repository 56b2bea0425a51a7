-- What the answers to a close bring: the batches of the shards, together in ascending order of account.
use Rattle.std.specs.Prelude.{◌≡◌, ℕ, true, if◌then◌else◌, List, [], ◌∷◌, ◌++◌, length, Option, Some, None, refl}
use Rattle.std.specs.List.{AllByRecursion}
use Rattle.std.specs.Ordering.{nat_cmp, is_lt}
use Rattle.pay_rules.specs.QuoteParts.{QuoteParts}
use Rattle.pay_rules.specs.SetsParts.{SetsParts}
use Rattle.pay_shard.specs.Words.{BatchParts}
use Rattle.pay_shard.specs.declared.reply.Answer.{Answer}
use Rattle.pay_shard.specs.declared.reply.Reply.{Reply}
use Rattle.pay_shard.specs.declared.reply.Reply.TheVariants.{Quotes}
use Rattle.pay_till.specs.Words.{Taken, brings_quotes}

-- ---- ascending order of account

-- what has an account among its like: before the first that has no lower account
abbrev pub put_in_by : {X : Type 0} → (X → ℕ) → X → List X → List X
put_in_by account x [] = x ∷ []
put_in_by account x (other ∷ others) = if is_lt (nat_cmp (account other) (account x)) then other ∷ put_in_by account x others else x ∷ other ∷ others

-- all that has an account in ascending order of account; of one account all stays as it stands
abbrev pub in_order_by : {X : Type 0} → (X → ℕ) → List X → List X
in_order_by account [] = []
in_order_by account (x ∷ others) = put_in_by account x (in_order_by account others)

-- a batch in ascending order of account
abbrev pub in_order : BatchParts → BatchParts
in_order b = record { quotes = in_order_by (λ (q : QuoteParts). q.account) b.quotes; sets = in_order_by (λ (s : SetsParts). s.account) b.sets }

-- ---- what is brought

-- of no account
abbrev pub no_batch : BatchParts
no_batch = record { quotes = []; sets = [] }

-- a batch after another
abbrev pub both : BatchParts → BatchParts → BatchParts
both b c = record { quotes = b.quotes ++ c.quotes; sets = b.sets ++ c.sets }

-- the batch that a reply brings: no other reply than Quotes brings one
abbrev pub batch_in : Reply → BatchParts
batch_in (Quotes batch) = batch
batch_in _ = no_batch

-- the batch that an answer brings, where it came
abbrev pub batch_of_answer : Option Answer → BatchParts
batch_of_answer (Some answer) = batch_in answer.reply
batch_of_answer None = no_batch

-- the batches of all answers, one after another
abbrev pub brought : List Taken → BatchParts
brought [] = no_batch
brought (t ∷ ts) = both (batch_of_answer t.answer) (brought ts)

-- what is gathered for a close
abbrev pub gathered : List Taken → BatchParts
gathered put = in_order (brought put)

-- each that was put brought its quotes
abbrev pub AreBrought : List Taken → Type 0
AreBrought = AllByRecursion (λ (t : Taken). brings_quotes t.answer ≡ true)

-- and there is one for each shard
abbrev pub IsWhole : ℕ → List Taken → Type 0
IsWhole of put = (length put ≡ of) × AreBrought put

-- ---- worked rows

quote_of : ℕ → QuoteParts
quote_of account = record { account = account; week = 19_730; through = 19_733; version = 1; due = 0; edition = 4; shares = [] }

-- the accounts of two shards, 2 and 4 of the one and 1 and 5 of the other
of_two_shards : in_order_by (λ (q : QuoteParts). q.account) (quote_of 2 ∷ quote_of 4 ∷ quote_of 1 ∷ quote_of 5 ∷ []) ≡ quote_of 1 ∷ quote_of 2 ∷ quote_of 4 ∷ quote_of 5 ∷ []
unfolding quote_of
of_two_shards = refl

-- an answer that is late brings none
late_answer : batch_of_answer None ≡ no_batch
late_answer = refl

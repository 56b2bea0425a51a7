-- One shard that has all accounts.
use Rattle.std.proofs.Common.{◌≡◌, ℕ, ◌≤◌, [], ◌∷◌, Some, refl, sym, subst, arith}
use Rattle.pay_tables.specs.Words.{FareEditions}
use Rattle.pay_rules.specs.State.{State}
use Rattle.pay_shard.specs.declared.reply.Answer.{Answer}
use Rattle.pay_shard.specs.declared.reply.Reply.TheVariants.{Quotes}
use Rattle.pay_till.specs.Words.{Taken}
use Rattle.pay_close.specs.Close.{batch_of_all}
use Rattle.pay_close.specs.Laws.{Brings, AreOfShards, ShardsGatherAll, ShardsCloseAsMachine, OneShardGathersAll, OneShardClosesAsMachine}

is_one : 1 ≤ 1
is_one = omega arith

asked_alone : (editions : FareEditions) (state : State) (day : ℕ) (one : Taken) (answer : Answer) → one.answer ≡ Some answer → answer.reply ≡ Quotes (batch_of_all editions state day)
    → AreOfShards editions (λ shard. state) day 1 0 (one ∷ [])
asked_alone editions state day one answer is given = (subst (Brings (batch_of_all editions state day)) (sym is) given, tt)

pub gathers_one : ShardsGatherAll → OneShardGathersAll
gathers_one gathers editions state day one answer is given = gathers editions 1 (λ shard. state) state day (one ∷ []) is_one (λ account. refl) refl (asked_alone editions state day one answer is given)

pub closes_one : ShardsCloseAsMachine → OneShardClosesAsMachine
closes_one closes editions books day one answer is given = closes editions 1 (λ shard. books.state) books day (one ∷ []) is_one (λ account. refl) refl (asked_alone editions books.state day one answer is given)

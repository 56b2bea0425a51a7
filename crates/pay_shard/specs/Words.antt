-- Words for the crates above: what a command may ask, the machine that answers, what a shard keeps, what a merge of several is, and how a desk
-- stands, what it took and what it answered.
pub use Rattle.pay_shard.specs.Ranges.{IsInRange}
pub use Rattle.pay_shard.specs.Selection.{is_of, is_quoted, quoted}
pub use Rattle.pay_shard.specs.BatchParts.{BatchParts, batch_code, batch_of, batch}
pub use Rattle.pay_shard.specs.Machine.{Step, step, item_step, is_memory, is_refusal}
pub use Rattle.pay_shard.specs.Runs.{Run, run, replay, answer_at, answers_from, answers, reply_at, answer_to, IsMarkedRightly, IsHistory}
pub use Rattle.pay_shard.specs.JournalParts.{JournalParts, JournalMemory, journal_code, all_in}
unfoldable pub use Rattle.pay_shard.specs.Held.{state_of}
pub use Rattle.pay_shard.specs.ShardParts.{ShardParts, shard_code, state_now, answers_given, next_answer, item_of, with_items, with_item, with_memory, IsKeptBy}
pub use Rattle.pay_shard.specs.Changes.{is_priced, AreAllPriced, asked_by, AreUnmarked, accepted_asked}
pub use Rattle.pay_shard.specs.Merges.{items_of, all_items, replies_of, IsAskedOf, AreAskedOf, IsWhole}
pub use Rattle.pay_shard.specs.Desks.{Standing, with_waiting, DeskParts, IsForShards, IsAfterAll, IsNoneOf, without, command_under, IsReplyTo, NothingIsLost}
pub use Rattle.pay_shard.specs.Laws.{MergeRepliesAsShards, MergeEndsAsShards, MergeIsHistory, AnswersHaveReplies, AnswersStandAtPlaces, AskedAlikeEndsAlike, AcceptedAlikeEndsAlike, NewRunAlone, NewStayNew, OthersChangeNothing, NewStandAfter, ReplayGoesOn, FrontHasReply, LastCommandIsUnderTicket, LastTicketWaits, StandsAsBefore}
pub use Rattle.pay_shard.specs.LocalParts.{LocalParts, local_code, commands_of, transcript_of, desk_parts, AreInPlace, AreBelow, IsTaken}
pub use Rattle.pay_shard.specs.NewItems.{is_new, AreAllNew, new_items}

-- Words for the crates above: what a contract sees of lanes and workers, what they keep, what a turn does, what stands at the end, and what follows.
pub use Rattle.pay_lanes.specs.Parts.{LaneParts, WorkerParts, lane_code, worker_code, shard_of, unanswered, next_entry, next_above, having_asked, having_taken, WasFullAt}
pub use Rattle.pay_lanes.specs.Working.{entries_of, at_lane, answers_for, held_for, IsTold, AreTold, IsOfferable, IsWorking, IsOwn, all_sent, AreSingle, IsOfShards, IsSameLane, IsSameWorker}
pub use Rattle.pay_lanes.specs.Turns.{by_lane, by_shard, HasDone, HasPoppedNone, IsHeldUp}
pub use Rattle.pay_lanes.specs.Ends.{lanes_of, numbers, AreAll, AreTogether, GoOn, arrived, AreKnown, sent_by, IsAnswered, AreJournalsFrom, IsRight}
pub use Rattle.pay_lanes.specs.Openings.{IsOutOfCount, shard_numbers, began_of, IsNewWorker, IsNewLane}
pub use Rattle.pay_lanes.specs.Passing.{Passed, passing}
pub use Rattle.pay_lanes.specs.Gates.{all_answered, passed_to, IsLetPass, IsFirstOf, HasPassed, HavePassed}
pub use Rattle.pay_lanes.specs.Laws.{Rise, SeesEarlier, PlacesRise, AnswersSeeEarlier}

-- Words for the crates above: the machine that answers lines, how a run of them ends and what is then kept, what a journal gives back,
-- and an account's week.
pub use Rattle.pay_run.specs.Commands.{command_of, commands_of, commands_in}
pub use Rattle.pay_run.specs.Journals.{new_requests, machine_of, GivesBack}
pub use Rattle.pay_run.specs.KeptLines.{lines_of_requests, KeepsNew}
pub use Rattle.pay_run.specs.Laws.{ZoneStays, EditionsStay, LedgerStays}
pub use Rattle.pay_run.specs.Ledgers.{HasLedger, has_ledger_in, has_none}
pub use Rattle.pay_run.specs.LineRuns.{Beside, Streams, ComesTo, Ends, StopsReading, StopsWriting, FailsSo, Before, before, After, after, Known, with_ledger_in, without_ledger, beside_with, beside_run, streams_of, EndsRun, FailsRun, LinesEnd, LinesFail}
pub use Rattle.pay_run.specs.Machine.{Machine, Failure, new_machine, machine_on, step}
pub use Rattle.pay_run.specs.OneLine.{IsAnsweredAs, AnswersLine}
pub use Rattle.pay_run.specs.Outcomes.{Outcome, outcome, tells_failure, AreAllPriced}
pub use Rattle.pay_run.specs.OwnRequests.{account_named, is_about, own_replies, OwnAlone}
pub use Rattle.pay_run.specs.Past.{whole_bytes, IsReplayOf, HasReplayed, AreReplayed, HasCommands, IsReplayedAfter, IsNotReplayedAfter, StopsAt, IsNotReplayed}
pub use Rattle.pay_run.specs.Week.{HasInputFault, TellsWeek, machine_past, IsPastAccepted, WeekTold, WeekNotTold}

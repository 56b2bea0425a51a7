-- Words for the crates above: commands as lines, what a replay is, what a keeper holds and how it may have failed, what a desk is that keeps
-- lines, what texts of lines ask for, and what these give back.
pub use Rattle.pay_journal.specs.Lines.{spelled_of, line_of, lines_of_items, AskedByItsLine}
pub use Rattle.pay_journal.specs.Replays.{is_barred, IsPriced, why_ended, ClosesNothing, AreHanded, NoneIsBarred, AreAccepted, IsReplayed, IsEndedBy, IsEndedAt, IsEnded}
pub use Rattle.pay_journal.specs.Keeping.{IsCutTo, held, HasFailedBy, HasFailed, IsSettled}
pub use Rattle.pay_journal.specs.KeptAnswers.{is_quotes, line_if, kept_line_of}
pub use Rattle.pay_journal.specs.KeptParts.{KeptParts, kept_code, Beginning, CanFail, standing_of, kept_parts, new_since, IsRest, KeepsLines, IsSeen, IsOwn, IsKeptDesk}

-- Words for the crate above: what a writer answers, the commands that lines spell, the spelling of replies, and what a writer holds.
pub use Rattle.pay_wire.specs.Calls.{WriterCall, answer_of, failure_of, IsFlushed, IsCaused, HasFault}
pub use Rattle.pay_wire.specs.Commands.{command_of}
pub use Rattle.pay_wire.specs.Output.{AppendsFront}
pub use Rattle.pay_wire.specs.Replies.{spelling_of_reply}
pub use Rattle.pay_wire.specs.Spellings.{IsAccountDay, IsSpelled, IsSpelledCredit, IsSpelledFix, IsSpelledTap, IsSpelledWhat, Spells, spelling_of_command}

-- Words for the crates above: what requests are and come to, what they ask of a desk, what comes of them over a desk and a till, and how
-- a session may end.
pub use Rattle.pay_session.specs.Requests.{input_lines, rest_of, has_newline, IsAsked, request_of, line_requests, requests_of, quits, unread, IsReadByLine}
pub use Rattle.pay_session.specs.Asks.{asks_of}
pub use Rattle.pay_session.specs.AskedFor.{IsAskedIn, AreAllAskedIn}
unfoldable pub use Rattle.pay_session.specs.AskedFor.{AreAskedIn}
pub use Rattle.pay_session.specs.Ports.{is_allowed, is_ahead, asks_at, IsOpen, IsAllowed, AreAllAllowed}
unfoldable pub use Rattle.pay_session.specs.Ports.{AreAskedAt}
pub use Rattle.pay_session.specs.AtPorts.{IsPortOf, IsServedAt, AreServedAt, HasAnsweredAt, AnswersNobody, AnswersOn, AnswersClose}
pub use Rattle.pay_session.specs.Pieces.{IsAfter, AreAnsweredAt, TakesPiece, TakesThroughQuit, StopsInPiece, EndsPieces, StopsAtEnd}
pub use Rattle.pay_session.specs.Calls.{ReaderCall, ShowsNothing, FailsBy, IsLastFill, HasNoEnd}
pub use Rattle.pay_session.specs.Events.{Event, refusal_of, refusal_of_desk, said, said_of_close, text_of, all_put, lacks_memory, any_lacks_memory}
pub use Rattle.pay_session.specs.Served.{IsReplied, IsTaken, IsRefused, IsTillClosed, IsServedAs, AreServed}
pub use Rattle.pay_session.specs.Session.{Sides, IsSession, EndsSo, StopsReading, StopsWriting, FailsSo, sides, Ends, Fails}
pub use Rattle.pay_session.specs.Serving.{IsStep}
pub use Rattle.pay_session.specs.SessionSteps.{IsAnswered}
pub use Rattle.pay_session.specs.OneRequest.{IsAnsweredIn}
pub use Rattle.pay_session.specs.Stops.{IsBroken}

-- The run of a partition's log beside that of all requests.
use Rattle.std.specs.Prelude.{◌≡◌, ◌≤◌, ℕ, if◌then◌else◌, List, [], ◌∷◌, ⊤, refl}
use Rattle.std.proofs.Common.{arith}
use Rattle.pay_rules.specs.QuoteParts.{QuoteParts}
use Rattle.pay_wire.specs.declared.command.SpelledCommand.TheVariants as command
use Rattle.pay_wire.specs.declared.refusal.Refusal.TheVariants as refusal
use Rattle.pay_wire.specs.declared.reply.SpelledReply.{SpelledReply}
use Rattle.pay_wire.specs.declared.reply.SpelledReply.TheVariants as replies
use Rattle.pay_session.specs.declared.request.Request.{Request}
use Rattle.pay_session.specs.declared.request.Request.TheVariants as request
use Rattle.pay_run.specs.Words.{Outcome}
use Rattle.pay_partitions.specs.Partitions.{has_account, stands_in}
use Rattle.pay_partitions.specs.Parts.{machine_in, reply_in}

-- ---- closes that are not refused

-- a reply to a close is no refusal
abbrev pub IsClosed : Request → SpelledReply → Type 0
IsClosed (request.Command (command.Close day)) (replies.No why) = ⊥
IsClosed _ _ = ⊤

-- and so is none of these replies to these requests
abbrev pub AreClosed : List Request → List SpelledReply → Type 0
AreClosed (r ∷ rs) (reply ∷ later) = IsClosed r reply × AreClosed rs later
AreClosed _ _ = ⊤

-- The days of their closes never fall, from this day on.
abbrev pub AreInOrder : ℕ → List Request → Type 0
AreInOrder last [] = ⊤
AreInOrder last (request.Command (command.Close day) ∷ rs) = (last ≤ day) × AreInOrder day rs
AreInOrder last (_ ∷ rs) = AreInOrder last rs

-- ---- what is of a partition

-- Of the replies to all requests, those to the requests in the log of a partition: to a close the part of it.
abbrev pub replies_in : ℕ → ℕ → List Request → List SpelledReply → List SpelledReply
replies_in of partition (r ∷ rs) (reply ∷ later) = if stands_in of partition r then reply_in (has_account of partition) reply ∷ replies_in of partition rs later else replies_in of partition rs later
replies_in of partition _ _ = []

-- the part of a run of all requests: these replies, and the machine of its accounts
abbrev pub outcome_in : ℕ → ℕ → List Request → Outcome → Outcome
outcome_in of partition list all = record { replies = replies_in of partition list all.replies; after = machine_in (has_account of partition) all.after }

-- ---- worked rows

-- of account 7's question, a close and a line that is none, partition 1 of 2 has the first two
two_of_three : (quote : QuoteParts) → replies_in 2 1 (request.Command (command.Due 7 19_730) ∷ request.Command (command.Close 19_730) ∷ request.BadLine ∷ []) (replies.Due quote ∷ replies.Closed (record { day = 19_730; postings = [] }) ∷ replies.No refusal.BadLine ∷ [])
    ≡ replies.Due quote ∷ replies.Closed (record { day = 19_730; postings = [] }) ∷ []
two_of_three quote = refl

-- a refused question is no refused close, and a late close is one
refused_question : AreClosed (request.Command (command.Due 7 19_730) ∷ request.Command (command.Close 19_730) ∷ []) (replies.No refusal.UnknownPlace ∷ replies.Closed (record { day = 19_730; postings = [] }) ∷ [])
refused_question = (tt, (tt, tt))

late_close : ¬ AreClosed (request.Command (command.Close 19_730) ∷ []) (replies.No refusal.StaleQuote ∷ [])
late_close are = are.0

-- to close a day again is in order, and to close an earlier one is not
again : AreInOrder 0 (request.Command (command.Close 19_730) ∷ request.BadLine ∷ request.Command (command.Close 19_730) ∷ [])
again = (omega arith, (omega arith, tt))

earlier : ¬ AreInOrder 0 (request.Command (command.Close 19_730) ∷ request.Command (command.Close 19_729) ∷ [])
earlier order = omega (arith, order.1.0)

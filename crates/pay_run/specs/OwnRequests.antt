-- The requests about one account, and the replies to them among all.
use Rattle.std.specs.Prelude.{◌≡◌, ℕ, ◌==◌, Bool, true, false, if◌then◌else◌, List, [], ◌∷◌, filter, Option, Some, None, refl}
use Rattle.pay_rules.specs.State.{accepted_of}
use Rattle.pay_wire.specs.declared.command.SpelledCommand.{SpelledCommand}
use Rattle.pay_wire.specs.declared.command.SpelledCommand.TheVariants as command
use Rattle.pay_wire.specs.declared.reply.SpelledReply.{SpelledReply}
use Rattle.pay_session.specs.declared.request.Request.{Request}
use Rattle.pay_session.specs.declared.request.Request.TheVariants as request
use Rattle.pay_run.specs.Machine.{Machine, step}
use Rattle.pay_run.specs.Outcomes.{outcome}

-- whose tap, correction or question a command is: a close and a QUIT are nobody's
abbrev pub account_named : SpelledCommand → Option ℕ
account_named (command.Tap line) = Some line.account
account_named (command.Fix line) = Some line.account
account_named (command.Due account day) = Some account
account_named (command.Show account day) = Some account
account_named _ = None

abbrev pub names : ℕ → Option ℕ → Bool
names account (Some other) = other == account
names account None = false

-- whether a request is about this account
abbrev pub is_about : ℕ → Request → Bool
is_about account (request.Command c) = names account (account_named c)
is_about account _ = false

-- the replies to those about an account, among the others
abbrev pub own_replies : ℕ → Machine → List Request → List SpelledReply
own_replies account m [] = []
own_replies account m (r ∷ rs) = if is_about account r then (step None m r).reply ∷ own_replies account (step None m r).after rs else own_replies account (step None m r).after rs

-- They are those that its requests have by themselves, and the account has accepted the same: so nothing else makes a difference to it, not
-- even a close.
abbrev pub OwnAlone : Type 0
OwnAlone = (m : Machine) (account : ℕ) (list : List Request) → (own_replies account m list ≡ (outcome [] m (filter (is_about account) list)).replies)
    × (accepted_of (outcome [] m list).after.accounts account ≡ accepted_of (outcome [] m (filter (is_about account) list)).after.accounts account)

-- ---- worked rows

-- a question is about its account, and a close is about none
question_of_7 : filter (is_about 7) (request.Command (command.Due 7 19_730) ∷ request.Command (command.Close 19_730) ∷ request.Command (command.Show 8 19_730) ∷ request.BadLine ∷ []) ≡ request.Command (command.Due 7 19_730) ∷ []
question_of_7 = refl

-- What the machine replies to a list of requests, and what is written of it.
use Rattle.std.specs.Prelude.{◌≡◌, ℕ, Bool, true, false, if◌then◌else◌, List, [], ◌∷◌, Option, None, refl}
use Rattle.std.specs.List.{flat_map, list_any, AllByRecursion}
use Rattle.pay_rules.specs.declared.priced.Priced.{Priced}
use Rattle.pay_wire.specs.Words.{spelling_of_reply}
use Rattle.pay_wire.specs.declared.command.SpelledCommand.TheVariants as command
use Rattle.pay_wire.specs.declared.refusal.Refusal.TheVariants as refusal
use Rattle.pay_wire.specs.declared.reply.SpelledReply.{SpelledReply}
use Rattle.pay_wire.specs.declared.reply.SpelledReply.TheVariants as replies
use Rattle.pay_session.specs.declared.request.Request.{Request}
use Rattle.pay_session.specs.declared.request.Request.TheVariants as request
use Rattle.pay_run.specs.Machine.{Machine, Failure, step}

-- the replies to a list of requests, and the machine after them
pub record Outcome : Type 0 where
  pub replies : List SpelledReply
  pub after : Machine

-- a reply before those of an outcome
abbrev pub reply_then : SpelledReply → Outcome → Outcome
reply_then r o = record { replies = r ∷ o.replies; after = o.after }

-- A mark says of each request what failed for it, if anything did; past the marks nothing failed.
abbrev pub outcome : List (Option Failure) → Machine → List Request → Outcome
outcome marks m [] = record { replies = []; after = m }
outcome [] m (r ∷ rs) = reply_then (step None m r).reply (outcome [] (step None m r).after rs)
outcome (mark ∷ marks) m (r ∷ rs) = reply_then (step mark m r).reply (outcome marks (step mark m r).after rs)

-- what is written for replies
abbrev pub text_of : List SpelledReply → List ℕ
text_of = flat_map spelling_of_reply

-- ---- failures

-- whether a reply tells of a failure: 43, 44, 48, 49 and 90
abbrev pub tells_failure : SpelledReply → Bool
tells_failure (replies.No refusal.Store) = true
tells_failure (replies.No refusal.DeskFault) = true
tells_failure (replies.No refusal.NotKept) = true
tells_failure (replies.No refusal.NotOver) = true
tells_failure (replies.No refusal.Memory) = true
tells_failure _ = false

-- or any of these
abbrev pub any_failure : List SpelledReply → Bool
any_failure = list_any tells_failure

-- whether it tells that a command was lost by one: 48 and 90
abbrev pub tells_loss : SpelledReply → Bool
tells_loss (replies.No refusal.NotKept) = true
tells_loss (replies.No refusal.Memory) = true
tells_loss _ = false

-- ---- prices

-- an accepted tap or correction is answered by prices, and so is a repeat of it; nothing else is
abbrev pub is_priced : SpelledReply → Bool
is_priced (replies.Priced priced) = true
is_priced _ = false

-- each request is answered by prices
abbrev pub AreAllPriced : List SpelledReply → Type 0
AreAllPriced = AllByRecursion (λ reply. is_priced reply ≡ true)

-- the requests whose replies are prices
abbrev pub with_prices : List Request → List SpelledReply → List Request
with_prices (r ∷ rs) (reply ∷ later) = if is_priced reply then r ∷ with_prices rs later else with_prices rs later
with_prices _ _ = []

-- the taps and corrections of a list that are accepted, and their repeats, in the order in which they came
abbrev pub accepted_requests : List (Option Failure) → Machine → List Request → List Request
accepted_requests marks m list = with_prices list (outcome marks m list).replies

-- a tap, a line that is none, the same tap again, and QUIT
tap_and_repeat : (tap : Request) (first repeat : Priced)
    → with_prices (tap ∷ request.BadLine ∷ tap ∷ request.Command command.Quit ∷ []) (replies.Priced first ∷ replies.No refusal.BadLine ∷ replies.Priced repeat ∷ replies.Bye ∷ []) ≡ tap ∷ tap ∷ []
tap_and_repeat tap first repeat = refl

-- a late close is a refusal by what was posted; a close for which the store fails is none
late_close : any_failure (replies.No refusal.StaleQuote ∷ replies.Bye ∷ []) ≡ false
late_close = refl

failed_close : any_failure (replies.Bye ∷ replies.No refusal.Store ∷ []) ≡ true
failed_close = refl

-- by which no command is lost, as one is that was not kept
no_command_lost : list_any tells_loss (replies.Bye ∷ replies.No refusal.Store ∷ []) ≡ false
no_command_lost = refl

command_lost : list_any tells_loss (replies.Bye ∷ replies.No refusal.NotKept ∷ []) ≡ true
command_lost = refl

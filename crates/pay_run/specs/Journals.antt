-- What a journal keeps of a run: the requests that were newly accepted, each where it stood.
use Rattle.std.specs.Prelude.{◌≡◌, ℕ, zero, suc, Bool, true, false, not, if◌then◌else◌, List, [], ◌∷◌, filter, Option, refl}
use Rattle.std.specs.List.{AllByRecursion}
use Rattle.jiff.specs.declared.tz.timezone.TimeZone.{TimeZone}
use Rattle.pay_postings.specs.Words.{LedgerParts}
use Rattle.pay_tables.specs.Words.{FareEditions}
use Rattle.pay_wire.specs.declared.refusal.Refusal.TheVariants as refusal
use Rattle.pay_wire.specs.declared.reply.SpelledReply.{SpelledReply}
use Rattle.pay_wire.specs.declared.reply.SpelledReply.TheVariants as replies
use Rattle.pay_session.specs.declared.request.Request.{Request}
use Rattle.pay_session.specs.declared.request.Request.TheVariants as request
use Rattle.pay_run.specs.Machine.{Machine, Failure, new_machine, with_ledger}
use Rattle.pay_run.specs.Outcomes.{Outcome, outcome, AreAllPriced}

-- whether a reply says that a tap or a correction is newly accepted: prices that are not those of a repeat
abbrev pub is_new : SpelledReply → Bool
is_new (replies.Priced priced) = not priced.again
is_new _ = false

-- each of these is
abbrev pub AreAllNew : List SpelledReply → Type 0
AreAllNew = AllByRecursion (λ reply. is_new reply ≡ true)

-- the requests whose replies are
abbrev pub with_new : List Request → List SpelledReply → List Request
with_new (r ∷ rs) (reply ∷ later) = if is_new reply then r ∷ with_new rs later else with_new rs later
with_new _ _ = []

-- the taps and corrections of a list that are newly accepted, in the order in which they came: no repeats, and nothing that is refused
abbrev pub new_requests : List (Option Failure) → Machine → List Request → List Request
new_requests marks m list = with_new list (outcome marks m list).replies

-- requests up to the one by which so many replies are new, or all of them
abbrev pub up_to_new : ℕ → List Request → List SpelledReply → List Request
up_to_new zero rs later = []
up_to_new (suc n) (r ∷ rs) (reply ∷ later) = r ∷ up_to_new (if is_new reply then n else suc n) rs later
up_to_new (suc n) _ _ = []

-- a list cut after the request by which so many are newly accepted
abbrev pub cut_after : ℕ → List (Option Failure) → Machine → List Request → List Request
cut_after n marks m list = up_to_new n list (outcome marks m list).replies

-- what the newly accepted of an outcome come to by themselves: their own replies, and the accounts, over whatever ledger there is
abbrev pub of_new : Option LedgerParts → Outcome → Outcome
of_new ledger came = record { replies = filter is_new came.replies; after = with_ledger came.after ledger }

-- the machine that began with no accounts, over a ledger, after requests for which nothing failed
abbrev pub machine_of : TimeZone → FareEditions → List Request → Option LedgerParts → Machine
machine_of zone editions list ledger = (outcome [] (new_machine zone editions ledger) list).after

-- What is kept gives a machine back: over its ledger each request is accepted, or a repeat, and this is the machine then.
pub record GivesBack (zone : TimeZone) (editions : FareEditions) (kept : List Request) (m : Machine) : Type 0 where
  pub accepted : AreAllPriced (outcome [] (new_machine zone editions m.ledger) kept).replies
  pub machine : machine_of zone editions kept m.ledger ≡ m

-- ---- worked rows

-- prices of a first tap, and those of its repeat
abbrev first : SpelledReply
first = replies.Priced (record { day = 19_730; day_price = 175; week_price = 175; again = false })

abbrev repeat : SpelledReply
repeat = replies.Priced (record { day = 19_730; day_price = 175; week_price = 175; again = true })

-- a tap, a line that is none, the same tap again, and another one
one_repeated : (tap other : Request)
    → with_new (tap ∷ request.BadLine ∷ tap ∷ other ∷ []) (first ∷ replies.No refusal.BadLine ∷ repeat ∷ first ∷ []) ≡ tap ∷ other ∷ []
one_repeated tap other = refl

-- a tap that was not kept, one for which memory was wanting, and the first one again, which is new now
not_kept_before : (tap other : Request)
    → with_new (tap ∷ other ∷ tap ∷ []) (replies.No refusal.NotKept ∷ replies.No refusal.Memory ∷ first ∷ []) ≡ tap ∷ []
not_kept_before tap other = refl

-- the first of them is cut after at once, and the second with what stands between
after_one : (tap other : Request)
    → up_to_new 1 (tap ∷ request.BadLine ∷ tap ∷ other ∷ tap ∷ []) (first ∷ replies.No refusal.BadLine ∷ repeat ∷ first ∷ repeat ∷ []) ≡ tap ∷ []
after_one tap other = refl

after_two : (tap other : Request)
    → up_to_new 2 (tap ∷ request.BadLine ∷ tap ∷ other ∷ tap ∷ []) (first ∷ replies.No refusal.BadLine ∷ repeat ∷ first ∷ repeat ∷ [])
    ≡ tap ∷ request.BadLine ∷ tap ∷ other ∷ []
after_two tap other = refl

-- an empty journal gives a new machine back
nothing_kept : (zone : TimeZone) (editions : FareEditions) (ledger : Option LedgerParts) → GivesBack zone editions [] (new_machine zone editions ledger)
nothing_kept zone editions ledger = record { accepted = tt; machine = refl }

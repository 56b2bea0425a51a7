-- Closes in order of their days are not refused: no later day was posted.
use Rattle.std.proofs.Common.{◌≡◌, ◌≤◌, ℕ, Bool, true, false, if◌then◌else◌, List, [], ◌∷◌, ◌++◌, map, find, Option, Some, None, IfSome, Result, Ok, Err, refl, ap, ◌∙◌, subst, arith}
use Rattle.std.specs.Prelude.{◌==◌, ◌&&◌, fold, MatchResult, ⊤}
use Rattle.std.specs.List.{AllByRecursion}
use Rattle.jiff.specs.declared.tz.timezone.TimeZone.{TimeZone}
use Rattle.pay_tables.specs.Words.{FareEditions}
use Rattle.pay_rules.specs.Accepted.{Accepted}
use Rattle.pay_rules.specs.QuoteParts.{QuoteParts}
use Rattle.pay_rules.specs.Quotes.{quote}
use Rattle.pay_rules.specs.SetsParts.{SetsParts}
use Rattle.pay_rules.specs.declared.fix.Fix.{Fix}
use Rattle.pay_rules.specs.Fixes.{same_fix}
use Rattle.pay_rules.specs.declared.fix.What.{What}
use Rattle.pay_rules.specs.declared.posting.Posting.{Posting}
use Rattle.pay_rules.specs.declared.post_fault.PostFault.{PostFault}
use Rattle.pay_rules.specs.declared.post_fault.PostFault.TheVariants.{ArchiveConflict, QuoteDiffers, StaleQuote}
use Rattle.pay_rules.specs.declared.tap.Tap.{Tap}
use Rattle.pay_rules.specs.Taps.{same_tap}
use Rattle.pay_postings.specs.Archive.{archived_beside, archived_each, archived_fix, archived_set, archived_sets, archived_tap, is_fix_numbered_as, is_numbered_as}
use Rattle.pay_postings.specs.Faults.{◌>>=◌}
use Rattle.pay_postings.specs.Ledger.{LedgerParts}
use Rattle.pay_postings.specs.Postings.{is_again, is_kept, is_stale, last_of, later_of, post, post_each, posted_after, posting_of}
use Rattle.pay_shard.specs.Selection.{quoted}
use Rattle.pay_shard.specs.declared.asked.Asked.{Asked}
use Rattle.pay_shard.specs.declared.asked.Asked.TheVariants as asked
use Rattle.pay_shard.specs.declared.item.Item.{Item}
use Rattle.pay_close.specs.Close.{Answered, Books, Closed, Event, IsLate, after, after_all, batch_of_all, close, history, ledger_after, new_books}
use Rattle.pay_wire.specs.declared.command.SpelledCommand.TheVariants as command
use Rattle.pay_wire.specs.declared.command.SpelledFix.{SpelledFix}
use Rattle.pay_wire.specs.declared.refusal.Refusal.{Refusal}
use Rattle.pay_session.specs.Asks.{asks_fix_that, asks_of, fix_of_spelled, what_of_spelled}
use Rattle.pay_session.specs.declared.asks.Asks.{Asks}
use Rattle.pay_session.specs.declared.asks.Asks.TheVariants as asks
use Rattle.pay_session.specs.declared.request.Request.{Request}
use Rattle.pay_session.specs.declared.request.Request.TheVariants as request
use Rattle.pay_run.specs.Machine.{Machine, step, step_asks, step_closed}
use Rattle.pay_run.specs.Outcomes.{outcome}
use Rattle.pay_partitions.specs.Histories.{AreClosed, AreInOrder, IsClosed}
use Rattle.pay_partitions.specs.Laws.{ClosesInOrder}

-- ---- what was posted through a day, and not later

-- through no later day than this
abbrev Within : ℕ → List Posting → Type 0
Within day = AllByRecursion (λ (p : Posting). p.quote.through ≤ day)

-- it comes to something of which this is so, or is refused for another reason than its day
abbrev Comes : {A : Type 0} → ℕ → (A → Type 0) → Result A PostFault → Type 0
Comes day P r = MatchResult r P (λ why. IsLate day why → ⊥)

comes_then : {A B : Type 0} (day : ℕ) (P : A → Type 0) (Q : B → Type 0) (r : Result A PostFault) (f : A → Result B PostFault) → Comes day P r → ((a : A) → P a → Comes day Q (f a)) → Comes day Q (r >>= f)
comes_then day P Q (Ok a) f here next = next a here
comes_then day P Q (Err why) f here next = here

all_with : {X : Type 0} (P : X → Type 0) (list : List X) (x : X) → AllByRecursion P list → P x → AllByRecursion P (list ++ x ∷ [])
all_with P [] x all one = (one, tt)
all_with P (y ∷ list) x all one = (all.0, all_with P list x all.1 one)

module _ (day : ℕ) where
  later_within : (account week : ℕ) (so_far : Option Posting) (p : Posting) (b : Bool) → IfSome so_far (λ q. q.quote.through ≤ day) → p.quote.through ≤ day → IfSome (if b then Some p else so_far) (λ q. q.quote.through ≤ day)
  later_within account week so_far p true is one = one
  later_within account week so_far p false is one = is

  last_within : (account week : ℕ) (so_far : Option Posting) (list : List Posting) → IfSome so_far (λ q. q.quote.through ≤ day) → Within day list → IfSome (fold (later_of account week) so_far list) (λ q. q.quote.through ≤ day)
  last_within account week so_far [] is all = is
  last_within account week so_far (p ∷ list) is all =
      last_within account week (later_of account week so_far p) list (later_within account week so_far p (p.quote.account == account && p.quote.week == week) is all.0) all.1

  -- the postings after a quote
  abbrev After : Posting × List Posting → Type 0
  After it = Within day it.1

  again_within : (list : List Posting) (last : Posting) → Within day list → (b : Bool) → Comes {A = Posting × List Posting} day After (if b then Ok (last, list) else Err QuoteDiffers)
  again_within list last all true = all
  again_within list last all false = λ late. late

  after_within : (list : List Posting) (q : QuoteParts) (last : Posting) → q.through ≤ day → Within day list → last.quote.through ≤ day → (stale same : Bool)
      → Comes {A = Posting × List Posting} day After (if stale then Err (StaleQuote last.quote.account last.quote.version last.quote.through) else if same then (if is_kept q last.quote then Ok (last, list) else Err QuoteDiffers) else Ok (posting_of list q, list ++ posting_of list q ∷ []))
  after_within list q last low all is true same = λ late. omega (arith, late.0, is)
  after_within list q last low all is false true = again_within list last all (is_kept q last.quote)
  after_within list q last low all is false false = all_with (λ (p : Posting). p.quote.through ≤ day) list (posting_of list q) all low

  posted_within : (list : List Posting) (q : QuoteParts) → q.through ≤ day → Within day list → (last : Option Posting) → IfSome last (λ p. p.quote.through ≤ day) → Comes {A = Posting × List Posting} day After (posted_after list q last)
  posted_within list q low all None is = all_with (λ (p : Posting). p.quote.through ≤ day) list (posting_of list q) all low
  posted_within list q low all (Some last) is = after_within list q last low all is (is_stale q last.quote) (is_again q last.quote)

  each_within : (list : List Posting) (qs : List QuoteParts) → AllByRecursion (λ (q : QuoteParts). q.through ≤ day) qs → Within day list → Comes {A = List Posting × List Posting} day (λ it. Within day it.1) (post_each list qs)
  each_within list [] low all = all
  each_within list (q ∷ qs) low all =
      comes_then day After (λ it. Within day it.1) (post list q) (λ first. post_each first.1 qs >>= (λ others. Ok (first.0 ∷ others.0, others.1)))
      (posted_within list q low.0 all (last_of q.account q.week list) (last_within q.account q.week None list tt all))
      (λ first is. comes_then day (λ it. Within day it.1) (λ it. Within day it.1) (post_each first.1 qs) (λ others. Ok (first.0 ∷ others.0, others.1)) (each_within first.1 qs low.1 is) (λ others after. after))

  -- ---- an archive is refused for no day

  abbrev NotLate : {A : Type 0} → Result A PostFault → Type 0
  NotLate r = Comes day (λ it. ⊤) r

  same_there : {X : Type 0} (list : List X) (b : Bool) → NotLate {A = List X} (if b then Ok list else Err ArchiveConflict)
  same_there list true = tt
  same_there list false = λ late. late

  beside_not_late : {X : Type 0} (same : X → X → Bool) (list : List X) (x : X) (found : Option X) → NotLate (archived_beside same list x found)
  beside_not_late same list x None = tt
  beside_not_late same list x (Some there) = same_there list (same there x)

  each_not_late : {X : Type 0} (with_one : List X → X → Result (List X) PostFault) → ((list : List X) (x : X) → NotLate (with_one list x)) → (list more : List X) → NotLate (archived_each with_one list more)
  each_not_late {X} with_one not list [] = tt
  each_not_late {X} with_one not list (x ∷ more) =
      comes_then {A = List X} {B = List X} day (λ it. ⊤) (λ it. ⊤) (with_one list x) (λ now. archived_each with_one now more) (not list x) (λ now is. each_not_late with_one not now more)

  set_not_late : (archive : List Tap × List Fix) (set : SetsParts) → NotLate (archived_set archive set)
  set_not_late archive set =
      comes_then {A = List Tap} {B = List Tap × List Fix} day (λ it. ⊤) (λ it. ⊤) (archived_each archived_tap archive.0 set.taps) (λ taps. archived_each archived_fix archive.1 set.fixes >>= (λ fixes. Ok (taps, fixes)))
      (each_not_late archived_tap (λ list x. beside_not_late same_tap list x (find (is_numbered_as x) list)) archive.0 set.taps)
      (λ taps is. comes_then {A = List Fix} {B = List Tap × List Fix} day (λ it. ⊤) (λ it. ⊤) (archived_each archived_fix archive.1 set.fixes) (λ fixes. Ok (taps, fixes))
      (each_not_late archived_fix (λ list x. beside_not_late same_fix list x (find (is_fix_numbered_as x) list)) archive.1 set.fixes) (λ fixes are. tt))

  sets_not_late : (archive : List Tap × List Fix) (sets : List SetsParts) → NotLate (archived_sets archive sets)
  sets_not_late archive [] = tt
  sets_not_late archive (set ∷ sets) =
      comes_then {A = List Tap × List Fix} {B = List Tap × List Fix} day (λ it. ⊤) (λ it. ⊤) (archived_set archive set) (λ now. archived_sets now sets) (set_not_late archive set) (λ now is. sets_not_late now sets)

  -- ---- a close

  quotes_through : (editions : FareEditions) (list : List (ℕ × Accepted)) → AllByRecursion (λ (q : QuoteParts). q.through ≤ day) (map (λ (e : ℕ × Accepted). quote editions e.0 e.1 day) list)
  quotes_through editions [] = tt
  quotes_through editions (e ∷ list) = (omega arith, quotes_through editions list)

  -- it posts through its day, and is not refused for it
  close_within : (editions : FareEditions) (books : Books) → Within day books.ledger.postings → Comes {A = List Posting × LedgerParts} day (λ it. Within day it.1.postings) (close editions books day)
  close_within editions books all =
      let batch = batch_of_all editions books.state day in
      comes_then {A = List Posting × List Posting} {B = List Posting × LedgerParts} day (λ it. Within day it.1) (λ it. Within day it.1.postings) (post_each books.ledger.postings batch.quotes)
      (λ given. archived_sets (books.ledger.taps, books.ledger.fixes) batch.sets >>= (λ archive. Ok (given.0, record { postings = given.1; taps = archive.0; fixes = archive.1 })))
      (each_within books.ledger.postings batch.quotes (quotes_through editions (quoted books.state day 0 1)) all)
      (λ given is. comes_then {A = List Tap × List Fix} {B = List Posting × LedgerParts} day (λ it. ⊤) (λ it. Within day it.1.postings) (archived_sets (books.ledger.taps, books.ledger.fixes) batch.sets)
      (λ archive. Ok (given.0, record { postings = given.1; taps = archive.0; fixes = archive.1 })) (sets_not_late (books.ledger.taps, books.ledger.fixes) batch.sets) (λ archive are. is))

within_later : (day later : ℕ) (list : List Posting) → day ≤ later → Within day list → Within later list
within_later day later [] low all = tt
within_later day later (p ∷ list) low all = (omega (arith, low, all.0), within_later day later list low all.1)

-- ---- histories

-- why a close is refused after a history
abbrev pub RefusesLate : Type 0
RefusesLate = (editions : FareEditions) (events : List Event) (day : ℕ) (why : PostFault) → close editions (history editions events) day ≡ Err why → IsLate day why

after_last : (editions : FareEditions) (books : Books) (events : List Event) (e : Event) → after_all editions books (events ++ e ∷ []) ≡ after editions (after_all editions books events) e
after_last editions books [] e = refl
after_last editions books (first ∷ events) e = after_last editions (after editions books first) events e

-- these books are what a history comes to
record IsPast (editions : FareEditions) (books : Books) : Type 0 where
  events : List Event
  is : history editions events ≡ books

past_with : (editions : FareEditions) (books : Books) (e : Event) → IsPast editions books → IsPast editions (after editions books e)
past_with editions books e past = record { events = past.events ++ e ∷ []; is = after_last editions new_books past.events e ∙ ap (λ b. after editions b e) past.is }

-- a command that a session puts
abbrev item_of : Asked → Item
item_of a = record { entry = record { lane = 0; ticket = 0; command = a }; refused_memory = false }

module _ (agree : RefusesLate) (zone : TimeZone) (editions : FareEditions) where
  abbrev machine_of : Books → Machine
  machine_of books = record { zone = zone; editions = editions; accounts = books.state; ledger = Some books.ledger }

  -- all closes of these requests are answered from here on
  abbrev GoesOn : ℕ → List Request → Machine → Type 0
  GoesOn last list m = AreClosed list (outcome [] m list).replies

  -- from any books that a history comes to, with nothing posted later
  abbrev Goes : ℕ → List Request → Type 0
  Goes last list = (books : Books) → IsPast editions books → Within last books.ledger.postings → AreClosed list (outcome [] (machine_of books) list).replies

  module _ (last : ℕ) (list : List Request) (goes : Goes last list) (books : Books) (past : IsPast editions books) (within : Within last books.ledger.postings) where
    abbrev GoesAfter : Asks → Type 0
    GoesAfter a = AreClosed list (outcome [] (step_asks None (machine_of books) a).after list).replies

    put_goes : (a : Asked) → GoesAfter (asks.Put a)
    put_goes a = goes (after editions books (Answered (item_of a))) (past_with editions books (Answered (item_of a)) past) within

    stays_goes : AreClosed list (outcome [] (machine_of books) list).replies
    stays_goes = goes books past within

    tap_goes : (a : Asked) (why : Refusal) (b : Bool) → GoesAfter (if b then asks.Put a else asks.No why)
    tap_goes a why true = put_goes a
    tap_goes a why false = stays_goes

    fix_goes : (line : SpelledFix) (does : Result What Refusal) → GoesAfter (asks_fix_that line does)
    fix_goes line (Ok does) = put_goes (asked.Fix (fix_of_spelled line does))
    fix_goes line (Err why) = stays_goes

  close_goes : (last day : ℕ) (list : List Request) → last ≤ day → Goes day list → (books : Books) → IsPast editions books → Within last books.ledger.postings → (r : Result (List Posting × LedgerParts) PostFault) → close editions books day ≡ r
      → Comes {A = List Posting × LedgerParts} day (λ it. Within day it.1.postings) r
      → IsClosed (request.Command (command.Close day)) (step_closed (machine_of books) day r).reply × AreClosed list (outcome [] (step_closed (machine_of books) day r).after list).replies
  close_goes last day list low goes books past within (Ok answer) e comes =
      let now : Books = record { state = books.state; ledger = answer.1 } in
      let became : after editions books (Closed day) ≡ now = λ i. record { state = books.state; ledger = ledger_after books.ledger (e i) } in
      (tt, goes now (subst (IsPast editions) became (past_with editions books (Closed day) past)) comes)
  close_goes last day list low goes books past within (Err why) e comes =
      absurd (comes (agree editions past.events day why (ap (λ (b : Books). close editions b day) past.is ∙ e)))

  request_goes : (last : ℕ) (r : Request) (list : List Request) → ((later : ℕ) → AreInOrder later list → Goes later list) → AreInOrder last (r ∷ list) → Goes last (r ∷ list)
  unfolding step asks_of
  request_goes last (request.Command (command.Tap line)) list goes order books past within = (tt, tap_goes last list (goes last order) books past within _ _ _)
  request_goes last (request.Command (command.Fix line)) list goes order books past within = (tt, fix_goes last list (goes last order) books past within line (what_of_spelled zone line.what))
  request_goes last (request.Command (command.Due account day)) list goes order books past within = (tt, stays_goes last list (goes last order) books past within)
  request_goes last (request.Command (command.Show account day)) list goes order books past within = (tt, stays_goes last list (goes last order) books past within)
  request_goes last (request.Command (command.Close day)) list goes order books past within =
      close_goes last day list order.0 (goes day order.1) books past within (close editions books day) refl (close_within day editions books (within_later last day books.ledger.postings order.0 within))
  request_goes last (request.Command command.Quit) list goes order books past within = (tt, stays_goes last list (goes last order) books past within)
  request_goes last request.BadLine list goes order books past within = (tt, stays_goes last list (goes last order) books past within)
  request_goes last request.LongLine list goes order books past within = (tt, stays_goes last list (goes last order) books past within)

  all_go : (list : List Request) (last : ℕ) → AreInOrder last list → Goes last list
  all_go [] last order = λ books past within. tt
  all_go (r ∷ list) last order = request_goes last r list (λ later. all_go list later) order

pub in_order : RefusesLate → ClosesInOrder
in_order agree zone editions list order = all_go agree zone editions list 0 order new_books (record { events = []; is = refl }) tt

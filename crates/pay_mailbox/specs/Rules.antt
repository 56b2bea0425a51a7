-- The rule of a mailbox.
use Rattle.std.specs.Prelude.{◌≡◌, ℕ, ◌<◌, ◌≤◌, true, false, List, [], ◌++◌, All}
use mathlib.Core.Option.{Option, some, none}
use lib.ListN.{get_elem?}
use Rattle.pay_mailbox.specs.Of.{of}
use Rattle.pay_mailbox.specs.declared.rule.Back.{Back}
use Rattle.pay_mailbox.specs.declared.rule.View.{View}

module _ {T : Type 0} where
  abbrev pub back : ℕ → List T → Back T
  back p sent = record { number = p; sent = sent }

  -- the view of the sender p
  abbrev pub sending : ℕ → List T → View T
  sending p sent = record { sends = true; receives = false; number = p; sent = sent; got = []; made = 0; back = [] }

  -- the view of the receiver
  abbrev pub receiving : List T → ℕ → List (Back T) → View T
  receiving got made returned = record { sends = false; receives = true; number = 0; sent = []; got = got; made = made; back = returned }

  -- a view that does nothing any more
  abbrev pub spent : View T
  spent = record { sends = false; receives = false; number = 0; sent = []; got = []; made = 0; back = [] }

  -- a sender that was made has its seat, which knows what was sent
  abbrev pub FitsSender : (ℕ → Option ℕ) → (ℕ → List T) → ℕ → View T → Type 0
  FitsSender seat sent pass v = v.sends ≡ true → (seat v.number ≡ some pass) × (v.sent ≡ sent v.number)

  -- senders that are not made have no seat, and have sent nothing
  abbrev pub IsUnmade : (ℕ → Option ℕ) → (ℕ → List T) → ℕ → Type 0
  IsUnmade seat sent made = (p : ℕ) → made ≤ p → (seat p ≡ none) × (sent p ≡ [])

  -- a sender that is back was made and has no seat any more, and all that it sent is known
  abbrev pub IsBack : (ℕ → Option ℕ) → (ℕ → List T) → ℕ → Back T → Type 0
  IsBack seat sent made b = (b.number < made) × (seat b.number ≡ none) × (b.sent ≡ sent b.number)

  -- the one receiver knows what was got, how many senders were made, and what those sent that are back
  abbrev pub FitsReceiver : ℕ → (ℕ → Option ℕ) → (ℕ → List T) → List T → ℕ → View T → Type 0
  FitsReceiver reader seat sent got pass v = v.receives ≡ true → (pass ≡ reader) × (v.got ≡ got) × IsUnmade seat sent v.made × All (IsBack seat sent v.made) v.back

module _ {T : Type 0} (sender : T → ℕ) where
  -- what each sender sent is what was got of it, and then what the mailbox holds of it
  abbrev pub Delivers : List T → List (View T) → Type 0
  Delivers items views =
      (reader : ℕ) × (seat : ℕ → Option ℕ) × (sent : ℕ → List T) × (got : List T) × ((p : ℕ) → of sender p (got ++ items) ≡ sent p)
      × ((pass : ℕ) (v : View T) → get_elem? views pass ≡ some v → FitsSender seat sent pass v × FitsReceiver reader seat sent got pass v)

  -- what the pass has sent is what was got of it, and then what the mailbox holds of it
  abbrev pub HasSent : View T → List T → Type 0
  HasSent v items = (got : List T) × (of sender v.number (got ++ items) ≡ v.sent)

  -- what a sender sent that is back is what the pass got of it, and then what the mailbox holds of it; and there is nothing of senders that are not made
  abbrev pub HasGot : View T → List T → Type 0
  HasGot v items = All (λ b. of sender b.number (v.got ++ items) ≡ b.sent) v.back × ((p : ℕ) → v.made ≤ p → of sender p (v.got ++ items) ≡ [])

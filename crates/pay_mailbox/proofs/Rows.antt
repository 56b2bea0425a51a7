-- Worked rows: items of the senders 0 and 1, an item being a pair of its sender and what it says.
use Rattle.std.proofs.Common.{◌≡◌, ℕ, ◌≤◌, List, [], ◌∷◌, filter, length, refl, ap, arith, ne_eqb}
use Rattle.std.proofs.lemmas.List.Elements.{All-nil, All-cons}
use Rattle.pay_mailbox.specs.Of.{of}
use Rattle.pay_mailbox.specs.Parts.{MailboxParts, sender_of, AreAllBack, HasWaiting}

abbrev sender : ℕ × ℕ → ℕ
sender x = x.0

abbrev items : List (ℕ × ℕ)
items = (0, 7) ∷ (1, 8) ∷ (0, 9) ∷ []

pub of_zero : of sender 0 items ≡ (0, 7) ∷ (0, 9) ∷ []
of_zero = refl

pub of_one : of sender 1 items ≡ (1, 8) ∷ []
of_one = refl

pub of_two : of sender 2 items ≡ []
of_two = refl

-- two senders that were made and are back, and one of two that is not
pub both_back : (m : MailboxParts) → AreAllBack {T = ℕ × ℕ} (record { mailbox = m; got = []; made = 2; back = sender_of m 0 [] ∷ sender_of m 1 [] ∷ [] })
both_back m = refl

pub one_away : (m : MailboxParts) → ¬ AreAllBack {T = ℕ × ℕ} (record { mailbox = m; got = []; made = 2; back = sender_of m 0 [] ∷ [] })
one_away m e = let n = ap length e in absurd (omega arith)

-- of three items that a sender sent, which is back, one was got and two wait
abbrev sent : List (ℕ × ℕ)
sent = (0, 7) ∷ (0, 8) ∷ (0, 9) ∷ []

of_others : (p : ℕ) → 1 ≤ p → of sender p sent ≡ []
of_others p far = ap (λ b. filter (λ (x : ℕ × ℕ). b) sent) (ne_eqb 0 p (λ e. omega arith))

pub two_wait : (m : MailboxParts) → HasWaiting sender 2 (record { mailbox = m; got = (0, 7) ∷ []; made = 1; back = sender_of m 0 sent ∷ [] })
two_wait m = ((0, 8) ∷ (0, 9) ∷ [], refl, All-cons (λ s. of sender s.number sent ≡ s.sent) (sender_of m 0 sent) [] refl (All-nil _), of_others)

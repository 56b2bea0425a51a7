-- What contracts see of a mailbox, of its senders and of its receiver.
use Rattle.std.specs.Prelude.{◌≡◌, ℕ, ◌≤◌, ◌+◌, List, [], ◌∷◌, ◌++◌, All, length, map, refl}
use Rattle.std.specs.List.{range_with_len}
use Rattle.std.specs.Coded.{Coded, code_by, coded×, coded_ℕ, coded_list}
use mathlib.Core.List.{IsPrefix}
use Rattle.atomic_table.specs.Seated.{TableId, table_id_coded}
use Rattle.pay_mailbox.specs.Of.{of}

-- a mailbox: which one it is, and how many items it holds at most
pub record MailboxParts : Type 0 where
  pub id : TableId
  pub capacity : ℕ

-- a sender: its mailbox, its number there, and what it has sent
pub record SenderParts (T : Type 0) : Type 0 where
  pub mailbox : MailboxParts
  pub number : ℕ
  pub sent : List T

-- the receiver: its mailbox, what it got, how many senders it has made, and those that are back
pub record ReceiverParts (T : Type 0) : Type 0 where
  pub mailbox : MailboxParts
  pub got : List T
  pub made : ℕ
  pub back : List (SenderParts T)

abbrev pub mailbox_code : Coded MailboxParts
mailbox_code = code_by (TableId × ℕ) (coded× table_id_coded coded_ℕ) (λ m. (m.id, m.capacity)) (λ p. record { id = p.0; capacity = p.1 }) (λ _. refl)

abbrev pub sender_code : {T : Type 0} → Coded T → Coded (SenderParts T)
sender_code {T} c =
    code_by (MailboxParts × (ℕ × List T)) (coded× mailbox_code (coded× coded_ℕ (coded_list c))) (λ s. (s.mailbox, (s.number, s.sent))) (λ p. record { mailbox = p.0; number = p.1.0; sent = p.1.1 }) (λ _. refl)

abbrev pub receiver_code : {T : Type 0} → Coded T → Coded (ReceiverParts T)
receiver_code {T} c =
    code_by (MailboxParts × (List T × (ℕ × List (SenderParts T)))) (coded× mailbox_code (coded× (coded_list c) (coded× coded_ℕ (coded_list (sender_code c)))))
    (λ r. (r.mailbox, (r.got, (r.made, r.back)))) (λ p. record { mailbox = p.0; got = p.1.0; made = p.1.1.0; back = p.1.1.1 }) (λ _. refl)

module _ {T : Type 0} where
  -- the sender p of a mailbox, which has sent this
  abbrev pub sender_of : MailboxParts → ℕ → List T → SenderParts T
  sender_of m p sent = record { mailbox = m; number = p; sent = sent }

  -- the receiver of a new mailbox
  abbrev pub receiver_of : MailboxParts → ReceiverParts T
  receiver_of m = record { mailbox = m; got = []; made = 0; back = [] }

  -- a sender, once it has sent one more
  abbrev pub having_sent : SenderParts T → T → SenderParts T
  having_sent s x = sender_of s.mailbox s.number (s.sent ++ x ∷ [])

  -- the receiver, once it got more
  abbrev pub having_got : ReceiverParts T → List T → ReceiverParts T
  having_got r items = record { mailbox = r.mailbox; got = r.got ++ items; made = r.made; back = r.back }

  -- the receiver, once it has made one more sender
  abbrev pub having_made : ReceiverParts T → ReceiverParts T
  having_made r = record { mailbox = r.mailbox; got = r.got; made = r.made + 1; back = r.back }

  -- the receiver, once one more sender is back
  abbrev pub having_back : ReceiverParts T → SenderParts T → ReceiverParts T
  having_back r s = record { mailbox = r.mailbox; got = r.got; made = r.made; back = r.back ++ s ∷ [] }

  -- all senders that were made are back, in the order of their numbers
  abbrev pub AreAllBack : ReceiverParts T → Type 0
  AreAllBack r = map (λ s. s.number) r.back ≡ range_with_len 0 r.made

module _ {T : Type 0} (sender : T → ℕ) where
  -- at one moment the mailbox held as many items as it may, and of this sender what was got before and what it held was what the sender has sent
  abbrev pub WasFull : SenderParts T → Type 0
  WasFull s = (got : List T) × (held : List T) × (length held ≡ s.mailbox.capacity) × (of sender s.number (got ++ held) ≡ s.sent)

  -- of each sender that is back all was got that it sent, in its order, and nothing else; and nothing was got of senders that are not made
  abbrev pub HasAll : ReceiverParts T → Type 0
  HasAll r = All (λ s. of sender s.number r.got ≡ s.sent) r.back × ((p : ℕ) → r.made ≤ p → of sender p r.got ≡ [])

  -- of each sender that is back the first was got that it sent, in its order, and nothing else; and nothing was got of senders that are not made
  abbrev pub HasFirst : ReceiverParts T → Type 0
  HasFirst r = All (λ s. IsPrefix (of sender s.number r.got) s.sent) r.back × ((p : ℕ) → r.made ≤ p → of sender p r.got ≡ [])

  -- at one moment the mailbox held so many items, and of each sender that is back what was got and what it held was what the sender has sent; and there was nothing of senders that are not made
  abbrev pub HasWaiting : ℕ → ReceiverParts T → Type 0
  HasWaiting n r =
      (held : List T) × (length held ≡ n) × All (λ s. of sender s.number (r.got ++ held) ≡ s.sent) r.back × ((p : ℕ) → r.made ≤ p → of sender p (r.got ++ held) ≡ [])

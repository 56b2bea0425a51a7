-- What a lane has sent: where one entry more stands, and under which tickets.
use Rattle.std.proofs.Common.{◌≡◌, ℕ, zero, suc, ◌<◌, List, [], ◌∷◌, ◌++◌, All, length, refl, sym, ap, ◌∙◌, append_assoc, arith}
use Rattle.std.specs.List.{AllByRecursion}
use Rattle.std.proofs.lemmas.List.Elements.{All-head, All-tail}
use Rattle.pay_mailbox.specs.Words.{SenderParts}
use Rattle.pay_shard.specs.declared.item.Entry.{Entry}
use Rattle.pay_lanes.specs.Parts.{sent_at}
use Rattle.pay_lanes.specs.Working.{IsOwn, all_sent}

-- all that was sent before and after it sent an entry more
pub record Split (before after : List Entry) (e : Entry) : Type 0 where
  pub front : List Entry
  pub back : List Entry
  pub was : before ≡ front ++ back
  pub now : after ≡ front ++ e ∷ back

pub split : (place : ℕ) (e : Entry) (xs : List (SenderParts Entry)) → place < length xs → Split (all_sent xs) (all_sent (sent_at place e xs)) e
split place e [] there = absurd (omega (arith, there))
split zero e (s ∷ xs) there = record { front = s.sent; back = all_sent xs; was = refl; now = append_assoc s.sent (e ∷ []) (all_sent xs) }
split (suc place) e (s ∷ xs) there =
    let rest = split place e xs (omega (arith, there)) in record {
      front = s.sent ++ rest.front;
      back = rest.back;
      was = ap (λ l. s.sent ++ l) rest.was ∙ sym (append_assoc s.sent rest.front rest.back);
      now = ap (λ l. s.sent ++ l) rest.now ∙ sym (append_assoc s.sent rest.front (e ∷ rest.back));
    }

-- an entry is under a ticket below the next
abbrev pub Before : ℕ → Entry → Type 0
Before next entry = entry.ticket < next

before_both : (next : ℕ) (front back : List Entry) → All (Before next) front → AllByRecursion (Before next) back → AllByRecursion (Before next) (front ++ back)
before_both next [] back all rest = rest
before_both next (e ∷ front) back all rest = (All-head (Before next) e front all, before_both next front back (All-tail (Before next) e front all) rest)

-- each that a lane sent is
pub all_before : (number next : ℕ) (xs : List (SenderParts Entry)) → All (IsOwn number next) xs → AllByRecursion (Before next) (all_sent xs)
all_before number next [] own = tt
all_before number next (s ∷ xs) own = before_both next s.sent (all_sent xs) (All-head (IsOwn number next) s xs own).1 (all_before number next xs (All-tail (IsOwn number next) s xs own))

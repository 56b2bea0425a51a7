-- A receiver that goes on, and what it puts into a list.
use Rattle.std.proofs.Common.{◌≡◌, ℕ, ◌+◌, List, [], ◌∷◌, ◌++◌, length, sym, ap, ◌∙◌, append_assoc, append-nil, length-append, arith, refl}
use Rattle.pay_mailbox.specs.Parts.{ReceiverParts, having_got}

module _ {T : Type 0} where
  -- from r and xs to s and ys so many items were got, and put at the end of the list
  pub record HasMoved (r : ReceiverParts T) (xs : List T) (s : ReceiverParts T) (ys : List T) (n : ℕ) : Type 0 where
    pub items : List T
    pub count : length items ≡ n
    pub put : ys ≡ xs ++ items
    pub got : s ≡ having_got r items

  pub none_moved : (r s : ReceiverParts T) (xs : List T) → s ≡ r → HasMoved r xs s xs 0
  none_moved r s xs e = record {
    items = [];
    count = refl;
    put = sym (append-nil xs);
    got = e ∙ ap (λ l. record { mailbox = r.mailbox; got = l; made = r.made; back = r.back }) (sym (append-nil r.got));
  }

  -- one more
  pub one_moved : (r s t : ReceiverParts T) (xs ys zs : List T) (n : ℕ) (x : T) → HasMoved r xs s ys n → t ≡ having_got s (x ∷ []) → zs ≡ ys ++ x ∷ [] → HasMoved r xs t zs (n + 1)
  one_moved r s t xs ys zs n x h got put = record {
    items = h.items ++ x ∷ [];
    count = omega (arith, length-append h.items (x ∷ []), h.count);
    put = put ∙ (ap (λ l. l ++ x ∷ []) h.put ∙ append_assoc xs h.items (x ∷ []));
    got = got ∙ (ap (λ u. having_got u (x ∷ [])) h.got ∙ ap (λ l. record { mailbox = r.mailbox; got = l; made = r.made; back = r.back }) (append_assoc r.got h.items (x ∷ [])));
  }

  -- what was got and put, said of a receiver that is the same
  pub moved_so : (r s t : ReceiverParts T) (xs ys : List T) (n : ℕ) → HasMoved r xs s ys n → t ≡ s → (items : List T) × (ys ≡ xs ++ items) × (t ≡ having_got r items)
  moved_so r s t xs ys n h e = (h.items, h.put, e ∙ h.got)

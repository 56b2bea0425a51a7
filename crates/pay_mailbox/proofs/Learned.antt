-- What the receiver learns of the mailbox, said of its value.
use Rattle.std.proofs.Common.{◌≡◌, ℕ, eqb, List, [], ◌∷◌, ◌++◌, length, sym, refl, ap, ◌∙◌, append-nil, arith, Option, Some, None, MatchOption, IfNone}
use mathlib.Core.List.{IsPrefix}
use Rattle.std.proofs.lemmas.List.Elements.{filter-append, All-map, All-weaker}
use Rattle.crossbeam_queue.specs.Fifo.{Held}
use Rattle.crossbeam_queue.specs.Passes.{Pass, view}
use Rattle.pay_mailbox.specs.declared.rule.View.{View}
use Rattle.pay_mailbox.specs.Of.{of}
use Rattle.pay_mailbox.specs.Parts.{HasAll, HasFirst, HasWaiting}
use Rattle.pay_mailbox.specs.Rules.{HasGot}
use Rattle.pay_mailbox.specs.Seen.{seen_mailbox, seen_back, seen_receiver}

pub no_item : {T : Type 0} (items : List T) → length items ≡ 0 → items ≡ []
no_item [] e = refl
no_item (x ∷ xs) e = absurd (omega arith)

front_nil : {T : Type 0} (front rest : List T) → front ++ rest ≡ [] → front ≡ []
front_nil [] rest e = refl
front_nil (x ∷ xs) rest e = absurd (let n = ap length e in omega arith)

pub at_none : {T P X : Type 0} (Q : T → Type 0) (o : Option T) → MatchOption o P Q → (P → X) → IfNone o X
at_none Q None h f = f h
at_none Q (Some x) h f = tt

module _ {T : Type 0} (sender : T → ℕ) where
  -- once the mailbox was empty
  pub all_got : (p : Pass T (View T)) → Held 0 (HasGot sender (view p)) → HasAll sender (seen_receiver p)
  all_got p h = let v = view p in let whole : v.got ++ h.0 ≡ v.got = ap (λ l. v.got ++ l) (no_item h.0 h.1) ∙ append-nil v.got in let same : (k : ℕ) → of sender k v.got ≡ of sender k (v.got ++ h.0) = λ k. ap (of sender k) (sym whole) in (
    All-map (λ s. of sender s.number v.got ≡ s.sent) (seen_back (seen_mailbox p.table_id)) v.back
        (All-weaker (λ b. of sender b.number (v.got ++ h.0) ≡ b.sent) (λ b. of sender b.number v.got ≡ b.sent) (λ b is. same b.number ∙ is) v.back h.2.0),
    λ k far. same k ∙ h.2.1 k far,
  )

  -- at any time
  pub first_got : (p : Pass T (View T)) → (items : List T) × HasGot sender (view p) items → HasFirst sender (seen_receiver p)
  first_got p h = let v = view p in let split : (k : ℕ) → of sender k v.got ++ of sender k h.0 ≡ of sender k (v.got ++ h.0) = λ k. sym (filter-append (λ x. eqb (sender x) k) v.got h.0) in (
    All-map (λ s. IsPrefix (of sender s.number v.got) s.sent) (seen_back (seen_mailbox p.table_id)) v.back
        (All-weaker (λ b. of sender b.number (v.got ++ h.0) ≡ b.sent) (λ b. IsPrefix (of sender b.number v.got) b.sent) (λ b is. (of sender b.number h.0, split b.number ∙ is)) v.back h.1.0),
    λ k far. front_nil (of sender k v.got) (of sender k h.0) (split k ∙ h.1.1 k far),
  )

  -- once the mailbox held so many
  pub waiting_then : (p : Pass T (View T)) (n : ℕ) → Held n (HasGot sender (view p)) → HasWaiting sender n (seen_receiver p)
  waiting_then p n h = let v = view p in (
    h.0,
    h.1,
    All-map (λ s. of sender s.number (v.got ++ h.0) ≡ s.sent) (seen_back (seen_mailbox p.table_id)) v.back h.2.0,
    h.2.1,
  )

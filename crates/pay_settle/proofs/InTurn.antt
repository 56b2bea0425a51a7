-- Postings that are added one after another.
use Rattle.std.proofs.Common.{◌≡◌, ◌∙◌, ◌<◌, ℕ, ◌+◌, List, [], ◌∷◌, ◌++◌, length, get_or, take, drop, sym, ap, subst, append_assoc, append-nil}
use Rattle.std.specs.List.{AllByRecursion}
use Rattle.std.proofs.lemmas.List.{take_more, take-append-drop}
use Rattle.pay_postings.proofs.Loops.{next_left}
use Rattle.pay_rules.specs.declared.posting.Posting.{Posting}
use Rattle.pay_settle.specs.declared.fault.SettleFault.{SettleFault}
use Rattle.pay_settle.specs.declared.settlement.Settlement.{Settlement}
use Rattle.pay_settle.specs.Settled.{AreSumsOf, IsWhyNot, IsWhyNotOne}
use Rattle.pay_settle.specs.Sums.{AddsUp}

pub begin : (sums : Settlement) (list : List Posting) → AreSumsOf list sums → AreSumsOf (list ++ []) sums
begin sums list are = subst (λ (l : List Posting). AreSumsOf l sums) (sym (append-nil list)) are

module _ (postings : List Posting) (k : ℕ) (p : Posting) (below : k < length postings) (is : p ≡ get_or postings k p) where
  -- those so far, and the next one
  pub with_next : take (k + 1) postings ≡ take k postings ++ p ∷ []
  with_next = take_more postings k p below ∙ ap (λ (q : Posting). take k postings ++ q ∷ []) (sym is)

  pub next_sums : (first now next : Settlement) → ((list : List Posting) → AreSumsOf list first → AreSumsOf (list ++ take k postings) now) → ((list : List Posting) → AreSumsOf list now → AreSumsOf (list ++ p ∷ []) next)
      → (list : List Posting) → AreSumsOf list first → AreSumsOf (list ++ take (k + 1) postings) next
  next_sums first now next so_far one list are =
      subst (λ (l : List Posting). AreSumsOf l next) (append_assoc list (take k postings) (p ∷ []) ∙ ap (λ (l : List Posting). list ++ l) (sym with_next)) (one (list ++ take k postings) (so_far list are))

  each_and_one : (list : List Posting) → AllByRecursion AddsUp list → AddsUp p → AllByRecursion AddsUp (list ++ p ∷ [])
  each_and_one [] each one = (one, tt)
  each_and_one (q ∷ list) each one = (each.0, each_and_one list each.1 one)

  pub next_adds_up : AllByRecursion AddsUp (take k postings) → AddsUp p → AllByRecursion AddsUp (take (k + 1) postings)
  next_adds_up each one = subst (AllByRecursion AddsUp) (sym with_next) (each_and_one (take k postings) each one)

pub next_refused : (list postings : List Posting) (k : ℕ) (p : Posting) (fault : SettleFault) → k < length postings → p ≡ get_or postings k p → IsWhyNot (list ++ take k postings) p fault → IsWhyNotOne list postings fault
next_refused list postings k p fault below is why =
    (take k postings, p, drop (k + 1) postings, sym (take-append-drop k postings) ∙ ap (λ (l : List Posting). take k postings ++ l) (next_left postings k p below is), why)

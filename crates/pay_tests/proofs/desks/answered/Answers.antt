use Rattle.std.proofs.Common.{inl, inr, List, [], ◌∷◌, ◌++◌, refl, sym, subst, ap}
use Rattle.pay_rules.specs.InTurn.{IsIn}
use Rattle.pay_tests.proofs.desks.answered.Goals as goal

-- the last one of a list is in it
is_last : {X : Type 0} (list : List X) (x : X) → IsIn (list ++ x ∷ []) x
is_last [] x = inl refl
is_last (y ∷ list) x = inr (is_last list x)

pub get-requires : goal.get-requires
get-requires c = subst (λ waiting. IsIn waiting c.in-Ok.ticket) (sym (ap (λ s. s.waiting) c.in-Ok.ensures.waits)) (is_last _ c.in-Ok.ticket)

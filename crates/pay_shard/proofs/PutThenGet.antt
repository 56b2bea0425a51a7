-- A command that was put last, and its ticket.
use Rattle.std.proofs.Common.{◌≡◌, ℕ, ◌==◌, Bool, true, false, List, [], ◌∷◌, ◌++◌, Option, Some, None, sym, ap, ◌∙◌, subst, refl, inl, inr, arith}
use Rattle.std.specs.Prelude.{not, cond, if◌then◌else◌}
use Rattle.std.proofs.lemmas.Bool.{eq-eqb, eqb-true}
use Rattle.pay_rules.specs.InTurn.{IsIn}
use Rattle.pay_shard.specs.Desks.{Standing, with_waiting, IsAfterAll, IsNoneOf, without, command_under}
use Rattle.pay_shard.specs.declared.asked.Asked.{Asked}

-- ---- the command under its ticket

under_last : (ticket : ℕ) (command : Asked) (before : List (ℕ × Asked)) → IsAfterAll ticket before → command_under ticket (before ++ (ticket, command) ∷ []) ≡ Some command
under_last ticket command [] later = ap (λ (b : Bool). if b then Some command else None) (eq-eqb ticket ticket refl)
under_last ticket command (t ∷ before) later =
    ap (λ (b : Bool). if b then Some t.1 else command_under ticket (before ++ (ticket, command) ∷ [])) (off (t.0 == ticket) refl) ∙ under_last ticket command before later.1
  where
    off : (b : Bool) → (t.0 == ticket) ≡ b → (t.0 == ticket) ≡ false
    off true same =
        let is = eqb-true t.0 ticket same in
        let below = later.0 in
        absurd (omega (arith, is, below))
    off false other = other

some_is : (x y : Asked) → ◌≡◌ {A = Option Asked} (Some x) (Some y) → x ≡ y
some_is x y e = cc

pub command_of_last : (ticket : ℕ) (command found : Asked) (before after : List (ℕ × Asked)) → IsAfterAll ticket before → after ≡ before ++ (ticket, command) ∷ [] → command_under ticket after ≡ Some found → found ≡ command
command_of_last ticket command found before after later put under = some_is found command (sym under ∙ ap (command_under ticket) put ∙ under_last ticket command before later)

-- ---- the ticket

pub last_one : (ticket : ℕ) (before after : List ℕ) → after ≡ before ++ ticket ∷ [] → IsIn after ticket
last_one ticket before after e = subst (λ l. IsIn l ticket) (sym e) (among before)
  where
    among : (before : List ℕ) → IsIn (before ++ ticket ∷ []) ticket
    among [] = inl refl
    among (b ∷ before) = inr (among before)

-- a new ticket that was got leaves what waited before
left_as_before : (ticket : ℕ) (before : List ℕ) → IsNoneOf ticket before → without ticket (before ++ ticket ∷ []) ≡ before
left_as_before ticket [] none = ap (λ b. cond (not b) (ticket ∷ []) []) (eq-eqb ticket ticket refl)
left_as_before ticket (t ∷ before) none = ap (λ b. cond (not b) (t ∷ without ticket (before ++ ticket ∷ [])) (without ticket (before ++ ticket ∷ []))) none.0 ∙ ap (λ l. t ∷ l) (left_as_before ticket before none.1)

pub stands_as_before : {O : Type 0} (before between after : Standing O) (ticket : ℕ) → IsNoneOf ticket before.waiting → between ≡ with_waiting (before.waiting ++ ticket ∷ []) before → after ≡ with_waiting (without ticket between.waiting) between
    → after ≡ before
stands_as_before before between after ticket none put got = got ∙ (λ i. with_waiting (without ticket (put i).waiting) (put i)) ∙ ap (λ l. with_waiting l before) (left_as_before ticket before.waiting none)

-- What an account holds after its changes, one after another.
use Rattle.std.proofs.Common.{◌≡◌, inl, ◌↔◌, ℕ, Bool, true, false, cond, List, [], ◌∷◌, Option, Some, None, unwrap_or, if◌then◌else◌, refl, sym, ap, ◌∙◌, subst}
use Rattle.std.specs.FinMap as map
use Rattle.std.specs.List.{cons_option}
use Rattle.pay_rules.specs.InTurn.{IsIn}
use Rattle.pay_tables.specs.Words.{FareEditions}
use Rattle.pay_rules.specs.Accepted.{Accepted, nothing}
use Rattle.pay_rules.specs.Changes.{Change, after, after_all, IsAccepted, AreAccepted}
use Rattle.pay_rules.specs.State.{State, accepted_of}
use Rattle.pay_shard.proofs.AskedChanges.{account_of}

-- what is held of an account after these changes: the first opens it
abbrev pub held_after : FareEditions → Option Accepted → List Change → Option Accepted
held_after editions held [] = held
held_after editions held (change ∷ later) = Some (after_all editions (unwrap_or held nothing) (change ∷ later))

after_first : (editions : FareEditions) (held : Option Accepted) (change : Change) (later : List Change) → held_after editions (Some (after editions (unwrap_or held nothing) change)) later ≡ held_after editions held (change ∷ later)
after_first editions held change [] = refl
after_first editions held change (next ∷ later) = refl

-- lists of the same changes open it or not alike
pub same_held : (editions : FareEditions) (held : Option Accepted) (list other : List Change) → ((change : Change) → IsIn list change ↔ IsIn other change)
    → after_all editions (unwrap_or held nothing) other ≡ after_all editions (unwrap_or held nothing) list → held_after editions held other ≡ held_after editions held list
same_held editions held [] [] alike e = refl
same_held editions held [] (change ∷ other) alike e = absurd ((alike change).1 (inl refl))
same_held editions held (change ∷ list) [] alike e = absurd ((alike change).0 (inl refl))
same_held editions held (change ∷ list) (first ∷ other) alike e = ap Some e

-- its changes are accepted one after another, and this is held in the end
pub record Leads (editions : FareEditions) (held : Option Accepted) (changes : List Change) (end : Option Accepted) : Type 0 where
  pub are : AreAccepted editions (unwrap_or held nothing) changes
  pub ends : end ≡ held_after editions held changes

-- a change before the later ones, if it is the account's own
abbrev pub own_first : Change → List Change → Bool → List Change
own_first change later own = cons_option (if own then Some change else None) later

-- what is held of an account after a change of one
abbrev pub IsHeld : FareEditions → State → Change → ℕ → Option Accepted → Bool → Type 0
IsHeld editions accounts change account now own = now ≡ cond own (Some (after editions (accepted_of accounts (account_of change)) change)) (map.get accounts account)

module _ (editions : FareEditions) (accounts : State) (change : Change) (account : ℕ) (now : Option Accepted) (later : List Change) where
  -- it accepts a change of its own and then the later ones, or the later ones alone
  pub leads_on : (end : Option Accepted) (own : Bool) → (own ≡ true → account ≡ account_of change) → IsHeld editions accounts change account now own → IsAccepted editions (accepted_of accounts (account_of change)) change
      → Leads editions now later end → Leads editions (map.get accounts account) (own_first change later own) end
  leads_on end true same held accepted rest = subst (λ k. Leads editions (map.get accounts k) (change ∷ later) end) (sym (same refl)) (record {
    are = (accepted, subst (λ o. AreAccepted editions (unwrap_or o nothing) later) held rest.are);
    ends = rest.ends ∙ ap (λ o. held_after editions o later) held ∙ after_first editions (map.get accounts (account_of change)) change later;
  })
  leads_on end false same held accepted rest = subst (λ o. Leads editions o later end) held rest

  pub accepts_later : (own : Bool) → (own ≡ true → account ≡ account_of change) → IsHeld editions accounts change account now own → AreAccepted editions (accepted_of accounts account) (own_first change later own)
      → AreAccepted editions (unwrap_or now nothing) later
  accepts_later true same held are = subst (λ o. AreAccepted editions (unwrap_or o nothing) later) (sym held) (subst (λ k. AreAccepted editions (accepted_of accounts k) (change ∷ later)) (same refl) are).1
  accepts_later false same held are = subst (λ o. AreAccepted editions (unwrap_or o nothing) later) (sym held) are

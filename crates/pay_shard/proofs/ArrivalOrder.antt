-- What the machine comes to, in whatever order taps and corrections arrive: each account has accepted its own.
use Rattle.std.proofs.Common.{◌≡◌, inl, inr, ◌↔◌, ℕ, Bool, true, false, List, [], ◌∷◌, Some, if◌then◌else◌, refl, sym, ap, ◌∙◌, subst}
use Rattle.std.specs.Bool.{⊤}
use Rattle.std.specs.Cmp.{nat_cmp_total, eq_by_cmp_equiv}
use Rattle.std.specs.FinMap as map
use Rattle.std.specs.FinMap.{same_map, nat_cmp-IsAntisymmetric}
use Rattle.std.specs.List.{cons_option}
use Rattle.std.specs.Ordering.{nat_cmp, eq_by_cmp}
use Rattle.pay_rules.specs.InTurn.{IsIn}
use Rattle.pay_tables.specs.Words.{FareEditions}
use Rattle.pay_rules.specs.Accepted.{Accepted}
use Rattle.pay_rules.specs.Changes.{Change, after_all, AreAccepted}
use Rattle.pay_shard.specs.Changes.{is_priced, AreAllPriced, asked_by, AreUnmarked, accepted_asked}
use Rattle.pay_shard.specs.Machine.{Step, step, marked_step, item_step}
use Rattle.pay_shard.specs.Runs.{run, replay}
use Rattle.pay_rules.specs.State.{State, accepted_of}
use Rattle.pay_shard.specs.declared.asked.Asked.{Asked}
use Rattle.pay_shard.specs.declared.item.Entry.{Entry}
use Rattle.pay_shard.specs.declared.item.Item.{Item}
use Rattle.pay_shard.proofs.AskedChanges.{account_of, change_of, asks, step_is, unchanged, if_own, changes_of, same_changes}
use Rattle.pay_shard.proofs.AcceptedChanges.{Accepts, accepts, priced_if_accepted}
use Rattle.pay_shard.proofs.AccountChanges.{Leads, same_held, own_first, leads_on, accepts_later}
use Rattle.pay_shard.proofs.Places.{one_number}

abbrev Asks : Asked → Type 0
Asks a = (change : Change) × (change_of a ≡ Some change)

-- whether a change is an account's own
abbrev is_own : ℕ → Change → Bool
is_own account change = eq_by_cmp nat_cmp account (account_of change)

-- the state after a list, where memory suffices
abbrev end_of : FareEditions → State → List Asked → State
end_of editions state [] = state
end_of editions state (a ∷ list) = end_of editions (step editions state a).after list

-- each is answered by prices
abbrev AreStepsPriced : FareEditions → State → List Asked → Type 0
AreStepsPriced editions state [] = ⊤
AreStepsPriced editions state (a ∷ list) = (is_priced (step editions state a).reply ≡ true) × AreStepsPriced editions (step editions state a).after list

changes_from : (account : ℕ) (a : Asked) (list : List Asked) (change : Change) → change_of a ≡ Some change → changes_of account (a ∷ list) ≡ own_first change (changes_of account list) (is_own account change)
changes_from account a list change e = ap (λ o. cons_option (if_own account o) (changes_of account list)) e

accepted_step : (editions : FareEditions) (state : State) (a : Asked) (change : Change) → change_of a ≡ Some change → is_priced (step editions state a).reply ≡ true → Accepts editions state change (step editions state a)
accepted_step editions state a change e priced =
    let same = step_is editions state a change e in
    subst (Accepts editions state change) (sym same) (accepts editions state change (subst (λ (s : Step). is_priced s.reply ≡ true) same priced))

-- where all of a list are answered by prices, each account has accepted its own of them
record Ran (editions : FareEditions) (state : State) (list : List Asked) : Type 0 where
  pub each : (account : ℕ) → Leads editions (map.get state account) (changes_of account list) (map.get (end_of editions state list) account)
  pub asked : (a : Asked) → IsIn list a → Asks a

ran : (editions : FareEditions) (state : State) (list : List Asked) → AreStepsPriced editions state list → Ran editions state list
ran editions state [] all = record { each = λ account. record { are = tt; ends = refl }; asked = λ a h. absurd h }
ran editions state (a ∷ list) all =
    let asked = asks editions state a all.0 in
    let change = asked.0 in
    let one = accepted_step editions state a change asked.1 all.0 in
    let next = (step editions state a).after in
    let rest = ran editions next list all.1 in
    record {
      each = λ account. subst (λ cs. Leads editions (map.get state account) cs (map.get (end_of editions next list) account)) (sym (changes_from account a list change asked.1))
          (leads_on editions state change account (map.get next account) (changes_of account list) (map.get (end_of editions next list) account) (is_own account change) (one_number account (account_of change)) (one.held account) one.accepts (rest.each account));
      asked = λ q h. elim h [ inl is ↦ subst Asks is asked | inr later ↦ rest.asked q later ];
    }

-- and where each account accepts its own, all are answered by prices
all_priced : (editions : FareEditions) (state : State) (list : List Asked) → ((a : Asked) → IsIn list a → Asks a)
    → ((account : ℕ) → AreAccepted editions (accepted_of state account) (changes_of account list)) → AreStepsPriced editions state list
all_priced editions state [] asked are = tt
all_priced editions state (a ∷ list) asked are =
    let change : Change = (asked a (inl refl)).0 in
    let e : change_of a ≡ Some change = (asked a (inl refl)).1 in
    let of_account = λ (account : ℕ). subst (AreAccepted editions (accepted_of state account)) (changes_from account a list change e) (are account) in
    let its : ℕ = account_of change in
    let accepted = (subst (λ own. AreAccepted editions (accepted_of state its) (own_first change (changes_of its list) own)) ((eq_by_cmp_equiv nat_cmp_total).refl its) (of_account its)).0 in
    let priced = ap (λ (s : Step). is_priced s.reply) (step_is editions state a change e) ∙ priced_if_accepted editions state change accepted in
    let one = accepted_step editions state a change e priced in
    let next = (step editions state a).after in
    let later = all_priced editions next list (λ q h. asked q (inr h)) (λ account.
    accepts_later editions state change account (map.get next account) (changes_of account list) (is_own account change) (one_number account its) (one.held account) (of_account account)) in
    (priced, later)

-- ---- another list that asks the same

-- the law of one account, taken as a premise, since another crate's proofs are not named here
abbrev AccountForgets : Type 0
AccountForgets = (editions : FareEditions) (accepted : Accepted) (list other : List Change) → ((change : Change) → IsIn list change ↔ IsIn other change) → AreAccepted editions accepted list
    → AreAccepted editions accepted other × (after_all editions accepted other ≡ after_all editions accepted list)

forgets : AccountForgets → (editions : FareEditions) (state : State) (list other : List Asked) → ((a : Asked) → IsIn list a ↔ IsIn other a) → AreStepsPriced editions state list
    → AreStepsPriced editions state other × (end_of editions state other ≡ end_of editions state list)
forgets account_forgets editions state list other alike all =
    let first = ran editions state list all in
    let same = λ (account : ℕ). same_changes account list other alike in
    let by_account = λ (account : ℕ). account_forgets editions (accepted_of state account) (changes_of account list) (changes_of account other) (same account) (first.each account).are in
    let again = all_priced editions state other (λ a h. first.asked a ((alike a).1 h)) (λ account. (by_account account).0) in
    let second = ran editions state other again in
    let ends : end_of editions state other ≡ end_of editions state list = same_map nat_cmp_total nat_cmp-IsAntisymmetric (end_of editions state other) (end_of editions state list) (λ account.
    (second.each account).ends
    ∙ same_held editions (map.get state account) (changes_of account list) (changes_of account other) (same account) (by_account account).1
    ∙ sym (first.each account).ends) in
    (again, ends)

-- ---- among items that change nothing

-- all of a list are answered by prices, and lead from one state to the other
abbrev Reaches : FareEditions → State → List Asked → State → Type 0
Reaches editions state list end = AreStepsPriced editions state list × (end_of editions state list ≡ end)

reaches_on : (mark : Bool) (editions : FareEditions) (state : State) (a : Asked) (later : List Asked) (end : State) → Reaches editions (marked_step mark editions state a).after later end
    → Reaches editions state (if is_priced (marked_step mark editions state a).reply then a ∷ later else later) end
reaches_on true editions state a later end reaches = reaches
reaches_on false editions state a later end reaches = at (is_priced (step editions state a).reply) refl
  where
    at : (b : Bool) → is_priced (step editions state a).reply ≡ b → Reaches editions state (if b then a ∷ later else later) end
    at true e = ((e, reaches.0), reaches.1)
    at false e = subst (λ s. Reaches editions s later end) (unchanged editions state a e) reaches

reaches : (editions : FareEditions) (state : State) (items : List Item) → Reaches editions state (accepted_asked editions state items) (replay editions state items)
reaches editions state [] = (tt, refl)
reaches editions state (item ∷ items) =
    let next = (item_step editions state item).after in
    reaches_on item.refused_memory editions state item.entry.command (accepted_asked editions next items) (replay editions next items) (reaches editions next items)

pub forgets_among : AccountForgets → (editions : FareEditions) (state : State) (list other : List Item) → ((a : Asked) → IsIn (accepted_asked editions state list) a ↔ IsIn (accepted_asked editions state other) a)
    → replay editions state other ≡ replay editions state list
forgets_among account_forgets editions state list other alike =
    let first = reaches editions state list in
    let second = reaches editions state other in
    sym second.1 ∙ (forgets account_forgets editions state (accepted_asked editions state list) (accepted_asked editions state other) alike first.0).1 ∙ first.1

-- ---- where memory suffices

priced_on : (mark : Bool) (editions : FareEditions) (state : State) (a : Asked) (later : List Asked) (end : State) → is_priced (marked_step mark editions state a).reply ≡ true
    → Reaches editions (marked_step mark editions state a).after later end → Reaches editions state (a ∷ later) end
priced_on true editions state a later end priced reaches = absurd (cc)
priced_on false editions state a later end priced reaches = ((priced, reaches.0), reaches.1)

-- a journal that is answered by prices alone does as what it asks for
asked_priced : (editions : FareEditions) (state : State) (items : List Item) → AreAllPriced (run editions state items).replies → Reaches editions state (asked_by items) (replay editions state items)
asked_priced editions state [] all = (tt, refl)
asked_priced editions state (item ∷ items) all =
    let next = (item_step editions state item).after in
    priced_on item.refused_memory editions state item.entry.command (asked_by items) (replay editions next items) all.0 (asked_priced editions next items all.1)

-- a journal is answered by prices alone, and ends where what it asks for does
abbrev Runs : FareEditions → State → List Item → Type 0
Runs editions state items = AreAllPriced (run editions state items).replies × (replay editions state items ≡ end_of editions state (asked_by items))

unmarked_on : (mark : Bool) (editions : FareEditions) (state : State) (entry : Entry) (items : List Item) → mark ≡ false → is_priced (step editions state entry.command).reply ≡ true
    → Runs editions (step editions state entry.command).after items → Runs editions state (record { entry = entry; refused_memory = mark } ∷ items)
unmarked_on true editions state entry items is priced runs = absurd (cc)
unmarked_on false editions state entry items is priced runs = ((priced, runs.0), runs.1)

-- and one without marks does so where each of these is answered by prices
unmarked_priced : (editions : FareEditions) (state : State) (items : List Item) → AreUnmarked items → AreStepsPriced editions state (asked_by items) → Runs editions state items
unmarked_priced editions state [] are all = (tt, refl)
unmarked_priced editions state (item ∷ items) are all =
    unmarked_on item.refused_memory editions state item.entry items are.0 all.0 (unmarked_priced editions (step editions state item.entry.command).after items are.1 all.1)

pub accepted : AccountForgets → (editions : FareEditions) (state : State) (list other : List Item) → ((a : Asked) → IsIn (asked_by list) a ↔ IsIn (asked_by other) a) → AreUnmarked other
    → AreAllPriced (run editions state list).replies → AreAllPriced (run editions state other).replies × (replay editions state other ≡ replay editions state list)
accepted account_forgets editions state list other alike are all =
    let first = asked_priced editions state list all in
    let both = forgets account_forgets editions state (asked_by list) (asked_by other) alike first.0 in
    let second = unmarked_priced editions state other are both.0 in
    (second.0, second.1 ∙ both.1 ∙ first.1)

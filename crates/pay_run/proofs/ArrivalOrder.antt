-- The accounts come to the same in whatever order requests arrived, since those of a shard do for the commands that are asked for.
use Rattle.std.proofs.Common.{◌≡◌, ◌↔◌, List, [], sym, ap, ◌∙◌, subst, Option}
use Rattle.pay_rules.specs.InTurn.{IsIn}
use Rattle.pay_tables.specs.Words.{FareEditions}
use Rattle.pay_shard.specs.declared.asked.Asked.{Asked}
use Rattle.pay_shard.specs.declared.item.Item.{Item}
use Rattle.pay_rules.specs.State.{State}
use Rattle.pay_shard.specs.Words.{run, replay, asked_by, AreUnmarked, accepted_asked, AreAllPriced as AreShardPriced}
use Rattle.pay_session.specs.declared.request.Request.{Request}
use Rattle.pay_run.specs.Machine.{Machine, Failure}
use Rattle.pay_run.specs.Outcomes.{outcome, AreAllPriced, accepted_requests}
use Rattle.pay_run.proofs.Asked.{commands_for, items_for, same_commands, asked_by_items, items_unmarked, beyond, ends_after, accepted_items, all_asked, all_priced, same_ledger}

-- the laws of a shard's journals, taken as premises, since another crate's proofs are not named here
abbrev JournalsForget : Type 0
JournalsForget = (editions : FareEditions) (base : State) (list other : List Item) → ((a : Asked) → IsIn (asked_by list) a ↔ IsIn (asked_by other) a) → AreUnmarked other
    → AreShardPriced (run editions base list).replies → AreShardPriced (run editions base other).replies × (replay editions base other ≡ replay editions base list)

abbrev JournalsForgetAmong : Type 0
JournalsForgetAmong = (editions : FareEditions) (base : State) (list other : List Item) → ((a : Asked) → IsIn (accepted_asked editions base list) a ↔ IsIn (accepted_asked editions base other) a)
    → replay editions base other ≡ replay editions base list

-- two lists ask the same where what they are by other names does
same_by : (list other here there : List Asked) → here ≡ list → there ≡ other → ((a : Asked) → IsIn list a ↔ IsIn other a) → (a : Asked) → IsIn here a ↔ IsIn there a
same_by list other here there p q alike a = subst (λ l. IsIn l a ↔ IsIn there a) (sym p) (subst (λ o. IsIn list a ↔ IsIn o a) (sym q) (alike a))

-- journals with the same end lead machines to the same accounts
accounts_same : (m : Machine) (list other : List Request) (marks others : List (Option Failure))
    → replay m.editions m.accounts (items_for others m.zone other) ≡ replay m.editions m.accounts (items_for marks m.zone list)
    → (outcome others m other).after.accounts ≡ (outcome marks m list).after.accounts
accounts_same m list other marks others e =
    ap (λ (n : Machine). n.accounts) (ends_after others m other) ∙ e ∙ sym (ap (λ (n : Machine). n.accounts) (ends_after marks m list))

-- and to one machine, where the ledger stays
ends_alike : (m : Machine) (list other : List Request)
    → replay m.editions m.accounts (items_for [] m.zone other) ≡ replay m.editions m.accounts (items_for [] m.zone list)
    → (outcome [] m other).after.ledger ≡ m.ledger → (outcome [] m list).after.ledger ≡ m.ledger → (outcome [] m other).after ≡ (outcome [] m list).after
ends_alike m list other e kept stays =
    ends_after [] m other ∙ ap (λ l. beyond m (items_for [] m.zone other) l) (kept ∙ sym stays)
    ∙ ap (λ (s : State). record { zone = m.zone; editions = m.editions; accounts = s; ledger = (outcome [] m list).after.ledger }) e ∙ sym (ends_after [] m list)

pub forgets : JournalsForget → (m : Machine) (list other : List Request) → ((r : Request) → IsIn list r ↔ IsIn other r) → AreAllPriced (outcome [] m list).replies
    → AreAllPriced (outcome [] m other).replies × ((outcome [] m other).after ≡ (outcome [] m list).after)
forgets journals_forget m list other alike all =
    let first = all_asked m list all in
    let same = same_by (commands_for m.zone list) (commands_for m.zone other) (asked_by (items_for [] m.zone list)) (asked_by (items_for [] m.zone other))
    (asked_by_items m.zone list) (asked_by_items m.zone other) (same_commands m.zone list other alike) in
    let both = journals_forget m.editions m.accounts (items_for [] m.zone list) (items_for [] m.zone other) same (items_unmarked m.zone other) first.1 in
    let priced = all_priced m other (λ r h. first.0 r ((alike r).1 h)) both.0 in
    (priced, ends_alike m list other both.1 (same_ledger m other priced) (same_ledger m list all))

pub forgets_among : JournalsForgetAmong → (m : Machine) (list other : List Request) (marks others : List (Option Failure))
    → ((r : Request) → IsIn (accepted_requests marks m list) r ↔ IsIn (accepted_requests others m other) r)
    → (outcome others m other).after.accounts ≡ (outcome marks m list).after.accounts
forgets_among journals_forget m list other marks others alike =
    let first = accepted_requests marks m list in
    let second = accepted_requests others m other in
    let same = same_by (commands_for m.zone first) (commands_for m.zone second) (accepted_asked m.editions m.accounts (items_for marks m.zone list)) (accepted_asked m.editions m.accounts (items_for others m.zone other))
    (accepted_items marks m list) (accepted_items others m other) (same_commands m.zone first second alike) in
    accounts_same m list other marks others (journals_forget m.editions m.accounts (items_for marks m.zone list) (items_for others m.zone other) same)

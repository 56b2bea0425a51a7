-- What a service begins with that goes on after another one.
use Rattle.std.proofs.Common.{◌≡◌, ℕ, Bool, List, [], ◌++◌, map, length, refl, sym, ap, ◌∙◌}
use Rattle.std.specs.FinMap.{empty}
use Rattle.std.specs.FinMap as finite
use Rattle.pay_shard.specs.Words.{MergeEndsAsShards, all_items, asked_by}
use Rattle.pay_shard.specs.declared.asked.Asked.{Asked}
use Rattle.pay_lanes.specs.Words.{LaneParts, Passed}
use Rattle.pay_office.specs.Words.{desk_parts, commands_sent}
use Rattle.pay_serve.specs.Closes.{Terms}
use Rattle.pay_serve.specs.KeepingGates.{GateParts}
use Rattle.pay_journal_laws.specs.HaveKept.{KeptGivesBack}
use Rattle.pay_journal_laws.specs.NextServices.{account_in, ServiceGoesOn}
use Rattle.pay_journal_laws.specs.Services.{IsLeft}
use Rattle.pay_journal_laws.specs.Texts.{requests_in, asked_in}
use Rattle.pay_journal_laws.proofs.GivenBack.{nothing_asked, service_gives_back}
use Rattle.pay_journal_laws.proofs.TextsTaken.{asked_exactly}

-- the first lane asked for what the texts do, in their order
first_asked : (Holds : GateParts → List Passed → Bool → Type 0) (terms : Terms) (next : IsLeft Holds terms) → map (λ (t : ℕ × Asked). t.1) (commands_sent next.last) ≡ asked_in terms.zone (requests_in terms.texts)
first_asked Holds terms next =
    ap (λ (l : LaneParts). map (λ (t : ℕ × Asked). t.1) (commands_sent l)) next.past.lane
    ∙ (asked_exactly terms.zone desk_parts 0 terms.texts (record { began = next.first; lane = next.first; waiting = [] }) next.past.desk next.past.taken
    ∙ ap (λ (l : List (ℕ × Asked)). map (λ (t : ℕ × Asked). t.1) l ++ asked_in terms.zone (requests_in terms.texts)) (nothing_asked (length next.office) next.first next.spared.1))

pub service_goes_on : KeptGivesBack → MergeEndsAsShards → (Holds : GateParts → List Passed → Bool → Type 0) → ServiceGoesOn Holds
service_goes_on law ends Holds before terms left next merged taken up same are account =
    let asked : asked_by (all_items taken) ≡ asked_in before.zone (requests_in terms.texts) = are.all ∙ (first_asked Holds terms next ∙ ap (λ z. asked_in z (requests_in terms.texts)) same.1) in
    let back = ((service_gives_back law Holds before left merged terms.texts up).back (all_items taken) are.unmarked asked).1 in
    let was = ends before.fares (length left.office) (λ shard. empty) empty merged (λ a. refl) up.asked account in
    let is = ends before.fares (length next.office) (λ shard. empty) empty taken (λ a. refl) are.asked account in
    ap (λ f. account_in f (length next.office) taken account) same.0 ∙ (sym is ∙ (ap (λ s. finite.get s account) back ∙ was))

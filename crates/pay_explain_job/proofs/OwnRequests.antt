-- What the lines of one account ask for, of all journals together.
use Rattle.std.proofs.Common.{◌≡◌, ◌∙◌, ℕ, List, [], ◌∷◌, ◌++◌, map, filter, refl, sym, ap, subst}
use Rattle.std.proofs.lemmas.List.Elements.{filter-append}
use Rattle.pay_account_lines.specs.Laws.{AskForTheirAccount, OwnAreEnough}
use Rattle.pay_account_lines.specs.Words.{is_own, own_lines}
use Rattle.pay_jobs.specs.Replays.{all_requests}
use Rattle.pay_rules.specs.State.{accepted_of}
use Rattle.pay_run.specs.Words.{AreAllPriced, outcome}
use Rattle.pay_session.specs.Words.{line_requests}
use Rattle.pay_explain_job.specs.Laws.{IsToldAlike, OwnLinesAcceptAlike}

module _ (ask : AskForTheirAccount) (account : ℕ) where
  own_requests : (journals : List (List ℕ)) → all_requests (map (own_lines account) journals) ≡ filter (is_own account) (all_requests journals)
  own_requests [] = refl
  own_requests (text ∷ texts) =
      ap (λ l. l ++ all_requests (map (own_lines account) texts)) (ask account text)
      ∙ ap (λ l. filter (is_own account) (line_requests text) ++ l) (own_requests texts)
      ∙ sym (filter-append (is_own account) (line_requests text) (all_requests texts))

pub alike : AskForTheirAccount → OwnAreEnough → OwnLinesAcceptAlike
alike ask enough fares zone journals account editions accepted h =
    let own = sym (own_requests ask account journals) in
    let is = enough h.machine account (all_requests journals) h.priced in
    record {
      machine = h.machine;
      begins = h.begins;
      priced = subst (λ list. AreAllPriced (outcome [] h.machine list).replies) own is.accepted;
      editions = h.editions;
      accepted = h.accepted ∙ sym is.same ∙ ap (λ list. accepted_of (outcome [] h.machine list).after.accounts account) own;
    }

pub told_alike : OwnLinesAcceptAlike → IsToldAlike
told_alike accept say fares zone journals account text is = record {
  editions = is.editions;
  accepted = is.accepted;
  by_journals = accept fares zone journals account is.editions is.accepted is.by_journals;
  says = is.says;
}

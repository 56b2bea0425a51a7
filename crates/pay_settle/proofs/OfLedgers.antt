-- What was read of ledgers, one after another.
use Rattle.std.proofs.Common.{◌≡◌, ◌∙◌, ◌<◌, ℕ, ◌+◌, zero, suc, true, List, [], ◌∷◌, ◌++◌, length, get_or, take, drop, Option, Some, refl, sym, ap, subst, append_assoc, append-nil, arith}
use Rattle.std.specs.List.{AllByRecursion}
use Rattle.std.proofs.lemmas.List.{take_more, take-append-drop}
use Rattle.std.proofs.lemmas.Grind.{flat_map-append}
use Rattle.pay_postings.proofs.Loops.{next_left}
use Rattle.pay_rules.specs.declared.posting.Posting.{Posting}
use Rattle.pay_settle.specs.declared.fault.SettleFault.{SettleFault}
use Rattle.pay_settle.specs.declared.fault.SettleFault.TheVariants.{Shared, Shares, TooLarge, Memory}
use Rattle.pay_settle.specs.declared.homes.Homes.{Homes}
use Rattle.pay_settle.specs.declared.job.ReadLedger.{ReadLedger}
use Rattle.pay_settle.specs.declared.settlement.Settlement.{Settlement}
use Rattle.pay_settle.specs.Ledgers.{accounts_in, postings_in, IsWhyNotSettled}
use Rattle.pay_settle.specs.Refused.{IsWhyShared}
use Rattle.pay_settle.specs.Settled.{AreSumsOf, IsWhyNotOne}
use Rattle.pay_settle.specs.Standing.{stands_in, AreApart, AreHomesOf}
use Rattle.pay_settle.specs.Sums.{AddsUp}

-- ---- accounts

same_some : (p q : ℕ) → ◌≡◌ {A = Option ℕ} (Some p) (Some q) → p ≡ q
same_some p q e = cc

pub are_apart : (ledgers : List (List ℕ)) (homes : Homes) → AreHomesOf ledgers homes → AreApart ledgers
are_apart ledgers homes are account one other stands too = same_some one other (sym (are.there account one stands) ∙ are.there account other too)

-- what stands in some of the first ledgers stands in all of them
still : (ledgers : List (List ℕ)) (n place account : ℕ) → stands_in (take n ledgers) place account ≡ true → stands_in ledgers place account ≡ true
still [] zero place account stands = absurd cc
still [] (suc n) place account stands = absurd cc
still (one ∷ ledgers) zero place account stands = absurd cc
still (one ∷ ledgers) (suc n) zero account stands = stands
still (one ∷ ledgers) (suc n) (suc place) account stands = still ledgers n place account stands

still_shared : (ledgers : List (List ℕ)) (n : ℕ) (fault : SettleFault) → IsWhyShared (take n ledgers) fault → IsWhyShared ledgers fault
still_shared ledgers n (Shared account first second) both = record { in_order = both.in_order; in_first = still ledgers n first account both.in_first; in_second = still ledgers n second account both.in_second }
still_shared ledgers n (Shares account week) both = both
still_shared ledgers n TooLarge both = both
still_shared ledgers n Memory both = tt

mapped_at : (ledgers : List ReadLedger) (k : ℕ) (ledger : ReadLedger) → k < length ledgers → ledger ≡ get_or ledgers k ledger → get_or (accounts_in ledgers) k [] ≡ ledger.accounts.items
mapped_at [] k ledger below is = absurd (omega (arith, below))
mapped_at (one ∷ ledgers) zero ledger below is = ap (λ (l : ReadLedger). l.accounts.items) (sym is)
mapped_at (one ∷ ledgers) (suc k) ledger below is = mapped_at ledgers k ledger (omega (arith, below)) is

mapped_long : (ledgers : List ReadLedger) → length (accounts_in ledgers) ≡ length ledgers
mapped_long [] = refl
mapped_long (one ∷ ledgers) = omega (arith, mapped_long ledgers)

take_long : (ledgers : List (List ℕ)) (k : ℕ) → k < length ledgers → k ≡ length (take k ledgers)
take_long [] k below = absurd (omega (arith, below))
take_long (one ∷ ledgers) zero below = refl
take_long (one ∷ ledgers) (suc k) below = omega (arith, take_long ledgers k (omega (arith, below)))

module _ (ledgers : List ReadLedger) (k : ℕ) (ledger : ReadLedger) (below : k < length ledgers) (is : ledger ≡ get_or ledgers k ledger) where
  within : k < length (accounts_in ledgers)
  within = omega (arith, below, mapped_long ledgers)

  pub place_is : k ≡ length (take k (accounts_in ledgers))
  place_is = take_long (accounts_in ledgers) k within

  -- the accounts so far, and those of the next ledger
  accounts_with : take (k + 1) (accounts_in ledgers) ≡ take k (accounts_in ledgers) ++ ledger.accounts.items ∷ []
  accounts_with = take_more (accounts_in ledgers) k [] within ∙ ap (λ (l : List ℕ). take k (accounts_in ledgers) ++ l ∷ []) (mapped_at ledgers k ledger below is)

  pub next_homes : (homes : Homes) → AreHomesOf (take k (accounts_in ledgers) ++ ledger.accounts.items ∷ []) homes → AreHomesOf (take (k + 1) (accounts_in ledgers)) homes
  next_homes homes are = subst (λ (l : List (List ℕ)). AreHomesOf l homes) (sym accounts_with) are

  pub next_shared : (fault : SettleFault) → IsWhyShared (take k (accounts_in ledgers) ++ ledger.accounts.items ∷ []) fault → IsWhyShared (accounts_in ledgers) fault
  next_shared fault why = still_shared (accounts_in ledgers) (k + 1) fault (subst (λ (l : List (List ℕ)). IsWhyShared l fault) (sym accounts_with) why)

  -- ---- postings

  -- those so far, and those of the next ledger
  postings_with : postings_in (take (k + 1) ledgers) ≡ postings_in (take k ledgers) ++ ledger.postings.items
  postings_with =
      let more : take (k + 1) ledgers ≡ take k ledgers ++ ledger ∷ [] = take_more ledgers k ledger below ∙ ap (λ (l : ReadLedger). take k ledgers ++ l ∷ []) (sym is) in
      ap postings_in more ∙ flat_map-append (λ (l : ReadLedger). l.postings.items) (take k ledgers) (ledger ∷ []) ∙ ap (λ (l : List Posting). postings_in (take k ledgers) ++ l) (append-nil ledger.postings.items)

  pub next_sums : (sums : Settlement) → AreSumsOf (postings_in (take k ledgers) ++ ledger.postings.items) sums → AreSumsOf (postings_in (take (k + 1) ledgers)) sums
  next_sums sums are = subst (λ (l : List Posting). AreSumsOf l sums) (sym postings_with) are

  both_add_up : (first second : List Posting) → AllByRecursion AddsUp first → AllByRecursion AddsUp second → AllByRecursion AddsUp (first ++ second)
  both_add_up [] second one two = two
  both_add_up (p ∷ first) second one two = (one.0, both_add_up first second one.1 two)

  pub next_add_up : AllByRecursion AddsUp (postings_in (take k ledgers)) → AllByRecursion AddsUp ledger.postings.items → AllByRecursion AddsUp (postings_in (take (k + 1) ledgers))
  next_add_up one two = subst (AllByRecursion AddsUp) (sym postings_with) (both_add_up (postings_in (take k ledgers)) ledger.postings.items one two)

  -- all of them are those so far, those of the next ledger, and those of the others
  all_are : postings_in ledgers ≡ postings_in (take k ledgers) ++ (ledger.postings.items ++ postings_in (drop (k + 1) ledgers))
  all_are =
      ap postings_in (sym (take-append-drop k ledgers) ∙ ap (λ (l : List ReadLedger). take k ledgers ++ l) (next_left ledgers k ledger below is))
      ∙ flat_map-append (λ (l : ReadLedger). l.postings.items) (take k ledgers) (ledger ∷ drop (k + 1) ledgers)

  pub next_refused : (fault : SettleFault) → IsWhyNotOne (postings_in (take k ledgers)) ledger.postings.items fault → IsWhyNotOne [] (postings_in ledgers) fault
  next_refused fault why =
      let before = postings_in (take k ledgers) in
      let after = postings_in (drop (k + 1) ledgers) in
      let own : List Posting = why.0 in
      let p : Posting = why.1 in
      let later : List Posting = why.2 in (
        before ++ own,
        p,
        later ++ after,
        all_are ∙ ap (λ (l : List Posting). before ++ (l ++ after)) why.3 ∙ ap (λ (l : List Posting). before ++ l) (append_assoc own (p ∷ later) after) ∙ sym (append_assoc before own (p ∷ (later ++ after))),
        why.4,
      )

-- ---- all of it

pub shared_first : (ledgers : List ReadLedger) (fault : SettleFault) → IsWhyShared (accounts_in ledgers) fault → IsWhyNotSettled ledgers fault
shared_first ledgers (Shared account first second) both = both
shared_first ledgers (Shares account week) both = absurd both
shared_first ledgers TooLarge both = absurd both
shared_first ledgers Memory both = tt

pub not_added : (ledgers : List ReadLedger) (fault : SettleFault) → IsWhyNotOne [] (postings_in ledgers) fault → IsWhyNotSettled ledgers fault
not_added ledgers (Shared account first second) why = absurd why.4
not_added ledgers (Shares account week) why = why
not_added ledgers TooLarge why = why
not_added ledgers Memory why = tt

-- What the postings of an account and a week come to, one after another.
use Rattle.std.proofs.Common.{◌≡◌, ◌∙◌, ◌<◌, ◌+◌, ℕ, Bool, true, false, cond, if◌then◌else◌, List, [], ◌∷◌, ◌++◌, map, filter, take, length, get_or, Option, Some, None, Result, Ok, Err, IfErr, IsErrAnd, FitsSigned, w64, refl, sym, ap, subst}
use Rattle.std.specs.Prelude.{ℤ, pos, ◌+ℤ◌, fold}
use Rattle.std.specs.Option.{option_map}
use Rattle.std.proofs.lemmas.List.{take_more}
use Rattle.std.proofs.lemmas.List.Sums.{fold-append}
use Rattle.pay_rules.specs.declared.posting.Posting.{Posting}
use Rattle.pay_rows.specs.declared.row.PostingRow.{PostingRow}
use Rattle.pay_rows.specs.declared.row.ShareRow.{ShareRow}
use Rattle.pay_postings.specs.Postings.{is_of, postings_of, with_amount, net, shares_posted, later_of, last_of}
use Rattle.pay_postings.specs.PostingRows.{postings_from_rows}
use Rattle.pay_audit.specs.declared.settling.PostedSoFar.{PostedSoFar}
use Rattle.pay_audit.specs.Settled.{net_of, with_posting, so_far, ComeTooFar, posted_for}
use Rattle.pay_audit.proofs.SharesRead.{IsSharedBy, all_shared}

-- what is so of each fault, or of the one that there is
pub any_fault : {A E : Type 0} (answer : Result A E) (Says : E → Type 0) → ((fault : E) → Says fault) → IfErr answer Says
any_fault (Ok it) Says each = tt
any_fault (Err fault) Says each = each fault

pub by_fault : {A E : Type 0} (answer : Result A E) (Says : E → Type 0) (why : E) → IsErrAnd answer (λ fault. fault ≡ why) → Says why → IfErr answer Says
by_fault (Ok it) Says why is said = tt
by_fault (Err fault) Says why is said = subst Says (sym is) said

-- one posting more comes to what is too large
pub next_too_far : (postings : List Posting) (i : ℕ) (p : Posting) (before : Option PostedSoFar) → i < length postings → p ≡ get_or postings i p → before ≡ so_far (take i postings)
    → (FitsSigned w64 (net_of before +ℤ p.amount) → ⊥) → ComeTooFar postings
next_too_far postings i p before below is so beyond =
    let after : so_far (take (i + 1) postings) ≡ with_posting before p =
    ap so_far (take_more postings i p below ∙ ap (λ (q : Posting). take i postings ++ q ∷ []) (sym is)) ∙ fold-append with_posting None (take i postings) (p ∷ []) ∙ ap (λ (o : Option PostedSoFar). with_posting o p) (sym so) in
    (i + 1, λ fits. beyond (subst (λ (o : Option PostedSoFar). FitsSigned w64 (net_of o)) after fits))

-- the last posting, with its shares, and a sum as what was posted so far
abbrev pub as_posted : Option Posting → ℤ → Option PostedSoFar
as_posted last net = option_map (λ (p : Posting). record { through = p.quote.through; sums = record { net = net; shares = map pos p.quote.shares } }) last

-- where there is no last posting, nothing was added yet
abbrev IsNetOf : Option Posting → ℤ → Type 0
IsNetOf None net = net ≡ pos 0
IsNetOf (Some last) net = (net ≡ net)

its_net : (last : Option Posting) (net : ℤ) → IsNetOf last net → net_of (as_posted last net) ≡ net
its_net None net is = sym is
its_net (Some last) net is = refl

module _ (account week : ℕ) where
  -- and so of each list after them
  abbrev Adds : List Posting → Type 0
  Adds list = (last : Option Posting) (net : ℤ) → IsNetOf last net
      → fold with_posting (as_posted last net) (filter (is_of account week) list) ≡ as_posted (fold (later_of account week) last list) (fold (with_amount account week) net list)

  one_by_one : (list : List Posting) → Adds list
  one_by_one [] last net is = refl
  one_by_one (p ∷ list) last net is = by (is_of account week p) (one_by_one list)
    where
      by : (b : Bool) → Adds list
          → fold with_posting (as_posted last net) (cond b (p ∷ filter (is_of account week) list) (filter (is_of account week) list))
          ≡ as_posted (fold (later_of account week) (if b then Some p else last) list) (fold (with_amount account week) (if b then net +ℤ p.amount else net) list)
      by true others =
          ap (λ (n : ℤ). fold with_posting (Some (record { through = p.quote.through; sums = record { net = n +ℤ p.amount; shares = map pos p.quote.shares } })) (filter (is_of account week) list)) (its_net last net is) ∙ others (Some p) (net +ℤ p.amount) refl
      by false others = others last net is

  pub come_to : (list : List Posting) → so_far (postings_of account week list) ≡ as_posted (last_of account week list) (net account week list)
  come_to list = one_by_one list None (pos 0) refl

  by_shares : (last : Option Posting) (net : ℤ) (shares : List ℤ) → IsSharedBy last shares → as_posted last net ≡ option_map (λ (p : Posting). record { through = p.quote.through; sums = record { net = net; shares = shares } }) last
  by_shares None net shares is = refl
  by_shares (Some last) net shares is = ap (λ (s : List ℤ). Some (record { through = last.quote.through; sums = record { net = net; shares = s } })) (sym is)

  -- where rows say them, that is what was posted
  pub read_come_to : (rows : List (ℤ × PostingRow)) (shares : List ShareRow) (list : List Posting) → postings_from_rows account rows shares ≡ Some list → so_far (postings_of account week list) ≡ posted_for account week list
  read_come_to rows shares list read = come_to list ∙ by_shares (last_of account week list) (net account week list) (shares_posted account week list) (all_shared account week rows shares list read)

-- An account's own lines of journals, and how a fault tells a line of them.
use Rattle.std.proofs.Common.{◌≡◌, ◌⊎◌, inl, inr, ◌∙◌, ◌+◌, ℕ, List, [], ◌∷◌, ◌++◌, take, drop, Some, refl, sym, ap, ap₂, subst, arith, append-nil}
use Rattle.std.proofs.lemmas.Grind.{flat_map-append}
use Rattle.std.proofs.lemmas.List.{drop_more, length-take-le, map-append, take-append-drop, take_more}
use Rattle.std.proofs.lemmas.Option.{get_or_from_slice_get, slice_get_within}
use Rattle.std.specs.Prelude.{map as each, slice_get}
use Rattle.std.specs.List.{AllByRecursion}
use Rattle.pay_account_lines.specs.Words.{own_lines, HasAccount, IsOther}
use Rattle.pay_session.specs.Words.{line_requests}
use Rattle.pay_wire.specs.declared.refusal.Refusal.{Refusal}
use Rattle.pay_jobs.specs.Faults.{IsWantOfMemory}
use Rattle.pay_jobs.specs.Replays.{all_requests}
use Rattle.pay_jobs.specs.declared.fault.Fault.{Fault}
use Rattle.pay_jobs.specs.declared.fault.Fault.TheVariants.{Usage, File, BadZone, CannotListen, Input, Output, Kept, JournalLine, JournalLineOf, Journal, LedgerAlone, Lacks, PostedOtherwise, Refused}
use Rattle.pay_explain_job.specs.Accounts.{Given}
use Rattle.pay_explain_job.specs.Explain.{IsUnexplained}
use Rattle.pay_explain_job.specs.OwnLines.{AreOwned, IsOtherAmong, in_journals}

-- ---- faults

-- only one that tells a line is told otherwise
as_it_is : (account : ℕ) (journals : List (List ℕ)) (fault : Fault) → (in_journals account journals fault ≡ fault) ⊎ ((journal : ℕ) × (line : ℕ) × (why : Refusal) × (fault ≡ JournalLineOf journal line why))
as_it_is account journals (JournalLineOf journal line why) = inr (journal, line, why, refl)
as_it_is account journals Usage = inl refl
as_it_is account journals (File why) = inl refl
as_it_is account journals BadZone = inl refl
as_it_is account journals CannotListen = inl refl
as_it_is account journals Input = inl refl
as_it_is account journals Output = inl refl
as_it_is account journals (Kept why) = inl refl
as_it_is account journals (JournalLine line why) = inl refl
as_it_is account journals Journal = inl refl
as_it_is account journals LedgerAlone = inl refl
as_it_is account journals (Lacks what) = inl refl
as_it_is account journals (PostedOtherwise of week through) = inl refl
as_it_is account journals (Refused number name) = inl refl

pub told_output : (account : ℕ) (journals : List (List ℕ)) (own : Fault) → in_journals account journals own ≡ Output → own ≡ Output
told_output account journals own is = elim (as_it_is account journals own) [
  | inl same ↦ sym same ∙ is
  | inr (journal, line, why, told) ↦ absurd (cc (ap (in_journals account journals) told, is))
]

told_memory : (account : ℕ) (journals : List (List ℕ)) (fault : Fault) → IsWantOfMemory fault → fault ≡ in_journals account journals fault
told_memory account journals fault wants = elim (as_it_is account journals fault) [
  | inl same ↦ sym same
  | inr (journal, line, why, told) ↦ absurd (subst IsWantOfMemory told wants)
]

-- where memory is wanting, nothing is told
pub unexplained : (given : Given) (account : ℕ) (fault : Fault) → IsWantOfMemory fault → IsUnexplained given account fault
unexplained given account fault wants = inr (fault, inl (inl (inl wants)), told_memory account given.journals fault wants)

-- ---- one journal more

all_both : {X : Type 0} (P : X → Type 0) (xs ys : List X) → AllByRecursion P xs → AllByRecursion P ys → AllByRecursion P (xs ++ ys)
all_both P [] ys front back = back
all_both P (x ∷ xs) ys front back = (front.0, all_both P xs ys front.1 back)

module _ (journals : List (List ℕ)) (place : ℕ) (text : List ℕ) (at : slice_get journals place ≡ Some text) where
  taken : take (place + 1) journals ≡ take place journals ++ text ∷ []
  taken = take_more journals place [] (slice_get_within journals place text at) ∙ ap (λ (t : List ℕ). take place journals ++ t ∷ []) (get_or_from_slice_get journals place text [] at)

  pub own_more : (account : ℕ) (own longer : List (List ℕ)) (its : List ℕ) → longer ≡ own ++ its ∷ [] → its ≡ own_lines account text → own ≡ each (own_lines account) (take place journals)
      → longer ≡ each (own_lines account) (take (place + 1) journals)
  own_more account own longer its added is so_far =
      added ∙ ap₂ (λ (l : List (List ℕ)) (t : List ℕ). l ++ t ∷ []) so_far is ∙ sym (map-append (own_lines account) (take place journals) (text ∷ [])) ∙ sym (ap (each (own_lines account)) taken)

  pub owned_more : AllByRecursion HasAccount (line_requests text) → AreOwned (take place journals) → AreOwned (take (place + 1) journals)
  owned_more its so_far =
      let requests : all_requests (take place journals ++ text ∷ []) ≡ all_requests (take place journals) ++ line_requests text =
      flat_map-append line_requests (take place journals) (text ∷ []) ∙ ap (λ l. all_requests (take place journals) ++ l) (append-nil (line_requests text)) in
      subst AreOwned (sym taken) (subst (AllByRecursion HasAccount) (sym requests) (all_both HasAccount (all_requests (take place journals)) (line_requests text) so_far its))

  -- a line of it is neither
  pub other_among : (line : ℕ) → AreOwned (take place journals) → IsOther text line → IsOtherAmong journals place line
  other_among line so_far other =
      let within = slice_get_within journals place text at in
      record {
        front = take place journals;
        text = text;
        others = drop (place + 1) journals;
        parts = sym (take-append-drop place journals) ∙ ap (λ l. take place journals ++ l) (drop_more journals place [] within ∙ ap (λ (t : List ℕ). t ∷ drop (place + 1) journals) (get_or_from_slice_get journals place text [] at));
        numbered = sym (length-take-le place journals (omega (arith, within)));
        owned = so_far;
        other = other;
      }

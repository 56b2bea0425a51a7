-- No two clerks of a file have one number.
use Rattle.std.proofs.Common.{◌≡◌, ◌∙◌, ◌≢◌, ℕ, ◌+◌, Bool, true, false, cond, List, [], ◌∷◌, ◌++◌, length, Option, Some, None, Result, Ok, Err, refl, sym, subst, arith, true≢false}
use Rattle.std.specs.Prelude.{◌==◌, AllPairs, nat_le}
use Rattle.std.proofs.lemmas.Bool.{eq-eqb}
use Rattle.std.proofs.lemmas.List.Folds.{list_any_at}
use Rattle.std.proofs.lemmas.List.Quantifiers.{all_pairs_push}
use Rattle.pay_clerks.specs.Clerks.{ClerkOf}
use Rattle.pay_clerks.specs.Files.{has_staff, lines_of, with_clerk, with_line, with_lines}
use Rattle.pay_clerks.specs.Laws.{NumbersDiffer}
use Rattle.pay_clerks.specs.Lines.{clerk_of_line, is_skipped}
use Rattle.pay_clerks.specs.declared.fault.ClerksFault.{ClerksFault}
use Rattle.pay_clerks.specs.declared.fault.ClerksFault.TheVariants.{Many, Repeated}
use Rattle.pay_clerks.specs.declared.limits.TheConstants.{MOST_CLERKS}

abbrev Differ : List ClerkOf → Type 0
Differ clerks = AllPairs (λ (one other : ClerkOf). one.staff ≢ other.staff) clerks

same : (a b : List ClerkOf) → ◌≡◌ {A = Result (List ClerkOf) ClerksFault} (Ok a) (Ok b) → a ≡ b
same a b e = cc

one_more : (number : ℕ) (clerks more : List ClerkOf) (clerk : ClerkOf) → Differ clerks → with_clerk number clerks (Some clerk) ≡ Ok more → Differ more
one_more number clerks more clerk differ e = by (has_staff clerk.staff clerks) (nat_le MOST_CLERKS (length clerks)) refl e
  where
    by : (has full : Bool) → has_staff clerk.staff clerks ≡ has
        → ◌≡◌ {A = Result (List ClerkOf) ClerksFault} (cond has (Err (Repeated number)) (cond full (Err Many) (Ok (clerks ++ clerk ∷ [])))) (Ok more) → Differ more
    by true full none e = absurd cc
    by false true none e = absurd cc
    by false false none e =
        subst Differ (same (clerks ++ clerk ∷ []) more e)
        (all_pairs_push (λ (one other : ClerkOf). one.staff ≢ other.staff) clerks clerk differ
        (λ k d within equal. true≢false (sym (list_any_at (λ (one : ClerkOf). one.staff == clerk.staff) clerks k d within (eq-eqb _ _ equal)) ∙ none)))

one_line : (number : ℕ) (clerks more : List ClerkOf) (line : List ℕ) → Differ clerks → with_line number clerks line ≡ Ok more → Differ more
one_line number clerks more line differ e = by (is_skipped line) (clerk_of_line line) e
  where
    by : (skipped : Bool) (clerk : Option ClerkOf) → cond skipped (Ok clerks) (with_clerk number clerks clerk) ≡ Ok more → Differ more
    by true clerk e = subst Differ (same clerks more e) differ
    by false None e = absurd cc
    by false (Some clerk) e = one_more number clerks more clerk differ e

all_lines : (number : ℕ) (lines : List (List ℕ)) (clerks all : List ClerkOf) → Differ clerks → with_lines number (Ok clerks) lines ≡ Ok all → Differ all
all_lines number [] clerks all differ e = subst Differ (same clerks all e) differ
all_lines number (line ∷ lines) clerks all differ e = by (all_lines (number + 1) lines) (with_line number clerks line) refl e
  where
    by : ((clerks all : List ClerkOf) → Differ clerks → with_lines (number + 1) (Ok clerks) lines ≡ Ok all → Differ all)
        → (more : Result (List ClerkOf) ClerksFault) → with_line number clerks line ≡ more → with_lines (number + 1) more lines ≡ Ok all → Differ all
    by rest (Ok more) is e = rest more all (one_line number clerks more line differ is) e
    by rest (Err fault) is e = absurd cc

pub numbers_differ : NumbersDiffer
numbers_differ text clerks e = all_lines 1 (lines_of text) [] clerks (λ i j d before within. absurd (omega arith)) e

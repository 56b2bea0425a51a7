-- What the rows of postings come to.
use Rattle.std.proofs.Common.{◌≡◌, ℕ, ℤ, pos, Bool, true, false, List, [], ◌∷◌, map, fold, if◌then◌else◌, refl, arith}
use Rattle.std.specs.Prelude.{◌+ℤ◌}
use Rattle.std.proofs.lemmas.List.Sums.{sum_by-cons}
use Rattle.pay_rules.specs.declared.posting.Posting.{Posting}
use Rattle.pay_postings.specs.Words.{is_of, postings_of}
use Rattle.pay_long_statement.specs.declared.row.Row.{Row}
use Rattle.pay_long_statement.specs.Laws.{PostingsAddNothing, PostingsAddUp}
use Rattle.pay_long_statement.specs.Rows.{posted_row}
use Rattle.pay_long_statement.specs.Sums.{added, due_of, off_of, posted_of, taken_off}
use Rattle.pay_long_statement.specs.Weeks.{posted_rows}

pub postings_add_nothing : PostingsAddNothing
postings_add_nothing list = (none_added list, none_off list)
  where
    none_added : (list : List Posting) → added (posted_rows list) ≡ 0
    none_added [] = refl
    none_added (one ∷ more) = omega (arith, sum_by-cons (λ (row : Row). due_of row.amount) (posted_row one) (posted_rows more), none_added more)

    none_off : (list : List Posting) → taken_off (posted_rows list) ≡ 0
    none_off [] = refl
    none_off (one ∷ more) = omega (arith, sum_by-cons (λ (row : Row). off_of row.amount) (posted_row one) (posted_rows more), none_off more)

module _ (account week : ℕ) where
  abbrev amounts_of : List Posting → List ℤ
  amounts_of list = map (λ (row : Row). posted_of row.amount) (posted_rows list)

  abbrev with_one : ℤ → Posting → ℤ
  with_one so_far posting = if is_of account week posting then so_far +ℤ posting.amount else so_far

  -- with so much before them
  from_so_far : (so_far : ℤ) (list : List Posting) → fold ◌+ℤ◌ so_far (amounts_of (postings_of account week list)) ≡ fold with_one so_far list
  from_so_far so_far [] = refl
  from_so_far so_far (one ∷ more) = go (is_of account week one) (λ now. from_so_far now more)
    where
      go : (its : Bool) → ((now : ℤ) → fold ◌+ℤ◌ now (amounts_of (postings_of account week more)) ≡ fold with_one now more)
          → fold ◌+ℤ◌ so_far (amounts_of (if its then one ∷ postings_of account week more else postings_of account week more))
          ≡ fold with_one (if its then so_far +ℤ one.amount else so_far) more
      go true later = later (so_far +ℤ one.amount)
      go false later = later so_far

pub postings_add_up : PostingsAddUp
postings_add_up account week all = from_so_far account week (pos 0) all

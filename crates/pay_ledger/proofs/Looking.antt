-- What is told of an account's own postings is told of all.
use Rattle.std.proofs.Common.{◌≡◌, ℕ, ℤ, pos, Bool, true, false, cond, ◌&&◌, ◌==◌, List, [], ◌∷◌, refl, sym, ap, ◌∙◌}
use Rattle.std.specs.Prelude.{fold, ◌+ℤ◌}
use Rattle.pay_rules.specs.declared.posting.Posting.{Posting}
use Rattle.pay_postings.specs.Postings.{is_of, with_amount, net, postings_of}
use Rattle.pay_postings.specs.AccountRows.{is_of_account, of_account}

other : (account week : ℕ) (p : Posting) → is_of_account account p ≡ false → is_of account week p ≡ false
other account week p e = ap (λ (b : Bool). b && p.quote.week == week) e

net_from : (account week : ℕ) (n : ℤ) (list : List Posting) → fold (with_amount account week) n (of_account account list) ≡ fold (with_amount account week) n list
net_from account week n [] = refl
net_from account week n (p ∷ list) = go (is_of_account account p) refl (λ m. net_from account week m list)
  where
    go : (b : Bool) → is_of_account account p ≡ b → ((m : ℤ) → fold (with_amount account week) m (of_account account list) ≡ fold (with_amount account week) m list)
        → fold (with_amount account week) n (cond b (p ∷ of_account account list) (of_account account list)) ≡ fold (with_amount account week) (with_amount account week n p) list
    go true e rest = rest (with_amount account week n p)
    go false e rest = rest n ∙ ap (λ m. fold (with_amount account week) m list) (sym (ap (λ b. cond b (n +ℤ p.amount) n) (other account week p e)))

pub net_of_own : (account week : ℕ) (list : List Posting) → net account week (of_account account list) ≡ net account week list
net_of_own account week list = net_from account week (pos 0) list

pub week_of_own : (account week : ℕ) (list : List Posting) → postings_of account week (of_account account list) ≡ postings_of account week list
week_of_own account week [] = refl
week_of_own account week (p ∷ list) = go (is_of_account account p) refl (week_of_own account week list)
  where
    go : (b : Bool) → is_of_account account p ≡ b → postings_of account week (of_account account list) ≡ postings_of account week list
        → postings_of account week (cond b (p ∷ of_account account list) (of_account account list)) ≡ cond (is_of account week p) (p ∷ postings_of account week list) (postings_of account week list)
    go true e rest = ap (λ l. cond (is_of account week p) (p ∷ l) l) rest
    go false e rest = rest ∙ ap (λ b. cond b (p ∷ postings_of account week list) (postings_of account week list)) (sym (other account week p e))

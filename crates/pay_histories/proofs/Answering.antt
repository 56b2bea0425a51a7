-- Answers and refusals, one after another.
use Rattle.std.proofs.Common.{◌≡◌, Bool, true, false, if◌then◌else◌, List, [], ◌∷◌, ◌++◌, Option, Some, None, Result, Ok, Err, subst}
use Rattle.std.specs.Prelude.{⊤}
use Rattle.pay_rules.specs.declared.posting.Posting.{Posting}
use Rattle.pay_rules.specs.QuoteParts.{QuoteParts}
use Rattle.pay_rules.specs.SetsParts.{SetsParts}
use Rattle.pay_postings.specs.Archive.{archived_sets}
use Rattle.pay_postings.specs.Faults.{◌>>=◌}
use Rattle.pay_postings.specs.Ledger.{LedgerParts, posted}
use Rattle.pay_postings.specs.Postings.{last_of, posting_of, is_stale, is_again, is_kept, posted_anew, posted_again, posted_after, post, post_each}
use Rattle.pay_rules.specs.declared.post_fault.PostFault.{PostFault}
use Rattle.pay_rules.specs.declared.post_fault.PostFault.TheVariants as fault

-- what is true of an answer, and what of a refusal
abbrev pub Comes : {A : Type 0} → (A → Type 0) → (PostFault → Type 0) → Result A PostFault → Type 0
Comes P F (Ok a) = P a
Comes P F (Err why) = F why

pub comes_then : {A B : Type 0} (P : A → Type 0) (Q : B → Type 0) (F : PostFault → Type 0) (r : Result A PostFault) (f : A → Result B PostFault) → Comes P F r → ((a : A) → P a → Comes Q F (f a)) → Comes Q F (r >>= f)
comes_then P Q F (Ok a) f here next = next a here
comes_then P Q F (Err why) f here next = here

pub comes_weaker : {A : Type 0} (P Q : A → Type 0) (F : PostFault → Type 0) (r : Result A PostFault) → ((a : A) → P a → Q a) → Comes P F r → Comes Q F r
comes_weaker P Q F (Ok a) weaker comes = weaker a comes
comes_weaker P Q F (Err why) weaker comes = comes

pub of_answer : {A : Type 0} (P : A → Type 0) (F : PostFault → Type 0) (r : Result A PostFault) (a : A) → r ≡ Ok a → Comes P F r → P a
of_answer P F (Ok b) a e comes = let same : b ≡ a = cc in subst P same comes
of_answer P F (Err why) a e comes = absurd (cc)

-- what is true of the postings of an answer, or of the ledger that comes with it
abbrev pub Then : {A B : Type 0} → (B → Type 0) → A × B → Type 0
Then P answer = P answer.1

-- the first of several quotes, and then the others
pub first_then : (P : Posting × List Posting → Type 0) (Q : List Posting → Type 0) (F : PostFault → Type 0) (list : List Posting) (quote : QuoteParts) (quotes : List QuoteParts) → Comes P F (post list quote)
    → ((first : Posting × List Posting) → P first → Comes {A = List Posting × List Posting} (Then Q) F (post_each first.1 quotes)) → Comes {A = List Posting × List Posting} (Then Q) F (post_each list (quote ∷ quotes))
first_then P Q F list quote quotes one others =
    comes_then P (Then Q) F (post list quote) (λ first. post_each first.1 quotes >>= (λ later. Ok (first.0 ∷ later.0, later.1))) one
    (λ first is. comes_then (Then Q) (Then Q) F (post_each first.1 quotes) (λ later. Ok (first.0 ∷ later.0, later.1)) (others first is) (λ later last. last))

-- any refusal at all
abbrev pub Any : PostFault → Type 0
Any why = ⊤

pub any_refusal : {A : Type 0} (P : A → Type 0) (F : PostFault → Type 0) (r : Result A PostFault) → Comes P F r → Comes P Any r
any_refusal P F (Ok a) comes = comes
any_refusal P F (Err why) comes = tt

-- whatever the answer
abbrev pub Whatever : {A : Type 0} → A → Type 0
Whatever a = ⊤

pub whatever_comes : {A : Type 0} (r : Result A PostFault) → Comes Whatever Any r
whatever_comes (Ok a) = tt
whatever_comes (Err why) = tt

-- what is true of the postings is so of the ledger, whatever is archived
pub on_ledger : (Q : List Posting → Type 0) (ledger : LedgerParts) (quotes : List QuoteParts) (sets : List SetsParts) → Comes {A = List Posting × List Posting} (Then Q) Any (post_each ledger.postings quotes)
    → Comes {A = List Posting × LedgerParts} (λ answer. Q answer.1.postings) Any (posted ledger quotes sets)
on_ledger Q ledger quotes sets each =
    comes_then (Then Q) (λ answer. Q answer.1.postings) Any (post_each ledger.postings quotes) (λ given. archived_sets (ledger.taps, ledger.fixes) sets >>= (λ archive. Ok (given.0, record { postings = given.1; taps = archive.0; fixes = archive.1 }))) each
    (λ given is.
    comes_then Whatever (λ answer. Q answer.1.postings) Any (archived_sets (ledger.taps, ledger.fixes) sets) (λ archive. Ok (given.0, record { postings = given.1; taps = archive.0; fixes = archive.1 }))
    (whatever_comes (archived_sets (ledger.taps, ledger.fixes) sets)) (λ archive any. is))

-- a quote that is posted leaves all postings as they are, or adds its own
module _ (Q : Posting × List Posting → Type 0) (list : List Posting) (quote : QuoteParts) (kept : (given : Posting) → Q (given, list)) (anew : Q (posting_of list quote, list ++ posting_of list quote ∷ [])) where
  again : (last : Posting) (is : Bool) → Comes Q Any (if is then Ok (last, list) else Err fault.QuoteDiffers)
  again last true = kept last
  again last false = tt

  beside : (last : Posting) (stale same : Bool) → Comes Q Any (if stale then Err (fault.StaleQuote last.quote.account last.quote.version last.quote.through) else if same then posted_again list quote last else posted_anew list quote)
  beside last true same = tt
  beside last false true = again last (is_kept quote last.quote)
  beside last false false = anew

  after_last : (last : Option Posting) → Comes Q Any (posted_after list quote last)
  after_last None = anew
  after_last (Some last) = beside last (is_stale quote last.quote) (is_again quote last.quote)

  pub once_posted : Comes Q Any (post list quote)
  once_posted = after_last (last_of quote.account quote.week list)

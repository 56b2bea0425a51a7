-- Quotes, and sets, one after another.
use Rattle.std.proofs.Common.{◌≡◌, ℕ, zero, suc, ◌+◌, ◌<◌, List, [], ◌∷◌, ◌++◌, length, drop, get_or, Ok, Err, sym, ap, ◌∙◌, subst, arith}
use Rattle.std.specs.FinMap.{contains_key}
use Rattle.std.specs.List.{AllByRecursion}
use Rattle.std.proofs.Math.Seq.{drop-cons}
use Rattle.std.proofs.lemmas.List.{append-nil}
use Rattle.pay_rules.specs.declared.posting.Posting.{Posting}
use Rattle.pay_rules.specs.QuoteParts.{QuoteParts}
use Rattle.pay_rules.specs.SetsParts.{SetsParts}
use Rattle.pay_rules.specs.declared.post_fault.PostFault.{PostFault}
use Rattle.pay_postings.specs.Ledger.{LedgerParts, posted}
use Rattle.pay_postings.specs.Archived.{AccountsParts}
use Rattle.pay_postings.specs.Batches.{IsThere, Agrees, BatchLists, with_batch, posted_after, StillAgrees}
use Rattle.pay_postings.proofs.Archiving.{each_so}

pub next_left : {X : Type 0} (list : List X) (n : ℕ) (x : X) → n < length list → x ≡ get_or list n x → drop n list ≡ x ∷ drop (n + 1) list
next_left list n x below is =
    let more : suc n ≡ n + 1 = omega arith in
    drop-cons list n x below ∙ (λ i. sym is i ∷ drop (more i) list)

all_at : {X : Type 0} (P : X → Type 0) (list : List X) (n : ℕ) (x : X) → AllByRecursion P list → n < length list → x ≡ get_or list n x → P x
all_at P [] n x all below is = absurd (omega (arith, below))
all_at P (y ∷ list) zero x all below is = subst P (sym is) all.0
all_at P (y ∷ list) (suc n) x all below is = all_at P list n x all.1 (omega (arith, below)) is

-- the account of each is still there
pub one_there : {X : Type 0} (account : X → ℕ) (first now : AccountsParts) (list : List X) (n : ℕ) (x : X) → AllByRecursion (λ y. IsThere first (account y)) list → n < length list → x ≡ get_or list n x
    → ((a : ℕ) → contains_key now a ≡ contains_key first a) → IsThere now (account x)
one_there account first now list n x all below is same = same (account x) ∙ all_at (λ y. IsThere first (account y)) list n x all below is

kept_on : (ledger : LedgerParts) (first now next : AccountsParts) (before after : BatchLists) → StillAgrees ledger first now before → StillAgrees ledger now next after → StillAgrees ledger first next after
kept_on ledger first now next before after kept more = record { agrees = more.agrees; same = λ a. more.same a ∙ kept.same a }

abbrev QuotesAfter : LedgerParts → AccountsParts → AccountsParts → BatchLists → BatchLists → List QuoteParts → List QuoteParts → Type 0
QuotesAfter ledger first now start batch quotes left =
    StillAgrees ledger first now batch × ((later : List QuoteParts) (sets : List SetsParts) → posted_after ledger batch (left ++ later) sets ≡ posted_after ledger start (quotes ++ later) sets)

pub quotes_on : (ledger : LedgerParts) (first now next : AccountsParts) (start before after : BatchLists) (quotes left more : List QuoteParts) (quote : QuoteParts) → QuotesAfter ledger first now start before quotes left → left ≡ quote ∷ more
    → QuotesAfter ledger now next before after (quote ∷ []) [] → QuotesAfter ledger first next start after quotes more
quotes_on ledger first now next start before after quotes left more quote so_far e step = (
  kept_on ledger first now next before after so_far.0 step.0,
  λ later sets. step.1 (more ++ later) sets ∙ ap (λ (l : List QuoteParts). posted_after ledger before (l ++ later) sets) (sym e) ∙ so_far.1 later sets,
)

pub quotes_refused : (ledger : LedgerParts) (first now : AccountsParts) (start before : BatchLists) (quotes left more : List QuoteParts) (quote : QuoteParts) (why : PostFault) → QuotesAfter ledger first now start before quotes left → left ≡ quote ∷ more
    → ((later : List QuoteParts) (sets : List SetsParts) → posted_after ledger before (quote ∷ later) sets ≡ Err why) → (later : List QuoteParts) (sets : List SetsParts) → posted_after ledger start (quotes ++ later) sets ≡ Err why
quotes_refused ledger first now start before quotes left more quote why so_far e refused later sets =
    sym (so_far.1 later sets) ∙ ap (λ (l : List QuoteParts). posted_after ledger before (l ++ later) sets) e ∙ refused (more ++ later) sets

abbrev SetsAfter : LedgerParts → AccountsParts → AccountsParts → BatchLists → BatchLists → List SetsParts → List SetsParts → Type 0
SetsAfter ledger first now start batch sets left =
    StillAgrees ledger first now batch × ((later : List SetsParts) → posted_after ledger batch [] (left ++ later) ≡ posted_after ledger start [] (sets ++ later))

pub sets_on : (ledger : LedgerParts) (first now next : AccountsParts) (start before after : BatchLists) (sets left more : List SetsParts) (set : SetsParts) → SetsAfter ledger first now start before sets left → left ≡ set ∷ more
    → SetsAfter ledger now next before after (set ∷ []) [] → SetsAfter ledger first next start after sets more
sets_on ledger first now next start before after sets left more set so_far e step = (
  kept_on ledger first now next before after so_far.0 step.0,
  λ later. step.1 (more ++ later) ∙ ap (λ (l : List SetsParts). posted_after ledger before [] (l ++ later)) (sym e) ∙ so_far.1 later,
)

pub sets_refused : (ledger : LedgerParts) (first now : AccountsParts) (start before : BatchLists) (sets left more : List SetsParts) (set : SetsParts) (why : PostFault) → SetsAfter ledger first now start before sets left → left ≡ set ∷ more
    → ((later : List SetsParts) → posted_after ledger before [] (set ∷ later) ≡ Err why) → (later : List SetsParts) → posted_after ledger start [] (sets ++ later) ≡ Err why
sets_refused ledger first now start before sets left more set why so_far e refused later =
    sym (so_far.1 later) ∙ ap (λ (l : List SetsParts). posted_after ledger before [] (l ++ later)) e ∙ refused (more ++ later)

-- ---- from nothing to all

abbrev nothing : BatchLists
nothing = record { given = []; postings = []; taps = []; fixes = [] }

with_nothing : (ledger : LedgerParts) → with_batch ledger nothing ≡ ledger
with_nothing ledger =
    let postings = append-nil ledger.postings in
    let taps = append-nil ledger.taps in
    let fixes = append-nil ledger.fixes in
    λ i. record { postings = postings i; taps = taps i; fixes = fixes i }

-- after nothing, they are posted as they are
after_nothing : (ledger : LedgerParts) (quotes : List QuoteParts) (sets : List SetsParts) → posted_after ledger nothing quotes sets ≡ posted ledger quotes sets
after_nothing ledger quotes sets = ap (λ (l : LedgerParts). posted l quotes sets) (with_nothing ledger)

-- nothing after a batch gives what the batch has
nothing_after : (ledger : LedgerParts) (batch : BatchLists) → posted_after ledger batch [] [] ≡ Ok (batch.given, with_batch ledger batch)
nothing_after ledger batch = ap (λ (l : List Posting). Ok (l, with_batch ledger batch)) (append-nil batch.given)

-- ---- a whole call

pub agrees_at_start : (ledger : LedgerParts) (accounts : AccountsParts) (start : BatchLists) → start ≡ nothing → Agrees accounts ledger → Agrees accounts (with_batch ledger start)
agrees_at_start ledger accounts start e agrees =
    subst (λ (b : BatchLists). Agrees accounts (with_batch ledger b)) (sym e) (subst (Agrees accounts) (sym (with_nothing ledger)) agrees)

pub still_covers : (first now : AccountsParts) (sets : List SetsParts) → AllByRecursion (λ (s : SetsParts). IsThere first s.account) sets → ((a : ℕ) → contains_key now a ≡ contains_key first a) → AllByRecursion (λ (s : SetsParts). IsThere now s.account) sets
still_covers first now sets all same = each_so _ _ (λ s there. same s.account ∙ there) sets all

pub quotes_first : (ledger : LedgerParts) (start : BatchLists) (quotes : List QuoteParts) (sets : List SetsParts) → start ≡ nothing → posted ledger quotes sets ≡ posted_after ledger start (quotes ++ []) sets
quotes_first ledger start quotes sets e =
    let all = append-nil quotes in
    sym (after_nothing ledger quotes sets) ∙ (λ i. posted_after ledger (sym e i) (sym all i) sets)

pub then_sets : (ledger : LedgerParts) (first mid : AccountsParts) (start middle : BatchLists) (quotes : List QuoteParts) (sets : List SetsParts) → start ≡ nothing → QuotesAfter ledger first mid start middle quotes []
    → posted ledger quotes sets ≡ posted_after ledger middle [] (sets ++ [])
then_sets ledger first mid start middle quotes sets e posted =
    quotes_first ledger start quotes sets e ∙ sym (posted.1 [] sets) ∙ ap (posted_after ledger middle []) (sym (append-nil sets))

pub all_posted : (ledger : LedgerParts) (first mid last : AccountsParts) (start middle end : BatchLists) (quotes : List QuoteParts) (sets : List SetsParts) → start ≡ nothing → QuotesAfter ledger first mid start middle quotes []
    → SetsAfter ledger mid last middle end sets [] → posted ledger quotes sets ≡ Ok (end.given, with_batch ledger end)
all_posted ledger first mid last start middle end quotes sets e posted archived =
    then_sets ledger first mid start middle quotes sets e posted ∙ sym (archived.1 []) ∙ nothing_after ledger end

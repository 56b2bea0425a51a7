-- What any number of shards bring is, in order, what one machine over all accounts gives.
use Rattle.std.proofs.Common.{◌≡◌, ℕ, suc, ◌≤◌, ◌%◌, Bool, true, false, cond, ◌&&◌, List, [], ◌∷◌, map, filter, length, Option, Some, None, refl, sym, ap, ◌∙◌, arith, eq-eqb, ne_eqb}
use Rattle.std.specs.FinMap.{FinMap, get, entries, entries_sorted}
use Rattle.std.specs.Ordering.{nat_cmp}
use Rattle.std.proofs.lemmas.Nat.{mod_below}
use Rattle.pay_tables.specs.Words.{FareEditions}
use Rattle.pay_rules.specs.Accepted.{Accepted}
use Rattle.pay_rules.specs.QuoteParts.{QuoteParts}
use Rattle.pay_rules.specs.Quotes.{quote}
use Rattle.pay_rules.specs.SetsParts.{SetsParts, sets}
use Rattle.pay_postings.specs.Words.{posted}
use Rattle.pay_rules.specs.State.{State}
use Rattle.pay_shard.specs.Words.{is_of, is_quoted, BatchParts, batch, IsWhole as IsStateOfAll}
use Rattle.pay_shard.specs.declared.reply.Answer.{Answer}
use Rattle.pay_till.specs.Words.{gives_quotes, brings_quotes, Taken}
use Rattle.pay_close.specs.Batches.{in_order_by, in_order, both, batch_in, batch_of_answer, brought, gathered, AreBrought, IsWhole}
use Rattle.pay_close.specs.Close.{Books, batch_of_all, close}
use Rattle.pay_close.specs.Closes.{posted_of}
use Rattle.pay_close.specs.Laws.{Brings, AreOfShards}
use Rattle.pay_close.proofs.Sorting.{rising_by}
use Rattle.pay_close.proofs.Ascending.{rises}
use Rattle.pay_close.proofs.OneAccount.{filtered, mapped, ties_with, entry_at, its_entry}
use Rattle.pay_close.proofs.OneByOne.{one_by_one, of_the_one}

-- of one shard each account is its own
by_one : (n : ℕ) → n % 1 ≡ 0
by_one n = omega (arith, mod_below n 1 (omega arith))

-- ---- quotes or sets, each made of an entry that is chosen, and with its account

module _ {X Y : Type 0} (account : Y → ℕ) (p : ℕ × X → Bool) (f : ℕ × X → Y) (same : (e : ℕ × X) → account (f e) ≡ e.0) where
  -- whether an entry is a shard's, and is chosen
  abbrev is_chosen : ℕ → ℕ → ℕ × X → Bool
  is_chosen of k e = is_of k of e.0 && p e

  -- what a shard makes of its entries
  abbrev pub made : ℕ → ℕ → FinMap nat_cmp X → List Y
  made of k m = map f (filter (is_chosen of k) (entries m))

  -- and of what it has of one account
  abbrev made_of : ℕ → ℕ → ℕ → Option X → List Y
  made_of of k n o = map f (filter (is_chosen of k) (entry_at n o))

  its_made : (of k n : ℕ) (m : FinMap nat_cmp X) → filter (λ (y : Y). ties_with n (account y)) (made of k m) ≡ made_of of k n (get m n)
  its_made of k n m =
      mapped f (λ (y : Y). ties_with n (account y)) (λ (e : ℕ × X). ties_with n e.0) (λ e. ap (ties_with n) (same e)) (filter (is_chosen of k) (entries m))
      ∙ ap (map f) (filtered (λ (e : ℕ × X). ties_with n e.0) (is_chosen of k) (entries m))
      ∙ ap (λ es. map f (filter (is_chosen of k) es)) (its_entry n m)

  none_of_others : (of k n : ℕ) (o : Option X) → is_of k of n ≡ false → made_of of k n o ≡ []
  none_of_others of k n None off = refl
  none_of_others of k n (Some x) off = ap (λ b. map f (cond (b && p (n, x)) ((n, x) ∷ []) [])) off

  same_of_own : (of k one j n : ℕ) (o : Option X) → is_of k of n ≡ is_of j one n → made_of of k n o ≡ made_of one j n o
  same_of_own of k one j n None e = refl
  same_of_own of k one j n (Some x) e = ap (λ b. map f (cond (b && p (n, x)) ((n, x) ∷ []) [])) e

  module _ (of : ℕ) (some : 1 ≤ of) (each : ℕ → FinMap nat_cmp X) (whole : FinMap nat_cmp X) (is : (n : ℕ) → get whole n ≡ get (each (n % of)) n) where
    -- of each account all together have made what is made of the whole
    same_made : (n : ℕ) → filter (λ (y : Y). ties_with n (account y)) (made 1 0 whole) ≡ filter (λ (y : Y). ties_with n (account y)) (one_by_one (λ k. made of k (each k)) 0 of)
    same_made n =
        its_made 1 0 n whole
        ∙ ap (made_of 1 0 n) (is n)
        ∙ same_of_own 1 0 of (n % of) n (get (each (n % of)) n) (eq-eqb (n % 1) 0 (by_one n) ∙ sym (eq-eqb (n % of) (n % of) refl))
        ∙ sym (its_made of (n % of) n (each (n % of)))
        ∙ sym (of_the_one (λ k. made of k (each k)) (λ (y : Y). ties_with n (account y)) (n % of)
        (λ k off. its_made of k n (each k) ∙ none_of_others of k n (get (each k) n) (ne_eqb (n % of) k (λ e. off (sym e))))
        0 of (omega arith) (omega (arith, mod_below n of some)))

    pub all_made : in_order_by account (one_by_one (λ k. made of k (each k)) 0 of) ≡ made 1 0 whole
    all_made = sym (rising_by account (one_by_one (λ k. made of k (each k)) 0 of) (made 1 0 whole) (rises account (is_chosen 1 0) f same (entries whole) (entries_sorted whole)) (λ z. same_made (account z)))

-- ---- what is brought

batch_brought : (b : BatchParts) (o : Option Answer) → Brings b o → batch_of_answer o ≡ b
batch_brought b None brings = absurd brings
batch_brought b (Some answer) brings = ap batch_in brings

quotes_brought : (b : BatchParts) (o : Option Answer) → Brings b o → brings_quotes o ≡ true
quotes_brought b None brings = absurd brings
quotes_brought b (Some answer) brings = ap gives_quotes brings

module _ (editions : FareEditions) (each : ℕ → State) (day of : ℕ) where
  -- the batch of a shard
  abbrev of_shard : ℕ → BatchParts
  of_shard k = batch editions (each k) day k of

  -- the batches of so many shards, from one on
  abbrev all_from : ℕ → ℕ → BatchParts
  all_from from many = record { quotes = one_by_one (λ k. (of_shard k).quotes) from many; sets = one_by_one (λ k. (of_shard k).sets) from many }

  all_bring : (from : ℕ) (put : List Taken) → AreOfShards editions each day of from put → AreBrought put
  all_bring from [] are = tt
  all_bring from (t ∷ ts) are = (quotes_brought (of_shard from) t.answer are.0, all_bring (suc from) ts are.1)

  brought_is : (from : ℕ) (put : List Taken) → AreOfShards editions each day of from put → brought put ≡ all_from from (length put)
  brought_is from [] are = refl
  brought_is from (t ∷ ts) are =
      let here = batch_brought (of_shard from) t.answer are.0 in
      let rest = brought_is (suc from) ts are.1 in
      λ i. both (here i) (rest i)

  module _ (whole : State) (put : List Taken) (some : 1 ≤ of) (is : IsStateOfAll of each whole) (many : length put ≡ of) (are : AreOfShards editions each day of 0 put) where
    pub shards_whole : IsWhole of put
    shards_whole = (many, all_bring 0 put are)

    quotes_in_order : in_order_by (λ (q : QuoteParts). q.account) (all_from 0 of).quotes ≡ (batch_of_all editions whole day).quotes
    quotes_in_order = all_made (λ (q : QuoteParts). q.account) (λ (e : ℕ × Accepted). is_quoted day (sets e.0 e.1)) (λ (e : ℕ × Accepted). quote editions e.0 e.1 day) (λ e. refl) of some each whole is

    sets_in_order : in_order_by (λ (s : SetsParts). s.account) (all_from 0 of).sets ≡ (batch_of_all editions whole day).sets
    sets_in_order = all_made (λ (s : SetsParts). s.account) (λ (e : ℕ × Accepted). is_quoted day (sets e.0 e.1)) (λ (e : ℕ × Accepted). sets e.0 e.1) (λ e. refl) of some each whole is

    pub shards_gathered : gathered put ≡ batch_of_all editions whole day
    shards_gathered =
        ap in_order (brought_is 0 put are)
        ∙ (λ i. in_order (all_from 0 (many i)))
        ∙ (λ i. record { quotes = quotes_in_order i; sets = sets_in_order i })

-- so one close is the other
pub shards_closed : (editions : FareEditions) (of : ℕ) (each : ℕ → State) (books : Books) (day : ℕ) (put : List Taken) → 1 ≤ of → IsStateOfAll of each books.state → length put ≡ of → AreOfShards editions each day of 0 put
    → posted_of books.ledger put ≡ close editions books day
shards_closed editions of each books day put some is many are = ap (λ (b : BatchParts). posted books.ledger b.quotes b.sets) (shards_gathered editions each day of books.state put some is many are)

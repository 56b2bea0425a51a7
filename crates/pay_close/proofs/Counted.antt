-- What counting open accounts comes to, one quote after another, and as a close that is put off.
use Rattle.std.proofs.Common.{◌≡◌, ℕ, ◌+◌, ◌<◌, Bool, cond, List, [], take, get_or, length, Option, Result, Ok, Err, IsTrue, IfErr, refl, sym, ap, ◌∙◌, subst, inl, inr, arith}
use Rattle.std.proofs.lemmas.List.Filters.{length-filter_more}
use Rattle.sqlite.specs.State.{State, HasCleanDisk, Survives}
use Rattle.sqlite.proofs.StateLemmas.{survives_then}
use Rattle.sqlite.specs.Effect.{Database}
use Rattle.pay_rules.specs.declared.posting.Posting.{Posting}
use Rattle.pay_rules.specs.QuoteParts.{QuoteParts}
use Rattle.pay_rules.specs.SetsParts.{SetsParts}
use Rattle.pay_rules.specs.declared.post_fault.PostFault.TheVariants as post
use Rattle.pay_postings.specs.Words.{LedgerParts}
use Rattle.pay_ledger.specs.Words.{is_of_store, IsLedger, MayLeave}
use Rattle.pay_ledger.specs.declared.fault.LedgerFault.{LedgerFault}
use Rattle.pay_ledger.specs.declared.fault.LedgerFault.TheVariants as ledger_fault
use Rattle.pay_shard.specs.Words.{BatchParts}
use Rattle.pay_shard.specs.declared.asked.Asked.{Asked}
use Rattle.pay_shard.specs.declared.desk.DeskFault.{DeskFault}
use Rattle.pay_shard.specs.declared.reply.Answer.{Answer}
use Rattle.pay_till.specs.Words.{Taken, AreQuotes, IsShort, IsClosed, is_of_close, put_off}
use Rattle.pay_wire.specs.declared.refusal.Refusal.{Refusal}
use Rattle.pay_wire.specs.declared.refusal.Refusal.TheVariants as refusal
use Rattle.pay_close.specs.Batches.{gathered, IsWhole}
use Rattle.pay_close.specs.Closes.{Closes}
use Rattle.pay_close.specs.Faults.{refusal_of_close, is_outside}
use Rattle.pay_close.specs.Gathers.{IsTold, IsAsked}
use Rattle.pay_close.specs.Opens.{is_open, open_count, IsSoOfLedger, IsOnlyRead, Opens, IsCounted}
use Rattle.pay_close.specs.declared.fault.NotClosed.{NotClosed}
use Rattle.pay_close.specs.declared.fault.NotClosed.TheVariants.{Desk, Ledger}
use Rattle.pay_close.proofs.Gathering.{weaker}
use Rattle.pay_close.proofs.ClosedBy.{of_store, short_of}

-- ---- reads of a ledger

pub reads_none : (s : State) → IsOnlyRead s s
reads_none s = record {
  unchanged = λ clean live. record { was_open = live; now = refl; committed = refl };
  survives = record { clean = omega arith; shield = λ h. h; counts = omega arith; limit = refl; closes = λ clean h. inl h; crash = λ clean db h. inl h };
}

module _ (a b c : State) where
  was_clean : IsOnlyRead b c → HasCleanDisk c → HasCleanDisk b
  was_clean read clean = let less = read.survives.clean in omega (arith, less, clean)

  pub reads_then : IsOnlyRead a b → IsOnlyRead b c → IsOnlyRead a c
  reads_then first second = record {
    unchanged = λ clean live.
        let later = second.unchanged clean live in
        let before = first.unchanged (was_clean second clean) later.was_open in
        record { was_open = before.was_open; now = later.now ∙ before.now; committed = later.committed ∙ before.committed };
    survives = survives_then a b c _ _ _ (λ _ db none. none) (λ _ db none. none) first.survives second.survives;
  }

  -- what is so of the ledger that was read next is so of the first
  pub so_of_first : (P : LedgerParts → Type 0) → IsOnlyRead a b → IsOnlyRead b c → IsSoOfLedger b c P → IsSoOfLedger a c P
  so_of_first P first second so clean live ledger is =
      let later = second.unchanged clean live in
      let before = first.unchanged (was_clean second clean) later.was_open in
      so clean live ledger (subst (λ (db : Database). IsLedger db ledger) (sym before.now) is)

  -- what was so of the first stays so
  pub still_so : (P : LedgerParts → Type 0) → IsOnlyRead b c → IsSoOfLedger a b P → IsSoOfLedger a c P
  still_so P second so clean live ledger is = so (was_clean second clean) (second.unchanged clean live).was_open ledger is

-- ---- one quote after another

-- the first quotes were looked at, and so many of them are open
pub record HasCounted (old new : State) (quotes : List QuoteParts) (count : ℕ) : Type 0 where
  pub read : IsOnlyRead old new
  pub told : IsSoOfLedger old new (λ ledger. count ≡ open_count ledger.postings quotes)

one_more : (postings : List Posting) (quotes : List QuoteParts) (i : ℕ) (d : QuoteParts) (count : ℕ) (differs : Bool) → i < length quotes → count ≡ open_count postings (take i quotes) → differs ≡ is_open postings (get_or quotes i d)
    → count + cond differs 1 0 ≡ open_count postings (take (i + 1) quotes)
one_more postings quotes i d count differs below so is =
    (λ k. so k + cond (is k) 1 0) ∙ sym (length-filter_more (is_open postings) quotes i d below)

-- what is added by one quote
abbrev pub added : Bool → ℕ → ℕ
added differs count = count + cond differs 1 0

pub counts_on : (a b c : State) (quotes : List QuoteParts) (i : ℕ) (q : QuoteParts) (count next : ℕ) (differs : Bool) → next ≡ added differs count → i < length quotes → q ≡ get_or quotes i q → HasCounted a b (take i quotes) count → IsOnlyRead b c
    → IsSoOfLedger b c (λ ledger. differs ≡ is_open ledger.postings q) → HasCounted a c (take (i + 1) quotes) next
counts_on a b c quotes i q count next differs is below at before read one = record {
  read = reads_then a b c before.read read;
  told = λ clean live ledger it.
      is ∙ one_more ledger.postings quotes i q count differs below
      (still_so a b c (λ l. count ≡ open_count l.postings (take i quotes)) read before.told clean live ledger it)
      (so_of_first a b c (λ l. differs ≡ is_open l.postings q) before.read read one clean live ledger it ∙ ap (is_open ledger.postings) at);
}

pub counts_none : (s : State) → HasCounted s s [] 0
counts_none s = record { read = reads_none s; told = λ clean live ledger at. refl }

-- ---- refusals

pub refused_so : {A : Type 0} (P : LedgerFault → Type 0) (its fault : LedgerFault) (r : Result A LedgerFault) → r ≡ Err fault → fault ≡ its → P its → IfErr r P
refused_so {A} P its fault r is same h = subst (λ (o : Result A LedgerFault). IfErr o P) (sym is) (subst P (sym same) h)

-- ---- as a till says it

abbrev pub as_answered : Result ℕ NotClosed → Result ℕ Refusal
as_answered (Ok count) = Ok count
as_answered (Err fault) = Err (refusal_of_close fault)

survives_so : (old new : State) (Whole : Type 0) (quotes : List QuoteParts) (sets : List SetsParts) → Survives old new (λ _. ⊥) → Survives old new (λ trees. Whole × MayLeave old quotes sets trees)
survives_so old new Whole quotes sets f = record {
  clean = f.clean;
  shield = f.shield;
  counts = f.counts;
  limit = f.limit;
  closes = f.closes;
  crash = λ clean db h. elim (f.crash clean db h) [ inl before ↦ inl before | inr none ↦ absurd none ];
}

module _ (Refuses : DeskFault → Type 0) (Late : Type 0) (of : ℕ) (old new : State) where
  abbrev Counted : List Taken → Result ℕ NotClosed → Type 0
  Counted = IsCounted Refuses Late of old new

  outside : IsOnlyRead old new → (put : List Taken) (fault : Refusal) → IsTrue (is_outside fault) → Closes old new of put (Err fault)
  outside read put fault is = record {
    closed = λ clean. tt;
    refused = λ clean ledger at. inl is;
    of_open = λ clean. inl is;
    unchanged = read.unchanged;
    survives = survives_so old new (IsWhole of put) (gathered put).quotes (gathered put).sets read.survives;
  }

  closes_off : IsOnlyRead old new → (put : List Taken) (result : Result ℕ NotClosed) → Closes old new of put (put_off (as_answered result))
  closes_off read put (Ok count) = outside read put refusal.NotOver refl
  closes_off read put (Err (Desk fault)) = outside read put refusal.DeskFault refl
  closes_off read put (Err (Ledger ledger_fault.Store)) = outside read put refusal.Store refl
  closes_off read put (Err (Ledger (ledger_fault.Refused post.BadArchive))) = outside read put refusal.NotOver refl
  closes_off read put (Err (Ledger (ledger_fault.Refused (post.StaleQuote account version through)))) = outside read put refusal.NotOver refl
  closes_off read put (Err (Ledger (ledger_fault.Refused post.QuoteDiffers))) = outside read put refusal.NotOver refl
  closes_off read put (Err (Ledger (ledger_fault.Refused post.ArchiveConflict))) = outside read put refusal.NotOver refl
  closes_off read put (Err (Ledger (ledger_fault.Refused post.Memory))) = outside read put refusal.Memory refl

  short_off : (put : List Taken) (result : Result ℕ NotClosed) → Counted put result → put_off (as_answered result) ≡ Err refusal.DeskFault → IsShort Refuses Late put
  short_off put (Ok count) f e = absurd (cc)
  short_off put (Err (Desk fault)) f e = short_of Refuses Late of fault put f
  short_off put (Err (Ledger ledger_fault.Store)) f e = absurd (cc)
  short_off put (Err (Ledger (ledger_fault.Refused post.BadArchive))) f e = absurd (cc)
  short_off put (Err (Ledger (ledger_fault.Refused (post.StaleQuote account version through)))) f e = absurd (cc)
  short_off put (Err (Ledger (ledger_fault.Refused post.QuoteDiffers))) f e = absurd (cc)
  short_off put (Err (Ledger (ledger_fault.Refused post.ArchiveConflict))) f e = absurd (cc)
  short_off put (Err (Ledger (ledger_fault.Refused post.Memory))) f e = absurd (cc)

  close_off : (result : Result ℕ NotClosed) → IfErr (put_off (as_answered result)) (λ why. IsTrue (is_of_close why))
  close_off (Ok count) = refl
  close_off (Err (Desk fault)) = refl
  close_off (Err (Ledger ledger_fault.Store)) = refl
  close_off (Err (Ledger (ledger_fault.Refused post.BadArchive))) = refl
  close_off (Err (Ledger (ledger_fault.Refused (post.StaleQuote account version through)))) = refl
  close_off (Err (Ledger (ledger_fault.Refused post.QuoteDiffers))) = refl
  close_off (Err (Ledger (ledger_fault.Refused post.ArchiveConflict))) = refl
  close_off (Err (Ledger (ledger_fault.Refused post.Memory))) = refl

  opens : (put : List Taken) (result : Result ℕ NotClosed) → Counted put result → Opens old new of put (as_answered result)
  opens put (Ok count) f = f
  opens put (Err (Desk fault)) f = λ clean live ledger at. refl
  opens put (Err (Ledger ledger_fault.Store)) f = λ clean live ledger at. refl
  opens put (Err (Ledger (ledger_fault.Refused why))) f = λ clean live ledger at. of_store Refuses Late of why (f.1 clean live ledger at)

  module _ (day : ℕ) (before after : List (ℕ × Asked)) (transcript : ℕ → Option Answer) where
    abbrev Asks : Result ℕ NotClosed → Type 0
    Asks result = IsAsked Refuses Late (AreQuotes day of 0) before after transcript (λ put. Counted put result)

    abbrev Answers : Result ℕ Refusal → Type 0
    Answers said = IsClosed Refuses Late (λ put answer. Closes old new of put answer × Opens old new of put said) day of before after transcript (put_off said)

    till_counted : (result : Result ℕ NotClosed) → IsOnlyRead old new → Asks result → Answers (as_answered result)
    till_counted result read f = record {
      put = f.put;
      close = record {
        quotes = f.quotes;
        in_time = f.in_time;
        short = short_off f.put result f.told;
        of_close = close_off result;
        closes = (closes_off read f.put result, opens f.put result f.told);
      };
      added = f.added;
      answered = f.answered;
    }

    pub till_counts : (result : Result ℕ NotClosed) (count : ℕ) → result ≡ Ok count → IsOnlyRead old new → Asks result → Answers (Ok count)
    till_counts result count is read f = subst (λ r. Answers (as_answered r)) is (till_counted result read f)

    pub till_counts_not : (result : Result ℕ NotClosed) (why : NotClosed) (fault : Refusal) → result ≡ Err why → fault ≡ refusal_of_close why → IsOnlyRead old new → Asks result → Answers (Err fault)
    till_counts_not result why fault is said read f = subst (λ w. Answers (Err w)) (sym said) (subst (λ r. Answers (as_answered r)) is (till_counted result read f))

    -- ---- over a desk

    abbrev Told : Result BatchParts NotClosed → Type 0
    Told result = IsAsked Refuses Late (AreQuotes day of 0) before after transcript (λ put. IsTold Refuses Late of gathered put result)

    not_whole : (fault : NotClosed) (put : List Taken) → IsTold Refuses Late of gathered put (Err fault) → Counted put (Err fault)
    not_whole (Desk fault) put f = f
    not_whole (Ledger fault) put f = (f.1, λ clean live ledger at. ap is_of_store f.0)

    -- not all quotes came
    pub count_stopped : (its fault : NotClosed) (result : Result ℕ NotClosed) → result ≡ Err fault → fault ≡ its → Told (Err its) → Asks result
    count_stopped its fault result is e f =
        subst Asks (sym is) (subst (λ (w : NotClosed). Asks (Err w)) (sym e) (weaker Refuses Late (AreQuotes day of 0) before after transcript _ _ (not_whole its) f))

    module _ (batch : BatchParts) (all : Told (Ok batch)) (quotes : List QuoteParts) (same : quotes ≡ batch.quotes) where
      -- they were counted
      pub count_told : (its count : ℕ) → count ≡ its → IsSoOfLedger old new (λ ledger. its ≡ open_count ledger.postings quotes) → Asks (Ok count)
      count_told its count is so =
          weaker Refuses Late (AreQuotes day of 0) before after transcript _ _
          (λ put told. (told.0, λ clean live ledger at. is ∙ so clean live ledger at ∙ ap (open_count ledger.postings) (same ∙ ap (λ (b : BatchParts). b.quotes) told.1))) all

      -- the ledger was not read
      pub count_refused : (its : LedgerFault) (fault : NotClosed) (result : Result ℕ NotClosed) → result ≡ Err fault → fault ≡ Ledger its → IsSoOfLedger old new (λ ledger. IsTrue (is_of_store its)) → Asks result
      count_refused its fault result is e so =
          subst Asks (sym is)
          (subst (λ (w : NotClosed). Asks (Err w)) (sym e)
          (weaker Refuses Late (AreQuotes day of 0) before after transcript _ _ (λ put told. (told.0, so)) all))

-- What a close comes to, by what was gathered and what the ledger did.
use Rattle.std.proofs.Common.{◌≡◌, ℕ, Bool, true, false, not, ◌||◌, List, [], ◌∷◌, ◌++◌, Option, Result, Ok, Err, IsTrue, IfErr, refl, sym, ap, ◌∙◌, subst, inl, inr, ◌⊎◌, arith}
use Rattle.std.specs.List.{list_any}
use Rattle.sqlite.specs.State.{State, HasCleanDisk, Survives}
use Rattle.pay_rules.specs.declared.posting.Posting.{Posting}
use Rattle.pay_rules.specs.QuoteParts.{QuoteParts}
use Rattle.pay_rules.specs.SetsParts.{SetsParts}
use Rattle.pay_postings.specs.Words.{LedgerParts, posted}
use Rattle.pay_rules.specs.declared.post_fault.PostFault.{PostFault}
use Rattle.pay_rules.specs.declared.post_fault.PostFault.TheVariants as post
use Rattle.pay_ledger.specs.Words.{is_of_store, IsLedger, Posts, IsAsBefore, IsRefused, MayLeave}
use Rattle.pay_ledger.specs.declared.fault.LedgerFault.{LedgerFault}
use Rattle.pay_ledger.specs.declared.fault.LedgerFault.TheVariants as ledger_fault
use Rattle.pay_shard.specs.Words.{BatchParts}
use Rattle.pay_shard.specs.declared.asked.Asked.{Asked}
use Rattle.pay_shard.specs.declared.desk.DeskFault.{DeskFault}
use Rattle.pay_shard.specs.declared.reply.Answer.{Answer}
use Rattle.pay_till.specs.Words.{Taken, AreQuotes, IsShort, is_of_close, IsClosed, brings_quotes}
use Rattle.pay_wire.specs.declared.refusal.Refusal.{Refusal}
use Rattle.pay_wire.specs.declared.refusal.Refusal.TheVariants as refusal
use Rattle.pay_close.specs.Batches.{gathered, IsWhole}
use Rattle.pay_close.specs.Faults.{refusal_of_posting, refusal_of_close, is_outside, is_from_outside}
use Rattle.pay_close.specs.Gathers.{IsStopped, IsTold, IsAsked}
use Rattle.pay_close.proofs.Gathering.{weaker}
use Rattle.pay_close.specs.Closes.{ClosesBy, IsWhy, IsWhySaid, Closes, as_said, IsClosedSo}
use Rattle.pay_close.specs.declared.fault.NotClosed.{NotClosed}
use Rattle.pay_close.specs.declared.fault.NotClosed.TheVariants.{Desk, Ledger}

-- ---- crashes

-- what a crash may leave of a close, and of what is not touched
abbrev SurvivesSo : State → State → Type 0 → List QuoteParts → List SetsParts → Type 0
SurvivesSo old new Whole quotes sets = Survives old new (λ trees. Whole × MayLeave old quotes sets trees)

survives_itself : (s : State) (Whole : Type 0) (quotes : List QuoteParts) (sets : List SetsParts) → SurvivesSo s s Whole quotes sets
survives_itself s Whole quotes sets = record {
  clean = omega arith;
  shield = λ h. h;
  counts = omega arith;
  limit = refl;
  closes = λ clean h. inl h;
  crash = λ clean db h. inl h;
}

survives_whole : (old new : State) (Whole : Type 0) (quotes : List QuoteParts) (sets : List SetsParts) → Whole → Survives old new (MayLeave old quotes sets) → SurvivesSo old new Whole quotes sets
survives_whole old new Whole quotes sets whole f = record {
  clean = f.clean;
  shield = f.shield;
  counts = f.counts;
  limit = f.limit;
  closes = f.closes;
  crash = λ clean db h. elim (f.crash clean db h) [ inl before ↦ inl before | inr committed ↦ inr (whole, committed) ];
}

module _ (Refuses : DeskFault → Type 0) (Late : Type 0) (of : ℕ) where
  abbrev ClosedSo : State → State → List Taken → Result (List Posting) NotClosed → Type 0
  ClosedSo = IsClosedSo Refuses Late of

  -- ---- not all quotes came

  same_fault : (fault other : DeskFault) → ◌≡◌ {A = Result (List Posting) NotClosed} (Err (Desk fault)) (Err (Desk other)) → fault ≡ other
  same_fault fault other e = cc

  not_of_desk : (fault : LedgerFault) (other : DeskFault) → ◌≡◌ {A = Result (List Posting) NotClosed} (Err (Ledger fault)) (Err (Desk other)) → ⊥
  not_of_desk fault other e = cc

  stays_closed : (s : State) (put : List Taken) (fault : NotClosed) → ((ledger : LedgerParts) → IsWhy of put ledger fault) → IsTrue (is_from_outside fault) → ClosesBy is_from_outside (IsWhy of put) s s of put (Err fault)
  stays_closed s put fault why outside = record {
    closed = λ clean. tt;
    refused = λ clean ledger is. why ledger;
    of_open = λ clean. inl outside;
    unchanged = λ clean live. record { was_open = live; now = refl; committed = refl };
    survives = survives_itself s (IsWhole of put) (gathered put).quotes (gathered put).sets;
  }

  not_gathered : (s : State) (put : List Taken) (fault : NotClosed) → IsTold Refuses Late of gathered put (Err fault) → ClosedSo s s put (Err fault)
  not_gathered s put (Desk fault) f = record {
    stopped = λ other e. subst (λ (d : DeskFault). IsStopped Refuses Late of d put) (same_fault fault other e) f;
    closes = stays_closed s put (Desk fault) (λ ledger. tt) refl;
  }
  not_gathered s put (Ledger fault) f = record {
    stopped = λ other e. absurd (not_of_desk fault other e);
    closes = stays_closed s put (Ledger fault) (λ ledger. inl (ap is_of_store f.0)) (ap (λ (l : LedgerFault). is_from_outside (Ledger l)) f.0);
  }

  -- the ledger is as before
  pub closed_early : (old new : State) → new ≡ old → (fault : NotClosed) (put : List Taken) → IsTold Refuses Late of gathered put (Err fault) → ClosedSo old new put (Err fault)
  closed_early old new same fault put f = subst (λ (s : State). ClosedSo old s put (Err fault)) (sym same) (not_gathered old put fault f)

  -- ---- why the ledger did not post

  pub of_store : (why : PostFault) → IsTrue (is_of_store (ledger_fault.Refused why)) → IsTrue (is_outside (refusal_of_posting why))
  of_store post.BadArchive e = absurd (cc)
  of_store (post.StaleQuote account version through) e = absurd (cc)
  of_store post.QuoteDiffers e = absurd (cc)
  of_store post.ArchiveConflict e = absurd (cc)
  of_store post.Memory e = refl

  outside_or_open : (fault : LedgerFault) (Live : Type 0) → IsTrue (is_of_store fault) ⊎ Live → IsTrue (is_from_outside (Ledger fault)) ⊎ Live
  outside_or_open fault Live (inr live) = inr live
  outside_or_open ledger_fault.Store Live (inl store) = inl refl
  outside_or_open (ledger_fault.Refused why) Live (inl store) = inl (of_store why store)

  -- ---- all came

  module _ (old new : State) (put : List Taken) (quotes : List QuoteParts) (sets : List SetsParts) (whole : IsWhole of put) (same_quotes : quotes ≡ (gathered put).quotes) (same_sets : sets ≡ (gathered put).sets)
      (survives : Survives old new (MayLeave old quotes sets)) where
    survives_so : SurvivesSo old new (IsWhole of put) (gathered put).quotes (gathered put).sets
    survives_so =
        subst (λ (l : List SetsParts). SurvivesSo old new (IsWhole of put) (gathered put).quotes l) same_sets
        (subst (λ (q : List QuoteParts). SurvivesSo old new (IsWhole of put) q sets) same_quotes (survives_whole old new (IsWhole of put) quotes sets whole survives))

    -- and were posted
    pub closed_at_last : (given : List Posting) → (HasCleanDisk new → Posts old new quotes sets given) → ClosedSo old new put (Ok given)
    closed_at_last given posts = record {
      stopped = λ other e. absurd (cc);
      closes = record {
        closed = λ clean. (whole, subst (λ (s : List SetsParts). Posts old new (gathered put).quotes s given) same_sets (subst (λ (q : List QuoteParts). Posts old new q sets given) same_quotes (posts clean)));
        refused = λ clean. tt;
        of_open = λ clean. tt;
        unchanged = λ clean live. tt;
        survives = survives_so;
      };
    }

    why_refused : (ledger : LedgerParts) (fault : LedgerFault) → IsRefused fault (posted ledger quotes sets) → IsWhy of put ledger (Ledger fault)
    why_refused ledger fault (inl store) = inl store
    why_refused ledger fault (inr f) = inr (f.0, f.1, whole, (λ i. posted ledger (sym same_quotes i) (sym same_sets i)) ∙ f.2)

    -- or the ledger did not post them
    pub closed_not : (fault : LedgerFault) → (HasCleanDisk new → (ledger : LedgerParts) → IsLedger old.now ledger → IsRefused fault (posted ledger quotes sets)) → (HasCleanDisk new → IsTrue (is_of_store fault) ⊎ IsTrue old.is_open)
        → (HasCleanDisk new → IsTrue new.is_open → IsAsBefore old new) → ClosedSo old new put (Err (Ledger fault))
    closed_not fault refused of_open unchanged = record {
      stopped = λ other e. absurd (not_of_desk fault other e);
      closes = record {
        closed = λ clean. tt;
        refused = λ clean ledger is. why_refused ledger fault (refused clean ledger is);
        of_open = λ clean. outside_or_open fault (IsTrue old.is_open) (of_open clean);
        unchanged = unchanged;
        survives = survives_so;
      };
    }

  -- ---- as a till says it

  one_lacks : (front : List Taken) (first : Taken) (later : List Taken) → brings_quotes first.answer ≡ false → list_any (λ (t : Taken). not (brings_quotes t.answer)) (front ++ first ∷ later) ≡ true
  one_lacks [] first later e = ap (λ b. not b || list_any (λ (t : Taken). not (brings_quotes t.answer)) later) e
  one_lacks (t ∷ front) first later e = ap (λ b. not (brings_quotes t.answer) || b) (one_lacks front first later e) ∙ either (not (brings_quotes t.answer))
    where
      either : (b : Bool) → (b || true) ≡ true
      either true = refl
      either false = refl

  pub short_of : (fault : DeskFault) (put : List Taken) → IsStopped Refuses Late of fault put → IsShort Refuses Late put
  short_of fault put (inl f) = inl (fault, f.refuses)
  short_of fault put (inr f) = let g = f.first in inr (ap (list_any (λ (t : Taken). not (brings_quotes t.answer))) g.parts ∙ one_lacks g.front g.first g.later g.without)

  refused_otherwise : (why : PostFault) → refusal_of_posting why ≡ refusal.DeskFault → ⊥
  refused_otherwise post.BadArchive e = cc
  refused_otherwise (post.StaleQuote account version through) e = cc
  refused_otherwise post.QuoteDiffers e = cc
  refused_otherwise post.ArchiveConflict e = cc
  refused_otherwise post.Memory e = cc

  fault_in : (fault other : Refusal) → ◌≡◌ {A = Result (List Posting) Refusal} (Err fault) (Err other) → fault ≡ other
  fault_in fault other e = cc

  short : (old new : State) (put : List Taken) (result : Result (List Posting) NotClosed) → ClosedSo old new put result → as_said result ≡ Err refusal.DeskFault → IsShort Refuses Late put
  short old new put (Ok given) f e = absurd (cc)
  short old new put (Err (Desk fault)) f e = short_of fault put (f.stopped fault refl)
  short old new put (Err (Ledger ledger_fault.Store)) f e = absurd (cc)
  short old new put (Err (Ledger (ledger_fault.Refused why))) f e = absurd (refused_otherwise why (fault_in _ _ e))

  posting_of_close : (why : PostFault) → IsTrue (is_of_close (refusal_of_posting why))
  posting_of_close post.BadArchive = refl
  posting_of_close (post.StaleQuote account version through) = refl
  posting_of_close post.QuoteDiffers = refl
  posting_of_close post.ArchiveConflict = refl
  posting_of_close post.Memory = refl

  pub said_of_close : (result : Result (List Posting) NotClosed) → IfErr (as_said result) (λ why. IsTrue (is_of_close why))
  said_of_close (Ok given) = tt
  said_of_close (Err (Desk fault)) = refl
  said_of_close (Err (Ledger ledger_fault.Store)) = refl
  said_of_close (Err (Ledger (ledger_fault.Refused why))) = posting_of_close why

  refused_is : (why other : PostFault) → ◌≡◌ {A = LedgerFault} (ledger_fault.Refused why) (ledger_fault.Refused other) → why ≡ other
  refused_is why other e = cc

  why_said : (put : List Taken) (ledger : LedgerParts) (fault : NotClosed) → IsWhy of put ledger fault → IsWhySaid of put ledger (refusal_of_close fault)
  why_said put ledger (Desk fault) f = inl refl
  why_said put ledger (Ledger ledger_fault.Store) f = inl refl
  why_said put ledger (Ledger (ledger_fault.Refused why)) (inl store) = inl (of_store why store)
  why_said put ledger (Ledger (ledger_fault.Refused why)) (inr f) = inr (f.0, ap refusal_of_posting (refused_is why f.0 f.1), f.2, f.3)

  said_closes : (old new : State) (put : List Taken) (result : Result (List Posting) NotClosed) → ClosesBy is_from_outside (IsWhy of put) old new of put result → Closes old new of put (as_said result)
  said_closes old new put (Ok given) f = record { closed = f.closed; refused = λ clean. tt; of_open = λ clean. tt; unchanged = f.unchanged; survives = f.survives }
  said_closes old new put (Err fault) f = record { closed = λ clean. tt; refused = λ clean ledger is. why_said put ledger fault (f.refused clean ledger is); of_open = f.of_open; unchanged = f.unchanged; survives = f.survives }

  pub till_closed : (old new : State) (day : ℕ) (before after : List (ℕ × Asked)) (transcript : ℕ → Option Answer) (result : Result (List Posting) NotClosed) (said : Result (List Posting) Refusal) → said ≡ as_said result
      → IsAsked Refuses Late (AreQuotes day of 0) before after transcript (λ put. ClosedSo old new put result)
      → IsClosed Refuses Late (λ put answer. Closes old new of put answer) day of before after transcript said
  till_closed old new day before after transcript result said is f = record {
    put = f.put;
    close = record {
      quotes = f.quotes;
      in_time = f.in_time;
      short = λ e. short old new f.put result f.told (sym is ∙ e);
      of_close = subst (λ (r : Result (List Posting) Refusal). IfErr r (λ why. IsTrue (is_of_close why))) (sym is) (said_of_close result);
      closes = subst (λ (r : Result (List Posting) Refusal). Closes old new of f.put r) (sym is) (said_closes old new f.put result f.told.closes);
    };
    added = f.added;
    answered = f.answered;
  }

  pub till_closed_not : (old new : State) (day : ℕ) (before after : List (ℕ × Asked)) (transcript : ℕ → Option Answer) (why : NotClosed) (result : Result (List Posting) NotClosed) → result ≡ Err why → (fault : Refusal) → fault ≡ refusal_of_close why
      → IsAsked Refuses Late (AreQuotes day of 0) before after transcript (λ put. ClosedSo old new put result)
      → IsClosed Refuses Late (λ put answer. Closes old new of put answer) day of before after transcript (Err fault)
  till_closed_not old new day before after transcript why result is fault said f =
      till_closed old new day before after transcript result (Err fault) (ap (λ (w : Refusal). Err w) said ∙ sym (ap as_said is)) f

  -- the day was put off, and nothing was asked
  no_more : (list : List (ℕ × Asked)) → list ≡ list ++ []
  no_more [] = refl
  no_more (x ∷ list) = ap (λ l. x ∷ l) (no_more list)

  not_of_desk_fault : refusal.NotOver ≡ refusal.DeskFault → ⊥
  not_of_desk_fault e = cc

  pub till_put_off : (s : State) (day : ℕ) (before : List (ℕ × Asked)) (transcript : ℕ → Option Answer) → IsClosed Refuses Late (λ put answer. Closes s s of put answer) day of before before transcript (Err refusal.NotOver)
  till_put_off s day before transcript = record {
    put = [];
    close = record {
      quotes = tt;
      in_time = tt;
      short = λ e. absurd (not_of_desk_fault (fault_in _ _ e));
      of_close = refl;
      closes = record {
        closed = λ clean. tt;
        refused = λ clean ledger is. inl refl;
        of_open = λ clean. inl refl;
        unchanged = λ clean live. record { was_open = live; now = refl; committed = refl };
        survives = survives_itself s (IsWhole of []) (gathered []).quotes (gathered []).sets;
      };
    };
    added = no_more before;
    answered = tt;
  }

  -- ---- over a desk

  module _ (day : ℕ) (before after : List (ℕ × Asked)) (transcript : ℕ → Option Answer) (old new : State) where
    abbrev AskedSo : Result (List Posting) NotClosed → Type 0
    AskedSo result = IsAsked Refuses Late (AreQuotes day of 0) before after transcript (λ put. ClosedSo old new put result)

    abbrev AskedTold : Result BatchParts NotClosed → Type 0
    AskedTold result = IsAsked Refuses Late (AreQuotes day of 0) before after transcript (λ put. IsTold Refuses Late of gathered put result)

    -- not all quotes came
    pub close_stopped : new ≡ old → (its fault : NotClosed) (result : Result (List Posting) NotClosed) → result ≡ Err fault → fault ≡ its → AskedTold (Err its) → AskedSo result
    close_stopped same its fault result is e f =
        subst AskedSo (sym is) (subst (λ (w : NotClosed). AskedSo (Err w)) (sym e) (weaker Refuses Late (AreQuotes day of 0) before after transcript _ _ (closed_early old new same its) f))

    module _ (batch : BatchParts) (all : AskedTold (Ok batch)) (quotes : List QuoteParts) (sets : List SetsParts) (same_quotes : quotes ≡ batch.quotes) (same_sets : sets ≡ batch.sets) (survives : Survives old new (MayLeave old quotes sets)) where
      -- they were posted
      pub close_posted : (given answer : List Posting) → answer ≡ given → (HasCleanDisk new → Posts old new quotes sets given) → AskedSo (Ok answer)
      close_posted given answer same posts =
          subst (λ (l : List Posting). AskedSo (Ok l)) (sym same)
          (weaker Refuses Late (AreQuotes day of 0) before after transcript _ _
          (λ put told. closed_at_last old new put quotes sets told.0 (same_quotes ∙ ap (λ (b : BatchParts). b.quotes) told.1) (same_sets ∙ ap (λ (b : BatchParts). b.sets) told.1) survives given posts) all)

      -- the ledger did not post them
      pub close_refused : (its : LedgerFault) (fault : NotClosed) (result : Result (List Posting) NotClosed) → result ≡ Err fault → fault ≡ Ledger its
          → (HasCleanDisk new → (ledger : LedgerParts) → IsLedger old.now ledger → IsRefused its (posted ledger quotes sets)) → (HasCleanDisk new → IsTrue (is_of_store its) ⊎ IsTrue old.is_open)
          → (HasCleanDisk new → IsTrue new.is_open → IsAsBefore old new) → AskedSo result
      close_refused its fault result is e refused of_open unchanged =
          subst AskedSo (sym is)
          (subst (λ (w : NotClosed). AskedSo (Err w)) (sym e)
          (weaker Refuses Late (AreQuotes day of 0) before after transcript _ _
          (λ put told. closed_not old new put quotes sets told.0 (same_quotes ∙ ap (λ (b : BatchParts). b.quotes) told.1) (same_sets ∙ ap (λ (b : BatchParts). b.sets) told.1) survives its refused of_open unchanged) all))

-- A database that is made ready as a ledger, and why one is not.
use Rattle.std.proofs.Common.{◌≡◌, inl, inr, false, [], Result, Ok, Err, IsErrAnd, IfErr, refl, sym, subst, ◌∙◌}
use Rattle.sqlite.specs.Effect.{Database}
use Rattle.sqlite.specs.State.{State, IsUnchanged, Shows}
use Rattle.pay_records.specs.Words.{IsFree, IsOfKind, Finds, FindsFirst, Grows, MakesLedger, Upgrades, HasFirstTables, IsUpgradable, GrowsBeside, without_editions, ledger_tables}
unfoldable use Rattle.pay_records.specs.Words.{HoldsRows, HoldsFirst}
use Rattle.pay_records.specs.declared.kind.DatabaseKind.{DatabaseKind}
use Rattle.pay_records.specs.declared.kind.DatabaseKind.TheVariants as kind
use Rattle.pay_ledger.specs.declared.fault.OpenFault.{OpenFault}
use Rattle.pay_ledger.specs.declared.fault.OpenFault.TheVariants.{NotALedger, Version, Store}
use Rattle.pay_ledger.specs.declared.opening.Readying.{Readying}
use Rattle.pay_ledger.specs.declared.opening.Readying.TheVariants.{Make, Upgrade, Keep}
use Rattle.pay_ledger.specs.Opening.{readying_of, IsReadied, IsWhyNot, IsOpened, KeepsLedger, BlankBecomesLedger, FirstIsCopied, FirstBecomesLedger}

-- the store may fail whatever it is
pub store_failed : (db : Database) → IsWhyNot Store db
store_failed db = record { why = tt; of_free = λ free. refl }

-- its kind says why
pub of_its_kind : (db : Database) (is : DatabaseKind) (fault : OpenFault) → Err fault ≡ readying_of is → IsOfKind db is → (IsFree db → is ≡ kind.Blank) → IsWhyNot fault db
of_its_kind db kind.Blank fault e is free = absurd (cc)
of_its_kind db kind.First fault e is free = absurd (cc)
of_its_kind db kind.Ledger fault e is free = absurd (cc)
of_its_kind db kind.Version fault e is free =
    let same : Version ≡ fault = cc in
    subst (λ f. IsWhyNot f db) same (record { why = is; of_free = λ none. absurd (let blank = free none in cc) })
of_its_kind db kind.Other fault e is free =
    let same : NotALedger ≡ fault = cc in
    subst (λ f. IsWhyNot f db) same (record { why = λ no_view. is; of_free = λ none. absurd (let blank = free none in cc) })

-- what is refused is passed on
pub passed_on : {A : Type 0} (r : Result A OpenFault) (fault : OpenFault) (db : Database) → IsErrAnd r (λ f. f ≡ fault) → IsWhyNot fault db → IfErr r (λ f. IsWhyNot f db)
passed_on (Ok x) fault db is why = tt
passed_on (Err f) fault db is why = subst (λ f. IsWhyNot f db) (sym is) why

module _ (first between : State) (is : DatabaseKind) (of : IsOfKind first.now is) (free : IsFree first.now → (is ≡ kind.Blank) × IsUnchanged first between) (found : Finds first between (λ _. is ≡ kind.Ledger)) (found_first : FindsFirst first between (λ _. is ≡ kind.First)) where
  -- where there is none, one of nothing is made
  pub is_made : (last : State) → is ≡ kind.Blank → MakesLedger between last → IsReadied first.now last.now
  is_made last blank made = record {
    of_kind = inr (inr (subst (IsOfKind first.now) blank of));
    ledger = λ its k. absurd (let ledger = (found k.stores.rows k.stores.held).0 in cc);
    blank = λ none.
        let same = (free none).1.0.now_is in
        record {
          stores = record {
            rows = _;
            held = made.ledger (subst IsFree (sym same) none);
            are = record { ids = []; as_long = refl; postings = refl; shares = refl; taps = refl; fixes = refl };
          };
          paid = tt;
        };
    grows = λ none.
        let same = (free none).1.0.now_is in
        subst (λ db. Grows db last.now ledger_tables) same (made.grows (subst IsFree (sym same) none));
    copied = λ rows held. absurd (let version = (found_first rows held).0 in cc);
  }

  -- one of version 1 is copied
  pub is_upgraded : (last : State) → is ≡ kind.First → Upgrades between last → IsReadied first.now last.now
  is_upgraded last version upgraded = record {
    of_kind = inr (inl (subst (IsOfKind first.now) version of));
    ledger = λ its k. absurd (let ledger = (found k.stores.rows k.stores.held).0 in cc);
    blank = λ none. absurd (let blank = (free none).0 in cc);
    grows = λ none. absurd (let blank = (free none).0 in cc);
    copied = λ rows held.
        let same = (found_first rows held).1.0.now_is in (
          upgraded.rows rows (subst (λ db. HoldsFirst db rows) (sym same) held),
          λ p there lacks.
              subst (λ db. GrowsBeside db last.now p) same
              (upgraded.beside p (subst (λ db. HasFirstTables db.schema p) (sym same) there) (subst (λ db. IsUpgradable db.schema p) (sym same) lacks)),
        );
  }

  -- and one of version 2 stays
  pub is_kept : (last : State) → is ≡ kind.Ledger → last.now ≡ between.now → IsReadied first.now last.now
  is_kept last version kept = record {
    of_kind = inl (subst (IsOfKind first.now) version of);
    ledger = λ its k. kept ∙ (found k.stores.rows k.stores.held).1.0.now_is;
    blank = λ none. absurd (let blank = (free none).0 in cc);
    grows = λ none. absurd (let blank = (free none).0 in cc);
    copied = λ rows held. absurd (let version_1 = (found_first rows held).0 in cc);
  }

  -- what there is to do is done
  pub is_readied : (last : State) (to_do : Readying) → Ok to_do ≡ readying_of is → (to_do ≡ Make → MakesLedger between last) → (to_do ≡ Upgrade → Upgrades between last) → (to_do ≡ Keep → last.now ≡ between.now) → IsReadied first.now last.now
  is_readied last to_do e made upgraded kept = by is refl e
    where
      by : (k : DatabaseKind) → is ≡ k → Ok to_do ≡ readying_of k → IsReadied first.now last.now
      by kind.Blank k e = is_made last k (made (cc))
      by kind.First k e = is_upgraded last k (upgraded (cc))
      by kind.Ledger k e = is_kept last k (kept (cc))
      by kind.Version k e = absurd (cc)
      by kind.Other k e = absurd (cc)

-- a ledger of version 1 that is copied is a ledger
pub first_becomes : (old new : Database) → FirstIsCopied old new → FirstBecomesLedger old new
first_becomes old new copied ledger first = record {
  stores = record { rows = without_editions first.rows; held = (copied first.rows first.held).0; are = first.are };
  paid = first.paid;
}

-- what was made ready is opened once it is committed
pub opened_of : (old last new : State) → IsReadied old.now last.now → Shows last new last.now last.now false → IsOpened old new
opened_of old last new ready shows =
    let now = sym shows.now_is in
    record {
      is_open = shows.is_open;
      committed = shows.committed_is ∙ now;
      of_kind = ready.of_kind;
      ledger = subst (KeepsLedger old.now) now ready.ledger;
      blank = subst (BlankBecomesLedger old.now) now ready.blank;
      copied = subst (FirstIsCopied old.now) now ready.copied;
      first = first_becomes old.now new.now (subst (FirstIsCopied old.now) now ready.copied);
    }

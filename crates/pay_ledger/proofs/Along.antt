-- Parts of a transaction, one after another.
use Rattle.std.specs.List.{AllByRecursion}
use Rattle.std.specs.Borrow.{MutBor}
use Rattle.std.proofs.Common.{◌≡◌, inl, ◌<◌, ◌+◌, ℕ, List, [], ◌∷◌, ◌++◌, length, take, get_or, Ok, Err, Result, IsTrue, IfOk, IfErr, IsErrAnd, OnOk, OnErr, refl, sym, ap, subst, ◌∙◌, arith}
use Rattle.std.proofs.lemmas.List.{append_assoc, take_more}
use Rattle.sqlite_keyed.proofs.ListLemmas.{all_both, all_of}
use Rattle.sqlite.specs.Effect.{Database}
use Rattle.sqlite.specs.State.{State, HasCleanDisk, KeepsCommit, Survives}
use Rattle.sqlite.specs.Store.{Ghosts}
use Rattle.sqlite.specs.Held.{Held, state}
use Rattle.sqlite.proofs.StateLemmas.{survives_then}
use Rattle.sqlite.proofs.InsideLemmas.{keeps_then}
use Rattle.pay_records.specs.Words.{KeepsOthers, HasLedgerTables, IsOthers, CommitsNothingInside, LeavesAsBefore}
use Rattle.pay_ledger.specs.declared.fault.LedgerFault.{LedgerFault}
use Rattle.pay_ledger.specs.declared.fault.LedgerFault.TheVariants.{Store}
use Rattle.pay_ledger.specs.Faults.{is_of_store}
use Rattle.pay_ledger.specs.Steps.{Stays, GoesOn, IsStep, HasGoneOn, HasStopped}

pub survives_same : (s : State) → Survives s s (λ _. ⊥)
survives_same s = record { clean = omega arith; shield = λ h. h; counts = omega arith; limit = refl; closes = λ clean live. inl live; crash = λ clean db left. inl left }

pub kept_same : (s : State) → KeepsCommit s s
kept_same s = record { was_open = λ live. live; committed = λ _. refl }

pub goes_on_same : (s : State) → GoesOn s s
goes_on_same s = record { stays = record { unchanged = λ clean inside. kept_same s; survives = survives_same s }; inside = λ clean inside. inside }

pub was_clean : (a b : State) → Survives a b (λ _. ⊥) → HasCleanDisk b → HasCleanDisk a
was_clean a b h clean = let less = h.clean in omega (arith, less, clean)

module _ (a b c : State) where
  both_survive : Survives a b (λ _. ⊥) → Survives b c (λ _. ⊥) → Survives a c (λ _. ⊥)
  both_survive = survives_then a b c _ _ _ (λ _ db none. none) (λ _ db none. none)

  pub stays_then : GoesOn a b → Stays b c → Stays a c
  stays_then one two = record {
    unchanged = λ clean inside.
        let first = was_clean b c two.survives clean in
        keeps_then a b c (one.stays.unchanged first inside) (two.unchanged clean (one.inside first inside));
    survives = both_survive one.stays.survives two.survives;
  }

  pub goes_then : GoesOn a b → GoesOn b c → GoesOn a c
  goes_then one two = record {
    stays = stays_then one two.stays;
    inside = λ clean inside. two.inside clean (one.inside (was_clean b c two.stays.survives clean) inside);
  }

pub on_err : {A E : Type 0} (P : Type 0) (r : Result A E) → P → OnErr r P
on_err P (Ok x) h = tt
on_err P (Err e) h = h

pub on_ok : {A E : Type 0} (P : Type 0) (r : Result A E) → P → OnOk r P
on_ok P (Ok x) h = h
on_ok P (Err e) h = tt

-- what only the store refuses
pub store_only : {A : Type 0} (r : Result A LedgerFault) → IfErr r (λ fault. fault ≡ Store) → IfErr r (λ fault. IsTrue (is_of_store fault))
store_only (Ok x) h = tt
store_only (Err fault) h = ap is_of_store h

-- a list with the first of others after it, and one more of these
pub one_more : {X : Type 0} (list more : List X) (i : ℕ) (d : X) → i < length more → (list ++ take i more) ++ get_or more i d ∷ [] ≡ list ++ take (i + 1) more
one_more list more i d below = append_assoc list (take i more) (get_or more i d ∷ []) ∙ ap (λ l. list ++ l) (sym (take_more more i d below))

-- where it failed, nothing is said of an answer
pub never_ok : {A E : Type 0} (P : E → Type 0) (Q : Type 0) (r : Result A E) → IsErrAnd r P → OnOk r Q
never_ok P Q (Ok x) is = absurd is
never_ok P Q (Err e) is = tt

pub no_answer : {A E : Type 0} (P : E → Type 0) (Q : A → Type 0) (r : Result A E) → IsErrAnd r P → IfOk r Q
no_answer P Q (Ok x) is = absurd is
no_answer P Q (Err e) is = tt

pub ok_then : {A E : Type 0} (P Q : Type 0) (r : Result A E) → (P → Q) → OnOk r P → OnOk r Q
ok_then P Q (Ok x) f h = f h
ok_then P Q (Err e) f h = tt

-- whatever came of a step, the disk was clean before it if it is clean after it
pub clean_before : {A E : Type 0} (a b : State) (r : Result A E) → OnOk r (GoesOn a b) → OnErr r (Stays a b) → HasCleanDisk b → HasCleanDisk a
clean_before a b (Ok x) ok err clean = was_clean a b ok.stays.survives clean
clean_before a b (Err e) ok err clean = was_clean a b err.survives clean

-- ---- steps

module _ {S : Type 0} (store : Ghosts S) where
  -- a connection before any step
  pub not_begun : (a : MutBor (Held S)) → HasGoneOn store a a
  not_begun a = record { same_reference = refl; goes_on = goes_on_same (state store a.now); stays = tt }

  -- by what one call says of its own
  pub goes : (a b : MutBor (Held S)) → b.ghost_name ≡ a.ghost_name → CommitsNothingInside store a.now b.now
      → (HasCleanDisk (state store b.now) → IsTrue (state store a.now).in_transaction → IsTrue (state store b.now).in_transaction) → LeavesAsBefore store a.now b.now → HasGoneOn store a b
  goes a b same unchanged inside survives = record { same_reference = same; goes_on = record { stays = record { unchanged = unchanged; survives = survives }; inside = inside }; stays = tt }

  pub goes_by_read : (a b : MutBor (Held S)) → b.ghost_name ≡ a.ghost_name → CommitsNothingInside store a.now b.now
      → (HasCleanDisk (state store b.now) → (state store b.now).in_transaction ≡ (state store a.now).in_transaction) → LeavesAsBefore store a.now b.now → HasGoneOn store a b
  goes_by_read a b same unchanged inside survives = goes a b same unchanged (λ clean was. subst IsTrue (sym (inside clean)) was) survives

  pub stops : (a b : MutBor (Held S)) → b.ghost_name ≡ a.ghost_name → CommitsNothingInside store a.now b.now → LeavesAsBefore store a.now b.now → HasStopped store a b
  stops a b same unchanged survives = record { same_reference = same; goes_on = tt; stays = record { unchanged = unchanged; survives = survives } }

  -- the disk was clean before a step if it is clean after it
  pub was : {A E : Type 0} {a b : MutBor (Held S)} {r : Result A E} → IsStep store a b r → HasCleanDisk (state store b.now) → HasCleanDisk (state store a.now)
  was {a = a} {b = b} {r = r} step = clean_before (state store a.now) (state store b.now) r step.goes_on step.stays

  -- the step was done, and this is answered
  pub gone : {A E C D : Type 0} (r : Result C D) {a b : MutBor (Held S)} {x : A} → IsStep {A = A} {E = E} store a b (Ok x) → IsStep store a b r
  gone r one = record { same_reference = one.same_reference; goes_on = on_ok _ r one.goes_on; stays = on_err _ r one.goes_on.stays }

  -- or it failed, and this is refused
  pub stopped : {A E C D : Type 0} (r : Result C D) (P : D → Type 0) {a b : MutBor (Held S)} {e : E} → IsErrAnd r P → IsStep {A = A} {E = E} store a b (Err e) → IsStep store a b r
  stopped r P is one = record { same_reference = one.same_reference; goes_on = never_ok P _ r is; stays = on_err _ r one.stays }

  -- one more was done
  pub and_gone : {A B E F C D : Type 0} (r : Result C D) {a b c : MutBor (Held S)} {x : A} {y : B} → IsStep {A = A} {E = E} store a b (Ok x) → IsStep {A = B} {E = F} store b c (Ok y) → IsStep store a c r
  and_gone r {a} {b} {c} one two =
      let on = goes_then (state store a.now) (state store b.now) (state store c.now) one.goes_on two.goes_on in
      record { same_reference = two.same_reference ∙ one.same_reference; goes_on = on_ok _ r on; stays = on_err _ r on.stays }

  -- one more failed
  pub and_stopped : {A B E F C D : Type 0} (r : Result C D) {a b c : MutBor (Held S)} {x : A} {e : F} → IsStep {A = A} {E = E} store a b (Ok x) → (P : D → Type 0) → IsErrAnd r P → IsStep {A = B} {E = F} store b c (Err e) → IsStep store a c r
  and_stopped r {a} {b} {c} one P is two = record {
    same_reference = two.same_reference ∙ one.same_reference;
    goes_on = never_ok P _ r is;
    stays = on_err _ r (stays_then (state store a.now) (state store b.now) (state store c.now) one.goes_on two.stays);
  }

  -- the last one is what is answered
  pub and_so : {A E C D : Type 0} (r : Result C D) {a b c : MutBor (Held S)} {x : A} → IsStep {A = A} {E = E} store a b (Ok x) → IsStep store b c r → IsStep store a c r
  and_so (Ok y) {a} {b} {c} one two = record {
    same_reference = two.same_reference ∙ one.same_reference;
    goes_on = goes_then (state store a.now) (state store b.now) (state store c.now) one.goes_on two.goes_on;
    stays = tt;
  }
  and_so (Err e) {a} {b} {c} one two = record {
    same_reference = two.same_reference ∙ one.same_reference;
    goes_on = tt;
    stays = stays_then (state store a.now) (state store b.now) (state store c.now) one.goes_on two.stays;
  }

  -- one step more in a loop
  pub and_on : {A E F B : Type 0} {a b c : MutBor (Held S)} {x : A} {y : B} → IsStep {A = A} {E = E} store a b (Ok x) → IsStep {A = B} {E = F} store b c (Ok y) → HasGoneOn store a c
  and_on one two = and_gone (Ok tt) one two

-- ---- what is another's

pub others_same : (db : Database) → KeepsOthers db db
others_same db = record { beside = λ p has. record { schema_is = refl; rows = all_of (λ t. IsOthers db.schema p t → db.trees t.tree ≡ db.trees t.tree) (λ t others. refl) db.schema.tables } }

pub others_then : (a b c : Database) → KeepsOthers a b → KeepsOthers b c → KeepsOthers a c
others_then a b c one two = record {
  beside = λ p has.
      let first = one.beside p has in
      let second = two.beside p (subst (λ s. HasLedgerTables s p) (sym first.schema_is) has) in
      record {
        schema_is = second.schema_is ∙ first.schema_is;
        rows = all_both (λ t. IsOthers a.schema p t → b.trees t.tree ≡ a.trees t.tree) (λ t. IsOthers a.schema p t → c.trees t.tree ≡ b.trees t.tree) (λ t. IsOthers a.schema p t → c.trees t.tree ≡ a.trees t.tree)
            (λ t early late others. late others ∙ early others) a.schema.tables first.rows (subst (λ s. AllByRecursion (λ t. IsOthers s p t → c.trees t.tree ≡ b.trees t.tree) s.tables) first.schema_is second.rows);
      };
}

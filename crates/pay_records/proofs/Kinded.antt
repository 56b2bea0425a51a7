-- Of what kind a database is.
use Rattle.std.proofs.Common.{◌≡◌, ◌≢◌, ◌⊎◌, inl, inr, ℕ, List, [], ◌∷◌, map, flat_map, drop, length, arith, Ok, Err, Result, IfOk, IfErr, refl, sym, ap, ap₂, subst, subst₂, ◌∙◌, IsPermutation}
use Rattle.std.proofs.lemmas.List.Sorted.{IsPermutation-map, length_permutation}
use Rattle.sqlite_resolve.specs.declared.compiled.Compiled.{Compiled}
use Rattle.sqlite_resolve.specs.declared.error.CompileError.{CompileError}
use Rattle.sqlite_resolve.specs.declared.error.CompileError.TheVariants.{NoSuchTable, NoSuchColumn}
use Rattle.sqlite_trees.specs.declared.error.StoreError.{StoreError}
use Rattle.sqlite_trees.specs.declared.error.StoreError.TheVariants as store
use Rattle.sqlite_sql.specs.Query.{Output}
use Rattle.sqlite.specs.declared.error.Error.{Error}
use Rattle.sqlite.specs.declared.error.Error.TheVariants.{SqlInputError}
use Rattle.sqlite.specs.Listing.{understood}
use Rattle.sqlite.specs.Order.{Row, column}
use Rattle.sqlite.specs.Outline.{Outline}
use Rattle.sqlite.specs.Schema.{Schema}
use Rattle.sqlite.specs.Effect.{Database}
use Rattle.sqlite.specs.Program.{overlay}
use Rattle.sqlite.specs.Query.{output, matches, inner, end}
use Rattle.sqlite.specs.State.{State, Shown, IsUnchanged, IsNotRun, IsNoStatement, Fails, store_error, KeepsCommit}
use Rattle.sqlite.specs.Steps.{Outlines}
use Rattle.sqlite.proofs.Callers.{one_permutation, unchanged_then}
use Rattle.pay_records.specs.declared.fault.ReadFault.{ReadFault}
use Rattle.pay_records.specs.declared.kind.DatabaseKind.{DatabaseKind}
use Rattle.pay_records.specs.declared.kind.DatabaseKind.TheVariants as kind
use Rattle.pay_records.specs.declared.kind.Presence.{Presence}
use Rattle.pay_records.specs.declared.kind.Presences.{Presences}
use Rattle.pay_records.specs.declared.kind.Presence.TheVariants.{Missing, There, Partly}
use Rattle.pay_records.specs.Kinds.{presence_of, is_there, together, told_by, shared_in, first_in, second_in, tables_in, kind_by, kind_without, IsKindBy, IsKindOf, IsOfKindBy, IsOfKind}
use Rattle.pay_records.specs.Rows.{LedgerRows, HoldsRows}
use Rattle.pay_records.specs.Free.{IsFree}
use Rattle.pay_records.specs.FirstVersion.{HoldsFirst}
use Rattle.pay_records.specs.Places.{Place, HasTable}
use Rattle.pay_records.specs.Tables.{meta}
use Rattle.pay_records.proofs.Unchanged.{kept_unchanged, kept_not_run}
use Rattle.pay_records.proofs.Selects.{simply}
use Rattle.pay_records.proofs.SelectTexts.{IsQuery, select_meta, meta_query}
use Rattle.pay_records.proofs.Queries.{select_meta_is}
use Rattle.pay_records.proofs.Presences.{shared_there, first_there, second_there}
use Rattle.pay_records.proofs.Missing.{tables_missing, second_missing, those}
use Rattle.pay_records.proofs.Placed.{opened, opened_first}
use Rattle.pay_records.proofs.Answered.{overlay_is, shown_by_query}

outlined : (u : Result Compiled CompileError) (s : Outline) → Outlines u s → presence_of u ≡ There
outlined (Ok c) s h = refl
outlined (Err e) s h = absurd h

no_store_error : (cause : StoreError) (e : CompileError) → SqlInputError e ≡ store_error cause → ⊥
no_store_error store.OutOfMemory e is = cc
no_store_error store.Io e is = cc
no_store_error store.Corrupt e is = cc
no_store_error store.Full e is = cc
no_store_error store.Broken e is = cc
no_store_error store.Unstorable e is = cc

-- a text that is refused as no statement is not understood
refused : (old new : State) (sql : List ℕ) (e : CompileError) → ((params : Row) → IsNotRun old new sql params (SqlInputError e)) → (understood old.now.schema sql ≡ Err e) × IsUnchanged old new
unfolding IsNotRun
refused old new sql e h = go (h [])
  where
    go : (IsNoStatement old sql [] (SqlInputError e) × IsUnchanged old new) ⊎ Fails old new ⊥ (SqlInputError e) → (understood old.now.schema sql ≡ Err e) × IsUnchanged old new
    go (inl (inl none, same)) = let is : none.0 ≡ e = let e = none.2 in cc in (none.1 ∙ ap (λ f. Err f) is, same)
    go (inl (inr (c, is, inl more), same)) = absurd (let e = more.1 in cc)
    go (inl (inr (c, is, inr (inl count)), same)) = absurd (let e = count.1 in cc)
    go (inl (inr (c, is, inr (inr clock)), same)) = absurd (let e = clock.1 in cc)
    go (inr fails) = absurd (no_store_error fails.0 e fails.1)

-- a table is there where its query was prepared; it is missing, or is another's, where the query names no table, or no column
abbrev IsToldBy : Presence → Result Outline Error → Type 0
IsToldBy p r =
    ((statement : Outline) × (r ≡ Ok statement) × (p ≡ There))
    ⊎ (((r ≡ Err (SqlInputError NoSuchTable)) × (p ≡ Missing)) ⊎ ((r ≡ Err (SqlInputError NoSuchColumn)) × (p ≡ Partly)))

told_so : (r : Result Outline Error) → IfOk (told_by r) (λ p. IsToldBy p r)
told_so (Ok statement) = inl (statement, refl, refl)
told_so (Err (SqlInputError NoSuchTable)) = inr (inl (refl, refl))
told_so (Err (SqlInputError NoSuchColumn)) = inr (inr (refl, refl))
told_so (Err _) = tt

module _ (old new : State) (sql : List ℕ) where
  found_by : (r : Result Outline Error) → IfOk r (λ s. (s.text ≡ sql) × IsUnchanged old new) → IfOk r (Outlines (understood old.now.schema sql)) → IfErr r (λ e. (params : Row) → IsNotRun old new sql params e)
      → (p : Presence) → IsToldBy p r → (p ≡ presence_of (understood old.now.schema sql)) × IsUnchanged old new
  found_by (Ok s) ok shape err p (inl told) = (told.2 ∙ sym (outlined _ s shape), ok.1)
  found_by (Ok s) ok shape err p (inr (inl told)) = absurd (let e = told.0 in cc)
  found_by (Ok s) ok shape err p (inr (inr told)) = absurd (let e = told.0 in cc)
  found_by (Err e) ok shape err p (inl told) = absurd (let e = told.1 in cc)
  found_by (Err e) ok shape err p (inr (inl told)) =
      let is : e ≡ SqlInputError NoSuchTable = let e = told.0 in cc in
      let it = refused old new sql NoSuchTable (subst (λ e. (params : Row) → IsNotRun old new sql params e) is err) in
      (told.1 ∙ sym (ap presence_of it.0), it.1)
  found_by (Err e) ok shape err p (inr (inr told)) =
      let is : e ≡ SqlInputError NoSuchColumn = let e = told.0 in cc in
      let it = refused old new sql NoSuchColumn (subst (λ e. (params : Row) → IsNotRun old new sql params e) is err) in
      (told.1 ∙ sym (ap presence_of it.0), it.1)

  pub presence_told : (r : Result Outline Error) → IfOk r (λ s. (s.text ≡ sql) × IsUnchanged old new) → IfOk r (Outlines (understood old.now.schema sql)) → IfErr r (λ e. (params : Row) → IsNotRun old new sql params e)
      → (a : Result Presence ReadFault) → a ≡ told_by r → IfOk a (λ p. (p ≡ presence_of (understood old.now.schema sql)) × IsUnchanged old new)
  presence_told r ok shape err a told = by a (subst (λ a. IfOk a (λ p. IsToldBy p r)) (sym told) (told_so r))
    where
      by : (a : Result Presence ReadFault) → IfOk a (λ p. IsToldBy p r) → IfOk a (λ p. (p ≡ presence_of (understood old.now.schema sql)) × IsUnchanged old new)
      by (Ok p) is = found_by r ok shape err p is
      by (Err e) is = tt

  pub kept_prepared : (r : Result Outline Error) → IfOk r (λ s. (s.text ≡ sql) × IsUnchanged old new) → IfErr r (λ e. (params : Row) → IsNotRun old new sql params e) → KeepsCommit old new
  kept_prepared (Ok s) ok err = kept_unchanged old new ok.1
  kept_prepared (Err e) ok err = kept_not_run old new sql [] e (err [])

-- what is told of rows does not depend on their order
kind_in_order : (there : Presences) (rows others : List Row) → IsPermutation rows others → kind_by there others ≡ kind_by there rows
kind_in_order there rows others same = go rows others (sym (length_permutation rows others same)) same
  where
    go : (rows others : List Row) → length rows ≡ length others → IsPermutation rows others → kind_by there others ≡ kind_by there rows
    go [] [] long same = refl
    go [] (s ∷ others) long same = absurd (cc)
    go (r ∷ []) others long same = ap (kind_by there) (one_permutation r others same)
    go (r ∷ t ∷ rows) [] long same = absurd (cc)
    go (r ∷ t ∷ rows) (s ∷ []) long same = absurd (omega (arith, long))
    go (r ∷ t ∷ rows) (s ∷ u ∷ others) long same = refl

-- the columns of `meta` as the query shows them
meta_of : Row → Row
meta_of r = column r 1 ∷ column r 2 ∷ []

all_of : (tree : ℕ) (rows : List Row) → map (λ (o : Output). o.1) (map (output (meta_query tree)) (flat_map (λ r. ([] ∷ r ∷ []) ∷ []) rows)) ≡ map meta_of rows
unfolding meta_of
all_of tree [] = refl
all_of tree (r ∷ rows) = ap (λ l. meta_of r ∷ l) (all_of tree rows)

kind_after : (there : Presences) (rows : List Row) → kind_by there (map meta_of rows) ≡ kind_by there (map (drop 1) rows)
unfolding meta_of
kind_after there [] = refl
kind_after there ([] ∷ []) = refl
kind_after there ((v ∷ r) ∷ []) = refl
kind_after there (r ∷ s ∷ rows) = refl

meta_told : (there : Presences) (schema : Schema) (tree : ℕ) (names : List (List ℕ)) → IsQuery schema select_meta (meta_query tree) names → (old new : State) (rows : List Row) → Shown select_meta [] old new rows → old.now.schema ≡ schema
    → (kind_by there rows ≡ kind_by there (map (drop 1) (old.now.trees tree))) × IsUnchanged old new
meta_told there schema tree names query old new rows h has =
    let q = meta_query tree in
    let it = shown_by_query schema select_meta q names query [] old new rows has h in
    let db = overlay old.now.trees [] in
    let found = simply q.from [] q.project [] db [] rows it.0 in
    let seen : map (λ (o : Output). o.1) (map (output q) (matches db [] (inner tree end) ([] ∷ []))) ≡ map meta_of (old.now.trees tree) =
    ap (λ r. map (λ (o : Output). o.1) (map (output q) (flat_map (λ r. ([] ∷ r ∷ []) ∷ []) r))) (overlay_is old.now.trees tree) ∙ all_of tree (old.now.trees tree) in
    let same = IsPermutation-map (λ (o : Output). o.1) _ _ found.same in
    (ap (kind_by there) found.shown ∙ kind_in_order there _ _ (subst (λ l. IsPermutation l (map (λ (o : Output). o.1) found.ordered)) seen same) ∙ kind_after there (old.now.trees tree), it.1)

module _ (old between new : State) where
  pub kind_where_all : IsUnchanged old between → (rows : List Row) → Shown select_meta [] between new rows → (there : Presences) → there ≡ tables_in old.now.schema → there.shared ≡ There → (k : DatabaseKind) → k ≡ kind_by there rows → IsKindOf old new k
  kind_where_all first rows h there are all k told =
      let same : between.now ≡ old.now = first.0.now_is in
      let shared : There ≡ shared_in old.now.schema = sym all ∙ ap (λ (p : Presences). p.shared) are in
      subst₂ (λ t p. IsKindBy old new t p k) are shared (λ place has.
      let query = select_meta_is old.now.schema place has in
      let it = meta_told there old.now.schema place.table.tree _ query between new rows h (ap (λ d. d.schema) same) in
      (told ∙ it.0 ∙ ap (λ d. kind_by there (map (drop 1) (d.trees place.table.tree))) same, unchanged_then old between new first it.1))

module _ (old new : State) where
  -- where one of those of both versions is missing, or is another's
  kind_by_less : (there : Presences) (p : Presence) (k : DatabaseKind) → p ≢ There → (k ≡ kind_without there) × IsUnchanged old new → IsKindBy old new there p k
  kind_by_less there Missing k other h = h
  kind_by_less there Partly k other h = h
  kind_by_less there There k other h = absurd (other refl)

  pub kind_where_less : IsUnchanged old new → (there : Presences) → there ≡ tables_in old.now.schema → there.shared ≢ There → (k : DatabaseKind) → k ≡ kind_without there → IsKindOf old new k
  kind_where_less same there are other k told =
      subst (λ t. IsKindBy old new t t.shared k) are (kind_by_less there there.shared k other (told, same))

  pub kind_of_blank : (k : DatabaseKind) → IsKindOf old new k → IsFree old.now → (k ≡ kind.Blank) × IsUnchanged old new
  kind_of_blank k h free =
      let none = tables_missing old.now free in
      subst (λ t. IsKindBy old new t t.shared k) none h

  -- by the version in `meta`
  kind_at : (there : Presences) → There ≡ shared_in old.now.schema → there ≡ tables_in old.now.schema → (k : DatabaseKind) → IsKindOf old new k → (place : Place) → HasTable old.now.schema place meta
      → (k ≡ kind_by there (map (drop 1) (old.now.trees place.table.tree))) × IsUnchanged old new
  kind_at there all are k h place has = (subst₂ (λ t p. IsKindBy old new t p k) (sym are) (sym all) h) place has

  pub kind_of_ledger : (k : DatabaseKind) → IsKindOf old new k → (rows : LedgerRows) → HoldsRows old.now rows → (k ≡ kind.Ledger) × IsUnchanged old new
  kind_of_ledger k h rows held =
      let at = opened old.now rows held in
      let there = those There (first_in old.now.schema) There in
      let shared = shared_there old.now.schema at.0.meta at.0.taps at.0.fixes at.1.has_meta at.1.has_taps at.1.has_fixes in
      let second = second_there old.now.schema at.0.postings at.0.shares at.1.has_postings at.1.has_shares in
      let are : there ≡ tables_in old.now.schema = sym (ap₂ (λ a b. those a (first_in old.now.schema) b) shared second) in
      let it = kind_at there (sym shared) are k h at.0.meta at.1.has_meta in
      (it.0 ∙ ap (kind_by there) at.2.meta, it.1)

  pub kind_of_first : (k : DatabaseKind) → IsKindOf old new k → (rows : LedgerRows) → HoldsFirst old.now rows → (k ≡ kind.First) × IsUnchanged old new
  kind_of_first k h rows held =
      let at = opened_first old.now rows held in
      let there = those There There Missing in
      let shared = shared_there old.now.schema at.0.meta at.0.taps at.0.fixes at.1.has_meta at.1.has_taps at.1.has_fixes in
      let first = first_there old.now.schema at.0.postings at.0.shares at.1.has_postings at.1.has_shares in
      let second = second_missing old.now.schema at.2.no_new.0 at.2.no_new.1.0 in
      let are : there ≡ tables_in old.now.schema = sym (ap₂ (λ a b. those a b (second_in old.now.schema)) shared first ∙ ap (those There There) second) in
      let it = kind_at there (sym shared) are k h at.0.meta at.1.has_meta in
      (it.0 ∙ ap (λ rows. kind_by there (map (drop 1) rows)) at.3.meta.1, it.1)

  kind_alone : (there : Presences) (p : Presence) (k : DatabaseKind) → IsKindBy old new there p k → IsOfKindBy old.now there p k
  kind_alone there Missing k h = h.0
  kind_alone there Partly k h = h.0
  kind_alone there There k h = λ place has. (h place has).0

  pub is_of_kind : (k : DatabaseKind) → IsKindOf old new k → IsOfKind old.now k
  is_of_kind k h = kind_alone (tables_in old.now.schema) (shared_in old.now.schema) k h

-- tables beside others, each asked for in its turn
module _ (asked : Schema → Presence) (old first second third : State) (other another : List ℕ) (a b c : Presence) where
  pub three_more : (a ≡ asked old.now.schema) × IsUnchanged old first → (b ≡ presence_of (understood first.now.schema other)) × IsUnchanged first second → (c ≡ presence_of (understood second.now.schema another)) × IsUnchanged second third
      → (two all : Presence) → two ≡ together a b → all ≡ together two c
      → (all ≡ together (together (asked old.now.schema) (is_there old.now.schema other)) (is_there old.now.schema another)) × IsUnchanged old third
  three_more one next last two all two_are all_are =
      let begun : first.now ≡ old.now = one.1.0.now_is in
      let gone : second.now ≡ old.now = next.1.0.now_is ∙ begun in
      let there : b ≡ is_there old.now.schema other = next.0 ∙ ap (λ (d : Database). is_there d.schema other) begun in
      let beyond : c ≡ is_there old.now.schema another = last.0 ∙ ap (λ (d : Database). is_there d.schema another) gone in
      (all_are ∙ ap₂ together (two_are ∙ ap₂ together one.0 there) beyond, unchanged_then old second third (unchanged_then old first second one.1 next.1) last.1)

module _ (old first second third : State) (text other another : List ℕ) (a b c : Presence) where
  pub three_tables : (a ≡ presence_of (understood old.now.schema text)) × IsUnchanged old first → (b ≡ presence_of (understood first.now.schema other)) × IsUnchanged first second → (c ≡ presence_of (understood second.now.schema another)) × IsUnchanged second third
      → (two all : Presence) → two ≡ together a b → all ≡ together two c
      → (all ≡ together (together (is_there old.now.schema text) (is_there old.now.schema other)) (is_there old.now.schema another)) × IsUnchanged old third
  three_tables = three_more (λ schema. is_there schema text) old first second third other another a b c

module _ (old first second : State) (text other : List ℕ) (a b : Presence) where
  pub two_tables : (a ≡ presence_of (understood old.now.schema text)) × IsUnchanged old first → (b ≡ presence_of (understood first.now.schema other)) × IsUnchanged first second
      → (both : Presence) → both ≡ together a b → (both ≡ together (is_there old.now.schema text) (is_there old.now.schema other)) × IsUnchanged old second
  two_tables one next both both_are =
      let begun : first.now ≡ old.now = one.1.0.now_is in
      let there : b ≡ is_there old.now.schema other = next.0 ∙ ap (λ (d : Database). is_there d.schema other) begun in
      (both_are ∙ ap₂ together one.0 there, unchanged_then old first second one.1 next.1)

-- all seven
module _ (old first second third : State) (a b c : Presence) where
  pub seven_tables : (a ≡ shared_in old.now.schema) × IsUnchanged old first → (b ≡ first_in first.now.schema) × IsUnchanged first second → (c ≡ second_in second.now.schema) × IsUnchanged second third
      → (those a b c ≡ tables_in old.now.schema) × IsUnchanged old third
  seven_tables one next last =
      let begun : first.now ≡ old.now = one.1.0.now_is in
      let gone : second.now ≡ old.now = next.1.0.now_is ∙ begun in
      let own : b ≡ first_in old.now.schema = next.0 ∙ ap (λ (d : Database). first_in d.schema) begun in
      let new : c ≡ second_in old.now.schema = last.0 ∙ ap (λ (d : Database). second_in d.schema) gone in (
        ap (λ p. those p b c) one.0 ∙ ap₂ (those (shared_in old.now.schema)) own new,
        unchanged_then old second third (unchanged_then old first second one.1 next.1) last.1,
      )

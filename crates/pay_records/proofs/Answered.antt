-- What each SELECT of the ledger shows.
use Rattle.std.proofs.Common.{◌≡◌, ℕ, ℤ, pos, Bool, true, false, cond, ◌&&◌, ◌<ℤ◌, int_le, Ok, List, [], ◌∷◌, ◌++◌, map, filter, flat_map, drop, Option, Some, None, unwrap_or, ◌^◌, refl, sym, ap, ap₂, subst, ◌∙◌, arith, Less, Equal, IsPermutation}
use Rattle.std.specs.List.{AllByRecursion, list_all}
use Rattle.std.specs.Ordering.{int_eq, int_cmp, ordering_then}
use Rattle.pay_records.proofs.Rises.{below}
use Rattle.std.proofs.lemmas.Int.{ints}
use Rattle.std.proofs.lemmas.List.Sorted.{IsPermutation-map, All-permutation}
use Rattle.sqlite_trees.specs.Tree.{IsAscending}
use Rattle.sqlite_value.proofs.OrderLemmas.{value_cmp-Int}
use Rattle.sqlite_keyed.proofs.ListLemmas.{map-map, map_same, filter-map, flat_map-map, ascending-map, ascending-filter, ascending_weaker, all_weaker, all-map, filter_same, map-flat_map, flat_map_same_on}
use Rattle.std.proofs.lemmas.List.Elements.{recursion_from_All, All-from_recursion}
use Rattle.sqlite_keyed.proofs.SortLemmas.{sorted_unique}
use Rattle.sqlite_sql.specs.Query.{Output, matches_as}
use Rattle.sqlite_sql.proofs.QueryLemmas.{output_cmp_total}
use Rattle.sqlite_sql.specs.Term.{holds, eval_all}
use Rattle.sqlite.specs.declared.types.Value.{Value}
use Rattle.sqlite.specs.declared.types.Value.TheVariants.{Null, Int}
use Rattle.sqlite.specs.Order.{Row, value_cmp, column}
use Rattle.std.specs.Prelude.{nat_le}
use Rattle.sqlite.specs.Schema.{Schema}
use Rattle.sqlite.specs.Tree.{Trees}
use Rattle.sqlite.specs.Term.{Term, Env, col}
use Rattle.sqlite.specs.Query.{Query, IsAnswer, output, output_cmp, inner, end, matches}
use Rattle.sqlite_sql.specs.Ops.{binary, is_true, from_truth, test}
use Rattle.sqlite_sql.specs.declared.ops.CompareOp.{CompareOp}
use Rattle.sqlite_sql.specs.declared.ops.CompareOp.TheVariants.{Eq, Ge, Le}
use Rattle.sqlite_sql.specs.declared.ops.BinaryOp.TheVariants.{Compare}
use Rattle.sqlite_value.specs.declared.keys.Collation.TheVariants.{Binary}
use Rattle.sqlite.specs.Clock.{timed}
use Rattle.sqlite.specs.Listing.{understood}
use Rattle.sqlite.specs.State.{State, Shown, ShowsRows, IsUnchanged}
use Rattle.sqlite.specs.Program.{overlay}
use Rattle.sqlite.proofs.Callers.{IsPlain}
use Rattle.pay_rows.specs.declared.row.PostingRow.{PostingRow}
use Rattle.pay_rows.specs.declared.row.ShareRow.{ShareRow}
use Rattle.pay_rows.specs.declared.row.TapRow.{TapRow}
use Rattle.pay_rows.specs.declared.row.FixRow.{FixRow}
use Rattle.pay_records.specs.Rows.{LedgerRows, HoldsRows, RiseFrom, AreNumbers, share_numbers, tap_numbers, fix_numbers, posting_row}
use Rattle.pay_records.specs.Found.{is_between, shares_between, taps_between, fixes_between, posted_accounts, tapped_accounts, fixed_accounts}
use Rattle.pay_records.proofs.SelectTexts.{IsQuery, is_between_given, by_rowid, select_postings, select_shares, select_taps, select_fixes, select_all_taps, select_all_fixes, select_posted_accounts, select_tapped_accounts, select_fixed_accounts, posted_accounts_query, accounts_query, postings_query, shares_query, taps_query, fixes_query, all_taps_query, all_fixes_query}
use Rattle.pay_records.proofs.Queries.{select_postings_is, select_taps_is, select_fixes_is, select_all_taps_is, select_all_fixes_is, select_posted_accounts_is, select_tapped_accounts_is, select_fixed_accounts_is}
use Rattle.pay_records.proofs.Joining.{select_shares_is}
use Rattle.pay_records.proofs.Placed.{opened}
use Rattle.pay_records.proofs.Selects.{simple, simply, answers}

-- each way to put a table's rows beside what stands already that passes a test
passing : {X : Type 0} (tree : ℕ) (test : List Term) (env : Env) (db : Trees) (row : X → Row) (pass : X → Bool) → ((x : X) → list_all (holds (env ++ row x ∷ [])) test ≡ pass x)
    → (list : List X) → db tree ≡ map row list → matches db test (inner tree end) env ≡ map (λ x. env ++ row x ∷ []) (filter pass list)
passing {X} tree test env db row pass agrees list is =
    ap (flat_map (λ r. matches_as Null db test end (env ++ r ∷ []))) is ∙ go list
  where
    go : (list : List X) → flat_map (λ r. matches_as Null db test end (env ++ r ∷ [])) (map row list) ≡ map (λ x. env ++ row x ∷ []) (filter pass list)
    go [] = refl
    go (x ∷ xs) =
        ap₂ (λ b (l : List Env). cond b ((env ++ row x ∷ []) ∷ []) [] ++ l) (agrees x) (go xs)
        ∙ elim (pass x) as (λ b. cond b ((env ++ row x ∷ []) ∷ []) [] ++ map (λ x. env ++ row x ∷ []) (filter pass xs) ≡ map (λ x. env ++ row x ∷ []) (cond b (x ∷ filter pass xs) (filter pass xs))) [ true ↦ refl | false ↦ refl ]

-- rows of whole numbers, each with its rowid
pub numbered : {X : Type 0} (numbers : X → List ℤ) (low : ℤ) (rows : List Row) (list : List X) → RiseFrom low rows → map (drop 1) rows ≡ map (λ x. map Int (numbers x)) list
    → (ids : List (ℤ × X)) × (rows ≡ map (λ (p : ℤ × X). Int p.0 ∷ map Int (numbers p.1)) ids) × (map (λ (p : ℤ × X). p.1) ids ≡ list)
numbered numbers low [] [] up is = ([], refl, refl)
numbered numbers low [] (x ∷ xs) up is = absurd (cc)
numbered numbers low (r ∷ rs) [] up is = absurd (cc)
numbered numbers low ([] ∷ rs) (x ∷ xs) up is = absurd (let e = up.1 in cc)
numbered numbers low ((v ∷ vs) ∷ rs) (x ∷ xs) up is =
    let rest = numbered numbers up.0 rs xs up.3 (cc) in
    let id : v ≡ Int up.0 = up.1 in
    let tail : vs ≡ map Int (numbers x) = cc in
    ((up.0, x) ∷ rest.0, ap₂ (λ (r : Row) (l : List Row). r ∷ l) (ap₂ (λ (a : Value) (b : Row). a ∷ b) id tail) rest.1, ap (λ l. x ∷ l) rest.2)

-- a column against another one, or against a parameter
compared_numbers : (op : CompareOp) (a b : ℤ) → is_true (binary (Compare op Binary) (Int a) (Int b)) ≡ test op (int_cmp a b)
unfolding binary
compared_numbers op a b = go (test op (value_cmp (Int a) (Int b))) ∙ ap (test op) (value_cmp-Int a b)
  where
    go : (b : Bool) → is_true (from_truth (Some b)) ≡ b
    go true = refl
    go false = refl

at_least : (a b : ℤ) → test Ge (int_cmp a b) ≡ int_le b a
at_least a b = grind (arith, ints)

at_most : (a b : ℤ) → test Le (int_cmp a b) ≡ int_le a b
at_most a b = grind (arith, ints)

and_true : (b : Bool) → b && true ≡ b
and_true true = refl
and_true false = refl

-- an account that is between the parameters
between_holds : (from through account : ℤ) → is_true (binary (Compare Ge Binary) (Int account) (Int from)) && (is_true (binary (Compare Le Binary) (Int account) (Int through)) && true) ≡ is_between from through account
between_holds from through account = ap₂ ◌&&◌ (compared_numbers Ge account from ∙ at_least account from) (and_true _ ∙ compared_numbers Le account through ∙ at_most account through)

-- a query with no tables of its own reads those of the database
no_table : (b : Bool) → ◌≡◌ {A = Option (List Row)} (cond b None None) None
no_table true = refl
no_table false = refl

pub overlay_is : (db : Trees) (t : ℕ) → overlay db [] t ≡ db t
overlay_is db t = ap (λ o. unwrap_or o (db t)) (no_table (nat_le (2 ^ 31) t))

-- what a text that is a query shows, and that it changes nothing
pub shown_by_query : (schema : Schema) (text : List ℕ) (q : Query) (names : List (List ℕ)) → IsQuery schema text q names → (params : Row) (old new : State) (rows : List Row) → old.now.schema ≡ schema
    → Shown text params old new rows → IsAnswer q (overlay old.now.trees []) params rows × IsUnchanged old new
unfolding Shown
shown_by_query schema text q names it params old new rows has h =
    let known : understood schema text ≡ Ok h.0 = sym (ap (λ s. understood s text) has) ∙ h.1.is in
    let none = (subst IsPlain known it.plain).0 in
    (answers text schema q names it.command it.plain it.unlisted params old new rows has h, (subst (ShowsRows old new text h.0 (timed params h.0.formats h.1.now) rows) none h.2).3)

-- Rows of these whole numbers were shown, in some order, and nothing changed.
pub record Shows {X : Type 0} (shown : X → List ℤ) (found : List X) (old new : State) (rows : List Row) : Type 0 where
  pub same : IsPermutation (map (λ x. map Int (shown x)) found) rows
  pub unchanged : IsUnchanged old new

-- what they tell is what they were
pub told_in_some_order : {X Y : Type 0} (shown : X → List ℤ) (tell : Row → Y) (of : X → Y) → ((x : X) → tell (map Int (shown x)) ≡ of x) → (found : List X) (old new : State) (rows : List Row)
    → Shows shown found old new rows → IsPermutation (map of found) (map tell rows)
told_in_some_order shown tell of tells found old new rows h =
    subst (λ l. IsPermutation l (map tell rows)) (map-map tell (λ x. map Int (shown x)) found ∙ map_same (λ x. tell (map Int (shown x))) of tells found) (IsPermutation-map tell _ _ h.same)

pub each_shown : {X : Type 0} (shown : X → List ℤ) (P : Row → Type 0) → ((x : X) → P (map Int (shown x))) → (found : List X) (old new : State) (rows : List Row) → Shows shown found old new rows → AllByRecursion P rows
each_shown shown P each found old new rows h = recursion_from_All P rows (All-permutation P _ rows h.same (All-from_recursion P _ (all-map P (λ x. map Int (shown x)) each found)))

pub every : {X : Type 0} (xs : List X) → filter (λ _. true) xs ≡ xs
every [] = refl
every (x ∷ xs) = ap (λ l. x ∷ l) (every xs)

-- ---- shares: each posting of a stretch beside each of its shares

-- a test of all at once
filter_if : {X : Type 0} (p : X → Bool) (b : Bool) (xs : List X) → filter (λ x. p x && b) xs ≡ cond b (filter p xs) []
filter_if p true xs = filter_same (λ x. p x && true) p (λ x. and_true (p x)) xs
filter_if p false [] = refl
filter_if p false (x ∷ xs) = go (p x) (filter_if p false xs)
  where
    go : (b : Bool) → filter (λ x. p x && false) xs ≡ [] → cond (b && false) (x ∷ filter (λ x. p x && false) xs) (filter (λ x. p x && false) xs) ≡ []
    go true none = none
    go false none = none

flat_map_if : {X Y : Type 0} (pass : X → Bool) (of : X → List Y) (xs : List X) → flat_map (λ x. cond (pass x) (of x) []) xs ≡ flat_map of (filter pass xs)
flat_map_if pass of [] = refl
flat_map_if pass of (x ∷ xs) = ap (λ l. cond (pass x) (of x) [] ++ l) (flat_map_if pass of xs) ∙ go (pass x)
  where
    go : (b : Bool) → cond b (of x) [] ++ flat_map of (filter pass xs) ≡ flat_map of (cond b (x ∷ filter pass xs) (filter pass xs))
    go true = refl
    go false = refl

map_if : {X Y : Type 0} (f : X → Y) (b : Bool) (xs : List X) → map f (cond b xs []) ≡ cond b (map f xs) []
map_if f true xs = refl
map_if f false xs = refl

share_env : Row → ℤ × ℤ × PostingRow → ℤ × ShareRow → Env
share_env params p s = params ∷ posting_row p ∷ (Int s.0 ∷ map Int (share_numbers s.1)) ∷ []

abbrev is_of : ℤ × ℤ × PostingRow → ShareRow → Bool
is_of p s = int_eq s.posting p.0

-- a share beside its account
abbrev pub beside_share : ℤ × ShareRow → List ℤ
beside_share s = s.0 ∷ share_numbers s.1

-- those of each posting
abbrev shown_with : List ShareRow → ℤ × ℤ × PostingRow → List Row
shown_with shares p = map (λ s. map Int (beside_share (p.1, s))) (filter (is_of p) shares)

shown_between : (from through : ℤ) (l : LedgerRows) → flat_map (shown_with l.shares) (filter (λ (p : ℤ × ℤ × PostingRow). is_between from through p.1) l.postings) ≡ map (λ s. map Int (beside_share s)) (shares_between from through l)
shown_between from through l =
    let some = filter (λ (p : ℤ × ℤ × PostingRow). is_between from through p.1) l.postings in
    let beside : ℤ × ℤ × PostingRow → ℤ × (ℤ × PostingRow) = λ (p : ℤ × ℤ × PostingRow). (p.1, (p.0, p.2)) in
    let of : ℤ × (ℤ × PostingRow) → List (ℤ × ShareRow) = λ (p : ℤ × (ℤ × PostingRow)). map (λ (s : ShareRow). (p.0, s)) (filter (λ (s : ShareRow). int_eq s.posting p.1.0) l.shares) in
    flat_map_same_on (shown_with l.shares) (λ p. map (λ s. map Int (beside_share s)) (of (beside p))) (λ p. sym (map-map (λ s. map Int (beside_share s)) (λ (s : ShareRow). (p.1, s)) (filter (is_of p) l.shares))) some
    ∙ sym (map-flat_map (λ s. map Int (beside_share s)) (λ p. of (beside p)) some)
    ∙ ap (map (λ s. map Int (beside_share s))) (sym (flat_map-map of beside some))

pub shares_shown_in : (schema : Schema) (first second : ℕ) (names : List (List ℕ)) → IsQuery schema select_shares (shares_query first second) names → (from through : ℤ) (old new : State) (rows : List Row) → old.now.schema ≡ schema
    → Shown select_shares (Int from ∷ Int through ∷ []) old new rows → (l : LedgerRows) → old.now.trees first ≡ map posting_row l.postings → AreNumbers (old.now.trees second) (map share_numbers l.shares)
    → Shows beside_share (shares_between from through l) old new rows
unfolding share_env
shares_shown_in schema first second names query from through old new rows has h l postings shares =
    let params = Int from ∷ Int through ∷ [] in
    let db = overlay old.now.trees [] in
    let q = shares_query first second in
    let it = shown_by_query schema select_shares q names query params old new rows has h in
    let found = simply q.from q.filter q.project [] db params rows it.0 in
    let known = numbered share_numbers (pos 0) (old.now.trees second) l.shares shares.rising (shares.are ∙ map-map (map Int) share_numbers l.shares) in
    let row : ℤ × ShareRow → Row = λ (s : ℤ × ShareRow). Int s.0 ∷ map Int (share_numbers s.1) in
    let of : Row → List Env = λ r. matches db q.filter (inner second end) (params ∷ r ∷ []) in
    let show : Env → Row = λ env. (output q env).1 in
    let pass : ℤ × ℤ × PostingRow → Bool = λ (p : ℤ × ℤ × PostingRow). is_between from through p.1 in
    let passes : ℤ × ℤ × PostingRow → ShareRow → Bool = λ p s. is_of p s && pass p in
    let one : (p : ℤ × ℤ × PostingRow) → map show (of (posting_row p)) ≡ cond (pass p) (shown_with l.shares p) [] = λ p.
    let beside : ShareRow → Row = λ s. map Int (beside_share (p.1, s)) in
    ap (map show) (passing second q.filter (params ∷ posting_row p ∷ []) db row (λ s. passes p s.1) (λ s. ap₂ ◌&&◌ (compared_numbers Eq s.1.posting p.0) (between_holds from through p.1)) known.0 (overlay_is old.now.trees second ∙ known.1))
    ∙ map-map show (share_env params p) (filter (λ s. passes p s.1) known.0)
    ∙ sym (map-map beside (λ (s : ℤ × ShareRow). s.1) (filter (λ s. passes p s.1) known.0))
    ∙ ap (map beside) (sym (filter-map (passes p) (λ (s : ℤ × ShareRow). s.1) known.0) ∙ ap (filter (passes p)) known.2 ∙ filter_if (is_of p) (pass p) l.shares)
    ∙ map_if beside (pass p) (filter (is_of p) l.shares) in
    let seen : map (λ (o : Output). o.1) (map (output q) (matches db q.filter q.from (params ∷ []))) ≡ map (λ s. map Int (beside_share s)) (shares_between from through l) =
    map-map (λ (o : Output). o.1) (output q) _
    ∙ ap (λ r. map show (flat_map of r)) (overlay_is old.now.trees first ∙ postings)
    ∙ map-flat_map show of (map posting_row l.postings)
    ∙ flat_map-map (λ r. map show (of r)) posting_row l.postings
    ∙ flat_map_same_on (λ p. map show (of (posting_row p))) (λ p. cond (pass p) (shown_with l.shares p) []) one l.postings
    ∙ flat_map_if pass (shown_with l.shares) l.postings
    ∙ shown_between from through l in
    record {
      same = subst (λ l. IsPermutation l rows) seen (subst (λ r. IsPermutation (map (λ (o : Output). o.1) (map (output q) (matches db q.filter q.from (params ∷ [])))) r) (sym found.shown) (IsPermutation-map (λ (o : Output). o.1) _ _ found.same));
      unchanged = it.1;
    }

pub shares_shown : (from through : ℤ) (old new : State) (rows : List Row) → Shown select_shares (Int from ∷ Int through ∷ []) old new rows → (l : LedgerRows) → HoldsRows old.now l
    → Shows beside_share (shares_between from through l) old new rows
shares_shown from through old new rows h l held =
    let at = opened old.now l held in
    shares_shown_in old.now.schema at.0.postings.table.tree at.0.shares.table.tree _ (select_shares_is old.now.schema at.0.postings at.0.shares at.1.has_postings at.1.has_shares) from through old new rows refl h l at.2.postings at.2.shares

-- ---- in the order in which rows were written

module _ {Y : Type 0} (row : Y → Row) (id : Y → ℤ) (id_is : (y : Y) → column (row y) 0 ≡ Int (id y)) where
  abbrev rises : Y → Y → Type 0
  rises y z = id y <ℤ id z

  ascending : (low : ℤ) (ys : List Y) → RiseFrom low (map row ys) → AllByRecursion (λ y. low <ℤ id y) ys × IsAscending rises ys
  ascending low [] up = (tt, tt)
  ascending low (y ∷ ys) up =
      let same : id y ≡ up.0 = let e = sym (id_is y) ∙ up.1 in cc in
      let rest = ascending up.0 ys up.3 in
      let first : low <ℤ id y = subst (λ n. low <ℤ n) (sym same) up.2 in
      ((first, all_weaker (λ z. up.0 <ℤ id z) (λ z. low <ℤ id z) (λ z more. let here = up.2 in omega (arith, ints)) ys rest.0), (subst (λ n. AllByRecursion (λ z. n <ℤ id z) ys) (sym same) rest.0, rest.1))

  pub in_order : (tree : ℕ) (test project : List Term) (params : Row) (db : Trees) (pass : Y → Bool) → ((y : Y) → list_all (holds (params ∷ row y ∷ [])) test ≡ pass y) → (list : List Y) → db tree ≡ map row list
      → RiseFrom (pos 0) (map row list) → (rows : List Row) → IsAnswer (simple (inner tree end) test project by_rowid) db params rows → rows ≡ map (λ y. eval_all project (params ∷ row y ∷ [])) (filter pass list)
  in_order tree test project params db pass agrees list is up rows answer =
      let q = simple (inner tree end) test project by_rowid in
      let found = simply q.from test project by_rowid db params rows answer in
      let env : Y → Env = λ y. params ∷ row y ∷ [] in
      let shown = filter pass list in
      let all : map (output q) (matches db test q.from (params ∷ [])) ≡ map (λ y. output q (env y)) shown = ap (map (output q)) (passing tree test (params ∷ []) db row pass agrees list is) ∙ map-map (output q) env shown in
      let strict : IsAscending (λ a b. output_cmp q a b ≡ Less) (map (λ y. output q (env y)) shown) =
      ascending-map (λ a b. output_cmp q a b ≡ Less) (λ y. output q (env y)) shown (ascending_weaker rises (λ a b. output_cmp q (output q (env a)) (output q (env b)) ≡ Less)
      (λ a b less. ap₂ (λ v w. ordering_then (value_cmp v w) Equal) (id_is a) (id_is b) ∙ ap (λ o. ordering_then o Equal) (below (id a) (id b) less)) shown (ascending-filter rises pass list (ascending (pos 0) list up).1)) in
      let only : found.ordered ≡ map (λ y. output q (env y)) shown = sorted_unique (output_cmp q) (output_cmp_total q) _ _ strict (subst (λ l. IsPermutation l found.ordered) all found.same) found.sorted in
      found.shown ∙ ap (map (λ (o : Output). o.1)) only ∙ map-map (λ (o : Output). o.1) (λ y. output q (env y)) shown

-- Rows of these whole numbers were shown, in this order, and nothing changed.
pub record ShowsInOrder {X : Type 0} (shown : X → List ℤ) (found : List X) (old new : State) (rows : List Row) : Type 0 where
  pub are : rows ≡ map (λ x. map Int (shown x)) found
  pub unchanged : IsUnchanged old new

-- what they tell is what they were
pub told_in_order : {X Y : Type 0} (shown : X → List ℤ) (tell : Row → Y) (of : X → Y) → ((x : X) → tell (map Int (shown x)) ≡ of x) → (found : List X) (old new : State) (rows : List Row)
    → ShowsInOrder shown found old new rows → map tell rows ≡ map of found
told_in_order shown tell of tells found old new rows h = ap (map tell) h.are ∙ map-map tell (λ x. map Int (shown x)) found ∙ map_same (λ x. tell (map Int (shown x))) of tells found

pub each_in_order : {X : Type 0} (shown : X → List ℤ) (P : Row → Type 0) → ((x : X) → P (map Int (shown x))) → (found : List X) (old new : State) (rows : List Row) → ShowsInOrder shown found old new rows → AllByRecursion P rows
each_in_order shown P each found old new rows h = subst (AllByRecursion P) (sym h.are) (all-map P (λ x. map Int (shown x)) each found)

-- what is shown of a table of whole numbers in the order of its rowids
module _ {X : Type 0} (numbers shown : X → List ℤ) (pass : X → Bool) (tree : ℕ) (test project : List Term) (params : Row) where
  shows_in_order : ((id : ℤ) (x : X) → list_all (holds (params ∷ (Int id ∷ map Int (numbers x)) ∷ [])) test ≡ pass x)
      → ((id : ℤ) (x : X) → eval_all project (params ∷ (Int id ∷ map Int (numbers x)) ∷ []) ≡ map Int (shown x))
      → (db : Trees) (list : List X) → AreNumbers (db tree) (map numbers list) → (rows : List Row) → IsAnswer (simple (inner tree end) test project by_rowid) db params rows
      → rows ≡ map (λ x. map Int (shown x)) (filter pass list)
  shows_in_order agrees told db list are rows answer =
      let row : ℤ × X → Row = λ (p : ℤ × X). Int p.0 ∷ map Int (numbers p.1) in
      let known = numbered numbers (pos 0) (db tree) list are.rising (are.are ∙ map-map (map Int) numbers list) in
      in_order row (λ (p : ℤ × X). p.0) (λ p. refl) tree test project params db (λ p. pass p.1) (λ p. agrees p.0 p.1) known.0 known.1 (subst (RiseFrom (pos 0)) known.1 are.rising) rows answer
      ∙ map_same (λ (p : ℤ × X). eval_all project (params ∷ row p ∷ [])) (λ (p : ℤ × X). map Int (shown p.1)) (λ p. told p.0 p.1) (filter (λ p. pass p.1) known.0)
      ∙ sym (map-map (λ x. map Int (shown x)) (λ (p : ℤ × X). p.1) (filter (λ p. pass p.1) known.0))
      ∙ ap (map (λ x. map Int (shown x))) (sym (filter-map pass (λ (p : ℤ × X). p.1) known.0) ∙ ap (filter pass) known.2)

-- the rows of a table as a query reads them
over : (db : Trees) (tree : ℕ) (numbers : List (List ℤ)) → AreNumbers (db tree) numbers → AreNumbers (overlay db [] tree) numbers
over db tree numbers are = subst (λ r. AreNumbers r numbers) (sym (overlay_is db tree)) are

pub taps_shown_in : (schema : Schema) (tree : ℕ) (names : List (List ℕ)) → IsQuery schema select_taps (taps_query tree) names → (from through : ℤ) (old new : State) (rows : List Row) → old.now.schema ≡ schema
    → Shown select_taps (Int from ∷ Int through ∷ []) old new rows → (all : List (ℤ × TapRow)) → AreNumbers (old.now.trees tree) (map tap_numbers all)
    → ShowsInOrder tap_numbers (filter (λ (t : ℤ × TapRow). is_between from through t.0) all) old new rows
taps_shown_in schema tree names query from through old new rows has h all are =
    let params = Int from ∷ Int through ∷ [] in
    let it = shown_by_query schema select_taps (taps_query tree) names query params old new rows has h in
    record {
      are = shows_in_order tap_numbers tap_numbers (λ (t : ℤ × TapRow). is_between from through t.0) tree (is_between_given 1) (taps_query tree).project params
          (λ id t. between_holds from through t.0) (λ id t. refl) (overlay old.now.trees []) all (over old.now.trees tree (map tap_numbers all) are) rows it.0;
      unchanged = it.1;
    }

pub taps_shown : (from through : ℤ) (old new : State) (rows : List Row) → Shown select_taps (Int from ∷ Int through ∷ []) old new rows → (l : LedgerRows) → HoldsRows old.now l
    → ShowsInOrder tap_numbers (taps_between from through l) old new rows
taps_shown from through old new rows h l held =
    let at = opened old.now l held in
    taps_shown_in old.now.schema at.0.taps.table.tree _ (select_taps_is old.now.schema at.0.taps at.1.has_taps) from through old new rows refl h l.taps at.2.taps

pub fixes_shown_in : (schema : Schema) (tree : ℕ) (names : List (List ℕ)) → IsQuery schema select_fixes (fixes_query tree) names → (from through : ℤ) (old new : State) (rows : List Row) → old.now.schema ≡ schema
    → Shown select_fixes (Int from ∷ Int through ∷ []) old new rows → (all : List (ℤ × FixRow)) → AreNumbers (old.now.trees tree) (map fix_numbers all)
    → ShowsInOrder fix_numbers (filter (λ (f : ℤ × FixRow). is_between from through f.0) all) old new rows
fixes_shown_in schema tree names query from through old new rows has h all are =
    let params = Int from ∷ Int through ∷ [] in
    let it = shown_by_query schema select_fixes (fixes_query tree) names query params old new rows has h in
    record {
      are = shows_in_order fix_numbers fix_numbers (λ (f : ℤ × FixRow). is_between from through f.0) tree (is_between_given 1) (fixes_query tree).project params
          (λ id f. between_holds from through f.0) (λ id f. refl) (overlay old.now.trees []) all (over old.now.trees tree (map fix_numbers all) are) rows it.0;
      unchanged = it.1;
    }

pub fixes_shown : (from through : ℤ) (old new : State) (rows : List Row) → Shown select_fixes (Int from ∷ Int through ∷ []) old new rows → (l : LedgerRows) → HoldsRows old.now l
    → ShowsInOrder fix_numbers (fixes_between from through l) old new rows
fixes_shown from through old new rows h l held =
    let at = opened old.now l held in
    fixes_shown_in old.now.schema at.0.fixes.table.tree _ (select_fixes_is old.now.schema at.0.fixes at.1.has_fixes) from through old new rows refl h l.fixes at.2.fixes

-- of a whole table
pub all_taps_shown_in : (schema : Schema) (tree : ℕ) (names : List (List ℕ)) → IsQuery schema select_all_taps (all_taps_query tree) names → (old new : State) (rows : List Row) → old.now.schema ≡ schema
    → Shown select_all_taps [] old new rows → (all : List (ℤ × TapRow)) → AreNumbers (old.now.trees tree) (map tap_numbers all) → ShowsInOrder tap_numbers all old new rows
all_taps_shown_in schema tree names query old new rows has h all are =
    let it = shown_by_query schema select_all_taps (all_taps_query tree) names query [] old new rows has h in
    record {
      are = shows_in_order tap_numbers tap_numbers (λ _. true) tree [] (all_taps_query tree).project [] (λ id t. refl) (λ id t. refl) (overlay old.now.trees []) all
          (over old.now.trees tree (map tap_numbers all) are) rows it.0
          ∙ ap (map (λ t. map Int (tap_numbers t))) (every all);
      unchanged = it.1;
    }

pub all_taps_shown : (old new : State) (rows : List Row) → Shown select_all_taps [] old new rows → (l : LedgerRows) → HoldsRows old.now l → ShowsInOrder tap_numbers l.taps old new rows
all_taps_shown old new rows h l held =
    let at = opened old.now l held in
    all_taps_shown_in old.now.schema at.0.taps.table.tree _ (select_all_taps_is old.now.schema at.0.taps at.1.has_taps) old new rows refl h l.taps at.2.taps

pub all_fixes_shown_in : (schema : Schema) (tree : ℕ) (names : List (List ℕ)) → IsQuery schema select_all_fixes (all_fixes_query tree) names → (old new : State) (rows : List Row) → old.now.schema ≡ schema
    → Shown select_all_fixes [] old new rows → (all : List (ℤ × FixRow)) → AreNumbers (old.now.trees tree) (map fix_numbers all) → ShowsInOrder fix_numbers all old new rows
all_fixes_shown_in schema tree names query old new rows has h all are =
    let it = shown_by_query schema select_all_fixes (all_fixes_query tree) names query [] old new rows has h in
    record {
      are = shows_in_order fix_numbers fix_numbers (λ _. true) tree [] (all_fixes_query tree).project [] (λ id f. refl) (λ id f. refl) (overlay old.now.trees []) all
          (over old.now.trees tree (map fix_numbers all) are) rows it.0
          ∙ ap (map (λ f. map Int (fix_numbers f))) (every all);
      unchanged = it.1;
    }

pub all_fixes_shown : (old new : State) (rows : List Row) → Shown select_all_fixes [] old new rows → (l : LedgerRows) → HoldsRows old.now l → ShowsInOrder fix_numbers l.fixes old new rows
all_fixes_shown old new rows h l held =
    let at = opened old.now l held in
    all_fixes_shown_in old.now.schema at.0.fixes.table.tree _ (select_all_fixes_is old.now.schema at.0.fixes at.1.has_fixes) old new rows refl h l.fixes at.2.fixes

-- ---- postings

abbrev pub posting_shown : ℤ × ℤ × PostingRow → List ℤ
posting_shown p = p.1 ∷ p.0 ∷ p.2.week ∷ p.2.through ∷ p.2.version ∷ p.2.due ∷ p.2.amount ∷ p.2.edition ∷ []

pub postings_shown_in : (schema : Schema) (tree : ℕ) (names : List (List ℕ)) → IsQuery schema select_postings (postings_query tree) names → (from through : ℤ) (old new : State) (rows : List Row) → old.now.schema ≡ schema
    → Shown select_postings (Int from ∷ Int through ∷ []) old new rows → (all : List (ℤ × ℤ × PostingRow)) → old.now.trees tree ≡ map posting_row all → RiseFrom (pos 0) (old.now.trees tree)
    → ShowsInOrder posting_shown (filter (λ (p : ℤ × ℤ × PostingRow). is_between from through p.1) all) old new rows
postings_shown_in schema tree names query from through old new rows has h all are rise =
    let params = Int from ∷ Int through ∷ [] in
    let it = shown_by_query schema select_postings (postings_query tree) names query params old new rows has h in
    record {
      are = in_order posting_row (λ (p : ℤ × ℤ × PostingRow). p.0) (λ p. refl) tree (postings_query tree).filter (postings_query tree).project params (overlay old.now.trees [])
          (λ (p : ℤ × ℤ × PostingRow). is_between from through p.1) (λ p. between_holds from through p.1) all (overlay_is old.now.trees tree ∙ are) (subst (RiseFrom (pos 0)) are rise) rows it.0;
      unchanged = it.1;
    }

pub postings_shown : (from through : ℤ) (old new : State) (rows : List Row) → Shown select_postings (Int from ∷ Int through ∷ []) old new rows → (l : LedgerRows) → HoldsRows old.now l
    → ShowsInOrder posting_shown (filter (λ (p : ℤ × ℤ × PostingRow). is_between from through p.1) l.postings) old new rows
postings_shown from through old new rows h l held =
    let at = opened old.now l held in
    postings_shown_in old.now.schema at.0.postings.table.tree _ (select_postings_is old.now.schema at.0.postings at.1.has_postings) from through old new rows refl h l.postings at.2.postings at.2.postings_rise

-- ---- the accounts of all rows

abbrev pub one_number : ℤ → List ℤ
one_number n = n ∷ []

module _ {X : Type 0} (numbers : X → List ℤ) (account : X → ℤ) (first : (id : ℤ) (x : X) (params : Row) → eval_all (col 1 1 ∷ []) (params ∷ (Int id ∷ map Int (numbers x)) ∷ []) ≡ map Int (one_number (account x))) where
  accounts_shown_in : (schema : Schema) (tree : ℕ) (text : List ℕ) (names : List (List ℕ)) → IsQuery schema text (accounts_query tree) names → (old new : State) (rows : List Row) → old.now.schema ≡ schema
      → Shown text [] old new rows → (all : List X) → AreNumbers (old.now.trees tree) (map numbers all) → ShowsInOrder one_number (map account all) old new rows
  accounts_shown_in schema tree text names query old new rows has h all are =
      let it = shown_by_query schema text (accounts_query tree) names query [] old new rows has h in
      record {
        are = shows_in_order numbers (λ x. one_number (account x)) (λ _. true) tree [] (accounts_query tree).project [] (λ id x. refl) (λ id x. first id x []) (overlay old.now.trees []) all
            (over old.now.trees tree (map numbers all) are) rows it.0
            ∙ ap (map (λ x. map Int (one_number (account x)))) (every all)
            ∙ sym (map-map (λ n. map Int (one_number n)) account all);
        unchanged = it.1;
      }

pub tapped_accounts_shown : (old new : State) (rows : List Row) → Shown select_tapped_accounts [] old new rows → (l : LedgerRows) → HoldsRows old.now l → ShowsInOrder one_number (tapped_accounts l) old new rows
tapped_accounts_shown old new rows h l held =
    let at = opened old.now l held in
    accounts_shown_in tap_numbers (λ (t : ℤ × TapRow). t.0) (λ id t params. refl) old.now.schema at.0.taps.table.tree select_tapped_accounts _ (select_tapped_accounts_is old.now.schema at.0.taps at.1.has_taps) old new rows refl h l.taps at.2.taps

pub fixed_accounts_shown : (old new : State) (rows : List Row) → Shown select_fixed_accounts [] old new rows → (l : LedgerRows) → HoldsRows old.now l → ShowsInOrder one_number (fixed_accounts l) old new rows
fixed_accounts_shown old new rows h l held =
    let at = opened old.now l held in
    accounts_shown_in fix_numbers (λ (f : ℤ × FixRow). f.0) (λ id f params. refl) old.now.schema at.0.fixes.table.tree select_fixed_accounts _ (select_fixed_accounts_is old.now.schema at.0.fixes at.1.has_fixes) old new rows refl h l.fixes at.2.fixes

posted_accounts_shown_in : (schema : Schema) (tree : ℕ) (names : List (List ℕ)) → IsQuery schema select_posted_accounts (posted_accounts_query tree) names → (old new : State) (rows : List Row) → old.now.schema ≡ schema
    → Shown select_posted_accounts [] old new rows → (all : List (ℤ × ℤ × PostingRow)) → old.now.trees tree ≡ map posting_row all → RiseFrom (pos 0) (old.now.trees tree)
    → ShowsInOrder one_number (map (λ (p : ℤ × ℤ × PostingRow). p.1) all) old new rows
posted_accounts_shown_in schema tree names query old new rows has h all are rise =
    let it = shown_by_query schema select_posted_accounts (posted_accounts_query tree) names query [] old new rows has h in
    record {
      are = in_order posting_row (λ (p : ℤ × ℤ × PostingRow). p.0) (λ p. refl) tree [] (posted_accounts_query tree).project [] (overlay old.now.trees [])
          (λ _. true) (λ p. refl) all (overlay_is old.now.trees tree ∙ are) (subst (RiseFrom (pos 0)) are rise) rows it.0
          ∙ ap (map (λ (p : ℤ × ℤ × PostingRow). map Int (one_number p.1))) (every all)
          ∙ sym (map-map (λ n. map Int (one_number n)) (λ (p : ℤ × ℤ × PostingRow). p.1) all);
      unchanged = it.1;
    }

pub posted_accounts_shown : (old new : State) (rows : List Row) → Shown select_posted_accounts [] old new rows → (l : LedgerRows) → HoldsRows old.now l → ShowsInOrder one_number (posted_accounts l) old new rows
posted_accounts_shown old new rows h l held =
    let at = opened old.now l held in
    posted_accounts_shown_in old.now.schema at.0.postings.table.tree _ (select_posted_accounts_is old.now.schema at.0.postings at.1.has_postings) old new rows refl h l.postings at.2.postings at.2.postings_rise

-- What the statements of the copy make of a ledger of version 1, one after another.
use Rattle.std.proofs.Common.{◌≡◌, ◌≢◌, pos, true, false, List, [], ◌∷◌, ◌++◌, map, drop, find, Some, None, IfSome, slice_get, option_and_then, refl, sym, ap, subst, ◌∙◌, arith}
use Rattle.std.specs.Prelude.{◌==◌}
use Rattle.std.specs.List.{AllByRecursion, list_any, position_from}
use Rattle.std.proofs.lemmas.Bool.{or_parts, or_from, eqb-false, ne_eqb}
use Rattle.sqlite_rules.proofs.ActionLemmas.{got_still}
use Rattle.sqlite_schema.specs.Names.{same_name, table_named}
use Rattle.sqlite.specs.declared.types.Value.TheVariants.{Int}
use Rattle.sqlite.specs.Effect.{Database}
use Rattle.sqlite.specs.Rows.{sequence}
use Rattle.sqlite.specs.Schema.{Schema}
use Rattle.sqlite.specs.State.{State}
use Rattle.sqlite.specs.Table.{Table}
use Rattle.sqlite.specs.Tree.{Trees}
use Rattle.pay_records.specs.Tables.{meta, first_postings, first_shares, postings, shares, taps, fixes}
use Rattle.pay_records.specs.Places.{Place, Places, HasTable, HasLedgerTables, IsCounter, alike, trees_of}
use Rattle.pay_records.specs.Free.{CountsBeside, AreThere, HasFirst, tree_of, counter_name, new_tables}
use Rattle.pay_records.specs.Rows.{LedgerRows, HoldsRows, HoldsAt, AreNumbers, RiseFrom, versioned, share_numbers, tap_numbers, fix_numbers}
use Rattle.pay_records.specs.FirstVersion.{HasFirstTables, IsUpgradable, HoldsFirstAt, HoldsFirst, without_editions}
use Rattle.pay_records.specs.Steps.{Grows, Makes}
use Rattle.pay_records.specs.Copied.{NewPlaces, HasSeven, CountsBesideNew, IsNoCounter, WritesAt, WritesCountedAt, VersionSet, SetsVersion, PostingsCopied, CopiesPostings, SharesCopied, CopiesShares, GrowsBeside, Upgrades}
use Rattle.pay_records.proofs.Copies.{rise_alike}
use Rattle.pay_records.proofs.Growing.{position_still, has_longer}
use Rattle.pay_records.proofs.Lasting.{extended, all_front, nowhere, each_fails, found_after}
use Rattle.pay_records.proofs.Made.{on_then}
use Rattle.pay_records.proofs.Placed.{each_at, each_both, apart, initial, none_of, opened_first, held_from}
use Rattle.pay_records.proofs.Standing.{counter_at}

abbrev db : Schema → Trees → Database
db schema trees = record { schema = schema; trees = trees }

-- ---- what one statement leaves

module _ (old new : Database) (x : Place) (wanted : Table) (has : HasTable old.schema x wanted) where
  kept_at : (p : Place) (written : Table) → HasTable old.schema p written → initial wanted ≢ initial written → WritesAt old new p → new.trees x.table.tree ≡ old.trees x.table.tree
  kept_at p written also differ w =
      each_at (λ t. t.tree ≢ p.table.tree → new.trees t.tree ≡ old.trees t.tree) old.schema.tables x.at (alike wanted x.table) has.placed w.others (apart old.schema x p wanted written has also differ)

  kept_counted : (p : Place) (written : Table) → HasTable old.schema p written → initial wanted ≢ initial written → IsNoCounter old.schema x.table → WritesCountedAt old new p → new.trees x.table.tree ≡ old.trees x.table.tree
  kept_counted p written also differ uncounted w =
      each_at (λ t. t.tree ≢ p.table.tree → IsNoCounter old.schema t → new.trees t.tree ≡ old.trees t.tree) old.schema.tables x.at (alike wanted x.table) has.placed w.others
      (apart old.schema x p wanted written has also differ) uncounted

  kept_grown : (tables : List Table) → Grows old new tables → new.trees x.table.tree ≡ old.trees x.table.tree
  kept_grown tables g = each_at (λ t. new.trees t.tree ≡ old.trees t.tree) old.schema.tables x.at (alike wanted x.table) has.placed g.rows

uncounted_by : (schema : Schema) (c : Table) → sequence schema ≡ Some c → (t : Table) → t.tree ≢ c.tree → IsNoCounter schema t
uncounted_by schema c is t beside = subst (λ o. IfSome o (λ c. (c.tree == t.tree) ≡ false)) (sym is) (ne_eqb c.tree t.tree (λ same. beside (sym same)))

-- the table that counts is found among more
sequence_longer : (schema larger : Schema) (more : List Table) → larger.tables ≡ schema.tables ++ more → (c : Table) → sequence schema ≡ Some c → sequence larger ≡ Some c
sequence_longer schema larger more is c h =
    let it = counter_at schema c h in
    let named : table_named larger counter_name ≡ Some it.0 = subst (λ ts. position_from (λ t. same_name t.name counter_name) 0 ts ≡ Some it.0) (sym is) (position_still (λ t. same_name t.name counter_name) schema.tables more 0 it.0 it.1) in
    ap (option_and_then (slice_get larger.tables)) named ∙ got_still schema.tables more larger.tables it.0 c is it.2

-- ---- the two tables, once they are made

record AreNew (schema : Schema) (trees : Trees) (q : NewPlaces) : Type 0 where
  pub has_postings : HasTable schema q.postings postings
  pub has_shares : HasTable schema q.shares shares
  pub no_postings : trees q.postings.table.tree ≡ []
  pub no_shares : trees q.shares.table.tree ≡ []
  pub counter : CountsBeside schema (q.postings.table.tree ∷ q.shares.table.tree ∷ []) (sequence schema)

new_there : (schema : Schema) (trees : Trees) (places : List Place) → AreThere schema trees places new_tables → CountsBeside schema (map tree_of places) (sequence schema) → (q : NewPlaces) × AreNew schema trees q
new_there schema trees [] h counts = absurd h
new_there schema trees (a ∷ []) h counts = absurd h.2
new_there schema trees (a ∷ b ∷ []) h counts =
    (record { postings = a; shares = b }, record { has_postings = h.0; no_postings = h.1; has_shares = h.2.0; no_shares = h.2.1; counter = counts })
new_there schema trees (a ∷ b ∷ x ∷ places) h counts = absurd h.2.2

-- so they stand in a ledger of version 1
seven_there : (schema larger : Schema) (more : List Table) → larger.tables ≡ schema.tables ++ more → (trees : Trees) (p : Places) (q : NewPlaces) → HasFirstTables schema p → AreNew larger trees q → HasSeven larger p q
seven_there schema larger more is trees p q has new =
    let longer = has_longer schema larger more is in
    let c = has.counter in
    let named = sequence_longer schema larger more is c.0 c.1 in
    let counts : CountsBeside larger (q.postings.table.tree ∷ q.shares.table.tree ∷ []) (Some c.0) = subst (CountsBeside larger (q.postings.table.tree ∷ q.shares.table.tree ∷ [])) named new.counter in
    record {
      first = record {
        has_meta = longer p.meta meta has.has_meta;
        has_postings = longer p.postings first_postings has.has_postings;
        has_shares = longer p.shares first_shares has.has_shares;
        has_taps = longer p.taps taps has.has_taps;
        has_fixes = longer p.fixes fixes has.has_fixes;
        counter = (c.0, named, (c.2.0, counts.1));
      };
      has_postings = new.has_postings;
      has_shares = new.has_shares;
      counter = subst (λ o. IfSome o (CountsBesideNew q)) (sym named) counts.0;
    }

-- ---- all of it, over two schemas

-- the five databases, one after another
record Went (first second : Schema) (a b c d e : Trees) (p : Places) : Type 0 where
  pub q : NewPlaces
  pub more : List Table
  pub longer : second.tables ≡ first.tables ++ more
  pub has : HasSeven second p q
  pub set : VersionSet (db first a) (db first b) p.meta
  pub grows : Grows (db first b) (db second c) new_tables
  pub no_postings : c q.postings.table.tree ≡ []
  pub no_shares : c q.shares.table.tree ≡ []
  pub postings_are : PostingsCopied (db second c) (db second d) p q
  pub shares_are : SharesCopied (db second d) (db second e) p q

-- where the tables of a ledger stand then
abbrev later : Places → NewPlaces → Places
later p q = record { meta = p.meta; postings = q.postings; shares = q.shares; taps = p.taps; fixes = p.fixes }

ledger_by : (schema : Schema) (p : Places) (q : NewPlaces) → HasSeven schema p q → HasLedgerTables schema (later p q)
ledger_by schema p q has =
    let c = has.first.counter in
    let m = or_parts (p.meta.table.tree == c.0.tree) _ c.2.0 in
    let o = or_parts (p.postings.table.tree == c.0.tree) _ m.1 in
    let s = or_parts (p.shares.table.tree == c.0.tree) _ o.1 in
    let t = or_parts (p.taps.table.tree == c.0.tree) _ s.1 in
    let f = or_parts (p.fixes.table.tree == c.0.tree) _ t.1 in
    let new : CountsBesideNew q c.0 = subst (λ o. IfSome o (CountsBesideNew q)) c.1 has.counter in
    let n = or_parts (q.postings.table.tree == c.0.tree) _ new in
    let k = or_parts (q.shares.table.tree == c.0.tree) _ n.1 in
    let none : list_any (λ tree. tree == c.0.tree) (trees_of (later p q)) ≡ false =
    or_from (p.meta.table.tree == c.0.tree) _ m.0 (or_from (q.postings.table.tree == c.0.tree) _ n.0 (or_from (q.shares.table.tree == c.0.tree) _ k.0 (or_from (p.taps.table.tree == c.0.tree) _ t.0 (or_from (p.fixes.table.tree == c.0.tree) _ f.0 refl)))) in
    record {
      has_meta = has.first.has_meta;
      has_postings = has.has_postings;
      has_shares = has.has_shares;
      has_taps = has.first.has_taps;
      has_fixes = has.first.has_fixes;
      counter = subst (λ o. IfSome o (IsCounter schema (later p q))) (sym c.1) (none, c.2.1);
    }

module _ (first second : Schema) (a b c d e : Trees) (p : Places) (was : HasFirstTables first p) (w : Went first second a b c d e p) where
  abbrev q : NewPlaces
  q = w.q

  abbrev seven : HasSeven second p q
  seven = w.has

  -- the table that counts is beside those of version 1, and beside the new ones
  no_counter : AllByRecursion (λ tree. tree ≢ seven.first.counter.0.tree) (trees_of p)
  no_counter = none_of (trees_of p) seven.first.counter.0.tree seven.first.counter.2.0

  no_new_counter : AllByRecursion (λ tree. tree ≢ seven.first.counter.0.tree) (q.postings.table.tree ∷ q.shares.table.tree ∷ [])
  no_new_counter = none_of (q.postings.table.tree ∷ q.shares.table.tree ∷ []) seven.first.counter.0.tree (subst (λ o. IfSome o (CountsBesideNew q)) seven.first.counter.1 seven.counter)

  uncounted : (t : Table) → t.tree ≢ seven.first.counter.0.tree → IsNoCounter second t
  uncounted = uncounted_by second seven.first.counter.0 seven.first.counter.1

  -- a table of version 1 up to the copy of the postings
  until_made : (x : Place) (wanted : Table) → HasTable first x wanted → initial wanted ≢ initial meta → c x.table.tree ≡ a x.table.tree
  until_made x wanted has differ =
      kept_grown (db first b) (db second c) x wanted has new_tables w.grows ∙ kept_at (db first a) (db first b) x wanted has p.meta meta was.has_meta differ w.set.writes

  -- and after it
  past_postings : (x : Place) (wanted : Table) → HasTable second x wanted → initial wanted ≢ initial postings → x.table.tree ≢ seven.first.counter.0.tree → d x.table.tree ≡ c x.table.tree
  past_postings x wanted has differ beside = kept_counted (db second c) (db second d) x wanted has q.postings postings seven.has_postings differ (uncounted x.table beside) w.postings_are.writes

  past_shares : (x : Place) (wanted : Table) → HasTable second x wanted → initial wanted ≢ initial shares → e x.table.tree ≡ d x.table.tree
  past_shares x wanted has differ = kept_at (db second d) (db second e) x wanted has q.shares shares seven.has_shares differ w.shares_are.writes

  rows_after : (l : LedgerRows) → HoldsFirstAt p a l → HoldsAt (later p q) e (without_editions l)
  rows_after l held =
      let id = held.meta.0 in
      let meta_is : e p.meta.table.tree ≡ (Int id ∷ versioned (pos 2)) ∷ [] =
      past_shares p.meta meta seven.first.has_meta (λ same. omega (arith, same)) ∙ past_postings p.meta meta seven.first.has_meta (λ same. omega (arith, same)) no_counter.0
      ∙ kept_grown (db first b) (db second c) p.meta meta was.has_meta new_tables w.grows ∙ w.set.row id held.meta.1 in
      let old_postings = until_made p.postings first_postings was.has_postings (λ same. omega (arith, same)) in
      let old_shares = past_postings p.shares first_shares seven.first.has_shares (λ same. omega (arith, same)) no_counter.1.1.0 ∙ until_made p.shares first_shares was.has_shares (λ same. omega (arith, same)) in
      let copied = w.postings_are.rows l.postings (old_postings ∙ held.postings) (subst (RiseFrom (pos 0)) (sym old_postings) held.postings_rise) w.no_postings in
      let postings_is = past_shares q.postings postings seven.has_postings (λ same. omega (arith, same)) ∙ copied in
      let no_shares = past_postings q.shares shares seven.has_shares (λ same. omega (arith, same)) no_new_counter.1.0 ∙ w.no_shares in
      let taps_is = past_shares p.taps taps seven.first.has_taps (λ same. omega (arith, same)) ∙ past_postings p.taps taps seven.first.has_taps (λ same. omega (arith, same)) no_counter.1.1.1.0
      ∙ until_made p.taps taps was.has_taps (λ same. omega (arith, same)) in
      let fixes_is = past_shares p.fixes fixes seven.first.has_fixes (λ same. omega (arith, same)) ∙ past_postings p.fixes fixes seven.first.has_fixes (λ same. omega (arith, same)) no_counter.1.1.1.1.0
      ∙ until_made p.fixes fixes was.has_fixes (λ same. omega (arith, same)) in
      record {
        meta = ap (map (drop 1)) meta_is;
        postings = postings_is;
        postings_rise = subst (RiseFrom (pos 0)) (sym postings_is) (rise_alike (pos 0) l.postings (subst (RiseFrom (pos 0)) held.postings held.postings_rise));
        shares = w.shares_are.rows l.shares (subst (λ r. AreNumbers r (map share_numbers l.shares)) (sym old_shares) held.shares) no_shares;
        taps = subst (λ r. AreNumbers r (map tap_numbers l.taps)) (sym taps_is) held.taps;
        fixes = subst (λ r. AreNumbers r (map fix_numbers l.fixes)) (sym fixes_is) held.fixes;
      }

  -- a table that was there is not where a new one stands
  not_new : (x : Place) (wanted : Table) → HasTable second x wanted → same_name wanted.name wanted.name ≡ true → table_named first wanted.name ≡ None → AllByRecursion (λ t. (t.tree == x.table.tree) ≡ false) first.tables
  not_new x wanted has itself none =
      let found = subst (λ ts. find (λ t. t.tree == x.table.tree) ts ≡ Some (alike wanted x.table)) w.longer has.only in
      each_fails (λ t. t.tree == x.table.tree) first.tables
      (found_after (λ t. t.tree == x.table.tree) (λ t. same_name t.name wanted.name) first.tables w.more (alike wanted x.table) found itself (nowhere (λ t. same_name t.name wanted.name) first.tables 0 none))

  -- the rows of the tables that were there, but for `meta` and the count of rowids
  rows_beside : IsUpgradable first p → AllByRecursion (λ t. t.tree ≢ p.meta.table.tree → IsNoCounter first t → e t.tree ≡ a t.tree) first.tables
  unfolding same_name
  rows_beside can =
      let begun = each_both (λ t. t.tree ≢ p.meta.table.tree → b t.tree ≡ a t.tree) (λ t. c t.tree ≡ b t.tree) (λ t. t.tree ≢ p.meta.table.tree → c t.tree ≡ a t.tree) (λ t set grown other. grown ∙ set other) first.tables w.set.writes.others w.grows.rows in
      let front = all_front (λ t. t.tree ≢ q.postings.table.tree → IsNoCounter second t → d t.tree ≡ c t.tree) first.tables w.more
      (subst (AllByRecursion (λ t. t.tree ≢ q.postings.table.tree → IsNoCounter second t → d t.tree ≡ c t.tree)) w.longer w.postings_are.writes.others) in
      let posted = each_both (λ t. (t.tree == q.postings.table.tree) ≡ false) (λ t. t.tree ≢ q.postings.table.tree → IsNoCounter second t → d t.tree ≡ c t.tree) (λ t. IsNoCounter first t → d t.tree ≡ c t.tree)
      (λ t other stays counts. stays (eqb-false t.tree q.postings.table.tree other) (same_counter t counts)) first.tables (not_new q.postings postings seven.has_postings refl can.no_new.0.no_table) front in
      let last = all_front (λ t. t.tree ≢ q.shares.table.tree → e t.tree ≡ d t.tree) first.tables w.more (subst (AllByRecursion (λ t. t.tree ≢ q.shares.table.tree → e t.tree ≡ d t.tree)) w.longer w.shares_are.writes.others) in
      let shared = each_both (λ t. (t.tree == q.shares.table.tree) ≡ false) (λ t. t.tree ≢ q.shares.table.tree → e t.tree ≡ d t.tree) (λ t. e t.tree ≡ d t.tree)
      (λ t other stays. stays (eqb-false t.tree q.shares.table.tree other)) first.tables (not_new q.shares shares seven.has_shares refl can.no_new.1.0.no_table) last in
      each_both (λ t. t.tree ≢ p.meta.table.tree → c t.tree ≡ a t.tree) (λ t. IsNoCounter first t → e t.tree ≡ c t.tree) (λ t. t.tree ≢ p.meta.table.tree → IsNoCounter first t → e t.tree ≡ a t.tree)
      (λ t before after other counts. after counts ∙ before other) first.tables begun
      (each_both (λ t. IsNoCounter first t → d t.tree ≡ c t.tree) (λ t. e t.tree ≡ d t.tree) (λ t. IsNoCounter first t → e t.tree ≡ c t.tree) (λ t before after counts. after ∙ before counts) first.tables posted shared)
    where
      same_counter : (t : Table) → IsNoCounter first t → IsNoCounter second t
      same_counter t counts = subst (λ o. IfSome o (λ c. (c.tree == t.tree) ≡ false)) (sym (sequence_longer first second w.more w.longer was.counter.0 was.counter.1)) (subst (λ o. IfSome o (λ c. (c.tree == t.tree) ≡ false)) was.counter.1 counts)

-- ---- from one state of the transaction to the next

record Ends (a b c d e : State) (p : Places) : Type 0 where
  pub went : Went a.now.schema c.now.schema a.now.trees b.now.trees c.now.trees d.now.trees e.now.trees p
  pub schema_is : e.now.schema ≡ c.now.schema

module _ (a b c d e : State) (sets : SetsVersion a b) (makes : Makes new_tables b c 0 2) (posts : CopiesPostings c d) (shares_too : CopiesShares d e) where
  went_by : (p : Places) → HasFirstTables a.now.schema p → IsUpgradable a.now.schema p → Ends a b c d e p
  went_by p has can =
      let first = a.now.schema in
      let second = c.now.schema in
      let set = sets.set p.meta has.has_meta can.meta_unreferred in
      let one = set.writes.schema_is in
      let counter = has.counter in
      let stands : HasFirst new_tables 0 first b.now.trees = record { places = []; are = tt; unused = can.no_new; counter = subst (CountsBeside first []) (sym counter.1) (refl, counter.2.1) } in
      let ready = subst (λ s. HasFirst new_tables 0 s b.now.trees) (sym one) stands in
      let made = makes.tables ready in
      let grows = subst (λ s. Grows (db s b.now.trees) c.now new_tables) one (makes.grows ready) in
      let longer = extended (db first b.now.trees) c.now new_tables grows in
      let new = new_there second c.now.trees made.places made.are made.counter in
      let q = new.0 in
      let seven = seven_there first second longer.0 longer.1 c.now.trees p q has new.1 in
      let posted = posts.copied p q seven in
      let two = posted.writes.schema_is in
      let shared = shares_too.copied p q (subst (λ s. HasSeven s p q) (sym two) seven) in
      let three = shared.writes.schema_is in
      record {
        went = record {
          q = q;
          more = longer.0;
          longer = longer.1;
          has = seven;
          set = subst (λ s. VersionSet a.now (db s b.now.trees) p.meta) one set;
          grows = grows;
          no_postings = new.1.no_postings;
          no_shares = new.1.no_shares;
          postings_are = subst (λ s. PostingsCopied c.now (db s d.now.trees) p q) two posted;
          shares_are = subst (λ s. SharesCopied (db s d.now.trees) (db s e.now.trees) p q) two (subst (λ s. SharesCopied d.now (db s e.now.trees) p q) three shared);
        };
        schema_is = three ∙ two;
      }

  pub upgrades : Upgrades a e
  upgrades =
      let rows : (l : LedgerRows) → HoldsFirst a.now l → HoldsRows e.now (without_editions l) = λ l held.
      let at = opened_first a.now l held in
      let it = went_by at.0 at.1 at.2 in
      held_from (db c.now.schema e.now.trees) e.now (without_editions l) (later at.0 it.went.q) (ledger_by c.now.schema at.0 it.went.q it.went.has) it.schema_is
      (rows_after a.now.schema c.now.schema a.now.trees b.now.trees c.now.trees d.now.trees e.now.trees at.0 at.1 it.went l at.3) in
      let beside : (p : Places) → HasFirstTables a.now.schema p → IsUpgradable a.now.schema p → GrowsBeside a.now e.now p = λ p has can.
      let it = went_by p has can in
      record { schema_is = it.schema_is ∙ it.went.grows.schema_is; rows = rows_beside a.now.schema c.now.schema a.now.trees b.now.trees c.now.trees d.now.trees e.now.trees p has it.went can } in
      record { rows = rows; beside = beside; on = on_then a d e (on_then a c d (on_then a b c sets.on makes.on) posts.on) shares_too.on }

-- What one quote and one set add to a ledger, by what accounts have of it.
use Rattle.std.proofs.Common.{◌≡◌, ℕ, Bool, true, List, [], ◌∷◌, ◌++◌, map, Some, Result, Ok, Err, refl, sym, ap, ◌∙◌, subst, append_assoc, eq-eqb}
use Rattle.std.specs.Prelude.{◌==◌, filter}
use Rattle.std.specs.FinMap.{get}
use Rattle.std.specs.List.{AllByRecursion}
use Rattle.std.proofs.lemmas.Bool.{ne_eqb}
use Rattle.std.proofs.lemmas.List.{append-nil, map-append}
use Rattle.std.proofs.lemmas.List.Elements.{filter-append}
use Rattle.pay_rules.specs.declared.tap.Tap.{Tap}
use Rattle.pay_rules.specs.declared.limits.TheConstants.{MOST_TAPS, MOST_FIXES}
use Rattle.pay_rules.specs.Taps.{same_tap, number as tap_number}
use Rattle.pay_rules.specs.declared.fix.Fix.{Fix}
use Rattle.pay_rules.specs.Fixes.{same_fix, number as fix_number}
use Rattle.pay_rules.specs.declared.posting.Posting.{Posting}
use Rattle.pay_rules.specs.SetsParts.{AreNumbered, AreTapsOf, AreFixesOf, SetsParts}
use Rattle.pay_rules.specs.QuoteParts.{QuoteParts}
use Rattle.pay_rules.specs.declared.post_fault.PostFault.{PostFault}
use Rattle.pay_postings.specs.Faults.{◌>>=◌}
use Rattle.pay_postings.specs.Postings.{post, post_each}
use Rattle.pay_postings.specs.Archive.{is_numbered_as, is_fix_numbered_as, archived_tap, archived_fix, archived_each, archived_sets}
use Rattle.pay_postings.specs.Ledger.{LedgerParts}
use Rattle.pay_postings.specs.AccountRows.{is_of_account, of_account}
use Rattle.pay_set_rows.specs.SetRows.{tap_row, fix_row}
use Rattle.pay_postings.specs.NewRows.{is_tap_at, is_tap_row, is_fix_at, is_fix_row, with_new, is_new_tap, is_new_fix, new_taps, new_fixes}
use Rattle.pay_postings.specs.Archived.{ArchivedParts, AccountsParts}
use Rattle.pay_postings.specs.Batches.{taps_of, fixes_of, archived_of, Agrees, BatchLists, with_batch, posted_after, StillAgrees}
use Rattle.pay_postings.proofs.Archiving.{all_pass, none_pass, each_so, all_archived, new_are}
use Rattle.pay_postings.proofs.Maps.{put_back, same_there, agrees_now, was_there}
use Rattle.pay_postings.proofs.Postings.{IsAnswered, answered, refused, beyond, own_more, other_more}
use Rattle.pay_postings.proofs.Sets.{own_tap, other_tap, same_taps, tap_number_at, own_fix, other_fix, same_fixes, fix_number_at, numbered_apart}

abbrev Archives : Type 0
Archives = List Tap × List Fix

-- the end of an answer: what was given, and the ledger then
abbrev ended : List Posting → Result Archives PostFault → List Posting × List Posting → Result (List Posting × LedgerParts) PostFault
ended before archive g = archive >>= (λ a. Ok (before ++ g.0, record { postings = g.1; taps = a.0; fixes = a.1 }))

given_after : (before : List Posting) (given : Posting) (archive : Result Archives PostFault) (others : Result (List Posting × List Posting) PostFault)
    → (others >>= ended (before ++ given ∷ []) archive) ≡ ((others >>= (λ o. Ok (given ∷ o.0, o.1))) >>= ended before archive)
given_after before given archive (Err f) = refl
given_after before given archive (Ok o) =
    let e = append_assoc before (given ∷ []) o.0 in
    λ i. archive >>= (λ a. Ok (e i, record { postings = o.1; taps = a.0; fixes = a.1 }))

-- ---- a quote

pub record IsQuotePosted (ledger : LedgerParts) (old new : AccountsParts) (before now : BatchLists) (quote : QuoteParts) : Type 0 where
  pub kept : StillAgrees ledger old new now
  pub beyond : (later : List QuoteParts) (sets : List SetsParts) → posted_after ledger now later sets ≡ posted_after ledger before (quote ∷ later) sets

-- a batch with the posting of a quote, and what is there of its account then
abbrev pub batch_with_posting : BatchLists → Posting → Bool → BatchLists
batch_with_posting before given is_new = record { given = before.given ++ given ∷ []; postings = with_new is_new given before.postings; taps = before.taps; fixes = before.fixes }

abbrev pub with_postings : ArchivedParts → List Posting → ArchivedParts
with_postings archived after = record { postings = after; taps = archived.taps; fixes = archived.fixes }

module _ (ledger : LedgerParts) (old : AccountsParts) (before : BatchLists) (quote : QuoteParts) (archived : ArchivedParts) (agrees : Agrees old (with_batch ledger before)) (there : get old quote.account ≡ Some archived) where
  its : archived ≡ archived_of quote.account (with_batch ledger before)
  its = agrees quote.account archived there

  abbrev all : List Posting
  all = ledger.postings ++ before.postings

  own_archived : (given : Posting) (is_new : Bool) → (is_new ≡ true → given.quote ≡ quote) → with_postings archived (with_new is_new given archived.postings) ≡ archived_of quote.account (with_batch ledger (batch_with_posting before given is_new))
  own_archived given is_new own =
      let postings : with_new is_new given archived.postings ≡ of_account quote.account (ledger.postings ++ with_new is_new given before.postings) =
      ap (λ (a : ArchivedParts). with_new is_new given a.postings) its
      ∙ sym (own_more (is_of_account quote.account) all given is_new (λ new. eq-eqb given.quote.account quote.account (ap (λ (q : QuoteParts). q.account) (own new))))
      ∙ ap (of_account quote.account) (sym (beyond ledger.postings before.postings is_new given)) in
      λ i. record { postings = postings i; taps = (its i).taps; fixes = (its i).fixes }

  other_archived : (given : Posting) (is_new : Bool) → (is_new ≡ true → given.quote ≡ quote) → (other : ℕ) → (other ≡ quote.account → ⊥)
      → archived_of other (with_batch ledger (batch_with_posting before given is_new)) ≡ archived_of other (with_batch ledger before)
  other_archived given is_new own other apart =
      let postings : of_account other (ledger.postings ++ with_new is_new given before.postings) ≡ of_account other all =
      ap (of_account other) (beyond ledger.postings before.postings is_new given)
      ∙ other_more (is_of_account other) all given is_new (λ new. ne_eqb given.quote.account other (λ same. apart (sym same ∙ ap (λ (q : QuoteParts). q.account) (own new)))) in
      λ i. record { postings = postings i; taps = map tap_row (taps_of other (ledger.taps ++ before.taps)); fixes = map fix_row (fixes_of other (ledger.fixes ++ before.fixes)) }

  pub quote_posted : (given : Posting) (is_new : Bool) (after : List Posting) → post archived.postings quote ≡ Ok (given, after) → after ≡ with_new is_new given archived.postings
      → IsQuotePosted ledger old (put_back old quote.account (with_postings archived after)) before (batch_with_posting before given is_new) quote
  quote_posted given is_new after e more =
      let is : IsAnswered all quote given is_new = answered all archived.postings quote given is_new after (ap (λ (a : ArchivedParts). a.postings) its) e more in
      let now = batch_with_posting before given is_new in
      let own : with_postings archived after ≡ archived_of quote.account (with_batch ledger now) = ap (with_postings archived) more ∙ own_archived given is_new is.own in
      let answer : post all quote ≡ Ok (given, ledger.postings ++ now.postings) = is.answer ∙ ap (λ (l : List Posting). Ok (given, l)) (sym (beyond ledger.postings before.postings is_new given)) in
      record {
        kept = record {
          agrees = agrees_now old quote.account (with_postings archived after) (with_batch ledger before) (with_batch ledger now) agrees own (other_archived given is_new is.own);
          same = same_there old quote.account (with_postings archived after) (was_there old quote.account archived there);
        };
        beyond = λ later sets.
            let archive : Result Archives PostFault = archived_sets (ledger.taps ++ before.taps, ledger.fixes ++ before.fixes) sets in
            given_after before.given given archive (post_each (ledger.postings ++ now.postings) later)
            ∙ ap (λ (first : Result (Posting × List Posting) PostFault). (first >>= (λ f. post_each f.1 later >>= (λ o. Ok (f.0 ∷ o.0, o.1)))) >>= ended before.given archive) (sym answer);
      }

  pub quote_refused : (why : PostFault) → post archived.postings quote ≡ Err why → (later : List QuoteParts) (sets : List SetsParts) → posted_after ledger before (quote ∷ later) sets ≡ Err why
  quote_refused why e later sets =
      ap (λ (first : Result (Posting × List Posting) PostFault). (first >>= (λ f. post_each f.1 later >>= (λ o. Ok (f.0 ∷ o.0, o.1)))) >>= ended before.given (archived_sets (ledger.taps ++ before.taps, ledger.fixes ++ before.fixes) sets))
      (refused all archived.postings quote why (ap (λ (a : ArchivedParts). a.postings) its) e)

-- ---- a set

pub record IsSetPosted (ledger : LedgerParts) (old new : AccountsParts) (before now : BatchLists) (set : SetsParts) : Type 0 where
  pub kept : StillAgrees ledger old new now
  pub beyond : (later : List SetsParts) → posted_after ledger now [] later ≡ posted_after ledger before [] (set ∷ later)

abbrev pub batch_with_set : BatchLists → List Tap → List Fix → BatchLists
batch_with_set before taps fixes = record { given = before.given; postings = before.postings; taps = before.taps ++ taps; fixes = before.fixes ++ fixes }

abbrev pub with_set : ArchivedParts → List Tap → List Fix → ArchivedParts
with_set archived taps fixes = record { postings = archived.postings; taps = archived.taps ++ map tap_row taps; fixes = archived.fixes ++ map fix_row fixes }

-- rows tell all of a tap and of a correction but for their account
pub record RowsTell : Type 0 where
  pub taps : (tap other : Tap) → tap.account ≡ other.account → tap_row tap ≡ tap_row other → tap ≡ other
  pub fixes : (fix other : Fix) → fix.account ≡ other.account → fix_row fix ≡ fix_row other → fix ≡ other

own_after : {X R : Type 0} (row : X → R) (account : X → ℕ) (a : ℕ) (ledger before new : List X) → AllByRecursion (λ x. account x ≡ a) new
    → map row (filter (λ x. account x == a) (ledger ++ before)) ++ map row new ≡ map row (filter (λ x. account x == a) (ledger ++ (before ++ new)))
own_after row account a ledger before new of =
    sym (map-append row (filter (λ x. account x == a) (ledger ++ before)) new)
    ∙ ap (map row) (ap (λ l. filter (λ x. account x == a) (ledger ++ before) ++ l) (sym (all_pass (λ x. account x == a) new (each_so _ _ (λ x e. eq-eqb (account x) a e) new of)))
    ∙ sym (filter-append (λ x. account x == a) (ledger ++ before) new) ∙ ap (filter (λ x. account x == a)) (append_assoc ledger before new))

other_after : {X : Type 0} (account : X → ℕ) (a other : ℕ) (ledger before new : List X) → AllByRecursion (λ x. account x ≡ a) new → (other ≡ a → ⊥)
    → filter (λ x. account x == other) (ledger ++ (before ++ new)) ≡ filter (λ x. account x == other) (ledger ++ before)
other_after account a other ledger before new of apart =
    ap (filter (λ x. account x == other)) (sym (append_assoc ledger before new))
    ∙ filter-append (λ x. account x == other) (ledger ++ before) new
    ∙ ap (λ l. filter (λ x. account x == other) (ledger ++ before) ++ l) (none_pass (λ x. account x == other) new (each_so _ _ (λ x e. ne_eqb (account x) other (λ same. apart (sym same ∙ e))) new of))
    ∙ append-nil _

-- the taps of a set are its account's, each at a number of its own, and so are its corrections
abbrev pub AreTaps : SetsParts → Type 0
AreTaps set = AreTapsOf set.account set.taps × AreNumbered tap_number MOST_TAPS set.taps

abbrev pub AreFixes : SetsParts → Type 0
AreFixes set = AreFixesOf set.account set.fixes × AreNumbered fix_number MOST_FIXES set.fixes

module _ (tell : RowsTell) (ledger : LedgerParts) (old : AccountsParts) (before : BatchLists) (set : SetsParts) (archived : ArchivedParts) (agrees : Agrees old (with_batch ledger before)) (there : get old set.account ≡ Some archived) where
  its_set : archived ≡ archived_of set.account (with_batch ledger before)
  its_set = agrees set.account archived there

  abbrev taps_then : List Tap
  taps_then = ledger.taps ++ before.taps

  abbrev fixes_then : List Fix
  fixes_then = ledger.fixes ++ before.fixes

  taps_archived : AreTaps set → archived_each archived_tap taps_then set.taps ≡ (new_taps archived.taps set.taps >>= (λ n. Ok (taps_then ++ n)))
  taps_archived are =
      all_archived tap_row (λ (t : Tap). t.account) is_numbered_as is_tap_at is_tap_row same_tap own_tap other_tap (same_taps tell.taps) set.account taps_then set.taps archived.taps (ap (λ (a : ArchivedParts). a.taps) its_set) are.0
      (numbered_apart tap_number (λ x y. is_tap_at (tap_row x) (tap_row y)) tap_number_at MOST_TAPS set.taps are.1)

  fixes_archived : AreFixes set → archived_each archived_fix fixes_then set.fixes ≡ (new_fixes archived.fixes set.fixes >>= (λ n. Ok (fixes_then ++ n)))
  fixes_archived are =
      all_archived fix_row (λ (f : Fix). f.account) is_fix_numbered_as is_fix_at is_fix_row same_fix own_fix other_fix (same_fixes tell.fixes) set.account fixes_then set.fixes archived.fixes (ap (λ (a : ArchivedParts). a.fixes) its_set) are.0
      (numbered_apart fix_number (λ x y. is_fix_at (fix_row x) (fix_row y)) fix_number_at MOST_FIXES set.fixes are.1)

  abbrev then_later : List SetsParts → Result Archives PostFault → Result (List Posting × LedgerParts) PostFault
  then_later later first = (first >>= (λ now. archived_sets now later)) >>= (λ a. Ok (before.given ++ [], record { postings = ledger.postings ++ before.postings; taps = a.0; fixes = a.1 }))

  pub taps_refused : AreTaps set → (why : PostFault) → new_taps archived.taps set.taps ≡ Err why → (later : List SetsParts) → posted_after ledger before [] (set ∷ later) ≡ Err why
  taps_refused are why e later =
      let taps : archived_each archived_tap taps_then set.taps ≡ Err why = taps_archived are ∙ ap (λ (r : Result (List Tap) PostFault). r >>= (λ n. Ok (taps_then ++ n))) e in
      ap (λ (r : Result (List Tap) PostFault). then_later later (r >>= (λ t. archived_each archived_fix fixes_then set.fixes >>= (λ f. Ok (t, f))))) taps

  taps_then_now : AreTaps set → (taps : List Tap) → new_taps archived.taps set.taps ≡ Ok taps → archived_each archived_tap taps_then set.taps ≡ Ok (ledger.taps ++ (before.taps ++ taps))
  taps_then_now are taps e = taps_archived are ∙ ap (λ (r : Result (List Tap) PostFault). r >>= (λ n. Ok (taps_then ++ n))) e ∙ ap Ok (append_assoc ledger.taps before.taps taps)

  pub fixes_refused : AreTaps set → AreFixes set → (taps : List Tap) (why : PostFault) → new_taps archived.taps set.taps ≡ Ok taps → new_fixes archived.fixes set.fixes ≡ Err why → (later : List SetsParts) → posted_after ledger before [] (set ∷ later) ≡ Err why
  fixes_refused are too taps why e f later =
      let first = taps_then_now are taps e in
      let fixes : archived_each archived_fix fixes_then set.fixes ≡ Err why = fixes_archived too ∙ ap (λ (r : Result (List Fix) PostFault). r >>= (λ n. Ok (fixes_then ++ n))) f in
      λ i. then_later later (first i >>= (λ t. fixes i >>= (λ f. Ok (t, f))))

  pub set_posted : AreTaps set → AreFixes set → (taps : List Tap) (fixes : List Fix) → new_taps archived.taps set.taps ≡ Ok taps → new_fixes archived.fixes set.fixes ≡ Ok fixes
      → IsSetPosted ledger old (put_back old set.account (with_set archived taps fixes)) before (batch_with_set before taps fixes) set
  set_posted are too taps fixes e f =
      let now = batch_with_set before taps fixes in
      let first = taps_then_now are taps e in
      let second : archived_each archived_fix fixes_then set.fixes ≡ Ok (ledger.fixes ++ (before.fixes ++ fixes)) =
      fixes_archived too ∙ ap (λ (r : Result (List Fix) PostFault). r >>= (λ n. Ok (fixes_then ++ n))) f ∙ ap Ok (append_assoc ledger.fixes before.fixes fixes) in
      let taps_are = new_are (λ (t : Tap). t.account ≡ set.account) (is_new_tap archived.taps) [] set.taps taps tt are.0 e in
      let fixes_are = new_are (λ (f : Fix). f.account ≡ set.account) (is_new_fix archived.fixes) [] set.fixes fixes tt too.0 f in
      let of_taps = ap (λ (a : ArchivedParts). a.taps ++ map tap_row taps) its_set ∙ own_after tap_row (λ (t : Tap). t.account) set.account ledger.taps before.taps taps taps_are in
      let of_fixes = ap (λ (a : ArchivedParts). a.fixes ++ map fix_row fixes) its_set ∙ own_after fix_row (λ (f : Fix). f.account) set.account ledger.fixes before.fixes fixes fixes_are in
      let own : with_set archived taps fixes ≡ archived_of set.account (with_batch ledger now) = λ i. record { postings = (its_set i).postings; taps = of_taps i; fixes = of_fixes i } in
      let others : (other : ℕ) → (other ≡ set.account → ⊥) → archived_of other (with_batch ledger now) ≡ archived_of other (with_batch ledger before) =
      λ other apart.
      let other_taps = other_after (λ (t : Tap). t.account) set.account other ledger.taps before.taps taps taps_are apart in
      let other_fixes = other_after (λ (f : Fix). f.account) set.account other ledger.fixes before.fixes fixes fixes_are apart in
      λ i. record { postings = of_account other (ledger.postings ++ before.postings); taps = map tap_row (other_taps i); fixes = map fix_row (other_fixes i) } in
      record {
        kept = record {
          agrees = agrees_now old set.account (with_set archived taps fixes) (with_batch ledger before) (with_batch ledger now) agrees own others;
          same = same_there old set.account (with_set archived taps fixes) (was_there old set.account archived there);
        };
        beyond = λ later. sym (λ i. then_later later (first i >>= (λ t. second i >>= (λ f. Ok (t, f)))));
      }

-- ---- as the accounts and the batch are called

pub quote_as : (ledger : LedgerParts) (old new other : AccountsParts) (before now batch : BatchLists) (quote : QuoteParts) → IsQuotePosted ledger old new before now quote → other ≡ new → batch ≡ now
    → StillAgrees ledger old other batch × ((later : List QuoteParts) (sets : List SetsParts) → posted_after ledger batch later sets ≡ posted_after ledger before (quote ∷ later) sets)
quote_as ledger old new other before now batch quote is same_accounts same_batch = (
  subst (λ (a : AccountsParts). StillAgrees ledger old a batch) (sym same_accounts) (subst (StillAgrees ledger old new) (sym same_batch) is.kept),
  λ later sets. ap (λ (b : BatchLists). posted_after ledger b later sets) same_batch ∙ is.beyond later sets,
)

pub set_as : (ledger : LedgerParts) (old new other : AccountsParts) (before now batch : BatchLists) (set : SetsParts) → IsSetPosted ledger old new before now set → other ≡ new → batch ≡ now
    → StillAgrees ledger old other batch × ((later : List SetsParts) → posted_after ledger batch [] later ≡ posted_after ledger before [] (set ∷ later))
set_as ledger old new other before now batch set is same_accounts same_batch = (
  subst (λ (a : AccountsParts). StillAgrees ledger old a batch) (sym same_accounts) (subst (StillAgrees ledger old new) (sym same_batch) is.kept),
  λ later. ap (λ (b : BatchLists). posted_after ledger b [] later) same_batch ∙ is.beyond later,
)

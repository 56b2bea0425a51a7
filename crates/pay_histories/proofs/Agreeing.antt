-- The ledger agrees with what accounts have accepted, and so a close is refused for no other reason than its day.
use Rattle.std.proofs.Common.{◌≡◌, inl, inr, ◌⊎◌, ℕ, ◌<◌, ◌≤◌, Bool, true, false, ◌&&◌, ◌||◌, if◌then◌else◌, nat_lt, nat_eq, List, [], ◌∷◌, map, find, fold, Option, Some, None, Result, Ok, Err, unwrap_or, eqb-true, eq-eqb, refl, sym, ap, ◌∙◌, subst, arith}
use Rattle.std.specs.Prelude.{◌==◌}
use Rattle.std.specs.Cmp.{nat_cmp_total}
use Rattle.std.specs.FinMap.{get, entries, values}
use Rattle.std.specs.List.{AllByRecursion}
use Rattle.std.proofs.lemmas.Bool.{and_parts, and_from, ltb-true}
use Rattle.pay_day.specs.Words.{monday}
use Rattle.pay_tables.specs.Words.{FareEditions}
use Rattle.pay_rules.specs.declared.tap.Tap.{Tap}
use Rattle.pay_rules.specs.SameTap.{tap_itself}
use Rattle.pay_rules.specs.Taps.{same_tap, number as tap_number}
use Rattle.pay_rules.specs.declared.fix.Fix.{Fix}
use Rattle.pay_rules.specs.SameFix.{one_is_same}
use Rattle.pay_rules.specs.Fixes.{same_fix, number as fix_number}
use Rattle.pay_rules.specs.declared.posting.Posting.{Posting}
use Rattle.pay_rules.specs.Accepted.{Accepted, nothing, version}
use Rattle.pay_rules.specs.QuoteParts.{QuoteParts}
use Rattle.pay_rules.specs.Quotes.{quote}
use Rattle.pay_rules.specs.SetsParts.{SetsParts, sets}
use Rattle.pay_rules.specs.State.{State, accepted_of}
use Rattle.pay_postings.specs.Archive.{is_numbered_as, is_fix_numbered_as, archived_beside, archived_tap, archived_fix, archived_each, archived_set, archived_sets}
use Rattle.pay_postings.specs.Faults.{◌>>=◌}
use Rattle.pay_postings.specs.Ledger.{LedgerParts}
use Rattle.pay_postings.specs.Postings.{is_of, later_of, last_of, posting_of, is_stale, is_again, is_kept, posted_anew, posted_again, posted_after, post, post_each}
use Rattle.pay_rules.specs.declared.post_fault.PostFault.{PostFault}
use Rattle.pay_rules.specs.declared.post_fault.PostFault.TheVariants as fault
use Rattle.pay_shard.specs.Selection.{is_of as is_of_shard, is_quoted, quoted}
use Rattle.pay_close.specs.Close.{Books, close, IsLate}
use Rattle.pay_histories.specs.From.{IsOfOwn}
use Rattle.pay_histories.proofs.Answering.{Comes, comes_then, Then, first_then}
use Rattle.pay_histories.proofs.Entries.{entry_is_there, all_of, all_mapped, all_filtered, all_weaker, all_with, IfFound, found_among}
use Rattle.pay_histories.proofs.Growing.{number_total, HaveGrown}

-- ---- a quote

-- what was posted for a quote is kept for it
pub kept_itself : (q : QuoteParts) → is_kept q q ≡ true
kept_itself q = and_from _ _ (and_from _ _ (eq-eqb q.due q.due refl) (itself q.shares)) (ap (λ (b : Bool). q.edition == 0 || b) (eq-eqb q.edition q.edition refl) ∙ or_true (q.edition == 0))
  where
    itself : (shares : List ℕ) → lib.Pointwise.pointwise nat_eq shares shares ≡ true
    itself [] = refl
    itself (share ∷ shares) = and_from _ _ (eq-eqb share share refl) (itself shares)

    or_true : (b : Bool) → (b || true) ≡ true
    or_true true = refl
    or_true false = refl

-- one quote may follow another of its account and week: it is of no earlier version, and what was posted for the same version and day is kept for it
pub record MayFollow (quote last : QuoteParts) : Type 0 where
  pub no_earlier : last.version ≤ quote.version
  pub kept : last.version ≡ quote.version → last.through ≡ quote.through → is_kept quote last ≡ true
  pub of_week : monday last.through ≡ monday quote.through

module _ (P : Posting → Type 0) (account week : ℕ) where
  abbrev IsOneOf : Posting → Type 0
  IsOneOf p = P p × (is_of account week p ≡ true)

  last_from : (list : List Posting) (now : Option Posting) → IfFound IsOneOf now → AllByRecursion P list → IfFound IsOneOf (fold (later_of account week) now list)
  last_from [] now is all = is
  last_from (p ∷ list) now is all = last_from list (later_of account week now p) (by (is_of account week p) refl) all.1
    where
      by : (b : Bool) → is_of account week p ≡ b → IfFound IsOneOf (if b then Some p else now)
      by true e = (all.0, e)
      by false e = is

  -- the last posting of an account and a week is one of them
  pub last_is_one : (list : List Posting) → AllByRecursion P list → IfFound IsOneOf (last_of account week list)
  last_is_one list all = last_from list None tt all

module _ (P : Posting → Type 0) (quote : QuoteParts) (may_follow : (p : Posting) → P p → is_of quote.account quote.week p ≡ true → MayFollow quote p.quote) (anew : (list : List Posting) → P (posting_of list quote)) where
  late : (last : QuoteParts) → MayFollow quote last → is_stale quote last ≡ true → (quote.through < last.through) × (monday last.through ≡ monday quote.through)
  late last follows e = (by (nat_lt quote.version last.version) (nat_lt quote.through last.through) refl refl e, follows.of_week)
    where
      by : (a b : Bool) → nat_lt quote.version last.version ≡ a → nat_lt quote.through last.through ≡ b → (a || b) ≡ true → quote.through < last.through
      by true b earlier through is = absurd (omega (arith, ltb-true _ _ earlier, follows.no_earlier))
      by false true earlier through is = ltb-true _ _ through
      by false false earlier through is = absurd (cc)

  no_other_due : (list : List Posting) (last : Posting) → AllByRecursion P list → is_kept quote last.quote ≡ true → Comes {A = Posting × List Posting} (Then (AllByRecursion P)) (IsLate quote.through) (posted_again list quote last)
  no_other_due list last all kept = by (is_kept quote last.quote) kept
    where
      by : (b : Bool) → b ≡ true → Comes {A = Posting × List Posting} (Then (AllByRecursion P)) (IsLate quote.through) (if b then Ok (last, list) else Err fault.QuoteDiffers)
      by true is = all
      by false is = absurd (cc)

  beside : (list : List Posting) (last : Posting) (stale again : Bool) → AllByRecursion P list → MayFollow quote last.quote → is_stale quote last.quote ≡ stale → is_again quote last.quote ≡ again
      → Comes {A = Posting × List Posting} (Then (AllByRecursion P)) (IsLate quote.through) (if stale then Err (fault.StaleQuote last.quote.account last.quote.version last.quote.through) else if again then posted_again list quote last else posted_anew list quote)
  beside list last true again all follows s a = late last.quote follows s
  beside list last false true all follows s a =
      let parts = and_parts _ _ a in
      no_other_due list last all (follows.kept (sym (eqb-true _ _ parts.0)) (sym (eqb-true _ _ parts.1)))
  beside list last false false all follows s a = all_with P list (posting_of list quote) all (anew list)

  after_last : (list : List Posting) (last : Option Posting) → AllByRecursion P list → IfFound (λ p. P p × (is_of quote.account quote.week p ≡ true)) last → Comes {A = Posting × List Posting} (Then (AllByRecursion P)) (IsLate quote.through) (posted_after list quote last)
  after_last list None all is = all_with P list (posting_of list quote) all (anew list)
  after_last list (Some last) all is = beside list last (is_stale quote last.quote) (is_again quote last.quote) all (may_follow last is.0 is.1) refl refl

  -- a quote that may follow all of its account and week is refused only where it comes too late
  pub one_posted : (list : List Posting) → AllByRecursion P list → Comes {A = Posting × List Posting} (Then (AllByRecursion P)) (IsLate quote.through) (post list quote)
  one_posted list all = after_last list (last_of quote.account quote.week list) all (last_is_one P quote.account quote.week list all)

-- ---- an archive

module _ {X : Type 0} (same : X → X → Bool) (P : X → Type 0) (F : PostFault → Type 0) where
  -- what has the same content as all that there is of its number is archived
  one_archived : (is : X → Bool) (x : X) → ((y : X) → P y → is y ≡ true → same y x ≡ true) → P x → (list : List X) → AllByRecursion P list → Comes (AllByRecursion P) F (archived_beside same list x (find is list))
  one_archived is x alike one list all = by (find is list) (found_among P is list all)
    where
      as_there : (y : X) (b : Bool) → b ≡ true → Comes (AllByRecursion P) F (if b then Ok list else Err fault.ArchiveConflict)
      as_there y true e = all
      as_there y false e = absurd (cc)

      by : (there : Option X) → IfFound (λ y. P y × (is y ≡ true)) there → Comes (AllByRecursion P) F (archived_beside same list x there)
      by None h = all_with P list x all one
      by (Some y) h = as_there y (same y x) (alike y h.0 h.1)

  all_archived : (with_one : List X → X → Result (List X) PostFault) → ((list : List X) (x : X) → AllByRecursion P list → P x → Comes (AllByRecursion P) F (with_one list x))
      → (list more : List X) → AllByRecursion P list → AllByRecursion P more → Comes (AllByRecursion P) F (archived_each with_one list more)
  all_archived with_one each list [] all new = all
  all_archived with_one each list (x ∷ more) all new =
      comes_then (AllByRecursion P) (AllByRecursion P) F (with_one list x) (λ now. archived_each with_one now more) (each list x all new.0) (λ now there. all_archived with_one each now more there new.1)

some_same : {X : Type 0} (x y : X) → Some x ≡ Some y → x ≡ y
some_same {X} x y e = ap (λ (o : Option X). unwrap_or o x) e

-- ---- what was posted and archived, beside what accounts have accepted

-- a posting is of the version that its account has now, and is kept for the quote of what that has accepted
abbrev pub IsKeptNow : FareEditions → State → Posting → Type 0
IsKeptNow editions state p =
    (p.quote.version ≡ version (accepted_of state p.quote.account)) × (is_kept (quote editions p.quote.account (accepted_of state p.quote.account) p.quote.through) p.quote ≡ true)

-- so it is of a posting, or it is of an earlier version
abbrev pub IsQuoted : FareEditions → State → Posting → Type 0
IsQuoted editions state p = (p.quote.week ≡ monday p.quote.through) × (IsKeptNow editions state p ⊎ (p.quote.version < version (accepted_of state p.quote.account)))

-- an archived tap is one that its account has accepted, and an archived correction too
abbrev pub IsAcceptedTap : State → Tap → Type 0
IsAcceptedTap state tap = get (accepted_of state tap.account).taps (tap_number tap) ≡ Some tap

abbrev pub IsAcceptedFix : State → Fix → Type 0
IsAcceptedFix state fix = get (accepted_of state fix.account).fixes (fix_number fix) ≡ Some fix

abbrev pub Archives : Type 0
Archives = List Tap × List Fix

abbrev pub AreAccepted : State → Archives → Type 0
AreAccepted state archive = AllByRecursion (IsAcceptedTap state) archive.0 × AllByRecursion (IsAcceptedFix state) archive.1

pub record Agree (editions : FareEditions) (state : State) (ledger : LedgerParts) : Type 0 where
  pub theirs : IsOfOwn state
  pub quoted : AllByRecursion (IsQuoted editions state) ledger.postings
  pub accepted : AreAccepted state (ledger.taps, ledger.fixes)

-- ---- a command

still_quoted : (editions : FareEditions) (before now : State) → HaveGrown before now → (p : Posting) → IsQuoted editions before p → IsQuoted editions now p
still_quoted editions before now grown p is = (
  is.0,
  elim (grown p.quote.account).counted [
    | inl same ↦ elim is.1 [
      | inl kept ↦ inl (kept.0 ∙ ap version same, ap (λ a. is_kept (quote editions p.quote.account a p.quote.through) p.quote) (sym same) ∙ kept.1)
      | inr earlier ↦ inr (omega (arith, earlier, ap version same))
    ]
    | inr more ↦ elim is.1 [
      | inl kept ↦ inr (omega (arith, more, kept.0))
      | inr earlier ↦ inr (omega (arith, more, earlier))
    ]
  ],
)

-- where what accounts have accepted grows, the ledger agrees with it as before
pub still_agree : (editions : FareEditions) (before now : State) (ledger : LedgerParts) → HaveGrown before now → Agree editions before ledger → Agree editions now ledger
still_agree editions before now ledger grown agree = record {
  theirs = λ account. (grown account).theirs (agree.theirs account);
  quoted = all_weaker (IsQuoted editions before) (IsQuoted editions now) ledger.postings (still_quoted editions before now grown) agree.quoted;
  accepted = (
    all_weaker (IsAcceptedTap before) (IsAcceptedTap now) ledger.taps (λ tap is. (grown tap.account).taps (tap_number tap) tap is) agree.accepted.0,
    all_weaker (IsAcceptedFix before) (IsAcceptedFix now) ledger.fixes (λ fix is. (grown fix.account).fixes (fix_number fix) fix is) agree.accepted.1,
  );
}

-- ---- a close

module _ (editions : FareEditions) (state : State) (day : ℕ) where
  abbrev pub IsTheirs : ℕ × Accepted → Type 0
  IsTheirs e = accepted_of state e.0 ≡ e.1

  abbrev pub quote_of : ℕ × Accepted → QuoteParts
  quote_of e = quote editions e.0 e.1 day

  abbrev pub sets_of : ℕ × Accepted → SetsParts
  sets_of e = sets e.0 e.1

  -- each account that is quoted is so by what it has accepted
  pub all_theirs : AllByRecursion IsTheirs (quoted state day 0 1)
  all_theirs =
      all_filtered IsTheirs (λ e. is_of_shard 0 1 e.0 && is_quoted day (sets e.0 e.1)) (entries state)
      (all_of IsTheirs (entries state) (λ e is. ap (λ (o : Option Accepted). unwrap_or o nothing) (entry_is_there nat_cmp_total state e is)))

  pub follows : (account : ℕ) (p : Posting) → IsQuoted editions state p → is_of account (monday day) p ≡ true → MayFollow (quote editions account (accepted_of state account) day) p.quote
  follows account p is of =
      let parts = and_parts (p.quote.account == account) (p.quote.week == monday day) of in
      let own : p.quote.account ≡ account = eqb-true p.quote.account account parts.0 in
      let in_week : p.quote.week ≡ monday day = eqb-true p.quote.week (monday day) parts.1 in
      let as_many : version (accepted_of state p.quote.account) ≡ version (accepted_of state account) = ap (λ a. version (accepted_of state a)) own in
      elim is.1 [
        | inl now ↦
            record { no_earlier = omega (arith, now.0, as_many); kept = λ v through. (λ i. is_kept (quote editions (sym own i) (accepted_of state (sym own i)) (sym through i)) p.quote) ∙ now.1; of_week = sym is.0 ∙ in_week }
        | inr earlier ↦ record { no_earlier = omega (arith, earlier, as_many); kept = λ v through. absurd (omega (arith, earlier, as_many, v)); of_week = sym is.0 ∙ in_week }
      ]

  abbrev pub AllQuoted : List Posting → Type 0
  AllQuoted = AllByRecursion (IsQuoted editions state)

  pub one_quoted : (list : List Posting) (e : ℕ × Accepted) → IsTheirs e → AllQuoted list → Comes {A = Posting × List Posting} (Then AllQuoted) (IsLate day) (post list (quote_of e))
  one_quoted list e is all =
      subst (λ a. Comes {A = Posting × List Posting} (Then AllQuoted) (IsLate day) (post list (quote editions e.0 a day))) is
      (one_posted (IsQuoted editions state) (quote editions e.0 (accepted_of state e.0) day) (follows e.0) (λ before. (refl, inl (refl, kept_itself (quote editions e.0 (accepted_of state e.0) day)))) list all)

  each_quoted : (list : List Posting) (es : List (ℕ × Accepted)) → AllByRecursion IsTheirs es → AllQuoted list → Comes {A = List Posting × List Posting} (Then AllQuoted) (IsLate day) (post_each list (map quote_of es))
  each_quoted list [] are all = all
  each_quoted list (e ∷ es) are all = first_then (Then AllQuoted) AllQuoted (IsLate day) list (quote_of e) (map quote_of es) (one_quoted list e are.0 all) (λ first now. each_quoted first.1 es are.1 now)

  module _ (theirs : IsOfOwn state) where
    same_taps : (tap other : Tap) → IsAcceptedTap state tap → IsAcceptedTap state other → is_numbered_as tap other ≡ true → same_tap other tap ≡ true
    same_taps tap other is there e =
        let parts = and_parts _ _ e in
        let first = and_parts _ _ parts.0 in
        let account : other.account ≡ tap.account = eqb-true _ _ first.0 in
        let reader : other.reader ≡ tap.reader = eqb-true _ _ first.1 in
        let seq : other.seq ≡ tap.seq = eqb-true _ _ parts.1 in
        let one : other ≡ tap = some_same other tap (sym there ∙ (λ i. get (accepted_of state (account i)).taps (reader i, seq i)) ∙ is) in
        ap (λ (t : Tap). same_tap t tap) one ∙ tap_itself tap

    same_fixes : (fix other : Fix) → IsAcceptedFix state fix → IsAcceptedFix state other → is_fix_numbered_as fix other ≡ true → same_fix other fix ≡ true
    same_fixes fix other is there e =
        let parts = and_parts _ _ e in
        let first = and_parts _ _ parts.0 in
        let account : other.account ≡ fix.account = eqb-true _ _ first.0 in
        let staff : other.staff ≡ fix.staff = eqb-true _ _ first.1 in
        let seq : other.seq ≡ fix.seq = eqb-true _ _ parts.1 in
        let one : other ≡ fix = some_same other fix (sym there ∙ (λ i. get (accepted_of state (account i)).fixes (staff i, seq i)) ∙ is) in
        ap (λ (f : Fix). same_fix f fix) one ∙ one_is_same fix

    taps_accepted : (account : ℕ) → AllByRecursion (IsAcceptedTap state) (values (accepted_of state account).taps)
    taps_accepted account =
        let taps = (accepted_of state account).taps in
        all_mapped (IsAcceptedTap state) (λ (e : (ℕ × ℕ) × Tap). e.1) (entries taps)
        (all_of (λ (e : (ℕ × ℕ) × Tap). IsAcceptedTap state e.1) (entries taps) (λ e is.
        let there = entry_is_there number_total taps e is in
        let own = (theirs account).taps e.0 e.1 there in
        (λ i. get (accepted_of state (own.1 i)).taps (own.0 i)) ∙ there))

    fixes_accepted : (account : ℕ) → AllByRecursion (IsAcceptedFix state) (values (accepted_of state account).fixes)
    fixes_accepted account =
        let fixes = (accepted_of state account).fixes in
        all_mapped (IsAcceptedFix state) (λ (e : (ℕ × ℕ) × Fix). e.1) (entries fixes)
        (all_of (λ (e : (ℕ × ℕ) × Fix). IsAcceptedFix state e.1) (entries fixes) (λ e is.
        let there = entry_is_there number_total fixes e is in
        let own = (theirs account).fixes e.0 e.1 there in
        (λ i. get (accepted_of state (own.1 i)).fixes (own.0 i)) ∙ there))

    set_archived : (archive : Archives) (account : ℕ) → AreAccepted state archive → Comes (AreAccepted state) (IsLate day) (archived_set archive (sets account (accepted_of state account)))
    set_archived archive account are =
        comes_then (AllByRecursion (IsAcceptedTap state)) (AreAccepted state) (IsLate day) (archived_each archived_tap archive.0 (sets account (accepted_of state account)).taps) (λ taps. archived_each archived_fix archive.1 (sets account (accepted_of state account)).fixes >>= (λ fixes. Ok (taps, fixes)))
        (all_archived same_tap (IsAcceptedTap state) (IsLate day) archived_tap
        (λ list tap all is. one_archived same_tap (IsAcceptedTap state) (IsLate day) (is_numbered_as tap) tap (λ other there e. same_taps tap other is there e) is list all)
        archive.0 (sets account (accepted_of state account)).taps are.0 (taps_accepted account))
        (λ taps of_taps.
        comes_then (AllByRecursion (IsAcceptedFix state)) (AreAccepted state) (IsLate day) (archived_each archived_fix archive.1 (sets account (accepted_of state account)).fixes) (λ fixes. Ok (taps, fixes))
        (all_archived same_fix (IsAcceptedFix state) (IsLate day) archived_fix
        (λ list fix all is. one_archived same_fix (IsAcceptedFix state) (IsLate day) (is_fix_numbered_as fix) fix (λ other there e. same_fixes fix other is there e) is list all)
        archive.1 (sets account (accepted_of state account)).fixes are.1 (fixes_accepted account))
        (λ fixes of_fixes. (of_taps, of_fixes)))

    sets_archived : (archive : Archives) (es : List (ℕ × Accepted)) → AllByRecursion IsTheirs es → AreAccepted state archive → Comes (AreAccepted state) (IsLate day) (archived_sets archive (map sets_of es))
    sets_archived archive [] of are = are
    sets_archived archive (e ∷ es) of are =
        comes_then (AreAccepted state) (AreAccepted state) (IsLate day) (archived_set archive (sets_of e)) (λ now. archived_sets now (map sets_of es))
        (subst (λ a. Comes (AreAccepted state) (IsLate day) (archived_set archive (sets e.0 a))) of.0 (set_archived archive e.0 are))
        (λ now still. sets_archived now es of.1 still)

-- a close leaves a ledger that agrees, and is refused only where a later day of its week was closed
pub close_agrees : (editions : FareEditions) (books : Books) (day : ℕ) → Agree editions books.state books.ledger
    → Comes {A = List Posting × LedgerParts} (Then (Agree editions books.state)) (IsLate day) (close editions books day)
close_agrees editions books day agree =
    let state = books.state in
    let list = quoted state day 0 1 in
    comes_then (Then (AllQuoted editions state day)) (Then (Agree editions state)) (IsLate day)
    (post_each books.ledger.postings (map (quote_of editions state day) list))
    (λ given. archived_sets (books.ledger.taps, books.ledger.fixes) (map (sets_of editions state day) list) >>= (λ archive. Ok (given.0, record { postings = given.1; taps = archive.0; fixes = archive.1 })))
    (each_quoted editions state day books.ledger.postings list (all_theirs editions state day) agree.quoted)
    (λ given posted.
    comes_then (AreAccepted state) (Then (Agree editions state)) (IsLate day)
    (archived_sets (books.ledger.taps, books.ledger.fixes) (map (sets_of editions state day) list))
    (λ archive. Ok (given.0, record { postings = given.1; taps = archive.0; fixes = archive.1 }))
    (sets_archived editions state day agree.theirs (books.ledger.taps, books.ledger.fixes) list (all_theirs editions state day) agree.accepted)
    (λ archive are. record { theirs = agree.theirs; quoted = posted; accepted = (are.0, are.1) }))

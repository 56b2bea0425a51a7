-- What a ledger has of an account, and what the account has accepted does not give.
use Rattle.std.specs.Prelude.{◌≡◌, ◌<◌, ℕ, ◌==◌, nat_lt, pos, Bool, if◌then◌else◌, true, false, take, List, [], ◌∷◌, Option, Some, slice_get, refl}
use Rattle.std.specs.FinMap.{values}
use Rattle.std.specs.List.{AllByRecursion}
use Rattle.std.proofs.Common.{zero, suc, sym, ap, ap₂, ◌∙◌, arith}
use Rattle.std.proofs.lemmas.Bool.{ne_eqb, le-ltb, true≢false}
use Rattle.std.proofs.lemmas.Int.{ints}
use Rattle.pay_day.specs.Words.{monday}
use Rattle.pay_tables.specs.Words.{FareEditions}
use Rattle.pay_rows.specs.declared.row.TapRow.{TapRow}
use Rattle.pay_rules.specs.declared.tap.Kind.TheVariants.{Bus}
use Rattle.pay_rules.specs.declared.tap.Tap.{Tap}
use Rattle.pay_rules.specs.declared.posting.Posting.{Posting}
use Rattle.pay_rules.specs.Accepted.{Accepted, version}
use Rattle.pay_rules.specs.Quotes.{quote}
use Rattle.pay_rules.specs.SetsParts.{SetsParts, sets}
use Rattle.pay_rules.specs.State.{State, accepted_of}
use Rattle.pay_set_rows.specs.SetRows.{tap_row, tap_from_row, fix_row, fix_from_row}
use Rattle.pay_postings.specs.Words.{LedgerParts, ArchivedParts, is_kept, is_posted_so, IsRowOf, AccountAgrees}
use Rattle.pay_ledger.specs.Words.{accounts_in, PassesIn, PassBefore, IsFoundIn}
use Rattle.pay_audit.specs.declared.difference.Difference.{Difference}
use Rattle.pay_audit.specs.declared.difference.Difference.TheVariants.{Tap as OfTap, Fix as OfFix, Posting as OfPosting}

-- the first of a list of which this is not so is this
abbrev pub IsFirstNot : {X : Type 0} → (X → Type 0) → List X → X → Type 0
IsFirstNot IsSo list x = (at : ℕ) × (slice_get list at ≡ Some x) × AllByRecursion IsSo (take at list) × (IsSo x → ⊥)

-- the first of these rows that is that of none of these is read as this
abbrev pub IsOther : {X Row : Type 0} → (X → Row) → (Row → Option X) → List X → List Row → X → Type 0
IsOther {X} {Row} row_of from_row list rows it = (row : Row) × IsFirstNot (IsRowOf row_of list) rows row × (from_row row ≡ Some it)

-- it is an archived tap that is none of these sets, or else such a correction
abbrev pub IsOtherItem : SetsParts → ArchivedParts → Difference → Type 0
IsOtherItem its archived (OfTap tap) = IsOther tap_row (tap_from_row its.account) its.taps archived.taps tap
IsOtherItem its archived (OfFix fix) = AllByRecursion (IsRowOf tap_row its.taps) archived.taps × IsOther fix_row (fix_from_row its.account) its.fixes archived.fixes fix
IsOtherItem its archived (OfPosting week through) = ⊥

-- Beside what an account has accepted.
module _ (editions : FareEditions) (account : ℕ) (accepted : Accepted) where
  -- a posting is so, and is of the week of its day
  abbrev pub IsPostedSo : Posting → Type 0
  IsPostedSo p = (is_posted_so editions account accepted p ≡ true) × (p.quote.week ≡ monday p.quote.through)

  -- each of these postings is so
  abbrev pub ArePostedSo : List Posting → Type 0
  ArePostedSo = AllByRecursion IsPostedSo

  -- the first of these postings that is not so is of this week through this day
  abbrev pub IsPostedOtherwise : List Posting → ℕ → ℕ → Type 0
  IsPostedOtherwise postings week through =
      (posting : Posting) × IsFirstNot (λ p. is_posted_so editions account accepted p ≡ true) postings posting × (posting.quote.week ≡ week) × (posting.quote.through ≡ through)

  -- This of what is archived and posted does not agree: a tap, or where all taps do a correction, or where all these do a posting.
  abbrev pub Differs : ArchivedParts → Difference → Type 0
  Differs archived (OfPosting week through) =
      AllByRecursion (IsRowOf tap_row (values accepted.taps)) archived.taps × AllByRecursion (IsRowOf fix_row (values accepted.fixes)) archived.fixes × IsPostedOtherwise archived.postings week through
  Differs archived item = IsOtherItem (sets account accepted) archived item

-- this of what a ledger has of an account does not agree with what the account has accepted
abbrev pub DiffersIn : FareEditions → State → LedgerParts → ℕ × Difference → Type 0
DiffersIn editions state ledger it = IsFoundIn (λ account. Differs editions account (accepted_of state account)) ledger it

-- what it has of accounts of smaller numbers than this does
abbrev pub AgreeBefore : FareEditions → State → LedgerParts → ℕ → Type 0
AgreeBefore editions state ledger account = PassBefore (λ other. AccountAgrees editions other (accepted_of state other)) ledger account

-- of an account above another, what a ledger has agrees with what it has accepted
abbrev pub AgreesAbove : ℕ → FareEditions → State → ℕ → ArchivedParts → Type 0
AgreesAbove after editions state account archived = after < account → AccountAgrees editions account (accepted_of state account) archived

-- and so it does of each above that one
abbrev pub AgreeAfter : FareEditions → State → LedgerParts → ℕ → Type 0
AgreeAfter editions state ledger after = AllByRecursion (PassesIn (AgreesAbove after editions state) ledger) (accounts_in ledger)

-- or of each between two
abbrev pub AgreeBetween : FareEditions → State → LedgerParts → ℕ → ℕ → Type 0
AgreeBetween editions state ledger after account = PassBefore (AgreesAbove after editions state) ledger account

-- ---- worked rows: account 7 boarded a bus at 07:46:40, and is archived so

bus : Tap
bus = record { account = 7; reader = 12; seq = 4; place = 31; kind = Bus; stamp = record { utc = 1_704_700_000; day = 19_730; second = 28_000 } }

-- the same number a second later
later_bus : Tap
later_bus = record { account = 7; reader = 12; seq = 4; place = 31; kind = Bus; stamp = record { utc = 1_704_700_001; day = 19_730; second = 28_001 } }

-- the account has accepted nothing
not_accepted : IsOther tap_row (tap_from_row 7) [] (tap_row bus ∷ []) bus
unfolding bus
not_accepted = (tap_row bus, (0, refl, tt, λ there. let none = there.2 in cc), refl)

-- or it has accepted another of the number
otherwise_accepted : IsOther tap_row (tap_from_row 7) (later_bus ∷ []) (tap_row bus ∷ []) bus
unfolding bus later_bus
otherwise_accepted = (tap_row bus, (0, refl, tt, λ there. other there.0 there.1 there.2 there.3), refl)
  where
    other : (at : ℕ) (tap : Tap) → slice_get (later_bus ∷ []) at ≡ Some tap → tap_row tap ≡ tap_row bus → ⊥
    other zero tap is same =
        let it : later_bus ≡ tap = cc in
        let second : pos 28_001 ≡ pos 28_000 = ap (λ (row : TapRow). row.second) (ap tap_row it ∙ same) in
        omega (arith, ints, second)
    other (suc at) tap is same = cc

-- what it has accepted just so is no difference
accepted_so : IsOther tap_row (tap_from_row 7) (bus ∷ []) (tap_row bus ∷ []) bus → ⊥
accepted_so other = other.1.3 (0, bus, refl, one other.0 other.1.0 other.1.1)
  where
    one : (row : TapRow) (at : ℕ) → slice_get (tap_row bus ∷ []) at ≡ Some row → tap_row bus ≡ row
    one row zero is = cc
    one row (suc at) is = absurd (cc)

-- ---- and of a ledger that has just this tap

just_the_bus : LedgerParts
just_the_bus = record { postings = []; taps = bus ∷ []; fixes = [] }

-- whatever it has accepted, none is above account 7, and none between it and account 6
none_above : (editions : FareEditions) (state : State) → AgreeAfter editions state just_the_bus 7
unfolding just_the_bus bus
none_above editions state = ((omega arith, λ above. absurd (omega (arith, above))), tt)

none_between : (editions : FareEditions) (state : State) → AgreeBetween editions state just_the_bus 6 7
unfolding just_the_bus bus
none_between editions state = ((λ below. absurd (omega (arith, below))), tt)

-- above account 6, and between it and account 8, is account 7, and does not agree where it has accepted no tap
it_is_above : (editions : FareEditions) (state : State) → values (accepted_of state 7).taps ≡ [] → AgreeAfter editions state just_the_bus 6 → ⊥
unfolding just_the_bus bus
it_is_above editions state none agree = let there = (agree.0.1 (omega arith)).taps.0 in let is = there.2 in cc

it_is_between : (editions : FareEditions) (state : State) → values (accepted_of state 7).taps ≡ [] → AgreeBetween editions state just_the_bus 6 8 → ⊥
unfolding just_the_bus bus
it_is_between editions state none agree = let there = ((agree.0 (omega arith)).1 (omega arith)).taps.0 in let is = there.2 in cc

-- ---- postings

later_is_not : (version posted : ℕ) (kept : Bool) → version < posted → (if posted == version then kept else nat_lt posted version) ≡ false
later_is_not version posted kept less =
    ap₂ (λ (same earlier : Bool). if same then kept else earlier) (ne_eqb posted version (λ same. omega (arith, less, same))) (le-ltb posted version (omega (arith, less)))

-- a posting of a version that the account does not have yet is not so, whatever is due
of_later_version : (editions : FareEditions) (account : ℕ) (accepted : Accepted) (posting : Posting) → version accepted < posting.quote.version → IsPostedOtherwise editions account accepted (posting ∷ []) posting.quote.week posting.quote.through
of_later_version editions account accepted posting less =
    let is = later_is_not (version accepted) posting.quote.version (is_kept (quote editions account accepted posting.quote.through) posting.quote) less in
    (posting, (0, refl, tt, λ so. true≢false (sym so ∙ is)), refl, refl)

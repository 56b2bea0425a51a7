-- Worked rows: a ledger of one posting, one tap and one credit, as the rows of its tables and as a database; and rows that are bad.
use Rattle.std.specs.Prelude.{◌≡◌, ◌==◌, ◌&&◌, ◌||◌, not, Bool, if◌then◌else◌, ℕ, ℤ, pos, List, [], ◌∷◌, map, replicate, codes, true, false, Some, None, refl}
use Rattle.std.proofs.Common.{arith, inl, inr}
use Rattle.std.proofs.lemmas.Int.{ints}
use Rattle.std.proofs.lemmas.List.Sorted.{IsPermutation-refl}
use Rattle.sqlite.specs.declared.types.Value.TheVariants.{Null, Int, Text}
use Rattle.sqlite.specs.Order.{Row}
use Rattle.sqlite.specs.Effect.{Database}
use Rattle.pay_rules.specs.declared.tap.Kind.TheVariants.{Bus}
use Rattle.pay_rules.specs.declared.tap.Tap.{Tap}
use Rattle.pay_rules.specs.declared.fix.Fix.{Fix}
use Rattle.pay_rules.specs.declared.fix.What.TheVariants.{Credit}
use Rattle.pay_rules.specs.declared.posting.Posting.{Posting}
use Rattle.pay_rules.specs.QuoteParts.{QuoteParts}
use Rattle.pay_rules.specs.declared.post_fault.PostFault.TheVariants.{BadArchive, StaleQuote, Memory}
use Rattle.std.specs.Ordering.{int_eq}
use Rattle.pay_postings.specs.PostingRows.{is_share_of, amount_or_none}
use Rattle.pay_postings.specs.Words.{LedgerParts}
use Rattle.pay_records.specs.Words.{LedgerRows, HoldsRows, no_rows, ledger_schema, ledger_places, ledger_has, other_schema, other_places, other_has}
use Rattle.pay_records.specs.declared.fault.ReadFault.TheVariants as read
use Rattle.pay_ledger.specs.declared.fault.LedgerFault.TheVariants.{Refused}
use Rattle.pay_ledger.specs.Faults.{ledger_fault_of_read, is_of_store, open_fault_number, open_fault_of_read}
use Rattle.pay_ledger.specs.Stores.{row_of_posting, row_of_tap, row_of_fix, AreRowsOf, Stores, with_shares, with_postings, with_taps, with_fixes}
use Rattle.pay_ledger.specs.Opening.{nothing}
use Rattle.pay_ledger.specs.BadRows.{ReadsAs, IsReadable, IsBad, asked, IsJudgedByRows}
use Rattle.pay_ledger.specs.OneReading.{HaveOneAmount, share_is_bad, bad_is_not_readable, reads_one}

-- 8.60 is due of account 7 for a week through its Tuesday, of which 5.00 fall to operator 1 and 3.60 to operator 3
abbrev charge : Posting
charge = record {
  quote = record { account = 7; week = 19_730; through = 19_731; version = 2; edition = 4; due = 860; shares = 500 ∷ 0 ∷ 360 ∷ replicate 13 0 };
  amount = pos 860;
  share_amounts = pos 500 ∷ pos 0 ∷ pos 360 ∷ replicate 13 (pos 0);
}

abbrev bus : Tap
bus = record { account = 7; reader = 12; seq = 4; place = 31; kind = Bus; stamp = record { utc = 1_704_700_000; day = 19_730; second = 28_000 } }

abbrev credit : Fix
credit = record { account = 7; staff = 2; seq = 0; what = Credit (record { day = 19_731; pence = 50 }) }

abbrev ledger : LedgerParts
ledger = record { postings = charge ∷ []; taps = bus ∷ []; fixes = credit ∷ [] }

posting_as_row : row_of_posting (pos 3, charge) ≡ (pos 3, pos 7, record { week = pos 19_730; through = pos 19_731; version = pos 2; due = pos 860; amount = pos 860; edition = pos 4 })
posting_as_row = refl

tap_as_row : row_of_tap bus ≡ (pos 7, record { reader = pos 12; seq = pos 4; utc = pos 1_704_700_000; day = pos 19_730; second = pos 28_000; place = pos 31; kind = pos 2 })
tap_as_row = refl

credit_as_row : row_of_fix credit ≡ (pos 7, record { staff = pos 2; seq = pos 0; what = pos 2; a = pos 19_731; b = pos 50; c = pos 0; d = pos 0; e = pos 0 })
credit_as_row = refl

-- an operator to which nothing fell has no row
abbrev rows : LedgerRows
rows = record {
  postings = (pos 3, pos 7, record { week = pos 19_730; through = pos 19_731; version = pos 2; due = pos 860; amount = pos 860; edition = pos 4 }) ∷ [];
  shares = record { posting = pos 3; operator = pos 1; amount = pos 500 } ∷ record { posting = pos 3; operator = pos 3; amount = pos 360 } ∷ [];
  taps = (pos 7, record { reader = pos 12; seq = pos 4; utc = pos 1_704_700_000; day = pos 19_730; second = pos 28_000; place = pos 31; kind = pos 2 }) ∷ [];
  fixes = (pos 7, record { staff = pos 2; seq = pos 0; what = pos 2; a = pos 19_731; b = pos 50; c = pos 0; d = pos 0; e = pos 0 }) ∷ [];
}

are_its_rows : AreRowsOf ledger rows
are_its_rows = record { ids = pos 3 ∷ []; as_long = refl; postings = refl; shares = refl; taps = refl; fixes = refl }

nothing_has_no_rows : AreRowsOf nothing no_rows
nothing_has_no_rows = record { ids = []; as_long = refl; postings = refl; shares = refl; taps = refl; fixes = refl }

-- a row of whole numbers, beside its rowid
abbrev stored : ℤ → List ℤ → Row
stored rowid numbers = Int rowid ∷ map Int numbers

abbrev meta_rows : List Row
meta_rows = (Int (pos 1) ∷ Text (codes "farebox") ∷ Int (pos 2) ∷ []) ∷ []

abbrev posting_rows : List Row
posting_rows = (Int (pos 3) ∷ Null ∷ map Int (pos 7 ∷ pos 19_730 ∷ pos 19_731 ∷ pos 2 ∷ pos 860 ∷ pos 860 ∷ pos 4 ∷ [])) ∷ []

abbrev share_rows : List Row
share_rows = stored (pos 1) (pos 3 ∷ pos 1 ∷ pos 500 ∷ []) ∷ stored (pos 2) (pos 3 ∷ pos 3 ∷ pos 360 ∷ []) ∷ []

abbrev tap_rows : List Row
tap_rows = stored (pos 1) (pos 7 ∷ pos 12 ∷ pos 4 ∷ pos 1_704_700_000 ∷ pos 19_730 ∷ pos 28_000 ∷ pos 31 ∷ pos 2 ∷ []) ∷ []

abbrev fix_rows : List Row
fix_rows = stored (pos 1) (pos 7 ∷ pos 2 ∷ pos 0 ∷ pos 2 ∷ pos 19_731 ∷ pos 50 ∷ pos 0 ∷ pos 0 ∷ pos 0 ∷ []) ∷ []

-- the trees are those of meta, postings, shares, taps and fixes
abbrev rows_in : ℕ → List Row
rows_in tree = if tree == 0 then meta_rows else if tree == 2 then posting_rows else if tree == 5 then share_rows else if tree == 7 then tap_rows else if tree == 9 then fix_rows else []

abbrev database : Database
database = record { schema = ledger_schema; trees = rows_in }

it_is_kept : Stores database ledger
unfolding HoldsRows
it_is_kept = record {
  rows = rows;
  held = (
    ledger_places,
    ledger_has,
    record {
      meta = refl;
      postings = refl;
      postings_rise = (pos 3, refl, omega (arith, ints), tt);
      shares = record { rising = (pos 1, refl, omega (arith, ints), (pos 2, refl, omega (arith, ints), tt)); are = refl };
      taps = record { rising = (pos 1, refl, omega (arith, ints), tt); are = refl };
      fixes = record { rising = (pos 1, refl, omega (arith, ints), tt); are = refl };
    },
  );
  are = are_its_rows;
}

-- in another order, beside a note of the posting and the count of numbers: the trees are those of fixes, notes, taps, postings, the count, shares and meta
abbrev rows_among_others : ℕ → List Row
rows_among_others tree =
    if tree == 0 then fix_rows
    else if tree == 2 then stored (pos 1) (pos 3 ∷ []) ∷ []
    else if tree == 3 then tap_rows
    else if tree == 5 then posting_rows
    else if tree == 7 then (Int (pos 1) ∷ Text (codes "postings2") ∷ Int (pos 3) ∷ []) ∷ []
    else if tree == 8 then share_rows
    else if tree == 10 then meta_rows
    else []

it_is_kept_among_others : Stores (record { schema = other_schema; trees = rows_among_others }) ledger
unfolding HoldsRows
it_is_kept_among_others = record {
  rows = rows;
  held = (
    other_places,
    other_has,
    record {
      meta = refl;
      postings = refl;
      postings_rise = (pos 3, refl, omega (arith, ints), tt);
      shares = record { rising = (pos 1, refl, omega (arith, ints), (pos 2, refl, omega (arith, ints), tt)); are = refl };
      taps = record { rising = (pos 1, refl, omega (arith, ints), tt); are = refl };
      fixes = record { rising = (pos 1, refl, omega (arith, ints), tt); are = refl };
    },
  );
  are = are_its_rows;
}

-- posted and archived one after another
all_of_it : with_fixes (credit ∷ []) (with_taps (bus ∷ []) (with_postings (charge ∷ []) nothing)) ≡ ledger
all_of_it = refl

shares_of_another : (with_shares (record { posting = pos 4; operator = pos 1; amount = pos 9 } ∷ []) rows).shares
    ≡ record { posting = pos 3; operator = pos 1; amount = pos 500 } ∷ record { posting = pos 3; operator = pos 3; amount = pos 360 } ∷ record { posting = pos 4; operator = pos 1; amount = pos 9 } ∷ []
shares_of_another = refl

not_of_store : is_of_store (ledger_fault_of_read read.BadArchive) ≡ false
not_of_store = refl

memory_of_store : is_of_store (Refused Memory) ≡ true
memory_of_store = refl

bad_column_at_opening : open_fault_number (open_fault_of_read read.BadArchive) ≡ 40
bad_column_at_opening = refl

-- ---- bad rows

-- the rows above say the posting, also where those of its shares come the other way about
they_say : ReadsAs rows 7 (Some (charge ∷ []))
they_say = (rows.shares, IsPermutation-refl rows.shares, refl)

and_in_either_order : ReadsAs rows 7 (Some (charge ∷ []))
and_in_either_order = (
  record { posting = pos 3; operator = pos 3; amount = pos 360 } ∷ record { posting = pos 3; operator = pos 1; amount = pos 500 } ∷ [],
  record { moves = (0, 1) ∷ []; below = (omega arith, omega arith, tt); is = refl },
  refl,
)

-- an account without rows has no postings
no_postings : ReadsAs rows 8 (Some [])
no_postings = ([], IsPermutation-refl [], refl)

-- without its second share, of the 8.60 that are due only 5.00 fall to an operator
abbrev one_share_short : LedgerRows
one_share_short = record rows { shares = record { posting = pos 3; operator = pos 1; amount = pos 500 } ∷ [] }

short_says_nothing : ReadsAs one_share_short 7 None
short_says_nothing = (one_share_short.shares, IsPermutation-refl one_share_short.shares, refl)

-- all of a posting of account 7 falls to operator 17, whom there is not; the posting of account 8 is good
abbrev to_operator_17 : LedgerRows
to_operator_17 = record {
  postings = (pos 1, pos 7, record { week = pos 19_730; through = pos 19_730; version = pos 2; due = pos 860; amount = pos 860; edition = pos 4 })
      ∷ (pos 2, pos 8, record { week = pos 19_730; through = pos 19_730; version = pos 1; due = pos 175; amount = pos 175; edition = pos 4 }) ∷ [];
  shares = record { posting = pos 1; operator = pos 17; amount = pos 860 } ∷ record { posting = pos 2; operator = pos 4; amount = pos 175 } ∷ [];
  taps = [];
  fixes = [];
}

says_nothing : ReadsAs to_operator_17 7 None
says_nothing = (record { posting = pos 1; operator = pos 17; amount = pos 860 } ∷ [], IsPermutation-refl (record { posting = pos 1; operator = pos 17; amount = pos 860 } ∷ []), refl)

bad_in_whatever_order : IsBad to_operator_17 7
bad_in_whatever_order = share_is_bad to_operator_17 7 refl

good_beside_it : IsReadable to_operator_17 8
good_beside_it = (
  record {
    quote = record { account = 8; week = 19_730; through = 19_730; version = 1; edition = 4; due = 175; shares = 0 ∷ 0 ∷ 0 ∷ 175 ∷ replicate 12 0 };
    amount = pos 175;
    share_amounts = pos 0 ∷ pos 0 ∷ pos 0 ∷ pos 175 ∷ replicate 12 (pos 0);
  } ∷ [],
  (record { posting = pos 2; operator = pos 4; amount = pos 175 } ∷ [], IsPermutation-refl (record { posting = pos 2; operator = pos 4; amount = pos 175 } ∷ []), refl),
)

-- a quote of account 7 by an earlier version, beside a set of account 8
abbrev earlier : QuoteParts
earlier = record { account = 7; week = 19_730; through = 19_730; version = 1; edition = 4; due = 860; shares = 860 ∷ replicate 15 0 }

both_are_asked : asked (earlier ∷ []) (record { account = 8; taps = []; fixes = [] } ∷ []) ≡ 7 ∷ 8 ∷ []
both_are_asked = refl

-- it is answered by 45, and not by 42, though the posting that falls to operator 17 is of a later version
bad_archive : IsJudgedByRows to_operator_17 (7 ∷ 8 ∷ []) (Refused BadArchive)
bad_archive = inr (inl (refl, 7, refl, says_nothing))

not_stale : IsJudgedByRows to_operator_17 (7 ∷ 8 ∷ []) (Refused (StaleQuote 7 2 19_730)) → ⊥
not_stale (inl of_store) = cc
not_stale (inr (inl bad)) = let is = bad.0 in cc
not_stale (inr (inr stale)) = bad_is_not_readable to_operator_17 7 bad_in_whatever_order (stale.1 7 refl)

-- the rows of account 8 say its posting in each order, and 45 is no answer of it
one_amount : HaveOneAmount (record { posting = pos 2; operator = pos 4; amount = pos 175 } ∷ [])
one_amount id operator = go (is_share_of id operator (record { posting = pos 2; operator = pos 4; amount = pos 175 }))
  where
    go : (is : Bool) → ((not is || int_eq (pos 175) (amount_or_none (if is then Some (record { posting = pos 2; operator = pos 4; amount = pos 175 }) else None))) && true) ≡ true
    go true = refl
    go false = refl

some_is_not_none : {X : Type 0} (x : X) → Some x ≡ None → ⊥
some_is_not_none x e = cc

not_of_account_8 : ReadsAs to_operator_17 8 None → ⊥
not_of_account_8 none = some_is_not_none _ (reads_one to_operator_17 8 None one_amount none)

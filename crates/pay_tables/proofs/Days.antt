-- The edition of a day: what it shares with the others, and that no other began between its first day and that day.
use Rattle.std.proofs.Common.{◌≡◌, ℕ, ◌≤◌, ◌<◌, Bool, true, false, cond, List, [], ◌∷◌, All, Option, Some, None, IfSome, refl, arith, leb-true, le-leb}
use Rattle.std.specs.List.{AllByRecursion, find}
use Rattle.std.proofs.lemmas.List.Elements.{All-head, All-tail, All-from_recursion}
use Rattle.pay_day.specs.Words.{IsDay}
use Rattle.pay_day.specs.declared.limits.TheConstants.{FIRST_DAY}
use Rattle.pay_tables.specs.declared.edition.Edition.{Edition}
use Rattle.pay_tables.specs.FareTables.{FareTables, IsFareTables}
use Rattle.pay_tables.specs.FareEditions.{AreFromLast, AreOfOneFile, FareEditions, IsEdition, IsFareEditions, begins_on, edition_on, first_day, has_begun, on, tables_or_own}

-- what is so of each is so of the one that is found, if one is
found : (P : Edition → Type 0) (day : ℕ) (items : List Edition) → All P items → IfSome (find (has_begun day) items) P
found P day [] all = tt
found P day (edition ∷ items) all = here_or_later (has_begun day edition) (found P day items (All-tail P edition items all))
  where
    here_or_later : (b : Bool) → IfSome (find (has_begun day) items) P → IfSome (cond b (Some edition) (find (has_begun day) items)) P
    here_or_later true later = All-head P edition items all
    here_or_later false later = later

-- ---- what all share

of_tables : (own : FareTables) (o : Option Edition) → IfSome o (IsEdition own) → AreOfOneFile own (tables_or_own own o)
of_tables own None h = record { zones = refl; holidays = refl; places = refl; interchanges = refl; hopper = refl }
of_tables own (Some edition) h = h.shared

pub shares : (editions : FareEditions) → IsFareEditions editions → (day : ℕ) → AreOfOneFile editions.own (on editions day)
shares editions h day = of_tables editions.own (edition_on editions day) (found (IsEdition editions.own) day editions.items h.each)

in_range_of : (own : FareTables) → IsFareTables own → (o : Option Edition) → IfSome o (IsEdition own) → IsFareTables (tables_or_own own o)
in_range_of own is None h = is
in_range_of own is (Some edition) h = h.in_range

-- the numbers of the tables of each day are in their ranges
pub each_in_range : (editions : FareEditions) → IsFareEditions editions → (day : ℕ) → IsFareTables (on editions day)
each_in_range editions h day = in_range_of editions.own h.own (edition_on editions day) (found (IsEdition editions.own) day editions.items h.each)

-- ---- its first day is a service day

begins_in_range : (own : FareTables) (o : Option Edition) → IfSome o (IsEdition own) → IsDay (begins_on o)
begins_in_range own None h = (omega arith, omega arith)
begins_in_range own (Some edition) h = (omega (arith, h.day.0), h.day.1)

pub first_in_range : (editions : FareEditions) → IsFareEditions editions → (day : ℕ) → IsDay (first_day editions day)
first_in_range editions h day = begins_in_range editions.own (edition_on editions day) (found (IsEdition editions.own) day editions.items h.each)

-- ---- which began last

begun : (day : ℕ) (items : List Edition) → FIRST_DAY ≤ day → begins_on (find (has_begun day) items) ≤ day
begun day [] first = first
begun day (edition ∷ items) first = here_or_later (has_begun day edition) refl (begun day items first)
  where
    here_or_later : (b : Bool) → has_begun day edition ≡ b → begins_on (find (has_begun day) items) ≤ day → begins_on (cond b (Some edition) (find (has_begun day) items)) ≤ day
    here_or_later true e later = leb-true edition.day day e
    here_or_later false e later = later

not_later : (day : ℕ) (edition : Edition) (others : List Edition) → AllByRecursion (λ other. other.day < edition.day) others → AllByRecursion (λ other. other.day ≤ day → other.day ≤ edition.day) others
not_later day edition [] all = tt
not_later day edition (other ∷ others) all = ((λ h. omega (arith, all.0)), not_later day edition others all.1)

none_after : (day : ℕ) (items : List Edition) → AreFromLast items → AllByRecursion (λ edition. edition.day ≤ day → edition.day ≤ begins_on (find (has_begun day) items)) items
none_after day [] from_last = tt
none_after day (edition ∷ items) from_last = here_or_later (has_begun day edition) refl (none_after day items from_last.1)
  where
    none_begun : edition.day ≤ day → has_begun day edition ≡ false → ⊥
    none_begun its not = differ (has_begun day edition) (le-leb edition.day day its) not
      where
        differ : (b : Bool) → b ≡ true → b ≡ false → ⊥
        differ b is not_so = cc

    here_or_later : (b : Bool) → has_begun day edition ≡ b → AllByRecursion (λ it. it.day ≤ day → it.day ≤ begins_on (find (has_begun day) items)) items
        → AllByRecursion (λ it. it.day ≤ day → it.day ≤ begins_on (cond b (Some edition) (find (has_begun day) items))) (edition ∷ items)
    here_or_later true e later = ((λ h. omega arith), not_later day edition items from_last.0)
    here_or_later false e later = ((λ h. absurd (none_begun h e)), later)

pub first_by_then : (editions : FareEditions) (day : ℕ) → FIRST_DAY ≤ day → first_day editions day ≤ day
first_by_then editions day first = begun day editions.items first

pub none_between : (editions : FareEditions) → IsFareEditions editions → (day : ℕ) → All (λ edition. edition.day ≤ day → edition.day ≤ first_day editions day) editions.items
none_between editions h day = All-from_recursion (λ edition. edition.day ≤ day → edition.day ≤ first_day editions day) editions.items (none_after day editions.items h.from_last)

-- What is found among rows, and what a row more changes.
use Rattle.std.proofs.Common.{◌≡◌, ◌∙◌, Bool, cond, true, false, refl, ap, List, [], ◌∷◌, ◌++◌, Option, Some, None, append-nil}
use Rattle.std.specs.Prelude.{⊤, find, fold, if◌then◌else◌}
use Rattle.std.specs.Str.{bytes_eq}
use Rattle.clap.specs.Walk.{Row, Rule, Text, at_row, default_rows, has_row, is_empty, more_values, reading_by, with_default, with_values, without}
use Rattle.clap.specs.Kinds.{Kinds, or_else}
use Rattle.clap.specs.Faults.{default_fault, defaults_fault, given_default_fault}
use Rattle.clap.specs.declared.builder.value_parser.Reading.TheVariants as reading
use Rattle.clap.specs.declared.parser.matches.ValueSource.TheVariants.{CommandLine, DefaultValue}

-- the first row of a name
abbrev pub found : Text → List Row → Option Row
found id rows = find (λ r. bytes_eq r.id id) rows

-- the row of a name that was given one word
abbrev pub row_with : Text → Text → Row
row_with id word = record { id = id; values = word ∷ []; count = None; source = Some CommandLine; reading = reading.AsWritten }

-- the row of a name that has this value by default
abbrev pub default_row : Text → Text → Row
default_row id word = record { id = id; values = word ∷ []; count = None; source = Some DefaultValue; reading = reading.AsWritten }

-- a row of another name changes nothing
pub found_other : (id : Text) (rows : List Row) (r : Row) → bytes_eq r.id id ≡ false → found id (rows ++ r ∷ []) ≡ found id rows
found_other id [] r other = rw other refl
found_other id (x ∷ rows) r other = go (bytes_eq x.id id) (found_other id rows r other)
  where
    go : (t : Bool) → found id (rows ++ r ∷ []) ≡ found id rows → cond t (Some x) (found id (rows ++ r ∷ [])) ≡ cond t (Some x) (found id rows)
    go true e = refl
    go false e = e

-- where a name has no row, its row is the one that is added
pub found_new : (id : Text) (rows : List Row) (r : Row) → found id rows ≡ None → bytes_eq r.id id ≡ true → found id (rows ++ r ∷ []) ≡ Some r
found_new id [] r none same = rw same refl
found_new id (x ∷ rows) r none same = go (bytes_eq x.id id) none (found_new id rows r)
  where
    go : (t : Bool) → cond t (Some x) (found id rows) ≡ None → (found id rows ≡ None → bytes_eq r.id id ≡ true → found id (rows ++ r ∷ []) ≡ Some r)
        → cond t (Some x) (found id (rows ++ r ∷ [])) ≡ Some r
    go true e next = cc
    go false e next = next e same

pub no_row : (id : Text) (rows : List Row) → found id rows ≡ None → has_row id rows ≡ false
no_row id [] none = refl
no_row id (x ∷ rows) none = go (bytes_eq x.id id) refl none (no_row id rows)
  where
    go : (t : Bool) → bytes_eq x.id id ≡ t → cond t (Some x) (found id rows) ≡ None → (found id rows ≡ None → has_row id rows ≡ false) → has_row id (x ∷ rows) ≡ false
    go true is e next = cc
    go false is e next = rw is (next e)

pub a_row : (id : Text) (rows : List Row) (r : Row) → found id rows ≡ Some r → has_row id rows ≡ true
a_row id [] r some = cc
a_row id (x ∷ rows) r some = go (bytes_eq x.id id) refl some (a_row id rows r)
  where
    go : (t : Bool) → bytes_eq x.id id ≡ t → cond t (Some x) (found id rows) ≡ Some r → (found id rows ≡ Some r → has_row id rows ≡ true) → has_row id (x ∷ rows) ≡ true
    go true is e next = rw is refl
    go false is e next = rw is (next e)

at_end : (id : Text) (change : Row → List Row) (missing rows : List Row) → found id rows ≡ None → at_row id change missing rows ≡ rows ++ missing
at_end id change missing [] none = refl
at_end id change missing (x ∷ rows) none = go (bytes_eq x.id id) refl none (at_end id change missing rows)
  where
    go : (t : Bool) → bytes_eq x.id id ≡ t → cond t (Some x) (found id rows) ≡ None → (found id rows ≡ None → at_row id change missing rows ≡ rows ++ missing)
        → at_row id change missing (x ∷ rows) ≡ (x ∷ rows) ++ missing
    go true is e next = cc
    go false is e next = rw is (ap (λ l. x ∷ l) (next e))

-- a word for a name that has no row adds its row
pub row_added : (id word : Text) (rows : List Row) → found id rows ≡ None
    → with_values id reading.AsWritten CommandLine (word ∷ []) (without id rows) ≡ rows ++ row_with id word ∷ []
row_added id word rows none =
    let same : without id rows ≡ rows = at_end id (λ r. []) [] rows none ∙ append-nil rows in
    ap (with_values id reading.AsWritten CommandLine (word ∷ [])) same ∙ at_end id (more_values CommandLine (word ∷ [])) (row_with id word ∷ []) rows none

-- and a default value where a name has no row adds its row
pub default_added : (id word : Text) (rows : List Row) → found id rows ≡ None → default_rows id reading.AsWritten (word ∷ []) rows ≡ rows ++ default_row id word ∷ []
default_added id word rows none = at_end id (more_values DefaultValue (word ∷ [])) (default_row id word ∷ []) rows none

-- no argument has a default value
abbrev pub HaveNoDefaults : List Rule → Type 0
HaveNoDefaults [] = ⊤
HaveNoDefaults (a ∷ rules) = (a.defaults ≡ []) × HaveNoDefaults rules

without_default : (rows : List Row) (a : Rule) → a.defaults ≡ [] → with_default rows a ≡ rows
without_default rows a none = go (has_row a.id rows)
  where
    go : (t : Bool) → (if t then rows else default_rows a.id (reading_by a) a.defaults rows) ≡ rows
    go true = refl
    go false = ap (λ (d : List Text). default_rows a.id (reading_by a) d rows) none

pub no_defaults : (rules : List Rule) (rows : List Row) → HaveNoDefaults rules → fold with_default rows rules ≡ rows
no_defaults [] rows h = refl
no_defaults (a ∷ rules) rows h = ap (λ (r : List Row). fold with_default r rules) (without_default rows a h.0) ∙ no_defaults rules rows h.1

-- the default values of these arguments are all right
abbrev default_judged : Rule → Kinds
default_judged a = if is_empty a.defaults then [] else given_default_fault a a.defaults

abbrev pub HaveGoodDefaults : List Rule → Type 0
HaveGoodDefaults [] = ⊤
HaveGoodDefaults (a ∷ rules) = (default_judged a ≡ []) × HaveGoodDefaults rules

good_default : (rows : List Row) (a : Rule) → default_judged a ≡ [] → default_fault rows a ≡ []
good_default rows a good = go (has_row a.id rows) refl
  where
    go : (t : Bool) → has_row a.id rows ≡ t → default_fault rows a ≡ []
    go true is = rw is refl
    go false is = rw is good

pub no_default_faults : (rules : List Rule) (rows : List Row) → HaveGoodDefaults rules → defaults_fault rows rules ≡ []
unfolding defaults_fault
no_default_faults [] rows h = refl
no_default_faults (a ∷ rules) rows h =
    ap (λ (k : Kinds). or_else k (defaults_fault (with_default rows a) rules)) (good_default rows a h.0) ∙ no_default_faults rules (with_default rows a) h.1

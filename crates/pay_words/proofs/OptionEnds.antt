-- What the rows of a program with options have of each when its words have ended.
use Rattle.std.proofs.Common.{◌≡◌, ◌∙◌, codes, true, false, refl, sym, ap, subst, List, [], ◌∷◌, ◌++◌, Option, Some}
use Rattle.std.specs.Prelude.{IfSome, option_and_then, slice_get}
use Rattle.std.specs.Str.{bytes_eq}
use Rattle.clap.specs.Walk.{Row, Text, first_of, has_row, one_of, row_text, with_default}
use Rattle.pay_words.specs.CommandLine.{flag_text}
use Rattle.pay_words.specs.Options.{Place, Setting, is_flag, name_of, reader_of}
use Rattle.pay_words.specs.Run.{first_given, is_given}
use Rattle.pay_words.proofs.OptionRows.{a_row, default_added, default_row, found, found_new, found_other, no_row, row_with}
use Rattle.pay_words.proofs.OptionRules.{flag_given, no_place, option_reading, place_name, same_name, setting_rule}
use Rattle.pay_words.proofs.WordsAfterOptions.{Places, Under}

-- the first value of a row, and the one text of it
abbrev pub row_first : Option Row → Option Text
row_first = option_and_then (λ r. slice_get r.values 0)

abbrev pub row_one : Option Row → Option Text
row_one = option_and_then row_text

-- the first value of an option is what it was given, and so is its one text
pub under_first : (rows : List Row) (k : Setting) (vs : List Text) → Under rows k vs → first_of (name_of k) rows ≡ first_given vs
under_first rows k [] h = rw h refl
under_first rows k (v ∷ []) h = rw h.0 refl
under_first rows k (v ∷ w ∷ more) h = absurd h

pub under_one : (rows : List Row) (k : Setting) (vs : List Text) → Under rows k vs → one_of (name_of k) rows ≡ first_given vs
under_one rows k [] h = rw h refl
under_one rows k (v ∷ []) h = rw h.0 refl
under_one rows k (v ∷ w ∷ more) h = absurd h

-- what an option was given passed its reader
pub under_reads : (rows : List Row) (k : Setting) (vs : List Text) → Under rows k vs → IfSome (first_given vs) (λ word. reader_of k word ≡ true)
under_reads rows k [] h = tt
under_reads rows k (v ∷ []) h = h.1
under_reads rows k (v ∷ w ∷ more) h = absurd h

-- a flag that was not given has its row all the same, and no other row is changed
abbrev pub IsFinal : Setting → List Row → List Text → List Row → Type 0
IsFinal k had vs rows = ((id : Text) → bytes_eq (name_of k) id ≡ false → found id rows ≡ found id had)
    × (one_of (name_of k) rows ≡ Some (flag_text (is_given vs)))

pub flag_final : (k : Setting) → is_flag k ≡ true → (had : List Row) (vs : List Text) → Under had k vs → IsFinal k had vs (with_default had (setting_rule false k))
flag_final k flag had [] h =
    let r : Row = default_row (name_of k) (codes "false") in
    let new : has_row (name_of k) had ≡ false = no_row (name_of k) had h in
    let is : with_default had (setting_rule false k) ≡ had ++ r ∷ [] = rw (new, flag, option_reading false k) (default_added (name_of k) (codes "false") had h) in
    let own : found (name_of k) (had ++ r ∷ []) ≡ Some r = found_new (name_of k) had r h (same_name k) in
    subst (IsFinal k had []) (sym is) (λ id other. found_other id had r other, rw own refl)
flag_final k flag had (v ∷ []) h =
    let old : has_row (name_of k) had ≡ true = a_row (name_of k) had (row_with (name_of k) v) h.0 in
    let is : with_default had (setting_rule false k) ≡ had = rw old refl in
    subst (IsFinal k had (v ∷ [])) (sym is) (λ id other. refl, rw h.0 (ap Some (flag_given k flag v h.1)))
flag_final k flag had (v ∷ w ∷ more) h = absurd h

-- so the values in their places have their rows still, and so has another option
pub places_final : (k : Setting) (had rows : List Row) (us : List Text) → IsFinal k had us rows → (ps : List Place) (vs : List Text) → Places ps vs had → Places ps vs rows
places_final k had rows us f [] [] h = h
places_final k had rows us f [] (v ∷ vs) h = h
places_final k had rows us f (p ∷ ps) [] h = (f.0 (place_name p) (no_place k p).1 ∙ h.0, places_final k had rows us f ps [] h.1)
places_final k had rows us f (p ∷ ps) (v ∷ vs) h = (f.0 (place_name p) (no_place k p).1 ∙ h.0, h.1, places_final k had rows us f ps vs h.2)

pub under_final : (k : Setting) (had rows : List Row) (us : List Text) → IsFinal k had us rows
    → (j : Setting) → bytes_eq (name_of k) (name_of j) ≡ false → (vs : List Text) → Under had j vs → Under rows j vs
under_final k had rows us f j other [] h = f.0 (name_of j) other ∙ h
under_final k had rows us f j other (v ∷ []) h = (f.0 (name_of j) other ∙ h.0, h.1)
under_final k had rows us f j other (v ∷ w ∷ more) h = h

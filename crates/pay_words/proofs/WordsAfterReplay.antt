-- What `clap` makes of the words after `replay`.
use Rattle.std.proofs.Common.{◌≡◌, ◌∙◌, Bool, codes, true, false, refl, sym, ap, subst, List, [], ◌∷◌, ◌++◌, Option, Some, None, append-nil}
use Rattle.clap.specs.Lexer.{long_of}
use Rattle.clap.specs.Walk as walk
use Rattle.clap.specs.Walk.{Row, Rule, Text, Walk, after_step, long_or_other, value, walked}
use Rattle.clap.specs.Simple.{Shape}
use Rattle.clap.specs.Faults.{defaults_fault, turn_fault, walk_fault}
use Rattle.clap.specs.declared.builder.action.ArgAction.TheVariants.{Append}
use Rattle.clap.specs.declared.error.kind.ErrorKind.TheVariants.{DisplayHelp}
use Rattle.pay_words.specs.Asked.{Asked, Given, Word, help, many_by, many_given, refused, replay_asked, values, with_value, word_kind}
use Rattle.pay_words.specs.Asked as words
use Rattle.pay_words.proofs.WordKinds.{LongOptions, Reads, ShortOptions, held_at, help_filled, reads}
use Rattle.pay_words.proofs.WordLevels.{level_shows, place}
use Rattle.pay_words.proofs.WordSteps.{refuses_by, stand, turn_by, turn_dashes, walked_by, walked_dashes}
use Rattle.pay_words.proofs.WordsOfProgram as program
use Rattle.pay_words.proofs.WordsOfProgram.{after_fares, after_none, fares_pending, fares_row, files_row, place_rule, program_shape, run_rows}

-- any number of files, each of which is a use of its own
abbrev files_rule : Rule
files_rule = record (place_rule (codes "FILE") 3) { action = Some Append }

abbrev pub replay_rules : List Rule
replay_rules = place_rule (codes "FARES") 1 ∷ place_rule (codes "ZONE") 2 ∷ files_rule ∷ help_filled ∷ []

abbrev pub replay_shape : Shape
replay_shape = program_shape (codes "replay") replay_rules

pub replay_long : LongOptions replay_rules false
replay_long name = refl

pub replay_short : ShortOptions replay_rules false
replay_short x = refl

abbrev zone_pending : Text → Option (Text × List Text)
zone_pending b = Some (codes "ZONE", b ∷ [])

-- the walk after FARES and ZONE
abbrev after_zone : Text → Text → Bool → Walk
after_zone a b t = place (fares_row a) (zone_pending b) 3 t

-- and after files, of which the last is pending
abbrev file_pending : Text → Option (Text × List Text)
file_pending f = Some (codes "FILE", f ∷ [])

abbrev rows_of_files : Text → Text → List Text → List Row
rows_of_files a b [] = run_rows a b
rows_of_files a b (f ∷ fs) = run_rows a b ++ files_row (f ∷ fs) ∷ []

abbrev after_file : Text → Text → List Text → Text → Bool → Walk
after_file a b fs f t = stand (rows_of_files a b fs) (file_pending f) walk.positional 3 t

abbrev EndsFrom : Asked → Walk → List Text → Type 0
EndsFrom = program.EndsFrom (codes "replay") replay_rules replay_long replay_short

abbrev with_values : List Text → Given → Given
with_values [] g = g
with_values (f ∷ fs) g = with_value f (with_values fs g)

with_more : (fs : List Text) (f : Text) (g : Given) → with_values (fs ++ f ∷ []) g ≡ with_values fs (with_value f g)
with_more [] f g = refl
with_more (x ∷ fs) f g = ap (with_value x) (with_more fs f g)

with_help : (fs : List Text) → with_values fs help ≡ help
with_help [] = refl
with_help (f ∷ fs) = ap (with_value f) (with_help fs)

with_refused : (fs : List Text) → with_values fs refused ≡ refused
with_refused [] = refl
with_refused (f ∷ fs) = ap (with_value f) (with_refused fs)

with_listed : (fs rest : List Text) → with_values fs (values rest) ≡ values (fs ++ rest)
with_listed [] rest = refl
with_listed (f ∷ fs) rest = ap (with_value f) (with_listed fs rest)

-- what all the words ask for, after these files
abbrev asks : Text → Text → List Text → Given → Asked
asks a b fs g = replay_asked (with_value a (with_value b (with_values fs g)))

-- what the words ask for whose values are these, where a file is one more
asks_more : (a b : Text) (fs : List Text) (f word : Text) (g : Given) → asks a b ((fs ++ f ∷ []) ++ word ∷ []) g ≡ asks a b (fs ++ f ∷ []) (with_value word g)
asks_more a b fs f word g = ap (λ (x : Given). replay_asked (with_value a (with_value b x))) (with_more (fs ++ f ∷ []) word g)

-- the pending file is used, and one more is pending
goes_on : (a b : Text) (fs : List Text) (f word : Text) (t : Bool)
    → after_step replay_rules word (after_file a b fs f t) (held_at (rows_of_files a b fs) (file_pending f)) value ≡ after_file a b (fs ++ f ∷ []) word t
goes_on a b [] f word true = refl
goes_on a b [] f word false = refl
goes_on a b (x ∷ fs) f word true = refl
goes_on a b (x ∷ fs) f word false = refl

-- the end of the words
at_end : (a b : Text) (fs : List Text) (f : Text) (t : Bool) → EndsFrom (asks a b (fs ++ f ∷ []) (values [])) (after_file a b fs f t) []
unfolding walk_fault defaults_fault
at_end a b [] f t = (refl, refl)
at_end a b (x ∷ fs) f t =
    let is : with_values (fs ++ f ∷ []) (values []) ≡ values ((fs ++ f ∷ []) ++ []) = with_listed (fs ++ f ∷ []) [] in
    let whole : (fs ++ f ∷ []) ++ [] ≡ fs ++ f ∷ [] = append-nil (fs ++ f ∷ []) in
    subst (λ (g : Given). EndsFrom (replay_asked (with_value a (with_value b (with_value x g)))) (after_file a b (x ∷ fs) f t) []) (sym (is ∙ ap values whole)) (refl, refl)

moved : (x : Asked) (w next : Walk) (word : Text) (rest : List Text) → turn_fault replay_shape [] w word ≡ [] → walked replay_rules [] w word ≡ next
    → EndsFrom x next rest → EndsFrom x w (word ∷ rest)
moved = program.moved (codes "replay") replay_rules replay_long replay_short

-- after `--`
trailing_files : (rest : List Text) (a b : Text) (fs : List Text) (f : Text) → EndsFrom (asks a b (fs ++ f ∷ []) (values rest)) (after_file a b fs f true) rest
unfolding walked
trailing_files [] a b fs f = at_end a b fs f true
trailing_files (word ∷ rest) a b fs f =
    subst (λ (x : Asked). EndsFrom x (after_file a b fs f true) (word ∷ rest)) (asks_more a b fs f word (values rest))
    (moved (asks a b ((fs ++ f ∷ []) ++ word ∷ []) (values rest)) (after_file a b fs f true) (after_file a b (fs ++ f ∷ []) word true) word rest
    refl (goes_on a b fs f word true) (trailing_files rest a b (fs ++ f ∷ []) word))

trailing_two : (a b : Text) (rest : List Text) → EndsFrom (replay_asked (with_value a (with_value b (values rest)))) (after_zone a b true) rest
unfolding walked walk_fault defaults_fault
trailing_two a b [] = refl
trailing_two a b (f ∷ rest) = moved (asks a b (f ∷ []) (values rest)) (after_zone a b true) (after_file a b [] f true) f rest refl refl (trailing_files rest a b [] f)

trailing_one : (a : Text) (rest : List Text) → EndsFrom (replay_asked (with_value a (values rest))) (after_fares a true) rest
unfolding walked walk_fault defaults_fault
trailing_one a [] = refl
trailing_one a (b ∷ rest) = trailing_two a b rest

trailing_none : (rest : List Text) → EndsFrom (replay_asked (values rest)) (after_none true) rest
unfolding walked walk_fault defaults_fault
trailing_none [] = refl
trailing_none (a ∷ rest) = trailing_one a rest

-- a word after files, by its kind
module _ (a b : Text) (fs : List Text) (f word : Text) (rest : List Text) (after : EndsFrom (asks a b ((fs ++ f ∷ []) ++ word ∷ []) (many_given rest)) (after_file a b (fs ++ f ∷ []) word false) rest) where
  abbrev rows : List Row
  rows = rows_of_files a b fs

  abbrev here : Walk
  here = after_file a b fs f false

  file_step : (k : Word) → Reads replay_rules false replay_long replay_short [] rows (file_pending f) k word
      → EndsFrom (asks a b (fs ++ f ∷ []) (many_by k word rest (many_given rest))) here (word ∷ rest)
  file_step words.value r =
      subst (λ (x : Asked). EndsFrom x here (word ∷ rest)) (asks_more a b fs f word (many_given rest))
      (moved (asks a b ((fs ++ f ∷ []) ++ word ∷ []) (many_given rest)) here (after_file a b (fs ++ f ∷ []) word false) word rest
      (turn_by (codes "replay") replay_rules rows (file_pending f) walk.positional 3 word r.0 [] (held_at rows (file_pending f), value) r.1 (r.2 walk.positional))
      (walked_by (codes "replay") replay_rules rows (file_pending f) walk.positional 3 word r.0 (held_at rows (file_pending f), value) (r.2 walk.positional) ∙ goes_on a b fs f word false) after)
  file_step words.dashes r = moved (asks a b (fs ++ f ∷ []) (values rest)) here (after_file a b fs f true) word rest
      (turn_dashes (codes "replay") replay_rules rows (file_pending f) walk.positional 3 word r)
      (walked_dashes (codes "replay") replay_rules rows (file_pending f) walk.positional 3 word r)
      (trailing_files rest a b fs f)
  file_step words.call_for_help r =
      let met = long_or_other replay_rules walk.positional word (long_of word) (held_at rows (file_pending f)) in
      subst (λ (g : Given). EndsFrom (replay_asked (with_value a (with_value b g))) here (word ∷ rest)) (sym (with_help (fs ++ f ∷ [])))
      (level_shows replay_shape [] here word rest false [] DisplayHelp
      (turn_by (codes "replay") replay_rules rows (file_pending f) walk.positional 3 word r.0 (DisplayHelp ∷ []) met r.1 refl))
  file_step words.call_for_version r =
      subst (λ (g : Given). EndsFrom (replay_asked (with_value a (with_value b g))) here (word ∷ rest)) (sym (with_refused (fs ++ f ∷ [])))
      (refuses_by (codes "replay") replay_rules rows (file_pending f) walk.positional 3 word r.0 r.1 rest)
  file_step words.option r =
      subst (λ (g : Given). EndsFrom (replay_asked (with_value a (with_value b g))) here (word ∷ rest)) (sym (with_refused (fs ++ f ∷ [])))
      (refuses_by (codes "replay") replay_rules rows (file_pending f) walk.positional 3 word r.0 r.1 rest)

files_given : (rest : List Text) (a b : Text) (fs : List Text) (f : Text) → EndsFrom (asks a b (fs ++ f ∷ []) (many_given rest)) (after_file a b fs f false) rest
files_given [] a b fs f = at_end a b fs f false
files_given (word ∷ rest) a b fs f = file_step a b fs f word rest (files_given rest a b (fs ++ f ∷ []) word) (word_kind word)
    (reads replay_rules false replay_long replay_short [] (rows_of_files a b fs) (file_pending f) refl word)

-- the words from a place on, by the kind of the first
third : (a b word : Text) (rest : List Text) (k : Word) → Reads replay_rules false replay_long replay_short [] (fares_row a) (zone_pending b) k word
    → EndsFrom (replay_asked (with_value a (with_value b (many_by k word rest (many_given rest))))) (after_zone a b false) (word ∷ rest)
third a b word rest words.value r = program.after_value (codes "replay") replay_rules replay_long replay_short (fares_row a) (zone_pending b) 3 word rest _ (after_file a b [] word false) r refl refl (files_given rest a b [] word)
third a b word rest words.dashes r = program.after_dashes (codes "replay") replay_rules replay_long replay_short (fares_row a) (zone_pending b) 3 word rest _ r (trailing_two a b rest)
third a b word rest words.call_for_help r = program.helps (codes "replay") replay_rules replay_long replay_short (fares_row a) (zone_pending b) 3 word rest r
third a b word rest words.option r = program.declines (codes "replay") replay_rules replay_long replay_short (fares_row a) (zone_pending b) 3 word rest r
third a b word rest words.call_for_version r = program.declines (codes "replay") replay_rules replay_long replay_short (fares_row a) (zone_pending b) 3 word rest r

two_given : (a b : Text) (rest : List Text) → EndsFrom (replay_asked (with_value a (with_value b (many_given rest)))) (after_zone a b false) rest
unfolding defaults_fault walk_fault
two_given a b [] = refl
two_given a b (word ∷ rest) = third a b word rest (word_kind word) (reads replay_rules false replay_long replay_short [] (fares_row a) (zone_pending b) refl word)

second : (a word : Text) (rest : List Text) (k : Word) → Reads replay_rules false replay_long replay_short [] [] (fares_pending a) k word
    → EndsFrom (replay_asked (with_value a (many_by k word rest (many_given rest)))) (after_fares a false) (word ∷ rest)
second a word rest words.value r = program.after_value (codes "replay") replay_rules replay_long replay_short [] (fares_pending a) 2 word rest _ (after_zone a word false) r refl refl (two_given a word rest)
second a word rest words.dashes r = program.after_dashes (codes "replay") replay_rules replay_long replay_short [] (fares_pending a) 2 word rest _ r (trailing_one a rest)
second a word rest words.call_for_help r = program.helps (codes "replay") replay_rules replay_long replay_short [] (fares_pending a) 2 word rest r
second a word rest words.option r = program.declines (codes "replay") replay_rules replay_long replay_short [] (fares_pending a) 2 word rest r
second a word rest words.call_for_version r = program.declines (codes "replay") replay_rules replay_long replay_short [] (fares_pending a) 2 word rest r

one_given : (a : Text) (rest : List Text) → EndsFrom (replay_asked (with_value a (many_given rest))) (after_fares a false) rest
unfolding defaults_fault walk_fault
one_given a [] = refl
one_given a (word ∷ rest) = second a word rest (word_kind word) (reads replay_rules false replay_long replay_short [] [] (fares_pending a) refl word)

first : (word : Text) (rest : List Text) (k : Word) → Reads replay_rules false replay_long replay_short [] [] None k word
    → EndsFrom (replay_asked (many_by k word rest (many_given rest))) (after_none false) (word ∷ rest)
first word rest words.value r = program.after_value (codes "replay") replay_rules replay_long replay_short [] None 1 word rest _ (after_fares word false) r refl refl (one_given word rest)
first word rest words.dashes r = program.after_dashes (codes "replay") replay_rules replay_long replay_short [] None 1 word rest _ r (trailing_none rest)
first word rest words.call_for_help r = program.helps (codes "replay") replay_rules replay_long replay_short [] None 1 word rest r
first word rest words.option r = program.declines (codes "replay") replay_rules replay_long replay_short [] None 1 word rest r
first word rest words.call_for_version r = program.declines (codes "replay") replay_rules replay_long replay_short [] None 1 word rest r

-- what the words of `replay` come to
pub replay_ends : (rest : List Text) → EndsFrom (replay_asked (many_given rest)) (after_none false) rest
unfolding defaults_fault walk_fault
replay_ends [] = refl
replay_ends (word ∷ rest) = first word rest (word_kind word) (reads replay_rules false replay_long replay_short [] [] None refl word)

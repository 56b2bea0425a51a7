-- What `clap` makes of the words after the name of a program with options.
use Rattle.std.proofs.Common.{◌≡◌, ◌∙◌, ◌&&◌, ◌||◌, ℕ, Bool, true, false, refl, sym, ap, ap₂, subst, List, [], ◌∷◌, ◌++◌, Option, Some, None, append-nil, inl, inr, is_some}
use Rattle.std.specs.Option.{option_map_or}
use Rattle.std.specs.Prelude.{⊤, fold, option_and_then, option_map, if◌then◌else◌}
use Rattle.std.specs.Str.{bytes_eq}
use Rattle.std.proofs.lemmas.Slice.Eq.{bytes_eq-Decides}
use Rattle.clap.specs.Lexer.{long_of}
use Rattle.clap.specs.Walk as walk
use Rattle.clap.specs.Walk.{Held, Row, Rule, Step, Text, Waiting, Walk, idle, after_flag, after_step, arg_by_id, is_pending, long_met, long_or_other, next, option_word, plain_word, reacted, settled_rows, to_positional, used, value, walked, with_default}
use Rattle.clap.specs.Simple.{Shape}
use Rattle.clap.specs.Kinds.{Kinds, or_else}
use Rattle.clap.specs.Faults.{check_fault, defaults_fault, flag_word_fault, long_fault, positional_fault, react_fault, settle_fault, step_fault, stray_fault, turn_fault, use_fault, walk_fault}
use Rattle.clap.specs.declared.error.kind.ErrorKind.TheVariants.{DisplayHelp, InvalidValue, TooManyValues}
use Rattle.pay_words.specs.OneWord.{word_kind}
use Rattle.pay_words.specs.Options.{Grammar, Part, Place, Said, ProgramWord, Setting, all_of, help_wanted, not_taken, all_plain, all_said, flag_value, is_flag, name_of, next_alone, next_joined, next_part, next_value, one_more_plain, one_more_value, place_after, place_reader, placed, plain_words, program_word, reader_of, said, setting_in, setting_named, setting_or, value_for, values_of}
use Rattle.pay_words.specs.OneWord as words
use Rattle.pay_words.specs.Options as say
use Rattle.pay_words.proofs.OptionParts.{Gives, alone_gives, apart_gives, joined_gives, own_value, plain_more, plain_valued, values_plain, values_valued}
use Rattle.pay_words.proofs.OptionRows.{found, found_new, found_other, row_with}
use Rattle.pay_words.proofs.OptionRules.{IsBuilt, OfEach, Uses, long_but, names_setting, no_place, of_named, place_adds, place_beyond, place_name, place_taken, position_of, rule_at, same_name, same_place, same_setting, setting_by_long, setting_rule, use_adds, use_again, use_beyond, use_taken}
use Rattle.pay_words.proofs.WordKinds.{ReadsWord, Refuses, held_at, reads_but}
use Rattle.pay_words.proofs.WordLevels.{Level, level_next, level_refuses, level_shows, refuses_first, rows_from, rows_next}
use Rattle.pay_words.proofs.WordSteps.{refuses_by, stand, turn_by, turn_dashes, walked_by, walked_dashes}
use Rattle.pay_words.proofs.WordsOfProgram.{program_shape}

-- ---- rows and parts

-- the values in their places have their rows, and passed their readers
abbrev pub Places : List Place → List Text → List Row → Type 0
Places [] [] rows = ⊤
Places [] (v ∷ vs) rows = ⊥
Places (p ∷ ps) [] rows = (found (place_name p) rows ≡ None) × Places ps [] rows
Places (p ∷ ps) (v ∷ vs) rows = (found (place_name p) rows ≡ Some (row_with (place_name p) v)) × (place_reader p v ≡ true) × Places ps vs rows

-- the one value of an option has its row, and passed its reader
abbrev pub Under : List Row → Setting → List Text → Type 0
Under rows k [] = found (name_of k) rows ≡ None
Under rows k (v ∷ []) = (found (name_of k) rows ≡ Some (row_with (name_of k) v)) × (reader_of k v ≡ true)
Under rows k (v ∷ w ∷ more) = ⊥

-- the rows are those of the parts, of which these are the values in places
abbrev pub Holds : Grammar → List Part → List Text → List Row → Type 0
Holds g parts vs rows = (plain_words parts ≡ vs) × Places g.places vs rows × ((k : Setting) → Under rows k (values_of k parts))

-- a row of another name leaves an option as it was
under_other : (rows : List Row) (r : Row) (k : Setting) (vs : List Text) → bytes_eq r.id (name_of k) ≡ false → Under rows k vs → Under (rows ++ r ∷ []) k vs
under_other rows r k [] other h = found_other (name_of k) rows r other ∙ h
under_other rows r k (v ∷ []) other h = (found_other (name_of k) rows r other ∙ h.0, h.1)
under_other rows r k (v ∷ w ∷ more) other h = h

-- and values in places of other names
abbrev Others : Row → List Place → Type 0
Others r ps = OfEach (λ p. bytes_eq r.id (place_name p) ≡ false) ps

others : (r : Row) → ((p : Place) → bytes_eq r.id (place_name p) ≡ false) → (ps : List Place) → Others r ps
others r h [] = tt
others r h (p ∷ ps) = (h p, others r h ps)

places_other : (ps : List Place) (vs : List Text) (rows : List Row) (r : Row) → Others r ps → Places ps vs rows → Places ps vs (rows ++ r ∷ [])
places_other [] [] rows r other h = h
places_other [] (v ∷ vs) rows r other h = h
places_other (p ∷ ps) [] rows r other h = (found_other (place_name p) rows r other.0 ∙ h.0, places_other ps [] rows r other.1 h.1)
places_other (p ∷ ps) (v ∷ vs) rows r other h = (found_other (place_name p) rows r other.0 ∙ h.0, h.1, places_other ps vs rows r other.1 h.2)

-- no two places have one name
abbrev pub AreApart : List Place → Type 0
AreApart [] = ⊤
AreApart (p ∷ ps) = OfEach (λ q. (bytes_eq (place_name p) (place_name q) ≡ false) × (bytes_eq (place_name q) (place_name p) ≡ false)) ps × AreApart ps

-- what is so of each place is so of the next one
of_place : (ps : List Place) (P : Place → Type 0) → OfEach P ps → (vs : List Text) (p : Place) → place_after ps vs ≡ Some p → P p
of_place [] P h vs p is = cc
of_place (q ∷ ps) P h [] p is =
    let same : q ≡ p = cc in
    subst P same h.0
of_place (q ∷ ps) P h (v ∷ vs) p is = of_place ps P h.1 vs p is

-- the next place has no row yet
no_value_yet : (ps : List Place) (vs : List Text) (rows : List Row) (p : Place) → place_after ps vs ≡ Some p → Places ps vs rows → found (place_name p) rows ≡ None
no_value_yet [] vs rows p is h = cc
no_value_yet (q ∷ ps) [] rows p is h =
    let same : q ≡ p = cc in
    subst (λ (x : Place). found (place_name x) rows ≡ None) same h.0
no_value_yet (q ∷ ps) (v ∷ vs) rows p is h = no_value_yet ps vs rows p is h.2

places_more : (ps : List Place) → AreApart ps → (vs : List Text) (rows : List Row) (p : Place) (word : Text) → place_after ps vs ≡ Some p
    → place_reader p word ≡ true → Places ps vs rows → Places ps (vs ++ word ∷ []) (rows ++ row_with (place_name p) word ∷ [])
places_more [] apart vs rows p word is fits h = cc
places_more (q ∷ ps) apart [] rows p word is fits h =
    let same : q ≡ p = cc in
    let new : found (place_name p) rows ≡ None = subst (λ (x : Place). found (place_name x) rows ≡ None) same h.0 in
    let here : found (place_name p) (rows ++ row_with (place_name p) word ∷ []) ≡ Some (row_with (place_name p) word) =
    found_new (place_name p) rows (row_with (place_name p) word) new (same_place p) in (
      subst (λ (x : Place). found (place_name x) (rows ++ row_with (place_name p) word ∷ []) ≡ Some (row_with (place_name x) word)) (sym same) here,
      subst (λ (x : Place). place_reader x word ≡ true) (sym same) fits,
      places_other ps [] rows (row_with (place_name p) word) (first_apart ps apart.0) h.1,
    )
  where
    first_apart : (qs : List Place) → OfEach (λ x. (bytes_eq (place_name q) (place_name x) ≡ false) × (bytes_eq (place_name x) (place_name q) ≡ false)) qs
        → Others (row_with (place_name p) word) qs
    first_apart [] a = tt
    first_apart (x ∷ qs) a =
        let same : q ≡ p = cc in
        (subst (λ (y : Place). bytes_eq (place_name y) (place_name x) ≡ false) same a.0.0, first_apart qs a.1)
places_more (q ∷ ps) apart (v ∷ vs) rows p word is fits h =
    let differs : bytes_eq (place_name p) (place_name q) ≡ false = (of_place ps (λ x. (bytes_eq (place_name q) (place_name x) ≡ false) × (bytes_eq (place_name x) (place_name q) ≡ false)) apart.0 vs p is).1 in
    (found_other (place_name q) rows (row_with (place_name p) word) differs ∙ h.0, h.1, places_more ps apart.1 vs rows p word is fits h.2)

-- an option that had no value has this one
holds_valued : (g : Grammar) (parts : List Part) (vs : List Text) (rows : List Row) (part : Part) (k : Setting) (word : Text) → Gives part k word
    → values_of k parts ≡ [] → reader_of k word ≡ true → Holds g parts vs rows → Holds g (parts ++ part ∷ []) vs (rows ++ row_with (name_of k) word ∷ [])
holds_valued g parts vs rows part k word gives none fits h = (
  plain_valued parts part k word gives ∙ h.0,
  places_other g.places vs rows (row_with (name_of k) word) (others (row_with (name_of k) word) (λ p. (no_place k p).1) g.places) h.1,
  λ j. subst (Under (rows ++ row_with (name_of k) word ∷ []) j) (sym (values_valued parts part k word gives j)) (one j),
)
  where
    own : Under (rows ++ row_with (name_of k) word ∷ []) k (values_of k parts ++ value_for k k word)
    own =
        let new : found (name_of k) rows ≡ None = subst (Under rows k) none (h.2 k) in
        let are : values_of k parts ++ value_for k k word ≡ word ∷ [] = ap₂ (λ (a b : List Text). a ++ b) none (own_value k word) in
        subst (Under (rows ++ row_with (name_of k) word ∷ []) k) (sym are) (found_new (name_of k) rows (row_with (name_of k) word) new (same_name k), fits)

    one : (j : Setting) → Under (rows ++ row_with (name_of k) word ∷ []) j (values_of j parts ++ value_for j k word)
    one j = elim (same_setting k j) [
      | inl same ↦ subst (λ (i : Setting). Under (rows ++ row_with (name_of k) word ∷ []) i (values_of i parts ++ value_for i k word)) same own
      | inr other ↦
          let none_more : value_for j k word ≡ [] = rw other refl in
          let are : values_of j parts ++ value_for j k word ≡ values_of j parts = ap (λ (l : List Text). values_of j parts ++ l) none_more ∙ append-nil (values_of j parts) in
          subst (Under (rows ++ row_with (name_of k) word ∷ []) j) (sym are) (under_other rows (row_with (name_of k) word) j (values_of j parts) other (h.2 j))
    ]

-- a value in its place leaves the options as they were
holds_plain : (g : Grammar) → AreApart g.places → (parts : List Part) (vs : List Text) (rows : List Row) (p : Place) (word : Text) → place_after g.places vs ≡ Some p
    → place_reader p word ≡ true → Holds g parts vs rows → Holds g (parts ++ say.plain word ∷ []) (vs ++ word ∷ []) (rows ++ row_with (place_name p) word ∷ [])
holds_plain g apart parts vs rows p word is fits h = (
  plain_more parts word ∙ ap (λ (l : List Text). l ++ word ∷ []) h.0,
  places_more g.places apart vs rows p word is fits h.1,
  λ k. subst (Under (rows ++ row_with (place_name p) word ∷ []) k) (sym (values_plain k parts word))
      (under_other rows (row_with (place_name p) word) k (values_of k parts) (no_place k p).0 (h.2 k)),
)

-- ---- the walk

and_false : (b : Bool) → (b && false) ≡ false
and_false true = refl
and_false false = refl

or_false : (b : Bool) → (b || false) ≡ b
or_false true = refl
or_false false = refl

-- a long option is not `--`
pub not_dashes : (word : Text) (long : Text × Option Text) → long_of word ≡ Some long → bytes_eq word (45 ∷ 45 ∷ []) ≡ false
not_dashes word long is = go (bytes_eq word (45 ∷ 45 ∷ [])) refl
  where
    go : (t : Bool) → bytes_eq word (45 ∷ 45 ∷ []) ≡ t → bytes_eq word (45 ∷ 45 ∷ []) ≡ false
    go true e =
        let none : long_of word ≡ None = ap long_of ((bytes_eq-Decides word (45 ∷ 45 ∷ [])).0 e) in cc
    go false e = e

module _ (g : Grammar) (program : Text) (c : List Rule) (built : IsBuilt g c) (apart : AreApart g.places) where
  abbrev shape : Shape
  shape = program_shape program c

  -- an option as the program has it
  abbrev own_rule : Setting → Rule
  own_rule k = setting_rule (built.needs k) k

  -- what the words come to by `clap`: the kinds of its error, and the rows that it found
  abbrev pub Comes : Said → Kinds → List Row → Type 0
  Comes (all_of parts) ks rows = (had : List Row) × Holds g parts (plain_words parts) had
      × (ks ≡ check_fault shape (fold with_default had c) false) × (rows ≡ fold with_default had c)
  Comes help_wanted ks rows = ks ≡ DisplayHelp ∷ []
  Comes not_taken ks rows = Refuses ks

  abbrev pub EndsFrom : Said → Walk → List Text → Type 0
  EndsFrom x w rest = Comes x (Level shape [] w rest false []) (rows_from shape [] w rest)

  -- a word that the walk takes leaves the rest to decide
  moved : (x : Said) (w after : Walk) (word : Text) (rest : List Text) → turn_fault shape [] w word ≡ [] → walked c [] w word ≡ after
      → EndsFrom x after rest → EndsFrom x w (word ∷ rest)
  moved x w after word rest passes is h =
      let rows_are : rows_from shape [] w (word ∷ rest) ≡ rows_from shape [] after rest = rows_next shape [] w word rest false [] after is in
      let level_is : Level shape [] w (word ∷ rest) false [] ≡ Level shape [] after rest false [] = level_next shape [] w word rest false [] after passes is in
      subst (λ (k : Kinds). Comes x k (rows_from shape [] w (word ∷ rest))) (sym level_is)
      (subst (λ (r : List Row). Comes x (Level shape [] after rest false []) r) (sym rows_are) h)

  -- an option of the program
  abbrev pub IsNamed : Setting → Type 0
  IsNamed k = arg_by_id c (name_of k) ≡ Some (own_rule k)

  named_is : (name : Text) (k : Setting) → setting_named g.options name ≡ Some k → IsNamed k
  named_is name k is = of_named g.options IsNamed built.by_name name k is

  -- an option that waits for its value is left without one
  left_without : (k : Setting) → is_flag k ≡ false → IsNamed k → (rows : List Row) → settle_fault c false (held_at rows (Some (name_of k, []))) ≡ InvalidValue ∷ []
  left_without k valued named rows = ap (λ (o : Option Rule). option_map_or (λ a. use_fault false a [] rows) o []) named ∙ (rw valued refl)

  -- what the pending value of an option comes to
  pending_fault : (k : Setting) → IsNamed k → (word : Text) (rows : List Row)
      → settle_fault c false (held_at rows (Some (name_of k, word ∷ []))) ≡ use_fault false (own_rule k) (word ∷ []) rows
  pending_fault k named word rows = ap (λ (o : Option Rule). option_map_or (λ a. use_fault false a (word ∷ []) rows) o []) named

  pending_rows : (k : Setting) → IsNamed k → (word : Text) (rows : List Row) → settled_rows c (Some (name_of k, word ∷ [])) rows ≡ used (own_rule k) (word ∷ []) rows
  pending_rows k named word rows = ap (λ (o : Option Rule). walk.used_by_id o (word ∷ []) rows) named

  -- and that of a value in its place
  placed_fault : (p : Place) → arg_by_id c (place_name p) ≡ Some (rule_at p) → (word : Text) (rows : List Row)
      → settle_fault c false (held_at rows (Some (place_name p, word ∷ []))) ≡ use_fault false (rule_at p) (word ∷ []) rows
  placed_fault p named word rows = ap (λ (o : Option Rule). option_map_or (λ a. use_fault false a (word ∷ []) rows) o []) named

  placed_rows : (p : Place) → arg_by_id c (place_name p) ≡ Some (rule_at p) → (word : Text) (rows : List Row)
      → settled_rows c (Some (place_name p, word ∷ [])) rows ≡ used (rule_at p) (word ∷ []) rows
  placed_rows p named word rows = ap (λ (o : Option Rule). walk.used_by_id o (word ∷ []) rows) named

  -- what the walk makes of a word, by what it is
  abbrev pub ReadsAs : Kinds → List Row → Option (Text × List Text) → ProgramWord → Text → Type 0
  ReadsAs bad rows pending (say.setting k v) word = (long : Text × Option Text) × (long_of word ≡ Some long) × (setting_named g.options long.0 ≡ Some k) × (long.1 ≡ v)
  ReadsAs bad rows pending (say.other kind) word = ReadsWord c false bad (held_at rows pending) kind word

  pub reads_as : (bad : Kinds) (rows : List Row) (pending : Option (Text × List Text)) → settle_fault c false (held_at rows pending) ≡ bad
      → (word : Text) → ReadsAs bad rows pending (program_word g word) word
  reads_as bad rows pending settles word = go (long_of word) refl
    where
      named : (long : Text × Option Text) → long_of word ≡ Some long → (o : Option Setting) → setting_named g.options long.0 ≡ o
          → ReadsAs bad rows pending (setting_or (word_kind word) (option_map (λ k. (k, long.1)) o)) word
      named long e None none = reads_but (names_setting g c built) c false (long_but g c built) built.by_short bad rows pending settles word (λ other is.
          let same : long ≡ other = cc in
          subst (λ (l : Text × Option Text). names_setting g c built l.0 ≡ false) same (ap is_some none))
      named long e (Some k) is = (long, e, is, refl)

      go : (o : Option (Text × Option Text)) → long_of word ≡ o → ReadsAs bad rows pending (setting_or (word_kind word) (option_and_then (setting_in g.options) o)) word
      go None e = reads_but (names_setting g c built) c false (long_but g c built) built.by_short bad rows pending settles word (λ other is. cc)
      go (Some long) e = named long e (setting_named g.options long.0) refl

  -- an option of the program, as the walk meets it
  module _ (word : Text) (long : Text × Option Text) (long_is : long_of word ≡ Some long) (k : Setting) (named : setting_named g.options long.0 ≡ Some k)
      (v : Option Text) (v_is : long.1 ≡ v) (rows : List Row) (pending : Option (Text × List Text)) where
    setting_fault : flag_word_fault c false (long_of word) word (held_at rows pending) ≡ long_fault c false (Some (own_rule k)) v (held_at rows pending)
    setting_fault =
        ap (λ (o : Option (Text × Option Text)). flag_word_fault c false o word (held_at rows pending)) long_is
        ∙ (ap (λ (o : Option Rule). long_fault c false o long.1 (held_at rows pending)) (setting_by_long g c built long.0 k named)
        ∙ ap (λ (u : Option Text). long_fault c false (Some (own_rule k)) u (held_at rows pending)) v_is)

    abbrev met_by : Waiting → Held × walk.Outcome → Held × Step
    met_by waiting m = after_flag c waiting word m.0 m.1

    setting_met : (waiting : Waiting) → long_or_other c waiting word (long_of word) (held_at rows pending)
        ≡ met_by waiting (long_met c (Some (own_rule k)) v (held_at rows pending))
    setting_met waiting =
        ap (λ (o : Option (Text × Option Text)). long_or_other c waiting word o (held_at rows pending)) long_is
        ∙ (ap (λ (o : Option Rule). met_by waiting (long_met c o long.1 (held_at rows pending))) (setting_by_long g c built long.0 k named)
        ∙ ap (λ (u : Option Text). met_by waiting (long_met c (Some (own_rule k)) u (held_at rows pending))) v_is)

  -- an option that is done with its word: a flag, or a value after an equals sign
  abbrev Done : Setting → Option Text → List Text → Type 0
  Done k None vs = (is_flag k ≡ true) × (vs ≡ [])
  Done k (Some v) vs = (is_flag k ≡ false) × (vs ≡ v ∷ [])

  done_fault : (k : Setting) (v : Option Text) (vs : List Text) → Done k v vs → (h : Held)
      → long_fault c false (Some (own_rule k)) v h ≡ react_fault c false (own_rule k) vs h
  done_fault k None vs d h = rw (d.0, d.1) refl
  done_fault k (Some v) vs d h = rw (d.0, d.1) refl

  done_met : (k : Setting) (v : Option Text) (vs : List Text) → Done k v vs → (h : Held)
      → long_met c (Some (own_rule k)) v h ≡ (reacted c (own_rule k) vs h, walk.done)
  done_met k None vs d h = rw (d.0, d.1) refl
  done_met k (Some v) vs d h = rw (d.0, d.1) refl

  -- an option that waits for its value judges what was pending
  waits_fault : (k : Setting) → is_flag k ≡ false → (h : Held) → long_fault c false (Some (own_rule k)) None h ≡ settle_fault c false h
  waits_fault k valued h = rw valued refl

  -- ---- words that nothing after them helps

  module _ (rows : List Row) (pending : Option (Text × List Text)) (waiting : Waiting) (position : ℕ)
      (bad : Refuses (settle_fault c false (held_at rows pending)))
      (one_more : Refuses (step_fault shape position (held_at rows pending) value)) where
    abbrev kinds : Kinds
    kinds = settle_fault c false (held_at rows pending)

    abbrev Stuck : List Text → Type 0
    Stuck rest = Refuses (Level shape [] (stand rows pending waiting position false) rest false [])

    stuck_values : (rest : List Text) → Refuses (Level shape [] (stand rows pending waiting position true) rest false [])
    unfolding walk_fault
    stuck_values [] = refuses_first kinds _ bad
    stuck_values (word ∷ rest) = level_refuses shape [] (stand rows pending waiting position true) word rest false [] one_more

    stuck_end : Stuck []
    unfolding walk_fault
    stuck_end = refuses_first kinds _ bad

    module _ (word : Text) (rest : List Text) where
      stuck_setting : (k : Setting) (v : Option Text) → ReadsAs kinds rows pending (say.setting k v) word → Stuck (word ∷ rest)
      stuck_setting k v r = refuses_by program c rows pending waiting position word (not_dashes word r.0 r.1)
          (subst Refuses (sym (setting_fault word r.0 r.1 k r.2 v r.3 rows pending)) (go v (is_flag k) refl)) rest
        where
          go : (v : Option Text) (flag : Bool) → is_flag k ≡ flag → Refuses (long_fault c false (Some (own_rule k)) v (held_at rows pending))
          go None true e = rw e (refuses_first kinds _ bad)
          go None false e = rw e bad
          go (Some u) true e = rw e refl
          go (Some u) false e = rw e (refuses_first kinds _ bad)

      stuck_dashes : bytes_eq word (45 ∷ 45 ∷ []) ≡ true → Stuck (word ∷ rest)
      stuck_dashes is =
          let same : Level shape [] (stand rows pending waiting position false) (word ∷ rest) false []
          ≡ Level shape [] (stand rows pending waiting position true) rest false [] =
          level_next shape [] (stand rows pending waiting position false) word rest false [] (stand rows pending waiting position true)
          (turn_dashes program c rows pending waiting position word is) (walked_dashes program c rows pending waiting position word is) in
          subst Refuses (sym same) (stuck_values rest)

      stuck_help : ReadsAs kinds rows pending (say.other words.call_for_help) word → Stuck (word ∷ rest)
      stuck_help r = refuses_by program c rows pending waiting position word r.0 (subst Refuses (sym r.1) (refuses_first kinds (DisplayHelp ∷ []) bad)) rest

  -- where no option waits for its value
  module _ (rows : List Row) (pending : Option (Text × List Text)) (position : ℕ)
      (bad : Refuses (settle_fault c false (held_at rows pending)))
      (one_more : Refuses (step_fault shape position (held_at rows pending) value)) where
    stuck_word : (word : Text) (rest : List Text) (x : ProgramWord) → ReadsAs (settle_fault c false (held_at rows pending)) rows pending x word
        → Refuses (Level shape [] (stand rows pending idle position false) (word ∷ rest) false [])
    stuck_word word rest (say.setting k v) r = stuck_setting rows pending idle position bad one_more word rest k v r
    stuck_word word rest (say.other words.value) r = level_refuses shape [] (stand rows pending idle position false) word rest false []
        (subst Refuses (sym (turn_by program c rows pending idle position word r.0 [] (held_at rows pending, value) r.1 (r.2 idle))) one_more)
    stuck_word word rest (say.other words.dashes) r = stuck_dashes rows pending idle position bad one_more word rest r
    stuck_word word rest (say.other words.call_for_help) r = stuck_help rows pending idle position bad one_more word rest r
    stuck_word word rest (say.other words.call_for_version) r = refuses_by program c rows pending idle position word r.0 r.1 rest
    stuck_word word rest (say.other words.option) r = refuses_by program c rows pending idle position word r.0 r.1 rest

    stuck : (t : Bool) (rest : List Text) → Refuses (Level shape [] (stand rows pending idle position t) rest false [])
    stuck true rest = stuck_values rows pending idle position bad one_more rest
    stuck false [] = stuck_end rows pending idle position bad one_more
    stuck false (word ∷ rest) = stuck_word word rest (program_word g word) (reads_as _ rows pending refl word)

  -- ---- the end of the words

  -- all that was given before the words that are left
  module _ (rows : List Row) (pending : Option (Text × List Text)) (rows_then : List Row)
      (settles : settle_fault c false (held_at rows pending) ≡ []) (are : settled_rows c pending rows ≡ rows_then) where
    level_end : (position : ℕ) (t : Bool) → Level shape [] (stand rows pending idle position t) [] false [] ≡ check_fault shape (fold with_default rows_then c) false
    unfolding walk_fault
    level_end position t =
        ap (λ (k : Kinds). or_else k (or_else (defaults_fault (settled_rows c pending rows) c)
        (check_fault shape (fold with_default (settled_rows c pending rows) c) false))) settles
        ∙ (ap (λ (r : List Row). or_else (defaults_fault r c) (check_fault shape (fold with_default r c) false)) are
        ∙ ap (λ (k : Kinds). or_else k (check_fault shape (fold with_default rows_then c) false)) (built.defaults rows_then))

    rows_end : (position : ℕ) (t : Bool) → rows_from shape [] (stand rows pending idle position t) [] ≡ fold with_default rows_then c
    rows_end position t = ap (λ (r : List Row). fold with_default r c) are

    at_end : (parts : List Part) (vs : List Text) (position : ℕ) (t : Bool) → Holds g parts vs rows_then → EndsFrom (all_of parts) (stand rows pending idle position t) []
    at_end parts vs position t h = (rows_then, subst (λ (l : List Text). Holds g parts l rows_then) (sym h.0) h, level_end position t, rows_end position t)

  -- ---- the words from a place on

  -- what the words come to wherever these parts were given, and no option waits
  abbrev Stands : Bool → Said → List Text → List Part → Type 0
  Stands t x rest parts = (vs : List Text) (rows : List Row) (pending : Option (Text × List Text)) (rows_then : List Row)
      → settle_fault c false (held_at rows pending) ≡ [] → settled_rows c pending rows ≡ rows_then → Holds g parts vs rows_then
      → EndsFrom x (stand rows pending idle (position_of vs) t) rest

  -- and where one does
  abbrev Waits : List Part → Setting → List Text → Type 0
  Waits parts k rest = is_flag k ≡ false → IsNamed k → (vs : List Text) (rows : List Row) → Holds g parts vs rows
      → EndsFrom (said g parts (Some k) rest) (stand rows (Some (name_of k, [])) (walk.option (name_of k)) (position_of vs) false) rest

  -- one more value goes to the next place, where what is pending is judged
  step_is : (vs : List Text) (rows : List Row) (pending : Option (Text × List Text)) (o : Option Place) → place_after g.places vs ≡ o
      → step_fault shape (position_of vs) (held_at rows pending) value
      ≡ option_map_or (λ p. settle_fault c false (held_at rows pending)) o (stray_fault shape)
  step_is vs rows pending o is =
      ap (λ (r : Option Rule). option_map_or (λ a. positional_fault c false a (held_at rows pending)) r (stray_fault shape)) (built.by_index vs ∙ ap (option_map rule_at) is)
      ∙ go o
    where
      go : (o : Option Place) → option_map_or (λ a. positional_fault c false a (held_at rows pending)) (option_map rule_at o) (stray_fault shape)
          ≡ option_map_or (λ p. settle_fault c false (held_at rows pending)) o (stray_fault shape)
      go None = refl
      go (Some p) = rw (and_false (is_pending (rule_at p) pending)) refl

  -- it is refused where what is pending is
  value_stuck : (vs : List Text) (rows : List Row) (pending : Option (Text × List Text)) → Refuses (settle_fault c false (held_at rows pending))
      → Refuses (step_fault shape (position_of vs) (held_at rows pending) value)
  value_stuck vs rows pending bad = go (place_after g.places vs) refl
    where
      go : (o : Option Place) → place_after g.places vs ≡ o → Refuses (step_fault shape (position_of vs) (held_at rows pending) value)
      go None is = subst Refuses (sym (step_is vs rows pending None is)) refl
      go (Some p) is = subst Refuses (sym (step_is vs rows pending (Some p) is)) bad

  -- a value goes to its place where what is pending is all right
  to_place : (vs : List Text) (p : Place) → place_after g.places vs ≡ Some p → (rows rows_then : List Row) (pending : Option (Text × List Text)) (t : Bool) (word : Text)
      → settled_rows c pending rows ≡ rows_then
      → after_step c word (stand rows pending idle (position_of vs) t) (held_at rows pending) value
      ≡ stand rows_then (Some (place_name p, word ∷ [])) idle (position_of (vs ++ word ∷ [])) t
  to_place vs p is rows rows_then pending t word are =
      ap (λ (r : Option Rule). to_positional c r word (stand rows pending idle (position_of vs) t) (held_at rows pending)) (built.by_index vs ∙ ap (option_map rule_at) is)
      ∙ (rw (and_false (is_pending (rule_at p) pending), or_false t, are, built.next vs p word is) refl)

  -- one value more, and the words after it
  module _ (t : Bool) (parts : List Part) (rows : List Row) (pending : Option (Text × List Text)) (rows_then : List Row)
      (settles : settle_fault c false (held_at rows pending) ≡ []) (are : settled_rows c pending rows ≡ rows_then)
      (word : Text) (rest : List Text) (x : Said) (after : Stands t x rest (parts ++ say.plain word ∷ [])) where
    -- the value stands in its place
    in_place : (vs : List Text) (p : Place) → place_after g.places vs ≡ Some p → Holds g parts vs rows_then → (fits : Bool) → place_reader p word ≡ fits
        → EndsFrom (if fits then x else not_taken) (stand rows_then (Some (place_name p, word ∷ [])) idle (position_of (vs ++ word ∷ [])) t) rest
    in_place vs p is h true fits =
        let none = no_value_yet g.places vs rows_then p is h.1 in
        let named : arg_by_id c (place_name p) ≡ Some (rule_at p) = of_place g.places (λ x. arg_by_id c (place_name x) ≡ Some (rule_at x)) built.by_place vs p is in
        after (vs ++ word ∷ []) rows_then (Some (place_name p, word ∷ [])) (rows_then ++ row_with (place_name p) word ∷ [])
        (placed_fault p named word rows_then ∙ place_taken p word rows_then none fits)
        (placed_rows p named word rows_then ∙ place_adds p word rows_then none)
        (holds_plain g apart parts vs rows_then p word is fits h)
    in_place vs p is h false beyond =
        let none = no_value_yet g.places vs rows_then p is h.1 in
        let named : arg_by_id c (place_name p) ≡ Some (rule_at p) = of_place g.places (λ x. arg_by_id c (place_name x) ≡ Some (rule_at x)) built.by_place vs p is in
        let bad : Refuses (settle_fault c false (held_at rows_then (Some (place_name p, word ∷ [])))) =
        subst Refuses (sym (placed_fault p named word rows_then)) (place_beyond p word rows_then none beyond) in
        stuck rows_then (Some (place_name p, word ∷ [])) (position_of (vs ++ word ∷ [])) bad (value_stuck (vs ++ word ∷ []) rows_then (Some (place_name p, word ∷ [])) bad) t rest

    value_step : (vs : List Text) → Holds g parts vs rows_then
        → turn_fault shape [] (stand rows pending idle (position_of vs) t) word ≡ step_fault shape (position_of vs) (held_at rows pending) value
        → walked c [] (stand rows pending idle (position_of vs) t) word
        ≡ after_step c word (stand rows pending idle (position_of vs) t) (held_at rows pending) value
        → EndsFrom (one_more_plain g vs word x) (stand rows pending idle (position_of vs) t) (word ∷ rest)
    value_step vs h turn goes = go (place_after g.places vs) refl
      where
        go : (o : Option Place) → place_after g.places vs ≡ o → EndsFrom (placed o word x) (stand rows pending idle (position_of vs) t) (word ∷ rest)
        go None is = level_refuses shape [] (stand rows pending idle (position_of vs) t) word rest false [] (subst Refuses (sym (turn ∙ step_is vs rows pending None is)) refl)
        go (Some p) is = moved (if place_reader p word then x else not_taken) (stand rows pending idle (position_of vs) t)
            (stand rows_then (Some (place_name p, word ∷ [])) idle (position_of (vs ++ word ∷ [])) t) word rest
            (turn ∙ (step_is vs rows pending (Some p) is ∙ settles)) (goes ∙ to_place vs p is rows rows_then pending t word are)
            (in_place vs p is h (place_reader p word) refl)

  -- after `--`
  trailing : (rest : List Text) (parts : List Part) → Stands true (all_plain g parts rest) rest parts
  unfolding walked
  trailing [] parts vs rows pending rows_then settles are h = at_end rows pending rows_then settles are parts vs (position_of vs) true h
  trailing (word ∷ rest) parts vs rows pending rows_then settles are h =
      subst (λ (l : List Text). EndsFrom (one_more_plain g l word (all_plain g (parts ++ say.plain word ∷ []) rest)) (stand rows pending idle (position_of vs) true) (word ∷ rest)) (sym h.0)
      (value_step true parts rows pending rows_then settles are word rest (all_plain g (parts ++ say.plain word ∷ []) rest)
      (trailing rest (parts ++ say.plain word ∷ [])) vs h refl refl)

  -- an option with its value after it, and the words after it
  module _ (parts : List Part) (vs : List Text) (rows : List Row) (k : Setting) (valued : is_flag k ≡ false) (named : IsNamed k) (word : Text) (rest : List Text)
      (h : Holds g parts vs rows) (after : Stands false (said g (parts ++ say.apart k word ∷ []) None rest) rest (parts ++ say.apart k word ∷ [])) where
    apart_stuck : Refuses (use_fault false (own_rule k) (word ∷ []) rows)
        → Refuses (Level shape [] (stand rows (Some (name_of k, word ∷ [])) idle (position_of vs) false) rest false [])
    apart_stuck bad =
        let unsettled : Refuses (settle_fault c false (held_at rows (Some (name_of k, word ∷ [])))) = subst Refuses (sym (pending_fault k named word rows)) bad in
        stuck rows (Some (name_of k, word ∷ [])) (position_of vs) unsettled (value_stuck vs rows (Some (name_of k, word ∷ [])) unsettled) false rest

    apart_step : (before : List Text) → values_of k parts ≡ before → Under rows k before → (fits : Bool) → reader_of k word ≡ fits
        → EndsFrom (one_more_value k word before (said g (parts ++ say.apart k word ∷ []) None rest)) (stand rows (Some (name_of k, word ∷ [])) idle (position_of vs) false) rest
    apart_step [] none new true fits = rw fits (after vs rows (Some (name_of k, word ∷ [])) (rows ++ row_with (name_of k) word ∷ [])
        (pending_fault k named word rows ∙ use_taken (built.needs k) k rows (word ∷ []) word (valued, refl) new fits)
        (pending_rows k named word rows ∙ use_adds (built.needs k) k rows (word ∷ []) word (valued, refl) new)
        (holds_valued g parts vs rows (say.apart k word) k word (apart_gives k word) none fits h))
    apart_step [] none new false beyond = rw beyond (apart_stuck (use_beyond (built.needs k) k rows (word ∷ []) word (valued, refl) new beyond))
    apart_step (v ∷ []) is old fits reads = apart_stuck (use_again (built.needs k) k rows (word ∷ []) word (valued, refl) (row_with (name_of k) v) old.0)
    apart_step (v ∷ w ∷ more) is old fits reads = absurd old

  -- an option that is done with its word, and the words after it
  module _ (parts : List Part) (vs : List Text) (rows : List Row) (pending : Option (Text × List Text)) (rows_then : List Row)
      (settles : settle_fault c false (held_at rows pending) ≡ []) (are : settled_rows c pending rows ≡ rows_then)
      (h : Holds g parts vs rows_then) (k : Setting) (v : Option Text) (word : Text) (rest : List Text) (r : ReadsAs [] rows pending (say.setting k v) word)
      (us : List Text) (given : Text) (done : Done k v us) (uses : Uses k us given) (part : Part) (gives : Gives part k given)
      (after : Stands false (said g (parts ++ part ∷ []) None rest) rest (parts ++ part ∷ [])) where
    abbrev here : Walk
    here = stand rows pending idle (position_of vs) false

    other : bytes_eq word (45 ∷ 45 ∷ []) ≡ false
    other = not_dashes word r.0 r.1

    -- where the walk stands when the option is used
    abbrev used_now : Held
    used_now = reacted c (own_rule k) us (held_at rows pending)

    fault_now : flag_word_fault c false (long_of word) word (held_at rows pending) ≡ use_fault false (own_rule k) us rows_then
    fault_now = setting_fault word r.0 r.1 k r.2 v r.3 rows pending ∙ (done_fault k v us done (held_at rows pending)
        ∙ ap₂ (λ (ks : Kinds) (rs : List Row). or_else ks (use_fault false (own_rule k) us rs)) settles are)

    met_now : long_or_other c idle word (long_of word) (held_at rows pending) ≡ (used_now, next idle)
    met_now = setting_met word r.0 r.1 k r.2 v r.3 rows pending idle
        ∙ ap (λ (m : Held × walk.Outcome). after_flag c idle word m.0 m.1) (done_met k v us done (held_at rows pending))

    done_stuck : Refuses (use_fault false (own_rule k) us rows_then) → Refuses (Level shape [] here (word ∷ rest) false [])
    done_stuck bad = refuses_by program c rows pending idle (position_of vs) word other (subst Refuses (sym fault_now) bad) rest

    done_step : (before : List Text) → values_of k parts ≡ before → Under rows_then k before → (fits : Bool) → reader_of k given ≡ fits
        → EndsFrom (one_more_value k given before (said g (parts ++ part ∷ []) None rest)) here (word ∷ rest)
    done_step [] none new true fits = rw fits (moved (said g (parts ++ part ∷ []) None rest) here (stand (rows_then ++ row_with (name_of k) given ∷ []) None idle (position_of vs) false) word rest
        (turn_by program c rows pending idle (position_of vs) word other [] (used_now, next idle) (fault_now ∙ use_taken (built.needs k) k rows_then us given uses new fits) met_now)
        (walked_by program c rows pending idle (position_of vs) word other (used_now, next idle) met_now
        ∙ ap (λ (rs : List Row). stand rs None idle (position_of vs) false) (ap (used (own_rule k) us) are ∙ use_adds (built.needs k) k rows_then us given uses new))
        (after vs (rows_then ++ row_with (name_of k) given ∷ []) None (rows_then ++ row_with (name_of k) given ∷ []) refl refl (holds_valued g parts vs rows_then part k given gives none fits h)))
    done_step [] none new false beyond = rw beyond (done_stuck (use_beyond (built.needs k) k rows_then us given uses new beyond))
    done_step (u ∷ []) is old fits reads = done_stuck (use_again (built.needs k) k rows_then us given uses (row_with (name_of k) u) old.0)
    done_step (u ∷ w ∷ more) is old fits reads = absurd old

  -- a word where no option waits, by what it is
  module _ (parts : List Part) (word : Text) (rest : List Text)
      (after : (more : List Part) → Stands false (said g more None rest) rest more × ((k : Setting) → Waits more k rest)) where
    module _ (vs : List Text) (rows : List Row) (pending : Option (Text × List Text)) (rows_then : List Row)
        (settles : settle_fault c false (held_at rows pending) ≡ []) (are : settled_rows c pending rows ≡ rows_then) (h : Holds g parts vs rows_then) (k : Setting) where
      alone_step : (flag : Bool) → is_flag k ≡ flag → ReadsAs [] rows pending (say.setting k None) word
          → EndsFrom (next_alone flag k parts (λ more now_waits. said g more now_waits rest)) (stand rows pending idle (position_of vs) false) (word ∷ rest)
      alone_step true flag r = done_step parts vs rows pending rows_then settles are h k None word rest r [] flag_value (flag, refl) (flag, refl) (say.alone k) (alone_gives k)
          ((after (parts ++ say.alone k ∷ [])).0) (values_of k parts) refl (h.2 k) (reader_of k flag_value) refl
      alone_step false valued r =
          let other = not_dashes word r.0 r.1 in
          let waits : Held = record { rows = settled_rows c pending rows; pending = Some (name_of k, []); skip = 0 } in
          let fault : flag_word_fault c false (long_of word) word (held_at rows pending) ≡ settle_fault c false (held_at rows pending) =
          setting_fault word r.0 r.1 k r.2 None r.3 rows pending ∙ waits_fault k valued (held_at rows pending) in
          let met : long_or_other c idle word (long_of word) (held_at rows pending) ≡ (waits, next (walk.option (name_of k))) =
          setting_met word r.0 r.1 k r.2 None r.3 rows pending idle ∙ (rw valued refl) in
          moved (said g parts (Some k) rest) (stand rows pending idle (position_of vs) false) (stand rows_then (Some (name_of k, [])) (walk.option (name_of k)) (position_of vs) false) word rest
          (turn_by program c rows pending idle (position_of vs) word other [] (waits, next (walk.option (name_of k))) (fault ∙ settles) met)
          (walked_by program c rows pending idle (position_of vs) word other (waits, next (walk.option (name_of k))) met
          ∙ ap (λ (rs : List Row). stand rs (Some (name_of k, [])) (walk.option (name_of k)) (position_of vs) false) are)
          ((after parts).1 k valued (named_is r.0.0 k r.2) vs rows_then h)

      joined_step : (flag : Bool) → is_flag k ≡ flag → (v : Text) → ReadsAs [] rows pending (say.setting k (Some v)) word
          → EndsFrom (next_joined flag k v parts (λ more now_waits. said g more now_waits rest)) (stand rows pending idle (position_of vs) false) (word ∷ rest)
      joined_step true flag v r =
          let fault : flag_word_fault c false (long_of word) word (held_at rows pending) ≡ TooManyValues ∷ [] =
          setting_fault word r.0 r.1 k r.2 (Some v) r.3 rows pending ∙ (rw flag refl) in
          refuses_by program c rows pending idle (position_of vs) word (not_dashes word r.0 r.1) (subst Refuses (sym fault) refl) rest
      joined_step false valued v r = done_step parts vs rows pending rows_then settles are h k (Some v) word rest r (v ∷ []) v (valued, refl) (valued, refl) (say.joined k v) (joined_gives k v)
          ((after (parts ++ say.joined k v ∷ [])).0) (values_of k parts) refl (h.2 k) (reader_of k v) refl

    idle_step : (x : ProgramWord) (vs : List Text) (rows : List Row) (pending : Option (Text × List Text)) (rows_then : List Row)
        → settle_fault c false (held_at rows pending) ≡ [] → settled_rows c pending rows ≡ rows_then → Holds g parts vs rows_then
        → ReadsAs [] rows pending x word
        → EndsFrom (next_part g x parts word rest (λ more now_waits. said g more now_waits rest)) (stand rows pending idle (position_of vs) false) (word ∷ rest)
    idle_step (say.setting k None) vs rows pending rows_then settles are h r = alone_step vs rows pending rows_then settles are h k (is_flag k) refl r
    idle_step (say.setting k (Some v)) vs rows pending rows_then settles are h r = joined_step vs rows pending rows_then settles are h k (is_flag k) refl v r
    idle_step (say.other words.value) vs rows pending rows_then settles are h r =
        subst (λ (l : List Text). EndsFrom (one_more_plain g l word (said g (parts ++ say.plain word ∷ []) None rest)) (stand rows pending idle (position_of vs) false) (word ∷ rest)) (sym h.0)
        (value_step false parts rows pending rows_then settles are word rest (said g (parts ++ say.plain word ∷ []) None rest) ((after (parts ++ say.plain word ∷ [])).0) vs h
        (turn_by program c rows pending idle (position_of vs) word r.0 [] (held_at rows pending, value) r.1 (r.2 idle))
        (walked_by program c rows pending idle (position_of vs) word r.0 (held_at rows pending, value) (r.2 idle)))
    idle_step (say.other words.dashes) vs rows pending rows_then settles are h r =
        moved (all_plain g parts rest) (stand rows pending idle (position_of vs) false) (stand rows pending idle (position_of vs) true) word rest
        (turn_dashes program c rows pending idle (position_of vs) word r) (walked_dashes program c rows pending idle (position_of vs) word r)
        (trailing rest parts vs rows pending rows_then settles are h)
    idle_step (say.other words.call_for_help) vs rows pending rows_then settles are h r =
        let met = long_or_other c idle word (long_of word) (held_at rows pending) in
        level_shows shape [] (stand rows pending idle (position_of vs) false) word rest false [] DisplayHelp
        (turn_by program c rows pending idle (position_of vs) word r.0 (DisplayHelp ∷ []) met r.1 refl)
    idle_step (say.other words.call_for_version) vs rows pending rows_then settles are h r = refuses_by program c rows pending idle (position_of vs) word r.0 r.1 rest
    idle_step (say.other words.option) vs rows pending rows_then settles are h r = refuses_by program c rows pending idle (position_of vs) word r.0 r.1 rest

    -- a word after an option that waits for its value, by what it is
    module _ (k : Setting) (valued : is_flag k ≡ false) (named : IsNamed k) (vs : List Text) (rows : List Row) (h : Holds g parts vs rows) where
      abbrev waiting_pending : Option (Text × List Text)
      waiting_pending = Some (name_of k, [])

      abbrev unfilled : Walk
      unfilled = stand rows waiting_pending (walk.option (name_of k)) (position_of vs) false

      unsettled : Refuses (settle_fault c false (held_at rows waiting_pending))
      unsettled = subst Refuses (sym (left_without k valued named rows)) refl

      stray : Refuses (step_fault shape (position_of vs) (held_at rows waiting_pending) value)
      stray = value_stuck vs rows waiting_pending unsettled

      -- the option takes the word
      abbrev filled : Held
      filled = held_at rows (Some (name_of k, word ∷ []))

      takes_word : plain_word c (walk.option (name_of k)) word (held_at rows waiting_pending) ≡ (filled, next idle)
      takes_word = ap (λ (o : Option Rule). ((option_word o (name_of k) word (held_at rows waiting_pending)).0, next (option_word o (name_of k) word (held_at rows waiting_pending)).1)) named
          ∙ (rw (same_name k, valued) refl)

      value_steps : ReadsAs (settle_fault c false (held_at rows waiting_pending)) rows waiting_pending (say.other words.value) word
          → EndsFrom (one_more_value k word (values_of k parts) (said g (parts ++ say.apart k word ∷ []) None rest)) unfilled (word ∷ rest)
      value_steps r =
          let met = r.2 (walk.option (name_of k)) ∙ takes_word in
          moved (one_more_value k word (values_of k parts) (said g (parts ++ say.apart k word ∷ []) None rest)) unfilled (stand rows (Some (name_of k, word ∷ [])) idle (position_of vs) false) word rest
          (turn_by program c rows waiting_pending (walk.option (name_of k)) (position_of vs) word r.0 [] (filled, next idle) r.1 met)
          (walked_by program c rows waiting_pending (walk.option (name_of k)) (position_of vs) word r.0 (filled, next idle) met)
          (apart_step parts vs rows k valued named word rest h ((after (parts ++ say.apart k word ∷ [])).0) (values_of k parts) refl (h.2 k) (reader_of k word) refl)

      wait_step : (x : ProgramWord) → ReadsAs (settle_fault c false (held_at rows waiting_pending)) rows waiting_pending x word
          → EndsFrom (next_value x k parts word (λ more now_waits. said g more now_waits rest)) unfilled (word ∷ rest)
      wait_step (say.setting j v) r = stuck_setting rows waiting_pending (walk.option (name_of k)) (position_of vs) unsettled stray word rest j v r
      wait_step (say.other words.value) r = value_steps r
      wait_step (say.other words.dashes) r = stuck_dashes rows waiting_pending (walk.option (name_of k)) (position_of vs) unsettled stray word rest r
      wait_step (say.other words.call_for_help) r = stuck_help rows waiting_pending (walk.option (name_of k)) (position_of vs) unsettled stray word rest r
      wait_step (say.other words.call_for_version) r = refuses_by program c rows waiting_pending (walk.option (name_of k)) (position_of vs) word r.0 r.1 rest
      wait_step (say.other words.option) r = refuses_by program c rows waiting_pending (walk.option (name_of k)) (position_of vs) word r.0 r.1 rest

  from_parts : (rest : List Text) (parts : List Part) → Stands false (said g parts None rest) rest parts × ((k : Setting) → Waits parts k rest)
  from_parts [] parts = (
    λ vs rows pending rows_then settles are h. at_end rows pending rows_then settles are parts vs (position_of vs) false h,
    λ k valued named vs rows h.
        let bad : Refuses (settle_fault c false (held_at rows (Some (name_of k, [])))) = subst Refuses (sym (left_without k valued named rows)) refl in
        stuck_end rows (Some (name_of k, [])) (walk.option (name_of k)) (position_of vs) bad (value_stuck vs rows (Some (name_of k, [])) bad),
  )
  from_parts (word ∷ rest) parts = (
    λ vs rows pending rows_then settles are h. idle_step parts word rest (λ more. from_parts rest more) (program_word g word) vs rows pending rows_then settles are h (reads_as [] rows pending settles word),
    λ k valued named vs rows h. wait_step parts word rest (λ more. from_parts rest more) k valued named vs rows h (program_word g word) (reads_as _ rows (Some (name_of k, [])) refl word),
  )

  none_placed : (ps : List Place) → Places ps [] []
  none_placed [] = tt
  none_placed (p ∷ ps) = (refl, none_placed ps)

  -- what the words come to
  pub ends : (rest : List Text) → EndsFrom (all_said g rest) (stand [] None idle 1 false) rest
  ends rest = (from_parts rest []).0 [] [] None [] refl refl (refl, none_placed g.places, λ k. refl)

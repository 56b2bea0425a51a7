-- The words of a program with options that are taken, in whatever order.
use Rattle.std.proofs.Common.{◌≡◌, ◌≢◌, ◌∙◌, ◌==◌, ◌&&◌, ℕ, Bool, codes, true, false, true≢false, eqb-true, refl, sym, ap, subst, List, [], ◌∷◌, ◌++◌, Some, None, append-nil, append_assoc, inl, inr, slice_index}
use Rattle.std.specs.Prelude.{⊤}
use Rattle.std.proofs.lemmas.Bool.Decides.{eqb_tells}
use Rattle.clap.specs.ValueTests.{is_unsigned_in}
use Rattle.clap.specs.Walk.{Text}
use Rattle.pay_words.specs.Asked.{HaveNoHyphens}
use Rattle.pay_words.specs.Options.{AreParts, Grammar, IsOption, MayStandApart, Part, Place, Said, ProgramWord, Setting, StandApart, all_of, all_said, flag_value, is_flag, name_of, next_alone, next_joined, next_part, next_value, one_more_plain, one_more_value, place_after, place_reader, placed, plain_words, program_word, reader_of, said, value_for, values_of, words_of_parts}
use Rattle.pay_words.specs.Options.{port_option, lanes_option, shards_option, sessions_option, close_option, control_option, ahead_option, refused_option, greeting_option, journal_option, sync_option, ledger_option, early_option}
use Rattle.pay_words.specs.Options.{lint_option, against_option, after_option, week_option, staff_option, long_option, log_option, partition_option, of_option, replicas_option}
use Rattle.pay_words.specs.OneWord as words
use Rattle.pay_words.specs.Options as say
use Rattle.pay_words.proofs.OptionParts.{own_value, part_among, plain_append, values_append}
use Rattle.pay_words.proofs.OptionRules.{same_setting}

pub not_both : (a b : Bool) → ((a && false) && b) ≡ true → ⊥
not_both true b e = true≢false (sym e)
not_both false b e = true≢false (sym e)

-- ---- lists

-- values in their places pass their readers
abbrev pub Fits : List Place → List Text → Type 0
Fits ps [] = ⊤
Fits [] (v ∷ vs) = ⊥
Fits (p ∷ ps) (v ∷ vs) = (place_reader p v ≡ true) × Fits ps vs

fits_middle : (ps : List Place) (a : List Text) (w : Text) (b : List Text) (x : Said) → Fits ps (a ++ w ∷ b) → placed (place_after ps a) w x ≡ x
fits_middle [] [] w b x h = absurd h
fits_middle [] (y ∷ a) w b x h = absurd h
fits_middle (p ∷ ps) [] w b x h = rw h.0 refl
fits_middle (p ∷ ps) (y ∷ a) w b x h = fits_middle ps a w b x h.1

hyphens_middle : (a : List Text) (w : Text) (b : List Text) → HaveNoHyphens (a ++ w ∷ b) → slice_index w 0 ≢ 45
hyphens_middle [] w b h = h.0
hyphens_middle (y ∷ a) w b h = hyphens_middle a w b h.1

-- an option is given once, with a value that passes its reader, or not at all
abbrev pub Once : Setting → List Text → Type 0
Once k [] = ⊤
Once k (v ∷ []) = reader_of k v ≡ true
Once k (v ∷ w ∷ more) = ⊥

once_middle : (k : Setting) (a : List Text) (v : Text) (b : List Text) → Once k (a ++ v ∷ b) → (a ≡ []) × (reader_of k v ≡ true)
once_middle k [] v [] h = (refl, h)
once_middle k [] v (w ∷ b) h = absurd h
once_middle k (x ∷ []) v b h = absurd h
once_middle k (x ∷ y ∷ a) v b h = absurd h

-- an option that is none of the program's is given no value
other_option : (g : Grammar) (j k : Setting) (word : Text) → (IsOption g k → ⊥) → IsOption g j → value_for k j word ≡ []
other_option g j k word none named = elim (same_setting j k) [
  | inl same ↦ absurd (none (subst (IsOption g) same named))
  | inr other ↦ rw other refl
]

pub no_values : (g : Grammar) (k : Setting) → (IsOption g k → ⊥) → (parts : List Part) → AreParts g parts → values_of k parts ≡ []
no_values g k none [] are = refl
no_values g k none (say.plain w ∷ parts) are = no_values g k none parts are.1
no_values g k none (say.apart j w ∷ parts) are =
    ap (λ (l : List Text). l ++ values_of k parts) (other_option g j k w none are.0.0) ∙ no_values g k none parts are.1
no_values g k none (say.joined j w ∷ parts) are =
    ap (λ (l : List Text). l ++ values_of k parts) (other_option g j k w none are.0.0) ∙ no_values g k none parts are.1
no_values g k none (say.alone j ∷ parts) are =
    ap (λ (l : List Text). l ++ values_of k parts) (other_option g j k flag_value none are.0.0) ∙ no_values g k none parts are.1

-- what is so of all the parts
pub record AreTaken (g : Grammar) (parts : List Part) : Type 0 where
  pub are : AreParts g parts
  pub fits : Fits g.places (plain_words parts)
  pub hyphens : HaveNoHyphens (plain_words parts)
  pub once : (k : Setting) → Once k (values_of k parts)

-- ---- what words are

module _ (g : Grammar) where
  -- neither a word with no hyphen before it nor a number is an option
  no_option : (w : Text) → slice_index w 0 ≢ 45 → program_word g w ≡ say.other words.value
  no_option [] ne = refl
  no_option (b ∷ rest) ne = elim (eqb_tells b 45) [
    | inl h ↦ absurd (ne h.1)
    | inr h ↦ rw h.0 refl
  ]

  number_is_no_option : (least most : ℕ) (w : Text) → is_unsigned_in least most w ≡ true → program_word g w ≡ say.other words.value
  number_is_no_option least most [] fits = refl
  number_is_no_option least most (b ∷ rest) fits = go (b == 45) refl
    where
      go : (t : Bool) → (b == 45) ≡ t → program_word g (b ∷ rest) ≡ say.other words.value
      go true t = absurd (not_both _ _ (rw (eqb-true b 45 t) at fits))
      go false t = rw t refl

  value_is_no_option : (k : Setting) → is_flag k ≡ false → (w : Text) → reader_of k w ≡ true → MayStandApart k w → program_word g w ≡ say.other words.value
  value_is_no_option port_option valued w fits may = number_is_no_option 1 65_535 w fits
  value_is_no_option lanes_option valued w fits may = number_is_no_option 1 15 w fits
  value_is_no_option shards_option valued w fits may = number_is_no_option 1 16 w fits
  value_is_no_option sessions_option valued w fits may = number_is_no_option 1 1_000 w fits
  value_is_no_option close_option valued w fits may = no_option w may
  value_is_no_option control_option valued w fits may = number_is_no_option 1 65_535 w fits
  value_is_no_option ahead_option valued w fits may = number_is_no_option 0 86_400 w fits
  value_is_no_option refused_option valued w fits may = no_option w may
  value_is_no_option greeting_option valued w fits may = no_option w may
  value_is_no_option journal_option valued w fits may = no_option w may
  value_is_no_option sync_option valued w fits may = cc
  value_is_no_option ledger_option valued w fits may = no_option w may
  value_is_no_option early_option valued w fits may = cc
  value_is_no_option lint_option valued w fits may = cc
  value_is_no_option against_option valued w fits may = no_option w may
  value_is_no_option after_option valued w fits may = no_option w may
  value_is_no_option week_option valued w fits may = cc
  value_is_no_option staff_option valued w fits may = no_option w may
  value_is_no_option long_option valued w fits may = cc
  value_is_no_option log_option valued w fits may = no_option w may
  value_is_no_option partition_option valued w fits may = number_is_no_option 0 15 w fits
  value_is_no_option of_option valued w fits may = number_is_no_option 1 16 w fits
  value_is_no_option replicas_option valued w fits may = number_is_no_option 1 5 w fits

  -- the words of an option
  alone_word : (k : Setting) → IsOption g k → program_word g (codes "--" ++ name_of k) ≡ say.setting k None
  alone_word port_option named = rw named refl
  alone_word lanes_option named = rw named refl
  alone_word shards_option named = rw named refl
  alone_word sessions_option named = rw named refl
  alone_word close_option named = rw named refl
  alone_word control_option named = rw named refl
  alone_word ahead_option named = rw named refl
  alone_word refused_option named = rw named refl
  alone_word greeting_option named = rw named refl
  alone_word journal_option named = rw named refl
  alone_word sync_option named = rw named refl
  alone_word ledger_option named = rw named refl
  alone_word early_option named = rw named refl
  alone_word lint_option named = rw named refl
  alone_word against_option named = rw named refl
  alone_word after_option named = rw named refl
  alone_word week_option named = rw named refl
  alone_word staff_option named = rw named refl
  alone_word long_option named = rw named refl
  alone_word log_option named = rw named refl
  alone_word partition_option named = rw named refl
  alone_word of_option named = rw named refl
  alone_word replicas_option named = rw named refl

  joined_word : (k : Setting) → IsOption g k → (v : Text) → program_word g (codes "--" ++ (name_of k ++ (codes "=" ++ v))) ≡ say.setting k (Some v)
  joined_word port_option named v = rw named refl
  joined_word lanes_option named v = rw named refl
  joined_word shards_option named v = rw named refl
  joined_word sessions_option named v = rw named refl
  joined_word close_option named v = rw named refl
  joined_word control_option named v = rw named refl
  joined_word ahead_option named v = rw named refl
  joined_word refused_option named v = rw named refl
  joined_word greeting_option named v = rw named refl
  joined_word journal_option named v = rw named refl
  joined_word sync_option named v = rw named refl
  joined_word ledger_option named v = rw named refl
  joined_word early_option named v = rw named refl
  joined_word lint_option named v = rw named refl
  joined_word against_option named v = rw named refl
  joined_word after_option named v = rw named refl
  joined_word week_option named v = rw named refl
  joined_word staff_option named v = rw named refl
  joined_word long_option named v = rw named refl
  joined_word log_option named v = rw named refl
  joined_word partition_option named v = rw named refl
  joined_word of_option named v = rw named refl
  joined_word replicas_option named v = rw named refl

  -- ---- the words, part by part

  taken_value : (k : Setting) (v : Text) (before : List Text) (x : Said) → (before ≡ []) × (reader_of k v ≡ true) → one_more_value k v before x ≡ x
  taken_value k v before x h = ap (λ (l : List Text). one_more_value k v l x) h.0 ∙ (rw h.1 refl)

  -- an option was not given before, and its value passes
  first_use : (before rest : List Part) (part : Part) (k : Setting) (v : Text) → AreTaken g (before ++ part ∷ rest)
      → values_of k (part ∷ rest) ≡ v ∷ values_of k rest → (values_of k before ≡ []) × (reader_of k v ≡ true)
  first_use before rest part k v taken is =
      once_middle k (values_of k before) v (values_of k rest)
      (subst (Once k) (values_append k before (part ∷ rest) ∙ ap (λ (l : List Text). values_of k before ++ l) is) (taken.once k))

  -- a value comes at its place, and is no option
  in_place : (before rest : List Part) (w : Text) (x : Said) → AreTaken g (before ++ say.plain w ∷ rest)
      → (one_more_plain g (plain_words before) w x ≡ x) × (program_word g w ≡ say.other words.value)
  in_place before rest w x taken =
      let all : plain_words (before ++ say.plain w ∷ rest) ≡ plain_words before ++ w ∷ plain_words rest = plain_append before (say.plain w ∷ rest) in (
        fits_middle g.places (plain_words before) w (plain_words rest) x (subst (Fits g.places) all taken.fits),
        no_option w (hyphens_middle (plain_words before) w (plain_words rest) (subst HaveNoHyphens all taken.hyphens)),
      )

  later : (before rest : List Part) (part : Part) → AreTaken g (before ++ part ∷ rest) → AreTaken g ((before ++ part ∷ []) ++ rest)
  later before rest part taken = subst (AreTaken g) (sym (append_assoc before (part ∷ []) rest)) taken

  parts_said : (rest before : List Part) → AreTaken g (before ++ rest) → StandApart rest → said g before None (words_of_parts rest) ≡ all_of (before ++ rest)
  parts_said [] before taken may = ap all_of (sym (append-nil before))
  parts_said (say.plain w ∷ rest) before taken may =
      let place = in_place before rest w (said g (before ++ say.plain w ∷ []) None (words_of_parts rest)) taken in
      ap (λ (k : ProgramWord). next_part g k before w (words_of_parts rest) (λ more waits. said g more waits (words_of_parts rest))) place.1
      ∙ (place.0 ∙ parts_said rest (before ++ say.plain w ∷ []) (later before rest (say.plain w) taken) may ∙ ap all_of (append_assoc before (say.plain w ∷ []) rest))
  parts_said (say.apart k v ∷ rest) before taken may =
      let is = part_among g before rest (say.apart k v) taken.are in
      let new = first_use before rest (say.apart k v) k v taken (ap (λ (l : List Text). l ++ values_of k rest) (own_value k v)) in
      ap (λ (x : ProgramWord). next_part g x before (codes "--" ++ name_of k) (v ∷ words_of_parts rest) (λ more waits. said g more waits (v ∷ words_of_parts rest))) (alone_word k is.0)
      ∙ (ap (λ (flag : Bool). next_alone flag k before (λ more waits. said g more waits (v ∷ words_of_parts rest))) is.1
      ∙ (ap (λ (x : ProgramWord). next_value x k before v (λ more waits. said g more waits (words_of_parts rest))) (value_is_no_option k is.1 v new.1 may.0)
      ∙ (taken_value k v (values_of k before) (said g (before ++ say.apart k v ∷ []) None (words_of_parts rest)) new
      ∙ parts_said rest (before ++ say.apart k v ∷ []) (later before rest (say.apart k v) taken) may.1 ∙ ap all_of (append_assoc before (say.apart k v ∷ []) rest))))
  parts_said (say.joined k v ∷ rest) before taken may =
      let is = part_among g before rest (say.joined k v) taken.are in
      let new = first_use before rest (say.joined k v) k v taken (ap (λ (l : List Text). l ++ values_of k rest) (own_value k v)) in
      ap (λ (x : ProgramWord). next_part g x before (codes "--" ++ (name_of k ++ (codes "=" ++ v))) (words_of_parts rest) (λ more waits. said g more waits (words_of_parts rest))) (joined_word k is.0 v)
      ∙ (ap (λ (flag : Bool). next_joined flag k v before (λ more waits. said g more waits (words_of_parts rest))) is.1
      ∙ (taken_value k v (values_of k before) (said g (before ++ say.joined k v ∷ []) None (words_of_parts rest)) new
      ∙ parts_said rest (before ++ say.joined k v ∷ []) (later before rest (say.joined k v) taken) may ∙ ap all_of (append_assoc before (say.joined k v ∷ []) rest)))
  parts_said (say.alone k ∷ rest) before taken may =
      let is = part_among g before rest (say.alone k) taken.are in
      let new = first_use before rest (say.alone k) k flag_value taken (ap (λ (l : List Text). l ++ values_of k rest) (own_value k flag_value)) in
      ap (λ (x : ProgramWord). next_part g x before (codes "--" ++ name_of k) (words_of_parts rest) (λ more waits. said g more waits (words_of_parts rest))) (alone_word k is.0)
      ∙ (ap (λ (flag : Bool). next_alone flag k before (λ more waits. said g more waits (words_of_parts rest))) is.1
      ∙ (taken_value k flag_value (values_of k before) (said g (before ++ say.alone k ∷ []) None (words_of_parts rest)) new
      ∙ parts_said rest (before ++ say.alone k ∷ []) (later before rest (say.alone k) taken) may ∙ ap all_of (append_assoc before (say.alone k ∷ []) rest)))

  pub parts_taken : (parts : List Part) → AreTaken g parts → StandApart parts → all_said g (words_of_parts parts) ≡ all_of parts
  parts_taken parts taken may = parts_said parts [] taken may

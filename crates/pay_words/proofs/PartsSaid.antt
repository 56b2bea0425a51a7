-- The words of a program with options, of which its parts were made.
use Rattle.std.proofs.Common.{◌≡◌, ◌∙◌, ◌==◌, ◌+◌, ℕ, Bool, codes, true, false, not, suc, refl, sym, ap, subst, arith, List, [], ◌∷◌, ◌++◌, drop, take, Option, Some, None, append-nil, append_assoc, eqb-true, true≢false}
use Rattle.std.specs.Prelude.{⊤, option_and_then, if◌then◌else◌}
use Rattle.std.specs.List.{after_first, before_first, prefix_len}
use Rattle.std.specs.Str.{bytes_eq}
use Rattle.clap.specs.Lexer.{has_byte, long_of, long_of_rest, name_and_value, strip_byte}
use Rattle.clap.specs.Walk.{Rule, Text}
use Rattle.pay_words.specs.Asked.{without_dashes}
use Rattle.pay_words.specs.Options.{AreParts, Grammar, IsOption, Part, Place, Said, ProgramWord, Setting, all_of, help_wanted, not_taken, all_plain, all_said, flag_value, is_flag, name_of, next_alone, next_joined, next_part, next_value, one_more_value, place_after, place_reader, placed, plain_words, program_word, reader_of, said, setting_named, values_of, words_of_part, words_of_parts}
use Rattle.pay_words.specs.OneWord as words
use Rattle.pay_words.specs.Options as say
use Rattle.pay_words.proofs.OptionParts.{parts_more, words_more}
use Rattle.pay_words.proofs.OptionRules.{IsBuilt}
use Rattle.pay_words.proofs.WordKinds.{same_bytes, whole_name}
use Rattle.pay_words.proofs.WordsAfterOptions.{AreApart, ReadsAs, not_dashes, reads_as}

-- ---- the word of an option

cut_later : (n : ℕ) (x : ℕ) (xs : List ℕ) (m : ℕ) → m ≡ suc n → take m (x ∷ xs) ++ 61 ∷ drop (m + 1) (x ∷ xs) ≡ x ∷ (take n xs ++ 61 ∷ drop (n + 1) xs)
cut_later n x xs m is =
    let past : m + 1 ≡ suc (n + 1) = omega arith in
    rw (past, is) refl

-- a name, an equals sign and a value
cut_name : (xs : List ℕ) → has_byte 61 xs ≡ true → before_first (λ x. x == 61) xs ++ 61 ∷ after_first (λ x. x == 61) xs ≡ xs
cut_name [] e = absurd (true≢false (sym e))
cut_name (x ∷ xs) e = go (x == 61) refl e (cut_name xs)
  where
    go : (t : Bool) → (x == 61) ≡ t → has_byte 61 (x ∷ xs) ≡ true → (has_byte 61 xs ≡ true → before_first (λ x. x == 61) xs ++ 61 ∷ after_first (λ x. x == 61) xs ≡ xs)
        → before_first (λ x. x == 61) (x ∷ xs) ++ 61 ∷ after_first (λ x. x == 61) (x ∷ xs) ≡ x ∷ xs
    go true t has next = rw t (ap (λ (b : ℕ). b ∷ xs) (sym (eqb-true x 61 t)))
    go false t has next =
        let more : 1 + prefix_len (λ y. not (y == 61)) xs ≡ suc (prefix_len (λ y. not (y == 61)) xs) = omega arith in
        rw t (cut_later (prefix_len (λ y. not (y == 61)) xs) x xs (1 + prefix_len (λ y. not (y == 61)) xs) more ∙ ap (λ (l : List ℕ). x ∷ l) (next (rw t at has)))

abbrev long_text : Text × Option Text → Text
long_text (name, None) = name
long_text (name, Some v) = name ++ 61 ∷ v

whole_text : (xs : List ℕ) → long_text (name_and_value xs) ≡ xs
whole_text xs = go (has_byte 61 xs) refl
  where
    go : (t : Bool) → has_byte 61 xs ≡ t → long_text (name_and_value xs) ≡ xs
    go true t = rw t (cut_name xs t)
    go false t = rw t (whole_name xs t)

after_hyphens : (rest : Text) (long : Text × Option Text) → long_of_rest rest ≡ Some long → rest ≡ long_text long
after_hyphens [] long is = cc
after_hyphens (x ∷ xs) long is =
    let same : name_and_value (x ∷ xs) ≡ long = cc in
    sym (whole_text (x ∷ xs)) ∙ ap long_text same

after_hyphen : (rest : Text) (long : Text × Option Text) → option_and_then long_of_rest (strip_byte 45 rest) ≡ Some long → rest ≡ 45 ∷ long_text long
after_hyphen [] long is = cc
after_hyphen (b ∷ rest) long is = go (b == 45) refl
  where
    go : (t : Bool) → (b == 45) ≡ t → b ∷ rest ≡ 45 ∷ long_text long
    go true t = ap (λ (c : ℕ). c ∷ rest) (eqb-true b 45 t) ∙ ap (λ (l : Text). 45 ∷ l) (after_hyphens rest long (rw t at is))
    go false t =
        let none : None ≡ Some long = rw t at is in cc

-- a long option is two hyphens, its name, and perhaps its value after an equals sign
long_word_is : (word : Text) (long : Text × Option Text) → long_of word ≡ Some long → word ≡ 45 ∷ 45 ∷ long_text long
long_word_is [] long is = cc
long_word_is (b ∷ rest) long is = go (b == 45) refl
  where
    go : (t : Bool) → (b == 45) ≡ t → b ∷ rest ≡ 45 ∷ 45 ∷ long_text long
    go true t = ap (λ (c : ℕ). c ∷ rest) (eqb-true b 45 t) ∙ ap (λ (l : Text). 45 ∷ l) (after_hyphen rest long (rw t at is))
    go false t =
        let none : None ≡ Some long = rw t at is in cc

name_is : (options : List Setting) (name : Text) (k : Setting) → setting_named options name ≡ Some k → name ≡ name_of k
name_is [] name k is = cc
name_is (j ∷ options) name k is = go (bytes_eq (name_of j) name) refl (name_is options name k)
  where
    go : (t : Bool) → bytes_eq (name_of j) name ≡ t → (setting_named options name ≡ Some k → name ≡ name_of k) → name ≡ name_of k
    go true t next =
        let some : Some j ≡ Some k = rw t at is in
        let same : j ≡ k = cc in
        sym (same_bytes (name_of j) name t) ∙ ap name_of same
    go false t next = next (rw t at is)

module _ (g : Grammar) (program : Text) (c : List Rule) (built : IsBuilt g c) (apart : AreApart g.places) where
  abbrev ReadsHere : ProgramWord → Text → Type 0
  ReadsHere x word = ReadsAs g program c built apart [] [] None x word

  alone_is : (word : Text) (k : Setting) → ReadsHere (say.setting k None) word → word ≡ 45 ∷ 45 ∷ name_of k
  alone_is word k r = long_word_is word r.0 r.1
      ∙ ap (λ (l : Text). 45 ∷ 45 ∷ l) (ap (λ (v : Option Text). long_text (r.0.0, v)) r.3 ∙ name_is g.options r.0.0 k r.2)

  joined_is : (word : Text) (k : Setting) (v : Text) → ReadsHere (say.setting k (Some v)) word → word ≡ 45 ∷ 45 ∷ (name_of k ++ 61 ∷ v)
  joined_is word k v r = long_word_is word r.0 r.1
      ∙ ap (λ (l : Text). 45 ∷ 45 ∷ l) (ap (λ (u : Option Text). long_text (r.0.0, u)) r.3 ∙ ap (λ (n : Text). n ++ 61 ∷ v) (name_is g.options r.0.0 k r.2))

  is_option : (word : Text) (k : Setting) (v : Option Text) → ReadsHere (say.setting k v) word → IsOption g k
  is_option word k v r = subst (λ (n : Text). setting_named g.options n ≡ Some k) (name_is g.options r.0.0 k r.2) r.2

  -- ---- what the words say

  -- the words are those of the parts
  abbrev pub Says : Said → List Text → Type 0
  Says (all_of parts) all = (all ≡ words_of_parts parts) × AreParts g parts
  Says help_wanted all = ⊤
  Says not_taken all = ⊤

  all_says : (parts : List Part) → AreParts g parts → Says (all_of parts) (words_of_parts parts ++ [])
  all_says parts are = (append-nil (words_of_parts parts), are)

  says_plain : (o : Option Place) (word : Text) (x : Said) (all : List Text) → Says x all → Says (placed o word x) all
  says_plain None word x all h = tt
  says_plain (Some p) word x all h = go (place_reader p word)
    where
      go : (fits : Bool) → Says (if fits then x else not_taken) all
      go true = h
      go false = tt

  says_value : (k : Setting) (word : Text) (before : List Text) (x : Said) (all : List Text) → Says x all → Says (one_more_value k word before x) all
  says_value k word [] x all h = go (reader_of k word)
    where
      go : (fits : Bool) → Says (if fits then x else not_taken) all
      go true = h
      go false = tt
  says_value k word (v ∷ more) x all h = tt

  -- what is said with one part more
  says_more : (x : Said) (parts : List Part) (part : Part) (rest all : List Text) → words_of_part part ++ rest ≡ all
      → Says x (words_of_parts (parts ++ part ∷ []) ++ rest) → Says x (words_of_parts parts ++ all)
  says_more x parts part rest all is h =
      subst (Says x) (ap (λ (l : List Text). l ++ rest) (words_more parts part) ∙ (append_assoc (words_of_parts parts) (words_of_part part) rest
      ∙ ap (λ (l : List Text). words_of_parts parts ++ l) is)) h

  all_plain_says : (rest : List Text) (parts : List Part) → AreParts g parts → Says (all_plain g parts rest) (words_of_parts parts ++ rest)
  all_plain_says [] parts are = all_says parts are
  all_plain_says (word ∷ rest) parts are = says_plain (place_after g.places (plain_words parts)) word (all_plain g (parts ++ say.plain word ∷ []) rest) (words_of_parts parts ++ word ∷ rest)
      (says_more (all_plain g (parts ++ say.plain word ∷ []) rest) parts (say.plain word) rest (word ∷ rest) refl
      (all_plain_says rest (parts ++ say.plain word ∷ []) (parts_more g parts (say.plain word) are tt)))

  -- the word of the option that waits, and that it is one of the program's, which has a value
  abbrev waiting_words : Option Setting → List Text
  waiting_words None = []
  waiting_words (Some k) = (codes "--" ++ name_of k) ∷ []

  abbrev MayWait : Option Setting → Type 0
  MayWait None = ⊤
  MayWait (Some k) = IsOption g k × (is_flag k ≡ false)

  abbrev SaysAll : List Part → Option Setting → List Text → Type 0
  SaysAll parts waits rest = Says (said g parts waits rest) (words_of_parts parts ++ (waiting_words waits ++ without_dashes rest))

  kept_word : (word : Text) (rest : List Text) → bytes_eq word (45 ∷ 45 ∷ []) ≡ false → word ∷ without_dashes rest ≡ without_dashes (word ∷ rest)
  kept_word word rest other = rw other refl

  module _ (parts : List Part) (are : AreParts g parts) (word : Text) (rest : List Text)
      (after : (more : List Part) (waits : Option Setting) → AreParts g more → MayWait waits → SaysAll more waits rest) where
    abbrev here : List Text
    here = words_of_parts parts ++ without_dashes (word ∷ rest)

    alone_says : (k : Setting) → ReadsHere (say.setting k None) word → (flag : Bool) → is_flag k ≡ flag
        → Says (next_alone flag k parts (λ more now_waits. said g more now_waits rest)) here
    alone_says k r true flag =
        let is : (45 ∷ 45 ∷ name_of k) ∷ without_dashes rest ≡ without_dashes (word ∷ rest) =
        ap (λ (w : Text). w ∷ without_dashes rest) (sym (alone_is word k r)) ∙ kept_word word rest (not_dashes word r.0 r.1) in
        says_value k flag_value (values_of k parts) (said g (parts ++ say.alone k ∷ []) None rest) here
        (says_more (said g (parts ++ say.alone k ∷ []) None rest) parts (say.alone k) (without_dashes rest) (without_dashes (word ∷ rest)) is
        (after (parts ++ say.alone k ∷ []) None (parts_more g parts (say.alone k) are (is_option word k None r, flag)) tt))
    alone_says k r false valued =
        let is : (45 ∷ 45 ∷ name_of k) ∷ without_dashes rest ≡ without_dashes (word ∷ rest) =
        ap (λ (w : Text). w ∷ without_dashes rest) (sym (alone_is word k r)) ∙ kept_word word rest (not_dashes word r.0 r.1) in
        subst (λ (l : List Text). Says (said g parts (Some k) rest) (words_of_parts parts ++ l)) is (after parts (Some k) are (is_option word k None r, valued))

    joined_says : (k : Setting) (v : Text) → ReadsHere (say.setting k (Some v)) word → (flag : Bool) → is_flag k ≡ flag
        → Says (next_joined flag k v parts (λ more now_waits. said g more now_waits rest)) here
    joined_says k v r true flag = tt
    joined_says k v r false valued = says_value k v (values_of k parts) (said g (parts ++ say.joined k v ∷ []) None rest) here
        (says_more (said g (parts ++ say.joined k v ∷ []) None rest) parts (say.joined k v) (without_dashes rest) (without_dashes (word ∷ rest))
        (ap (λ (w : Text). w ∷ without_dashes rest) (sym (joined_is word k v r)) ∙ kept_word word rest (not_dashes word r.0 r.1))
        (after (parts ++ say.joined k v ∷ []) None (parts_more g parts (say.joined k v) are (is_option word k (Some v) r, valued)) tt))

    part_says : (x : ProgramWord) → ReadsHere x word → Says (next_part g x parts word rest (λ more now_waits. said g more now_waits rest)) here
    part_says (say.setting k None) r = alone_says k r (is_flag k) refl
    part_says (say.setting k (Some v)) r = joined_says k v r (is_flag k) refl
    part_says (say.other words.value) r = says_plain (place_after g.places (plain_words parts)) word (said g (parts ++ say.plain word ∷ []) None rest) here
        (says_more (said g (parts ++ say.plain word ∷ []) None rest) parts (say.plain word) (without_dashes rest) (without_dashes (word ∷ rest)) (kept_word word rest r.0)
        (after (parts ++ say.plain word ∷ []) None (parts_more g parts (say.plain word) are tt) tt))
    part_says (say.other words.dashes) r =
        let is : rest ≡ without_dashes (word ∷ rest) = rw r refl in
        subst (λ (l : List Text). Says (all_plain g parts rest) (words_of_parts parts ++ l)) is (all_plain_says rest parts are)
    part_says (say.other words.call_for_help) r = tt
    part_says (say.other words.call_for_version) r = tt
    part_says (say.other words.option) r = tt

    value_says : (k : Setting) → MayWait (Some k) → (x : ProgramWord) → ReadsHere x word
        → Says (next_value x k parts word (λ more now_waits. said g more now_waits rest)) (words_of_parts parts ++ (waiting_words (Some k) ++ without_dashes (word ∷ rest)))
    value_says k may (say.setting j v) r = tt
    value_says k may (say.other words.value) r = says_value k word (values_of k parts) (said g (parts ++ say.apart k word ∷ []) None rest)
        (words_of_parts parts ++ (waiting_words (Some k) ++ without_dashes (word ∷ rest)))
        (says_more (said g (parts ++ say.apart k word ∷ []) None rest) parts (say.apart k word) (without_dashes rest) (waiting_words (Some k) ++ without_dashes (word ∷ rest))
        (ap (λ (l : List Text). (45 ∷ 45 ∷ name_of k) ∷ l) (kept_word word rest r.0))
        (after (parts ++ say.apart k word ∷ []) None (parts_more g parts (say.apart k word) are may) tt))
    value_says k may (say.other words.dashes) r = tt
    value_says k may (say.other words.call_for_help) r = tt
    value_says k may (say.other words.call_for_version) r = tt
    value_says k may (say.other words.option) r = tt

  says_all : (rest : List Text) (parts : List Part) (waits : Option Setting) → AreParts g parts → MayWait waits → SaysAll parts waits rest
  says_all [] parts None are may = all_says parts are
  says_all [] parts (Some k) are may = tt
  says_all (word ∷ rest) parts None are may =
      part_says parts are word rest (λ more waits h w. says_all rest more waits h w) (program_word g word) (reads_as g program c built apart [] [] None refl word)
  says_all (word ∷ rest) parts (Some k) are may =
      value_says parts are word rest (λ more waits h w. says_all rest more waits h w) k may (program_word g word) (reads_as g program c built apart [] [] None refl word)

  -- but for the first `--`, the words after the name of the program are those of the parts
  pub says : (rest : List Text) → Says (all_said g rest) (without_dashes rest)
  says rest = says_all rest [] None tt tt

-- What `clap` makes of a word that names no option but help, and the version where there is one.
use Rattle.std.proofs.Common.{◌≡◌, ◌∙◌, ◌+◌, ◌||◌, ℕ, Bool, codes, true, false, not, suc, refl, sym, ap, subst, arith, List, [], ◌∷◌, Option, Some, None, true≢false, eqb-true, eq-eqb, inl, inr}
use Rattle.std.proofs.lemmas.Bool.Decides.{eqb_tells}
use Rattle.std.specs.Prelude.{slice_get, ◌==◌, if◌then◌else◌}
use Rattle.std.specs.List.{after_first, before_first, list_all, prefix_len}
use Rattle.std.specs.Str.{bytes_eq, chars}
use Rattle.std.proofs.lemmas.Slice.Eq.{bytes_eq-Decides}
use Rattle.clap.specs.Lexer.{has_byte, long_of, name_and_value}
use Rattle.clap.specs.Walk.{Held, Row, Rule, Text, Waiting, arg_by_long, arg_by_short, long_or_other, bundle_met, plain_word}
use Rattle.clap.specs.Simple.{help_rule, version_rule}
use Rattle.clap.specs.Kinds.{Kinds, or_else}
use Rattle.clap.specs.Faults.{flag_word_fault, long_fault, flags_fault, settle_fault}
use Rattle.clap.specs.declared.builder.value_parser.ValueParser.TheVariants as vp
use Rattle.clap.specs.declared.error.kind.ErrorKind.{ErrorKind}
use Rattle.clap.specs.declared.error.kind.ErrorKind.TheVariants.{DisplayHelp, DisplayVersion}
use Rattle.pay_words.specs.OneWord.{Word, kind_after_hyphen, kind_by_letter, word_kind}
use Rattle.pay_words.specs.OneWord as words

-- an option that takes no value, as the build fills it in
abbrev filled_in : Rule → Rule
filled_in option = record option {
  range = Some (record { start_inclusive = 0; end_inclusive = 0 });
  parser = Some vp.String;
}

abbrev pub help_filled : Rule
help_filled = filled_in help_rule

abbrev pub version_filled : Rule
version_filled = filled_in version_rule

-- the version's option, where the command has one and its name is met
abbrev pub version_found : Bool → Bool → Option Rule
version_found false met = None
version_found true met = if met then Some version_filled else None

-- the option that a long name names, where help is one, and the version where the command has one
abbrev long_option : Bool → Text → Option Rule
long_option versioned name =
    if bytes_eq (codes "help") name || false then Some help_filled else version_found versioned (bytes_eq (codes "version") name || false)

-- the options of these rules are no others
abbrev pub LongOptions : List Rule → Bool → Type 0
LongOptions c versioned = (name : Text) → arg_by_long c name ≡ long_option versioned name

-- they are no others, but for those that have such a name
abbrev pub LongOptionsBut : (Text → Bool) → List Rule → Bool → Type 0
LongOptionsBut names c versioned = (name : Text) → names name ≡ false → arg_by_long c name ≡ long_option versioned name

abbrev pub ShortOptions : List Rule → Bool → Type 0
ShortOptions c versioned = (x : ℕ) → arg_by_short c x
    ≡ (if (104 == x) || false then Some help_filled else version_found versioned ((86 == x) || false))

abbrev pub is_refusal : ErrorKind → Bool
is_refusal DisplayHelp = false
is_refusal DisplayVersion = false
is_refusal _ = true

-- the words are refused, by no call for help or the version
abbrev pub Refuses : Kinds → Type 0
Refuses [] = ⊥
Refuses (k ∷ ks) = list_all is_refusal (k ∷ ks) ≡ true

-- what a call for the version comes to, where a value that waits to be judged comes to `bad`: it is an unknown option of a command that has none
abbrev pub VersionCalled : Bool → Kinds → Kinds → Type 0
VersionCalled true bad ks = ks ≡ or_else bad (DisplayVersion ∷ [])
VersionCalled false bad ks = Refuses ks

-- what comes after the one kind changes nothing
one_kind : (bad : Kinds) (k : ErrorKind) (next : Kinds) → or_else (or_else bad (k ∷ [])) next ≡ or_else bad (k ∷ [])
one_kind [] k next = refl
one_kind (b ∷ bad) k next = refl

pub whole_name : (xs : List ℕ) → has_byte 61 xs ≡ false → before_first (λ x. x == 61) xs ≡ xs
whole_name [] e = refl
whole_name (x ∷ xs) e = go (x == 61) refl (λ h. whole_name xs h)
  where
    go : (t : Bool) → (x == 61) ≡ t → (has_byte 61 xs ≡ false → before_first (λ x. x == 61) xs ≡ xs) → before_first (λ x. x == 61) (x ∷ xs) ≡ x ∷ xs
    go true t next =
        let is : true ≡ false = rw t at e in
        absurd (true≢false is)
    go false t next =
        let rest : has_byte 61 xs ≡ false = rw t at e in
        let more : 1 + prefix_len (λ y. not (y == 61)) xs ≡ suc (prefix_len (λ y. not (y == 61)) xs) = omega arith in
        rw (t, more) (ap (λ l. x ∷ l) (next rest))

-- two texts with a hyphen before them
pub same_bytes : (a b : Text) → bytes_eq a b ≡ true → a ≡ b
same_bytes a b e = (bytes_eq-Decides a b).0 e

same_other_way : (a b : ℕ) → (a == b) ≡ false → (b == a) ≡ false
same_other_way a b e = elim (eqb_tells b a) [
  | inl h ↦
      let is : (b == b) ≡ false = rw (← h.1) at e in
      absurd (true≢false (sym (eq-eqb b b refl) ∙ is))
  | inr h ↦ h.0
]

-- the name in a long option: all of it, or what stands before a `=`
named : (xs known : List ℕ) → before_first (λ x. x == 61) xs ≡ known → has_byte 61 xs ≡ false → bytes_eq xs known ≡ true
named xs known is none = (bytes_eq-Decides xs known).1 (sym (whole_name xs none) ∙ is)

abbrev pub held_at : List Row → Option (Text × List Text) → Held
held_at rows pending = record { rows = rows; pending = pending; skip = 0 }

-- what the walk makes of a word of each kind
abbrev pub ReadsWord : List Rule → Bool → Kinds → Held → Word → Text → Type 0
ReadsWord c versioned bad h words.value w = (bytes_eq w (45 ∷ 45 ∷ []) ≡ false)
    × (flag_word_fault c false (long_of w) w h ≡ [])
    × ((waiting : Waiting) → long_or_other c waiting w (long_of w) h ≡ plain_word c waiting w h)
ReadsWord c versioned bad h words.dashes w = bytes_eq w (45 ∷ 45 ∷ []) ≡ true
ReadsWord c versioned bad h words.call_for_help w = (bytes_eq w (45 ∷ 45 ∷ []) ≡ false)
    × (flag_word_fault c false (long_of w) w h ≡ or_else bad (DisplayHelp ∷ []))
ReadsWord c versioned bad h words.call_for_version w = (bytes_eq w (45 ∷ 45 ∷ []) ≡ false)
    × VersionCalled versioned bad (flag_word_fault c false (long_of w) w h)
ReadsWord c versioned bad h words.option w = (bytes_eq w (45 ∷ 45 ∷ []) ≡ false)
    × Refuses (flag_word_fault c false (long_of w) w h)

-- the word is no option of such a name
abbrev pub NamesNone : (Text → Bool) → Text → Type 0
NamesNone names w = (long : Text × Option Text) → long_of w ≡ Some long → names long.0 ≡ false

module _ (names : Text → Bool) (c : List Rule) (versioned : Bool) (long : LongOptionsBut names c versioned) (short : ShortOptions c versioned)
    (bad : Kinds) (rows : List Row) (pending : Option (Text × List Text)) where
  abbrev held : Held
  held = held_at rows pending

  abbrev ReadsAs : Word → Text → Type 0
  ReadsAs k w = ReadsWord c versioned bad held k w

  -- the first letter after the hyphen
  letter : (settles : settle_fault c false held ≡ bad) (x : ℕ) (xs : List ℕ) (o : Option ℕ) → slice_get (chars (x ∷ xs)) 0 ≡ o → (x == 45) ≡ false
      → ReadsAs (kind_by_letter o) (45 ∷ x ∷ xs)
  unfolding flags_fault bundle_met
  letter settles x xs None first other = (rw other refl, rw (other, other, first) refl, λ waiting. rw (other, other, first) refl)
  letter settles x xs (Some l) first other = go (l == 104) refl (l == 86) refl versioned refl
    where
      go : (t : Bool) → (l == 104) ≡ t → (u : Bool) → (l == 86) ≡ u → (v : Bool) → versioned ≡ v
          → ReadsAs (if t then words.call_for_help else (if u then words.call_for_version else words.option)) (45 ∷ x ∷ xs)
      go true t u e v is =
          let found : arg_by_short c l ≡ Some help_filled = short l ∙ (rw (eqb-true l 104 t) refl) in
          (rw other refl, rw (other, other, first, found, settles) (one_kind bad DisplayHelp _))
      go false t true e true is =
          let found : arg_by_short c l ≡ Some version_filled = short l ∙ (rw (eqb-true l 86 e, is) refl) in
          (rw other refl, rw is (rw (other, other, first, found, settles) (one_kind bad DisplayVersion _)))
      go false t true e false is =
          let none : arg_by_short c l ≡ None = short l ∙ (rw (eqb-true l 86 e, is) refl) in
          (rw other refl, rw is (rw (other, other, first, none) refl))
      go false t false e true is =
          let none : arg_by_short c l ≡ None = short l ∙ (rw (same_other_way l 104 t, same_other_way l 86 e, is) refl) in
          (rw other refl, rw (other, other, first, none) refl)
      go false t false e false is =
          let none : arg_by_short c l ≡ None = short l ∙ (rw (same_other_way l 104 t, is) refl) in
          (rw other refl, rw (other, other, first, none) refl)

  -- a long option that is neither `--help` nor `--version`
  other_long : (xs : List ℕ) → bytes_eq xs (codes "help") ≡ false → bytes_eq xs (codes "version") ≡ false → (name : Text) → before_first (λ x. x == 61) xs ≡ name
      → names name ≡ false → Refuses (long_fault c false (arg_by_long c name) (if has_byte 61 xs then Some (after_first (λ x. x == 61) xs) else None) held)
  other_long xs no_help no_version name is unnamed = go (bytes_eq (codes "help") name) refl (bytes_eq (codes "version") name) refl (has_byte 61 xs) refl versioned refl
    where
      go : (t : Bool) → bytes_eq (codes "help") name ≡ t → (u : Bool) → bytes_eq (codes "version") name ≡ u → (h : Bool) → has_byte 61 xs ≡ h
          → (v : Bool) → versioned ≡ v
          → Refuses (long_fault c false (arg_by_long c name) (if has_byte 61 xs then Some (after_first (λ x. x == 61) xs) else None) held)
      go true t u e true h v b =
          let found : arg_by_long c name ≡ Some help_filled = long name unnamed ∙ (rw t refl) in
          rw (found, h) refl
      go true t u e false h v b =
          let same : codes "help" ≡ name = same_bytes (codes "help") name t in
          let so : bytes_eq xs (codes "help") ≡ true = named xs (codes "help") (is ∙ sym same) h in
          absurd (true≢false (sym so ∙ no_help))
      go false t u e h k false b =
          let none : arg_by_long c name ≡ None = long name unnamed ∙ (rw (t, b) refl) in
          rw none refl
      go false t false e h k true b =
          let none : arg_by_long c name ≡ None = long name unnamed ∙ (rw (t, e, b) refl) in
          rw none refl
      go false t true e true h true b =
          let found : arg_by_long c name ≡ Some version_filled = long name unnamed ∙ (rw (t, e, b) refl) in
          rw (found, h) refl
      go false t true e false h true b =
          let same : codes "version" ≡ name = same_bytes (codes "version") name e in
          let so : bytes_eq xs (codes "version") ≡ true = named xs (codes "version") (is ∙ sym same) h in
          absurd (true≢false (sym so ∙ no_version))

  long_version : (settles : settle_fault c false held ≡ bad) → names (codes "version") ≡ false → (v : Bool) → versioned ≡ v → ReadsAs words.call_for_version (codes "--version")
  long_version settles unnamed true is =
      let found : arg_by_long c (codes "version") ≡ Some version_filled = long (codes "version") unnamed ∙ (rw is refl) in
      (refl, rw is (rw (found, settles) refl))
  long_version settles unnamed false is =
      let none : arg_by_long c (codes "version") ≡ None = long (codes "version") unnamed ∙ (rw is refl) in
      (refl, rw is (rw none refl))

  long_word : (settles : settle_fault c false held ≡ bad) (xs : List ℕ) → NamesNone names (45 ∷ 45 ∷ xs) → ReadsAs (kind_after_hyphen (45 ∷ xs)) (45 ∷ 45 ∷ xs)
  unfolding chars
  long_word settles [] none = refl
  long_word settles (y ∷ ys) none = go (bytes_eq (y ∷ ys) (codes "help")) refl (bytes_eq (y ∷ ys) (codes "version")) refl
    where
      go : (t : Bool) → bytes_eq (y ∷ ys) (codes "help") ≡ t → (u : Bool) → bytes_eq (y ∷ ys) (codes "version") ≡ u
          → ReadsAs (kind_after_hyphen (45 ∷ y ∷ ys)) (45 ∷ 45 ∷ y ∷ ys)
      go true t u e =
          subst (λ v. NamesNone names (45 ∷ 45 ∷ v) → ReadsAs (kind_after_hyphen (45 ∷ v)) (45 ∷ 45 ∷ v)) (sym (same_bytes (y ∷ ys) (codes "help") t))
          (λ unnamed.
          let found : arg_by_long c (codes "help") ≡ Some help_filled = long (codes "help") (unnamed (codes "help", None) refl) in
          (refl, rw (found, settles) refl)) none
      go false t true e =
          subst (λ v. NamesNone names (45 ∷ 45 ∷ v) → ReadsAs (kind_after_hyphen (45 ∷ v)) (45 ∷ 45 ∷ v)) (sym (same_bytes (y ∷ ys) (codes "version") e))
          (λ unnamed. long_version settles (unnamed (codes "version", None) refl) versioned refl) none
      go false t false e = rw (t, e) (refl, other_long (y ∷ ys) t e _ refl (none (name_and_value (y ∷ ys)) refl))

  hyphen : (settles : settle_fault c false held ≡ bad) (rest : List ℕ) → NamesNone names (45 ∷ rest) → ReadsAs (kind_after_hyphen rest) (45 ∷ rest)
  unfolding chars flags_fault bundle_met
  hyphen settles [] none = (refl, refl, λ waiting. refl)
  hyphen settles (x ∷ xs) none = go (x == 45) refl
    where
      go : (t : Bool) → (x == 45) ≡ t → ReadsAs (kind_after_hyphen (x ∷ xs)) (45 ∷ x ∷ xs)
      go true t =
          subst (λ v. NamesNone names (45 ∷ v ∷ xs) → ReadsAs (kind_after_hyphen (v ∷ xs)) (45 ∷ v ∷ xs)) (sym (eqb-true x 45 t)) (long_word settles xs) none
      go false t = simp t (letter settles x xs _ refl t)

  pub reads_but : (settles : settle_fault c false held ≡ bad) (w : Text) → NamesNone names w → ReadsAs (word_kind w) w
  reads_but settles [] none = (refl, refl, λ waiting. refl)
  reads_but settles (b ∷ rest) none = go (b == 45) refl
    where
      go : (t : Bool) → (b == 45) ≡ t → ReadsAs (word_kind (b ∷ rest)) (b ∷ rest)
      go true t = subst (λ v. NamesNone names (v ∷ rest) → ReadsAs (word_kind (v ∷ rest)) (v ∷ rest)) (sym (eqb-true b 45 t)) (hyphen settles rest) none
      go false t = rw t (rw t refl, rw (t, t) refl, λ waiting. rw (t, t) refl)

-- and where there are no other options
module _ (c : List Rule) (versioned : Bool) (long : LongOptions c versioned) (short : ShortOptions c versioned)
    (bad : Kinds) (rows : List Row) (pending : Option (Text × List Text)) where
  abbrev pub Reads : Word → Text → Type 0
  Reads k w = ReadsWord c versioned bad (held_at rows pending) k w

  pub reads : (settles : settle_fault c false (held_at rows pending) ≡ bad) (w : Text) → Reads (word_kind w) w
  reads settles w = reads_but (λ name. false) c versioned (λ name unnamed. long name) short bad rows pending settles w (λ option is. refl)

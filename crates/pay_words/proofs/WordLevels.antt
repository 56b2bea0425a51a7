-- What `clap` makes of the words of one level, the process's or a program's, from any place on.
use Rattle.std.proofs.Common.{◌≡◌, ℕ, Bool, true, false, refl, ap, ap₂, List, [], ◌∷◌, Option, None, fold}
use Rattle.std.specs.Str.{bytes_eq}
use Rattle.clap.specs.Walk.{Held, Names, Row, Rule, Step, Text, Walk, idle, value, trailing, word_met, after_step, finished, settled, subcommand_met, walked}
use Rattle.clap.specs.Simple.{Shape}
use Rattle.clap.specs.Kinds.{Kinds, or_else}
use Rattle.clap.specs.Lexer.{long_of}
use Rattle.clap.specs.Faults.{check_fault, defaults_fault, flag_word_fault, settle_fault, step_fault, word_fault, turn_fault, walk_fault}
use Rattle.clap.specs.declared.error.kind.ErrorKind.{ErrorKind}
use Rattle.pay_words.specs.Asked.{Word}
use Rattle.pay_words.specs.Asked as words
use Rattle.pay_words.proofs.WordKinds.{LongOptions, Reads, Refuses, ShortOptions}

-- what a parse of one level comes to, from a place of its walk
abbrev pub Level : Shape → Names → Walk → List Text → Bool → Kinds → Kinds
Level s names w words has below =
    let end = (fold (walked s.rules names) w words).held in
    or_else (walk_fault s names w words)
    (or_else below (or_else (settle_fault s.rules s.args_override_self end)
    (or_else (defaults_fault (settled s.rules end).rows s.rules)
    (check_fault s (finished s.rules end) has))))

abbrev pub rows_from : Shape → Names → Walk → List Text → List Row
rows_from s names w words = finished s.rules (fold (walked s.rules names) w words).held

pub refuses_first : (a b : Kinds) → Refuses a → Refuses (or_else a b)
refuses_first [] b h = absurd h
refuses_first (k ∷ ks) b h = h

module _ (s : Shape) (names : Names) (w : Walk) (word : Text) (rest : List Text) (has : Bool) (below : Kinds) where
  pub level_next : (next : Walk) → turn_fault s names w word ≡ [] → walked s.rules names w word ≡ next → Level s names w (word ∷ rest) has below ≡ Level s names next rest has below
  unfolding walk_fault
  level_next next none is = ap₂ (λ (t : Kinds) (v : Walk). let end = (fold (walked s.rules names) v rest).held in
      or_else (or_else t (walk_fault s names v rest)) (or_else below (or_else (settle_fault s.rules s.args_override_self end)
      (or_else (defaults_fault (settled s.rules end).rows s.rules) (check_fault s (finished s.rules end) has))))) none is

  pub rows_next : (next : Walk) → walked s.rules names w word ≡ next → rows_from s names w (word ∷ rest) ≡ rows_from s names next rest
  rows_next next is = ap (λ (v : Walk). rows_from s names v rest) is

  pub level_shows : (k : ErrorKind) → turn_fault s names w word ≡ k ∷ [] → Level s names w (word ∷ rest) has below ≡ k ∷ []
  unfolding walk_fault
  level_shows k is = rw is refl

  pub level_refuses : Refuses (turn_fault s names w word) → Refuses (Level s names w (word ∷ rest) has below)
  unfolding walk_fault
  level_refuses h = refuses_first _ _ (refuses_first _ _ h)

-- a place of a walk at which nothing waits for a value
abbrev pub place : List Row → Option (Text × List Text) → ℕ → Bool → Walk
place rows pending position is_trailing = record {
  held = record { rows = rows; pending = pending; skip = 0 };
  waiting = idle;
  position = position;
  is_trailing = is_trailing;
  stopped = None;
}

module _ (c : List Rule) (versioned : Bool) (long : LongOptions c versioned) (short : ShortOptions c versioned) (bad : Kinds)
    (s : Shape) (names : Names) (rows : List Row) (pending : Option (Text × List Text)) (position : ℕ)
    (word : Text) (unmet : subcommand_met names idle word ≡ None) where
  abbrev shape : Shape
  shape = record s { rules = c; args_override_self = false }

  abbrev here : Walk
  here = place rows pending position false

  abbrev ReadsAs : Word → Type 0
  ReadsAs k = Reads c versioned long short bad rows pending k word

  -- an option that shows a text, and what was asked for
  pub turn_shows : (k : ErrorKind) → bytes_eq word (45 ∷ 45 ∷ []) ≡ false → flag_word_fault c false (long_of word) word here.held ≡ k ∷ []
      → turn_fault shape names here word ≡ k ∷ []
  turn_shows k other is = rw (unmet, other, is) refl

  pub turn_refuses : ReadsAs words.option → Refuses (turn_fault shape names here word)
  turn_refuses r =
      let first : Refuses (word_fault shape names false idle word here.held) = rw (unmet, r.0) r.1 in
      let met : Held × Step = word_met c names false idle position word here.held in
      refuses_first (word_fault shape names false idle word here.held) (step_fault shape position met.0 met.1) first

  met_value : ReadsAs words.value → word_met c names false idle position word here.held ≡ (here.held, value)
  met_value r = rw (unmet, r.0) (r.2 idle)

  pub turn_value : ReadsAs words.value → turn_fault shape names here word ≡ step_fault shape position here.held value
  turn_value r =
      let passes : word_fault shape names false idle word here.held ≡ [] = rw (unmet, r.0) r.1 in
      ap₂ (λ (k : Kinds) (m : Held × Step). or_else k (step_fault shape position m.0 m.1)) passes (met_value r)

  pub walked_value : ReadsAs words.value → walked c names here word ≡ after_step c word here here.held value
  unfolding walked
  walked_value r = ap (λ (m : Held × Step). after_step c word here m.0 m.1) (met_value r)

  met_dashes : ReadsAs words.dashes → word_met c names false idle position word here.held ≡ (here.held, trailing position)
  met_dashes r = rw (unmet, r) refl

  pub turn_dashes : ReadsAs words.dashes → turn_fault shape names here word ≡ []
  turn_dashes r =
      let passes : word_fault shape names false idle word here.held ≡ [] = rw (unmet, r) refl in
      ap₂ (λ (k : Kinds) (m : Held × Step). or_else k (step_fault shape position m.0 m.1)) passes (met_dashes r)

  pub walked_dashes : ReadsAs words.dashes → walked c names here word ≡ place rows pending position true
  unfolding walked
  walked_dashes r = ap (λ (m : Held × Step). after_step c word here m.0 m.1) (met_dashes r)

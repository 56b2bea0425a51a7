-- What `clap` makes of a word of a program, from any place on.
use Rattle.std.proofs.Common.{◌≡◌, ℕ, Bool, true, false, refl, ap, ap₂, List, [], ◌∷◌, Option, None}
use Rattle.std.specs.Str.{bytes_eq}
use Rattle.clap.specs.Lexer.{long_of}
use Rattle.clap.specs.Walk as walk
use Rattle.clap.specs.Walk.{Held, Row, Rule, Step, Text, Waiting, Walk, idle, after_step, long_or_other, subcommand_met, walked, word_met}
use Rattle.clap.specs.Simple.{Shape}
use Rattle.clap.specs.Kinds.{Kinds, or_else}
use Rattle.clap.specs.Faults.{flag_word_fault, step_fault, turn_fault, word_fault}
use Rattle.pay_words.proofs.WordKinds.{Refuses, held_at}
use Rattle.pay_words.proofs.WordLevels.{Level, level_refuses, refuses_first}
use Rattle.pay_words.proofs.WordsOfProgram.{program_shape}

abbrev pub stand : List Row → Option (Text × List Text) → Waiting → ℕ → Bool → Walk
stand rows pending waiting position t = record {
  held = held_at rows pending;
  waiting = waiting;
  position = position;
  is_trailing = t;
  stopped = None;
}

unmet : (waiting : Waiting) (word : Text) → subcommand_met [] waiting word ≡ None
unmet idle word = refl
unmet (walk.option id) word = refl
unmet walk.positional word = refl

module _ (program : Text) (c : List Rule) where
  abbrev shape : Shape
  shape = program_shape program c

  -- a word that is not `--`, by what it does
  module _ (rows : List Row) (pending : Option (Text × List Text)) (waiting : Waiting) (position : ℕ) (word : Text)
      (other : bytes_eq word (45 ∷ 45 ∷ []) ≡ false) where
    pub turn_by : (k : Kinds) (m : Held × Step) → flag_word_fault c false (long_of word) word (held_at rows pending) ≡ k
        → long_or_other c waiting word (long_of word) (held_at rows pending) ≡ m
        → turn_fault shape [] (stand rows pending waiting position false) word ≡ or_else k (step_fault shape position m.0 m.1)
    turn_by k m fault met =
        let passes : word_fault shape [] false waiting word (held_at rows pending) ≡ k = rw (unmet waiting word, other) fault in
        let is : word_met c [] false waiting position word (held_at rows pending) ≡ m = rw (unmet waiting word, other) met in
        ap₂ (λ (k : Kinds) (m : Held × Step). or_else k (step_fault shape position m.0 m.1)) passes is

    pub walked_by : (m : Held × Step) → long_or_other c waiting word (long_of word) (held_at rows pending) ≡ m
        → walked c [] (stand rows pending waiting position false) word ≡ after_step c word (stand rows pending waiting position false) m.0 m.1
    unfolding walked
    walked_by m met =
        let is : word_met c [] false waiting position word (held_at rows pending) ≡ m = rw (unmet waiting word, other) met in
        ap (λ (m : Held × Step). after_step c word (stand rows pending waiting position false) m.0 m.1) is

    pub refuses_by : Refuses (flag_word_fault c false (long_of word) word (held_at rows pending))
        → (rest : List Text) → Refuses (Level shape [] (stand rows pending waiting position false) (word ∷ rest) false [])
    refuses_by bad rest =
        let first : Refuses (word_fault shape [] false waiting word (held_at rows pending)) = rw (unmet waiting word, other) bad in
        let met : Held × Step = word_met c [] false waiting position word (held_at rows pending) in
        level_refuses shape [] (stand rows pending waiting position false) word rest false []
        (refuses_first (word_fault shape [] false waiting word (held_at rows pending)) (step_fault shape position met.0 met.1) first)

  pub turn_dashes : (rows : List Row) (pending : Option (Text × List Text)) (waiting : Waiting) (position : ℕ) (word : Text) → bytes_eq word (45 ∷ 45 ∷ []) ≡ true
      → turn_fault shape [] (stand rows pending waiting position false) word ≡ []
  turn_dashes rows pending waiting position word is =
      let passes : word_fault shape [] false waiting word (held_at rows pending) ≡ [] = rw (unmet waiting word, is) refl in
      let met : word_met c [] false waiting position word (held_at rows pending) ≡ (held_at rows pending, walk.trailing position) = rw (unmet waiting word, is) refl in
      ap₂ (λ (k : Kinds) (m : Held × Step). or_else k (step_fault shape position m.0 m.1)) passes met

  pub walked_dashes : (rows : List Row) (pending : Option (Text × List Text)) (waiting : Waiting) (position : ℕ) (word : Text) → bytes_eq word (45 ∷ 45 ∷ []) ≡ true
      → walked c [] (stand rows pending waiting position false) word ≡ stand rows pending waiting position true
  unfolding walked
  walked_dashes rows pending waiting position word is =
      let met : word_met c [] false waiting position word (held_at rows pending) ≡ (held_at rows pending, walk.trailing position) = rw (unmet waiting word, is) refl in
      ap (λ (m : Held × Step). after_step c word (stand rows pending waiting position false) m.0 m.1) met

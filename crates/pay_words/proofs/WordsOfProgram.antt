-- What `clap` makes of the words after the name of a program, from any place on.
use Rattle.std.proofs.Common.{◌≡◌, ◌∙◌, ℕ, Bool, codes, true, false, sym, subst, List, [], ◌∷◌, ◌++◌, Option, Some, None, refl}
use Rattle.clap.specs.Walk.{Row, Rule, Text, Walk, value, reading_by, after_step, walked}
use Rattle.clap.specs.Simple.{Shape, new_shape}
use Rattle.clap.specs.Kinds.{Kinds}
use Rattle.clap.specs.Faults.{step_fault, turn_fault}
use Rattle.clap.specs.declared.builder.action.ArgAction.TheVariants.{Set}
use Rattle.clap.specs.declared.builder.range.ValueRange.{ValueRange}
use Rattle.clap.specs.declared.builder.value_parser.ValueParser.TheVariants as vp
use Rattle.clap.specs.declared.error.kind.ErrorKind.TheVariants.{DisplayHelp, DisplayVersion, InvalidSubcommand}
use Rattle.clap.specs.declared.parser.matches.ValueSource.TheVariants.{CommandLine}
use Rattle.pay_words.specs.Asked.{Asked, Word, run, check, statement, explain, page, replay, serve, audit, rebuild, follow, log, help_asked, help_named, version_asked, usage}
use Rattle.pay_words.specs.Asked as words
use Rattle.pay_words.specs.Audit.{Audit}
use Rattle.pay_words.specs.Check.{Check, CheckTexts, check_of_texts}
use Rattle.pay_words.specs.Explain.{Explain, ExplainTexts, explain_of_texts}
use Rattle.pay_words.specs.Follow.{AreFollowNumbers, Follow, FollowTexts, follow_of_texts}
use Rattle.pay_words.specs.Log.{AreLogNumbers, Log, LogTexts, log_of_texts}
use Rattle.pay_words.specs.OneWord.{is_account}
use Rattle.pay_words.specs.Page.{ArePorts, Page, PageTexts, page_of_texts}
use Rattle.pay_words.specs.Run.{Run}
use Rattle.pay_words.specs.Serve.{AreInRange, Serve, ServeTexts, numbers_of}
use Rattle.pay_words.specs.Statement.{Statement, StatementTexts, statement_of_texts}
use Rattle.pay_words.specs.CommandLine.{HaveAudit, HaveCheckTexts, HaveExplainTexts, HaveFaresAndLedger, HaveFollowTexts, HaveLogTexts, HavePageTexts, HaveRun, HaveServeTexts, HaveStatementTexts, required_word}
use Rattle.pay_words.proofs.WordKinds.{LongOptions, Reads, Refuses, ShortOptions}
use Rattle.pay_words.proofs.WordLevels.{Level, level_next, level_refuses, level_shows, place, rows_from, rows_next, turn_dashes, turn_refuses, turn_shows, turn_value, walked_dashes, walked_value}

abbrev pub one_value : ValueRange
one_value = record { start_inclusive = 1; end_inclusive = 1 }

-- a word that has to be there, in its place
abbrev pub place_rule : Text → ℕ → Rule
place_rule name i = record (required_word name) {
  index = Some i;
  action = Some Set;
  range = Some one_value;
  parser = Some vp.String;
}

-- a program as it is built
abbrev pub program_shape : Text → List Rule → Shape
program_shape name rules = record (new_shape name) { rules = rules; is_leaf = true; disable_help_subcommand = true; is_built = true }

abbrev pub value_row : Text → Text → Row
value_row name v = record { id = name; values = v ∷ []; count = None; source = Some CommandLine; reading = reading_by (place_rule name 1) }

abbrev pub fares_row : Text → List Row
fares_row a = value_row (codes "FARES") a ∷ []

abbrev pub fares_pending : Text → Option (Text × List Text)
fares_pending a = Some (codes "FARES", a ∷ [])

-- FARES and ZONE
abbrev pub run_rows : Text → Text → List Row
run_rows a b = value_row (codes "FARES") a ∷ value_row (codes "ZONE") b ∷ []

-- the files of `replay`
abbrev pub files_row : List Text → Row
files_row files = record { id = codes "FILE"; values = files; count = None; source = Some CommandLine; reading = reading_by (place_rule (codes "FILE") 3) }

-- what the matches of `replay` are
abbrev pub replay_rows : Text → Text → List Text → List Row
replay_rows a b files = run_rows a b ++ files_row files ∷ []

-- the matches have what `run` is asked for
abbrev pub ComesWithRun : Run → Option (Text × List Row) → Type 0
ComesWithRun r sub = (rows : List Row) × (sub ≡ Some (codes "run", rows)) × HaveRun rows r

-- the matches are of words that `check` is given, of these values
abbrev pub ComesWithCheck : Check → Option (Text × List Row) → Type 0
ComesWithCheck c sub = (t : CheckTexts) × (rows : List Row) × (sub ≡ Some (codes "check", rows)) × HaveCheckTexts rows t × (check_of_texts t ≡ c)

-- the matches are of words that `statement` is given, of these values
abbrev pub ComesWithNumbers : Statement → Option (Text × List Row) → Type 0
ComesWithNumbers s sub = (t : StatementTexts) × (rows : List Row) × (sub ≡ Some (codes "statement", rows)) × HaveStatementTexts rows t × (is_account t.account ≡ true) × (statement_of_texts t ≡ s)

-- the matches are of words that `explain` is given, of these values
abbrev pub ComesWithJournal : Explain → Option (Text × List Row) → Type 0
ComesWithJournal e sub = (t : ExplainTexts) × (rows : List Row) × (sub ≡ Some (codes "explain", rows)) × HaveExplainTexts rows t × (is_account t.account ≡ true) × (explain_of_texts t ≡ e)

-- the matches are of words that `page` is given, of these values
abbrev pub ComesWithPort : Page → Option (Text × List Row) → Type 0
ComesWithPort p sub = (t : PageTexts) × (rows : List Row) × (sub ≡ Some (codes "page", rows)) × HavePageTexts rows t × ArePorts t × (page_of_texts t ≡ p)

-- the matches are of words that `serve` is given, of these numbers
abbrev pub ComesWithOptions : Serve → Option (Text × List Row) → Type 0
ComesWithOptions s sub = (t : ServeTexts) × (rows : List Row) × (sub ≡ Some (codes "serve", rows)) × HaveServeTexts rows t × AreInRange t × (numbers_of t ≡ s)

-- the matches have what `audit` is asked for
abbrev pub ComesWithAudit : Audit → Option (Text × List Row) → Type 0
ComesWithAudit a sub = (rows : List Row) × (sub ≡ Some (codes "audit", rows)) × HaveAudit rows a

-- the matches have the values of `rebuild`
abbrev pub ComesWithLedger : Text → Text → Option (Text × List Row) → Type 0
ComesWithLedger fares ledger sub = (rows : List Row) × (sub ≡ Some (codes "rebuild", rows)) × HaveFaresAndLedger rows fares ledger

-- the matches are of words that `follow` is given, of these values
abbrev pub ComesWithPartition : Follow → Option (Text × List Row) → Type 0
ComesWithPartition f sub = (t : FollowTexts) × (rows : List Row) × (sub ≡ Some (codes "follow", rows)) × HaveFollowTexts rows t × AreFollowNumbers t × (follow_of_texts t ≡ f)

-- the matches are of words that `log` is given, of these values
abbrev pub ComesWithAction : Log → Option (Text × List Row) → Type 0
ComesWithAction l sub = (t : LogTexts) × (rows : List Row) × (sub ≡ Some (codes "log", rows)) × HaveLogTexts rows t × AreLogNumbers t × (log_of_texts t ≡ l)

-- what a parse comes to, by what the words ask for
abbrev pub Comes : Asked → Kinds → Option (Text × List Row) → Type 0
Comes (run r) ks sub = (ks ≡ []) × ComesWithRun r sub
Comes (check c) ks sub = (ks ≡ []) × ComesWithCheck c sub
Comes (statement s) ks sub = (ks ≡ []) × ComesWithNumbers s sub
Comes (explain e) ks sub = (ks ≡ []) × ComesWithJournal e sub
Comes (page p) ks sub = (ks ≡ []) × ComesWithPort p sub
Comes (replay a b files) ks sub = (ks ≡ []) × (sub ≡ Some (codes "replay", replay_rows a b files))
Comes (serve s) ks sub = (ks ≡ []) × ComesWithOptions s sub
Comes (audit a) ks sub = (ks ≡ []) × ComesWithAudit a sub
Comes (rebuild fares ledger) ks sub = (ks ≡ []) × ComesWithLedger fares ledger sub
Comes (follow f) ks sub = (ks ≡ []) × ComesWithPartition f sub
Comes (log l) ks sub = (ks ≡ []) × ComesWithAction l sub
Comes help_asked ks sub = ks ≡ DisplayHelp ∷ []
Comes help_named ks sub = ks ≡ DisplayHelp ∷ InvalidSubcommand ∷ []
Comes version_asked ks sub = ks ≡ DisplayVersion ∷ []
Comes usage ks sub = Refuses ks

-- the walk after no value, and after FARES
abbrev pub after_none : Bool → Walk
after_none t = place [] None 1 t

abbrev pub after_fares : Text → Bool → Walk
after_fares a t = place [] (fares_pending a) 2 t

module _ (program : Text) (rules : List Rule) (long : LongOptions rules false) (short : ShortOptions rules false) where
  abbrev shape : Shape
  shape = program_shape program rules

  -- what the words of the program from a place on come to
  abbrev pub EndsFrom : Asked → Walk → List Text → Type 0
  EndsFrom x w rest = Comes x (Level shape [] w rest false []) (Some (program, rows_from shape [] w rest))

  -- a word that the walk takes leaves the rest to decide
  pub moved : (x : Asked) (w next : Walk) (word : Text) (rest : List Text) → turn_fault shape [] w word ≡ [] → walked rules [] w word ≡ next
      → EndsFrom x next rest → EndsFrom x w (word ∷ rest)
  moved x w next word rest passes is h =
      let rows_are : rows_from shape [] w (word ∷ rest) ≡ rows_from shape [] next rest = rows_next shape [] w word rest false [] next is in
      let level_is : Level shape [] w (word ∷ rest) false [] ≡ Level shape [] next rest false [] = level_next shape [] w word rest false [] next passes is in
      subst (λ (k : Kinds). Comes x k (Some (program, rows_from shape [] w (word ∷ rest)))) (sym level_is)
      (subst (λ (r : List Row). Comes x (Level shape [] next rest false []) (Some (program, r))) (sym rows_are) h)

  -- the words from a place on, by the kind of the first
  module _ (rows : List Row) (pending : Option (Text × List Text)) (position : ℕ) (word : Text) (rest : List Text) where
    abbrev from : Walk
    from = place rows pending position false

    abbrev ReadsAs : Word → Type 0
    ReadsAs k = Reads rules false long short [] rows pending k word

    pub helps : ReadsAs words.call_for_help → EndsFrom help_asked from (word ∷ rest)
    helps r = level_shows shape [] from word rest false [] DisplayHelp
        (turn_shows rules false long short [] shape [] rows pending position word refl DisplayHelp r.0 r.1)

    pub declines : ReadsAs words.option → EndsFrom usage from (word ∷ rest)
    declines r = level_refuses shape [] from word rest false [] (turn_refuses rules false long short [] shape [] rows pending position word refl r)

    pub after_dashes : (x : Asked) → ReadsAs words.dashes → EndsFrom x (place rows pending position true) rest → EndsFrom x from (word ∷ rest)
    after_dashes x r h = moved x from (place rows pending position true) word rest
        (turn_dashes rules false long short [] shape [] rows pending position word refl r)
        (walked_dashes rules false long short [] shape [] rows pending position word refl r) h

    pub after_value : (x : Asked) (next : Walk) → ReadsAs words.value → step_fault shape position from.held value ≡ []
        → after_step rules word from from.held value ≡ next → EndsFrom x next rest → EndsFrom x from (word ∷ rest)
    after_value x next r passes is h = moved x from next word rest
        (turn_value rules false long short [] shape [] rows pending position word refl r ∙ passes)
        (walked_value rules false long short [] shape [] rows pending position word refl r ∙ is) h

-- The values and options of a program as they are built, and what a use of one comes to.
use Rattle.std.proofs.Common.{◌≡◌, ◌∙◌, ◌||◌, ◌⊎◌, ℕ, Bool, codes, true, false, refl, sym, ap, subst, List, [], ◌∷◌, ◌++◌, Option, Some, None, is_some, inl, inr, true≢false}
use Rattle.std.specs.Prelude.{⊤, ◌+◌, min, option_map, if◌then◌else◌}
use Rattle.std.specs.Option.{option_map_or}
use Rattle.std.specs.Str.{bytes_eq}
use Rattle.clap.specs.Lexer.{usize_max}
use Rattle.clap.specs.Walk.{Row, Rule, Text, arg_by_id, arg_by_index, arg_by_long, has_row, reading_by, used}
use Rattle.clap.specs.Simple.{new_rule}
use Rattle.clap.specs.Values.{refused_kind}
use Rattle.clap.specs.Faults.{defaults_fault, use_fault}
use Rattle.clap.specs.ValueTests.{accepts}
use Rattle.clap.specs.declared.builder.action.ArgAction.TheVariants.{Set, SetTrue}
use Rattle.clap.specs.declared.builder.range.ValueRange.{ValueRange}
use Rattle.clap.specs.declared.builder.value_parser.ValueParser.{ValueParser}
use Rattle.clap.specs.declared.builder.value_parser.ValueParser.TheVariants as vp
use Rattle.clap.specs.declared.builder.value_parser.Reading.TheVariants as reading
use Rattle.pay_words.specs.Options.{Grammar, Place, Setting, flag_value, is_flag, name_of, place_after, place_reader, reader_of, setting_named}
use Rattle.pay_words.specs.Options.{port_option, lanes_option, shards_option, sessions_option, close_option, control_option, ahead_option, refused_option, greeting_option, journal_option, sync_option, ledger_option, early_option}
use Rattle.pay_words.specs.Options.{lint_option, against_option, after_option, week_option, staff_option, long_option, log_option, partition_option, of_option, replicas_option}
use Rattle.pay_words.specs.Options.{fares_place, zone_place, account_place, day_place, ledger_place, action_place, second_fares_place, third_zone_place}
use Rattle.pay_words.proofs.OptionRows.{a_row, found, no_row, row_added, row_with}
use Rattle.pay_words.proofs.WordKinds.{LongOptionsBut, Refuses, ShortOptions, help_filled, is_refusal, same_bytes}
use Rattle.pay_words.proofs.WordsOfProgram.{one_value, place_rule}

-- ---- values in their places

abbrev pub place_name : Place → Text
place_name fares_place = codes "FARES"
place_name zone_place = codes "ZONE"
place_name account_place = codes "ACCOUNT"
place_name day_place = codes "DAY"
place_name ledger_place = codes "LEDGER"
place_name action_place = codes "ACTION"
place_name second_fares_place = codes "FARES"
place_name third_zone_place = codes "ZONE"

-- where it stands, in each program that has it
abbrev place_index : Place → ℕ
place_index fares_place = 1
place_index zone_place = 2
place_index account_place = 3
place_index day_place = 4
place_index ledger_place = 2
place_index action_place = 1
place_index second_fares_place = 2
place_index third_zone_place = 3

abbrev place_parser : Place → ValueParser
place_parser fares_place = vp.String
place_parser zone_place = vp.String
place_parser account_place = vp.Unsigned 1 4_294_967_295
place_parser day_place = vp.String
place_parser ledger_place = vp.String
place_parser action_place = vp.String
place_parser second_fares_place = vp.String
place_parser third_zone_place = vp.String

-- as the build fills it in
abbrev pub rule_at : Place → Rule
rule_at p = record (place_rule (place_name p) (place_index p)) { parser = Some (place_parser p) }

place_reads : (p : Place) (word : Text) → accepts false (place_parser p) word ≡ place_reader p word
place_reads fares_place word = refl
place_reads zone_place word = refl
place_reads account_place word = refl
place_reads day_place word = refl
place_reads ledger_place word = refl
place_reads action_place word = refl
place_reads second_fares_place word = refl
place_reads third_zone_place word = refl

place_reading : (p : Place) → reading_by (rule_at p) ≡ reading.AsWritten
place_reading fares_place = refl
place_reading zone_place = refl
place_reading account_place = refl
place_reading day_place = refl
place_reading ledger_place = refl
place_reading action_place = refl
place_reading second_fares_place = refl
place_reading third_zone_place = refl

-- ---- options

abbrev parser_for : Setting → ValueParser
parser_for port_option = vp.Unsigned 1 65_535
parser_for lanes_option = vp.Unsigned 1 15
parser_for shards_option = vp.Unsigned 1 16
parser_for sessions_option = vp.Unsigned 1 1_000
parser_for close_option = vp.String
parser_for control_option = vp.Unsigned 1 65_535
parser_for ahead_option = vp.Unsigned 0 86_400
parser_for refused_option = vp.String
parser_for greeting_option = vp.String
parser_for journal_option = vp.String
parser_for sync_option = vp.Bool
parser_for ledger_option = vp.String
parser_for early_option = vp.Bool
parser_for lint_option = vp.Bool
parser_for against_option = vp.String
parser_for after_option = vp.String
parser_for week_option = vp.Bool
parser_for staff_option = vp.String
parser_for long_option = vp.Bool
parser_for log_option = vp.String
parser_for partition_option = vp.Unsigned 0 15
parser_for of_option = vp.Unsigned 1 16
parser_for replicas_option = vp.Unsigned 1 5

-- the options that a program needs
abbrev pub Needs : Type 0
Needs = Setting → Bool

-- those that both forms of `serve` need; `run`, `check` and `statement` need none of these
abbrev pub is_needed : Needs
is_needed port_option = true
is_needed lanes_option = true
is_needed shards_option = true
is_needed sessions_option = false
is_needed close_option = false
is_needed control_option = false
is_needed ahead_option = false
is_needed refused_option = false
is_needed greeting_option = false
is_needed journal_option = false
is_needed sync_option = false
is_needed ledger_option = false
is_needed early_option = false
is_needed lint_option = false
is_needed against_option = false
is_needed after_option = false
is_needed week_option = false
is_needed staff_option = false
is_needed long_option = false
is_needed log_option = false
is_needed partition_option = false
is_needed of_option = false
is_needed replicas_option = false

abbrev no_values : ValueRange
no_values = record { start_inclusive = 0; end_inclusive = 0 }

-- an option as the build fills it in, where it is needed or not
abbrev pub setting_rule : Bool → Setting → Rule
setting_rule needed k = record (new_rule (name_of k)) {
  long = Some (name_of k);
  action = Some (if is_flag k then SetTrue else Set);
  range = Some (if is_flag k then no_values else one_value);
  value_names = if is_flag k then 0 else 1;
  defaults = if is_flag k then codes "false" ∷ [] else [];
  missing = if is_flag k then flag_value ∷ [] else [];
  parser = Some (parser_for k);
  required = needed;
}

option_reads : (k : Setting) (word : Text) → is_flag k ≡ false → accepts false (parser_for k) word ≡ reader_of k word
option_reads port_option word value = refl
option_reads lanes_option word value = refl
option_reads shards_option word value = refl
option_reads sessions_option word value = refl
option_reads close_option word value = refl
option_reads control_option word value = refl
option_reads ahead_option word value = refl
option_reads refused_option word value = refl
option_reads greeting_option word value = refl
option_reads journal_option word value = refl
option_reads sync_option word value = cc
option_reads ledger_option word value = refl
option_reads early_option word value = cc
option_reads lint_option word value = cc
option_reads against_option word value = refl
option_reads after_option word value = refl
option_reads week_option word value = cc
option_reads staff_option word value = refl
option_reads long_option word value = cc
option_reads log_option word value = refl
option_reads partition_option word value = refl
option_reads of_option word value = refl
option_reads replicas_option word value = refl

pub option_reading : (needed : Bool) (k : Setting) → reading_by (setting_rule needed k) ≡ reading.AsWritten
option_reading needed port_option = refl
option_reading needed lanes_option = refl
option_reading needed shards_option = refl
option_reading needed sessions_option = refl
option_reading needed close_option = refl
option_reading needed control_option = refl
option_reading needed ahead_option = refl
option_reading needed refused_option = refl
option_reading needed greeting_option = refl
option_reading needed journal_option = refl
option_reading needed sync_option = refl
option_reading needed ledger_option = refl
option_reading needed early_option = refl
option_reading needed lint_option = refl
option_reading needed against_option = refl
option_reading needed after_option = refl
option_reading needed week_option = refl
option_reading needed staff_option = refl
option_reading needed long_option = refl
option_reading needed log_option = refl
option_reading needed partition_option = refl
option_reading needed of_option = refl
option_reading needed replicas_option = refl

-- ---- names

pub same_name : (k : Setting) → bytes_eq (name_of k) (name_of k) ≡ true
same_name port_option = refl
same_name lanes_option = refl
same_name shards_option = refl
same_name sessions_option = refl
same_name close_option = refl
same_name control_option = refl
same_name ahead_option = refl
same_name refused_option = refl
same_name greeting_option = refl
same_name journal_option = refl
same_name sync_option = refl
same_name ledger_option = refl
same_name early_option = refl
same_name lint_option = refl
same_name against_option = refl
same_name after_option = refl
same_name week_option = refl
same_name staff_option = refl
same_name long_option = refl
same_name log_option = refl
same_name partition_option = refl
same_name of_option = refl
same_name replicas_option = refl

-- options of one name are one
pub same_setting : (j k : Setting) → (j ≡ k) ⊎ (bytes_eq (name_of j) (name_of k) ≡ false)
same_setting port_option port_option = inl refl
same_setting lanes_option lanes_option = inl refl
same_setting shards_option shards_option = inl refl
same_setting sessions_option sessions_option = inl refl
same_setting close_option close_option = inl refl
same_setting control_option control_option = inl refl
same_setting ahead_option ahead_option = inl refl
same_setting refused_option refused_option = inl refl
same_setting greeting_option greeting_option = inl refl
same_setting journal_option journal_option = inl refl
same_setting sync_option sync_option = inl refl
same_setting ledger_option ledger_option = inl refl
same_setting early_option early_option = inl refl
same_setting lint_option lint_option = inl refl
same_setting against_option against_option = inl refl
same_setting after_option after_option = inl refl
same_setting week_option week_option = inl refl
same_setting staff_option staff_option = inl refl
same_setting long_option long_option = inl refl
same_setting log_option log_option = inl refl
same_setting partition_option partition_option = inl refl
same_setting of_option of_option = inl refl
same_setting replicas_option replicas_option = inl refl
same_setting _ _ = inr refl

-- no option has the name of a value
pub no_place : (k : Setting) (p : Place) → (bytes_eq (place_name p) (name_of k) ≡ false) × (bytes_eq (name_of k) (place_name p) ≡ false)
no_place port_option fares_place = (refl, refl)
no_place lanes_option fares_place = (refl, refl)
no_place shards_option fares_place = (refl, refl)
no_place sessions_option fares_place = (refl, refl)
no_place close_option fares_place = (refl, refl)
no_place control_option fares_place = (refl, refl)
no_place ahead_option fares_place = (refl, refl)
no_place refused_option fares_place = (refl, refl)
no_place greeting_option fares_place = (refl, refl)
no_place journal_option fares_place = (refl, refl)
no_place sync_option fares_place = (refl, refl)
no_place ledger_option fares_place = (refl, refl)
no_place early_option fares_place = (refl, refl)
no_place lint_option fares_place = (refl, refl)
no_place against_option fares_place = (refl, refl)
no_place after_option fares_place = (refl, refl)
no_place week_option fares_place = (refl, refl)
no_place staff_option fares_place = (refl, refl)
no_place long_option fares_place = (refl, refl)
no_place log_option fares_place = (refl, refl)
no_place partition_option fares_place = (refl, refl)
no_place of_option fares_place = (refl, refl)
no_place replicas_option fares_place = (refl, refl)
no_place _ _ = (refl, refl)

pub same_place : (p : Place) → bytes_eq (place_name p) (place_name p) ≡ true
same_place fares_place = refl
same_place zone_place = refl
same_place account_place = refl
same_place day_place = refl
same_place ledger_place = refl
same_place action_place = refl
same_place second_fares_place = refl
same_place third_zone_place = refl

-- ---- the options of a program

-- what is so of each of these options is so of one that a name names
abbrev pub OfEach : {X : Type 0} → (X → Type 0) → List X → Type 0
OfEach P [] = ⊤
OfEach P (x ∷ xs) = P x × OfEach P xs

pub of_named : (options : List Setting) (P : Setting → Type 0) → OfEach P options → (name : Text) (k : Setting) → setting_named options name ≡ Some k → P k
of_named [] P h name k is = cc
of_named (j ∷ options) P h name k is = go (bytes_eq (name_of j) name) refl (of_named options P h.1 name k)
  where
    go : (t : Bool) → bytes_eq (name_of j) name ≡ t → (setting_named options name ≡ Some k → P k) → P k
    go true t next =
        let some : Some j ≡ Some k = rw t at is in
        let same : j ≡ k = cc in
        subst P same h.0
    go false t next = next (rw t at is)

abbrev help_or_none : Text → Option Rule
help_or_none name = if bytes_eq (codes "help") name || false then Some help_filled else None

abbrev pub rules_for : Needs → List Setting → List Rule
rules_for needs [] = help_filled ∷ []
rules_for needs (k ∷ options) = setting_rule (needs k) k ∷ rules_for needs options

abbrev setting_or_help : Needs → Text → Option Setting → Option Rule
setting_or_help needs name o = option_map_or (λ k. Some (setting_rule (needs k) k)) o (help_or_none name)

-- the argument that a long name names
pub rule_by_long : (needs : Needs) (options : List Setting) (name : Text) → arg_by_long (rules_for needs options) name ≡ setting_or_help needs name (setting_named options name)
rule_by_long needs [] name = refl
rule_by_long needs (k ∷ options) name = go (bytes_eq (name_of k) name) refl (rule_by_long needs options name)
  where
    go : (t : Bool) → bytes_eq (name_of k) name ≡ t
        → arg_by_long (rules_for needs options) name ≡ setting_or_help needs name (setting_named options name)
        → arg_by_long (rules_for needs (k ∷ options)) name ≡ setting_or_help needs name (setting_named (k ∷ options) name)
    go true t next = rw t refl
    go false t next = rw t next

-- where the next value stands, after these
abbrev pub position_of : List Text → ℕ
position_of [] = 1
position_of (a ∷ []) = 2
position_of (a ∷ b ∷ []) = 3
position_of (a ∷ b ∷ c ∷ []) = 4
position_of (a ∷ b ∷ c ∷ d ∷ more) = 5

-- these are the arguments of a program, as they are built
pub record IsBuilt (g : Grammar) (c : List Rule) : Type 0 where
  pub needs : Needs
  pub by_long : (name : Text) → arg_by_long c name ≡ setting_or_help needs name (setting_named g.options name)
  pub by_short : ShortOptions c false
  pub by_name : OfEach (λ k. arg_by_id c (name_of k) ≡ Some (setting_rule (needs k) k)) g.options
  pub by_place : OfEach (λ p. arg_by_id c (place_name p) ≡ Some (rule_at p)) g.places
  pub by_index : (vs : List Text) → arg_by_index c (position_of vs) ≡ option_map rule_at (place_after g.places vs)
  pub next : (vs : List Text) (p : Place) (word : Text) → place_after g.places vs ≡ Some p → min (position_of vs + 1) usize_max ≡ position_of (vs ++ word ∷ [])
  pub defaults : (rows : List Row) → defaults_fault rows c ≡ []

module _ (g : Grammar) (c : List Rule) (built : IsBuilt g c) where
  pub setting_by_long : (name : Text) (k : Setting) → setting_named g.options name ≡ Some k → arg_by_long c name ≡ Some (setting_rule (built.needs k) k)
  setting_by_long name k is = built.by_long name ∙ ap (setting_or_help built.needs name) is

  abbrev pub names_setting : Text → Bool
  names_setting name = is_some (setting_named g.options name)

  pub long_but : LongOptionsBut names_setting c false
  long_but name unnamed = built.by_long name ∙ go (setting_named g.options name) unnamed
    where
      go : (o : Option Setting) → is_some o ≡ false → setting_or_help built.needs name o ≡ help_or_none name
      go None e = refl
      go (Some k) e = cc

-- ---- one use of an option or of a value

-- an option that takes a value is given it, and a flag is given none
abbrev pub Uses : Setting → List Text → Text → Type 0
Uses k [] word = (is_flag k ≡ true) × (flag_value ≡ word)
Uses k (v ∷ []) word = (is_flag k ≡ false) × (v ≡ word)
Uses k (v ∷ w ∷ more) word = ⊥

-- what is so of each flag
of_flag : (P : Setting → Type 0) → P sync_option → P early_option → P lint_option → P week_option → P long_option → (k : Setting) → is_flag k ≡ true → P k
of_flag P sync early lint week long port_option flag = cc
of_flag P sync early lint week long lanes_option flag = cc
of_flag P sync early lint week long shards_option flag = cc
of_flag P sync early lint week long sessions_option flag = cc
of_flag P sync early lint week long close_option flag = cc
of_flag P sync early lint week long control_option flag = cc
of_flag P sync early lint week long ahead_option flag = cc
of_flag P sync early lint week long refused_option flag = cc
of_flag P sync early lint week long greeting_option flag = cc
of_flag P sync early lint week long journal_option flag = cc
of_flag P sync early lint week long sync_option flag = sync
of_flag P sync early lint week long ledger_option flag = cc
of_flag P sync early lint week long early_option flag = early
of_flag P sync early lint week long lint_option flag = lint
of_flag P sync early lint week long against_option flag = cc
of_flag P sync early lint week long after_option flag = cc
of_flag P sync early lint week long week_option flag = week
of_flag P sync early lint week long staff_option flag = cc
of_flag P sync early lint week long long_option flag = long
of_flag P sync early lint week long log_option flag = cc
of_flag P sync early lint week long partition_option flag = cc
of_flag P sync early lint week long of_option flag = cc
of_flag P sync early lint week long replicas_option flag = cc

flag_reads : (k : Setting) → is_flag k ≡ true → accepts false (parser_for k) flag_value ≡ true
flag_reads k flag = of_flag (λ j. accepts false (parser_for j) flag_value ≡ true) refl refl refl refl refl k flag

-- a flag takes what it is given with
flag_takes : (k : Setting) → is_flag k ≡ true → reader_of k flag_value ≡ true
flag_takes k flag = of_flag (λ j. reader_of j flag_value ≡ true) refl refl refl refl refl k flag

-- and nothing else
pub flag_given : (k : Setting) → is_flag k ≡ true → (v : Text) → reader_of k v ≡ true → v ≡ flag_value
flag_given k flag =
    let given : (v : Text) → bytes_eq v flag_value ≡ true → v ≡ flag_value = λ v h. same_bytes v flag_value h in
    of_flag (λ j. (v : Text) → reader_of j v ≡ true → v ≡ flag_value) given given given given given k flag

refuses_value : (k : Setting) → is_refusal (refused_kind (parser_for k)) ≡ true
refuses_value port_option = refl
refuses_value lanes_option = refl
refuses_value shards_option = refl
refuses_value sessions_option = refl
refuses_value close_option = refl
refuses_value control_option = refl
refuses_value ahead_option = refl
refuses_value refused_option = refl
refuses_value greeting_option = refl
refuses_value journal_option = refl
refuses_value sync_option = refl
refuses_value ledger_option = refl
refuses_value early_option = refl
refuses_value lint_option = refl
refuses_value against_option = refl
refuses_value after_option = refl
refuses_value week_option = refl
refuses_value staff_option = refl
refuses_value long_option = refl
refuses_value log_option = refl
refuses_value partition_option = refl
refuses_value of_option = refl
refuses_value replicas_option = refl

refuses_place : (p : Place) → is_refusal (refused_kind (place_parser p)) ≡ true
refuses_place fares_place = refl
refuses_place zone_place = refl
refuses_place account_place = refl
refuses_place day_place = refl
refuses_place ledger_place = refl
refuses_place action_place = refl
refuses_place second_fares_place = refl
refuses_place third_zone_place = refl

module _ (needed : Bool) (k : Setting) (rows : List Row) where
  pub use_taken : (vs : List Text) (word : Text) → Uses k vs word → found (name_of k) rows ≡ None → reader_of k word ≡ true → use_fault false (setting_rule needed k) vs rows ≡ []
  use_taken [] word (flag, is) none fits =
      let new : has_row (name_of k) rows ≡ false = no_row (name_of k) rows none in
      rw (flag, new, flag_reads k flag) refl
  use_taken (v ∷ []) word (value, is) none fits =
      let new : has_row (name_of k) rows ≡ false = no_row (name_of k) rows none in
      let reads : accepts false (parser_for k) v ≡ true = option_reads k v value ∙ (ap (reader_of k) is ∙ fits) in
      rw (value, new, reads) refl
  use_taken (v ∷ w ∷ more) word uses none fits = absurd uses

  pub use_beyond : (vs : List Text) (word : Text) → Uses k vs word → found (name_of k) rows ≡ None → reader_of k word ≡ false → Refuses (use_fault false (setting_rule needed k) vs rows)
  use_beyond [] word (flag, is) none beyond = absurd (true≢false (sym (flag_takes k flag) ∙ (ap (reader_of k) is ∙ beyond)))
  use_beyond (v ∷ []) word (value, is) none beyond =
      let new : has_row (name_of k) rows ≡ false = no_row (name_of k) rows none in
      let reads : accepts false (parser_for k) v ≡ false = option_reads k v value ∙ (ap (reader_of k) is ∙ beyond) in
      rw (value, new, reads, refuses_value k) refl
  use_beyond (v ∷ w ∷ more) word uses none beyond = absurd uses

  pub use_again : (vs : List Text) (word : Text) → Uses k vs word → (r : Row) → found (name_of k) rows ≡ Some r → Refuses (use_fault false (setting_rule needed k) vs rows)
  use_again [] word (flag, is) r some =
      let old : has_row (name_of k) rows ≡ true = a_row (name_of k) rows r some in
      rw (flag, old) refl
  use_again (v ∷ []) word (value, is) r some =
      let old : has_row (name_of k) rows ≡ true = a_row (name_of k) rows r some in
      rw (value, old) refl
  use_again (v ∷ w ∷ more) word uses r some = absurd uses

  pub use_adds : (vs : List Text) (word : Text) → Uses k vs word → found (name_of k) rows ≡ None → used (setting_rule needed k) vs rows ≡ rows ++ row_with (name_of k) word ∷ []
  use_adds [] word (flag, is) none = rw (flag, option_reading needed k, ← is) (row_added (name_of k) flag_value rows none)
  use_adds (v ∷ []) word (value, is) none = rw (value, option_reading needed k, ← is) (row_added (name_of k) v rows none)
  use_adds (v ∷ w ∷ more) word uses none = absurd uses

module _ (p : Place) (word : Text) (rows : List Row) where
  pub place_taken : found (place_name p) rows ≡ None → place_reader p word ≡ true → use_fault false (rule_at p) (word ∷ []) rows ≡ []
  place_taken none fits =
      let new : has_row (place_name p) rows ≡ false = no_row (place_name p) rows none in
      let reads : accepts false (place_parser p) word ≡ true = place_reads p word ∙ fits in
      rw (new, reads) refl

  pub place_beyond : found (place_name p) rows ≡ None → place_reader p word ≡ false → Refuses (use_fault false (rule_at p) (word ∷ []) rows)
  place_beyond none beyond =
      let new : has_row (place_name p) rows ≡ false = no_row (place_name p) rows none in
      let reads : accepts false (place_parser p) word ≡ false = place_reads p word ∙ beyond in
      rw (new, reads, refuses_place p) refl

  pub place_adds : found (place_name p) rows ≡ None → used (rule_at p) (word ∷ []) rows ≡ rows ++ row_with (place_name p) word ∷ []
  place_adds none = rw (place_reading p) (row_added (place_name p) word rows none)

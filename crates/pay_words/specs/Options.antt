-- What the words of a program with options say, in whatever order.
use Rattle.std.specs.Prelude.{◌≡◌, List, [], ◌∷◌, ◌++◌, codes, Bool, true, false, ⊤, Option, Some, None, option_and_then, option_map, slice_index, ◌≢◌, if◌then◌else◌}
use Rattle.std.specs.Str.{bytes_eq}
use Rattle.clap.specs.Lexer.{long_of}
use Rattle.pay_words.specs.OneWord.{Reader, Text, Word, value, dashes, call_for_help, call_for_version, option, any_text, word_kind}
use Rattle.pay_words.specs.OneWord.{is_account, is_ahead, is_lanes, is_partition, is_partitions, is_port, is_replicas, is_sessions, is_shards}

-- ---- values in their places, and options

-- a value that is no option's
pub data Place : Type 0 where
  fares_place : Place
  zone_place : Place
  account_place : Place
  day_place : Place
  ledger_place : Place
  action_place : Place
  -- FARES and ZONE after an action
  second_fares_place : Place
  third_zone_place : Place

-- what it has to be
abbrev pub place_reader : Place → Reader
place_reader fares_place = any_text
place_reader zone_place = any_text
place_reader account_place = is_account
place_reader day_place = any_text
place_reader ledger_place = any_text
place_reader action_place = any_text
place_reader second_fares_place = any_text
place_reader third_zone_place = any_text

-- an option, which has a value if it is no flag
pub data Setting : Type 0 where
  port_option : Setting
  lanes_option : Setting
  shards_option : Setting
  sessions_option : Setting
  close_option : Setting
  control_option : Setting
  ahead_option : Setting
  refused_option : Setting
  greeting_option : Setting
  journal_option : Setting
  sync_option : Setting
  ledger_option : Setting
  early_option : Setting
  lint_option : Setting
  against_option : Setting
  after_option : Setting
  week_option : Setting
  staff_option : Setting
  long_option : Setting
  log_option : Setting
  partition_option : Setting
  of_option : Setting
  replicas_option : Setting

abbrev pub name_of : Setting → Text
name_of port_option = codes "port"
name_of lanes_option = codes "lanes"
name_of shards_option = codes "shards"
name_of sessions_option = codes "sessions"
name_of close_option = codes "close"
name_of control_option = codes "control"
name_of ahead_option = codes "ahead"
name_of refused_option = codes "refused"
name_of greeting_option = codes "greeting"
name_of journal_option = codes "journal"
name_of sync_option = codes "sync"
name_of ledger_option = codes "ledger"
name_of early_option = codes "early"
name_of lint_option = codes "lint"
name_of against_option = codes "against"
name_of after_option = codes "after"
name_of week_option = codes "week"
name_of staff_option = codes "staff"
name_of long_option = codes "long"
name_of log_option = codes "log"
name_of partition_option = codes "partition"
name_of of_option = codes "of"
name_of replicas_option = codes "replicas"

abbrev pub is_flag : Setting → Bool
is_flag port_option = false
is_flag lanes_option = false
is_flag shards_option = false
is_flag sessions_option = false
is_flag close_option = false
is_flag control_option = false
is_flag ahead_option = false
is_flag refused_option = false
is_flag greeting_option = false
is_flag journal_option = false
is_flag sync_option = true
is_flag ledger_option = false
is_flag early_option = true
is_flag lint_option = true
is_flag against_option = false
is_flag after_option = false
is_flag week_option = true
is_flag staff_option = false
is_flag long_option = true
is_flag log_option = false
is_flag partition_option = false
is_flag of_option = false
is_flag replicas_option = false

-- the value that a flag is given with
abbrev pub flag_value : Text
flag_value = codes "true"

abbrev is_flag_value : Reader
is_flag_value word = bytes_eq word flag_value

-- what the value of an option has to be
abbrev pub reader_of : Setting → Reader
reader_of port_option = is_port
reader_of lanes_option = is_lanes
reader_of shards_option = is_shards
reader_of sessions_option = is_sessions
reader_of close_option = any_text
reader_of control_option = is_port
reader_of ahead_option = is_ahead
reader_of refused_option = any_text
reader_of greeting_option = any_text
reader_of journal_option = any_text
reader_of sync_option = is_flag_value
reader_of ledger_option = any_text
reader_of early_option = is_flag_value
reader_of lint_option = is_flag_value
reader_of against_option = any_text
reader_of after_option = any_text
reader_of week_option = is_flag_value
reader_of staff_option = any_text
reader_of long_option = is_flag_value
reader_of log_option = any_text
reader_of partition_option = is_partition
reader_of of_option = is_partitions
reader_of replicas_option = is_replicas

-- what a program takes: values in these places, in order, and these options, in any
pub record Grammar : Type 0 where
  pub places : List Place
  pub options : List Setting

-- the option of a name
abbrev pub setting_named : List Setting → Text → Option Setting
setting_named [] name = None
setting_named (k ∷ options) name = if bytes_eq (name_of k) name then Some k else setting_named options name

-- ---- what words say

-- one thing that the words say: a value that is no option's; an option with its value, which is the
-- next word (`--port 9000`) or stands after an equals sign in the same (`--port=9000`); or a flag
pub data Part : Type 0 where
  plain : Text → Part
  apart : Setting → Text → Part
  joined : Setting → Text → Part
  alone : Setting → Part

-- the words that say it
abbrev pub words_of_part : Part → List Text
words_of_part (plain word) = word ∷ []
words_of_part (apart k word) = (codes "--" ++ name_of k) ∷ word ∷ []
words_of_part (joined k word) = (codes "--" ++ (name_of k ++ (codes "=" ++ word))) ∷ []
words_of_part (alone k) = (codes "--" ++ name_of k) ∷ []

abbrev pub words_of_parts : List Part → List Text
words_of_parts [] = []
words_of_parts (part ∷ rest) = words_of_part part ++ words_of_parts rest

-- the values that are no option's, in their order
abbrev pub plain_words : List Part → List Text
plain_words [] = []
plain_words (plain word ∷ rest) = word ∷ plain_words rest
plain_words (apart k word ∷ rest) = plain_words rest
plain_words (joined k word ∷ rest) = plain_words rest
plain_words (alone k ∷ rest) = plain_words rest

abbrev pub value_for : Setting → Setting → Text → List Text
value_for k given word = if bytes_eq (name_of given) (name_of k) then word ∷ [] else []

-- the values that an option was given
abbrev pub values_of : Setting → List Part → List Text
values_of k [] = []
values_of k (plain word ∷ rest) = values_of k rest
values_of k (apart given word ∷ rest) = value_for k given word ++ values_of k rest
values_of k (joined given word ∷ rest) = value_for k given word ++ values_of k rest
values_of k (alone given ∷ rest) = value_for k given flag_value ++ values_of k rest

-- ---- the words, one after another

-- what the words after the name of a program come to
pub data Said : Type 0 where
  -- these parts
  all_of : List Part → Said
  -- a call for help, before any word that is refused
  help_wanted : Said
  -- nothing that is taken
  not_taken : Said

-- the place of the next value, after these
abbrev pub place_after : List Place → List Text → Option Place
place_after [] before = None
place_after (p ∷ places) [] = Some p
place_after (p ∷ places) (b ∷ before) = place_after places before

abbrev pub placed : Option Place → Text → Said → Said
placed None word after = not_taken
placed (Some p) word after = if place_reader p word then after else not_taken

-- one value more than these: there is a place for it, and it passes the reader of that place
abbrev pub one_more_plain : Grammar → List Text → Text → Said → Said
one_more_plain g before word after = placed (place_after g.places before) word after

-- a value of an option that was given these before: it is given once, and its value passes its reader
abbrev pub one_more_value : Setting → Text → List Text → Said → Said
one_more_value k word [] after = if reader_of k word then after else not_taken
one_more_value k word (before ∷ more) after = not_taken

-- what a word after the name of a program is
pub data ProgramWord : Type 0 where
  -- an option of the program, perhaps with a value after an equals sign
  setting : Setting → Option Text → ProgramWord
  other : Word → ProgramWord

abbrev pub setting_in : List Setting → Text × Option Text → Option (Setting × Option Text)
setting_in options long = option_map (λ k. (k, long.1)) (setting_named options long.0)

abbrev pub setting_or : Word → Option (Setting × Option Text) → ProgramWord
setting_or kind None = other kind
setting_or kind (Some s) = setting s.0 s.1

abbrev pub program_word : Grammar → Text → ProgramWord
program_word g word = setting_or (word_kind word) (option_and_then (setting_in g.options) (long_of word))

-- words that are all values, after what these parts say
abbrev pub all_plain : Grammar → List Part → List Text → Said
all_plain g parts [] = all_of parts
all_plain g parts (word ∷ rest) = one_more_plain g (plain_words parts) word (all_plain g (parts ++ plain word ∷ []) rest)

-- what the words come to after some parts, where an option may wait for its value
abbrev pub After : Type 0
After = List Part → Option Setting → Said

-- an option with nothing after it in its word: a flag is given, and any other waits for its value
abbrev pub next_alone : Bool → Setting → List Part → After → Said
next_alone true k parts after = one_more_value k flag_value (values_of k parts) (after (parts ++ alone k ∷ []) None)
next_alone false k parts after = after parts (Some k)

-- an option with a value after an equals sign, which a flag has not
abbrev pub next_joined : Bool → Setting → Text → List Part → After → Said
next_joined true k given parts after = not_taken
next_joined false k given parts after = one_more_value k given (values_of k parts) (after (parts ++ joined k given ∷ []) None)

-- a word by what it is, and the words after it
abbrev pub next_part : Grammar → ProgramWord → List Part → Text → List Text → After → Said
next_part g (setting k None) parts word rest after = next_alone (is_flag k) k parts after
next_part g (setting k (Some given)) parts word rest after = next_joined (is_flag k) k given parts after
next_part g (other value) parts word rest after = one_more_plain g (plain_words parts) word (after (parts ++ plain word ∷ []) None)
next_part g (other dashes) parts word rest after = all_plain g parts rest
next_part g (other call_for_help) parts word rest after = help_wanted
next_part g (other call_for_version) parts word rest after = not_taken
next_part g (other option) parts word rest after = not_taken

-- a word after an option that waits for its value
abbrev pub next_value : ProgramWord → Setting → List Part → Text → After → Said
next_value (other value) k parts word after =
    one_more_value k word (values_of k parts) (after (parts ++ apart k word ∷ []) None)
next_value _ k parts word after = not_taken

abbrev pub next_word : Grammar → Option Setting → List Part → Text → List Text → After → Said
next_word g None parts word rest after = next_part g (program_word g word) parts word rest after
next_word g (Some k) parts word rest after = next_value (program_word g word) k parts word after

abbrev pub no_more_words : Option Setting → List Part → Said
no_more_words None parts = all_of parts
no_more_words (Some k) parts = not_taken

-- what the words after the name of a program come to, after what these parts say and where this option
-- waits for its value: options stand before, between and after the values
abbrev pub said : Grammar → List Part → Option Setting → List Text → Said
said g parts waits [] = no_more_words waits parts
said g parts waits (word ∷ rest) = next_word g waits parts word rest (λ more now_waits. said g more now_waits rest)

-- what all the words come to
abbrev pub all_said : Grammar → List Text → Said
all_said g words = said g [] None words

-- ---- parts of a program

-- an option of the program
abbrev pub IsOption : Grammar → Setting → Type 0
IsOption g k = setting_named g.options (name_of k) ≡ Some k

-- a value, an option of the program that has one, or a flag of the program
abbrev pub IsPart : Grammar → Part → Type 0
IsPart g (plain word) = ⊤
IsPart g (apart k word) = IsOption g k × (is_flag k ≡ false)
IsPart g (joined k word) = IsOption g k × (is_flag k ≡ false)
IsPart g (alone k) = IsOption g k × (is_flag k ≡ true)

abbrev pub AreParts : Grammar → List Part → Type 0
AreParts g [] = ⊤
AreParts g (part ∷ rest) = IsPart g part × AreParts g rest

-- it does not begin with a hyphen (45)
abbrev pub HasNoHyphen : Text → Type 0
HasNoHyphen word = slice_index word 0 ≢ 45

-- the value of an option may be a word of its own where it begins with no hyphen, which no number does
abbrev pub MayStandApart : Setting → Text → Type 0
MayStandApart close_option word = HasNoHyphen word
MayStandApart refused_option word = HasNoHyphen word
MayStandApart greeting_option word = HasNoHyphen word
MayStandApart journal_option word = HasNoHyphen word
MayStandApart ledger_option word = HasNoHyphen word
MayStandApart against_option word = HasNoHyphen word
MayStandApart after_option word = HasNoHyphen word
MayStandApart staff_option word = HasNoHyphen word
MayStandApart log_option word = HasNoHyphen word
MayStandApart _ word = ⊤

-- each value that is the next word after its option may be
abbrev pub StandApart : List Part → Type 0
StandApart [] = ⊤
StandApart (apart k word ∷ rest) = MayStandApart k word × StandApart rest
StandApart (_ ∷ rest) = StandApart rest

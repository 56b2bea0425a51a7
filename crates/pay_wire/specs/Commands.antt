-- The commands that lines spell.
use Rattle.std.specs.Prelude.{◌≡◌, ℕ, nat_le, ◌&&◌, List, [], ◌∷◌, ◌++◌, Option, Some, None, if◌then◌else◌, codes, refl}
use Rattle.std.specs.Str.{bytes_eq}
use Rattle.pay_rules.specs.declared.tap.Kind.{Kind}
use Rattle.pay_rules.specs.declared.tap.Kind.TheVariants.{In, Out, Bus}
use Rattle.pay_wire.specs.declared.command.SpelledCredit.{SpelledCredit}
use Rattle.pay_rules.specs.declared.limits.TheConstants.{MOST_CREDIT}
use Rattle.pay_wire.specs.declared.command.SpelledTap.{SpelledTap}
use Rattle.pay_wire.specs.declared.command.SpelledFix.{SpelledFix}
use Rattle.pay_wire.specs.declared.command.SpelledWhat.{SpelledWhat}
use Rattle.pay_wire.specs.declared.command.SpelledWhat.TheVariants as spelled
use Rattle.pay_wire.specs.declared.command.Form.{Form}
use Rattle.pay_wire.specs.declared.command.Form.TheVariants as form
use Rattle.pay_wire.specs.declared.command.SpelledCommand.{SpelledCommand}
use Rattle.pay_wire.specs.declared.command.SpelledCommand.TheVariants.{Tap, Fix, Due, Show, Close, Quit}
use Rattle.pay_wire.specs.declared.command.Keyword.{Keyword}
use Rattle.pay_wire.specs.declared.command.Keyword.TheVariants as keyword
use Rattle.pay_day.specs.declared.limits.TheConstants.{FIRST_DAY, LAST_DAY}
use Rattle.pay_wire.specs.declared.limits.TheConstants.{MOST_READER, MOST_STAFF, MOST_SEQ, MOST_ACCOUNT, MOST_UTC, MOST_PLACE}
use Rattle.pay_wire.specs.Numbers.{number_of}
use Rattle.pay_wire.specs.Fields.{◌>>=◌, words, has_none, field}

-- the number of a word, where it is in the range
abbrev pub number_within : ℕ → ℕ → List ℕ → Option ℕ
number_within low high word = do
  number ← number_of word
  if nat_le low number && nat_le number high then Some number else None

-- the kind of a tap, in capital letters
abbrev pub kind_of_word : List ℕ → Option Kind
kind_of_word word =
    if bytes_eq word (codes "IN") then Some In
    else if bytes_eq word (codes "OUT") then Some Out
    else if bytes_eq word (codes "BUS") then Some Bus
    else None

-- the fields of a tap, each in its range, and no word after them
unfoldable pub tap_of : List (List ℕ) → Option SpelledTap
tap_of fields = do
  reader ← field (number_within 1 MOST_READER) fields
  seq ← field (number_within 0 MOST_SEQ) reader.1
  account ← field (number_within 1 MOST_ACCOUNT) seq.1
  utc ← field (number_within 0 MOST_UTC) account.1
  place ← field (number_within 1 MOST_PLACE) utc.1
  kind ← field kind_of_word place.1
  if has_none kind.1
      then Some (record { reader = reader.0; seq = seq.0; account = account.0; utc = utc.0; place = place.0; kind = kind.0 })
      else None

-- a reader or a staff up to the greatest, and the seq of its tap or correction, and no word after them
unfoldable pub named_of : ℕ → List (List ℕ) → Option (ℕ × ℕ)
named_of most fields = do
  first ← field (number_within 1 most) fields
  seq ← field (number_within 0 MOST_SEQ) first.1
  if has_none seq.1 then Some (first.0, seq.0) else None

-- the tap that a fill adds, each field in its range, and no word after them
unfoldable pub fill_of : List (List ℕ) → Option SpelledWhat
fill_of fields = do
  utc ← field (number_within 0 MOST_UTC) fields
  place ← field (number_within 1 MOST_PLACE) utc.1
  kind ← field kind_of_word place.1
  if has_none kind.1 then Some (spelled.Fill utc.0 place.0 kind.0) else None

-- the service day and the pence of a credit, each in its range, and no word after them
unfoldable pub credit_of : List (List ℕ) → Option SpelledCredit
credit_of fields = do
  day ← field (number_within FIRST_DAY LAST_DAY) fields
  pence ← field (number_within 1 MOST_CREDIT) day.1
  if has_none pence.1 then Some (record { day = day.0; pence = pence.0 }) else None

-- the form of a correction, in capital letters
abbrev pub form_of_word : List ℕ → Option Form
form_of_word word =
    if bytes_eq word (codes "VOID") then Some form.Void
    else if bytes_eq word (codes "FILL") then Some form.Fill
    else if bytes_eq word (codes "CREDIT") then Some form.Credit
    else if bytes_eq word (codes "DROP") then Some form.Drop
    else None

-- what the fields of a form say: a void names a reader's tap, and a drop a staff's correction
abbrev pub what_for : Form → List (List ℕ) → Option SpelledWhat
what_for form.Void fields = do
  named ← named_of MOST_READER fields
  Some (spelled.Void named.0 named.1)
what_for form.Fill fields = fill_of fields
what_for form.Credit fields = do
  credit ← credit_of fields
  Some (spelled.Credit credit)
what_for form.Drop fields = do
  named ← named_of MOST_STAFF fields
  Some (spelled.Drop named.0 named.1)

-- the first word says the form, and the others are its fields
abbrev pub what_of : List (List ℕ) → Option SpelledWhat
what_of fields = do
  form ← field form_of_word fields
  what_for form.0 form.1

-- the fields of a correction, each in its range, and what it does to the end of the line
unfoldable pub fix_of : List (List ℕ) → Option SpelledFix
fix_of fields = do
  staff ← field (number_within 1 MOST_STAFF) fields
  seq ← field (number_within 0 MOST_SEQ) staff.1
  account ← field (number_within 1 MOST_ACCOUNT) seq.1
  what ← what_of account.1
  Some (record { staff = staff.0; seq = seq.0; account = account.0; what = what })

-- an account and a service day, each in its range, and no word after them
unfoldable pub account_day_of : List (List ℕ) → Option (ℕ × ℕ)
account_day_of fields = do
  account ← field (number_within 1 MOST_ACCOUNT) fields
  day ← field (number_within FIRST_DAY LAST_DAY) account.1
  if has_none day.1 then Some (account.0, day.0) else None

-- a service day in its range, and no word after it
unfoldable pub day_of : List (List ℕ) → Option ℕ
day_of fields = do
  day ← field (number_within FIRST_DAY LAST_DAY) fields
  if has_none day.1 then Some day.0 else None

-- the first word of a command
abbrev pub keyword_of : List ℕ → Option Keyword
keyword_of name =
    if bytes_eq name (codes "TAP") then Some keyword.Tap
    else if bytes_eq name (codes "FIX") then Some keyword.Fix
    else if bytes_eq name (codes "DUE") then Some keyword.Due
    else if bytes_eq name (codes "SHOW") then Some keyword.Show
    else if bytes_eq name (codes "CLOSE") then Some keyword.Close
    else if bytes_eq name (codes "QUIT") then Some keyword.Quit
    else None

-- the command of a keyword and the words after it
abbrev pub command_for : Keyword → List (List ℕ) → Option SpelledCommand
command_for keyword.Tap fields = do
  tap ← tap_of fields
  Some (Tap tap)
command_for keyword.Fix fields = do
  fix ← fix_of fields
  Some (Fix fix)
command_for keyword.Due fields = do
  asked ← account_day_of fields
  Some (Due asked.0 asked.1)
command_for keyword.Show fields = do
  asked ← account_day_of fields
  Some (Show asked.0 asked.1)
command_for keyword.Close fields = do
  day ← day_of fields
  Some (Close day)
command_for keyword.Quit fields = if has_none fields then Some Quit else None

-- the first word says the command, and the others are its fields
abbrev pub command_of_words : List (List ℕ) → Option SpelledCommand
command_of_words [] = None
command_of_words (name ∷ fields) = do
  keyword ← keyword_of name
  command_for keyword fields

-- the command that a line spells
abbrev pub command_of : List ℕ → Option SpelledCommand
command_of line = command_of_words (words line)

tap_on_a_bus : command_of (codes "TAP 1 1 7 1704697200 50 BUS") ≡ Some (Tap (record { reader = 1; seq = 1; account = 7; utc = 1_704_697_200; place = 50; kind = Bus }))
unfolding tap_of
tap_on_a_bus = refl

tap_at_a_station : command_of (codes "TAP 1 1 7 1704697200 10 IN") ≡ Some (Tap (record { reader = 1; seq = 1; account = 7; utc = 1_704_697_200; place = 10; kind = In }))
unfolding tap_of
tap_at_a_station = refl

greatest_tap : command_of (codes "TAP 65535 4294967295 4294967295 4294967295 65535 OUT") ≡ Some (Tap (record { reader = 65_535; seq = 4_294_967_295; account = 4_294_967_295; utc = 4_294_967_295; place = 65_535; kind = Out }))
unfolding tap_of
greatest_tap = refl

tap_with_a_leading_zero : command_of (codes "TAP 01 1 7 1704697200 50 BUS") ≡ None
unfolding tap_of
tap_with_a_leading_zero = refl

tap_with_two_spaces : command_of (codes "TAP 1  1 7 1704697200 50 BUS") ≡ None
unfolding tap_of
tap_with_two_spaces = refl

tap_with_a_carriage_return : command_of (codes "TAP 1 1 7 1704697200 50 BUS" ++ 13 ∷ []) ≡ None
unfolding tap_of
tap_with_a_carriage_return = refl

tap_of_account_0 : command_of (codes "TAP 1 1 0 1704697200 50 BUS") ≡ None
unfolding tap_of
tap_of_account_0 = refl

tap_of_reader_65_536 : command_of (codes "TAP 65536 1 7 1704697200 50 BUS") ≡ None
unfolding tap_of
tap_of_reader_65_536 = refl

tap_of_a_seq_too_large : command_of (codes "TAP 1 4294967296 7 1704697200 50 BUS") ≡ None
unfolding tap_of
tap_of_a_seq_too_large = refl

tap_in_small_letters : command_of (codes "tap 1 1 7 1704697200 50 BUS") ≡ None
tap_in_small_letters = refl

tap_cut : command_of (codes "TAP 1 1 7 17046972") ≡ None
unfolding tap_of
tap_cut = refl

fix_void : command_of (codes "FIX 3 1 7 VOID 1 2") ≡ Some (Fix (record { staff = 3; seq = 1; account = 7; what = spelled.Void 1 2 }))
unfolding fix_of named_of
fix_void = refl

greatest_void : command_of (codes "FIX 65535 4294967295 4294967295 VOID 65535 4294967295") ≡ Some (Fix (record { staff = 65_535; seq = 4_294_967_295; account = 4_294_967_295; what = spelled.Void 65_535 4_294_967_295 }))
unfolding fix_of named_of
greatest_void = refl

fix_fill : command_of (codes "FIX 3 1 7 FILL 1704697200 50 BUS") ≡ Some (Fix (record { staff = 3; seq = 1; account = 7; what = spelled.Fill 1_704_697_200 50 Bus }))
unfolding fix_of fill_of
fix_fill = refl

greatest_fill : command_of (codes "FIX 65535 4294967295 4294967295 FILL 4294967295 65535 OUT") ≡ Some (Fix (record { staff = 65_535; seq = 4_294_967_295; account = 4_294_967_295; what = spelled.Fill 4_294_967_295 65_535 Out }))
unfolding fix_of fill_of
greatest_fill = refl

fix_credit : command_of (codes "FIX 3 1 7 CREDIT 19730 175") ≡ Some (Fix (record { staff = 3; seq = 1; account = 7; what = spelled.Credit (record { day = 19_730; pence = 175 }) }))
unfolding fix_of credit_of
fix_credit = refl

least_credit : command_of (codes "FIX 1 0 1 CREDIT 4 1") ≡ Some (Fix (record { staff = 1; seq = 0; account = 1; what = spelled.Credit (record { day = 4; pence = 1 }) }))
unfolding fix_of credit_of
least_credit = refl

greatest_credit : command_of (codes "FIX 65535 4294967295 4294967295 CREDIT 50000 100000") ≡ Some (Fix (record { staff = 65_535; seq = 4_294_967_295; account = 4_294_967_295; what = spelled.Credit (record { day = 50_000; pence = 100_000 }) }))
unfolding fix_of credit_of
greatest_credit = refl

fix_drop : command_of (codes "FIX 3 2 7 DROP 3 1") ≡ Some (Fix (record { staff = 3; seq = 2; account = 7; what = spelled.Drop 3 1 }))
unfolding fix_of named_of
fix_drop = refl

greatest_drop : command_of (codes "FIX 65535 4294967295 4294967295 DROP 65535 4294967295") ≡ Some (Fix (record { staff = 65_535; seq = 4_294_967_295; account = 4_294_967_295; what = spelled.Drop 65_535 4_294_967_295 }))
unfolding fix_of named_of
greatest_drop = refl

fix_of_staff_0 : command_of (codes "FIX 0 1 7 DROP 3 1") ≡ None
unfolding fix_of
fix_of_staff_0 = refl

fix_of_staff_65_536 : command_of (codes "FIX 65536 1 7 DROP 3 1") ≡ None
unfolding fix_of
fix_of_staff_65_536 = refl

fix_of_a_seq_too_large : command_of (codes "FIX 3 4294967296 7 DROP 3 1") ≡ None
unfolding fix_of
fix_of_a_seq_too_large = refl

fix_of_account_0 : command_of (codes "FIX 3 1 0 DROP 3 1") ≡ None
unfolding fix_of
fix_of_account_0 = refl

fix_with_a_leading_zero : command_of (codes "FIX 3 01 7 DROP 3 1") ≡ None
unfolding fix_of
fix_with_a_leading_zero = refl

fix_of_an_unknown_form : command_of (codes "FIX 3 1 7 MOVE 3 1") ≡ None
unfolding fix_of
fix_of_an_unknown_form = refl

form_in_small_letters : command_of (codes "FIX 3 1 7 void 1 2") ≡ None
unfolding fix_of
form_in_small_letters = refl

fix_in_small_letters : command_of (codes "fix 3 1 7 VOID 1 2") ≡ None
fix_in_small_letters = refl

fix_without_a_form : command_of (codes "FIX 3 1 7") ≡ None
unfolding fix_of
fix_without_a_form = refl

fix_alone : command_of (codes "FIX") ≡ None
unfolding fix_of
fix_alone = refl

void_of_reader_0 : command_of (codes "FIX 3 1 7 VOID 0 2") ≡ None
unfolding fix_of named_of
void_of_reader_0 = refl

void_of_reader_65_536 : command_of (codes "FIX 3 1 7 VOID 65536 2") ≡ None
unfolding fix_of named_of
void_of_reader_65_536 = refl

void_with_a_leading_zero : command_of (codes "FIX 3 1 7 VOID 1 02") ≡ None
unfolding fix_of named_of
void_with_a_leading_zero = refl

void_without_a_seq : command_of (codes "FIX 3 1 7 VOID 1") ≡ None
unfolding fix_of named_of
void_without_a_seq = refl

void_with_a_further_word : command_of (codes "FIX 3 1 7 VOID 1 2 3") ≡ None
unfolding fix_of named_of
void_with_a_further_word = refl

fill_of_place_0 : command_of (codes "FIX 3 1 7 FILL 1704697200 0 BUS") ≡ None
unfolding fix_of fill_of
fill_of_place_0 = refl

fill_of_place_65_536 : command_of (codes "FIX 3 1 7 FILL 1704697200 65536 BUS") ≡ None
unfolding fix_of fill_of
fill_of_place_65_536 = refl

fill_of_another_kind : command_of (codes "FIX 3 1 7 FILL 1704697200 50 TRAM") ≡ None
unfolding fix_of fill_of
fill_of_another_kind = refl

fill_without_a_kind : command_of (codes "FIX 3 1 7 FILL 1704697200 50") ≡ None
unfolding fix_of fill_of
fill_without_a_kind = refl

fill_with_a_further_word : command_of (codes "FIX 3 1 7 FILL 1704697200 50 BUS 1") ≡ None
unfolding fix_of fill_of
fill_with_a_further_word = refl

credit_of_day_3 : command_of (codes "FIX 3 1 7 CREDIT 3 175") ≡ None
unfolding fix_of credit_of
credit_of_day_3 = refl

credit_of_day_50_001 : command_of (codes "FIX 3 1 7 CREDIT 50001 175") ≡ None
unfolding fix_of credit_of
credit_of_day_50_001 = refl

credit_of_no_pence : command_of (codes "FIX 3 1 7 CREDIT 19730 0") ≡ None
unfolding fix_of credit_of
credit_of_no_pence = refl

credit_of_100_001_pence : command_of (codes "FIX 3 1 7 CREDIT 19730 100001") ≡ None
unfolding fix_of credit_of
credit_of_100_001_pence = refl

credit_without_pence : command_of (codes "FIX 3 1 7 CREDIT 19730") ≡ None
unfolding fix_of credit_of
credit_without_pence = refl

credit_with_a_further_word : command_of (codes "FIX 3 1 7 CREDIT 19730 175 1") ≡ None
unfolding fix_of credit_of
credit_with_a_further_word = refl

drop_of_staff_0 : command_of (codes "FIX 3 2 7 DROP 0 1") ≡ None
unfolding fix_of named_of
drop_of_staff_0 = refl

drop_of_staff_65_536 : command_of (codes "FIX 3 2 7 DROP 65536 1") ≡ None
unfolding fix_of named_of
drop_of_staff_65_536 = refl

drop_without_a_seq : command_of (codes "FIX 3 2 7 DROP 3") ≡ None
unfolding fix_of named_of
drop_without_a_seq = refl

drop_with_two_spaces : command_of (codes "FIX 3 2 7 DROP  3 1") ≡ None
unfolding fix_of named_of
drop_with_two_spaces = refl

show_of_a_day : command_of (codes "SHOW 7 19730") ≡ Some (Show 7 19_730)
unfolding account_day_of
show_of_a_day = refl

show_of_the_last_day : command_of (codes "SHOW 4294967295 50000") ≡ Some (Show 4_294_967_295 50_000)
unfolding account_day_of
show_of_the_last_day = refl

show_of_day_3 : command_of (codes "SHOW 7 3") ≡ None
unfolding account_day_of
show_of_day_3 = refl

show_of_day_50_001 : command_of (codes "SHOW 7 50001") ≡ None
unfolding account_day_of
show_of_day_50_001 = refl

show_of_account_0 : command_of (codes "SHOW 0 19730") ≡ None
unfolding account_day_of
show_of_account_0 = refl

show_with_a_leading_zero : command_of (codes "SHOW 7 019730") ≡ None
unfolding account_day_of
show_with_a_leading_zero = refl

show_without_a_day : command_of (codes "SHOW 7") ≡ None
unfolding account_day_of
show_without_a_day = refl

show_with_a_further_word : command_of (codes "SHOW 7 19730 1") ≡ None
unfolding account_day_of
show_with_a_further_word = refl

due_of_a_day : command_of (codes "DUE 7 19730") ≡ Some (Due 7 19_730)
unfolding account_day_of
due_of_a_day = refl

due_of_the_first_day : command_of (codes "DUE 1 4") ≡ Some (Due 1 4)
unfolding account_day_of
due_of_the_first_day = refl

due_of_the_last_day : command_of (codes "DUE 4294967295 50000") ≡ Some (Due 4_294_967_295 50_000)
unfolding account_day_of
due_of_the_last_day = refl

due_of_day_3 : command_of (codes "DUE 7 3") ≡ None
unfolding account_day_of
due_of_day_3 = refl

due_of_day_50_001 : command_of (codes "DUE 7 50001") ≡ None
unfolding account_day_of
due_of_day_50_001 = refl

due_of_account_0 : command_of (codes "DUE 0 19730") ≡ None
unfolding account_day_of
due_of_account_0 = refl

due_without_a_day : command_of (codes "DUE 7") ≡ None
unfolding account_day_of
due_without_a_day = refl

due_with_a_further_word : command_of (codes "DUE 7 19730 1") ≡ None
unfolding account_day_of
due_with_a_further_word = refl

due_in_small_letters : command_of (codes "due 7 19730") ≡ None
due_in_small_letters = refl

close_of_a_day : command_of (codes "CLOSE 19730") ≡ Some (Close 19_730)
unfolding day_of
close_of_a_day = refl

close_of_the_first_day : command_of (codes "CLOSE 4") ≡ Some (Close 4)
unfolding day_of
close_of_the_first_day = refl

close_of_the_last_day : command_of (codes "CLOSE 50000") ≡ Some (Close 50_000)
unfolding day_of
close_of_the_last_day = refl

close_of_day_3 : command_of (codes "CLOSE 3") ≡ None
unfolding day_of
close_of_day_3 = refl

close_of_day_50_001 : command_of (codes "CLOSE 50001") ≡ None
unfolding day_of
close_of_day_50_001 = refl

close_alone : command_of (codes "CLOSE") ≡ None
unfolding day_of
close_alone = refl

close_with_a_leading_zero : command_of (codes "CLOSE 019730") ≡ None
unfolding day_of
close_with_a_leading_zero = refl

close_with_a_further_word : command_of (codes "CLOSE 19730 1") ≡ None
unfolding day_of
close_with_a_further_word = refl

close_in_small_letters : command_of (codes "close 19730") ≡ None
close_in_small_letters = refl

quit : command_of (codes "QUIT") ≡ Some Quit
quit = refl

quit_with_a_space : command_of (codes "QUIT ") ≡ None
quit_with_a_space = refl

quit_with_more : command_of (codes "QUITE") ≡ None
quit_with_more = refl

empty_line : command_of [] ≡ None
empty_line = refl

fix_and_a_letter : command_of (codes "FIXX") ≡ None
fix_and_a_letter = refl

space_before_the_keyword : command_of (codes " QUIT") ≡ None
space_before_the_keyword = refl

-- What the bytes of a journal give back. The laws of lines are taken as premises.
use Rattle.std.proofs.Common.{◌≡◌, ℕ, ◌-◌, ◌≤◌, Bool, true, false, cond, List, [], ◌∷◌, ◌++◌, map, length, take, codes, if◌then◌else◌, refl, sym, ap, ◌∙◌, subst, append_assoc, append-nil, length-append, arith, Option, Some, None}
use Rattle.std.specs.Prelude.{nat_lt}
use Rattle.std.specs.List.{AllByRecursion, flat_map}
use Rattle.std.proofs.Math.Seq.{take-append_seam}
use Rattle.std.proofs.lemmas.Grind.{flat_map-append}
use Rattle.std.proofs.lemmas.List.{map-append, take-map, length-map}
use Rattle.pay_journal.specs.Words.{KeptParts, IsCutTo}
use Rattle.pay_postings.specs.Words.{LedgerParts}
use Rattle.sqlite.specs.State.{State}
use Rattle.pay_wire.specs.Spellings.{IsSpelled, spelling_of_command, Spells}
use Rattle.pay_wire.specs.Words.{command_of}
use Rattle.pay_wire.specs.declared.command.SpelledCommand.{SpelledCommand}
use Rattle.pay_wire.specs.declared.limits.TheConstants.{MOST_LINE_BYTES}
use Rattle.pay_session.specs.Asks.{asks_of}
use Rattle.pay_journal_laws.specs.CommandLines.{lines_of, LinesAreReadBack, CutLinesAreRead, HasWholeLines as HasWhole}
use Rattle.pay_session.specs.Requests.{InputLine, input_lines, rest_of, has_newline, asked, request_of, request_of_rest, is_quit, through_quit, IsAsked, line_requests, requests_of, HasOneCutting}
use Rattle.pay_session.specs.declared.request.Request.{Request}
use Rattle.pay_session.specs.declared.request.Request.TheVariants as requests
use Rattle.pay_run.specs.Journals.{is_new, new_requests, cut_after, GivesBack}
use Rattle.pay_journal_laws.specs.KeptBytes.{BytesGiveBack, AreAllAsked, HoldsMachine, IsCutRun, LinesAskInRange, FrontsAskInRange, KeptBytesGiveBack, WholeBytesGiveBack, CutBytesGiveBack, EndedIsHeld, StoppedReadingIsHeld, StoppedWritingIsHeld}
use Rattle.pay_run.specs.KeptLines.{lines_of_requests, KeepsNew}
use Rattle.pay_run.specs.Laws.{KeptGivesBack, CutLeavesFront, ZoneStays, EditionsStay}
use Rattle.pay_run.specs.LineRuns.{ComesTo, beside_with}
use Rattle.pay_run.specs.Machine.{Machine, Failure, step}
use Rattle.pay_run.specs.Outcomes.{Outcome, outcome}
use Rattle.pay_run.specs.Past.{whole_bytes}

-- ---- the lines of one text after another

-- a text with its newline
abbrev ended : List ℕ → List ℕ
ended t = t ++ codes "\n"

-- what the lines of an input say
abbrev texts_of : List ℕ → List (List ℕ)
texts_of input = map (λ (l : InputLine). l.text) (input_lines input)

said_by : (ls : List InputLine) → map (λ (l : InputLine). request_of l.text) ls ≡ map request_of (map (λ (l : InputLine). l.text) ls)
said_by [] = refl
said_by (l ∷ ls) = ap (λ rs. request_of l.text ∷ rs) (said_by ls)

whole_of : (ls : List InputLine) → flat_map (λ (l : InputLine). l.text ++ codes "\n") ls ≡ flat_map ended (map (λ (l : InputLine). l.text) ls)
whole_of [] = refl
whole_of (l ∷ ls) = ap (λ r. (l.text ++ codes "\n") ++ r) (whole_of ls)

no_newlines : (ls : List InputLine) → AllByRecursion (λ (l : InputLine). has_newline l.text ≡ false) ls → AllByRecursion (λ (t : List ℕ). has_newline t ≡ false) (map (λ (l : InputLine). l.text) ls)
no_newlines [] all = tt
no_newlines (l ∷ ls) all = (all.0, no_newlines ls all.1)

both_lines : (xs ys : List (List ℕ)) → AllByRecursion (λ (t : List ℕ). has_newline t ≡ false) xs → AllByRecursion (λ (t : List ℕ). has_newline t ≡ false) ys → AllByRecursion (λ (t : List ℕ). has_newline t ≡ false) (xs ++ ys)
both_lines [] ys f g = g
both_lines (x ∷ xs) ys f g = (f.0, both_lines xs ys f.1 g)

-- what stands before a text's rest is as long as all but that
front_of : (front rest text : List ℕ) → front ++ rest ≡ text → take (length text - length rest) text ≡ front
front_of front rest text is =
    let size : length text - length rest ≡ length front = omega (arith, ap length (sym is), length-append front rest) in
    ap (λ n. take n text) size ∙ ap (take (length front)) (sym is) ∙ take-append_seam front rest

-- an input is cut at its newlines, in one way
pub record IsCutAtNewlines : Type 0 where
  pub whole : (input : List ℕ) → flat_map (λ (l : InputLine). l.text ++ codes "\n") (input_lines input) ++ rest_of input ≡ input
  pub lines : (input : List ℕ) → AllByRecursion (λ (l : InputLine). has_newline l.text ≡ false) (input_lines input)
  pub rest : (input : List ℕ) → has_newline (rest_of input) ≡ false
  pub only : HasOneCutting

module _ (is_cut : IsCutAtNewlines) where
  -- lines and a rest that make up a text are what is read of it
  read_of : (texts : List (List ℕ)) (rest : List ℕ) → AllByRecursion (λ (t : List ℕ). has_newline t ≡ false) texts → has_newline rest ≡ false
      → (line_requests (flat_map ended texts ++ rest) ≡ map request_of texts) × (rest_of (flat_map ended texts ++ rest) ≡ rest)
  read_of texts rest all none =
      let made = flat_map ended texts ++ rest in
      let one = is_cut.only made rest texts all none refl in
      (said_by (input_lines made) ∙ ap (map request_of) one.0, one.1)

  lines_in : (input : List ℕ) → AllByRecursion (λ (t : List ℕ). has_newline t ≡ false) (texts_of input)
  lines_in input = no_newlines (input_lines input) (is_cut.lines input)

  made_of : (input : List ℕ) → flat_map ended (texts_of input) ++ rest_of input ≡ input
  made_of input = ap (λ l. l ++ rest_of input) (sym (whole_of (input_lines input))) ∙ is_cut.whole input

  -- after whole lines
  beyond : (held more : List ℕ) → rest_of held ≡ [] → (line_requests (held ++ more) ≡ line_requests held ++ line_requests more) × (rest_of (held ++ more) ≡ rest_of more)
  beyond held more none =
      let first = flat_map ended (texts_of held) in
      let second = flat_map ended (texts_of more) in
      let is_held : first ≡ held = sym (append-nil first) ∙ ap (λ r. first ++ r) (sym none) ∙ made_of held in
      let is : flat_map ended (texts_of held ++ texts_of more) ++ rest_of more ≡ held ++ more =
      ap (λ l. l ++ rest_of more) (flat_map-append ended (texts_of held) (texts_of more)) ∙ append_assoc first second (rest_of more)
      ∙ ap (λ l. l ++ (second ++ rest_of more)) is_held ∙ ap (λ l. held ++ l) (made_of more) in
      let read = read_of (texts_of held ++ texts_of more) (rest_of more) (both_lines (texts_of held) (texts_of more) (lines_in held) (lines_in more)) (is_cut.rest more) in (
        ap line_requests (sym is) ∙ read.0 ∙ map-append request_of (texts_of held) (texts_of more)
            ∙ ap (λ rs. rs ++ map request_of (texts_of more)) (sym (said_by (input_lines held))) ∙ ap (λ rs. line_requests held ++ rs) (sym (said_by (input_lines more))),
        ap rest_of (sym is) ∙ read.1,
      )

  -- what no newline ends is no line
  no_line : (rest : List ℕ) → has_newline rest ≡ false → (line_requests rest ≡ []) × (rest_of rest ≡ rest)
  no_line rest none = read_of [] rest tt none

  -- the whole lines of a text
  whole_lines : (past : List ℕ) → (line_requests (take (whole_bytes past) past) ≡ line_requests past) × (rest_of (take (whole_bytes past) past) ≡ [])
  whole_lines past =
      let front = flat_map ended (texts_of past) in
      let is : take (whole_bytes past) past ≡ front ++ [] = front_of front (rest_of past) past (made_of past) ∙ sym (append-nil front) in
      let read = read_of (texts_of past) [] (lines_in past) refl in
      (ap line_requests is ∙ read.0 ∙ sym (said_by (input_lines past)), ap rest_of is ∙ read.1)

-- ---- what is newly accepted is spelled by its lines

-- these requests are commands, each of which has a spelling
record AreCommands (rs : List Request) : Type 0 where
  commands : List SpelledCommand
  are : rs ≡ map requests.Command commands
  spelled : AllByRecursion IsSpelled commands

new_command : (mark : Option Failure) (m : Machine) (r : Request) → is_new (step mark m r).reply ≡ true → IsAsked r → (c : SpelledCommand) × (r ≡ requests.Command c) × IsSpelled c
unfolding step asks_of
new_command mark m (requests.Command c) new is = (c, refl, is)
new_command mark m requests.BadLine new is = absurd (cc)
new_command mark m requests.LongLine new is = absurd (cc)

with_command : (mark : Option Failure) (m : Machine) (r : Request) (later : List Request) → IsAsked r → AreCommands later → (b : Bool) → is_new (step mark m r).reply ≡ b
    → AreCommands (if b then r ∷ later else later)
with_command mark m r later is more true new =
    let its = new_command mark m r new is in
    record {
      commands = its.0 ∷ more.commands;
      are = ap (λ x. x ∷ later) its.1 ∙ ap (λ l. requests.Command its.0 ∷ l) more.are;
      spelled = (its.2, more.spelled);
    }
with_command mark m r later is more false new = more

new_commands : (marks : List (Option Failure)) (m : Machine) (list : List Request) → AreAllAsked list → AreCommands (new_requests marks m list)
new_commands [] m [] all = record { commands = []; are = refl; spelled = tt }
new_commands (mark ∷ marks) m [] all = record { commands = []; are = refl; spelled = tt }
new_commands [] m (r ∷ list) all =
    let next = (step None m r).after in
    with_command None m r (new_requests [] next list) all.0 (new_commands [] next list all.1) (is_new (step None m r).reply) refl
new_commands (mark ∷ marks) m (r ∷ list) all =
    let next = (step mark m r).after in
    with_command mark m r (new_requests marks next list) all.0 (new_commands marks next list all.1) (is_new (step mark m r).reply) refl

lines_of_commands : (cs : List SpelledCommand) → lines_of_requests (map requests.Command cs) ≡ lines_of cs
lines_of_commands [] = refl
lines_of_commands (c ∷ cs) = ap (λ l. (spelling_of_command c ++ codes "\n") ++ l) (lines_of_commands cs)

-- the lines of the first of them
first_lines : (rs : List Request) (of : AreCommands rs) (n : ℕ) → lines_of_requests (take n rs) ≡ lines_of (take n of.commands)
first_lines rs of n =
    ap (λ l. lines_of_requests (take n l)) of.are ∙ ap lines_of_requests (take-map requests.Command n of.commands) ∙ lines_of_commands (take n of.commands)

all_lines : (rs : List Request) (of : AreCommands rs) → lines_of_requests rs ≡ lines_of of.commands
all_lines rs of = ap lines_of_requests of.are ∙ lines_of_commands of.commands

-- ---- a machine after requests

module _ (is_cut : IsCutAtNewlines) (reads : LinesAreReadBack) (goes_on : KeptGivesBack) (zone_stays : ZoneStays) (tables_stay : EditionsStay) where
  -- its zone and its fare file stay
  own_terms : (m : Machine) (list : List Request) (marks : List (Option Failure)) (kept : List Request) → GivesBack m.zone m.editions kept (outcome marks m list).after
      → GivesBack (outcome marks m list).after.zone (outcome marks m list).after.editions kept (outcome marks m list).after
  own_terms m list marks kept gives =
      let after = (outcome marks m list).after in
      subst (λ t. GivesBack after.zone t kept after) (sym (tables_stay marks m list))
      (subst (λ z. GivesBack z m.editions kept after) (sym (zone_stays marks m list)) gives)

  -- lines after those that give a machine back, as they are read
  gives_after : (journal more : List ℕ) (m : Machine) (list : List Request) (marks : List (Option Failure)) → BytesGiveBack journal m → rest_of journal ≡ []
      → line_requests more ≡ new_requests marks m list → BytesGiveBack (journal ++ more) (outcome marks m list).after
  gives_after journal more m list marks gives whole read =
      let is : line_requests journal ++ new_requests marks m list ≡ line_requests (journal ++ more) =
      ap (λ rs. line_requests journal ++ rs) (sym read) ∙ sym (beyond is_cut journal more whole).0 in
      own_terms m list marks (line_requests (journal ++ more))
      (subst (λ rs. GivesBack m.zone m.editions rs (outcome marks m list).after) is (goes_on m.zone m.editions (line_requests journal) m list marks gives))

  -- what is newly accepted is read back from its lines, and what stands after them is no line
  new_read : (m : Machine) (list : List Request) (marks : List (Option Failure)) (rest : List ℕ) → AreAllAsked list → has_newline rest ≡ false
      → (line_requests (lines_of_requests (new_requests marks m list) ++ rest) ≡ new_requests marks m list) × (rest_of (lines_of_requests (new_requests marks m list) ++ rest) ≡ rest)
  new_read m list marks rest all none =
      let new = new_requests marks m list in
      let of = new_commands marks m list all in
      let lines = all_lines new of in
      let back = reads of.commands of.spelled in
      let read : line_requests (lines_of_requests new) ≡ new = ap line_requests lines ∙ back.0 ∙ sym of.are in
      let whole : rest_of (lines_of_requests new) ≡ [] = ap rest_of lines ∙ back.1 in
      let part = no_line is_cut rest none in
      let both = beyond is_cut (lines_of_requests new) rest whole in (
        both.0 ∙ ap (λ rs. line_requests (lines_of_requests new) ++ rs) part.0 ∙ append-nil (line_requests (lines_of_requests new)) ∙ read,
        both.1 ∙ part.1,
      )

  pub kept_bytes : KeptBytesGiveBack
  kept_bytes past None holds failed m list marks gives cut all kept none = absurd cut
  kept_bytes past (Some journal) None failed m list marks gives cut all kept none = absurd kept.bytes
  kept_bytes past (Some journal) (Some bytes) failed m list marks gives cut all kept none =
      let more = lines_of_requests (new_requests marks m list) ++ kept.rest in
      let lines = whole_lines is_cut past in
      let whole : rest_of journal ≡ [] = ap rest_of cut ∙ lines.1 in
      let same : line_requests past ≡ line_requests journal = sym (ap line_requests cut ∙ lines.0) in
      let given : BytesGiveBack journal m = subst (λ rs. GivesBack m.zone m.editions rs m) same gives in
      let read = new_read m list marks kept.rest all none in (
        bytes,
        refl,
        ap rest_of kept.bytes ∙ (beyond is_cut journal more whole).1 ∙ read.1,
        subst (λ b. BytesGiveBack b (outcome marks m list).after) (sym kept.bytes) (gives_after journal more m list marks given whole read.0),
      )

  pub whole_bytes_give : WholeBytesGiveBack
  whole_bytes_give past first holds m list marks gives cut all kept =
      let it = kept_bytes past first holds false m list marks gives cut all kept (ap has_newline kept.is_rest) in
      (it.0, it.1, it.2 ∙ kept.is_rest, it.3)

  -- those of which the whole lines are left
  cut_run : CutLeavesFront → (journal : List ℕ) (m : Machine) (list : List Request) (marks : List (Option Failure)) (bytes : ℕ) (of : AreCommands (new_requests marks m list)) (whole : ℕ)
      → HasWhole of.commands bytes whole → BytesGiveBack journal m → rest_of journal ≡ [] → IsCutRun journal m list marks bytes whole
  cut_run leaves journal m list marks bytes of whole cut gives none =
      let new = new_requests marks m list in
      let lines : lines_of_requests new ≡ lines_of of.commands = all_lines new of in
      let many : length of.commands ≡ length new = sym (ap length of.are ∙ length-map of.commands requests.Command) in
      let front : line_requests (take bytes (lines_of of.commands)) ≡ new_requests marks m (cut_after whole marks m list) =
      cut.read ∙ sym (take-map requests.Command whole of.commands) ∙ ap (take whole) (sym of.are) ∙ sym (leaves m list marks whole) in
      record {
        gives_back = subst (λ (l : List ℕ). BytesGiveBack (journal ++ take bytes l) (outcome marks m (cut_after whole marks m list)).after) (sym lines)
            (gives_after journal (take bytes (lines_of of.commands)) m (cut_after whole marks m list) marks gives none front);
        some = subst (λ n. whole ≤ n) many cut.some;
        within = subst (λ (l : List ℕ). length l ≤ bytes) (sym (first_lines new of whole)) cut.within;
        most = λ n few fits. cut.most n (subst (λ k. n ≤ k) (sym many) few) (subst (λ (l : List ℕ). length l ≤ bytes) (first_lines new of n) fits);
      }

  pub cut_bytes : CutLinesAreRead → CutLeavesFront → CutBytesGiveBack
  cut_bytes cuts leaves journal m list marks bytes gives none all =
      let of = new_commands marks m list all in
      let cut = cuts of.commands of.spelled bytes in
      (cut.0, cut_run leaves journal m list marks bytes of cut.0 cut.1 gives none)

-- ---- what lines ask for is in its ranges

-- what is read of a line is what the line spells
abbrev pub AreReadAsSpelled : Type 0
AreReadAsSpelled = (line : List ℕ) (command : SpelledCommand) → command_of line ≡ Some command → Spells line command

line_asked : AreReadAsSpelled → (line : List ℕ) → IsAsked (request_of line)
unfolding request_of
line_asked spelled line = by_command (nat_lt MOST_LINE_BYTES (length line)) (command_of line) refl
  where
    by_command : (b : Bool) (o : Option SpelledCommand) → command_of line ≡ o → IsAsked (cond b requests.LongLine (asked o))
    by_command true o is = tt
    by_command false None is = tt
    by_command false (Some c) is = (spelled line c is).0

lines_asked : AreReadAsSpelled → (ls : List InputLine) → AreAllAsked (map (λ (l : InputLine). request_of l.text) ls)
lines_asked spelled [] = tt
lines_asked spelled (l ∷ ls) = (line_asked spelled l.text, lines_asked spelled ls)

-- what no newline ends asks for nothing
rest_asked : (rest : List ℕ) → AreAllAsked (request_of_rest rest)
rest_asked [] = tt
rest_asked (b ∷ bs) = (by_length (nat_lt MOST_LINE_BYTES (length (b ∷ bs))), tt)
  where
    by_length : (long : Bool) → IsAsked (if long then requests.LongLine else requests.BadLine)
    by_length true = tt
    by_length false = tt

both_asked : (list others : List Request) → AreAllAsked list → AreAllAsked others → AreAllAsked (list ++ others)
both_asked [] others f g = g
both_asked (r ∷ list) others f g = (f.0, both_asked list others f.1 g)

through_asked : (list : List Request) → AreAllAsked list → AreAllAsked (through_quit list)
through_asked [] all = tt
through_asked (r ∷ list) all = by_quit (is_quit r) (through_asked list all.1)
  where
    by_quit : (b : Bool) → AreAllAsked (through_quit list) → AreAllAsked (if b then r ∷ [] else r ∷ through_quit list)
    by_quit true later = (all.0, tt)
    by_quit false later = (all.0, later)

pub ask_in_range : AreReadAsSpelled → LinesAskInRange
ask_in_range spelled input =
    let lines = lines_asked spelled (input_lines input) in
    (lines, through_asked (line_requests input ++ request_of_rest (rest_of input)) (both_asked (line_requests input) (request_of_rest (rest_of input)) lines (rest_asked (rest_of input))))

pub fronts_asked : FrontsAskInRange
fronts_asked [] others all = tt
fronts_asked (r ∷ list) others all = (all.0, fronts_asked list others all.1)

-- ---- a run

module _ (asked : LinesAskInRange) (whole : WholeBytesGiveBack) {L : Type 0} (Has : L → Option LedgerParts → Type 0) (Fails : Type 0) where
  machine_held : (past : List ℕ) (first : Option (List ℕ)) (desk : KeptParts) (ledger : L) (m : Machine) (list : List Request) (came : Outcome) → BytesGiveBack past m
      → IsCutTo (whole_bytes past) (Some past) first → desk.stuck ≡ false → AreAllAsked list → ComesTo m list (beside_with Fails first desk (Has ledger)) came → HoldsMachine desk.holds came.after
  machine_held past first desk ledger m list came gives cut kept all comes =
      subst (λ (o : Outcome). HoldsMachine desk.holds o.after) (sym comes.run)
      (whole past first desk.holds m list comes.marks gives cut all (subst (λ b. KeepsNew first desk.holds b (new_requests comes.marks m list)) kept comes.kept))

  pub ended_held : EndedIsHeld Has Fails
  ended_held past m first desk ledger input streams done gives cut kept ends = machine_held past first desk ledger m (requests_of input) ends.came gives cut kept (asked input).1 ends.comes

  pub reading_held : StoppedReadingIsHeld Has Fails
  reading_held past m first desk ledger input streams answered gives cut kept stops =
      machine_held past first desk ledger m (line_requests stops.front) stops.came gives cut kept (asked stops.front).0 stops.comes

  pub writing_held : FrontsAskInRange → StoppedWritingIsHeld Has Fails
  writing_held fronts past m first desk ledger input streams answered gives cut kept stops =
      machine_held past first desk ledger m stops.done stops.came gives cut kept (fronts stops.done stops.others (subst AreAllAsked stops.requests (asked input).1)) stops.comes

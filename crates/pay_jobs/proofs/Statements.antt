-- How the job statement ends where there is no page, and how where there is one, by how it was written.
use Rattle.std.proofs.Common.{◌≡◌, ◌∙◌, inl, inr, ℕ, List, [], Option, None, Result, Ok, Err, OnOk, OnErr, IfErr, refl, sym, subst, ap}
use Rattle.std.proofs.lemmas.Option.{IfSome_then}
use Rattle.std.specs.Io.KnownBytes.{Appends}
use Rattle.jiff.specs.Placed.{IsPosixZone}
use Rattle.jiff.specs.ZoneView.{plain_zone}
use Rattle.jiff.specs.declared.tz.timezone.TimeZone.{TimeZone}
use Rattle.pay_fare_file.specs.Words.{fare_text}
use Rattle.pay_rules.specs.declared.shown.Line.{Line}
use Rattle.pay_session.specs.Words.{line_requests}
use Rattle.pay_statement.specs.Words.{statement_text}
use Rattle.pay_tables.specs.Words.{FareEditions}
use Rattle.pay_wire.specs.Words.{AppendsFront}
use Rattle.pay_jobs.specs.Faults.{IsWantOfMemory, IsWeekFault}
use Rattle.pay_run.specs.Words.{Machine, new_machine, outcome, AreAllPriced, ZoneStays, EditionsStay, LedgerStays, machine_past, IsPastAccepted, WeekTold, WeekNotTold}
use Rattle.pay_jobs.specs.Texts.{Texts}
use Rattle.pay_jobs.specs.Run.{Begins, Resumes}
use Rattle.pay_jobs.specs.Statement.{WeekBreaks, PageFails, IsPage, StatementWritten, StatementRefused}
use Rattle.pay_jobs.specs.declared.fault.Fault.{Fault}
use Rattle.pay_jobs.specs.declared.fault.Fault.TheVariants.{Usage, File, BadZone, CannotListen, Input, Output, Kept, JournalLine, JournalLineOf, Journal, LedgerAlone, Lacks, PostedOtherwise, Refused}
use Rattle.pay_run.specs.declared.week.WeekFault.{WeekFault}
use Rattle.pay_run.specs.declared.week.WeekFault.TheVariants.{Broken, NotAccepted, Memory}

pub not_told : (of : WeekFault) (fault : Fault) (texts : Texts) (reader : Option (List ℕ) × Option (List ℕ)) → IsWeekFault of fault → WeekBreaks of texts reader → PageFails fault texts reader
not_told (Broken answered) fault texts reader is breaks = subst (λ f. PageFails f texts reader) (sym is) (answered, breaks)
not_told (NotAccepted line why) fault texts reader is breaks = subst (λ f. PageFails f texts reader) (sym is) breaks
not_told Memory (Refused number name) texts reader is breaks = inr (is, breaks)
not_told Memory Usage texts reader is breaks = absurd is
not_told Memory (File why) texts reader is breaks = absurd is
not_told Memory BadZone texts reader is breaks = absurd is
not_told Memory CannotListen texts reader is breaks = absurd is
not_told Memory Input texts reader is breaks = absurd is
not_told Memory Output texts reader is breaks = absurd is
not_told Memory (Kept why) texts reader is breaks = absurd is
not_told Memory (JournalLine line why) texts reader is breaks = absurd is
not_told Memory (JournalLineOf journal line why) texts reader is breaks = absurd is
not_told Memory Journal texts reader is breaks = absurd is
not_told Memory LedgerAlone texts reader is breaks = absurd is
not_told Memory (Lacks what) texts reader is breaks = absurd is
not_told Memory (PostedOtherwise account week through) texts reader is breaks = absurd is

-- the texts by which a page is made: a fare file and a zone that are read
module _ (texts : Texts) (zone : TimeZone) (editions : FareEditions) (says : fare_text texts.fares ≡ Ok editions) (rule : IsPosixZone texts.zone (plain_zone zone)) (reader : Option (List ℕ) × Option (List ℕ)) where
  begins : Begins texts.fares texts.zone None (new_machine zone editions None)
  begins = record { says = says; rule = rule; new = refl; posted = refl }

  pub week_not_told : (of : WeekFault) (fault : Fault) → IsWeekFault of fault → WeekNotTold zone editions texts.past reader of → PageFails fault texts reader
  week_not_told of fault is fails = not_told of fault texts reader is record { machine = new_machine zone editions None; begins = begins; fails = fails }

  -- the week was told, and memory for its text was refused
  pub not_spelled : (fault : Fault) (of : ℕ × ℕ) (lines : List Line) → IsWantOfMemory fault → WeekTold zone editions texts.past reader of lines → PageFails fault texts reader
  not_spelled fault of lines is tells = week_not_told Memory fault is (inr (IfSome_then reader.0 tells.1 (λ input t. inl t.unread)))

  -- the machine that the journal gives back
  abbrev past : Machine
  past = machine_past zone editions texts.past

  in_zone : ZoneStays → past.zone ≡ zone
  in_zone stays = stays [] (new_machine zone editions None) (line_requests texts.past)

  by_tables : EditionsStay → past.editions ≡ editions
  by_tables stay = stay [] (new_machine zone editions None) (line_requests texts.past)

  resumes : ZoneStays → EditionsStay → LedgerStays → IsPastAccepted zone editions texts.past → Resumes texts None past
  resumes zones fares ledgers accepted =
      let none : past.ledger ≡ None = ledgers (new_machine zone editions None) (line_requests texts.past) accepted in
      let as_new : new_machine past.zone past.editions past.ledger ≡ new_machine zone editions None = (λ i. new_machine (in_zone zones i) (by_tables fares i) (none i)) in
      record {
        says = says ∙ ap Ok (sym (by_tables fares));
        rule = subst (λ z. IsPosixZone texts.zone (plain_zone z)) (sym (in_zone zones)) rule;
        gives_back = record {
          accepted = subst (λ m. AreAllPriced (outcome [] m (line_requests texts.past)).replies) (sym as_new) accepted;
          machine = ap (λ m. (outcome [] m (line_requests texts.past)).after) as_new;
        };
        posted = none;
      }

  pub page_stands : (zones : ZoneStays) (fares : EditionsStay) (ledgers : LedgerStays) (of : ℕ × ℕ) (lines : List Line) (text : List ℕ) → WeekTold zone editions texts.past reader of lines → text ≡ statement_text editions lines → IsPage texts of reader text
  page_stands zones fares ledgers of lines text tells is = record {
    machine = past;
    resumes = resumes zones fares ledgers tells.0;
    lines = lines;
    tells = tells.1;
    says = is ∙ ap (λ t. statement_text t lines) (sym (by_tables fares));
  }

pub no_page : (fault : Fault) (texts : Texts) (of : ℕ × ℕ) (remaining left held : Option (List ℕ)) → PageFails fault texts (remaining, left) → StatementRefused texts of (remaining, held) (left, held) fault
no_page Output texts of remaining left held fails = absurd fails
no_page (Refused number name) texts of remaining left held fails = (fails, refl)
no_page Usage texts of remaining left held fails = (fails, refl)
no_page (File why) texts of remaining left held fails = (fails, refl)
no_page BadZone texts of remaining left held fails = (fails, refl)
no_page CannotListen texts of remaining left held fails = (fails, refl)
no_page Input texts of remaining left held fails = (fails, refl)
no_page (Kept why) texts of remaining left held fails = (fails, refl)
no_page (JournalLine line why) texts of remaining left held fails = (fails, refl)
no_page (JournalLineOf journal line why) texts of remaining left held fails = (fails, refl)
no_page Journal texts of remaining left held fails = (fails, refl)
no_page LedgerAlone texts of remaining left held fails = (fails, refl)
no_page (Lacks what) texts of remaining left held fails = (fails, refl)
no_page (PostedOtherwise account week through) texts of remaining left held fails = (fails, refl)

pub page_written : {T E : Type 0} (r : Result T E) (texts : Texts) (of : ℕ × ℕ) (text : List ℕ) (remaining left held written : Option (List ℕ)) → IsPage texts of (remaining, left) text
    → OnOk r (Appends held written text) → OnOk r (StatementWritten texts of (remaining, held) (left, written))
page_written (Ok x) texts of text remaining left held written is h = (text, is, h)
page_written (Err e) texts of text remaining left held written is h = tt

pub page_broken : {T : Type 0} (r : Result T Fault) (texts : Texts) (of : ℕ × ℕ) (text : List ℕ) (remaining left held written : Option (List ℕ)) → IsPage texts of (remaining, left) text
    → OnErr r (AppendsFront held written text) → IfErr r (λ fault. fault ≡ Output) → IfErr r (StatementRefused texts of (remaining, held) (left, written))
page_broken (Ok x) texts of text remaining left held written is h e = tt
page_broken (Err fault) texts of text remaining left held written is h e = rw e (text, is, h)

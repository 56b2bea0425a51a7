-- The pages of what came of a correction, and of one that would be refused.
use Rattle.std.specs.Prelude.{◌≡◌, ◌&&◌, not, ℕ, Bool, nat_eq, if◌then◌else◌, List, [], ◌++◌, codes, decimal, refl}
use Rattle.std.specs.List.{starts_with}
use Rattle.pay_html.specs.Words.{escaped}
use Rattle.pay_page.specs.Words.{day_link, page_end, page_start}
use Rattle.pay_fix_page.specs.declared.back_forms.TakenBack.TheVariants as back
use Rattle.pay_fix_page.specs.declared.fix_lines.FixLine.{FixLine}
use Rattle.pay_fix_page.specs.declared.sent.Done.{Done}
use Rattle.pay_fix_page.specs.declared.sent.Outcome.{Outcome}
use Rattle.pay_fix_page.specs.declared.sent.Outcome.TheVariants.{Kept, KeptBefore, Unknown, Refused}
use Rattle.pay_fix_page.specs.BackForms.{back_form}
use Rattle.pay_fix_page.specs.FixLines.{fix_line}
use Rattle.pay_fix_page.specs.Previews.{back_link, preview_title}

-- what came of a correction, by how the reply to it begins: 52 is given where no reply came in time, and the correction may yet be kept,
-- as it may where something else was said
abbrev pub outcome_of : List ℕ → Outcome
outcome_of reply =
    if starts_with nat_eq reply (codes "OK ") then Kept
    else if starts_with nat_eq reply (codes "AGAIN ") then KeptBefore
    else if starts_with nat_eq reply (codes "NO ") && not (starts_with nat_eq reply (codes "NO 52 ")) then Refused
    else Unknown

-- as a sentence
abbrev pub sentence_of : Outcome → List ℕ
sentence_of Kept = codes "The correction is kept."
sentence_of KeptBefore = codes "It was kept before: nothing was done twice."
sentence_of Unknown = codes "It may have been kept, or not: look at the day before you correct it again."
sentence_of Refused = codes "It was refused, and nothing has changed."

-- what else a clerk has to know where the service could not take the correction now: a form that is sent again has the same number, so its
-- correction is kept once
unfoldable pub service_advice_of : List ℕ → List ℕ
service_advice_of reply =
    if starts_with nat_eq reply (codes "NO 30 ") then codes " The service has too much to do: wait, and reload this page to send the same form again."
    else if starts_with nat_eq reply (codes "NO 34 ") then codes " No corrections are taken where the pages send them: tell the operator."
    else if starts_with nat_eq reply (codes "NO 50 ") then codes " The service does not know these pages, or they have another greeting: tell the operator."
    else if starts_with nat_eq reply (codes "NO 52 ") then codes " The service is late: reload this page to send the same form again, which is kept once."
    else if starts_with nat_eq reply (codes "NO 90 ") then codes " The service had no memory: wait, and reload this page to send the same form again."
    else codes ""

-- and what else of any refusal, behind that sentence: what it means, and what to do
abbrev pub advice_of : List ℕ → List ℕ
advice_of reply =
    if starts_with nat_eq reply (codes "NO 1 ") then codes " The time is too early, or too far ahead of the clock: give another time."
    else if starts_with nat_eq reply (codes "NO 15 ") then codes " There is no such place, or its kind is another: give another place or kind."
    else if starts_with nat_eq reply (codes "NO 22 ") then codes " Another correction of yours has this number, from the same second: go back and make a new preview."
    else if starts_with nat_eq reply (codes "NO 23 ") then codes " The account has as many corrections as it can have: tell the operator."
    else service_advice_of reply

-- the line that was sent, the reply, and what that means
unfoldable pub told : FixLine → List ℕ → Outcome → List ℕ
told line reply outcome =
    codes "<p>Sent: "
    ++ (fix_line line.staff line.seq line.account line.what.now
    ++ (codes "</p>\n<p>Reply: <code>" ++ (escaped reply ++ (codes "</code></p>\n<p>" ++ (sentence_of outcome ++ (advice_of reply ++ codes "</p>\n"))))))

-- whether what a correction does, as its line says it, is that it withdraws another
abbrev pub is_drop_line : List ℕ → Bool
is_drop_line what = starts_with nat_eq what (codes "DROP ")

-- a form, where the correction was accepted
abbrev pub if_kept : Outcome → List ℕ → List ℕ
if_kept Kept form = form
if_kept KeptBefore form = form
if_kept Unknown form = []
if_kept Refused form = []

-- and no Drop, which none withdraws
abbrev pub unless_drop : List ℕ → List ℕ → List ℕ
unless_drop what form = if is_drop_line what then [] else form

abbrev pub withdrawal : Done → List ℕ
withdrawal it =
    if_kept (outcome_of it.reply.now) (unless_drop it.what.now (back_form it.account it.day (back.Fix it.staff it.seq) (codes "Withdraw it..")))

abbrev pub done_title : ℕ → List ℕ
done_title account = codes "What came of a correction of account " ++ decimal account

-- the page
abbrev pub done_text : Done → List ℕ
done_text it =
    page_start (done_title it.account)
    ++ (told (record { staff = it.staff; seq = it.seq; account = it.account; what = it.what }) it.reply.now (outcome_of it.reply.now)
    ++ (codes "<p>"
    ++ (day_link it.account it.day (codes "The day")
    ++ (codes "</p>\n" ++ (withdrawal it ++ page_end)))))

-- the line that is not sent, and the reply that it would get
unfoldable pub not_sent : FixLine → List ℕ → List ℕ
not_sent line reply =
    codes "<p>Not sent: "
    ++ (fix_line line.staff line.seq line.account line.what.now
    ++ (codes "</p>\n<p>It would be refused: <code>" ++ (escaped reply ++ (codes "</code>." ++ (advice_of reply ++ codes "</p>\n")))))

-- the page of a correction that would be refused
abbrev pub refusal_text : Done → List ℕ
refusal_text it =
    page_start (preview_title it.account it.day)
    ++ (not_sent (record { staff = it.staff; seq = it.seq; account = it.account; what = it.what }) it.reply.now ++ (back_link it.account it.day ++ page_end))

-- ---- worked rows

accepted : outcome_of (codes "OK 19730 340 340") ≡ Kept
accepted = refl

a_repeat : outcome_of (codes "AGAIN 19730 340 340") ≡ KeptBefore
a_repeat = refl

a_conflict : outcome_of (codes "NO 22 FixConflict") ≡ Refused
a_conflict = refl

no_reply_in_time : outcome_of (codes "NO 52 Late") ≡ Unknown
no_reply_in_time = refl

no_reply_at_all : outcome_of [] ≡ Unknown
no_reply_at_all = refl

another_reply : outcome_of (codes "BYE") ≡ Unknown
another_reply = refl

of_one_second : advice_of (codes "NO 22 FixConflict") ≡ codes " Another correction of yours has this number, from the same second: go back and make a new preview."
of_one_second = refl

of_no_place : advice_of (codes "NO 15 UnknownPlace") ≡ codes " There is no such place, or its kind is another: give another place or kind."
of_no_place = refl

late : advice_of (codes "NO 52 Late") ≡ codes " The service is late: reload this page to send the same form again, which is kept once."
unfolding service_advice_of
late = refl

nothing_more : advice_of (codes "OK 19730 340 340") ≡ []
unfolding service_advice_of
nothing_more = refl

no_advice_yet : advice_of (codes "NO 225 Other") ≡ []
unfolding service_advice_of
no_advice_yet = refl

not_withdrawn_again : unless_drop (codes "DROP 3 4") (codes "form") ≡ []
not_withdrawn_again = refl

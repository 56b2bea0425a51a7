-- How a posted form is answered.
use Rattle.std.specs.Prelude.{◌≡◌, ◌⊎◌, ◌&&◌, ◌++◌, ℕ, List, [], ◌∷◌, codes, bytes_eq, true, Option, Some, None, Result, Ok, Err, if◌then◌else◌}
use Rattle.std.specs.Arc.{arc_value}
use Rattle.std.specs.String.{string_bytes}
use Rattle.http.specs.Request.{body_of, head_of}
use Rattle.http.specs.declared.request.Parts.{Parts}
use Rattle.http.specs.declared.request.Request.{Request}
use Rattle.http_server.specs.Response.{IsResponse, fields_of}
use Rattle.http_server.specs.declared.response.Response.{Response}
use Rattle.http_uri.specs.Uri.{uri_path}
use Rattle.pay_clerks.specs.Words.{ClerkOf}
use Rattle.pay_wire.specs.declared.command.SpelledFix.{SpelledFix}
use Rattle.pay_web.specs.Answers.{html, text, IsAnswer, IsLine, IsShown}
use Rattle.pay_web.specs.Fields.{fields}
use Rattle.pay_web.specs.Gates.{clerk_at}
use Rattle.pay_web.specs.Questions.{choice_of, is_for, question_of}
use Rattle.pay_web.specs.Wishes.{fix_wish, form_at, IsPreviewWish}
use Rattle.pay_web.specs.declared.asked.Asked.{Asked}
use Rattle.pay_web.specs.declared.gate.Stranger.{Stranger}
use Rattle.pay_web.specs.declared.gate.Stranger.TheVariants.{Foreign, OtherType, Nobody}
use Rattle.pay_web.specs.declared.hosts.Hosts.{Hosts}
use Rattle.pay_web.specs.declared.corrects.Corrects.{Ghosts}
use Rattle.pay_web.specs.declared.corrects.Viewer.{Viewer}
use Rattle.pay_web.specs.declared.pages.Pages as showing
use Rattle.pay_web.specs.declared.question.Question.{Question}
use Rattle.pay_web.specs.declared.staff_site.StaffSite.{StaffSite}
use Rattle.pay_web.specs.declared.wish.BadWish.{BadWish}
use Rattle.pay_web.specs.declared.wish.BadWish.TheVariants.{BadForm, Stale, OverLimit, NoSuchTime}
use Rattle.pay_web.specs.declared.wish.Form.{Form}
use Rattle.pay_web.specs.declared.wish.Form.TheVariants as form
use Rattle.pay_web.specs.declared.wish.Wish.{Wish}
use Rattle.pay_web.specs.declared.wish.Wish.TheVariants as wish

-- a number and its secret are asked for
abbrev pub IsAskedForSecret : Response → Type 0
IsAskedForSecret response =
    IsResponse 401 (fields text ++ (codes "www-authenticate", codes "Basic realm=\"farebox\", charset=\"UTF-8\"") ∷ []) (codes "Corrections are for staff: a number and its secret are asked for.\n") response

abbrev pub IsStranger : Stranger → Response → Type 0
IsStranger Foreign response = IsLine 403 (codes "This form does not come from this page.\n") response
IsStranger OtherType response = IsLine 415 (codes "Only a form is read here.\n") response
IsStranger Nobody response = IsAskedForSecret response

-- what is said of a form that was made before the pages were started again
abbrev pub stale : List ℕ
stale =
    codes "This form is from before the pages were started again, and was not sent now."
    ++ (codes " If you have sent it before and got no answer, look at the account first: the correction may be there."
    ++ codes " If it is not, begin again.\n")

-- a form that asks for nothing
abbrev pub IsRefusedWish : BadWish → Response → Type 0
IsRefusedWish BadForm response = IsLine 400 (codes "This form names no correction.\n") response
IsRefusedWish Stale response = IsLine 403 stale response
IsRefusedWish OverLimit response = IsLine 403 (codes "You may not give a Credit of so much.\n") response
IsRefusedWish NoSuchTime response = IsLine 400 (codes "No clock shows this time on that day, since the clocks go forward. Give another time.\n") response

-- what is said where it is not known whether a correction was kept
abbrev pub lost : List ℕ
lost =
    codes "The service did not answer. The correction may have been kept, or not."
    ++ (codes " Reload this page to send the same form again: it is kept once."
    ++ codes " If the form is refused then, since the pages were started again, look at the account first: the correction may be there.\n")

-- just that; or, where no memory was left for it, a fault of the server
abbrev pub IsLost : Response → Type 0
IsLost response = IsResponse 503 (fields html) lost response ⊎ ((fields_of response ≡ fields html) × (response.status ≡ 500))

-- what the page knows of the clerk who looks at it, and the token
abbrev pub IsViewer : List ℕ × ClerkOf → Viewer → Type 0
IsViewer poster viewer = (viewer.name.now ≡ poster.1.name) × (viewer.token.now ≡ poster.0)

-- the form that a request posts
abbrev pub posted_form : Hosts → Parts → Option Form
posted_form hosts head = if is_for hosts head && bytes_eq head.method (codes "POST") then form_at (uri_path head.uri) else None

-- By what is known of corrections.
module _ {P : Type 0} (known : Ghosts P) where
  -- ---- a correction that is made

  -- what came of it, or that this cannot be told
  abbrev pub IsMade : P → Asked × SpelledFix → Response → Type 0
  IsMade pages made response = ((page : List ℕ) × known.is_done pages made page × IsResponse 200 (fields html) page response) ⊎ IsLost response

  -- The correction is put, once; whatever else a form asks for puts nothing. After are the response and the pages.
  abbrev pub IsWishAnswer : Wish → P → Response × P → Type 0
  IsWishAnswer (wish.Correction asked fix) before after = known.puts before fix after.1 × IsMade after.1 (asked, fix) after.0
  IsWishAnswer (wish.Nothing why) before after = IsRefusedWish why after.0 × (after.1 ≡ before)

  -- by the token of the page as it runs, and a clerk
  abbrev pub IsFixAnswer : List ℕ × ClerkOf → P → List ℕ → Response × P → Type 0
  IsFixAnswer poster before body after = IsWishAnswer (fix_wish poster.0 poster.1 body) before after

  -- ---- a correction that is shown

  abbrev pub IsPreview : List ℕ × ClerkOf → P → Asked × SpelledFix → List ℕ → Type 0
  IsPreview poster pages shown page = (viewer : Viewer) × IsViewer poster viewer × known.is_preview pages shown viewer page

  abbrev pub IsShownWish : List ℕ × ClerkOf → P → Wish → Response → Type 0
  IsShownWish poster pages (wish.Correction asked fix) response = IsShown (IsPreview poster pages (asked, fix)) response
  IsShownWish poster pages (wish.Nothing why) response = IsRefusedWish why response

  abbrev pub IsPreviewAnswer : List ℕ × ClerkOf → P → Form × List ℕ → Response → Type 0
  IsPreviewAnswer poster pages posted response =
      (asks : Wish) × IsPreviewWish known.is_instant pages poster.1 posted.0 posted.1 asks × IsShownWish poster pages asks response

  -- a form of a clerk: one of them makes its correction, and the others change nothing
  abbrev pub IsClerkAnswer : List ℕ × ClerkOf → Form × List ℕ → P → Response × P → Type 0
  IsClerkAnswer poster (form.Fix, body) before after = IsFixAnswer poster before body after
  IsClerkAnswer poster posted before after = IsPreviewAnswer poster before posted after.0 × (after.1 ≡ before)

  -- by whoever posts it
  abbrev pub IsPosterAnswer : List ℕ → Result ClerkOf Stranger → Form × List ℕ → P → Response × P → Type 0
  IsPosterAnswer token (Err stranger) posted before after = IsStranger stranger after.0 × (after.1 ≡ before)
  IsPosterAnswer token (Ok clerk) posted before after = IsClerkAnswer (token, clerk) posted before after

  -- a form that is posted: but for the pages, all stays
  pub record IsFormAnswer (form : Form) (before : StaffSite P) (request : Request (List ℕ)) (after : Response × StaffSite P) : Type 0 where
    pub answer : IsPosterAnswer (string_bytes before.staff.token) (clerk_at before.hosts (arc_value before.staff.clerks) (head_of request)) (form, body_of request) before.pages (after.0, after.1.pages)
    pub same : after.1 ≡ record before { pages = after.1.pages }

-- ---- all of that

-- By what is known of pages, and of corrections.
module _ {P : Type 0} (shows : showing.Ghosts P) (known : Ghosts P) where
  -- what to correct of an account, or else what is asked for
  abbrev pub IsChoiceOr : Option Asked → P → Question → Response → Type 0
  IsChoiceOr (Some asked) pages question response = IsShown (known.is_choice pages asked) response
  IsChoiceOr None pages question response = IsAnswer shows true pages question response

  abbrev pub IsStaffAnswer : P → Question → Response → Type 0
  IsStaffAnswer pages question response = IsChoiceOr (choice_of question) pages question response

  abbrev pub IsAnswered : Option Form → StaffSite P → Request (List ℕ) → Response × StaffSite P → Type 0
  IsAnswered (Some form) before request after = IsFormAnswer known form before request after
  IsAnswered None before request after = IsStaffAnswer before.pages (question_of before.hosts (head_of request)) after.0 × (after.1 ≡ before)

  -- A request is answered by the form that it posts, or else by what it asks for, which changes nothing.
  pub record Answers (before : StaffSite P) (request : Request (List ℕ)) (response : Response) (after : StaffSite P) : Type 0 where
    pub answered : IsAnswered (posted_form before.hosts (head_of request)) before request (response, after)

-- How a request is answered.
use Rattle.std.specs.Prelude.{◌≡◌, ◌⊎◌, ◌++◌, ℕ, Bool, List, [], ◌∷◌, codes, true, false, Option, Some, None, Result, Ok, Err, String}
use Rattle.std.specs.String.{string_bytes}
use Rattle.http.specs.Request.{head_of}
use Rattle.http.specs.declared.request.Request.{Request}
use Rattle.http_server.specs.Response.{IsResponse}
use Rattle.http_server.specs.declared.response.Response.{Response}
use Rattle.pay_json.specs.declared.openapi.TheConstants.{OPENAPI}
use Rattle.pay_page.specs.FormPages.{form_page_text}
use Rattle.pay_page.specs.declared.style.TheConstants.{STYLE}
use Rattle.pay_web.specs.Fields.{fields}
use Rattle.pay_web.specs.Questions.{question_of}
use Rattle.pay_web.specs.declared.pages.PageFault.{PageFault}
use Rattle.pay_web.specs.declared.pages.Pages.{Ghosts}
use Rattle.pay_web.specs.declared.question.Question.{Question}
use Rattle.pay_web.specs.declared.question.Question.TheVariants as question
use Rattle.pay_web.specs.declared.site.Site.{Site}

abbrev pub html : List ℕ
html = codes "text/html; charset=utf-8"

abbrev pub text : List ℕ
text = codes "text/plain; charset=utf-8"

abbrev pub css : List ℕ
css = codes "text/css; charset=utf-8"

abbrev pub json : List ℕ
json = codes "application/json"

-- the text format of Prometheus
abbrev pub exposition : List ℕ
exposition = codes "text/plain; version=0.0.4; charset=utf-8"

-- the form that asks for an account and a day, and what may be done there
abbrev pub IsForm : ℕ → Bool → Response → Type 0
IsForm status corrects = IsResponse status (fields html) (form_page_text corrects)

-- a line of text
abbrev pub IsLine : ℕ → List ℕ → Response → Type 0
IsLine status line = IsResponse status (fields text) line

abbrev pub IsUnavailable : Response → Type 0
IsUnavailable = IsLine 503 (codes "The journals cannot be read. The log of the page says why.\n")

abbrev pub IsHealth : Response → Type 0
IsHealth response = IsLine 200 (codes "ready\n") response ⊎ IsUnavailable response

abbrev pub IsBadMethod : Response → Type 0
IsBadMethod = IsResponse 405 (fields text ++ (codes "allow", codes "GET, HEAD") ∷ []) (codes "Pages are only read here.\n")

-- where a form is posted, if accounts are corrected
abbrev pub IsBadFormMethod : Bool → Response → Type 0
IsBadFormMethod true response = IsResponse 405 (fields text ++ (codes "allow", codes "POST") ∷ []) (codes "Forms are posted here.\n") response
IsBadFormMethod false response = IsBadMethod response

abbrev pub IsUnknown : Response → Type 0
IsUnknown response = IsLine 404 (codes "There is no such page.\n") response

-- a document of this content type, or that it cannot be had
abbrev pub IsShownAs : List ℕ → (List ℕ → Type 0) → Response → Type 0
IsShownAs type is response = ((page : List ℕ) × is page × IsResponse 200 (fields type) page response) ⊎ IsUnavailable response

-- a page
abbrev pub IsShown : (List ℕ → Type 0) → Response → Type 0
IsShown = IsShownAs html

-- the same of a document that was made, or not
abbrev pub IsPageOrNot : {Z : Type 0} → List ℕ → Result (String Z) PageFault → Response → Type 0
IsPageOrNot type (Ok page) response = IsResponse 200 (fields type) (string_bytes page) response
IsPageOrNot type (Err fault) response = IsUnavailable response

-- how programs ask
abbrev pub IsDescription : Response → Type 0
IsDescription response = IsResponse 200 (fields json) OPENAPI.now response

abbrev pub IsBadJson : Response → Type 0
IsBadJson response = IsLine 400 (codes "Ask with account=A&day=D, where D is a number or a date.\n") response

-- what a service has counted, or no such page where none is asked
abbrev pub IsMetricsOrNot : Option (List ℕ) → Response → Type 0
IsMetricsOrNot (Some counted) response = IsResponse 200 (fields exposition) counted response
IsMetricsOrNot None response = IsUnknown response

abbrev pub IsMetrics : {P : Type 0} → (P → Option (List ℕ) → Type 0) → P → Response → Type 0
IsMetrics is_metrics pages response = (counted : Option (List ℕ)) × is_metrics pages counted × IsMetricsOrNot counted response

-- how the pages look
abbrev pub IsStyle : Response → Type 0
IsStyle response = IsResponse 200 (fields css) STYLE.now response

abbrev pub IsMisdirected : Response → Type 0
IsMisdirected response = IsLine 421 (codes "This page is for 127.0.0.1 and localhost.\n") response

-- By what is known of pages.
module _ {P : Type 0} (known : Ghosts P) where
  -- what is asked for, where accounts are corrected or not; there is no page of what to correct
  abbrev pub IsAnswer : Bool → P → Question → Response → Type 0
  IsAnswer corrects pages question.Form response = IsForm 200 corrects response
  IsAnswer corrects pages question.Style response = IsStyle response
  IsAnswer corrects pages question.Health response = IsHealth response
  IsAnswer corrects pages (question.Page asked) response = IsShown (known.is_page pages asked) response
  IsAnswer corrects pages (question.Json asked) response = IsShownAs json (known.is_json pages asked) response
  IsAnswer corrects pages question.Description response = IsDescription response
  IsAnswer corrects pages question.Metrics response = IsMetrics known.is_metrics pages response
  IsAnswer corrects pages (question.Choice asked) response = IsUnknown response
  IsAnswer corrects pages question.BadQuery response = IsForm 400 corrects response
  IsAnswer corrects pages question.BadJson response = IsBadJson response
  IsAnswer corrects pages question.Unknown response = IsUnknown response
  IsAnswer corrects pages question.BadMethod response = IsBadMethod response
  IsAnswer corrects pages question.BadFormMethod response = IsBadFormMethod corrects response
  IsAnswer corrects pages question.Misdirected response = IsMisdirected response

  -- a request is answered by what it asks for, and changes nothing
  pub record Answers (old : Site P) (request : Request (List ℕ)) (response : Response) (new : Site P) : Type 0 where
    pub answer : IsAnswer false old.pages (question_of old.hosts (head_of request)) response
    pub same : new ≡ old

-- What a request asks for.
use Rattle.std.specs.Prelude.{◌||◌, ℕ, Bool, true, false, not, List, codes, bytes_eq, is_some, Option, Some, None, if◌then◌else◌}
use Rattle.std.specs.Option.{option_and_then}
use Rattle.std.specs.String.{string_bytes}
use Rattle.http.specs.declared.request.Parts.{Parts}
use Rattle.http_header.specs.FieldValue.{FieldValue}
use Rattle.http_header.specs.HeaderMap.{get}
use Rattle.http_uri.specs.declared.uri.Uri.{Uri}
use Rattle.http_uri.specs.Uri.{uri_authority, uri_path, uri_query}
use Rattle.pay_web.specs.Asked.{IsAsked, asked_by}
use Rattle.pay_web.specs.Wishes.{form_at}
use Rattle.pay_web.specs.declared.asked.Asked.{Asked}
use Rattle.pay_web.specs.declared.hosts.Hosts.{Hosts}
use Rattle.pay_web.specs.declared.question.Question.{Question}
use Rattle.pay_web.specs.declared.question.Question.TheVariants as question
use Rattle.pay_web.specs.declared.wish.Form.{Form}

-- the page of an account that is asked for is that of one, and of a service day
abbrev pub IsQuestion : Question → Type 0
IsQuestion (question.Page asked) = IsAsked asked
IsQuestion (question.Json asked) = IsAsked asked
IsQuestion (question.Choice asked) = IsAsked asked
IsQuestion _ = Unit {0}

abbrev pub is_among : Hosts → List ℕ → Bool
is_among hosts host = bytes_eq host (string_bytes hosts.number) || bytes_eq host (string_bytes hosts.name)

-- by the value of the field Host, if there is one
abbrev pub is_among_values : Hosts → Option FieldValue → Bool
is_among_values hosts (Some value) = is_among hosts value.bytes
is_among_values hosts None = false

-- a request is for one of these hosts by its field Host, and its target names no host
abbrev pub is_for : Hosts → Parts → Bool
is_for hosts head = if is_some (uri_authority head.uri) then false else is_among_values hosts (get head.headers (codes "host"))

-- a page of an account, or another query
abbrev pub page_or_bad : Option Asked → Question
page_or_bad (Some asked) = question.Page asked
page_or_bad None = question.BadQuery

abbrev pub page_question : Bool → Option (List ℕ) → Question
page_question week query = page_or_bad (option_and_then (asked_by week) query)

-- the same for programs, or another query
abbrev pub json_or_bad : Option Asked → Question
json_or_bad (Some asked) = question.Json asked
json_or_bad None = question.BadJson

abbrev pub json_question : Bool → Option (List ℕ) → Question
json_question week query = json_or_bad (option_and_then (asked_by week) query)

-- what to correct of an account, or another query
abbrev pub choice_or_bad : Option Asked → Question
choice_or_bad (Some asked) = question.Choice asked
choice_or_bad None = question.BadQuery

abbrev pub choice_question : Option (List ℕ) → Question
choice_question query = choice_or_bad (option_and_then (asked_by false) query)

-- the account and the day of what to correct
abbrev pub choice_of : Question → Option Asked
choice_of (question.Choice asked) = Some asked
choice_of _ = None

-- each path asks for one thing
abbrev pub path_question : Uri → Question
path_question uri =
    if bytes_eq (uri_path uri) (codes "/") then question.Form
    else if bytes_eq (uri_path uri) (codes "/style.css") then question.Style
    else if bytes_eq (uri_path uri) (codes "/healthz") then question.Health
    else if bytes_eq (uri_path uri) (codes "/day") then page_question false (uri_query uri)
    else if bytes_eq (uri_path uri) (codes "/week") then page_question true (uri_query uri)
    else if bytes_eq (uri_path uri) (codes "/day.json") then json_question false (uri_query uri)
    else if bytes_eq (uri_path uri) (codes "/week.json") then json_question true (uri_query uri)
    else if bytes_eq (uri_path uri) (codes "/openapi.json") then question.Description
    else if bytes_eq (uri_path uri) (codes "/metrics") then question.Metrics
    else if bytes_eq (uri_path uri) (codes "/correct") then choice_question (uri_query uri)
    else question.Unknown

-- a request that only reads
abbrev pub only_reads : List ℕ → Bool
only_reads method = bytes_eq method (codes "GET") || bytes_eq method (codes "HEAD")

-- another method, where a form is posted or pages are read
abbrev pub method_question : Option Form → Question
method_question (Some form) = question.BadFormMethod
method_question None = question.BadMethod

-- the host is looked at first, then the method, then the path
abbrev pub question_of : Hosts → Parts → Question
question_of hosts head =
    if not (is_for hosts head) then question.Misdirected
    else if not (only_reads head.method) then method_question (form_at (uri_path head.uri))
    else path_question head.uri

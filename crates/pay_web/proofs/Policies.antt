-- Each answer has the policy.
use Rattle.std.proofs.Common.{◌≡◌, ◌++◌, ℕ, Bool, true, false, List, Option, None, Some, Result, Ok, Err, Contains, inl, inr, refl, arith, sym, subst}
use Rattle.std.specs.Arc.{arc_value}
use Rattle.std.specs.String.{string_bytes}
use Rattle.http.specs.Request.{body_of, head_of}
use Rattle.http.specs.declared.request.Request.{Request}
use Rattle.http1.specs.Fields.{Header}
use Rattle.http_server.specs.Response.{IsResponse, fields_of}
use Rattle.http_server.specs.declared.response.Response.{Response}
use Rattle.pay_clerks.specs.Words.{ClerkOf}
use Rattle.pay_web.specs.Answers.{IsAnswer, IsBadFormMethod, IsBadMethod, IsHealth, IsMetricsOrNot, IsShown, IsShownAs, IsUnavailable, html, json, text}
use Rattle.pay_web.specs.Fields.{fields, policy}
use Rattle.pay_web.specs.Gates.{clerk_at}
use Rattle.pay_web.specs.Posted.{IsAnswered, IsChoiceOr, IsClerkAnswer, IsMade, IsPosterAnswer, IsPreview, IsRefusedWish, IsShownWish, IsStranger, IsWishAnswer}
use Rattle.pay_web.specs.declared.asked.Asked.{Asked}
use Rattle.pay_web.specs.declared.gate.Stranger.{Stranger}
use Rattle.pay_web.specs.declared.gate.Stranger.TheVariants.{Foreign, OtherType, Nobody}
use Rattle.pay_web.specs.declared.corrects.Corrects.{Ghosts}
use Rattle.pay_web.specs.declared.pages.Pages as showing
use Rattle.pay_web.specs.declared.question.Question.{Question}
use Rattle.pay_web.specs.declared.question.Question.TheVariants as question
use Rattle.pay_web.specs.declared.staff_site.StaffSite.{StaffSite}
use Rattle.pay_web.specs.declared.wish.BadWish.{BadWish}
use Rattle.pay_web.specs.declared.wish.BadWish.TheVariants.{BadForm, Stale, OverLimit, NoSuchTime}
use Rattle.pay_web.specs.declared.wish.Form.{Form}
use Rattle.pay_web.specs.declared.wish.Form.TheVariants as form
use Rattle.pay_web.specs.declared.wish.Wish.{Wish}
use Rattle.pay_web.specs.declared.wish.Wish.TheVariants as wish

abbrev Has : Response → Type 0
Has r = Contains (fields_of r) policy

-- an answer whose fields are these, and perhaps some more
with_fields : (r : Response) (type : List ℕ) → fields_of r ≡ fields type → Has r
with_fields r type are = subst (λ (list : List Header). Contains list policy) (sym are) (0, omega arith, refl)

with_more : (r : Response) (type : List ℕ) (more : List Header) → fields_of r ≡ fields type ++ more → Has r
with_more r type more are = subst (λ (list : List Header). Contains list policy) (sym are) (0, omega arith, refl)

plain : (r : Response) (code : ℕ) (type body : List ℕ) → IsResponse code (fields type) body r → Has r
plain r code type body is = with_fields r type is.headers

bad_method : (r : Response) → IsBadMethod r → Has r
bad_method r is = with_more r text _ is.headers

bad_form_method : (corrects : Bool) (r : Response) → IsBadFormMethod corrects r → Has r
bad_form_method true r is = with_more r text _ is.headers
bad_form_method false r is = bad_method r is

unavailable : (r : Response) → IsUnavailable r → Has r
unavailable r is = with_fields r text is.headers

shown_as : (r : Response) (type : List ℕ) (is_page : List ℕ → Type 0) → IsShownAs type is_page r → Has r
shown_as r type is_page (inl page) = with_fields r type page.2.headers
shown_as r type is_page (inr none) = unavailable r none

shown : (r : Response) (is_page : List ℕ → Type 0) → IsShown is_page r → Has r
shown r = shown_as r html

counted : (r : Response) (found : Option (List ℕ)) → IsMetricsOrNot found r → Has r
counted r (Some text) is = with_fields r _ is.headers
counted r None is = with_fields r text is.headers

stranger : (r : Response) (who : Stranger) → IsStranger who r → Has r
stranger r Foreign is = with_fields r text is.headers
stranger r OtherType is = with_fields r text is.headers
stranger r Nobody is = with_more r text _ is.headers

refused : (r : Response) (why : BadWish) → IsRefusedWish why r → Has r
refused r BadForm is = with_fields r text is.headers
refused r Stale is = with_fields r text is.headers
refused r OverLimit is = with_fields r text is.headers
refused r NoSuchTime is = with_fields r text is.headers

health : (r : Response) → IsHealth r → Has r
health r (inl is) = with_fields r text is.headers
health r (inr is) = unavailable r is

pub answer : {P : Type 0} (shows : showing.Ghosts P) (corrects : Bool) (r : Response) (pages : P) (asks : Question) → IsAnswer shows corrects pages asks r → Has r
answer shows corrects r pages question.Form is = with_fields r html is.headers
answer shows corrects r pages question.Style is = with_fields r _ is.headers
answer shows corrects r pages question.Health is = health r is
answer shows corrects r pages (question.Page asked) is = shown r (shows.is_page pages asked) is
answer shows corrects r pages (question.Json asked) is = shown_as r json (shows.is_json pages asked) is
answer shows corrects r pages question.Description is = with_fields r json is.headers
answer shows corrects r pages question.Metrics is = counted r is.0 is.2
answer shows corrects r pages (question.Choice asked) is = with_fields r text is.headers
answer shows corrects r pages question.BadQuery is = with_fields r html is.headers
answer shows corrects r pages question.BadJson is = with_fields r text is.headers
answer shows corrects r pages question.Unknown is = with_fields r text is.headers
answer shows corrects r pages question.BadMethod is = bad_method r is
answer shows corrects r pages question.BadFormMethod is = bad_form_method corrects r is
answer shows corrects r pages question.Misdirected is = with_fields r text is.headers

module _ {P : Type 0} (known : Ghosts P) where
  made : (r : Response) (pages : P) (fix : Asked × _) → IsMade known pages fix r → Has r
  made r pages fix (inl page) = with_fields r html page.2.headers
  made r pages fix (inr (inl lost)) = with_fields r html lost.headers
  made r pages fix (inr (inr cut)) = with_fields r html cut.0

  wished : (r : Response) (asks : Wish) (before after : P) → IsWishAnswer known asks before (r, after) → Has r
  wished r (wish.Correction asked fix) before after is = made r after (asked, fix) is.1
  wished r (wish.Nothing why) before after is = refused r why is.0

  previewed : (r : Response) (poster : List ℕ × ClerkOf) (pages : P) (asks : Wish) → IsShownWish known poster pages asks r → Has r
  previewed r poster pages (wish.Correction asked fix) is = shown r (IsPreview known poster pages (asked, fix)) is
  previewed r poster pages (wish.Nothing why) is = refused r why is

  clerk : (r : Response) (poster : List ℕ × ClerkOf) (posts : Form) (body : List ℕ) (before after : P) → IsClerkAnswer known poster (posts, body) before (r, after) → Has r
  clerk r poster form.Fix body before after is = wished r _ before after is
  clerk r poster form.Named body before after is = previewed r poster before is.0.0 is.0.2
  clerk r poster form.Credit body before after is = previewed r poster before is.0.0 is.0.2
  clerk r poster form.Tap body before after is = previewed r poster before is.0.0 is.0.2

  poster : (r : Response) (token : List ℕ) (who : Result ClerkOf Stranger) (posts : Form) (body : List ℕ) (before after : P) → IsPosterAnswer known token who (posts, body) before (r, after) → Has r
  poster r token (Err who) posts body before after is = stranger r who is.0
  poster r token (Ok who) posts body before after is = clerk r (token, who) posts body before after is

module _ {P : Type 0} (shows : showing.Ghosts P) (known : Ghosts P) where
  staff_answer : (r : Response) (pages : P) (asks : Question) (choice : Option Asked) → IsChoiceOr shows known choice pages asks r → Has r
  staff_answer r pages asks (Some asked) is = shown r (known.is_choice pages asked) is
  staff_answer r pages asks None is = answer shows true r pages asks is

  pub answered : (r : Response) (posts : Option Form) (site after : StaffSite P) (request : Request (List ℕ)) → IsAnswered shows known posts site request (r, after) → Has r
  answered r (Some posts) site after request is =
      poster known r (string_bytes site.staff.token) (clerk_at site.hosts (arc_value site.staff.clerks) (head_of request)) posts (body_of request) site.pages after.pages is.answer
  answered r None site after request is = staff_answer r site.pages _ _ is.0

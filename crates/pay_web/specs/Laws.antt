-- What is so of all answers.
use Rattle.std.specs.Prelude.{◌≡◌, ◌⊎◌, ℕ, false, List, Some, Ok, Contains}
use Rattle.std.specs.Arc.{arc_value}
use Rattle.std.specs.String.{string_bytes}
use Rattle.http.specs.Request.{body_of, head_of}
use Rattle.http.specs.declared.request.Request.{Request}
use Rattle.http_server.specs.Response.{fields_of}
use Rattle.http_server.specs.declared.response.Response.{Response}
use Rattle.pay_clerks.specs.Words.{ClerkOf}
use Rattle.pay_wire.specs.declared.command.SpelledFix.{SpelledFix}
use Rattle.pay_web.specs.Answers.{Answers}
use Rattle.pay_web.specs.Corrections.{is_over}
use Rattle.pay_web.specs.Fields.{policy}
use Rattle.pay_web.specs.Gates.{clerk_at}
use Rattle.pay_web.specs.Posted as posted
use Rattle.pay_web.specs.Posted.{posted_form}
use Rattle.pay_web.specs.Wishes.{fix_wish}
use Rattle.pay_web.specs.declared.asked.Asked.{Asked}
use Rattle.pay_web.specs.declared.corrects.Corrects.{Ghosts}
use Rattle.pay_web.specs.declared.pages.Pages as showing
use Rattle.pay_web.specs.declared.site.Site.{Site}
use Rattle.pay_web.specs.declared.staff_site.StaffSite.{StaffSite}
use Rattle.pay_web.specs.declared.wish.Form.TheVariants.{Fix}
use Rattle.pay_web.specs.declared.wish.Wish.TheVariants.{Correction}

-- no answer lacks the policy
abbrev pub HaveThePolicy : {P : Type 0} → showing.Ghosts P → Type 0
HaveThePolicy {P} shows = (before : Site P) (request : Request (List ℕ)) (response : Response) (after : Site P)
    → Answers shows before request response after → Contains (fields_of response) policy

-- ---- where clerks correct accounts

abbrev pub StaffHaveThePolicy : {P : Type 0} → showing.Ghosts P → Ghosts P → Type 0
StaffHaveThePolicy {P} shows known = (before : StaffSite P) (request : Request (List ℕ)) (response : Response) (after : StaffSite P)
    → posted.Answers shows known before request response after → Contains (fields_of response) policy

-- What lets a correction be put: the request is for the site and posts the form that makes corrections, from a page of the site, with a
-- clerk's number and secret; and its form asks for this correction with the token of the site, within the clerk's limit.
pub record MayPut {P : Type 0} (site : StaffSite P) (request : Request (List ℕ)) (fix : SpelledFix) : Type 0 where
  pub posts : posted_form site.hosts (head_of request) ≡ Some Fix
  pub clerk : ClerkOf
  pub by_clerk : clerk_at site.hosts (arc_value site.staff.clerks) (head_of request) ≡ Ok clerk
  pub asked : Asked
  pub asks : fix_wish (string_bytes site.staff.token) clerk (body_of request) ≡ Correction asked fix
  pub of_clerk : fix.staff ≡ clerk.staff
  pub of_account : fix.account ≡ asked.account
  pub in_limit : is_over clerk.limit fix ≡ false

-- a request puts one correction, which it may, or it changes nothing
abbrev pub OnlyClerksPut : {P : Type 0} → showing.Ghosts P → Ghosts P → Type 0
OnlyClerksPut {P} shows known = (before : StaffSite P) (request : Request (List ℕ)) (response : Response) (after : StaffSite P)
    → posted.Answers shows known before request response after
    → (after ≡ before) ⊎ ((fix : SpelledFix) × MayPut before request fix × known.puts before.pages fix after.pages)

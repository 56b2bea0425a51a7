-- What lets a correction be put.
use Rattle.std.proofs.Common.{◌≡◌, ◌⊎◌, ◌∙◌, ℕ, List, Option, None, Some, Result, Ok, Err, inl, inr, refl, ap}
use Rattle.std.specs.Arc.{arc_value}
use Rattle.std.specs.String.{string_bytes}
use Rattle.http.specs.Request.{body_of, head_of}
use Rattle.http.specs.declared.request.Request.{Request}
use Rattle.http_server.specs.declared.response.Response.{Response}
use Rattle.pay_clerks.specs.Words.{ClerkOf}
use Rattle.pay_wire.specs.declared.command.SpelledFix.{SpelledFix}
use Rattle.pay_web.specs.Gates.{clerk_at}
use Rattle.pay_web.specs.Laws.{MayPut}
use Rattle.pay_web.specs.Posted.{IsAnswered, IsClerkAnswer, IsPosterAnswer, IsWishAnswer, posted_form}
use Rattle.pay_web.specs.Wishes.{fix_wish}
use Rattle.pay_web.specs.declared.gate.Stranger.{Stranger}
use Rattle.pay_web.specs.declared.corrects.Corrects.{Ghosts}
use Rattle.pay_web.specs.declared.pages.Pages as showing
use Rattle.pay_web.specs.declared.staff_site.StaffSite.{StaffSite}
use Rattle.pay_web.specs.declared.wish.Form.{Form}
use Rattle.pay_web.specs.declared.wish.Form.TheVariants as form
use Rattle.pay_web.specs.declared.wish.Wish.{Wish}
use Rattle.pay_web.specs.declared.wish.Wish.TheVariants as wish
use Rattle.pay_web.proofs.Wished.{Names, names}

-- the pages of the site are as before, or one correction was put, as the form says it
abbrev Put : {P : Type 0} → Ghosts P → StaffSite P → Request (List ℕ) → P → Type 0
Put known site request after = (after ≡ site.pages) ⊎ ((fix : SpelledFix) × MayPut site request fix × known.puts site.pages fix after)

module _ {P : Type 0} (known : Ghosts P) (site : StaffSite P) (request : Request (List ℕ)) (after : P) where
  module _ (who : ClerkOf) (by : clerk_at site.hosts (arc_value site.staff.clerks) (head_of request) ≡ Ok who)
      (posts : posted_form site.hosts (head_of request) ≡ Some form.Fix) where
    wished : (r : Response) (asks : Wish) → fix_wish (string_bytes site.staff.token) who (body_of request) ≡ asks → IsWishAnswer known asks site.pages (r, after) → Put known site request after
    wished r (wish.Correction asked fix) e is =
        let of : Names who asked fix = names (string_bytes site.staff.token) who (body_of request) asked fix e in
        inr (
          fix,
          record {
            posts = posts;
            clerk = who;
            by_clerk = by;
            asked = asked;
            asks = e;
            of_clerk = of.of_clerk;
            of_account = of.of_account;
            in_limit = of.in_limit;
          },
          is.0,
        )
    wished r (wish.Nothing why) e is = inl is.1

  clerk : (r : Response) (posts : Form) (e : posted_form site.hosts (head_of request) ≡ Some posts)
      (who : ClerkOf) (by : clerk_at site.hosts (arc_value site.staff.clerks) (head_of request) ≡ Ok who)
      → IsClerkAnswer known (string_bytes site.staff.token, who) (posts, body_of request) site.pages (r, after) → Put known site request after
  clerk r form.Fix e who by is = wished who by e r (fix_wish (string_bytes site.staff.token) who (body_of request)) refl is
  clerk r form.Named e who by is = inl is.1
  clerk r form.Credit e who by is = inl is.1
  clerk r form.Tap e who by is = inl is.1

  poster : (r : Response) (posts : Form) (e : posted_form site.hosts (head_of request) ≡ Some posts)
      (who : Result ClerkOf Stranger) (by : clerk_at site.hosts (arc_value site.staff.clerks) (head_of request) ≡ who)
      → IsPosterAnswer known (string_bytes site.staff.token) who (posts, body_of request) site.pages (r, after) → Put known site request after
  poster r posts e (Err who) by is = inl is.1
  poster r posts e (Ok who) by is = clerk r posts e who by is

pub answered : {P : Type 0} (shows : showing.Ghosts P) (known : Ghosts P) (site after : StaffSite P) (request : Request (List ℕ)) (r : Response) (posts : Option Form)
    (e : posted_form site.hosts (head_of request) ≡ posts) → IsAnswered shows known posts site request (r, after)
    → (after ≡ site) ⊎ ((fix : SpelledFix) × MayPut site request fix × known.puts site.pages fix after.pages)
answered shows known site after request r None e is = inl is.1
answered {P} shows known site after request r (Some posts) e is =
    go (poster known site request after.pages r posts e (clerk_at site.hosts (arc_value site.staff.clerks) (head_of request)) refl is.answer)
  where
    go : Put known site request after.pages → (after ≡ site) ⊎ ((fix : SpelledFix) × MayPut site request fix × known.puts site.pages fix after.pages)
    go (inl same) = inl (is.same ∙ ap (λ (pages : P). record site { pages = pages }) same)
    go (inr put) = inr put

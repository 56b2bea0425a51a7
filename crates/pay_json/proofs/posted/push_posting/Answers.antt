use Rattle.std.proofs.Common.{rules, ◌≡◌, ℕ, ℤ, List, ◌++◌, ap, ◌∙◌, to_z, of_z, w64}
use Rattle.std.specs.String.{string_bytes}
use Rattle.pay_dates.specs.Words.{date_text_of}
use Rattle.pay_json.specs.Posted.{accepted_text, posting_text, shares_value}
use Rattle.pay_json.specs.Values.{joined}
use Rattle.pay_json.proofs.Adding.{then}
use Rattle.pay_json.proofs.Documents.{posting_text_is}
use Rattle.pay_json.proofs.posted.push_posting.Goals as goal

pub returns : goal.returns
unfolding joined
returns c =
    let p = c.args.posting.now in
    let date = date_text_of p.quote.through in
    let dated = c.as_str.ensures.value ∙ c.in_ok-date.ensures ∙ ap date_text_of (c.of.ensures ∙ c.through.ensures.value) in
    let shared = c.as_str-2.ensures.value ∙ c.in_ok-shares.ensures in
    let amount : to_z w64 (of_z w64 p.amount) ≡ p.amount = search rules in
    let text : ℕ → List ℕ → ℕ → ℕ → List ℕ → List ℕ = λ t d due v s. posting_text p.amount (t, d) due (accepted_text v c.args.now s) in
    let is =
    ap (λ (a : ℤ). posting_text a (c.through-2.result, c.as_str.result.now) c.pence.result (accepted_text c.version.result c.args.now c.as_str-2.result.now)) amount
    ∙ ap (λ (t : ℕ). text t c.as_str.result.now c.pence.result c.version.result c.as_str-2.result.now) c.through-2.ensures.value
    ∙ ap (λ (d : List ℕ). text p.quote.through d c.pence.result c.version.result c.as_str-2.result.now) dated
    ∙ ap (λ (due : ℕ). text p.quote.through date due c.version.result c.as_str-2.result.now) (c.pence.ensures ∙ c.due.ensures.value)
    ∙ ap (λ (v : ℕ). text p.quote.through date p.quote.due v c.as_str-2.result.now) c.version.ensures.value
    ∙ ap (λ (s : List ℕ). text p.quote.through date p.quote.due p.quote.version s) shared
    ∙ posting_text_is c.args.now p date (shares_value c.args.names.now p.share_amounts) in
    then _ _ _ _ _ c.in_ok-push_comma.ensures (c.in_ok-write.ensures.bytes ∙ ap (λ (s : List ℕ). string_bytes c.push_comma.new.text ++ s) is)

-- What stands behind a front.
use Rattle.std.proofs.Common.{◌≡◌, ◌∙◌, ℕ, Bor, true, false, List, drop, Option, None, Some, option_copied, MatchOption, refl, sym, ap, subst}
use Rattle.std.proofs.lemmas.Str.Pattern.{starts_text}
use Rattle.std.specs.Str.{IsCharBoundary}
use Rattle.std.specs.Str.Pattern.{FindsTextPrefix, StripsPrefix}
use Rattle.pay_metrics.specs.Fields.{after}

pub stripped : (front text : List ℕ) (r : Option (Bor (List ℕ))) → MatchOption r (FindsTextPrefix front text None) (λ x. StripsPrefix (FindsTextPrefix front) text x.now) → option_copied r ≡ after front text
stripped front text None h = rw (sym (starts_text false front text h)) refl
stripped front text (Some x) h =
    let boundary : IsCharBoundary text h.0 = subst (IsCharBoundary text) (sym h.1.0) h.1.2 in
    rw (sym (starts_text true front text (h.0, h.1, boundary))) (ap Some (h.2 ∙ ap (λ n. drop n text) h.1.0))

use Rattle.std.proofs.Common.{arith, ◌≡◌, ◌≤◌, ◌<◌, ◌-◌, ℕ, ℤ, pos, to_z, of_z, w64, ap, sym, ◌∙◌}
use Rattle.std.specs.Int.{w16}
use Rattle.std.proofs.lemmas.Int.{to_z_pos}
use Rattle.jiff.proofs.SpanFacts.{signed_arith}
use Rattle.jiff_core.specs.Calendar.{IsYear}
use Rattle.jiff_tz.proofs.YearLemmas.{back_year}
use Rattle.jiff.specs.Words.{nanos_of_seconds, plain_zone, offset_at}
use Rattle.pay_zone.specs.Steady.{year_at}
use Rattle.pay_zone.proofs.Years.{year_between}
use Rattle.pay_zone.proofs.steady.stretch_from.Goals as goal

same_year : (from utc until : ℕ) → from ≤ utc → utc < until → year_at (until - 1) ≡ year_at from → year_at utc ≡ year_at from
same_year from utc until h k e =
    year_between (nanos_of_seconds (pos from)) (nanos_of_seconds (pos utc)) (nanos_of_seconds (pos (until - 1)))
    (omega (arith, signed_arith)) (omega (arith, signed_arith)) (omega (arith, signed_arith)) e

alike : (one other : ℤ) → IsYear one → IsYear other → of_z w16 one ≡ of_z w16 other → one ≡ other
alike one other h k e = sym (back_year one h) ∙ ap (to_z w16) e ∙ back_year other k

pub returns-clause-steady : goal.returns-clause-steady
returns-clause-steady c = λ utc h k.
    let from : to_z w64 c.args.from ≡ pos c.args.from = to_z_pos w64 c.args.from (omega arith) in
    let instant : c.in-Ok.instant.nanosecond ≡ nanos_of_seconds (pos c.args.from) = c.in-Ok.ensures.value ∙ ap nanos_of_seconds from in
    let same = alike c.year_of.result c.year_of-else-until-from.result c.year_of.ensures.in_range c.year_of-else-until-from.ensures.in_range c.if-year_of.false in
    let years : year_at (c.min-until-2.result - 1) ≡ year_at c.args.from =
    sym c.year_of.ensures.value ∙ same ∙ c.year_of-else-until-from.ensures.value in
    let one = c.min-until.ensures in
    let two = c.min-until-2.ensures in
    c.in_ok-next_change.ensures utc h (omega arith) (same_year c.args.from utc c.min-until-2.result h k years)
    ∙ sym (ap (offset_at (plain_zone c.args.zone.now)) instant) ∙ sym c.to_offset.ensures

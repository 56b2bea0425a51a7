use Rattle.std.proofs.Common.{arith, ◌≡◌, ℕ, ℤ, pos, ◌+ℤ◌, to_z, w64, ap, ◌∙◌}
use Rattle.std.proofs.lemmas.Int.{to_z_pos}
use Rattle.jiff.proofs.SpanFacts.{signed_arith}
use Rattle.jiff.proofs.ZoneFacts.{offset_at-UTC}
use Rattle.jiff_tz.proofs.YearLemmas.{year_of_nanos-civil, back_year}
use Rattle.jiff.specs.Words.{nanos_of_seconds, civil_nanos}
use Rattle.jiff_core.specs.declared.civil.date.Date.{Date}
use Rattle.pay_zone.specs.Steady.{year_at}
use Rattle.pay_zone.proofs.year.year_of.Goals as goal

at_utc : (total instant offset : ℤ) (utc : ℕ) → total ≡ instant +ℤ nanos_of_seconds offset → offset ≡ pos 0 → instant ≡ nanos_of_seconds (pos utc) → total ≡ nanos_of_seconds (pos utc)
at_utc total instant offset utc e f g = omega (arith, signed_arith)

pub returns-clause-value : goal.returns-clause-value
returns-clause-value c =
    let utc : to_z w64 c.args.utc ≡ pos c.args.utc = to_z_pos w64 c.args.utc (omega arith) in
    let instant : c.in-Ok.instant.nanosecond ≡ nanos_of_seconds (pos c.args.utc) = c.in-Ok.ensures.value ∙ ap nanos_of_seconds utc in
    let total : civil_nanos c.to_datetime.result ≡ nanos_of_seconds (pos c.args.utc) =
    at_utc _ _ _ c.args.utc c.to_datetime.ensures (offset_at-UTC c.in-Ok.instant.nanosecond) instant in
    let year : c.year.result ≡ year_at c.args.utc = c.year.ensures ∙ ap (λ (d : Date). d.year) c.date.ensures ∙ year_of_nanos-civil c.to_datetime.result _ total in
    back_year c.year.result (search (c.date.result.year_in, c.year.ensures)) ∙ year

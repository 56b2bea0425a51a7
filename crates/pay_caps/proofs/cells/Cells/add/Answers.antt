use Rattle.std.proofs.Common.{arith, length, ap, ◌∙◌, sym}
use Rattle.pay_caps.proofs.AllSpans.{place_is}
use Rattle.pay_caps.proofs.SpanSums.{added_to_span, added_there}
use Rattle.pay_caps.proofs.Used.{used_is_few, used_with_one}
use Rattle.pay_caps.proofs.cells.Cells.add.Goals as goal

pub returns-in-Rail-clause-value : goal.returns-in-Rail-clause-value
returns-in-Rail-clause-value c =
    added_to_span c.args.cell c.in-Rail.span c.args.fare c.place_of-place.result c.self.inside.spans c.self.inside.buses c.self.inside.maximum c.args.self.now
    c.in-Rail.is c.requires.is_cell c.self.view_is c.self.invariant.spans (place_is c.in-Rail.span c.place_of-place.result c.place_of-place.ensures.in_range c.place_of-place.ensures.stands) c.more.result c.more.ensures

pub returns-in-Rail-clause-there : goal.returns-in-Rail-clause-there
returns-in-Rail-clause-there c =
    added_there c.args.cell c.args.fare c.args.self.now _ c.requires.is_cell (sym (ap (λ sums. length sums.spans) c.self.view_is) ∙ c.self.invariant.spans) (returns-in-Rail-clause-value c)

pub used_with-self-inside-requires-clause-in_range : goal.used_with-self-inside-requires-clause-in_range
used_with-self-inside-requires-clause-in_range c = omega (arith, used_is_few c.self.inside.spans)

pub used_with-self-inside-requires-clause-before : goal.used_with-self-inside-requires-clause-before
used_with-self-inside-requires-clause-before c = omega (arith, used_with_one c.self.inside.spans c.place_of-place.result c.more.result, c.self.invariant.walked)

use Rattle.std.proofs.Common.{arith, length, ap, ◌∙◌, sym}
use Rattle.pay_caps.proofs.AllSpans.{place_is}
use Rattle.pay_caps.proofs.SpanSums.{taken_from_span, is_there, taken_there, taken_of_all}
use Rattle.pay_caps.proofs.Used.{used_is_few, used_with_one}
use Rattle.pay_caps.proofs.cells.Cells.take.Goals as goal

pub less-requires : goal.less-requires
less-requires c =
    is_there c.args.cell c.in-Rail.span c.args.fare c.place_of-place.result c.self.inside.spans c.self.inside.buses c.self.inside.maximum c.args.self.now
    c.in-Rail.is c.requires.is_cell c.self.view_is c.self.invariant.spans (place_is c.in-Rail.span c.place_of-place.result c.place_of-place.ensures.in_range c.place_of-place.ensures.stands) c.requires.there

pub returns-in-Rail-clause-value : goal.returns-in-Rail-clause-value
returns-in-Rail-clause-value c =
    taken_from_span c.args.cell c.in-Rail.span c.args.fare c.place_of-place.result c.self.inside.spans c.self.inside.buses c.self.inside.maximum c.args.self.now
    c.in-Rail.is c.requires.is_cell c.self.view_is c.self.invariant.spans (place_is c.in-Rail.span c.place_of-place.result c.place_of-place.ensures.in_range c.place_of-place.ensures.stands) c.less.result c.less.ensures

pub returns-in-Rail-clause-sum : goal.returns-in-Rail-clause-sum
returns-in-Rail-clause-sum c =
    taken_of_all c.args.cell c.args.fare c.args.self.now _ c.requires.is_cell (sym (ap (λ sums. length sums.spans) c.self.view_is) ∙ c.self.invariant.spans) c.requires.there
    (returns-in-Rail-clause-value c)

pub returns-in-Rail-clause-there : goal.returns-in-Rail-clause-there
returns-in-Rail-clause-there c =
    taken_there c.args.cell c.args.fare c.args.self.now _ c.requires.is_cell (sym (ap (λ sums. length sums.spans) c.self.view_is) ∙ c.self.invariant.spans) c.requires.there
    (returns-in-Rail-clause-value c)

pub used_with-self-inside-requires-clause-in_range : goal.used_with-self-inside-requires-clause-in_range
used_with-self-inside-requires-clause-in_range c = omega (arith, used_is_few c.self.inside.spans)

pub used_with-self-inside-requires-clause-before : goal.used_with-self-inside-requires-clause-before
used_with-self-inside-requires-clause-before c = omega (arith, used_with_one c.self.inside.spans c.place_of-place.result c.less.result, c.self.invariant.walked)

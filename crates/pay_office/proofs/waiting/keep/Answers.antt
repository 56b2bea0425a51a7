use Rattle.std.proofs.Common.{ap, sym, ◌∙◌, rules}
use Rattle.std.specs.List.{position}
use Rattle.pay_office.specs.declared.waiting.Waiting.{Waiting}
use Rattle.pay_office.proofs.Waited.{is_its, kept, none_first, some_first, none_there}
use Rattle.pay_office.proofs.waiting.keep.Goals as goal

pub returns-then-is_none : goal.returns-then-is_none
returns-then-is_none c =
    kept c.args.answer c.args.waiting.now.items c.deref_mut.result.now c.in-Some.place c.index-deref_mut-place.result _ c.deref_mut.ensures.value
    (ap (position (is_its c.args.answer.ticket)) (sym c.deref.ensures.0) ∙ sym c.place_of.ensures ∙ c.in-Some.is) c.index-deref_mut-place.is (none_first c.index-deref_mut-place.result.answer c.args.answer (search rules))

pub returns-else-is_none : goal.returns-else-is_none
returns-else-is_none c =
    kept c.args.answer c.args.waiting.now.items c.deref_mut.result.now c.in-Some.place c.index-deref_mut-place.result _ c.deref_mut.ensures.value
    (ap (position (is_its c.args.answer.ticket)) (sym c.deref.ensures.0) ∙ sym c.place_of.ensures ∙ c.in-Some.is) c.index-deref_mut-place.is (ap (λ (w : Waiting). w.answer) (sym c.index-deref_mut-place.is) ∙ some_first c.index-deref_mut-place.result.answer c.args.answer (search rules))

pub returns-in_default : goal.returns-in_default
returns-in_default c = none_there c.args.answer c.args.waiting.now.items (ap (position (is_its c.args.answer.ticket)) (sym c.deref.ensures.0) ∙ sym c.place_of.ensures ∙ c.in_default.is)

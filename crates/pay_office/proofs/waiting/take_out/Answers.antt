use Rattle.std.proofs.Common.{ap, sym, ◌∙◌, rules}
use Rattle.std.specs.List.{position}
use Rattle.pay_office.proofs.Waited.{is_its, some_stands, found_at, no_answer, other_answer}
use Rattle.pay_office.proofs.waiting.take_out.Goals.{in_default-answer-via-in-Some-answer+else-is_same_command, in_default-answer-via-in_default-answer}
use Rattle.pay_office.proofs.waiting.take_out.Goals as goal

pub unreachable-requires : goal.unreachable-requires
unreachable-requires c =
    some_stands c.args.ticket c.args.waiting.now.items c.requires (ap (position (is_its c.args.ticket)) (sym c.deref.ensures.0) ∙ sym c.place_of.ensures ∙ c.in_default.is)

pub returns-in-Some-answer-clause-told : goal.returns-in-Some-answer-clause-told
returns-in-Some-answer-clause-told c = (
  c.remove-command.result,
  found_at c.args.ticket c.args.waiting.now.items c.in-Some.place c.remove-command.result (ap (position (is_its c.args.ticket)) (sym c.deref.ensures.0) ∙ sym c.place_of.ensures ∙ c.in-Some.is) c.remove-command.ensures.value,
  search rules,
  search rules,
)

pub returns-in_default-answer-clause-none : goal.returns-in_default-answer-clause-none
returns-in_default-answer-clause-none c =
    let here = found_at c.args.ticket c.args.waiting.now.items c.in-Some.place c.remove-command.result (ap (position (is_its c.args.ticket)) (sym c.deref.ensures.0) ∙ sym c.place_of.ensures ∙ c.in-Some.is) c.remove-command.ensures.value in
    elim c.in_default-answer.branch [
      | in_default-answer-via-in-Some-answer+else-is_same_command w ↦ other_answer c.args.ticket c.args.waiting.now.items c.remove-command.result w.in-Some-answer.answer here (search rules) (λ same. search rules)
      | in_default-answer-via-in_default-answer w ↦ no_answer c.args.ticket c.args.waiting.now.items c.remove-command.result here (search rules)
    ]

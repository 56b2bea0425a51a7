use Rattle.std.proofs.Common.{◌∙◌, [], ap, arith, map as each, sym, vec_items}
use Rattle.std.proofs.lemmas.List.{get_or_past, length-map}
use Rattle.std.proofs.lemmas.Option.{get_or_from_slice_get}
use Rattle.pay_account_lines.specs.Words.{lines_through}
use Rattle.pay_session.specs.Words.{line_requests}
use Rattle.pay_explain_job.proofs.own.line_in.Goals as goal

pub returns-then-place-texts : goal.returns-then-place-texts
returns-then-place-texts c =
    let journals = each vec_items c.args.texts.now in
    c.lines_through.ensures ∙ ap (λ text. lines_through c.args.account c.args.line (line_requests text)) (sym (get_or_from_slice_get journals c.args.journal _ [] c.text_at.ensures))

pub returns-else-place-texts : goal.returns-else-place-texts
returns-else-place-texts c =
    let journals = each vec_items c.args.texts.now in
    let same = length-map c.args.texts.now vec_items in
    let past = c.if-place-texts.false in
    sym (ap (λ text. lines_through c.args.account c.args.line (line_requests text)) (get_or_past journals c.args.journal [] (omega (arith, past, same))))

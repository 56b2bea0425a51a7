use Rattle.std.proofs.Common.{◌++◌, ◌∷◌, [], ap, ◌∙◌}
use Rattle.pay_journal.proofs.HandedOn.{put_none, put_more, is_room}
use Rattle.pay_journal.proofs.ahead.put_lines.Goals as goal

pub loop-line-init : goal.loop-line-init
loop-line-init g c = put_none g.D.Desk.parts c.args.zone.now c.args.desk.now c.args.text.now c.args.tickets.now.items c.requires

-- one more
pub loop-line-preserved : goal.loop-line-preserved
loop-line-preserved g c =
    put_more g.D.Desk.parts c.args.zone.now c.line_by_line.ensures c.args.desk.now c.loop-line.desk c.put_line.new.desk c.args.text.now c.loop-line.ahead.now c.in-Some.line.now c.in-Some.rest.now c.loop-line.tickets.items _
    c.in-Some-put_line.ticket c.loop-line.invariant c.in-Some.ensures.parts c.in-Some.ensures.line c.in-Some-put_line.ensures.put c.put_line.ensures.transcript
    (c.push.ensures.items ∙ ap (λ n. c.loop-line.tickets.items ++ n ∷ []) c.number.ensures) (is_room c.loop-line.tickets c.is_full.result c.is_full.ensures.fits c.is_full.ensures.value c.if-is_full.false)

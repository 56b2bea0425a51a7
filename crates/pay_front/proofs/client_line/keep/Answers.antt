use Rattle.std.proofs.Common.{◌≤◌, ◌-◌, ◌+◌, length, take, min, arith, length-take-le, ap, ◌∙◌, ◌≡◌, ◌++◌}
use Rattle.pay_wire.specs.declared.limits.TheConstants.{MOST_LINE_BYTES}
use Rattle.pay_session.proofs.BegunLines.{take_fitting, holds_if_ok}
use Rattle.pay_front.proofs.client_line.keep.Goals as goal

pub returns : goal.returns
returns c =
    let held = c.args.line.now.items in
    let more = c.args.more.now in
    let short : length held ≤ MOST_LINE_BYTES + 1 = omega (arith, c.len-room.ensures.value, c.len-room.ensures.fits) in
    let fits : length held + length (take c.min.result more) ≤ MOST_LINE_BYTES + 1 = omega (arith, length-take-le c.min.result more, c.min.ensures, c.len-room.ensures.value) in
    let all = holds_if_ok c.try_extend_from_slice.result (c.try_extend_from_slice.ensures.variant.1 fits) c.try_extend_from_slice.ensures.ok in
    let size : c.min.result ≡ min (MOST_LINE_BYTES + 1 - length held) (length more) = c.min.ensures ∙ ap (λ n. min (MOST_LINE_BYTES + 1 - n) (length more)) c.len-room.ensures.value in
    all ∙ ap (λ n. held ++ take n more) size ∙ take_fitting (MOST_LINE_BYTES + 1) held more short

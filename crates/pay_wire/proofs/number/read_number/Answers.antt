use Rattle.std.proofs.Common.{true≢false, arith, sym, ◌∙◌}
use Rattle.pay_wire.proofs.FirstNumbers.{too_large_first, number_first, other_first}
use Rattle.pay_wire.proofs.number.read_number.Goals.{else-is_plain-via-then-is_plain+else-ends_word, else-is_plain-via-else-is_plain}
use Rattle.pay_wire.proofs.number.read_number.Goals as goal

pub returns-then-value-gt-MOST_NUMBER : goal.returns-then-value-gt-MOST_NUMBER
returns-then-value-gt-MOST_NUMBER c =
    let l = c.leading_digits-value.ensures in
    sym (too_large_first c.args.line.now c.leading_digits-value.result.1 l.within l.digits (omega (arith, l.value)))

pub returns-then-ends_word : goal.returns-then-ends_word
returns-then-ends_word c =
    let l = c.leading_digits-value.ensures in
    rw (c.split_at.ensures.back, l.value) (sym (number_first c.args.line.now c.leading_digits-value.result.1 l.within l.digits (omega (arith, l.value)) (sym (rw c.split_at.ensures.front at c.if-is_plain.ensures)) (sym (rw c.split_at.ensures.back at c.if-ends_word.ensures))))

pub returns-else-is_plain : goal.returns-else-is_plain
returns-else-is_plain c =
    let l = c.leading_digits-value.ensures in
    sym (elim c.else-is_plain.branch [
      | else-is_plain-via-then-is_plain+else-ends_word w ↦ other_first c.args.line.now c.leading_digits-value.result.1 l.within l.digits l.end (λ ends. absurd (true≢false (sym ends ∙ sym (rw c.split_at.ensures.back at w.if-ends_word.ensures))))
      | else-is_plain-via-else-is_plain w ↦ other_first c.args.line.now c.leading_digits-value.result.1 l.within l.digits l.end (λ ends. sym (rw c.split_at.ensures.front at w.if-is_plain.ensures))
    ])

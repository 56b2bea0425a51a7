use Rattle.std.proofs.Common.{[], ◌++◌, encode_utf8, sym, ap, ◌∙◌, append_assoc, append-nil, refl}
use Rattle.std.proofs.Output.{has_written_append, has_written_of_eq, writes_in_calls_nil}
use Rattle.std.specs.Str.Iter.{chars_rest}
use Rattle.json.specs.Print.{escape}
use Rattle.pay_json.proofs.Letters.{front, at_end}
use Rattle.pay_json.proofs.strings.EscapedDisplay.fmt.Goals as goal

pub loop-letter-init : goal.loop-letter-init
loop-letter-init g c = λ plain. ([], record { wrote = writes_in_calls_nil _ _; plain = plain }, ap (λ it. escape (chars_rest it)) c.into_iter-letter-iterator.ensures.into_iter_gives ∙ ap escape c.chars-letter-items.ensures.rest)

pub loop-letter-preserved : goal.loop-letter-preserved
loop-letter-preserved g c = λ plain.
    let so_far = c.loop-letter.invariant plain in
    let letter = c.in-Some.letter in (
      so_far.0 ++ escape (encode_utf8 letter),
      has_written_append _ _ _ _ _ _ so_far.1 (c.in_ok-write_letter.ensures so_far.1.plain refl),
      append_assoc so_far.0 (escape (encode_utf8 letter)) _ ∙ ap (λ l. so_far.0 ++ l) (sym (front letter _ _ c.in-Some.ensures.steps.0)) ∙ so_far.2,
    )

pub returns-clause-writes : goal.returns-clause-writes
returns-clause-writes g c = λ plain _.
    let so_far = c.loop-letter.invariant plain in
    has_written_of_eq _ _ _ _ _ (sym (append-nil so_far.0) ∙ ap (λ l. so_far.0 ++ l) (sym (at_end _ c.in-None.ensures.steps.0.0)) ∙ so_far.2) so_far.1

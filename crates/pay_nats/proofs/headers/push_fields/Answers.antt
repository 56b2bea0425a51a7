use Rattle.pay_nats.proofs.Kept.{kept_after}
use Rattle.pay_nats.proofs.headers.push_fields.Goals as goal

pub returns-in_err-push_field-clause-kept : goal.returns-in_err-push_field-clause-kept
returns-in_err-push_field-clause-kept c = kept_after c.args.out.now.items _ c.loop-field.out.items c.push_field.new.out.items c.loop-field.invariant c.push_field.ensures.kept

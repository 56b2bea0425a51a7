use Rattle.pay_jetstream_api.proofs.Read.{as_none}
use Rattle.pay_jetstream_api.proofs.value.value_of.Goals as goal

pub returns-in-Err : goal.returns-in-Err
returns-in-Err c = as_none c.args.text.now c.in-Err.error c.fault_of.result c.in-Err.ensures.err c.fault_of.ensures.memory c.fault_of.ensures.other

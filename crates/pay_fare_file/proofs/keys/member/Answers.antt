use Rattle.toml.proofs.Views.{table_get}
use Rattle.pay_fare_file.proofs.keys.member.Goals as goal

pub returns : goal.returns
returns c = table_get c.get.result c.args.key.now c.args.table.now.entries c.get.ensures.value

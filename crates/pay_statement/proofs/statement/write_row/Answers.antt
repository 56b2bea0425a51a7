use Rattle.std.proofs.Common.{◌≢◌, ◌∙◌}
use Rattle.csv.specs.declared.writer.QuoteStyle.TheVariants as style
use Rattle.pay_statement.proofs.statement.write_row.Goals as goal

pub returns : goal.returns
returns g c =
    let before = c.requires in
    let wrote = c.in_ok-write_fields.ensures in
    let plain : c.args.rows.now.cfg.style ≢ style.NonNumeric = rw before.setup (λ e. cc e) in
    record {
      between = record { setup = wrote.setup ∙ before.setup; fields = wrote.ended; wrote = wrote.clean };
      text = rw before.setup at (wrote.bytes before.fields before.wrote plain);
    }

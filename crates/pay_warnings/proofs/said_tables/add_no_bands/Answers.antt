use Rattle.std.proofs.Common.{◌≡◌, ◌++◌, [], ap, sym, subst, ◌∙◌}
use Rattle.std.proofs.lemmas.List.{append-nil}
use Rattle.toml.specs.View.{table_view}
use Rattle.pay_warnings.specs.Warnings.{all_said, bands_said, unless_any}
use Rattle.pay_warnings.proofs.Bands.{nothing_where_any}
use Rattle.pay_warnings.proofs.said_tables.add_no_bands.Goals as goal

pub returns-in_default : goal.returns-in_default
returns-in_default c =
    let none : bands_said c.args.day (table_view c.args.file.now) ≡ [] = ap (unless_any c.args.day) (sym c.items_in.ensures) ∙ nothing_where_any c.args.day c.items_in.result.now c.in_default.len_at_least in
    subst (λ more. all_said c.args.warnings.now ≡ all_said c.args.warnings.now ++ more) (sym none) (sym (append-nil (all_said c.args.warnings.now)))

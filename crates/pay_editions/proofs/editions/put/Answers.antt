use Rattle.std.proofs.Common.{◌∙◌, ap, sym, List, length, unwrap_or}
use Rattle.std.specs.List.{insert, position}
use Rattle.pay_tables.specs.declared.edition.Edition.{Edition}
use Rattle.pay_fare_file.specs.FareFile.{begins_before}
use Rattle.pay_editions.proofs.PutEditions.{put_where_found}
use Rattle.pay_editions.proofs.editions.put.Goals as goal

pub returns : goal.returns
returns c =
    let items : List Edition = c.args.editions.now.items in
    c.in_ok-insert.ensures.items ∙ ap (λ n. insert items n c.args.edition) (c.unwrap_or-place.ensures ∙ ap (unwrap_or c.first_before.result) (c.len.ensures ∙ sym c.deref.ensures.len ∙ ap length c.deref.ensures.value))
    ∙ put_where_found items c.args.edition c.first_before.result (c.first_before.ensures.value ∙ ap (position (begins_before c.args.edition.day)) c.deref.ensures.value)

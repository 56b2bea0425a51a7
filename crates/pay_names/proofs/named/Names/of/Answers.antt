use Rattle.std.proofs.Common.{◌∙◌, ap, sym, map, Some, option_map}
use Rattle.pay_names.specs.Names.{name_at}
use Rattle.pay_names.proofs.Found.{found, named, name}
use Rattle.pay_names.proofs.named.Names.of.Goals as goal

pub returns-in-Some : goal.returns-in-Some
returns-in-Some c =
    ap Some c.as_str.ensures.value ∙ ap (option_map (λ place. name place.now)) (sym c.in-Some.is) ∙ found c.args.number c.deref.result.now c.first_of.result c.first_of.ensures
    ∙ ap (λ places. name_at c.args.number (map named places)) c.deref.ensures.value ∙ ap (name_at c.args.number) c.self.view_is

pub returns-in-None : goal.returns-in-None
returns-in-None c =
    ap (option_map (λ place. name place.now)) (sym c.in-None.is) ∙ found c.args.number c.deref.result.now c.first_of.result c.first_of.ensures
    ∙ ap (λ places. name_at c.args.number (map named places)) c.deref.ensures.value ∙ ap (name_at c.args.number) c.self.view_is

use Rattle.std.proofs.Common.{ap, sym, ◌∙◌}
use Rattle.std.specs.List.{position}
use Rattle.pay_shard.proofs.LocalDesks.{is_its, some_stands, removed_at, found_at}
use Rattle.pay_shard.proofs.local_desk.take_out.Goals as goal

pub unreachable-requires : goal.unreachable-requires
unreachable-requires c =
    some_stands c.args.ticket c.args.kept.now.items c.requires (ap (position (is_its c.args.ticket)) (sym c.deref.ensures.value) ∙ sym c.place_of.ensures ∙ c.in-None.is)

pub returns-clause-reply : goal.returns-clause-reply
returns-clause-reply c =
    found_at c.args.ticket c.args.kept.now.items c.in-Some.place c.remove.result c.requires (ap (position (is_its c.args.ticket)) (sym c.deref.ensures.value) ∙ sym c.place_of.ensures ∙ c.in-Some.is) c.remove.ensures.value

pub returns-clause-rest : goal.returns-clause-rest
returns-clause-rest c =
    c.remove.ensures.items ∙ removed_at c.args.ticket c.args.kept.now.items c.in-Some.place (ap (position (is_its c.args.ticket)) (sym c.deref.ensures.value) ∙ sym c.place_of.ensures ∙ c.in-Some.is)

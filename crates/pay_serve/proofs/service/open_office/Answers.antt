use Rattle.std.proofs.Common.{◌<◌, ap, sym, subst, ◌∙◌, Err}
use Rattle.std.proofs.lemmas.Result.{err_from_is_err_and}
use Rattle.std.specs.Arc.{arc_value}
use Rattle.pay_serve.proofs.Begun.{in_count, removed, some_lane, one_more, others, first_number, first_new, others_new, office_count, all_have, all_with, new_office}
use Rattle.pay_serve.proofs.ServeCauses.{no_memory, out_of_count, not_begun}
use Rattle.pay_serve.proofs.service.open_office.Goals as goal

-- there is a lane
pub remove-spared-requires : goal.remove-spared-requires
remove-spared-requires g c =
    let begun = c.in_ok-office.ensures in
    let counts = in_count c.args.plan.now.shards c.saturating_add-lanes.result _ (λ out. let e = begun.count.1 out in absurd cc) in
    subst (λ n. 0 < n) (sym c.in_ok-office.lanes.ok.0) (some_lane c.saturating_add-lanes.result c.in_ok-office.lanes.items counts.some_lanes begun.lanes)

pub returns-clause-count : goal.returns-clause-count
returns-clause-count g c =
    let begun = c.in_ok-office.ensures in
    let counts = in_count c.args.plan.now.shards c.saturating_add-lanes.result _ (λ out. let e = begun.count.1 out in absurd cc) in
    others c.saturating_add-lanes.result c.args.plan.now.lanes c.in_ok-office.lanes.items c.remove-spared.new.self.items c.remove-spared.result
    (one_more c.saturating_add-lanes.result c.args.plan.now.lanes c.saturating_add-lanes.ensures counts.few_lanes) begun.lanes
    (removed c.in_ok-office.lanes.items c.remove-spared.new.self.items c.remove-spared.result (some_lane c.saturating_add-lanes.result c.in_ok-office.lanes.items counts.some_lanes begun.lanes) c.remove-spared.ensures.value c.remove-spared.ensures.items)

pub returns-clause-shards : goal.returns-clause-shards
returns-clause-shards g c =
    let begun = c.in_ok-office.ensures in
    let counts = in_count c.args.plan.now.shards c.saturating_add-lanes.result _ (λ out. let e = begun.count.1 out in absurd cc) in
    all_have c.args.plan.now.shards c.in_ok-office.lanes.items c.remove-spared.new.self.items c.remove-spared.result counts.some counts.few begun.new_lanes
    (removed c.in_ok-office.lanes.items c.remove-spared.new.self.items c.remove-spared.result (some_lane c.saturating_add-lanes.result c.in_ok-office.lanes.items counts.some_lanes begun.lanes) c.remove-spared.ensures.value c.remove-spared.ensures.items)

pub returns-clause-spared : goal.returns-clause-spared
returns-clause-spared g c =
    let begun = c.in_ok-office.ensures in
    let counts = in_count c.args.plan.now.shards c.saturating_add-lanes.result _ (λ out. let e = begun.count.1 out in absurd cc) in
    let parts =
    removed c.in_ok-office.lanes.items c.remove-spared.new.self.items c.remove-spared.result (some_lane c.saturating_add-lanes.result c.in_ok-office.lanes.items counts.some_lanes begun.lanes) c.remove-spared.ensures.value c.remove-spared.ensures.items in (
      first_number c.saturating_add-lanes.result c.in_ok-office.lanes.items c.remove-spared.new.self.items c.remove-spared.result counts.some_lanes begun.lanes parts,
      first_new c.args.plan.now.shards _ c.in_ok-office.lanes.items c.remove-spared.new.self.items c.remove-spared.result (office_count c.args.plan.now.shards c.in_ok-office.office begun.workers) begun.new_lanes parts,
    )

pub returns-clause-others : goal.returns-clause-others
returns-clause-others g c =
    let begun = c.in_ok-office.ensures in
    let counts = in_count c.args.plan.now.shards c.saturating_add-lanes.result _ (λ out. let e = begun.count.1 out in absurd cc) in
    others_new c.args.plan.now.shards _ c.in_ok-office.lanes.items c.remove-spared.new.self.items c.remove-spared.result (office_count c.args.plan.now.shards c.in_ok-office.office begun.workers) begun.new_lanes
    (removed c.in_ok-office.lanes.items c.remove-spared.new.self.items c.remove-spared.result (some_lane c.saturating_add-lanes.result c.in_ok-office.lanes.items counts.some_lanes begun.lanes) c.remove-spared.ensures.value c.remove-spared.ensures.items)

pub returns-clause-all : goal.returns-clause-all
returns-clause-all g c =
    let begun = c.in_ok-office.ensures in
    let counts = in_count c.args.plan.now.shards c.saturating_add-lanes.result _ (λ out. let e = begun.count.1 out in absurd cc) in
    all_with (arc_value c.args.editions) c.args.plan.now.shards c.saturating_add-lanes.result c.in_ok-office.office c.in_ok-office.lanes.items c.remove-spared.new.self.items c.remove-spared.result
    counts.some begun.workers begun.new_workers begun.lanes begun.together
    (removed c.in_ok-office.lanes.items c.remove-spared.new.self.items c.remove-spared.result (some_lane c.saturating_add-lanes.result c.in_ok-office.lanes.items counts.some_lanes begun.lanes) c.remove-spared.ensures.value c.remove-spared.ensures.items)

pub returns-clause-new : goal.returns-clause-new
returns-clause-new g c =
    let begun = c.in_ok-office.ensures in
    let counts = in_count c.args.plan.now.shards c.saturating_add-lanes.result _ (λ out. let e = begun.count.1 out in absurd cc) in
    new_office (arc_value c.args.editions) c.args.plan.now.shards c.saturating_add-lanes.result c.in_ok-office.office counts.some begun.workers begun.new_workers

pub returns-in_err-gates-clause-cause : goal.returns-in_err-gates-clause-cause
returns-in_err-gates-clause-cause g c =
    let p = err_from_is_err_and c.from_residual.result c.from_residual.ensures.1 in
    rw p.1 (no_memory c.args.plan.now _ p.2)

pub returns-in_err-office-clause-cause : goal.returns-in_err-office-clause-cause
returns-in_err-office-clause-cause g c =
    let p = err_from_is_err_and c.from_residual-in_err-office.result c.from_residual-in_err-office.ensures.1 in
    rw p.1 (not_begun c.args.plan.now c.saturating_add-lanes.result _ _ _ p.2 c.saturating_add-lanes.ensures (c.in_ok-gates.ensures.count ∙ c.requires) (λ is. c.in_err-office.ensures.count.0 (ap Err is)))

pub returns-clause-within : goal.returns-clause-within
returns-clause-within g c = λ out. let e = c.in_ok-office.ensures.count.1 (out_of_count c.args.plan.now c.saturating_add-lanes.result _ c.saturating_add-lanes.ensures out) in absurd cc

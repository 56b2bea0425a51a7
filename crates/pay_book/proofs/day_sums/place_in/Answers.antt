use Rattle.std.proofs.Common.{rules}
use Rattle.std.proofs.Math.Dec.{ltb}
use Rattle.std.proofs.lemmas.Fn.{always_returns_same}
use Rattle.pay_book.proofs.InStep.{parted, place_found}
use Rattle.pay_book.proofs.day_sums.place_in.Goals as goal

pub returns-clause-place : goal.returns-clause-place
returns-clause-place c =
    let day = c.args.day in
    let days = c.args.days.now in
    place_found day days _ c.partition_point.ensures.bound
    (c.partition_point.ensures.partitioned (λ other. ltb other day) (always_returns_same _ _ _ (λ a r q h. search rules)) (parted day days c.requires))

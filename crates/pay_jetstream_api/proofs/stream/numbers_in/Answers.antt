use Rattle.std.proofs.Common.{◌≡◌, Some, codes, sym, ◌∙◌, refl}
use Rattle.serde_json.specs.View.{view}
use Rattle.pay_jetstream_api.specs.Finding.{number_at}
use Rattle.pay_jetstream_api.specs.StreamNumbers.{numbers_in}
use Rattle.pay_jetstream_api.proofs.stream.numbers_in.Goals as goal

pub returns : goal.returns
unfolding numbers_in
returns c =
    let first : number_at (codes "/state/first_seq") (view c.args.answer.now) ≡ Some c.in_ok-number_at.field-0 = sym c.number_at.ensures ∙ c.in_ok-number_at.was in
    let last : number_at (codes "/state/last_seq") (view c.args.answer.now) ≡ Some c.in_ok-number_at-2.field-0 = sym c.number_at-2.ensures ∙ c.in_ok-number_at-2.was in
    let replicas : number_at (codes "/config/num_replicas") (view c.args.answer.now) ≡ Some c.in_ok-number_at-3.field-0 = sym c.number_at-3.ensures ∙ c.in_ok-number_at-3.was in
    rw (first, last, replicas) refl

-- Workers and lanes that go on.
use Rattle.std.proofs.Common.{◌≡◌, ℕ, suc, ◌≤◌, List, [], ◌∷◌, All, Any, length, Some, slice_get, refl, sym, ap, ◌∙◌, subst, arith}
use Rattle.std.specs.List.{AllZip}
use Rattle.std.proofs.lemmas.List.Elements.{All-nil, All-cons, All-head, All-tail, All-weaker, length_all_zip}
use Rattle.pay_mailbox.specs.Words.{SenderParts}
use Rattle.pay_shard.specs.declared.limits.TheConstants.{MOST_SHARDS}
use Rattle.pay_shard.specs.declared.reply.Answer.{Answer}
use Rattle.pay_lanes.specs.Parts.{LaneParts, WorkerParts}
use Rattle.pay_lanes.specs.Working.{mailboxes, IsSameLane, IsSameWorker}
use Rattle.pay_lanes.specs.Ends.{lanes_of, AreTogether, GoOn, IsWayTo, IsLaneOf, IsWorkerOf}
use Rattle.pay_lanes.proofs.Exchanges.{each_length}
use Rattle.pay_lanes.proofs.Endings.{requests_at}

as_many_ways : (w v : WorkerParts) → IsSameWorker w v → length v.lanes ≡ length w.lanes
as_many_ways w v same = sym (each_length (λ (s : SenderParts Answer). s.mailbox) v.lanes) ∙ (ap length same.lanes ∙ each_length (λ (s : SenderParts Answer). s.mailbox) w.lanes)

pub same_count : (ws vs : List WorkerParts) → AllZip IsSameWorker ws vs → lanes_of vs ≡ lanes_of ws
same_count [] [] same = refl
same_count [] (v ∷ vs) same = absurd same
same_count (w ∷ ws) [] same = absurd same
same_count (w ∷ ws) (v ∷ vs) same = as_many_ways w v same.0

same_workers : (n : ℕ) (ws vs : List WorkerParts) → AllZip IsSameWorker ws vs → All (IsWorkerOf n) ws → All (IsWorkerOf n) vs
same_workers n [] [] same all = All-nil (IsWorkerOf n)
same_workers n [] (v ∷ vs) same all = absurd same
same_workers n (w ∷ ws) [] same all = absurd same
same_workers n (w ∷ ws) (v ∷ vs) same all =
    let first = All-head (IsWorkerOf n) w ws all in
    All-cons (IsWorkerOf n) v vs (as_many_ways w v same.0 ∙ first.0, same.0.back ∙ first.1) (same_workers n ws vs same.1 (All-tail (IsWorkerOf n) w ws all))

same_requests : (ws vs : List WorkerParts) → AllZip IsSameWorker ws vs → requests_at vs ≡ requests_at ws
same_requests [] [] same = refl
same_requests [] (v ∷ vs) same = absurd same
same_requests (w ∷ ws) [] same = absurd same
same_requests (w ∷ ws) (v ∷ vs) same = let first = same.0.requests in let rest = same_requests ws vs same.1 in cc

module _ (l m : LaneParts) (goes : IsSameLane l m) where
  same_ways : (ws vs : List WorkerParts) → AllZip IsSameWorker ws vs → All (IsWayTo l) ws → All (IsWayTo m) vs
  same_ways [] [] same all = All-nil (IsWayTo m)
  same_ways [] (v ∷ vs) same all = absurd same
  same_ways (w ∷ ws) [] same all = absurd same
  same_ways (w ∷ ws) (v ∷ vs) same all =
      All-cons (IsWayTo m) v vs
      (λ mailbox at.
      let was : slice_get (mailboxes w.lanes) l.number ≡ Some mailbox = ap (λ ms. slice_get ms l.number) (sym same.0.lanes) ∙ (ap (λ n. slice_get (mailboxes v.lanes) n) (sym goes.number) ∙ at) in
      All-head (IsWayTo l) w ws all mailbox was ∙ sym goes.answers)
      (same_ways ws vs same.1 (All-tail (IsWayTo l) w ws all))

  same_lane : (ws vs : List WorkerParts) → AllZip IsSameWorker ws vs → IsLaneOf ws l → IsLaneOf vs m
  same_lane ws vs same is = (goes.shards ∙ (is.0 ∙ sym (same_requests ws vs same)), same_ways ws vs same is.1, goes.of_shards is.2)

pub together_still : (ws vs : List WorkerParts) (ls ks : List LaneParts) → AreTogether ws ls → GoOn ws vs ls ks → AreTogether vs ks
together_still ws vs ls ks together on = record {
  few = subst (λ n. n ≤ MOST_SHARDS) (length_all_zip IsSameWorker ws vs on.workers) together.few;
  workers_of = subst (λ n. All (IsWorkerOf n) vs) (sym (same_count ws vs on.workers)) (same_workers (lanes_of ws) ws vs on.workers together.workers_of);
  lanes_of_them = All-weaker (λ after. Any (λ before. IsSameLane before after) ls) (IsLaneOf vs) (λ m some. one m some) ks on.lanes;
}
  where
    one : (m : LaneParts) → Any (λ before. IsSameLane before m) ls → IsLaneOf vs m
    one m some = same_lane some.1 m some.4 ws vs on.workers (subst (IsLaneOf ws) some.3 (together.lanes_of_them some.0 some.1 some.2))

abbrev GoesOn : List LaneParts → LaneParts → Type 0
GoesOn ls after = Any (λ before. IsSameLane before after) ls

one_of_more : (l : LaneParts) (ls : List LaneParts) (m : LaneParts) → GoesOn ls m → GoesOn (l ∷ ls) m
one_of_more l ls m some = (suc some.0, some.1, omega (arith, some.2), some.3, some.4)

each_goes_on : (ls ks : List LaneParts) → AllZip IsSameLane ls ks → All (GoesOn ls) ks
each_goes_on [] [] same = All-nil (GoesOn [])
each_goes_on [] (k ∷ ks) same = absurd same
each_goes_on (l ∷ ls) [] same = All-nil (GoesOn (l ∷ ls))
each_goes_on (l ∷ ls) (k ∷ ks) same =
    All-cons (GoesOn (l ∷ ls)) k ks (0, l, omega arith, refl, same.0) (All-weaker (GoesOn ls) (GoesOn (l ∷ ls)) (λ m some. one_of_more l ls m some) ks (each_goes_on ls ks same.1))

pub all_together_still : (ws vs : List WorkerParts) (ls ks : List LaneParts) → AreTogether ws ls → AllZip IsSameWorker ws vs → AllZip IsSameLane ls ks → AreTogether vs ks
all_together_still ws vs ls ks together workers lanes = together_still ws vs ls ks together (record { workers = workers; lanes = each_goes_on ls ks lanes })

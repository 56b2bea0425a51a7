-- Ends that go on.
use Rattle.std.proofs.Common.{◌≡◌, length, refl, ◌∙◌}
use Rattle.pay_lanes.specs.Parts.{LaneParts, WorkerParts}
use Rattle.pay_lanes.specs.Working.{IsSameLane, IsSameWorker}
use Rattle.pay_lanes.proofs.Turned.{same_length}

pub lane_itself : (l : LaneParts) → IsSameLane l l
lane_itself l = record { number = refl; shards = refl; answers = refl; of_shards = λ h. h }

pub lane_then : (l m n : LaneParts) → IsSameLane l m → IsSameLane m n → IsSameLane l n
lane_then l m n a b = record { number = b.number ∙ a.number; shards = b.shards ∙ a.shards; answers = b.answers ∙ a.answers; of_shards = λ h. b.of_shards (a.of_shards h) }

pub lane_shards : (l m : LaneParts) → IsSameLane l m → length m.shards ≡ length l.shards
lane_shards l m a = same_length m.shards l.shards a.shards

pub worker_itself : (w : WorkerParts) → IsSameWorker w w
worker_itself w = record { number = refl; editions = refl; base = refl; requests = refl; back = refl; lanes = refl; began = refl }

pub worker_then : (w v u : WorkerParts) → IsSameWorker w v → IsSameWorker v u → IsSameWorker w u
worker_then w v u a b = record {
  number = b.number ∙ a.number;
  editions = b.editions ∙ a.editions;
  base = b.base ∙ a.base;
  requests = b.requests ∙ a.requests;
  back = b.back ∙ a.back;
  lanes = b.lanes ∙ a.lanes;
  began = b.began ∙ a.began;
}

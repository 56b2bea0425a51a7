-- Lanes that have gone on, and are back.
use Rattle.std.proofs.Common.{◌≡◌, List, [], ◌∷◌, ◌++◌, refl, sym, subst}
use Rattle.std.specs.Prelude.{IsPermutation}
use Rattle.std.specs.List.{AllZip, range_with_len}
use Rattle.std.proofs.lemmas.List.Elements.{AllZip-push}
use Rattle.pay_lanes.specs.Words.{LaneParts, WorkerParts, IsSameLane, IsSameWorker, AreTogether, lanes_of, numbers}
use Rattle.pay_serve.specs.Lanes.{AreAllWith}

same_numbers : (ls ks : List LaneParts) → AllZip IsSameLane ls ks → numbers ks ≡ numbers ls
same_numbers [] [] same = refl
same_numbers [] (k ∷ ks) same = absurd same
same_numbers (l ∷ ls) [] same = absurd same
same_numbers (l ∷ ls) (k ∷ ks) same = let first = same.0.number in let rest = same_numbers ls ks same.1 in cc

pub workers_same : ((w : WorkerParts) → IsSameWorker w w) → (ws : List WorkerParts) → AllZip IsSameWorker ws ws
workers_same itself [] = tt
workers_same itself (w ∷ ws) = (itself w, workers_same itself ws)

pub lanes_same : ((l : LaneParts) → IsSameLane l l) → (ls : List LaneParts) → AllZip IsSameLane ls ls
lanes_same itself [] = tt
lanes_same itself (l ∷ ls) = (itself l, lanes_same itself ls)

-- Where lanes of an office have gone on, each from the one at its place, and one more has, they are all of the office still.
module _ (in_order : (ws vs : List WorkerParts) (ls ks : List LaneParts) → AreTogether ws ls → AllZip IsSameWorker ws vs → AllZip IsSameLane ls ks → AreTogether vs ks)
    (itself : (w : WorkerParts) → IsSameWorker w w) where
  pub all_back : (office : List WorkerParts) (ls ks : List LaneParts) (l k : LaneParts) → AllZip IsSameLane ls ks → IsSameLane l k → AreAllWith office ls l → AreAllWith office ks k
  all_back office ls ks l k same last all =
      let each : AllZip IsSameLane (ls ++ l ∷ []) (ks ++ k ∷ []) = AllZip-push IsSameLane ls ks l k same last in (
        in_order office office (ls ++ l ∷ []) (ks ++ k ∷ []) all.0 (workers_same itself office) each,
        subst (λ ns. IsPermutation (range_with_len 0 (lanes_of office)) ns) (sym (same_numbers (ls ++ l ∷ []) (ks ++ k ∷ []) each)) all.1,
      )

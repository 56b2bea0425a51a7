-- An office whose lanes are used.
use Rattle.std.proofs.Common.{◌≡◌, List, [], ◌∷◌, ◌++◌, All, IsPermutation, sym, subst, arith}
use Rattle.std.specs.List.{AllZip}
use Rattle.std.proofs.lemmas.List.Elements.{All-append, All-cons}
use Rattle.std.proofs.lemmas.List.Sorted.{All-permutation}
use Rattle.pay_lanes.specs.Ends.{IsLaneOf}
use Rattle.pay_lanes.specs.Words.{LaneParts, WorkerParts, AreTogether, IsSameWorker}
use Rattle.pay_tests.proofs.Together.{of_last}

no_lane : (P : LaneParts → Type 0) → All P []
no_lane P k d within = absurd (omega arith)

-- All lanes of an office are there again: those that were given back, in some order, and the last one.
pub all_back : (office now : List WorkerParts) (ls rest back ks : List LaneParts) (l : LaneParts)
    → AreTogether office ls → now ≡ office → ls ≡ rest ++ l ∷ [] → IsPermutation rest back → ks ≡ back ++ l ∷ [] → AreTogether now ks
all_back office now ls rest back ks l together same is moved more =
    let parts : IsLaneOf office l × All (IsLaneOf office) rest = of_last (IsLaneOf office) rest l (subst (All (IsLaneOf office)) is together.lanes_of_them) in
    subst (λ o. AreTogether o ks) (sym same) (record {
      few = together.few;
      workers_of = together.workers_of;
      lanes_of_them =
          subst (All (IsLaneOf office)) (sym more)
          (All-append (IsLaneOf office) back (l ∷ []) (All-permutation (IsLaneOf office) rest back moved parts.1) (All-cons (IsLaneOf office) l [] parts.0 (no_lane (IsLaneOf office))));
    })

-- workers, of which each is as it was
pub all_stay : ((w : WorkerParts) → IsSameWorker w w) → (ws : List WorkerParts) → AllZip IsSameWorker ws ws
all_stay itself [] = tt
all_stay itself (w ∷ ws) = (itself w, all_stay itself ws)

-- the last lane of an office, without the others
pub last_alone : (office : List WorkerParts) (ls rest : List LaneParts) (l same : LaneParts) → AreTogether office ls → ls ≡ rest ++ l ∷ [] → same ≡ l → AreTogether office (same ∷ [])
last_alone office ls rest l same together is alike = record {
  few = together.few;
  workers_of = together.workers_of;
  lanes_of_them =
      let parts : IsLaneOf office l × All (IsLaneOf office) rest = of_last (IsLaneOf office) rest l (subst (All (IsLaneOf office)) is together.lanes_of_them) in
      subst (λ x. All (IsLaneOf office) (x ∷ [])) (sym alike) (All-cons (IsLaneOf office) l [] parts.0 (no_lane (IsLaneOf office)));
}

-- the lanes of an office, without the last
pub but_the_last : (office : List WorkerParts) (ls rest : List LaneParts) (l : LaneParts) → AreTogether office ls → ls ≡ rest ++ l ∷ [] → AreTogether office rest
but_the_last office ls rest l together is = record {
  few = together.few;
  workers_of = together.workers_of;
  lanes_of_them = (of_last (IsLaneOf office) rest l (subst (All (IsLaneOf office)) is together.lanes_of_them)).1;
}

-- An office that has begun, its lanes, and the one lane more.
use Rattle.std.proofs.Common.{◌≡◌, inl, inr, ℕ, zero, suc, ◌+◌, ◌<◌, ◌≤◌, List, [], ◌∷◌, ◌++◌, All, length, min, refl, sym, ap, ◌∙◌, subst, arith}
use Rattle.std.specs.Prelude.{IsPermutation, remove, slice_index_or}
use Rattle.std.specs.FinMap.{empty}
use Rattle.std.specs.List.{range_with_len}
use Rattle.std.proofs.Math.Nat.{lt_of_not-le}
use Rattle.std.proofs.lemmas.List.Elements.{All-cons, All-head, All-tail, All-weaker}
use Rattle.std.proofs.lemmas.List.FromFn.{length-range_with_len}
use Rattle.std.proofs.lemmas.List.Sorted.{All-permutation, IsPermutation-refl, IsPermutation-trans, IsPermutation-map, IsPermutation-append_comm}
use Rattle.pay_tables.specs.Words.{FareEditions}
use Rattle.pay_shard.specs.declared.limits.TheConstants.{MOST_SHARDS}
use Rattle.pay_lanes.specs.declared.limits.TheConstants.{MOST_LANES}
use Rattle.pay_lanes.specs.Words.{LaneParts, WorkerParts, AreTogether, lanes_of, numbers, shard_numbers, IsOutOfCount, IsNewLane, IsNewWorker}
use Rattle.pay_serve.specs.declared.limits.TheConstants.{SPARED_LANE}
use Rattle.pay_lanes.specs.Ends.{IsLaneOf}
use Rattle.std.proofs.lemmas.List.{length-map}
use Rattle.pay_serve.specs.Lanes.{HasShards, AreAllWith}
use Rattle.pay_serve.specs.Machines.{IsNewOffice}

-- ---- counts that are not out of their ranges

least : (n : ℕ) → (n ≡ 0 → ⊥) → 1 ≤ n
least zero never = absurd (never refl)
least (suc n) never = omega arith

most : (n m : ℕ) → (m < n → ⊥) → n ≤ m
most n m never = let less : n < suc m = lt_of_not-le never in omega (arith, less)

pub record AreInCount (shards lanes : ℕ) : Type 0 where
  pub some : 1 ≤ shards
  pub few : shards ≤ MOST_SHARDS
  pub some_lanes : 1 ≤ lanes
  pub few_lanes : lanes ≤ MOST_LANES

pub in_count : (shards lanes gates : ℕ) → (IsOutOfCount shards lanes gates → ⊥) → AreInCount shards lanes
in_count shards lanes gates never = record {
  some = least shards (λ e. never (inl e));
  few = most shards MOST_SHARDS (λ e. never (inr (inl e)));
  some_lanes = least lanes (λ e. never (inr (inr (inl e))));
  few_lanes = most lanes MOST_LANES (λ e. never (inr (inr (inr (inl e)))));
}

-- ---- the first of a list

pub removed : {X : Type 0} (all rest : List X) (x : X) → 0 < length all → x ≡ slice_index_or all 0 x → rest ≡ remove all 0 → all ≡ x ∷ rest
removed [] rest x some first is = absurd (omega (arith, some))
removed (a ∷ all) rest x some first is = let one : x ≡ a = first in let others : rest ≡ all = is in λ i. sym one i ∷ sym others i

module _ {X : Type 0} (P : X → Type 0) where
  none : All P []
  none k d within = absurd (omega arith)

  -- what holds of a list holds of those before its last one, and of that
  pub of_last : (xs : List X) (x : X) → All P (xs ++ x ∷ []) → All P xs × P x
  of_last [] x all = (none, All-head P x [] all)
  of_last (y ∷ xs) x all =
      let rest : All P xs × P x = of_last xs x (All-tail P y (xs ++ x ∷ []) all) in
      (All-cons P y xs (All-head P y (xs ++ x ∷ []) all) rest.0, rest.1)

-- ---- what has begun

count_of : (n : ℕ) (ls : List LaneParts) → numbers ls ≡ range_with_len 0 n → length ls ≡ n
count_of n ls are = sym (length-map ls (λ (l : LaneParts). l.number)) ∙ (ap length are ∙ length-range_with_len 0 n)

-- there is a first one
pub some_lane : (n : ℕ) (ls : List LaneParts) → 1 ≤ n → numbers ls ≡ range_with_len 0 n → 0 < length ls
some_lane n ls some are = let many = count_of n ls are in omega (arith, some, many)

pub one_more : (n lanes : ℕ) → n ≡ min (lanes + 1) 255 → n ≤ MOST_LANES → n ≡ lanes + 1
one_more n lanes is few = omega (arith, is, few)

-- how many there are beside the first
pub others : (n lanes : ℕ) (ls rest : List LaneParts) (l : LaneParts) → n ≡ lanes + 1 → numbers ls ≡ range_with_len 0 n → ls ≡ l ∷ rest → length rest ≡ lanes
others n lanes ls rest l more are parts =
    let many = count_of n ls are in
    let long : length ls ≡ suc (length rest) = ap length parts in
    omega (arith, more, many, long)

-- its number
pub first_number : (n : ℕ) (ls rest : List LaneParts) (l : LaneParts) → 1 ≤ n → numbers ls ≡ range_with_len 0 n → ls ≡ l ∷ rest → l.number ≡ SPARED_LANE
first_number zero ls rest l some are parts = absurd (omega (arith, some))
first_number (suc n) ls rest l some are parts =
    let both : l.number ∷ numbers rest ≡ 0 ∷ range_with_len 1 n = ap numbers (sym parts) ∙ are in cc

new_has : (shards : ℕ) → 1 ≤ shards → shards ≤ MOST_SHARDS → (l : LaneParts) → IsNewLane shards l → HasShards l
new_has shards some few l is = (subst (λ n. 1 ≤ n) (sym is.shards) some, subst (λ n. n ≤ MOST_SHARDS) (sym is.shards) few)

pub all_have : (shards : ℕ) (ls rest : List LaneParts) (l : LaneParts) → 1 ≤ shards → shards ≤ MOST_SHARDS → All (IsNewLane shards) ls → ls ≡ l ∷ rest → HasShards l × All HasShards rest
all_have shards ls rest l some few all parts =
    let each = subst (All HasShards) parts (All-weaker (IsNewLane shards) HasShards (λ m is. new_has shards some few m is) ls all) in
    (All-head HasShards l rest each, All-tail HasShards l rest each)

pub first_new : (shards count : ℕ) (ls rest : List LaneParts) (l : LaneParts) → shards ≡ count → All (IsNewLane shards) ls → ls ≡ l ∷ rest → IsNewLane count l
first_new shards count ls rest l same all parts = subst (λ n. IsNewLane n l) same (All-head (IsNewLane shards) l rest (subst (All (IsNewLane shards)) parts all))

pub others_new : (shards count : ℕ) (ls rest : List LaneParts) (l : LaneParts) → shards ≡ count → All (IsNewLane shards) ls → ls ≡ l ∷ rest → All (IsNewLane count) rest
others_new shards count ls rest l same all parts = subst (λ n. All (IsNewLane n) rest) same (All-tail (IsNewLane shards) l rest (subst (All (IsNewLane shards)) parts all))

lanes_are : (editions : FareEditions) (shards lanes : ℕ) (office : List WorkerParts) → 1 ≤ shards → shard_numbers office ≡ range_with_len 0 shards → All (IsNewWorker editions lanes) office → lanes_of office ≡ lanes
lanes_are editions shards lanes [] some are all =
    let none : 0 ≡ shards = ap length are ∙ length-range_with_len 0 shards in absurd (omega (arith, some, none))
lanes_are editions shards lanes (w ∷ office) some are all = (All-head (IsNewWorker editions lanes) w office all).lanes

pub office_count : (shards : ℕ) (office : List WorkerParts) → shard_numbers office ≡ range_with_len 0 shards → shards ≡ length office
office_count shards office are = sym (length-range_with_len 0 shards) ∙ (sym (ap length are) ∙ length-map office (λ (w : WorkerParts). w.shard.number))

-- the first one after the others
pub all_with : (editions : FareEditions) (shards lanes : ℕ) (office : List WorkerParts) (ls rest : List LaneParts) (l : LaneParts)
    → 1 ≤ shards → shard_numbers office ≡ range_with_len 0 shards → All (IsNewWorker editions lanes) office → numbers ls ≡ range_with_len 0 lanes → AreTogether office ls → ls ≡ l ∷ rest → AreAllWith office rest l
all_with editions shards lanes office ls rest l some workers new are together parts =
    let count : lanes_of office ≡ lanes = lanes_are editions shards lanes office some workers new in
    let moved : IsPermutation ls (rest ++ l ∷ []) = subst (λ ks. IsPermutation ks (rest ++ l ∷ [])) (sym parts) (IsPermutation-append_comm (l ∷ []) rest) in
    let all : IsPermutation (range_with_len 0 (lanes_of office)) (numbers ls) =
    subst (λ ns. IsPermutation (range_with_len 0 (lanes_of office)) ns) (ap (range_with_len 0) count ∙ sym are) (IsPermutation-refl (range_with_len 0 (lanes_of office))) in (
      record { few = together.few; workers_of = together.workers_of; lanes_of_them = All-permutation (IsLaneOf office) ls (rest ++ l ∷ []) moved together.lanes_of_them },
      IsPermutation-trans _ _ _ all (IsPermutation-map (λ (m : LaneParts). m.number) ls (rest ++ l ∷ []) moved),
    )

-- the office of which the lanes were opened
pub new_office : (editions : FareEditions) (shards lanes : ℕ) (office : List WorkerParts) → 1 ≤ shards → shard_numbers office ≡ range_with_len 0 shards → All (IsNewWorker editions lanes) office → IsNewOffice editions office
new_office editions shards lanes office some are new =
    let many : length office ≡ shards = sym (length-map office (λ (w : WorkerParts). w.shard.number)) ∙ (ap length are ∙ length-range_with_len 0 shards) in record {
      some = omega (arith, some, many);
      numbers = are ∙ ap (range_with_len 0) (sym many);
      editions = All-weaker (IsNewWorker editions lanes) (λ (w : WorkerParts). w.shard.editions ≡ editions) (λ w is. is.editions) office new;
      bases = All-weaker (IsNewWorker editions lanes) (λ (w : WorkerParts). w.shard.base ≡ empty) (λ w is. is.base) office new;
    }

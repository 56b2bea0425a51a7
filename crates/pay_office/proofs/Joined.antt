-- An office that begins and ends.
use Rattle.std.proofs.Common.{◌≡◌, ℕ, zero, suc, Bool, List, [], ◌∷◌, ◌++◌, All, map, length, IsPermutation, refl, sym, ap, ◌∙◌, subst, inl}
use Rattle.std.specs.List.{range_with_len, AllZip}
use Rattle.std.proofs.lemmas.List.Elements.{All-head, All-tail, All-cons, All-weaker}
use Rattle.std.proofs.lemmas.List.Sorted.{All-permutation, IsPermutation-sym, IsPermutation-refl}
use Rattle.pay_tables.specs.Words.{FareEditions}
use Rattle.pay_shard.specs.declared.item.Entry.{Entry}
use Rattle.pay_shard.specs.declared.item.Item.{Item}
use Rattle.pay_lanes.specs.Parts.{LaneParts, WorkerParts}
use Rattle.pay_lanes.specs.Working.{IsSameLane, IsSameWorker}
use Rattle.pay_lanes.specs.Ends.{lanes_of, numbers, AreAll, AreTogether, IsLaneOf, arrived, sent_by, AreKnown, IsAnswered, AreJournalsFrom, IsRight}
use Rattle.pay_lanes.specs.Openings.{IsOutOfCount, IsNewWorker, shard_numbers, began_of}
use Rattle.pay_lanes.specs.Passing.{Passed}
use Rattle.pay_lanes.specs.Gates.{IsFirstOf, HavePassed}
use Rattle.pay_office.specs.Offices.{IsFromNone, HasEnded, HaveLetPass}

-- ---- workers are joined

zipped_more : (ws vs : List WorkerParts) (w v : WorkerParts) → AllZip IsSameWorker ws vs → IsSameWorker w v → AllZip IsSameWorker (ws ++ w ∷ []) (vs ++ v ∷ [])
zipped_more [] [] w v all same = (same, tt)
zipped_more [] (y ∷ vs) w v all same = absurd all
zipped_more (x ∷ ws) [] w v all same = absurd all
zipped_more (x ∷ ws) (y ∷ vs) w v all same = (all.0, zipped_more ws vs w v all.1 same)

mapped_more : {X : Type 0} (f : X → WorkerParts) (xs : List X) (x : X) → map f (xs ++ x ∷ []) ≡ map f xs ++ f x ∷ []
mapped_more f [] x = refl
mapped_more f (y ∷ xs) x = ap (λ l. f y ∷ l) (mapped_more f xs x)

pub as_many : {X Y : Type 0} (f : X → Y) (xs : List X) → length (map f xs) ≡ length xs
as_many f [] = refl
as_many f (x ∷ xs) = ap suc (as_many f xs)

pub one_joined : {X : Type 0} (f : X → WorkerParts) (joined : List X) (x : X) (vs now : List WorkerParts) (v : WorkerParts) → AllZip IsSameWorker (map f joined) vs → IsSameWorker (f x) v → now ≡ vs ++ v ∷ [] → AllZip IsSameWorker (map f (joined ++ x ∷ [])) now
one_joined f joined x vs now v all same more = subst (λ l. AllZip IsSameWorker l now) (sym (mapped_more f joined x)) (subst (AllZip IsSameWorker (map f joined ++ f x ∷ [])) (sym more) (zipped_more (map f joined) vs (f x) v all same))

-- ---- an office begins

pub lanes_begun : (fares : FareEditions) (shards lanes gates : ℕ) (ws : List WorkerParts) → (IsOutOfCount shards lanes gates → ⊥) → shard_numbers ws ≡ range_with_len 0 shards → All (IsNewWorker fares lanes) ws → lanes_of ws ≡ lanes
lanes_begun fares zero lanes gates ws some order new = absurd (some (inl refl))
lanes_begun fares (suc shards) lanes gates [] some order new = cc
lanes_begun fares (suc shards) lanes gates (w ∷ ws) some order new = (All-head (IsNewWorker fares lanes) w ws new).lanes

pub from_none : (fares : FareEditions) (lanes : ℕ) (ws ms : List WorkerParts) → ms ≡ ws → All (IsNewWorker fares lanes) ws → All IsFromNone ms
from_none fares lanes ws ms begun new = subst (All IsFromNone) (sym begun) (All-weaker (IsNewWorker fares lanes) IsFromNone (λ w is. is.base) ws new)

-- ---- an office ends

none_still : (ws vs : List WorkerParts) → AllZip IsSameWorker ws vs → All IsFromNone ws → All IsFromNone vs
none_still [] [] same none = none
none_still [] (v ∷ vs) same none = absurd same
none_still (w ∷ ws) [] same none = absurd same
none_still (w ∷ ws) (v ∷ vs) same none = All-cons IsFromNone v vs (same.0.base ∙ All-head IsFromNone w ws none) (none_still ws vs same.1 (All-tail IsFromNone w ws none))

pub same_began : (ws vs : List WorkerParts) → AllZip IsSameWorker ws vs → began_of vs ≡ began_of ws
same_began [] [] same = refl
same_began [] (v ∷ vs) same = absurd same
same_began (w ∷ ws) [] same = absurd same
same_began (w ∷ ws) (v ∷ vs) same = λ i. same.0.began i ∷ same_began ws vs same.1 i

itself : (ls : List LaneParts) → AllZip IsSameLane ls ls
itself [] = tt
itself (l ∷ ls) = (record { number = refl; shards = refl; answers = refl; of_shards = λ h. h }, itself ls)

module _ (office ws vs : List WorkerParts) (ls sorted : List LaneParts) (begun : ws ≡ office) (together : AreTogether office ls) (same : AllZip IsSameWorker ws vs) (moved : IsPermutation ls sorted) where
  same_office : AllZip IsSameWorker office vs
  same_office = subst (λ l. AllZip IsSameWorker l vs) begun same

  in_order : AreTogether office sorted
  in_order = record { few = together.few; workers_of = together.workers_of; lanes_of_them = All-permutation (IsLaneOf office) ls sorted moved together.lanes_of_them }

  pub together_at_end : ((ws vs : List WorkerParts) (ls ks : List LaneParts) → AreTogether ws ls → AllZip IsSameWorker ws vs → AllZip IsSameLane ls ks → AreTogether vs ks) → AreTogether vs sorted
  together_at_end still = still office vs sorted sorted in_order same_office (itself sorted)

  pub all_at_end : ((ws vs : List WorkerParts) → AllZip IsSameWorker ws vs → lanes_of vs ≡ lanes_of ws) → (count : ℕ) → count ≡ lanes_of ws → numbers sorted ≡ range_with_len 0 count → AreAll vs sorted
  all_at_end same_lanes count is order =
      subst (λ n. IsPermutation (range_with_len 0 n) (numbers sorted)) (is ∙ (ap lanes_of begun ∙ sym (same_lanes office vs same_office)))
      (subst (λ ns. IsPermutation ns (numbers sorted)) order (IsPermutation-refl (numbers sorted)))

  pub has_ended : (journals : List (List Item)) (left : List (List Entry)) → journals ≡ map (λ (w : WorkerParts). w.shard.journal) vs → length left ≡ length vs
      → All (λ (l : LaneParts). arrived l.number vs left ≡ sent_by l) sorted → AreKnown vs left → All (λ (l : LaneParts). All (IsAnswered l) vs) sorted
      → AreJournalsFrom (length vs) 0 (map (λ (w : WorkerParts). w.shard.journal) vs) → All IsRight vs → All IsFromNone ws → HasEnded office ls journals left
  has_ended journals left are many sent known answered asked right none = record {
    workers = vs;
    same = same_office;
    from_none = none_still ws vs same none;
    ends = record {
      journals_are = are;
      many = many;
      sent = All-permutation (λ (l : LaneParts). arrived l.number vs left ≡ sent_by l) sorted ls (IsPermutation-sym ls sorted moved) sent;
      known = known;
      answered = All-permutation (λ (l : LaneParts). All (IsAnswered l) vs) sorted ls (IsPermutation-sym ls sorted moved) answered;
      asked = subst (AreJournalsFrom (length vs) 0) (sym are) asked;
      right = right;
    };
  }

  module _ {G : Type 0} (Holds : G → List Passed → Bool → Type 0) where
    any_order : (ws : List WorkerParts) (gates : List G) → HavePassed Holds sorted ws gates → HavePassed Holds ls ws gates
    any_order [] [] h = tt
    any_order [] (gate ∷ gates) h = absurd h
    any_order (w ∷ ws) [] h = absurd h
    any_order (w ∷ ws) (gate ∷ gates) h = (
      record {
        passed = h.0.passed;
        are = h.0.are;
        gate = h.0.gate;
        taken = All-permutation (IsFirstOf w.shard.number h.0.passed) sorted ls (IsPermutation-sym ls sorted moved) h.0.taken;
      },
      any_order ws gates h.1,
    )

    pub have_let_pass : (journals : List (List Item)) (gates : List G) → journals ≡ map (λ (w : WorkerParts). w.shard.journal) vs → HavePassed Holds sorted vs gates → HaveLetPass Holds office ls journals gates
    have_let_pass journals gates are passed = record { workers = vs; same = same_office; journals_are = are; passed = any_order vs gates passed }

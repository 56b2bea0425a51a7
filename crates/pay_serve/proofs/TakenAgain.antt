-- Texts of journals that are taken again, one after another, and gates that are looked at.
use Rattle.std.proofs.Common.{◌≡◌, inl, inr, ℕ, ◌+◌, ◌<◌, ◌≤◌, zero, suc, Bool, true, false, ◌||◌, List, [], ◌∷◌, map, drop, length, get_or, Result, Ok, Err, refl, sym, ap, ◌∙◌, subst, arith}
use Rattle.std.specs.Prelude.{⊤}
use Rattle.std.proofs.lemmas.List.{drop_more, drop_all, get_or-map}
use Rattle.std.proofs.lemmas.List.Folds.{list_any_none}
use Rattle.jiff.specs.declared.tz.timezone.TimeZone.{TimeZone}
use Rattle.pay_shard.specs.Words.{DeskParts, NothingIsLost}
use Rattle.pay_journal.specs.Words.{IsReplayed, IsEnded}
use Rattle.pay_journal.specs.declared.replaying.Replayed.{Replayed}
use Rattle.pay_journal.specs.declared.replaying.ReplayFault.{ReplayFault}
use Rattle.std.proofs.lemmas.List.{length-map, get_or_default}
use Rattle.pay_serve.specs.KeepingGates.{GateParts}
use Rattle.pay_serve.specs.Journals.{AreTakenAgain, journal_fault, is_one_stuck}
use Rattle.pay_serve.specs.declared.fault.ServeFault.{ServeFault}

-- ---- texts

module _ {D O V : Type 0} (items : V → List ℕ) (zone : TimeZone) (parts : D → DeskParts O) (vs : List V) (place : ℕ) where
  module _ (v : V) (less : place < length vs) (is : v ≡ get_or vs place v) where
    whole : drop place (map items vs) ≡ items v ∷ drop (place + 1) (map items vs)
    whole =
        let many = length-map vs items in
        drop_more (map items vs) place (items v) (omega (arith, many, less)) ∙ ap (λ t. t ∷ drop (place + 1) (map items vs)) (get_or-map items vs place v (items v) less ∙ ap items (sym is))

    pub next_taken : (old new end : D) (it : Replayed) (result : Result ⊤ ServeFault) → IsReplayed zone parts old new (items v) it → NothingIsLost (parts old).transcript (parts new).transcript
        → AreTakenAgain zone parts (place + 1) (drop (place + 1) (map items vs)) (new, end) result → AreTakenAgain zone parts place (drop place (map items vs)) (old, end) result
    next_taken old new end it result replayed kept later = subst (λ ts. AreTakenAgain zone parts place ts (old, end) result) (sym whole) (inl (new, it, replayed, kept, later))

    pub not_taken : (old new : D) (why : ReplayFault) (result : Result ⊤ ServeFault) → IsEnded zone parts old new (items v) why → result ≡ Err (journal_fault place why)
        → AreTakenAgain zone parts place (drop place (map items vs)) (old, new) result
    not_taken old new why result ended told = subst (λ ts. AreTakenAgain zone parts place ts (old, new) result) (sym whole) (inr (why, ended, told))

  pub none_left : (desk : D) → length vs ≤ place → AreTakenAgain zone parts place (drop place (map items vs)) (desk, desk) (Ok tt)
  none_left desk most =
      let many = length-map vs items in subst (λ ts. AreTakenAgain zone parts place ts (desk, desk) (Ok tt)) (sym (drop_all place (map items vs) (omega (arith, many, most)))) refl

-- ---- gates

pub one_is : (gates : List GateParts) (place : ℕ) (gate : GateParts) → place < length gates → gate ≡ get_or gates place gate → gate.stuck ≡ true → is_one_stuck gates ≡ true
one_is [] place gate less is stuck = absurd (omega (arith, less))
one_is (g ∷ gates) zero gate less is stuck = by g.stuck (ap (λ (x : GateParts). x.stuck) (sym is) ∙ stuck)
  where
    by : (b : Bool) → b ≡ true → (b || is_one_stuck gates) ≡ true
    by true e = refl
    by false e = absurd (cc)
one_is (g ∷ gates) (suc place) gate less is stuck = by g.stuck (one_is gates place gate (omega (arith, less)) is stuck)
  where
    by : (b : Bool) → is_one_stuck gates ≡ true → (b || is_one_stuck gates) ≡ true
    by true e = refl
    by false e = e

pub none_is : (gates : List GateParts) (place : ℕ) → length gates ≤ place → ((k : ℕ) → k < place → (d : GateParts) → (get_or gates k d).stuck ≡ false) → false ≡ is_one_stuck gates
none_is gates place most each = sym (list_any_none (λ (g : GateParts). g.stuck) gates (λ k d less. each k (omega (arith, most, less)) d))

pub free_too : (gates : List GateParts) (place : ℕ) (gate : GateParts) → place < length gates → gate ≡ get_or gates place gate → gate.stuck ≡ false → (d : GateParts) → (get_or gates place d).stuck ≡ false
free_too gates place gate less is free d = ap (λ (x : GateParts). x.stuck) (get_or_default gates place d gate less ∙ sym is) ∙ free

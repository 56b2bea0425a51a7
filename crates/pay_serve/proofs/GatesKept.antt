-- What a gate is after one more answer.
use Rattle.std.proofs.Common.{◌≡◌, ◌⊎◌, inl, inr, ℕ, Bool, true, false, List, [], ◌∷◌, ◌++◌, take, Option, refl, sym, ap, ◌∙◌, subst}
use Rattle.std.specs.Prelude.{if◌then◌else◌}
use Rattle.std.specs.Io.KnownBytes.{Appends}
use Rattle.std.proofs.KnownBytes.{Appends-nil, Appends-trans}
use Rattle.std.proofs.lemmas.Grind.{flat_map-append}
use Rattle.std.proofs.lemmas.List.{append-nil}
use Rattle.pay_wire.specs.Words.{AppendsFront}
use Rattle.pay_shard.specs.declared.asked.Asked.{Asked}
use Rattle.pay_shard.specs.declared.asked.Asked.TheVariants as asked
use Rattle.pay_shard.specs.declared.item.Entry.{Entry}
use Rattle.pay_shard.specs.declared.reply.Answer.{Answer}
use Rattle.pay_journal.specs.Words.{line_of, is_quotes, IsRest}
use Rattle.pay_lanes.specs.Words.{Passed, passing}
use Rattle.pay_serve.specs.Keeping.{is_kept, kept_line, kept_lines}
use Rattle.pay_serve.specs.KeepingGates.{GateParts, WereSettled, HoldsPassed}

-- ---- lines

-- what a close asks for has no line
none_of_quotes : (a : Asked) (b : Bool) → is_quotes a ≡ true → (if b then line_of a else []) ≡ []
none_of_quotes (asked.Quotes day shard of) true is = refl
none_of_quotes (asked.Quotes day shard of) false is = refl
none_of_quotes (asked.Tap tap) b is = absurd (cc)
none_of_quotes (asked.Fix fix) b is = absurd (cc)
none_of_quotes (asked.Due account day) b is = absurd (cc)
none_of_quotes (asked.Show account day) b is = absurd (cc)

one_line_more : (passed : List Passed) (p : Passed) → kept_lines (passed ++ p ∷ []) ≡ kept_lines passed ++ kept_line p
one_line_more passed p = flat_map-append (kept_line) passed (p ∷ []) ∙ ap (λ l. kept_lines passed ++ l) (append-nil (kept_line p))

-- ---- a place in a list that got one more at its end

module _ {X : Type 0} where
  before_last : (xs front : List X) (x y : X) (later : List X) → xs ++ x ∷ [] ≡ front ++ y ∷ later → ((front ≡ xs) × (y ≡ x)) ⊎ ((more : List X) × (xs ≡ front ++ y ∷ more))
  before_last [] [] x y later e = let same : x ≡ y = cc in inl (refl, sym same)
  before_last [] (z ∷ []) x y later e = absurd (cc)
  before_last [] (z ∷ w ∷ front) x y later e = absurd (cc)
  before_last (a ∷ xs) [] x y later e = let same : a ≡ y = cc in inr (xs, ap (λ b. b ∷ xs) same)
  before_last (a ∷ xs) (z ∷ front) x y later e =
      let first : a ≡ z = cc in
      let rest : xs ++ x ∷ [] ≡ front ++ y ∷ later = cc in
      by first (before_last xs front x y later rest)
    where
      by : a ≡ z → ((front ≡ xs) × (y ≡ x)) ⊎ ((more : List X) × (xs ≡ front ++ y ∷ more)) → ((z ∷ front ≡ a ∷ xs) × (y ≡ x)) ⊎ ((more : List X) × (a ∷ xs ≡ z ∷ front ++ y ∷ more))
      by first (inl last) = let whole : z ∷ front ≡ a ∷ xs = (λ i. sym first i ∷ last.0 i) in inl (whole, last.1)
      by first (inr sooner) = inr (sooner.0, λ i. first i ∷ sooner.1 i)

  none_there : (front : List X) (y : X) (later : List X) → [] ≡ front ++ y ∷ later → ⊥
  none_there [] y later e = cc
  none_there (x ∷ front) y later e = cc

-- ---- a gate

rest_of_none : (stuck : Bool) (rest : List ℕ) → stuck ≡ false → IsRest stuck rest → rest ≡ []
rest_of_none false rest e is = is
rest_of_none true rest e is = absurd (cc)

module _ {K : Type 0} (holds : K → Option (List ℕ)) (HasFailed IsSettled : K → Type 0) where
  pub holds_none : (held : Option (List ℕ)) → HoldsPassed holds HasFailed IsSettled (record { held_first = held; holds = held; stuck = false }) [] false
  holds_none held = record {
    rest = [];
    bytes = Appends-nil held;
    is_rest = refl;
    settled = λ front p later e quotes. absurd (none_there front p later e);
    is_stuck = refl;
    cause = λ stuck. absurd (cc);
  }

  -- just the lines of what passed, where it is not stuck
  known : (g : GateParts) (passed : List Passed) → g.stuck ≡ false → HoldsPassed holds HasFailed IsSettled g passed false → Appends g.held_first g.holds (kept_lines passed)
  known g passed free it =
      subst (Appends g.held_first g.holds) (ap (λ l. kept_lines passed ++ l) (rest_of_none g.stuck it.rest free it.is_rest) ∙ append-nil (kept_lines passed)) it.bytes

  module _ (g : GateParts) (keeper : K) (entry : Entry) (answer : Answer) (passed : List Passed) (free : g.stuck ≡ false) (it : HoldsPassed holds HasFailed IsSettled g passed false) where
    abbrev p : Passed
    p = (entry, answer)

    settled_then : Appends g.holds (holds keeper) (kept_line p) → (is_quotes entry.command ≡ true → IsSettled keeper)
        → (front : List Passed) (q : Passed) (later : List Passed) → passed ++ p ∷ [] ≡ front ++ q ∷ later → is_quotes q.0.command ≡ true → WereSettled holds IsSettled g.held_first (kept_lines front)
    settled_then line settles front q later e quotes = by (before_last passed front p q later e)
      where
        by : ((front ≡ passed) × (q ≡ p)) ⊎ ((more : List Passed) × (passed ≡ front ++ q ∷ more)) → WereSettled holds IsSettled g.held_first (kept_lines front)
        by (inl last) =
            let its : is_quotes entry.command ≡ true = ap (λ (r : Passed). is_quotes r.0.command) (sym last.1) ∙ quotes in
            let none : kept_line p ≡ [] = none_of_quotes entry.command (is_kept p) its in
            let all : Appends g.held_first (holds keeper) (kept_lines passed ++ kept_line p) = Appends-trans g.held_first g.holds (holds keeper) _ _ (known g passed free it) line in
            (keeper, settles its, subst (Appends g.held_first (holds keeper)) (ap (λ l. kept_lines passed ++ l) none ∙ append-nil (kept_lines passed) ∙ ap (kept_lines) (sym last.0)) all)
        by (inr sooner) = it.settled front q sooner.0 sooner.1 quotes

    -- the answer passes
    pub holds_more : Appends g.holds (holds keeper) (kept_line p) → (is_quotes entry.command ≡ true → IsSettled keeper)
        → HoldsPassed holds HasFailed IsSettled (record { held_first = g.held_first; holds = holds keeper; stuck = g.stuck }) (passed ++ passing true entry answer) false
    holds_more line settles =
        let all : Appends g.held_first (holds keeper) (kept_lines passed ++ kept_line p) = Appends-trans g.held_first g.holds (holds keeper) _ _ (known g passed free it) line in record {
          rest = [];
          bytes = subst (Appends g.held_first (holds keeper)) (sym (one_line_more passed p) ∙ sym (append-nil (kept_lines (passed ++ p ∷ [])))) all;
          is_rest = subst (λ b. IsRest b []) (sym free) refl;
          settled = settled_then line settles;
          is_stuck = free;
          cause = it.cause;
        }

    -- it does not
    pub holds_no_more : AppendsFront g.holds (holds keeper) (line_of entry.command) → HasFailed keeper
        → HoldsPassed holds HasFailed IsSettled (record { held_first = g.held_first; holds = holds keeper; stuck = true }) (passed ++ passing false entry answer) true
    holds_no_more front failed =
        let rest = take front.0 (line_of entry.command) in
        let all : Appends g.held_first (holds keeper) (kept_lines passed ++ rest) = Appends-trans g.held_first g.holds (holds keeper) _ _ (known g passed free it) front.1 in record {
          rest = rest;
          bytes = subst (λ l. Appends g.held_first (holds keeper) (kept_lines l ++ rest)) (sym (append-nil passed)) all;
          is_rest = (entry.command, front.0, refl);
          settled = λ before q later e quotes. it.settled before q later (sym (append-nil passed) ∙ e) quotes;
          is_stuck = refl;
          cause = λ stuck. (keeper, failed);
        }

  -- what is stuck has refused
  pub never_asked : (g : GateParts) (passed : List Passed) → g.stuck ≡ true → HoldsPassed holds HasFailed IsSettled g passed false → ⊥
  never_asked g passed stuck it = let free = it.is_stuck in cc

-- There is one paying set, and `marks_after` computes it.
use Rattle.std.proofs.Common.{◌≡◌, ℕ, suc, zero, ◌+◌, ◌<◌, ◌↔◌, Bool, true, false, List, [], ◌∷◌, length, slice_index, nat_lt, if◌then◌else◌, ◌&&◌, Some, refl, arith}
use Rattle.std.proofs.lemmas.Bool.Decides.{nat_tests}
use Rattle.pay_rules.specs.Hopper.{Pays, IsWithin, IsPayingSet, pays_after, marks_after, paying_marks}

-- all of these instants are more than `hopper` seconds before this one
abbrev AreLongBefore : ℕ → List ℕ → ℕ → Type 0
AreLongBefore hopper [] utc = Unit {0}
AreLongBefore hopper (earlier ∷ rest) utc = (earlier + hopper < utc) × AreLongBefore hopper rest utc

-- a conjunction holds by its parts
both : (a b : Bool) → (a && b) ≡ true → (a ≡ true) × (b ≡ true)
both true b h = (refl, h)
both false b h = cc

-- where the test passes, all are long before
long_before : (hopper : ℕ) (paid : List ℕ) (utc : ℕ) → pays_after hopper paid utc ≡ true → AreLongBefore hopper paid utc
long_before hopper [] utc h = tt
long_before hopper (earlier ∷ rest) utc h =
    let parts = both (nat_lt (earlier + hopper) utc) (pays_after hopper rest utc) h in
    (grind (arith, nat_tests, parts.0), long_before hopper rest utc parts.1)

-- and where all are long before, the test passes
pays_long_after : (hopper : ℕ) (paid : List ℕ) (utc : ℕ) → AreLongBefore hopper paid utc → pays_after hopper paid utc ≡ true
pays_long_after hopper [] utc h = refl
pays_long_after hopper (earlier ∷ rest) utc h =
    let first : nat_lt (earlier + hopper) utc ≡ true = grind (arith, nat_tests, h.0) in
    rw first (pays_long_after hopper rest utc h.1)

-- the rule, where instants before these were paid for
record IsPayingAfter (hopper : ℕ) (paid : List ℕ) (utcs : List ℕ) (marks : List Bool) : Type 0 where
  one_each : length marks ≡ length utcs
  rule : (i : ℕ) → i < length utcs →
      Pays marks i ↔
      (AreLongBefore hopper paid (slice_index utcs i) × ((j : ℕ) → j < i → Pays marks j → IsWithin hopper utcs j i → ⊥))

-- none is within, where a paying tap is put before the others
none_within : (hopper utc : ℕ) (later : List ℕ) (marks : List Bool) (i : ℕ) → utc + hopper < slice_index later i →
    ((j : ℕ) → j < i → Pays marks j → IsWithin hopper later j i → ⊥) →
    (j : ℕ) → j < suc i → Pays (true ∷ marks) j → IsWithin hopper (utc ∷ later) j (suc i) → ⊥
none_within hopper utc later marks i first rest zero l p w = omega arith
none_within hopper utc later marks i first rest (suc j) l p w = rest j (omega arith) p w

-- the same, where a free tap is put before them
none_within_free : (hopper utc : ℕ) (later : List ℕ) (marks : List Bool) (i : ℕ) →
    ((j : ℕ) → j < i → Pays marks j → IsWithin hopper later j i → ⊥) →
    (j : ℕ) → j < suc i → Pays (false ∷ marks) j → IsWithin hopper (utc ∷ later) j (suc i) → ⊥
none_within_free hopper utc later marks i rest zero l p w = cc
none_within_free hopper utc later marks i rest (suc j) l p w = rest j (omega arith) p w

-- the rule of taps where a paying one is put before them
rule_paying : (hopper : ℕ) (paid : List ℕ) (utc : ℕ) (later : List ℕ) (marks : List Bool) →
    AreLongBefore hopper paid utc → IsPayingAfter hopper (utc ∷ paid) later marks →
    (i : ℕ) → i < length (utc ∷ later) →
    Pays (true ∷ marks) i ↔
    (AreLongBefore hopper paid (slice_index (utc ∷ later) i) × ((j : ℕ) → j < i → Pays (true ∷ marks) j → IsWithin hopper (utc ∷ later) j i → ⊥))
rule_paying hopper paid utc later marks clear rest zero l = (λ _. (clear, λ j h. absurd (omega arith)), λ _. refl)
rule_paying hopper paid utc later marks clear rest (suc i) l =
    let here = rest.rule i (omega arith) in (
      λ p. let q = here.0 p in (q.0.1, none_within hopper utc later marks i q.0.0 q.1),
      λ q. let far = q.1 0 (omega arith) refl in
          let first : utc + hopper < slice_index later i = omega arith in
          here.1 ((first, q.0), λ j h p. q.1 (suc j) (omega arith) p),
    )

-- the same, where a free one is put before them
rule_free : (hopper : ℕ) (paid : List ℕ) (utc : ℕ) (later : List ℕ) (marks : List Bool) →
    (AreLongBefore hopper paid utc → ⊥) → IsPayingAfter hopper paid later marks →
    (i : ℕ) → i < length (utc ∷ later) →
    Pays (false ∷ marks) i ↔
    (AreLongBefore hopper paid (slice_index (utc ∷ later) i) × ((j : ℕ) → j < i → Pays (false ∷ marks) j → IsWithin hopper (utc ∷ later) j i → ⊥))
rule_free hopper paid utc later marks near rest zero l = (λ p. cc, λ q. absurd (near q.0))
rule_free hopper paid utc later marks near rest (suc i) l =
    let here = rest.rule i (omega arith) in (
      λ p. let q = here.0 p in (q.0, none_within_free hopper utc later marks i q.1),
      λ q. here.1 (q.0, λ j h p. q.1 (suc j) (omega arith) p),
    )

-- one more tap in front, by whether it pays
step : (hopper : ℕ) (paid : List ℕ) (utc : ℕ) (later : List ℕ) (marks : List Bool) (pays : Bool) →
    pays_after hopper paid utc ≡ pays →
    IsPayingAfter hopper (if pays then utc ∷ paid else paid) later marks →
    IsPayingAfter hopper paid (utc ∷ later) (pays ∷ marks)
step hopper paid utc later marks true h rest = record {
  one_each = omega (arith, rest.one_each);
  rule = rule_paying hopper paid utc later marks (long_before hopper paid utc h) rest;
}
step hopper paid utc later marks false h rest = record {
  one_each = omega (arith, rest.one_each);
  rule = rule_free hopper paid utc later marks (λ far. let there = pays_long_after hopper paid utc far in cc) rest;
}

-- what is computed meets the rule
marks_after_is : (hopper : ℕ) (paid utcs : List ℕ) → IsPayingAfter hopper paid utcs (marks_after hopper paid utcs)
marks_after_is hopper paid [] = record { one_each = refl; rule = λ i l. absurd (omega arith) }
marks_after_is hopper paid (utc ∷ later) =
    let pays = pays_after hopper paid utc in
    step hopper paid utc later (marks_after hopper (if pays then utc ∷ paid else paid) later) pays refl
    (marks_after_is hopper (if pays then utc ∷ paid else paid) later)

-- what is computed is a paying set
pub paying_marks_is : (hopper : ℕ) (utcs : List ℕ) → IsPayingSet hopper utcs (paying_marks hopper utcs)
paying_marks_is hopper utcs =
    let computed = marks_after_is hopper [] utcs in
    record {
      one_each = computed.one_each;
      rule = λ i l. (λ p. ((computed.rule i l).0 p).1, λ q. (computed.rule i l).1 (tt, q));
    }

-- two paying sets agree on each tap, since they agree on those before it
agree : (hopper : ℕ) (utcs : List ℕ) (marks others : List Bool) →
    IsPayingSet hopper utcs marks → IsPayingSet hopper utcs others →
    (n i : ℕ) → i < n → i < length utcs → Pays marks i ↔ Pays others i
agree hopper utcs marks others a b zero i l within = absurd (omega arith)
agree hopper utcs marks others a b (suc n) i l within = (
  λ p. (b.rule i within).1 (λ j h q. (a.rule i within).0 p j h ((agree hopper utcs marks others a b n j (omega arith) (omega arith)).1 q)),
  λ p. (a.rule i within).1 (λ j h q. (b.rule i within).0 p j h ((agree hopper utcs marks others a b n j (omega arith) (omega arith)).0 q)),
)

-- tests that pass together are the same
same_head : (a b : Bool) → ((a ≡ true) ↔ (b ≡ true)) → a ≡ b
same_head true true h = refl
same_head true false h = let e = h.0 refl in cc
same_head false true h = let e = h.1 refl in cc
same_head false false h = refl

-- the same of a mark that is there
inner : (a b : Bool) → (Some a ≡ Some true) ↔ (Some b ≡ Some true) → (a ≡ true) ↔ (b ≡ true)
inner a b h = (λ e. let f = h.0 (cc) in cc, λ e. let f = h.1 (cc) in cc)

-- marks that agree on each tap are the same
same_marks : (marks others : List Bool) → length marks ≡ length others →
    ((i : ℕ) → i < length marks → Pays marks i ↔ Pays others i) → marks ≡ others
same_marks [] [] e h = refl
same_marks [] (b ∷ bs) e h = absurd (omega arith)
same_marks (a ∷ as') [] e h = absurd (omega arith)
same_marks (a ∷ as') (b ∷ bs) e h =
    let head = same_head a b (inner a b (h 0 (omega arith))) in
    let rest = same_marks as' bs (omega arith) (λ i l. h (suc i) (omega arith)) in
    cc

-- there is one paying set
pub one_paying_set : (hopper : ℕ) (utcs : List ℕ) (marks others : List Bool) →
    IsPayingSet hopper utcs marks → IsPayingSet hopper utcs others → marks ≡ others
one_paying_set hopper utcs marks others a b =
    same_marks marks others (omega (arith, a.one_each, b.one_each))
    (λ i l. agree hopper utcs marks others a b (suc i) i (omega arith) (omega (arith, a.one_each)))

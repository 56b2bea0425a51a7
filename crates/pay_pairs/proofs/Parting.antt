-- There is one parting of taps, and `legs` computes it.
use Rattle.std.proofs.Common.{◌≡◌, Bool, true, false, List, [], ◌∷◌, ◌++◌, ◌&&◌, if◌then◌else◌, refl}
use Rattle.std.proofs.lemmas.List.{append_assoc}
use Rattle.std.proofs.lemmas.List.Elements.{All-nil, All-cons, All-head, All-tail}
use Rattle.pay_tables.specs.Words.{FareEditions}
use Rattle.pay_rules.specs.declared.tap.Kind.{Kind}
use Rattle.pay_rules.specs.declared.tap.Kind.TheVariants.{In, Out, Bus}
use Rattle.pay_rules.specs.declared.tap.Touch.{Touch}
use Rattle.pay_rules.specs.Taps.{same_kind}
use Rattle.pay_rules.specs.declared.parts.Leg.{Leg}
use Rattle.pay_rules.specs.declared.parts.RailPart.{RailPart}
use Rattle.pay_rules.specs.declared.parts.RailPart.TheVariants as part
use Rattle.pay_rules.specs.Legs.{is_leg, leg, legs, taps_of_part, taps_of, IsPart, HasLeg, AreParts}

-- ---- what is computed is a parting

-- the test of a leg tells the kinds of its taps
in_then_out : (first second : Kind) (near : Bool) → (same_kind first In && same_kind second Out && near) ≡ true → (first ≡ In) × (second ≡ Out)
in_then_out In Out near h = (refl, refl)
in_then_out In In near h = cc
in_then_out In Bus near h = cc
in_then_out Out second near h = cc
in_then_out Bus second near h = cc

-- an exit is no entry of a next leg
exit_is_no_entry : (editions : FareEditions) (entry exit next : Touch) → is_leg editions entry exit ≡ true → is_leg editions exit next ≡ true → ⊥
exit_is_no_entry editions entry exit next h k =
    let out = (in_then_out entry.kind exit.kind _ h).1 in
    let in' = (in_then_out exit.kind next.kind _ k).0 in
    cc

-- so no leg begins with an exit
pub no_leg_after : (editions : FareEditions) (entry exit next : Touch) → is_leg editions entry exit ≡ true → is_leg editions exit next ≡ false
no_leg_after editions entry exit next h = not_both (is_leg editions exit next) refl
  where
    not_both : (together : Bool) → is_leg editions exit next ≡ together → together ≡ false
    not_both true k = absurd (exit_is_no_entry editions entry exit next h k)
    not_both false k = refl

-- two taps that are a leg, before a parting
leg_first : (editions : FareEditions) (entry exit : Touch) (taps : List Touch) (parts : List RailPart) →
    is_leg editions entry exit ≡ true → AreParts editions taps parts → AreParts editions (entry ∷ exit ∷ taps) (leg entry exit ∷ parts)
leg_first editions entry exit taps parts h rest = record {
  each_tap = cc (rest.each_tap);
  each_part = All-cons (IsPart editions) _ _ h rest.each_part;
  each_leg = beyond;
} where
  beyond : (before after : List Touch) (a b : Touch) → entry ∷ exit ∷ taps ≡ before ++ a ∷ b ∷ after → is_leg editions a b ≡ true →
      HasLeg (leg entry exit ∷ parts) before a b
  beyond [] after a b e k = ([], parts, cc, refl)
  beyond (x ∷ []) after a b e k = absurd (exit_is_no_entry editions entry exit b h (cc))
  beyond (x ∷ y ∷ before) after a b e k =
      let there = rest.each_leg before after a b (cc) k in
      (leg entry exit ∷ there.0, there.1, cc (there.2), cc (there.3))

-- a tap that is no leg with the next one, before a parting
lone_first : (editions : FareEditions) (tap next : Touch) (taps : List Touch) (parts : List RailPart) →
    is_leg editions tap next ≡ false → AreParts editions (next ∷ taps) parts → AreParts editions (tap ∷ next ∷ taps) (part.Lone tap ∷ parts)
lone_first editions tap next taps parts h rest = record {
  each_tap = cc (rest.each_tap);
  each_part = All-cons (IsPart editions) _ _ tt rest.each_part;
  each_leg = beyond;
} where
  beyond : (before after : List Touch) (a b : Touch) → tap ∷ next ∷ taps ≡ before ++ a ∷ b ∷ after → is_leg editions a b ≡ true →
      HasLeg (part.Lone tap ∷ parts) before a b
  beyond [] after a b e k = cc
  beyond (x ∷ before) after a b e k =
      let there = rest.each_leg before after a b (cc) k in
      (part.Lone tap ∷ there.0, there.1, cc (there.2), cc (there.3))

no_taps : (editions : FareEditions) → AreParts editions [] []
no_taps editions = record { each_tap = refl; each_part = All-nil (IsPart editions); each_leg = beyond } where
  beyond : (before after : List Touch) (a b : Touch) → [] ≡ before ++ a ∷ b ∷ after → is_leg editions a b ≡ true → HasLeg [] before a b
  beyond [] after a b e k = cc
  beyond (x ∷ before) after a b e k = cc

one_tap : (editions : FareEditions) (tap : Touch) → AreParts editions (tap ∷ []) (part.Lone tap ∷ [])
one_tap editions tap = record { each_tap = refl; each_part = All-cons (IsPart editions) (part.Lone tap) [] tt (All-nil (IsPart editions)); each_leg = beyond } where
  beyond : (before after : List Touch) (a b : Touch) → tap ∷ [] ≡ before ++ a ∷ b ∷ after → is_leg editions a b ≡ true → HasLeg (part.Lone tap ∷ []) before a b
  beyond [] after a b e k = cc
  beyond (x ∷ []) after a b e k = cc
  beyond (x ∷ y ∷ before) after a b e k = cc

-- the same by whether the first two are a leg
by_first_two : (editions : FareEditions) (tap next : Touch) (later : List Touch) (together : Bool) → is_leg editions tap next ≡ together →
    AreParts editions later (legs editions later) → AreParts editions (next ∷ later) (legs editions (next ∷ later)) →
    AreParts editions (tap ∷ next ∷ later) (if together then leg tap next ∷ legs editions later else part.Lone tap ∷ legs editions (next ∷ later))
by_first_two editions tap next later true h both one = leg_first editions tap next later (legs editions later) h both
by_first_two editions tap next later false h both one = lone_first editions tap next later (legs editions (next ∷ later)) h one

pub legs_are_parts : (editions : FareEditions) (taps : List Touch) → AreParts editions taps (legs editions taps)
legs_are_parts editions [] = no_taps editions
legs_are_parts editions (tap ∷ []) = one_tap editions tap
legs_are_parts editions (tap ∷ next ∷ later) =
    by_first_two editions tap next later (is_leg editions tap next) refl (legs_are_parts editions later) (legs_are_parts editions (next ∷ later))

pub are_parts : (editions : FareEditions) (taps : List Touch) (parts : List RailPart) → parts ≡ legs editions taps → AreParts editions taps parts
are_parts editions taps parts e = rw e (legs_are_parts editions taps)

-- ---- and there is no other

-- a leg after a first part stands among the others
among_others : (p : RailPart) (parts : List RailPart) (before : List Touch) (entry exit : Touch) →
    HasLeg (p ∷ parts) (taps_of_part p ++ before) entry exit → HasLeg parts before entry exit
among_others (part.Lone tap) parts before entry exit ([], back, e, f) = cc
among_others (part.Leg l) parts before entry exit ([], back, e, f) = cc
among_others (part.Lone tap) parts before entry exit (part.Leg other ∷ front, back, e, f) = cc
among_others (part.Leg l) parts before entry exit (part.Lone other ∷ front, back, e, f) = cc
among_others (part.Lone tap) parts before entry exit (part.Lone other ∷ front, back, e, f) = (front, back, cc, cc)
among_others (part.Leg l) parts before entry exit (part.Leg other ∷ front, back, e, f) = (front, back, cc, cc)

-- the parts after a first one are a parting of their taps
rest_are : (editions : FareEditions) (p : RailPart) (parts : List RailPart) (taps rest : List Touch) →
    AreParts editions taps (p ∷ parts) → taps_of parts ≡ rest → AreParts editions rest parts
rest_are editions p parts taps rest h r = record {
  each_tap = r;
  each_part = All-tail (IsPart editions) p parts h.each_part;
  each_leg = λ before after a b e k.
      among_others p parts before a b
      (h.each_leg (taps_of_part p ++ before) after a b (cc (h.each_tap, e, r, append_assoc (taps_of_part p) before (a ∷ b ∷ after))) k);
}

-- the first leg does not begin with a first tap that is alone
alone : (tap : Touch) (parts : List RailPart) (entry exit : Touch) → HasLeg (part.Lone tap ∷ parts) [] entry exit → ⊥
alone tap parts entry exit ([], back, e, f) = cc
alone tap parts entry exit (part.Lone other ∷ front, back, e, f) = cc
alone tap parts entry exit (part.Leg other ∷ front, back, e, f) = cc

-- a first tap is not alone in one parting and in a leg in another
not_alone_too : (editions : FareEditions) (taps : List Touch) (tap : Touch) (l : Leg) (parts others : List RailPart) →
    AreParts editions taps (part.Lone tap ∷ parts) → AreParts editions taps (part.Leg l ∷ others) → ⊥
not_alone_too editions taps tap l parts others h k =
    alone tap parts l.entry l.exit (h.each_leg [] (taps_of others) l.entry l.exit (cc (k.each_tap)) (All-head (IsPart editions) (part.Leg l) others k.each_part))

-- legs of the same two taps are the same
same_leg : (a b : Leg) → a.entry ≡ b.entry → a.exit ≡ b.exit → part.Leg a ≡ part.Leg b
same_leg a b e f = same a.entry b.entry a.exit b.exit e f where
  same : (entry other_entry exit other_exit : Touch) → entry ≡ other_entry → exit ≡ other_exit → leg entry exit ≡ leg other_entry other_exit
  same entry other_entry exit other_exit e f = cc

pub one_parting : (editions : FareEditions) (taps : List Touch) (parts others : List RailPart) →
    AreParts editions taps parts → AreParts editions taps others → parts ≡ others
one_parting editions taps [] [] h k = refl
one_parting editions taps [] (part.Lone tap ∷ others) h k = cc (h.each_tap, k.each_tap)
one_parting editions taps [] (part.Leg l ∷ others) h k = cc (h.each_tap, k.each_tap)
one_parting editions taps (part.Lone tap ∷ parts) [] h k = cc (h.each_tap, k.each_tap)
one_parting editions taps (part.Leg l ∷ parts) [] h k = cc (h.each_tap, k.each_tap)
one_parting editions taps (part.Lone tap ∷ parts) (part.Leg l ∷ others) h k = absurd (not_alone_too editions taps tap l parts others h k)
one_parting editions taps (part.Leg l ∷ parts) (part.Lone tap ∷ others) h k = absurd (not_alone_too editions taps tap l others parts k h)
one_parting editions taps (part.Lone tap ∷ parts) (part.Lone other ∷ others) h k =
    let same = one_parting editions (taps_of parts) parts others (rest_are editions _ parts taps _ h refl) (rest_are editions _ others taps _ k (cc (h.each_tap, k.each_tap))) in
    cc (h.each_tap, k.each_tap, same)
one_parting editions taps (part.Leg l ∷ parts) (part.Leg other ∷ others) h k =
    let same = one_parting editions (taps_of parts) parts others (rest_are editions _ parts taps _ h refl) (rest_are editions _ others taps _ k (cc (h.each_tap, k.each_tap))) in
    let first = same_leg l other (cc (h.each_tap, k.each_tap)) (cc (h.each_tap, k.each_tap)) in
    cc (first, same)

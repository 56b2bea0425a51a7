-- Lanes for which threads are asked, one after another.
use Rattle.std.proofs.Common.{◌≡◌, suc, ◌<◌, Bool, true, false, List, [], ◌∷◌, ◌++◌, All, length, Option, Some, None, IfSome, refl, sym, ap, ◌∙◌, subst, append_assoc, arith, length-append}
use Rattle.std.specs.Prelude.{is_some, not}
use Rattle.std.specs.List.{AllZip}
use Rattle.std.proofs.lemmas.List.Elements.{All-tail}
use Rattle.std.proofs.lemmas.Slice.Zip.{AllZip-long}
use Rattle.jiff.specs.declared.tz.timezone.TimeZone.{TimeZone}
use Rattle.pay_session.specs.declared.port.Role.{Role}
use Rattle.pay_lanes.specs.Words.{LaneParts, IsSameLane}
use Rattle.pay_serve.specs.Begins.{HasGoneIf}
use Rattle.pay_serve.specs.Lanes.{HasGoneOn}
use Rattle.pay_serve.specs.TriedLanes.{IsTried, IsInformed, IsToldOf, GivesBack, first_of, first_refused, refused_of}
use Rattle.pay_serve.specs.declared.begins.LaneFault.{LaneFault}
use Rattle.pay_serve.specs.declared.lanes.Tried.{Tried}
use Rattle.pay_serve.specs.declared.lanes.Informed.{Informed}

-- a list beside another, and one more of each
pub one_more_of_each : {A B : Type 0} (R : A → B → Type 0) (xs : List A) (ys : List B) (x : A) (y : B) → AllZip R xs ys → R x y → AllZip R (xs ++ x ∷ []) (ys ++ y ∷ [])
one_more_of_each R [] [] x y all one = (one, tt)
one_more_of_each R [] (z ∷ ys) x y all one = absurd all
one_more_of_each R (z ∷ xs) [] x y all one = absurd all
one_more_of_each R (z ∷ xs) (w ∷ ys) x y all one = (all.0, one_more_of_each R xs ys x y all.1 one)

-- some of all were tried, and the others have what each is tried with
pub record AreTriedSoFar {A B C : Type 0} (P : B → Type 0) (R : B → C → Type 0) (all : List B) (now : List C) (fs : List A) (bs : List B) : Type 0 where
  pub done : List B
  pub parts : done ++ bs ≡ all
  pub alike : length fs ≡ length bs
  pub holds : All P bs
  pub tried : AllZip R done now

module _ {A B C : Type 0} (P : B → Type 0) (R : B → C → Type 0) where
  pub none_tried : (now : List C) (fs : List A) (bs all : List B) → now ≡ [] → bs ≡ all → length fs ≡ length bs → All P bs → AreTriedSoFar P R all now fs bs
  none_tried now fs bs all none same alike holds = record { done = []; parts = same; alike = alike; holds = holds; tried = subst (AllZip R []) (sym none) tt }

  pub next_tried : (now new : List C) (all : List B) (fs more : List A) (bs rest : List B) (a : A) (b : B) (made : C) → fs ≡ a ∷ more → bs ≡ b ∷ rest → R b made → new ≡ now ++ made ∷ []
      → AreTriedSoFar P R all now fs bs → AreTriedSoFar P R all new more rest
  next_tried now new all fs more bs rest a b made first second one added was =
      let here : length fs ≡ suc (length more) = ap length first in
      let there : length bs ≡ suc (length rest) = ap length second in
      let alike = was.alike in
      record {
        done = was.done ++ b ∷ [];
        parts = append_assoc was.done (b ∷ []) rest ∙ (ap (λ xs. was.done ++ xs) (sym second) ∙ was.parts);
        alike = omega (arith, here, there, alike);
        holds = All-tail P b rest (subst (All P) second was.holds);
        tried = subst (AllZip R (was.done ++ b ∷ [])) (sym added) (one_more_of_each R was.done now b made was.tried one);
      }

  pub room_left : (now : List C) (all : List B) (fs : List A) (bs rest : List B) (b : B) → bs ≡ b ∷ rest → AreTriedSoFar P R all now fs bs → length now < length all
  room_left now all fs bs rest b is was =
      let many = AllZip-long R was.done now was.tried in
      let whole : length (was.done ++ bs) ≡ length all = ap length was.parts in
      let more : length bs ≡ suc (length rest) = ap length is in
      omega (arith, many, whole, more, length-append was.done bs)

-- ---- the first refusal

first_none : {A : Type 0} (a : Option A) → first_of a None ≡ a
first_none (Some a) = refl
first_none None = refl

first_assoc : {A : Type 0} (a b c : Option A) → first_of a (first_of b c) ≡ first_of (first_of a b) c
first_assoc (Some a) b c = refl
first_assoc None b c = refl

one_more_tried : (ts : List Tried) (t : Tried) → first_refused (ts ++ t ∷ []) ≡ first_of (first_refused ts) (refused_of t.lane)
one_more_tried [] t = first_none (refused_of t.lane)
one_more_tried (u ∷ ts) t = ap (first_of (refused_of u.lane)) (one_more_tried ts t) ∙ first_assoc (refused_of u.lane) (first_refused ts) (refused_of t.lane)

pub one_more_counted : (ts new : List Tried) (t : Tried) (before after : Option LaneFault) → before ≡ first_refused ts → after ≡ first_of before (refused_of t.lane) → new ≡ ts ++ t ∷ [] → after ≡ first_refused new
one_more_counted ts new t before after was is added = is ∙ (ap (λ r. first_of r (refused_of t.lane)) was ∙ (sym (one_more_tried ts t) ∙ ap first_refused (sym added)))

-- ---- lanes that come back

-- what holds over two lists side by side, and over the second and a third
through : {A B C : Type 0} (R : A → B → Type 0) (S : B → C → Type 0) (T : A → C → Type 0) → ((a : A) (b : B) (c : C) → R a b → S b c → T a c)
    → (xs : List A) (ys : List B) (zs : List C) → AllZip R xs ys → AllZip S ys zs → AllZip T xs zs
through R S T both [] [] [] first second = tt
through R S T both [] [] (z ∷ zs) first second = absurd second
through R S T both [] (y ∷ ys) zs first second = absurd first
through R S T both (x ∷ xs) [] zs first second = absurd first
through R S T both (x ∷ xs) (y ∷ ys) [] first second = absurd second
through R S T both (x ∷ xs) (y ∷ ys) (z ∷ zs) first second = (both x y z first.0 second.0, through R S T both xs ys zs first.1 second.1)

module _ (port : TimeZone × Role) where
  come : (begins : Bool) (ls : List LaneParts) (ts : List Tried) (told_ones : List Informed) (ks : List LaneParts) → AllZip (IsTried port) ls ts → AllZip (IsToldOf begins) ts told_ones → AllZip GivesBack told_ones ks
      → AllZip (HasGoneIf begins port) ls ks
  come begins ls ts told_ones ks tried told back =
      through (IsInformed begins port) GivesBack (HasGoneIf begins port) (λ l a k is gives. gives begins port l is) ls told_ones ks
      (through (IsTried port) (IsToldOf begins) (IsInformed begins port) (λ l t a is tells. tells port l is) ls ts told_ones tried told) back

  gone : (begins : Bool) (ls ks : List LaneParts) → AllZip (HasGoneIf begins port) ls ks → AllZip (HasGoneOn port) ls ks
  gone begins [] [] all = tt
  gone begins [] (k ∷ ks) all = absurd all
  gone begins (l ∷ ls) [] all = absurd all
  gone begins (l ∷ ls) (k ∷ ks) all = (all.0.gone, gone begins ls ks all.1)

  stay : (begins : Bool) (ls ks : List LaneParts) → begins ≡ false → AllZip (HasGoneIf begins port) ls ks → ks ≡ ls
  stay begins [] [] is all = refl
  stay begins [] (k ∷ ks) is all = absurd all
  stay begins (l ∷ ls) [] is all = absurd all
  stay begins (l ∷ ls) (k ∷ ks) is all = let first : k ≡ l = all.0.stays is in let rest : ks ≡ ls = stay begins ls ks is all.1 in λ i. first i ∷ rest i

  -- lanes that were tried are told whether they begin
  told_all : (begins : Bool) (ls : List LaneParts) (ts : List Tried) (told_ones : List Informed) → AllZip (IsTried port) ls ts → AllZip (IsToldOf begins) ts told_ones → AllZip (IsInformed begins port) ls told_ones
  told_all begins ls ts told_ones tried told = through (IsTried port) (IsToldOf begins) (IsInformed begins port) (λ l t a is tells. tells port l is) ls ts told_ones tried told

  pub told_to_begin : (refused : Option LaneFault) (begins : Bool) (ls : List LaneParts) (ts : List Tried) (told_ones : List Informed) → refused ≡ None → is_some refused ≡ not begins
      → AllZip (IsTried port) ls ts → AllZip (IsToldOf begins) ts told_ones → AllZip (IsInformed true port) ls told_ones
  told_to_begin refused true ls ts told_ones none is tried told = told_all true ls ts told_ones tried told
  told_to_begin refused false ls ts told_ones none is tried told = absurd (cc)

  -- and those that do have gone on
  pub served_gone : (ls : List LaneParts) (told_ones : List Informed) (ks : List LaneParts) → AllZip (IsInformed true port) ls told_ones → AllZip GivesBack told_ones ks → AllZip (HasGoneOn port) ls ks
  served_gone ls told_ones ks told back = gone true ls ks (through (IsInformed true port) GivesBack (HasGoneIf true port) (λ l a k is gives. gives true port l is) ls told_ones ks told back)

  -- lanes that were tried, and told whether they begin, have gone on
  pub all_gone : (begins : Bool) (ls : List LaneParts) (ts : List Tried) (told_ones : List Informed) (ks : List LaneParts) → AllZip (IsTried port) ls ts → AllZip (IsToldOf begins) ts told_ones → AllZip GivesBack told_ones ks
      → AllZip (HasGoneOn port) ls ks
  all_gone begins ls ts told_ones ks tried told back = gone begins ls ks (come begins ls ts told_ones ks tried told back)

  told_no : (begins : Bool) → true ≡ not begins → begins ≡ false
  told_no false is = refl
  told_no true is = is

  -- and are as they were, where one was refused
  pub all_stay : (refused : Option LaneFault) (begins : Bool) (ls : List LaneParts) (ts : List Tried) (told_ones : List Informed) (ks : List LaneParts) → is_some refused ≡ not begins
      → AllZip (IsTried port) ls ts → AllZip (IsToldOf begins) ts told_ones → AllZip GivesBack told_ones ks → IfSome refused (λ _. ks ≡ ls)
  all_stay None begins ls ts told_ones ks is tried told back = tt
  all_stay (Some fault) begins ls ts told_ones ks is tried told back = stay begins ls ks (told_no begins is) (come begins ls ts told_ones ks tried told back)

  -- lanes that nobody has are as they were
  pub none_gone : ((l : LaneParts) → IsSameLane l l) → (ls : List LaneParts) → AllZip (HasGoneOn port) ls ls
  none_gone itself [] = tt
  none_gone itself (l ∷ ls) = (record { same = itself l; asked = λ asked. asked }, none_gone itself ls)

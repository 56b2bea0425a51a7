-- Two replicas of one partition.
use Rattle.std.proofs.Common.{◌≡◌, ◌≤◌, ℕ, ◌+◌, suc, List, [], ◌∷◌, ◌++◌, length, length-append, map, append_assoc, append-nil, refl, sym, ap, ◌∙◌, arith}
use Rattle.std.proofs.lemmas.List.{map-append}
use Rattle.pay_session.specs.Words.{request_of}
use Rattle.pay_run.specs.Words.{outcome}
use Rattle.pay_follow.specs.Partitions.{AreLines}
use Rattle.pay_follow.specs.Following.{outcome_of, under}
use Rattle.pay_follow.specs.Laws.{HasOneLine, ReplicasAgree}
use Rattle.pay_follow.proofs.FollowedLines.{replies_both, under_both}

-- of two who read the same places, the lines of the one who read fewer are the first of the other's
front_of : (HasLine HasLine' : ℕ → List ℕ → Type 0) → HasOneLine HasLine HasLine' → (place : ℕ) (xs ys : List (List ℕ)) → AreLines HasLine place xs → AreLines HasLine' place ys → length xs ≤ length ys
    → (more : List (List ℕ)) × (ys ≡ xs ++ more)
front_of HasLine HasLine' one place [] ys f g few = (ys, refl)
front_of HasLine HasLine' one place (x ∷ xs) [] f g few = absurd (omega (arith, few))
front_of HasLine HasLine' one place (x ∷ xs) (y ∷ ys) f g few =
    let later = front_of HasLine HasLine' one (suc place) xs ys f.1 g.1 (omega (arith, few)) in
    (later.0, ap (λ z. z ∷ ys) (sym (one place x y f.0 g.0)) ∙ ap (λ l. x ∷ l) later.1)

none_more : (xs more : List (List ℕ)) → length (xs ++ more) ≡ length xs → more ≡ []
none_more xs [] e = refl
none_more xs (z ∷ more) e = absurd (omega (arith, e, length-append xs (z ∷ more)))

pub agree : (HasLine HasLine' : ℕ → List ℕ → Type 0) → ReplicasAgree HasLine HasLine'
agree HasLine HasLine' one was now now' before after after' f g few =
    let front = front_of HasLine HasLine' one (suc before.last) f.lines g.lines f.are_lines g.are_lines (omega (arith, few, f.read, g.read)) in
    let requests : map request_of g.lines ≡ map request_of f.lines ++ map request_of front.0 = ap (map request_of) front.1 ∙ map-append request_of f.lines front.0 in
    let first = (outcome_of was f.lines).replies in
    let later = (outcome [] (outcome_of was f.lines).after (map request_of front.0)).replies in
    let replies : (outcome_of was g.lines).replies ≡ first ++ later = ap (λ l. (outcome [] was l).replies) requests ∙ replies_both was (map request_of f.lines) (map request_of front.0) in (
      (
        under (suc before.last + length first) later,
        g.published ∙ ap (λ l. before.published ++ under (suc before.last) l) replies ∙ ap (λ l. before.published ++ l) (under_both (suc before.last) first later)
            ∙ sym (append_assoc before.published (under (suc before.last) first) (under (suc before.last + length first) later))
            ∙ ap (λ l. l ++ under (suc before.last + length first) later) (sym f.published),
      ),
      λ far.
          let none = none_more f.lines front.0 (omega (arith, far, f.read, g.read, ap length front.1)) in
          f.machine ∙ ap (λ l. (outcome_of was l).after) (sym (front.1 ∙ ap (λ l. f.lines ++ l) none ∙ append-nil f.lines)) ∙ sym g.machine,
    )

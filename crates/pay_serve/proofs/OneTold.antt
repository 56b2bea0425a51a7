-- What one tells, and one hears.
use Rattle.std.proofs.Common.{◌≡◌, ℕ, Bool, List, [], ◌∷◌, ◌++◌, All, length, refl, sym, ap, ◌∙◌, subst, arith, length-append}
use Rattle.std.proofs.lemmas.List.Elements.{All-head}
use mathlib.Core.List.{IsPrefix}
use Rattle.pay_mailbox.specs.Words.{SenderParts, ReceiverParts, of, having_back, WasFull, HasFirst}

abbrev pub all_one : Bool → ℕ
all_one begins = 0

-- all is of the one
of_one : (xs : List Bool) → of all_one 0 xs ≡ xs
of_one [] = refl
of_one (x ∷ xs) = ap (λ ys. x ∷ ys) (of_one xs)

-- where nothing was told, there is room
pub never_full : (s : SenderParts Bool) → s.number ≡ 0 → s.mailbox.capacity ≡ 1 → s.sent ≡ [] → WasFull all_one s → ⊥
never_full s number capacity none full =
    let all : full.0 ++ full.1 ≡ [] = sym (of_one (full.0 ++ full.1)) ∙ (subst (λ n. of all_one n (full.0 ++ full.1) ≡ s.sent) number full.3 ∙ none) in
    let some : length full.1 ≡ 1 = full.2 ∙ capacity in
    let many : length (full.0 ++ full.1) ≡ 0 = ap length all in
    omega (arith, some, many, length-append full.0 full.1)

-- what was heard begins what was told
pub first_got : (r : ReceiverParts Bool) (s : SenderParts Bool) → r.back ≡ [] → s.number ≡ 0 → HasFirst all_one (having_back r s) → IsPrefix r.got s.sent
first_got r s none number first =
    let IsFirst : SenderParts Bool → Type 0 = (λ b. IsPrefix (of all_one b.number r.got) b.sent) in
    let one : All IsFirst (s ∷ []) = subst (λ bs. All IsFirst (bs ++ s ∷ [])) none first.0 in
    subst (λ xs. IsPrefix xs s.sent) (subst (λ n. of all_one n r.got ≡ r.got) (sym number) (of_one r.got)) (All-head IsFirst s [] one)

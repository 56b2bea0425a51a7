-- What fits of some bytes after others, and what holds where a call succeeds.
use Rattle.std.proofs.Common.{◌≡◌, ℕ, ◌+◌, ◌-◌, ◌≤◌, min, List, ◌++◌, Result, Ok, Err, IsOk, OnOk, length, take, sym, ap, ◌∙◌, arith}
use Rattle.std.proofs.Math.Seq.{take-append-add}
use Rattle.std.proofs.lemmas.List.{take_min}

-- what fits after xs of ys makes the front of both
pub take_fitting : (n : ℕ) (xs ys : List ℕ) → length xs ≤ n → xs ++ take (min (n - length xs) (length ys)) ys ≡ take n (xs ++ ys)
take_fitting n xs ys h =
    let whole : length xs + (n - length xs) ≡ n = omega arith in
    ap (λ r. xs ++ r) (take_min (n - length xs) ys) ∙ sym (take-append-add xs ys (n - length xs)) ∙ ap (λ k. take k (xs ++ ys)) whole

pub holds_if_ok : {T E : Type 0} {P : Type 0} (r : Result T E) → IsOk r → OnOk r P → P
holds_if_ok (Ok x) i h = h
holds_if_ok (Err e) i h = cc

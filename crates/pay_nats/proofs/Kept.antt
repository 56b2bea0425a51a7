-- What a vector began with.
use Rattle.std.proofs.Common.{◌≡◌, ◌∙◌, List, ℕ, ◌++◌, length, take, sym, ap, arith, length-append, refl, take-take, take_at}

-- it stays, where more was written and that stays
pub kept_after : (old more mid new : List ℕ) → mid ≡ old ++ more → take (length mid) new ≡ mid → take (length old) new ≡ old
kept_after old more mid new e kept =
    let long = ap length e ∙ length-append old more in
    sym (take-take (length old) (length mid) new (omega (arith, long))) ∙ (ap (take (length old)) (kept ∙ e) ∙ take_at old more (length old) refl)

-- How many taps and corrections an account has accepted, by the lists of them.
use Rattle.std.proofs.Common.{◌≡◌, ◌+◌, ℕ, length, sym, ap, ◌∙◌}
use Rattle.std.proofs.lemmas.List.{length-map}
use Rattle.std.specs.FinMap.{entries, values, len, len-entries}
use Rattle.pay_rules.specs.Accepted.{Accepted, version}
use Rattle.pay_rules.specs.Numbers.{ByNumber}
use Rattle.pay_rules.specs.SetsParts.{SetsParts, sets}

values_long : {X : Type 0} (set : ByNumber X) → length (values set) ≡ len set
values_long set = length-map (entries set) (λ e. e.1) ∙ sym (len-entries set)

pub counted : (account : ℕ) (accepted : Accepted) (its : SetsParts) → its ≡ sets account accepted → length its.taps + length its.fixes ≡ version accepted
counted account accepted its is =
    ap (λ (s : SetsParts). length s.taps + length s.fixes) is
    ∙ ap (λ (n : ℕ). n + length (values accepted.fixes)) (values_long accepted.taps) ∙ ap (λ (n : ℕ). len accepted.taps + n) (values_long accepted.fixes)

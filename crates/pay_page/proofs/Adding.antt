-- Additions to a text, one after the other.
use Rattle.std.proofs.Common.{◌≡◌, ℕ, List, ◌++◌, ap, ◌∙◌, append_assoc}

pub then : (before now after first second : List ℕ) → now ≡ before ++ first → after ≡ now ++ second → after ≡ before ++ (first ++ second)
then before now after first second so_far next = next ∙ ap (λ (text : List ℕ). text ++ second) so_far ∙ append_assoc before first second

pub then_third : (before now later after first second third : List ℕ) → now ≡ before ++ first → later ≡ now ++ second → after ≡ later ++ third → after ≡ before ++ (first ++ (second ++ third))
then_third before now later after first second third one two three = then before now after first (second ++ third) one (then now later after second third two three)

pub then_fifth : (t0 t1 t2 t3 t4 t5 a b c d e : List ℕ) → t1 ≡ t0 ++ a → t2 ≡ t1 ++ b → t3 ≡ t2 ++ c → t4 ≡ t3 ++ d → t5 ≡ t4 ++ e → t5 ≡ t0 ++ (a ++ (b ++ (c ++ (d ++ e))))
then_fifth t0 t1 t2 t3 t4 t5 a b c d e one two three four five =
    then_third t0 t1 t2 t5 a b (c ++ (d ++ e)) one two (then_third t2 t3 t4 t5 c d e three four five)

pub then_sixth : (t0 t1 t2 t3 t4 t5 t6 a b c d e f : List ℕ) → t1 ≡ t0 ++ a → t2 ≡ t1 ++ b → t3 ≡ t2 ++ c → t4 ≡ t3 ++ d → t5 ≡ t4 ++ e → t6 ≡ t5 ++ f
    → t6 ≡ t0 ++ (a ++ (b ++ (c ++ (d ++ (e ++ f)))))
then_sixth t0 t1 t2 t3 t4 t5 t6 a b c d e f one two three four five six =
    then t0 t1 t6 a (b ++ (c ++ (d ++ (e ++ f)))) one (then_fifth t1 t2 t3 t4 t5 t6 b c d e f two three four five six)

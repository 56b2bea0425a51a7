-- The line of counts by its pieces, and how the job check ends by how the line was written.
use Rattle.std.proofs.Common.{◌≡◌, ◌∙◌, ◌++◌, ℕ, List, [], Option, Result, Ok, Err, OnOk, OnErr, IfErr, subst, ap, append_assoc}
use Rattle.std.specs.Io.KnownBytes.{Appends}
use Rattle.pay_wire.specs.Words.{AppendsFront}
use Rattle.pay_check.specs.Counting.{CheckEnds, CheckFails, IsCounted, IsRefused}
use Rattle.pay_check.specs.declared.fault.CheckFault.{CheckFault}
use Rattle.pay_check.specs.declared.fault.CheckFault.TheVariants.{Output}

-- what stands before a piece, and all that stands after it
beyond : (before piece rest all : List ℕ) → all ≡ before ++ piece → all ++ rest ≡ before ++ (piece ++ rest)
beyond before piece rest all is = ap (λ l. l ++ rest) is ∙ append_assoc before piece rest

-- four pieces, a fifth and an end, each put after those before it
pub five_and_end : (none one two three four five all a b c d f e : List ℕ) → none ≡ [] → one ≡ none ++ a → two ≡ one ++ b → three ≡ two ++ c → four ≡ three ++ d → five ≡ four ++ f → all ≡ five ++ e
    → all ≡ ((a ++ (b ++ (c ++ d))) ++ f) ++ e
five_and_end none one two three four five all a b c d f e empty is-a is-b is-c is-d is-f is-e =
    is-e ∙ ap (λ l. l ++ e) (is-f ∙ ap (λ l. l ++ f) (is-d ∙ (beyond two c d three is-c ∙ (beyond one b (c ++ d) two is-b
    ∙ (beyond none a (b ++ (c ++ d)) one is-a ∙ ap (λ l. l ++ (a ++ (b ++ (c ++ d)))) empty)))))

pub check_ends : {T E : Type 0} (r : Result T E) (fares line : List ℕ) (held written : Option (List ℕ)) → IsCounted fares line
    → OnOk r (Appends held written line) → OnOk r (CheckEnds fares held written)
check_ends (Ok x) fares line held written is h = (line, is, h)
check_ends (Err e) fares line held written is h = tt

pub check_fails : {T : Type 0} (r : Result T CheckFault) (fares line : List ℕ) (held written : Option (List ℕ)) → IsCounted fares line
    → OnErr r (AppendsFront held written line) → IfErr r (λ fault. fault ≡ Output) → IfErr r (λ fault. CheckFails fault fares held written)
check_fails (Ok x) fares line held written is h e = tt
check_fails (Err fault) fares line held written is h e = rw e (line, is, h)

-- a refused fare file is no fault of a writer
pub not_output : (fault : CheckFault) (fares : List ℕ) → IsRefused fault fares → fault ≡ Output → ⊥
not_output fault fares refused is = subst (λ f. IsRefused f fares) is refused

-- what is so where a text was not written, said of the fault
pub if_output : {T : Type 0} (r : Result T CheckFault) (Cause : Type 0) → OnErr r Cause → IfErr r (λ fault. fault ≡ Output → Cause)
if_output (Ok x) Cause h = tt
if_output (Err fault) Cause h = λ _. h

-- Who is found.
use Rattle.std.proofs.Common.{◌≡◌, ◌∙◌, ℕ, suc, Bool, true, false, cond, List, [], ◌∷◌, Option, Some, None, refl, sym, ap, arith}
use Rattle.std.specs.Prelude.{◌≢◌, Contains, decimal, find}
use Rattle.std.specs.Option.{option_and_then}
use Rattle.std.specs.Str.{bytes_eq}
use Rattle.std.proofs.lemmas.Bool.{and_parts}
use Rattle.std.proofs.lemmas.List.Elements.{All-contains}
use Rattle.sha2.specs.Sha256.{sha256}
use Rattle.pay_clerks.specs.Clerks.{ClerkOf}
use Rattle.pay_clerks.specs.Credentials.{credentials_of}
use Rattle.pay_clerks.specs.Found.{clerk_of, is_clerk}
use Rattle.pay_clerks.specs.Laws.{FoundByBoth, StrangersAreNobody}
use Rattle.pay_clerks.proofs.Texts.{same_text}

-- what is found is there, and passes the test
found : (test : ClerkOf → Bool) (clerks : List ClerkOf) (clerk : ClerkOf) → find test clerks ≡ Some clerk → Contains clerks clerk × (test clerk ≡ true)
found test [] clerk e = absurd cc
found test (first ∷ clerks) clerk e = by (found test clerks clerk) (test first) refl e
  where
    by : (find test clerks ≡ Some clerk → Contains clerks clerk × (test clerk ≡ true)) → (t : Bool) → test first ≡ t → cond t (Some first) (find test clerks) ≡ Some clerk
        → Contains (first ∷ clerks) clerk × (test clerk ≡ true)
    by rest true passes e =
        let same : first ≡ clerk = cc in
        ((0, omega arith, same), sym (ap test same) ∙ passes)
    by rest false passes e =
        let later = rest e in
        ((suc later.0.0, omega (arith, later.0.1), later.0.2), later.1)

pub found_by_both : FoundByBoth
found_by_both clerks value clerk e = by (credentials_of value) refl e
  where
    by : (given : Option (List ℕ × List ℕ)) → credentials_of value ≡ given → option_and_then (λ (it : List ℕ × List ℕ). find (is_clerk it.0 (sha256 it.1)) clerks) given ≡ Some clerk
        → Contains clerks clerk × ((secret : List ℕ) × (credentials_of value ≡ Some (decimal clerk.staff, secret)) × (sha256 secret ≡ clerk.secret))
    by None given e = absurd cc
    by (Some (staff, secret)) given e =
        let it = found (is_clerk staff (sha256 secret)) clerks clerk e in
        let both = and_parts (bytes_eq staff (decimal clerk.staff)) (bytes_eq (sha256 secret) clerk.secret) it.1 in
        let number = same_text staff (decimal clerk.staff) both.0 in
        (it.0, (secret, given ∙ ap (λ (text : List ℕ). Some (text, secret)) number, same_text (sha256 secret) clerk.secret both.1))

second_of : (a b c d : List ℕ) → ◌≡◌ {A = Option (List ℕ × List ℕ)} (Some (a, b)) (Some (c, d)) → b ≡ d
second_of a b c d e = ap (λ (it : Option (List ℕ × List ℕ)). second it) e
  where
    second : Option (List ℕ × List ℕ) → List ℕ
    second None = []
    second (Some it) = it.1

pub strangers : StrangersAreNobody
strangers clerks value staff secret given none = by (clerk_of clerks value) refl
  where
    by : (who : Option ClerkOf) → clerk_of clerks value ≡ who → who ≡ None
    by None e = refl
    by (Some clerk) e =
        let it = found_by_both clerks value clerk e in
        let same = second_of (decimal clerk.staff) it.1.0 staff secret (sym it.1.1 ∙ given) in
        absurd (All-contains (λ (clerk : ClerkOf). clerk.secret ≢ sha256 secret) clerks clerk none it.0 (sym it.1.2 ∙ ap sha256 same))

-- Descriptions are told apart.
use Rattle.std.proofs.Common.{◌≡◌, ◌∙◌, ℕ, zero, suc, ◌^◌, ◌%◌, ◌<◌, List, [], ◌∷◌, ◌++◌, length, Result, Ok, refl, sym, ap, append_assoc, codes, arith}
use Rattle.std.specs.Prelude.{decimal, slice_index}
use Rattle.std.specs.Str.Parse.{AllDigits}
use Rattle.std.proofs.lemmas.Fmt.{digits_decimal, decimal_injective}
use Rattle.std.proofs.lemmas.Str.Parse.{digit_from_value, numerals_by_value, tells_digits}
use Rattle.std.specs.Int.{w32, to_be_bytes}
use Rattle.hex.specs.Hex.{IsBytes, decode_of, lower_digits}
use Rattle.hex.proofs.HexLemmas.{decode_of-encode_lower, length-encode_with}
use Rattle.sha2.specs.Sha256.{digest_bytes, final_hash, sha256}
use Rattle.sha2.proofs.Facts256.{length-sha256}
use Rattle.pay_replica.specs.Descriptions.{hex_digest}
use Rattle.pay_replica.specs.Laws.{DescriptionsTell}

heads : {A : Type 0} (x y : A) (xs ys : List A) → (x ∷ xs) ≡ (y ∷ ys) → (x ≡ y) × (xs ≡ ys)
heads x y xs ys e = (cc, cc)

both : {A : Type 0} {x y : A} {xs ys : List A} → x ≡ y → xs ≡ ys → (x ∷ xs) ≡ (y ∷ ys)
both e f i = e i ∷ f i

-- digits end at the first byte below them
digits_apart : (end : ℕ) (a b x y : List ℕ) → end < 48 → AllDigits 10 a → AllDigits 10 b → a ++ end ∷ x ≡ b ++ end ∷ y → (a ≡ b) × (x ≡ y)
digits_apart end [] [] x y low f g e = (refl, (heads end end x y e).1)
digits_apart end [] (d ∷ ds) x y low f g e =
    absurd (omega (arith, low, digit_from_value d g.0, (heads end d x (ds ++ end ∷ y) e).0))
digits_apart end (c ∷ cs) [] x y low f g e =
    absurd (omega (arith, low, digit_from_value c f.0, (heads c end (cs ++ end ∷ x) y e).0))
digits_apart end (c ∷ cs) (d ∷ ds) x y low f g e =
    let h = heads c d (cs ++ end ∷ x) (ds ++ end ∷ y) e in
    let rest = digits_apart end cs ds x y low f.1 g.1 h.1 in
    (both h.0 rest.0, rest.1)

digits : (n : ℕ) → n < 2 ^ 64 → AllDigits 10 (decimal n)
digits n lt = digits_decimal (numerals_by_value (AllDigits 10) tells_digits) n lt

-- texts of one length before others
lengths_apart : (a b x y : List ℕ) → length a ≡ length b → a ++ x ≡ b ++ y → (a ≡ b) × (x ≡ y)
lengths_apart [] [] x y same e = (refl, e)
lengths_apart [] (d ∷ ds) x y same e = absurd (omega (arith, same))
lengths_apart (c ∷ cs) [] x y same e = absurd (omega (arith, same))
lengths_apart (c ∷ cs) (d ∷ ds) x y same e =
    let h = heads c d (cs ++ x) (ds ++ y) e in
    let rest = lengths_apart cs ds x y (omega (arith, same)) h.1 in
    (both h.0 rest.0, rest.1)

same_after : (front x y : List ℕ) → front ++ x ≡ front ++ y → x ≡ y
same_after front x y e = (lengths_apart front front x y refl e).1

-- ---- digests

bytes_appended : (a b : List ℕ) → IsBytes a → IsBytes b → IsBytes (a ++ b)
bytes_appended [] b f g i = g i
bytes_appended (c ∷ cs) b f g zero = f 0
bytes_appended (c ∷ cs) b f g (suc i) = bytes_appended cs b (λ k. f (suc k)) g i

low_byte : (n : ℕ) → n % 256 < 256
low_byte n = omega arith

word_is_bytes : (n : ℕ) → IsBytes (to_be_bytes w32 n)
word_is_bytes n zero = low_byte _
word_is_bytes n (suc zero) = low_byte _
word_is_bytes n (suc (suc zero)) = low_byte _
word_is_bytes n (suc (suc (suc zero))) = low_byte _
word_is_bytes n (suc (suc (suc (suc i)))) = omega arith

digest_is_bytes : (h : List ℕ) (n : ℕ) → IsBytes (digest_bytes h n)
unfolding digest_bytes
digest_is_bytes h zero = λ i. omega arith
digest_is_bytes h (suc n) = bytes_appended (digest_bytes h n) (to_be_bytes w32 (slice_index h n)) (digest_is_bytes h n) (word_is_bytes (slice_index h n))

sha256_is_bytes : (m : List ℕ) → IsBytes (sha256 m)
unfolding sha256
sha256_is_bytes m = digest_is_bytes (final_hash _ m) 8

ok_same : {E : Type 0} (a b : List ℕ) → ◌≡◌ {A = Result (List ℕ) E} (Ok a) (Ok b) → a ≡ b
ok_same a b e = cc

-- the digits of a digest tell it
digest_told : (m n : List ℕ) → hex_digest m ≡ hex_digest n → sha256 m ≡ sha256 n
digest_told m n e =
    ok_same (sha256 m) (sha256 n) (sym (decode_of-encode_lower (sha256 m) (sha256_is_bytes m)) ∙ ap decode_of e ∙ decode_of-encode_lower (sha256 n) (sha256_is_bytes n))

digest_length : (m n : List ℕ) → length (hex_digest m) ≡ length (hex_digest n)
digest_length m n =
    omega (arith, length-encode_with lower_digits (sha256 m), length-encode_with lower_digits (sha256 n), length-sha256 m, length-sha256 n)

-- ---- descriptions

regrouped : (a b c d e f g h : List ℕ) → a ++ b ++ c ++ d ++ e ++ f ++ g ++ h ≡ a ++ (b ++ (c ++ (d ++ (e ++ (f ++ (g ++ h))))))
regrouped a b c d e f g h =
    append_assoc (a ++ b ++ c ++ d ++ e ++ f) g h
    ∙ append_assoc (a ++ b ++ c ++ d ++ e) f (g ++ h)
    ∙ append_assoc (a ++ b ++ c ++ d) e (f ++ (g ++ h))
    ∙ append_assoc (a ++ b ++ c) d (e ++ (f ++ (g ++ h)))
    ∙ append_assoc (a ++ b) c (d ++ (e ++ (f ++ (g ++ h))))
    ∙ append_assoc a b (c ++ (d ++ (e ++ (f ++ (g ++ h)))))

-- their parts, one after another
parts : (partition of fares zone : List ℕ) → codes "farebox partition " ++ partition ++ codes " of " ++ of ++ codes ", fares " ++ fares ++ codes ", zone " ++ zone
    ≡ codes "farebox partition " ++ (partition ++ (32 ∷ (codes "of " ++ (of ++ (44 ∷ (codes " fares " ++ (fares ++ (codes ", zone " ++ zone))))))))
parts partition of fares zone = regrouped (codes "farebox partition ") partition (codes " of ") of (codes ", fares ") fares (codes ", zone ") zone

pub told : DescriptionsTell
told p n p' n' fares zone fares' zone' fp fn fp' fn' e =
    let whole = sym (parts (decimal p) (decimal n) (hex_digest fares) (hex_digest zone)) ∙ e ∙ parts (decimal p') (decimal n') (hex_digest fares') (hex_digest zone') in
    let first = digits_apart 32 (decimal p) (decimal p') _ _ (omega arith) (digits p fp) (digits p' fp') (same_after (codes "farebox partition ") _ _ whole) in
    let second = digits_apart 44 (decimal n) (decimal n') _ _ (omega arith) (digits n fn) (digits n' fn') (same_after (codes "of ") _ _ first.1) in
    let third = lengths_apart (hex_digest fares) (hex_digest fares') _ _ (digest_length fares fares') (same_after (codes " fares ") _ _ second.1) in
    let fourth = same_after (codes ", zone ") (hex_digest zone) (hex_digest zone') third.1 in
    (decimal_injective p p' fp fp' first.0, decimal_injective n n' fn fn' second.0, digest_told fares fares' third.0, digest_told zone zone' fourth)

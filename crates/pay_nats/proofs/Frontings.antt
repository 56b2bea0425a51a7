-- Two texts that begin alike, and how long a line may be.
use Rattle.std.proofs.Common.{◌≡◌, ◌∙◌, ℕ, ◌≤◌, Bool, true, false, List, ◌++◌, length, take, drop, Some, None, refl, sym, ap, arith, take-append-drop, take_at, drop_at}
use Rattle.std.proofs.lemmas.List.{drop-append-le, take-append-le}
use Rattle.std.specs.Cmp.Lexicographic.{pointwise}
use Rattle.std.specs.Prelude.{codes, nat_eq, cond}
use Rattle.std.specs.List.{starts_with}
use Rattle.pay_nats.specs.Frames.{Done, Fault, Info, IsMeaning, Meaning, Message, Ping, Pong, Sized, Whole, meaning_line, most_line}
use Rattle.pay_nats.specs.Faults.{most_at}
use Rattle.pay_nats.specs.declared.limits.TheConstants.{MOST_INFO_BYTES, MOST_LINE_BYTES}

-- of two that begin alike the longer goes on from the shorter
pub goes_on : (a b c d : List ℕ) → a ++ b ≡ c ++ d → length c ≤ length a → (a ≡ c ++ drop (length c) a) × (drop (length c) a ++ b ≡ d)
goes_on a b c d e long =
    let front : take (length c) a ≡ c = sym (take-append-le (length c) a b long) ∙ (ap (take (length c)) e ∙ take_at c d (length c) refl) in
    let back : drop (length c) a ++ b ≡ d = sym (drop-append-le (length c) a b long) ∙ (ap (drop (length c)) e ∙ drop_at c d (length c) refl) in
    (sym (take-append-drop (length c) a) ∙ ap (λ (x : List ℕ). x ++ drop (length c) a) front, back)

-- how long a line that says something may be
abbrev pub most_of : Meaning → ℕ
most_of (Whole frame) = most_line frame
most_of (Sized address headers total) = MOST_LINE_BYTES

pub most_by : (meaning : Meaning) → IsMeaning meaning → (rest : List ℕ) → most_at (meaning_line meaning ++ rest) ≡ most_of meaning
most_by (Whole (Info text)) it rest = refl
most_by (Whole (Message address headers payload)) it rest = absurd it.0
most_by (Whole Ping) it rest = refl
most_by (Whole Pong) it rest = refl
most_by (Whole Done) it rest = refl
most_by (Whole (Fault text)) it rest = refl
most_by (Sized address None total) it rest = refl
most_by (Sized address (Some headers) total) it rest = refl

-- never longer than an `INFO`, and never shorter than any other
pub most_within : (bytes : List ℕ) → (most_at bytes ≤ 65_536) × (4_096 ≤ most_at bytes)
most_within bytes = by (starts_with nat_eq bytes (codes "INFO "))
  where
    by : (t : Bool) → (cond t MOST_INFO_BYTES MOST_LINE_BYTES ≤ 65_536) × (4_096 ≤ cond t MOST_INFO_BYTES MOST_LINE_BYTES)
    by true = (omega arith, omega arith)
    by false = (omega arith, omega arith)

-- a front of five bytes or more may have as many as the whole
pub most_front : (bytes more : List ℕ) → 5 ≤ length bytes → most_at bytes ≡ most_at (bytes ++ more)
most_front bytes more long =
    ap (λ (x : List ℕ). cond (pointwise nat_eq (codes "INFO ") x) MOST_INFO_BYTES MOST_LINE_BYTES) (sym (take-append-le 5 bytes more long))

-- Where the first space stands, by a search for it.
use Rattle.std.proofs.Common.{◌≡◌, ℕ, List, length, Option, Some, None, sym, arith}
use Rattle.std.specs.Prelude.{unwrap_or}
use Rattle.std.specs.List.{position_or_len}
use Rattle.std.proofs.lemmas.Bool.{false_from_ne_true}
use Rattle.std.proofs.lemmas.List.Sums.{position_or_len_is}
use Rattle.memchr.specs.Find.{IsFirstByte, is_byte}
use Rattle.pay_wire.specs.Fields.{is_space}

pub by_search : (bytes : List ℕ) (r : Option ℕ) → IsFirstByte (is_byte 32) bytes r → unwrap_or r (length bytes) ≡ position_or_len is_space bytes
by_search bytes None h =
    sym (position_or_len_is is_space bytes (length bytes) 0 (omega arith) (λ k lt. false_from_ne_true _ (h k (omega arith) lt)) (λ lt. absurd (omega arith)))
by_search bytes (Some k) h =
    let before = h.0 in
    sym (position_or_len_is is_space bytes k 0 (omega arith) (λ j lt. false_from_ne_true _ (before.before j (omega arith) lt)) (λ _. h.1))

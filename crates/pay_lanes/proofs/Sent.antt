-- One of several ends sends one more.
use Rattle.std.proofs.Common.{◌≡◌, ℕ, zero, suc, ◌<◌, List, [], ◌∷◌, length, slice_index_or, slice_set, slice_get, Some, sym, ap, ◌∙◌, arith}
use Rattle.std.proofs.lemmas.Option.{slice_get-get_or}
use Rattle.pay_mailbox.specs.Words.{SenderParts, having_sent}
use Rattle.pay_lanes.specs.Parts.{sent_at}

module _ {T : Type 0} where
  pub is_there : (xs : List (SenderParts T)) (place : ℕ) (s : SenderParts T) → place < length xs → s ≡ slice_index_or xs place s → slice_get xs place ≡ Some s
  is_there xs place s within is = slice_get-get_or xs place s within ∙ ap Some (sym is)

  pub is_sent : (xs : List (SenderParts T)) (place : ℕ) (x : T) (s after : SenderParts T) → place < length xs → s ≡ slice_index_or xs place s → after ≡ having_sent s x
      → slice_set xs place after ≡ sent_at place x xs
  is_sent [] place x s after within is sent = absurd (omega arith)
  is_sent (y ∷ xs) zero x s after within is sent = ap (λ u. u ∷ xs) (sent ∙ ap (λ u. having_sent u x) is)
  is_sent (y ∷ xs) (suc place) x s after within is sent = ap (λ l. y ∷ l) (is_sent xs place x s after (omega arith) is sent)

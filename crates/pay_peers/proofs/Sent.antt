-- What is sent in pieces.
use Rattle.std.proofs.Common.{◌≡◌, ℕ, ◌+◌, List, [], ◌++◌, take, drop, Option, Some, None, ap, sym, subst, ◌∙◌, refl, append_assoc, append-nil}
use Rattle.std.specs.Io.KnownBytes.{Appends, Keeps}
use Rattle.std.proofs.KnownBytes.{Appends-trans}
use Rattle.std.proofs.lemmas.List.{take-append-drop, drop-drop}
use Rattle.pay_peers.specs.Sending.{IsSent}

-- nothing
kept : (old new : Option (List ℕ)) → Keeps old new → Appends old new []
kept None new k = tt
kept (Some xs) None k = absurd k
kept (Some xs) (Some ys) k = k ∙ sym (append-nil xs)

pub none_sent : (old new : Option (List ℕ)) (bytes : List ℕ) → Keeps old new → IsSent old new bytes bytes
none_sent old new bytes k = record { front = []; cut = refl; written = kept old new k }

pub not_asked : (now : Option (List ℕ)) (bytes : List ℕ) → IsSent now now bytes bytes
not_asked None bytes = record { front = []; cut = refl; written = tt }
not_asked (Some xs) bytes = record { front = []; cut = refl; written = sym (append-nil xs) }

-- one piece and then another
pub sent_then : (a b c : Option (List ℕ)) (first between last : List ℕ) → IsSent a b first between → IsSent b c between last → IsSent a c first last
sent_then a b c first between last one two = record {
  front = one.front ++ two.front;
  cut = one.cut ∙ ap (λ l. one.front ++ l) two.cut ∙ sym (append_assoc one.front two.front last);
  written = Appends-trans a b c one.front two.front one.written two.written;
}

-- the first bytes of what was left
pub some_sent : (a b : Option (List ℕ)) (bytes rest : List ℕ) (i n : ℕ) → rest ≡ drop i bytes → Appends a b (take n rest) → IsSent a b (drop i bytes) (drop (i + n) bytes)
some_sent a b bytes rest i n is written = record {
  front = take n rest;
  cut = sym is ∙ sym (take-append-drop n rest) ∙ ap (λ later. take n rest ++ later) (ap (drop n) is ∙ drop-drop n i bytes);
  written = written;
}

-- one piece more of the bytes that a slice shows
pub sent_next : (a b c : Option (List ℕ)) (first items shown : List ℕ) (i j : ℕ) → shown ≡ items → IsSent a b first (drop i items) → IsSent b c (drop i shown) (drop j shown)
    → IsSent a c first (drop j items)
sent_next a b c first items shown i j same one two =
    let P : List ℕ → Type 0 = λ l. IsSent b c (drop i l) (drop j l) in
    sent_then a b c first (drop i items) (drop j items) one (subst P same two)

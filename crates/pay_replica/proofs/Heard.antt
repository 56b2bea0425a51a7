-- What one reply more comes to.
use Rattle.std.proofs.Common.{◌≡◌, ◌∙◌, ℕ, ◌<◌, List, [], ◌∷◌, ◌++◌, refl, sym, ap, append_assoc, codes}
use Rattle.std.specs.Prelude.{decimal}
use Rattle.std.proofs.lemmas.Bool.{lt-leb}
use Rattle.std.proofs.lemmas.Grind.{flat_map-append}
use Rattle.std.proofs.lemmas.List.{append-nil}
use Rattle.pay_replica.specs.Digested.{entries_text, entry_text, heard_on, last_place, last_place_after}

last_of_more : (first : ℕ) (entries : List (ℕ × List ℕ)) (place : ℕ) (reply : List ℕ) → last_place_after first (entries ++ (place, reply) ∷ []) ≡ place
last_of_more first [] place reply = refl
last_of_more first (entry ∷ entries) place reply = last_of_more entry.0 entries place reply

pub grows : (entries : List (ℕ × List ℕ)) (place : ℕ) (reply : List ℕ) → last_place entries < place → heard_on entries place reply ≡ entries ++ (place, reply) ∷ []
grows entries place reply above = rw (lt-leb place (last_place entries) above) refl

pub last_of : (entries : List (ℕ × List ℕ)) (place : ℕ) (reply : List ℕ) → last_place entries < place → last_place (heard_on entries place reply) ≡ place
last_of entries place reply above = ap last_place (grows entries place reply above) ∙ last_of_more 0 entries place reply

pub text_of : (entries : List (ℕ × List ℕ)) (place : ℕ) (reply : List ℕ) → last_place entries < place
    → ((entries_text entries ++ decimal place) ++ codes " ") ++ reply ≡ entries_text (heard_on entries place reply)
text_of entries place reply above =
    let one : entries_text ((place, reply) ∷ []) ≡ (decimal place ++ codes " ") ++ reply = append-nil ((decimal place ++ codes " ") ++ reply) in
    ap (λ (text : List ℕ). text ++ reply) (append_assoc (entries_text entries) (decimal place) (codes " "))
    ∙ append_assoc (entries_text entries) (decimal place ++ codes " ") reply
    ∙ sym (ap entries_text (grows entries place reply above) ∙ flat_map-append entry_text entries ((place, reply) ∷ []) ∙ ap (λ (text : List ℕ). entries_text entries ++ text) one)

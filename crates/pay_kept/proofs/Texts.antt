-- A text that does not begin as one that is kept with a zone.
use Rattle.std.proofs.Common.{◌≡◌, ◌≢◌, ℕ, Bool, true, false, List, ◌++◌, drop, get_or, length, arith, ◌↔◌, refl, sym, ap, ◌∙◌}
use Rattle.std.proofs.Math.Seq.{drop-append_seam}
use Rattle.std.specs.Str.Pattern.{FindsTextPrefix, StripsPrefix, LacksTextAt}
use Rattle.std.specs.Prelude.{codes}
use Rattle.pay_kept.specs.Text.{kept_text, ledger_line}

-- what stands after a front of a text is what was put after it
after_front : (front text rest others : List ℕ) → StripsPrefix (FindsTextPrefix front) text rest → text ≡ front ++ others → rest ≡ others
after_front front text rest others strips is =
    strips.2 ∙ ap (λ n. drop n text) strips.1.0 ∙ ap (drop (length front)) is ∙ drop-append_seam front others

-- so it is none of the texts that a front and a zone begin, where what follows these is none of their ends
module _ (kept first second zone : List ℕ) (front : StripsPrefix (FindsTextPrefix (codes "# zone ")) kept first) (of_zone : StripsPrefix (FindsTextPrefix zone) first second) where
  pub after_zone : (others : List ℕ) → kept ≡ codes "# zone " ++ (zone ++ others) → second ≡ others
  after_zone others is = after_front zone first second others of_zone (after_front (codes "# zone ") kept first (zone ++ others) front is)

  pub not_kept : LacksTextAt (ledger_line true) second 0 → LacksTextAt (ledger_line false) second 0 → (has_ledger : Bool) (fares : List ℕ) → kept ≢ kept_text zone has_ledger fares
  not_kept closes closes_not true fares is = closes fares (after_zone (ledger_line true ++ fares) is)
  not_kept closes closes_not false fares is = closes_not fares (after_zone (ledger_line false ++ fares) is)

-- what is kept with a ledger is not kept without one
pub apart : (zone fares others : List ℕ) → kept_text zone true fares ≡ kept_text zone false others → ⊥
apart zone fares others same =
    let after_word : zone ++ (ledger_line true ++ fares) ≡ zone ++ (ledger_line false ++ others) = ap (drop 7) same in
    let ends : ledger_line true ++ fares ≡ ledger_line false ++ others = sym (drop-append_seam zone (ledger_line true ++ fares)) ∙ ap (drop (length zone)) after_word ∙ drop-append_seam zone (ledger_line false ++ others) in
    let byte : 32 ≡ 111 = ap (λ (l : List ℕ). get_or l 7 0) ends in
    absurd (omega (arith, byte))

pub is_with : (kept zone : List ℕ) (has_ledger : Bool) (fares : List ℕ) → kept ≡ kept_text zone has_ledger fares → (has_ledger ≡ true) ↔ ((others : List ℕ) × (kept ≡ kept_text zone true others))
is_with kept zone true fares is = ((λ _. (fares, is)), (λ _. refl))
is_with kept zone false fares is = ((λ closes. absurd (cc)), (λ it. absurd (apart zone it.0 fares (sym it.1 ∙ is))))

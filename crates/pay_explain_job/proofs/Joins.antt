-- Texts that were written one after another, and which text is that of postings.
use Rattle.std.proofs.Common.{◌≡◌, ◌∙◌, ◌==◌, ℕ, true, false, List, [], ◌∷◌, ◌++◌, length, refl, sym, ap, append_assoc}
use Rattle.std.proofs.Math.Dec.{eqb-suc-zero}
use Rattle.pay_names.specs.Words.{Named}
use Rattle.pay_rules.specs.declared.posting.Posting.{Posting}
use Rattle.pay_explain_job.specs.PostedLines.{posted_text, postings_text, nothing_text}

-- two additions to a text
pub then : (before now after first second : List ℕ) → after ≡ now ++ second → now ≡ before ++ first → after ≡ before ++ (first ++ second)
then before now after first second next so_far = next ∙ ap (λ (text : List ℕ). text ++ second) so_far ∙ append_assoc before first second

-- the same, from nothing on
pub two : (start one all first second : List ℕ) → start ≡ [] → one ≡ start ++ first → all ≡ one ++ second → all ≡ first ++ second
two start one all first second none a b = b ∙ ap (λ (text : List ℕ). text ++ second) (a ∙ ap (λ (text : List ℕ). text ++ first) none)

module _ (names : Named) (week now : ℕ) where
  pub of_none : (postings : List Posting) → (length postings == 0) ≡ true → nothing_text week ≡ posted_text names week now postings
  of_none [] none = refl
  of_none (posting ∷ postings) none = let no : false ≡ true = sym (eqb-suc-zero (length postings)) ∙ none in absurd (cc)

  pub of_some : (postings : List Posting) → (length postings == 0) ≡ false → postings_text names week now postings ≡ posted_text names week now postings
  of_some [] some = absurd (cc)
  of_some (posting ∷ postings) some = refl

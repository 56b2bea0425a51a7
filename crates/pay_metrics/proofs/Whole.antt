-- The last line of each piece of a text of metrics ends with a newline.
use Rattle.std.proofs.Common.{◌≡◌, ◌∙◌, ℕ, ◌-◌, Bool, true, false, cond, List, [], ◌∷◌, ◌++◌, length, take, Option, None, Some, option_map, ◌⊎◌, inl, inr, refl, sym, ap, subst, append_assoc, append-nil}
use Rattle.std.specs.List.{flat_map}
use Rattle.pay_metrics.specs.Families.{FamilyOf, families}
use Rattle.pay_metrics.specs.Fields.{after, fields_in, fields_of, is_number, parted}
use Rattle.pay_metrics.specs.Laws.{EndsItsLine, LinesAreWhole}
use Rattle.pay_metrics.specs.Metrics.{all_text, headed, if_any, labelled, labelled_by, metric_text, plain, sample, sample_if, sample_of, samples, up}

-- a piece that may be missing
abbrev Piece : List ℕ → Type 0
Piece text = (text ≡ []) ⊎ EndsItsLine text

behind : (front text : List ℕ) → EndsItsLine text → EndsItsLine (front ++ text)
behind front text ends = (front ++ ends.0, ap (λ (rest : List ℕ). front ++ rest) ends.1 ∙ sym (append_assoc front ends.0 (10 ∷ [])))

both : (one two : List ℕ) → Piece one → Piece two → Piece (one ++ two)
both one two (inl none) (inl nothing) = inl (rw (none, nothing) refl)
both one two (inr ends) (inl nothing) = inr (ends.0, rw nothing (append-nil one ∙ ends.1))
both one two first (inr ends) = inr (behind one two ends)

all : {A : Type 0} (piece : A → List ℕ) → ((x : A) → Piece (piece x)) → (xs : List A) → Piece (flat_map piece xs)
all piece are [] = inl refl
all piece are (x ∷ xs) = both (piece x) (flat_map piece xs) (are x) (all piece are xs)

-- ---- numbers

of_plain : (metric number : List ℕ) → EndsItsLine (plain metric number)
unfolding plain
of_plain metric number = (metric ++ (32 ∷ number), simp append_assoc refl)

of_labelled : (metric label value number : List ℕ) → EndsItsLine (labelled metric label value number)
unfolding labelled
of_labelled metric label value number = (metric ++ (123 ∷ (label ++ (61 ∷ 34 ∷ (value ++ (34 ∷ 125 ∷ 32 ∷ number))))), simp append_assoc refl)

of_label : (metric label : List ℕ) (cut : Option (List ℕ × List ℕ)) → Piece (labelled_by metric label cut)
of_label metric label None = inl refl
of_label metric label (Some it) = by (is_number it.0)
  where
    by : (t : Bool) → Piece (cond t (labelled metric label it.0 it.1) [])
    by true = inr (of_labelled metric label it.0 it.1)
    by false = inl refl

of_rest : (metric : List ℕ) (label : Option (List ℕ)) (rest : List ℕ) → Piece (sample_of metric label rest)
of_rest metric None rest = inr (of_plain metric rest)
of_rest metric (Some label) rest = of_label metric label (parted rest)

of_field : (family : FamilyOf) (rest : Option (List ℕ)) → Piece (sample_if family rest)
of_field family None = inl refl
of_field family (Some rest) = of_rest family.metric family.label rest

-- ---- metrics

of_headed : (family : FamilyOf) (front : List ℕ) → headed family (front ++ 10 ∷ []) ≡ headed family front ++ 10 ∷ []
unfolding headed
of_headed family front = simp append_assoc refl

of_numbers : (family : FamilyOf) (numbers : List ℕ) → Piece numbers → Piece (if_any family numbers)
of_numbers family [] piece = inl refl
of_numbers family (first ∷ more) (inl none) = absurd cc
of_numbers family (first ∷ more) (inr ends) = inr (headed family ends.0, ap (headed family) ends.1 ∙ of_headed family ends.0)

of_metric : (fields : List ℕ) (family : FamilyOf) → Piece (metric_text fields family)
of_metric fields family = of_numbers family (samples family fields) (all (sample family) (λ field. of_field family (after family.field field)) (fields_in fields))

below_up : (text : List ℕ) → Piece text → EndsItsLine (up ++ text)
below_up text (inl none) = (take (length up - 1) up, rw none refl)
below_up text (inr ends) = behind up text ends

pub whole : LinesAreWhole
whole line text is = by (fields_of line) is
  where
    by : (fields : Option (List ℕ)) → option_map all_text fields ≡ Some text → EndsItsLine text
    by None is = absurd cc
    by (Some fields) is =
        let same : all_text fields ≡ text = cc in
        subst EndsItsLine same (below_up (flat_map (metric_text fields) families) (all (metric_text fields) (of_metric fields) families))

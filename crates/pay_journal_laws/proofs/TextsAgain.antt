-- What the lines of texts ask for, once lines were kept after them.
use Rattle.std.proofs.Common.{◌≡◌, ℕ, ◌+◌, Bool, true, false, ◌||◌, eqb, List, [], ◌∷◌, ◌++◌, length, codes, Option, Some, None, unwrap_or, refl, sym, ap, ◌∙◌, subst, arith, append_assoc, append-nil, length-append, eqb-true, take}
use Rattle.std.specs.Io.KnownBytes.{Appends}
use Rattle.std.specs.List.{flat_map}
use Rattle.std.proofs.Math.Seq.{take-append_seam}
use Rattle.std.proofs.lemmas.List.Folds.{list_any-append}
use Rattle.pay_session.specs.Requests.{InputLine, input_lines, rest_of, has_newline, request_of, line_requests, IsReadByLine}
use Rattle.pay_session.specs.declared.request.Request.{Request}
use Rattle.pay_journal_laws.specs.Texts.{TornAskAlike, WholeIsHeld, KeptAsksMore}

has_newline_both : (p z : List ℕ) → has_newline p ≡ false → has_newline z ≡ false → has_newline (p ++ z) ≡ false
has_newline_both p z h i = list_any-append (λ b. eqb b 10) p z ∙ ap (λ c. c || has_newline z) h ∙ i

-- what holds of a text that no newline ends, and of a line in front of what it holds of, holds of each text
by_lines_from : (P : List ℕ → Type 0) → ((p : List ℕ) → has_newline p ≡ false → P p) → ((z more : List ℕ) → has_newline z ≡ false → P more → P (z ++ 10 ∷ more))
    → (xs front : List ℕ) → has_newline front ≡ false → P (front ++ xs)
by_lines_from P part line [] front h = subst P (sym (append-nil front)) (part front h)
by_lines_from P part line (b ∷ xs) front h = at (eqb b 10) refl (by_lines_from P part line xs [] refl) (by_lines_from P part line xs (front ++ b ∷ []))
  where
    at : (c : Bool) → eqb b 10 ≡ c → P xs → (has_newline (front ++ b ∷ []) ≡ false → P ((front ++ b ∷ []) ++ xs)) → P (front ++ b ∷ xs)
    at true e beyond longer = subst (λ a. P (front ++ a ∷ xs)) (sym (eqb-true b 10 e)) (line front xs h beyond)
    at false e beyond longer = subst P (append_assoc front (b ∷ []) xs) (longer (has_newline_both front (b ∷ []) h (ap (λ c. c || false) e)))

by_lines : (P : List ℕ → Type 0) → ((p : List ℕ) → has_newline p ≡ false → P p) → ((z more : List ℕ) → has_newline z ≡ false → P more → P (z ++ 10 ∷ more)) → (text : List ℕ) → P text
by_lines P part line text = by_lines_from P part line text [] refl

none_before : {X : Type 0} (xs ys : List X) → xs ++ ys ≡ ys → xs ≡ []
none_before [] ys e = refl
none_before (x ∷ xs) ys e =
    let size : length (x ∷ xs) + length ys ≡ length ys = sym (length-append (x ∷ xs) ys) ∙ ap length e in
    absurd (omega (arith, size))

module _ (read : IsReadByLine) where
  -- ---- what stands after the last newline

  pub torn_alike : (text rest : List ℕ) → has_newline rest ≡ false → line_requests (text ++ rest) ≡ line_requests text
  torn_alike text rest none =
      by_lines (λ xs. line_requests (xs ++ rest) ≡ line_requests xs)
      (λ p h. read.no_line (p ++ rest) (has_newline_both p rest h none) ∙ sym (read.no_line p h))
      (λ z more h same. ap line_requests (append_assoc z (10 ∷ more) rest) ∙ read.line z (more ++ rest) h ∙ ap (λ rs. request_of z ∷ rs) same ∙ sym (read.line z more h))
      text

  pub torn_ask_alike : TornAskAlike
  torn_ask_alike [] [] torn = refl
  torn_ask_alike [] (t ∷ others) torn = absurd torn
  torn_ask_alike (text ∷ texts) [] torn = absurd torn
  torn_ask_alike (text ∷ texts) (t ∷ others) torn =
      (λ i. (ap line_requests torn.0.2 ∙ torn_alike text torn.0.0 torn.0.1) i ++ torn_ask_alike texts others torn.1 i)

  -- ---- what is left of a text

  -- a front of a text asks for a front of what the text does
  pub front_asks : (front rest : List ℕ) → (more : List Request) × (line_requests (front ++ rest) ≡ line_requests front ++ more)
  front_asks front rest =
      by_lines (λ xs. (more : List Request) × (line_requests (xs ++ rest) ≡ line_requests xs ++ more))
      (λ p h. (line_requests (p ++ rest), ap (λ rs. rs ++ line_requests (p ++ rest)) (sym (read.no_line p h))))
      (λ z others h same. (
        same.0,
        ap line_requests (append_assoc z (10 ∷ others) rest) ∙ read.line z (others ++ rest) h
            ∙ ap (λ rs. request_of z ∷ rs) same.1 ∙ ap (λ rs. rs ++ same.0) (sym (read.line z others h)),
      ))
      front

  -- ---- lines after whole lines

  pub after_whole : (text more : List ℕ) → rest_of text ≡ [] → line_requests (text ++ more) ≡ line_requests text ++ line_requests more
  after_whole text more =
      by_lines (λ xs. rest_of xs ≡ [] → line_requests (xs ++ more) ≡ line_requests xs ++ line_requests more)
      (λ p h whole.
      let none : p ≡ [] = sym (read.all_rest p h) ∙ whole in
      subst (λ q. line_requests (q ++ more) ≡ line_requests q ++ line_requests more) (sym none) refl)
      (λ z others h same whole.
      ap line_requests (append_assoc z (10 ∷ others) more) ∙ read.line z (others ++ more) h
      ∙ ap (λ rs. request_of z ∷ rs) (same (sym (read.rest z others) ∙ whole)) ∙ ap (λ rs. rs ++ line_requests more) (sym (read.line z others h)))
      text

  -- the rest of a text with a rest
  rest_after : (text rest : List ℕ) → has_newline rest ≡ false → rest_of (text ++ rest) ≡ rest_of text ++ rest
  rest_after text rest none =
      by_lines (λ xs. rest_of (xs ++ rest) ≡ rest_of xs ++ rest)
      (λ p h. read.all_rest (p ++ rest) (has_newline_both p rest h none) ∙ ap (λ l. l ++ rest) (sym (read.all_rest p h)))
      (λ z more h same. ap rest_of (append_assoc z (10 ∷ more) rest) ∙ read.rest z (more ++ rest) ∙ same ∙ ap (λ l. l ++ rest) (sym (read.rest z more)))
      text

  module _ (last_is_no_line : (input : List ℕ) → has_newline (rest_of input) ≡ false) where
    -- the whole lines of a text
    module _ (text front : List ℕ) (is : front ++ rest_of text ≡ text) where
      pub whole_ends : rest_of front ≡ []
      whole_ends = none_before (rest_of front) (rest_of text) (sym (rest_after front (rest_of text) (last_is_no_line text)) ∙ ap rest_of is)

      pub whole_asks : line_requests front ≡ line_requests text
      whole_asks = sym (torn_alike front (rest_of text) (last_is_no_line text)) ∙ ap line_requests is

    -- what a keeper holds asks for what the text did, and what the lines do that were kept
    pub kept_asks_more : KeptAsksMore
    kept_asks_more held holds text lines whole bytes =
        let known : Appends (Some whole.0) holds lines = subst (λ h. Appends h holds lines) whole.1 bytes in
        ap line_requests (bytes_are holds known) ∙ after_whole whole.0 lines (whole_ends text whole.0 whole.2) ∙ ap (λ rs. rs ++ line_requests lines) (whole_asks text whole.0 whole.2)
      where
        bytes_are : (h : Option (List ℕ)) → Appends (Some whole.0) h lines → unwrap_or h [] ≡ whole.0 ++ lines
        bytes_are None b = absurd b
        bytes_are (Some bytes) b = b

-- what is counted of a text are its whole lines
pub whole_is_held : ((input : List ℕ) → flat_map (λ (l : InputLine). l.text ++ codes "\n") (input_lines input) ++ rest_of input ≡ input) → WholeIsHeld
whole_is_held whole_again text whole counted =
    let lines = flat_map (λ (l : InputLine). l.text ++ codes "\n") (input_lines text) in
    let is : lines ++ rest_of text ≡ text = whole_again text in
    let size : length lines + length (rest_of text) ≡ length text = sym (length-append lines (rest_of text)) ∙ ap length is in
    let so_many : whole ≡ length lines = omega (arith, counted, size) in
    let front : take whole text ≡ lines = ap (take whole) (sym is) ∙ (ap (λ n. take n (lines ++ rest_of text)) so_many ∙ take-append_seam lines (rest_of text)) in
    (take whole text, refl, ap (λ l. l ++ rest_of text) front ∙ is)

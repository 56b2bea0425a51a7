-- What the port in a URL is read as.
use Rattle.std.proofs.Common.{◌≡◌, ◌∙◌, ◌≤◌, ℕ, Bool, Bor, List, true, false, drop, nat_le, true≢false, option_copied, option_and_then, MatchOption, refl, sym, ap, subst, Option, Some, None, Result, Ok, Err, arith}
use Rattle.std.proofs.lemmas.Bool.{leb-true, le-leb}
use Rattle.std.proofs.lemmas.Str.Pattern.{starts_text}
use Rattle.std.specs.Result.{result_ok}
use Rattle.std.specs.Str.{IsCharBoundary}
use Rattle.std.specs.Str.Parse.{ParsesUnsigned}
use Rattle.std.specs.Str.Pattern.{FindsTextPrefix, StripsPrefix}
use Rattle.clap.specs.declared.builder.value_parser.ValueParser.TheVariants as vp
use Rattle.clap.proofs.ValueTestLemmas.{Accepts-accepts, accepts-Accepts}
use Rattle.pay_words.specs.Node.{behind, if_port, node_front, node_port, port_in}
use Rattle.pay_words.specs.OneWord.{Text, is_port, number_of}

-- what stands behind a front
pub stripped : (front text : List ℕ) (r : Option (Bor (List ℕ))) → MatchOption r (FindsTextPrefix front text None) (λ x. StripsPrefix (FindsTextPrefix front) text x.now) → option_copied r ≡ behind front text
stripped front text None h = rw (sym (starts_text false front text h)) refl
stripped front text (Some x) h =
    let boundary : IsCharBoundary text h.0 = subst (IsCharBoundary text) (sym h.1.0) h.1.2 in
    rw (sym (starts_text true front text (h.0, h.1, boundary))) (ap Some (h.2 ∙ ap (λ n. drop n text) h.1.0))

-- a number of 16 bits that is read is a port just where its text is one
pub port_read : {E : Type 0} (text : Text) (r : Result ℕ E) → ParsesUnsigned 16 10 text r → option_and_then if_port (result_ok r) ≡ port_in text
port_read text (Ok n) h = go (is_port text) refl
  where
    go : (t : Bool) → is_port text ≡ t → if_port n ≡ port_in text
    go true t =
        let fits = accepts-Accepts false (vp.Unsigned 1 65_535) text t in
        let least : nat_le 1 n ≡ true = le-leb 1 n (omega (arith, h.1, fits.2)) in
        let most : nat_le n 65_535 ≡ true = le-leb n 65_535 (omega (arith, h.1, fits.3)) in
        rw (t, least, most) (ap Some h.1)
    go false t = first (nat_le 1 n) refl
      where
        first : (f : Bool) → nat_le 1 n ≡ f → if_port n ≡ port_in text
        first true f =
            let least : 1 ≤ n = leb-true 1 n f in
            let is : is_port text ≡ true = Accepts-accepts false (vp.Unsigned 1 65_535) text (h.0.0, omega (arith, h.0.1), omega (arith, h.1, least), omega (arith, h.0.1)) in
            absurd (true≢false (sym is ∙ t))
        first false f = rw (t, f) refl
port_read text (Err e) h = go (is_port text) refl
  where
    go : (t : Bool) → is_port text ≡ t → None ≡ port_in text
    go true t =
        let fits = accepts-Accepts false (vp.Unsigned 1 65_535) text t in
        absurd (h (fits.0, omega (arith, fits.3)))
    go false t = rw t refl

-- the port of a node is that of a text
pub port_text : (url : Text) (port : ℕ) → node_port url ≡ Some port → (text : Text) × (is_port text ≡ true) × (number_of text ≡ port)
unfolding node_port
port_text url port is = go (behind node_front url) is
  where
    go : (o : Option Text) → option_and_then port_in o ≡ Some port → (text : Text) × (is_port text ≡ true) × (number_of text ≡ port)
    go None e = cc
    go (Some text) e = fits (is_port text) refl
      where
        fits : (t : Bool) → is_port text ≡ t → (text : Text) × (is_port text ≡ true) × (number_of text ≡ port)
        fits true t =
            let some : Some (number_of text) ≡ Some port = rw t at e in
            let same : number_of text ≡ port = cc in
            (text, t, same)
        fits false t =
            let none : None ≡ Some port = rw t at e in cc

-- Text as it stands in an HTML page, between tags and in the quotes of attributes.
use Rattle.std.specs.Prelude.{◌≡◌, ℕ, ◌==◌, if◌then◌else◌, List, [], ◌∷◌, codes, refl}
use Rattle.std.specs.List.{flat_map}

-- a byte, or the entity that stands for it: for &, <, >, " and '
abbrev pub escaped_byte : ℕ → List ℕ
escaped_byte byte =
    if byte == 38 then codes "&amp;"
    else if byte == 60 then codes "&lt;"
    else if byte == 62 then codes "&gt;"
    else if byte == 34 then codes "&quot;"
    else if byte == 39 then codes "&#39;"
    else byte ∷ []

abbrev pub escaped : List ℕ → List ℕ
escaped text = flat_map escaped_byte text

-- ---- worked rows

of_nothing : escaped [] ≡ []
of_nothing = refl

of_a_name : escaped (codes "Abbey Road (10)") ≡ codes "Abbey Road (10)"
of_a_name = refl

of_markup : escaped (codes "<b>&\"x'") ≡ codes "&lt;b&gt;&amp;&quot;x&#39;"
of_markup = refl

-- what is escaped already is escaped again
of_an_entity : escaped (codes "&lt;") ≡ codes "&amp;lt;"
of_an_entity = refl

-- other alphabets stay
of_umlauts : escaped (codes "Köln & Bär") ≡ codes "Köln &amp; Bär"
of_umlauts = refl

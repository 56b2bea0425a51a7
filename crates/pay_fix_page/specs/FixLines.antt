-- A correction as it is sent.
use Rattle.std.specs.Prelude.{◌≡◌, ℕ, List, ◌++◌, codes, decimal, refl}
use Rattle.std.specs.Fmt.{digits}
use Rattle.pay_html.specs.Words.{escaped}

-- by its number, the account and what it does
unfoldable pub fix_line : ℕ → ℕ → ℕ → List ℕ → List ℕ
fix_line staff seq account what =
    codes "<code>FIX "
    ++ (decimal staff ++ (codes " " ++ (decimal seq ++ (codes " " ++ (decimal account ++ (codes " " ++ (escaped what ++ codes "</code>")))))))

-- ---- worked rows

of_a_void : fix_line 3 5 7 (codes "VOID 1 2") ≡ codes "<code>FIX 3 5 7 VOID 1 2</code>"
unfolding digits fix_line
of_a_void = refl

of_markup : fix_line 3 5 7 (codes "<b>'") ≡ codes "<code>FIX 3 5 7 &lt;b&gt;&#39;</code>"
unfolding digits fix_line
of_markup = refl

-- Bands are the same ones where each is the one that stands beside it.
use Rattle.std.proofs.Common.{◌≡◌, ℕ, ◌==◌, ◌&&◌, Bool, true, List, [], ◌∷◌, length, refl, sym, ap, ◌∙◌, arith}
use Rattle.std.specs.Prelude.{IsTrue}
use Rattle.std.specs.Bool.{Decides}
use Rattle.std.specs.List.{list_all, zip}
use Rattle.std.proofs.lemmas.Bool.{and_parts}
use Rattle.std.proofs.lemmas.Bool.Decides.{Decides-and, Decides-eqb, Decides-like}
use Rattle.pay_tables.specs.declared.band.Band.{Band}
use Rattle.pay_tables.specs.declared.band.Cover.{Cover}
use Rattle.pay_tables.specs.declared.band.Cover.TheVariants.{Buses, Zones}
use Rattle.pay_tables.specs.declared.zones.Span.{Span}
use Rattle.pay_tables.specs.Words.{same_cover, same_span}
use Rattle.pay_compare.specs.Bands.{same_band}

one_span : (a b : Span) → Decides (same_span a b) (a ≡ b)
one_span a b = Decides-like (same_span a b) (λ e. ap (λ (n : ℕ). record { from = n; to = a.to }) e.0 ∙ ap (λ (n : ℕ). record { from = b.from; to = n }) e.1) (λ e. (ap (λ (s : Span). s.from) e, ap (λ (s : Span). s.to) e))
    (Decides-and (a.from == b.from) (a.to == b.to) (Decides-eqb a.from b.from) (Decides-eqb a.to b.to))

one_cover : (a b : Cover) → Decides (same_cover a b) (a ≡ b)
one_cover Buses Buses = (λ e. refl, λ e. refl)
one_cover Buses (Zones others) = (λ e. cc, λ e. cc)
one_cover (Zones zones) Buses = (λ e. cc, λ e. cc)
one_cover (Zones zones) (Zones others) = Decides-like (same_span zones others) (λ e. ap Zones e) (λ e. cc) (one_span zones others)

one_band : (a b : Band) → Decides (same_band a b) (a ≡ b)
one_band a b = Decides-like (same_band a b)
    (λ e. ap (λ (it : Cover). record { cover = it; day = a.day; week = a.week }) e.0.0 ∙ ap (λ (it : ℕ). record { cover = b.cover; day = it; week = a.week }) e.0.1
    ∙ ap (λ (it : ℕ). record { cover = b.cover; day = b.day; week = it }) e.1)
    (λ e. ((ap (λ (it : Band). it.cover) e, ap (λ (it : Band). it.day) e), ap (λ (it : Band). it.week) e))
    (Decides-and (same_cover a.cover b.cover && a.day == b.day) (a.week == b.week)
    (Decides-and (same_cover a.cover b.cover) (a.day == b.day) (one_cover a.cover b.cover) (Decides-eqb a.day b.day)) (Decides-eqb a.week b.week))

pub same_lists : (xs ys : List Band) → length xs ≡ length ys → list_all (λ (pair : Band × Band). same_band pair.0 pair.1) (zip xs ys) ≡ true → xs ≡ ys
same_lists [] [] long all = refl
same_lists [] (y ∷ ys) long all = absurd (omega (arith, long))
same_lists (x ∷ xs) [] long all = absurd (omega (arith, long))
same_lists (x ∷ xs) (y ∷ ys) long all =
    let parts = and_parts (same_band x y) (list_all (λ (pair : Band × Band). same_band pair.0 pair.1) (zip xs ys)) all in
    ap (λ z. z ∷ xs) ((one_band x y).0 parts.0) ∙ ap (λ zs. y ∷ zs) (same_lists xs ys (omega (arith, long)) parts.1)

pub itself : (xs : List Band) → list_all (λ (pair : Band × Band). same_band pair.0 pair.1) (zip xs xs) ≡ true
itself [] = refl
itself (x ∷ xs) = ap (λ b. b && list_all (λ (pair : Band × Band). same_band pair.0 pair.1) (zip xs xs)) ((one_band x x).1 refl) ∙ itself xs

pub are_one : (xs ys : List Band) → length xs ≡ length ys → (r : Bool) → r ≡ list_all (λ (pair : Band × Band). same_band pair.0 pair.1) (zip xs ys) → (IsTrue r → xs ≡ ys) × (xs ≡ ys → IsTrue r)
are_one xs ys long r is = (λ yes. same_lists xs ys long (sym is ∙ yes), λ e. is ∙ ap (λ zs. list_all (λ (pair : Band × Band). same_band pair.0 pair.1) (zip xs zs)) (sym e) ∙ itself xs)

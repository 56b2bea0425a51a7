-- How places, rules and tables are stored as numbers, so that a model may hold them.
use Rattle.std.specs.Prelude.{◌≡◌, ℕ, ◌⊎◌, List, Option, Some, None, refl}
use Rattle.std.proofs.Common.{inl, inr}
use Rattle.std.specs.Ordering.{nat_cmp}
use Rattle.std.specs.FinMap as map
use Rattle.std.specs.FinMap.{FinMap}
use Rattle.std.specs.Coded.{Coded, code_by, coded×, coded⊎, coded_ℕ, coded_list, coded_option}
use Rattle.pay_tables.specs.declared.band.Band.{Band}
use Rattle.pay_tables.specs.declared.band.Cover.{Cover}
use Rattle.pay_tables.specs.declared.band.Cover.TheVariants.{Buses, Zones}
use Rattle.pay_tables.specs.declared.place.Place.{Place}
use Rattle.pay_tables.specs.declared.place.Place.TheVariants.{Station, Route}
use Rattle.pay_tables.specs.declared.rules.Rules.{Rules}
use Rattle.pay_tables.specs.declared.single.Single.{Single}
use Rattle.pay_tables.specs.declared.interchange.Interchange.{Interchange}
use Rattle.pay_tables.specs.FareTables.{FareTables}

abbrev place_parts : Place → (ℕ × (ℕ × ℕ)) ⊎ ℕ
place_parts (Station low high operator) = inl (low, (high, operator))
place_parts (Route operator) = inr operator

abbrev place_from_parts : (ℕ × (ℕ × ℕ)) ⊎ ℕ → Place
place_from_parts (inl p) = Station p.0 p.1.0 p.1.1
place_from_parts (inr operator) = Route operator

pub place_from_parts-place_parts : (p : Place) → place_from_parts (place_parts p) ≡ p
place_from_parts-place_parts (Station low high operator) = refl
place_from_parts-place_parts (Route operator) = refl

-- a place is stored as its parts
abbrev pub place_code : Coded Place
place_code = code_by ((ℕ × (ℕ × ℕ)) ⊎ ℕ) (coded⊎ (coded× coded_ℕ (coded× coded_ℕ coded_ℕ)) coded_ℕ) place_parts place_from_parts place_from_parts-place_parts

-- rules are stored as the tuple of their numbers
abbrev pub rules_code : Coded Rules
rules_code =
    code_by (ℕ × (ℕ × (ℕ × (ℕ × ℕ)))) (coded× coded_ℕ (coded× coded_ℕ (coded× coded_ℕ (coded× coded_ℕ coded_ℕ)))) (λ r. (r.bus, (r.maximum, (r.hopper, (r.same_free, r.same_limit)))))
    (λ p. record { bus = p.0; maximum = p.1.0; hopper = p.1.1.0; same_free = p.1.1.1.0; same_limit = p.1.1.1.1 })
    (λ _. refl)

-- a single fare is stored as the tuple of its numbers
abbrev pub single_code : Coded Single
single_code =
    code_by ((ℕ × ℕ) × (ℕ × ℕ)) (coded× (coded× coded_ℕ coded_ℕ) (coded× coded_ℕ coded_ℕ)) (λ s. ((s.span.from, s.span.to), (s.peak, s.off)))
    (λ p. record { span = record { from = p.0.0; to = p.0.1 }; peak = p.1.0; off = p.1.1 })
    (λ _. refl)

abbrev cover_zones : Cover → Option (ℕ × ℕ)
cover_zones Buses = None
cover_zones (Zones span) = Some (span.from, span.to)

abbrev cover_of_zones : Option (ℕ × ℕ) → Cover
cover_of_zones None = Buses
cover_of_zones (Some p) = Zones (record { from = p.0; to = p.1 })

pub cover_of_zones-cover_zones : (c : Cover) → cover_of_zones (cover_zones c) ≡ c
cover_of_zones-cover_zones Buses = refl
cover_of_zones-cover_zones (Zones span) = refl

-- what a band covers is stored as its zones, which that of the buses has none of
abbrev pub cover_code : Coded Cover
cover_code = code_by (Option (ℕ × ℕ)) (coded_option (coded× coded_ℕ coded_ℕ)) cover_zones cover_of_zones cover_of_zones-cover_zones

-- a band is stored as that and its caps
abbrev pub band_code : Coded Band
band_code = code_by (Cover × (ℕ × ℕ)) (coded× cover_code (coded× coded_ℕ coded_ℕ)) (λ b. (b.cover, (b.day, b.week))) (λ p. record { cover = p.0; day = p.1.0; week = p.1.1 }) (λ _. refl)

-- an interchange is stored as the tuple of its numbers
abbrev pub interchange_code : Coded Interchange
interchange_code = code_by (ℕ × (ℕ × ℕ)) (coded× coded_ℕ (coded× coded_ℕ coded_ℕ)) (λ i. (i.a, (i.b, i.seconds))) (λ p. record { a = p.0; b = p.1.0; seconds = p.1.1 }) (λ _. refl)

-- the parts of what a file says
abbrev pub FareTablesParts : Type 0
FareTablesParts = (ℕ × List ℕ) × ((Rules × (List Single × List Band)) × ((List ℕ × FinMap nat_cmp Place) × List Interchange))

-- what a file says is stored as the tuple of its parts
abbrev pub fare_tables_code : Coded FareTables
fare_tables_code =
    code_by FareTablesParts
    (coded× (coded× coded_ℕ (coded_list coded_ℕ)) (coded× (coded× rules_code (coded× (coded_list single_code) (coded_list band_code))) (coded× (coded× (coded_list coded_ℕ) (map.code coded_ℕ place_code)) (coded_list interchange_code))))
    (λ t. ((t.zones, t.minutes), ((t.rules, (t.singles, t.bands)), ((t.holidays, t.places), t.interchanges))))
    (λ p. record { zones = p.0.0; minutes = p.0.1; rules = p.1.0.0; singles = p.1.0.1.0; bands = p.1.0.1.1; holidays = p.1.1.0.0; places = p.1.1.0.1; interchanges = p.1.1.1 })
    (λ _. refl)

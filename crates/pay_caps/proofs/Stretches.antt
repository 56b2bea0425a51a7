-- A stretch of journeys taken from the sums of all, one after another, and added to those of the others.
use Rattle.std.proofs.Common.{◌≡◌, ◌≤◌, List, [], ◌∷◌, ◌++◌, append_assoc, refl, ap, sym, ◌∙◌, arith}
use Rattle.std.proofs.lemmas.List.{append-nil}
use Rattle.pay_tables.specs.Words.{FareTables}
use Rattle.pay_rules.specs.declared.journey.Journey.{Journey}
use Rattle.pay_rules.specs.JourneyFares.{fare}
use Rattle.pay_caps.specs.CellSums.{CellSums}
use Rattle.pay_caps.specs.CellOf.{cell_of}
use Rattle.pay_caps.specs.Cells.{taken, sum_at, cells_of}
use Rattle.pay_caps.specs.Stretches.{all_added, all_taken}
use Rattle.pay_caps.specs.Laws.{StretchIsTaken, RestIsLeft, EachFareIsThere, StretchIsAdded}
use Rattle.pay_caps.proofs.Taking.{among, others_left}

-- ---- taken

-- the first of the stretch
first_taken : (tables : FareTables) (left : List Journey) (journey : Journey) (rest right : List Journey)
    → taken (cell_of tables journey) (fare tables journey) (cells_of tables (left ++ journey ∷ rest ++ right)) ≡ cells_of tables (left ++ rest ++ right)
first_taken tables left journey rest right =
    ap (λ (list : List Journey). taken (cell_of tables journey) (fare tables journey) (cells_of tables list)) (append_assoc left (journey ∷ rest) right)
    ∙ others_left tables left journey (rest ++ right)
    ∙ ap (cells_of tables) (sym (append_assoc left rest right))

some_taken : (tables : FareTables) (left done rest right : List Journey) → all_taken tables done (cells_of tables (left ++ (done ++ rest) ++ right)) ≡ cells_of tables (left ++ rest ++ right)
some_taken tables left [] rest right = refl
some_taken tables left (journey ∷ done) rest right =
    ap (λ (sums : CellSums). all_taken tables done sums) (first_taken tables left journey (done ++ rest) right) ∙ some_taken tables left done rest right

pub rest_is_left : (tables : FareTables) → RestIsLeft tables
rest_is_left tables left stretch right done rest split =
    ap (λ (list : List Journey). all_taken tables done (cells_of tables (left ++ list ++ right))) split ∙ some_taken tables left done rest right

pub stretch_is_taken : (tables : FareTables) → StretchIsTaken tables
stretch_is_taken tables left stretch right =
    rest_is_left tables left stretch right stretch [] (sym (append-nil stretch)) ∙ ap (λ (list : List Journey). cells_of tables (list ++ right)) (append-nil left)

pub each_fare_is_there : (tables : FareTables)
    → ((before : List Journey) (journey : Journey) (after : List Journey) → fare tables journey ≤ sum_at (cell_of tables journey) (cells_of tables (before ++ journey ∷ after)))
    → EachFareIsThere tables
each_fare_is_there tables there left stretch right done journey rest split =
    let now = rest_is_left tables left stretch right done (journey ∷ rest) split ∙ ap (cells_of tables) (append_assoc left (journey ∷ rest) right) in
    omega (arith, there left journey (rest ++ right), ap (sum_at (cell_of tables journey)) now)

-- ---- added

pub stretch_is_added : (tables : FareTables) → StretchIsAdded tables
stretch_is_added tables left [] right = ap (λ (list : List Journey). cells_of tables (list ++ right)) (sym (append-nil left))
stretch_is_added tables left (journey ∷ rest) right =
    ap (λ (sums : CellSums). all_added tables rest sums) (sym (among tables left journey right))
    ∙ ap (λ (list : List Journey). all_added tables rest (cells_of tables list)) (sym (append_assoc left (journey ∷ []) right))
    ∙ stretch_is_added tables (left ++ journey ∷ []) rest right
    ∙ ap (λ (list : List Journey). cells_of tables (list ++ right)) (append_assoc left (journey ∷ []) rest)

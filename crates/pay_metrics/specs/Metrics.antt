-- The text of all metrics, in the exposition format of Prometheus, 0.0.4.
use Rattle.std.specs.Prelude.{ℕ, List, [], ◌∷◌, ◌++◌, Option, Some, None, option_map, if◌then◌else◌, codes}
use Rattle.std.specs.List.{flat_map}
use Rattle.pay_metrics.specs.Families.{FamilyOf, families}
use Rattle.pay_metrics.specs.Fields.{after, fields_in, fields_of, is_number, parted}

-- a number of a metric
unfoldable pub plain : List ℕ → List ℕ → List ℕ
plain metric number = metric ++ (codes " " ++ (number ++ codes "\n"))

-- one with a label of this value
unfoldable pub labelled : List ℕ → List ℕ → List ℕ → List ℕ → List ℕ
labelled metric label value number = metric ++ (codes "{" ++ (label ++ (codes "=\"" ++ (value ++ (codes "\"} " ++ (number ++ codes "\n"))))))

-- VALUE=NUMBER, if the value is a number too
abbrev pub labelled_by : List ℕ → List ℕ → Option (List ℕ × List ℕ) → List ℕ
labelled_by metric label None = []
labelled_by metric label (Some it) = if is_number it.0 then labelled metric label it.0 it.1 else []

-- what stands in a field behind the name
abbrev pub sample_of : List ℕ → Option (List ℕ) → List ℕ → List ℕ
sample_of metric None rest = plain metric rest
sample_of metric (Some label) rest = labelled_by metric label (parted rest)

abbrev pub sample_if : FamilyOf → Option (List ℕ) → List ℕ
sample_if family None = []
sample_if family (Some rest) = sample_of family.metric family.label rest

-- what a field says of a metric: nothing, if it is another's
abbrev pub sample : FamilyOf → List ℕ → List ℕ
sample family field = sample_if family (after family.field field)

abbrev pub samples : FamilyOf → List ℕ → List ℕ
samples family fields = flat_map (sample family) (fields_in fields)

-- numbers of a metric, below what it is
unfoldable pub headed : FamilyOf → List ℕ → List ℕ
headed family numbers =
    codes "# HELP "
    ++ (family.metric ++ (codes " " ++ (family.help ++ (codes "\n# TYPE " ++ (family.metric ++ (codes " " ++ (family.kind ++ (codes "\n" ++ numbers))))))))

abbrev pub if_any : FamilyOf → List ℕ → List ℕ
if_any family [] = []
if_any family (first ∷ more) = headed family (first ∷ more)

-- all that fields say of a metric
abbrev pub metric_text : List ℕ → FamilyOf → List ℕ
metric_text fields family = if_any family (samples family fields)

abbrev pub up : List ℕ
up = codes "# HELP farebox_up Whether the service answers.\n# TYPE farebox_up gauge\nfarebox_up 1\n"

abbrev pub all_text : List ℕ → List ℕ
all_text fields = up ++ flat_map (metric_text fields) families

-- the text of a line of STATS
abbrev pub metrics_text : List ℕ → Option (List ℕ)
metrics_text line = option_map all_text (fields_of line)

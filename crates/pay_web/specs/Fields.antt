-- The fields of each answer.
use Rattle.std.specs.Prelude.{ℕ, List, [], ◌∷◌, ◌++◌, codes}
use Rattle.http1.specs.Fields.{Header}

-- what a browser may take for a page: the style sheet of this host and nothing else; its forms are sent to this host, and no other page shows it
abbrev pub policy : Header
policy = (codes "content-security-policy", codes "default-src 'none'; style-src 'self'; form-action 'self'; frame-ancestors 'none'; base-uri 'none'")

abbrev pub policy_fields : List Header
policy_fields =
    policy
    ∷ (codes "x-content-type-options", codes "nosniff")
    ∷ (codes "cross-origin-resource-policy", codes "same-origin")
    ∷ (codes "cross-origin-opener-policy", codes "same-origin")
    ∷ []

-- nothing is kept, and the connection ends
abbrev pub kept_fields : List Header
kept_fields = (codes "cache-control", codes "no-store") ∷ (codes "referrer-policy", codes "same-origin") ∷ (codes "connection", codes "close") ∷ []

-- all fields of an answer of this content type
abbrev pub fields : List ℕ → List Header
fields content_type = policy_fields ++ (kept_fields ++ (codes "content-type", content_type) ∷ [])

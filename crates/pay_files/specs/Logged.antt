-- What a service says of itself.
use Rattle.std.specs.Prelude.{◌≡◌, ◌/◌, ◌%◌, ℕ, List, [], ◌++◌, Option, None, Some, codes, decimal, refl}
use Rattle.std.specs.Fmt.{digits}

-- how many lines a start took again, and in how many tenths of a second
abbrev pub took_text : ℕ → ℕ → List ℕ
took_text lines tenths = codes "took " ++ (decimal lines ++ (codes " lines of journals in " ++
    (decimal (tenths / 10) ++ (codes "." ++ (decimal (tenths % 10) ++ codes " s")))))

-- a name and its number in the reply to STATS, if that is known
abbrev pub named : List ℕ → Option ℕ → List ℕ
named name None = []
named name (Some number) = codes " " ++ (name ++ (codes "=" ++ decimal number))

-- ---- worked rows

nearly_ten_seconds : took_text 290_000 98 ≡ codes "took 290000 lines of journals in 9.8 s"
unfolding digits
nearly_ten_seconds = refl

no_time : took_text 0 0 ≡ codes "took 0 lines of journals in 0.0 s"
unfolding digits
no_time = refl

bytes_of_journals : named (codes "journal_bytes") (Some 4_096) ≡ codes " journal_bytes=4096"
unfolding digits
bytes_of_journals = refl

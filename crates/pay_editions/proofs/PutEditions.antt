-- An edition is put among others before the first that begins earlier.
use Rattle.std.proofs.Common.{◌≡◌, ℕ, suc, ◌+◌, ◌<◌, ◌==◌, ◌||◌, not, Bool, true, false, cond, List, [], ◌∷◌, Option, Some, None, length, unwrap_or, refl, ap, ◌∙◌, arith}
use Rattle.std.specs.Prelude.{nat_lt}
use Rattle.std.specs.List.{AllByRecursion, insert, position, position_or_len}
use Rattle.std.proofs.lemmas.Bool.Decides.{nat_tests}
use Rattle.std.proofs.lemmas.List.Sums.{prefix_len-le-length}
use Rattle.pay_tables.specs.declared.edition.Edition.{Edition}
use Rattle.pay_tables.specs.Words.{AreFromLast}
use Rattle.pay_fare_file.specs.FareFile.{begins_before, has_edition, put_edition}

pub put_at_place : (editions : List Edition) (edition : Edition) → insert editions (position_or_len (begins_before edition.day) editions) edition ≡ put_edition edition editions
put_at_place [] edition = refl
put_at_place (other ∷ others) edition = by (begins_before edition.day other) (put_at_place others edition)
  where
    place : ℕ
    place = position_or_len (begins_before edition.day) others

    by : (b : Bool) → insert others place edition ≡ put_edition edition others
        → insert (other ∷ others) (cond (not b) (1 + place) 0) edition ≡ cond b (edition ∷ other ∷ others) (other ∷ put_edition edition others)
    by true rest = refl
    by false rest =
        let more : 1 + place ≡ suc place = omega arith in
        ap (λ n. insert (other ∷ others) n edition) more ∙ ap (λ list. other ∷ list) rest

pub put_length : (edition : Edition) (editions : List Edition) → length (put_edition edition editions) ≡ length editions + 1
put_length edition [] = refl
put_length edition (other ∷ others) = by (begins_before edition.day other) (put_length edition others)
  where
    by : (b : Bool) → length (put_edition edition others) ≡ length others + 1 → length (cond b (edition ∷ other ∷ others) (other ∷ put_edition edition others)) ≡ length (other ∷ others) + 1
    by true rest = omega arith
    by false rest = omega (arith, rest)

pub put_all : (P : Edition → Type 0) (edition : Edition) (editions : List Edition) → P edition → AllByRecursion P editions → AllByRecursion P (put_edition edition editions)
put_all P edition [] is all = (is, tt)
put_all P edition (other ∷ others) is all = by (begins_before edition.day other) (put_all P edition others is all.1)
  where
    by : (b : Bool) → AllByRecursion P (put_edition edition others) → AllByRecursion P (cond b (edition ∷ other ∷ others) (other ∷ put_edition edition others))
    by true rest = (is, all)
    by false rest = (all.0, rest)

all_before : (first last : ℕ) (editions : List Edition) → first < last → AllByRecursion (λ other. other.day < first) editions → AllByRecursion (λ other. other.day < last) editions
all_before first last [] less all = tt
all_before first last (other ∷ others) less all = (omega (arith, less, all.0), all_before first last others less all.1)

pub put_from_last : (edition : Edition) (editions : List Edition) → has_edition editions edition.day ≡ false → AreFromLast editions → AreFromLast (put_edition edition editions)
put_from_last edition [] new from_last = (tt, tt)
put_from_last edition (other ∷ others) new from_last =
    by (begins_before edition.day other) refl (put_from_last edition others (none_there (edition.day == other.day) (has_edition others edition.day) new) from_last.1)
  where
    none_there : (a b : Bool) → (a || b) ≡ false → b ≡ false
    none_there true b e = cc
    none_there false b e = e

    not_here : (a b : Bool) → (a || b) ≡ false → a ≡ false
    not_here true b e = cc
    not_here false b e = refl

    by : (b : Bool) → begins_before edition.day other ≡ b → AreFromLast (put_edition edition others) → AreFromLast (cond b (edition ∷ other ∷ others) (other ∷ put_edition edition others))
    by true e rest = ((before, all_before other.day edition.day others before from_last.0), from_last)
      where
        before : other.day < edition.day
        before = grind (arith, nat_tests, e)
    by false e rest = (put_all (λ it. it.day < other.day) edition others after from_last.0, rest)
      where
        after : edition.day < other.day
        after = grind (arith, nat_tests, e, not_here (edition.day == other.day) (has_edition others edition.day) new)

-- where none begins earlier, an edition is put at the end
pub put_where_found : (editions : List Edition) (edition : Edition) (found : Option ℕ) → found ≡ position (begins_before edition.day) editions
    → insert editions (unwrap_or found (length editions)) edition ≡ put_edition edition editions
put_where_found editions edition found is =
    ap (λ place. insert editions place edition) (ap (λ (o : Option ℕ). unwrap_or o (length editions)) is ∙ by (nat_lt place (length editions)) refl) ∙ put_at_place editions edition
  where
    place : ℕ
    place = position_or_len (begins_before edition.day) editions

    by : (b : Bool) → nat_lt place (length editions) ≡ b → unwrap_or (cond b (Some place) None) (length editions) ≡ place
    by true e = refl
    by false e = grind (arith, nat_tests, e, prefix_len-le-length (λ other. not (begins_before edition.day other)) editions)

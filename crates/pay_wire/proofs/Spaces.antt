-- Where the words of a line end.
use Rattle.std.proofs.Common.{◌≡◌, ℕ, suc, ◌+◌, ◌<◌, ◌≤◌, Bool, true, false, cond, not, List, [], ◌∷◌, length, get_or, take, drop, refl, sym, ◌∙◌, arith, ◌==◌}
use Rattle.std.specs.List.{position_or_len, onto_first}
use Rattle.std.proofs.lemmas.List.Sums.{position_or_len_is, prefix_len-le-length}
use Rattle.std.proofs.lemmas.Bool.{ne_eqb, eq-eqb}
use Rattle.pay_wire.specs.Fields.{is_space, words, words_after, has_none}

pub first_space : (line : List ℕ) (i : ℕ) → i ≤ length line → ((k : ℕ) → k < i → get_or line k 0 ≡ 32 → ⊥) → (i < length line → get_or line i 0 ≡ 32) → i ≡ position_or_len is_space line
first_space line i le none here =
    sym (position_or_len_is is_space line i 0 le (λ k lt. ne_eqb _ _ (none k lt)) (λ lt. eq-eqb _ _ (here lt)))

pub space_within : (line : List ℕ) → position_or_len is_space line ≤ length line
space_within line = prefix_len-le-length (λ b. not (is_space b)) line

one_more : (n c : ℕ) (cs : List ℕ) → (take (1 + n) (c ∷ cs) ≡ c ∷ take n cs) × (drop (1 + n) (c ∷ cs) ≡ drop n cs)
one_more n c cs = let e : 1 + n ≡ suc n = omega arith in (rw e refl, rw e refl)

split_at_byte : (space : Bool) (c : ℕ) (cs : List ℕ) (n : ℕ) → words cs ≡ take n cs ∷ words_after (drop n cs)
    → cond space ([] ∷ words cs) (onto_first c (words cs)) ≡ take (cond (not space) (1 + n) 0) (c ∷ cs) ∷ words_after (drop (cond (not space) (1 + n) 0) (c ∷ cs))
split_at_byte true c cs n e = refl
split_at_byte false c cs n e = let m = one_more n c cs in rw (e, m.0, m.1) refl

-- a line is its first word, and those after it
pub split_at_end : (line : List ℕ) → words line ≡ take (position_or_len is_space line) line ∷ words_after (drop (position_or_len is_space line) line)
split_at_end [] = refl
split_at_end (c ∷ cs) = split_at_byte (is_space c) c cs (position_or_len is_space cs) (split_at_end cs)

-- a line has a word, if only the empty one
has_first : (line : List ℕ) → has_none (words line) ≡ false
has_first line = rw (split_at_end line) refl

-- no bytes follow just where no word follows
pub is_last : (rest : List ℕ) → has_none (words_after rest) ≡ (length rest == 0)
is_last [] = refl
is_last (c ∷ line) = has_first line ∙ sym (ne_eqb (length (c ∷ line)) 0 (λ e. absurd (omega (arith, e))))

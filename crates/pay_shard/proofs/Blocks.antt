-- Blocks that are filled one after another.
use Rattle.std.proofs.Common.{◌≡◌, ℕ, zero, suc, ◌+◌, ◌-◌, ◌*◌, ◌/◌, ◌%◌, ◌^◌, ◌<◌, ◌≤◌, min, List, [], ◌∷◌, ◌++◌, length, get_or, set, Option, Some, None, refl, sym, ap, ◌∙◌, subst, arith, inl, inr}
use Rattle.std.specs.List.{slice_get}
use Rattle.std.proofs.Math.Nat.{min-eq_left, min-eq_right}
use Rattle.std.proofs.lemmas.Bool.{cases_lt}
use Rattle.std.proofs.lemmas.List.{append_assoc, length-append, length-set}
use Rattle.std.proofs.lemmas.Option.{slice_get_past}
use Rattle.pay_shard.specs.JournalParts.{all_in, AreFilled, AreBlocks}
use Rattle.pay_shard.specs.declared.item.Item.{Item}

less : (many : ℕ) → many < 1024 → min many 1024 ≡ many
less many few = min-eq_left (omega arith)

more : (many : ℕ) → 1024 ≤ many → min many 1024 ≡ 1024
more many enough = min-eq_right enough

-- ---- how many there are

none_in : (blocks : List (List Item)) → AreFilled 0 blocks → all_in blocks ≡ []
none_in [] are = refl
none_in ([] ∷ blocks) are = none_in blocks are.1
none_in ((item ∷ items) ∷ blocks) are = let many : suc (length items) ≡ 0 = are.0 in absurd (omega arith)

length_all : (many : ℕ) (blocks : List (List Item)) → AreFilled many blocks → length (all_in blocks) ≡ many
length_all many [] are = sym are
length_all many (block ∷ blocks) are =
    let here : length block ≡ min many 1024 = are.0 in
    let there : length (all_in blocks) ≡ many - 1024 = length_all (many - 1024) blocks are.1 in
    let both : length (block ++ all_in blocks) ≡ length block + length (all_in blocks) = length-append block (all_in blocks) in
    elim (cases_lt many 1024) [
      | inl few ↦ let least = less many few in omega arith
      | inr enough ↦ let least = more many enough in omega arith
    ]

at_most : (many : ℕ) (blocks : List (List Item)) → AreFilled many blocks → many ≤ 1024 * length blocks
at_most many [] are = omega arith
at_most many (block ∷ blocks) are = let rest : many - 1024 ≤ 1024 * length blocks = at_most (many - 1024) blocks are.1 in omega arith

pub many_in : {before : ℕ} (many : ℕ) (blocks : List (List Item)) → AreBlocks before many blocks → length (all_in blocks) ≡ many
many_in many blocks are = length_all many blocks are.filled

pub no_more : {before : ℕ} (many : ℕ) (blocks : List (List Item)) → AreBlocks before many blocks → many ≤ 1024 * length blocks
no_more many blocks are = at_most many blocks are.filled

-- ---- one empty block more

filled_still : (many : ℕ) (blocks : List (List Item)) → AreFilled many blocks → AreFilled many (blocks ++ [] ∷ [])
filled_still many [] are = subst (λ n. AreFilled n ([] ∷ [])) (sym are) (refl, refl)
filled_still many (block ∷ blocks) are = (are.0, filled_still (many - 1024) blocks are.1)

pub all_still : (blocks : List (List Item)) → all_in (blocks ++ [] ∷ []) ≡ all_in blocks
all_still [] = refl
all_still (block ∷ blocks) = ap (λ (l : List Item). block ++ l) (all_still blocks)

still_blocks : {before : ℕ} (many : ℕ) (blocks : List (List Item)) → AreBlocks before many blocks → length blocks < (2 ^ 64 - 1 - before) / 1024 → AreBlocks before many (blocks ++ [] ∷ [])
still_blocks {before} many blocks are few =
    let longer : length (blocks ++ [] ∷ []) ≡ length blocks + 1 = length-append blocks ([] ∷ []) in
    record { filled = filled_still many blocks are.filled; few = omega arith }

pub blocks_still : {before : ℕ} (many : ℕ) (blocks after : List (List Item)) (block : List Item) → AreBlocks before many blocks → length blocks < (2 ^ 64 - 1 - before) / 1024 → block ≡ [] → after ≡ blocks ++ block ∷ [] → AreBlocks before many after
blocks_still {before} many blocks after block are few empty is =
    subst (AreBlocks before many) (sym (is ∙ ap (λ (b : List Item). blocks ++ b ∷ []) empty)) (still_blocks many blocks are few)

pub items_still : (blocks after : List (List Item)) (block : List Item) → block ≡ [] → after ≡ blocks ++ block ∷ [] → all_in after ≡ all_in blocks
items_still blocks after block empty is = ap all_in (is ∙ ap (λ (b : List Item). blocks ++ b ∷ []) empty) ∙ all_still blocks

pub one_longer : (blocks after : List (List Item)) (block : List Item) → after ≡ blocks ++ block ∷ [] → length after ≡ length blocks + 1
one_longer blocks after block is = ap length is ∙ length-append blocks (block ∷ [])

-- ---- one item more

module _ (item : Item) where
  pub size_at : (many place : ℕ) (blocks : List (List Item)) (block : List Item) → AreFilled many blocks → place < length blocks → block ≡ get_or blocks place block → length block ≡ min (many - 1024 * place) 1024
  size_at many place [] block are within is = absurd (omega arith)
  size_at many zero (first ∷ blocks) block are within is =
      let first_one : many ≡ many - 1024 * 0 = omega arith in
      ap length is ∙ are.0 ∙ ap (λ n. min n 1024) first_one
  size_at many (suc place) (first ∷ blocks) block are within is =
      let rest : length block ≡ min (many - 1024 - 1024 * place) 1024 = size_at (many - 1024) place blocks block are.1 (omega arith) is in
      let left : many - 1024 - 1024 * place ≡ many - 1024 * suc place = omega arith in
      rest ∙ ap (λ n. min n 1024) left

  filled_more : (many place : ℕ) (blocks : List (List Item)) (block : List Item) → AreFilled many blocks → 1024 * place ≤ many → many < 1024 * place + 1024 → place < length blocks → block ≡ get_or blocks place block
      → AreFilled (many + 1) (set blocks place (block ++ item ∷ []))
  filled_more many place [] block are from to within is = absurd (omega arith)
  filled_more many zero (first ∷ blocks) block are from to within is =
      let longer : length (block ++ item ∷ []) ≡ length block + 1 = length-append block (item ∷ []) in
      let whole : length block ≡ min many 1024 = ap length is ∙ are.0 in
      let here : length (block ++ item ∷ []) ≡ many + 1 = let least = less many (omega arith) in omega arith in
      let least : min (many + 1) 1024 ≡ many + 1 = min-eq_left (omega arith) in
      let left : many - 1024 ≡ many + 1 - 1024 = omega arith in
      (here ∙ sym least, subst (λ n. AreFilled n blocks) left are.1)
  filled_more many (suc place) (first ∷ blocks) block are from to within is =
      let here : length first ≡ min many 1024 = are.0 in
      let full : min many 1024 ≡ 1024 = more many (omega arith) in
      let still : min (many + 1) 1024 ≡ 1024 = more (many + 1) (omega arith) in
      let left : many - 1024 + 1 ≡ many + 1 - 1024 = omega arith in
      (here ∙ full ∙ sym still, subst (λ n. AreFilled n (set blocks place (block ++ item ∷ []))) left (filled_more (many - 1024) place blocks block are.1 (omega arith) (omega arith) (omega arith) is))

  all_more : (many place : ℕ) (blocks : List (List Item)) (block : List Item) → AreFilled many blocks → many < 1024 * place + 1024 → place < length blocks → block ≡ get_or blocks place block
      → all_in (set blocks place (block ++ item ∷ [])) ≡ all_in blocks ++ item ∷ []
  all_more many place [] block are to within is = absurd (omega arith)
  all_more many zero (first ∷ blocks) block are to within is =
      let none : many - 1024 ≡ 0 = omega arith in
      let empty : all_in blocks ≡ [] = none_in blocks (subst (λ n. AreFilled n blocks) none are.1) in
      rw (empty, is) (append_assoc first (item ∷ []) [] ∙ ap (λ (l : List Item). l ++ item ∷ []) (sym (append_nil first)))
    where
      append_nil : (l : List Item) → l ++ [] ≡ l
      append_nil [] = refl
      append_nil (x ∷ xs) = ap (λ (r : List Item). x ∷ r) (append_nil xs)
  all_more many (suc place) (first ∷ blocks) block are to within is =
      ap (λ (l : List Item). first ++ l) (all_more (many - 1024) place blocks block are.1 (omega arith) (omega arith) is)
      ∙ sym (append_assoc first (all_in blocks) (item ∷ []))

  -- the block at the place of the next item has room, and once it has that item the blocks are filled still
  pub has_room : {before : ℕ} (many place : ℕ) (blocks : List (List Item)) (block : List Item) → AreBlocks before many blocks → many < 1024 * place + 1024 → place < length blocks → block ≡ get_or blocks place block → length block < 1024
  has_room many place blocks block are to within is =
      let size = size_at many place blocks block are.filled within is in
      let few : many - 1024 * place < 1024 = omega arith in
      let least = less (many - 1024 * place) few in
      omega arith

  pub blocks_more : {before : ℕ} (many place : ℕ) (blocks : List (List Item)) (block after : List Item) → AreBlocks before many blocks → 1024 * place ≤ many → many < 1024 * place + 1024 → place < length blocks → block ≡ get_or blocks place block
      → after ≡ block ++ item ∷ [] → AreBlocks before (many + 1) (set blocks place after)
  blocks_more many place blocks block after are from to within is more_now = record {
    filled = subst (λ b. AreFilled (many + 1) (set blocks place b)) (sym more_now) (filled_more many place blocks block are.filled from to within is);
    few = rw (length-set blocks place after) are.few;
  }

  pub items_more : {before : ℕ} (many place : ℕ) (blocks : List (List Item)) (block after : List Item) → AreBlocks before many blocks → many < 1024 * place + 1024 → place < length blocks → block ≡ get_or blocks place block
      → after ≡ block ++ item ∷ [] → all_in (set blocks place after) ≡ all_in blocks ++ item ∷ []
  items_more many place blocks block after are to within is more_now =
      ap (λ (b : List Item). all_in (set blocks place b)) more_now ∙ all_more many place blocks block are.filled to within is

-- ---- the item at a place

left_of : (xs ys : List Item) (place : ℕ) → place < length xs → slice_get (xs ++ ys) place ≡ slice_get xs place
left_of [] ys place within = absurd (omega arith)
left_of (x ∷ xs) ys zero within = refl
left_of (x ∷ xs) ys (suc place) within = left_of xs ys place (omega arith)

right_of : (xs ys : List Item) (place : ℕ) → slice_get (xs ++ ys) (length xs + place) ≡ slice_get ys place
right_of [] ys place = let same : 0 + place ≡ place = omega arith in ap (slice_get ys) same
right_of (x ∷ xs) ys place = let same : length (x ∷ xs) + place ≡ suc (length xs + place) = omega arith in ap (slice_get (x ∷ xs ++ ys)) same ∙ right_of xs ys place

size_of : (many place : ℕ) (blocks : List (List Item)) (block : List Item) → AreFilled many blocks → slice_get blocks place ≡ Some block → length block ≡ min (many - 1024 * place) 1024
size_of many place [] block are is = absurd (cc)
size_of many zero (first ∷ blocks) block are is =
    let same : first ≡ block = cc in
    let first_one : many ≡ many - 1024 * 0 = omega arith in
    ap length (sym same) ∙ are.0 ∙ ap (λ n. min n 1024) first_one
size_of many (suc place) (first ∷ blocks) block are is =
    let rest : length block ≡ min (many - 1024 - 1024 * place) 1024 = size_of (many - 1024) place blocks block are.1 is in
    let left : many - 1024 - 1024 * place ≡ many - 1024 * suc place = omega arith in
    rest ∙ ap (λ n. min n 1024) left

got_within : (many place offset : ℕ) (blocks : List (List Item)) (block : List Item) → AreFilled many blocks → offset < 1024 → 1024 * place + offset < many → slice_get blocks place ≡ Some block
    → slice_get (all_in blocks) (1024 * place + offset) ≡ slice_get block offset
got_within many place offset [] block are few within is = absurd (cc)
got_within many zero offset (first ∷ blocks) block are few within is =
    let same : first ≡ block = cc in
    let here : length first ≡ min many 1024 = are.0 in
    let inside : offset < length first = elim (cases_lt many 1024) [
      | inl less_now ↦ let least = less many less_now in omega arith
      | inr enough ↦ let least = more many enough in omega arith
    ] in
    let at : 1024 * 0 + offset ≡ offset = omega arith in
    ap (slice_get (first ++ all_in blocks)) at ∙ left_of first (all_in blocks) offset inside ∙ ap (λ (b : List Item). slice_get b offset) same
got_within many (suc place) offset (first ∷ blocks) block are few within is =
    let here : length first ≡ min many 1024 = are.0 in
    let full : min many 1024 ≡ 1024 = more many (omega arith) in
    let at : 1024 * suc place + offset ≡ length first + (1024 * place + offset) = omega arith in
    ap (slice_get (first ++ all_in blocks)) at ∙ right_of first (all_in blocks) (1024 * place + offset)
    ∙ got_within (many - 1024) place offset blocks block are.1 few (omega arith) is

got_here : {before : ℕ} (many place offset : ℕ) (blocks : List (List Item)) (block : List Item) → AreBlocks before many blocks → offset < 1024 → slice_get blocks place ≡ Some block
    → slice_get block offset ≡ slice_get (all_in blocks) (1024 * place + offset)
got_here many place offset blocks block are few is = elim (cases_lt (1024 * place + offset) many) [
  | inl within ↦ sym (got_within many place offset blocks block are.filled few within is)
  | inr past ↦
      let all = length_all many blocks are.filled in
      let size = size_of many place blocks block are.filled is in
      let least = less (many - 1024 * place) (omega arith) in
      slice_get_past block offset (omega arith) ∙ sym (slice_get_past (all_in blocks) (1024 * place + offset) (omega arith))
]

-- by the number of its block, and its place there

pub got : {before : ℕ} (many place : ℕ) (blocks lent : List (List Item)) (block : List Item) (item : Option Item) (items : List Item) → AreBlocks before many blocks → lent ≡ blocks → Some block ≡ slice_get lent (place / 1024) → item ≡ slice_get block (place % 1024)
    → all_in blocks ≡ items → item ≡ slice_get items place
got many place blocks lent block item items are same there is all =
    let at : 1024 * (place / 1024) + place % 1024 ≡ place = omega arith in
    let here : slice_get blocks (place / 1024) ≡ Some block = sym (there ∙ ap (λ l. slice_get l (place / 1024)) same) in
    is ∙ got_here many (place / 1024) (place % 1024) blocks block are (omega arith) here ∙ (λ i. slice_get (all i) (at i))

pub got_none : {before : ℕ} (many place : ℕ) (blocks lent : List (List Item)) (item : Option Item) (items : List Item) → AreBlocks before many blocks → lent ≡ blocks → None ≡ slice_get lent (place / 1024) → item ≡ None
    → all_in blocks ≡ items → item ≡ slice_get items place
got_none many place blocks lent item items are same there is all =
    let many_are = length_all many blocks are.filled in
    let most = at_most many blocks are.filled in
    let beyond : length blocks ≤ place / 1024 = from blocks (place / 1024) (sym (there ∙ ap (λ l. slice_get l (place / 1024)) same)) in
    is ∙ sym (slice_get_past (all_in blocks) place (omega arith)) ∙ ap (λ l. slice_get l place) all
  where
    from : (blocks : List (List Item)) (number : ℕ) → slice_get blocks number ≡ None → length blocks ≤ number
    from [] number is = omega arith
    from (first ∷ blocks) zero is = absurd (cc)
    from (first ∷ blocks) (suc number) is = let rest = from blocks number is in omega arith

-- ---- what was forgotten

pub got_after : (past kept items : List Item) (forgotten place : ℕ) (item : Option Item) → length past ≡ forgotten → forgotten ≤ place → item ≡ slice_get kept (place - forgotten) → past ++ kept ≡ items → item ≡ slice_get items place
got_after past kept items forgotten place item many after is all =
    let at : length past + (place - forgotten) ≡ place = omega arith in
    is ∙ sym (right_of past kept (place - forgotten)) ∙ (λ i. slice_get (all i) (at i))

nothing_after : (items : List Item) → items ++ [] ≡ items
nothing_after [] = refl
nothing_after (item ∷ items) = ap (λ (l : List Item). item ∷ l) (nothing_after items)

pub many_past : {before : ℕ} (past : List Item) (many : ℕ) (blocks : List (List Item)) → length past ≡ before → AreBlocks before many blocks → length (past ++ all_in blocks) ≡ before + many
many_past past many blocks is are = let all = length_all many blocks are.filled in let both = length-append past (all_in blocks) in omega arith

-- all is in the past then
pub none_left : {before : ℕ} (many : ℕ) (blocks : List (List Item)) → AreBlocks before many blocks → AreBlocks (before + many) 0 []
none_left many blocks are = let most = at_most many blocks are.filled in let few = are.few in record { filled = refl; few = omega arith }

pub all_past_still : (past items blocks after : List Item) → past ++ blocks ≡ items → after ≡ [] → (past ++ blocks) ++ after ≡ items
all_past_still past items blocks after is none = ap (λ l. (past ++ blocks) ++ l) none ∙ nothing_after (past ++ blocks) ∙ is

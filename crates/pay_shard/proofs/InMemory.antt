-- What a shard has in memory.
use Rattle.std.proofs.Common.{◌≡◌, ◌+◌, ◌-◌, ◌<◌, ◌≤◌, max, Bool, true, false, List, [], ◌∷◌, ◌++◌, length, refl, sym, ap, ◌∙◌, subst, arith}
use Rattle.std.proofs.lemmas.List.{length-append}
use Rattle.pay_shard.specs.ShardParts.{ShardParts, with_memory, IsKeptBy}
use Rattle.pay_shard.specs.declared.item.Item.{Item}

pub item_kept : (forgets : Bool) (s t : ShardParts) (item : Item) → t.journal ≡ s.journal ++ item ∷ [] → t.memory.forgotten ≡ s.memory.forgotten → t.memory.room ≡ s.memory.room - 1 → 0 < s.memory.room
    → IsKeptBy forgets s → IsKeptBy forgets t
item_kept false s t item more same less some is = same ∙ is
item_kept true s t item more same less some is =
    let many : length t.journal ≡ length s.journal + 1 = ap length more ∙ length-append s.journal (item ∷ []) in
    omega arith

pub room_kept : (forgets : Bool) (s t : ShardParts) → t.memory.forgotten ≡ s.memory.forgotten → (1 ≤ s.memory.room → t ≡ s) → (forgets ≡ true → 1 ≤ s.memory.room) → IsKeptBy forgets s → IsKeptBy forgets t
room_kept false s t same there some is = same ∙ is
room_kept true s t same there some is = subst (IsKeptBy true) (sym (there (some refl))) is

pub forgot_kept : (forgets : Bool) (s f t : ShardParts) → forgets ≡ true → f ≡ with_memory s (record { forgotten = length s.journal; room = 0 }) → t ≡ with_memory f t.memory → t.memory.forgotten ≡ f.memory.forgotten
    → t.memory.room ≤ max f.memory.room (1 + 1023) → IsKeptBy forgets t
forgot_kept false s f t does forgot reserved same most = cc
forgot_kept true s f t does forgot reserved same most =
    let many : length t.journal ≡ length s.journal = ap (λ (u : ShardParts). length u.journal) reserved ∙ ap (λ (u : ShardParts). length u.journal) forgot in
    let front : f.memory.forgotten ≡ length s.journal = ap (λ (u : ShardParts). u.memory.forgotten) forgot in
    let none : f.memory.room ≡ 0 = ap (λ (u : ShardParts). u.memory.room) forgot in
    omega arith

-- one that has forgotten all
pub forgotten_kept : (s f : ShardParts) → f ≡ with_memory s (record { forgotten = length s.journal; room = 0 }) → IsKeptBy true f
forgotten_kept s f forgot = subst (IsKeptBy true) (sym forgot) (omega arith)

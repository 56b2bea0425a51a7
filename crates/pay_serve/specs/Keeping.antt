-- What a gate keeps of commands that were answered.
use Rattle.std.specs.Prelude.{◌≡◌, ℕ, eqb, Bool, true, false, not, if◌then◌else◌, List, [], ◌∷◌, filter, refl}
use Rattle.std.specs.List.{flat_map}
use Rattle.pay_shard.specs.Words.{is_new}
use Rattle.pay_shard.specs.declared.item.Item.{Item}
use Rattle.pay_shard.specs.declared.asked.Asked.{Asked}
use Rattle.pay_shard.specs.declared.asked.Asked.TheVariants as asked
use Rattle.pay_shard.specs.declared.item.Entry.{Entry}
use Rattle.pay_shard.specs.declared.reply.Reply.TheVariants as replies
use Rattle.pay_journal.specs.Words.{line_of}
use Rattle.pay_lanes.specs.Words.{Passed}
use Rattle.pay_serve.specs.declared.limits.TheConstants.{SPARED_LANE}

-- whether a lane is not the one that is spared
abbrev pub is_other : ℕ → Bool
is_other lane = not (eqb lane SPARED_LANE)

-- whether the line of a command is kept, with its answer: it is newly accepted, and its lane is not spared
abbrev pub is_kept : Passed → Bool
is_kept p = if is_other p.0.lane then is_new p.1.reply else false

-- the line that is kept of it, or nothing
abbrev pub kept_line : Passed → List ℕ
kept_line p = if is_kept p then line_of p.0.command else []

-- those of what was let pass, in order
abbrev pub kept_lines : List Passed → List ℕ
kept_lines passed = flat_map kept_line passed

-- whether a command is a tap or a correction
abbrev pub has_line : Asked → Bool
has_line (asked.Tap tap) = true
has_line (asked.Fix fix) = true
has_line _ = false

-- whether an entry is a tap or a correction of the spared lane, the line of which was kept before
abbrev pub is_spared : Entry → Bool
is_spared e = if is_other e.lane then false else has_line e.command

-- of the items of a journal those of other lanes
abbrev pub of_others : List Item → List Item
of_others items = filter (λ (i : Item). is_other i.entry.lane) items

-- ---- worked rows

-- what the spared lane newly asked is kept already
spared_lane : (ticket place : ℕ) (a : Asked) → kept_lines ((record { lane = 0; ticket = ticket; command = a }, record { shard = 0; place = place; ticket = ticket; command = a; reply = replies.Priced (record { day = 19_730; day_price = 175; week_price = 175; again = false }) }) ∷ []) ≡ []
spared_lane ticket place a = refl

-- a repeat of another lane is not kept
repeat_of_other : (ticket place : ℕ) (a : Asked) → kept_lines ((record { lane = 2; ticket = ticket; command = a }, record { shard = 0; place = place; ticket = ticket; command = a; reply = replies.Priced (record { day = 19_730; day_price = 175; week_price = 175; again = true }) }) ∷ []) ≡ []
repeat_of_other ticket place a = refl

-- what it newly asked is
new_of_other : (ticket place : ℕ) (a : Asked) → is_kept (record { lane = 2; ticket = ticket; command = a }, record { shard = 0; place = place; ticket = ticket; command = a; reply = replies.Priced (record { day = 19_730; day_price = 175; week_price = 175; again = false }) }) ≡ true
new_of_other ticket place a = refl

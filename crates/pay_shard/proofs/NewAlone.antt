-- The newly accepted items of a journal, by themselves: what is left out changes nothing.
use Rattle.std.proofs.Common.{◌≡◌, Bool, true, false, cond, List, [], ◌∷◌, ◌++◌, Result, Ok, Err, if◌then◌else◌, refl, sym, ap, subst}
use Rattle.std.specs.Prelude.{filter}
use Rattle.pay_tables.specs.Words.{FareEditions}
use Rattle.pay_rules.specs.declared.tap.Tap.{Tap}
use Rattle.pay_rules.specs.declared.fix.Fix.{Fix}
use Rattle.pay_rules.specs.declared.priced.Priced.{Priced}
use Rattle.pay_rules.specs.TapResults.{tap_result, after_tap}
use Rattle.pay_rules.specs.FixResults.{fix_result, after_fix}
use Rattle.pay_rules.specs.State.{State, accepted_of}
use Rattle.pay_rules.specs.declared.fares.TapFault.{TapFault}
use Rattle.pay_rules.specs.declared.fares.FixFault.{FixFault}
use Rattle.pay_shard.specs.Machine.{step_tap_result, step_fix_result, marked_step, item_step}
use Rattle.pay_shard.specs.NewItems.{is_new, AreAllNew, new_items}
use Rattle.pay_shard.specs.Runs.{Run, reply_then, run, replay}
use Rattle.pay_shard.specs.State.{kept}
use Rattle.pay_shard.specs.declared.asked.Asked.{Asked}
use Rattle.pay_shard.specs.declared.asked.Asked.TheVariants as asked
use Rattle.pay_shard.specs.declared.item.Item.{Item}
use Rattle.pay_shard.specs.declared.reply.Reply.{Reply}

-- ---- what is not newly accepted changes nothing

tap_stays : (state : State) (tap : Tap) (r : Result Priced TapFault) → is_new (step_tap_result state tap r).reply ≡ false → (step_tap_result state tap r).after ≡ state
tap_stays state tap (Err fault) old = refl
tap_stays state tap (Ok priced) old = ap (λ new. kept new state tap.account (after_tap (Ok priced) (accepted_of state tap.account) tap)) old

fix_stays : (state : State) (fix : Fix) (r : Result Priced FixFault) → is_new (step_fix_result state fix r).reply ≡ false → (step_fix_result state fix r).after ≡ state
fix_stays state fix (Err fault) old = refl
fix_stays state fix (Ok priced) old = ap (λ new. kept new state fix.account (after_fix (Ok priced) (accepted_of state fix.account) fix)) old

stays : (mark : Bool) (editions : FareEditions) (state : State) (a : Asked) → is_new (marked_step mark editions state a).reply ≡ false → (marked_step mark editions state a).after ≡ state
stays true editions state a old = refl
stays false editions state (asked.Tap tap) old = tap_stays state tap (tap_result editions (accepted_of state tap.account) tap) old
stays false editions state (asked.Fix fix) old = fix_stays state fix (fix_result editions (accepted_of state fix.account) fix) old
stays false editions state (asked.Due account day) old = refl
stays false editions state (asked.Show account day) old = refl
stays false editions state (asked.Quotes day shard of) old = refl

pub others_stay : (editions : FareEditions) (state : State) (item : Item) → is_new (item_step editions state item).reply ≡ false → (item_step editions state item).after ≡ state
others_stay editions state item old = stays item.refused_memory editions state item.entry.command old

-- ---- so they may be left out

-- of a run, what the newly accepted of it come to
abbrev of_new : Run → Run
of_new whole = record { replies = filter is_new whole.replies; after = whole.after }

-- one item before the others, by whether it is newly accepted
with_one : (editions : FareEditions) (state : State) (item : Item) (later : List Item) (whole : Run) → run editions (item_step editions state item).after later ≡ of_new whole
    → (b : Bool) → is_new (item_step editions state item).reply ≡ b
    → run editions state (if b then item ∷ later else later)
    ≡ record { replies = cond b ((item_step editions state item).reply ∷ filter is_new whole.replies) (filter is_new whole.replies); after = whole.after }
with_one editions state item later whole rest true e = ap (reply_then (item_step editions state item).reply) rest
with_one editions state item later whole rest false e = subst (λ s. run editions s later ≡ of_new whole) (others_stay editions state item e) rest

pub run_alone : (editions : FareEditions) (state : State) (items : List Item)
    → run editions state (new_items editions state items) ≡ record { replies = filter is_new (run editions state items).replies; after = replay editions state items }
run_alone editions state [] = refl
run_alone editions state (item ∷ items) =
    let next = (item_step editions state item).after in
    with_one editions state item (new_items editions next items) (run editions next items) (run_alone editions next items) (is_new (item_step editions state item).reply) refl

-- ---- each of them is newly accepted again

first_new : (reply : Reply) (later : List Reply) → AreAllNew later → (b : Bool) → is_new reply ≡ b → AreAllNew (cond b (reply ∷ later) later)
first_new reply later are true e = (e, are)
first_new reply later are false e = are

all_new : (replies : List Reply) → AreAllNew (filter is_new replies)
all_new [] = tt
all_new (reply ∷ later) = first_new reply (filter is_new later) (all_new later) (is_new reply) refl

pub stay_new : (editions : FareEditions) (state : State) (items : List Item) → AreAllNew (run editions state (new_items editions state items)).replies
stay_new editions state items = subst (λ (r : Run). AreAllNew r.replies) (sym (run_alone editions state items)) (all_new (run editions state items).replies)

-- ---- where a journal goes on

one_after : (b : Bool) (item : Item) (all first more : List Item) → all ≡ first ++ more → (if b then item ∷ all else all) ≡ (if b then item ∷ first else first) ++ more
one_after true item all first more e = ap (λ l. item ∷ l) e
one_after false item all first more e = e

pub stand_after : (editions : FareEditions) (state : State) (items more : List Item)
    → new_items editions state (items ++ more) ≡ new_items editions state items ++ new_items editions (replay editions state items) more
stand_after editions state [] more = refl
stand_after editions state (item ∷ items) more =
    let next = (item_step editions state item).after in
    one_after (is_new (item_step editions state item).reply) item (new_items editions next (items ++ more)) (new_items editions next items)
    (new_items editions (replay editions next items) more) (stand_after editions next items more)

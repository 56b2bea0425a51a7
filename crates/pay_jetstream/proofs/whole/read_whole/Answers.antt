use Rattle.std.proofs.Common.{◌≡◌, ℕ, List, length, subst, IfSome}
use Rattle.std.specs.Prelude.{OnOk}
use Rattle.pay_nats.specs.Frames.{StandsAt}
use Rattle.pay_nats.specs.Seen.{told}
use Rattle.pay_jetstream.proofs.Taking.{takes_nothing, takes_on, on_ok, whole_if}
use Rattle.pay_jetstream.proofs.whole.read_whole.Goals as goal

pub loop-init : goal.loop-init
loop-init g c = takes_nothing _ _ c.clear.ensures.items

pub loop-preserved : goal.loop-preserved
loop-preserved g c = takes_on _ _ _ _ _ c.loop.invariant c.in-Ok.ensures.bytes c.in-Ok.ensures.rest

pub returns-in-Ok-Some-clause-whole : goal.returns-in-Ok-Some-clause-whole
returns-in-Ok-Some-clause-whole g c = whole_if c.ends_there.result c.read_until.new.buf.items (told c.in-Ok-Some.field-0-0-0) c.in-Ok-Some.len
    (subst (λ (l : List ℕ). OnOk c.ends_there.result (c.in-Ok-Some.len ≡ length l)) c.deref-in-Ok-Some.ensures.value c.ends_there.ensures)
    (subst (λ (l : List ℕ). StandsAt l (told c.in-Ok-Some.field-0-0-0) c.in-Ok-Some.len) c.deref.ensures.value
    (subst (λ o. IfSome o (λ it. StandsAt c.deref.result.now (told it.0) it.1)) c.in-Ok-Some.field-0-is c.in-Ok-Some.ensures.found))

pub returns-in-Ok-Some-clause-taken : goal.returns-in-Ok-Some-clause-taken
returns-in-Ok-Some-clause-taken g c = on_ok c.ends_there.result _ (takes_on _ _ _ _ _ c.loop.invariant c.in-Ok.ensures.bytes c.in-Ok.ensures.rest)

use Rattle.std.proofs.Common.{◌≡◌, ◌++◌, List, ℕ, true, false, None, ap, sym, ◌∙◌, refl}
use Rattle.std.specs.Option.{is_some}
use Rattle.pay_peers.specs.Greetings.{Greets, is_greeted}
use Rattle.pay_peers.proofs.FirstWords.{still_taken, taken_behind}
use Rattle.pay_peers.proofs.Greeted.{none_when, greeted_on, if_ok}
use Rattle.pay_peers.proofs.peer.Peer.take_piece.Goals as goal

pub returns-then-is_some-clause-taken : goal.returns-then-is_some-clause-taken
returns-then-is_some-clause-taken g c still =
    let waits : is_some c.greet.new.self.awaited ≡ true = sym c.is_some.ensures ∙ c.if-is_some.true in
    still_taken c.args.port.role c.args.self.now.begun c.args.piece.now c.greet.new.self.begun c.greet.new.self.begun c.in_ok-rest.rest.now
    c.greet.new.self.pending.items None (c.in_ok-rest.ensures.taken still c.args.port.role) refl
    (c.in_ok-rest.ensures.pending ∙ c.requires ∙ sym (c.in_ok-rest.ensures.all waits still))

pub returns-then-is_some-clause-greets : goal.returns-then-is_some-clause-greets
returns-then-is_some-clause-greets g c still more =
    let waits : is_some c.greet.new.self.awaited ≡ true = sym c.is_some.ensures ∙ c.if-is_some.true in
    let left : c.in_ok-rest.rest.now ≡ c.greet.new.self.pending.items =
    c.in_ok-rest.ensures.all waits still ∙ sym (c.in_ok-rest.ensures.pending ∙ c.requires) in
    c.in_ok-rest.ensures.greets still more
    ∙ ap (λ (l : List ℕ). is_greeted c.greet.new.self.awaited (c.greet.new.self.begun ++ (l ++ more))) left

pub returns-clause-taken : goal.returns-clause-taken
returns-clause-taken g c =
    taken_behind c.args.port.role c.args.self.now.begun c.args.piece.now c.greet.new.self.begun c.in_ok-rest.rest.now
    c.take_lines.new.self.begun c.take_lines.new.self.pending.items c.take_lines.result c.take_lines.new.self.over
    (λ still. c.in_ok-rest.ensures.taken (c.take_lines.ensures.over still) c.args.port.role) c.take_lines.ensures.taken

pub returns-clause-greets : goal.returns-clause-greets
returns-clause-greets g c =
    let none : c.greet.new.self.awaited ≡ None = none_when c.greet.new.self.awaited (sym c.is_some.ensures ∙ c.if-is_some.false) in
    if_ok c.take_lines.result _ (λ still.
    greeted_on c.args.self.now.awaited c.take_lines.new.self.awaited c.args.self.now.begun c.args.piece.now c.greet.new.self.begun c.in_ok-rest.rest.now
    c.take_lines.new.self.begun c.take_lines.new.self.pending.items c.greet.new.self.awaited none c.take_lines.ensures.awaited
    (c.in_ok-rest.ensures.greets (c.take_lines.ensures.over still)))

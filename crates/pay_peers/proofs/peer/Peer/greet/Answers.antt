use Rattle.std.proofs.Common.{◌≡◌, ◌-◌, ◌++◌, List, ℕ, [], Some, None, length, take, drop, ap, sym, ◌∙◌, refl, append-nil, arith, rules}
use Rattle.pay_peers.specs.Greetings.{is_greeted}
use Rattle.pay_peers.proofs.FirstWords.{rest_is_taken}
use Rattle.pay_peers.proofs.Greeted.{none_greets, begun_greets, line_greets, greeting_taken}
use Rattle.pay_peers.proofs.peer.Peer.greet.Goals as goal

pub returns-then-not-awaits-clause-greeted : goal.returns-then-not-awaits-clause-greeted
returns-then-not-awaits-clause-greeted c none = none_greets c.args.self.now.awaited (c.args.self.now.begun ++ c.args.piece.now) none

pub returns-in_default-clause-taken : goal.returns-in_default-clause-taken
returns-in_default-clause-taken c still role =
    let piece = c.args.piece.now in
    let nothing : length piece - length piece ≡ 0 = omega arith in
    rest_is_taken role c.args.self.now.begun piece _ _ (search rules) c.extend.ensures (ap (λ n. take n (drop (length piece) piece)) nothing)

pub returns-in_default-clause-greets : goal.returns-in_default-clause-greets
returns-in_default-clause-greets c still =
    let piece = c.args.piece.now in
    let nothing : length piece - length piece ≡ 0 = omega arith in
    begun_greets c.args.self.now.awaited c.args.self.now.begun piece c.extend.new.self (take (length piece - length piece) (drop (length piece) piece))
    c.awaits.ensures.line c.extend.ensures (ap (λ n. take n (drop (length piece) piece)) nothing)

pub returns-clause-greeted : goal.returns-clause-greeted
returns-clause-greeted c _ =
    let same : c.args.self.now.awaited ≡ Some c.extend-2.new.self = search rules in
    ap (λ (l : List ℕ). is_greeted c.args.self.now.awaited (c.args.self.now.begun ++ l)) (sym (append-nil c.args.piece.now))
    ∙ line_greets c.args.self.now.awaited c.args.self.now.begun c.args.piece.now c.in-Some.text.now c.in-Some.behind.now c.extend-2.new.self []
    c.awaits.ensures.line (search rules) c.extend-2.ensures same

pub returns-clause-taken : goal.returns-clause-taken
returns-clause-taken c still role =
    let same : c.args.self.now.awaited ≡ Some c.extend-2.new.self = search rules in
    greeting_taken role c.args.self.now.awaited c.args.self.now.begun c.args.piece.now c.in-Some.text.now c.in-Some.behind.now c.extend-2.new.self c.clear.new.self
    c.awaits.ensures.line (search rules) (search rules) c.extend-2.ensures same c.clear.ensures

pub returns-clause-greets : goal.returns-clause-greets
returns-clause-greets c still more =
    let same : c.args.self.now.awaited ≡ Some c.extend-2.new.self = search rules in
    line_greets c.args.self.now.awaited c.args.self.now.begun c.args.piece.now c.in-Some.text.now c.in-Some.behind.now c.extend-2.new.self more
    c.awaits.ensures.line (search rules) c.extend-2.ensures same
    ∙ sym (none_greets None (c.clear.new.self ++ (c.in-Some.behind.now ++ more)) refl)

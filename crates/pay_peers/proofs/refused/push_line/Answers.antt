use Rattle.std.proofs.Common.{◌≡◌, ◌++◌, List, ℕ, get_or, take, ap, sym, ◌∙◌, take_all, append-nil}
use Rattle.std.specs.List.{flat_map}
use Rattle.std.proofs.lemmas.List.{flat_map_more, take_more}
use Rattle.pay_peers.specs.Refused.{escaped}
use Rattle.pay_peers.proofs.refused.push_line.Goals as goal

pub loop-byte-init : goal.loop-byte-init
loop-byte-init c = sym (append-nil c.args.kept.now.items)

pub loop-byte-preserved : goal.loop-byte-preserved
loop-byte-preserved c =
    let first : List ℕ = c.args.kept.now.items in
    let line : List ℕ = c.args.line.now in
    let i = c.loop-byte.byte-index in
    c.in_ok-push_escaped.ensures
    ∙ ap (λ (l : List ℕ). l ++ escaped (get_or line i 0)) c.loop-byte.invariant
    ∙ flat_map_more escaped first (take i line) (get_or line i 0)
    ∙ ap (λ (l : List ℕ). first ++ flat_map escaped l) (sym (take_more line i 0 c.loop-byte-test.true))

pub returns : goal.returns
returns c =
    c.loop-byte.invariant
    ∙ ap (λ (l : List ℕ). c.args.kept.now.items ++ flat_map escaped l) (take_all c.loop-byte.byte-index c.args.line.now c.loop-byte-test.false)

use Rattle.std.proofs.Common.{rules, ◌≡◌, ◌≤◌, ◌++◌, List, ℕ, length, take, drop, take_all, ap, ◌∙◌}
use Rattle.pay_peers.proofs.FirstWords.{asks_for}
use Rattle.pay_peers.proofs.word.backup_of.Goals as goal

pub returns : goal.returns
returns c =
    let path : List ℕ = c.in_ok-path.path.now in
    let line : List ℕ = c.args.line.now in
    let behind : path ≡ drop 7 line = search rules in
    let short : length path ≤ 129 = search rules in
    let kept : c.extend.new.self ≡ drop 7 line =
    c.extend.ensures ∙ ap (λ (l : List ℕ). take 129 (l ++ path)) c.new-kept.ensures ∙ take_all 129 path short ∙ behind in
    asks_for line c.extend.new.self (search rules) (search rules) kept

use Rattle.std.proofs.Common.{List, ℕ, ◌++◌, map, ap, sym, ◌∙◌, arith}
use Rattle.std.specs.List.{flat_map, range_with_len}
use Rattle.std.specs.String.{string_bytes}
use Rattle.std.proofs.lemmas.List.{flat_map_more}
use Rattle.std.proofs.lemmas.List.FromFn.{map-range_with_len_more}
use Rattle.pay_page.specs.Picture.{hour_mark}
use Rattle.pay_page.proofs.picture.push_hours.Goals as goal

pub loop-hours-preserved : goal.loop-hours-preserved
loop-hours-preserved c =
    let hours = c.loop-hours.hours in
    let so_far : List ℕ = map (λ (h : ℕ). h) (range_with_len 0 hours) in
    let before = string_bytes c.args.text.now in
    c.in_ok-write.ensures.bytes
    ∙ ap (λ (text : List ℕ). text ++ hour_mark hours) c.loop-hours.invariant
    ∙ flat_map_more hour_mark before so_far hours
    ∙ ap (λ (list : List ℕ). before ++ flat_map hour_mark list) (sym (map-range_with_len_more (λ (h : ℕ). h) 0 hours hours (omega arith)))

use Rattle.std.proofs.Common.{◌≡◌, ◌++◌, map, take}
use Rattle.std.specs.List.{flat_map}
use Rattle.pay_nats.specs.Headers.{field_bytes, field_of}
use Rattle.pay_nats.proofs.headers.push_fields.Given as goal

-- the fields so far are written
abbrev pub invariant-loop-field : goal.invariant-loop-field
invariant-loop-field l = l.out.items ≡ l.fn.out.items ++ flat_map field_bytes (map field_of (take l.field-index l.fields))

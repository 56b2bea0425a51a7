-- What is so of a value, where there is one.
use Rattle.std.proofs.Common.{Result, Ok, Err, IfOk}

pub on_ok : {T E : Type 0} (r : Result T E) (P Q : T → Type 0) → ((x : T) → P x → Q x) → IfOk r P → IfOk r Q
on_ok (Ok x) P Q then is = then x is
on_ok (Err e) P Q then is = tt

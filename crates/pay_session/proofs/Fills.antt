-- What a fill of the reader's buffer brings to a session.
use Rattle.std.proofs.Common.{◌≡◌, ◌≤◌, ℕ, ◌-◌, List, [], ◌++◌, length, drop, sym, ap, ◌∙◌, subst, refl, arith, append_assoc, append-nil, Some, None, Option, IfSome, length-append}
use Rattle.std.proofs.Math.Seq.{drop-append_seam}
use Rattle.std.proofs.KnownBytes.{starts_with_rest}
use Rattle.std.specs.Io.{StartsWith}
use Rattle.std.specs.Io.KnownBytes.{Keeps}
use Rattle.std.specs.Io.BufRead.{DropsConsumable}
use Rattle.pay_session.specs.Events.{Event}
use Rattle.pay_session.specs.SessionSteps.{Position, facing, with_ahead, Advances, Breaks, TakesToQuit, BringsMore, BringsEnd, BringsQuit, Loses}
use Rattle.pay_session.specs.declared.request.Request.{Request}
use Rattle.pay_session.specs.Stops.{IsWriteFailure}
use Rattle.pay_session.specs.declared.stop.Stop.{Stop}
use Rattle.pay_session.specs.declared.stop.Stop.TheVariants.{Read, NoMoreFills, Write}
use Rattle.pay_session.proofs.SessionSteps.{Advances_none}

-- the limit of what may be consumed is not below what was shown
fits_limit : (limit : Option ℕ) (shown amount : ℕ) → amount ≤ shown → IfSome limit (λ n. shown ≤ n) → IfSome limit (λ n. amount ≤ n)
fits_limit None shown amount h i = tt
fits_limit (Some n) shown amount h i = omega arith

-- a reader after it consumed so many of the bytes that it showed
pub consumed : (old rested new : Option (List ℕ)) (limit : Option ℕ) (shown : List ℕ) (amount : ℕ) → amount ≤ length shown → Keeps old rested
    → IfSome old (λ _. IfSome limit (λ n. length shown ≤ n)) → DropsConsumable rested new limit amount → IfSome old (λ xs. new ≡ Some (drop amount xs))
consumed None rested new limit shown amount within keeps shows drops = tt
consumed (Some xs) None new limit shown amount within keeps shows drops = absurd keeps
consumed (Some xs) (Some ys) new limit shown amount within keeps shows drops = drops (fits_limit limit (length shown) amount within shows) ∙ ap (λ l. Some (drop amount l)) keeps

drop_front : (xs ys : List ℕ) (n : ℕ) → n ≡ length xs → drop n (xs ++ ys) ≡ ys
drop_front xs ys n e = ap (λ k. drop k (xs ++ ys)) e ∙ drop-append_seam xs ys

module _ {S : Type 0} (Serves : S → Request → Event → S → Type 0) where
  -- ---- nothing is taken

  -- a reader that was interrupted, and is asked again
  pub brings_nothing : (old new : Option (List ℕ)) (p : Position S) → Keeps old new → IfSome old (λ input. BringsMore Serves p input new p)
  brings_nothing None new p keeps = tt
  brings_nothing (Some xs) None p keeps = absurd keeps
  brings_nothing (Some xs) (Some ys) p keeps = record {
    bytes = [];
    rest = xs;
    parts = refl;
    unread = ap Some keeps;
    advances = subst (λ l. Advances Serves (with_ahead p l) p) (sym (append-nil p.ahead)) (Advances_none Serves p);
  }

  -- a reader that shows nothing is at its end
  pub brings_end : (old new : Option (List ℕ)) (shown : ℕ) (p : Position S) → Keeps old new → IfSome old (λ xs. shown ≡ 0 → xs ≡ []) → shown ≡ 0 → IfSome old (λ input. BringsEnd Serves p input new p)
  brings_end None new shown p keeps h none = tt
  brings_end (Some xs) None shown p keeps h none = absurd keeps
  brings_end (Some xs) (Some ys) shown p keeps h none = record { none = h none; unread = ap Some (keeps ∙ h none); same = refl }

  -- ---- bytes that were shown

  some_quit : (p q : Position S) (shown : List ℕ) (o : Option ℕ) (left : ℕ) → o ≡ Some left → IfSome o (λ k. TakesToQuit Serves p shown k q) → TakesToQuit Serves p shown left q
  some_quit p q shown o left e f = let P : Option ℕ → Type 0 = λ o. IfSome o (λ k. TakesToQuit Serves p shown k q) in subst P e f

  pub brings_quit : (old new : Option (List ℕ)) (shown : List ℕ) (o : Option ℕ) (left : ℕ) (p q : Position S) → IfSome old (λ xs. StartsWith xs shown)
      → IfSome old (λ xs. new ≡ Some (drop (length shown - left) xs)) → o ≡ Some left → IfSome o (λ k. TakesToQuit Serves p shown k q) → IfSome old (λ input. BringsQuit Serves p input new q)
  brings_quit None new shown o left p q front drops e fs = tt
  brings_quit (Some xs) new shown o left p q front drops e fs =
      let f = some_quit p q shown o left e fs in
      let more = drop (length shown) xs in
      let parts : xs ≡ shown ++ more = starts_with_rest xs shown front in
      let size : length shown - left ≡ length f.front = omega (arith, ap length f.parts, length-append f.front f.rest, f.size) in
      record {
        bytes = shown;
        rest = f.rest;
        more = more;
        parts = parts;
        unread = drops ∙ ap Some (ap (drop (length shown - left)) (parts ∙ ap (λ l. l ++ more) f.parts ∙ append_assoc f.front f.rest more) ∙ drop_front f.front (f.rest ++ more) _ size);
        quits = f.quits;
      }

  -- a reply to a line of what was shown could not be written
  pub loses_writer : (stop : Stop) (old new : Option (List ℕ)) (shown : List ℕ) (p q : Position S) → IsWriteFailure stop → IfSome old (λ xs. StartsWith xs shown) → Breaks Serves (facing p shown) q
      → IfSome old (λ input. Loses Serves stop p input new q)
  loses_writer (Read kind) old new shown p q failed front breaks = absurd failed
  loses_writer NoMoreFills old new shown p q failed front breaks = absurd failed
  loses_writer (Write failure) None new shown p q failed front breaks = tt
  loses_writer (Write failure) (Some xs) new shown p q failed front breaks = record {
    bytes = shown;
    more = drop (length shown) xs;
    parts = starts_with_rest xs shown front;
    breaks = breaks;
  }

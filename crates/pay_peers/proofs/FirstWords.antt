-- The first word in bytes that are taken line by line.
use Rattle.std.proofs.Common.{◌≡◌, ◌<◌, nat_le, take_all, ℕ, Bool, true, false, ◌||◌, ◌&&◌, codes, eqb, if◌then◌else◌, List, [], ◌∷◌, ◌++◌, ◌-◌, length, take, drop, Option, Some, None, Result, Ok, Err, IfOk, ap, sym, subst, ◌∙◌, refl, append_assoc, append-nil, length-append, arith}
use Rattle.std.specs.Option.{is_some}
use Rattle.std.specs.Str.{bytes_eq}
use Rattle.std.proofs.lemmas.Bool.{leb-true, leb-false}
use Rattle.std.proofs.lemmas.List.{length-take-le, take-append-drop, drop_at}
use Rattle.pay_session.specs.Requests.{has_newline}
use Rattle.pay_session.specs.declared.port.Role.{Role}
use Rattle.pay_session.specs.declared.port.Role.TheVariants.{Taps, All}
use Rattle.pay_peers.specs.declared.word.Word.{Word}
use Rattle.pay_peers.specs.declared.word.Word.TheVariants.{Backup}
use Rattle.pay_peers.specs.Lines.{is_path, backup_of, word_of, word_at, found, first_word, IsTaken, Hears}
use Rattle.pay_peers.specs.Fates.{word_in, Lasts}
use Rattle.pay_peers.specs.Greetings.{Greets, is_greeted}
use Rattle.pay_peers.specs.declared.fate.Fate.{Fate}
use Rattle.pay_peers.specs.declared.fate.Fate.TheVariants.{Waits, GoesOn, Asks, Lost, Ends}
use Rattle.pay_peers.proofs.Kept.{kept_more}

-- what is kept of a line tells its word: all of a line that may be one, and of a longer one too much for any
kept_by_length : (line : List ℕ) (b : Bool) → nat_le (length line) 128 ≡ b → word_at All (take 129 line) ≡ word_at All line
kept_by_length line true e = ap (word_at All) (take_all 129 line (omega (arith, leb-true (length line) 128 e)))
kept_by_length line false e =
    let long : 128 < length line = leb-false (length line) 128 e in
    let size : length (take 129 line) ≡ 129 = length-take-le 129 line (omega (arith, long)) in
    ap (λ n. if nat_le n 128 then word_of (take 129 line) else None) size ∙ sym (ap (λ b. if b then word_of line else None) e)

pub word_kept : (role : Role) (line : List ℕ) → word_at role (take 129 line) ≡ word_at role line
word_kept Taps line = refl
word_kept All line = kept_by_length line (nat_le (length line) 128) refl

-- a line asks for a backup to what stands behind its first word
pub asks_for : (line kept : List ℕ) → bytes_eq (take 7 line) (codes "BACKUP ") ≡ true → is_path (drop 7 line) ≡ true → kept ≡ drop 7 line
    → Some (Backup kept) ≡ backup_of line
asks_for line kept begins path same =
    ap (λ (p : List ℕ). Some (Backup p)) same
    ∙ sym (
    ap (λ (b : Bool). if b && is_path (drop 7 line) then Some (Backup (drop 7 line)) else None) begins
    ∙ ap (λ (b : Bool). if b then Some (Backup (drop 7 line)) else None) path
    )

pub first_kept : (role : Role) (begun bytes : List ℕ) → first_word role (take 129 begun) bytes ≡ first_word role begun bytes
first_kept role begun [] = refl
first_kept role begun (b ∷ bs) =
    let longer : first_word role (take 129 begun ++ b ∷ []) bs ≡ first_word role (begun ++ b ∷ []) bs =
    sym (first_kept role (take 129 begun ++ b ∷ []) bs) ∙ ap (λ line. first_word role line bs) (kept_more 129 begun (b ∷ [])) ∙ first_kept role (begun ++ b ∷ []) bs in
    ap (λ word. if eqb b 10 then found word bs (first_word role [] bs) else first_word role (take 129 begun ++ b ∷ []) bs) (word_kept role begun)
    ∙ ap (λ other. if eqb b 10 then found (word_at role begun) bs (first_word role [] bs) else other) longer

-- bytes without a newline go on with the line
no_newline : (b : Bool) (c : Bool) → (b || c) ≡ false → (b ≡ false) × (c ≡ false)
no_newline true c e = absurd (let same : true ≡ false = e in cc)
no_newline false c e = (refl, e)

pub first_in_line : (role : Role) (begun text more : List ℕ) → has_newline text ≡ false → first_word role begun (text ++ more) ≡ first_word role (begun ++ text) more
first_in_line role begun [] more none = ap (λ line. first_word role line more) (sym (append-nil begun))
first_in_line role begun (b ∷ bs) more none =
    let parts = no_newline (eqb b 10) (has_newline bs) none in
    ap (λ ends. if ends then found (word_at role begun) (bs ++ more) (first_word role [] (bs ++ more)) else first_word role (begun ++ b ∷ []) (bs ++ more)) parts.0
    ∙ first_in_line role (begun ++ b ∷ []) bs more parts.1
    ∙ ap (λ line. first_word role line more) (append_assoc begun (b ∷ []) bs)

-- a newline ends it
pub first_of_line : (role : Role) (begun text more : List ℕ) → has_newline text ≡ false
    → first_word role begun (text ++ 10 ∷ more) ≡ found (word_at role (begun ++ text)) more (first_word role [] more)
first_of_line role begun text more none = first_in_line role begun text (10 ∷ more) none

-- A line is taken, and whether it is a word; and so is what no newline ends.
pub line_taken : (role : Role) (begun bytes text behind : List ℕ) → bytes ≡ text ++ 10 ∷ behind → has_newline text ≡ false
    → IsTaken role begun bytes (word_at role (begun ++ text)) [] behind
line_taken role begun bytes text behind cut none = record {
  front = text ++ 10 ∷ [];
  cut = cut ∙ sym (append_assoc text (10 ∷ []) behind);
  found = λ w is. first_of_line role begun text [] none ∙ ap (λ word. found word [] None) is;
  goes_on = λ is more. ap (first_word role begun) (append_assoc text (10 ∷ []) more) ∙ first_of_line role begun text more none
      ∙ ap (λ word. found word more (first_word role [] more)) is;
}

pub rest_taken : (role : Role) (begun bytes : List ℕ) → has_newline bytes ≡ false → IsTaken role begun bytes None (take 129 (begun ++ bytes)) []
rest_taken role begun bytes none = record {
  front = bytes;
  cut = sym (append-nil bytes);
  found = λ w is. absurd (let same : None ≡ Some w = is in cc);
  goes_on = λ _ more. first_in_line role begun bytes more none ∙ sym (first_kept role (begun ++ bytes) more);
}

-- nothing was taken
pub none_taken : (role : Role) (begun bytes : List ℕ) → IsTaken role begun bytes None begun bytes
none_taken role begun bytes = record { front = []; cut = refl; found = λ w is. absurd (let same : None ≡ Some w = is in cc); goes_on = λ _ more. refl }

-- one after the other
pub taken_then : (role : Role) (begun piece kept rest later behind : List ℕ) (word : Option Word)
    → IsTaken role begun piece None kept rest → IsTaken role kept rest word later behind → IsTaken role begun piece word later behind
taken_then role begun piece kept rest later behind word first next = record {
  front = first.front ++ next.front;
  cut = first.cut ∙ ap (λ l. first.front ++ l) next.cut ∙ sym (append_assoc first.front next.front behind);
  found = λ w is. first.goes_on refl next.front ∙ next.found w is;
  goes_on = λ is more. ap (first_word role begun) (append_assoc first.front next.front more) ∙ first.goes_on refl (next.front ++ more) ∙ next.goes_on is more;
}

-- a front was taken, and then what a call took of the rest
pub taken_behind : {E : Type 0} (role : Role) (begun piece kept rest later left : List ℕ) (taken : Result (Option Word) E) (over : Bool)
    → (over ≡ false → IsTaken role begun piece None kept rest) → IfOk taken (λ word. over ≡ false → IsTaken role kept rest word later left)
    → IfOk taken (λ word. over ≡ false → IsTaken role begun piece word later left)
taken_behind role begun piece kept rest later left (Ok word) over first next = λ still. taken_then role begun piece kept rest later left word (first still) (next still)
taken_behind role begun piece kept rest later left (Err e) over first next = tt

-- the same by what a call says of its line
pub line_is_taken : (role : Role) (begun bytes text behind kept : List ℕ) (word : Option Word) → bytes ≡ text ++ 10 ∷ behind → has_newline text ≡ false
    → word ≡ word_at role (begun ++ text) → kept ≡ [] → IsTaken role begun bytes word kept behind
line_is_taken role begun bytes text behind kept word cut none is anew =
    let P : Option Word → Type 0 = λ w. IsTaken role begun bytes w [] behind in
    let Q : List ℕ → Type 0 = λ k. IsTaken role begun bytes word k behind in
    subst Q (sym anew) (subst P (sym is) (line_taken role begun bytes text behind cut none))

pub rest_is_taken : (role : Role) (begun bytes kept behind : List ℕ) → has_newline bytes ≡ false → kept ≡ take 129 (begun ++ bytes) → behind ≡ []
    → IsTaken role begun bytes None kept behind
rest_is_taken role begun bytes kept behind none is over =
    let P : List ℕ → Type 0 = λ k. IsTaken role begun bytes None k [] in
    let Q : List ℕ → Type 0 = λ b. IsTaken role begun bytes None kept b in
    subst Q (sym over) (subst P (sym is) (rest_taken role begun bytes none))

-- what is kept and pending is left so by another call
pub still_taken : (role : Role) (begun piece kept later behind pending : List ℕ) (word : Option Word) → IsTaken role begun piece word kept behind
    → later ≡ kept → pending ≡ behind → IsTaken role begun piece word later pending
still_taken role begun piece kept later behind pending word is same left =
    let P : List ℕ → Type 0 = λ k. IsTaken role begun piece word k behind in
    let Q : List ℕ → Type 0 = λ p. IsTaken role begun piece word later p in
    subst Q (sym left) (subst P (sym same) is)

pub none_from : (word : Option Word) → is_some word ≡ false → None ≡ word
none_from None e = refl
none_from (Some w) e = cc

-- the line that a newline ends, with it
pub line_first : (bytes text behind : List ℕ) → bytes ≡ text ++ 10 ∷ behind → bytes ≡ take (length bytes - length behind) bytes ++ behind
line_first bytes text behind cut =
    let n = length bytes - length behind in
    let line = text ++ 10 ∷ [] in
    let whole : bytes ≡ line ++ behind = cut ∙ sym (append_assoc text (10 ∷ []) behind) in
    let size : length line ≡ n = omega (arith, ap length whole, length-append line behind) in
    let rest : drop n bytes ≡ behind = ap (drop n) whole ∙ drop_at line behind n size in
    sym (take-append-drop n bytes) ∙ ap (λ later. take n bytes ++ later) rest

-- what a turn hears, step by step
pub none_in : (fate : Fate) → ((word : Word) → fate ≡ Asks word → ⊥) → None ≡ word_in fate
none_in Waits none = refl
none_in GoesOn none = refl
none_in (Asks word) none = absurd (none word refl)
none_in (Lost why) none = refl
none_in Ends none = refl

-- something more comes behind what is left
taken_more : (role : Role) (begun piece kept rest more : List ℕ) → IsTaken role begun piece None kept rest → IsTaken role begun (piece ++ more) None kept (rest ++ more)
taken_more role begun piece kept rest more is = record {
  front = is.front;
  cut = ap (λ l. l ++ more) is.cut ∙ append_assoc is.front rest more;
  found = λ w e. absurd (let same : None ≡ Some w = e in cc);
  goes_on = λ _ m. is.goes_on refl m;
}

pub heard_pending : (role : Role) (awaited after : Option (List ℕ)) (begun pending kept left : List ℕ) (word : Option Word) → IsTaken role begun pending word kept left
    → Greets (awaited, begun) pending (after, kept, left) → Hears role word (awaited, begun, pending) (after, kept, left)
heard_pending role awaited after begun pending kept left word is greets =
    let P : List ℕ → Type 0 = λ piece. IsTaken role begun piece word kept left in
    let Q : List ℕ → Type 0 = λ piece. Greets (awaited, begun) piece (after, kept, left) in
    record { came = []; taken = subst P (sym (append-nil pending)) is; greets = subst Q (sym (append-nil pending)) greets }

pub heard_read : (role : Role) (awaited after : Option (List ℕ)) (begun pending piece kept left : List ℕ) (word : Option Word) → pending ≡ []
    → IsTaken role begun piece word kept left → Greets (awaited, begun) piece (after, kept, left) → Hears role word (awaited, begun, pending) (after, kept, left)
heard_read role awaited after begun pending piece kept left word none is greets =
    let P : List ℕ → Type 0 = λ before. IsTaken role begun (before ++ piece) word kept left in
    let Q : List ℕ → Type 0 = λ before. Greets (awaited, begun) (before ++ piece) (after, kept, left) in
    record { came = piece; taken = subst P (sym none) is; greets = subst Q (sym none) greets }

-- the same by what taking the lines of a piece came to
pub heard_by : {E : Type 0} (role : Role) (awaited after : Option (List ℕ)) (begun pending piece kept left : List ℕ) (fate : Fate) (taken : Result (Option Word) E) (over : Bool)
    → pending ≡ [] → taken ≡ Ok (word_in fate) → IfOk taken (λ word. over ≡ false → IsTaken role begun piece word kept left)
    → IfOk taken (λ _. over ≡ false → Greets (awaited, begun) piece (after, kept, left)) → over ≡ false
    → Hears role (word_in fate) (awaited, begun, pending) (after, kept, left)
heard_by {E} role awaited after begun pending piece kept left fate taken over none whole is greets lasts =
    let P : Result (Option Word) E → Type 0 = λ came. IfOk came (λ word. over ≡ false → IsTaken role begun piece word kept left) in
    let Q : Result (Option Word) E → Type 0 = λ came. IfOk came (λ _. over ≡ false → Greets (awaited, begun) piece (after, kept, left)) in
    heard_read role awaited after begun pending piece kept left (word_in fate) none (subst P whole is lasts) (subst Q whole greets lasts)

-- what it began with was left so by another call
pub heard_from : (role : Role) (awaited waited after : Option (List ℕ)) (begun pending first waits kept left : List ℕ) (word : Option Word)
    → waited ≡ awaited → first ≡ begun → waits ≡ pending
    → Hears role word (waited, first, waits) (after, kept, left) → Hears role word (awaited, begun, pending) (after, kept, left)
heard_from role awaited waited after begun pending first waits kept left word still same rest is =
    let O : Option (List ℕ) → Type 0 = λ a. Hears role word (a, first, waits) (after, kept, left) in
    let P : List ℕ → Type 0 = λ b. Hears role word (awaited, b, waits) (after, kept, left) in
    let Q : List ℕ → Type 0 = λ p. Hears role word (awaited, begun, p) (after, kept, left) in
    subst Q rest (subst P same (subst O still is))

-- nothing is heard by a call that leaves all as it was
pub heard_nothing : (role : Role) (awaited after : Option (List ℕ)) (begun pending kept left : List ℕ) (fate : Fate) → ((word : Word) → fate ≡ Asks word → ⊥)
    → after ≡ awaited → kept ≡ begun → left ≡ pending → Hears role (word_in fate) (awaited, begun, pending) (after, kept, left)
heard_nothing role awaited after begun pending kept left fate none still same rest =
    let P : Option Word → Type 0 = λ word. IsTaken role begun pending word kept left in
    heard_pending role awaited after begun pending kept left (word_in fate)
    (subst P (none_in fate none) (still_taken role begun pending begun kept pending left None (none_taken role begun pending) same rest))
    (λ more.
    ap (λ a. is_greeted a (begun ++ (pending ++ more))) (sym still)
    ∙ ap (λ (b : List ℕ). is_greeted after (b ++ (pending ++ more))) (sym same)
    ∙ ap (λ (p : List ℕ). is_greeted after (kept ++ (p ++ more))) (sym rest))

-- one after the other
pub heard_then : (role : Role) (awaited between after : Option (List ℕ)) (begun pending kept rest later left : List ℕ) (word : Option Word)
    → Hears role None (awaited, begun, pending) (between, kept, rest) → Hears role word (between, kept, rest) (after, later, left)
    → Hears role word (awaited, begun, pending) (after, later, left)
heard_then role awaited between after begun pending kept rest later left word first next =
    let P : List ℕ → Type 0 = λ piece. IsTaken role begun piece word later left in
    record {
      came = first.came ++ next.came;
      taken = subst P (append_assoc pending first.came next.came) (
          taken_then role begun ((pending ++ first.came) ++ next.came) kept (rest ++ next.came) later left word
          (taken_more role begun (pending ++ first.came) kept rest next.came first.taken)
          next.taken
          );
      greets = λ more.
          ap (λ (l : List ℕ). is_greeted awaited (begun ++ (l ++ more))) (sym (append_assoc pending first.came next.came))
          ∙ ap (λ (l : List ℕ). is_greeted awaited (begun ++ l)) (append_assoc (pending ++ first.came) next.came more)
          ∙ first.greets (next.came ++ more)
          ∙ ap (λ (l : List ℕ). is_greeted between (kept ++ l)) (sym (append_assoc rest next.came more))
          ∙ next.greets more;
    }

-- a step of a turn, behind what was heard before it
pub heard_on : (role : Role) (awaited between later_awaited : Option (List ℕ)) (begun pending kept rest later left : List ℕ) (fate : Fate) (before after : Bool)
    → (before ≡ false → Hears role None (awaited, begun, pending) (between, kept, rest)) → (after ≡ false → before ≡ false)
    → (Lasts fate → after ≡ false → Hears role (word_in fate) (between, kept, rest) (later_awaited, later, left)) → Lasts fate → after ≡ false
    → Hears role (word_in fate) (awaited, begun, pending) (later_awaited, later, left)
heard_on role awaited between later_awaited begun pending kept rest later left fate before after first opened next lasts still =
    heard_then role awaited between later_awaited begun pending kept rest later left (word_in fate) (first (opened still)) (next lasts still)

-- after which the turn goes on
pub heard_so_far : (role : Role) (awaited between later_awaited : Option (List ℕ)) (begun pending kept rest later left : List ℕ) (fate : Fate) (before after : Bool)
    → fate ≡ GoesOn → (before ≡ false → Hears role None (awaited, begun, pending) (between, kept, rest)) → (after ≡ false → before ≡ false)
    → (Lasts fate → after ≡ false → Hears role (word_in fate) (between, kept, rest) (later_awaited, later, left)) → after ≡ false
    → Hears role None (awaited, begun, pending) (later_awaited, later, left)
heard_so_far role awaited between later_awaited begun pending kept rest later left fate before after is first opened next still =
    let P : Fate → Type 0 = λ f. Hears role (word_in f) (awaited, begun, pending) (later_awaited, later, left) in
    let lasts : Lasts fate = subst Lasts (sym is) tt in
    subst P is (heard_on role awaited between later_awaited begun pending kept rest later left fate before after first opened next lasts still)

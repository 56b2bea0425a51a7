-- Headers are read as they are.
use Rattle.std.proofs.Common.{◌≡◌, ◌∙◌, ℕ, ◌-◌, suc, Bool, true, false, cond, not, ◌&&◌, ◌||◌, List, [], ◌∷◌, ◌++◌, length, take, drop, Option, Some, None, option_map, refl, sym, ap, subst, arith, append_assoc, length-append, take-append-drop, take_at, drop_at, true≢false, codes}
use Rattle.std.specs.Prelude.{Contains, IfSome, find, nat_eq, option_copied, ◌==◌}
use Rattle.std.specs.Borrow.{Bor}
use Rattle.std.specs.List.{AllByRecursion, flat_map, list_any, onto_first, slice_split, starts_with}
use Rattle.std.specs.Option.{option_map_or}
use Rattle.std.specs.Str.{bytes_eq}
use Rattle.std.proofs.lemmas.Bool.{and_parts}
use Rattle.std.proofs.lemmas.Bool.Decides.{Decides-eqb}
use Rattle.std.proofs.lemmas.Option.{cond_some, same_Some}
use Rattle.std.proofs.lemmas.Slice.Eq.{bytes_eq-Decides, starts_is}
use Rattle.pay_nats.specs.Frames.{is_text}
use Rattle.pay_nats.specs.HeaderReading.{before_cr, without_front, field_at, field_in, is_of, status_at}
use Rattle.pay_nats.specs.Headers.{AreHeaders, FieldOf, HasField, HasStatus, HeadersOf, IsField, field_bytes, has_name, headers_bytes, is_name, status_bytes, value_in}
use Rattle.pay_nats.specs.Lines.{crlf}
use Rattle.pay_nats.specs.Parts.{is_byte, parted}
use Rattle.pay_nats.specs.Reading.{◌>>=◌, if_text}
use Rattle.pay_nats.specs.Subjects.{is_visible}
use Rattle.pay_nats.proofs.Bytes.{no_newline_text, no_newline_visible, not_true}
use Rattle.pay_nats.proofs.Firsts.{none_in_both, none_of}
use Rattle.pay_nats.proofs.MessageWords.{bind_some}
use Rattle.pay_nats.proofs.TwoParts.{parted_again, parted_is}

-- ---- the two ends of a text

pub cr_again : (text : List ℕ) → before_cr (text ++ 13 ∷ []) ≡ Some text
cr_again text =
    let size : length (text ++ 13 ∷ []) - 1 ≡ length text = omega (arith, length-append text (13 ∷ [])) in
    rw (size, drop_at text (13 ∷ []) (length text) refl, take_at text (13 ∷ []) (length text) refl) refl

cr_is : (text it : List ℕ) → before_cr text ≡ Some it → text ≡ it ++ 13 ∷ []
cr_is text it e =
    let c = cond_some (bytes_eq (drop (length text - 1) text) (13 ∷ [])) (take (length text - 1) text) it e in
    let last = (bytes_eq-Decides (drop (length text - 1) text) (13 ∷ [])).0 c.0 in
    sym (take-append-drop (length text - 1) text) ∙ cc (last, c.1)

front_is : (front text it : List ℕ) → without_front front text ≡ Some it → text ≡ front ++ it
front_is front text it e =
    let c = cond_some (starts_with nat_eq text front) (drop (length front) text) it e in
    (starts_is Decides-eqb text front (starts_with nat_eq text front) refl).0 c.0 ∙ ap (λ (x : List ℕ). front ++ x) c.1

-- ---- a field

abbrev field_line : FieldOf → List ℕ
field_line it = it.name ++ (codes ": " ++ (it.value ++ 13 ∷ []))

no_colon : (name : List ℕ) → is_name name ≡ true → list_any (is_byte 58) name ≡ false
no_colon name e = none_of (is_byte 58) (λ b. is_visible b && not (b == 58)) (λ b is. not_true (b == 58) (and_parts (is_visible b) (not (b == 58)) is).1) name e

no_newline_name : (name : List ℕ) → is_name name ≡ true → list_any (is_byte 10) name ≡ false
no_newline_name name e = none_of (is_byte 10) (λ b. is_visible b && not (b == 58)) (λ b is. no_newline_visible b (and_parts (is_visible b) (not (b == 58)) is).0) name e

field_again : (it : FieldOf) → IsField it → field_in (field_line it) ≡ Some it
unfolding field_in
field_again it is =
    rw (parted_again 58 it.name (32 ∷ (it.value ++ 13 ∷ [])) (no_colon it.name is.named)) (ap (λ (o : Option (List ℕ)). o >>= λ value. Some (record { name = it.name; value = value })) (cr_again it.value))

field_is : (line : List ℕ) (it : FieldOf) → field_in line ≡ Some it → line ≡ field_line it
unfolding field_in
field_is line it e =
    let name = bind_some (parted (is_byte 58) line) _ it e in
    let text = bind_some (without_front (codes " ") name.0.1) _ it name.2 in
    let value = bind_some (before_cr text.0) _ it text.2 in
    subst (λ (x : FieldOf). line ≡ field_line x) (same_Some _ _ value.2)
    (parts name.0.0 name.0.1 text.0 value.0 (parted_is 58 line name.0.0 name.0.1 name.1).0 (front_is (codes " ") name.0.1 text.0 text.1) (cr_is text.0 value.0 value.1))
  where
    parts : (name rest text value : List ℕ) → line ≡ name ++ 58 ∷ rest → rest ≡ codes " " ++ text → text ≡ value ++ 13 ∷ [] → line ≡ name ++ (codes ": " ++ (value ++ 13 ∷ []))
    parts name rest text value a b c = cc (a, b, c)

-- ---- the lines

split_line : (line rest : List ℕ) → list_any (is_byte 10) line ≡ false → slice_split (is_byte 10) (line ++ 10 ∷ rest) ≡ line ∷ slice_split (is_byte 10) rest
split_line [] rest none = refl
split_line (b ∷ line) rest none = by (split_line line rest) (is_byte 10 b) none
  where
    by : (list_any (is_byte 10) line ≡ false → slice_split (is_byte 10) (line ++ 10 ∷ rest) ≡ line ∷ slice_split (is_byte 10) rest) → (t : Bool) → (t || list_any (is_byte 10) line) ≡ false
        → cond t ([] ∷ slice_split (is_byte 10) (line ++ 10 ∷ rest)) (onto_first b (slice_split (is_byte 10) (line ++ 10 ∷ rest))) ≡ (b ∷ line) ∷ slice_split (is_byte 10) rest
    by later true e = absurd cc
    by later false e = ap (onto_first b) (later e)

no_newline_field : (it : FieldOf) → IsField it → list_any (is_byte 10) (field_line it) ≡ false
no_newline_field it is =
    none_in_both (is_byte 10) it.name (codes ": " ++ (it.value ++ 13 ∷ [])) (no_newline_name it.name is.named) (none_in_both (is_byte 10) it.value (13 ∷ []) (no_newline_text it.value is.valued) refl)

regroup : (it : FieldOf) (rest : List ℕ) → field_bytes it ++ rest ≡ field_line it ++ 10 ∷ rest
regroup it rest = simp append_assoc

abbrev lines_of : List FieldOf → List (List ℕ)
lines_of fields = slice_split (is_byte 10) (flat_map field_bytes fields ++ crlf)

lines-cons : (it : FieldOf) (fields : List FieldOf) → IsField it → lines_of (it ∷ fields) ≡ field_line it ∷ lines_of fields
lines-cons it fields is =
    ap (slice_split (is_byte 10)) (append_assoc (field_bytes it) (flat_map field_bytes fields) crlf ∙ regroup it (flat_map field_bytes fields ++ crlf)) ∙ split_line (field_line it) (flat_map field_bytes fields ++ crlf) (no_newline_field it is)

no_field : (name : List ℕ) → (find (is_of name) (lines_of []) >>= field_in) ≡ None
unfolding field_in parted
no_field name = refl

is_own : (name : List ℕ) (it : FieldOf) → IsField it → is_of name (field_line it) ≡ has_name name it
is_own name it is = ap (λ (o : Option FieldOf). option_map_or (has_name name) o false) (field_again it is)

find_again : (name : List ℕ) (fields : List FieldOf) → AllByRecursion IsField fields → (find (is_of name) (lines_of fields) >>= field_in) ≡ find (has_name name) fields
find_again name [] all = no_field name
find_again name (it ∷ fields) all =
    ap (λ (lines : List (List ℕ)). find (is_of name) lines >>= field_in) (lines-cons it fields all.0) ∙ by (is_of name (field_line it)) (has_name name it) (is_own name it all.0) (find_again name fields all.1)
  where
    by : (own named : Bool) → own ≡ named → (find (is_of name) (lines_of fields) >>= field_in) ≡ find (has_name name) fields
        → (cond own (Some (field_line it)) (find (is_of name) (lines_of fields)) >>= field_in) ≡ cond named (Some it) (find (has_name name) fields)
    by true true same later = field_again it all.0
    by true false same later = absurd (true≢false same)
    by false true same later = absurd (true≢false (sym same))
    by false false same later = later

no_newline_status : (status : Option (List ℕ)) → IfSome status (λ it. is_text it ≡ true) → list_any (is_byte 10) (codes "NATS/1.0" ++ (status_bytes status ++ 13 ∷ [])) ≡ false
no_newline_status None said = refl
no_newline_status (Some status) said = none_in_both (is_byte 10) status (13 ∷ []) (no_newline_text status said) refl

-- the first line, and what stands after it
first_line : (it : HeadersOf) → AreHeaders it → parted (is_byte 10) (headers_bytes it) ≡ Some (codes "NATS/1.0" ++ (status_bytes it.status ++ 13 ∷ []), flat_map field_bytes it.fields ++ crlf)
first_line it are =
    ap (parted (is_byte 10)) (grouped (status_bytes it.status) (flat_map field_bytes it.fields ++ crlf))
    ∙ parted_again 10 (codes "NATS/1.0" ++ (status_bytes it.status ++ 13 ∷ [])) (flat_map field_bytes it.fields ++ crlf) (no_newline_status it.status are.said)
  where
    grouped : (status rest : List ℕ) → codes "NATS/1.0" ++ (status ++ (crlf ++ rest)) ≡ (codes "NATS/1.0" ++ (status ++ 13 ∷ [])) ++ 10 ∷ rest
    grouped status rest = ap (λ (x : List ℕ). codes "NATS/1.0" ++ x) (sym (append_assoc status (13 ∷ []) (10 ∷ rest)))

-- ---- what is read

field_found : (headers name : List ℕ) (it : HeadersOf) → AreHeaders it → headers ≡ headers_bytes it → field_at headers name ≡ find (has_name name) it.fields
unfolding field_at
field_found headers name it are e =
    ap (λ (o : Option (List ℕ × List ℕ)). o >>= λ line. find (is_of name) (slice_split (is_byte 10) line.1) >>= field_in) (ap (parted (is_byte 10)) e ∙ first_line it are) ∙ find_again name it.fields are.each

pub value_again : (headers name : List ℕ) (it : HeadersOf) → AreHeaders it → headers ≡ headers_bytes it → option_map (λ (x : FieldOf). x.value) (field_at headers name) ≡ value_in name it.fields
value_again headers name it are e = ap (option_map (λ (x : FieldOf). x.value)) (field_found headers name it are e)

status_found : (status : Option (List ℕ)) → IfSome status (λ it. is_text it ≡ true) → (without_front (codes "NATS/1.0 ") (codes "NATS/1.0" ++ (status_bytes status ++ 13 ∷ [])) >>= λ text. before_cr text >>= if_text) ≡ status
status_found None said = refl
status_found (Some status) said = ap (λ (o : Option (List ℕ)). o >>= if_text) (cr_again status) ∙ rw said refl

pub status_again : (headers : List ℕ) (it : HeadersOf) → AreHeaders it → headers ≡ headers_bytes it → status_at headers ≡ it.status
unfolding status_at
status_again headers it are e =
    ap (λ (o : Option (List ℕ × List ℕ)). o >>= λ line. without_front (codes "NATS/1.0 ") line.0 >>= λ text. before_cr text >>= if_text) (ap (parted (is_byte 10)) e ∙ first_line it are) ∙ status_found it.status are.said

-- ---- and it stands there

status_is : (headers status : List ℕ) → status_at headers ≡ Some status → HasStatus headers status
unfolding status_at
status_is headers status e =
    let line = bind_some (parted (is_byte 10) headers) _ status e in
    let text = bind_some (without_front (codes "NATS/1.0 ") line.0.0) _ status line.2 in
    let cut = bind_some (before_cr text.0) _ status text.2 in
    let same = (cond_some (is_text cut.0) cut.0 status cut.2).1 in
    parts line.0.0 line.0.1 text.0 cut.0 (parted_is 10 headers line.0.0 line.0.1 line.1).0 (front_is (codes "NATS/1.0 ") line.0.0 text.0 text.1) (cr_is text.0 cut.0 cut.1) same
  where
    parts : (line rest text cut : List ℕ) → headers ≡ line ++ 10 ∷ rest → line ≡ codes "NATS/1.0 " ++ text → text ≡ cut ++ 13 ∷ [] → cut ≡ status → HasStatus headers status
    parts line rest text cut a b c d =
        (rest, a ∙ (ap (λ (x : List ℕ). x ++ 10 ∷ rest) (b ∙ ap (λ (x : List ℕ). codes "NATS/1.0 " ++ x) (c ∙ ap (λ (x : List ℕ). x ++ 13 ∷ []) d)) ∙ ap (λ (x : List ℕ). codes "NATS/1.0 " ++ x) (append_assoc status (13 ∷ []) (10 ∷ rest))))

pub status_seen : (headers : List ℕ) (r : Option (Bor (List ℕ))) → option_copied r ≡ status_at headers → IfSome r (λ it. HasStatus headers it.now)
status_seen headers None e = tt
status_seen headers (Some it) e = status_is headers it.now (sym e)

-- what is found is in the list
found_in : (test : List ℕ → Bool) (lines : List (List ℕ)) (line : List ℕ) → find test lines ≡ Some line → Contains lines line × (test line ≡ true)
found_in test [] line e = absurd cc
found_in test (first ∷ lines) line e = by (test first) refl e (found_in test lines line)
  where
    rest_first : (first : List ℕ) → Contains lines line → Contains (first ∷ lines) line
    rest_first first it = (suc it.0, omega (arith, it.1), it.2)

    by : (t : Bool) → test first ≡ t → cond t (Some first) (find test lines) ≡ Some line → (find test lines ≡ Some line → Contains lines line × (test line ≡ true)) → Contains (first ∷ lines) line × (test line ≡ true)
    by true is e later = let same = same_Some first line e in ((0, omega arith, same), sym (ap test same) ∙ is)
    by false is e later = let it = later e in (rest_first first it.0, it.1)

field_stands : (headers name : List ℕ) (it : FieldOf) → field_at headers name ≡ Some it → (it.name ≡ name) × HasField headers it
unfolding field_at
field_stands headers name it e =
    let first = bind_some (parted (is_byte 10) headers) _ it e in
    let line = bind_some (find (is_of name) (slice_split (is_byte 10) first.0.1)) _ it first.2 in
    let there = found_in (is_of name) (slice_split (is_byte 10) first.0.1) line.0 line.1 in
    let named : has_name name it ≡ true = sym (ap (λ (o : Option FieldOf). option_map_or (has_name name) o false) line.2) ∙ there.1 in
    let parts = parted_is 10 headers first.0.0 first.0.1 first.1 in
    let lines : slice_split (is_byte 10) headers ≡ first.0.0 ∷ slice_split (is_byte 10) first.0.1 = ap (slice_split (is_byte 10)) parts.0 ∙ split_line first.0.0 first.0.1 parts.1 in (
      (bytes_eq-Decides it.name name).0 named,
      subst (λ (x : List ℕ). Contains (slice_split (is_byte 10) headers) x) (field_is line.0 it line.2)
          (subst (λ (x : List (List ℕ)). Contains x line.0) (sym lines) (suc there.0.0, omega (arith, there.0.1), there.0.2)),
    )

pub value_seen : (headers name : List ℕ) (r : Option (Bor (List ℕ))) → option_copied r ≡ option_map (λ (x : FieldOf). x.value) (field_at headers name) → IfSome r (λ value. HasField headers (record { name = name; value = value.now }))
value_seen headers name None e = tt
value_seen headers name (Some value) e = by (field_at headers name) refl e
  where
    by : (o : Option FieldOf) → field_at headers name ≡ o → Some value.now ≡ option_map (λ (x : FieldOf). x.value) o → HasField headers (record { name = name; value = value.now })
    by None is e = absurd cc
    by (Some it) is e =
        let stands = field_stands headers name it is in
        let same : value.now ≡ it.value = same_Some value.now it.value e in
        subst (λ (x : List ℕ). HasField headers (record { name = x; value = value.now })) stands.0
        (subst (λ (x : List ℕ). HasField headers (record { name = it.name; value = x })) (sym same) stands.1)

-- A line says one thing, and a thing is said by one line.
use Rattle.std.proofs.Common.{◌≡◌, ◌∙◌, ℕ, Bool, true, false, cond, List, ◌++◌, Option, Some, None, option_map, refl, sym, ap, subst, arith, codes}
use Rattle.std.specs.Prelude.{IfSome, decimal, ◌≤◌}
use Rattle.std.specs.Option.{option_and_then}
use Rattle.std.specs.Str.{bytes_eq}
use Rattle.std.proofs.lemmas.Option.{same_Some}
use Rattle.std.proofs.lemmas.Slice.Eq.{bytes_eq-Decides}
use Rattle.pay_nats.specs.Lines.{spaced}
use Rattle.pay_nats.specs.Frames.{Address, Done, Fault, Info, IsMeaning, IsSized, Meaning, Message, Ping, Pong, Sized, Told, Whole, is_text, meaning_line}
use Rattle.pay_nats.specs.Parts.{is_space, parted}
use Rattle.pay_nats.specs.Reading.{Words, headed_words, if_text, meaning_by, meaning_by_verb, meaning_of, meaning_of_word, meaning_of_words, message_words, verb_of, words_text}
use Rattle.pay_nats.specs.declared.meaning.Verb.{Verb}
use Rattle.pay_nats.specs.declared.meaning.Verb.TheVariants as verb
use Rattle.pay_nats.specs.Subjects.{is_subject}
use Rattle.pay_nats.proofs.Bytes.{no_space_in, no_space_of}
use Rattle.pay_nats.proofs.Meanings.{AreSized, words_again, words_is, words_of}
use Rattle.pay_nats.proofs.MessageWords.{HasNoSpace, bind_some, headed_again, headed_is, message_again, message_is}
use Rattle.pay_nats.proofs.TwoParts.{parted_again, parted_is, parted_none}

-- a line that says this
abbrev Says : List ℕ → Meaning → Type 0
Says line meaning = IsMeaning meaning × (line ≡ meaning_line meaning)

-- ---- a line of one word

word_is : (word : List ℕ) (meaning : Meaning) → meaning_of_word word ≡ Some meaning → Says word meaning
unfolding meaning_of_word
word_is word meaning e = by (bytes_eq word (codes "PING")) (bytes_eq word (codes "PONG")) (bytes_eq word (codes "+OK")) refl refl refl e
  where
    found : (frame : Told) → IsMeaning (Whole frame) → (name : List ℕ) → bytes_eq word name ≡ true → name ≡ meaning_line (Whole frame) → Whole frame ≡ meaning → Says word meaning
    found frame it name same is e = subst (λ (m : Meaning). Says word m) e (it, (bytes_eq-Decides word name).0 same ∙ is)

    by : (a b c : Bool) → bytes_eq word (codes "PING") ≡ a → bytes_eq word (codes "PONG") ≡ b → bytes_eq word (codes "+OK") ≡ c
        → cond a (Some (Whole Ping)) (cond b (Some (Whole Pong)) (cond c (Some (Whole Done)) None)) ≡ Some meaning → Says word meaning
    by true b c is _ _ e = found Ping (tt, tt) (codes "PING") is refl (same_Some _ _ e)
    by false true c _ is _ e = found Pong (tt, tt) (codes "PONG") is refl (same_Some _ _ e)
    by false false true _ _ is e = found Done (tt, tt) (codes "+OK") is refl (same_Some _ _ e)
    by false false false _ _ _ e = absurd cc

-- ---- a line of more words

abbrev verb_text : Verb → List ℕ
verb_text verb.Message = codes "MSG"
verb_text verb.Headed = codes "HMSG"
verb_text verb.Info = codes "INFO"
verb_text verb.Fault = codes "-ERR"

verb_is : (word : List ℕ) (it : Verb) → verb_of word ≡ Some it → word ≡ verb_text it
unfolding verb_of
verb_is word it e = by (bytes_eq word (codes "MSG")) (bytes_eq word (codes "HMSG")) (bytes_eq word (codes "INFO")) (bytes_eq word (codes "-ERR")) refl refl refl refl e
  where
    found : (v : Verb) → bytes_eq word (verb_text v) ≡ true → v ≡ it → word ≡ verb_text it
    found v same e = (bytes_eq-Decides word (verb_text v)).0 same ∙ ap verb_text e

    by : (a b c d : Bool) → bytes_eq word (codes "MSG") ≡ a → bytes_eq word (codes "HMSG") ≡ b → bytes_eq word (codes "INFO") ≡ c → bytes_eq word (codes "-ERR") ≡ d
        → cond a (Some verb.Message) (cond b (Some verb.Headed) (cond c (Some verb.Info) (cond d (Some verb.Fault) None))) ≡ Some it → word ≡ verb_text it
    by true b c d is _ _ _ e = found verb.Message is (same_Some _ _ e)
    by false true c d _ is _ _ e = found verb.Headed is (same_Some _ _ e)
    by false false true d _ _ is _ e = found verb.Info is (same_Some _ _ e)
    by false false false true _ _ _ is e = found verb.Fault is (same_Some _ _ e)
    by false false false false _ _ _ _ e = absurd cc

message_says : (text : List ℕ) (words : Words) (meaning : Meaning) → (text ≡ words_text words) × (words.headers ≡ None) → AreSized words meaning → Says (codes "MSG" ++ spaced text) meaning
message_says text words meaning w it = by it.address it.headers it.total it.meaning_is it.words_are it.sized
  where
    by : (address : Address) (headers : Option ℕ) (total : ℕ) → meaning ≡ Sized address headers total → words ≡ words_of address headers total → IsSized address headers total → Says (codes "MSG" ++ spaced text) meaning
    by address None total is are sized =
        subst (λ (m : Meaning). Says (codes "MSG" ++ spaced text) m) (sym is) (sized, ap (λ (x : List ℕ). codes "MSG" ++ spaced x) (w.0 ∙ ap words_text are))
    by address (Some bytes) total is are sized = absurd cc

headed_says : (text : List ℕ) (words : Words) (meaning : Meaning) → (text ≡ words_text words) × ((headers : List ℕ) × (words.headers ≡ Some headers)) → AreSized words meaning → Says (codes "HMSG" ++ spaced text) meaning
headed_says text words meaning w it = by it.address it.headers it.total it.meaning_is it.words_are it.sized
  where
    by : (address : Address) (headers : Option ℕ) (total : ℕ) → meaning ≡ Sized address headers total → words ≡ words_of address headers total → IsSized address headers total → Says (codes "HMSG" ++ spaced text) meaning
    by address None total is are sized = absurd cc
    by address (Some bytes) total is are sized =
        subst (λ (m : Meaning). Says (codes "HMSG" ++ spaced text) m) (sym is) (sized, ap (λ (x : List ℕ). codes "HMSG" ++ spaced x) (w.0 ∙ ap words_text are))

text_says : (frame : List ℕ → Told) (text : List ℕ) (meaning : Meaning) → ((text : List ℕ) → is_text text ≡ true → IsMeaning (Whole (frame text)))
    → option_map (λ (it : List ℕ). Whole (frame it)) (if_text text) ≡ Some meaning → IsMeaning meaning × (meaning ≡ Whole (frame text))
text_says frame text meaning sound e = by (is_text text) refl e
  where
    by : (t : Bool) → is_text text ≡ t → option_map (λ (it : List ℕ). Whole (frame it)) (cond t (Some text) None) ≡ Some meaning → IsMeaning meaning × (meaning ≡ Whole (frame text))
    by true is e = subst (λ (m : Meaning). IsMeaning m × (m ≡ Whole (frame text))) (same_Some _ _ e) (sound text is, refl)
    by false is e = absurd cc

verb_says : (text : List ℕ) (it : Verb) (meaning : Meaning) → meaning_by_verb text it ≡ Some meaning → Says (verb_text it ++ spaced text) meaning
verb_says text verb.Message meaning e =
    let words = bind_some (message_words text) meaning_of_words meaning e in
    message_says text words.0 meaning (message_is text words.0 words.1) (words_is words.0 meaning words.2)
verb_says text verb.Headed meaning e =
    let words = bind_some (headed_words text) meaning_of_words meaning e in
    headed_says text words.0 meaning (headed_is text words.0 words.1) (words_is words.0 meaning words.2)
verb_says text verb.Info meaning e =
    let it = text_says Info text meaning (λ text is. (tt, is)) e in
    (it.0, sym (ap meaning_line it.1))
verb_says text verb.Fault meaning e =
    let it = text_says Fault text meaning (λ text is. (tt, is)) e in
    (it.0, sym (ap meaning_line it.1))

by_parts : (line : List ℕ) (o : Option (List ℕ × List ℕ)) → parted is_space line ≡ o → (meaning : Meaning) → meaning_by line o ≡ Some meaning → Says line meaning
by_parts line None is meaning e = word_is line meaning e
by_parts line (Some it) is meaning e =
    let which = bind_some (verb_of it.0) (meaning_by_verb it.1) meaning e in
    let says = verb_says it.1 which.0 meaning which.2 in
    (says.0, (parted_is 32 line it.0 it.1 is).0 ∙ (ap (λ (x : List ℕ). x ++ spaced it.1) (verb_is it.0 which.0 which.1) ∙ says.1))

-- the line is the one that says it
pub meaning_is : (line : List ℕ) (meaning : Meaning) → meaning_of line ≡ Some meaning → IsMeaning meaning × (line ≡ meaning_line meaning)
meaning_is line meaning e = by_parts line (parted is_space line) refl meaning e

-- ---- and the other way round

verb_again : (it : Verb) → verb_of (verb_text it) ≡ Some it
unfolding verb_of
verb_again verb.Message = refl
verb_again verb.Headed = refl
verb_again verb.Info = refl
verb_again verb.Fault = refl

no_space_in_verb : (it : Verb) → HasNoSpace (verb_text it)
no_space_in_verb verb.Message = refl
no_space_in_verb verb.Headed = refl
no_space_in_verb verb.Info = refl
no_space_in_verb verb.Fault = refl

by_verb : (it : Verb) (text : List ℕ) → meaning_of (verb_text it ++ spaced text) ≡ meaning_by_verb text it
by_verb it text =
    ap (meaning_by (verb_text it ++ spaced text)) (parted_again 32 (verb_text it) text (no_space_in_verb it)) ∙ ap (option_and_then (meaning_by_verb text)) (verb_again it)

word_again : (word : List ℕ) (meaning : Meaning) → HasNoSpace word → meaning_of_word word ≡ Some meaning → meaning_of word ≡ Some meaning
word_again word meaning one e = ap (meaning_by word) (parted_none 32 word one) ∙ e

whole_again : (frame : Told) → IsMeaning (Whole frame) → meaning_of (meaning_line (Whole frame)) ≡ Some (Whole frame)
unfolding meaning_of_word
whole_again (Info text) it = by_verb verb.Info text ∙ rw it.1 refl
whole_again (Message address headers payload) it = absurd it.0
whole_again Ping it = word_again (codes "PING") (Whole Ping) refl refl
whole_again Pong it = word_again (codes "PONG") (Whole Pong) refl refl
whole_again Done it = word_again (codes "+OK") (Whole Done) refl refl
whole_again (Fault text) it = by_verb verb.Fault text ∙ rw it.1 refl

pub no_space_reply : (reply : Option (List ℕ)) → IfSome reply (λ it. is_subject it ≡ true) → IfSome reply HasNoSpace
no_space_reply None it = tt
no_space_reply (Some reply) it = no_space_of reply it

sized_again : (address : Address) (headers : Option ℕ) (total : ℕ) → IsSized address headers total → meaning_of (meaning_line (Sized address headers total)) ≡ Some (Sized address headers total)
sized_again address None total it =
    by_verb verb.Message (words_text (words_of address None total))
    ∙ (ap (option_and_then meaning_of_words) (message_again address.subject (decimal address.sid) (no_space_of address.subject it.addressed.subject) (no_space_in address.sid it.addressed.sid) address.reply (decimal total) (no_space_reply address.reply it.addressed.reply) (no_space_in total it.small))
    ∙ words_again address None total it)
sized_again address (Some bytes) total it =
    by_verb verb.Headed (words_text (words_of address (Some bytes) total))
    ∙ (ap (option_and_then meaning_of_words) (headed_again address.subject (decimal address.sid) (no_space_of address.subject it.addressed.subject) (no_space_in address.sid it.addressed.sid) address.reply (decimal bytes) (decimal total) (no_space_reply address.reply it.addressed.reply) (no_space_in bytes (let within : bytes ≤ total = it.within in omega (arith, it.small))) (no_space_in total it.small))
    ∙ words_again address (Some bytes) total it)

-- what a line says is found again
pub meaning_again : (meaning : Meaning) → IsMeaning meaning → meaning_of (meaning_line meaning) ≡ Some meaning
meaning_again (Whole frame) it = whole_again frame it
meaning_again (Sized address headers total) it = sized_again address headers total it

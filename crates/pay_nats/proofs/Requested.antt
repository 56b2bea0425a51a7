-- Requests are told apart, since each is read back.
use Rattle.std.proofs.Common.{◌≡◌, ◌∙◌, ℕ, ◌+◌, ◌≤◌, ◌<◌, ◌^◌, true, cond, List, [], ◌∷◌, ◌++◌, length, take, drop, Option, Some, None, refl, sym, ap, arith, append_assoc, length-append, take_at, drop_at, codes}
use Rattle.std.specs.Prelude.{IfSome, decimal}
use Rattle.std.specs.Str.{bytes_eq}
use Rattle.std.proofs.lemmas.Option.{some_pair_parts}
use Rattle.pay_nats.specs.Faults.{HasNoNewline, is_newline}
use Rattle.pay_nats.specs.HeaderReading.{before_cr}
use Rattle.pay_nats.specs.Laws.{RequestsAreToldApart}
use Rattle.pay_nats.specs.Lines.{content, crlf, spaced, with_word}
use Rattle.pay_numeral.specs.Numerals.{number_of}
use Rattle.pay_nats.specs.Parts.{is_byte, is_space, parted}
use Rattle.pay_nats.specs.Reading.{◌>>=◌, headed_words, message_words}
use Rattle.pay_nats.specs.Requests.{Asked, Connect, IsPublished, IsRequest, Ping, Pong, Publish, Published, Subscribe, Unsubscribe, connect_line, request_bytes, subscribe_line, unsubscribe_line}
use Rattle.pay_nats.specs.Subjects.{is_subject}
use Rattle.pay_nats.proofs.Bytes.{no_newline_in, no_newline_of, no_space_in, no_space_of}
use Rattle.pay_nats.proofs.Firsts.{without_front, none_in_both}
use Rattle.pay_nats.proofs.Headed.{cr_again}
use Rattle.pay_nats.proofs.LineMeanings.{no_space_reply}
use Rattle.pay_nats.proofs.MessageWords.{HasNoSpace, headed_again, message_again}
use Rattle.pay_numeral.proofs.Numbered.{number_again}
use Rattle.pay_nats.proofs.Reframed.{no_newline_reply, no_newline_word}
use Rattle.pay_nats.proofs.TwoParts.{parted_again, parted_none}

-- ---- how a request is read: what it is, and what stands after it

abbrev Read : Type 0
Read = Option (Asked × List ℕ)

-- a publication is read as a message, whose number is its subject
subscribed : List ℕ → List ℕ → Read
subscribed rest text = parted is_space text >>= λ subject. number_of subject.1 >>= λ sid. Some (Subscribe subject.0 sid, rest)

unsubscribed : List ℕ → List ℕ → Read
unsubscribed rest text = number_of text >>= λ sid. Some (Unsubscribe sid, rest)

plain : List ℕ → List ℕ → Read
plain rest text =
    message_words (codes "x" ++ spaced text) >>= λ words. number_of words.total >>= λ total.
    Some (Publish (record { subject = words.sid; reply = words.reply; headers = None; payload = take total rest }), drop (total + 2) rest)

headed : List ℕ → List ℕ → Read
headed rest text =
    headed_words (codes "x" ++ spaced text) >>= λ words. words.headers >>= λ word. number_of word >>= λ headers. number_of words.total >>= λ total.
    Some (Publish (record { subject = words.sid; reply = words.reply; headers = Some (take headers rest); payload = drop headers (take total rest) }), drop (total + 2) rest)

by_verb : List ℕ → List ℕ → List ℕ → Read
by_verb rest verb text =
    cond (bytes_eq verb (codes "CONNECT")) (Some (Connect, rest))
    (cond (bytes_eq verb (codes "SUB")) (subscribed rest text)
    (cond (bytes_eq verb (codes "UNSUB")) (unsubscribed rest text)
    (cond (bytes_eq verb (codes "PUB")) (plain rest text)
    (headed rest text))))

of_line : List ℕ → List ℕ → Option (List ℕ × List ℕ) → Read
of_line rest line None = cond (bytes_eq line (codes "PING")) (Some (Ping, rest)) (Some (Pong, rest))
of_line rest line (Some it) = by_verb rest it.0 it.1

read : List ℕ → Read
read bytes = parted (is_byte 10) bytes >>= λ it. before_cr it.0 >>= λ line. of_line it.1 line (parted is_space line)

-- ---- and is read back

read_line : (line rest : List ℕ) → HasNoNewline line → read (line ++ (crlf ++ rest)) ≡ of_line rest line (parted is_space line)
unfolding read
read_line line rest none =
    ap (λ (o : Option (List ℕ × List ℕ)). o >>= λ it. before_cr it.0 >>= λ line. of_line it.1 line (parted is_space line))
    (ap (parted (is_byte 10)) (sym (append_assoc line (13 ∷ []) (10 ∷ rest))) ∙ parted_again 10 (line ++ 13 ∷ []) rest (none_in_both is_newline line (13 ∷ []) none refl))
    ∙ ap (λ (o : Option (List ℕ)). o >>= λ line. of_line rest line (parted is_space line)) (cr_again line)

read_verb : (verb text rest : List ℕ) → HasNoSpace verb → HasNoNewline (verb ++ spaced text) → read ((verb ++ spaced text) ++ (crlf ++ rest)) ≡ by_verb rest verb text
unfolding of_line
read_verb verb text rest one none = read_line (verb ++ spaced text) rest none ∙ ap (of_line rest (verb ++ spaced text)) (parted_again 32 verb text one)

-- what stands after a publication's line, in parts
module _ (content a : List ℕ) where
  front : take (length content) ((content ++ crlf) ++ a) ≡ content
  front = ap (take (length content)) (append_assoc content crlf a) ∙ take_at content (crlf ++ a) (length content) refl

  back : drop (length content + 2) ((content ++ crlf) ++ a) ≡ a
  back = ap (drop (length content + 2)) (append_assoc content crlf a) ∙ without_front content (crlf ++ a) 2

module _ (subject : List ℕ) (reply : Option (List ℕ)) (payload a : List ℕ) (named : is_subject subject ≡ true) (reply_named : IfSome reply (λ it. is_subject it ≡ true)) where
  plain_again : length payload < 2 ^ 64 → read (request_bytes (Publish (record { subject = subject; reply = reply; headers = None; payload = payload })) ++ a) ≡ Some (Publish (record { subject = subject; reply = reply; headers = None; payload = payload }), a)
  unfolding by_verb plain
  plain_again small =
      let text = subject ++ spaced (with_word reply (decimal (length payload))) in
      let none = none_in_both is_newline subject (spaced (with_word reply (decimal (length payload)))) (no_newline_of subject named) (no_newline_word reply (decimal (length payload)) (no_newline_reply reply reply_named) (no_newline_in (length payload) small)) in
      let words = message_again (codes "x") subject refl (no_space_of subject named) reply (decimal (length payload)) (no_space_reply reply reply_named) (no_space_in (length payload) small) in
      ap read (append_assoc (codes "PUB" ++ spaced text) (crlf ++ (payload ++ crlf)) a)
      ∙ (read_verb (codes "PUB") text ((payload ++ crlf) ++ a) refl none ∙ rw (words, number_again (length payload) small, front payload a, back payload a) refl)

  headed_request : (headers : List ℕ) → length (headers ++ payload) < 2 ^ 64 → read (request_bytes (Publish (record { subject = subject; reply = reply; headers = Some headers; payload = payload })) ++ a) ≡ Some (Publish (record { subject = subject; reply = reply; headers = Some headers; payload = payload }), a)
  unfolding by_verb headed
  headed_request headers small =
      let total = length (headers ++ payload) in
      let text = subject ++ spaced (with_word reply (decimal (length headers) ++ spaced (decimal total))) in
      let least : length headers ≤ total = omega (arith, length-append headers payload) in
      let less : length headers < 2 ^ 64 = omega arith in
      let sizes_none = none_in_both is_newline (decimal (length headers)) (spaced (decimal total)) (no_newline_in (length headers) less) (no_newline_in total small) in
      let none = none_in_both is_newline subject (spaced (with_word reply (decimal (length headers) ++ spaced (decimal total)))) (no_newline_of subject named) (no_newline_word reply (decimal (length headers) ++ spaced (decimal total)) (no_newline_reply reply reply_named) sizes_none) in
      let words = headed_again (codes "x") subject refl (no_space_of subject named) reply (decimal (length headers)) (decimal total) (no_space_reply reply reply_named) (no_space_in (length headers) less) (no_space_in total small) in
      let first : take (length headers) (((headers ++ payload) ++ crlf) ++ a) ≡ headers = ap (take (length headers)) (regrouped headers) ∙ take_at headers (payload ++ (crlf ++ a)) (length headers) refl in
      ap read (append_assoc (codes "HPUB" ++ spaced text) (crlf ++ ((headers ++ payload) ++ crlf)) a)
      ∙ (read_verb (codes "HPUB") text (((headers ++ payload) ++ crlf) ++ a) refl none
      ∙ rw (words, number_again (length headers) less, number_again total small, first, front (headers ++ payload) a, back (headers ++ payload) a, drop_at headers payload (length headers) refl) refl)
    where
      regrouped : (headers : List ℕ) → ((headers ++ payload) ++ crlf) ++ a ≡ headers ++ (payload ++ (crlf ++ a))
      regrouped headers = simp append_assoc

publish_again : (it : Published) (a : List ℕ) → IsPublished it → read (request_bytes (Publish it) ++ a) ≡ Some (Publish it, a)
publish_again it a is = by it.subject it.reply it.headers it.payload is.named is.reply_named is.small
  where
    by : (subject : List ℕ) (reply headers : Option (List ℕ)) (payload : List ℕ) → is_subject subject ≡ true → IfSome reply (λ it. is_subject it ≡ true) → length (content headers payload) < 2 ^ 64
        → read (request_bytes (Publish (record { subject = subject; reply = reply; headers = headers; payload = payload })) ++ a) ≡ Some (Publish (record { subject = subject; reply = reply; headers = headers; payload = payload }), a)
    by subject reply None payload named reply_named small = plain_again subject reply payload a named reply_named small
    by subject reply (Some headers) payload named reply_named small = headed_request subject reply payload a named reply_named headers small

word_again : (word a : List ℕ) → HasNoSpace word → HasNoNewline word → read (word ++ (crlf ++ a)) ≡ of_line a word None
word_again word a one none = read_line word a none ∙ ap (of_line a word) (parted_none 32 word one)

request_again : (it : Asked) (a : List ℕ) → IsRequest it → read (request_bytes it ++ a) ≡ Some (it, a)
unfolding by_verb of_line subscribed unsubscribed
request_again Connect a is = read_verb (codes "CONNECT") (drop 8 connect_line) a refl refl
request_again Ping a is = word_again (codes "PING") a refl refl
request_again Pong a is = word_again (codes "PONG") a refl refl
request_again (Subscribe subject sid) a is =
    let none = none_in_both is_newline subject (spaced (decimal sid)) (no_newline_of subject is.0) (no_newline_in sid is.1) in
    ap read (append_assoc (subscribe_line subject sid) crlf a)
    ∙ (read_verb (codes "SUB") (subject ++ spaced (decimal sid)) a refl none ∙ rw (parted_again 32 subject (decimal sid) (no_space_of subject is.0), number_again sid is.1) refl)
request_again (Unsubscribe sid) a is =
    ap read (append_assoc (unsubscribe_line sid) crlf a) ∙ (read_verb (codes "UNSUB") (decimal sid) a refl (no_newline_in sid is) ∙ rw (number_again sid is) refl)
request_again (Publish it) a is = publish_again it a is

pub requests_apart : RequestsAreToldApart
requests_apart one other a b is is_other e =
    some_pair_parts one other a b (sym (request_again one a is) ∙ (ap read e ∙ request_again other b is_other))

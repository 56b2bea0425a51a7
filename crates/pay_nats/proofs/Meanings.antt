-- What a line says is found again, and its line is the one that says it.
use Rattle.std.proofs.Common.{◌≡◌, ℕ, ◌≤◌, ◌<◌, ◌^◌, Bool, true, false, cond, List, Option, Some, None, option_map, refl, sym, ap, subst, arith}
use Rattle.std.specs.Prelude.{IfSome, decimal, nat_le}
use Rattle.std.proofs.lemmas.Bool.{le-leb, leb-true}
use Rattle.std.proofs.lemmas.Option.{cond_some, same_Some}
use Rattle.pay_nats.specs.Frames.{Address, IsSized, Meaning, Sized}
use Rattle.pay_numeral.specs.Numerals.{number_of}
use Rattle.pay_nats.specs.Reading.{Words, headers_of, if_subject, meaning_of_words, reply_of}
use Rattle.pay_nats.specs.Subjects.{is_subject}
use Rattle.pay_nats.proofs.MessageWords.{bind_some}
use Rattle.pay_numeral.proofs.Numbered.{number_again, number_is}

-- the words of a message's line
abbrev pub words_of : Address → Option ℕ → ℕ → Words
words_of address headers total = record { subject = address.subject; sid = decimal address.sid; reply = address.reply; headers = option_map decimal headers; total = decimal total }

reply_again : (reply : Option (List ℕ)) → IfSome reply (λ it. is_subject it ≡ true) → reply_of reply ≡ Some reply
reply_again None one = refl
reply_again (Some reply) one = rw one refl

headers_again : (headers : Option ℕ) (total : ℕ) → IfSome headers (λ bytes. bytes ≤ total) → total < 2 ^ 64 → headers_of total (option_map decimal headers) ≡ Some headers
headers_again None total within small = refl
headers_again (Some bytes) total within small = rw (number_again bytes (omega arith), le-leb bytes total within) refl

pub words_again : (address : Address) (headers : Option ℕ) (total : ℕ) → IsSized address headers total → meaning_of_words (words_of address headers total) ≡ Some (Sized address headers total)
unfolding meaning_of_words
words_again address headers total sized =
    rw (sized.addressed.subject, number_again address.sid sized.addressed.sid, reply_again address.reply sized.addressed.reply, number_again total sized.small, headers_again headers total sized.within sized.small) refl

subject_is : (name it : List ℕ) → if_subject name ≡ Some it → (name ≡ it) × (is_subject it ≡ true)
subject_is name it e =
    let parts = cond_some (is_subject name) name it e in
    (parts.1, subst (λ (x : List ℕ). is_subject x ≡ true) parts.1 parts.0)

reply_is : (name it : Option (List ℕ)) → reply_of name ≡ Some it → (name ≡ it) × IfSome it (λ reply. is_subject reply ≡ true)
reply_is None it e = subst (λ (x : Option (List ℕ)). (None ≡ x) × IfSome x (λ reply. is_subject reply ≡ true)) (same_Some _ _ e) (refl, tt)
reply_is (Some name) it e = by (is_subject name) refl e
  where
    by : (t : Bool) → is_subject name ≡ t → option_map (λ (x : List ℕ). Some x) (cond t (Some name) None) ≡ Some it → (Some name ≡ it) × IfSome it (λ reply. is_subject reply ≡ true)
    by true is e = subst (λ (x : Option (List ℕ)). (Some name ≡ x) × IfSome x (λ reply. is_subject reply ≡ true)) (same_Some _ _ e) (refl, is)
    by false is e = absurd cc

headers_is : (total : ℕ) (word : Option (List ℕ)) (it : Option ℕ) → headers_of total word ≡ Some it → (word ≡ option_map decimal it) × IfSome it (λ bytes. bytes ≤ total)
headers_is total None it e = subst (λ (x : Option ℕ). (None ≡ option_map decimal x) × IfSome x (λ bytes. bytes ≤ total)) (same_Some _ _ e) (refl, tt)
headers_is total (Some word) it e =
    let bytes = bind_some (number_of word) _ it e in
    let within = cond_some (nat_le bytes.0 total) (Some bytes.0) it bytes.2 in
    let small : bytes.0 ≤ total = leb-true _ _ within.0 in
    subst (λ (x : Option ℕ). (Some word ≡ option_map decimal x) × IfSome x (λ n. n ≤ total)) within.1 (ap (λ (x : List ℕ). Some x) (number_is word bytes.0 bytes.1).0, small)

-- what words say
pub record AreSized (words : Words) (meaning : Meaning) : Type 0 where
  pub address : Address
  pub headers : Option ℕ
  pub total : ℕ
  pub meaning_is : meaning ≡ Sized address headers total
  pub words_are : words ≡ words_of address headers total
  pub sized : IsSized address headers total

together : (words : Words) (meaning : Meaning) (subject : List ℕ) (sid : ℕ) (reply : Option (List ℕ)) (headers : Option ℕ) (total : ℕ)
    → Sized (record { subject = subject; sid = sid; reply = reply }) headers total ≡ meaning
    → (words.subject ≡ subject) × (is_subject subject ≡ true) → (words.sid ≡ decimal sid) × (sid < 2 ^ 64)
    → (words.reply ≡ reply) × IfSome reply (λ it. is_subject it ≡ true) → (words.total ≡ decimal total) × (total < 2 ^ 64)
    → (words.headers ≡ option_map decimal headers) × IfSome headers (λ bytes. bytes ≤ total) → AreSized words meaning
together words meaning subject sid reply headers total is a b c d f =
    record {
      address = record { subject = subject; sid = sid; reply = reply };
      headers = headers;
      total = total;
      meaning_is = sym is;
      words_are = same words subject (decimal sid) reply (option_map decimal headers) (decimal total) a.0 b.0 c.0 f.0 d.0;
      sized = record { addressed = record { subject = a.1; sid = b.1; reply = c.1 }; within = f.1; small = d.1 };
    }
  where
    same : (words : Words) (subject sid : List ℕ) (reply headers : Option (List ℕ)) (total : List ℕ) → words.subject ≡ subject → words.sid ≡ sid → words.reply ≡ reply → words.headers ≡ headers → words.total ≡ total
        → words ≡ record { subject = subject; sid = sid; reply = reply; headers = headers; total = total }
    same words subject sid reply headers total a b c d f =
        rw (← a, ← b, ← c, ← d, ← f) refl

pub words_is : (words : Words) (meaning : Meaning) → meaning_of_words words ≡ Some meaning → AreSized words meaning
unfolding meaning_of_words
words_is words meaning e =
    let subject = bind_some (if_subject words.subject) _ meaning e in
    let sid = bind_some (number_of words.sid) _ meaning subject.2 in
    let reply = bind_some (reply_of words.reply) _ meaning sid.2 in
    let total = bind_some (number_of words.total) _ meaning reply.2 in
    let headers = bind_some (headers_of total.0 words.headers) _ meaning total.2 in
    together words meaning subject.0 sid.0 reply.0 headers.0 total.0 (same_Some _ _ headers.2)
    (subject_is words.subject subject.0 subject.1) (number_is words.sid sid.0 sid.1) (reply_is words.reply reply.0 reply.1) (number_is words.total total.0 total.1) (headers_is total.0 words.headers headers.0 headers.1)

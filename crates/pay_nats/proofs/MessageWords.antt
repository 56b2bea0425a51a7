-- The words of a message's line are found again, and are its own.
use Rattle.std.proofs.Common.{◌≡◌, ◌∙◌, ℕ, false, List, ◌++◌, Option, Some, None, refl, ap, subst}
use Rattle.std.proofs.lemmas.Option.{same_Some}
use Rattle.std.specs.Prelude.{IfSome}
use Rattle.std.specs.List.{list_any}
use Rattle.pay_nats.specs.Lines.{spaced, with_word}
use Rattle.pay_nats.specs.Parts.{is_space, parted}
use Rattle.pay_nats.specs.Reading.{◌>>=◌, Words, headed_by, headed_words, last_words, message_words, words_text}
use Rattle.pay_nats.proofs.TwoParts.{parted_again, parted_is, parted_none}

-- the value of a step that did not fail
pub bind_some : {A B : Type 0} (o : Option A) (f : A → Option B) (y : B) → (o >>= f) ≡ Some y → (x : A) × (o ≡ Some x) × (f x ≡ Some y)
bind_some (Some x) f y e = (x, refl, e)
bind_some None f y e = absurd cc

abbrev pub HasNoSpace : List ℕ → Type 0
HasNoSpace text = list_any is_space text ≡ false

module _ (subject sid : List ℕ) (one_subject : HasNoSpace subject) (one_sid : HasNoSpace sid) where
  pub message_again : (reply : Option (List ℕ)) (total : List ℕ) → IfSome reply HasNoSpace → HasNoSpace total
      → message_words (subject ++ spaced (sid ++ spaced (with_word reply total))) ≡ Some (record { subject = subject; sid = sid; reply = reply; headers = None; total = total })
  unfolding message_words
  message_again None total one_reply one_total =
      rw (parted_again 32 subject (sid ++ spaced total) one_subject, parted_again 32 sid total one_sid, parted_none 32 total one_total) refl
  message_again (Some reply) total one_reply one_total =
      rw (parted_again 32 subject (sid ++ spaced (reply ++ spaced total)) one_subject, parted_again 32 sid (reply ++ spaced total) one_sid, parted_again 32 reply total one_reply) refl

  pub headed_again : (reply : Option (List ℕ)) (headers total : List ℕ) → IfSome reply HasNoSpace → HasNoSpace headers → HasNoSpace total
      → headed_words (subject ++ spaced (sid ++ spaced (with_word reply (headers ++ spaced total)))) ≡ Some (record { subject = subject; sid = sid; reply = reply; headers = Some headers; total = total })
  unfolding headed_words
  headed_again None headers total one_reply one_headers one_total =
      rw (parted_again 32 subject (sid ++ spaced (headers ++ spaced total)) one_subject, parted_again 32 sid (headers ++ spaced total) one_sid, parted_again 32 headers total one_headers, parted_none 32 total one_total) refl
  headed_again (Some reply) headers total one_reply one_headers one_total =
      rw (parted_again 32 subject (sid ++ spaced (reply ++ spaced (headers ++ spaced total))) one_subject, parted_again 32 sid (reply ++ spaced (headers ++ spaced total)) one_sid, parted_again 32 reply (headers ++ spaced total) one_reply, parted_again 32 headers total one_headers) refl

last_is : (text : List ℕ) (o : Option (List ℕ × List ℕ)) → parted is_space text ≡ o → text ≡ with_word (last_words text o).0 (last_words text o).1
last_is text None e = refl
last_is text (Some it) e = (parted_is 32 text it.0 it.1 e).0

-- a text by its first word, once the rest is known
onward : (text a b c : List ℕ) → parted is_space text ≡ Some (a, b) → b ≡ c → text ≡ a ++ spaced c
onward text a b c e is = (parted_is 32 text a b e).0 ∙ ap (λ (x : List ℕ). a ++ spaced x) is

pub message_is : (text : List ℕ) (words : Words) → message_words text ≡ Some words → (text ≡ words_text words) × (words.headers ≡ None)
unfolding message_words
message_is text words e =
    let subject = bind_some (parted is_space text) _ words e in
    let sid = bind_some (parted is_space subject.0.1) _ words subject.2 in
    let is = same_Some _ _ sid.2 in
    let rest = last_is sid.0.1 _ refl in
    let whole = onward text subject.0.0 subject.0.1 _ subject.1 (onward subject.0.1 sid.0.0 sid.0.1 _ sid.1 rest) in
    subst (λ (w : Words). (text ≡ words_text w) × (w.headers ≡ None)) is (whole, refl)

headed_by_is : (text subject sid : List ℕ) (it : List ℕ × List ℕ) (o : Option (List ℕ × List ℕ)) → parted is_space it.1 ≡ o → text ≡ subject ++ spaced (sid ++ spaced (it.0 ++ spaced it.1))
    → (text ≡ words_text (headed_by subject sid it o)) × ((headers : List ℕ) × ((headed_by subject sid it o).headers ≡ Some headers))
headed_by_is text subject sid it None e is = (is, (it.0, refl))
headed_by_is text subject sid it (Some sizes) e is =
    (is ∙ ap (λ (x : List ℕ). subject ++ spaced (sid ++ spaced (it.0 ++ spaced x))) (parted_is 32 it.1 sizes.0 sizes.1 e).0, (sizes.0, refl))

pub headed_is : (text : List ℕ) (words : Words) → headed_words text ≡ Some words → (text ≡ words_text words) × ((headers : List ℕ) × (words.headers ≡ Some headers))
unfolding headed_words
headed_is text words e =
    let subject = bind_some (parted is_space text) _ words e in
    let sid = bind_some (parted is_space subject.0.1) _ words subject.2 in
    let it = bind_some (parted is_space sid.0.1) _ words sid.2 in
    let is = same_Some _ _ it.2 in
    let whole = onward text subject.0.0 subject.0.1 _ subject.1 (onward subject.0.1 sid.0.0 sid.0.1 _ sid.1 (parted_is 32 sid.0.1 it.0.0 it.0.1 it.1).0) in
    subst (λ (w : Words). (text ≡ words_text w) × ((headers : List ℕ) × (w.headers ≡ Some headers))) is (headed_by_is text subject.0.0 sid.0.0 it.0 _ refl whole)

-- Words put after one another are a line.
use Rattle.std.proofs.Common.{◌≡◌, ℕ, List, [], ◌∷◌, ◌++◌, append_assoc, sym, ap, ◌∙◌}
use Rattle.std.specs.Prelude.{decimal}
use Rattle.std.specs.List.{join_with_byte}
use Rattle.std.proofs.lemmas.Grind.{flat_map-append}
use Rattle.std.proofs.lemmas.List.{append-nil}
use Rattle.pay_wire.specs.Replies.{line_of_words, text_of_fields}

-- one word moves after the next ones
step : (a b c : List ℕ) → (a ++ 32 ∷ b) ++ 32 ∷ c ≡ a ++ 32 ∷ (b ++ 32 ∷ c)
step a b c = append_assoc a (32 ∷ b) (32 ∷ c)

grouped : (w a b c d : List ℕ) → (((w ++ 32 ∷ a) ++ 32 ∷ b) ++ 32 ∷ c) ++ 32 ∷ d ≡ w ++ 32 ∷ (a ++ 32 ∷ (b ++ 32 ∷ (c ++ 32 ∷ d)))
grouped w a b c d = step ((w ++ 32 ∷ a) ++ 32 ∷ b) c d ∙ step (w ++ 32 ∷ a) b (c ++ 32 ∷ d) ∙ step w a (b ++ 32 ∷ (c ++ 32 ∷ d))

-- a word and four fields, each put after the line so far, and the newline
pub four_fields : (w a b c d l m n o p : List ℕ) → l ≡ w ++ 32 ∷ a → m ≡ l ++ 32 ∷ b → n ≡ m ++ 32 ∷ c → o ≡ n ++ 32 ∷ d → p ≡ o ++ 10 ∷ []
    → p ≡ (w ++ 32 ∷ (a ++ 32 ∷ (b ++ 32 ∷ (c ++ 32 ∷ d)))) ++ 10 ∷ []
four_fields w a b c d l m n o p e f g h i = rw (i, h, g, f, e) (ap (λ (r : List ℕ). r ++ 10 ∷ []) (grouped w a b c d))

-- a line is its first word, and each other after a space
first_and_fields : (w : List ℕ) (ws : List (List ℕ)) → w ++ text_of_fields ws ≡ join_with_byte 32 (w ∷ ws)
first_and_fields w [] = append-nil w
first_and_fields w (v ∷ vs) = ap (λ (r : List ℕ). w ++ 32 ∷ r) (first_and_fields v vs)

-- a word put after a line, and further ones after it
one_more : (l a : List ℕ) (ws : List (List ℕ)) → (l ++ 32 ∷ a) ++ text_of_fields ws ≡ l ++ text_of_fields (a ∷ ws)
one_more l a ws = append_assoc l (32 ∷ a) (text_of_fields ws)

-- five fields, each put after the line so far
pub quote_fields : (l a b c d e : List ℕ) → ((((l ++ 32 ∷ a) ++ 32 ∷ b) ++ 32 ∷ c) ++ 32 ∷ d) ++ 32 ∷ e ≡ l ++ text_of_fields (a ∷ b ∷ c ∷ d ∷ e ∷ [])
quote_fields l a b c d e =
    let la = l ++ 32 ∷ a in
    let lb = la ++ 32 ∷ b in
    let lc = lb ++ 32 ∷ c in
    ap (λ (t : List ℕ). (lc ++ 32 ∷ d) ++ t) (sym (append-nil (32 ∷ e))) ∙ one_more lc d (e ∷ []) ∙ one_more lb c (d ∷ e ∷ []) ∙ one_more la b (c ∷ d ∷ e ∷ []) ∙ one_more l a (b ∷ c ∷ d ∷ e ∷ [])

-- a word, and fields in two pieces, put after one another
two_pieces : (w : List ℕ) (ws vs : List (List ℕ)) → (w ++ text_of_fields ws) ++ text_of_fields vs ≡ join_with_byte 32 (w ∷ ws ++ vs)
two_pieces w ws vs =
    append_assoc w (text_of_fields ws) (text_of_fields vs) ∙ ap (λ (t : List ℕ). w ++ t) (sym (flat_map-append (λ (v : List ℕ). 32 ∷ v) ws vs)) ∙ first_and_fields w (ws ++ vs)

-- a word, five fields and further ones, put after it, and the newline
pub due_fields : (w a b c d e : List ℕ) (ws : List (List ℕ)) → ((w ++ text_of_fields (a ∷ b ∷ c ∷ d ∷ e ∷ [])) ++ text_of_fields ws) ++ 10 ∷ [] ≡ line_of_words (w ∷ a ∷ b ∷ c ∷ d ∷ e ∷ ws)
due_fields w a b c d e ws = ap (λ (t : List ℕ). t ++ 10 ∷ []) (two_pieces w (a ∷ b ∷ c ∷ d ∷ e ∷ []) ws)

-- a word, five fields, one more and further ones, put after it, and the newline
pub posting_fields : (w a b c d e f : List ℕ) (ws : List (List ℕ))
    → (((w ++ text_of_fields (a ∷ b ∷ c ∷ d ∷ e ∷ [])) ++ 32 ∷ f) ++ text_of_fields ws) ++ 10 ∷ [] ≡ line_of_words (w ∷ a ∷ b ∷ c ∷ d ∷ e ∷ f ∷ ws)
posting_fields w a b c d e f ws =
    ap (λ (t : List ℕ). t ++ 10 ∷ []) (one_more (w ++ text_of_fields (a ∷ b ∷ c ∷ d ∷ e ∷ [])) f ws ∙ two_pieces w (a ∷ b ∷ c ∷ d ∷ e ∷ []) (f ∷ ws))

-- a number put after a line that is known
pub field_is : {l m : List ℕ} (a : ℕ) → l ≡ m → l ++ 32 ∷ decimal a ≡ m ++ 32 ∷ decimal a
field_is a e i = e i ++ 32 ∷ decimal a

pub two_are : {l m a b : List ℕ} → l ≡ m → a ≡ b → l ++ a ≡ m ++ b
two_are e f i = e i ++ f i

pub number_is : (l : List ℕ) {a b : ℕ} → a ≡ b → l ++ 32 ∷ decimal a ≡ l ++ 32 ∷ decimal b
number_is l e i = l ++ 32 ∷ decimal (e i)

-- two words put after one, and three, and four, each put after the line so far
pub two_words : (w a b : List ℕ) → (w ++ 32 ∷ a) ++ 32 ∷ b ≡ join_with_byte 32 (w ∷ a ∷ b ∷ [])
two_words w a b = step w a b

last_field : (l a : List ℕ) → l ++ 32 ∷ a ≡ l ++ text_of_fields (a ∷ [])
last_field l a = ap (λ (t : List ℕ). l ++ t) (sym (append-nil (32 ∷ a)))

pub three_more : (l a b c : List ℕ) → ((l ++ 32 ∷ a) ++ 32 ∷ b) ++ 32 ∷ c ≡ l ++ text_of_fields (a ∷ b ∷ c ∷ [])
three_more l a b c = last_field ((l ++ 32 ∷ a) ++ 32 ∷ b) c ∙ one_more (l ++ 32 ∷ a) b (c ∷ []) ∙ one_more l a (b ∷ c ∷ [])

pub four_more : (l a b c d : List ℕ) → (((l ++ 32 ∷ a) ++ 32 ∷ b) ++ 32 ∷ c) ++ 32 ∷ d ≡ l ++ text_of_fields (a ∷ b ∷ c ∷ d ∷ [])
four_more l a b c d = three_more (l ++ 32 ∷ a) b c d ∙ one_more l a (b ∷ c ∷ d ∷ [])

-- a word and six fields, each put after the line so far
pub six_fields : (w a b c d e f : List ℕ) → (((((w ++ 32 ∷ a) ++ 32 ∷ b) ++ 32 ∷ c) ++ 32 ∷ d) ++ 32 ∷ e) ++ 32 ∷ f ≡ join_with_byte 32 (w ∷ a ∷ b ∷ c ∷ d ∷ e ∷ f ∷ [])
six_fields w a b c d e f =
    ap (λ (t : List ℕ). t ++ 32 ∷ f) (quote_fields w a b c d e) ∙ last_field (w ++ text_of_fields (a ∷ b ∷ c ∷ d ∷ e ∷ [])) f ∙ two_pieces w (a ∷ b ∷ c ∷ d ∷ e ∷ []) (f ∷ [])

-- a word and three fields, each put after the line so far, and further ones
pub three_and_more : (w a b c : List ℕ) (ws : List (List ℕ)) → (((w ++ 32 ∷ a) ++ 32 ∷ b) ++ 32 ∷ c) ++ text_of_fields ws ≡ join_with_byte 32 (w ∷ a ∷ b ∷ c ∷ ws)
three_and_more w a b c ws = one_more ((w ++ 32 ∷ a) ++ 32 ∷ b) c ws ∙ one_more (w ++ 32 ∷ a) b (c ∷ ws) ∙ one_more w a (b ∷ c ∷ ws) ∙ first_and_fields w (a ∷ b ∷ c ∷ ws)

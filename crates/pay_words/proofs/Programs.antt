-- The words that name what the program is to do.
use Rattle.std.proofs.Common.{◌≡◌, Bool, codes, true, false, refl, subst}
use Rattle.std.specs.Str.{bytes_eq}
use Rattle.clap.specs.Walk.{Text}
use Rattle.pay_words.proofs.WordKinds.{same_bytes}

-- a word that names nothing
abbrev pub NamesNothing : Text → Type 0
NamesNothing word = (bytes_eq (codes "run") word ≡ false) × (bytes_eq (codes "check") word ≡ false) × (bytes_eq (codes "statement") word ≡ false)
    × (bytes_eq (codes "explain") word ≡ false) × (bytes_eq (codes "page") word ≡ false) × (bytes_eq (codes "replay") word ≡ false)
    × (bytes_eq (codes "serve") word ≡ false) × (bytes_eq (codes "audit") word ≡ false) × (bytes_eq (codes "rebuild") word ≡ false) × (bytes_eq (codes "follow") word ≡ false)
    × (bytes_eq (codes "log") word ≡ false) × (bytes_eq (codes "help") word ≡ false)

-- what is so of each name, and of a word that names nothing, is so of a word
pub by_program : (P : Text → Type 0) (word : Text) → P (codes "run") → P (codes "check") → P (codes "statement") → P (codes "explain") → P (codes "page") → P (codes "replay") → P (codes "serve")
    → P (codes "audit") → P (codes "rebuild") → P (codes "follow") → P (codes "log") → P (codes "help") → (NamesNothing word → P word) → P word
by_program P word run check statement explain page replay serve audit rebuild follow log help other =
    go (bytes_eq (codes "run") word) refl (bytes_eq (codes "check") word) refl (bytes_eq (codes "statement") word) refl (bytes_eq (codes "explain") word) refl
    (bytes_eq (codes "page") word) refl (bytes_eq (codes "replay") word) refl
    (bytes_eq (codes "serve") word) refl (bytes_eq (codes "audit") word) refl (bytes_eq (codes "rebuild") word) refl (bytes_eq (codes "follow") word) refl (bytes_eq (codes "log") word) refl (bytes_eq (codes "help") word) refl
  where
    go : (r : Bool) → bytes_eq (codes "run") word ≡ r → (c : Bool) → bytes_eq (codes "check") word ≡ c
        → (s : Bool) → bytes_eq (codes "statement") word ≡ s → (x : Bool) → bytes_eq (codes "explain") word ≡ x
        → (p : Bool) → bytes_eq (codes "page") word ≡ p → (y : Bool) → bytes_eq (codes "replay") word ≡ y
        → (v : Bool) → bytes_eq (codes "serve") word ≡ v → (a : Bool) → bytes_eq (codes "audit") word ≡ a
        → (b : Bool) → bytes_eq (codes "rebuild") word ≡ b → (o : Bool) → bytes_eq (codes "follow") word ≡ o → (l : Bool) → bytes_eq (codes "log") word ≡ l → (h : Bool) → bytes_eq (codes "help") word ≡ h → P word
    go true is c e s f x w p q y z v g a i b j o u l m h k = subst P (same_bytes (codes "run") word is) run
    go false no_run true is s f x w p q y z v g a i b j o u l m h k = subst P (same_bytes (codes "check") word is) check
    go false no_run false no_check true is x w p q y z v g a i b j o u l m h k = subst P (same_bytes (codes "statement") word is) statement
    go false no_run false no_check false no_statement true is p q y z v g a i b j o u l m h k = subst P (same_bytes (codes "explain") word is) explain
    go false no_run false no_check false no_statement false no_explain true is y z v g a i b j o u l m h k = subst P (same_bytes (codes "page") word is) page
    go false no_run false no_check false no_statement false no_explain false no_page true is v g a i b j o u l m h k = subst P (same_bytes (codes "replay") word is) replay
    go false no_run false no_check false no_statement false no_explain false no_page false no_replay true is a i b j o u l m h k = subst P (same_bytes (codes "serve") word is) serve
    go false no_run false no_check false no_statement false no_explain false no_page false no_replay false no_serve true is b j o u l m h k = subst P (same_bytes (codes "audit") word is) audit
    go false no_run false no_check false no_statement false no_explain false no_page false no_replay false no_serve false no_audit true is o u l m h k = subst P (same_bytes (codes "rebuild") word is) rebuild
    go false no_run false no_check false no_statement false no_explain false no_page false no_replay false no_serve false no_audit false no_rebuild true is l m h k = subst P (same_bytes (codes "follow") word is) follow
    go false no_run false no_check false no_statement false no_explain false no_page false no_replay false no_serve false no_audit false no_rebuild false no_follow true is h k = subst P (same_bytes (codes "log") word is) log
    go false no_run false no_check false no_statement false no_explain false no_page false no_replay false no_serve false no_audit false no_rebuild false no_follow false no_log true is = subst P (same_bytes (codes "help") word is) help
    go false no_run false no_check false no_statement false no_explain false no_page false no_replay false no_serve false no_audit false no_rebuild false no_follow false no_log false no_help =
        other (no_run, no_check, no_statement, no_explain, no_page, no_replay, no_serve, no_audit, no_rebuild, no_follow, no_log, no_help)

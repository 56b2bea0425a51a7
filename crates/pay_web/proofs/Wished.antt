-- What a form asks for that makes a correction.
use Rattle.std.proofs.Common.{◌≡◌, ◌∙◌, ◌==◌, ◌&&◌, ℕ, Bool, true, false, List, Option, None, Some, refl, sym, ap, bytes_eq, eqb-true, true≢false, subst}
use Rattle.pay_clerks.specs.Words.{ClerkOf}
use Rattle.pay_wire.specs.Words.{command_of}
use Rattle.pay_wire.specs.declared.command.SpelledCommand.{SpelledCommand}
use Rattle.pay_wire.specs.declared.command.SpelledCommand.TheVariants as command
use Rattle.pay_wire.specs.declared.command.SpelledFix.{SpelledFix}
use Rattle.pay_web.specs.Corrections.{fix_by, fix_if, fix_line, is_over, is_whose}
use Rattle.pay_web.specs.Forms.{FixWords, FormWords, fix_form, form_of}
use Rattle.pay_web.specs.Wishes.{fix_wish, wish_after, wish_by, wish_of_rest, wish_of_words}
use Rattle.pay_web.specs.declared.asked.Asked.{Asked}
use Rattle.pay_web.specs.declared.wish.Wish.{Wish}
use Rattle.pay_web.specs.declared.wish.Wish.TheVariants.{Correction, Nothing}

-- a correction is its clerk's, of the account that is asked for, and in the clerk's limit
pub record Names (who : ClerkOf) (asked : Asked) (fix : SpelledFix) : Type 0 where
  pub of_clerk : fix.staff ≡ who.staff
  pub of_account : fix.account ≡ asked.account
  pub in_limit : is_over who.limit fix ≡ false

both : (a b : Bool) → (a && b) ≡ true → (a ≡ true) × (b ≡ true)
both true b e = (refl, e)
both false b e = absurd (true≢false (sym e))

abbrev is_correction : Wish → Bool
is_correction (Correction asked fix) = true
is_correction (Nothing why) = false

abbrev asked_at : Asked → Wish → Asked
asked_at other (Correction asked fix) = asked
asked_at other (Nothing why) = other

abbrev fix_at : SpelledFix → Wish → SpelledFix
fix_at other (Correction asked fix) = fix
fix_at other (Nothing why) = other

abbrev fix_or : SpelledFix → Option SpelledFix → SpelledFix
fix_or other (Some fix) = fix
fix_or other None = other

abbrev is_there : Option SpelledFix → Bool
is_there (Some fix) = true
is_there None = false

-- a line's correction is whose it has to be
whose : (staff account : ℕ) (spelled : Option SpelledCommand) (fix : SpelledFix) → fix_if staff account spelled ≡ Some fix → is_whose staff account fix ≡ true
whose staff account None fix e = absurd (true≢false (sym (ap is_there e)))
whose staff account (Some (command.Tap tap)) fix e = absurd (true≢false (sym (ap is_there e)))
whose staff account (Some (command.Due one day)) fix e = absurd (true≢false (sym (ap is_there e)))
whose staff account (Some (command.Show one day)) fix e = absurd (true≢false (sym (ap is_there e)))
whose staff account (Some (command.Close day)) fix e = absurd (true≢false (sym (ap is_there e)))
whose staff account (Some command.Quit) fix e = absurd (true≢false (sym (ap is_there e)))
whose staff account (Some (command.Fix other)) fix e = go (is_whose staff account other) refl
  where
    go : (t : Bool) → is_whose staff account other ≡ t → is_whose staff account fix ≡ true
    go true t = subst (λ (f : SpelledFix). is_whose staff account f ≡ true) (ap (fix_or fix) (rw t at e)) t
    go false t = absurd (true≢false (sym (ap is_there (rw t at e))))

module _ (who : ClerkOf) (asked : Asked) (fix : SpelledFix) where
  by_fix : (of : Asked) (seq : ℕ) (what : List ℕ) (found : Option SpelledFix) → fix_by who.staff seq of.account what ≡ found → wish_by who.limit of found ≡ Correction asked fix → Names who asked fix
  by_fix of seq what None p e = absurd (true≢false (sym (ap is_correction e)))
  by_fix of seq what (Some it) p e = go (is_over who.limit it) refl
    where
      go : (t : Bool) → is_over who.limit it ≡ t → Names who asked fix
      go true t = absurd (true≢false (sym (ap is_correction (rw t at e))))
      go false t =
          let same : it ≡ fix = ap (fix_at fix) (rw t at e) in
          let of_same : of ≡ asked = ap (asked_at asked) (rw t at e) in
          let its = both (it.staff == who.staff) (it.account == of.account) (whose who.staff of.account (command_of (fix_line who.staff seq of.account what)) it p) in
          record {
            of_clerk = ap (λ (f : SpelledFix). f.staff) (sym same) ∙ eqb-true it.staff who.staff its.0;
            of_account = ap (λ (f : SpelledFix). f.account) (sym same) ∙ (eqb-true it.account of.account its.1 ∙ ap (λ (a : Asked). a.account) of_same);
            in_limit = ap (is_over who.limit) (sym same) ∙ t;
          }

  by_words : (token : List ℕ) (of : Asked) (words : FixWords) → wish_of_words token who of words ≡ Correction asked fix → Names who asked fix
  by_words token of words e = go (bytes_eq words.token token) refl
    where
      go : (t : Bool) → bytes_eq words.token token ≡ t → Names who asked fix
      go true t = by_fix of words.seq words.what (fix_by who.staff words.seq of.account words.what) refl (rw t at e)
      go false t = absurd (true≢false (sym (ap is_correction (rw t at e))))

  by_rest : (token : List ℕ) (of : Asked) (words : Option FixWords) → wish_of_rest token who of words ≡ Correction asked fix → Names who asked fix
  by_rest token of None e = absurd (true≢false (sym (ap is_correction e)))
  by_rest token of (Some words) e = by_words token of words e

  by_form : (token : List ℕ) (start : Option FormWords) → wish_after token who start ≡ Correction asked fix → Names who asked fix
  by_form token None e = absurd (true≢false (sym (ap is_correction e)))
  by_form token (Some start) e = by_rest token start.asked (fix_form start.rest) e

pub names : (token : List ℕ) (who : ClerkOf) (body : List ℕ) (asked : Asked) (fix : SpelledFix) → fix_wish token who body ≡ Correction asked fix → Names who asked fix
names token who body asked fix e = by_form who asked fix token (form_of body) e

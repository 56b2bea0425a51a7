-- Each move keeps the rule of a mailbox.
use Rattle.std.proofs.Common.{◌≡◌, ◌≢◌, ℕ, zero, suc, ◌+◌, ◌<◌, eqb, cond, Bool, true, false, true≢false, List, [], ◌∷◌, ◌++◌, length, set, sym, refl, ap, ◌∙◌, subst, ⊎_elim, ◌⊎◌, inl, inr, append_assoc, length-append, append-nil, arith, eq-eqb, ne_eqb}
use mathlib.Core.Option.{Option, some, none, some-injective, some-ne-none}
use mathlib.Core.Logic.{dite}
use native.Mathlib.Decide.{dec_le}
use lib.ListN.{get_elem?}
use Rattle.std.proofs.lemmas.List.Elements.{filter-append, All-push, All-weaker, All-nil}
use Rattle.crossbeam_queue.specs.Fifo.{Pushes, Pops, Forks, Merges, Learns}
use Rattle.crossbeam_queue.proofs.Lists.{at_set}
use Rattle.pay_mailbox.specs.declared.rule.View.{View}
use Rattle.pay_mailbox.specs.Of.{of}
use Rattle.pay_mailbox.specs.Rules.{back, sending, receiving, spent, FitsSender, IsBack, FitsReceiver, Delivers, HasSent, HasGot}

-- ---- seats
-- the seats, with that of k given anew
abbrev pub seated : (ℕ → Option ℕ) → ℕ → Option ℕ → ℕ → Option ℕ
seated seat k s p = cond (eqb p k) s (seat p)

seated_here : (seat : ℕ → Option ℕ) (k : ℕ) (s : Option ℕ) → seated seat k s k ≡ s
seated_here seat k s = ap (λ b. cond b s (seat k)) (eq-eqb k k refl)

seated_else : (seat : ℕ → Option ℕ) (k : ℕ) (s : Option ℕ) (p : ℕ) → p ≢ k → seated seat k s p ≡ seat p
seated_else seat k s p ne = ap (λ b. cond b s (seat p)) (ne_eqb p k ne)

freed : (seat : ℕ → Option ℕ) (k p : ℕ) → seat p ≡ none → seated seat k none p ≡ none
freed seat k p e = either_none (eqb p k) where
  either_none : (b : Bool) → cond b none (seat p) ≡ none
  either_none true = refl
  either_none false = e

seats_apart : (seat : ℕ → Option ℕ) (p q i j : ℕ) → seat p ≡ some i → seat q ≡ some j → i ≢ j → p ≢ q
seats_apart seat p q i j a b ne e = ne (some-injective i j (sym a ∙ (ap seat e ∙ b)))

none_apart : (seat : ℕ → Option ℕ) (p q i : ℕ) → seat p ≡ none → seat q ≡ some i → p ≢ q
none_apart seat p q i a b e = some-ne-none i (sym b ∙ (ap seat (sym e) ∙ a))

module _ {T : Type 0} where
  -- ---- the views
  abbrev All_views : (ℕ → View T → Type 0) → List (View T) → Type 0
  All_views F views = (pass : ℕ) (v : View T) → get_elem? views pass ≡ some v → F pass v

  views_set : (F : ℕ → View T → Type 0) (views : List (View T)) (pass : ℕ) (w : View T) → F pass w → ((j : ℕ) (u : View T) → j ≢ pass → get_elem? views j ≡ some u → F j u) → All_views F (set views pass w)
  views_set F views pass w mine others j u e = ⊎_elim (λ (x : (j ≡ pass) × (w ≡ u)). subst (λ (y : ℕ × View T). F y.0 y.1) (λ i. (sym x.0 i, x.1 i)) mine)
      (λ (x : (j ≢ pass) × (get_elem? views j ≡ some u)). others j u x.0 x.1) (at_set views pass j w u e)

  at_end : (l : List (View T)) (a b : View T) (j : ℕ) → get_elem? (l ++ a ∷ []) j ≡ some b → (get_elem? l j ≡ some b) ⊎ ((j ≡ length l) × (a ≡ b))
  at_end [] a b zero e = inr (refl, some-injective a b e)
  at_end [] a b (suc j) e = absurd (some-ne-none b (sym e))
  at_end (x ∷ xs) a b zero e = inl e
  at_end (x ∷ xs) a b (suc j) e = ⊎_elim (λ t. inl t) (λ (t : (j ≡ length xs) × (a ≡ b)). inr (ap suc t.0, t.1)) (at_end xs a b j e)

  views_more : (F : ℕ → View T → Type 0) (views : List (View T)) (w : View T) → F (length views) w → All_views F views → All_views F (views ++ w ∷ [])
  views_more F views w new old j u e = ⊎_elim (λ t. old j u t) (λ (t : (j ≡ length views) × (w ≡ u)). subst (λ (y : ℕ × View T). F y.0 y.1) (λ i. (sym t.0 i, t.1 i)) new) (at_end views w u j e)

module _ {T : Type 0} (sender : T → ℕ) where
  of_own : (x : T) (p : ℕ) → p ≡ sender x → of sender p (x ∷ []) ≡ x ∷ []
  of_own x p e = ap (λ b. cond b (x ∷ []) []) (eq-eqb (sender x) p (sym e))

  of_other : (x : T) (p : ℕ) → p ≢ sender x → of sender p (x ∷ []) ≡ []
  of_other x p ne = ap (λ b. cond b (x ∷ []) []) (ne_eqb (sender x) p (λ e. ne (sym e)))

  -- what each sender sent, once x is sent
  abbrev grown : (ℕ → List T) → T → ℕ → List T
  grown sent x p = sent p ++ of sender p (x ∷ [])

  grown_own : (sent : ℕ → List T) (x : T) (p : ℕ) → p ≡ sender x → grown sent x p ≡ sent p ++ x ∷ []
  grown_own sent x p e = ap (λ l. sent p ++ l) (of_own x p e)

  grown_other : (sent : ℕ → List T) (x : T) (p : ℕ) → p ≢ sender x → grown sent x p ≡ sent p
  grown_other sent x p ne = ap (λ l. sent p ++ l) (of_other x p ne) ∙ append-nil (sent p)

  pub begins : Delivers sender [] (receiving [] 0 [] ∷ [])
  begins = (
    0,
    (λ _. none),
    (λ _. []),
    [],
    (λ p. refl),
    views_more (λ j u. FitsSender (λ _. none) (λ _. []) j u × FitsReceiver 0 (λ _. none) (λ _. []) [] j u) [] (receiving [] 0 [])
        ((λ y. absurd (true≢false (sym y))), λ _. (refl, refl, (λ p _. (refl, refl)), All-nil (IsBack (λ _. none) (λ _. []) 0)))
        (λ j u e. absurd (some-ne-none u (sym e))),
  )

  pub sends : (n pass : ℕ) (v : View T) (x : T) → v.sends ≡ true → v.number ≡ sender x → Pushes (Delivers sender) n pass v x (λ w. w ≡ sending v.number (v.sent ++ x ∷ []))
  sends n pass v x may own items views _ h at = let seat = h.1 in let sent = h.2 in let got = h.3 in let mine = (h.5 pass v at).0 may in let w : View T = sending v.number (v.sent ++ x ∷ []) in let sent' = grown sent x in
      let here : seat (sender x) ≡ some pass = ap seat (sym own) ∙ mine.0 in (
        w,
        (
          h.0,
          seat,
          sent',
          got,
          (λ p. ap (of sender p) (sym (append_assoc got items (x ∷ []))) ∙ (filter-append (λ y. eqb (sender y) p) (got ++ items) (x ∷ []) ∙ ap (λ l. l ++ of sender p (x ∷ [])) (h.4 p))),
          views_set (λ j u. FitsSender seat sent' j u × FitsReceiver h.0 seat sent' got j u) views pass w
              ((λ _. (mine.0, ap (λ l. l ++ x ∷ []) mine.1 ∙ sym (grown_own sent x v.number own))), λ y. absurd (true≢false (sym y)))
              (λ j u other e. let was = h.5 j u e in (
                (λ s. let t = was.0 s in (t.0, t.1 ∙ sym (grown_other sent x u.number (seats_apart seat u.number (sender x) j pass t.0 here other)))),
                λ r. let t = was.1 r in (
                  t.0,
                  t.1,
                  (λ p far. let none' = (t.2 p far).0 in (none', grown_other sent x p (none_apart seat p (sender x) pass none' here) ∙ (t.2 p far).1)),
                  All-weaker (IsBack seat sent u.made) (IsBack seat sent' u.made) (λ b is. (is.0, is.1, is.2 ∙ sym (grown_other sent x b.number (none_apart seat b.number (sender x) pass is.1 here)))) u.back t.3,
                ),
              )),
        ),
        refl,
      )

  -- an item stands among those of its sender
  there_is_one : (got items : List T) (x : T) → of sender (sender x) (got ++ x ∷ items) ≢ []
  there_is_one got items x e = let p = sender x in let front : of sender p (x ∷ items) ≡ x ∷ of sender p items = ap (λ b. cond b (x ∷ of sender p items) (of sender p items)) (eq-eqb p p refl) in
      let parts : of sender p got ++ x ∷ of sender p items ≡ [] = ap (λ l. of sender p got ++ l) (sym front) ∙ (sym (filter-append (λ y. eqb (sender y) p) got (x ∷ items)) ∙ e) in
      let n = ap length parts in absurd (omega (arith, length-append (of sender p got) (x ∷ of sender p items)))

  pub gets : (pass : ℕ) (v : View T) → v.receives ≡ true → Pops (Delivers sender) pass v (λ x w. (sender x < v.made) × (w ≡ receiving (v.got ++ x ∷ []) v.made v.back))
  gets pass v may x items views h at = let seat = h.1 in let sent = h.2 in let mine = (h.5 pass v at).1 may in let w : View T = receiving (v.got ++ x ∷ []) v.made v.back in let got = h.3 ++ x ∷ [] in (
    w,
    (
      h.0,
      seat,
      sent,
      got,
      (λ p. ap (of sender p) (append_assoc h.3 (x ∷ []) items) ∙ h.4 p),
      views_set (λ j u. FitsSender seat sent j u × FitsReceiver h.0 seat sent got j u) views pass w
          ((λ y. absurd (true≢false (sym y))), λ _. (mine.0, ap (λ l. l ++ x ∷ []) mine.1, mine.2, mine.3))
          (λ j u other e. ((h.5 j u e).0, λ r. absurd (other (((h.5 j u e).1 r).0 ∙ sym mine.0)))),
    ),
    (
      dite (dec_le v.made (sender x)) (λ le. absurd (there_is_one h.3 items x (h.4 (sender x) ∙ (mine.2 (sender x) le).1))) (λ no. omega (arith, no)),
      refl,
    ),
  )

  pub forks : (pass : ℕ) (v : View T) → v.receives ≡ true → Forks (Delivers sender) pass v (receiving v.got (v.made + 1) v.back) (sending v.made [])
  forks pass v may items views h at = let seat = h.1 in let sent = h.2 in let mine = (h.5 pass v at).1 may in let l : View T = receiving v.got (v.made + 1) v.back in let r : View T = sending v.made [] in let vs = set views pass l in
      let seat' = seated seat v.made (some (length vs)) in let fresh = mine.2 v.made (omega arith) in let F : ℕ → View T → Type 0 = λ j u. FitsSender seat' sent j u × FitsReceiver h.0 seat' sent h.3 j u in (
        h.0,
        seat',
        sent,
        h.3,
        h.4,
        views_more F vs r ((λ _. (seated_here seat v.made (some (length vs)), sym fresh.1)), λ y. absurd (true≢false (sym y)))
            (views_set F views pass l (
              (λ y. absurd (true≢false (sym y))),
              λ _. (
                mine.0,
                mine.1,
                (λ p far. let t = mine.2 p (omega arith) in (seated_else seat v.made (some (length vs)) p (λ e. omega arith) ∙ t.0, t.1)),
                All-weaker (IsBack seat sent v.made) (IsBack seat' sent (v.made + 1)) (λ b is. (omega (arith, is.0), seated_else seat v.made (some (length vs)) b.number (λ e. let lt = is.0 in omega arith) ∙ is.1, is.2)) v.back mine.3,
              ),
            )
            (λ j u other e. let was = h.5 j u e in (
              (λ s. let t = was.0 s in (seated_else seat v.made (some (length vs)) u.number (λ is. none_apart seat v.made u.number j fresh.0 t.0 (sym is)) ∙ t.0, t.1)),
              λ y. absurd (other ((was.1 y).0 ∙ sym mine.0)),
            ))),
      )

  pub merges : (pass : ℕ) (v : View T) (other : ℕ) (u : View T) → v.receives ≡ true → u.sends ≡ true → Merges (Delivers sender) pass v other u (receiving v.got v.made (v.back ++ back u.number u.sent ∷ [])) spent
  merges pass v other u may sent_by items views h at two at' = let seat = h.1 in let sent = h.2 in let mine = (h.5 pass v at).1 may in let both : View T = receiving v.got v.made (v.back ++ back u.number u.sent ∷ []) in let vs = set views pass both in
      let was : get_elem? views other ≡ some u = ⊎_elim (λ x. absurd (two x.0)) (λ x. x.1) (at_set views pass other both u at') in let theirs = (h.5 other u was).0 sent_by in let seat' = seated seat u.number none in
      let made : u.number < v.made = dite (dec_le v.made u.number) (λ le. absurd (none_apart seat u.number u.number other (mine.2 u.number le).0 theirs.0 refl)) (λ no. omega (arith, no)) in
      let Fit : ℕ → View T → Type 0 = λ j y. FitsSender seat' sent j y × FitsReceiver h.0 seat' sent h.3 j y in let Now : ℕ → View T → Type 0 = λ j y. j ≢ other → Fit j y in
      let now : All_views Now vs = views_set Now views pass both
      (λ _. (
        (λ y. absurd (true≢false (sym y))),
        λ _. (
          mine.0,
          mine.1,
          (λ p far. let t = mine.2 p far in (freed seat u.number p t.0, t.1)),
          All-push (IsBack seat' sent v.made) v.back (back u.number u.sent) (All-weaker (IsBack seat sent v.made) (IsBack seat' sent v.made) (λ b is. (is.0, freed seat u.number b.number is.1, is.2)) v.back mine.3)
              (made, seated_here seat u.number none, theirs.1),
        ),
      ))
      (λ j y away e apart. let old = h.5 j y e in (
        (λ s. let t = old.0 s in (seated_else seat u.number none y.number (seats_apart seat y.number u.number j other t.0 theirs.0 apart) ∙ t.0, t.1)),
        λ r. absurd (away ((old.1 r).0 ∙ sym mine.0)),
      )) in (
        h.0,
        seat',
        sent,
        h.3,
        h.4,
        views_set Fit vs other spent ((λ y. absurd (true≢false (sym y))), λ y. absurd (true≢false (sym y))) (λ j y apart e. now j y e apart),
      )

  -- what a sender learns
  pub has_sent : (pass : ℕ) (v : View T) → v.sends ≡ true → Learns (Delivers sender) pass v (HasSent sender v)
  has_sent pass v may items views h at = (h.3, h.4 v.number ∙ sym ((h.5 pass v at).0 may).1)

  -- what the receiver learns
  pub has_got : (pass : ℕ) (v : View T) → v.receives ≡ true → Learns (Delivers sender) pass v (HasGot sender v)
  has_got pass v may items views h at = let mine = (h.5 pass v at).1 may in let split : (p : ℕ) → of sender p (v.got ++ items) ≡ h.2 p = λ p. ap (λ l. of sender p (l ++ items)) mine.1 ∙ h.4 p in (
    All-weaker (IsBack h.1 h.2 v.made) (λ b. of sender b.number (v.got ++ items) ≡ b.sent) (λ b is. split b.number ∙ sym is.2) v.back mine.3,
    λ p far. split p ∙ (mine.2 p far).1,
  )

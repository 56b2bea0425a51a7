-- What no newline ends, at the end of a session.
use Rattle.std.proofs.Common.{◌≡◌, [], ◌∷◌, subst, sym, refl}
use Rattle.std.specs.Prelude.{Result, OnOk, OnErr}
use Rattle.std.proofs.lemmas.Result.{on_ok_weaker, on_err_weaker}
use Rattle.pay_session.specs.Requests.{request_of_rest}
use Rattle.pay_session.specs.Events.{Event}
use Rattle.pay_session.specs.SessionSteps.{Position, Runs, Replies, Falters, EndsRest, FaltersAtRest}
use Rattle.pay_session.specs.declared.request.Request.{Request}
use Rattle.pay_session.proofs.SessionSteps.{Runs_one, told_none}

module _ {S : Type 0} (Serves : S → Request → Event → S → Type 0) where
  pub EndsRest_none : (p : Position S) → p.ahead ≡ [] → EndsRest Serves p p
  EndsRest_none p none = record {
    events = [];
    runs = subst (λ l. Runs Serves p.state (request_of_rest l) [] p.state) (sym none) refl;
    told = told_none Serves p p.ahead p.ahead;
  }

  EndsRest_one : (p q : Position S) (r : Request) → request_of_rest p.ahead ≡ r ∷ [] → Replies Serves r p q → EndsRest Serves p q
  EndsRest_one p q r asked f = record {
    events = f.event ∷ [];
    runs = subst (λ rs. Runs Serves p.state rs (f.event ∷ []) q.state) (sym asked) (Runs_one Serves r f.event p.state q.state f.serves);
    told = f.told;
  }

  pub EndsRest_answered : {T E : Type 0} (result : Result T E) (p q : Position S) (r : Request) → request_of_rest p.ahead ≡ r ∷ [] → OnOk result (Replies Serves r p q) → OnOk result (EndsRest Serves p q)
  EndsRest_answered result p q r asked f = on_ok_weaker result (EndsRest_one p q r asked) f

  pub FaltersAtRest_failed : {T E : Type 0} (result : Result T E) (p q : Position S) (r : Request) → request_of_rest p.ahead ≡ r ∷ [] → OnErr result (Falters Serves r p q) → OnErr result (FaltersAtRest Serves p q)
  FaltersAtRest_failed result p q r asked f = on_err_weaker result (λ g. record { request = r; asked = asked; falters = g }) f

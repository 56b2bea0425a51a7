-- What a gate is that keeps the lines of what it lets pass.
use Rattle.std.specs.Prelude.{◌≡◌, ℕ, Bool, true, IsTrue, List, ◌∷◌, ◌++◌, Option, refl}
use Rattle.std.specs.Coded.{Coded, code_by, coded×, coded_ℕ, coded_bool, coded_list, coded_option}
use Rattle.std.specs.Io.KnownBytes.{Appends}
use Rattle.pay_journal.specs.Words.{is_quotes, CanFail, IsRest}
use Rattle.pay_lanes.specs.Words.{Passed}
use Rattle.pay_serve.specs.Keeping.{kept_lines}

pub record GateParts : Type 0 where
  -- what its keeper held when it began, and what it holds
  pub held_first : Option (List ℕ)
  pub holds : Option (List ℕ)
  -- whether something could not be kept, so that nothing passes any more
  pub stuck : Bool

-- it is stored as the tuple of these
abbrev pub gate_code : Coded GateParts
gate_code =
    code_by (Option (List ℕ) × (Option (List ℕ) × Bool)) (coded× (coded_option (coded_list coded_ℕ)) (coded× (coded_option (coded_list coded_ℕ)) coded_bool))
    (λ g. (g.held_first, (g.holds, g.stuck))) (λ p. record { held_first = p.0; holds = p.1.0; stuck = p.1.1 }) (λ _. refl)

-- some keeper was settled that held just these lines after what was held first
abbrev pub WereSettled : {K : Type 0} → (K → Option (List ℕ)) → (K → Type 0) → Option (List ℕ) → List ℕ → Type 0
WereSettled {K = K} holds IsSettled held_first lines = (keeper : K) × IsSettled keeper × Appends held_first (holds keeper) lines

-- With what the keepers of a type hold, how they have failed, and what it is that one was settled.
module _ {K : Type 0} (holds : K → Option (List ℕ)) (HasFailed IsSettled : K → Type 0) where
  -- A gate has let pass just these: its keeper holds what it held first, and the line of each that is newly accepted, once and in order.
  -- After these lines there is nothing, or where the gate is stuck, a front of one line more. It is stuck exactly if it then refused
  -- one more.
  pub record HoldsPassed (g : GateParts) (passed : List Passed) (refused : Bool) : Type 0 where
    pub rest : List ℕ
    pub bytes : Appends g.held_first g.holds (kept_lines passed ++ rest)
    pub is_rest : IsRest g.stuck rest
    -- what stands before an answer to a close was settled
    pub settled : (front : List Passed) (p : Passed) (later : List Passed) → passed ≡ front ++ p ∷ later → is_quotes p.0.command ≡ true → WereSettled holds IsSettled g.held_first (kept_lines front)
    pub is_stuck : g.stuck ≡ refused
    pub cause : IsTrue g.stuck → CanFail HasFailed

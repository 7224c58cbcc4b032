-- What a call from another language returns and leaves in the slices that are lent: the one for what is made, and the one for the answer's values.
-- Assumes nothing.
use Rattle.std.specs.Prelude.{ℕ, ◌≡◌, Bool, true, false, List, length, leb}

pub record Called (number : ℕ) (out answer : List ℕ) (new_number : ℕ) (new_out new_answer : List ℕ) : Type 0 where
  pub number_is : new_number ≡ number
  pub out_is : new_out ≡ out
  pub answer_is : new_answer ≡ answer

-- by whether the answer has room for its values: if not, 255, and nothing is changed
abbrev pub CallsBy : Bool → ℕ → List ℕ → List ℕ → List ℕ → List ℕ → ℕ → List ℕ → List ℕ → Type 0
CallsBy true number out answer old_out old_answer = Called number out answer
CallsBy false number out answer old_out old_answer = Called 255 old_out old_answer

-- an answer of so many values
abbrev pub Calls : ℕ → ℕ → List ℕ → List ℕ → List ℕ → List ℕ → ℕ → List ℕ → List ℕ → Type 0
Calls values number out answer old_out old_answer = CallsBy (leb values (length old_answer)) number out answer old_out old_answer

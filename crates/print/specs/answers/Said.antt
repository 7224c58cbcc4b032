-- What the functions of answers answer, by cases: where a part of an answer ends (Fronts), or that none stands there. Assumes nothing.
use Rattle.std.specs.Prelude.{ℕ, ◌+◌, ◌-◌, ◌≤◌, ◌<◌, ◌≡◌, Bool, true, false, List, pos, length, get_or, drop, Option, Some, None}
use Rattle.spec_tree.specs.Rows.{Row, row_const}
use Rattle.fmt.specs.checked.Check.{rows_in}
use Rattle.laws.specs.answer.Fronts.{NamesFront, HeadFront}
use Rattle.laws.specs.answer.Seen.{bound_by, Ended, Unended}
use Rattle.print.specs.declared.answers.Several.{Several}
use Rattle.print.specs.declared.answers.Opening.{Opening}
use Rattle.print.specs.declared.answers.Step.{Step}
use Rattle.print.specs.declared.answers.Step.TheVariants as step

-- a row of the list
abbrev pub row_at : List ℕ → ℕ → Row
row_at ws i = get_or (rows_in ws) i (row_const (pos 0))

-- a part stands from one place to another
abbrev pub Stands : (List ℕ → List ℕ → Type 0) → List ℕ → ℕ → ℕ → Type 0
Stands part ws at e = (at ≤ e) × (e ≤ length ws) × part (drop at ws) (drop e ws)

-- a part stands at a place, and where it ends, or none stands there
abbrev pub Says : (List ℕ → List ℕ → Type 0) → List ℕ → ℕ → Option ℕ → Type 0
Says part ws at (Some e) = Stands part ws at e
Says part ws at None = (r : List ℕ) → part (drop at ws) r → ⊥

-- the same for parts of any number
abbrev pub Counts : (ℕ → List ℕ → List ℕ → Type 0) → List ℕ → ℕ → Option Several → Type 0
Counts parts ws at (Some s) = Stands (parts s.count) ws at s.end × (at + s.count ≤ s.end)
Counts parts ws at None = (n : ℕ) (r : List ℕ) → parts n (drop at ws) r → ⊥

-- match names stand from one place to another, one word each, whatever the list
abbrev pub Names : List ℕ → ℕ → ℕ → Type 0
Names ws at e = (rows : List Row) → Stands (NamesFront rows (e - at)) ws at e

-- where a match's arms start, how many names it has, and how many arms
abbrev pub Heads : List Row → List ℕ → ℕ → Option Opening → Type 0
Heads rows ws at (Some o) = Stands (HeadFront rows o.names o.arms) ws at o.start × (o.names ≤ length ws)
Heads rows ws at None = (n m : ℕ) (r : List ℕ) → HeadFront rows n m (drop at ws) r → ⊥

abbrev pub Tells : Type 0 → Bool → Type 0
Tells fact true = fact
Tells fact false = fact → ⊥

-- ---- references

-- where the span at a place ends, if that is at `by` or before it
abbrev pub Spans : List ℕ → ℕ → ℕ → Option ℕ → Type 0
Spans ws at by (Some e) = Ended ws at by e
Spans ws at by None = Unended ws at by

-- a step on the way from i to a place: what is bound on it is what is bound from a later place on, or it is known
abbrev pub Ways : List ℕ → ℕ → ℕ → ℕ → Step → Type 0
Ways ws c i at (step.On j) = (i < j) × (j ≤ at) × (bound_by c 0 (at - i) (drop i ws) ≡ bound_by c 0 (at - j) (drop j ws))
Ways ws c i at step.Bound = bound_by c 0 (at - i) (drop i ws) ≡ true
Ways ws c i at step.Unbound = bound_by c 0 (at - i) (drop i ws) ≡ false

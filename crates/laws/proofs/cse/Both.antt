-- The first two clauses of demand 3, over the flat and the scoped answer together, in the form that `Demand3` has them, for any list of input symbols.
-- Assumes nothing.
use mathlib.Core.Path.{◌≡◌}
use mathlib.Core.Bool.{Bool, false}
use mathlib.Core.List.{List}
use lib.Dec.{T}
use Rattle.spec_tree.specs.Outcome.{ok}
use Rattle.spec_tree.specs.Tree.{Tree}
use Rattle.spec_cse.specs.Answer.{Answer}
use Rattle.spec_cse.specs.Scope.{answer}
use Rattle.spec_cse.specs.Demand.{well_scoped, values_kept, no_repeats, counted, count_bounded, Demand3}
use Rattle.spec_rewrite.proofs.Names.{holds_all}
use Rattle.laws.proofs.cse.ScopeValue.{under, answer_keeps_values}
use Rattle.laws.proofs.cse.ScopeNames.{answer_well_scoped}
use Rattle.laws.proofs.cse.ReciprocalBindings.{flat_reciprocals}

pub record NamesAndValues (es : List Tree) : Type 0 where
  pub names_once_and_later : (scoped : Bool) (a : Answer) → answer scoped es ≡ ok a → T (well_scoped es a)
  pub same_values : (scoped : Bool) (a : Answer) → answer scoped es ≡ ok a → values_kept es a

-- for a list with no name of an answer among its symbols
pub names_and_values : (es : List Tree) → T (holds_all (under 0) es) → NamesAndValues es
names_and_values es h =
    record {
      names_once_and_later = λ scoped a e. answer_well_scoped scoped es h a e;
      same_values = λ scoped a e R ρ. answer_keeps_values R scoped es h a e ρ;
    }

-- the whole of demand 3, from its clauses on the flat answer alone
pub demand3 :
    (es : List Tree) → T (holds_all (under 0) es) → ((a : Answer) → answer false es ≡ ok a → no_repeats es a)
    → ((a : Answer) → answer false es ≡ ok a → counted a) → ((a : Answer) → answer false es ≡ ok a → count_bounded es a) → Demand3 es
demand3 es h repeats count most =
    let both = names_and_values es h in
    record {
      names_once_and_later = both.names_once_and_later;
      same_values = both.same_values;
      only_lets = flat_reciprocals es h;
      none_twice = repeats;
      count_right = count;
      count_at_most = most;
    }

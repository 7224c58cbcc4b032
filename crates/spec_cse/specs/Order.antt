-- `topo_sort_intermediates` (01, "Order"): a statement comes after those that bind what it reads. Assumes nothing.
use Rattle.std.specs.Prelude.{ℕ, zero, suc, Bool, true, false, ◌&&◌, List, [], ◌∷◌, reverse, length, get_or, eqb, pos}
use Rattle.spec_tree.specs.Outcome.{Outcome, ok, refused, by}
use Rattle.spec_tree.specs.Tree.{Name, xname, Const}
use Rattle.spec_cse.specs.Answer.{Intermediate, Let, names, free, elem}

unfoldable pub meets : List Name → List Name → Bool
unfolding elem
meets [] l = false
meets (n ∷ ns) l = elim (elem n l) [ true ↦ true | false ↦ meets ns l ]

-- the positions, from i on, of the statements that bind a name among those read
unfoldable pub needs_from : ℕ → List Name → List Intermediate → List ℕ
unfolding meets names
needs_from i read [] = []
needs_from i read (s ∷ l) = elim (meets (names s) read) [ true ↦ i ∷ needs_from (suc i) read l | false ↦ needs_from (suc i) read l ]

-- for each statement the positions of those that it needs
unfoldable pub needs : List Intermediate → List Intermediate → List (List ℕ)
unfolding needs_from free
needs all [] = []
needs all (s ∷ l) = needs_from 0 (free s) all ∷ needs all l

unfoldable pub member : ℕ → List ℕ → Bool
member i [] = false
member i (j ∷ l) = elim (eqb j i) [ true ↦ true | false ↦ member i l ]

unfoldable pub within : List ℕ → List ℕ → Bool
unfolding member
within [] done = true
within (i ∷ l) done = elim (member i done) [ true ↦ within l done | false ↦ false ]

-- the positions, from i on, of the statements that need nothing
unfoldable pub free_from : ℕ → List (List ℕ) → List ℕ
free_from i [] = []
free_from i ([] ∷ l) = i ∷ free_from (suc i) l
free_from i ((j ∷ js) ∷ l) = free_from (suc i) l

-- the positions, from i on, of the statements whose last need is the one just taken
unfoldable pub joining : ℕ → ℕ → List ℕ → List (List ℕ) → List ℕ
unfolding member within
joining i taken done [] = []
joining i taken done (ns ∷ l) =
    elim (member taken ns && within ns done) [ true ↦ i ∷ joining (suc i) taken done l | false ↦ joining (suc i) taken done l ]

-- one after another onto a stack, whose top comes first
unfoldable pub push : List ℕ → List ℕ → List ℕ
push [] stack = stack
push (i ∷ l) stack = push l (i ∷ stack)

-- `done` has the latest first
unfoldable pub take_all : ℕ → List (List ℕ) → List ℕ → List ℕ → List ℕ
unfolding joining push
take_all zero table stack done = done
take_all (suc fuel) table [] done = done
take_all (suc fuel) table (i ∷ stack) done = take_all fuel table (push (joining 0 i (i ∷ done) table) stack) (i ∷ done)

-- the positions in the order in which they are taken, the latest first. Each is taken once at most, so as many steps as there are positions are enough.
unfoldable pub positions_taken : List (List ℕ) → List ℕ
unfolding take_all free_from push
positions_taken table = take_all (length table) table (push (free_from 0 table) []) []

-- a statement to read past the end of a list, which no position is
unfoldable pub nothing : Intermediate
nothing = Let (xname 0) (Const (pos 0))

unfoldable pub at_each : List Intermediate → List ℕ → List Intermediate
unfolding nothing
at_each all [] = []
at_each all (i ∷ l) = get_or all i nothing ∷ at_each all l

-- refusal 11 where some are never taken: they need each other, or one itself
unfoldable pub topo_sort_intermediates : List Intermediate → Outcome (List Intermediate)
unfolding needs positions_taken at_each
topo_sort_intermediates l =
    let order = positions_taken (needs l l) in
    elim (eqb (length order) (length l)) [ true ↦ ok (reverse (at_each l order)) | false ↦ refused (by 11) ]

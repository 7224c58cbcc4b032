-- What a scope holds is sound (01, "Reciprocals", "Scoped fusion"): the words of results, lets and reciprocals with the divisors replaced are words that rounds take,
-- with names below the next number, and they are read back as the trees held. Assumes nothing.
use Prim.Native.Nat.{ℕ, zero, suc, ◌+◌, ◌≤◌, ◌<◌}
use native.Mathlib.Omega.{arith}
use mathlib.Core.Path.{◌≡◌, refl, sym, ◌∙◌, ap, subst}
use mathlib.Core.Bool.{Bool, true, false, ◌&&◌}
use mathlib.Core.Option.{some}
use mathlib.Core.List.{List, [], ◌∷◌, map}
use lib.ListN.{length, get_or}
use lib.Dec.{T, eqb, lt→ltb}
use Rattle.spec_tree.specs.Tree.{Name, xname, Tree, Forest, Sym, Const, Op, nil, ◌◂◌}
use Rattle.spec_tree.specs.Kinds.{Mul, Div}
use Rattle.spec_tree.specs.Passes.{of_paper, operands_ok}
use Rattle.spec_tree.specs.Rows.{Row}
use Rattle.spec_tree.specs.Tokens.{read, numbered, trees_in, trees_at}
use Rattle.spec_tree.proofs.Formed.{operand_count}
use Rattle.spec_tree.proofs.Logic.{and_left, and_right, and_both}
use Rattle.spec_tree.proofs.TokenLaws.{places_are_nodes, trees_length}
use Rattle.spec_tree.proofs.TokenCode.{known_name, coded, all_coded, unnumbered}
use Rattle.spec_rewrite.specs.Rewrite.{divides_by, replace_divisor, replace_divisors, dividend}
use Rattle.spec_rewrite.proofs.Names.{holds, holds_all, weaken, all_nodes_hold, divisor_holds}
use Rattle.laws.proofs.cse.RoundsCount.{made_before, made_le}
use Rattle.laws.specs.positions.Names.{symbols_pass}
use Rattle.laws.specs.positions.Places.{numbered_at}
use Rattle.laws.proofs.positions.Extraction.{Every, every_append}
use Rattle.laws.proofs.positions.Reading.{read_holds, all_tokens_pass}
use Rattle.laws.proofs.positions.RowNames.{all_code}
use Rattle.laws.proofs.positions.Coded.{is_alone, divisor_fits, read_fits, read_again}
use Rattle.laws.proofs.positions.WordRounds.{InCode, written, place_fits, written_complete}
use Rattle.reciprocals.proofs.bindings.Parts.{settle_tree, reciprocal, settled_reciprocals, AllThere}
use Rattle.rounds.specs.kept.Sound.{extractable}
use Rattle.rounds.proofs.kept.Passing.{taken, taken_each, all_taken}
use Rattle.rounds.proofs.kept.Words.{name_ok, made_ok, taken_at, names_below}
use Rattle.rounds.proofs.kept.Steps.{Ready, ready_of, ready_so}
use Rattle.fusion.specs.Switchless.{switchless, with_switches}
use Rattle.fusion.specs.place.Parts.{trees_held, words_held}
use Rattle.laws.proofs.answer.CodeLaws.{run_starts}

-- ---- a division made a product keeps operand counts and constants

module _ (p : Name → Bool) (d : Tree) (n : Name) (name_fits : T (p n)) where
  counted : (f : Forest) → operand_count (replace_divisors d n f) ≡ operand_count f
  unfolding replace_divisor operand_count
  counted nil = refl
  counted (t ◂ f) = ap suc (counted f)

  product_taken : (t : Tree) (f : Forest) → T (taken p (replace_divisor d n t)) → T (taken p (Op Mul (dividend d n (t ◂ f))))
  unfolding taken replace_divisor operands_ok operand_count
  product_taken t f h = and_both (taken p (replace_divisor d n t)) (p n && true) h (and_both (p n) true name_fits tt)

  division_step :
      (k : ℕ) (f : Forest) (b c : Bool) → (T c → T (taken p (Op Mul (dividend d n f)))) → T (operands_ok k (operand_count f)) → T (taken_each p (replace_divisors d n f))
      → T (taken p (elim (b && c) [ true ↦ Op Mul (dividend d n f) | false ↦ Op k (replace_divisors d n f) ]))
  unfolding taken
  division_step k f true true g a h = g tt
  division_step k f true false g a h =
      and_both (operands_ok k (operand_count (replace_divisors d n f))) (taken_each p (replace_divisors d n f)) (subst (λ (i : ℕ). T (operands_ok k i)) (sym (counted f)) a) h
  division_step k f false c g a h =
      and_both (operands_ok k (operand_count (replace_divisors d n f))) (taken_each p (replace_divisors d n f)) (subst (λ (i : ℕ). T (operands_ok k i)) (sym (counted f)) a) h

  mutual
    unfolding taken replace_divisor divides_by

    pub divisor_taken : (t : Tree) → T (taken p t) → T (taken p (replace_divisor d n t))
    divisor_taken (Sym s) h = h
    divisor_taken (Const c) h = h
    divisor_taken (Op k f) h =
        division_step k f (eqb k Div) (divides_by d f) (λ u. dividend_taken f (and_right (operands_ok k (operand_count f)) (taken_each p f) h) u)
        (and_left (operands_ok k (operand_count f)) (taken_each p f) h) (divisors_taken f (and_right (operands_ok k (operand_count f)) (taken_each p f) h))

    divisors_taken : (f : Forest) → T (taken_each p f) → T (taken_each p (replace_divisors d n f))
    divisors_taken nil h = tt
    divisors_taken (t ◂ f) h =
        and_both (taken p (replace_divisor d n t)) (taken_each p (replace_divisors d n f)) (divisor_taken t (and_left (taken p t) (taken_each p f) h))
        (divisors_taken f (and_right (taken p t) (taken_each p f) h))

    dividend_taken : (f : Forest) → T (taken_each p f) → T (divides_by d f) → T (taken p (Op Mul (dividend d n f)))
    dividend_taken nil h u = absurd u
    dividend_taken (t ◂ f) h u = product_taken t f (divisor_taken t (and_left (taken p t) (taken_each p f) h))

-- ---- trees that may stand in a scope: such as print takes, within the code, with made names below a number and symbols of the list that pass

-- the symbols of the list by their numbers
abbrev by_number : (ℕ → Bool) → List ℕ → Bool
by_number good s = good (unnumbered s)

module _ (rows : List Row) (good : ℕ → Bool) (n : ℕ) where
  pub record Fine (t : Tree) : Type 0 where
    pub takes : T (taken (name_ok rows) t)
    pub below : T (holds (made_before n) t)
    pub code : T (coded is_alone t)
    pub known : T (holds (known_name (by_number good)) t)

  made_known : (i : ℕ) → T (known_name (by_number good) (xname i))
  unfolding known_name
  made_known i = tt

  alone_name : (i : ℕ) → T (known_name is_alone (xname i))
  unfolding known_name
  alone_name i = tt

  below_name : (i : ℕ) → i < n → T (made_before n (xname i))
  unfolding made_before
  below_name i h = lt→ltb i n h

  divided_fine : (d : Tree) (i : ℕ) → i < n → (t : Tree) → Fine t → Fine (replace_divisor d (xname i) t)
  divided_fine d i h t f =
      record {
        takes = divisor_taken (name_ok rows) d (xname i) (made_ok rows i) t f.takes;
        below = divisor_holds (made_before n) d (xname i) (λ g. below_name i h) t f.below;
        code = divisor_fits is_alone d (xname i) (alone_name i) t f.code;
        known = divisor_holds (known_name (by_number good)) d (xname i) (λ g. made_known i) t f.known;
      }

  reciprocal_taken : (d : Tree) → T (taken (name_ok rows) d) → T (taken (name_ok rows) (reciprocal d))
  unfolding taken operands_ok operand_count of_paper
  reciprocal_taken d h = and_both (taken (name_ok rows) d) true h tt

  reciprocal_holds : (p : Name → Bool) (d : Tree) → T (holds p d) → T (holds p (reciprocal d))
  unfolding holds
  reciprocal_holds p d h = and_both (holds p d) true h tt

  reciprocal_code : (d : Tree) → T (coded is_alone d) → T (coded is_alone (reciprocal d))
  unfolding coded
  reciprocal_code d h = and_both (coded is_alone d) true h tt

  reciprocal_fine : (d : Tree) → Fine d → Fine (reciprocal d)
  reciprocal_fine d f =
      record {
        takes = reciprocal_taken d f.takes;
        below = reciprocal_holds (made_before n) d f.below;
        code = reciprocal_code d f.code;
        known = reciprocal_holds (known_name (by_number good)) d f.known;
      }

  settled_fine : (ds : List Tree) (i : ℕ) (t : Tree) → i + length ds ≤ n → Fine t → Fine (settle_tree ds i t)
  settled_fine [] i t h f = f
  settled_fine (d ∷ ds) i t h f = settled_fine ds (suc i) (replace_divisor d (xname i) t) (omega arith) (divided_fine d i (omega arith) t f)

  all_settled_fine : (ds : List Tree) (i : ℕ) (l : List Tree) → i + length ds ≤ n → Every Fine l → Every Fine (map (settle_tree ds i) l)
  all_settled_fine ds i [] h f = tt
  all_settled_fine ds i (t ∷ l) h f = (settled_fine ds i t h f.0, all_settled_fine ds i l h f.1)

  reciprocals_fine : (ds : List Tree) (i : ℕ) → i + length ds ≤ n → Every Fine ds → Every Fine (settled_reciprocals ds i)
  reciprocals_fine [] i h f = tt
  reciprocals_fine (d ∷ ds) i h f = (settled_fine ds (suc i) (reciprocal d) (omega arith) (reciprocal_fine d f.0), reciprocals_fine ds (suc i) (omega arith) f.1)

  switches_step : (b : Bool) (t : Tree) (l : List Tree) → Fine t → Every Fine l → Every Fine (elim b as (λ _. List Tree) [ true ↦ l | false ↦ t ∷ l ])
  switches_step true t l f g = g
  switches_step false t l f g = (f, g)

  switches_fine : (l : List Tree) → Every Fine l → Every Fine (with_switches l)
  unfolding with_switches
  switches_fine [] f = tt
  switches_fine (t ∷ l) f = switches_step (switchless t) t (with_switches l) f.0 (switches_fine l f.1)

  -- ---- and their words

  all_take : (l : List Tree) → Every Fine l → T (all_taken (name_ok rows) l)
  unfolding all_taken
  all_take [] f = tt
  all_take (t ∷ l) f = and_both (taken (name_ok rows) t) (all_taken (name_ok rows) l) f.0.takes (all_take l f.1)

  all_below : (l : List Tree) → Every Fine l → T (holds_all (made_before n) l)
  unfolding holds_all
  all_below [] f = tt
  all_below (t ∷ l) f = and_both (holds (made_before n) t) (holds_all (made_before n) l) f.0.below (all_below l f.1)

  all_known : (l : List Tree) → Every Fine l → T (holds_all (known_name (by_number good)) l)
  unfolding holds_all
  all_known [] f = tt
  all_known (t ∷ l) f =
      and_both (holds (known_name (by_number good)) t) (holds_all (known_name (by_number good)) l) f.0.known (all_known l f.1)

  pub all_in_code : (l : List Tree) → Every Fine l → InCode l
  unfolding all_coded
  all_in_code [] f = tt
  all_in_code (t ∷ l) f = and_both (coded is_alone t) (all_coded is_alone l) f.0.code (all_in_code l f.1)

  pub fine_ready : (l : List Tree) → Every Fine l → Ready rows n (written l)
  fine_ready l f =
      let c = all_in_code l f in
      record {
        trees = length l;
        complete = written_complete l c;
        taken = subst (λ (ts : List Tree). T (all_taken (name_ok rows) ts)) (sym (read_again l c)) (all_take l f);
        below = subst T (sym (names_below n (written l))) (subst (λ (ts : List Tree). T (holds_all (made_before n) ts)) (sym (read_again l c)) (all_below l f));
      }

  pub fine_pass : (l : List Tree) → Every Fine l → T (symbols_pass good (written l))
  fine_pass l f =
      all_tokens_pass unnumbered (by_number good) good (λ s h. h) l (all_code is_alone (by_number good) l (all_in_code l f) (all_known l f))

-- ---- what is read of sound words

module _ (rows : List Row) (good : ℕ → Bool) (n : ℕ) (ws : List ℕ) (r : Ready rows n ws) (pass : T (symbols_pass good ws)) where
  read_below : T (holds_all (made_before n) (read numbered ws))
  read_below = subst T (names_below n ws) r.below

  read_known : T (holds_all (known_name (by_number good)) (read numbered ws))
  read_known = read_holds (by_number good) good (λ i h. h) ws pass

  module _ (m : ℕ) (more : n ≤ m) where
    fine_of : (t : Tree) → T (taken (name_ok rows) t) → T (holds (made_before n) t) → T (coded is_alone t) → T (holds (known_name (by_number good)) t) → Fine rows good m t
    fine_of t a b c d = record { takes = a; below = weaken (made_before n) (made_before m) (made_le n m more) t b; code = c; known = d }

    each_fine :
        (l : List Tree) → T (all_taken (name_ok rows) l) → T (holds_all (made_before n) l) → T (all_coded is_alone l) → T (holds_all (known_name (by_number good)) l)
        → Every (Fine rows good m) l
    unfolding all_taken holds_all all_coded
    each_fine [] a b c d = tt
    each_fine (t ∷ l) a b c d = (
      fine_of t (and_left (taken (name_ok rows) t) (all_taken (name_ok rows) l) a) (and_left (holds (made_before n) t) (holds_all (made_before n) l) b)
          (and_left (coded is_alone t) (all_coded is_alone l) c) (and_left (holds (known_name (by_number good)) t) (holds_all (known_name (by_number good)) l) d),
      each_fine l (and_right (taken (name_ok rows) t) (all_taken (name_ok rows) l) a) (and_right (holds (made_before n) t) (holds_all (made_before n) l) b)
          (and_right (coded is_alone t) (all_coded is_alone l) c) (and_right (holds (known_name (by_number good)) t) (holds_all (known_name (by_number good)) l) d),
    )

    pub read_fine : Every (Fine rows good m) (read numbered ws)
    read_fine = each_fine (read numbered ws) r.taken read_below (read_fits ws) read_known

    entry_holds : (p : Name → Bool) (l : List Tree) (i : ℕ) → i < length l → T (holds_all p l) → T (holds p (get_or l i (Op 0 nil)))
    unfolding holds_all
    entry_holds p [] i h g = absurd (omega arith)
    entry_holds p (t ∷ l) zero h g = and_left (holds p t) (holds_all p l) g
    entry_holds p (t ∷ l) (suc i) h g = entry_holds p l i (omega arith) (and_right (holds p t) (holds_all p l) g)

    place_holds : (p : Name → Bool) (i : ℕ) → i < length ws → T (holds_all p (read numbered ws)) → T (holds p (numbered_at ws i))
    unfolding numbered_at
    place_holds p i h g =
        entry_holds p (trees_at numbered ws) i (omega (arith, trees_length numbered ws, h))
        (subst (λ (l : List Tree). T (holds_all p l)) (sym (places_are_nodes numbered ws)) (all_nodes_hold p (read numbered ws) g))

    pub place_fine : (i : ℕ) → i < length ws → Fine rows good m (numbered_at ws i)
    place_fine i h =
        fine_of (numbered_at ws i) (taken_at (name_ok rows) ws i h r.taken) (place_holds (made_before n) i h read_below) (place_fits ws r.trees r.complete i h)
        (place_holds (known_name (by_number good)) i h read_known)

-- ---- what is held

module _ (rows : List Row) (good : ℕ → Bool) (n : ℕ) (ws : List ℕ) (sound : T (extractable rows n ws)) (pass : T (symbols_pass good ws)) (places : List ℕ) (there : AllThere ws places) where
  abbrev ready : Ready rows n ws
  ready = ready_of rows n ws sound

  abbrev next : ℕ
  next = n + length places

  divisors_fine : (l : List ℕ) → AllThere ws l → Every (Fine rows good next) (map (numbered_at ws) l)
  divisors_fine [] h = tt
  divisors_fine (p ∷ l) h =
      (place_fine rows good n ws ready pass next (omega arith) p (run_starts ws p h.0.0 h.0.1), divisors_fine l h.1)

  as_many : (l : List ℕ) → length (map (numbered_at ws) l) ≡ length l
  as_many [] = refl
  as_many (p ∷ l) = ap suc (as_many l)

  pub held_fine : Every (Fine rows good next) (trees_held ws n places)
  unfolding trees_held
  held_fine =
      let ds = map (numbered_at ws) places in
      let l = as_many places in
      every_append (Fine rows good next) (map (settle_tree ds n) (read numbered ws)) (with_switches (settled_reciprocals ds n))
      (all_settled_fine rows good next ds n (read numbered ws) (omega (arith, l)) (read_fine rows good n ws ready pass next (omega arith)))
      (switches_fine rows good next (settled_reciprocals ds n) (reciprocals_fine rows good next ds n (omega (arith, l)) (divisors_fine places there)))

  held_written : words_held ws n places ≡ written (trees_held ws n places)
  unfolding words_held
  held_written = refl

  pub held_sound : T (extractable rows (n + length places) (words_held ws n places))
  held_sound =
      subst (λ (l : List ℕ). T (extractable rows next l)) (sym held_written) (ready_so rows next (written (trees_held ws n places)) (fine_ready rows good next (trees_held ws n places) held_fine))

  pub held_pass : T (symbols_pass good (words_held ws n places))
  held_pass = subst (λ (l : List ℕ). T (symbols_pass good l)) (sym held_written) (fine_pass rows good next (trees_held ws n places) held_fine)

  pub held_complete : trees_in (words_held ws n places) ≡ some (length (trees_held ws n places))
  held_complete = ap trees_in held_written ∙ written_complete (trees_held ws n places) (all_in_code rows good next (trees_held ws n places) held_fine)

  pub held_read : read numbered (words_held ws n places) ≡ trees_held ws n places
  held_read = ap (read numbered) held_written ∙ read_again (trees_held ws n places) (all_in_code rows good next (trees_held ws n places) held_fine)

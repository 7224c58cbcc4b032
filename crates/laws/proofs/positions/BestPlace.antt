-- The best candidate is the one at the best place (specs, Places). Assumes nothing.
use Prim.Native.Nat.{ℕ, zero, suc, ◌+◌, ◌<◌}
use native.Mathlib.Omega.{arith}
use mathlib.Core.Path.{◌≡◌, refl, sym, ◌∙◌, ap, ap₂, subst}
use mathlib.Core.Bool.{Bool, true, false, ◌&&◌, ◌||◌}
use mathlib.Core.Option.{Option, none, some}
use mathlib.Core.List.{List, [], ◌∷◌, map}
use lib.ListN.{length, get_or, drop, get_or-map}
use lib.Seq.{drop-cons, drop-length}
use lib.Dec.{T, eqb, ltb}
use Rattle.spec_tree.specs.Tree.{Tree, Op, nil}
use Rattle.spec_tree.specs.Facts.{depth}
use Rattle.spec_tree.specs.Rows.{Row}
use Rattle.spec_tree.specs.Tokens.{read, trees_at, numbered, name_in}
use Rattle.spec_tree.specs.text.Text.{display, before}
use Rattle.spec_tree.proofs.Logic.{and_left}
use Rattle.spec_tree.proofs.TokenLaws.{trees_length, places_are_nodes}
use Rattle.spec_tree.proofs.TokenCode.{unnumbered, renamed as RenamedBy}
use Rattle.spec_cse.specs.Extract.{is_candidate, Candidate, candidate, best}
use Rattle.laws.specs.positions.Names.{is_number, symbols_pass}
use Rattle.laws.specs.positions.Shown.{beats_by, best_from_by, best_by}
use Rattle.laws.specs.positions.Places.{numbered_at, uses_at, savings_at, candidate_at, text_at, beats_at, best_place_from, best_place}
use Rattle.laws.proofs.positions.Renaming.{renamed, Known}
use Rattle.laws.proofs.positions.Choosing.{renamed_candidate, candidate_renamed}
use Rattle.laws.proofs.positions.Extraction.{AgreeBest, best_renamed}
use Rattle.laws.proofs.positions.Reading.{trees_at_renamed}
use Rattle.laws.proofs.positions.RowNames.{names_of, words_known, words_renamed}

abbrev pub if_some : {A B : Type 0} → (A → B) → Option A → Option B
if_some f none = none
if_some f (some a) = some (f a)

module _ (ws : List ℕ) (name_at : ℕ → List ℕ) where
  abbrev pub text_of : Tree → List ℕ
  text_of t = display (RenamedBy unnumbered name_at t)

  -- the tree of a place, read with the names, is the one read with numbers, renamed
  pub named_at : (i : ℕ) → get_or (trees_at name_at ws) i (Op 0 nil) ≡ RenamedBy unnumbered name_at (get_or (trees_at numbered ws) i (Op 0 nil))
  named_at i =
      let e : RenamedBy unnumbered name_at (Op 0 nil) ≡ Op 0 nil = (unfold RenamedBy in refl) in
      ap (λ (l : List Tree). get_or l i (Op 0 nil)) (trees_at_renamed name_at ws)
      ∙ ap (λ (d : Tree). get_or (map (RenamedBy unnumbered name_at) (trees_at numbered ws)) i d) (sym e)
      ∙ get_or-map (RenamedBy unnumbered name_at) (trees_at numbered ws) i (Op 0 nil)

  -- the text of a place is that of its tree under the names
  pub text_at_is : (i : ℕ) → text_at ws name_at i ≡ text_of (numbered_at ws i)
  unfolding text_at numbered_at
  text_at_is i = ap display (named_at i)

  -- the candidate at a place
  abbrev pub there : ℕ → Candidate
  there i = candidate (read numbered ws) (numbered_at ws i)

  pub candidate_at_is : (scoped : Bool) (i : ℕ) → candidate_at ws scoped i ≡ is_candidate scoped (read numbered ws) (numbered_at ws i)
  unfolding candidate_at uses_at is_candidate
  candidate_at_is scoped i = refl

  beats_at_is : (i j : ℕ) → beats_at ws name_at i j ≡ beats_by text_of (there i) (there j)
  unfolding beats_at savings_at uses_at beats_by candidate
  beats_at_is i j =
      ap₂
      (λ (s t : List ℕ).
      ltb (savings_at ws i) (savings_at ws j)
      || (eqb (savings_at ws i) (savings_at ws j)
      && (ltb (depth (numbered_at ws i)) (depth (numbered_at ws j)) || (eqb (depth (numbered_at ws i)) (depth (numbered_at ws j)) && before s t))))
      (text_at_is i) (text_at_is j)

  place_step :
      (b c : Bool) → c ≡ b → (p q : Option Candidate) (r s : Option ℕ) → p ≡ if_some there r → q ≡ if_some there s
      → ◌≡◌ {A = Option Candidate} (elim b [ true ↦ p | false ↦ q ]) (if_some there (elim c [ true ↦ r | false ↦ s ]))
  place_step b c e p q r s h g = rw e (go b)
    where
      go : (b : Bool) → ◌≡◌ {A = Option Candidate} (elim b [ true ↦ p | false ↦ q ]) (if_some there (elim b [ true ↦ r | false ↦ s ]))
      go true = h
      go false = g

  -- places from i on are the trees from the i-th on
  here : (i n : ℕ) → i + suc n ≡ length ws → drop i (trees_at numbered ws) ≡ numbered_at ws i ∷ drop (suc i) (trees_at numbered ws)
  unfolding numbered_at
  here i n e = drop-cons (trees_at numbered ws) i (Op 0 nil) (omega (arith, trees_length numbered ws))

  past_end : (i : ℕ) → i + 0 ≡ length ws → drop i (trees_at numbered ws) ≡ []
  past_end i e =
      let z : i ≡ length (trees_at numbered ws) = omega (arith, trees_length numbered ws) in
      ap (λ (k : ℕ). drop k (trees_at numbered ws)) z ∙ drop-length (trees_at numbered ws)

  best_from_place :
      (scoped : Bool) (o : Option ℕ) (i n : ℕ) → i + n ≡ length ws
      → best_from_by text_of scoped (read numbered ws) (if_some there o) (drop i (trees_at numbered ws)) ≡ if_some there (best_place_from ws name_at scoped o i n)
  unfolding best_from_by best_place_from
  best_from_place scoped none i zero e = ap (best_from_by text_of scoped (read numbered ws) none) (past_end i e)
  best_from_place scoped (some a) i zero e = ap (best_from_by text_of scoped (read numbered ws) (some (there a))) (past_end i e)
  best_from_place scoped none i (suc n) e =
      let k : suc i + n ≡ length ws = omega arith in
      let rs = read numbered ws in
      let l = drop (suc i) (trees_at numbered ws) in
      ap (best_from_by text_of scoped rs none) (here i n e)
      ∙ place_step (is_candidate scoped rs (numbered_at ws i)) (candidate_at ws scoped i) (candidate_at_is scoped i) (best_from_by text_of scoped rs (some (there i)) l)
      (best_from_by text_of scoped rs none l) (best_place_from ws name_at scoped (some i) (suc i) n) (best_place_from ws name_at scoped none (suc i) n)
      (best_from_place scoped (some i) (suc i) n k) (best_from_place scoped none (suc i) n k)
  best_from_place scoped (some a) i (suc n) e =
      let k : suc i + n ≡ length ws = omega arith in
      let rs = read numbered ws in
      let l = drop (suc i) (trees_at numbered ws) in
      ap (best_from_by text_of scoped rs (some (there a))) (here i n e)
      ∙ place_step (is_candidate scoped rs (numbered_at ws i) && beats_by text_of (there a) (there i)) (candidate_at ws scoped i && beats_at ws name_at a i)
      (ap₂ ◌&&◌ (candidate_at_is scoped i) (beats_at_is a i)) (best_from_by text_of scoped rs (some (there i)) l) (best_from_by text_of scoped rs (some (there a)) l)
      (best_place_from ws name_at scoped (some i) (suc i) n) (best_place_from ws name_at scoped (some a) (suc i) n) (best_from_place scoped (some i) (suc i) n k)
      (best_from_place scoped (some a) (suc i) n k)

  pub best_by_place : (scoped : Bool) → best_by text_of scoped (read numbered ws) ≡ if_some there (best_place ws name_at scoped)
  unfolding best_by best_place
  best_by_place scoped =
      ap (best_from_by text_of scoped (read numbered ws) none) (sym (places_are_nodes numbered ws)) ∙ best_from_place scoped none 0 (length ws) (omega arith)

  -- ---- the best place is a place of a candidate

  abbrev pub Best : Bool → Option ℕ → Type 0
  Best scoped none = Unit {0}
  Best scoped (some p) = (p < length ws) × T (candidate_at ws scoped p)

  best_place_step : (scoped : Bool) (b : Bool) (r s : Option ℕ) → (T b → Best scoped r) → Best scoped s → Best scoped (elim b [ true ↦ r | false ↦ s ])
  best_place_step scoped true r s h g = h tt
  best_place_step scoped false r s h g = g

  best_place_from_is : (scoped : Bool) (o : Option ℕ) (i n : ℕ) → i + n ≡ length ws → Best scoped o → Best scoped (best_place_from ws name_at scoped o i n)
  unfolding best_place_from
  best_place_from_is scoped none i zero e h = h
  best_place_from_is scoped (some a) i zero e h = h
  best_place_from_is scoped none i (suc n) e h =
      best_place_step scoped (candidate_at ws scoped i) (best_place_from ws name_at scoped (some i) (suc i) n) (best_place_from ws name_at scoped none (suc i) n)
      (λ t. best_place_from_is scoped (some i) (suc i) n (omega arith) (omega arith, t)) (best_place_from_is scoped none (suc i) n (omega arith) h)
  best_place_from_is scoped (some a) i (suc n) e h =
      best_place_step scoped (candidate_at ws scoped i && beats_at ws name_at a i) (best_place_from ws name_at scoped (some i) (suc i) n)
      (best_place_from ws name_at scoped (some a) (suc i) n)
      (λ t. best_place_from_is scoped (some i) (suc i) n (omega arith) (omega arith, and_left (candidate_at ws scoped i) (beats_at ws name_at a i) t))
      (best_place_from_is scoped (some a) (suc i) n (omega arith) h)

  pub best_place_is : (scoped : Bool) → Best scoped (best_place ws name_at scoped)
  unfolding best_place
  best_place_is scoped = best_place_from_is scoped none 0 (length ws) (omega arith) tt

-- ---- for the names of rows

module _ (rows : List Row) (ws : List ℕ) (h : T (symbols_pass (is_number rows) ws)) where
  pub best_place_agrees : (scoped : Bool) → AgreeBest (names_of rows) (if_some (there ws (name_in rows)) (best_place ws (name_in rows) scoped)) (best scoped (read (name_in rows) ws))
  best_place_agrees scoped =
      subst (λ (l : List Tree). AgreeBest (names_of rows) (if_some (there ws (name_in rows)) (best_place ws (name_in rows) scoped)) (best scoped l)) (sym (words_renamed rows ws))
      (subst (λ (o : Option Candidate). AgreeBest (names_of rows) o (best scoped (map (renamed (names_of rows)) (read numbered ws)))) (best_by_place ws (name_in rows) scoped)
      (best_renamed (names_of rows) scoped (read numbered ws) (words_known rows ws h)))

  -- the candidate at a place, under the names
  abbrev pub named_there : ℕ → Candidate
  named_there i = candidate (read (name_in rows) ws) (get_or (trees_at (name_in rows) ws) i (Op 0 nil))

  named_there_is : (i : ℕ) → Known (names_of rows) (numbered_at ws i) → renamed_candidate (names_of rows) (there ws (name_in rows) i) ≡ named_there i
  unfolding numbered_at
  named_there_is i k =
      let R = names_of rows in
      sym (candidate_renamed R (read numbered ws) (get_or (trees_at numbered ws) i (Op 0 nil)) (words_known rows ws h) k)
      ∙ ap₂ candidate (sym (words_renamed rows ws)) (sym (named_at ws (name_in rows) i))

  pub best_at_place : (scoped : Bool) → best scoped (read (name_in rows) ws) ≡ if_some named_there (best_place ws (name_in rows) scoped)
  unfolding candidate
  best_at_place scoped = go (best_place ws (name_in rows) scoped) (best scoped (read (name_in rows) ws)) (best_place_agrees scoped)
    where
      go : (o : Option ℕ) (u : Option Candidate) → AgreeBest (names_of rows) (if_some (there ws (name_in rows)) o) u → u ≡ if_some named_there o
      go none none a = refl
      go none (some y) a = absurd a
      go (some i) none a = absurd a
      go (some i) (some y) a = ap some (sym a.1 ∙ named_there_is i a.0)

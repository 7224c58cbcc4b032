-- A statement's rows are read into its binding, case by case (Bindings). Assumes nothing.
use Rattle.std.specs.Prelude.{Some}
use Prim.Native.Nat.{ℕ, suc, ◌+◌, ◌-◌, ◌/◌, ◌%◌, ◌≤◌, ◌<◌}
use native.Mathlib.Omega.{arith}
use native.Mathlib.Numerals.{add-one}
use mathlib.Core.Path.{◌≡◌, refl, sym, ap, ◌∙◌}
use mathlib.Core.Bool.{Bool, false}
use mathlib.Core.List.{List}
use borrow.Author.Tests.{eq-eqb, ne_eqb}
use lib.ListN.{length, get_or, drop, drop_of_length-le}
use lib.Seq.{drop-cons}
use lib.Dec.{eqb}
use Rattle.spec_tree.specs.Tree.{Name, Tree}
use Rattle.spec_tree.specs.Rows.{Row}
use Rattle.spec_tree.specs.Tokens.{tokens, number_in, name_code, run_at}
use Rattle.words.specs.tokens.Answers.{end_answer, There}
use Rattle.spec_cse.specs.Answer.{Intermediate, Arms}
use Rattle.spec_cse.specs.Answer as answer
use Rattle.spec_cse.specs.Read.{arm_count}
use Rattle.print.specs.told.Places.{StmtAt, names_ahead}
use Rattle.print.proofs.told.PlaceLaws.{tree_run, at_room, let_code}
use Rattle.print.proofs.told.PartLaws.{Switches, by_sign, by_index, by_default, let_parts, MatchParts, match_parts}
use Rattle.print.specs.answerwriter.Bindings.{switch_by, binding_of}
use Rattle.print.specs.declared.answerwriter.Switch.{Switch}
use Rattle.print.specs.declared.answerwriter.Switch.TheVariants.{Index, Sign}
use Rattle.print.specs.declared.answerwriter.Binding.TheVariants.{Let, Match}

-- ---- the names ahead, counted

module _ (ws : List ℕ) (at : ℕ) where
  -- i - at names were met
  abbrev pub NamesMet : ℕ → Type 0
  NamesMet i = (at ≤ i) × (i ≤ length ws) × (at + names_ahead (drop at ws) ≡ i + names_ahead (drop i ws))

  one_ahead : (i : ℕ) → i < length ws → get_or ws i 0 % 64 ≡ 33 → names_ahead (drop i ws) ≡ suc (names_ahead (drop (suc i) ws))
  unfolding names_ahead
  one_ahead i h e = ap names_ahead (drop-cons ws i 0 h) ∙ rw (eq-eqb (get_or ws i 0 % 64) 33 e)

  none_ahead : (i : ℕ) → i < length ws → (get_or ws i 0 % 64 ≡ 33 → ⊥) → names_ahead (drop i ws) ≡ 0
  unfolding names_ahead
  none_ahead i h e = ap names_ahead (drop-cons ws i 0 h) ∙ rw (ne_eqb (get_or ws i 0 % 64) 33 e)

  pub met_turn : (i : ℕ) → NamesMet i → i < length ws → get_or ws i 0 % 64 ≡ 33 → NamesMet (i + 1)
  met_turn i m h e =
      let n = one_ahead i h e in
      let a : names_ahead (drop (suc i) ws) ≡ names_ahead (drop (i + 1) ws) = ap (λ (j : ℕ). names_ahead (drop j ws)) (sym (add-one i)) in
      (omega (arith, m.0), omega arith, omega (arith, m.2, n, a))

  pub met_other : (i : ℕ) → NamesMet i → i < length ws → (get_or ws i 0 % 64 ≡ 33 → ⊥) → i ≡ at + names_ahead (drop at ws)
  met_other i m h e = omega (arith, m.2, none_ahead i h e)

  pub met_past : (i : ℕ) → NamesMet i → length ws ≤ i → i ≡ at + names_ahead (drop at ws)
  met_past i m h =
      let n : names_ahead (drop i ws) ≡ 0 = ap names_ahead (drop_of_length-le ws {i = i} h) ∙ (unfold names_ahead in refl) in
      omega (arith, m.2, n)

-- ---- a statement's first row

module _ (rows : List Row) (ws : List ℕ) (at : ℕ) where
  abbrev number : List ℕ → ℕ
  number = number_in rows

  pub stmt_inside : (s : Intermediate) → StmtAt rows ws at s → at < length ws
  stmt_inside (answer.Let n e) h = (let_parts rows ws n e at h).inside
  stmt_inside (answer.Match k key ns arms) h = (match_parts rows ws k key ns arms at h).inside

  pub let_read : (s : Intermediate) → StmtAt rows ws at s → get_or ws at 0 % 64 ≡ 29 → Let (get_or ws at 0 / 64) (at + 1) ≡ binding_of number at s
  unfolding binding_of
  let_read (answer.Let n e) h k =
      let p = let_parts rows ws n e at h in
      let c : get_or ws at 0 / 64 ≡ name_code number n = p.code ∙ (sym (let_code rows p.made) ∙ ap (name_code number) (sym p.name)) in
      ap (λ (x : ℕ). Let x (at + 1)) c
  let_read (answer.Match j key ns arms) h k = absurd (no j (match_parts rows ws j key ns arms at h).switch (sym (match_parts rows ws j key ns arms at h).kind ∙ k))
    where
      no : (j : ℕ) → Switches j → j + 4 ≡ 29 → ⊥
      no j (by_sign e) f = omega arith
      no j (by_index e) f = omega arith
      no j (by_default e) f = omega arith

  -- what is known of a match whose key ends at `first`
  pub record KeyEnds (first : ℕ) : Type 0 where
    pub inside : first ≤ length ws
    pub counted : suc (names_ahead (drop first ws)) ≤ get_or ws at 0 / 64

  key_end : (k : ℕ) (key : Tree) (ns : List Name) (arms : Arms) (first : ℕ) → MatchParts rows ws k key ns arms at → Some first ≡ end_answer (at + 1) (run_at ws (at + 1)) → first ≡ at + 1 + length (tokens number key)
  unfolding end_answer
  key_end k key ns arms first p e =
      let f : Some first ≡ Some (at + 1 + length (tokens number key)) = e ∙ ap (end_answer (at + 1)) (tree_run rows ws key p.key_here) in
      cc

  pub key_ends : (s : Intermediate) (first : ℕ) → StmtAt rows ws at s → (get_or ws at 0 % 64 ≡ 29 → ⊥) → Some first ≡ end_answer (at + 1) (run_at ws (at + 1)) → KeyEnds first
  key_ends (answer.Let n e) first h k f = absurd (k (let_parts rows ws n e at h).kind)
  key_ends (answer.Match j key ns arms) first h k f =
      let p = match_parts rows ws j key ns arms at h in
      let e = key_end j key ns arms first p f in
      let r = at_room (tokens number key) p.key_here.here in
      let a : names_ahead (drop first ws) ≡ length ns = ap (λ (x : ℕ). names_ahead (drop x ws)) e ∙ p.ahead in
      record { inside = omega (arith, e, r, p.inside); counted = omega (arith, a, p.below) }

  pub key_there : (s : Intermediate) → StmtAt rows ws at s → (get_or ws at 0 % 64 ≡ 29 → ⊥) → There ws (at + 1)
  key_there (answer.Let n e) h k = absurd (k (let_parts rows ws n e at h).kind)
  key_there (answer.Match j key ns arms) h k = (length (tokens number key), tree_run rows ws key (match_parts rows ws j key ns arms at h).key_here)

  module _ (first after bound count : ℕ) (e : Some first ≡ end_answer (at + 1) (run_at ws (at + 1))) (f : after ≡ first + names_ahead (drop first ws)) (b : bound ≡ after - first) (c : count ≡ get_or ws at 0 / 64 - 1 - bound) where
    counts : (k : ℕ) (key : Tree) (ns : List Name) (arms : Arms) → MatchParts rows ws k key ns arms at → (first ≡ at + 1 + length (tokens number key)) × (bound ≡ length ns) × (count ≡ arm_count arms)
    counts k key ns arms p =
        let g = key_end k key ns arms first p e in
        let a : names_ahead (drop first ws) ≡ length ns = ap (λ (x : ℕ). names_ahead (drop x ws)) g ∙ p.ahead in
        (g, omega (arith, f, b, a), omega (arith, f, b, c, a, p.below))

    made : (k : ℕ) (key : Tree) (ns : List Name) (arms : Arms) → MatchParts rows ws k key ns arms at → (sw : Switch) (d : Bool) → sw ≡ switch_by (eqb k 26) (at + 1) → d ≡ eqb k 28
        → Match sw first bound count d ≡ binding_of number at (answer.Match k key ns arms)
    unfolding binding_of
    made k key ns arms p sw d x y =
        let q = counts k key ns arms p in
        ap (λ (s : Switch). Match s first bound count d) x
        ∙ (ap (λ (i : ℕ). Match (switch_by (eqb k 26) (at + 1)) i bound count d) q.0
        ∙ (ap (λ (i : ℕ). Match (switch_by (eqb k 26) (at + 1)) (at + 1 + length (tokens number key)) i count d) q.1
        ∙ (ap (λ (i : ℕ). Match (switch_by (eqb k 26) (at + 1)) (at + 1 + length (tokens number key)) (length ns) i d) q.2
        ∙ ap (λ (z : Bool). Match (switch_by (eqb k 26) (at + 1)) (at + 1 + length (tokens number key)) (length ns) (arm_count arms) z) y)))

    pub sign_read : (s : Intermediate) → StmtAt rows ws at s → get_or ws at 0 % 64 ≡ 30 → Match (Sign (at + 1)) first bound count false ≡ binding_of number at s
    sign_read (answer.Let n t) h k = absurd (omega (arith, (let_parts rows ws n t at h).kind))
    sign_read (answer.Match j key ns arms) h k =
        let p = match_parts rows ws j key ns arms at h in
        let z : j ≡ 26 = omega (arith, p.kind) in
        made j key ns arms p (Sign (at + 1)) false (rw (eq-eqb j 26 z) (unfold switch_by in refl)) (rw z)

    pub index_read : (s : Intermediate) (d : Bool) → StmtAt rows ws at s → (get_or ws at 0 % 64 ≡ 29 → ⊥) → (get_or ws at 0 % 64 ≡ 30 → ⊥) → d ≡ eqb (get_or ws at 0 % 64) 32 → Match (Index (at + 1)) first bound count d ≡ binding_of number at s
    index_read (answer.Let n t) d h l k w = absurd (l (let_parts rows ws n t at h).kind)
    index_read (answer.Match j key ns arms) d h l k w =
        let p = match_parts rows ws j key ns arms at h in
        let z : j ≡ 26 → ⊥ = (λ e. k (omega (arith, p.kind, e))) in
        made j key ns arms p (Index (at + 1)) d (rw (ne_eqb j 26 z) (unfold switch_by in refl)) (w ∙ (ap (λ (x : ℕ). eqb x 32) p.kind ∙ same j p.switch))
      where
        same : (j : ℕ) → Switches j → eqb (j + 4) 32 ≡ eqb j 28
        same j (by_sign e) = rw e
        same j (by_index e) = rw e
        same j (by_default e) = rw e

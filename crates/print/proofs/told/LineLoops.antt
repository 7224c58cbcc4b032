-- What the loops over an answer's bindings and over its results keep (Writers). Assumes nothing.
use Prim.Native.Nat.{ℕ, ◌+◌, ◌≤◌, ◌<◌, min}
use native.Mathlib.Omega.{arith}
use mathlib.Core.Path.{◌≡◌, refl, sym, ap, ◌∙◌, subst}
use mathlib.Core.Bool.{Bool, true, false, not}
use mathlib.Core.List.{List, [], ◌∷◌, ◌++◌}
use borrow.Author.Tests.{eq-eqb, ne_eqb}
use lib.ListN.{length, get_or, drop, drop_of_length-le}
use lib.Seq.{drop-cons}
use lib.Dec.{T, eqb}
use Rattle.spec_tree.specs.Tree.{Tree}
use Rattle.spec_tree.specs.Rows.{Row}
use Rattle.spec_tree.specs.Tokens.{tokens, number_in}
use Rattle.spec_tree.specs.text.Text.{display}
use Rattle.spec_cse.specs.Answer.{Intermediate, Intermediates, Answer, Let, Match, end, step, displays, stmt_text, stmts_texts, lines, answer_text}
use Rattle.spec_cse.specs.AnswerRows.{result_row, each_words, intermediate_words, intermediates_words, answer_words, intermediates_ok}
use Rattle.laws.specs.answer.Fitting.{stmts_fitting, numbered_in}
use Rattle.fmt.specs.emit.Writing.{Writes}
use Rattle.fmt.proofs.emit.WriteLaws.{writes_none}
use Rattle.print.specs.told.Places.{At, TreeAt, ValuesAt, StmtAt, Owes}
use Rattle.print.specs.told.Writers.{TreeWritten, StmtWritten, AnswerAt, ResultsAt, statement_ahead}
use Rattle.print.proofs.told.PieceLaws.{stmts_cons, stmts_none}
use Rattle.print.proofs.told.PlaceLaws.{each_none, value_in, value_row_is, value_tree, value_others, value_words}
use Rattle.print.proofs.told.PartLaws.{Switches, by_sign, by_index, by_default, let_parts, match_parts, first_stmt, stmts_pass, stmts_fit, after_stmt, stmt_length}
use Rattle.print.proofs.told.LoopLaws.{owes_all, owes_less, owes_as, displays_cons}

lines_cons : (s : List ℕ) (l : List (List ℕ)) → lines (s ∷ l) ≡ s ++ (10 ∷ lines l)
unfolding lines
lines_cons s l = refl

-- ---- results

module _ (rows : List Row) (ws : List ℕ) (dry : Bool) (old : List ℕ) (to : ℕ) (vs : List Tree) where
  abbrev number : List ℕ → ℕ
  number = number_in rows

  pub record ResultsLeft (next : ℕ) (mid : List ℕ) (place : ℕ) : Type 0 where
    pub rest : List Tree
    pub left : ResultsAt rows ws next rest
    pub owes : Owes dry old to (lines (displays vs)) mid place (lines (displays rest))

  module _ {next : ℕ} {mid : List ℕ} {place : ℕ} (v : ResultsLeft next mid place) where
    pub results_next : next < length ws → (t : Tree) × TreeAt rows ws (next + 1) t
    results_next h = go v.rest v.left
      where
        go : (l : List Tree) → ResultsAt rows ws next l → (t : Tree) × TreeAt rows ws (next + 1) t
        go [] g = absurd (omega (arith, g.last, ap length (each_none rows result_row)))
        go (t ∷ l) g = (t, value_tree rows ws t l g.here)

    pub results_turn :
        {mid1 mid2 : List ℕ} {next1 place1 place2 : ℕ} → next < length ws → TreeWritten rows ws (next + 1) dry mid place mid1 next1 place1 → Writes dry mid1 place1 (10 ∷ []) mid2 place2
        → ResultsLeft next1 mid2 place2 × (next < next1)
    results_turn {mid1} {mid2} {next1} {place1} {place2} h t w = go v.rest v.left v.owes
      where
        go : (l : List Tree) → ResultsAt rows ws next l → Owes dry old to (lines (displays vs)) mid place (lines (displays l)) → ResultsLeft next1 mid2 place2 × (next < next1)
        go [] g o = absurd (omega (arith, g.last, ap length (each_none rows result_row)))
        go (x ∷ l) g o =
            let q = t x (value_tree rows ws x l g.here) in
            let e : next + 1 + length (tokens number x) ≡ next1 = sym q.token in
            let more = lines (displays l) in
            let y : lines (displays (x ∷ l)) ≡ display x ++ (10 ∷ more) = ap lines (displays_cons x l) ∙ lines_cons (display x) (displays l) in (
              record {
                rest = l;
                left = record {
                  here = subst (λ (j : ℕ). ValuesAt rows ws result_row (length l) j l) e (value_others rows ws x l g.here);
                  last = omega (arith, e, value_words rows ws x l g.here, g.last);
                };
                owes = owes_less (10 ∷ []) more (owes_less (display x) (10 ∷ more) (owes_as (lines (displays (x ∷ l))) (display x ++ (10 ∷ more)) y o) q.written) w;
              },
              omega arith,
            )

    pub results_end : {e : ℕ} → length ws ≤ next → e ≡ min place (length mid + 1) → Writes dry old to (lines (displays vs)) mid e
    results_end {e} h p = go v.rest v.left v.owes
      where
        none : lines (displays []) ≡ []
        none = unfold displays in (unfold lines in refl)

        go : (l : List Tree) → ResultsAt rows ws next l → Owes dry old to (lines (displays vs)) mid place (lines (displays l)) → Writes dry old to (lines (displays vs)) mid e
        go [] g o = owes_as (lines (displays [])) [] none o mid e (writes_none p)
        go (x ∷ l) g o = absurd (omega (arith, value_in rows ws x l g.here))

-- ---- bindings

module _ (rows : List Row) (ws : List ℕ) where
  stmt_row_is : (at : ℕ) (s : Intermediate) → StmtAt rows ws at s → (at < length ws) × (get_or ws at 0 ≡ 36 → ⊥)
  stmt_row_is at (Let n e) h = let p = let_parts rows ws n e at h in (p.inside, λ q. omega (arith, p.kind))
  stmt_row_is at (Match k key ns arms) h =
      let p = match_parts rows ws k key ns arms at h in
      (p.inside, λ q. no k p.switch (omega (arith, p.kind)))
    where
      no : (k : ℕ) → Switches k → k + 4 ≡ 36 → ⊥
      no k (by_sign e) f = omega arith
      no k (by_index e) f = omega arith
      no k (by_default e) f = omega arith

  stmt_some : (at : ℕ) (s : Intermediate) → StmtAt rows ws at s → 1 ≤ length (intermediate_words (number_in rows) s)
  stmt_some at (Let n e) h = omega (arith, (let_parts rows ws n e at h).words)
  stmt_some at (Match k key ns arms) h = omega (arith, (match_parts rows ws k key ns arms at h).words)

  pub ahead_is : (at : ℕ) → at < length ws → statement_ahead (drop at ws) ≡ not (eqb (get_or ws at 0) 36)
  ahead_is at h = ap statement_ahead (drop-cons ws at 0 h) ∙ (unfold statement_ahead in refl)

  pub ahead_past : (at : ℕ) → length ws ≤ at → statement_ahead (drop at ws) ≡ false
  ahead_past at h = ap statement_ahead (drop_of_length-le ws {i = at} h) ∙ (unfold statement_ahead in refl)

  stmt_ahead : (at : ℕ) (s : Intermediate) → StmtAt rows ws at s → statement_ahead (drop at ws) ≡ true
  stmt_ahead at s h =
      let p = stmt_row_is at s h in
      ahead_is at p.0 ∙ ap not (ne_eqb (get_or ws at 0) 36 p.1)

  results_ahead : (at : ℕ) (vs : List Tree) → ResultsAt rows ws at vs → statement_ahead (drop at ws) ≡ false
  results_ahead at [] h = ahead_past at (omega (arith, h.last, ap length (each_none rows result_row)))
  results_ahead at (t ∷ l) h = ahead_is at (value_in rows ws t l h.here) ∙ ap not (eq-eqb (get_or ws at 0) 36 (value_row_is rows ws t l h.here))

  clash : (b : Bool) → b ≡ true → b ≡ false → ⊥
  clash true e f = let z : ◌≡◌ {A = ℕ} 0 1 = cc in omega arith
  clash false e f = let z : ◌≡◌ {A = ℕ} 0 1 = cc in omega arith

  module _ (dry : Bool) (old : List ℕ) (to : ℕ) (a : Answer) where
    abbrev results : List ℕ
    results = each_words (number_in rows) result_row a.results

    pub record BindingsLeft (next : ℕ) (mid : List ℕ) (place : ℕ) : Type 0 where
      pub rest : Intermediates
      pub passes : T (intermediates_ok rest)
      pub fits : T (stmts_fitting (numbered_in rows) rest)
      pub here : At ws next (intermediates_words (number_in rows) rest ++ results)
      pub last : next + length (intermediates_words (number_in rows) rest ++ results) ≡ length ws
      pub owes : Owes dry old to (answer_text a) mid place (lines (stmts_texts rest ++ displays a.results))

    words_are : answer_words (number_in rows) a ≡ intermediates_words (number_in rows) a.inters ++ results
    unfolding answer_words
    words_are = refl

    text_is : answer_text a ≡ lines (stmts_texts a.inters ++ displays a.results)
    unfolding answer_text
    text_is = refl

    append_nil : (l : List ℕ) → l ++ [] ≡ l
    append_nil [] = refl
    append_nil (w ∷ l) = ap (λ (r : List ℕ). w ∷ r) (append_nil l)

    pub bindings_begin : AnswerAt rows ws a → BindingsLeft 0 old to
    bindings_begin h =
        let e = h.words ∙ words_are in
        record {
          rest = a.inters;
          passes = h.parts;
          fits = h.parts_fit;
          here = record { rest = []; words = e ∙ sym (append_nil (intermediates_words (number_in rows) a.inters ++ results)) };
          last = omega (arith, ap length e);
          owes = owes_all (lines (stmts_texts a.inters ++ displays a.results)) text_is;
        }

    module _ {next : ℕ} {mid : List ℕ} {place : ℕ} (h : AnswerAt rows ws a) (v : BindingsLeft next mid place) where
      only_results : (l : Intermediates) → l ≡ end → At ws next (intermediates_words (number_in rows) l ++ results) → next + length (intermediates_words (number_in rows) l ++ results) ≡ length ws
          → ResultsAt rows ws next a.results
      only_results l e g k =
          let none : intermediates_words (number_in rows) l ++ results ≡ results = ap (λ (x : Intermediates). intermediates_words (number_in rows) x ++ results) e ∙ (unfold intermediates_words in refl) in
          record {
            here = record { count = refl; passes = h.results; fits = h.results_fit; here = subst (At ws next) none g };
            last = subst (λ (x : List ℕ). next + length x ≡ length ws) none k;
          }

      pub bindings_next : statement_ahead (drop next ws) ≡ true → (s : Intermediate) × StmtAt rows ws next s
      bindings_next t = go v.rest refl v.passes v.fits v.here v.last
        where
          go : (l : Intermediates) → v.rest ≡ l → T (intermediates_ok l) → T (stmts_fitting (numbered_in rows) l) → At ws next (intermediates_words (number_in rows) l ++ results)
              → next + length (intermediates_words (number_in rows) l ++ results) ≡ length ws → (s : Intermediate) × StmtAt rows ws next s
          go end e p f g k = absurd (clash (statement_ahead (drop next ws)) t (results_ahead next a.results (only_results end refl g k)))
          go (step s l) e p f g k = (s, first_stmt rows ws s l results p f g)

      pub bindings_turn :
          {mid1 mid2 : List ℕ} {next1 place1 place2 : ℕ} → statement_ahead (drop next ws) ≡ true → StmtWritten rows ws next dry mid place mid1 next1 place1 → Writes dry mid1 place1 (10 ∷ []) mid2 place2
          → BindingsLeft next1 mid2 place2 × (next < length ws) × (next < next1)
      bindings_turn {mid1} {mid2} {next1} {place1} {place2} t s w = go v.rest v.passes v.fits v.here v.last v.owes
        where
          go : (l : Intermediates) → T (intermediates_ok l) → T (stmts_fitting (numbered_in rows) l) → At ws next (intermediates_words (number_in rows) l ++ results)
              → next + length (intermediates_words (number_in rows) l ++ results) ≡ length ws → Owes dry old to (answer_text a) mid place (lines (stmts_texts l ++ displays a.results))
              → BindingsLeft next1 mid2 place2 × (next < length ws) × (next < next1)
          go end p f g k o = absurd (clash (statement_ahead (drop next ws)) t (results_ahead next a.results (only_results end refl g k)))
          go (step x l) p f g k o =
              let first = first_stmt rows ws x l results p f g in
              let q = s x first in
              let e : next + length (intermediate_words (number_in rows) x) ≡ next1 = sym q.token in
              let more = lines (stmts_texts l ++ displays a.results) in
              let y : lines (stmts_texts (step x l) ++ displays a.results) ≡ stmt_text x ++ (10 ∷ more) =
              ap (λ (d : List (List ℕ)). lines (d ++ displays a.results)) (stmts_cons x l) ∙ lines_cons (stmt_text x) (stmts_texts l ++ displays a.results) in (
                record {
                  rest = l;
                  passes = stmts_pass rows ws x l results p f g;
                  fits = stmts_fit rows ws x l results p f g;
                  here = subst (λ (j : ℕ). At ws j (intermediates_words (number_in rows) l ++ results)) e (after_stmt rows ws x l results p f g);
                  last = omega (arith, stmt_length rows ws x l results p f g);
                  owes = owes_less (10 ∷ []) more (owes_less (stmt_text x) (10 ∷ more) (owes_as (lines (stmts_texts (step x l) ++ displays a.results)) (stmt_text x ++ (10 ∷ more)) y o) q.written) w;
                },
                (stmt_row_is next x first).0,
                omega (arith, stmt_some next x first),
              )

      pub bindings_end : statement_ahead (drop next ws) ≡ false → ResultsAt rows ws next a.results × Owes dry old to (answer_text a) mid place (lines (displays a.results))
      bindings_end t = go v.rest v.passes v.fits v.here v.last v.owes
        where
          none : lines (stmts_texts end ++ displays a.results) ≡ lines (displays a.results)
          none = ap (λ (d : List (List ℕ)). lines (d ++ displays a.results)) stmts_none

          go : (l : Intermediates) → T (intermediates_ok l) → T (stmts_fitting (numbered_in rows) l) → At ws next (intermediates_words (number_in rows) l ++ results)
              → next + length (intermediates_words (number_in rows) l ++ results) ≡ length ws → Owes dry old to (answer_text a) mid place (lines (stmts_texts l ++ displays a.results))
              → ResultsAt rows ws next a.results × Owes dry old to (answer_text a) mid place (lines (displays a.results))
          go end p f g k o = (only_results end refl g k, owes_as (lines (stmts_texts end ++ displays a.results)) (lines (displays a.results)) none o)
          go (step x l) p f g k o = absurd (clash (statement_ahead (drop next ws)) (stmt_ahead next x (first_stmt rows ws x l results p f g)) t)

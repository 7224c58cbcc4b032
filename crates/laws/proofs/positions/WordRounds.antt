-- Rounds on words are rounds on the trees that the words are, and so are whole scopes (specs, Rounds). Assumes nothing.
use Prim.Native.Nat.{ℕ, zero, suc, ◌<◌}
use mathlib.Core.Path.{◌≡◌, refl, sym, ◌∙◌, ap, ap₂, subst}
use mathlib.Core.Bool.{Bool, true, false}
use mathlib.Core.Option.{Option, none, some}
use mathlib.Core.List.{List, []}
use lib.ListN.{length, get_or, drop}
use lib.Dec.{T}
use Rattle.spec_tree.specs.Outcome.{Outcome, ok, ◌>>=◌}
use Rattle.spec_tree.specs.Tree.{Tree}
use Rattle.spec_tree.specs.Facts.{all_operations}
use Rattle.spec_tree.specs.Tokens.{all_tokens, read, numbered, takes, trees_in}
use Rattle.spec_tree.proofs.TokenCode.{coded, all_coded, unnumbered, tokens_complete, writes_back}
use Rattle.spec_cse.specs.Extract.{State, Candidate, candidate}
use Rattle.spec_cse.specs.Scope.{Scoped, unfused, finish, left_after, fuse_held, opens}
use Rattle.laws.proofs.cse.Outcomes.{Good}
use Rattle.laws.specs.positions.Shown.{cse_scope_by}
use Rattle.laws.specs.positions.Places.{numbered_at, best_place}
use Rattle.laws.specs.positions.Rounds.{next_number, state_of, extract_on, rounds_on, reciprocals_on, extract_words, rounds_words, reciprocals_words}
use Rattle.laws.proofs.positions.Rewriting.{Agree, then_agree}
use Rattle.laws.proofs.positions.BestPlace.{if_some, text_of, there, best_by_place, Best, best_place_is}
use Rattle.laws.proofs.positions.RoundsOn.{then_same, flat_on, scoped_on}
use Rattle.laws.proofs.positions.Coded.{is_alone, take_fits, made_alone, read_fits, read_again, extract_on_fits}
use Rattle.laws.proofs.positions.DivisorPlaces.{here_is}
use Rattle.laws.proofs.positions.WordReciprocals.{reciprocals_words_are, reciprocals_fit}
use Rattle.spec_tree.proofs.Outcomes.{then_then}

-- trees within the code, and their words
abbrev pub InCode : List Tree → Type 0
InCode us = T (all_coded is_alone us)

abbrev pub written : List Tree → List ℕ
written us = all_tokens unnumbered us

-- the tree at a place is within the code
pub place_fits : (ws : List ℕ) (m : ℕ) → trees_in ws ≡ some m → (p : ℕ) → p < length ws → T (coded is_alone (numbered_at ws p))
place_fits ws m c p h =
    let rs = read numbered (drop (suc p) ws) in
    let w = get_or ws p 0 in
    subst (λ (t : Tree). T (coded is_alone t)) (sym (here_is ws m c p h)) (made_alone w rs (take_fits is_alone (takes w) rs (read_fits (drop (suc p) ws))))

-- what is written is complete
pub written_complete : (us : List Tree) → InCode us → trees_in (written us) ≡ some (length us)
written_complete us h = tokens_complete unnumbered is_alone us h

-- words that stay are those of the trees read
unchanged : (ws : List ℕ) (m : ℕ) → trees_in ws ≡ some m → Agree InCode written (ok (read numbered ws)) (ok ws)
unfolding Good
unchanged ws m c = (read_fits ws, ap ok (sym (writes_back ws m c)))

extract_words_are :
    (target : Tree) (n : ℕ) (ws : List ℕ) → T (coded is_alone target) → Agree InCode written (extract_on target n (read numbered ws)) (extract_words target n ws)
unfolding extract_words
extract_words_are target n ws h = (extract_on_fits is_alone target n (read numbered ws) h (read_fits ws), refl)

module _ (name_at : ℕ → List ℕ) where
  abbrev text : Tree → List ℕ
  text = text_of [] name_at

  round_words :
      (scoped : Bool) (k first : ℕ) (ws : List ℕ) (m : ℕ) → trees_in ws ≡ some m → (f : List ℕ → Outcome (List ℕ)) (g : List Tree → Outcome (List Tree))
      → ((us : List Tree) → InCode us → Agree InCode written (g us) (f (written us))) → (o : Option ℕ) → Best ws name_at scoped o
      → Agree InCode written
      (elim (if_some (there ws name_at) o) [
        | none ↦ ok (read numbered ws)
        | some c ↦ (extract_on c.tree (next_number k first (read numbered ws)) (read numbered ws) >>= λ us. g us)
      ])
      (elim o [ none ↦ ok ws | some p ↦ (extract_words (numbered_at ws p) (next_number k first (read numbered ws)) ws >>= λ vs. f vs) ])
  unfolding candidate
  round_words scoped k first ws m c f g e none b = unchanged ws m c
  round_words scoped k first ws m c f g e (some p) b =
      let n = next_number k first (read numbered ws) in
      then_agree InCode written InCode written (extract_on (numbered_at ws p) n (read numbered ws)) (extract_words (numbered_at ws p) n ws)
      (extract_words_are (numbered_at ws p) n ws (place_fits ws m c p b.0)) (λ us. g us) (λ vs. f vs) e

  pub rounds_words_are :
      (fuel : ℕ) (scoped : Bool) (k first : ℕ) (ws : List ℕ) (m : ℕ) → trees_in ws ≡ some m
      → Agree InCode written (rounds_on text fuel scoped k first (read numbered ws)) (rounds_words name_at fuel scoped k first ws)
  unfolding rounds_words rounds_on
  rounds_words_are zero scoped k first ws m c = unchanged ws m c
  rounds_words_are (suc fuel) scoped k first ws m c =
      let ts = read numbered ws in
      let from : Option Candidate → Outcome (List Tree) = λ o.
      elim o as (λ _. Outcome (List Tree)) [
        | none ↦ ok ts
        | some c ↦ (extract_on c.tree (next_number k first ts) ts >>= λ us. rounds_on text fuel scoped k first us)
      ] in
      subst (λ (o : Option Candidate). Agree InCode written (from o) (rounds_words name_at (suc fuel) scoped k first ws)) (sym (best_by_place ws name_at scoped))
      (round_words scoped k first ws m c (λ vs. rounds_words name_at fuel scoped k first vs) (λ us. rounds_on text fuel scoped k first us)
      (λ us h.
      subst (λ (l : List Tree). Agree InCode written (rounds_on text fuel scoped k first l) (rounds_words name_at fuel scoped k first (written us))) (read_again us h)
      (rounds_words_are fuel scoped k first (written us) (length us) (written_complete us h)))
      (best_place ws name_at scoped) (best_place_is ws name_at scoped))

  -- ---- scopes

  -- after the rounds: the bindings' count, and the trees with reciprocals bound
  after_rounds : (scoped : Bool) (k first : ℕ) (us : List Tree) → InCode us → read numbered (reciprocals_words name_at scoped k first (written us)) ≡ reciprocals_on text scoped k first us
  after_rounds scoped k first us h =
      let ws = written us in
      let c = written_complete us h in
      ap (read numbered) (reciprocals_words_are name_at scoped k first ws (length us) c)
      ∙ read_again (reciprocals_on text scoped k first (read numbered ws)) (reciprocals_fit name_at scoped k first ws (length us) c)
      ∙ ap (reciprocals_on text scoped k first) (read_again us h)

  ends_same :
      (scoped : Bool) (k first : ℕ) (end : ℕ → State → Outcome Scoped) (o : Outcome (List Tree)) (u : Outcome (List ℕ)) → Agree InCode written o u
      → (o >>= λ us. end (length (drop k us)) (state_of k first (reciprocals_on text scoped k first us)))
      ≡ (u >>= λ vs. end (length (drop k (read numbered vs))) (state_of k first (read numbered (reciprocals_words name_at scoped k first vs))))
  ends_same scoped k first end o u a =
      let real : List ℕ → Outcome Scoped = λ vs. end (length (drop k (read numbered vs))) (state_of k first (read numbered (reciprocals_words name_at scoped k first vs))) in
      sym
      (ap (λ (u : Outcome (List ℕ)). u >>= real) a.1
      ∙ then_then o (λ us. ok (written us)) real
      ∙ then_same InCode o (λ us. real (written us)) (λ us. end (length (drop k us)) (state_of k first (reciprocals_on text scoped k first us))) a.0
      (λ us h. ap₂ end (ap (λ (l : List Tree). length (drop k l)) (read_again us h)) (ap (state_of k first) (after_rounds scoped k first us h))))

  pub flat_words :
      (fuel left next : ℕ) (ws : List ℕ) (m : ℕ) → trees_in ws ≡ some m → let ts = read numbered ws in let k = length ts in
      cse_scope_by text (suc fuel) left false next ts
      ≡ (rounds_words name_at (all_operations ts) false k next ws >>= λ vs.
      finish (unfused (length (drop k (read numbered vs))) (state_of k next (read numbered (reciprocals_words name_at false k next vs)))))
  flat_words fuel left next ws m c =
      let ts = read numbered ws in
      let k = length ts in
      flat_on text fuel left next ts
      ∙ ends_same false k next (λ x s. finish (unfused x s)) (rounds_on text (all_operations ts) false k next ts) (rounds_words name_at (all_operations ts) false k next ws)
      (rounds_words_are (all_operations ts) false k next ws m c)

  pub scoped_words :
      (fuel left next : ℕ) (ws : List ℕ) (m : ℕ) → trees_in ws ≡ some m → opens left next (read numbered ws) ≡ true → let ts = read numbered ws in let k = length ts in
      cse_scope_by text (suc fuel) left true next ts
      ≡ (rounds_words name_at (all_operations ts) true k next ws >>= λ vs.
      let x = length (drop k (read numbered vs)) in
      let s = state_of k next (read numbered (reciprocals_words name_at true k next vs)) in
      fuse_held (λ n l. cse_scope_by text fuel (left_after left x s) true n l) left x s)
  scoped_words fuel left next ws m c e =
      let ts = read numbered ws in
      let k = length ts in
      scoped_on text fuel left next ts e
      ∙ ends_same true k next (λ x s. fuse_held (λ n l. cse_scope_by text fuel (left_after left x s) true n l) left x s)
      (rounds_on text (all_operations ts) true k next ts) (rounds_words name_at (all_operations ts) true k next ws) (rounds_words_are (all_operations ts) true k next ws m c)

-- The places that are switches', and the words of their arms one switch after another. Assumes nothing.
use Rattle.std.specs.Prelude.{Some, None}
use Prim.Native.Nat.{ℕ, zero, suc, ◌+◌, ◌-◌, ◌≤◌, ◌<◌}
use native.Mathlib.Omega.{arith}
use mathlib.Core.Path.{◌≡◌, refl, sym, ◌∙◌, ap, subst}
use mathlib.Core.Bool.{Bool, true, false, ◌&&◌, cond}
use mathlib.Core.Option.{Option, none, some}
use mathlib.Core.List.{List, [], ◌∷◌, ◌++◌}
use borrow.Author.Tests.{ltb-true}
use lib.Dec.{T, ltb}
use lib.ListN.{length, get_or, take, drop, drop_of_length-le}
use Rattle.spec_tree.specs.Facts.{size}
use Rattle.spec_tree.specs.Tokens.{numbered, run_at, trees_in}
use Rattle.spec_tree.proofs.TokenLaws.{run_size}
use Rattle.words.specs.tokens.Answers.{end_answer}
use Rattle.words.specs.words.Words.{some_trees, Complete}
use Rattle.laws.specs.positions.Places.{numbered_at, second_at}
use Rattle.laws.proofs.positions.DivisorPlaces.{enough}
use Rattle.laws.specs.switches.Switches.{switch_at, arm_count, arm_place}
use Rattle.laws.proofs.switches.Parts.{has_key}
use Rattle.laws.proofs.switches.Words.{place_within, past_sizes, ends_within, arms_after, arms_end}
use Rattle.fusion.specs.place.Reads.{with_reads, arms_run, all_arms_run}
use Rattle.spec_tree.specs.Bytes.{every}
use Rattle.fusion.specs.groups.Answers.{switch_stands, all_stand}
use Rattle.fusion.specs.scopeneeds.Marked.{switch_inside, all_switches, arms_there, arms_marked}
use Rattle.fusion.proofs.scopeneeds.Marking.{reads_none, reads_append, reads_long}
use Rattle.spec_tree.proofs.Lists.{place_is}

-- ---- one place

module _ (ws : List ℕ) (q : ℕ) where
  pub inside_both : switch_inside ws q ≡ true → (q < length ws) × (switch_at ws q ≡ true)
  unfolding switch_inside
  inside_both e = go (ltb q (length ws)) (switch_at ws q) refl refl e
    where
      go : (a b : Bool) → ltb q (length ws) ≡ a → switch_at ws q ≡ b → (a && b) ≡ true → (q < length ws) × (switch_at ws q ≡ true)
      go true true f g h = (ltb-true q (length ws) f, g)
      go true false f g h = let z : ◌≡◌ {A = ℕ} 0 1 = cc in absurd (omega arith)
      go false b f g h = let z : ◌≡◌ {A = ℕ} 0 1 = cc in absurd (omega arith)

-- ---- all places

every_by : (ws : List ℕ) (q : ℕ) (l : List ℕ) (b : Bool) → switch_inside ws q ≡ b → all_switches ws (q ∷ l) ≡ (b && all_switches ws l)
unfolding all_switches
every_by ws q l b e = ap (λ (c : Bool). c && all_switches ws l) e

-- the test that groups are made by is the same
pub stand_switches : (ws l : List ℕ) → all_stand ws l ≡ all_switches ws l
unfolding all_stand every switch_stands all_switches switch_inside
stand_switches ws [] = refl
stand_switches ws (q ∷ l) = ap (λ (b : Bool). switch_stands ws q && b) (stand_switches ws l)

and_first : (a b : Bool) → (a && b) ≡ true → (a ≡ true) × (b ≡ true)
and_first true b e = (refl, e)
and_first false b e = let z : ◌≡◌ {A = ℕ} 0 1 = cc in absurd (omega arith)

pub switches_at : (ws group : List ℕ) (i : ℕ) → all_switches ws group ≡ true → i < length group → switch_inside ws (get_or group i 0) ≡ true
switches_at ws [] i e h = absurd (omega arith)
switches_at ws (q ∷ l) zero e h = (and_first (switch_inside ws q) (all_switches ws l) (sym (every_by ws q l (switch_inside ws q) refl) ∙ e)).0
switches_at ws (q ∷ l) (suc i) e h = switches_at ws l i (and_first (switch_inside ws q) (all_switches ws l) (sym (every_by ws q l (switch_inside ws q) refl) ∙ e)).1 (omega arith)

-- ---- the arms of one switch

module _ (ws : List ℕ) (q : ℕ) (complete : Complete ws) (here : q < length ws) (switch : switch_at ws q ≡ true) where
  told : T (switch_at ws q)
  told = subst T (sym switch) tt

  pub key_inside : q + 1 < length ws
  key_inside =
      let k = (has_key ws q told).0 in
      let e = enough ws complete.0 complete.1 q here in
      let p = place_within ws (suc q) (omega (arith, k, e)) in
      omega arith

  pub key_stands : run_at ws (q + 1) ≡ some (size (numbered_at ws (q + 1)))
  unfolding numbered_at
  key_stands = run_size numbered ws complete.0 (q + 1) complete.1 key_inside

  whole_stands : run_at ws q ≡ some (size (numbered_at ws q))
  unfolding numbered_at
  whole_stands = run_size numbered ws complete.0 q complete.1 here

  pub key_not_broken : None ≡ end_answer (q + 1) (run_at ws (q + 1)) → ⊥
  unfolding end_answer
  key_not_broken e =
      let p : None ≡ Some (q + 1 + size (numbered_at ws (q + 1))) = e ∙ ap (end_answer (q + 1)) key_stands in
      let z : ◌≡◌ {A = ℕ} 0 1 = cc in
      absurd (omega arith)

  pub whole_not_broken : None ≡ end_answer q (run_at ws q) → ⊥
  unfolding end_answer
  whole_not_broken e =
      let p : None ≡ Some (q + size (numbered_at ws q)) = e ∙ ap (end_answer q) whole_stands in
      let z : ◌≡◌ {A = ℕ} 0 1 = cc in
      absurd (omega arith)

  pub arms_begin : (a : ℕ) → Some a ≡ end_answer (q + 1) (run_at ws (q + 1)) → a ≡ second_at ws q
  unfolding end_answer second_at
  arms_begin a e =
      let p : Some a ≡ Some (q + 1 + size (numbered_at ws (q + 1))) = e ∙ ap (end_answer (q + 1)) key_stands in
      let c : a ≡ q + 1 + size (numbered_at ws (q + 1)) = cc in
      let i : q + 1 ≡ suc q = omega arith in
      c ∙ ap (λ (x : ℕ). x + size (numbered_at ws x)) i

  pub arms_stop : (e : ℕ) → Some e ≡ end_answer q (run_at ws q) → e ≡ q + size (numbered_at ws q)
  unfolding end_answer
  arms_stop e h =
      let p : Some e ≡ Some (q + size (numbered_at ws q)) = h ∙ ap (end_answer q) whole_stands in
      let c : e ≡ q + size (numbered_at ws q) = cc in
      c

  pub arms_inside : (second_at ws q ≤ q + size (numbered_at ws q)) × (q + size (numbered_at ws q) ≤ length ws)
  unfolding arm_place
  arms_inside =
      let n = arm_count ws q in
      let p = past_sizes ws n (second_at ws q) (arms_after ws complete.0 complete.1 q (here, told)) in
      let e = arms_end ws complete.0 complete.1 q (here, told) in
      (omega (arith, p, e), ends_within ws complete.0 complete.1 q here)

  pub arms_words : (a e : ℕ) → a ≡ second_at ws q → e ≡ q + size (numbered_at ws q) → take (e - a) (drop a ws) ≡ arms_run ws q
  unfolding arms_run
  arms_words a e f g = ap (λ (x : ℕ). take (x - a) (drop a ws)) g ∙ ap (λ (x : ℕ). take (q + size (numbered_at ws q) - x) (drop x ws)) f

-- ---- all arms

module _ (first lets : ℕ) (numbers ends : List ℕ) (ws : List ℕ) where
  all_none : all_arms_run ws [] ≡ []
  unfolding all_arms_run
  all_none = refl

  all_cons : (q : ℕ) (l : List ℕ) → all_arms_run ws (q ∷ l) ≡ arms_run ws q ++ all_arms_run ws l
  unfolding all_arms_run
  all_cons q l = refl

  abbrev reads : List ℕ → ℕ → List ℕ → List ℕ
  reads ns row table = with_reads first lets numbers ends ns row table

  module _ (group : List ℕ) (row : ℕ) (old : List ℕ) where
    pub record Arming (table : List ℕ) (i : ℕ) : Type 0 where
      pub within : i ≤ length group
      pub long : length table ≡ length old
      pub marked : reads (all_arms_run ws (drop i group)) row table ≡ reads (all_arms_run ws group) row old

    module _ {table : List ℕ} {i : ℕ} (state : Arming table i) where
      pub arm_turn : i < length group → (new : List ℕ) → new ≡ reads (arms_run ws (get_or group i 0)) row table → Arming new (i + 1)
      arm_turn here new e =
          record {
            within = omega arith;
            long = ap length e ∙ (reads_long first lets numbers ends (arms_run ws (get_or group i 0)) row table ∙ state.long);
            marked = ap (reads (all_arms_run ws (drop (i + 1) group)) row) e
                ∙ (sym (ap (λ (l : List ℕ). reads (all_arms_run ws l) row table) (place_is group i here)
                ∙ (ap (λ (l : List ℕ). reads l row table) (all_cons (get_or group i 0) (drop (i + 1) group))
                ∙ reads_append first lets numbers ends (arms_run ws (get_or group i 0)) (all_arms_run ws (drop (i + 1) group)) row table))
                ∙ state.marked);
          }

      pub arm_ends : length group ≤ i → table ≡ reads (all_arms_run ws group) row old
      arm_ends h =
          sym (ap (λ (l : List ℕ). reads l row table) (ap (all_arms_run ws) (drop_of_length-le group h) ∙ all_none) ∙ reads_none first lets numbers ends row table)
          ∙ state.marked

    -- ---- what marking all arms answers and leaves

    abbrev pub Answers : Bool → List ℕ → Type 0
    Answers r out = (r ≡ arms_there ws group) × (out ≡ arms_marked first lets numbers ends ws group row old)

    answers_by : (b : Bool) → arms_there ws group ≡ b → (out : List ℕ) → out ≡ cond b (reads (all_arms_run ws group) row old) old → Answers b out
    unfolding arms_marked
    answers_by b e out h = (sym e, h ∙ ap (λ (c : Bool). cond c (reads (all_arms_run ws group) row old) old) (sym e))

    pub broken : trees_in ws ≡ none → Answers false old
    unfolding arms_there some_trees
    broken e = answers_by false (ap (λ (o : Option ℕ). some_trees o && all_switches ws group) e) old refl

    there_by : Complete ws → (b : Bool) → all_switches ws group ≡ b → arms_there ws group ≡ b
    unfolding arms_there some_trees
    there_by c b e = ap (λ (o : Option ℕ). some_trees o && all_switches ws group) c.1 ∙ e

    pub no_switches : Complete ws → all_switches ws group ≡ false → Answers false old
    no_switches c e = answers_by false (there_by c false e) old refl

    pub all_marked : Complete ws → all_switches ws group ≡ true → (out : List ℕ) → out ≡ reads (all_arms_run ws group) row old → Answers true out
    all_marked c e out h = answers_by true (there_by c true e) out h

-- Step after step, and what fusing answers: the words so far, with the steps to come, are the whole. Assumes nothing.
use Prim.Native.Nat.{ℕ, suc, ◌+◌, ◌≤◌, ◌<◌}
use native.Mathlib.Omega.{arith}
use mathlib.Core.Path.{◌≡◌, refl, sym, ◌∙◌, ap, subst}
use mathlib.Core.Bool.{Bool, true, false}
use mathlib.Core.Option as maybe
use mathlib.Core.Option.{none, some}
use mathlib.Core.List.{List, [], ◌∷◌, ◌++◌}
use borrow.Author.Tests.{le-leb, lt-leb}
use lib.ListN.{length, get_or, take, drop}
use lib.Seq.{length-take-le, take_at}
use Rattle.spec_tree.specs.Tree.{Name, mname}
use Rattle.spec_tree.specs.Tokens.{run_at, trees_in}
use Rattle.spec_rewrite.specs.Rewrite.{replace_outside_arms}
use Rattle.words.specs.words.Words.{rewritten_words, tree_of, name_of, some_trees, Complete}
use Rattle.replace.proofs.outside.Chaining.{never_longer, as_many_trees}
use Rattle.fusion.specs.Words.{fuse_step, fused_words}
use Rattle.fusion.proofs.Words.{m_word, m_word_name, fused_from}
use Rattle.fusion.specs.fuse.Answers.{stepped_answer, Front, Fusing, fusing_by, all_there, all_small, room_for, fusing}
use Rattle.std.specs.Prelude.{Option, Some, None, Result, Ok, Err}
use Rattle.words.specs.declared.fault.Fault.{Fault}
use Rattle.words.specs.declared.fault.Fault.TheVariants as fault
use Rattle.spec_tree.proofs.Lists.{fits_in, none_left}

-- ---- what steps keep

pub record Stays (ws new : List ℕ) : Type 0 where
  pub short : length new ≤ length ws
  pub complete : Complete ws → Complete new

pub step_stays : (base : List ℕ) (place n : ℕ) (ws new : List ℕ) → fuse_step base place (mname n) ws ≡ some new → Stays ws new
unfolding fuse_step
step_stays base place n ws new e = go (run_at base place) e
  where
    become : List ℕ
    become = rewritten_words (replace_outside_arms (tree_of (drop place base)) (mname n)) ws

    named : rewritten_words (replace_outside_arms (tree_of (drop place base)) (name_of (m_word n))) ws ≡ become
    named = ap (λ (x : Name). rewritten_words (replace_outside_arms (tree_of (drop place base)) x) ws) (m_word_name n)

    made : become ≡ new → Stays ws new
    made q =
        let w : rewritten_words (replace_outside_arms (tree_of (drop place base)) (name_of (m_word n))) ws ≡ new = named ∙ q in
        record {
          short = subst (λ (l : List ℕ). length l ≤ length ws) w (never_longer (drop place base) (m_word n) ws);
          complete = λ c. subst Complete w (c.0, as_many_trees (drop place base) (m_word n) ws c.0 c.1);
        }

    go : (o : maybe.Option ℕ) → ◌≡◌ {A = maybe.Option (List ℕ)} (elim o [ none ↦ none | some m ↦ some become ]) (some new) → Stays ws new
    go none q = let z : ◌≡◌ {A = ℕ} 0 1 = cc in absurd (omega arith)
    go (some m) q = let p : become ≡ new = cc in made p

pub never_more : (base l ns ws new : List ℕ) → fused_words base l ns ws ≡ some new → length new ≤ length ws
unfolding fused_words
never_more base [] ns ws new e = let q : ws ≡ new = cc in subst (λ (l : List ℕ). length l ≤ length ws) q (omega arith)
never_more base (p ∷ l) [] ws new e = let z : ◌≡◌ {A = ℕ} 0 1 = cc in absurd (omega arith)
never_more base (p ∷ l) (n ∷ ns) ws new e = go (fuse_step base p (mname n) ws) refl e (λ vs q. never_more base l ns vs new q)
  where
    go :
        (o : maybe.Option (List ℕ)) → fuse_step base p (mname n) ws ≡ o
        → ◌≡◌ {A = maybe.Option (List ℕ)} (elim o [ none ↦ none | some vs ↦ fused_words base l ns vs ]) (some new)
        → ((vs : List ℕ) → fused_words base l ns vs ≡ some new → length new ≤ length vs) → length new ≤ length ws
    go none s q h = let z : ◌≡◌ {A = ℕ} 0 1 = cc in absurd (omega arith)
    go (some vs) s q h = omega (arith, (step_stays base p n ws vs s).short, h vs q)

-- ---- the loop

pub record State (base places numbers ws : List ℕ) (room spares : ℕ) (work spare : List ℕ) (k n : ℕ) : Type 0 where
  pub long : length work ≡ room
  pub spare_long : length spare ≡ spares
  pub fits : n ≤ room
  pub complete : Complete (take n work)
  pub same : fused_words base (drop k places) (drop k numbers) (take n work) ≡ fused_words base places numbers ws

pub starts :
    (base places numbers : List ℕ) (len : ℕ) (work spare : List ℕ) → len ≤ length work → Complete (take len work)
    → State base places numbers (take len work) (length work) (length spare) work spare 0 len
starts base places numbers len work spare h c = record { long = refl; spare_long = refl; fits = h; complete = c; same = refl }

module _ {base places numbers ws : List ℕ} {room spares : ℕ} {work spare : List ℕ} {k n : ℕ} (state : State base places numbers ws room spares work spare k n) where
  abbrev pub whole : maybe.Option (List ℕ)
  whole = fused_words base places numbers ws

  abbrev pub Ends : Option ℕ → List ℕ → Type 0
  Ends r out = (r ≡ stepped_answer whole) × Front whole out

  module _ (more : k < length places) (enough : length places ≤ length numbers) where
    abbrev pub one : maybe.Option (List ℕ)
    one = fuse_step base (get_or places k 0) (name_of (m_word (get_or numbers k 0))) (take n work)

    step_is : one ≡ fuse_step base (get_or places k 0) (mname (get_or numbers k 0)) (take n work)
    step_is = ap (λ (x : Name). fuse_step base (get_or places k 0) x (take n work)) (m_word_name (get_or numbers k 0))

    after : (o : maybe.Option (List ℕ)) → one ≡ o → ◌≡◌ {A = maybe.Option (List ℕ)} (elim o [ none ↦ none | some vs ↦ fused_words base (drop (suc k) places) (drop (suc k) numbers) vs ]) whole
    after o e =
        subst (λ (q : maybe.Option (List ℕ)). ◌≡◌ {A = maybe.Option (List ℕ)} (elim q [ none ↦ none | some vs ↦ fused_words base (drop (suc k) places) (drop (suc k) numbers) vs ]) whole)
        (sym step_is ∙ e) (sym (fused_from base places numbers (take n work) k more (omega arith)) ∙ state.same)

    pub turn_broken : (out : List ℕ) → None ≡ stepped_answer one → Ends None out
    unfolding stepped_answer Front
    turn_broken out e = go one refl e
      where
        go : (o : maybe.Option (List ℕ)) → one ≡ o → None ≡ stepped_answer o → Ends None out
        go none s q = subst (λ (w : maybe.Option (List ℕ)). (None ≡ stepped_answer w) × Front w out) (after none s) (refl, tt)
        go (some vs) s q = let z : ◌≡◌ {A = ℕ} 0 1 = cc in absurd (omega arith)

    pub turn :
        (m : ℕ) (work' spare' : List ℕ) → Some m ≡ stepped_answer one → Front one work' → length work' ≡ length work → length spare' ≡ length spare
        → State base places numbers ws room spares work' spare' (k + 1) m
    unfolding stepped_answer Front
    turn m work' spare' e f l g = go one refl e f
      where
        go : (o : maybe.Option (List ℕ)) → one ≡ o → Some m ≡ stepped_answer o → Front o work' → State base places numbers ws room spares work' spare' (k + 1) m
        go none s q t = let z : ◌≡◌ {A = ℕ} 0 1 = cc in absurd (omega arith)
        go (some vs) s q t =
            let c : m ≡ length vs = cc in
            let v : take m work' ≡ vs = ap (λ (i : ℕ). take i work') c ∙ t in
            let stays = step_stays base (get_or places k 0) (get_or numbers k 0) (take n work) vs (sym step_is ∙ s) in
            let b = stays.short in
            let d = length-take-le n work (omega (arith, state.fits, state.long)) in
            let i : suc k ≡ k + 1 = omega arith in
            record {
              long = l ∙ state.long;
              spare_long = g ∙ state.spare_long;
              fits = omega (arith, b, c, d, state.fits);
              complete = subst Complete (sym v) (stays.complete state.complete);
              same = ap (fused_words base (drop (k + 1) places) (drop (k + 1) numbers)) v ∙ (sym (ap (λ (x : ℕ). fused_words base (drop x places) (drop x numbers) vs) i) ∙ after (some vs) s);
            }

  pub ends : length places ≤ k → Ends (Some n) work
  unfolding fused_words stepped_answer Front
  ends h =
      let l = length-take-le n work (omega (arith, state.fits, state.long)) in
      let e : some (take n work) ≡ whole = sym (ap (λ (r : List ℕ). fused_words base r (drop k numbers) (take n work)) (none_left k places h)) ∙ state.same in
      subst (λ (w : maybe.Option (List ℕ)). (Some n ≡ stepped_answer w) × Front w work) e (ap Some (sym l), ap (λ (i : ℕ). take i work) l)

-- ---- what fusing answers and leaves

module _ (base places numbers old : List ℕ) (len : ℕ) where
  abbrev pub Answers : Result ℕ Fault → List ℕ → Type 0
  Answers r out = (r ≡ (fusing base places numbers old len).answer) × (out ≡ (fusing base places numbers old len).out)

  abbrev pub became : maybe.Option (List ℕ)
  became = fused_words base places numbers (take len old)

  abbrev pub found : Bool
  found = all_there old len (length places) (length numbers)

  abbrev pub fitting : Bool
  fitting = room_for len (take (length places) numbers)

  answers_by : (a b : Bool) → found ≡ a → fitting ≡ b → (r : Result ℕ Fault) (out : List ℕ) → fusing_by a b became old ≡ record { answer = r; out = out } → Answers r out
  unfolding fusing
  answers_by a b e f r out q =
      let s : fusing base places numbers old len ≡ record { answer = r; out = out } =
      ap (λ (x : Bool). fusing_by x fitting became old) e ∙ (ap (λ (y : Bool). fusing_by a y became old) f ∙ q) in
      (sym (ap (λ (x : Fusing). x.answer) s), sym (ap (λ (x : Fusing). x.out) s))

  pub too_few : length old < len → Answers (Err fault.Broken) old
  unfolding all_there fusing_by
  too_few h = answers_by false fitting (rw (lt-leb len (length old) h) refl) refl (Err fault.Broken) old refl

  pub incomplete : trees_in (take len old) ≡ none → len ≤ length old → Answers (Err fault.Broken) old
  unfolding all_there fusing_by some_trees
  incomplete e h = answers_by false fitting (rw (le-leb len (length old) h) (rw e refl)) refl (Err fault.Broken) old refl

  module _ (h : len ≤ length old) (complete : Complete (take len old)) where
    pub numberless : length numbers < length places → Answers (Err fault.Broken) old
    unfolding all_there fusing_by some_trees
    numberless g =
        answers_by false fitting (rw (le-leb len (length old) h) (rw complete.1 (rw (lt-leb (length places) (length numbers) g) refl))) refl (Err fault.Broken) old refl

    module _ (enough : length places ≤ length numbers) where
      there : found ≡ true
      unfolding all_there some_trees
      there = rw (le-leb len (length old) h) (rw complete.1 (rw (le-leb (length places) (length numbers) enough) refl))

      full : fitting ≡ false → Answers (Err fault.NoRoom) old
      unfolding fusing_by
      full e = answers_by true false there e (Err fault.NoRoom) old refl

      pub long_list : 1929 < len → Answers (Err fault.NoRoom) old
      unfolding room_for
      long_list g = full (rw (lt-leb len 1929 g) refl)

      module _ (short : len ≤ 1929) where
        pub large_number : false ≡ all_small (take (length places) numbers) → Answers (Err fault.NoRoom) old
        unfolding room_for
        large_number g = full (rw (le-leb len 1929 short) (sym g))

        module _ (low : true ≡ all_small (take (length places) numbers)) where
          room : fitting ≡ true
          unfolding room_for
          room = rw (le-leb len 1929 short) (sym low)

          -- the words are copied to an area
          module _ (area copied : List ℕ) (copies : copied ≡ take len old ++ drop (length (take len old)) area) where
            pub copied_front : take len copied ≡ take len old
            copied_front = ap (take len) copies ∙ take_at (take len old) (drop (length (take len old)) area) len (length-take-le len old h)

            abbrev pub result : maybe.Option (List ℕ)
            result = fused_words base places numbers (take len copied)

            result_is : result ≡ became
            result_is = ap (fused_words base places numbers) copied_front

            pub unfused : None ≡ stepped_answer result → Answers (Err fault.Broken) old
            unfolding stepped_answer fusing_by
            unfused e = go became refl (e ∙ ap stepped_answer result_is)
              where
                go : (o : maybe.Option (List ℕ)) → became ≡ o → None ≡ stepped_answer o → Answers (Err fault.Broken) old
                go none s q = answers_by true true there room (Err fault.Broken) old (ap (λ (w : maybe.Option (List ℕ)). fusing_by true true w old) s)
                go (some new) s q = let z : ◌≡◌ {A = ℕ} 0 1 = cc in absurd (omega arith)

            module _ (n : ℕ) (work : List ℕ) (e : Some n ≡ stepped_answer result) (f : Front result work) where
              pub record New : Type 0 where
                pub new : List ℕ
                pub is : became ≡ some new
                pub count : n ≡ length new
                pub front : take n work ≡ new

              new_there : New
              unfolding stepped_answer Front
              new_there = go result refl e f
                where
                  go : (o : maybe.Option (List ℕ)) → result ≡ o → Some n ≡ stepped_answer o → Front o work → New
                  go none s q t = let z : ◌≡◌ {A = ℕ} 0 1 = cc in absurd (omega arith)
                  go (some new) s q t =
                      let c : n ≡ length new = cc in
                      record { new = new; is = sym result_is ∙ s; count = c; front = ap (λ (i : ℕ). take i work) c ∙ t }

              -- no more than there were, and within the area
              no_more : n ≤ len
              no_more =
                  let x = new_there in
                  let b = never_more base places numbers (take len old) x.new x.is in
                  let l = length-take-le len old h in
                  let c = x.count in
                  omega (arith, b, l, c)

              pub in_area : n ≤ length work
              in_area =
                  let x = new_there in
                  let l : length (take n work) ≡ length x.new = ap length x.front in
                  let c = x.count in
                  omega (arith, fits_in n work, l, c)

              pub goes_back : length (take n work) ≤ length old
              goes_back =
                  let x = new_there in
                  let l : length (take n work) ≡ length x.new = ap length x.front in
                  let c = x.count in
                  omega (arith, no_more, l, c, h)

              pub fused_so : (out : List ℕ) → out ≡ take n work ++ drop (length (take n work)) old → Answers (Ok n) out
              unfolding fusing_by
              fused_so out q =
                  let x = new_there in
                  let w : out ≡ x.new ++ drop (length x.new) old = q ∙ ap (λ (l : List ℕ). l ++ drop (length l) old) x.front in
                  answers_by true true there room (Ok n) out
                  (ap (λ (o : maybe.Option (List ℕ)). fusing_by true true o old) x.is
                  ∙ (ap (λ (i : ℕ). record { answer = Ok i; out = x.new ++ drop (length x.new) old }) (sym x.count)
                  ∙ ap (λ (l : List ℕ). record { answer = Ok n; out = l }) (sym w)))

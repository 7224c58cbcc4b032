-- The places of the first trees in front of what stood after them: how the list starts, goes on and ends, and what is answered. Assumes nothing.
use Rattle.std.specs.Prelude.{Some, Result, Ok, Err}
use Prim.Native.Nat.{ℕ, suc, ◌+◌, ◌≤◌, ◌<◌}
use native.Mathlib.Omega.{arith}
use mathlib.Core.Path.{◌≡◌, refl, sym, ◌∙◌, ap}
use mathlib.Core.Bool.{Bool}
use mathlib.Core.Option.{Option, none, some}
use mathlib.Core.List.{List, [], ◌∷◌, ◌++◌, append_assoc}
use borrow.Author.Tests.{le-leb, lt-leb}
use lib.ListN.{length, get_or, take, drop, set, length-append, length-drop, get_or-append}
use lib.Seq.{take-suc, take_all, drop-cons, set_at, length-take-le}
use Rattle.spec_tree.specs.Facts.{total, size}
use Rattle.spec_tree.specs.Tokens.{read, trees_in, run_at, numbered}
use Rattle.spec_tree.proofs.TokenLaws.{sizes, complete_length}
use Rattle.words.specs.tokens.Answers.{There, end_answer}
use Rattle.topo_sort.specs.treelist.Starts.{starts_of, TreeListing, listing_room, listing_by, tree_listing}
use Rattle.words.specs.declared.fault.Fault.{Fault}
use Rattle.words.specs.declared.fault.Fault.TheVariants as fault
use Rattle.topo_sort.proofs.treelist.Begins.{one_more, start_number, tree_number, past_sizes, starts_count, run_there}

-- ---- the list so far

-- of so many numbers as `new` the first n in front of what stands after n in `old`: one more
one_set : (new old : List ℕ) (n : ℕ) → n < length new → n < length old → set (take n new ++ drop n old) n (get_or new n 0) ≡ take (n + 1) new ++ drop (n + 1) old
one_set new old n h k =
    let i : suc n ≡ n + 1 = omega arith in
    ap (λ (l : List ℕ). set (take n new ++ l) n (get_or new n 0)) (drop-cons old n 0 k)
    ∙ (set_at (take n new) (get_or old n 0) (drop (suc n) old) (get_or new n 0) n (length-take-le n new (omega arith))
    ∙ (sym (append_assoc (take n new) (get_or new n 0 ∷ []) (drop (suc n) old))
    ∙ (ap (λ (l : List ℕ). l ++ drop (suc n) old) (sym (take-suc new n 0 h)) ∙ ap (λ (m : ℕ). take m new ++ drop m old) i)))

module _ (ws old : List ℕ) (count : ℕ) where
  pub record State (out : List ℕ) (n at : ℕ) : Type 0 where
    pub few : n ≤ count
    pub place : at ≡ sizes (take n (read numbered ws))
    pub places : out ≡ take n (starts_of ws) ++ drop n old

  module _ (complete : trees_in ws ≡ some count) (room : count ≤ length old) where
    are_trees : length (read numbered ws) ≡ count
    are_trees = complete_length numbered ws count complete

    are_starts : length (starts_of ws) ≡ count
    are_starts = starts_count ws count complete

    pub begins : State old 0 0
    unfolding sizes total
    begins = record { few = omega arith; place = refl; places = refl }

    pub long : {out : List ℕ} {n at : ℕ} → State out n at → length out ≡ length old
    long {out} {n} {at} state =
        ap length state.places
        ∙ omega (arith, length-append (take n (starts_of ws)) (drop n old), length-drop n old, length-take-le n (starts_of ws) (omega (arith, state.few, are_starts)), state.few, room)

    module _ {out : List ℕ} {n at : ℕ} (state : State out n at) (here : n < count) where
      is_tree : n < length (read numbered ws)
      is_tree = omega (arith, are_trees, here)

      is_start : start_number ws n ≡ at
      is_start = past_sizes ws n is_tree ∙ sym state.place

      stands : run_at ws at ≡ some (size (tree_number ws n))
      stands = ap (run_at ws) (sym is_start) ∙ run_there ws count complete n is_tree

      pub there : There ws at
      there = (size (tree_number ws n), stands)

      end_is : (e : ℕ) → Some e ≡ end_answer at (run_at ws at) → e ≡ at + size (tree_number ws n)
      unfolding end_answer
      end_is e q = let r : Some e ≡ Some (at + size (tree_number ws n)) = q ∙ ap (end_answer at) stands in cc

      pub turn : (e : ℕ) → Some e ≡ end_answer at (run_at ws at) → State (set out n at) (n + 1) e
      turn e q =
          let i : n + 1 ≡ suc n = omega arith in
          record {
            few = omega arith;
            place = omega (arith, end_is e q, state.place, one_more (read numbered ws) n is_tree, ap (λ (k : ℕ). sizes (take k (read numbered ws))) i);
            places = ap (λ (l : List ℕ). set l n at) state.places
                ∙ (ap (set (take n (starts_of ws) ++ drop n old) n) (sym is_start) ∙ one_set (starts_of ws) old n (omega (arith, are_starts, here)) (omega (arith, here, room)));
          }

    pub ends : {out : List ℕ} {n at : ℕ} → State out n at → count ≤ n → out ≡ starts_of ws ++ drop count old
    ends {out} {n} {at} state h =
        let i : n ≡ count = omega (arith, state.few, h) in
        state.places ∙ (ap (λ (k : ℕ). take k (starts_of ws) ++ drop k old) i ∙ ap (λ (l : List ℕ). l ++ drop count old) (take_all count (starts_of ws) (omega (arith, are_starts))))

-- ---- what listing answers and leaves

module _ (ws old : List ℕ) where
  abbrev pub Answers : Result ℕ Fault → List ℕ → Type 0
  Answers r out = (r ≡ (tree_listing ws old).answer) × (out ≡ (tree_listing ws old).out)

  answers_by : (o : Option ℕ) → trees_in ws ≡ o → (r : Result ℕ Fault) (out : List ℕ) → listing_by o (starts_of ws) old ≡ record { answer = r; out = out } → Answers r out
  unfolding tree_listing
  answers_by o e r out q =
      let s : tree_listing ws old ≡ record { answer = r; out = out } = ap (λ (x : Option ℕ). listing_by x (starts_of ws) old) e ∙ q in
      (sym (ap (λ (x : TreeListing). x.answer) s), sym (ap (λ (x : TreeListing). x.out) s))

  pub broken : trees_in ws ≡ none → Answers (Err fault.Broken) old
  unfolding listing_by
  broken e = answers_by none e (Err fault.Broken) old refl

  module _ (n : ℕ) (complete : trees_in ws ≡ some n) where
    pub full : length old < n → Answers (Err fault.NoRoom) old
    unfolding listing_by listing_room
    full h = answers_by (some n) complete (Err fault.NoRoom) old (ap (λ (b : Bool). listing_room b n (starts_of ws) old) (lt-leb n (length old) h))

    pub listed : n ≤ length old → (out : List ℕ) → out ≡ starts_of ws ++ drop n old → Answers (Ok n) out
    unfolding listing_by listing_room
    listed h out w =
        answers_by (some n) complete (Ok n) out
        (ap (λ (b : Bool). listing_room b n (starts_of ws) old) (le-leb n (length old) h) ∙ ap (λ (l : List ℕ). record { answer = Ok n; out = l }) (sym w))

-- ---- what a caller reads in the list

module _ (ws old : List ℕ) (n : ℕ) (complete : trees_in ws ≡ some n) where
  -- the place of number i is where tree i begins
  pub start_listed : (i : ℕ) → i < n → get_or (starts_of ws ++ drop n old) i 0 ≡ start_number ws i
  start_listed i h = get_or-append (starts_of ws) (drop n old) 0 i (omega (arith, h, starts_count ws n complete))

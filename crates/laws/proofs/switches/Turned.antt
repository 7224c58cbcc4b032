-- The words of a column are those of the arms of one number (specs, Columns): they are complete, and read as the column. Assumes nothing.
use Prim.Native.Nat.{ℕ, zero, suc, ◌<◌}
use native.Mathlib.Omega.{arith}
use mathlib.Core.Path.{◌≡◌, refl, sym, ◌∙◌, ap, ap₂, subst}
use mathlib.Core.Bool.{Bool, true, false}
use mathlib.Core.Option.{some}
use mathlib.Core.List.{List, [], ◌∷◌, ◌++◌, map}
use borrow.Author.Tests.{eqb-true, eqb-false}
use lib.ListN.{length, get_or, length-map, get_or-append, get_or-map}
use lib.Seq.{get_or_at}
use lib.Dec.{T, eqb}
use Rattle.spec_tree.specs.Tree.{Tree}
use Rattle.spec_tree.specs.Tokens.{all_tokens, read, numbered, trees_in}
use Rattle.spec_tree.proofs.TokenCode.{all_coded, unnumbered, all_tokens_append, tokens_complete}
use Rattle.spec_cse.specs.Scope.{first_arms, rest_arms, columns, arms_of_members}
use Rattle.laws.specs.positions.Places.{numbered_at}
use Rattle.laws.proofs.positions.Extraction.{Every}
use Rattle.laws.proofs.positions.Coded.{is_alone, none_fit, append_fits, read_fits, read_again}
use Rattle.laws.specs.switches.Switches.{arm_count, arm_place, arms_within, arm_places, switch_there}
use Rattle.laws.specs.switches.Columns.{words_at, column_words}
use Rattle.laws.proofs.switches.Parts.{arms_length}
use Rattle.laws.proofs.switches.Collected.{Switching}
use Rattle.laws.proofs.switches.Joining.{arms_counted}
use Rattle.laws.proofs.switches.Words.{words_read, words_are, arm_within}

-- ---- columns turn rows of arms about

module _ (d : Tree) where
  rest_long : (n : ℕ) (ls : List (List Tree)) → Every (λ l. length l ≡ suc n) ls → Every (λ l. length l ≡ n) (rest_arms ls)
  unfolding rest_arms
  rest_long n [] h = tt
  rest_long n ([] ∷ ls) h = let e = h.0 in absurd (omega arith)
  rest_long n ((t ∷ ts) ∷ ls) h = ((let e = h.0 in omega arith), rest_long n ls h.1)

  first_are : (n : ℕ) (ls : List (List Tree)) → Every (λ l. length l ≡ suc n) ls → first_arms ls ≡ map (λ l. get_or l 0 d) ls
  unfolding first_arms
  first_are n [] h = refl
  first_are n ([] ∷ ls) h = let e = h.0 in absurd (omega arith)
  first_are n ((t ∷ ts) ∷ ls) h = ap (λ (l : List Tree). t ∷ l) (first_are n ls h.1)

  rest_are : (n a : ℕ) (ls : List (List Tree)) → Every (λ l. length l ≡ suc n) ls → map (λ l. get_or l a d) (rest_arms ls) ≡ map (λ l. get_or l (suc a) d) ls
  unfolding rest_arms
  rest_are n a [] h = refl
  rest_are n a ([] ∷ ls) h = let e = h.0 in absurd (omega arith)
  rest_are n a ((t ∷ ts) ∷ ls) h = ap (λ (l : List Tree). get_or ts a d ∷ l) (rest_are n a ls h.1)

  pub column_at : (n a : ℕ) (ls : List (List Tree)) → Every (λ l. length l ≡ n) ls → a < n → get_or (columns n ls) a [] ≡ map (λ l. get_or l a d) ls
  unfolding columns
  column_at zero a ls h l = absurd (omega arith)
  column_at (suc n) zero ls h l = first_are n ls h
  column_at (suc n) (suc a) ls h l = column_at n a (rest_arms ls) (rest_long n ls h) (omega arith) ∙ rest_are n a ls h

-- ---- the rows of arms of switches by places

module _ (ws : List ℕ) where
  pub arm_place_at : (p n a : ℕ) → a < n → get_or (arms_within ws p n) a 0 ≡ arm_place ws p a
  unfolding arms_within
  arm_place_at p zero a h = absurd (omega arith)
  arm_place_at p (suc n) a h = go (eqb a n) refl (λ k. arm_place_at p n a k)
    where
      go : (b : Bool) → eqb a n ≡ b → (a < n → get_or (arms_within ws p n) a 0 ≡ arm_place ws p a) → get_or (arms_within ws p n ++ (arm_place ws p n ∷ [])) a 0 ≡ arm_place ws p a
      go true e g =
          let z : a ≡ n = eqb-true a n e in
          get_or_at (arms_within ws p n) (arm_place ws p n) [] 0 a (arms_length ws p n ∙ sym z) ∙ ap (arm_place ws p) (sym z)
      go false e g =
          let ne = eqb-false a n e in
          let l = arms_length ws p n in
          get_or-append (arms_within ws p n) (arm_place ws p n ∷ []) 0 a (omega (arith, ne, l)) ∙ g (omega (arith, ne))

  abbrev row : ℕ → List Tree
  row q = map (numbered_at ws) (arm_places ws q)

  pub rows_are : (qs : List ℕ) → arms_of_members (map (switch_there ws) qs) ≡ map row qs
  unfolding arms_of_members switch_there
  rows_are [] = refl
  rows_are (q ∷ qs) = ap (λ (l : List (List Tree)). row q ∷ l) (rows_are qs)

  pub arm_tree : (q a : ℕ) → a < arm_count ws q → get_or (row q) a (numbered_at ws 0) ≡ numbered_at ws (arm_place ws q a)
  unfolding arm_places
  arm_tree q a h = get_or-map (numbered_at ws) (arm_places ws q) a 0 ∙ ap (numbered_at ws) (arm_place_at q (arm_count ws q) a h)

  -- a switch with n arms
  abbrev pub Armed : ℕ → ℕ → Type 0
  Armed n q = Switching ws q × (arm_count ws q ≡ n)

  rows_long : (n : ℕ) (qs : List ℕ) → Every (Armed n) qs → Every (λ l. length l ≡ n) (map row qs)
  rows_long n [] h = tt
  rows_long n (q ∷ qs) h = (arms_counted ws q ∙ h.0.1, rows_long n qs h.1)

  rows_at : (n a : ℕ) (qs : List ℕ) → Every (Armed n) qs → a < n → map (λ l. get_or l a (numbered_at ws 0)) (map row qs) ≡ map (λ q. numbered_at ws (arm_place ws q a)) qs
  rows_at n a [] h l = refl
  rows_at n a (q ∷ qs) h l =
      let c = h.0.1 in
      ap₂ ◌∷◌ (arm_tree q a (omega arith)) (rows_at n a qs h.1 l)

  -- column number a has each switch's arm number a
  pub column_there :
      (n a : ℕ) (qs : List ℕ) → Every (Armed n) qs → a < n
      → get_or (columns n (arms_of_members (map (switch_there ws) qs))) a [] ≡ map (λ q. numbered_at ws (arm_place ws q a)) qs
  column_there n a qs h l =
      ap (λ (ls : List (List Tree)). get_or (columns n ls) a []) (rows_are qs) ∙ column_at (numbered_at ws 0) n a (map row qs) (rows_long n qs h) l ∙ rows_at n a qs h l

-- ---- its words

module _ (ws : List ℕ) (m : ℕ) (complete : trees_in ws ≡ some m) where
  abbrev arms_at : ℕ → List ℕ → List Tree
  arms_at a qs = map (λ q. numbered_at ws (arm_place ws q a)) qs

  written : (n a : ℕ) (qs : List ℕ) → Every (Armed ws n) qs → a < n → column_words ws qs a ≡ all_tokens unnumbered (arms_at a qs)
  unfolding column_words
  written n a [] h l = (unfold all_tokens in refl)
  written n a (q ∷ qs) h l =
      let c = h.0.1 in
      let r = arm_place ws q a in
      let inside = arm_within ws m complete q h.0.0 a (omega arith) in
      ap₂ ◌++◌ (sym (words_are ws m complete r inside)) (written n a qs h.1 l) ∙ sym (all_tokens_append unnumbered (numbered_at ws r ∷ []) (arms_at a qs))

  arms_fit : (n a : ℕ) (qs : List ℕ) → Every (Armed ws n) qs → a < n → T (all_coded is_alone (arms_at a qs))
  arms_fit n a [] h l = none_fit is_alone
  arms_fit n a (q ∷ qs) h l =
      let c = h.0.1 in
      let r = arm_place ws q a in
      let inside = arm_within ws m complete q h.0.0 a (omega arith) in
      append_fits is_alone (numbered_at ws r ∷ []) (arms_at a qs)
      (subst (λ (ts : List Tree). T (all_coded is_alone ts)) (words_read ws m complete r inside) (read_fits (words_at ws r))) (arms_fit n a qs h.1 l)

  module _ (n a : ℕ) (qs : List ℕ) (h : Every (Armed ws n) qs) (l : a < n) where
    abbrev column : List Tree
    column = get_or (columns n (arms_of_members (map (switch_there ws) qs))) a []

    -- the words of a column
    pub column_written : column_words ws qs a ≡ all_tokens unnumbered column
    column_written = written n a qs h l ∙ ap (all_tokens unnumbered) (sym (column_there ws n a qs h l))

    -- as many trees as switches
    pub column_complete : trees_in (column_words ws qs a) ≡ some (length qs)
    column_complete =
        ap trees_in (written n a qs h l)
        ∙ tokens_complete unnumbered is_alone (arms_at a qs) (arms_fit n a qs h l)
        ∙ ap some (length-map qs (λ q. numbered_at ws (arm_place ws q a)))

    -- which are the column
    pub column_read : read numbered (column_words ws qs a) ≡ column
    column_read = ap (read numbered) (written n a qs h l) ∙ read_again (arms_at a qs) (arms_fit n a qs h l) ∙ sym (column_there ws n a qs h l)

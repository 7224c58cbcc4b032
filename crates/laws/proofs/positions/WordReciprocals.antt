-- Reciprocals on words are reciprocals on the trees that the words are (specs, Rounds), and the divisors to bind are the trees at the places to bind. Assumes
-- nothing.
use Prim.Native.Nat.{ℕ, zero, suc, ◌≤◌, ◌<◌}
use native.Mathlib.Omega.{arith}
use mathlib.Core.Path.{◌≡◌, refl, sym, ◌∙◌, ap, ap₂, subst}
use mathlib.Core.Bool.{Bool, true, false, ◌&&◌}
use mathlib.Core.Option.{some}
use mathlib.Core.List.{List, [], ◌∷◌, map}
use lib.ListN.{length, get_or, drop}
use lib.Dec.{T, eqb, leb, leb→le}
use Rattle.spec_tree.specs.Tree.{Tree, Op, nil, eq_tree}
use Rattle.spec_tree.specs.Kinds.{Div}
use Rattle.spec_tree.specs.Facts.{all_nodes, outside, count}
use Rattle.spec_tree.specs.Tokens.{all_tokens, read, numbered, kind_of, takes, trees_in}
use Rattle.spec_tree.specs.text.Text.{before}
use Rattle.spec_tree.proofs.Logic.{and_right}
use Rattle.spec_tree.proofs.TokenCode.{coded, all_coded, unnumbered, writes_back}
use Rattle.spec_cse.specs.Extract.{among, distinct, divisors, shared_divisors}
use Rattle.laws.specs.positions.Shown.{insert_by, sort_by}
use Rattle.laws.specs.positions.Places.{numbered_at, outside_at, divides_at, second_at, divisor_places, among_places, count_places, text_at, distinct_places, shared_places, insert_place, sort_places, divisors_to_bind}
use Rattle.laws.specs.positions.Rounds.{next_number, bind_on, bind_each_on, reciprocals_on, bind_words, bind_each_words, reciprocals_words}
use Rattle.laws.proofs.positions.BestPlace.{text_of, text_at_is}
use Rattle.laws.proofs.positions.Extraction.{Every, every_append}
use Rattle.laws.proofs.positions.Coded.{is_alone, first_fits, rest_fits, one_fits, none_fit, read_fits, read_again, bind_on_fits}
use Rattle.laws.proofs.positions.DivisorPlaces.{enough, second_is, all_divisors, outside_divisors}

module _ (ws : List ℕ) (name_at : ℕ → List ℕ) where
  abbrev trees_of : List ℕ → List Tree
  trees_of = map (numbered_at ws)

  -- ---- places for trees

  among_is : (q : ℕ) (l : List ℕ) → among (numbered_at ws q) (trees_of l) ≡ among_places ws q l
  unfolding among among_places
  among_is q [] = refl
  among_is q (r ∷ l) = ap (λ (b : Bool). elim (eq_tree (numbered_at ws r) (numbered_at ws q)) as (λ _. Bool) [ true ↦ true | false ↦ b ]) (among_is q l)

  count_is : (q : ℕ) (l : List ℕ) → count (numbered_at ws q) (trees_of l) ≡ count_places ws q l
  unfolding count count_places
  count_is q [] = refl
  count_is q (r ∷ l) = ap (λ (n : ℕ). elim (eq_tree (numbered_at ws r) (numbered_at ws q)) as (λ _. ℕ) [ true ↦ suc n | false ↦ n ]) (count_is q l)

  distinct_step :
      (b c : Bool) → b ≡ c → (q : ℕ) (x y : List Tree) (r s : List ℕ) → x ≡ trees_of r → y ≡ trees_of s
      → ◌≡◌ {A = List Tree} (elim b [ true ↦ x | false ↦ numbered_at ws q ∷ y ]) (trees_of (elim c [ true ↦ r | false ↦ q ∷ s ]))
  distinct_step b c e q x y r s d f = rw e (go c)
    where
      go : (c : Bool) → ◌≡◌ {A = List Tree} (elim c [ true ↦ x | false ↦ numbered_at ws q ∷ y ]) (trees_of (elim c [ true ↦ r | false ↦ q ∷ s ]))
      go true = d
      go false = ap (λ (l : List Tree). numbered_at ws q ∷ l) f

  distinct_is : (seen l : List ℕ) → distinct (trees_of seen) (trees_of l) ≡ trees_of (distinct_places ws seen l)
  unfolding distinct distinct_places
  distinct_is seen [] = refl
  distinct_is seen (q ∷ l) =
      distinct_step (among (numbered_at ws q) (trees_of seen)) (among_places ws q seen) (among_is q seen) q (distinct (trees_of seen) (trees_of l))
      (distinct (numbered_at ws q ∷ trees_of seen) (trees_of l)) (distinct_places ws seen l) (distinct_places ws (q ∷ seen) l) (distinct_is seen l) (distinct_is (q ∷ seen) l)

  shared_step :
      (b c : Bool) → b ≡ c → (q : ℕ) (x : List Tree) (r : List ℕ) → x ≡ trees_of r
      → ◌≡◌ {A = List Tree} (elim b [ true ↦ numbered_at ws q ∷ x | false ↦ x ]) (trees_of (elim c [ true ↦ q ∷ r | false ↦ r ]))
  shared_step b c e q x r d = rw e (go c)
    where
      go : (c : Bool) → ◌≡◌ {A = List Tree} (elim c [ true ↦ numbered_at ws q ∷ x | false ↦ x ]) (trees_of (elim c [ true ↦ q ∷ r | false ↦ r ]))
      go true = ap (λ (l : List Tree). numbered_at ws q ∷ l) d
      go false = d

  shared_is :
      (scoped : Bool) (ts : List Tree) (all out : List ℕ) → divisors (all_nodes ts) ≡ trees_of all → divisors (outside scoped ts) ≡ trees_of out → (l : List ℕ)
      → shared_divisors scoped ts (trees_of l) ≡ trees_of (shared_places ws all out l)
  unfolding shared_divisors shared_places
  shared_is scoped ts all out a b [] = refl
  shared_is scoped ts all out a b (q ∷ l) =
      let d = numbered_at ws q in
      shared_step (leb 2 (count d (divisors (all_nodes ts))) && leb 1 (count d (divisors (outside scoped ts)))) (leb 2 (count_places ws q all) && leb 1 (count_places ws q out))
      (ap₂ (λ (n m : ℕ). leb 2 n && leb 1 m) (ap (count d) a ∙ count_is q all) (ap (count d) b ∙ count_is q out)) q (shared_divisors scoped ts (trees_of l))
      (shared_places ws all out l) (shared_is scoped ts all out a b l)

  insert_step :
      (b c : Bool) → b ≡ c → (q r : ℕ) (l : List ℕ) (x : List Tree) (s : List ℕ) → x ≡ trees_of s
      → ◌≡◌ {A = List Tree} (elim b [ true ↦ numbered_at ws r ∷ x | false ↦ numbered_at ws q ∷ (numbered_at ws r ∷ trees_of l) ])
      (trees_of (elim c [ true ↦ r ∷ s | false ↦ q ∷ (r ∷ l) ]))
  insert_step b c e q r l x s d = rw e (go c)
    where
      go : (c : Bool)
          → ◌≡◌ {A = List Tree} (elim c [ true ↦ numbered_at ws r ∷ x | false ↦ numbered_at ws q ∷ (numbered_at ws r ∷ trees_of l) ])
          (trees_of (elim c [ true ↦ r ∷ s | false ↦ q ∷ (r ∷ l) ]))
      go true = ap (λ (l : List Tree). numbered_at ws r ∷ l) d
      go false = refl

  insert_is : (q : ℕ) (l : List ℕ) → insert_by (text_of ws name_at) (numbered_at ws q) (trees_of l) ≡ trees_of (insert_place ws name_at q l)
  unfolding insert_by insert_place
  insert_is q [] = refl
  insert_is q (r ∷ l) =
      insert_step (before (text_of ws name_at (numbered_at ws r)) (text_of ws name_at (numbered_at ws q))) (before (text_at ws name_at r) (text_at ws name_at q))
      (ap₂ before (sym (text_at_is ws name_at r)) (sym (text_at_is ws name_at q))) q r l (insert_by (text_of ws name_at) (numbered_at ws q) (trees_of l)) (insert_place ws name_at q l)
      (insert_is q l)

  sort_is : (l : List ℕ) → sort_by (text_of ws name_at) (trees_of l) ≡ trees_of (sort_places ws name_at l)
  unfolding sort_by sort_places
  sort_is [] = refl
  sort_is (q ∷ l) = ap (insert_by (text_of ws name_at) (numbered_at ws q)) (sort_is l) ∙ insert_is q (sort_places ws name_at l)

  -- ---- what all places have, those chosen have

  module _ (P : ℕ → Type 0) where
    distinct_keeps_step : (b : Bool) (q : ℕ) (r s : List ℕ) → P q → Every P r → Every P s → Every P (elim b [ true ↦ r | false ↦ q ∷ s ])
    distinct_keeps_step true q r s h d e = d
    distinct_keeps_step false q r s h d e = (h, e)

    distinct_keeps : (seen l : List ℕ) → Every P l → Every P (distinct_places ws seen l)
    unfolding distinct_places
    distinct_keeps seen [] h = tt
    distinct_keeps seen (q ∷ l) h =
        distinct_keeps_step (among_places ws q seen) q (distinct_places ws seen l) (distinct_places ws (q ∷ seen) l) h.0 (distinct_keeps seen l h.1)
        (distinct_keeps (q ∷ seen) l h.1)

    shared_keeps_step : (b : Bool) (q : ℕ) (r : List ℕ) → P q → Every P r → Every P (elim b [ true ↦ q ∷ r | false ↦ r ])
    shared_keeps_step true q r h d = (h, d)
    shared_keeps_step false q r h d = d

    shared_keeps : (all out l : List ℕ) → Every P l → Every P (shared_places ws all out l)
    unfolding shared_places
    shared_keeps all out [] h = tt
    shared_keeps all out (q ∷ l) h =
        shared_keeps_step (leb 2 (count_places ws q all) && leb 1 (count_places ws q out)) q (shared_places ws all out l) h.0 (shared_keeps all out l h.1)

    insert_keeps_step : (b : Bool) (q r : ℕ) (l s : List ℕ) → P q → P r → Every P l → Every P s → Every P (elim b [ true ↦ r ∷ s | false ↦ q ∷ (r ∷ l) ])
    insert_keeps_step true q r l s g h d e = (h, e)
    insert_keeps_step false q r l s g h d e = (g, (h, d))

    insert_keeps : (q : ℕ) (l : List ℕ) → P q → Every P l → Every P (insert_place ws name_at q l)
    unfolding insert_place
    insert_keeps q [] g h = (g, tt)
    insert_keeps q (r ∷ l) g h =
        insert_keeps_step (before (text_at ws name_at r) (text_at ws name_at q)) q r l (insert_place ws name_at q l) g h.0 h.1 (insert_keeps q l g h.1)

    sort_keeps : (l : List ℕ) → Every P l → Every P (sort_places ws name_at l)
    unfolding sort_places
    sort_keeps [] h = tt
    sort_keeps (q ∷ l) h = insert_keeps q (sort_places ws name_at l) h.0 (sort_keeps l h.1)

  -- ---- the divisors to bind

  module _ (m : ℕ) (complete : trees_in ws ≡ some m) where
    pub to_bind_are :
        (scoped : Bool)
        → sort_by (text_of ws name_at) (shared_divisors scoped (read numbered ws) (distinct [] (divisors (all_nodes (read numbered ws))))) ≡ trees_of (divisors_to_bind ws name_at scoped)
    unfolding divisors_to_bind
    to_bind_are scoped =
        let ts = read numbered ws in
        let all = divisor_places ws (λ j. true) (length ws) in
        let out = divisor_places ws (outside_at ws scoped) (length ws) in
        let a = all_divisors ws m complete in
        let b = outside_divisors ws m complete scoped in
        ap (λ (l : List Tree). sort_by (text_of ws name_at) (shared_divisors scoped ts (distinct [] l))) a
        ∙ ap (λ (l : List Tree). sort_by (text_of ws name_at) (shared_divisors scoped ts l)) (distinct_is [] all)
        ∙ ap (sort_by (text_of ws name_at)) (shared_is scoped ts all out a b (distinct_places ws [] all))
        ∙ sort_is (shared_places ws all out (distinct_places ws [] all))

    -- each is a tree within the code
    abbrev FitsAt : ℕ → Type 0
    FitsAt q = T (coded is_alone (numbered_at ws q))

    second_fits : (l : List Tree) → 2 ≤ length l → T (all_coded is_alone l) → T (coded is_alone (get_or l 1 (Op 0 nil)))
    second_fits [] h k = absurd (omega arith)
    second_fits (t ∷ []) h k = absurd (omega arith)
    second_fits (t ∷ (u ∷ l)) h k = first_fits is_alone u l (rest_fits is_alone t (u ∷ l) k)

    divisor_fits_at : (p : ℕ) → p < length ws → T (divides_at ws p) → FitsAt (second_at ws p)
    unfolding divides_at
    divisor_fits_at p h t =
        let w = get_or ws p 0 in
        let rs = read numbered (drop (suc p) ws) in
        let two = leb→le 2 (takes w) (and_right (eqb (kind_of w) Div) (leb 2 (takes w)) t) in
        let k = enough ws m complete p h in
        subst (λ (u : Tree). T (coded is_alone u)) (sym (second_is ws m complete p (omega arith))) (second_fits rs (omega arith) (read_fits (drop (suc p) ws)))

    divisor_step : (b c : Bool) (q : ℕ) → (T c → FitsAt q) → Every FitsAt (elim (b && c) [ true ↦ q ∷ [] | false ↦ [] ])
    divisor_step true true q h = (h tt, tt)
    divisor_step true false q h = tt
    divisor_step false c q h = tt

    divisors_fit_at : (test : ℕ → Bool) (n : ℕ) → n ≤ length ws → Every FitsAt (divisor_places ws test n)
    unfolding divisor_places
    divisors_fit_at test zero h = tt
    divisors_fit_at test (suc n) h =
        every_append FitsAt (divisor_places ws test n) (elim (test n && divides_at ws n) [ true ↦ second_at ws n ∷ [] | false ↦ [] ]) (divisors_fit_at test n (omega arith))
        (divisor_step (test n) (divides_at ws n) (second_at ws n) (λ t. divisor_fits_at n (omega arith) t))

    to_bind_fit_at : (scoped : Bool) → Every FitsAt (divisors_to_bind ws name_at scoped)
    unfolding divisors_to_bind
    to_bind_fit_at scoped =
        let all = divisor_places ws (λ j. true) (length ws) in
        let out = divisor_places ws (outside_at ws scoped) (length ws) in
        sort_keeps FitsAt (shared_places ws all out (distinct_places ws [] all))
        (shared_keeps FitsAt all out (distinct_places ws [] all) (distinct_keeps FitsAt [] all (divisors_fit_at (λ j. true) (length ws) (omega arith))))

    trees_fit : (l : List ℕ) → Every FitsAt l → T (all_coded is_alone (trees_of l))
    trees_fit [] h = none_fit is_alone
    trees_fit (q ∷ l) h = one_fits is_alone (numbered_at ws q) (trees_of l) h.0 (trees_fit l h.1)

-- ---- bound on words

pub bind_each_are :
    (l : List Tree) (n : ℕ) (ts : List Tree) → T (all_coded is_alone l) → T (all_coded is_alone ts)
    → bind_each_words l n (all_tokens unnumbered ts) ≡ all_tokens unnumbered (bind_each_on l n ts)
unfolding bind_each_words bind_each_on bind_words
bind_each_are [] n ts g h = refl
bind_each_are (d ∷ l) n ts g h =
    ap (λ (us : List Tree). bind_each_words l (suc n) (all_tokens unnumbered (bind_on d n us))) (read_again ts h)
    ∙ bind_each_are l (suc n) (bind_on d n ts) (rest_fits is_alone d l g) (bind_on_fits is_alone d n ts (first_fits is_alone d l g) h)

pub reciprocals_words_are :
    (name_at : ℕ → List ℕ) (scoped : Bool) (k first : ℕ) (ws : List ℕ) (m : ℕ) → trees_in ws ≡ some m
    → reciprocals_words name_at scoped k first ws ≡ all_tokens unnumbered (reciprocals_on (text_of ws name_at) scoped k first (read numbered ws))
unfolding reciprocals_words reciprocals_on
reciprocals_words_are name_at scoped k first ws m c =
    let ts = read numbered ws in
    let n = next_number k first ts in
    let ds = map (numbered_at ws) (divisors_to_bind ws name_at scoped) in
    ap (bind_each_words ds n) (sym (writes_back ws m c))
    ∙ bind_each_are ds n ts (trees_fit ws name_at m c (divisors_to_bind ws name_at scoped) (to_bind_fit_at ws name_at m c scoped)) (read_fits ws)
    ∙ ap (λ (l : List Tree). all_tokens unnumbered (bind_each_on l n ts)) (sym (to_bind_are ws name_at m c scoped))

-- ---- what is bound is within the code

pub bind_each_fits : (l : List Tree) (n : ℕ) (ts : List Tree) → T (all_coded is_alone l) → T (all_coded is_alone ts) → T (all_coded is_alone (bind_each_on l n ts))
unfolding bind_each_on
bind_each_fits [] n ts g h = h
bind_each_fits (d ∷ l) n ts g h = bind_each_fits l (suc n) (bind_on d n ts) (rest_fits is_alone d l g) (bind_on_fits is_alone d n ts (first_fits is_alone d l g) h)

pub reciprocals_fit :
    (name_at : ℕ → List ℕ) (scoped : Bool) (k first : ℕ) (ws : List ℕ) (m : ℕ) → trees_in ws ≡ some m
    → T (all_coded is_alone (reciprocals_on (text_of ws name_at) scoped k first (read numbered ws)))
unfolding reciprocals_on
reciprocals_fit name_at scoped k first ws m c =
    let ts = read numbered ws in
    subst (λ (l : List Tree). T (all_coded is_alone (bind_each_on l (next_number k first ts) ts))) (sym (to_bind_are ws name_at m c scoped))
    (bind_each_fits (map (numbered_at ws) (divisors_to_bind ws name_at scoped)) (next_number k first ts) ts
    (trees_fit ws name_at m c (divisors_to_bind ws name_at scoped) (to_bind_fit_at ws name_at m c scoped)) (read_fits ws))

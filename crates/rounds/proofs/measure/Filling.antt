-- What the pass over the places keeps: from a place on, the facts written are those of the trees there. Assumes nothing.
use Prim.Native.Nat.{ℕ, zero, suc, ◌+◌, ◌-◌, ◌*◌, ◌≤◌, ◌<◌}
use native.Mathlib.Omega.{arith}
use native.Mathlib.Nat.{add-zero}
use mathlib.Core.Path.{◌≡◌, refl, sym, ◌∙◌, ap}
use mathlib.Core.Option.{Option, none, some}
use mathlib.Core.List.{List, [], ◌∷◌, ◌++◌, append_assoc, map}
use lib.ListN.{length, get_or, take, drop, set, length-append, length-drop, get_or-append, take-append-drop}
use lib.Seq.{sets, sets-eq, take-append-le, take-take, drop_at, drop-drop, drop-cons, drop-length, get_or-append-add, length-take-le}
use Rattle.spec_tree.specs.Tree.{Tree, Op, nil}
use Rattle.spec_tree.specs.Facts.{total, size, cost, depth, has_symbol}
use Rattle.spec_tree.specs.Tokens.{takes, trees_in, trees_at, read, numbered, flag}
use Rattle.spec_tree.proofs.TokenLaws.{sizes, sizes_append, size_made, read_past, read_size, trees_length, trees_cons, made, tree_at, complete_tail, broken_end, complete_length}
use Rattle.spec_tree.proofs.FactLaws.{cost_size, depth_size, flag_one, size_one}
use Rattle.rounds.specs.measure.Columns.{place_facts, all_place_facts, column, Inside, Ready, WordFacts, Complete}
use Rattle.rounds.proofs.measure.WordFacts.{cost_made, depth_made, symbol_made}

-- ---- four words a tree

abbrev pub fact : ℕ → Tree → ℕ
fact c t = get_or (place_facts t) c 0

pub all_place_facts_length : (l : List Tree) → length (all_place_facts l) ≡ 4 * length l
unfolding all_place_facts place_facts
all_place_facts_length [] = refl
all_place_facts_length (t ∷ l) = omega (arith, all_place_facts_length l)

pub all_place_facts_at : (l : List Tree) (k c : ℕ) → k < length l → c < 4 → get_or (all_place_facts l) (4 * k + c) 0 ≡ fact c (get_or l k (Op 0 nil))
unfolding all_place_facts place_facts
all_place_facts_at [] k c h b = absurd (omega arith)
all_place_facts_at (t ∷ l) zero c h b =
    let e : 4 * 0 + c ≡ c = omega arith in
    rw e (get_or-append (place_facts t) (all_place_facts l) 0 c b)
all_place_facts_at (t ∷ l) (suc k) c h b =
    let e : 4 * suc k + c ≡ suc (suc (suc (suc (4 * k + c)))) = omega arith in
    rw e (all_place_facts_at l k c (omega arith) b)

-- no fact is more than the size
fact_size : (c : ℕ) (t : Tree) → c < 4 → fact c t ≤ size t
unfolding place_facts
fact_size zero t h = omega arith
fact_size (suc zero) t h = cost_size t
fact_size (suc (suc zero)) t h = depth_size t
fact_size (suc (suc (suc zero))) t h = omega (arith, flag_one (has_symbol t), size_one t)
fact_size (suc (suc (suc (suc c)))) t h = absurd (omega arith)

facts_sizes : (c : ℕ) (l : List Tree) → c < 4 → total (map (fact c) l) ≤ sizes l
unfolding total sizes
facts_sizes c [] h = omega arith
facts_sizes c (t ∷ l) h = omega (arith, fact_size c t h, facts_sizes c l h)

-- ---- the words while they are written

-- from place i on, the facts of the trees there; the rest as it was
unfoldable pub filled : List ℕ → List ℕ → ℕ → List ℕ
filled ws old i = take (4 * i) old ++ (all_place_facts (trees_at numbered (drop i ws)) ++ drop (4 * length ws) old)

module _ (ws old : List ℕ) (long : 4 * length ws ≤ length old) where
  filled_at : (i q c : ℕ) → i ≤ q → q < length ws → c < 4 → get_or (filled ws old i) (4 * q + c) 0 ≡ fact c (get_or (read numbered (drop q ws)) 0 (Op 0 nil))
  unfolding filled
  filled_at i q c h l b =
      let front = take (4 * i) old in
      let back = drop (4 * length ws) old in
      let ts = trees_at numbered (drop i ws) in
      let lf : length front ≡ 4 * i = length-take-le (4 * i) old (omega arith) in
      let lt : length ts ≡ length ws - i = trees_length numbered (drop i ws) ∙ length-drop i ws in
      let k : q - i < length ts = omega (arith, lt) in
      let e : 4 * q + c ≡ length front + (4 * (q - i) + c) = omega (arith, lf) in
      let inside : 4 * (q - i) + c < length (all_place_facts ts) = omega (arith, all_place_facts_length ts, lt) in
      let d : i + (q - i) ≡ q = omega arith in
      let t = tree_at numbered (drop i ws) (q - i) in
      rw (
        e,
        get_or-append-add front (all_place_facts ts ++ back) (4 * (q - i) + c) 0,
        get_or-append (all_place_facts ts) back 0 (4 * (q - i) + c) inside,
        all_place_facts_at ts (q - i) c k b,
        t,
        drop-drop (q - i) i ws,
        d,
      )

  filled_length : (i : ℕ) → i ≤ length ws → length (filled ws old i) ≡ length old
  unfolding filled
  filled_length i h =
      let ts = trees_at numbered (drop i ws) in
      let back = drop (4 * length ws) old in
      omega (
        arith,
        length-append (take (4 * i) old) (all_place_facts ts ++ back),
        length-append (all_place_facts ts) back,
        length-take-le (4 * i) old (omega arith),
        all_place_facts_length ts,
        trees_length numbered (drop i ws),
        length-drop i ws,
        length-drop (4 * length ws) old,
      )

-- ---- the operands of a word

-- what is known of the facts from a place on
abbrev pub Known : List ℕ → List ℕ → ℕ → Type 0
Known ws fs i = (q c : ℕ) → i ≤ q → q < length ws → c < 4 → get_or fs (4 * q + c) 0 ≡ fact c (get_or (read numbered (drop q ws)) 0 (Op 0 nil))

module _ (ws fs : List ℕ) (i : ℕ) (known : Known ws fs i) (room : 4 * length ws ≤ length fs) where
  abbrev here : ℕ → List Tree
  here p = read numbered (drop p ws)

  record Columns (n p : ℕ) : Type 0 where
    inside : Inside fs p n
    are : (c : ℕ) → c < 4 → column fs c p n ≡ map (fact c) (take n (here p))

  -- past the first tree
  past : (p : ℕ) (t : Tree) (ts : List Tree) → here p ≡ t ∷ ts → here (p + size t) ≡ ts
  unfolding sizes total
  past p t ts e =
      let r = read_past numbered (drop p ws) 1 in
      let s : sizes (take 1 (here p)) ≡ size t = rw e (add-zero (size t)) in
      rw (← drop-drop (size t) p ws, ← s) (r ∙ ap (drop 1) e)

  -- the first tree ends inside
  ends : (p : ℕ) (t : Tree) (ts : List Tree) → here p ≡ t ∷ ts → p + size t ≤ length ws
  unfolding sizes total
  ends p t ts e =
      let s : sizes (t ∷ ts) ≡ length (drop p ws) = rw e at (read_size numbered (drop p ws)) in
      omega (arith, s, length-drop p ws, size_one t)

  columns : (n p : ℕ) → i ≤ p → n ≤ length (here p) → Columns n p
  unfolding column Inside place_facts
  columns zero p h l = record { inside = tt; are = λ c b. refl }
  columns (suc n) p h l = go (λ q a b. columns n q a b) (here p) refl l
    where
      go : ((q : ℕ) → i ≤ q → n ≤ length (here q) → Columns n q) → (ts : List Tree) → here p ≡ ts → suc n ≤ length ts → Columns (suc n) p
      go fewer [] e l = absurd (omega arith)
      go fewer (t ∷ ts) e l =
          let w = ends p t ts e in
          let inw : p < length ws = omega (arith, w, size_one t) in
          let at : (c : ℕ) → c < 4 → get_or fs (4 * p + c) 0 ≡ fact c t = λ c b. known p c h inw b ∙ ap (λ (l : List Tree). fact c (get_or l 0 (Op 0 nil))) e in
          let z : 4 * p + 0 ≡ 4 * p = omega arith in
          let sz : get_or fs (4 * p) 0 ≡ size t = rw z at (at 0 (omega arith)) in
          let q = past p t ts e in
          let more = fewer (p + size t) (omega arith) (rw q (omega arith)) in
          record {
            inside = (omega (arith, inw, room), omega (arith, sz, w, room), rw sz more.inside);
            are = λ c b. rw (sz, at c b, more.are c b, q, e);
          }

  -- the operands of the word before place p, where no word lacks any
  module _ (j : ℕ) (inside : j < length ws) (next : i ≡ j + 1) (complete : Complete ws) where
    abbrev w : ℕ
    w = get_or ws j 0

    enough : takes (get_or ws j 0) ≤ length (here (j + 1))
    enough = go (trees_in (drop j ws)) refl
      where
        go : (o : Option ℕ) → trees_in (drop j ws) ≡ o → takes (get_or ws j 0) ≤ length (here (j + 1))
        go none e = absurd (complete (broken_end j ws e))
        go (some n) e =
            let s : j + 1 ≡ suc j = omega arith in
            let t = complete_tail w (drop (suc j) ws) n (rw (drop-cons ws j 0 inside) at e) in
            rw s (omega (arith, t.enough, complete_length numbered (drop (suc j) ws) t.trees t.are))

    operand_columns : Columns (takes (get_or ws j 0)) (j + 1)
    operand_columns = columns (takes w) (j + 1) (omega arith) enough

    pub ready : Ready (length ws) fs (j + 1) (takes (get_or ws j 0))
    ready =
        let k = operand_columns in
        let ts = here (j + 1) in
        let all = sizes_append (take (takes w) ts) (drop (takes w) ts) in
        record {
          inside = k.inside;
          sums = λ c b.
              rw (k.are c b)
              (omega (arith, facts_sizes c (take (takes w) ts) b, rw take-append-drop at all, read_size numbered (drop (j + 1) ws), length-drop (j + 1) ws));
        }

    pub word_facts_are :
        {s c d h : ℕ} → WordFacts (get_or ws j 0) fs (j + 1) s c d h → s ∷ c ∷ d ∷ h ∷ [] ≡ place_facts (made numbered (get_or ws j 0) (here (j + 1)))
    unfolding place_facts sizes
    word_facts_are {s} {c} {d} {h} f =
        let k = operand_columns in
        let l = here (j + 1) in
        let es : s ≡ size (made numbered w l) = f.size_is ∙ rw (k.are 0 (omega arith), size_made numbered w l) (omega arith) in
        let ec : c ≡ cost (made numbered w l) = f.cost_is ∙ rw (k.are 1 (omega arith), cost_made numbered w l) in
        let ed : d ≡ depth (made numbered w l) = f.depth_is ∙ rw (k.are 2 (omega arith), depth_made numbered w l) in
        let eh : h ≡ flag (has_symbol (made numbered w l)) = f.symbol_is ∙ rw (k.are 3 (omega arith), symbol_made numbered w l) in
        cc

-- ---- the pass

pub record Filling (ws old fs : List ℕ) (i : ℕ) : Type 0 where
  pub inside : i ≤ length ws
  pub long : 4 * length ws ≤ length old
  pub is : fs ≡ filled ws old i
  pub room : length fs ≡ length old

filling : (ws old : List ℕ) (i : ℕ) → i ≤ length ws → 4 * length ws ≤ length old → (fs : List ℕ) → fs ≡ filled ws old i → Filling ws old fs i
filling ws old i h l fs e = record { inside = h; long = l; is = e; room = ap length e ∙ filled_length ws old l i h }

pub filling_starts : (ws old : List ℕ) → 4 * length ws ≤ length old → Filling ws old old (length ws)
unfolding filled trees_at all_place_facts
filling_starts ws old h = filling ws old (length ws) (omega arith) h old (rw (drop-length ws) (sym (take-append-drop (4 * length ws) old)))

pub filling_ends : {ws old fs : List ℕ} {i : ℕ} → Filling ws old fs i → i ≤ 0 → fs ≡ all_place_facts (trees_at numbered ws) ++ drop (4 * length ws) old
unfolding filled
filling_ends {ws} {old} {fs} {i} f h = let z : i ≡ 0 = omega arith in rw z at f.is

pub filling_known : {ws old fs : List ℕ} {i : ℕ} → Filling ws old fs i → Known ws fs i
filling_known {ws} {old} {fs} {i} f = λ q c h l b. rw f.is (filled_at ws old f.long i q c h l b)

-- the words that `facts_at` reads before place i are there
pub filling_ready : {ws old fs : List ℕ} {i : ℕ} → Filling ws old fs i → 0 < i → Complete ws → Ready (length ws) fs (i - 1 + 1) (takes (get_or ws (i - 1) 0))
filling_ready {ws} {old} {fs} {i} f h c = ready ws fs i (filling_known f) (omega (arith, f)) (i - 1) (omega (arith, f)) (omega arith) c

-- four stores
stores : (fs : List ℕ) (r a b c d : ℕ) → set (set (set (set fs r a) (r + 1) b) (r + 2) c) (r + 3) d ≡ sets fs r (a ∷ b ∷ c ∷ d ∷ [])
stores fs r a b c d =
    let p1 : r + 1 ≡ suc r = omega arith in
    let p2 : r + 2 ≡ suc (suc r) = omega arith in
    let p3 : r + 3 ≡ suc (suc (suc r)) = omega arith in
    rw (p1, p2, p3)

facts_length : (t : Tree) → length (place_facts t) ≡ 4
unfolding place_facts
facts_length t = refl

all_place_facts_cons : (t : Tree) (l : List Tree) → all_place_facts (t ∷ l) ≡ place_facts t ++ all_place_facts l
unfolding all_place_facts
all_place_facts_cons t l = refl

-- the facts of one tree more, in front
filled_more : (ws old : List ℕ) (j : ℕ) → j < length ws → 4 * length ws ≤ length old → sets (filled ws old (j + 1)) (4 * j) (place_facts (made numbered (get_or ws j 0) (read numbered (drop (j + 1) ws)))) ≡ filled ws old j
unfolding filled
filled_more ws old j h long =
    let t = made numbered (get_or ws j 0) (read numbered (drop (j + 1) ws)) in
    let ts = trees_at numbered (drop (j + 1) ws) in
    let rest = drop (4 * length ws) old in
    let back = all_place_facts ts ++ rest in
    let front = take (4 * (j + 1)) old in
    let fs = front ++ back in
    let lf : length front ≡ 4 * j + 4 = length-take-le (4 * (j + 1)) old (omega arith) ∙ omega arith in
    let l : 4 * j + length (place_facts t) ≤ length fs = omega (arith, length-append front back, lf, facts_length t) in
    let a : take (4 * j) fs ≡ take (4 * j) old =
    take-append-le (4 * j) front back (omega (arith, lf)) ∙ take-take (4 * j) (4 * (j + 1)) old (omega arith) in
    let b : drop (4 * j + 4) fs ≡ back = drop_at front back (4 * j + 4) lf in
    let s : j + 1 ≡ suc j = omega arith in
    let d : trees_at numbered (drop j ws) ≡ t ∷ trees_at numbered (drop (j + 1) ws) =
    rw (drop-cons ws j 0 h, trees_cons numbered (get_or ws j 0) (drop (suc j) ws), ← s) refl in
    sets-eq (place_facts t) fs (4 * j) l
    ∙ rw (facts_length t, a, b, d, all_place_facts_cons t ts, append_assoc (take (4 * j) old) (place_facts t) back, append_assoc (place_facts t) (all_place_facts ts) rest) refl

pub filling_turns :
    {ws old fs : List ℕ} {i : ℕ} → Filling ws old fs i → 0 < i → Complete ws → (s c d h : ℕ) → WordFacts (get_or ws (i - 1) 0) fs (i - 1 + 1) s c d h
    → Filling ws old (set (set (set (set fs (4 * (i - 1)) s) (4 * (i - 1) + 1) c) (4 * (i - 1) + 2) d) (4 * (i - 1) + 3) h) (i - 1)
filling_turns {ws} {old} {fs} {i} f pos complete s c d h w =
    let j = i - 1 in
    let e = word_facts_are ws fs i (filling_known f) (omega (arith, f)) j (omega (arith, f)) (omega arith) complete w in
    let k : i ≡ j + 1 = omega arith in
    let is : fs ≡ filled ws old (j + 1) = f.is ∙ ap (filled ws old) k in
    filling ws old j (omega (arith, f)) f.long (set (set (set (set fs (4 * j) s) (4 * j + 1) c) (4 * j + 2) d) (4 * j + 3) h)
    (stores fs (4 * j) s c d h
    ∙ (ap (sets fs (4 * j)) e
    ∙ (ap (λ (l : List ℕ). sets l (4 * j) (place_facts (made numbered (get_or ws j 0) (read numbered (drop (j + 1) ws))))) is
    ∙ filled_more ws old j (omega (arith, f)) f.long)))

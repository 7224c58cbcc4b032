-- Runs of words taken apart: the first tree and those after it, a tree's word and its operands. Assumes nothing.
use Rattle.std.proofs.Common.{◌≡◌, ℕ, zero, suc, ◌+◌, ◌-◌, ◌<◌, ◌≤◌, List, [], ◌∷◌, map, length, get_or, take, drop, sym, refl, ap, ◌∙◌, subst, ap₂, arith, length-drop, drop-cons, drop-drop, take-add}
use mathlib.Core.Option.{some}
use Rattle.spec_tree.specs.Tree.{Tree, Op, nil}
use Rattle.spec_tree.specs.Facts.{total, size}
use Rattle.spec_tree.specs.Tokens.{numbered, takes, tree_of_word, read, words_of, run_at}
use Rattle.spec_tree.proofs.TokenLaws.{sizes, sizes_append, size_made, read_past, read_cons, tree_at, words_tail, words_none, some_is, first_size}
use Rattle.replace.specs.factors.Places.{tree, trees_from, Stands}

-- ---- a run in two

pub record Split (us : List ℕ) (a b m : ℕ) : Type 0 where
  pub first : ℕ
  pub first_are : words_of us a ≡ some first
  pub within : first ≤ m
  pub rest_are : words_of (drop first us) b ≡ some (m - first)

pub no_words : (n m : ℕ) → words_of [] (suc n) ≡ some m → ◌≡◌ {A = ℕ} 0 1
unfolding words_of
no_words n m e = cc

words_cons : (w : ℕ) (us : List ℕ) (n m : ℕ) → words_of us (n + takes w) ≡ some m → words_of (w ∷ us) (suc n) ≡ some (suc m)
unfolding words_of
words_cons w us n m e = rw e

none_first : (us : List ℕ) (b m : ℕ) → words_of us (0 + b) ≡ some m → Split us 0 b m
none_first us b m e =
    let z : 0 + b ≡ b = omega arith in
    let d : m - 0 ≡ m = omega arith in
    record { first = 0; first_are = words_none us; within = omega arith; rest_are = rw (d, ← z) e }

one_more : (w : ℕ) (us : List ℕ) (a b m n : ℕ) → m ≡ suc n → Split us (a + takes w) b n → Split (w ∷ us) (suc a) b m
one_more w us a b m n e h =
    let d : n - h.first ≡ m - suc h.first = omega arith in
    record {
      first = suc h.first;
      first_are = words_cons w us a h.first h.first_are;
      within = omega (arith, h.within);
      rest_are = subst (λ (k : ℕ). words_of (drop h.first us) b ≡ some k) d h.rest_are;
    }

pub words_split : (us : List ℕ) (a b m : ℕ) → words_of us (a + b) ≡ some m → Split us a b m
words_split [] zero b m e = none_first [] b m e
words_split (w ∷ us) zero b m e = none_first (w ∷ us) b m e
words_split [] (suc a) b m e =
    let z : suc a + b ≡ suc (a + b) = omega arith in
    absurd (let q : ◌≡◌ {A = ℕ} 0 1 = no_words (a + b) m (subst (λ (n : ℕ). words_of [] n ≡ some m) z e) in omega arith)
words_split (w ∷ us) (suc a) b m e =
    let z : suc a + b ≡ suc (a + b) = omega arith in
    let t = words_tail w us (a + b) m (subst (λ (n : ℕ). words_of (w ∷ us) n ≡ some m) z e) in
    let c : a + b + takes w ≡ a + takes w + b = omega arith in
    one_more w us a b m t.words t.one_more (words_split us (a + takes w) b t.words (subst (λ (n : ℕ). words_of us n ≡ some t.words) c t.are))

-- ---- a run is as long as its trees

pub record Trees (us : List ℕ) (n m : ℕ) : Type 0 where
  pub enough : n ≤ length (read numbered us)
  pub long : m ≡ sizes (take n (read numbered us))

nothing : (us : List ℕ) (m : ℕ) → words_of us 0 ≡ some m → Trees us 0 m
unfolding sizes total
nothing us m e = record { enough = omega arith; long = some_is (sym e ∙ words_none us) }

pub words_are : (us : List ℕ) (n m : ℕ) → words_of us n ≡ some m → Trees us n m
unfolding sizes total
words_are [] zero m e = nothing [] m e
words_are (w ∷ us) zero m e = nothing (w ∷ us) m e
words_are [] (suc n) m e = absurd (let q = no_words n m e in omega arith)
words_are (w ∷ us) (suc n) m e =
    let t = words_tail w us n m e in
    let h = words_are us (n + takes w) t.words t.are in
    let rs = read numbered us in
    let a = takes w in
    let s : a + n ≡ n + a = omega arith in
    let both = sizes_append (take a rs) (take n (drop a rs)) in
    let l = length-drop a rs in
    let all : suc (sizes (take (n + a) rs)) ≡ sizes (take (suc n) (read numbered (w ∷ us))) =
    rw (← s, take-add a n rs, read_cons numbered w us, size_made numbered w rs) (omega (arith, both)) in
    record {
      enough = rw (read_cons numbered w us) (omega (arith, h.enough, l));
      long = t.one_more ∙ (ap suc h.long ∙ all);
    }

-- ---- the first tree

cons_form : (ts : List Tree) → 1 ≤ length ts → ts ≡ get_or ts 0 (Op 0 nil) ∷ drop 1 ts
cons_form [] h = absurd (omega arith)
cons_form (t ∷ ts) h = refl

pub record First (ws : List ℕ) (at n : ℕ) : Type 0 where
  pub alone : Stands ws at 1
  pub rest : Stands ws (at + size (tree ws at)) n
  pub are : trees_from ws at (suc n) ≡ tree ws at ∷ trees_from ws (at + size (tree ws at)) n

pub first_of : {ws : List ℕ} {at n : ℕ} → Stands ws at (suc n) → First ws at n
unfolding trees_from
first_of {ws} {at} {n} s =
    let us = drop at ws in
    let rs = read numbered us in
    let z : suc n ≡ 1 + n = omega arith in
    let p = words_split us 1 n s.run (subst (λ (k : ℕ). words_of us k ≡ some s.run) z s.are) in
    let h = words_are us 1 p.first p.first_are in
    let g : get_or rs 0 (Op 0 nil) ≡ tree ws at = sym (tree_at numbered ws at) in
    let k : p.first ≡ size (tree ws at) = h.long ∙ (first_size rs h.enough ∙ ap size g) in
    let d : drop p.first us ≡ drop (at + size (tree ws at)) ws = drop-drop p.first at ws ∙ ap (λ (j : ℕ). drop (at + j) ws) k in
    let past : drop 1 rs ≡ read numbered (drop (at + size (tree ws at)) ws) =
    sym (read_past numbered us 1) ∙ (ap (λ (j : ℕ). read numbered (drop j us)) (sym h.long) ∙ ap (read numbered) d) in
    record {
      alone = record { run = p.first; are = p.first_are };
      rest = record { run = s.run - p.first; are = subst (λ (l : List ℕ). words_of l n ≡ some (s.run - p.first)) d p.rest_are };
      are = ap (take (suc n)) (cons_form rs h.enough) ∙ ap₂ (λ (t : Tree) (l : List Tree). t ∷ take n l) g past;
    }

pub none_from : (ws : List ℕ) (at : ℕ) → trees_from ws at 0 ≡ []
unfolding trees_from
none_from ws at = refl

-- ---- a tree's word and its operands

pub record Node (ws : List ℕ) (at : ℕ) : Type 0 where
  pub inside : at < length ws
  pub operands : Stands ws (at + 1) (takes (get_or ws at 0))
  pub is : tree ws at ≡ tree_of_word numbered (get_or ws at 0) (trees_from ws (at + 1) (takes (get_or ws at 0)))
  pub long : size (tree ws at) ≡ suc (total (map size (trees_from ws (at + 1) (takes (get_or ws at 0)))))

run_inside : (ws : List ℕ) (at m : ℕ) → words_of (drop at ws) 1 ≡ some m → at < length ws
run_inside ws at m e = go (drop at ws) refl e
  where
    go : (us : List ℕ) → drop at ws ≡ us → words_of us 1 ≡ some m → at < length ws
    go [] d e = absurd (let q = no_words 0 m e in omega arith)
    go (w ∷ us) d e = omega (arith, length-drop at ws, ap length d)

pub node_of : {ws : List ℕ} {at : ℕ} → Stands ws at 1 → Node ws at
unfolding trees_from sizes
node_of {ws} {at} s =
    let w = get_or ws at 0 in
    let i = run_inside ws at s.run s.are in
    let o : suc at ≡ at + 1 = omega arith in
    let us = drop (at + 1) ws in
    let d : drop at ws ≡ w ∷ us = drop-cons ws at 0 i ∙ ap (λ (k : ℕ). w ∷ drop k ws) o in
    let t = words_tail w us 0 s.run (subst (λ (l : List ℕ). words_of l 1 ≡ some s.run) d s.are) in
    let z : 0 + takes w ≡ takes w = omega arith in
    let is : tree ws at ≡ tree_of_word numbered w (take (takes w) (read numbered us)) =
    tree_at numbered ws at ∙ (ap (λ (l : List ℕ). get_or (read numbered l) 0 (Op 0 nil)) d ∙ ap (λ (l : List Tree). get_or l 0 (Op 0 nil)) (read_cons numbered w us)) in
    record {
      inside = i;
      operands = record { run = t.words; are = subst (λ (k : ℕ). words_of us k ≡ some t.words) z t.are };
      is = is;
      long = ap size is ∙ size_made numbered w (read numbered us);
    }

-- as `run_at` says it
pub stands_run : {ws : List ℕ} {at : ℕ} → Stands ws at 1 → run_at ws at ≡ some (size (tree ws at))
unfolding run_at trees_from
stands_run {ws} {at} s =
    let h = words_are (drop at ws) 1 s.run s.are in
    s.are ∙ ap some (h.long ∙ (first_size (read numbered (drop at ws)) h.enough ∙ ap size (sym (tree_at numbered ws at))))

pub run_stands : (ws : List ℕ) (at n : ℕ) → run_at ws at ≡ some n → Stands ws at 1
unfolding run_at
run_stands ws at n e = record { run = n; are = e }

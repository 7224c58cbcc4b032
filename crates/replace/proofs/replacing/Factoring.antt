-- A product with matches written: what stands before its factors, the factors left, each rewritten by itself, and the names. Assumes nothing.
use Rattle.std.proofs.Common.{◌≡◌, ℕ, zero, suc, ◌+◌, ◌-◌, ◌<◌, ◌≤◌, List, [], ◌∷◌, ◌++◌, length, get_or, take, drop, sym, refl, ap, ◌∙◌, subst, ap₂, append_assoc, append-nil, arith, length-append, length-drop, take-append-drop, length-take-le, take_all, get_or-take, take-suc, drop-drop, take_at, drop_at}
use borrow.Rule.Slice.PartMut.{put_mid}
use Rattle.spec_tree.specs.Outcome.{Refusal, Outcome, ok, refused, ◌>>=◌, each}
use Rattle.spec_tree.specs.Tree.{Tree, Op, nil}
use Rattle.spec_tree.specs.Facts.{size}
use Rattle.spec_tree.specs.Rows.{occurrences}
use Rattle.spec_tree.specs.Tokens.{numbered, read, tokens, all_tokens, run_at}
use Rattle.spec_tree.proofs.FactLaws.{size_one}
use Rattle.spec_tree.proofs.TokenLaws.{complete_length, tree_at}
use Rattle.spec_tree.proofs.TokenCode.{all_tokens_append}
use Rattle.words.specs.words.Words.{number, tree_of, name_of}
use Rattle.words.proofs.words.Rewriting.{segment}
use Rattle.words.proofs.words.Scanning.{put_lent}
use Rattle.replace.specs.factors.Places.{tree, at_places}
use Rattle.replace.specs.replacing.Replacing.{repeated, head_words}
use Rattle.replace.specs.replacing.Deciding.{Trees, Target, Within, rewritten, rewritten_words, Match, product_out, Wrote, Left}
use Rattle.replace.proofs.closed.Chain.{each_both}
use Rattle.replace.proofs.replacing.Turns.{replaced_read}
use Rattle.replace.proofs.replacing.Targets.{fewer_words}
use Rattle.replace.proofs.replacing.Products.{repeated_long}
use Rattle.replace.proofs.replacing.Scanning.{trees_at}
use Rattle.spec_tree.proofs.Lists.{rest_back, occurrences_append}

-- ---- the trees at some places

places_get : (ws ps : List ℕ) (j : ℕ) → j < length ps → get_or (at_places ws ps) j (Op 0 nil) ≡ tree ws (get_or ps j 0)
unfolding at_places
places_get ws [] j h = absurd (omega arith)
places_get ws (p ∷ ps) zero h = refl
places_get ws (p ∷ ps) (suc j) h = places_get ws ps j (omega arith)

places_long : (ws ps : List ℕ) → length (at_places ws ps) ≡ length ps
unfolding at_places
places_long ws [] = refl
places_long ws (p ∷ ps) = ap suc (places_long ws ps)

occurrences_one : (t : Tree) → occurrences (t ∷ []) ≡ size t
unfolding occurrences
occurrences_one t = omega arith

occurrences_up : (l : List Tree) → length l ≤ occurrences l
unfolding occurrences
occurrences_up [] = omega arith
occurrences_up (t ∷ l) = (let i = occurrences_up l in let j = size_one t in omega arith)

module _ (part : List ℕ) (name : ℕ) (t : Target part name) (ws : List ℕ) (h : Trees ws) (places₀ : List ℕ) (left copies code long : ℕ) (m : Match part name ws places₀ left copies code long) (old : List ℕ) where
  abbrev rep : Tree → Outcome Tree
  rep = rewritten part name

  abbrev X : List Tree
  X = at_places ws (take left places₀)

  abbrev H : List ℕ
  H = head_words code (left + copies - 1)

  XLong : length X ≡ left
  XLong = places_long ws (take left places₀) ∙ length-take-le left places₀ m.there

  abbrev x : ℕ → Tree
  x j = tree ws (get_or places₀ j 0)

  XAt : (j : ℕ) → j < left → take (suc j) X ≡ take j X ++ (x j ∷ [])
  XAt j l =
      take-suc X j (Op 0 nil) (omega (arith, XLong))
      ∙ ap (λ (y : Tree). take j X ++ (y ∷ [])) (places_get ws (take left places₀) j (omega (arith, length-take-le left places₀ m.there)) ∙ ap (tree ws) (get_or-take left places₀ j 0 l))

  -- those up to j and the next are no more than all
  sums : (j : ℕ) → j < left → occurrences (take j X) + size (x j) + (left - suc j) ≤ occurrences X
  sums j l =
      (let a = ap occurrences (sym (take-append-drop (suc j) X)) ∙ occurrences_append (take (suc j) X) (drop (suc j) X) in
      let b = ap occurrences (XAt j l) ∙ occurrences_append (take j X) (x j ∷ []) in
      let c = occurrences_one (x j) in
      let d = occurrences_up (drop (suc j) X) in
      let e = length-drop (suc j) X in
      let f = XLong in
      omega arith)

  take_up : (j : ℕ) → j ≤ left → j ≤ occurrences (take j X)
  take_up j l = (let a = occurrences_up (take j X) in let b = length-take-le j X (omega (arith, XLong)) in omega arith)

  pub record Factored (out places : List ℕ) (o j : ℕ) : Type 0 where
    pub most : j ≤ left
    pub front : take left places ≡ take left places₀
    pub same : length places ≡ length places₀
    pub wide : length out ≡ length old
    pub trees : List Tree
    pub are : each rep (take j X) ≡ ok trees
    pub many : o ≡ length H + length (all_tokens number trees)
    pub written : out ≡ (H ++ all_tokens number trees) ++ drop o old
    pub fewer : length (all_tokens number trees) ≤ occurrences (take j X)

  pub factor_starts : (r : ℕ) (out : List ℕ) → r ≡ length H → out ≡ H ++ drop (length H) old → length out ≡ length old → Factored out places₀ r 0
  unfolding each all_tokens
  factor_starts r out e f g =
      record {
        most = omega arith;
        front = refl;
        same = refl;
        wide = g;
        trees = [];
        are = refl;
        many = omega arith;
        written = f ∙ ap₂ (λ (a : List ℕ) (k : ℕ). a ++ drop k old) (sym (append-nil H)) (sym e);
        fewer = omega arith;
      }

  module _ {out places : List ℕ} {o j : ℕ} (s : Factored out places o j) where
    pub at_is : j < left → get_or places j 0 ≡ get_or places₀ j 0
    at_is l = sym (get_or-take left places j 0 l) ∙ ap (λ (p : List ℕ). get_or p j 0) s.front ∙ get_or-take left places₀ j 0 l

    pub here_within : j < left → Within ws long (get_or places j 0)
    here_within l = subst (Within ws long) (sym (at_is l)) (m.within j l)

    module _ (l : j < left) where
      pub here_smaller : size (tree ws (get_or places j 0)) < long
      here_smaller = (let a = sums j l in let b = m.smaller in let c = ap (λ (p : ℕ). size (tree ws p)) (at_is l) in omega arith)

      pub here_scratch : long + long ≤ length places₀ → size (tree ws (get_or places j 0)) + size (tree ws (get_or places j 0)) ≤ length places - left
      here_scratch r =
          (let a = sums j l in
          let b = m.smaller in
          let c = ap (λ (p : ℕ). size (tree ws p)) (at_is l) in
          let d = take_up j s.most in
          let e = s.same in
          omega arith)

      pub here_room : long ≤ length old → size (tree ws (get_or places j 0)) ≤ length out - o
      here_room r =
          (let a = sums j l in
          let b = m.room in
          let c = ap (λ (p : ℕ). size (tree ws p)) (at_is l) in
          let d = s.many in
          let e = s.fewer in
          let f = s.wide in
          omega arith)

      pub here_inside : long ≤ length old → o ≤ length out
      here_inside r = (let a = sums j l in let b = m.room in let d = s.many in let e = s.fewer in let f = s.wide in omega arith)

      abbrev at : ℕ
      at = get_or places j 0

      abbrev run : List ℕ
      run = take (size (tree ws at)) (drop at ws)

      -- the words of the factor alone
      run_read : read numbered run ≡ tree ws at ∷ []
      unfolding run_at
      run_read =
          let g = segment (drop at ws) 1 (size (tree ws at)) (here_within l).run in
          let n = complete_length numbered run 1 g.whole in
          only (read numbered run) n
          ∙ ap (λ (y : Tree). y ∷ []) (ap (λ (r : List Tree). get_or r 0 (Op 0 nil)) g.first ∙ first_taken (read numbered (drop at ws)) (ap length (sym g.first) ∙ n) ∙ sym (tree_at numbered ws at))
        where
          only : (r : List Tree) → length r ≡ 1 → r ≡ get_or r 0 (Op 0 nil) ∷ []
          only [] e = absurd (omega arith)
          only (y ∷ []) e = refl
          only (y ∷ (z ∷ r)) e = absurd (omega arith)

          first_taken : (r : List Tree) → length (take 1 r) ≡ 1 → get_or (take 1 r) 0 (Op 0 nil) ≡ get_or r 0 (Op 0 nil)
          first_taken [] e = refl
          first_taken (y ∷ r) e = refl

      pub run_trees : Trees run
      run_trees = trees_at ws at (size (tree ws at)) h (here_within l).run

      run_out : rewritten_words part name run ≡ (rep (tree ws at) >>= λ u. ok (tokens number u ++ []))
      unfolding each all_tokens
      run_out = replaced_read (tree_of part) (name_of name) run (tree ws at ∷ []) run_read ∙ go (rep (tree ws at))
        where
          go : (p : Outcome Tree) → ((p >>= λ u. ok [] >>= λ r. ok (u ∷ r)) >>= λ r. ok (all_tokens number r)) ≡ (p >>= λ u. ok (tokens number u ++ []))
          go (ok u) = refl
          go (refused i) = refl

      ok_tree : (new : List ℕ) → rewritten_words part name run ≡ ok new → (u : Tree) × ((rep (tree ws at) ≡ ok u) × (new ≡ all_tokens number (u ∷ [])))
      unfolding all_tokens
      ok_tree new e = go (rep (tree ws at)) (sym run_out ∙ e)
        where
          go : (p : Outcome Tree) → (p >>= λ u. ok (tokens number u ++ [])) ≡ ok new → (u : Tree) × ((p ≡ ok u) × (new ≡ tokens number u ++ []))
          go (ok u) q = (u, (refl, let z : tokens number u ++ [] ≡ new = cc in sym z))
          go (refused i) q = (let z : ◌≡◌ {A = ℕ} 0 1 = cc in absurd (omega arith))

      refused_tree : (r : Refusal) → rewritten_words part name run ≡ refused r → rep (tree ws at) ≡ refused r
      refused_tree r e = go (rep (tree ws at)) (sym run_out ∙ e)
        where
          go : (p : Outcome Tree) → (p >>= λ u. ok (tokens number u ++ [])) ≡ refused r → p ≡ refused r
          go (ok u) q = (let z : ◌≡◌ {A = ℕ} 0 1 = cc in absurd (omega arith))
          go (refused i) q = (let z : i ≡ r = cc in ap (λ (y : Refusal). refused y) z)

      pub run_long : length run ≡ size (tree ws at)
      unfolding run_at
      run_long = length-take-le (size (tree ws at)) (drop at ws) (segment (drop at ws) 1 (size (tree ws at)) (here_within l).run).within

      -- one factor more
      pub factor_turns :
          long ≤ length old → (n : ℕ) (y : List ℕ) → Wrote (rewritten_words part name run) (take (length out - o) (drop o out)) n y → (z : List ℕ) → length z ≡ length (drop left places)
          → Factored (put_mid o (length out - o) out y) (put_mid left (length places - left) places z) (o + n) (j + 1)
      unfolding each
      factor_turns r n y w z lz =
          let u = ok_tree w.new w.is in
          let T' = s.trees ++ (u.0 ∷ []) in
          let jj : suc j ≡ j + 1 = omega arith in
          let tk : take (j + 1) X ≡ take j X ++ (tree ws at ∷ []) = ap (λ (k : ℕ). take k X) (sym jj) ∙ XAt j l ∙ ap (λ (p : ℕ). take j X ++ (tree ws p ∷ [])) (sym (at_is l)) in
          let al : all_tokens number T' ≡ all_tokens number s.trees ++ w.new = all_tokens_append number s.trees (u.0 ∷ []) ∙ ap (λ (q : List ℕ). all_tokens number s.trees ++ q) (sym u.1.1) in
          let len = ap length al ∙ length-append (all_tokens number s.trees) w.new in
          let few = fewer_words part name t run w.new run_trees w.is in
          let occ = ap occurrences tk ∙ occurrences_append (take j X) (tree ws at ∷ []) in
          let on = occurrences_one (tree ws at) in
          let fl : length (H ++ all_tokens number s.trees) ≡ o = length-append H (all_tokens number s.trees) ∙ sym s.many in
          let put = put_lent out y w.new o (w.words ∙ ap (λ (k : ℕ). w.new ++ drop k (take (length out - o) (drop o out))) w.count) in
          let first : take o out ≡ H ++ all_tokens number s.trees = ap (take o) s.written ∙ take_at (H ++ all_tokens number s.trees) (drop o old) o fl in
          let tail : drop o out ≡ drop o old = ap (drop o) s.written ∙ drop_at (H ++ all_tokens number s.trees) (drop o old) o fl in
          let nn : o + length w.new ≡ o + n = ap (λ (k : ℕ). o + k) (sym w.count) in
          let past : drop (o + length w.new) out ≡ drop (o + n) old =
          sym (drop-drop (length w.new) o out) ∙ ap (drop (length w.new)) tail ∙ drop-drop (length w.new) o old ∙ ap (λ (k : ℕ). drop k old) nn in
          let pz : put_mid left (length places - left) places z ≡ take left places ++ z = rest_back places z left in
          let lt : length (take left places) ≡ left = length-take-le left places (omega (arith, s.same, m.there)) in
          record {
            most = omega arith;
            front = ap (take left) pz ∙ take_at (take left places) z left lt ∙ s.front;
            same = ap length pz ∙ length-append (take left places) z ∙ (let ld = length-drop left places in let th = m.there in omega (arith, s.same));
            wide =
                ap length put ∙ length-append (take o out) (w.new ++ drop (o + length w.new) out)
                ∙ (let a = length-append w.new (drop (o + length w.new) out) in
                let b = length-drop (o + length w.new) out in
                let c = length-take-le o out (here_inside r) in
                let d = here_room r in
                let e = run_long in
                let f = s.wide in
                let g = here_inside r in
                omega arith);
            trees = T';
            are = ap (each rep) tk ∙ each_both rep (take j X) (tree ws at ∷ []) ∙ joined (each rep (take j X)) s.are (rep (tree ws at)) u.1.0;
            many = (let a = s.many in let b = w.count in omega arith);
            written =
                put ∙ ap₂ (λ (a b : List ℕ). a ++ (w.new ++ b)) first past
                ∙ append_assoc H (all_tokens number s.trees) (w.new ++ drop (o + n) old)
                ∙ ap (λ (q : List ℕ). H ++ q) (sym (append_assoc (all_tokens number s.trees) w.new (drop (o + n) old)))
                ∙ sym (append_assoc H (all_tokens number s.trees ++ w.new) (drop (o + n) old))
                ∙ ap (λ (q : List ℕ). (H ++ q) ++ drop (o + n) old) (sym al);
            fewer = (let a = s.fewer in let e = run_long in omega arith);
          }
        where
          joined : (p : Outcome (List Tree)) → p ≡ ok s.trees → (q : Outcome Tree) {u : Tree} → q ≡ ok u
              → (p >>= λ a. (q >>= λ v. ok [] >>= λ r. ok (v ∷ r)) >>= λ b. ok (a ++ b)) ≡ ok (s.trees ++ (u ∷ []))
          joined p e q {u} f = ap₂ (λ (x : Outcome (List Tree)) (y : Outcome Tree). x >>= λ a. (y >>= λ v. ok [] >>= λ r. ok (v ∷ r)) >>= λ b. ok (a ++ b)) e f

      -- a factor is refused
      pub factor_refused :
          long ≤ length old → (y : List ℕ) → Left (rewritten_words part name run) (length run) (take (length out - o) (drop o out)) y
          → Left (product_out part name ws) long old (put_mid o (length out - o) out y)
      unfolding each
      factor_refused r y f =
          let jj : suc j ≡ j + 1 = omega arith in
          let tk : take (suc j) X ≡ take j X ++ (tree ws at ∷ []) = XAt j l ∙ ap (λ (p : ℕ). take j X ++ (tree ws p ∷ [])) (sym (at_is l)) in
          let one : each rep (tree ws at ∷ []) ≡ refused f.why = each_one (tree ws at) f.why (refused_tree f.why f.is) in
          let upto : each rep (take (suc j) X) ≡ refused f.why =
          ap (each rep) tk ∙ each_both rep (take j X) (tree ws at ∷ [])
          ∙ ap₂ (λ (a b : Outcome (List Tree)). a >>= λ c. b >>= λ d. ok (c ++ d)) s.are one in
          let all : each rep X ≡ refused f.why =
          ap (each rep) (sym (take-append-drop (suc j) X)) ∙ each_both rep (take (suc j) X) (drop (suc j) X)
          ∙ ap (λ (a : Outcome (List Tree)). a >>= λ c. each rep (drop (suc j) X) >>= λ d. ok (c ++ d)) upto in
          let n = length run in
          let rl = run_long in
          let rm = here_room r in
          let ri = here_inside r in
          let sm = sums j l in
          let mr = m.room in
          let c = ap (λ (p : ℕ). size (tree ws p)) (at_is l) in
          let sm' = s.many in
          let sf = s.fewer in
          let lo = length-take-le o out ri in
          let ok_long : o + n ≤ long = omega arith in
          let fl : length (H ++ all_tokens number s.trees) ≡ o = length-append H (all_tokens number s.trees) ∙ sym s.many in
          let tail : drop o out ≡ drop o old = ap (drop o) s.written ∙ drop_at (H ++ all_tokens number s.trees) (drop o old) o fl in
          let lent : take (length out - o) (drop o out) ≡ drop o out = take_all (length out - o) (drop o out) (omega (arith, length-drop o out)) in
          let z : o + (long - o) ≡ long = omega arith in
          let w : n + (long - o - n) ≡ long - o = omega arith in
          record {
            why = f.why;
            is = m.becomes ∙ ap (λ (a : Outcome (List Tree)). a >>= λ q. ok (H ++ (all_tokens number q ++ repeated copies name))) all;
            rest =
                ap (drop long) (rest_back out y o) ∙ ap (λ (k : ℕ). drop k (take o out ++ y)) (sym z) ∙ sym (drop-drop (long - o) o (take o out ++ y))
                ∙ ap (drop (long - o)) (drop_at (take o out) y o lo)
                ∙ ap (λ (k : ℕ). drop k y) (sym w) ∙ sym (drop-drop (long - o - n) n y) ∙ ap (drop (long - o - n)) (f.rest ∙ ap (drop n) (lent ∙ tail))
                ∙ drop-drop (long - o - n) n (drop o old) ∙ ap (λ (k : ℕ). drop k (drop o old)) w ∙ drop-drop (long - o) o old ∙ ap (λ (k : ℕ). drop k old) z;
          }
        where
          each_one : (y : Tree) (i : Refusal) → rep y ≡ refused i → each rep (y ∷ []) ≡ refused i
          each_one y i e = ap (λ (p : Outcome Tree). p >>= λ u. ok [] >>= λ r. ok (u ∷ r)) e

    -- all factors are written, and the names
    module _ (l : left ≤ j) (room : long ≤ length old) where
      pub names_room : o + copies ≤ length out
      names_room =
          (let a : take j X ≡ X = take_all j X (omega (arith, XLong)) in
          let b = ap occurrences a in
          let c = m.room in
          let d = s.many in
          let e = s.fewer in
          let f = s.wide in
          omega arith)

      pub factor_ends : (out' : List ℕ) → out' ≡ take o out ++ (repeated copies name ++ drop (o + copies) out) → Wrote (product_out part name ws) old (o + copies) out'
      factor_ends out' e =
          let a : take j X ≡ X = take_all j X (omega (arith, XLong)) in
          let all : each rep X ≡ ok s.trees = ap (each rep) (sym a) ∙ s.are in
          let rl = repeated_long copies name in
          let fl : length (H ++ all_tokens number s.trees) ≡ o = length-append H (all_tokens number s.trees) ∙ sym s.many in
          let first : take o out ≡ H ++ all_tokens number s.trees = ap (take o) s.written ∙ take_at (H ++ all_tokens number s.trees) (drop o old) o fl in
          let tail : drop o out ≡ drop o old = ap (drop o) s.written ∙ drop_at (H ++ all_tokens number s.trees) (drop o old) o fl in
          let past : drop (o + copies) out ≡ drop (o + copies) old = sym (drop-drop copies o out) ∙ ap (drop copies) tail ∙ drop-drop copies o old in
          record {
            new = H ++ (all_tokens number s.trees ++ repeated copies name);
            is = m.becomes ∙ ap (λ (x : Outcome (List Tree)). x >>= λ q. ok (H ++ (all_tokens number q ++ repeated copies name))) all;
            count =
                sym (length-append H (all_tokens number s.trees ++ repeated copies name)
                ∙ (let b = length-append (all_tokens number s.trees) (repeated copies name) in let c = s.many in omega arith));
            words =
                e ∙ ap₂ (λ (x y : List ℕ). x ++ (repeated copies name ++ y)) first past
                ∙ append_assoc H (all_tokens number s.trees) (repeated copies name ++ drop (o + copies) old)
                ∙ ap (λ (x : List ℕ). H ++ x) (sym (append_assoc (all_tokens number s.trees) (repeated copies name) (drop (o + copies) old)))
                ∙ sym (append_assoc H (all_tokens number s.trees ++ repeated copies name) (drop (o + copies) old));
          }

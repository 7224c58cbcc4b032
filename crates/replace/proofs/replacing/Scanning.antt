-- A scan that rewrites trees from the left into a lent slice, and one that rewrites the factors left of a product. Assumes nothing.
use Rattle.std.proofs.Common.{◌≡◌, ℕ, zero, suc, ◌+◌, ◌-◌, ◌<◌, ◌≤◌, Bool, true, T, List, [], ◌∷◌, ◌++◌, length, get_or, take, drop, set, sym, refl, ap, ◌∙◌, subst, ap₂, append_assoc, append-nil, arith, length-append, length-drop, drop_of_length-le, length-take, length-take-le, get_or-drop, take_all, drop-drop, take_at, drop_at}
use mathlib.Core.Option.{some}
use borrow.Rule.Slice.PartMut.{put_mid}
use Rattle.spec_tree.specs.Bytes.{every}
use Rattle.spec_tree.specs.Outcome.{Refusal, Outcome, ok, refused, ◌>>=◌}
use Rattle.spec_tree.specs.Tree.{Tree, Op, nil}
use Rattle.spec_tree.specs.Tokens.{numbered, read, tokens, words_of, run_at}
use Rattle.spec_tree.proofs.Logic.{and_left, and_right, and_both}
use Rattle.spec_tree.proofs.TreeLaws.{eq_bytes_sound}
use Rattle.spec_tree.proofs.TokenLaws.{complete_end}
use Rattle.spec_tree.proofs.TokenCode.{tokens_length}
use Rattle.spec_rewrite.proofs.Measure.{by_size, least_size}
use Rattle.spec_rewrite.proofs.Shrinks.{replace_shrinks}
use Rattle.words.specs.words.Words.{number, tree_of, name_of, begins_with}
use Rattle.words.proofs.words.Rewriting.{segment}
use Rattle.words.proofs.words.Scanning.{Put, put_one, put_long, put_lent}
use Rattle.replace.proofs.closed.Chain.{chain_end}
use Rattle.replace.specs.replacing.Replacing.{formed_word}
use Rattle.replace.specs.replacing.Deciding.{Trees, Target, rewritten, rewritten_words, StaysAt, PassedAt, RefusedAt, Match, product_out, Wrote, Left}
use Rattle.replace.proofs.replacing.Turns.{first_out, replaced_none}
use Rattle.replace.proofs.replacing.Targets.{some_factor}
use Rattle.replace.proofs.replacing.Deciding.{equal_turn, head_formed}
use Rattle.spec_tree.proofs.Outcomes.{then_then, then_known}

-- ---- parts of formed and complete words

pub every_drop : (p : ℕ → Bool) (n : ℕ) (ws : List ℕ) → T (every p ws) → T (every p (drop n ws))
unfolding every
every_drop p zero ws h = h
every_drop p (suc n) [] h = tt
every_drop p (suc n) (w ∷ ws) h = every_drop p n ws (and_right (p w) (every p ws) h)

pub every_take : (p : ℕ → Bool) (n : ℕ) (ws : List ℕ) → T (every p ws) → T (every p (take n ws))
unfolding every
every_take p zero ws h = tt
every_take p (suc n) [] h = tt
every_take p (suc n) (w ∷ ws) h = and_both (p w) (every p (take n ws)) (and_left (p w) (every p ws) h) (every_take p n ws (and_right (p w) (every p ws) h))

pub trees_after : (ws : List ℕ) (i : ℕ) → Trees ws → Trees (drop i ws)
trees_after ws i h =
    let c = complete_end i ws h.count h.complete in
    record { count = c.0; complete = c.1; formed = every_drop formed_word i ws h.formed }

-- the tree at a place, alone
pub trees_at : (ws : List ℕ) (at n : ℕ) → Trees ws → run_at ws at ≡ some n → Trees (take n (drop at ws))
unfolding run_at
trees_at ws at n h e =
    record { count = 1; complete = (segment (drop at ws) 1 n e).whole; formed = every_take formed_word n (drop at ws) (every_drop formed_word at ws h.formed) }

first_one : (l : List Tree) → 1 ≤ length l → l ≡ get_or l 0 (Op 0 nil) ∷ drop 1 l
first_one [] h = absurd (omega arith)
first_one (t ∷ l) h = refl

-- the first tree and the others
first_read : (ws : List ℕ) (n : ℕ) → words_of ws 1 ≡ some n → read numbered ws ≡ tree_of ws ∷ read numbered (drop n ws)
unfolding tree_of
first_read ws n e =
    let s = segment ws 1 n e in
    let l = Rattle.spec_tree.proofs.TokenLaws.complete_length numbered (take n ws) 1 s.whole in
    let k = length-take 1 (read numbered ws) in
    let j : length (take 1 (read numbered ws)) ≡ 1 = ap length (sym s.first) ∙ l in
    first_one (read numbered ws) (some_first (read numbered ws) j) ∙ ap (λ (r : List Tree). get_or (read numbered ws) 0 (Op 0 nil) ∷ r) (sym s.rest)
  where
    some_first : (l : List Tree) → length (take 1 l) ≡ 1 → 1 ≤ length l
    some_first [] e = absurd (omega arith)
    some_first (t ∷ l) e = omega arith

-- ---- the scan

module _ (part : List ℕ) (name : ℕ) where
  abbrev rw_out : List ℕ → Outcome (List ℕ)
  rw_out = rewritten_words part name

  -- what the first tree becomes, and the others
  pub first_ok : (ws : List ℕ) (n : ℕ) (new : List ℕ) → words_of ws 1 ≡ some n → product_out part name ws ≡ ok new → rw_out ws ≡ (rw_out (drop n ws) >>= λ b. ok (new ++ b))
  first_ok ws n new e h = first_out (tree_of part) (name_of name) ws (drop n ws) (tree_of ws) (first_read ws n e) ∙ go (rewritten part name (tree_of ws)) h
    where
      go : (o : Outcome Tree) → (o >>= λ u. ok (tokens number u)) ≡ ok new → (o >>= λ u. rw_out (drop n ws) >>= λ b. ok (tokens number u ++ b)) ≡ (rw_out (drop n ws) >>= λ b. ok (new ++ b))
      go (ok u) q = (let z : tokens number u ≡ new = cc in ap (λ (x : List ℕ). rw_out (drop n ws) >>= λ b. ok (x ++ b)) z)
      go (refused i) q = (let z : ◌≡◌ {A = ℕ} 0 1 = cc in absurd (omega arith))

  pub first_refused : (ws : List ℕ) (n : ℕ) (r : Refusal) → words_of ws 1 ≡ some n → product_out part name ws ≡ refused r → rw_out ws ≡ refused r
  first_refused ws n r e h = first_out (tree_of part) (name_of name) ws (drop n ws) (tree_of ws) (first_read ws n e) ∙ go (rewritten part name (tree_of ws)) h
    where
      go : (o : Outcome Tree) → (o >>= λ u. ok (tokens number u)) ≡ refused r → (o >>= λ u. rw_out (drop n ws) >>= λ b. ok (tokens number u ++ b)) ≡ refused r
      go (ok u) q = (let z : ◌≡◌ {A = ℕ} 0 1 = cc in absurd (omega arith))
      go (refused i) q = (let z : i ≡ r = cc in ap (λ (x : Refusal). refused x) z)

  pub refused_out : (ws : List ℕ) → RefusedAt part name ws → (r : Refusal) × (product_out part name ws ≡ refused r)
  refused_out ws h = (h.0, ap (λ (o : Outcome Tree). o >>= λ u. ok (tokens number u)) h.1)

  module _ (ws old : List ℕ) where
    pub record Scanned (out : List ℕ) (i o : ℕ) : Type 0 where
      pub within : i ≤ length ws
      pub fewer : o ≤ i
      pub long : length out ≡ length old
      pub done : List ℕ
      pub many : length done ≡ o
      pub written : out ≡ done ++ drop o old
      pub to_come : rw_out ws ≡ (rw_out (drop i ws) >>= λ b. ok (done ++ b))

    pub scan_starts : Scanned old 0 0
    scan_starts =
        record { within = omega arith; fewer = omega arith; long = refl; done = []; many = refl; written = refl; to_come = sym (chain_end (rw_out ws)) }

    pub scan_turn :
        {out : List ℕ} {i o : ℕ} → Scanned out i o → (new : List ℕ) (j : ℕ) (out' : List ℕ) (i' o' : ℕ) → i' ≡ i + j → o' ≡ o + length new → i + j ≤ length ws → length new ≤ j
        → length ws ≤ length old → rw_out (drop i ws) ≡ (rw_out (drop j (drop i ws)) >>= λ b. ok (new ++ b)) → Put out o new out' → Scanned out' i' o'
    scan_turn {out} {i} {o} s new j out' i' o' ei eo h short room step put =
        let first : take o out ≡ s.done = ap (take o) s.written ∙ take_at s.done (drop o old) o s.many in
        let tail : drop o out ≡ drop o old = ap (drop o) s.written ∙ drop_at s.done (drop o old) o s.many in
        let past : drop (o + length new) out ≡ drop o' old =
        sym (drop-drop (length new) o out) ∙ (ap (drop (length new)) tail ∙ (drop-drop (length new) o old ∙ ap (λ (k : ℕ). drop k old) (sym eo))) in
        let on : rw_out (drop j (drop i ws)) ≡ rw_out (drop i' ws) = ap rw_out (drop-drop j i ws ∙ ap (λ (k : ℕ). drop k ws) (sym ei)) in
        record {
          within = omega arith;
          fewer = omega (arith, s.fewer);
          long = put_long out o new out' (omega (arith, s.fewer, s.long)) put ∙ s.long;
          done = s.done ++ new;
          many = omega (arith, length-append s.done new, s.many);
          written = put ∙ (ap₂ (λ (x y : List ℕ). x ++ (new ++ y)) first past ∙ sym (append_assoc s.done new (drop o' old)));
          to_come =
              s.to_come ∙ ap (λ (x : Outcome (List ℕ)). x >>= λ b. ok (s.done ++ b)) (step ∙ ap (λ (x : Outcome (List ℕ)). x >>= λ b. ok (new ++ b)) on)
              ∙ then_then (rw_out (drop i' ws)) (λ b. ok (new ++ b)) (λ b. ok (s.done ++ b))
              ∙ then_known (rw_out (drop i' ws)) (λ b. ok (s.done ++ (new ++ b))) (λ b. ok ((s.done ++ new) ++ b)) (λ b e. ap ok (sym (append_assoc s.done new b)));
        }

    pub scan_ends : {out : List ℕ} {i o : ℕ} → Scanned out i o → length ws ≤ i → Wrote (rw_out ws) old o out
    scan_ends {out} {i} {o} s h =
        let none_left : rw_out (drop i ws) ≡ ok [] = ap rw_out (drop_of_length-le ws h) ∙ replaced_none (tree_of part) (name_of name) in
        record {
          new = s.done;
          is = s.to_come ∙ ap (λ (x : Outcome (List ℕ)). x >>= λ b. ok (s.done ++ b)) none_left ∙ ap ok (append-nil s.done);
          count = sym s.many;
          words = s.written;
        }

    pub scan_refused : {out : List ℕ} {i o : ℕ} → Scanned out i o → (r : Refusal) → rw_out (drop i ws) ≡ refused r → rw_out ws ≡ refused r
    scan_refused {out} {i} {o} s r e = s.to_come ∙ ap (λ (x : Outcome (List ℕ)). x >>= λ b. ok (s.done ++ b)) e

    -- nothing has been written from the end of the room on
    pub scan_rest : {out : List ℕ} {i o : ℕ} → Scanned out i o → drop (length ws) out ≡ drop (length ws) old
    scan_rest {out} {i} {o} s =
        let z : o + (length ws - o) ≡ length ws = omega (arith, s.fewer, s.within) in
        let tail : drop o out ≡ drop o old = ap (drop o) s.written ∙ drop_at s.done (drop o old) o s.many in
        ap (λ (k : ℕ). drop k out) (sym z) ∙ sym (drop-drop (length ws - o) o out) ∙ ap (drop (length ws - o)) tail ∙ drop-drop (length ws - o) o old ∙ ap (λ (k : ℕ). drop k old) z

    -- ---- one turn, by what was decided

    module _ (t : Target part name) (h : Trees ws) (room : length ws ≤ length old) {out : List ℕ} {i o : ℕ} (s : Scanned out i o) (more : i < length ws) where
      pub here_trees : Trees (drop i ws)
      here_trees = trees_after ws i h

      pub here_some : 0 < length (drop i ws)
      here_some = omega (arith, length-drop i ws)

      pub target_within : true ≡ begins_with (drop i ws) part → i + length part ≤ length ws
      unfolding begins_with
      target_within e =
          (let x = eq_bytes_sound (take (length part) (drop i ws)) part (subst T e tt) in
          let y = ap length x in
          let z = length-take (length part) (drop i ws) in
          let d = length-drop i ws in
          omega arith)

      pub turn_equal : true ≡ begins_with (drop i ws) part → 0 < length part → Scanned (set out o name) (i + length part) (o + 1)
      turn_equal e p =
          scan_turn s (name ∷ []) (length part) (set out o name) (i + length part) (o + 1) refl refl (target_within e) (omega arith) room
          (equal_turn part name t (drop i ws) here_trees here_some e) (put_one out o name (omega (arith, s.fewer, s.long)))

      pub turn_stays : (w : ℕ) → w ≡ get_or ws i 0 → StaysAt part name (drop i ws) → Scanned (set out o w) (i + 1) (o + 1)
      turn_stays w q e =
          let z : i + 0 ≡ i = omega arith in
          let v : get_or (drop i ws) 0 0 ≡ w = get_or-drop i ws 0 0 ∙ ap (λ (k : ℕ). get_or ws k 0) z ∙ sym q in
          scan_turn s (w ∷ []) 1 (set out o w) (i + 1) (o + 1) refl refl (omega arith) (omega arith) room
          (e ∙ ap (λ (x : ℕ). rw_out (drop 1 (drop i ws)) >>= λ b. ok (x ∷ b)) v) (put_one out o w (omega (arith, s.fewer, s.long)))

      -- several words copied
      pub turn_passed :
          (n : ℕ) → PassedAt part name (drop i ws) n → (x : List ℕ) → x ≡ take n (drop i ws) ++ drop (length (take n (drop i ws))) (take (length out - o) (drop o out))
          → Scanned (put_mid o (length out - o) out x) (i + n) (o + n)
      turn_passed n p x e =
          let l = length-take-le n (drop i ws) p.within in
          scan_turn s (take n (drop i ws)) n (put_mid o (length out - o) out x) (i + n) (o + n) refl (ap (λ (k : ℕ). o + k) (sym l)) (omega (arith, p.within, length-drop i ws)) (omega arith) room
          p.stay (put_lent out x (take n (drop i ws)) o e)

      module _ (places : List ℕ) (left copies code long : ℕ) (m : Match part name (drop i ws) places left copies code long) where
        pub long_within : i + long ≤ length ws
        unfolding run_at
        long_within = (let x = (segment (drop i ws) 1 long m.run_is).within in let d = length-drop i ws in omega arith)

        pub lent_room : long ≤ length out - o
        lent_room = (let x = long_within in omega (arith, s.fewer, s.long))

        lent_is : take (length out - o) (drop o out) ≡ drop o out
        lent_is = take_all (length out - o) (drop o out) (omega (arith, length-drop o out))

        product_fewer : (new : List ℕ) → product_out part name (drop i ws) ≡ ok new → length new ≤ long
        product_fewer new e = go (rewritten part name (tree_of (drop i ws))) refl e
          where
            go : (p : Outcome Tree) → rewritten part name (tree_of (drop i ws)) ≡ p → (p >>= λ u. ok (tokens number u)) ≡ ok new → length new ≤ long
            go (ok u) q e =
                (let z : tokens number u ≡ new = cc in
                let a = ap length z in
                let b = tokens_length number u in
                let c = (replace_shrinks by_size (tree_of part) (name_of name) (least_size (name_of name)) (some_factor t) (tree_of (drop i ws)) u (head_formed part name t (drop i ws) here_trees here_some) q).0 in
                let d = m.size_is in
                omega arith)
            go (refused r) q e = (let z : ◌≡◌ {A = ℕ} 0 1 = cc in absurd (omega arith))

        pub turn_matched :
            (n : ℕ) (x : List ℕ) → Wrote (product_out part name (drop i ws)) (take (length out - o) (drop o out)) n x → Scanned (put_mid o (length out - o) out x) (i + long) (o + n)
        unfolding run_at
        turn_matched n x w =
            scan_turn s w.new long (put_mid o (length out - o) out x) (i + long) (o + n) refl (ap (λ (k : ℕ). o + k) w.count) long_within (product_fewer w.new w.is) room
            (first_ok (drop i ws) long w.new m.run_is w.is)
            (put_lent out x w.new o (w.words ∙ ap (λ (k : ℕ). w.new ++ drop k (take (length out - o) (drop o out))) w.count))

        pub matched_few : (n : ℕ) (x : List ℕ) → Wrote (product_out part name (drop i ws)) (take (length out - o) (drop o out)) n x → n ≤ long
        matched_few n x w = (let a = product_fewer w.new w.is in let b = w.count in omega arith)

        -- a refusal below
        pub turn_refused :
            (x : List ℕ) → length x ≡ length (take (length out - o) (drop o out)) → Left (product_out part name (drop i ws)) long (take (length out - o) (drop o out)) x
            → Left (rw_out ws) (length ws) old (put_mid o (length out - o) out x)
        unfolding run_at
        turn_refused x l f =
            let lo = length-take-le o out (omega (arith, s.fewer, s.long)) in
            let back : put_mid o (length out - o) out x ≡ take o out ++ x = lent_back in
            let z : o + (length ws - o) ≡ length ws = omega (arith, s.fewer) in
            let y : long + (length ws - o - long) ≡ length ws - o = (let g = long_within in omega (arith, s.fewer)) in
            let tail : drop (length ws - o) x ≡ drop (length ws - o) (drop o out) =
            ap (λ (k : ℕ). drop k x) (sym y) ∙ sym (drop-drop (length ws - o - long) long x) ∙ ap (drop (length ws - o - long)) (f.rest ∙ ap (drop long) lent_is)
            ∙ drop-drop (length ws - o - long) long (drop o out) ∙ ap (λ (k : ℕ). drop k (drop o out)) y in
            record {
              why = f.why;
              is = scan_refused s f.why (first_refused (drop i ws) long f.why m.run_is f.is);
              rest =
                  ap (drop (length ws)) back ∙ ap (λ (k : ℕ). drop k (take o out ++ x)) (sym z) ∙ sym (drop-drop (length ws - o) o (take o out ++ x))
                  ∙ ap (drop (length ws - o)) (drop_at (take o out) x o lo) ∙ tail ∙ drop-drop (length ws - o) o out ∙ ap (λ (k : ℕ). drop k out) z ∙ scan_rest s;
            }
          where
            lent_back : put_mid o (length out - o) out x ≡ take o out ++ x
            lent_back =
                ap (λ (l : List ℕ). take o out ++ (x ++ l)) (drop_of_length-le (drop o out) past) ∙ ap (λ (l : List ℕ). take o out ++ l) (append-nil x)
              where
                past : length (drop o out) ≤ length out - o
                past = omega (arith, length-drop o out)

      -- a refusal here
      pub here_refused : RefusedAt part name (drop i ws) → (n : ℕ) → words_of (drop i ws) 1 ≡ some n → Left (rw_out ws) (length ws) old out
      here_refused r n e =
          let q = refused_out (drop i ws) r in
          record { why = q.0; is = scan_refused s q.0 (first_refused (drop i ws) n q.0 e q.1); rest = scan_rest s }

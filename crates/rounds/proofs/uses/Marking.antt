-- What each step of marking leaves, place by place. Assumes nothing.
use Rattle.std.specs.Prelude.{Some, None}
use Prim.Native.Nat.{ℕ, zero, suc, ◌+◌, ◌-◌, ◌≤◌, ◌<◌}
use native.Mathlib.Omega.{arith}
use mathlib.Core.Path.{◌≡◌, refl, sym, ◌∙◌, ap, ap₂}
use mathlib.Core.Bool.{Bool, true, false, not, ◌&&◌, ◌||◌, cond}
use mathlib.Core.Option.{Option, some}
use mathlib.Core.List.{List, ◌++◌}
use borrow.Author.Tests.{lt-ltb, le-ltb, le-leb, lt-leb, ltb-true, ltb-false, leb-true, leb-false}
use lib.ListN.{length, get_or, take, drop, replicate, length-drop, length-append, get_or-append}
use lib.Seq.{ext_get_or, get_or-append-add, length-take-le}
use Rattle.std.proofs.lemmas.List.{get_or-append_right, get_or-drop, get_or-take, get_or-replicate, length-replicate}
use lib.Dec.{leb, ltb}
use Rattle.spec_tree.specs.Facts.{size}
use Rattle.spec_tree.specs.Tokens.{run_at, flag, kind_of}
use Rattle.spec_tree.proofs.FactLaws.{size_one}
use Rattle.spec_tree.proofs.TokenLaws.{words_short}
use Rattle.words.specs.tokens.Answers.{end_answer}
use Rattle.words.proofs.tokens.Comparing.{run_ends, run_after, broken_none}
use Rattle.laws.specs.positions.Places.{numbered_at, in_arm_of, in_arm}
use Rattle.rounds.specs.uses.Marks.{Complete, marks_of, Cleared, Ones, Arms, Marking, not_in_arms}
use Rattle.rounds.proofs.uses.Runs.{run_there, ends_within}

-- ---- the first n places set

pub ones_filled : (old part : List ℕ) (n : ℕ) → n ≤ length old → part ≡ replicate (length (take n old)) 1 → Ones old n (part ++ drop n old)
ones_filled old part n h e =
    let z = length-take-le n old h in
    let f : part ≡ replicate n 1 = e ∙ ap (λ (m : ℕ). replicate m 1) z in
    let l : length part ≡ n = ap length f ∙ length-replicate n 1 in
    record { long = omega (arith, length-append part (drop n old), length-drop n old, l); each = λ j. go l f j (ltb j n) refl }
  where
    go : length part ≡ n → part ≡ replicate n 1 → (j : ℕ) (b : Bool) → ltb j n ≡ b → get_or (part ++ drop n old) j 0 ≡ cond (ltb j n) 1 (get_or old j 0)
    go l f j true e =
        let k = ltb-true j n e in
        rw e (get_or-append part (drop n old) 0 j (omega arith) ∙ (ap (λ (x : List ℕ). get_or x j 0) f ∙ get_or-replicate n j 1 0 k))
    go l f j false e =
        let k = ltb-false j n e in
        let s : n + (j - n) ≡ j = omega arith in
        rw e (get_or-append_right part (drop n old) n j 0 l k ∙ (get_or-drop n old (j - n) 0 ∙ ap (λ (m : ℕ). get_or old m 0) s))

-- ---- a part cleared

-- a range that is over before it begins
over : (a j e : ℕ) → e ≤ a → (leb a j && ltb j e) ≡ false
over a j e h = go (leb a j) refl
  where
    go : (b : Bool) → leb a j ≡ b → (b && ltb j e) ≡ false
    go true q = let l = leb-true a j q in le-ltb j e (omega arith)
    go false q = refl

pub nothing_cleared : (old : List ℕ) (from to : ℕ) → to ≤ from → Cleared old from to old
nothing_cleared old from to h = record { long = refl; each = λ j. rw (over from j to h) }

module _ (old part : List ℕ) (from to : ℕ) (h : from ≤ to) (g : to ≤ length old) (e : part ≡ replicate (length (take (to - from) (drop from old))) 0) where
  part_is : part ≡ replicate (to - from) 0
  part_is = e ∙ ap (λ (m : ℕ). replicate m 0) (length-take-le (to - from) (drop from old) (omega (arith, length-drop from old)))

  part_long : length part ≡ to - from
  part_long = ap length part_is ∙ length-replicate (to - from) 0

  front_long : length (take from old) ≡ from
  front_long = length-take-le from old (omega arith)

  abbrev rest : List ℕ
  rest = drop (to - from) (drop from old)

  past_front : (j : ℕ) → from ≤ j → get_or (take from old ++ (part ++ rest)) j 0 ≡ get_or (part ++ rest) (j - from) 0
  past_front j l = get_or-append_right (take from old) (part ++ rest) from j 0 front_long l

  cleared_at : (j : ℕ) (b d : Bool) → leb from j ≡ b → ltb j to ≡ d → get_or (take from old ++ (part ++ rest)) j 0 ≡ cond (b && d) 0 (get_or old j 0)
  cleared_at j false d x y =
      let l = leb-false from j x in
      get_or-append (take from old) (part ++ rest) 0 j (omega (arith, front_long)) ∙ get_or-take from old j 0 l
  cleared_at j true true x y =
      let l = leb-true from j x in
      let m = ltb-true j to y in
      past_front j l
      ∙ (get_or-append part rest 0 (j - from) (omega (arith, part_long))
      ∙ (ap (λ (q : List ℕ). get_or q (j - from) 0) part_is ∙ get_or-replicate (to - from) (j - from) 0 0 (omega arith)))
  cleared_at j true false x y =
      let l = leb-true from j x in
      let m = ltb-false j to y in
      let z : from + ((to - from) + (j - from - (to - from))) ≡ j = omega arith in
      past_front j l
      ∙ (get_or-append_right part rest (to - from) (j - from) 0 part_long (omega arith)
      ∙ (get_or-drop (to - from) (drop from old) (j - from - (to - from)) 0
      ∙ (get_or-drop from old ((to - from) + (j - from - (to - from))) 0 ∙ ap (λ (m : ℕ). get_or old m 0) z)))

  pub part_cleared : Cleared old from to (take from old ++ (part ++ rest))
  part_cleared =
      record {
        long = omega (arith, length-append (take from old) (part ++ rest), length-append part rest, length-drop (to - from) (drop from old), length-drop from old, front_long, part_long);
        each = λ j. cleared_at j (leb from j) (ltb j to) refl refl;
      }

-- ---- the arms of one switch

arms_none : {ws old : List ℕ} {p : ℕ} → ((j : ℕ) → in_arm_of ws p j ≡ false) → Arms ws p old old
arms_none {ws} {old} {p} f = record { long = refl; each = λ j. rw (f j) }

not_switch : (ws : List ℕ) (p j : ℕ) → kind_of (get_or ws p 0) < 26 → in_arm_of ws p j ≡ false
unfolding in_arm_of
not_switch ws p j h = rw (lt-leb 26 (kind_of (get_or ws p 0)) h)

pub no_switch : (ws old : List ℕ) (p : ℕ) → kind_of (get_or ws p 0) < 26 → Arms ws p old old
no_switch ws old p h = arms_none {ws = ws} {old = old} {p = p} (λ j. not_switch ws p j h)

is_arm : (ws : List ℕ) (p j : ℕ) → 26 ≤ kind_of (get_or ws p 0) → in_arm_of ws p j ≡ (leb (suc p + size (numbered_at ws (suc p))) j && ltb j (p + size (numbered_at ws p)))
unfolding in_arm_of
is_arm ws p j h = rw (le-leb 26 (kind_of (get_or ws p 0)) h)

-- a place in an arm is among the words
arm_within : (ws : List ℕ) (p j : ℕ) → Complete ws → p < length ws → length ws ≤ j → in_arm_of ws p j ≡ false
arm_within ws p j c h g = go (leb 26 (kind_of (get_or ws p 0))) refl
  where
    go : (b : Bool) → leb 26 (kind_of (get_or ws p 0)) ≡ b → in_arm_of ws p j ≡ false
    go true q =
        let e = ends_within ws c p h in
        is_arm ws p j (leb-true 26 (kind_of (get_or ws p 0)) q)
        ∙ last (leb (suc p + size (numbered_at ws (suc p))) j) (ltb j (p + size (numbered_at ws p))) (le-ltb j (p + size (numbered_at ws p)) (omega (arith, e)))
      where
        last : (b d : Bool) → d ≡ false → (b && d) ≡ false
        last true d e = e
        last false d e = refl
    go false q = not_switch ws p j (leb-false 26 (kind_of (get_or ws p 0)) q)

module _ (ws : List ℕ) (c : Complete ws) (p : ℕ) (h : p < length ws) where
  -- the switch is the last word, and has no arms
  pub no_operands : (old : List ℕ) → None ≡ end_answer (p + 1) (run_at ws (p + 1)) → Arms ws p old old
  no_operands old b = arms_none {ws = ws} {old = old} {p = p} (λ j. go j (leb 26 (kind_of (get_or ws p 0))) refl)
    where
      past : length ws ≤ p + 1
      past = elim (leb (length ws) (p + 1)) as (λ d. leb (length ws) (p + 1) ≡ d → length ws ≤ p + 1) [
        | true ↦ λ q. leb-true (length ws) (p + 1) q
        | false ↦ λ q. (let l = leb-false (length ws) (p + 1) q in
            let x = run_there ws c (p + 1) l in
            let y = broken_none (p + 1) (run_at ws (p + 1)) b in
            absurd (let z : ◌≡◌ {A = ℕ} 0 1 = cc in omega arith))
      ] refl

      go : (j : ℕ) (d : Bool) → leb 26 (kind_of (get_or ws p 0)) ≡ d → in_arm_of ws p j ≡ false
      go j true q =
          is_arm ws p j (leb-true 26 (kind_of (get_or ws p 0)) q)
          ∙ over (suc p + size (numbered_at ws (suc p))) j (p + size (numbered_at ws p)) (omega (arith, ends_within ws c p h, past, size_one (numbered_at ws (suc p))))
      go j false q = not_switch ws p j (leb-false 26 (kind_of (get_or ws p 0)) q)

  some_same : (n m : ℕ) (o : Option ℕ) → o ≡ some n → o ≡ some m → n ≡ m
  some_same n m o e f = let g : some n ≡ some m = sym e ∙ f in cc

  -- where a tree ends
  pub ends_at : (j e : ℕ) → j < length ws → Some e ≡ end_answer j (run_at ws j) → e ≡ j + size (numbered_at ws j)
  ends_at j e l q =
      let a = run_after ws j e q in
      let s = some_same (e - j) (size (numbered_at ws j)) (run_at ws j) (run_ends ws j e q) (run_there ws c j l) in
      omega arith

  pub never_broken : (j : ℕ) → j < length ws → None ≡ end_answer j (run_at ws j) → ⊥
  never_broken j l q =
      let x = run_there ws c j l in
      let y = broken_none j (run_at ws j) q in
      let z : ◌≡◌ {A = ℕ} 0 1 = cc in omega arith

  -- a run that is there begins among the words
  pub begins_within : (j e : ℕ) → Some e ≡ end_answer j (run_at ws j) → j < length ws
  unfolding run_at
  begins_within j e q =
      elim (ltb j (length ws)) as (λ d. ltb j (length ws) ≡ d → j < length ws) [
        | true ↦ λ t. ltb-true j (length ws) t
        | false ↦ λ t. (let l = ltb-false j (length ws) t in
            let x = run_ends ws j e q in
            let y = words_short (drop j ws) 1 (omega (arith, length-drop j ws)) in
            absurd (let z : ◌≡◌ {A = ℕ} 0 1 = cc in omega arith))
      ] refl

  pub arms_cleared : (old new : List ℕ) (a e : ℕ) → 26 ≤ kind_of (get_or ws p 0) → Some a ≡ end_answer (p + 1) (run_at ws (p + 1)) → Some e ≡ end_answer p (run_at ws p) → Cleared old a e new → Arms ws p old new
  arms_cleared old new a e g qa qe k =
      let s : p + 1 ≡ suc p = omega arith in
      let x : a ≡ p + 1 + size (numbered_at ws (p + 1)) = ends_at (p + 1) a (begins_within (p + 1) a qa) qa in
      let x' : a ≡ suc p + size (numbered_at ws (suc p)) = x ∙ ap (λ (m : ℕ). m + size (numbered_at ws m)) s in
      let y : e ≡ p + size (numbered_at ws p) = ends_at p e h qe in
      record {
        long = k.long;
        each = λ j. k.each j ∙ ap (λ (b : Bool). cond b 0 (get_or old j 0)) (ap₂ (λ (m n : ℕ). leb m j && ltb j n) x' y ∙ sym (is_arm ws p j g));
      }

  pub end_fits : (e : ℕ) → Some e ≡ end_answer p (run_at ws p) → e ≤ length ws
  end_fits e q = omega (arith, ends_at p e h q, ends_within ws c p h)

-- ---- every arm

pub marking_starts : (ws old : List ℕ) → Ones old (length ws) old → Marking ws (not_in_arms ws 0) old old
unfolding not_in_arms in_arm flag
marking_starts ws old k = record { long = refl; here = λ j h. k.each j ∙ rw (lt-ltb j (length ws) h); after = λ j h. refl }

one_arm : (a b : Bool) → cond a 0 (flag (not b)) ≡ flag (not (a || b))
unfolding flag
one_arm true b = refl
one_arm false b = refl

pub marking_turns : {ws old mid new : List ℕ} {p : ℕ} → Complete ws → p < length ws → Marking ws (not_in_arms ws p) old mid → Arms ws p mid new → Marking ws (not_in_arms ws (p + 1)) old new
unfolding not_in_arms in_arm
marking_turns {ws} {old} {mid} {new} {p} c h k a =
    let s : suc p ≡ p + 1 = omega arith in
    record {
      long = a.long ∙ k.long;
      here = λ j l.
          a.each j
          ∙ (ap (λ (n : ℕ). cond (in_arm_of ws p j) 0 n) (k.here j l)
          ∙ (one_arm (in_arm_of ws p j) (in_arm ws p j) ∙ ap (λ (n : ℕ). flag (not (in_arm ws n j))) s));
      after = λ j l. a.each j ∙ (ap (λ (b : Bool). cond b 0 (get_or mid j 0)) (arm_within ws p j c h l) ∙ k.after j l);
    }

pub marking_ends : {ws old new : List ℕ} {p : ℕ} → Marking ws (not_in_arms ws p) old new → p ≤ length ws → length ws ≤ p → Marking ws (not_in_arms ws (length ws)) old new
marking_ends {ws} {old} {new} {p} k g h = let z : p ≡ length ws = omega arith in rw z at k

-- ---- the marks as a list

pub marks_length : (test : ℕ → Bool) (i n : ℕ) → length (marks_of test i n) ≡ n
unfolding marks_of
marks_length test i zero = refl
marks_length test i (suc n) = ap suc (marks_length test (suc i) n)

pub mark_at : (test : ℕ → Bool) (i n j : ℕ) → j < n → get_or (marks_of test i n) j 0 ≡ flag (test (i + j))
unfolding marks_of
mark_at test i zero j h = absurd (omega arith)
mark_at test i (suc n) zero h = let z : i ≡ i + 0 = omega arith in ap (λ (k : ℕ). flag (test k)) z
mark_at test i (suc n) (suc j) h = let z : suc i + j ≡ i + suc j = omega arith in mark_at test (suc i) n j (omega arith) ∙ ap (λ (k : ℕ). flag (test k)) z

pub marked_list : (ws : List ℕ) (test : ℕ → Bool) (old new : List ℕ) → length ws ≤ length old → Marking ws test old new → new ≡ marks_of test 0 (length ws) ++ drop (length ws) old
marked_list ws test old new h k =
    let n = length ws in
    let m = marks_of test 0 n in
    let lm = marks_length test 0 n in
    let ll : length (m ++ drop n old) ≡ length old = omega (arith, length-append m (drop n old), lm, length-drop n old) in
    ext_get_or 0 new (m ++ drop n old) (k.long ∙ sym ll) (λ j l. go j (ltb j n) refl)
  where
    go : (j : ℕ) (b : Bool) → ltb j (length ws) ≡ b → get_or new j 0 ≡ get_or (marks_of test 0 (length ws) ++ drop (length ws) old) j 0
    go j true e =
        let l = ltb-true j (length ws) e in
        let m = marks_of test 0 (length ws) in
        let x : 0 + j ≡ j = omega arith in
        k.here j l ∙ sym (get_or-append m (drop (length ws) old) 0 j (omega (arith, marks_length test 0 (length ws))) ∙ (mark_at test 0 (length ws) j l ∙ ap (λ (i : ℕ). flag (test i)) x))
    go j false e =
        let l = ltb-false j (length ws) e in
        let m = marks_of test 0 (length ws) in
        let lm = marks_length test 0 (length ws) in
        let z : length m + (j - length ws) ≡ j = omega (arith, lm) in
        let y : length ws + (j - length ws) ≡ j = omega arith in
        k.after j l
        ∙ sym (ap (λ (i : ℕ). get_or (m ++ drop (length ws) old) i 0) (sym z)
        ∙ (get_or-append-add m (drop (length ws) old) (j - length ws) 0 ∙ (get_or-drop (length ws) old (j - length ws) 0 ∙ ap (λ (i : ℕ). get_or old i 0) y)))

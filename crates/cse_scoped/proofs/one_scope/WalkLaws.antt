-- The groups of a scope one after another (01, "Scoped fusion"): their members take numbers, their arms are done, and the first that is refused ends them; and what
-- was found of one group afterwards. Assumes nothing.
use Prim.Native.Nat.{ℕ, zero, suc, ◌+◌, ◌-◌, ◌≤◌, ◌<◌}
use native.Mathlib.Omega.{arith}
use mathlib.Core.Path.{◌≡◌, refl, sym, ◌∙◌, ap, ap₂, subst}
use mathlib.Core.List.{List, [], ◌∷◌, ◌++◌, append_assoc}
use lib.ListN.{length, get_or, take, drop, set, length-append, get_or-append}
use mathlib.Core.Bool.{Bool, true, false, not}
use lib.Dec.{T, ltb, ltb→lt, nltb→le}
use lib.Seq.{take_all, take_at, get_or-append-add}
use Rattle.spec_tree.specs.Outcome.{Refusal, Outcome, ok, refused, ◌>>=◌}
use Rattle.fusion.specs.Words.{numbers_from}
use Rattle.fusion.proofs.Members.{numbers_count}
use Rattle.fusion.specs.place.Overlay.{overlay}
use Rattle.fusion.specs.place.Parts.{joined_groups, ends_from, group_at, group_start}
use Rattle.fusion.specs.place.Whole.{Told, ArmsTold, Walk, group_told, walked}
use Rattle.fusion.proofs.tables.Laws.{overlay_fits, overlay_word}
use Rattle.cse_scoped.specs.one_scope.Answers.{Laid, arms_answer, ArmsWrote, walk_answer, KeptSo, WalkWrote}
use Rattle.cse_scoped.specs.one_scope.Armed.{Armed}
use Rattle.cse_scoped.specs.one_scope.Armed as armed
use Rattle.cse_scoped.specs.one_scope.Walked as walked_enum
use Rattle.cse_scoped.proofs.one_scope.Laying.{front_less}
use Rattle.cse_scoped.proofs.one_scope.ArmLaws.{never_ok, Or, first, second, lt_or_eq}
use Rattle.scope_laws.proofs.sound.Bounds.{start_next}
use Rattle.spec_tree.proofs.Outcomes.{got}
use Rattle.fusion.proofs.groups.Groups.{joined_last, ends_length}

-- ---- words in front grow

pub front_grows : (xs new old : List ℕ) (at : ℕ) → at ≡ length xs → take (length xs) old ≡ xs → at + length new ≤ length old → take (length (xs ++ new)) (overlay at new old) ≡ xs ++ new
front_grows xs new old at e f fits =
    let s : overlay at new old ≡ (xs ++ new) ++ drop (at + length new) old =
    overlay_fits at new old fits
    ∙ (ap (λ (l : List ℕ). l ++ (new ++ drop (at + length new) old)) (ap (λ (k : ℕ). take k old) e ∙ f) ∙ sym (append_assoc xs new (drop (at + length new) old))) in
    ap (take (length (xs ++ new))) s ∙ take_at (xs ++ new) (drop (at + length new) old) (length (xs ++ new)) refl

ends_more : (n : ℕ) (l : List (List ℕ)) (x : List ℕ) → ends_from n (l ++ (x ∷ [])) ≡ ends_from n l ++ ((n + (length (joined_groups l) + length x)) ∷ [])
unfolding ends_from joined_groups
ends_more n [] x = ap (λ (k : ℕ). k ∷ []) (omega arith)
ends_more n (y ∷ l) x =
    ap (λ (k : List ℕ). (n + length y) ∷ k)
    (ends_more (n + length y) l x ∙ ap (λ (k : ℕ). ends_from (n + length y) l ++ (k ∷ [])) (omega (arith, length-append y (joined_groups l))))

-- ---- rows that are kept

none_kept : (kept : List ℕ) → KeptSo [] kept
unfolding joined_groups
none_kept kept i h = subst (λ (z : List (List ℕ)). take (length (joined_groups z)) kept ≡ joined_groups z) (sym (take_all i [] (omega arith))) refl

-- the first of some groups, and of those with one more
taken_before : (i : ℕ) (l : List (List ℕ)) (x : List ℕ) → i ≤ length l → take i (l ++ (x ∷ [])) ≡ take i l
taken_before zero l x h = refl
taken_before (suc i) [] x h = absurd (omega arith)
taken_before (suc i) (y ∷ l) x h = ap (λ (k : List (List ℕ)). y ∷ k) (taken_before i l x (omega arith))

pub joined_first : (i : ℕ) (l : List (List ℕ)) → joined_groups l ≡ joined_groups (take i l) ++ joined_groups (drop i l)
unfolding joined_groups
joined_first zero l = refl
joined_first (suc i) [] = refl
joined_first (suc i) (y ∷ l) = ap (λ (k : List ℕ). y ++ k) (joined_first i l) ∙ sym (append_assoc y (joined_groups (take i l)) (joined_groups (drop i l)))

more_kept : (arms : List (List ℕ)) (x kept kept' : List ℕ) → KeptSo arms kept → (to : ℕ) → to ≡ length (joined_groups arms) → Laid to x kept kept' → KeptSo (arms ++ (x ∷ [])) kept'
more_kept arms x kept kept' k to e l i h = go (lt_or_eq' i (length arms))
  where
    lt_or_eq' : (m n : ℕ) → Or (m ≤ n) (n < m)
    lt_or_eq' m n = decide (ltb n m) (ltb→lt n m) (nltb→le n m)
      where
        decide : (t : Bool) → (T t → n < m) → (T (not t) → m ≤ n) → Or (m ≤ n) (n < m)
        decide true y z = second (y tt)
        decide false y z = first (z tt)

    Stands : List (List ℕ) → Type 0
    Stands z = take (length (joined_groups z)) kept' ≡ joined_groups z

    go : Or (i ≤ length arms) (length arms < i) → Stands (take i (arms ++ (x ∷ [])))
    go (first q) =
        let s : take i (arms ++ (x ∷ [])) ≡ take i arms = taken_before i arms x q in
        let m = length (joined_groups (take i arms)) in
        let low : m ≤ to = omega (arith, e, ap length (joined_first i arms), length-append (joined_groups (take i arms)) (joined_groups (drop i arms))) in
        let fits : m ≤ length kept = omega (arith, h, l.long, ap (λ (z : List (List ℕ)). length (joined_groups z)) s) in
        subst Stands (sym s) (front_less m to low kept' kept l.front ∙ k i fits)
    go (second q) =
        let s : take i (arms ++ (x ∷ [])) ≡ arms ++ (x ∷ []) = take_all i (arms ++ (x ∷ [])) (omega (arith, q, length-append arms (x ∷ []))) in
        let j = joined_groups arms in
        let more = joined_last arms x in
        let fits : to + length x ≤ length kept = omega (arith, h, e, l.long, ap (λ (z : List (List ℕ)). length (joined_groups z)) s, ap length more, length-append j x) in
        let all : take (length arms) arms ≡ arms = take_all (length arms) arms (omega arith) in
        let before : take (length j) kept ≡ j =
        subst (λ (z : List (List ℕ)). take (length (joined_groups z)) kept ≡ joined_groups z) all
        (k (length arms) (omega (arith, fits, e, ap (λ (z : List (List ℕ)). length (joined_groups z)) all))) in
        subst Stands (sym s)
        (ap₂ (λ (z y : List ℕ). take (length z) y) more (l.all fits) ∙ (front_grows j x kept to e before fits ∙ sym more))

module _ (scope : ℕ → List ℕ → Outcome Told) (hs : List ℕ) (gs : List (List ℕ)) where
  abbrev pub with_group : ℕ → Walk → ArmsTold → Walk
  with_group n r a =
      record { numbers = r.numbers ++ numbers_from r.next (length (group_at gs n)); arms = r.arms ++ (a.words ∷ []); next = a.next; extracted = r.extracted + a.extracted }

  module _ (next n : ℕ) where
    abbrev then_group : Outcome Walk → Outcome Walk
    then_group o = o >>= λ r. group_told scope hs (group_at gs n) r.next >>= λ a. ok (with_group n r a)

    pub walked_more : (r : Walk) (a : ArmsTold) → walked scope hs gs next n ≡ ok r → group_told scope hs (group_at gs n) r.next ≡ ok a → walked scope hs gs next (suc n) ≡ ok (with_group n r a)
    unfolding walked
    walked_more r a e f = ap then_group e ∙ ap (λ (o : Outcome ArmsTold). o >>= λ a. ok (with_group n r a)) f

    pub walked_stop : (r : Walk) (i : Refusal) → walked scope hs gs next n ≡ ok r → group_told scope hs (group_at gs n) r.next ≡ refused i → walked scope hs gs next (suc n) ≡ refused i
    unfolding walked
    walked_stop r i e f = ap then_group e ∙ ap (λ (o : Outcome ArmsTold). o >>= λ a. ok (with_group n r a)) f

    pub walked_stay : (i : Refusal) → walked scope hs gs next n ≡ refused i → walked scope hs gs next (suc n) ≡ refused i
    unfolding walked
    walked_stay i e = ap then_group e

    pub record WalkedBack (r : Walk) : Type 0 where
      pub before : Walk
      pub last : ArmsTold
      pub before_told : walked scope hs gs next n ≡ ok before
      pub last_told : group_told scope hs (group_at gs n) before.next ≡ ok last
      pub is : with_group n before last ≡ r

    pub walked_back : (r : Walk) → walked scope hs gs next (suc n) ≡ ok r → WalkedBack r
    unfolding walked
    walked_back r e = first (walked scope hs gs next n) refl e
      where
        second : (b : Walk) → walked scope hs gs next n ≡ ok b → (o : Outcome ArmsTold) → group_told scope hs (group_at gs n) b.next ≡ o → (o >>= λ a. ok (with_group n b a)) ≡ ok r → WalkedBack r
        second b f (ok t) s q = record { before = b; last = t; before_told = f; last_told = s; is = got q }
        second b f (refused i) s q = absurd (never_ok q)

        first : (o : Outcome Walk) → walked scope hs gs next n ≡ o → then_group o ≡ ok r → WalkedBack r
        first (ok b) f q = second b f (group_told scope hs (group_at gs n) b.next) refl q
        first (refused i) f q = absurd (never_ok q)

  pub walked_stopped : (next n m : ℕ) (i : Refusal) → walked scope hs gs next n ≡ refused i → walked scope hs gs next (m + n) ≡ refused i
  walked_stopped next n zero i e = subst (λ (k : ℕ). walked scope hs gs next k ≡ refused i) (omega arith) e
  walked_stopped next n (suc m) i e = subst (λ (k : ℕ). walked scope hs gs next k ≡ refused i) (omega arith) (walked_stay next (m + n) i (walked_stopped next n m i e))

  -- ---- the loop

  module _ (next : ℕ) where
    -- after the first n groups
    pub record WalkSo (n number extracted start to : ℕ) (numbers stops kept : List ℕ) : Type 0 where
      pub done : Walk
      pub told : walked scope hs gs next n ≡ ok done
      pub number_is : number ≡ done.next
      pub extracted_is : extracted ≡ done.extracted
      pub start_is : start ≡ length done.numbers
      pub arms_many : n ≡ length done.arms
      pub numbers_are : take (length done.numbers) numbers ≡ done.numbers
      pub to_is : to ≡ length (joined_groups done.arms)
      pub stops_are : take (length (ends_from 0 done.arms)) stops ≡ ends_from 0 done.arms
      pub kept_is : KeptSo done.arms kept

    pub walk_begin : (numbers stops kept : List ℕ) → WalkSo 0 next 0 0 0 numbers stops kept
    unfolding walked joined_groups ends_from
    walk_begin numbers stops kept =
        record {
          done = record { numbers = []; arms = []; next = next; extracted = 0 };
          told = refl;
          number_is = refl;
          extracted_is = refl;
          start_is = refl;
          arms_many = refl;
          numbers_are = refl;
          to_is = refl;
          stops_are = refl;
          kept_is = none_kept kept;
        }

    module _ (n number extracted start to : ℕ) (numbers stops kept : List ℕ) (so : WalkSo n number extracted start to numbers stops kept) (r : Armed) (kept' : List ℕ)
        (given : (r ≡ arms_answer (group_told scope hs (group_at gs n) number) to) × ArmsWrote (group_told scope hs (group_at gs n) number) to kept kept') where
      abbrev StepBy : Armed → Type 0
      StepBy (armed.Rows place after more) =
          (count : ℕ) → count ≡ length (group_at gs n) → (end : ℕ) → end ≡ start + count → start + count ≤ length numbers → n < length stops
          → (numbers' : List ℕ) → numbers' ≡ overlay start (numbers_from number count) numbers → WalkSo (n + 1) after (extracted + more) end place numbers' (set stops n place) kept'
      StepBy (armed.Refused q) = (i : Refusal) × (walked scope hs gs next (suc n) ≡ refused i) × (i.number ≡ q)

      step_ok : (a : ArmsTold) → group_told scope hs (group_at gs n) number ≡ ok a → Laid to a.words kept kept' → StepBy (armed.Rows (to + length a.words) a.next a.extracted)
      step_ok a e w count c end f fits inside numbers' p =
          let d = so.done in
          let nums = numbers_from d.next (length (group_at gs n)) in
          let k : length nums ≡ count = numbers_count d.next (length (group_at gs n)) ∙ sym c in
          let same : numbers_from number count ≡ nums = ap₂ numbers_from so.number_is c in
          record {
            done = with_group n d a;
            told = subst (λ (j : ℕ). walked scope hs gs next j ≡ ok (with_group n d a)) (omega arith) (walked_more next n d a so.told (subst (λ (j : ℕ). group_told scope hs (group_at gs n) j ≡ ok a) so.number_is e));
            number_is = refl;
            extracted_is = ap (λ (j : ℕ). j + a.extracted) so.extracted_is;
            start_is = omega (arith, f, so.start_is, k, length-append d.numbers nums);
            arms_many = omega (arith, so.arms_many, length-append d.arms (a.words ∷ []));
            numbers_are =
                ap (take (length (d.numbers ++ nums))) (p ∙ ap (λ (l : List ℕ). overlay start l numbers) same)
                ∙ front_grows d.numbers nums numbers start so.start_is so.numbers_are (omega (arith, k, fits));
            to_is = omega (arith, so.to_is, ap length (joined_last d.arms a.words), length-append (joined_groups d.arms) a.words);
            stops_are =
                let m = ends_from 0 d.arms in
                let place = to + length a.words in
                let z : ends_from 0 (d.arms ++ (a.words ∷ [])) ≡ m ++ (place ∷ []) = ends_more 0 d.arms a.words ∙ ap (λ (j : ℕ). m ++ (j ∷ [])) (omega (arith, so.to_is)) in
                ap₂ (λ (l : List ℕ) (s : List ℕ). take (length l) s) z (sym (overlay_word n place stops))
                ∙ (front_grows m (place ∷ []) stops n (so.arms_many ∙ sym (ends_length 0 d.arms)) so.stops_are (omega (arith, inside)) ∙ sym z);
            kept_is = more_kept d.arms a.words kept kept' so.kept_is to so.to_is w;
          }

      step_by_outcome : (o : Outcome ArmsTold) → group_told scope hs (group_at gs n) number ≡ o → ArmsWrote o to kept kept' → StepBy (arms_answer o to)
      unfolding arms_answer
      step_by_outcome (ok a) e w = step_ok a e w
      step_by_outcome (refused i) e w = (i, walked_stop next n so.done i so.told (subst (λ (j : ℕ). group_told scope hs (group_at gs n) j ≡ refused i) so.number_is e), refl)

      step_by : StepBy r
      step_by = subst StepBy (sym given.0) (step_by_outcome (group_told scope hs (group_at gs n) number) refl given.1)

      pub walk_goes_on : (place after more : ℕ) → r ≡ armed.Rows place after more → StepBy (armed.Rows place after more)
      walk_goes_on place after more e = subst StepBy e step_by

      pub walk_ends_refused : (count : ℕ) → n < count → (q : ℕ) → r ≡ armed.Refused q → (numbers' stops' last : List ℕ)
          → (walked_enum.Refused q ≡ walk_answer (walked scope hs gs next count)) × WalkWrote (walked scope hs gs next count) numbers' stops' last
      unfolding walk_answer
      walk_ends_refused count h q e numbers' stops' last =
          let m = subst StepBy e step_by in
          let s : walked scope hs gs next count ≡ refused m.0 = subst (λ (k : ℕ). walked scope hs gs next k ≡ refused m.0) (omega arith) (walked_stopped next (suc n) (count - suc n) m.0 m.1) in
          subst (λ (o : Outcome Walk). (walked_enum.Refused q ≡ walk_answer o) × WalkWrote o numbers' stops' last) (sym s) (ap (λ (k : ℕ). walked_enum.Refused k) (sym m.2), tt)

    pub walk_all : (n number extracted start to : ℕ) (numbers stops kept : List ℕ) → WalkSo n number extracted start to numbers stops kept → (count : ℕ) → n ≡ count
        → (walked_enum.Done number extracted ≡ walk_answer (walked scope hs gs next count)) × WalkWrote (walked scope hs gs next count) numbers stops kept
    unfolding walk_answer
    walk_all n number extracted start to numbers stops kept so count e =
        let s : walked scope hs gs next count ≡ ok so.done = subst (λ (k : ℕ). walked scope hs gs next k ≡ ok so.done) e so.told in
        subst (λ (o : Outcome Walk). (walked_enum.Done number extracted ≡ walk_answer o) × WalkWrote o numbers stops kept) (sym s)
        (ap₂ walked_enum.Done so.number_is so.extracted_is, (so.numbers_are, ap (λ (k : ℕ). take k stops) (sym (ends_length 0 so.done.arms)) ∙ so.stops_are, so.kept_is))

-- ---- one group of those walked

module _ (scope : ℕ → List ℕ → Outcome Told) (hs : List ℕ) (gs : List (List ℕ)) (next : ℕ)
    (many : (n : ℕ) (r : Walk) → n ≤ length gs → walked scope hs gs next n ≡ ok r → (length r.numbers ≡ group_start gs n) × (length r.arms ≡ n))
    (some : (g : ℕ) → g < length gs → 1 ≤ length (group_at gs g)) where
  pub starts_grow : (n g : ℕ) → g < n → n ≤ length gs → group_start gs g < group_start gs n
  starts_grow zero g l h = absurd (omega arith)
  starts_grow (suc n) g l h = go (lt_or_eq g n (omega arith)) (λ q. starts_grow n g q (omega arith))
    where
      go : Or (g < n) (g ≡ n) → (g < n → group_start gs g < group_start gs n) → group_start gs g < group_start gs (suc n)
      go (first q) ih = omega (arith, ih q, start_next gs n (omega arith))
      go (second q) ih = omega (arith, ap (group_start gs) q, start_next gs n (omega arith), some n (omega arith))

  pub record WalkedAt (l : Walk) (g : ℕ) : Type 0 where
    pub arms : ArmsTold
    pub told : group_told scope hs (group_at gs g) (get_or l.numbers (group_start gs g) 0) ≡ ok arms
    pub rows : get_or l.arms g [] ≡ arms.words

  numbers_first : (n k : ℕ) → 1 ≤ k → get_or (numbers_from n k) 0 0 ≡ n
  unfolding numbers_from
  numbers_first n zero h = absurd (omega arith)
  numbers_first n (suc k) h = refl

  last_at : (n : ℕ) (l : Walk) → n < length gs → WalkedBack scope hs gs next n l → WalkedAt l n
  last_at n l h b =
      let m = many n b.before (omega arith) b.before_told in
      let nums = numbers_from b.before.next (length (group_at gs n)) in
      let z : length b.before.numbers + 0 ≡ group_start gs n = omega (arith, m.0) in
      let y : length b.before.arms + 0 ≡ n = omega (arith, m.1) in
      let number : get_or (b.before.numbers ++ nums) (group_start gs n) 0 ≡ b.before.next =
      ap (λ (k : ℕ). get_or (b.before.numbers ++ nums) k 0) (sym z) ∙ (get_or-append-add b.before.numbers nums 0 0 ∙ numbers_first b.before.next (length (group_at gs n)) (some n h)) in
      let arms : get_or (b.before.arms ++ (b.last.words ∷ [])) n [] ≡ b.last.words =
      ap (λ (k : ℕ). get_or (b.before.arms ++ (b.last.words ∷ [])) k []) (sym y) ∙ get_or-append-add b.before.arms (b.last.words ∷ []) 0 [] in
      subst (λ (w : Walk). WalkedAt w n) b.is (record { arms = b.last; told = ap (λ (k : ℕ). group_told scope hs (group_at gs n) k) number ∙ b.last_told; rows = arms })

  earlier_at : (n g : ℕ) (l : Walk) → g < n → n < length gs → (b : WalkedBack scope hs gs next n l) → WalkedAt b.before g → WalkedAt l g
  earlier_at n g l q h b w =
      let m = many n b.before (omega arith) b.before_told in
      let nums = numbers_from b.before.next (length (group_at gs n)) in
      let number : get_or (b.before.numbers ++ nums) (group_start gs g) 0 ≡ get_or b.before.numbers (group_start gs g) 0 =
      get_or-append b.before.numbers nums 0 (group_start gs g) (omega (arith, m.0, starts_grow n g q (omega arith))) in
      let arms : get_or (b.before.arms ++ (b.last.words ∷ [])) g [] ≡ get_or b.before.arms g [] =
      get_or-append b.before.arms (b.last.words ∷ []) [] g (omega (arith, m.1)) in
      subst (λ (z : Walk). WalkedAt z g) b.is (record { arms = w.arms; told = ap (λ (k : ℕ). group_told scope hs (group_at gs g) k) number ∙ w.told; rows = arms ∙ w.rows })

  pub walked_at : (n : ℕ) → n ≤ length gs → (l : Walk) → walked scope hs gs next n ≡ ok l → (g : ℕ) → g < n → WalkedAt l g
  walked_at zero h l e g q = absurd (omega arith)
  walked_at (suc n) h l e g q = go (lt_or_eq g n (omega arith)) (walked_back scope hs gs next n l e) (λ b f p. walked_at n (omega arith) b f g p)
    where
      go : Or (g < n) (g ≡ n) → WalkedBack scope hs gs next n l → ((b : Walk) → walked scope hs gs next n ≡ ok b → g < n → WalkedAt b g) → WalkedAt l g
      go (first p) b ih = earlier_at n g l p (omega arith) b (ih b.before b.before_told p)
      go (second p) b ih = subst (WalkedAt l) (sym p) (last_at n l (omega arith) b)

-- The arms' scopes and the groups in order on words are those on trees, told as words (01, "Scoped fusion"), if each arm's scope is. Assumes nothing.
use Prim.Native.Nat.{ℕ, zero, suc, ◌+◌, ◌≤◌, ◌<◌}
use native.Mathlib.Omega.{arith}
use mathlib.Core.Path.{◌≡◌, refl, sym, ◌∙◌, ap, ap₂}
use mathlib.Core.Option.{some}
use mathlib.Core.List.{List, [], ◌∷◌, ◌++◌, append_assoc, append-nil, map}
use lib.ListN.{length, get_or, take}
use lib.Seq.{take-suc, take_all}
use Rattle.spec_tree.specs.Outcome.{Outcome, ok, refused, ◌>>=◌}
use Rattle.spec_tree.specs.Tree.{Tree}
use Rattle.spec_tree.specs.Tokens.{word, read, numbered, trees_in}
use Rattle.spec_tree.proofs.TokenLaws.{map_append}
use Rattle.words.specs.words.Words.{number}
use Rattle.spec_cse.specs.Answer.{Intermediate, Arms, no_arm, arm, block}
use Rattle.spec_cse.specs.AnswerRows.{arm_row, value_row, step_count, intermediates_words, each_words, arms_words}
use Rattle.spec_cse.specs.Scope.{Group, members, Scoped, Armed, scope_arms}
use Rattle.laws.proofs.cse.Outcomes.{Good}
use Rattle.laws.proofs.positions.RoundsOn.{then_same}
use Rattle.laws.specs.switches.Switches.{arm_count}
use Rattle.laws.specs.switches.Columns.{column_words}
use Rattle.fusion.specs.Settled.{Numbered, group_columns, Walked, numbered_groups}
use Rattle.fusion.specs.Words.{numbers_from, all_numbers}
use Rattle.fusion.proofs.Walking.{join_arms, one_arm_more}
use Rattle.fusion.proofs.Grouping.{one_group_more, arms_forth, groups_forth}
use Rattle.fusion.specs.place.Parts.{place_groups}
use Rattle.fusion.specs.place.Whole.{Told, ArmsTold, Walk, arms_told, group_told, walked}
use Rattle.scope_laws.specs.told.Told.{told}
use Rattle.scope_laws.proofs.told.Groups.{group_of, places_of, numbers_of, OpensGroup, groups_count, group_places, number_opens, members_count, columns_count, column_is, column_count}
use Rattle.spec_tree.proofs.Outcomes.{then_then}

-- ---- as words

abbrev pub told_arms : Armed → ArmsTold
told_arms a = record { words = arms_words number a.arms; next = a.next; extracted = a.extracted }

abbrev pub arm_words : Numbered → List ℕ
arm_words g = arms_words number g.armed.arms

abbrev pub told_groups : Walked → Walk
told_groups l = record { numbers = all_numbers l.groups; arms = map arm_words l.groups; next = l.next; extracted = l.extracted }

pub steps_are : (l : List Intermediate) → step_count (block l) ≡ length l
unfolding step_count block
steps_are [] = refl
steps_are (s ∷ l) = ap suc (steps_are l)

-- the words of arms one after another
joined_words : (a b : Arms) → arms_words number (join_arms a b) ≡ arms_words number a ++ arms_words number b
unfolding arms_words
joined_words no_arm b = refl
joined_words (arm s vs l) b =
    let i = intermediates_words number s in
    let v = each_words number value_row vs in
    ap (λ (r : List ℕ). word arm_row (step_count s + length vs) ∷ (i ++ (v ++ r))) (joined_words l b)
    ∙ ap (λ (r : List ℕ). word arm_row (step_count s + length vs) ∷ r)
    (ap (λ (r : List ℕ). i ++ r) (sym (append_assoc v (arms_words number l) (arms_words number b)))
    ∙ sym (append_assoc i (v ++ arms_words number l) (arms_words number b)))

last_arm : (s : Scoped) (n : ℕ) → length s.results ≡ n
    → word arm_row ((told value_row s).steps + n) ∷ (told value_row s).words ≡ arms_words number (arm (block s.inters) s.results no_arm)
unfolding arms_words told
last_arm s n e =
    let i = intermediates_words number (block s.inters) in
    let v = each_words number value_row s.results in
    ap₂ (λ (c d : ℕ). word arm_row (c + d) ∷ (i ++ v)) (sym (steps_are s.inters)) (sym e)
    ∙ ap (λ (r : List ℕ). word arm_row (step_count (block s.inters) + length s.results) ∷ (i ++ r)) (sym (append-nil v))

pub numbers_append : (a b : List Numbered) → all_numbers (a ++ b) ≡ all_numbers a ++ all_numbers b
unfolding all_numbers
numbers_append [] b = refl
numbers_append (g ∷ a) b =
    let n = numbers_from g.start (length (members g.group)) in
    ap (λ (r : List ℕ). n ++ r) (numbers_append a b) ∙ sym (append_assoc n (all_numbers a) (all_numbers b))

-- ---- arms

-- what a scope of an arm gives: no number goes back, and a value for each tree
abbrev pub Proper : ℕ → List Tree → Scoped → Type 0
Proper n es a = (n ≤ a.next) × (length a.results ≡ length es)

module _
    (scope : ℕ → List Tree → Outcome Scoped) (proper : (n : ℕ) (es : List Tree) → Good (Proper n es) (scope n es))
  where
    pub forth : (n : ℕ) (es : List Tree) → Good (λ (a : Scoped). n ≤ a.next) (scope n es)
    unfolding Good
    forth n es = go (scope n es) (proper n es)
      where
        go : (o : Outcome Scoped) → Good (Proper n es) o → Good (λ (a : Scoped). n ≤ a.next) o
        go (ok a) h = h.0
        go (refused i) h = tt

    module _
        (by_words : ℕ → List ℕ → Outcome Told) (hs : List ℕ) (m : ℕ) (complete : trees_in hs ≡ some m) (start : ℕ)
        (inner : (n i a : ℕ) → start ≤ n → OpensGroup hs i → a < arm_count hs (get_or (places_of hs i) 0 0)
        → by_words n (column_words hs (places_of hs i) a) ≡ (scope n (read numbered (column_words hs (places_of hs i) a)) >>= λ s. ok (told value_row s)))
      where
        module _ (i : ℕ) (o : OpensGroup hs i) where
          abbrev places : List ℕ
          places = places_of hs i

          abbrev all_columns : List (List Tree)
          all_columns = group_columns (group_of hs i)

          abbrev joined : Armed → Scoped → Armed
          joined r s = record { arms = join_arms r.arms (arm (block s.inters) s.results no_arm); next = s.next; extracted = r.extracted + s.extracted }

          abbrev told_joined : ArmsTold → Told → ArmsTold
          told_joined r a =
              record { words = r.words ++ (word arm_row (a.steps + length places) ∷ a.words); next = a.next; extracted = r.extracted + a.extracted }

          joined_is : (r : Armed) (s : Scoped) → length s.results ≡ length places → told_joined (told_arms r) (told value_row s) ≡ told_arms (joined r s)
          joined_is r s e =
              go (told value_row s).words (told value_row s).steps (last_arm s (length places) e)
            where
              go :
                  (ws : List ℕ) (c : ℕ) → word arm_row (c + length places) ∷ ws ≡ arms_words number (arm (block s.inters) s.results no_arm)
                  → record { words = arms_words number r.arms ++ (word arm_row (c + length places) ∷ ws); next = (told value_row s).next; extracted = r.extracted + (told value_row s).extracted }
                  ≡ told_arms (joined r s)
              go ws c q =
                  (unfold told in
                  ap (λ (x : List ℕ). record { words = x; next = s.next; extracted = r.extracted + s.extracted })
                  (ap (λ (x : List ℕ). arms_words number r.arms ++ x) q ∙ sym (joined_words r.arms (arm (block s.inters) s.results no_arm))))

          -- one arm's scope
          one_arm :
              (a : ℕ) → a < arm_count hs (get_or places 0 0) → (r : Armed) → start ≤ r.next
              → (by_words r.next (column_words hs places a) >>= λ x. ok (told_joined (told_arms r) x))
              ≡ ((scope r.next (get_or all_columns a []) >>= λ s. ok (joined r s)) >>= λ x. ok (told_arms x))
          one_arm a h r b =
              let cs = column_words hs places a in
              let es = read numbered cs in
              ap (λ (q : Outcome Told). q >>= λ x. ok (told_joined (told_arms r) x)) (inner r.next i a b o h)
              ∙ (then_then (scope r.next es) (λ s. ok (told value_row s)) (λ x. ok (told_joined (told_arms r) x))
              ∙ (then_same (Proper r.next es) (scope r.next es) (λ s. ok (told_joined (told_arms r) (told value_row s))) (λ s. ok (told_arms (joined r s))) (proper r.next es)
              (λ s q. ap ok (joined_is r s (q.1 ∙ column_count hs i o m complete a h)))
              ∙ (sym (then_then (scope r.next es) (λ s. ok (joined r s)) (λ x. ok (told_arms x)))
              ∙ ap (λ (l : List Tree). (scope r.next l >>= λ s. ok (joined r s)) >>= λ x. ok (told_arms x)) (sym (column_is hs i o m complete a h)))))

          pub arms_are :
              (next : ℕ) → start ≤ next → (a : ℕ) → a ≤ arm_count hs (get_or (places_of hs i) 0 0)
              → arms_told by_words hs (places_of hs i) next a ≡ (scope_arms scope next (take a (group_columns (group_of hs i))) >>= λ r. ok (told_arms r))
          unfolding arms_told
          arms_are next b zero h = (unfold scope_arms in unfold arms_words in refl)
          arms_are next b (suc a) h =
              let p = scope_arms scope next (take a all_columns) in
              let F : ArmsTold → Outcome ArmsTold = λ r. by_words r.next (column_words hs places a) >>= λ x. ok (told_joined r x) in
              let H : Armed → Outcome Armed = λ r. scope r.next (get_or all_columns a []) >>= λ s. ok (joined r s) in
              let c = columns_count hs i o in
              ap (λ (q : Outcome ArmsTold). q >>= F) (arms_are next b a (omega arith))
              ∙ (then_then p (λ r. ok (told_arms r)) F
              ∙ (then_same (λ (r : Armed). next ≤ r.next) p (λ r. F (told_arms r)) (λ r. H r >>= λ x. ok (told_arms x)) (arms_forth scope forth next (take a all_columns))
              (λ r q. one_arm a (omega arith) r (omega (arith, b, q)))
              ∙ (sym (then_then p H (λ x. ok (told_arms x)))
              ∙ ap (λ (q : Outcome Armed). q >>= λ x. ok (told_arms x))
              (sym (one_arm_more scope next (take a all_columns) (get_or all_columns a []))
              ∙ ap (scope_arms scope next) (sym (take-suc all_columns a [] (omega (arith, c, h))))))))

          -- all of them
          pub group_is :
              (next : ℕ) → start ≤ next
              → group_told by_words hs (places_of hs i) next ≡ (scope_arms scope (next + length (members (group_of hs i))) (group_columns (group_of hs i)) >>= λ r. ok (told_arms r))
          unfolding group_told
          group_is next b =
              let c = columns_count hs i o in
              let n = arm_count hs (get_or places 0 0) in
              arms_are (next + length places) (omega (arith, b)) n (omega arith)
              ∙ ap₂ (λ (x : ℕ) (l : List (List Tree)). scope_arms scope (next + x) l >>= λ r. ok (told_arms r)) (sym (members_count hs i o))
              (take_all n all_columns (omega (arith, c)))

        -- ---- groups

        abbrev more : Walked → Group → Armed → Walked
        more r g a = record { groups = r.groups ++ (record { group = g; start = r.next; armed = a } ∷ []); next = a.next; extracted = r.extracted + a.extracted }

        abbrev told_more : Walk → ℕ → ArmsTold → Walk
        told_more r n a =
            record { numbers = r.numbers ++ numbers_from r.next n; arms = r.arms ++ (a.words ∷ []); next = a.next; extracted = r.extracted + a.extracted }

        more_is : (r : Walked) (g : Group) (a : Armed) (n : ℕ) → length (members g) ≡ n → told_more (told_groups r) n (told_arms a) ≡ told_groups (more r g a)
        unfolding all_numbers
        more_is r g a n e =
            let new : Numbered = record { group = g; start = r.next; armed = a } in
            let p : all_numbers r.groups ++ numbers_from r.next n ≡ all_numbers (r.groups ++ (new ∷ [])) =
            ap (λ (x : ℕ). all_numbers r.groups ++ numbers_from r.next x) (sym e)
            ∙ (ap (λ (x : List ℕ). all_numbers r.groups ++ x) (sym (append-nil (numbers_from r.next (length (members g))))) ∙ sym (numbers_append r.groups (new ∷ []))) in
            ap₂ (λ (x : List ℕ) (y : List (List ℕ)). record { numbers = x; arms = y; next = a.next; extracted = r.extracted + a.extracted }) p
            (sym (map_append arm_words r.groups (new ∷ [])))

        pub groups_are :
            (n : ℕ) → n ≤ length (numbers_of hs)
            → walked by_words hs (place_groups hs) start n ≡ (numbered_groups scope start (map (group_of hs) (take n (numbers_of hs))) >>= λ l. ok (told_groups l))
        unfolding walked
        groups_are zero h = (unfold numbered_groups in unfold all_numbers in refl)
        groups_are (suc n) h =
            let i = get_or (numbers_of hs) n 0 in
            let o = number_opens hs n (omega arith) in
            let g = group_of hs i in
            let before = map (group_of hs) (take n (numbers_of hs)) in
            let p = numbered_groups scope start before in
            let F : List ℕ → Walk → Outcome Walk = λ ps r. group_told by_words hs ps r.next >>= λ a. ok (told_more r (length ps) a) in
            let H : Walked → Outcome Walked = λ r. scope_arms scope (r.next + length (members g)) (group_columns g) >>= λ a. ok (more r g a) in
            ap₂ (λ (ps : List ℕ) (q : Outcome Walk). q >>= F ps) (group_places hs n (omega arith)) (groups_are n (omega arith))
            ∙ (then_then p (λ l. ok (told_groups l)) (F (places_of hs i))
            ∙ (then_same (λ (l : Walked). start ≤ l.next) p (λ r. F (places_of hs i) (told_groups r)) (λ r. H r >>= λ x. ok (told_groups x)) (groups_forth scope forth start before)
            (λ r b. one i o r b)
            ∙ (sym (then_then p H (λ x. ok (told_groups x)))
            ∙ ap (λ (q : Outcome Walked). q >>= λ x. ok (told_groups x))
            (sym (one_group_more scope start before g)
            ∙ ap (numbered_groups scope start)
            (sym (ap (map (group_of hs)) (take-suc (numbers_of hs) n 0 h) ∙ map_append (group_of hs) (take n (numbers_of hs)) (i ∷ [])))))))
          where
            one :
                (i : ℕ) (o : OpensGroup hs i) (r : Walked) → start ≤ r.next
                → (group_told by_words hs (places_of hs i) r.next >>= λ a. ok (told_more (told_groups r) (length (places_of hs i)) a))
                ≡ ((scope_arms scope (r.next + length (members (group_of hs i))) (group_columns (group_of hs i)) >>= λ a. ok (more r (group_of hs i) a)) >>= λ x. ok (told_groups x))
            one i o r b =
                let g = group_of hs i in
                let q = scope_arms scope (r.next + length (members g)) (group_columns g) in
                ap (λ (q : Outcome ArmsTold). q >>= λ a. ok (told_more (told_groups r) (length (places_of hs i)) a)) (group_is i o r.next b)
                ∙ (then_then q (λ a. ok (told_arms a)) (λ a. ok (told_more (told_groups r) (length (places_of hs i)) a))
                ∙ (go q ∙ sym (then_then q (λ a. ok (more r g a)) (λ x. ok (told_groups x)))))
              where
                go : (q : Outcome Armed)
                    → (q >>= λ a. ok (told_more (told_groups r) (length (places_of hs i)) (told_arms a))) ≡ (q >>= λ a. ok (told_groups (more r (group_of hs i) a)))
                go (ok a) = ap ok (more_is r (group_of hs i) a (length (places_of hs i)) (members_count hs i o))
                go (refused x) = refl

        -- all groups
        pub walked_is :
            walked by_words hs (place_groups hs) start (length (place_groups hs)) ≡ (numbered_groups scope start (map (group_of hs) (numbers_of hs)) >>= λ l. ok (told_groups l))
        walked_is =
            ap (walked by_words hs (place_groups hs) start) (groups_count hs)
            ∙ (groups_are (length (numbers_of hs)) (omega arith)
            ∙ ap (λ (l : List ℕ). numbered_groups scope start (map (group_of hs) l) >>= λ l. ok (told_groups l)) (take_all (length (numbers_of hs)) (numbers_of hs) (omega arith)))

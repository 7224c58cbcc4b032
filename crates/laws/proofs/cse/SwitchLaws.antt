-- Switches as collected and grouped: each is a switch of the roots, a group's members have one kind, key and arm count, and columns of arms
-- are the arms at one place. Rewriting outside arms brings in the new name and no other. Assumes nothing.
use Prim.Native.Nat.{ℕ, zero, suc, ◌%◌, ◌≤◌, ◌<◌}
use mathlib.Core.Path.{◌≡◌, refl, sym, ◌∙◌, ap, subst}
use mathlib.Core.Bool.{Bool, true, false, ◌&&◌, cond}
use mathlib.Core.List.{List, [], ◌∷◌, ◌++◌}
use native.Mathlib.Omega.{arith}
use lib.ListN.{length, get_or}
use lib.Dec.{T, eqb, eqb→eq, leb→le}
use Rattle.spec_tree.specs.Tree.{Name, Tree, Forest, Sym, Const, Op, nil, ◌◂◌, eq_tree, operands}
use Rattle.spec_tree.specs.Kinds.{Neg, Add, Sub, Mul, Div, is_switch}
use Rattle.spec_tree.proofs.TreeLaws.{eq_tree_sound}
use Rattle.spec_tree.specs.Facts.{outer, outer_of, outer_first, all_outer}
use Rattle.spec_rewrite.specs.Rewrite.{replace_outside_arms, replace_operands, replace_key}
use Rattle.spec_cse.specs.Extract.{distinct}
use Rattle.spec_tree.specs.Value.{Reading, Env, value, operand_values, values, choice, switched, other, apply}
use Rattle.spec_cse.specs.Scope.{Switch, Group, switches, collect_switches, joins, place, groups_from, members, replace_in_results, first_arms, rest_arms, columns, arms_of_members}
use Rattle.spec_tree.proofs.Logic.{and_left, and_right, and_both, not_true}
use Rattle.spec_rewrite.proofs.Names.{holds, holds_each, holds_all, holds_append}
use Rattle.laws.proofs.cse.RoundsValue.{distinct_known}

-- ---- rewriting outside arms

module _ (p : Name → Bool) (target : Tree) (n : Name) (new : T (p n)) where
  leaf_holds : (t : Tree) (b : Bool) → T (holds p t) → T (holds p (elim b [ true ↦ Sym n | false ↦ t ]))
  unfolding holds
  leaf_holds t true w = new
  leaf_holds t false w = w

  node_holds :
      (k : ℕ) (f g : Forest) (b c : Bool) → T (holds_each p f) → T (holds_each p g) → T (holds p (elim b [ true ↦ Sym n | false ↦ Op k (elim c [ true ↦ f | false ↦ g ]) ]))
  unfolding holds
  node_holds k f g true c v w = new
  node_holds k f g false true v w = v
  node_holds k f g false false v w = w

  mutual
    unfolding holds replace_outside_arms

    pub outside_holds : (e : Tree) → T (holds p e) → T (holds p (replace_outside_arms target n e))
    outside_holds (Sym s) w = leaf_holds (Sym s) (eq_tree (Sym s) target) w
    outside_holds (Const c) w = leaf_holds (Const c) (eq_tree (Const c) target) w
    outside_holds (Op k f) w = node_holds k (replace_key target n f) (replace_operands target n f) (eq_tree (Op k f) target) (is_switch k) (key_holds f w) (operands_hold f w)

    operands_hold : (f : Forest) → T (holds_each p f) → T (holds_each p (replace_operands target n f))
    operands_hold nil w = tt
    operands_hold (t ◂ f) w =
        and_both (holds p (replace_outside_arms target n t)) (holds_each p (replace_operands target n f)) (outside_holds t (and_left (holds p t) (holds_each p f) w))
        (operands_hold f (and_right (holds p t) (holds_each p f) w))

    key_holds : (f : Forest) → T (holds_each p f) → T (holds_each p (replace_key target n f))
    key_holds nil w = tt
    key_holds (t ◂ f) w =
        and_both (holds p (replace_outside_arms target n t)) (holds_each p f) (outside_holds t (and_left (holds p t) (holds_each p f) w)) (and_right (holds p t) (holds_each p f) w)

  pub results_hold : (l : List Tree) → T (holds_all p l) → T (holds_all p (replace_in_results target n l))
  unfolding holds_all replace_in_results
  results_hold [] w = tt
  results_hold (t ∷ l) w =
      and_both (holds p (replace_outside_arms target n t)) (holds_all p (replace_in_results target n l)) (outside_holds t (and_left (holds p t) (holds_all p l) w))
      (results_hold l (and_right (holds p t) (holds_all p l) w))

-- ---- the switches of some roots

module _ (p : Name → Bool) where
  outer_part : (b : Bool) (x y : List Tree) → T (holds_all p x) → T (holds_all p y) → T (holds_all p (elim b [ true ↦ x | false ↦ y ]))
  outer_part true x y v w = v
  outer_part false x y v w = w

  mutual
    unfolding holds outer holds_all

    outer_holds : (e : Tree) → T (holds p e) → T (holds_all p (outer e))
    outer_holds (Sym n) w = and_both (p n) true w tt
    outer_holds (Const c) w = tt
    outer_holds (Op k f) w =
        and_both (holds_each p f) (holds_all p (elim (is_switch k) [ true ↦ outer_first f | false ↦ outer_of f ])) w
        (outer_part (is_switch k) (outer_first f) (outer_of f) (outer_first_holds f w) (outer_of_holds f w))

    outer_of_holds : (f : Forest) → T (holds_each p f) → T (holds_all p (outer_of f))
    outer_of_holds nil w = tt
    outer_of_holds (t ◂ f) w =
        holds_append p (outer t) (outer_of f) (outer_holds t (and_left (holds p t) (holds_each p f) w)) (outer_of_holds f (and_right (holds p t) (holds_each p f) w))

    outer_first_holds : (f : Forest) → T (holds_each p f) → T (holds_all p (outer_first f))
    outer_first_holds nil w = tt
    outer_first_holds (t ◂ f) w = outer_holds t (and_left (holds p t) (holds_each p f) w)

  all_outer_holds : (l : List Tree) → T (holds_all p l) → T (holds_all p (all_outer l))
  unfolding holds_all all_outer
  all_outer_holds [] w = tt
  all_outer_holds (t ∷ l) w =
      holds_append p (outer t) (all_outer l) (outer_holds t (and_left (holds p t) (holds_all p l) w)) (all_outer_holds l (and_right (holds p t) (holds_all p l) w))

  -- a switch that is a tree of its kind, key and arms, with symbols that pass the test
  pub record Fair (s : Switch) : Type 0 where
    pub rest : Forest
    pub is : s.tree ≡ Op s.kind (s.key ◂ rest)
    pub arms : operands rest ≡ s.arms
    pub switch : T (is_switch s.kind)
    pub known : T (holds p s.tree)

  abbrev pub AllFair : List Switch → Type 0
  AllFair [] = Unit {0}
  AllFair (s ∷ l) = Fair s × AllFair l

  switch_step :
      (k : ℕ) (q : Tree) (f : Forest) (l : List Switch) (b : Bool) → (T b → T (is_switch k)) → T (holds p (Op k (q ◂ f))) → AllFair l
      → AllFair (elim b [ true ↦ record { tree = Op k (q ◂ f); kind = k; key = q; arms = operands f } ∷ l | false ↦ l ])
  switch_step k q f l true g w h = (record { rest = f; is = refl; arms = refl; switch = g tt; known = w }, h)
  switch_step k q f l false g w h = h

  switches_fair : (l : List Tree) → T (holds_all p l) → AllFair (switches l)
  unfolding holds_all switches
  switches_fair [] w = tt
  switches_fair (Sym n ∷ l) w = switches_fair l (and_right (holds p (Sym n)) (holds_all p l) w)
  switches_fair (Const c ∷ l) w = switches_fair l (and_right (holds p (Const c)) (holds_all p l) w)
  switches_fair (Op k nil ∷ l) w = switches_fair l (and_right (holds p (Op k nil)) (holds_all p l) w)
  switches_fair (Op k (q ◂ f) ∷ l) w =
      switch_step k q f (switches l) (is_switch k) (λ t. t) (and_left (holds p (Op k (q ◂ f))) (holds_all p l) w) (switches_fair l (and_right (holds p (Op k (q ◂ f))) (holds_all p l) w))

  collected_fair : (rs : List Tree) → T (holds_all p rs) → AllFair (collect_switches rs)
  unfolding collect_switches
  collected_fair rs w = switches_fair (distinct [] (all_outer rs)) (distinct_known p [] (all_outer rs) (all_outer_holds rs w))

  -- ---- groups

  abbrev pub AllJoin : Switch → List Switch → Type 0
  AllJoin a [] = Unit {0}
  AllJoin a (s ∷ l) = (Fair s × T (joins a s)) × AllJoin a l

  abbrev pub FairGroup : Group → Type 0
  FairGroup g = Fair g.first × AllJoin g.first g.others

  abbrev pub FairGroups : List Group → Type 0
  FairGroups [] = Unit {0}
  FairGroups (g ∷ l) = FairGroup g × FairGroups l

  join_append : (a : Switch) (l : List Switch) (s : Switch) → AllJoin a l → Fair s → T (joins a s) → AllJoin a (l ++ (s ∷ []))
  join_append a [] s h f t = ((f, t), tt)
  join_append a (b ∷ l) s h f t = (h.0, join_append a l s h.1 f t)

  place_step :
      (s : Switch) (g : Group) (l r : List Group) (b : Bool) → (T b → T (joins g.first s)) → Fair s → FairGroup g → FairGroups l → FairGroups r
      → FairGroups (elim b [ true ↦ record { first = g.first; others = g.others ++ (s ∷ []) } ∷ l | false ↦ g ∷ r ])
  place_step s g l r true t f h x y = ((h.0, join_append g.first g.others s h.1 f (t tt)), x)
  place_step s g l r false t f h x y = (h, y)

  placed : (s : Switch) (l : List Group) → Fair s → FairGroups l → FairGroups (place s l)
  unfolding place
  placed s [] f h = ((f, tt), tt)
  placed s (g ∷ l) f h = place_step s g l (place s l) (joins g.first s) (λ t. t) f h.0 h.1 (placed s l f h.1)

  grouped : (gs : List Group) (l : List Switch) → FairGroups gs → AllFair l → FairGroups (groups_from gs l)
  unfolding groups_from
  grouped gs [] h f = h
  grouped gs (s ∷ l) h f = grouped (place s gs) l (placed s gs f.0 h) f.1

  pub groups_fair : (rs : List Tree) → T (holds_all p rs) → FairGroups (groups_from [] (collect_switches rs))
  groups_fair rs w = grouped [] (collect_switches rs) tt (collected_fair rs w)

  -- a group's members: one kind, one key, one arm count
  pub record LikeFirst (a s : Switch) : Type 0 where
    pub fair : Fair s
    pub kind : s.kind ≡ a.kind
    pub key : s.key ≡ a.key
    pub count : length s.arms ≡ length a.arms

  abbrev pub AllLike : Switch → List Switch → Type 0
  AllLike a [] = Unit {0}
  AllLike a (s ∷ l) = LikeFirst a s × AllLike a l

  joined : (a s : Switch) → Fair s → T (joins a s) → LikeFirst a s
  unfolding joins
  joined a s f t =
      let r = and_right (eqb a.kind s.kind) (eq_tree a.key s.key && eqb (length a.arms) (length s.arms)) t in
      record {
        fair = f;
        kind = sym (eqb→eq a.kind s.kind (and_left (eqb a.kind s.kind) (eq_tree a.key s.key && eqb (length a.arms) (length s.arms)) t));
        key = sym (eq_tree_sound a.key s.key (and_left (eq_tree a.key s.key) (eqb (length a.arms) (length s.arms)) r));
        count = sym (eqb→eq (length a.arms) (length s.arms) (and_right (eq_tree a.key s.key) (eqb (length a.arms) (length s.arms)) r));
      }

  others_like : (a : Switch) (l : List Switch) → AllJoin a l → AllLike a l
  others_like a [] h = tt
  others_like a (s ∷ l) h = (joined a s h.0.0 h.0.1, others_like a l h.1)

  pub members_like : (g : Group) → FairGroup g → AllLike g.first (members g)
  unfolding members
  members_like g h = (record { fair = h.0; kind = refl; key = refl; count = refl }, others_like g.first g.others h.1)

  -- ---- columns hold what the members hold

  key_known : (s : Switch) → Fair s → T (holds p s.key)
  unfolding holds
  key_known s f = and_left (holds p s.key) (holds_each p f.rest) (subst (λ (t : Tree). T (holds p t)) f.is f.known)

  pub first_key_known : (g : Group) → FairGroup g → T (holds p g.first.key)
  first_key_known g h = key_known g.first h.0

  operands_known : (f : Forest) → T (holds_each p f) → T (holds_all p (operands f))
  unfolding holds holds_all operands
  operands_known nil w = tt
  operands_known (t ◂ f) w = and_both (holds p t) (holds_all p (operands f)) (and_left (holds p t) (holds_each p f) w) (operands_known f (and_right (holds p t) (holds_each p f) w))

  arms_known : (s : Switch) → Fair s → T (holds_all p s.arms)
  unfolding holds
  arms_known s f =
      subst (λ (l : List Tree). T (holds_all p l)) f.arms
      (operands_known f.rest (and_right (holds p s.key) (holds_each p f.rest) (subst (λ (t : Tree). T (holds p t)) f.is f.known)))

  abbrev pub AllHold : List (List Tree) → Type 0
  AllHold [] = Unit {0}
  AllHold (l ∷ ls) = T (holds_all p l) × AllHold ls

  first_known : (ls : List (List Tree)) → AllHold ls → T (holds_all p (first_arms ls))
  unfolding first_arms holds_all
  first_known [] h = tt
  first_known ([] ∷ ls) h = first_known ls h.1
  first_known ((t ∷ ts) ∷ ls) h = and_both (holds p t) (holds_all p (first_arms ls)) (and_left (holds p t) (holds_all p ts) h.0) (first_known ls h.1)

  rest_known : (ls : List (List Tree)) → AllHold ls → AllHold (rest_arms ls)
  unfolding rest_arms holds_all
  rest_known [] h = tt
  rest_known ([] ∷ ls) h = (tt, rest_known ls h.1)
  rest_known ((t ∷ ts) ∷ ls) h = (and_right (holds p t) (holds_all p ts) h.0, rest_known ls h.1)

  columns_known : (n : ℕ) (ls : List (List Tree)) → AllHold ls → AllHold (columns n ls)
  unfolding columns
  columns_known zero ls h = tt
  columns_known (suc n) ls h = (first_known ls h, columns_known n (rest_arms ls) (rest_known ls h))

  members_known : (a : Switch) (l : List Switch) → AllLike a l → AllHold (arms_of_members l)
  unfolding arms_of_members
  members_known a [] h = tt
  members_known a (s ∷ l) h = (arms_known s h.0.fair, members_known a l h.1)

  pub group_columns_known : (g : Group) → FairGroup g → AllHold (columns (length g.first.arms) (arms_of_members (members g)))
  group_columns_known g h = columns_known (length g.first.arms) (arms_of_members (members g)) (members_known g.first (members g) (members_like g h))

-- ---- the value of a switch

pub length_columns : (n : ℕ) (ls : List (List Tree)) → length (columns n ls) ≡ n
unfolding columns
length_columns zero ls = refl
length_columns (suc n) ls = ap suc (length_columns n (rest_arms ls))

module _ (R : Reading) (σ : Env) where
  operand_values_are : (f : Forest) → operand_values R σ f ≡ values R σ (operands f)
  unfolding operand_values values value operands
  operand_values_are nil = refl
  operand_values_are (t ◂ f) = ap {B = List ℕ} (λ l. value R σ t ∷ l) (operand_values_are f)

  pub length_values : (l : List Tree) → length (values R σ l) ≡ length l
  unfolding values
  length_values [] = refl
  length_values (t ∷ l) = ap suc (length_values l)

  -- a switch is none of the other kinds that a value looks for
  other_kind : (k c : ℕ) → T (is_switch k) → c < 26 → eqb k c ≡ false
  other_kind k c t h = not_true (eqb k c) (λ u. let e = eqb→eq k c u in let l = leb→le 26 k t in omega arith)

  five : (a b c d e : Bool) (u v w x y z : ℕ) → a ≡ false → b ≡ false → c ≡ false → d ≡ false → e ≡ false
      → cond a u (cond b v (cond c w (cond d x (cond e y z)))) ≡ z
  five a b c d e u v w x y z p q r s t =
      ap (λ (i : Bool). cond i u (cond b v (cond c w (cond d x (cond e y z))))) p
      ∙ ap (λ (i : Bool). cond i v (cond c w (cond d x (cond e y z)))) q
      ∙ ap (λ (i : Bool). cond i w (cond d x (cond e y z))) r
      ∙ ap (λ (i : Bool). cond i x (cond e y z)) s
      ∙ ap (λ (i : Bool). cond i y z) t

  chosen_true : (b : Bool) (x y : ℕ) → T b → cond b x y ≡ x
  chosen_true true x y t = refl
  chosen_true false x y t = absurd t

  switch_applied : (k : ℕ) (vs : List ℕ) → T (is_switch k) → apply R k vs ≡ switched R k vs % R.modulus
  unfolding apply other
  switch_applied k vs t =
      ap (λ (v : ℕ). v % R.modulus)
      (five (eqb k Mul) (eqb k Neg) (eqb k Add) (eqb k Sub) (eqb k Div) _ _ _ _ _ _ (other_kind k Mul t (omega arith)) (other_kind k Neg t (omega arith)) (other_kind k Add t (omega arith))
      (other_kind k Sub t (omega arith)) (other_kind k Div t (omega arith))
      ∙ chosen_true (is_switch k) (switched R k vs) (R.function k vs) t)

  pub switch_value :
      (k : ℕ) (q : Tree) (f : Forest) → T (is_switch k)
      → value R σ (Op k (q ◂ f)) ≡ get_or (values R σ (operands f)) (choice R k (length (operands f)) (value R σ q)) 0 % R.modulus
  unfolding value operand_values switched
  switch_value k q f t =
      switch_applied k (value R σ q ∷ operand_values R σ f) t
      ∙ ap (λ (l : List ℕ). get_or l (choice R k (length l) (value R σ q)) 0 % R.modulus) (operand_values_are f)
      ∙ ap (λ (n : ℕ). get_or (values R σ (operands f)) (choice R k n (value R σ q)) 0 % R.modulus) (length_values (operands f))

  unfoldable pub values_each : List (List Tree) → List (List ℕ)
  values_each [] = []
  values_each (l ∷ ls) = values R σ l ∷ values_each ls

  -- the values of the arms at one place
  unfoldable pub picked : ℕ → List (List Tree) → List ℕ
  picked c [] = []
  picked c (l ∷ ls) = get_or (values R σ l) c 0 ∷ picked c ls

  abbrev pub AllLong : ℕ → List (List Tree) → Type 0
  AllLong n [] = Unit {0}
  AllLong n (l ∷ ls) = (length l ≡ n) × AllLong n ls

  rest_long : (n : ℕ) (ls : List (List Tree)) → AllLong (suc n) ls → AllLong n (rest_arms ls)
  unfolding rest_arms
  rest_long n [] h = tt
  rest_long n ([] ∷ ls) h = let e = h.0 in absurd (omega arith)
  rest_long n ((t ∷ ts) ∷ ls) h = ((let e = h.0 in omega arith), rest_long n ls h.1)

  first_picked : (n : ℕ) (ls : List (List Tree)) → AllLong (suc n) ls → values R σ (first_arms ls) ≡ picked 0 ls
  unfolding first_arms values picked
  first_picked n [] h = refl
  first_picked n ([] ∷ ls) h = let e = h.0 in absurd (omega arith)
  first_picked n ((t ∷ ts) ∷ ls) h = ap {B = List ℕ} (λ l. value R σ t ∷ l) (first_picked n ls h.1)

  rest_picked : (n c : ℕ) (ls : List (List Tree)) → AllLong (suc n) ls → picked c (rest_arms ls) ≡ picked (suc c) ls
  unfolding rest_arms values picked
  rest_picked n c [] h = refl
  rest_picked n c ([] ∷ ls) h = let e = h.0 in absurd (omega arith)
  rest_picked n c ((t ∷ ts) ∷ ls) h = ap {B = List ℕ} (λ l. get_or (values R σ ts) c 0 ∷ l) (rest_picked n c ls h.1)

  -- columns turn rows of arms about
  pub column_at : (n c : ℕ) (ls : List (List Tree)) → AllLong n ls → c < n → get_or (values_each (columns n ls)) c [] ≡ picked c ls
  unfolding columns values_each
  column_at zero c ls h l = absurd (omega arith)
  column_at (suc n) zero ls h l = first_picked n ls h
  column_at (suc n) (suc c) ls h l = column_at n c (rest_arms ls) (rest_long n ls h) (omega arith) ∙ rest_picked n c ls h

  pub column_past : (n c : ℕ) (ls : List (List Tree)) → n ≤ c → get_or (values_each (columns n ls)) c [] ≡ []
  unfolding columns values_each
  column_past zero c ls l = refl
  column_past (suc n) zero ls l = absurd (omega arith)
  column_past (suc n) (suc c) ls l = column_past n c (rest_arms ls) (omega arith)

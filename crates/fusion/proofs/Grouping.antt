-- Groups numbered one after another, as a loop takes them (specs, Settled): one group more, which groups they are, and where their numbers lie. Assumes nothing.
use Prim.Native.Nat.{ℕ, zero, suc, ◌+◌, ◌≤◌, ◌<◌}
use native.Mathlib.Omega.{arith}
use mathlib.Core.Path.{◌≡◌, refl, ◌∙◌, ap}
use mathlib.Core.List.{List, [], ◌∷◌, ◌++◌, map}
use lib.ListN.{length}
use Rattle.spec_tree.specs.Outcome.{Outcome, ok, refused, ◌>>=◌}
use Rattle.spec_tree.specs.Tree.{Tree}
use Rattle.spec_cse.specs.Scope.{Group, members, Scoped, Armed, scope_arms}
use Rattle.laws.proofs.cse.OrderLaws.{All, all_map}
use Rattle.laws.proofs.cse.Outcomes.{Good, good_ok, then_good, any_good}
use Rattle.fusion.specs.Settled.{Numbered, group_columns, Walked, numbered_groups}
use Rattle.fusion.specs.Words.{numbers_from, all_numbers}

abbrev pub join_walked : Walked → Walked → Walked
join_walked a b = record { groups = a.groups ++ b.groups; next = b.next; extracted = a.extracted + b.extracted }

first_group : Group → ℕ → Armed → Walked → Walked
first_group g n a r = record { groups = record { group = g; start = n; armed = a } ∷ r.groups; next = r.next; extracted = a.extracted + r.extracted }

none_before : (n : ℕ) (o : Outcome Walked) → o ≡ (o >>= λ b. ok (join_walked (record { groups = []; next = n; extracted = 0 }) b))
none_before n (ok b) = let z : b.extracted ≡ 0 + b.extracted = omega arith in ap (λ (x : ℕ). ok (record { groups = b.groups; next = b.next; extracted = x })) z
none_before n (refused r) = refl

groups_step :
    (g : Group) (n : ℕ) (a : Armed) (o : Outcome Walked) (rest : ℕ → Outcome Walked)
    → ((o >>= λ x. rest x.next >>= λ y. ok (join_walked x y)) >>= λ r. ok (first_group g n a r))
    ≡ ((o >>= λ r. ok (first_group g n a r)) >>= λ x. rest x.next >>= λ y. ok (join_walked x y))
unfolding first_group
groups_step g n a (ok x) rest = go (rest x.next)
  where
    go : (p : Outcome Walked) → ((p >>= λ y. ok (join_walked x y)) >>= λ r. ok (first_group g n a r)) ≡ (p >>= λ y. ok (join_walked (first_group g n a x) y))
    go (ok y) =
        let z : a.extracted + (x.extracted + y.extracted) ≡ a.extracted + x.extracted + y.extracted = omega arith in
        ap (λ (i : ℕ). ok (record { groups = record { group = g; start = n; armed = a } ∷ (x.groups ++ y.groups); next = y.next; extracted = i })) z
    go (refused r) = refl
groups_step g n a (refused r) rest = refl

abbrev pub group_of : Numbered → Group
group_of g = g.group

module _ (scope : ℕ → List Tree → Outcome Scoped) where
  pub numbered_append :
      (next : ℕ) (gs hs : List Group)
      → numbered_groups scope next (gs ++ hs) ≡ (numbered_groups scope next gs >>= λ a. numbered_groups scope a.next hs >>= λ b. ok (join_walked a b))
  unfolding numbered_groups first_group
  numbered_append next [] hs = none_before next (numbered_groups scope next hs)
  numbered_append next (g ∷ gs) hs = go (scope_arms scope (next + length (members g)) (group_columns g)) (λ n. numbered_append n gs hs)
    where
      go :
          (o : Outcome Armed)
          → ((n : ℕ) → numbered_groups scope n (gs ++ hs) ≡ (numbered_groups scope n gs >>= λ a. numbered_groups scope a.next hs >>= λ b. ok (join_walked a b)))
          → (o >>= λ a. numbered_groups scope a.next (gs ++ hs) >>= λ r. ok (first_group g next a r))
          ≡ ((o >>= λ a. numbered_groups scope a.next gs >>= λ r. ok (first_group g next a r)) >>= λ x. numbered_groups scope x.next hs >>= λ y. ok (join_walked x y))
      go (ok a) ih =
          ap (λ (o : Outcome Walked). o >>= λ r. ok (first_group g next a r)) (ih a.next)
          ∙ groups_step g next a (numbered_groups scope a.next gs) (λ n. numbered_groups scope n hs)
      go (refused r) ih = refl

  -- one group more
  pub one_group_more :
      (next : ℕ) (gs : List Group) (g : Group)
      → numbered_groups scope next (gs ++ (g ∷ []))
      ≡ (numbered_groups scope next gs >>= λ r. scope_arms scope (r.next + length (members g)) (group_columns g) >>= λ a.
      ok (record { groups = r.groups ++ (record { group = g; start = r.next; armed = a } ∷ []); next = a.next; extracted = r.extracted + a.extracted }))
  unfolding numbered_groups
  one_group_more next gs g = numbered_append next gs (g ∷ []) ∙ last (numbered_groups scope next gs)
    where
      last : (o : Outcome Walked)
          → (o >>= λ r. numbered_groups scope r.next (g ∷ []) >>= λ b. ok (join_walked r b))
          ≡ (o >>= λ r. scope_arms scope (r.next + length (members g)) (group_columns g) >>= λ a.
          ok (record { groups = r.groups ++ (record { group = g; start = r.next; armed = a } ∷ []); next = a.next; extracted = r.extracted + a.extracted }))
      last (ok r) = go (scope_arms scope (r.next + length (members g)) (group_columns g))
        where
          go : (p : Outcome Armed)
              → ((p >>= λ a. ok (record { groups = record { group = g; start = r.next; armed = a } ∷ []; next = a.next; extracted = a.extracted + 0 })) >>= λ b. ok (join_walked r b))
              ≡ (p >>= λ a. ok (record { groups = r.groups ++ (record { group = g; start = r.next; armed = a } ∷ []); next = a.next; extracted = r.extracted + a.extracted }))
          go (ok a) =
              let z : r.extracted + (a.extracted + 0) ≡ r.extracted + a.extracted = omega arith in
              ap (λ (i : ℕ). ok (record { groups = r.groups ++ (record { group = g; start = r.next; armed = a } ∷ []); next = a.next; extracted = i })) z
          go (refused x) = refl
      last (refused x) = refl

  -- ---- which groups they are

  pub groups_kept : (next : ℕ) (gs : List Group) → Good (λ (l : Walked). map group_of l.groups ≡ gs) (numbered_groups scope next gs)
  unfolding numbered_groups
  groups_kept next [] = good_ok (λ (l : Walked). map group_of l.groups ≡ []) (record { groups = []; next = next; extracted = 0 }) refl
  groups_kept next (g ∷ gs) =
      let Q : Walked → Type 0 = λ l. map group_of l.groups ≡ g ∷ gs in
      let made : Armed → Walked → Walked = λ a r.
      record { groups = record { group = g; start = next; armed = a } ∷ r.groups; next = r.next; extracted = a.extracted + r.extracted } in
      any_good Q (scope_arms scope (next + length (members g)) (group_columns g)) (λ a. numbered_groups scope a.next gs >>= λ r. ok (made a r))
      (λ a. then_good (λ (l : Walked). map group_of l.groups ≡ gs) Q (numbered_groups scope a.next gs) (groups_kept a.next gs) (λ r. ok (made a r))
      (λ r e. good_ok Q (made a r) (ap (λ (l : List Group). g ∷ l) e)))

  -- ---- where numbers lie, if no scope goes back

  module _ (forth : (n : ℕ) (es : List Tree) → Good (λ (a : Scoped). n ≤ a.next) (scope n es)) where
    pub arms_forth : (next : ℕ) (cs : List (List Tree)) → Good (λ (a : Armed). next ≤ a.next) (scope_arms scope next cs)
    unfolding scope_arms
    arms_forth next [] = good_ok (λ (a : Armed). next ≤ a.next) _ (omega arith)
    arms_forth next (c ∷ cs) =
        then_good (λ (a : Scoped). next ≤ a.next) (λ (a : Armed). next ≤ a.next) (scope next c) (forth next c) _
        (λ a h. then_good (λ (r : Armed). a.next ≤ r.next) (λ (r : Armed). next ≤ r.next) (scope_arms scope a.next cs) (arms_forth a.next cs) _
        (λ r g. good_ok (λ (r : Armed). next ≤ r.next) _ (omega (arith, h, g))))

    pub groups_forth : (next : ℕ) (gs : List Group) → Good (λ (l : Walked). next ≤ l.next) (numbered_groups scope next gs)
    unfolding numbered_groups
    groups_forth next [] = good_ok (λ (l : Walked). next ≤ l.next) _ (omega arith)
    groups_forth next (g ∷ gs) =
        then_good (λ (a : Armed). next + length (members g) ≤ a.next) (λ (l : Walked). next ≤ l.next) (scope_arms scope (next + length (members g)) (group_columns g))
        (arms_forth (next + length (members g)) (group_columns g)) _
        (λ a h. then_good (λ (r : Walked). a.next ≤ r.next) (λ (l : Walked). next ≤ l.next) (numbered_groups scope a.next gs) (groups_forth a.next gs) _
        (λ r e. good_ok (λ (l : Walked). next ≤ l.next) _ (omega (arith, h, e))))

    -- every member's number is one of those between
    abbrev Between : ℕ → Walked → Type 0
    Between next l = (next ≤ l.next) × All (λ (j : ℕ). (next ≤ j) × (j < l.next)) (all_numbers l.groups)

    from_between : (n k low high : ℕ) → low ≤ n → n + k ≤ high → All (λ (j : ℕ). (low ≤ j) × (j < high)) (numbers_from n k)
    unfolding numbers_from
    from_between n zero low high a b = tt
    from_between n (suc k) low high a b = ((a, omega (arith, b)), from_between (suc n) k low high (omega (arith, a)) (omega (arith, b)))

    all_append : (P : ℕ → Type 0) (a b : List ℕ) → All P a → All P b → All P (a ++ b)
    all_append P [] b h g = g
    all_append P (x ∷ a) b h g = (h.0, all_append P a b h.1 g)

    pub numbers_between :
        (next : ℕ) (gs : List Group)
        → Good (λ (l : Walked). (next ≤ l.next) × All (λ (j : ℕ). (next ≤ j) × (j < l.next)) (all_numbers l.groups)) (numbered_groups scope next gs)
    unfolding numbered_groups all_numbers first_group
    numbers_between next [] = good_ok (Between next) (record { groups = []; next = next; extracted = 0 }) (omega arith, tt)
    numbers_between next (g ∷ gs) =
        let m = length (members g) in
        then_good (λ (a : Armed). next + m ≤ a.next) (Between next) (scope_arms scope (next + m) (group_columns g)) (arms_forth (next + m) (group_columns g))
        (λ a. numbered_groups scope a.next gs >>= λ r. ok (first_group g next a r))
        (λ a h. then_good (Between a.next) (Between next) (numbered_groups scope a.next gs) (numbers_between a.next gs) (λ r. ok (first_group g next a r))
        (λ r e. good_ok (Between next) (first_group g next a r) (placed a r h e)))
      where
        placed : (a : Armed) (r : Walked) → next + length (members g) ≤ a.next → Between a.next r → Between next (first_group g next a r)
        placed a r h e =
            let m = length (members g) in
            let b = e.0 in
            let P : ℕ → Type 0 = λ (j : ℕ). (next ≤ j) × (j < r.next) in (
              omega (arith, h, b),
              all_append P (numbers_from next m) (all_numbers r.groups) (from_between next m next r.next (omega arith) (omega (arith, h, b)))
                  (all_map (λ (j : ℕ). (a.next ≤ j) × (j < r.next)) P (λ j q. let u = q.0 in let v = q.1 in (omega (arith, h, u), v)) (all_numbers r.groups) e.1),
            )

-- The arms' scopes and the groups one after another, as a loop takes them (specs, Settled): what was done, and then what is to come. Assumes nothing.
use Prim.Native.Nat.{ℕ, ◌+◌}
use native.Mathlib.Omega.{arith}
use mathlib.Core.Path.{◌≡◌, refl, ◌∙◌, ap}
use mathlib.Core.List.{List, [], ◌∷◌, ◌++◌}
use Rattle.spec_tree.specs.Outcome.{Outcome, ok, refused, ◌>>=◌}
use Rattle.spec_tree.specs.Tree.{Tree}
use Rattle.spec_cse.specs.Answer.{Arms, no_arm, arm, block}
use Rattle.spec_cse.specs.Scope.{Scoped, Armed, scope_arms}

-- ---- arms

abbrev pub join_arms : Arms → Arms → Arms
join_arms no_arm r = r
join_arms (arm s vs l) r = arm s vs (join_arms l r)

abbrev pub join_armed : Armed → Armed → Armed
join_armed a b = record { arms = join_arms a.arms b.arms; next = b.next; extracted = a.extracted + b.extracted }

-- nothing done yet
no_arms_before : (n : ℕ) (o : Outcome Armed) → o ≡ (o >>= λ b. ok (join_armed (record { arms = no_arm; next = n; extracted = 0 }) b))
no_arms_before n (ok b) = let z : b.extracted ≡ 0 + b.extracted = omega arith in ap (λ (x : ℕ). ok (record { arms = b.arms; next = b.next; extracted = x })) z
no_arms_before n (refused r) = refl

first_arm : Scoped → Armed → Armed
first_arm a r = record { arms = arm (block a.inters) a.results r.arms; next = r.next; extracted = a.extracted + r.extracted }

module _ (scope : ℕ → List Tree → Outcome Scoped) where
  arms_step :
      (a : Scoped) (o : Outcome Armed) (rest : ℕ → Outcome Armed)
      → ((o >>= λ x. rest x.next >>= λ y. ok (join_armed x y)) >>= λ r. ok (first_arm a r))
      ≡ ((o >>= λ r. ok (first_arm a r)) >>= λ x. rest x.next >>= λ y. ok (join_armed x y))
  unfolding first_arm
  arms_step a (ok x) rest = go (rest x.next)
    where
      go : (p : Outcome Armed) → ((p >>= λ y. ok (join_armed x y)) >>= λ r. ok (first_arm a r)) ≡ (p >>= λ y. ok (join_armed (first_arm a x) y))
      go (ok y) =
          let z : a.extracted + (x.extracted + y.extracted) ≡ a.extracted + x.extracted + y.extracted = omega arith in
          ap (λ (i : ℕ). ok (record { arms = arm (block a.inters) a.results (join_arms x.arms y.arms); next = y.next; extracted = i })) z
      go (refused r) = refl
  arms_step a (refused r) rest = refl

  pub arms_append :
      (next : ℕ) (cs es : List (List Tree))
      → scope_arms scope next (cs ++ es) ≡ (scope_arms scope next cs >>= λ a. scope_arms scope a.next es >>= λ b. ok (join_armed a b))
  unfolding scope_arms first_arm
  arms_append next [] es = no_arms_before next (scope_arms scope next es)
  arms_append next (c ∷ cs) es = go (scope next c) (λ n. arms_append n cs es)
    where
      go :
          (o : Outcome Scoped)
          → ((n : ℕ) → scope_arms scope n (cs ++ es) ≡ (scope_arms scope n cs >>= λ a. scope_arms scope a.next es >>= λ b. ok (join_armed a b)))
          → (o >>= λ a. scope_arms scope a.next (cs ++ es) >>= λ r. ok (first_arm a r))
          ≡ ((o >>= λ a. scope_arms scope a.next cs >>= λ r. ok (first_arm a r)) >>= λ x. scope_arms scope x.next es >>= λ y. ok (join_armed x y))
      go (ok a) ih =
          ap (λ (o : Outcome Armed). o >>= λ r. ok (first_arm a r)) (ih a.next) ∙ arms_step a (scope_arms scope a.next cs) (λ n. scope_arms scope n es)
      go (refused r) ih = refl

  -- one arm more
  pub one_arm_more :
      (next : ℕ) (cs : List (List Tree)) (es : List Tree)
      → scope_arms scope next (cs ++ (es ∷ []))
      ≡ (scope_arms scope next cs >>= λ a. scope a.next es >>= λ s.
      ok (record { arms = join_arms a.arms (arm (block s.inters) s.results no_arm); next = s.next; extracted = a.extracted + s.extracted }))
  unfolding scope_arms
  one_arm_more next cs es = arms_append next cs (es ∷ []) ∙ last (scope_arms scope next cs)
    where
      last : (o : Outcome Armed)
          → (o >>= λ a. scope_arms scope a.next (es ∷ []) >>= λ b. ok (join_armed a b))
          ≡ (o >>= λ a. scope a.next es >>= λ s.
          ok (record { arms = join_arms a.arms (arm (block s.inters) s.results no_arm); next = s.next; extracted = a.extracted + s.extracted }))
      last (ok a) = go (scope a.next es)
        where
          go : (p : Outcome Scoped)
              → ((p >>= λ s. ok (record { arms = arm (block s.inters) s.results no_arm; next = s.next; extracted = s.extracted + 0 })) >>= λ b. ok (join_armed a b))
              ≡ (p >>= λ s. ok (record { arms = join_arms a.arms (arm (block s.inters) s.results no_arm); next = s.next; extracted = a.extracted + s.extracted }))
          go (ok s) =
              let z : a.extracted + (s.extracted + 0) ≡ a.extracted + s.extracted = omega arith in
              ap (λ (i : ℕ). ok (record { arms = join_arms a.arms (arm (block s.inters) s.results no_arm); next = s.next; extracted = i })) z
          go (refused r) = refl
      last (refused r) = refl

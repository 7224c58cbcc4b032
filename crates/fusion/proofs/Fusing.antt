-- Groups fused one after another are the settled form (01, "Scoped fusion"): results and lets are settled by all members, a match's key by those of later groups.
-- Assumes nothing.
use Prim.Native.Nat.{ℕ, ◌+◌}
use native.Mathlib.Omega.{arith}
use mathlib.Core.Path.{◌≡◌, refl, sym, ◌∙◌, ap}
use mathlib.Core.List.{List, [], ◌∷◌, ◌++◌, append_assoc, append-nil, map}
use lib.ListN.{length}
use Rattle.spec_tree.specs.Outcome.{Outcome, ok, refused, ◌>>=◌}
use Rattle.spec_tree.specs.Tree.{Tree}
use Rattle.spec_tree.proofs.TokenLaws.{map_append}
use Rattle.spec_cse.specs.Answer.{Intermediate, Match}
use Rattle.spec_cse.specs.Scope.{Group, members, member_names, columns, arms_of_members, Work, Scoped, Armed, scope_arms, fuse_group, fuse_groups}
use Rattle.fusion.specs.Settled.{Step, fused_tree, fused_stmt, Numbered, group_columns, Walked, numbered_groups, group_steps, all_steps, group_match, group_matches, settled_work, settled_groups}
use Rattle.fusion.proofs.Naming.{map_twice, map_stays, fused_none, fused_more, stmt_none, stmt_more, same_work, named_work, named_are}

-- one group's work, once its arms' scopes have answered
abbrev after_group : Group → Work → Armed → Work
after_group g w a =
    let v = named_work (members g) w in
    record {
      results = v.results;
      inters = v.inters ++ (Match g.first.kind g.first.key (member_names w.next (members g)) a.arms ∷ []);
      next = a.next;
      extracted = v.extracted + a.extracted;
    }

one_group :
    (scope : ℕ → List Tree → Outcome Scoped) (g : Group) (w : Work)
    → fuse_group scope g w ≡ (scope_arms scope (w.next + length (members g)) (group_columns g) >>= λ a. ok (after_group g w a))
unfolding fuse_group group_columns
one_group scope g w =
    ap (λ (v : Work). scope_arms scope v.next (columns (length g.first.arms) (arms_of_members (members g))) >>= λ a.
    ok (record {
      results = v.results;
      inters = v.inters ++ (Match g.first.kind g.first.key (member_names w.next (members g)) a.arms ∷ []);
      next = a.next;
      extracted = v.extracted + a.extracted;
    })) (named_are (members g) w)

-- the groups after it settle what one group left
module _ (g : Group) (w : Work) (a : Armed) (r : Walked) where
  abbrev here : Numbered
  here = record { group = g; start = w.next; armed = a }

  abbrev own : List Step
  own = group_steps here

  abbrev later : List Step
  later = all_steps r.groups

  settled_later :
      settled_work (after_group g w a) r
      ≡ settled_work w (record { groups = here ∷ r.groups; next = r.next; extracted = a.extracted + r.extracted })
  unfolding settled_work group_matches group_match group_steps all_steps fused_stmt
  settled_later =
      let m : Intermediate = Match g.first.kind g.first.key (member_names w.next (members g)) a.arms in
      let z : w.extracted + a.extracted + r.extracted ≡ w.extracted + (a.extracted + r.extracted) = omega arith in
      same_work (map (fused_tree later) (map (fused_tree own) w.results)) (map (fused_tree (own ++ later)) w.results)
      (map (fused_stmt later) (map (fused_stmt own) w.inters ++ (m ∷ [])) ++ group_matches r.groups)
      (map (fused_stmt (own ++ later)) w.inters ++ (fused_stmt later m ∷ group_matches r.groups))
      r.next r.next (w.extracted + a.extracted + r.extracted) (w.extracted + (a.extracted + r.extracted))
      (map_twice (fused_tree own) (fused_tree later) (fused_tree (own ++ later)) (λ (t : Tree). sym (fused_more own later t)) w.results)
      (ap (λ (l : List Intermediate). l ++ group_matches r.groups) (map_append (fused_stmt later) (map (fused_stmt own) w.inters) (m ∷ []))
      ∙ (append_assoc (map (fused_stmt later) (map (fused_stmt own) w.inters)) (fused_stmt later m ∷ []) (group_matches r.groups)
      ∙ ap (λ (l : List Intermediate). l ++ (fused_stmt later m ∷ group_matches r.groups))
      (map_twice (fused_stmt own) (fused_stmt later) (fused_stmt (own ++ later)) (λ (s : Intermediate). sym (stmt_more own later s)) w.inters)))
      refl z

module _ (scope : ℕ → List Tree → Outcome Scoped) where
  -- what is left once a group's arms have answered
  rest : (g : Group) (w : Work) (a : Armed) (o : Outcome Walked)
      → (o >>= λ r. ok (settled_work (after_group g w a) r))
      ≡ ((o >>= λ r. ok (record { groups = record { group = g; start = w.next; armed = a } ∷ r.groups; next = r.next; extracted = a.extracted + r.extracted })) >>= λ l. ok (settled_work w l))
  rest g w a (ok r) = ap ok (settled_later g w a r)
  rest g w a (refused x) = refl

  no_groups : (w : Work) → w ≡ settled_work w (record { groups = []; next = w.next; extracted = 0 })
  unfolding settled_work all_steps group_matches
  no_groups w =
      let z : w.extracted ≡ w.extracted + 0 = omega arith in
      same_work w.results (map (fused_tree []) w.results) w.inters (map (fused_stmt []) w.inters ++ []) w.next w.next w.extracted (w.extracted + 0)
      (sym (map_stays (fused_tree []) fused_none w.results))
      (sym (append-nil (map (fused_stmt []) w.inters) ∙ map_stays (fused_stmt []) stmt_none w.inters)) refl z

  pub fused_are : (gs : List Group) (w : Work) → fuse_groups scope gs w ≡ settled_groups scope gs w
  unfolding fuse_groups settled_groups numbered_groups
  fused_are [] w = ap ok (no_groups w)
  fused_are (g ∷ l) w = rw (one_group scope g w) (go (scope_arms scope (w.next + length (members g)) (group_columns g)) (λ (v : Work). fused_are l v))
    where
      go : (o : Outcome Armed) → ((v : Work) → fuse_groups scope l v ≡ settled_groups scope l v)
          → ((o >>= λ a. ok (after_group g w a)) >>= λ v. fuse_groups scope l v)
          ≡ ((o >>= λ a. numbered_groups scope a.next l >>= λ r.
          ok (record { groups = record { group = g; start = w.next; armed = a } ∷ r.groups; next = r.next; extracted = a.extracted + r.extracted })) >>= λ r. ok (settled_work w r))
      go (ok a) ih = ih (after_group g w a) ∙ rest g w a (numbered_groups scope a.next l)
      go (refused x) ih = refl

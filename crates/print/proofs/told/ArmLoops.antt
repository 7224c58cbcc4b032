-- What the loops over an arm's statements and over a match's arms keep (Places, Writers). Assumes nothing.
use Prim.Native.Nat.{ℕ, suc, ◌+◌, ◌/◌, ◌≤◌, ◌<◌}
use native.Mathlib.Omega.{arith}
use native.Mathlib.Numerals.{add-one}
use mathlib.Core.Path.{◌≡◌, refl, sym, ap, ◌∙◌, subst}
use mathlib.Core.Bool.{Bool}
use mathlib.Core.List.{List, [], ◌∷◌, ◌++◌}
use lib.ListN.{length, get_or, length-append}
use lib.Dec.{T}
use Rattle.spec_tree.specs.Tree.{Tree}
use Rattle.spec_tree.specs.Rows.{Row}
use Rattle.spec_tree.specs.Tokens.{word, number_in}
use Rattle.spec_cse.specs.Answer.{Intermediate, Intermediates, Arms, Let, Match, end, step, no_arm, arm, displays, tuple, arm_text, stmt_text, stmts_texts, arms_texts}
use Rattle.spec_cse.specs.Read.{arm_count}
use Rattle.spec_cse.specs.AnswerRows.{arm_row, value_row, step_count, each_words, intermediate_words, intermediates_words, arms_words, intermediates_ok}
use Rattle.laws.specs.answer.Fitting.{stmts_fitting, numbered_in}
use Rattle.fmt.specs.emit.Writing.{Writes}
use Rattle.fmt.proofs.emit.WriteLaws.{writes_then, writes_as}
use Rattle.print.specs.told.Places.{At, ValuesAt, StmtAt, ArmAt, ArmsAt, Passed, Owes}
use Rattle.print.specs.told.Pieces.{brace_opening, brace_closing, spaced, arm_opening, arm_closing, arms_closing, arms_run}
use Rattle.print.specs.told.Writers.{ValuesWritten, StmtWritten, ArmWritten}
use Rattle.print.proofs.told.PieceLaws.{arm_is, stmts_cons, stmts_none, arms_cons, arms_none, stmts_counted}
use Rattle.print.proofs.told.PlaceLaws.{at_in, at_head}
use Rattle.print.proofs.told.PartLaws.{arm_words, arms_split, first_arm, other_arms, first_stmt, stmts_pass, stmts_fit, after_stmt, stmt_length}
use Rattle.print.proofs.told.LoopLaws.{owes_less, owes_as}

spaced_cons : (s : List ℕ) (l : List (List ℕ)) (after : List ℕ) → spaced (s ∷ l) after ≡ s ++ (32 ∷ spaced l after)
unfolding spaced
spaced_cons s l after = refl

-- ---- the statements of an arm

module _ (rows : List Row) (ws : List ℕ) (n at : ℕ) (bare dry : Bool) (old : List ℕ) (to : ℕ) (s : Intermediates) (vs : List Tree) where
  abbrev number : List ℕ → ℕ
  number = number_in rows

  some_words : (x : Intermediate) → 1 ≤ length (intermediate_words number x)
  unfolding intermediate_words
  some_words (Let n e) = omega arith
  some_words (Match k key ns arms) = omega arith

  abbrev values : List ℕ
  values = each_words number value_row vs

  abbrev after : ℕ → List ℕ
  after count = tuple (displays vs) ++ brace_closing bare count

  pub record StmtsLeft (count i next : ℕ) (mid : List ℕ) (place : ℕ) : Type 0 where
    pub rest : Intermediates
    pub passes : T (intermediates_ok rest)
    pub fits : T (stmts_fitting (numbered_in rows) rest)
    pub here : At ws next (intermediates_words number rest ++ values)
    pub counted : i + step_count rest ≡ count
    pub after_row : at < next
    pub enough : i < next
    pub token : next + length (intermediates_words number rest ++ values) ≡ at + length (arm_words rows ws s vs)
    pub owes : Owes dry old to (spaced (stmts_texts s) (after count)) mid place (spaced (stmts_texts rest) (after count))

  -- an arm's row says how many statements it has
  pub arm_row_is : ArmAt rows ws n at s vs → (at < length ws) × (get_or ws at 0 / 64 ≡ step_count s + n)
  arm_row_is h =
      let w = word arm_row (step_count s + length vs) in
      let e = at_head w (intermediates_words number s ++ values) h.here in
      (at_in w (intermediates_words number s ++ values) h.here, omega (arith, e, h.count))

  -- with what was written before the loop
  pub arm_whole :
      {new : List ℕ} {next e : ℕ} (count : ℕ) (old0 : List ℕ) (to0 : ℕ) → count ≡ step_count s → Writes dry old0 to0 (brace_opening bare count) old to
      → Passed dry old at to (arm_words rows ws s vs) (spaced (stmts_texts s) (after count)) new next e
      → Passed dry old0 at to0 (arm_words rows ws s vs) (arm_text bare (stmts_texts s) (tuple (displays vs))) new next e
  arm_whole count old0 to0 c w p =
      let k : length (stmts_texts s) ≡ count = stmts_counted s ∙ sym c in
      let e : arm_text bare (stmts_texts s) (tuple (displays vs)) ≡ brace_opening bare count ++ spaced (stmts_texts s) (after count) =
      arm_is bare (stmts_texts s) (tuple (displays vs)) ∙ ap (λ (x : ℕ). brace_opening bare x ++ spaced (stmts_texts s) (tuple (displays vs) ++ brace_closing bare x)) k in
      record { token = p.token; written = writes_as (brace_opening bare count ++ spaced (stmts_texts s) (after count)) (arm_text bare (stmts_texts s) (tuple (displays vs))) (sym e) (writes_then w p.written) }

  module _ {count i next : ℕ} {mid : List ℕ} {place : ℕ} (v : StmtsLeft count i next mid place) where
    pub stmts_next : i < count → (x : Intermediate) × StmtAt rows ws next x
    stmts_next h = go v.rest v.passes v.fits v.here v.counted
      where
        go : (l : Intermediates) → T (intermediates_ok l) → T (stmts_fitting (numbered_in rows) l) → At ws next (intermediates_words number l ++ values) → i + step_count l ≡ count
            → (x : Intermediate) × StmtAt rows ws next x
        go end p f g c = absurd (unfold step_count in omega arith)
        go (step x l) p f g c = (x, first_stmt rows ws x l values p f g)

    pub stmts_turn :
        {mid1 mid2 : List ℕ} {next1 place1 place2 : ℕ} → i < count → StmtWritten rows ws next dry mid place mid1 next1 place1 → Writes dry mid1 place1 (32 ∷ []) mid2 place2
        → StmtsLeft count (i + 1) next1 mid2 place2
    stmts_turn {mid1} {mid2} {next1} {place1} {place2} h t w = go v.rest v.passes v.fits v.here v.counted v.token v.owes
      where
        counts : (x : Intermediate) (l : Intermediates) → step_count (step x l) ≡ suc (step_count l)
        counts x l = unfold step_count in refl

        go : (l : Intermediates) → T (intermediates_ok l) → T (stmts_fitting (numbered_in rows) l) → At ws next (intermediates_words number l ++ values) → i + step_count l ≡ count
            → next + length (intermediates_words number l ++ values) ≡ at + length (arm_words rows ws s vs)
            → Owes dry old to (spaced (stmts_texts s) (after count)) mid place (spaced (stmts_texts l) (after count)) → StmtsLeft count (i + 1) next1 mid2 place2
        go end p f g c k o = absurd (unfold step_count in omega arith)
        go (step x l) p f g c k o =
            let q = t x (first_stmt rows ws x l values p f g) in
            let e : next + length (intermediate_words number x) ≡ next1 = sym q.token in
            let more = spaced (stmts_texts l) (after count) in
            let y : spaced (stmts_texts (step x l)) (after count) ≡ stmt_text x ++ (32 ∷ more) =
            ap (λ (d : List (List ℕ)). spaced d (after count)) (stmts_cons x l) ∙ spaced_cons (stmt_text x) (stmts_texts l) (after count) in
            record {
              rest = l;
              passes = stmts_pass rows ws x l values p f g;
              fits = stmts_fit rows ws x l values p f g;
              here = subst (λ (j : ℕ). At ws j (intermediates_words number l ++ values)) e (after_stmt rows ws x l values p f g);
              counted = omega (arith, counts x l);
              after_row = omega (arith, v.after_row);
              enough = omega (arith, v.enough, some_words x);
              token = omega (arith, stmt_length rows ws x l values p f g);
              owes = owes_less (32 ∷ []) more (owes_less (stmt_text x) (32 ∷ more) (owes_as (spaced (stmts_texts (step x l)) (after count)) (stmt_text x ++ (32 ∷ more)) y o) q.written) w;
            }

    pub values_here : ArmAt rows ws n at s vs → count ≤ i → ValuesAt rows ws value_row n next vs
    values_here h d = record { count = h.count; passes = h.values_pass; fits = h.values_fit; here = go v.rest v.here v.counted }
      where
        none : intermediates_words number end ≡ []
        none = unfold intermediates_words in refl

        go : (l : Intermediates) → At ws next (intermediates_words number l ++ values) → i + step_count l ≡ count → At ws next values
        go end g c = subst (λ (x : List ℕ). At ws next (x ++ values)) none g
        go (step x l) g c = absurd (unfold step_count in omega arith)

    pub arm_end :
        {mid1 new : List ℕ} {next1 place1 e : ℕ} → ArmAt rows ws n at s vs → count ≤ i → ValuesWritten rows ws next dry mid place mid1 next1 place1 n → Writes dry mid1 place1 (brace_closing bare count) new e
        → Passed dry old at to (arm_words rows ws s vs) (spaced (stmts_texts s) (after count)) new next1 e
    arm_end {mid1} {new} {next1} {place1} {e} h d t w =
        go v.rest v.counted v.token v.owes
      where
        none : intermediates_words number end ≡ []
        none = unfold intermediates_words in refl

        bare_text : spaced (stmts_texts end) (after count) ≡ after count
        bare_text = ap (λ (l : List (List ℕ)). spaced l (after count)) stmts_none ∙ (unfold spaced in refl)

        go : (l : Intermediates) → i + step_count l ≡ count → next + length (intermediates_words number l ++ values) ≡ at + length (arm_words rows ws s vs)
            → Owes dry old to (spaced (stmts_texts s) (after count)) mid place (spaced (stmts_texts l) (after count))
            → Passed dry old at to (arm_words rows ws s vs) (spaced (stmts_texts s) (after count)) new next1 e
        go end c k o =
            let q = t vs (values_here h d) in
            record {
              token = omega (arith, q.token, ap length none, length-append (intermediates_words number end) values);
              written = owes_less (tuple (displays vs)) (brace_closing bare count) (owes_as (spaced (stmts_texts end) (after count)) (after count) bare_text o) q.written new e w;
            }
        go (step x l) c k o = absurd (unfold step_count in omega arith)

-- ---- the arms of a match

run_cons : (bare d : Bool) (m i : ℕ) (s : List ℕ) (l : List (List ℕ)) → arms_run bare d m i (s ∷ l) ≡ arm_opening bare d m i ++ (s ++ (arm_closing bare d m i ++ arms_run bare d m (suc i) l))
unfolding arms_run
run_cons bare d m i s l = refl

run_none : (bare d : Bool) (m i : ℕ) → arms_run bare d m i [] ≡ arms_closing bare d
unfolding arms_run
run_none bare d m i = refl

arms_counts : (s : Intermediates) (vs : List Tree) (l : Arms) → arm_count (arm s vs l) ≡ suc (arm_count l)
unfolding arm_count
arms_counts s vs l = refl

module _ (rows : List Row) (ws : List ℕ) (n m at : ℕ) (bare d dry : Bool) (old : List ℕ) (to : ℕ) (arms : Arms) where
  pub record ArmsLeft (i next : ℕ) (mid : List ℕ) (place : ℕ) : Type 0 where
    pub rest : Arms
    pub left : ArmsAt rows ws n (arm_count rest) next rest
    pub counted : i + arm_count rest ≡ m
    pub token : next + length (arms_words (number_in rows) rest) ≡ at + length (arms_words (number_in rows) arms)
    pub after : at ≤ next
    pub owes : Owes dry old to (arms_run bare d m 0 (arms_texts arms bare)) mid place (arms_run bare d m i (arms_texts rest bare))

  module _ {i next : ℕ} {mid : List ℕ} {place : ℕ} (v : ArmsLeft i next mid place) where
    pub arms_next : i < m → (s : Intermediates) × (vs : List Tree) × ArmAt rows ws n next s vs
    arms_next h = go v.rest v.left v.counted
      where
        go : (l : Arms) → ArmsAt rows ws n (arm_count l) next l → i + arm_count l ≡ m → (s : Intermediates) × (vs : List Tree) × ArmAt rows ws n next s vs
        go no_arm g c = absurd (unfold arm_count in omega arith)
        go (arm s vs l) g c = (s, vs, first_arm rows ws s vs l g)

    pub arms_turn :
        {mid1 mid2 mid3 : List ℕ} {place1 next2 place2 place3 : ℕ} → i < m → Writes dry mid place (arm_opening bare d m i) mid1 place1
        → ArmWritten rows ws next dry mid1 place1 mid2 next2 place2 bare n → Writes dry mid2 place2 (arm_closing bare d m i) mid3 place3 → ArmsLeft (i + 1) next2 mid3 place3
    arms_turn {mid1} {mid2} {mid3} {place1} {next2} {place2} {place3} h w t u = go v.rest v.left v.counted v.token v.owes
      where
        go : (l : Arms) → ArmsAt rows ws n (arm_count l) next l → i + arm_count l ≡ m → next + length (arms_words (number_in rows) l) ≡ at + length (arms_words (number_in rows) arms)
            → Owes dry old to (arms_run bare d m 0 (arms_texts arms bare)) mid place (arms_run bare d m i (arms_texts l bare)) → ArmsLeft (i + 1) next2 mid3 place3
        go no_arm g c k o = absurd (unfold arm_count in omega arith)
        go (arm s vs l) g c k o =
            let q = t s vs (first_arm rows ws s vs l g) in
            let e : next + length (arm_words rows ws s vs) ≡ next2 = sym q.token in
            let text = arm_text bare (stmts_texts s) (tuple (displays vs)) in
            let more = arms_run bare d m (suc i) (arms_texts l bare) in
            let y : arms_run bare d m i (arms_texts (arm s vs l) bare) ≡ arm_opening bare d m i ++ (text ++ (arm_closing bare d m i ++ more)) =
            ap (arms_run bare d m i) (arms_cons s vs l bare) ∙ run_cons bare d m i text (arms_texts l bare) in
            record {
              rest = l;
              left = subst (λ (j : ℕ). ArmsAt rows ws n (arm_count l) j l) e (other_arms rows ws s vs l g);
              counted = omega (arith, arms_counts s vs l);
              token = omega (arith, ap length (arms_split rows ws s vs l), length-append (arm_words rows ws s vs) (arms_words (number_in rows) l));
              after = omega (arith, v.after);
              owes = owes_as more (arms_run bare d m (i + 1) (arms_texts l bare)) (ap (λ (j : ℕ). arms_run bare d m j (arms_texts l bare)) (sym (add-one i)))
                  (owes_less (arm_closing bare d m i) more
                  (owes_less text (arm_closing bare d m i ++ more)
                  (owes_less (arm_opening bare d m i) (text ++ (arm_closing bare d m i ++ more)) (owes_as (arms_run bare d m i (arms_texts (arm s vs l) bare)) (arm_opening bare d m i ++ (text ++ (arm_closing bare d m i ++ more))) y o) w)
                  q.written) u);
            }

    pub arms_end :
        {new : List ℕ} {e : ℕ} → m ≤ i → Writes dry mid place (arms_closing bare d) new e → Passed dry old at to (arms_words (number_in rows) arms) (arms_run bare d m 0 (arms_texts arms bare)) new next e
    arms_end {new} {e} h w = go v.rest v.counted v.token v.owes
      where
        none : arms_words (number_in rows) no_arm ≡ []
        none = unfold arms_words in refl

        go : (l : Arms) → i + arm_count l ≡ m → next + length (arms_words (number_in rows) l) ≡ at + length (arms_words (number_in rows) arms)
            → Owes dry old to (arms_run bare d m 0 (arms_texts arms bare)) mid place (arms_run bare d m i (arms_texts l bare))
            → Passed dry old at to (arms_words (number_in rows) arms) (arms_run bare d m 0 (arms_texts arms bare)) new next e
        go no_arm c k o = record {
          token = omega (arith, ap length none);
          written = owes_as (arms_run bare d m i (arms_texts no_arm bare)) (arms_closing bare d) (ap (arms_run bare d m i) (arms_none bare) ∙ run_none bare d m i) o new e w;
        }
        go (arm s vs l) c k o = absurd (unfold arm_count in omega arith)

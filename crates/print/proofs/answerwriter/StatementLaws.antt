-- A statement's text from what its writers left: a let, a match's head, and a statement by its binding (Bindings, Writers). Assumes nothing.
use Prim.Native.Nat.{ℕ, ◌+◌, ◌*◌, ◌≤◌, ◌<◌}
use native.Mathlib.Omega.{arith}
use mathlib.Core.Path.{◌≡◌, refl, sym, ap, ◌∙◌, subst}
use mathlib.Core.Bool.{Bool, true, false, ◌&&◌}
use mathlib.Core.List.{List, ◌++◌, append_assoc}
use lib.ListN.{length}
use lib.Dec.{T, eqb}
use Rattle.spec_tree.specs.Bytes.{bytes}
use Rattle.spec_tree.specs.Kinds.{is_switch, arity_ok}
use Rattle.spec_tree.specs.Tree.{Name, Tree}
use Rattle.spec_tree.specs.Rows.{Row}
use Rattle.spec_tree.specs.Tokens.{tokens, number_in, name_code}
use Rattle.spec_tree.specs.text.Text.{name_text, display}
use Rattle.spec_cse.specs.Answer.{Intermediate, Arms, names_texts, tuple, stmt_text, arms_texts}
use Rattle.spec_cse.specs.Answer as answer
use Rattle.spec_cse.specs.Read.{arm_count}
use Rattle.spec_cse.specs.AnswerRows.{intermediate_words}
use Rattle.fmt.specs.emit.Writing.{Writes, low_bytes}
use Rattle.fmt.specs.symbols.Symbols.{symbol_text}
use Rattle.fmt.proofs.emit.WriteLaws.{writes_then, writes_as}
use Rattle.fmt.specs.checked.Check.{rows_in}
use Rattle.print.specs.told.Places.{StmtAt, Passed}
use Rattle.print.specs.told.Pieces.{let_opening, let_text, equals, arms_opening, head_text, arms_run}
use Rattle.print.specs.told.Writers.{TreeWritten, NamesWritten, LetWritten, HeadWritten, ArmsWritten, SomeTree, SomeNames, SomeArms}
use Rattle.print.proofs.told.PieceLaws.{branch_is, select_is, default_is, let_is}
use Rattle.print.proofs.told.PlaceLaws.{at_room, let_code}
use Rattle.print.proofs.told.PartLaws.{Switches, by_sign, by_index, by_default, two_arms, some_arms, let_parts, MatchParts, match_parts}
use Rattle.print.proofs.told.NameLoop.{let_name_text}
use Rattle.print.specs.answerwriter.Bindings.{is_sign, key_of, switch_by, binding_of}
use Rattle.print.specs.declared.answerwriter.Switch.{Switch}
use Rattle.print.specs.declared.answerwriter.Switch.TheVariants.{Index, Sign}
use Rattle.print.specs.declared.answerwriter.Binding.{Binding}
use Rattle.print.specs.declared.answerwriter.Binding.TheVariants.{Let, Match}

-- ---- a let

pub opening_written :
    {dry : Bool} {old m1 m2 new : List ℕ} {to p1 p2 end : ℕ} (name : List ℕ) → Writes dry old to (bytes "let ") m1 p1 → Writes dry m1 p1 name m2 p2
    → Writes dry m2 p2 (bytes " = ") new end → Writes dry old to (let_opening name) new end
unfolding let_opening
opening_written name a b c = writes_then a (writes_then b c)

pub opened_let : (name : List ℕ) (t : Tree) → let_opening name ++ (display t ++ bytes ";") ≡ let_text name t
unfolding let_opening let_text
opened_let name t =
    append_assoc (bytes "let ") (name ++ bytes " = ") (display t ++ bytes ";")
    ∙ ap (λ (r : List ℕ). bytes "let " ++ r) (append_assoc name (bytes " = ") (display t ++ bytes ";"))

pub let_written :
    {rows : List Row} {ws : List ℕ} {at : ℕ} {dry : Bool} {old m1 m2 new : List ℕ} {to p1 p2 next end : ℕ} (name : List ℕ)
    → Writes dry old to (let_opening name) m1 p1 → TreeWritten rows ws at dry m1 p1 m2 next p2 → Writes dry m2 p2 (bytes ";") new end → LetWritten rows ws at dry old to new next end name
let_written name a t e =
    λ x h. record { token = (t x h).token; written = writes_as (let_opening name ++ (display x ++ bytes ";")) (let_text name x) (opened_let name x) (writes_then a (writes_then (t x h).written e)) }

-- ---- a match up to its arms

module _ {rows : List Row} {ws : List ℕ} {dry : Bool} {old m1 m2 m3 m4 : List ℕ} {to p1 p2 p3 next p4 : ℕ} (n at key : ℕ) (sw : Switch) where
  pub sign_head :
      sw ≡ Sign key → Writes dry old to (bytes "let ") m1 p1 → NamesWritten rows ws dry m1 p1 m2 p2 n at → Writes dry m2 p2 (bytes " = if ") m3 p3
      → TreeWritten rows ws key dry m3 p3 m4 next p4 → HeadWritten rows ws dry old to m4 p4 (is_sign sw) (key_of sw) n at
  unfolding head_text equals arms_opening
  sign_head e a b c t =
      subst (λ (s : Switch). HeadWritten rows ws dry old to m4 p4 (is_sign s) (key_of s) n at) (sym e)
      (λ x ns after hx hn new end w. writes_then a (writes_then (b ns hn) (writes_then c (writes_then (t x hx).written w))))

  pub index_head :
      {new : List ℕ} {e : ℕ} → sw ≡ Index key → Writes dry old to (bytes "let ") m1 p1 → NamesWritten rows ws dry m1 p1 m2 p2 n at → Writes dry m2 p2 (bytes " = match ") m3 p3
      → TreeWritten rows ws key dry m3 p3 m4 next p4 → Writes dry m4 p4 (bytes " {") new e → HeadWritten rows ws dry old to new e (is_sign sw) (key_of sw) n at
  unfolding head_text equals arms_opening
  index_head {new} {e} q a b c t o =
      subst (λ (s : Switch). HeadWritten rows ws dry old to new e (is_sign s) (key_of s) n at) (sym q)
      (λ x ns after hx hn new' end' w. writes_then a (writes_then (b ns hn) (writes_then c (writes_then (t x hx).written (writes_then o w)))))

-- ---- a statement

module _ (node ws : List ℕ) (at : ℕ) where
  abbrev rows : List Row
  rows = rows_in node

  abbrev number : List ℕ → ℕ
  number = number_in (rows_in node)

  -- what the writers of a binding's parts ask
  abbrev pub Needs : Binding → Type 0
  Needs (Let code v) = SomeTree (rows_in node) ws v
  Needs (Match sw first bound count d) =
      SomeTree (rows_in node) ws (key_of sw) × SomeNames (rows_in node) ws bound first × SomeArms (rows_in node) ws bound count (first + bound) × (at < first + bound) × (first + bound ≤ length ws)

  needs : (s : Intermediate) → StmtAt (rows_in node) ws at s → Needs (binding_of number at s)
  unfolding binding_of
  needs (answer.Let n e) h = (e, (let_parts (rows_in node) ws n e at h).tree)
  needs (answer.Match k key ns arms) h =
      let p = match_parts (rows_in node) ws k key ns arms at h in
      let r = at_room (intermediate_words number (answer.Match k key ns arms)) h.here in
      (go (eqb k 26) (key, p.key_here), (ns, p.names_here), (arms, p.arms_here), omega arith, omega (arith, r, p.words, p.inside))
    where
      go : (b : Bool) → SomeTree (rows_in node) ws (at + 1) → SomeTree (rows_in node) ws (key_of (switch_by b (at + 1)))
      go true t = unfold switch_by in t
      go false t = unfold switch_by in t

  pub stmt_needs : (s : Intermediate) (b : Binding) → StmtAt (rows_in node) ws at s → b ≡ binding_of number at s → Needs b
  stmt_needs s b h e = subst Needs (sym e) (needs s h)

  module _ (dry : Bool) (old : List ℕ) (to : ℕ) (new : List ℕ) (next end : ℕ) (s : Intermediate) where
    -- what those writers leave makes the statement's text
    abbrev pub Means : Binding → Type 0
    Means (Let code v) =
        LetWritten (rows_in node) ws v dry old to new next end (low_bytes (symbol_text node code)) → Passed dry old at to (intermediate_words number s) (stmt_text s) new next end
    Means (Match sw first bound count d) =
        (mid : List ℕ) (place : ℕ) (bare : Bool) → bare ≡ is_sign sw → HeadWritten (rows_in node) ws dry old to mid place (is_sign sw) (key_of sw) bound first
        → ArmsWritten (rows_in node) ws (first + bound) dry mid place new next end bare d bound count → Passed dry old at to (intermediate_words number s) (stmt_text s) new next end

  match_text : (k : ℕ) (key : Tree) (ns : List Name) (arms : Arms) → Switches k → T (is_switch k && arity_ok k (1 + arm_count arms))
      → stmt_text (answer.Match k key ns arms) ≡ head_text (eqb k 26) (tuple (names_texts ns)) key (arms_run (eqb k 26) (eqb k 28) (arm_count arms) 0 (arms_texts arms (eqb k 26)))
  match_text k key ns arms (by_sign e) a = rw e (branch_is key ns arms (two_arms (arm_count arms) (subst (λ (x : ℕ). T (is_switch x && arity_ok x (1 + arm_count arms))) e a)))
  match_text k key ns arms (by_index e) a = rw e (select_is key ns arms)
  match_text k key ns arms (by_default e) a = let m = some_arms k (arm_count arms) (by_default e) a in rw e (default_is key ns arms m)

  module _ (dry : Bool) (old : List ℕ) (to : ℕ) (new : List ℕ) (next end : ℕ) where
    finish : (k : ℕ) (key : Tree) (ns : List Name) (arms : Arms) → MatchParts (rows_in node) ws k key ns arms at → (b : Bool) → eqb k 26 ≡ b → (mid : List ℕ) (place : ℕ)
        → HeadWritten (rows_in node) ws dry old to mid place b (at + 1) (length ns) (at + 1 + length (tokens number key))
        → ArmsWritten (rows_in node) ws (at + 1 + length (tokens number key) + length ns) dry mid place new next end b (eqb k 28) (length ns) (arm_count arms)
        → Passed dry old at to (intermediate_words number (answer.Match k key ns arms)) (stmt_text (answer.Match k key ns arms)) new next end
    finish k key ns arms p b e mid place hw aw =
        let q = aw arms p.arms_here in
        let text : Bool → List ℕ = (λ x. head_text x (tuple (names_texts ns)) key (arms_run x (eqb k 28) (arm_count arms) 0 (arms_texts arms x))) in
        let y : text b ≡ stmt_text (answer.Match k key ns arms) = ap text (sym e) ∙ sym (match_text k key ns arms p.switch p.arity) in
        record {
          token = omega (arith, q.token, p.words);
          written = writes_as (text b) (stmt_text (answer.Match k key ns arms)) y (hw key ns (arms_run b (eqb k 28) (arm_count arms) 0 (arms_texts arms b)) p.key_here p.names_here new end q.written);
        }

    means : (s : Intermediate) → StmtAt (rows_in node) ws at s → Means dry old to new next end s (binding_of number at s)
    unfolding binding_of
    means (answer.Let n e) h = λ t.
        let p = let_parts (rows_in node) ws n e at h in
        let q = t e p.tree in
        let c : name_code number n ≡ 1 + 3 * p.made = ap (name_code number) p.name ∙ let_code (rows_in node) p.made in
        let x : low_bytes (symbol_text node (name_code number n)) ≡ name_text n = let_name_text node (name_code number n) p.made c ∙ ap name_text (sym p.name) in
        let y : let_text (low_bytes (symbol_text node (name_code number n))) e ≡ stmt_text (answer.Let n e) = ap (λ (l : List ℕ). let_text l e) x ∙ sym (let_is n e) in
        record { token = omega (arith, q.token, p.words); written = writes_as (let_text (low_bytes (symbol_text node (name_code number n))) e) (stmt_text (answer.Let n e)) y q.written }
    means (answer.Match k key ns arms) h = go (eqb k 26) refl
      where
        go : (b : Bool) → eqb k 26 ≡ b → (mid : List ℕ) (place : ℕ) (bare : Bool) → bare ≡ is_sign (switch_by b (at + 1))
            → HeadWritten (rows_in node) ws dry old to mid place (is_sign (switch_by b (at + 1))) (key_of (switch_by b (at + 1))) (length ns) (at + 1 + length (tokens number key))
            → ArmsWritten (rows_in node) ws (at + 1 + length (tokens number key) + length ns) dry mid place new next end bare (eqb k 28) (length ns) (arm_count arms)
            → Passed dry old at to (intermediate_words number (answer.Match k key ns arms)) (stmt_text (answer.Match k key ns arms)) new next end
        go true e mid place bare f hw aw =
            finish k key ns arms (match_parts (rows_in node) ws k key ns arms at h) true e mid place (unfold switch_by in hw)
            (subst (λ (x : Bool). ArmsWritten (rows_in node) ws (at + 1 + length (tokens number key) + length ns) dry mid place new next end x (eqb k 28) (length ns) (arm_count arms)) (unfold switch_by in f) aw)
        go false e mid place bare f hw aw =
            finish k key ns arms (match_parts (rows_in node) ws k key ns arms at h) false e mid place (unfold switch_by in hw)
            (subst (λ (x : Bool). ArmsWritten (rows_in node) ws (at + 1 + length (tokens number key) + length ns) dry mid place new next end x (eqb k 28) (length ns) (arm_count arms)) (unfold switch_by in f) aw)

    pub stmt_means : (s : Intermediate) (b : Binding) → StmtAt (rows_in node) ws at s → b ≡ binding_of number at s → Means dry old to new next end s b
    stmt_means s b h e = subst (Means dry old to new next end s) (sym e) (means s h)

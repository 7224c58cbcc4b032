-- The words that an extraction and a reciprocal give, part by part: the rewritten trees' words and then those of the new binding; and the words of the tree at a
-- place are the run that starts there. Assumes nothing.
use Prim.Native.Nat.{ℕ, suc, ◌<◌}
use mathlib.Core.Path.{◌≡◌, refl, sym, ◌∙◌, ap}
use mathlib.Core.Option.{some}
use mathlib.Core.List.{List, [], ◌∷◌, ◌++◌, append-nil, map}
use lib.IntN.{pos}
use lib.ListN.{length, get_or, take, drop}
use lib.Seq.{take_at, drop-cons}
use Rattle.spec_tree.specs.Outcome.{Outcome, ok, refused, ◌>>=◌, each}
use Rattle.spec_tree.specs.Tree.{xname, Tree, Const, Op, nil, ◌◂◌}
use Rattle.spec_tree.specs.Kinds.{Div}
use Rattle.spec_tree.specs.Facts.{size}
use Rattle.spec_tree.specs.Tokens.{tokens, all_tokens, read, numbered, takes, trees_in}
use Rattle.spec_tree.proofs.TokenLaws.{made, read_cons, complete_end}
use Rattle.spec_tree.proofs.TokenCode.{unnumbered, tokens_length, all_tokens_cons, all_tokens_append, writes_back}
use Rattle.spec_rewrite.specs.Rewrite.{replace, replace_divisor}
use Rattle.laws.specs.positions.Places.{numbered_at}
use Rattle.laws.specs.positions.Rounds.{extract_on, bind_on, extract_words, bind_words}
use Rattle.laws.proofs.positions.DivisorPlaces.{here_is}

one_tree : (l : List Tree) (t : Tree) → all_tokens unnumbered (l ++ (t ∷ [])) ≡ all_tokens unnumbered l ++ tokens unnumbered t
one_tree l t =
    all_tokens_append unnumbered l (t ∷ []) ∙ ap (λ (ws : List ℕ). all_tokens unnumbered l ++ ws) (all_tokens_cons unnumbered t [] ∙ (unfold all_tokens in append-nil (tokens unnumbered t)))

-- the trees with the target replaced, and the target
pub extract_words_form :
    (target : Tree) (n : ℕ) (ws : List ℕ)
    → extract_words target n ws ≡ (each (λ e. replace target (xname n) e) (read numbered ws) >>= λ us. ok (all_tokens unnumbered us ++ tokens unnumbered target))
unfolding extract_words extract_on
extract_words_form target n ws = go (each (λ e. replace target (xname n) e) (read numbered ws))
  where
    go : (o : Outcome (List Tree))
        → ((o >>= λ us. ok (us ++ (target ∷ []))) >>= λ us. ok (all_tokens unnumbered us)) ≡ (o >>= λ us. ok (all_tokens unnumbered us ++ tokens unnumbered target))
    go (ok us) = ap ok (one_tree us target)
    go (refused i) = refl

-- 1 / d: a division of two operands, the constant 1, and d
inverse_words : (d : Tree) → tokens unnumbered (Op Div (Const (pos 1) ◂ d ◂ nil)) ≡ 134 ∷ 129 ∷ tokens unnumbered d
unfolding tokens
inverse_words d = ap (λ (l : List ℕ). 134 ∷ 129 ∷ l) (append-nil (tokens unnumbered d))

-- the trees with divisions by d as products, and 1 / d
pub bind_words_form :
    (d : Tree) (n : ℕ) (ws : List ℕ)
    → bind_words d n ws ≡ all_tokens unnumbered (map (λ e. replace_divisor d (xname n) e) (read numbered ws)) ++ (134 ∷ 129 ∷ tokens unnumbered d)
unfolding bind_words bind_on
bind_words_form d n ws =
    let l = map (λ e. replace_divisor d (xname n) e) (read numbered ws) in
    one_tree l (Op Div (Const (pos 1) ◂ d ◂ nil)) ∙ ap (λ (r : List ℕ). all_tokens unnumbered l ++ r) (inverse_words d)

-- the run of words at a place
pub place_words :
    (ws : List ℕ) (m : ℕ) → trees_in ws ≡ some m → (p : ℕ) → p < length ws → tokens unnumbered (numbered_at ws p) ≡ take (size (numbered_at ws p)) (drop p ws)
place_words ws m c p h =
    let w = get_or ws p 0 in
    let rs = read numbered (drop (suc p) ws) in
    let t = made numbered w rs in
    let e = complete_end p ws m c in
    let back = writes_back (drop p ws) e.0 e.1 in
    let split : read numbered (drop p ws) ≡ t ∷ drop (takes w) rs = ap (read numbered) (drop-cons ws p 0 h) ∙ read_cons numbered w (drop (suc p) ws) in
    let whole : tokens unnumbered t ++ all_tokens unnumbered (drop (takes w) rs) ≡ drop p ws =
    sym (ap (all_tokens unnumbered) split ∙ all_tokens_cons unnumbered t (drop (takes w) rs)) ∙ back in
    let first : take (size t) (drop p ws) ≡ tokens unnumbered t =
    ap (take (size t)) (sym whole) ∙ take_at (tokens unnumbered t) (all_tokens unnumbered (drop (takes w) rs)) (size t) (tokens_length unnumbered t) in
    let is = here_is ws m c p h in
    ap (tokens unnumbered) is ∙ sym first ∙ ap (λ (t : Tree). take (size t) (drop p ws)) (sym is)

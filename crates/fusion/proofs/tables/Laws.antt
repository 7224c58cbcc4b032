-- Laws of writing words over others from a place on: one word after another, a run after a run or before it, and what is past the end. Assumes nothing.
use Prim.Native.Nat.{ℕ, zero, suc, ◌+◌, ◌-◌, ◌≤◌, ◌<◌}
use native.Mathlib.Nat.{suc-add, add-zero}
use native.Mathlib.Omega.{arith}
use mathlib.Core.Path.{◌≡◌, refl, sym, ◌∙◌, ap}
use mathlib.Core.List.{List, [], ◌∷◌, ◌++◌, append-nil}
use lib.ListN.{length, take, drop, set, take-append-drop, drop_of_length-le}
use lib.Seq.{take_all, take-nil, set_comm, sets, length-sets}
use Rattle.fusion.specs.place.Overlay.{overlay}

-- ---- nothing, and past the end

pub overlay_none : (at : ℕ) (old : List ℕ) → overlay at [] old ≡ old
unfolding overlay
overlay_none at old =
    ap (λ (l : List ℕ). take at old ++ (l ++ drop (at + 0) old)) (take-nil (length old - at))
    ∙ (ap (λ (k : ℕ). take at old ++ drop k old) (add-zero at) ∙ take-append-drop at old)

-- nothing is written past the end
pub overlay_past : (at : ℕ) (ws old : List ℕ) → length old ≤ at → overlay at ws old ≡ old
unfolding overlay
overlay_past at ws old h =
    let z : length old - at ≡ 0 = omega arith in
    let d : drop (at + length ws) old ≡ [] = drop_of_length-le old {i = at + length ws} (omega arith) in
    ap (λ (k : ℕ). take at old ++ (take k ws ++ drop (at + length ws) old)) z
    ∙ (ap (λ (l : List ℕ). take at old ++ l) d ∙ (append-nil (take at old) ∙ take_all at old h))

-- an empty table stays empty
pub overlay_empty : (at : ℕ) (ws : List ℕ) → overlay at ws [] ≡ []
overlay_empty at ws = overlay_past at ws [] (omega arith)

-- ---- a word at a time

overlay_cons : (x at : ℕ) (ws old : List ℕ) → overlay (suc at) ws (x ∷ old) ≡ x ∷ overlay at ws old
unfolding overlay
overlay_cons x at ws old =
    let e : suc (length old) - suc at ≡ length old - at = omega arith in
    ap (λ (k : ℕ). x ∷ (take at old ++ (take k ws ++ drop (suc at + length ws) (x ∷ old)))) e
    ∙ ap (λ (k : ℕ). x ∷ (take at old ++ (take (length old - at) ws ++ drop k (x ∷ old)))) (suc-add at (length ws))

overlay_first : (x w : ℕ) (ws old : List ℕ) → overlay 0 (w ∷ ws) (x ∷ old) ≡ w ∷ overlay 0 ws old
unfolding overlay
overlay_first x w ws old =
    let e : suc (length old) - 0 ≡ suc (length old - 0) = omega arith in
    let f : 0 + suc (length ws) ≡ suc (0 + length ws) = omega arith in
    ap (λ (k : ℕ). take k (w ∷ ws) ++ drop (0 + suc (length ws)) (x ∷ old)) e ∙ ap (λ (k : ℕ). w ∷ (take (length old - 0) ws ++ drop k (x ∷ old))) f

pub overlay_next : (at w : ℕ) (ws old : List ℕ) → overlay at (w ∷ ws) old ≡ overlay (suc at) ws (set old at w)
overlay_next at w ws [] = overlay_empty at (w ∷ ws) ∙ sym (overlay_empty (suc at) ws)
overlay_next zero w ws (x ∷ old) = overlay_first x w ws old ∙ sym (overlay_cons w 0 ws old)
overlay_next (suc at) w ws (x ∷ old) =
    overlay_cons x at (w ∷ ws) old ∙ (ap (λ (l : List ℕ). x ∷ l) (overlay_next at w ws old) ∙ sym (overlay_cons x (suc at) ws (set old at w)))

pub overlay_word : (at w : ℕ) (old : List ℕ) → overlay at (w ∷ []) old ≡ set old at w
overlay_word at w old = overlay_next at w [] old ∙ overlay_none (suc at) (set old at w)

pub overlay_sets : (at : ℕ) (ws old : List ℕ) → overlay at ws old ≡ sets old at ws
overlay_sets at [] old = overlay_none at old
overlay_sets at (w ∷ ws) old = overlay_next at w ws old ∙ overlay_sets (suc at) ws (set old at w)

-- the length stays
pub overlay_length : (at : ℕ) (ws old : List ℕ) → length (overlay at ws old) ≡ length old
overlay_length at ws old = ap length (overlay_sets at ws old) ∙ length-sets old at ws

-- ---- a run after a run

pub overlay_append : (at : ℕ) (a b old : List ℕ) → overlay at (a ++ b) old ≡ overlay (at + length a) b (overlay at a old)
overlay_append at [] b old =
    ap (λ (k : ℕ). overlay k b old) (sym (add-zero at)) ∙ ap (λ (l : List ℕ). overlay (at + 0) b l) (sym (overlay_none at old))
overlay_append at (w ∷ a) b old =
    let e : suc at + length a ≡ at + suc (length a) = omega arith in
    overlay_next at w (a ++ b) old
    ∙ (overlay_append (suc at) a b (set old at w)
    ∙ (ap (λ (k : ℕ). overlay k b (overlay (suc at) a (set old at w))) e
    ∙ ap (λ (l : List ℕ). overlay (at + suc (length a)) b l) (sym (overlay_next at w a old))))

-- ---- or before it: places that differ don't meet

later_first : (vs old : List ℕ) (at k w : ℕ) → at < k → sets (set old at w) k vs ≡ set (sets old k vs) at w
later_first [] old at k w h = refl
later_first (v ∷ vs) old at k w h =
    let ne : at ≡ k → ⊥ = λ e. omega arith in
    ap (λ (l : List ℕ). sets l (suc k) vs) (set_comm old at k w v ne) ∙ later_first vs (set old k v) at (suc k) w (omega arith)

sets_before : (a b old : List ℕ) (at : ℕ) → sets old at (a ++ b) ≡ sets (sets old (at + length a) b) at a
sets_before [] b old at = ap (λ (k : ℕ). sets old k b) (sym (add-zero at))
sets_before (w ∷ a) b old at =
    let e : suc at + length a ≡ at + suc (length a) = omega arith in
    sets_before a b (set old at w) (suc at)
    ∙ (ap (λ (k : ℕ). sets (sets (set old at w) k b) (suc at) a) e
    ∙ ap (λ (l : List ℕ). sets l (suc at) a) (later_first b old at (at + suc (length a)) w (omega arith)))

-- first the later run, then the earlier
pub overlay_before : (at : ℕ) (a b old : List ℕ) → overlay at (a ++ b) old ≡ overlay at a (overlay (at + length a) b old)
overlay_before at a b old =
    overlay_sets at (a ++ b) old
    ∙ (sets_before a b old at
    ∙ (ap (λ (l : List ℕ). sets l at a) (sym (overlay_sets (at + length a) b old)) ∙ sym (overlay_sets at a (overlay (at + length a) b old))))

-- a row is written after what stands below it
pub overlay_row_last : (at w : ℕ) (ws old : List ℕ) → overlay at (w ∷ ws) old ≡ overlay at (w ∷ []) (overlay (at + 1) ws old)
overlay_row_last at w ws old = overlay_before at (w ∷ []) ws old

-- ---- where all fits

pub overlay_fits : (at : ℕ) (ws old : List ℕ) → at + length ws ≤ length old → overlay at ws old ≡ take at old ++ (ws ++ drop (at + length ws) old)
unfolding overlay
overlay_fits at ws old h = ap (λ (l : List ℕ). take at old ++ (l ++ drop (at + length ws) old)) (take_all (length old - at) ws (omega arith))

pub overlay_front : (ws old : List ℕ) → length ws ≤ length old → overlay 0 ws old ≡ ws ++ drop (length ws) old
overlay_front ws old h =
    let e : 0 + length ws ≡ length ws = omega arith in
    overlay_fits 0 ws old (omega arith) ∙ ap (λ (k : ℕ). ws ++ drop k old) e

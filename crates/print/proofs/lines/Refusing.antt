-- The line for a refusal from its parts, and how long it is. Assumes nothing.
use Prim.Native.Nat.{ℕ, ◌^◌, ◌≤◌, ◌<◌}
use native.Mathlib.Omega.{arith}
use mathlib.Core.Path.{◌≡◌, sym, ap, ◌∙◌}
use mathlib.Core.Bool.{false}
use mathlib.Core.List.{List, ◌++◌, append_assoc}
use lib.ListN.{length, length-append}
use Rattle.spec_tree.specs.Bytes.{bytes, decimal}
use Rattle.spec_program.specs.Program.{reply}
use Rattle.fmt.specs.emit.Writing.{Writes}
use Rattle.fmt.proofs.emit.WriteLaws.{writes_then, writes_as}
use Rattle.print.specs.lines.Refusal.{refusal_text}
use Rattle.print.proofs.lines.Room.{decimal_short}

abbrev parts : ℕ → ℕ → List ℕ
parts n i = bytes "refused " ++ (decimal n ++ (bytes " " ++ (decimal i ++ bytes "\n")))

text_is : (n i : ℕ) → refusal_text n i ≡ parts n i
unfolding refusal_text reply
text_is n i =
    ap (λ (r : List ℕ). r ++ decimal i ++ bytes "\n") (append_assoc (bytes "refused ") (decimal n) (bytes " "))
    ∙ (ap (λ (r : List ℕ). r ++ bytes "\n") (append_assoc (bytes "refused ") (decimal n ++ bytes " ") (decimal i))
    ∙ (append_assoc (bytes "refused ") (decimal n ++ bytes " " ++ decimal i) (bytes "\n")
    ∙ ap (λ (r : List ℕ). bytes "refused " ++ r)
    (append_assoc (decimal n ++ bytes " ") (decimal i) (bytes "\n") ∙ append_assoc (decimal n) (bytes " ") (decimal i ++ bytes "\n"))))

pub refusal_written :
    {old m1 m2 m3 m4 new : List ℕ} {p1 p2 p3 p4 e : ℕ} (n i : ℕ) → Writes false old 0 (bytes "refused ") m1 p1 → Writes false m1 p1 (decimal n) m2 p2 → Writes false m2 p2 (bytes " ") m3 p3
    → Writes false m3 p3 (decimal i) m4 p4 → Writes false m4 p4 (bytes "\n") new e → Writes false old 0 (refusal_text n i) new e
refusal_written n i a b c d f = writes_as (parts n i) (refusal_text n i) (sym (text_is n i)) (writes_then a (writes_then b (writes_then c (writes_then d f))))

-- so 68 bytes are room enough
pub refusal_short : (n i : ℕ) → n < 2 ^ 64 → i < 2 ^ 64 → length (refusal_text n i) ≤ 68
refusal_short n i h k =
    let a = length-append (decimal n) (bytes " " ++ (decimal i ++ bytes "\n")) in
    let b = length-append (decimal i) (bytes "\n") in
    omega (arith, ap length (text_is n i), a, b, decimal_short n h, decimal_short i k)

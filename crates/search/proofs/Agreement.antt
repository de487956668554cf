-- Agreement read from the other side. Assumes nothing.
use Rattle.std.proofs.Common.{◌≡◌, ℕ, Bool, true, false, not, ◌&&◌, eqb, sym, refl, ap, ◌∙◌, arith}
use mathlib.Core.Path.{fun_ext}
use Rattle.std.proofs.lemmas.Bool.Decides.{nat_tests}
use Rattle.graphs.specs.Rows.{row_of}
use Rattle.graphs.specs.Graph.{Graph}
use Rattle.placements.specs.Agreement.{half, agrees_if}

and_swap : (x y : Bool) → (x && y) ≡ (y && x)
and_swap true true = refl
and_swap true false = refl
and_swap false true = refl
and_swap false false = refl

pub agrees_flip : (r : Graph) (out back s : Bool) (b c : ℕ) → agrees_if r out back s b c ≡ agrees_if r back out s c b
agrees_flip r out back s b c =
    ap (λ (t : Bool). not t && (half s out (r.joined b c) && half s back (r.joined c b))) (let z : eqb b c ≡ eqb c b = grind (arith, nat_tests) in z)
    ∙ ap (λ (t : Bool). not (eqb c b) && t) (and_swap (half s out (r.joined b c)) (half s back (r.joined c b)))

pub row_flip : (r : Graph) (out back s : Bool) (b x : ℕ) → x ≡ row_of r.count (λ c. agrees_if r back out s c b) → x ≡ row_of r.count (λ c. agrees_if r out back s b c)
row_flip r out back s b x e = e ∙ ap (row_of r.count) (fun_ext (λ c. sym (agrees_flip r out back s b c)))

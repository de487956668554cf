-- The lowest bays of rows, written one after another. Assumes nothing.
use Rattle.std.proofs.Common.{◌≡◌, ℕ, ◌+◌, ◌-◌, ◌<◌, ◌≤◌, List, [], ◌∷◌, ◌++◌, map, length, get_or, take, drop, set, replicate, sym, ap, ◌∙◌, arith}
use lib.Count.{count_trailing_zeros}
use Rattle.std.proofs.lemmas.List.{append_assoc, map-append, length-map, length-take, set_at, take_more, take_all, drop_more, drop-replicate}
use Rattle.search.specs.Walk.{chosen}
use Rattle.search.specs.Found.{padded}

pub bays_more : (rows bays back : List ℕ) (i : ℕ) → i < length rows → length rows ≤ length back → bays ≡ map (count_trailing_zeros 64) (take i rows) ++ drop i back
    → set bays i (count_trailing_zeros 64 (get_or rows i 0)) ≡ map (count_trailing_zeros 64) (take (i + 1) rows) ++ drop (i + 1) back
bays_more rows bays back i l s is =
    let f : ℕ → ℕ = count_trailing_zeros 64 in
    let v : ℕ = f (get_or rows i 0) in
    ap (λ (t : List ℕ). set t i v) (is ∙ ap (λ (t : List ℕ). map f (take i rows) ++ t) (drop_more back i 0 (omega arith)))
    ∙ set_at (map f (take i rows)) (get_or back i 0) (drop (i + 1) back) v i (length-map (take i rows) f ∙ simp length-take (omega arith))
    ∙ sym (append_assoc (map f (take i rows)) (v ∷ []) (drop (i + 1) back))
    ∙ ap (λ (t : List ℕ). t ++ drop (i + 1) back) (sym (map-append f (take i rows) (get_or rows i 0 ∷ [])) ∙ ap (map f) (sym (take_more rows i 0 l)))

pub bays_all : (rows bays : List ℕ) (i : ℕ) → i ≡ length rows → bays ≡ map (count_trailing_zeros 64) (take i rows) ++ drop i (replicate 24 0) → bays ≡ padded (chosen rows)
bays_all rows bays i e is =
    is
    ∙ ap (λ (t : List ℕ). map (count_trailing_zeros 64) t ++ drop i (replicate 24 0)) (take_all i rows (omega arith))
    ∙ ap (λ (t : List ℕ). chosen rows ++ t) (drop-replicate i 24 0 ∙ ap (λ (k : ℕ). replicate (24 - k) 0) (e ∙ sym (length-map rows (count_trailing_zeros 64))))

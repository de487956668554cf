-- Rows written out one after another. Assumes nothing.
use Rattle.std.proofs.Common.{◌≡◌, ℕ, ◌+◌, ◌-◌, ◌<◌, ◌≤◌, List, ◌++◌, length, get_or, drop, replicate, sym, refl, ap, ◌∙◌, ⊎_elim, arith}
use Rattle.std.proofs.lemmas.List.{get_or_past, get_or_append_left, get_or-append_right, get_or-drop, get_or-replicate, length-replicate}
use Rattle.std.proofs.lemmas.Bool.{cases_lt}

-- 64 rows are all rows where those past the last are empty
pub all_drawn : (row : ℕ → ℕ) (rows : List ℕ) → length rows ≡ 64 → ((a : ℕ) → a < 64 → get_or rows a 0 ≡ row a) → ((a : ℕ) → 64 ≤ a → 0 ≡ row a) → (a : ℕ) → get_or rows a 0 ≡ row a
all_drawn row rows long at past a =
    ⊎_elim (λ lt. at a lt) (λ ge. get_or_past rows a 0 (omega arith) ∙ past a ge) (cases_lt a 64)

zero_at : (n a : ℕ) → ◌≡◌ {A = ℕ} (get_or (replicate n 0) a 0) 0
zero_at n a = ⊎_elim (λ lt. get_or-replicate n a 0 0 lt) (λ ge. get_or_past (replicate n 0) a 0 (omega (arith, length-replicate {A = ℕ} n 0))) (cases_lt a n)

-- rows copied to the front of zeros are written out
pub written_in_front : (rows front : List ℕ) (n : ℕ) → front ≡ rows → (a : ℕ) → get_or (front ++ drop (length rows) (replicate n 0)) a 0 ≡ get_or rows a 0
written_in_front rows front n e a =
    let behind : List ℕ = drop (length rows) (replicate n 0) in
    ap (λ (xs : List ℕ). get_or (xs ++ behind) a 0) e
    ∙ ⊎_elim (λ lt. get_or_append_left rows behind 0 a lt)
    (λ ge. get_or-append_right rows behind (length rows) a 0 refl ge ∙ get_or-drop (length rows) (replicate n 0) (a - length rows) 0
    ∙ zero_at n (length rows + (a - length rows)) ∙ sym (get_or_past rows a 0 ge)) (cases_lt a (length rows))

-- The ledger's find is the first wanted placement. Assumes nothing.
use Rattle.std.proofs.Common.{◌≡◌, ℕ, ◌<◌, true, cond, ◌&&◌, eqb, List, get_or, Some, None, Decides, Option, sym, refl, ap, ◌∙◌, subst, ap₂, ⊎_elim, arith}
use Rattle.std.proofs.lemmas.Bool.{cases_eq, eq-eqb, ne_eqb, eqb-true, and_parts}
use Rattle.std.proofs.lemmas.Bool.Decides.{Decides-and, Decides-like}
use Rattle.graphs.specs.Rows.{Pairs}
use Rattle.placements.specs.Order.{Answers}
use Rattle.placements.specs.Tests.{placement_test, within_test}
use Rattle.placements.specs.Listing.{find}
use Rattle.placements.proofs.Deciding.{placement_decides, within_decides, before_decides}
use Rattle.placements.proofs.Listings.{find_first}
use Rattle.search.specs.Walk.{Setting}
use Rattle.ledgers.specs.Wanted.{After, Wanted, after_test, wanted, held_to}

after_decides : (o : Option (List ℕ)) (w : List ℕ) → Decides (after_test o w) (After o w)
after_decides None w = (λ _. tt, λ _. refl)
after_decides (Some v) w = before_decides v w

-- the test says what the relation says
pub wanted_decides : (s : Setting) (r : Pairs) (o : Option (List ℕ)) (w : List ℕ) → Decides (wanted s r o w) (Wanted s r o w)
wanted_decides s r o w =
    Decides-like (wanted s r o w)
    (λ h. record { placed = h.0; within = h.1.0; after = h.1.1 })
    (λ h. (h.placed, (h.within, h.after)))
    (Decides-and (placement_test s.arrangement s.room s.strict w) (within_test r w && after_test o w)
    (placement_decides s.arrangement s.room s.strict w)
    (Decides-and (within_test r w) (after_test o w) (within_decides r w) (after_decides o w)))

-- the first by trial is the first
pub find_wanted : (s : Setting) (r : Pairs) (o : Option (List ℕ)) (m n : ℕ) → s.arrangement.count ≡ m → s.room.count ≡ n → Answers (Wanted s r o) (find m n (wanted s r o))
find_wanted s r o m n em en =
    let P : ℕ → ℕ → Type 0 = λ x y. Answers (Wanted s r o) (find x y (wanted s r o)) in
    subst (λ y. P m y) en (subst (λ x. P x s.room.count) em
    (find_first s.arrangement.count s.room.count (wanted s r o) (Wanted s r o) (λ w h. h.placed.whole) (λ w h. h.placed.on_bays) (wanted_decides s r o)))

-- ---- one unit held to one bay

held_in : (r : Pairs) (u b k x : ℕ) → held_to r u b k x ≡ true → (r k x ≡ true) × (u ≡ k → b ≡ x)
held_in r u b k x h =
    ⊎_elim
    (λ e.
    let parts = and_parts (r k x) (eqb b x) (sym (ap (λ t. cond t (r k x && eqb b x) (r k x)) (eq-eqb u k e)) ∙ h) in
    (parts.0, λ e'. eqb-true b x parts.1))
    (λ ne. (sym (ap (λ t. cond t (r k x && eqb b x) (r k x)) (ne_eqb u k ne)) ∙ h, λ e. absurd (ne e))) (cases_eq u k)

held_of : (r : Pairs) (u b k x : ℕ) → r k x ≡ true → (u ≡ k → b ≡ x) → held_to r u b k x ≡ true
held_of r u b k x h at =
    ⊎_elim (λ e. ap (λ t. cond t (r k x && eqb b x) (r k x)) (eq-eqb u k e) ∙ ap₂ (λ s t. s && t) h (eq-eqb b x (at e)))
    (λ ne. ap (λ t. cond t (r k x && eqb b x) (r k x)) (ne_eqb u k ne) ∙ h) (cases_eq u k)

pub wanted_in : (s : Setting) (r : Pairs) (u b : ℕ) (w : List ℕ) → u < s.arrangement.count → Wanted s (held_to r u b) None w → Wanted s r None w × (get_or w u 0 ≡ b)
wanted_in s r u b w l h = (
  record { placed = h.placed; within = λ v z. (held_in r u b v (get_or w v 0) (h.within v z)).0; after = tt },
  sym ((held_in r u b u (get_or w u 0) (h.within u (let e = h.placed.whole in omega arith))).1 refl),
)

pub wanted_of : (s : Setting) (r : Pairs) (u b : ℕ) (w : List ℕ) → Wanted s r None w → get_or w u 0 ≡ b → Wanted s (held_to r u b) None w
wanted_of s r u b w h at =
    record { placed = h.placed; within = λ v z. held_of r u b v (get_or w v 0) (h.within v z) (λ e. sym at ∙ ap (λ k. get_or w k 0) e); after = tt }

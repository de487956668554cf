-- The first of the lists found by a scan over the bays of one unit. Assumes nothing.
use Rattle.std.proofs.Common.{◌≡◌, ℕ, zero, suc, ◌+◌, ◌<◌, ◌≤◌, Bool, true, false, List, Some, None, Option, refl, inl, inr, arith}
use Rattle.std.proofs.lemmas.Bool.{cases_eq}
use Rattle.placements.specs.Order.{Before, Answers}
use Rattle.search.specs.Walk.{Outcome, or_else, scan}

-- two predicates that hold of the same lists have the same first
pub answers_iff : (P Q : List ℕ → Type 0) (o : Option (List ℕ)) → ((q : List ℕ) → P q → Q q) → ((q : List ℕ) → Q q → P q) → Answers P o → Answers Q o
answers_iff P Q (Some p) f g a = record { holds = f p a.holds; least = λ q h. a.least q (g q h) }
answers_iff P Q None f g a = λ q h. a q (g q h)

-- the bays of one unit in rising order; key gives the unit's bay in a list
module _ (n : ℕ) (W : List ℕ → Type 0) (key : List ℕ → ℕ) (offer : ℕ → Bool) (here : ℕ → Outcome)
    (bound : (q : List ℕ) → W q → key q < n)
    (order : (p q : List ℕ) → W p → W q → key p < key q → Before p q)
    (taken : (b : ℕ) → offer b ≡ true → b < n → Answers (λ q. W q × (key q ≡ b)) (here b).found)
    (passed : (b : ℕ) → offer b ≡ false → b < n → (q : List ℕ) → W q → key q ≡ b → ⊥) where
  abbrev From : ℕ → List ℕ → Type 0
  From b q = W q × (b ≤ key q)

  -- nothing at b
  onward : (b : ℕ) (o : Option (List ℕ)) → ((q : List ℕ) → W q → key q ≡ b → ⊥) → Answers (From (suc b)) o → Answers (From b) o
  onward b o none a =
      answers_iff (From (suc b)) (From b) o
      (λ q h. (h.0, omega arith))
      (λ q h. (h.0, elim (cases_eq (key q) b) [ inl e ↦ absurd (none q h.0 e) | inr ne ↦ omega arith ]))
      a

  joined_to : (b : ℕ) (o : Option (List ℕ)) (k : ℕ) (rest : Outcome) → Answers (λ q. W q × (key q ≡ b)) o → Answers (From (suc b)) rest.found → Answers (From b) (or_else o k rest).found
  joined_to b (Some p) k rest a r =
      record {
        holds = (a.holds.0, omega (arith, a.holds.1));
        least = λ q h. elim (cases_eq (key q) b) [
          | inl e ↦ a.least q (h.0, e)
          | inr ne ↦ inr (order p q a.holds.0 h.0 (omega (arith, a.holds.1, h.1)))
        ];
      }
  joined_to b None k rest a r = onward b rest.found (λ q h e. a q (h, e)) r

  either_way : (b : ℕ) (rest : Outcome) → b < n → Answers (From (suc b)) rest.found → (t : Bool) → offer b ≡ t
      → Answers (From b) (elim t as (λ _. Outcome) [ true ↦ or_else (here b).found (here b).tries rest | false ↦ rest ]).found
  either_way b rest l r true e = joined_to b (here b).found (here b).tries rest (taken b e l) r
  either_way b rest l r false e = onward b rest.found (passed b e l) r

  scan_from : (b left : ℕ) → b + left ≡ n → Answers (From b) (scan offer here b left).found
  unfolding scan
  scan_from b zero e = λ q h. omega (arith, bound q h.0, h.1)
  scan_from b (suc left) e = either_way b (scan offer here (suc b) left) (omega arith) (scan_from (suc b) left (omega arith)) (offer b) refl

  pub scan_first : Answers W (scan offer here 0 n).found
  scan_first = answers_iff (From 0) W (scan offer here 0 n).found (λ q h. h.0) (λ q h. (h, omega arith)) (scan_from 0 n (omega arith))

-- The graph of a wall, and the row of one of its nodes by its four neighbours. Assumes nothing.
use Rattle.std.proofs.Common.{◌≡◌, ℕ, ◌+◌, ◌-◌, ◌*◌, ◌/◌, ◌%◌, ◌<◌, ◌≤◌, Bool, false, ◌&&◌, ◌||◌, eqb, ltb, leb, sym, ap, ◌∙◌, inl, inr, mul_comm, add-mul, mul-pos, le-mul_of_pos_right, arith}
use lib.Arith.{digits_div, digits_lt}
use Rattle.std.proofs.lemmas.Nat.{div-add-mod', div_below, mod_below}
use Rattle.std.proofs.lemmas.Bool.{cases_lt, cases_eq}
use Rattle.std.proofs.lemmas.Bool.Decides.{nat_tests}
use Rattle.graphs.specs.Rows.{bit, row_of}
use Rattle.graphs.specs.Graph.{Sound, Symmetric}
use Rattle.graphs.specs.WallGrid.{wall_joined, wall_graph}
use Rattle.graphs.proofs.Rows.{row_is}

pub le_wall : (w h : ℕ) → 1 ≤ h → w ≤ w * h
le_wall w h p = le-mul_of_pos_right w p

pub wall_pos : (w h : ℕ) → 1 ≤ w → 1 ≤ h → 1 ≤ w * h
wall_pos w h p q = mul-pos p q

pub wall_irr : (w n a : ℕ) → 1 ≤ w → wall_joined w n a a ≡ false
wall_irr w n a h = grind (arith, nat_tests)

pub wall_sym : (w n a b : ℕ) → wall_joined w n a b ≡ wall_joined w n b a
wall_sym w n a b = grind (arith, nat_tests)

pub wall_out : (w n a b : ℕ) → n ≤ a → wall_joined w n a b ≡ false
wall_out w n a b h = grind (arith, nat_tests)

pub wall_sound : (w h : ℕ) → 1 ≤ w → 1 ≤ h → w * h ≤ 64 → Sound (wall_graph w h)
wall_sound w h p q r = record {
  some = wall_pos w h p q;
  few = r;
  irreflexive = λ a. wall_irr w (w * h) a p;
  outside_from = λ a b k. wall_out w (w * h) a b k;
  outside_to = λ a b k. wall_sym w (w * h) a b ∙ wall_out w (w * h) b a k;
}

pub wall_symmetric : (w h : ℕ) → Symmetric (wall_graph w h)
wall_symmetric w h = record { both = wall_sym w (w * h) }

module _ (w h a : ℕ) (p : 1 ≤ w) (la : a < w * h) where
  abbrev n : ℕ
  n = w * h

  parts : a / w * w + a % w ≡ a
  parts = div-add-mod' a w

  pub right_below : a % w + 1 < w → a + 1 < n
  right_below l =
      let q : a / w < h = div_below a w h p (omega (arith, mul_comm w h)) in
      omega (arith, parts, digits_lt q l, mul_comm w h)

  right_level : a % w + 1 < w → (a + 1) / w ≡ a / w
  right_level l = ap (λ (y : ℕ). y / w) (let e : a + 1 ≡ a / w * w + (a % w + 1) = omega (arith, parts) in e) ∙ digits_div (a / w) l

  right_next : a % w + 1 ≡ w → (a + 1) / w ≡ a / w + 1
  right_next l = ap (λ (y : ℕ). y / w) (let e : a + 1 ≡ (a / w + 1) * w + 0 = omega (arith, parts, add-mul (a / w) 1 w) in e) ∙ digits_div (a / w + 1) (omega arith)

  left_level : (k : ℕ) → 0 < a % w → k + 1 ≡ a → k / w ≡ a / w
  left_level k l e =
      let m = mod_below a w p in
      ap (λ (y : ℕ). y / w) (let d : k ≡ a / w * w + (a % w - 1) = omega (arith, parts) in d) ∙ digits_div (a / w) (omega arith)

  abbrev pub near : ℕ → Bool
  near k = ((((false || (ltb 0 (a % w) && eqb (a - 1) k)) || (ltb (a % w + 1) w && eqb (a + 1) k)) || (leb w a && eqb (a - w) k)) || (ltb (a + w) n && eqb (a + w) k))

  near_is : (k : ℕ) → near k ≡ (ltb k n && wall_joined w n a k)
  near_is k =
      let m = mod_below a w p in
      elim (cases_eq (a + 1) k) [
        | inl z ↦
            let f : k / w ≡ (a + 1) / w = ap (λ (y : ℕ). y / w) (sym z) in
            elim (cases_lt (a % w + 1) w) [
              | inl l ↦ let b = right_below l in let d = right_level l in grind (arith, nat_tests)
              | inr g ↦ let d = right_next (omega arith) in grind (arith, nat_tests)
            ]
        | inr nz ↦ elim (cases_eq (k + 1) a) [
          | inl z ↦ elim (cases_lt 0 (a % w)) [
            | inl l ↦ let d = left_level k l z in grind (arith, nat_tests)
            | inr g ↦
                let d : k / w ≡ a / w → ⊥ = λ e. omega (arith, parts, div-add-mod' k w, ap (λ (y : ℕ). y * w) e) in
                grind (arith, nat_tests)
          ]
          | inr nk ↦ grind (arith, nat_tests)
        ]
      ]

  -- a number that holds the four neighbours is the row
  pub wall_row : (x : ℕ) → ((k : ℕ) → bit x k ≡ near k) → x ≡ row_of n (wall_joined w n a)
  wall_row x e = row_is n x (wall_joined w n a) (λ k. e k ∙ near_is k)

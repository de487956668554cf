-- The loop that makes a table of rows. Assumes nothing.
use Rattle.std.proofs.Common.{◌≡◌, ℕ, ◌+◌, ◌%◌, ◌^◌, ◌<◌, min, ◌≢◌, List, [], ◌∷◌, ◌++◌, map, length, get_or, take, set, replicate, sym, refl, ap, ◌∙◌, arith, length-set}
use Rattle.std.proofs.lemmas.Nat.{pow_pos, mod_below}
use Rattle.std.proofs.lemmas.List.{get_or-set_other, map_more, take_min, take_more_set}
use Rattle.tables.specs.Shape.{Inside, Blank}
use Rattle.tables.proofs.Steps.{zeros, zeros_inside, set_inside}

-- the first k rows are set, each without its bits past the columns
pub record Filling (columns : ℕ) (rows : List ℕ) (k : ℕ) (bits : List ℕ) : Type 0 where
  pub long : length bits ≡ 64
  pub front : take k bits ≡ map (λ row. row % 2 ^ columns) (take k rows)
  pub blank : Blank k bits
  pub inside : Inside columns bits

pub filling_none : (columns : ℕ) (rows : List ℕ) → Filling columns rows 0 (replicate 64 0)
filling_none columns rows = record { long = refl; front = refl; blank = λ j h. zeros 64 j; inside = zeros_inside columns 64 }

module _ {columns : ℕ} {rows : List ℕ} {k : ℕ} {bits : List ℕ} (g : Filling columns rows k bits) where
  pub filling_more : k < length rows → k < 64 → Filling columns rows (k + 1) (set bits k (get_or rows k 0 % 2 ^ columns))
  filling_more h l =
      record {
        long = length-set bits k (get_or rows k 0 % 2 ^ columns) ∙ g.long;
        front = take_more_set bits k (get_or rows k 0 % 2 ^ columns) (omega (arith, g.long))
            ∙ ap (λ t. t ++ (get_or rows k 0 % 2 ^ columns) ∷ []) g.front ∙ sym (map_more (λ row. row % 2 ^ columns) rows k 0 h);
        blank = λ j m. let ne : j ≢ k = omega arith in rw get_or-set_other (g.blank j (omega arith));
        inside = set_inside columns k (get_or rows k 0 % 2 ^ columns) bits g.inside (mod_below (get_or rows k 0) (2 ^ columns) (pow_pos columns));
      }

  pub filling_done : k ≡ min (length rows) 64 → take k bits ≡ map (λ row. row % 2 ^ columns) (take 64 rows)
  filling_done e = g.front ∙ ap (map (λ row. row % 2 ^ columns)) (ap (λ n. take n rows) (let all : k ≡ min 64 (length rows) = omega (arith, e) in all) ∙ take_min 64 rows)

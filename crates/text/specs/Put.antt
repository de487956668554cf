-- What putting bytes into a text answers and leaves. Assumes nothing.
use Rattle.std.specs.Prelude.{◌≡◌, ℕ, ◌+◌, ◌<◌, ◌≤◌, List, length, Option, MatchOption}
use Rattle.text.specs.declared.Text.{Text}
use Rattle.text.specs.Lay.{lay}

-- the bytes were written from the end of the text on, and the text ends behind them
pub record Wrote (bytes : List ℕ) (t t' : Text) : Type 0 where
  pub place : t'.len ≡ t.len + length bytes
  pub after : t'.out.now ≡ lay t.out.now t.len bytes
  pub same : t'.out.ghost_name ≡ t.out.ghost_name

-- nothing was written
pub record Kept (t t' : Text) : Type 0 where
  pub place : t'.len ≡ t.len
  pub after : t'.out.now ≡ t.out.now
  pub same : t'.out.ghost_name ≡ t.out.ghost_name

-- bytes that fit behind the text are written; of others nothing is
pub record Put (bytes : List ℕ) (t t' : Text) (r : Option (Unit {0})) : Type 0 where
  pub cases : MatchOption r ((length t.out.now < t.len + length bytes) × Kept t t') (λ _. (t.len + length bytes ≤ length t.out.now) × Wrote bytes t t')

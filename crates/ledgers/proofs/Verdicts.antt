-- What an accepted call has kept to. Assumes nothing.
use Rattle.std.proofs.Common.{◌≡◌, ℕ, ◌<◌, Bool, true, false, not, sym, refl, inl, inr, arith}
use Rattle.std.proofs.lemmas.Bool.{eqb-true, ltb-true, ltb-false, or_parts, lt-ltb, eq-eqb, or_from, not_from_true, cases_Bool}
use Rattle.refusals.specs.declared.Reason.{Reason}
use Rattle.refusals.specs.declared.Reason.TheVariants as R
use Rattle.search.specs.Walk.{Setting}
use Rattle.ledgers.specs.Calls.{begin}
use Rattle.ledgers.specs.Ledger.{Ledger, Verdict, accepted, unless, outside, other_counts, ill_sizes, no_pairs, verdict}
use Rattle.ledgers.specs.Ranged.{Ranged}

-- a rule that an accepted call keeps
pub keeps_rule : (k : Reason) (b : Bool) (v : Verdict) → unless k b v ≡ accepted → (b ≡ false) × (v ≡ accepted)
keeps_rule k true v e = let z : ◌≡◌ {A = ℕ} 0 1 = cc in absurd (omega arith)
keeps_rule k false v e = (refl, e)

pub not_false : (t : Bool) → not t ≡ false → t ≡ true
not_false true e = refl
not_false false e = sym e

pub rooms_match : (l : Ledger) (s : Setting) → other_counts l s ≡ false → s.room.count ≡ l.bays
rooms_match l s e = eqb-true _ _ (not_false _ (or_parts _ _ e).1)

pub arrangements_match : (l : Ledger) (s : Setting) → other_counts l s ≡ false → s.arrangement.count ≡ l.units
arrangements_match l s e = eqb-true _ _ (not_false _ (or_parts _ _ e).0)

pub counts_match : (l : Ledger) (s : Setting) → s.arrangement.count ≡ l.units → s.room.count ≡ l.bays → other_counts l s ≡ false
counts_match l s ea er = or_from _ _ (not_from_true _ (eq-eqb _ _ ea)) (not_from_true _ (eq-eqb _ _ er))

pub counts_differ : (l : Ledger) (s : Setting) → (s.arrangement.count ≡ l.units → s.room.count ≡ l.bays → ⊥) → other_counts l s ≡ true
counts_differ l s ne =
    elim (cases_Bool (other_counts l s)) [ inl t ↦ t | inr f ↦ absurd (ne (arrangements_match l s f) (rooms_match l s f)) ]

pub inside_is : (l : Ledger) (u b : ℕ) → u < l.units → b < l.bays → outside l u b ≡ false
inside_is l u b hu hb = or_from _ _ (not_from_true _ (lt-ltb u l.units hu)) (not_from_true _ (lt-ltb b l.bays hb))

-- a pair that the ledger has
pub pair_in : (l : Ledger) (u b : ℕ) (v : Verdict) → unless R.OutOfRange (outside l u b) v ≡ accepted → (u < l.units) × (b < l.bays) × (v ≡ accepted)
pair_in l u b v e =
    let k = keeps_rule R.OutOfRange (outside l u b) v e in
    let q = or_parts _ _ k.0 in
    (ltb-true u l.units (not_false _ q.0), ltb-true b l.bays (not_false _ q.1), k.1)

pub sizes_in : (l : Ledger) (m n : ℕ) → verdict l (begin m n) ≡ accepted → Ranged m n no_pairs
sizes_in l m n v =
    let one = or_parts _ _ (keeps_rule R.Sizes (ill_sizes m n) accepted v).0 in
    let two = or_parts _ _ one.1 in
    let three = or_parts _ _ two.1 in
    record {
      some_units = ltb-false m 1 one.0;
      few_units = ltb-false 24 m two.0;
      some_bays = ltb-false n 1 three.0;
      few_bays = ltb-false 64 n three.1;
      units = λ u b le. refl;
      bays = λ u b le. refl;
    }

-- The loop over the bays of one unit, in what the code holds. Assumes nothing.
use Rattle.std.proofs.Common.{◌≡◌, ℕ, ◌+◌, ◌-◌, ◌<◌, ◌≤◌, min, Bool, true, false, not, ◌&&◌, ◌||◌, eqb, ltb, List, ◌++◌, length, get_or, is_some, Some, None, Ok, Err, Option, Result, sym, refl, ap, ◌∙◌, arith}
use borrow.Rule.Slice.PartMut.{post_of}
use Rattle.std.proofs.lemmas.Bool.{and_parts}
use Rattle.graphs.specs.Rows.{bit}
use Rattle.filters.specs.Filter.{Lawful}
use Rattle.search.specs.Walk.{Setting, Outcome, any_empty, after_try, offered, settle, chosen, LeftBy}
use Rattle.search.specs.declared.Find.{Find}
use Rattle.search.specs.Found.{told, padded, found_with}
use Rattle.search.proofs.Narrowing.{left_under}
use Rattle.graphs.proofs.Lowest.{Turn}
use Rattle.search.proofs.Steps.{Pending, pending_start, lowest_offered, pending_past, pending_there, pending_end, settle_none, settle_some, trying, as_long, try_fails, try_goes, front_long}

abbrev pub offer_at : List ℕ → Bool → ℕ → List ℕ → ℕ → Bool
offer_at last tied u rows = offered (get_or rows u 0) tied (get_or last u 0) (eqb (u + 1) (length rows))

abbrev pub settle_at : Setting → List ℕ → Bool → ℕ → List ℕ → Outcome
settle_at w last tied u rows = settle w last (length rows - u) tied u rows

-- what the loop keeps: what is still to come, and that its numbers and its array fit
pub record Going (w : Setting) (last : List ℕ) (tied : Bool) (u : ℕ) (rows : List ℕ) (t₀ t rest : ℕ) (next : List ℕ) : Type 0 where
  pub pending : Pending (settle_at w last tied u rows) (offer_at last tied u rows) (trying w last (length rows - (u + 1)) tied u rows) w.room.count t₀ t rest
  pub long : length next ≡ 24
  pub small : t ≤ 4294967295

-- what is answered of a walk after t tries
abbrev pub Settles : Outcome → ℕ → Result Find ℕ → Type 0
Settles o t r = r ≡ found_with o.found (t + o.tries)

find_of : List ℕ → ℕ → Find
find_of bays tries = record { bays = bays; tries = tries }

told_same : (o : Option (List ℕ)) (m n : ℕ) → told m ≡ told n → found_with o m ≡ found_with o n
unfolding find_of
told_same (Some w) m n e = ap (λ (k : ℕ). Ok (find_of (padded w) k)) e
told_same None m n e = ap Err e

none_found : (o : Option (List ℕ)) (n made : ℕ) → Err made ≡ found_with o n → (o ≡ None) × (made ≡ told n)
none_found (Some w) n made e = absurd (let y : ◌≡◌ {A = ℕ} 0 1 = cc in omega arith)
none_found None n made e = (refl, cc)

some_found : (o : Option (List ℕ)) (n : ℕ) (find : Find) → Ok find ≡ found_with o n → is_some o ≡ true
some_found (Some w) n find e = refl
some_found None n find e = absurd (let y : ◌≡◌ {A = ℕ} 0 1 = cc in omega arith)

pub going_none : (w : Setting) (last : List ℕ) (tied : Bool) (u : ℕ) (rows : List ℕ) (t : ℕ) (bays : List ℕ) → length rows ≤ u → t < 4294967296 → bays ≡ padded (chosen rows)
    → Settles (settle_at w last tied u rows) t (Ok (record { bays = bays; tries = t }))
unfolding find_of
going_none w last tied u rows t bays l small is =
    ap (λ (b : List ℕ). Ok (find_of b t)) is
    ∙ ap (λ (k : ℕ). Ok (find_of (padded (chosen rows)) k)) (let z : t ≡ told (t + 0) = omega arith in z)
    ∙ sym (ap (λ (o : Outcome). found_with o.found (t + o.tries)) (settle_none w last tied u (length rows) rows l))

module _ (w : Setting) (last : List ℕ) (tied : Bool) (u : ℕ) (rows : List ℕ) (lawful : Lawful w.filter) (left : LeftBy w rows) where
  abbrev Offer : ℕ → Bool
  Offer = offer_at last tied u rows

  abbrev Here : ℕ → Outcome
  Here = trying w last (length rows - (u + 1)) tied u rows

  abbrev Total : Outcome
  Total = settle_at w last tied u rows

  pub going_start : (t rest : ℕ) (next : List ℕ) → u < length rows → ((b : ℕ) → bit rest b ≡ offer_at last tied u rows b) → t < 4294967296 → length next ≡ 24
      → Going w last tied u rows t t rest next
  going_start t rest next l bits small long = record {
    pending = pending_start Total Offer Here w.room.count t rest (settle_some w last tied u (length rows) rows l) bits;
    long = long;
    small = omega arith;
  }

  held : (b : ℕ) → Offer b ≡ true → bit (get_or rows u 0) b ≡ true
  held b o = (and_parts (bit (get_or rows u 0) b) (not (tied && (ltb b (get_or last u 0) || eqb b (get_or last u 0) && eqb (u + 1) (length rows)))) o).0

  under : (b : ℕ) → Offer b ≡ true → b < w.room.count
  under b o = left_under w rows lawful left u b (held b o)

  module _ (t₀ t rest : ℕ) (next : List ℕ) (going : Going w last tied u rows t₀ t rest next) where
    -- one turn: the bay b is tried, and the bays of rest' are left
    module _ {b rest' : ℕ} (turn : Turn rest b rest') where
      pub bay_held : bit (get_or rows u 0) b ≡ true
      bay_held = held b (lowest_offered Total Offer Here w.room.count t₀ t rest under going.pending b rest' turn)

      module _ (part : List ℕ) (here : part ≡ after_try w u b rows) (short : length rows ≤ 24) (t' : ℕ) (one : t' ≡ min (t + 1) 4294967295) where
        next_long : length (part ++ post_of 0 (length rows - 0) next) ≡ 24
        next_long = (let g = going.long in front_long next part (length rows) (as_long w last tied u b rows part here lawful) (omega arith)) ∙ going.long

        -- the try left a row empty
        pub going_fails : any_empty part ≡ true → Going w last tied u rows t₀ t' rest' (part ++ post_of 0 (length rows - 0) next)
        going_fails empty =
            let f = try_fails w last tied u b rows part here empty t t' one in
            record {
              pending = pending_past Total Offer Here w.room.count t₀ t rest under going.pending b rest' turn t' f.0 f.1;
              long = next_long;
              small = omega arith;
            }

        module _ (full : any_empty part ≡ false) (r : Result Find ℕ) (deep : Settles (settle_at w last (tied && eqb b (get_or last u 0)) (u + 1) part) t' r) where
          abbrev Deeper : Outcome
          Deeper = settle_at w last (tied && eqb b (get_or last u 0)) (u + 1) part

          -- the walk below found nothing
          pub going_back : (made : ℕ) → r ≡ Err made → Going w last tied u rows t₀ made rest' (part ++ post_of 0 (length rows - 0) next)
          going_back made is =
              let n = none_found Deeper.found (t' + Deeper.tries) made (sym is ∙ deep) in
              let f = try_goes w last tied u b rows part here lawful full t t' made one n.1 in
              record {
                pending = pending_past Total Offer Here w.room.count t₀ t rest under going.pending b rest' turn made (f.0 ∙ n.0) f.1;
                long = next_long;
                small = (let e = n.1 in omega arith);
              }

          -- it found a placement
          pub going_there : (find : Find) → r ≡ Ok find → Settles (settle_at w last tied u rows) t₀ (Ok find)
          going_there find is =
              let there = some_found Deeper.found (t' + Deeper.tries) find (sym is ∙ deep) in
              let f = try_goes w last tied u b rows part here lawful full t t' (told (t' + Deeper.tries)) one refl in
              let a = pending_there Total Offer Here w.room.count t₀ t rest under going.pending b rest' turn (told (t' + Deeper.tries)) (ap is_some f.0 ∙ there) f.1 in
              sym is ∙ deep ∙ told_same Deeper.found (t' + Deeper.tries) (t₀ + Total.tries) a.1 ∙ ap (λ (o : Option (List ℕ)). found_with o (t₀ + Total.tries)) (sym (a.0 ∙ f.0))

    -- every bay has failed
    pub going_end : rest ≡ 0 → Settles (settle_at w last tied u rows) t₀ (Err t)
    going_end z =
        let e = pending_end Total Offer Here w.room.count t₀ t rest under going.pending z (let s = going.small in omega arith) in
        ap Err e.1 ∙ ap (λ (o : Option (List ℕ)). found_with o (t₀ + Total.tries)) (sym e.0)

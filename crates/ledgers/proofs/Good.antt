-- Ledgers that a plan can hold, and that accepted calls keep so. Assumes nothing.
use Rattle.std.proofs.Common.{◌≡◌, ℕ, ◌<◌, ◌≤◌, Bool, true, false, not, ◌&&◌, ◌||◌, eqb, ltb, List, length, get_or, Some, None, Ok, Err, Option, Result, sym, refl, ap, ◌∙◌, subst, ap₂, ⊎_elim, arith}
use Rattle.std.proofs.lemmas.List.{get_or_past}
use Rattle.std.proofs.lemmas.Bool.{cases_lt, le-ltb, ne_eqb}
use Rattle.refusals.specs.declared.Reason.TheVariants as R
use Rattle.graphs.specs.Rows.{Pairs}
use Rattle.placements.specs.Order.{Answers}
use Rattle.search.specs.Walk.{Setting}
use Rattle.tables.specs.Bytes.{Bytes}
use Rattle.tables.specs.Form.{Form}
use Rattle.saved.specs.declared.fault.PlanFault.{PlanFault}
use Rattle.saved.specs.Plan.{read_plan}
use Rattle.ledgers.specs.Calls.{Call, begin, «open», strike, free, fit, fit_further, seek, further, what_if, tally, save}
use Rattle.ledgers.specs.Ledger.{Ledger, Fitting, unfitted, fits, one_pair, accepted, verdict, opened, with_find, newest, narrowed_by, open_pairs, find_in, made}
use Rattle.ledgers.specs.Answered.{Open}
use Rattle.ledgers.specs.Ranged.{Ranged}
use Rattle.ledgers.proofs.Finding.{find_wanted}
use Rattle.ledgers.proofs.Verdicts.{keeps_rule, pair_in, rooms_match, arrangements_match, sizes_in}
use Rattle.ledgers.proofs.Saving.{opened_ranged}

abbrev pub FitsIn : ℕ → ℕ → Fitting → Type 0
FitsIn m n unfitted = Unit {0}
FitsIn m n (fits f) = ((u b : ℕ) → m ≤ u → f u b ≡ false) × ((u b : ℕ) → n ≤ b → f u b ≡ false)

abbrev pub AnswersIn : ℕ → ℕ → Option (List ℕ) → Type 0
AnswersIn m n None = Unit {0}
AnswersIn m n (Some w) = (length w ≤ m) × ((u : ℕ) → get_or w u 0 < n)

pub record Good (l : Ledger) : Type 0 where
  pub ranged : Ranged l.units l.bays l.struck
  pub fitted : FitsIn l.units l.bays l.fitted
  pub last : AnswersIn l.units l.bays l.last

restruck : (l : Ledger) (s : Pairs) → Good l → ((u b : ℕ) → l.units ≤ u → s u b ≡ false) → ((u b : ℕ) → l.bays ≤ b → s u b ≡ false) → Ranged l.units l.bays s
restruck l s g us bs =
    let r = g.ranged in
    record { some_units = r.some_units; few_units = r.few_units; some_bays = r.some_bays; few_bays = r.few_bays; units = us; bays = bs }

off_unit : (u b v c : ℕ) → u < v → one_pair u b v c ≡ false
off_unit u b v c lt = ap (λ t. t && eqb b c) (ne_eqb u v (λ e. omega arith))

off_bay : (u b v c : ℕ) → b < c → one_pair u b v c ≡ false
off_bay u b v c lt = ap (λ t. eqb u v && t) (ne_eqb b c (λ e. omega arith)) ∙ last (eqb u v)
  where
    last : (s : Bool) → (s && false) ≡ false
    last true = refl
    last false = refl

good_find : (l : Ledger) (s : Setting) (o : Option (List ℕ)) → Good l → s.arrangement.count ≡ l.units → s.room.count ≡ l.bays → Good (with_find l (find_in l s o))
good_find l s o g ea er = record { ranged = g.ranged; fitted = g.fitted; last = go (find_in l s o) (find_wanted s (open_pairs l) o l.units l.bays ea er) }
  where
    go : (f : Option (List ℕ)) → Answers (Open l s o) f → AnswersIn l.units l.bays (newest f l.last)
    go None x = g.last
    go (Some w) x =
        let long = x.holds.placed.whole ∙ ea in (
          (let e = long in omega arith),
          λ u. ⊎_elim (λ lt. let b = x.holds.placed.on_bays u (let e = ea in omega arith) in let e = er in omega arith)
              (λ ge. let P : ℕ → Type 0 = λ k. k < l.bays in subst P (sym (get_or_past w u 0 (let e = long in omega arith))) g.ranged.some_bays) (cases_lt u l.units),
        )

good_open : (l : Ledger) (bs : List ℕ) → Bytes bs → (r : Result Form PlanFault) → read_plan bs 0 ≡ r → Good l → Good (opened l r)
good_open l bs b (Err e) k g = g
good_open l bs b (Ok f) k g = record { ranged = (opened_ranged bs f b k).0; fitted = tt; last = tt }

good_narrow : (m n : ℕ) (f : Fitting) (r : Pairs) → FitsIn m n f → FitsIn m n (narrowed_by f r)
good_narrow m n unfitted r x = tt
good_narrow m n (fits f) r x = (λ u b le. ap (λ t. t && r u b) (x.0 u b le), λ u b le. ap (λ t. t && r u b) (x.1 u b le))

-- bytes are bytes
abbrev pub Readable : Call → Type 0
Readable (begin m n) = Unit {0}
Readable («open» bs) = Bytes bs
Readable (strike u b) = Unit {0}
Readable (free u b) = Unit {0}
Readable (fit c) = Unit {0}
Readable (fit_further c) = Unit {0}
Readable (seek s out) = Unit {0}
Readable (further s out) = Unit {0}
Readable (what_if u b s) = Unit {0}
Readable tally = Unit {0}
Readable (save out) = Unit {0}

pub good_made : (l : Ledger) (c : Call) → Good l → Readable c → verdict l c ≡ accepted → Good (made l c)
good_made l (begin m n) g sh v = record { ranged = sizes_in l m n v; fitted = tt; last = tt }
good_made l («open» bs) g sh v = good_open l bs sh (read_plan bs 0) refl g
good_made l (strike u b) g sh v =
    let p = pair_in l u b _ v in
    record {
      ranged = restruck l (λ v c. l.struck v c || one_pair u b v c) g
          (λ w c le. ap₂ (λ x y. x || y) (g.ranged.units w c le) (off_unit u b w c (let h = p.0 in omega arith)))
          (λ w c le. ap₂ (λ x y. x || y) (g.ranged.bays w c le) (off_bay u b w c (let h = p.1 in omega arith)));
      fitted = g.fitted;
      last = g.last;
    }
good_made l (free u b) g sh v =
    record {
      ranged = restruck l (λ v c. l.struck v c && not (one_pair u b v c)) g
          (λ w c le. ap (λ x. x && not (one_pair u b w c)) (g.ranged.units w c le)) (λ w c le. ap (λ x. x && not (one_pair u b w c)) (g.ranged.bays w c le));
      fitted = g.fitted;
      last = g.last;
    }
good_made l (fit k) g sh v =
    record {
      ranged = g.ranged;
      fitted = (
        λ u b le. ap (λ t. (t && ltb b l.bays) && k.suits u b) (le-ltb u l.units le),
        λ u b le. ap (λ t. (ltb u l.units && t) && k.suits u b) (le-ltb b l.bays le) ∙ no_way (ltb u l.units) (k.suits u b),
      );
      last = g.last;
    }
  where
    no_way : (s t : Bool) → ((s && false) && t) ≡ false
    no_way true t = refl
    no_way false t = refl
good_made l (fit_further k) g sh v = record { ranged = g.ranged; fitted = good_narrow l.units l.bays l.fitted k.suits g.fitted; last = g.last }
good_made l (seek s out) g sh v =
    let e = (keeps_rule R.OtherCount _ _ (keeps_rule R.NoFit _ _ v).1).0 in good_find l s None g (arrangements_match l s e) (rooms_match l s e)
good_made l (further s out) g sh v =
    let e = (keeps_rule R.OtherCount _ _ (keeps_rule R.NoFit _ _ v).1).0 in good_find l s l.last g (arrangements_match l s e) (rooms_match l s e)
good_made l (what_if u b s) g sh v = g
good_made l tally g sh v = g
good_made l (save out) g sh v = g

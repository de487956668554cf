-- What seek, further and what-if answer. Assumes nothing.
use Rattle.std.proofs.Common.{◌≡◌, ℕ, ◌-◌, ◌*◌, ◌%◌, ◌^◌, ◌<◌, ◌≤◌, Bool, true, false, cond, not, ◌&&◌, eqb, leb, List, [], ◌++◌, length, get_or, take, drop, set, replicate, Some, None, Ok, Err, Option, Result, IsErrAnd, sym, refl, ap, ◌∙◌, subst, ap₂, inl, inr, ⊎_elim, arith}
use mathlib.Core.Path.{fun_ext}
use mathlib.Core.Bool.{false≢true}
use lib.Bits.{bit_and}
use Rattle.std.proofs.lemmas.List.{get_or-set_same, get_or-set_other, get_or_past, get_or-take, length-take-le}
use Rattle.std.proofs.Math.Seq.{get_or-append_right, take-append_seam}
use Rattle.std.proofs.lemmas.Nat.{one_shl}
use Rattle.std.proofs.lemmas.Result.{err_from_is_err_and}
use Rattle.std.proofs.lemmas.Bool.{cases_eq, cases_lt, cond-false, eq-eqb, ne_eqb, le-ltb, le-leb}
use Rattle.graphs.specs.Rows.{bit, Pairs, pairs, rows_of}
use Rattle.graphs.proofs.Bits.{bit_of_and, bit_one}
use Rattle.graphs.proofs.PairSets.{take_rows, low_by, blank_by, none_past, none_beyond}
use Rattle.placements.specs.Order.{IsFirst, Answers}
use Rattle.placements.proofs.Orders.{answers_like, answers_unique}
use Rattle.filters.specs.Filter.{shaped}
use Rattle.filters.specs.Shapes.{shaped_from}
use Rattle.tables.specs.Shape.{Inside, Blank}
use Rattle.search.specs.declared.Find.{Find}
use Rattle.search.specs.declared.SearchError.{SearchError}
use Rattle.search.specs.declared.SearchError.TheVariants.{IllShaped, NoPlacement}
use Rattle.search.specs.Walk.{Setting, walk}
use Rattle.search.specs.Found.{told, padded, answer_with, answer_of, Sought, SoughtAfter, FindsFirst, FindsNext}
use Rattle.refusals.specs.declared.Reason.TheVariants as R
use Rattle.ledgers.specs.Calls.{Call, seek, further, what_if, rule, Answer, yes, none, found}
use Rattle.ledgers.specs.Wanted.{Wanted, held_to, Fair}
use Rattle.ledgers.specs.Ledger.{no_last, no_fit, Verdict, accepted, declined, unless, outside, other_counts, verdict, made, with_find, newest, open_in, open_pairs, find_in}
use Rattle.ledgers.specs.Answered.{tries_in, Open, Finds, Asks, Answered}
use Rattle.ledgers.proofs.Finding.{find_wanted, wanted_in, wanted_of}
use Rattle.ledgers.proofs.Verdicts.{keeps_rule, pair_in, arrangements_match, rooms_match}
use Rattle.plans.specs.Bounds.{Low, numbers_in}
use Rattle.plans.specs.Refused.{finding, asking}
use Rattle.plans.specs.declared.refusal.Refusal as D
use Rattle.plans.specs.declared.refusal.Refusal.TheVariants as P
use Rattle.plans.specs.Step.{fitting, shortened, view, Same, Step, turn}
use Rattle.plans.specs.declared.plan.Plan.{Plan}
use Rattle.plans.proofs.Steps.{accepted_step, of, same_view, same_self, zeros}

shuffle : (s t e : Bool) → ((s && e) && not t) ≡ ((s && not t) && e)
shuffle true true true = refl
shuffle true true false = refl
shuffle true false true = refl
shuffle true false false = refl
shuffle false t e = refl

-- the open pairs of the narrowed table
narrowed :
    (fitted struck : List ℕ) (u b : ℕ) → u < length fitted
    → (λ v c. pairs (set fitted u (bit_and (get_or fitted u 0) (2 ^ b))) v c && not (pairs struck v c)) ≡ held_to (λ v c. pairs fitted v c && not (pairs struck v c)) u b
narrowed fitted struck u b lt =
    fun_ext (λ v. fun_ext (λ c.
    let x = bit_and (get_or fitted u 0) (2 ^ b) in
    let open_at : ℕ → Bool = λ w. bit (get_or fitted w 0) c && not (pairs struck w c) in
    let Goal : ℕ → Bool → Type 0 = λ w t. (bit (get_or (set fitted u x) w 0) c && not (pairs struck w c)) ≡ cond t (open_at w && eqb b c) (open_at w) in
    ⊎_elim
    (λ e.
    let row : bit (get_or (set fitted u x) u 0) c ≡ (bit (get_or fitted u 0) c && eqb b c) =
    ap (λ y. bit y c) (get_or-set_same fitted u x 0 lt) ∙ bit_of_and (get_or fitted u 0) (2 ^ b) c ∙ ap (λ t. bit (get_or fitted u 0) c && t) (bit_one b c) in
    let at : Goal u true = ap (λ t. t && not (pairs struck u c)) row ∙ shuffle (bit (get_or fitted u 0) c) (pairs struck u c) (eqb b c) in
    let at' : Goal v true = subst (λ w. Goal w true) e at in
    subst (Goal v) (sym (eq-eqb u v e)) at')
    (λ ne.
    let at : Goal v false = ap (λ y. bit y c && not (pairs struck v c)) (get_or-set_other fitted u v x 0 (λ e. ne (sym e))) in
    subst (Goal v) (sym (ne_eqb u v ne)) at) (cases_eq u v)))

-- ---- the rows that a search is handed

-- a part of a table stands for the pairs r of the plan's units and bays
pub record Stands (p : Plan) (part : List ℕ) (r : Pairs) : Type 0 where
  pub long : length part ≡ p.units
  pub rows : part ≡ rows_of p.units p.bays r
  pub pairs_are : pairs part ≡ r
  pub low : Inside p.bays part

stands :
    (p : Plan) (rows : List ℕ) (r : Pairs) → p.units ≤ length rows → ((u b : ℕ) → pairs rows u b ≡ r u b)
    → ((u b : ℕ) → p.units ≤ u → r u b ≡ false) → ((u b : ℕ) → p.bays ≤ b → r u b ≡ false) → Stands p (take p.units rows) r
stands p rows r long is past beyond = record {
  long = length-take-le p.units rows long;
  rows = take_rows p.units p.bays rows long low ∙ ap (rows_of p.units p.bays) all;
  pairs_are = fun_ext (λ u. fun_ext (λ b. ap (λ x. bit x b) (front u))) ∙ all;
  low = λ u. let P : ℕ → Type 0 = λ x. x < 2 ^ p.bays in subst P (sym (front u)) (low u);
}
  where
    all : pairs rows ≡ r
    all = fun_ext (λ u. fun_ext (λ b. is u b))

    low : Inside p.bays rows
    low = low_by p.bays rows (λ u b le. is u b ∙ beyond u b le)

    front : (u : ℕ) → get_or (take p.units rows) u 0 ≡ get_or rows u 0
    front u = ⊎_elim (λ lu. get_or-take p.units rows u 0 lu)
        (λ ge. get_or_past (take p.units rows) u 0 (omega (arith, length-take-le p.units rows long))
        ∙ sym (blank_by p.units rows (λ v b le. is v b ∙ past v b le) u ge)) (cases_lt u p.units)

-- open pairs are of the plan's units and bays
open_past : (p : Plan) (u b : ℕ) → p.units ≤ u → open_pairs (view p) u b ≡ false
open_past p u b le = go p.fitted p.fitted_blank
  where
    go : (o : Option (List ℕ)) → Blank p.units (numbers_in o) → open_in (fitting o) (pairs p.struck) u b ≡ false
    go None blank = refl
    go (Some rows) blank = ap (λ t. t && not (pairs p.struck u b)) (none_past p.units rows blank u b le)

open_beyond : (p : Plan) (u b : ℕ) → p.bays ≤ b → open_pairs (view p) u b ≡ false
open_beyond p u b le = go p.fitted p.fitted_inside
  where
    go : (o : Option (List ℕ)) → Inside p.bays (numbers_in o) → open_in (fitting o) (pairs p.struck) u b ≡ false
    go None low = refl
    go (Some rows) low = ap (λ t. t && not (pairs p.struck u b)) (none_beyond p.bays rows low u b le)

-- the fitted pairs that are not struck are the open ones
pub open_is :
    (p : Plan) (fitted rows : List ℕ) → p.fitted ≡ Some fitted → ((u b : ℕ) → pairs rows u b ≡ (pairs fitted u b && not (pairs p.struck u b)))
    → (u b : ℕ) → pairs rows u b ≡ open_pairs (view p) u b
open_is p fitted rows was is u b = is u b ∙ sym (ap (λ o. open_in (fitting o) (pairs p.struck) u b) was)

held_none : (r : Pairs) (u b v c : ℕ) → r v c ≡ false → held_to r u b v c ≡ false
held_none r u b v c e = ap (λ t. cond (eqb u v) (t && eqb b c) t) e ∙ both (eqb u v)
  where
    both : (t : Bool) → cond t false false ≡ false
    both true = refl
    both false = refl

-- ---- what the search answers of these rows

-- a setting with the plan's counts, and the rows of some pairs: what a search needs
pub record Ready (p : Plan) (s : Setting) (part : List ℕ) (r : Pairs) : Type 0 where
  pub stands : Stands p part r
  pub units : s.arrangement.count ≡ p.units
  pub bays : s.room.count ≡ p.bays

pub shape : (p : Plan) (s : Setting) (part : List ℕ) (r : Pairs) → Ready p s part r → shaped s.arrangement s.room part ≡ true
shape p s part r y =
    sym (shaped_from s.arrangement s.room part (y.stands.long ∙ sym y.units) (let e = y.units in let f = p.few_units in omega arith)
    (λ u lt. let P : ℕ → Type 0 = λ n. get_or part u 0 < 2 ^ n in subst P (sym y.bays) (y.stands.low u)))

-- the last answer beside a search, or none
abbrev pub Looked : Setting → List ℕ → Option (List ℕ) → List ℕ → Type 0
Looked s part None = Sought s.arrangement s.room s.strict part
Looked s part (Some last) = SoughtAfter s.arrangement s.room s.strict part last

to_wanted : (s : Setting) (part : List ℕ) (o : Option (List ℕ)) (w : List ℕ) → Looked s part o w → Wanted s (pairs part) o w
to_wanted s part None w h = record { placed = h.0; within = h.1; after = tt }
to_wanted s part (Some last) w h = record { placed = h.0; within = h.1; after = h.2 }

from_wanted : (s : Setting) (part : List ℕ) (o : Option (List ℕ)) (w : List ℕ) → Wanted s (pairs part) o w → Looked s part o w
from_wanted s part None w h = (h.placed, h.within)
from_wanted s part (Some last) w h = (h.placed, h.within, h.after)

padded_blank : (w : List ℕ) → Blank (length w) (padded w)
padded_blank w u le = get_or-append_right w (replicate (24 - length w) 0) u 0 le ∙ zeros (24 - length w) (u - length w)

-- what is read off a find: the first wanted placement, with zeros behind it, and the tries
pub record Got (p : Plan) (s : Setting) (r : Pairs) (o : Option (List ℕ)) (x : List ℕ) (t : ℕ) : Type 0 where
  pub first : IsFirst (Wanted s r o) (take p.units x)
  pub tries : t ≡ tries_in (view p) s r o
  pub low : Low p.bays x
  pub blank : Blank p.units x

find_low :
    (p : Plan) (s : Setting) (r : Pairs) (o : Option (List ℕ)) → s.arrangement.count ≡ p.units → s.room.count ≡ p.bays → (x : List ℕ)
    → IsFirst (Wanted s r o) (take p.units x) → Blank p.units x → Low p.bays x
find_low p s r o ea er x first z u =
    let P : ℕ → Type 0 = λ k. k < p.bays in
    ⊎_elim
    (λ lt. subst P (get_or-take p.units x u 0 lt) (let b = first.holds.placed.on_bays u (let e = ea in omega arith) in let e = er in omega arith))
    (λ ge. subst P (sym (z u ge)) p.some_bays) (cases_lt u p.units)

-- or that there is none, after so many tries
abbrev pub Lost : Plan → Setting → Pairs → Option (List ℕ) → ℕ → Type 0
Lost p s r o t = ((w : List ℕ) → Wanted s r o w → ⊥) × (t ≡ tries_in (view p) s r o)

-- what a search came to
abbrev pub Came : Plan → Setting → Pairs → Option (List ℕ) → Result Find SearchError → Type 0
Came p s r o (Ok find) = Got p s r o find.bays find.tries
Came p s r o (Err (NoPlacement t)) = Lost p s r o t
Came p s r o (Err IllShaped) = ⊥

pub not_ill : (p : Plan) (s : Setting) (r : Pairs) (o : Option (List ℕ)) (x : Result Find SearchError) → Came p s r o x → x ≡ Err IllShaped → ⊥
not_ill p s r o x k e = subst (Came p s r o) e k

pub got : (p : Plan) (s : Setting) (r : Pairs) (o : Option (List ℕ)) (x : Result Find SearchError) (find : Find) → Came p s r o x → x ≡ Ok find → Got p s r o find.bays find.tries
got p s r o x find k e = subst (Came p s r o) e k

came :
    (p : Plan) (s : Setting) (part : List ℕ) (r : Pairs) (o : Option (List ℕ)) (ok : Bool) (x : Result Find SearchError) → Ready p s part r → ok ≡ true
    → Answers (Looked s part o) (walk s o part).found → x ≡ answer_of ok (walk s o part) → Came p s r o x
came p s part r o ok x y is answers e =
    subst (Came p s r o) (sym (e ∙ ap (λ t. answer_of t (walk s o part)) is)) (go (walk s o part).found answers)
  where
    tries_are : told (walk s o part).tries ≡ tries_in (view p) s r o
    tries_are = ap (λ rows. told (walk s o rows).tries) y.stands.rows

    go : (f : Option (List ℕ)) → Answers (Looked s part o) f → Came p s r o (answer_with f (walk s o part).tries)
    go None a = (λ w q. a w (from_wanted s part o w (subst (λ x. Wanted s x o w) (sym y.stands.pairs_are) q)), tries_are)
    go (Some w) a =
        let first =
        subst (λ q. IsFirst (Wanted s q o) w) y.stands.pairs_are
        (answers_like (Looked s part o) (Wanted s (pairs part) o) (to_wanted s part o) (from_wanted s part o) (Some w) a) in
        let long : length w ≡ p.units = first.holds.placed.whole ∙ y.units in
        let top : take p.units (padded w) ≡ w = ap (λ k. take k (padded w)) (sym long) ∙ take-append_seam w (replicate (24 - length w) 0) in
        let blank : Blank p.units (padded w) = subst (λ k. Blank k (padded w)) long (padded_blank w) in
        let here : IsFirst (Wanted s r o) (take p.units (padded w)) = subst (IsFirst (Wanted s r o)) (sym top) first in
        record { first = here; tries = tries_are; low = find_low p s r o y.units y.bays (padded w) here blank; blank = blank }

pub first_came :
    (p : Plan) (s : Setting) (part : List ℕ) (r : Pairs) (x : Result Find SearchError) → Ready p s part r → Fair s → FindsFirst
    → x ≡ answer_of (shaped s.arrangement s.room part) (walk s None part) → Came p s r None x
first_came p s part r x y fair finds e = let is = shape p s part r y in came p s part r None _ x y is (finds s part fair.filter fair.arrangement fair.room is) e

pub next_came :
    (p : Plan) (s : Setting) (part : List ℕ) (r : Pairs) (last : List ℕ) (x : Result Find SearchError) → Ready p s part r → Fair s → FindsNext
    → p.units ≤ length last → p.last ≡ Some last
    → x ≡ answer_of (shaped s.arrangement s.room part && leb (length part) (length last)) (walk s (Some (take (length part) last)) part)
    → Came p s r (shortened p.units p.last) x
next_came p s part r last x y fair finds long was e =
    let is = shape p s part r y in
    let before = take (length part) last in
    let at : Some before ≡ shortened p.units p.last = ap (λ k. Some (take k last)) y.stands.long ∙ sym (ap (shortened p.units) was) in
    subst (λ o. Came p s r o x) at
    (came p s part r (Some before) _ x y (ap₂ (λ x z. x && z) is (le-leb (length part) (length last) (let e = y.stands.long in omega arith)))
    (finds s part before fair.filter fair.arrangement fair.room is) e)

-- ---- the rows that seek, further and what-if hand to the search are ready

-- the sources have the plan's counts
abbrev pub SameCounts : Plan → Setting → Type 0
SameCounts p s = (v : Verdict) → unless R.OtherCount (other_counts (view p) s) v ≡ v

-- and it has a fit
abbrev pub Starts : Plan → Setting → Type 0
Starts p s = (v : Verdict) → unless R.NoFit (no_fit (view p).fitted) (unless R.OtherCount (other_counts (view p) s) v) ≡ v

same_counts : (p : Plan) (s : Setting) → Starts p s → SameCounts p s
same_counts p s e v = sym (ap (λ t. cond t (declined (rule R.NoFit)) (unless R.OtherCount (other_counts (view p) s) v)) (keeps_rule R.NoFit _ _ (e accepted)).0) ∙ e v

ready : (p : Plan) (s : Setting) (part : List ℕ) (r : Pairs) → SameCounts p s → Stands p part r → Ready p s part r
ready p s part r e stands =
    let k = (keeps_rule R.OtherCount _ _ (e accepted)).0 in
    record { stands = stands; units = arrangements_match (view p) s k; bays = rooms_match (view p) s k }

pub open_ready :
    (p : Plan) (s : Setting) (rows : List ℕ) → p.units ≤ length rows → Starts p s → ((u b : ℕ) → pairs rows u b ≡ open_pairs (view p) u b)
    → Ready p s (take p.units rows) (open_pairs (view p))
open_ready p s rows long e is = ready p s _ _ (same_counts p s e) (stands p rows (open_pairs (view p)) long is (open_past p) (open_beyond p))

pub held_ready :
    (p : Plan) (s : Setting) (fitted rows : List ℕ) (u b : ℕ) → p.units ≤ length rows → u < length fitted → b < p.bays → p.fitted ≡ Some fitted → SameCounts p s
    → ((v c : ℕ) → pairs rows v c ≡ (pairs (set fitted u (bit_and (get_or fitted u 0) ((1 * 2 ^ b) % 18446744073709551616))) v c && not (pairs p.struck v c)))
    → Ready p s (take p.units rows) (held_to (open_pairs (view p)) u b)
held_ready p s fitted rows u b long lt lb was e is =
    let one = one_shl b 64 (let f = p.few_bays in omega arith) in
    let all : (λ v c. pairs (set fitted u (bit_and (get_or fitted u 0) ((1 * 2 ^ b) % 18446744073709551616))) v c && not (pairs p.struck v c)) ≡ held_to (open_pairs (view p)) u b =
    ap (λ y. (λ (v c : ℕ). pairs (set fitted u (bit_and (get_or fitted u 0) y)) v c && not (pairs p.struck v c))) one ∙ narrowed fitted p.struck u b lt
    ∙ ap (λ y. held_to (open_in (fitting y) (pairs p.struck)) u b) (sym was) in
    ready p s _ _ e
    (stands p rows (held_to (open_pairs (view p)) u b) long (λ v c. is v c ∙ ap (λ f. f v c) all)
    (λ v c le. held_none (open_pairs (view p)) u b v c (open_past p v c le)) (λ v c le. held_none (open_pairs (view p)) u b v c (open_beyond p v c le)))

-- ---- a search of the open pairs after o, by a call c that is accepted

pub record Looks (p : Plan) (s : Setting) (o : Option (List ℕ)) (out : List ℕ) (c : Call) (x : Result Find SearchError) : Type 0 where
  pub accepts : verdict (view p) c ≡ accepted
  pub makes : made (view p) c ≡ with_find (view p) (find_in (view p) s o)
  pub answers : (a : Answer) (b : List ℕ) → Finds (view p) s o out a b → Answered (view p) c a b
  pub counts : SameCounts p s
  pub came : Came p s (open_pairs (view p)) o x

module _
    (p : Plan) (s : Setting) (rows out : List ℕ) (x : Result Find SearchError) (fair : Fair s) (starts : Starts p s) (is : (u b : ℕ) → pairs rows u b ≡ open_pairs (view p) u b)
    (long : p.units ≤ length rows) (fits : p.units ≤ length out) where
  pub seek_looks : FindsFirst → x ≡ answer_of (shaped s.arrangement s.room (take p.units rows)) (walk s None (take p.units rows)) → Looks p s None out (seek s out) x
  seek_looks finds e = record {
    accepts = starts _ ∙ cond-false _ _ _ (le-ltb (length out) p.units fits);
    makes = refl;
    answers = λ a b f. f;
    counts = same_counts p s starts;
    came = first_came p s (take p.units rows) (open_pairs (view p)) x (open_ready p s rows long starts is) fair finds e;
  }

  pub further_looks :
      (last : List ℕ) → p.last ≡ Some last → p.units ≤ length last → FindsNext
      → x ≡ answer_of (shaped s.arrangement s.room (take p.units rows) && leb (length (take p.units rows)) (length last)) (walk s (Some (take (length (take p.units rows)) last)) (take p.units rows))
      → Looks p s (shortened p.units p.last) out (further s out) x
  further_looks last was far finds e = record {
    accepts = starts _ ∙ cond-false _ _ _ (ap (λ o. no_last (shortened p.units o)) was) ∙ cond-false _ _ _ (le-ltb (length out) p.units fits);
    makes = refl;
    answers = λ a b f. f;
    counts = same_counts p s starts;
    came = next_came p s (take p.units rows) (open_pairs (view p)) last x (open_ready p s rows long starts is) fair finds far was e;
  }

module _ (p : Plan) (s : Setting) (o : Option (List ℕ)) (out : List ℕ) (c : Call) (x : Result Find SearchError) (look : Looks p s o out c x) where
  finding_is : (f : Option (List ℕ)) → Answers (Open (view p) s o) f → find_in (view p) s o ≡ f
  finding_is f a =
      let k = (keeps_rule R.OtherCount _ _ (look.counts accepted)).0 in
      answers_unique (Open (view p) s o) (find_in (view p) s o) f
      (find_wanted s (open_pairs (view p)) o p.units p.bays (arrangements_match (view p) s k) (rooms_match (view p) s k)) a

  pub shaped_well : x ≡ Err IllShaped → ⊥
  shaped_well = not_ill p s (open_pairs (view p)) o x look.came

  pub found_got : (find : Find) → x ≡ Ok find → Got p s (open_pairs (view p)) o find.bays find.tries
  found_got find is = got p s (open_pairs (view p)) o x find look.came is

  pub found_step :
      (q : Plan) (find : Find) (front : List ℕ) → x ≡ Ok find → q.units ≡ p.units → q.bays ≡ p.bays → q.struck ≡ p.struck → q.fitted ≡ p.fitted → q.last ≡ Some find.bays
      → front ≡ take p.units find.bays → Step p (turn c (found find.tries) (front ++ drop p.units out)) q
  found_step q find front is eu eb es ef el copied =
      let first = found_got find is in
      let w = take p.units find.bays in
      let k = (keeps_rule R.OtherCount _ _ (look.counts accepted)).0 in
      let last : shortened q.units q.last ≡ newest (find_in (view p) s o) (shortened p.units p.last) =
      ap₂ shortened eu el ∙ sym (ap (λ z. newest z (shortened p.units p.last)) (finding_is (Some w) first.first)) in
      accepted_step p q c (found find.tries) _ look.accepts
      ((λ i. of (eu i) (eb i) (pairs (es i)) (fitting (ef i)) (last i)) ∙ sym look.makes)
      (look.answers (found find.tries) _
      (inl (w, first.first, ap found first.tries, ap₂ (λ x k. x ++ drop k out) copied (sym (first.first.holds.placed.whole ∙ arrangements_match (view p) s k)))))
      (λ e. absurd (false≢true e))

  pub lost_step :
      (e : D.Refusal) (r : Result ℕ D.Refusal) → (t : ℕ) × (e ≡ P.NoPlacement t) × (x ≡ Err (NoPlacement t)) → IsErrAnd r (λ y. y ≡ e) → Step p (turn c (finding r) out) p
  lost_step e r (t, et, is) re =
      let lost : Lost p s (open_pairs (view p)) o t = subst (Came p s (open_pairs (view p)) o) is look.came in
      let y = err_from_is_err_and r re in
      accepted_step p p c (finding r) out look.accepts
      (sym (ap (with_find (view p)) (finding_is None lost.0)) ∙ sym look.makes)
      (look.answers (finding r) out (inr (lost.0, ap finding (y.1 ∙ ap Err (y.2 ∙ et)) ∙ ap none lost.1, refl))) (λ _. same_self p)

-- ---- a what-if: the search of the narrowed table says whether some placement has the pair

module _
    (p q : Plan) (s : Setting) (fitted : List ℕ) (u b : ℕ) (inside : (v : Verdict) → unless R.OutOfRange (outside (view p) u b) v ≡ v) (was : p.fitted ≡ Some fitted)
    (counts : SameCounts p s) (same : Same q p) where
  asked : (a : Answer) → Asks (view p) s u b a → Step p (turn (what_if u b s) a []) q
  asked a asks =
      accepted_step p q (what_if u b s) a []
      (inside _ ∙ ap (λ o. unless R.NoFit (no_fit (fitting o)) (unless R.OtherCount (other_counts (view p) s) accepted)) was ∙ counts accepted)
      (same_view p q same) (asks, refl) (λ _. same)

  pub asked_yes : (x : Result Find SearchError) (find : Find) → Came p s (held_to (open_pairs (view p)) u b) None x → x ≡ Ok find → Step p (turn (what_if u b s) (yes find.tries) []) q
  asked_yes x find came is =
      let first = got p s (held_to (open_pairs (view p)) u b) None x find came is in
      let k = arrangements_match (view p) s (keeps_rule R.OtherCount _ _ (counts accepted)).0 in
      let hu = (pair_in (view p) u b _ (inside accepted)).0 in
      let both = wanted_in s (open_pairs (view p)) u b (take p.units find.bays) (omega (arith, k, hu)) first.first.holds in
      asked (yes find.tries) (inl ((take p.units find.bays, both.0, both.1), ap yes first.tries))

  pub asked_none :
      (x : Result Find SearchError) (e : D.Refusal) (r : Result ℕ D.Refusal) → Came p s (held_to (open_pairs (view p)) u b) None x
      → (t : ℕ) × (e ≡ P.NoPlacement t) × (x ≡ Err (NoPlacement t)) → IsErrAnd r (λ y. y ≡ e) → Step p (turn (what_if u b s) (asking r) []) q
  asked_none x e r came (t, et, is) re =
      let lost : Lost p s (held_to (open_pairs (view p)) u b) None t = subst (Came p s (held_to (open_pairs (view p)) u b) None) is came in
      let y = err_from_is_err_and r re in
      asked (asking r)
      (inr (λ h. lost.0 h.0 (wanted_of s (open_pairs (view p)) u b h.0 h.1 h.2), ap asking (y.1 ∙ ap Err (y.2 ∙ et)) ∙ ap none lost.1))

-- What is worked out is right. Assumes nothing.
use Rattle.std.proofs.Common.{◌≡◌, ℕ, ◌<◌, List, [], Some, None, Option, refl, inl, inr, arith}
use Rattle.refusals.specs.declared.Reason.TheVariants as R
use Rattle.placements.specs.Order.{Answers}
use Rattle.placements.specs.Listing.{find}
use Rattle.search.specs.Walk.{Setting}
use Rattle.ledgers.specs.Calls.{Call, begin, «open», strike, free, fit, fit_further, seek, further, what_if, tally, save, refused, buffer_of}
use Rattle.ledgers.specs.Wanted.{Wanted, wanted, held_to}
use Rattle.ledgers.specs.Ledger.{Ledger, open_pairs, Verdict, accepted, declined, verdict, find_in}
use Rattle.ledgers.specs.Answered.{tries_in, Open, Finds, Asks, Answered, Judged}
use Rattle.ledgers.proofs.Finding.{find_wanted, wanted_in, wanted_of}
use Rattle.ledgers.proofs.Verdicts.{keeps_rule, pair_in, arrangements_match, rooms_match}
use Rattle.rooms.specs.Telling.{by_find, by_ask, accepted_tells, by, TellsRight}

finds : (l : Ledger) (s : Setting) (o f : Option (List ℕ)) (out : List ℕ) → Answers (Open l s o) f
    → Finds l s o out (by_find f (tries_in l s (open_pairs l) o) out).answer (by_find f (tries_in l s (open_pairs l) o) out).buffer
finds l s o None out a = inr (a, refl, refl)
finds l s o (Some w) out a = inl (w, a, refl, refl)

asks : (l : Ledger) (s : Setting) (u b : ℕ) (f : Option (List ℕ)) → u < s.arrangement.count → Answers (Wanted s (held_to (open_pairs l) u b) None) f
    → Asks l s u b (by_ask f (tries_in l s (held_to (open_pairs l) u b) None)).answer × ((by_ask f (tries_in l s (held_to (open_pairs l) u b) None)).buffer ≡ [])
asks l s u b None lt a = (inr (λ h. a h.0 (wanted_of s (open_pairs l) u b h.0 h.1 h.2), refl), refl)
asks l s u b (Some w) lt a = let k = wanted_in s (open_pairs l) u b w lt a.holds in (inl ((w, k.0, k.1), refl), refl)

accepted_right : (l : Ledger) (c : Call) → verdict l c ≡ accepted → Answered l c (accepted_tells l c).answer (accepted_tells l c).buffer
accepted_right l (begin m n) v = (refl, refl)
accepted_right l («open» bs) v = (refl, refl)
accepted_right l (strike u b) v = (refl, refl)
accepted_right l (free u b) v = (refl, refl)
accepted_right l (fit k) v = (refl, refl)
accepted_right l (fit_further k) v = (refl, refl)
accepted_right l (seek s out) v =
    let e = (keeps_rule R.OtherCount _ _ (keeps_rule R.NoFit _ _ v).1).0 in
    finds l s None (find_in l s None) out (find_wanted s (open_pairs l) None l.units l.bays (arrangements_match l s e) (rooms_match l s e))
accepted_right l (further s out) v =
    let e = (keeps_rule R.OtherCount _ _ (keeps_rule R.NoFit _ _ v).1).0 in
    finds l s l.last (find_in l s l.last) out (find_wanted s (open_pairs l) l.last l.units l.bays (arrangements_match l s e) (rooms_match l s e))
accepted_right l (what_if u b s) v =
    let i = pair_in l u b _ v in
    let e = (keeps_rule R.OtherCount _ _ (keeps_rule R.NoFit _ _ i.2).1).0 in
    asks l s u b (find l.units l.bays (wanted s (held_to (open_pairs l) u b) None)) (let m = arrangements_match l s e in let h = i.0 in omega arith)
    (find_wanted s (held_to (open_pairs l) u b) None l.units l.bays (arrangements_match l s e) (rooms_match l s e))
accepted_right l tally v = (refl, refl)
accepted_right l (save out) v = (refl, refl)

pub tells_right : TellsRight
tells_right l c = go (verdict l c) refl
  where
    go : (v : Verdict) → verdict l c ≡ v
        → Judged v (λ e. ((by v c (accepted_tells l c)).answer ≡ refused e) × ((by v c (accepted_tells l c)).buffer ≡ buffer_of c)) (Answered l c (by v c (accepted_tells l c)).answer (by v c (accepted_tells l c)).buffer)
    go accepted e = accepted_right l c e
    go (declined x) e = (refl, refl)

-- No call has two right answers. Assumes nothing.
use Rattle.std.proofs.Common.{◌≡◌, ℕ, List, [], None, Option, sym, ap, ◌∙◌, inl, inr}
use Rattle.placements.proofs.Orders.{first_unique}
use Rattle.search.specs.Walk.{Setting}
use Rattle.ledgers.specs.Calls.{Call, begin, «open», strike, free, fit, fit_further, seek, further, what_if, tally, save, Answer, done, refused, buffer_of}
use Rattle.ledgers.specs.Ledger.{Ledger, Verdict, accepted, declined, verdict}
use Rattle.ledgers.specs.Answered.{over, Open, Finds, Asks, Answered, Judged, Right}

abbrev pub Equal : Answer → List ℕ → Answer → List ℕ → Type 0
Equal a b a' b' = (a ≡ a') × (b ≡ b')

both : (a a' z : Answer) (b b' y : List ℕ) → (a ≡ z) × (b ≡ y) → (a' ≡ z) × (b' ≡ y) → Equal a b a' b'
both a a' z b b' y p q = (p.0 ∙ sym q.0, p.1 ∙ sym q.1)

one_find : (l : Ledger) (s : Setting) (o : Option (List ℕ)) (out : List ℕ) (a a' : Answer) (b b' : List ℕ) → Finds l s o out a b → Finds l s o out a' b' → Equal a b a' b'
one_find l s o out a a' b b' (inl (w, f, e, eb)) (inl (v, g, e', eb')) =
    (e ∙ sym e', eb ∙ ap (λ x. over x out) (first_unique (Open l s o) w v f g) ∙ sym eb')
one_find l s o out a a' b b' (inl (w, f, e, eb)) (inr (all, e', eb')) = absurd (all w f.holds)
one_find l s o out a a' b b' (inr (all, e, eb)) (inl (v, g, e', eb')) = absurd (all v g.holds)
one_find l s o out a a' b b' (inr (all, e, eb)) (inr (all', e', eb')) = (e ∙ sym e', eb ∙ sym eb')

one_ask : (l : Ledger) (s : Setting) (u v : ℕ) (a a' : Answer) → Asks l s u v a → Asks l s u v a' → a ≡ a'
one_ask l s u v a a' (inl r) (inl q) = r.1 ∙ sym q.1
one_ask l s u v a a' (inl r) (inr q) = absurd (q.0 r.0)
one_ask l s u v a a' (inr r) (inl q) = absurd (r.0 q.0)
one_ask l s u v a a' (inr r) (inr q) = r.1 ∙ sym q.1

one_answer : (l : Ledger) (c : Call) (a a' : Answer) (b b' : List ℕ) → Answered l c a b → Answered l c a' b' → Equal a b a' b'
one_answer l (begin m n) a a' b b' r q = both a a' done b b' [] r q
one_answer l («open» bs) a a' b b' r q = both a a' done b b' [] r q
one_answer l (strike u x) a a' b b' r q = both a a' done b b' [] r q
one_answer l (free u x) a a' b b' r q = both a a' done b b' [] r q
one_answer l (fit x) a a' b b' r q = both a a' done b b' [] r q
one_answer l (fit_further x) a a' b b' r q = both a a' done b b' [] r q
one_answer l (seek s out) a a' b b' r q = one_find l s None out a a' b b' r q
one_answer l (further s out) a a' b b' r q = one_find l s l.last out a a' b b' r q
one_answer l (what_if u v s) a a' b b' r q = (one_ask l s u v a a' r.0 q.0, r.1 ∙ sym q.1)
one_answer l tally a a' b b' r q = (r.0 ∙ sym q.0, r.1 ∙ sym q.1)
one_answer l (save out) a a' b b' r q = (r.0 ∙ sym q.0, r.1 ∙ sym q.1)

one_judged : (l : Ledger) (c : Call) (v : Verdict) (a a' : Answer) (b b' : List ℕ)
    → Judged v (λ e. (a ≡ refused e) × (b ≡ buffer_of c)) (Answered l c a b) → Judged v (λ e. (a' ≡ refused e) × (b' ≡ buffer_of c)) (Answered l c a' b') → Equal a b a' b'
one_judged l c accepted a a' b b' r q = one_answer l c a a' b b' r q
one_judged l c (declined e) a a' b b' r q = both a a' (refused e) b b' (buffer_of c) r q

pub one_right : (l : Ledger) (c : Call) (a a' : Answer) (b b' : List ℕ) → Right l c a b → Right l c a' b' → Equal a b a' b'
one_right l c a a' b b' r q = one_judged l c (verdict l c) a a' b b' r q

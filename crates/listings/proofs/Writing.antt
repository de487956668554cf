-- Texts written one behind the other, and how long lines are. Assumes nothing.
use Rattle.std.proofs.Common.{◌≡◌, ℕ, zero, suc, ◌+◌, ◌*◌, ◌<◌, ◌≤◌, Bool, true, false, cond, eqb, ltb, List, [], ◌∷◌, ◌++◌, length, get_or, take, Some, None, codes, decimal, Option, sym, refl, ap, ap₂, ◌∙◌, subst, append_assoc, append-nil, arith, length-append}
use Rattle.std.proofs.lemmas.Fmt.{length-decimal-le}
use Rattle.std.proofs.lemmas.List.{length-take-le, take-take, take_more}
use Rattle.std.proofs.lemmas.Bool.{cond-false, ne_eqb}
use Rattle.text.specs.Lay.{lay}
use Rattle.text.specs.declared.Text.{Text}
use Rattle.text.specs.Put.{Put, Wrote}
use Rattle.text.proofs.Lay.{lay_append, lay_nil, length_lay}
use Rattle.listings.specs.Text.{blank_led, spaced, line, lines, listing_text, Writes, numbered}

pub wrote_nothing : (t : Text) → Wrote [] t t
wrote_nothing t = record { place = omega arith; after = sym (lay_nil t.out.now t.len); same = refl }

module _ {a : List ℕ} {t m : Text} (f : Wrote a t m) where
  long : length m.out.now ≡ length t.out.now
  long = ap length f.after ∙ length_lay t.out.now t.len a

  pub then_wrote : {b : List ℕ} {t' : Text} → Wrote b m t' → Wrote (a ++ b) t t'
  then_wrote {b} {t'} g =
      record {
        place = omega (arith, f.place, g.place, length-append a b);
        after = g.after ∙ ap₂ (λ o n. lay o n b) f.after f.place ∙ sym (lay_append t.out.now t.len a b);
        same = g.same ∙ f.same;
      }

  pub then : {b : List ℕ} {t' : Text} (r : Option (Unit {0})) → Writes b m t' r → Writes (a ++ b) t t' r
  then {b} (Some u) g = record { cases = then_wrote g.cases }
  then {b} None g = record { cases = (omega (arith, f.place, g.cases.0, long, length-append a b), g.cases.1 ∙ f.same) }

-- where a text does not fit, a longer one doesn't either
pub unfit : {a b : List ℕ} {t t' : Text} → length a ≤ length b → Writes a t t' None → Writes b t t' None
unfit h f = record { cases = (omega (arith, f.cases.0, h), f.cases.1) }

pub longer : {a : List ℕ} (b : List ℕ) {t t' : Text} → Writes a t t' None → Writes (a ++ b) t t' None
longer {a} b f = unfit (omega (arith, length-append a b)) f

pub put_writes : {a : List ℕ} {t t' : Text} (r : Option (Unit {0})) → Put a t t' r → Writes a t t' r
put_writes (Some u) p = record { cases = p.cases.1 }
put_writes None p = record { cases = (p.cases.0, p.cases.1.same) }

pub writes_same : {a b : List ℕ} {t t' : Text} {r : Option (Unit {0})} → a ≡ b → Writes a t t' r → Writes b t t' r
writes_same {a} {b} {t} {t'} {r} e w = subst (λ (x : List ℕ). Writes x t t' r) e w

-- ---- lines

blank_led_push : (w : List ℕ) (b : ℕ) → blank_led (w ++ b ∷ []) ≡ blank_led w ++ (32 ∷ decimal b)
blank_led_push [] b = ap (λ t. 32 ∷ t) (append-nil (decimal b))
blank_led_push (x ∷ w) b = ap (λ t. 32 ∷ (decimal x ++ t)) (blank_led_push w b) ∙ ap (λ t. 32 ∷ t) (sym (append_assoc (decimal x) (blank_led w) (32 ∷ decimal b)))

numbered_later : (u b : ℕ) → (u ≡ 0 → ⊥) → numbered u b ≡ 32 ∷ decimal b
numbered_later u b ne = cond-false (eqb u 0) _ _ (ne_eqb u 0 ne)

spaced_push : (w : List ℕ) (b : ℕ) → spaced (w ++ b ∷ []) ≡ spaced w ++ numbered (length w) b
spaced_push [] b = append-nil (decimal b)
spaced_push (x ∷ w) b = ap (λ t. decimal x ++ t) (blank_led_push w b) ∙ sym (append_assoc (decimal x) (blank_led w) (32 ∷ decimal b))
    ∙ ap (λ t. (decimal x ++ blank_led w) ++ t) (sym (numbered_later (suc (length w)) b (λ e. omega arith)))

-- one bay more of a line
pub spaced_more : (w : List ℕ) (u : ℕ) → u < length w → spaced (take (u + 1) w) ≡ spaced (take u w) ++ numbered u (get_or w u 0)
spaced_more w u h =
    let long : length (take u w) ≡ u = length-take-le u w (omega arith) in
    ap spaced (take_more w u 0 h) ∙ spaced_push (take u w) (get_or w u 0) ∙ ap (λ i. spaced (take u w) ++ numbered i (get_or w u 0)) long

two_digits : (b : ℕ) → b < 100 → length (decimal b) ≤ 2
two_digits b h = length-decimal-le 2 b (omega arith) (omega arith) (omega arith)

blank_led_short : (w : List ℕ) → ((u : ℕ) → get_or w u 0 < 100) → length (blank_led w) ≤ 3 * length w
blank_led_short [] h = omega arith
blank_led_short (b ∷ w) h = omega (arith, two_digits b (h 0), length-append (decimal b) (blank_led w), blank_led_short w (λ u. h (suc u)))

spaced_short : (w : List ℕ) → ((u : ℕ) → get_or w u 0 < 100) → length (spaced w) ≤ 3 * length w
spaced_short [] h = omega arith
spaced_short (b ∷ w) h = omega (arith, two_digits b (h 0), length-append (decimal b) (blank_led w), blank_led_short w (λ u. h (suc u)))

blank_led_front : (k : ℕ) (w : List ℕ) → length (blank_led (take k w)) ≤ length (blank_led w)
blank_led_front zero w = omega arith
blank_led_front (suc k) [] = omega arith
blank_led_front (suc k) (b ∷ w) = omega (arith, length-append (decimal b) (blank_led (take k w)), length-append (decimal b) (blank_led w), blank_led_front k w)

-- a line is no shorter than its first bays
pub line_front : (k : ℕ) (w : List ℕ) → length (spaced (take k w)) ≤ length (line w)
line_front zero w = omega arith
line_front (suc k) [] = omega arith
line_front (suc k) (b ∷ w) =
    omega (arith, length-append (spaced (b ∷ w)) (10 ∷ []), length-append (decimal b) (blank_led (take k w)), length-append (decimal b) (blank_led w), blank_led_front k w)

pub line_short : (w : List ℕ) → ((u : ℕ) → get_or w u 0 < 100) → length w ≤ 24 → length (line w) ≤ 73
line_short w h few = omega (arith, length-append (spaced w) (10 ∷ []), spaced_short w h)

lines_push : (ws : List (List ℕ)) (w : List ℕ) → lines (ws ++ w ∷ []) ≡ lines ws ++ line w
lines_push [] w = append-nil (line w)
lines_push (v ∷ ws) w = ap (λ t. line v ++ t) (lines_push ws w) ∙ sym (append_assoc (line v) (lines ws) (line w))

-- one line more
pub lines_more : (ws : List (List ℕ)) (k : ℕ) → k < length ws → lines (take (k + 1) ws) ≡ lines (take k ws) ++ line (get_or ws k [])
lines_more ws k h = ap lines (take_more ws k [] h) ∙ lines_push (take k ws) (get_or ws k [])

lines_short : (ws : List (List ℕ)) (k : ℕ) → ((i : ℕ) → i < length ws → length (line (get_or ws i [])) ≤ 73) → length (lines (take k ws)) ≤ 73 * k
lines_short ws zero h = omega arith
lines_short [] (suc k) h = omega arith
lines_short (w ∷ ws) (suc k) h = omega (arith, length-append (line w) (lines (take k ws)), h 0 (omega arith), lines_short ws k (λ i l. h (suc i) (omega arith)))

lines_front : (k : ℕ) (ws : List (List ℕ)) → length (lines (take k ws)) ≤ length (lines ws)
lines_front zero ws = omega arith
lines_front (suc k) [] = omega arith
lines_front (suc k) (w ∷ ws) = omega (arith, length-append (line w) (lines (take k ws)), length-append (line w) (lines ws), lines_front k ws)

last_short : (b : Bool) → length (cond b (codes "more\n") (codes "end\n")) ≤ 5
last_short true = omega arith
last_short false = omega arith

-- the first lines of a listing are no longer than all of it, the last line too
pub listing_front : (ws : List (List ℕ)) (k : ℕ) → k ≤ 20 → length (lines (take k ws)) ≤ length (listing_text ws)
listing_front ws k h = omega (arith, lines_front k (take 20 ws), ap (λ t. length (lines t)) (take-take k 20 ws h), length-append (lines (take 20 ws)) (cond (ltb 20 (length ws)) (codes "more\n") (codes "end\n")))

pub listing_length : (ws : List (List ℕ)) → ((i : ℕ) → i < length ws → length (line (get_or ws i [])) ≤ 73) → length (listing_text ws) ≤ 1536
listing_length ws h = omega (arith, lines_short ws 20 h, last_short (ltb 20 (length ws)), length-append (lines (take 20 ws)) (cond (ltb 20 (length ws)) (codes "more\n") (codes "end\n")))

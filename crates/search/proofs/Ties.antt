-- The last answer, which is there only while all earlier bays equal its bays. Assumes nothing.
use Rattle.std.proofs.Common.{◌≡◌, ℕ, zero, suc, ◌+◌, ◌-◌, Bool, true, false, ◌&&◌, eqb, List, [], length, get_or, ◌≤◌, Some, None, Option, Result, is_some, unwrap_or, option_map, option_copied, MatchOption, IfSome, Bor, refl, ap, ◌∙◌, arith, inl, inr}
use Rattle.std.specs.Bool.{then_some}
use mathlib.Core.Path.{fun_ext}
use Rattle.std.proofs.lemmas.Bool.{cases_Bool}
use Rattle.std.proofs.lemmas.Bool.Decides.{nat_tests}
use Rattle.search.specs.declared.Find.{Find}
use Rattle.search.specs.Found.{found_with}
use Rattle.search.proofs.Going.{Settles, settle_at}
use Rattle.search.specs.Walk.{Setting, Outcome, any_empty, after_try, offered, nothing, counted, scan, settle, settle_after}

-- where it is not tied, a walk does not read the last answer
settle_unread : (w : Setting) (l l' : List ℕ) (later u : ℕ) (rows : List ℕ) → settle w l later false u rows ≡ settle w l' later false u rows
unfolding settle
settle_unread w l l' zero u rows = refl
settle_unread w l l' (suc later) u rows =
    ap (λ (here : ℕ → Outcome). scan (offered (get_or rows u 0) false 0 false) here 0 w.room.count)
    (fun_ext (λ b. ap (λ (o : Outcome). elim (any_empty (after_try w u b rows)) as (λ _. Outcome) [ true ↦ nothing 1 | false ↦ counted o ])
    (settle_unread w l l' later (suc u) (after_try w u b rows))))

-- the bay that bounds those of unit u
pub bound_is : (last : Option (Bor (List ℕ))) (bound : Option ℕ) (row u : ℕ) (final : Bool) (b : ℕ) → bound ≡ option_map (λ l. get_or l.now u 0) last
    → offered row (is_some bound) (unwrap_or bound 0) final b ≡ offered row (is_some (option_copied last)) (get_or (unwrap_or (option_copied last) []) u 0) final b
bound_is (Some l) bound row u final b e = ap (λ (o : Option ℕ). offered row (is_some o) (unwrap_or o 0) final b) e
bound_is None bound row u final b e = ap (λ (o : Option ℕ). offered row (is_some o) (unwrap_or o 0) final b) e

-- the last answer that is handed down once unit u has the bay b
abbrev pub Handed : Option (Bor (List ℕ)) → ℕ → ℕ → Option (Bor (List ℕ)) → Type 0
Handed last u b same = MatchOption last (same ≡ None) (λ l. same ≡ then_some (eqb (get_or l.now u 0) b) l)

pub handed_long : (last same : Option (Bor (List ℕ))) (u b m : ℕ) → Handed last u b same → IfSome last (λ l. m ≤ length l.now) → IfSome same (λ l. m ≤ length l.now)
handed_long None same u b m e h = rw e tt
handed_long (Some l) same u b m e h =
    elim (cases_Bool (eqb (get_or l.now u 0) b)) [
      | inl t ↦ rw (e, t) h
      | inr f ↦ rw (e, f) tt
    ]

handed_walk : (last same : Option (Bor (List ℕ))) (u b : ℕ) → Handed last u b same → (w : Setting) (later v : ℕ) (rows : List ℕ)
    → settle_after w (option_copied same) later v rows
    ≡ settle w (unwrap_or (option_copied last) []) later (is_some (option_copied last) && eqb b (get_or (unwrap_or (option_copied last) []) u 0)) v rows
handed_walk None same u b e w later v rows = ap (λ (o : Option (Bor (List ℕ))). settle_after w (option_copied o) later v rows) e
handed_walk (Some l) same u b e w later v rows =
    ap (λ (o : Option (Bor (List ℕ))). settle_after w (option_copied o) later v rows) e
    ∙ go (eqb (get_or l.now u 0) b)
    ∙ ap (λ (t : Bool). settle w l.now later t v rows) (let z : eqb (get_or l.now u 0) b ≡ eqb b (get_or l.now u 0) = grind (arith, nat_tests) in z)
  where
    go : (t : Bool) → settle_after w (option_copied (then_some t l)) later v rows ≡ settle w l.now later t v rows
    go true = refl
    go false = settle_unread w [] l.now later v rows

-- what was answered of the walk with that answer
pub settled_down : (last same : Option (Bor (List ℕ))) (u b : ℕ) → Handed last u b same → (w : Setting) (part : List ℕ) (t : ℕ) (r : Result Find ℕ)
    → Settles (settle_after w (option_copied same) (length part - (u + 1)) (u + 1) part) t r
    → Settles (settle_at w (unwrap_or (option_copied last) []) (is_some (option_copied last) && eqb b (get_or (unwrap_or (option_copied last) []) u 0)) (u + 1) part) t r
settled_down last same u b h w part t r e = e ∙ ap (λ (o : Outcome). found_with o.found (t + o.tries)) (handed_walk last same u b h w (length part - (u + 1)) (u + 1) part)

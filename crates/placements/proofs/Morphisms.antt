-- Placements are monomorphisms, and strict ones isomorphisms onto induced subgraphs. Assumes nothing.
use Rattle.std.proofs.Common.{◌≡◌, ℕ, zero, suc, ◌<◌, Bool, true, false, not, ◌&&◌, ◌||◌, eqb, List, length, get_or, sym, refl, ap, ◌∙◌, subst, ap₂, inl, inr, arith}
use Rattle.std.proofs.lemmas.Bool.{cases_eq, cases_Bool, and_parts, and_from, both_ways, eq-eqb, ne_eqb, eqb-true, eqb-false, not-true, not_from_false, or_cases, or_left, or_right}
use Rattle.graphs.specs.Graph.{Graph, Sound, Symmetric}
use Rattle.placements.specs.Agreement.{half, agrees}
use Rattle.placements.specs.Placement.{Placement}
use Rattle.placements.specs.Morphisms.{Mono, Induced, AgreeOnce, AgreementOnce, OpenIsMono, StrictIsInduced}

-- ---- one direction of a joint

pub half_joins : (strict units bays : Bool) → half strict units bays ≡ true → units ≡ true → bays ≡ true
half_joins strict true bays h e = h
half_joins strict false bays h e = absurd (both_ways false refl e)

pub half_parts : (strict units bays : Bool) → half strict units bays ≡ true → strict ≡ true → units ≡ false → bays ≡ false
half_parts true false bays h e f = not-true bays h
half_parts true true bays h e f = absurd (both_ways true f refl)
half_parts false units bays h e f = absurd (both_ways false refl e)

pub half_from : (strict units bays : Bool) → (units ≡ true → bays ≡ true) → (strict ≡ true → units ≡ false → bays ≡ false) → half strict units bays ≡ true
half_from strict true bays j p = j refl
half_from false false bays j p = refl
half_from true false bays j p = not_from_false bays (p refl refl)

-- ---- agreement

-- what agreement says of two pairs, whatever the graphs
module _ (a r : Graph) (strict : Bool) (u b v c : ℕ) (h : agrees a r strict u b v c ≡ true) where
  out_back : (half strict (a.joined u v) (r.joined b c) ≡ true) × (half strict (a.joined v u) (r.joined c b) ≡ true)
  out_back = and_parts (half strict (a.joined u v) (r.joined b c)) (half strict (a.joined v u) (r.joined c b)) (and_parts (not (eqb b c)) (half strict (a.joined u v) (r.joined b c) && half strict (a.joined v u) (r.joined c b)) h).1

  pub agree_differ : b ≡ c → ⊥
  agree_differ = eqb-false b c (not-true (eqb b c) (and_parts (not (eqb b c)) (half strict (a.joined u v) (r.joined b c) && half strict (a.joined v u) (r.joined c b)) h).0)

  pub agree_joins : a.joined u v ≡ true → r.joined b c ≡ true
  agree_joins = half_joins strict (a.joined u v) (r.joined b c) out_back.0

  pub agree_parts : strict ≡ true → a.joined u v ≡ false → r.joined b c ≡ false
  agree_parts = half_parts strict (a.joined u v) (r.joined b c) out_back.0

pub agree_from : (a r : Graph) → Symmetric a → Symmetric r → (strict : Bool) (u b v c : ℕ) → AgreeOnce a r strict u b v c → agrees a r strict u b v c ≡ true
agree_from a r sa sr strict u b v c h =
    and_from (not (eqb b c)) (half strict (a.joined u v) (r.joined b c) && half strict (a.joined v u) (r.joined c b))
    (not_from_false (eqb b c) (ne_eqb b c h.differ))
    (and_from (half strict (a.joined u v) (r.joined b c)) (half strict (a.joined v u) (r.joined c b)) out
    (ap₂ (half strict) (sa.both v u) (sr.both c b) ∙ out))
  where
    out : half strict (a.joined u v) (r.joined b c) ≡ true
    out = half_from strict (a.joined u v) (r.joined b c) h.joins h.parts

pub agreement_once : AgreementOnce
agreement_once a r sa sr strict u b v c = (
  λ h. record { differ = agree_differ a r strict u b v c h; joins = agree_joins a r strict u b v c h; parts = agree_parts a r strict u b v c h },
  agree_from a r sa sr strict u b v c,
)

-- ---- placements

module _ (a r : Graph) (strict : Bool) (w : List ℕ) (p : Placement a r strict w) where
  pub placement_injective : (u v : ℕ) → u < a.count → v < a.count → get_or w u 0 ≡ get_or w v 0 → u ≡ v
  placement_injective u v lu lv e =
      elim (cases_eq u v) [ inl z ↦ z | inr ne ↦ absurd (agree_differ a r strict u (get_or w u 0) v (get_or w v 0) (p.agree u v lu lv ne) e) ]

  -- the two units of a joint are different, so their bays agree
  pub placement_joins : Sound a → (u v : ℕ) → u < a.count → v < a.count → a.joined u v ≡ true → r.joined (get_or w u 0) (get_or w v 0) ≡ true
  placement_joins sa u v lu lv e =
      agree_joins a r strict u (get_or w u 0) v (get_or w v 0)
      (p.agree u v lu lv (λ z. both_ways (a.joined u v) (ap (a.joined u) (sym z) ∙ sa.irreflexive u) e)) e

  pub placement_mono : Sound a → Mono a r (λ u. get_or w u 0)
  placement_mono sa = record { into = p.on_bays; injective = placement_injective; keeps = placement_joins sa }

placement_from : (a r : Graph) → Symmetric a → Symmetric r → (strict : Bool) (w : List ℕ) → length w ≡ a.count → Mono a r (λ u. get_or w u 0)
    → ((u v : ℕ) → u < a.count → v < a.count → strict ≡ true → a.joined u v ≡ false → r.joined (get_or w u 0) (get_or w v 0) ≡ false) → Placement a r strict w
placement_from a r sa sr strict w long f parts = record {
  whole = long;
  on_bays = f.into;
  agree = λ u v lu lv ne. agree_from a r sa sr strict u (get_or w u 0) v (get_or w v 0)
      (record { differ = λ e. ne (f.injective u v lu lv e); joins = f.keeps u v lu lv; parts = parts u v lu lv });
}

pub open_is_mono : OpenIsMono
open_is_mono a r sa sr ya yr w long = (
  λ p. placement_mono a r false w p sa,
  λ f. placement_from a r ya yr false w long f (λ u v lu lv e. absurd (both_ways false refl e)),
)

-- the image of the numbers below k
image : ℕ → (ℕ → ℕ) → ℕ → Bool
image zero f b = false
image (suc k) f b = eqb (f k) b || image k f b

image_of : (k : ℕ) (f : ℕ → ℕ) (u : ℕ) → u < k → image k f (f u) ≡ true
unfolding image
image_of zero f u l = absurd (omega arith)
image_of (suc k) f u l =
    elim (cases_eq k u) [
      | inl e ↦ or_left (eqb (f k) (f u)) (image k f (f u)) (eq-eqb (f k) (f u) (ap f e))
      | inr ne ↦ or_right (eqb (f k) (f u)) (image k f (f u)) (image_of k f u (omega (arith, ne)))
    ]

image_in : (k : ℕ) (f : ℕ → ℕ) (b : ℕ) → image k f b ≡ true → (u : ℕ) × (u < k) × (f u ≡ b)
unfolding image
image_in zero f b h = absurd (both_ways false refl h)
image_in (suc k) f b h =
    elim (or_cases (eqb (f k) b) (image k f b) h) [
      | inl e ↦ (k, omega arith, eqb-true (f k) b e)
      | inr i ↦ let z = image_in k f b i in (z.0, omega (arith, z.1), z.2)
    ]

both_in : (s t x : Bool) → s ≡ true → t ≡ true → x ≡ ((s && t) && x)
both_in s t x e f = sym (ap₂ (λ (y z : Bool). (y && z) && x) e f)

module _ (a r : Graph) (w : List ℕ) (sa : Sound a) (sr : Sound r) (p : Placement a r true w) where
  same_joints : (u v : ℕ) → u < a.count → v < a.count → a.joined u v ≡ r.joined (get_or w u 0) (get_or w v 0)
  same_joints u v lu lv =
      elim (cases_eq u v) [
        | inl e ↦ ap (a.joined u) (sym e) ∙ sa.irreflexive u ∙ sym (ap (λ x. r.joined (get_or w u 0) (get_or w x 0)) (sym e) ∙ sr.irreflexive (get_or w u 0))
        | inr ne ↦ elim (cases_Bool (a.joined u v)) [
          | inl t ↦ t ∙ sym (placement_joins a r true w p sa u v lu lv t)
          | inr f ↦ f ∙ sym (agree_parts a r true u (get_or w u 0) v (get_or w v 0) (p.agree u v lu lv ne) refl f)
        ]
      ]

  placement_induced : Induced a r (λ u. get_or w u 0)
  placement_induced = record {
    nodes = image a.count (λ u. get_or w u 0);
    of_room = λ b h. let z = image_in a.count (λ u. get_or w u 0) b h in subst (λ x. x < r.count) z.2 (p.on_bays z.0 z.1);
    into = image_of a.count (λ u. get_or w u 0);
    injective = placement_injective a r true w p;
    onto = image_in a.count (λ u. get_or w u 0);
    same = λ u v lu lv. same_joints u v lu lv
        ∙ both_in _ _ (r.joined (get_or w u 0) (get_or w v 0)) (image_of a.count (λ u. get_or w u 0) u lu) (image_of a.count (λ u. get_or w u 0) v lv);
  }

module _ (a r : Graph) (f : ℕ → ℕ) (i : Induced a r f) (u v : ℕ) (lu : u < a.count) (lv : v < a.count) where
  induced_same : a.joined u v ≡ r.joined (f u) (f v)
  induced_same = i.same u v lu lv ∙ sym (both_in _ _ (r.joined (f u) (f v)) (i.into u lu) (i.into v lv))

pub strict_is_induced : StrictIsInduced
strict_is_induced a r sa sr ya yr w long = (
  placement_induced a r w sa sr,
  λ i. placement_from a r ya yr true w long
      (record {
        into = λ u lu. i.of_room (get_or w u 0) (i.into u lu);
        injective = i.injective;
        keeps = λ u v lu lv e. sym (induced_same a r (λ u. get_or w u 0) i u v lu lv) ∙ e;
      })
      (λ u v lu lv s e. sym (induced_same a r (λ u. get_or w u 0) i u v lu lv) ∙ e),
)

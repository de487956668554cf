-- The text of a job's bytes is one, and short. Assumes nothing.
use Rattle.std.proofs.Common.{◌≡◌, ℕ, zero, suc, ◌+◌, ◌/◌, ◌%◌, ◌≤◌, true, false, cond, eqb, List, [], ◌∷◌, ◌++◌, length, codes, decimal, Ok, Err, Result, MatchResult, sym, refl, ap, ◌∙◌, subst, arith, length-append}
use Rattle.std.specs.Fmt.{digits, digits_onto, digit_glyph}
use Rattle.placements.proofs.Orders.{lists_unique}
use Rattle.refusals.specs.declared.Told.{Told}
use Rattle.refusals.specs.Numbers.{number_of, layer_of}
use Rattle.jobs.specs.declared.fault.JobFault.{JobFault}
use Rattle.jobs.specs.Form.{JobForm}
use Rattle.jobs.specs.Read.{read_job}
use Rattle.jobs.specs.Told.{job_told}
use Rattle.listings.specs.Suited.{Suited}
use Rattle.listings.specs.Text.{listing_text, refusal_text}
use Rattle.listings.specs.JobText.{Listed, JobText, OneText}

-- the text of what the reader answers
abbrev TextOf : Result JobForm JobFault → List ℕ → Type 0
TextOf r text = MatchResult r (λ j. Listed j text) (λ e. text ≡ refusal_text (job_told e))

one : (r : Result JobForm JobFault) (s t : List ℕ) → TextOf r s → TextOf r t → s ≡ t
one (Ok j) s t f g = f.is ∙ ap listing_text (lists_unique (Suited j) f.all g.all f.lists g.lists) ∙ sym g.is
one (Err e) s t f g = f ∙ sym g

pub one_text : OneText
one_text input s t f g = one (read_job input) s t f g

module _ (input : List ℕ) where
  pub text_listed : (j : JobForm) (text : List ℕ) → Ok j ≡ read_job input → Listed j text → JobText input text
  text_listed j text e l = subst (λ (r : Result JobForm JobFault). TextOf r text) e l

  pub text_refused : (e : JobFault) → Err e ≡ read_job input → JobText input (refusal_text (job_told e))
  text_refused e r = subst (λ (x : Result JobForm JobFault). TextOf x (refusal_text (job_told e))) r refl

-- ---- a refusal is short: std writes no number in more than 64 digits

digits_few : (k n : ℕ) (acc : List ℕ) → length (digits_onto k 10 false n acc) ≤ k + length acc
digits_few zero n acc = omega arith
digits_few (suc k) n acc =
    elim (eqb (n / 10) 0) as (λ b. length (cond b (digit_glyph false (n % 10) ∷ acc) (digits_onto k 10 false (n / 10) (digit_glyph false (n % 10) ∷ acc))) ≤ suc k + length acc) [
      | true ↦ omega arith
      | false ↦ omega (arith, digits_few k (n / 10) (digit_glyph false (n % 10) ∷ acc))
    ]

decimal_few : (n : ℕ) → length (decimal n) ≤ 64
unfolding digits
decimal_few n = digits_few 64 n []

pub refusal_short : (t : Told) → length (refusal_text t) ≤ 1536
refusal_short t =
    let n = number_of t.reason in
    let last = decimal t.place ++ (10 ∷ []) in
    let rest = decimal (layer_of t.layer) ++ (32 ∷ last) in
    omega (
      arith,
      decimal_few n,
      decimal_few (layer_of t.layer),
      decimal_few t.place,
      length-append (codes "refused ") (decimal n ++ (32 ∷ rest)),
      length-append (decimal n) (32 ∷ rest),
      length-append (decimal (layer_of t.layer)) (32 ∷ last),
      length-append (decimal t.place) (10 ∷ []),
    )
